-- One more byte is exchanged.
use Rattle.std.proofs.Common.{◌≡◌, ◌<◌, arith, length}
use Rattle.files_filter.specs.Exchanged.{exchange}
use Rattle.files_filter.proofs.ExchangedLemmas.{less_left, more_exchanged}
use Rattle.files_filter.proofs.exchanged.exchange_all.Goals as goal

pub loop-byte-preserved : goal.loop-byte-preserved
loop-byte-preserved c =
    let now = c.loop-byte.text in
    let same : length now ≡ length c.args.text.now = c.loop-byte.auto.text in
    let less : c.loop-byte.byte-index < length now = omega (arith, c.loop-byte-test.true, same) in
    let f = exchange c.args.delimiter in
    let so = c.loop-byte.invariant in (
      more_exchanged f now c.args.text.now c.loop-byte.byte-index c.exchange.result less same so.0 so.1 c.exchange.ensures,
      less_left f now c.args.text.now c.loop-byte.byte-index c.exchange.result less same so.0 so.1 c.exchange.ensures,
    )
