-- Each byte is that of its eight bits.
use Rattle.std.proofs.Common.{◌*◌, ◌∙◌, length, arith}
use Rattle.std.proofs.lemmas.List.{length-set}
use Rattle.vob_block.proofs.NeedLemmas.{need_enough, need_least}
use Rattle.vob_c.proofs.BytesLemmas.{bytes_inside, stored_more, stored_all}
use Rattle.vob_c.proofs.bytes.store_bytes.Goals as goal

-- words enough for the bytes
pub store_words-first-requires : goal.store_words-first-requires
store_words-first-requires c = omega (
  arith,
  c.requires.bytes,
  need_least 8 (omega arith) c.args.bits (8 * length c.args.words.now) (omega (
    arith,
    c.requires.canonical.count,
    need_enough 64 (omega arith) c.args.bits,
  )),
)

pub low_byte-requires : goal.low_byte-requires
low_byte-requires c = bytes_inside c.args.bits c.loop-k.k c.args.words.now c.requires.canonical.count
    (omega (arith, c.loop-k-test.true, c.requires.bytes))

pub loop-k-init : goal.loop-k-init
loop-k-init c = record {
  long = c.store_words-first.ensures.long;
  each = c.store_words-first.ensures.each;
}

pub loop-k-preserved : goal.loop-k-preserved
loop-k-preserved c =
    let h = c.loop-k.invariant in record {
      long = length-set c.loop-k.bytes c.loop-k.k c.turned.result ∙ h.long;
      each = stored_more c.args.most_first c.args.words.now c.loop-k.bytes c.loop-k.k
          c.low_byte.result c.turned.result c.low_byte.ensures c.turned.ensures
          (omega (arith, c.loop-k-test.true, h.long)) h.each;
    }

pub returns : goal.returns
returns c = stored_all c.args.most_first c.args.bits c.args.words.now c.loop-k.bytes
    c.requires.canonical (c.loop-k.invariant.long ∙ c.requires.bytes)
    (λ i less. c.loop-k.invariant.each i (omega (
      arith,
      less,
      c.loop-k.invariant.long,
      c.loop-k.auto.k-end,
    )))
