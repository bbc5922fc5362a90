-- The iterator gives the bits in order, so none is refused for a length past the greatest one.
use Rattle.std.proofs.Common.{◌≡◌, ◌-◌, ◌^◌, ◌≤◌, length, Err, refl, arith}
use Rattle.std.proofs.lemmas.Bool.{le-ltb}
use Rattle.std.proofs.lemmas.Iterator.{YieldsList-from_slice}
use Rattle.std.proofs.lemmas.Iterator.Consumers.{YieldsList-at, YieldsList-from_copied}
use Rattle.vob.specs.declared.error.VobError.TheVariants.{TooLong}
use Rattle.vob_run.specs.Call.{FromItems}
use Rattle.vob_run.proofs.ItemsLemmas.{all_taken_if, none_more}
use Rattle.vob_run.proofs.MakeLemmas.{Makes, added_step}
use Rattle.vob_run.proofs.calls.make_usize.from_items.Goals as goal

pub returns : goal.returns
returns c =
    let items = c.args.vobs.now.items in
    let bits = c.args.bits.now in
    let result = c.from_iter.result in
    let taken = c.from_iter.ensures in
    let slice = YieldsList-from_slice bits c.iter.ensures.rest in
    let source = YieldsList-from_copied (YieldsList-at c.copied.ensures.source slice) in
    let short : length bits ≤ 2 ^ 64 - 1 = omega (arith, c.iter.ensures.bound) in
    let not_long : result ≡ Err TooLong → ⊥ = λ e.
    let long = taken.refused.too_long e in
    let more = long.2 in
    let road = YieldsList-at long.1 source in
    omega (arith, short, more.3, none_more _ long.0 bits road more.0 more.1 more.2) in
    let makes : Makes 64 items (FromItems bits) bits =
    record { is = rw (le-ltb (2 ^ 64 - 1) (length bits) short) refl; takes = tt } in
    let all = all_taken_if _ _ bits (λ it gives. YieldsList-at gives source) result taken.bits in
    added_step makes result _ c.added.new.vobs.items (not_long, taken.refused.past_end) all c.added.ensures.ok
    c.added.ensures.err
