-- Each block is made of the two that hold its bits, which are still as they were.
use Rattle.std.proofs.Common.{◌≡◌, ◌+◌, ◌-◌, ◌∙◌, refl, map, zero-mul, arith}
use Rattle.std.proofs.lemmas.List.{length-map, map-set, get_or-set_other}
use Rattle.vob_store.proofs.BuildLemmas.{number_indexed}
use Rattle.vob_store.proofs.CopyLemmas.{AreCopied-nothing, AreCopied-moved_up}
use Rattle.vob_store.proofs.shift.move_each_up.Goals as goal

pub loop-done-init : goal.loop-done-init
loop-done-init g c = record {
  moved = AreCopied-nothing _ _ _ _ _ (zero-mul g.T.BitBlock.BITS);
  rest = λ i _. refl;
}

pub loop-done-preserved : goal.loop-done-preserved
loop-done-preserved g c =
    let number = g.T.BitBlock.number in
    let h = c.loop-done.invariant in
    let own = c.loop-done.own in
    let done = c.loop-done.done in
    let k = c.args.count - 1 - done in
    let first = c.args.first in
    let from = c.args.from in
    let next : c.args.count - done ≡ k + 1 = omega arith in
    let left : c.args.count - (done + 1) ≡ k = omega arith in
    let low = number_indexed number own (from + k) _ (omega arith) c.index-own-from.is
    ∙ h.rest (from + k) (omega (arith, c.requires.order)) in
    let high = number_indexed number own (from + k + 1) _ (omega arith)
    c.index-own-from-in-loop-done.is ∙ h.rest (from + k + 1) (omega (arith, c.requires.order)) in
    record {
      moved = rw (map-set, left) (AreCopied-moved_up _ g.met.T.BitBlock.wide_law _ _ first from
          c.args.places k _ _ _ c.requires.below (omega (arith, length-map own number)) low high
          c.funnel_down.ensures.places done (rw next at h.moved));
      rest = rw map-set (λ i above. get_or-set_other (map number own) (first + k) i _ 0
          (λ e. absurd (omega arith)) ∙ h.rest i (omega arith));
    }
