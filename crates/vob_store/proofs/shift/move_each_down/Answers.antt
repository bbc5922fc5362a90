-- Each block is made of the two that hold its bits, which are still as they were.
use Rattle.std.proofs.Common.{◌+◌, ◌∙◌, refl, map, zero-mul, arith}
use Rattle.std.proofs.lemmas.List.{length-map, map-set, get_or-set_other}
use Rattle.vob_store.proofs.BuildLemmas.{number_indexed}
use Rattle.vob_store.proofs.CopyLemmas.{AreCopied-nothing, AreCopied-moved_down}
use Rattle.vob_store.proofs.shift.move_each_down.Goals as goal

pub loop-k-init : goal.loop-k-init
loop-k-init g c = record {
  moved = AreCopied-nothing _ _ _ _ _ (zero-mul g.T.BitBlock.BITS);
  rest = λ i _. refl;
}

pub loop-k-preserved : goal.loop-k-preserved
loop-k-preserved g c =
    let number = g.T.BitBlock.number in
    let h = c.loop-k.invariant in
    let own = c.loop-k.own in
    let k = c.loop-k.k in
    let first = c.args.first in
    let from = c.args.from in
    let low = number_indexed number own (from + k) _ (omega arith) c.index-own-from.is
    ∙ h.rest (from + k) (omega (arith, c.requires.order)) in
    let high = number_indexed number own (from + k + 1) _ (omega arith)
    c.index-own-from-in-loop-k.is ∙ h.rest (from + k + 1) (omega (arith, c.requires.order)) in
    record {
      moved = rw map-set (AreCopied-moved_down _ g.met.T.BitBlock.wide_law _ _ first from
          c.args.places k _ _ _ c.requires.below (omega (arith, length-map own number)) low high
          c.funnel_down.ensures.places h.moved);
      rest = rw map-set (λ i above. get_or-set_other (map number own) (first + k) i _ 0
          (λ e. absurd (omega arith)) ∙ h.rest i (omega arith));
    }
