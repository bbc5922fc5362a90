-- Two chunks are taken a turn, one after the other.
use Rattle.std.proofs.Common.{ℕ, ◌*◌, ◌+◌, List, subst, arith, refl, ◌∙◌, bit_or}
use lib.Lanes.{fold_l}
use Rattle.vob_block.specs.Kernel.{Takes}
use Rattle.vob_block.proofs.KernelLemmas.{Takes-none, Takes-more}
use Rattle.vob_block.proofs.lanes.combine_turns.Goals as goal

pub loop-i-init : goal.loop-i-init
loop-i-init g c = record {
  taken = Takes-none 64 g.C.Combine.of_bits c.args.other.now.items c.args.own.now 0 0;
  items = refl;
  reads = omega arith;
}

pub loop-i-preserved : goal.loop-i-preserved
loop-i-preserved g c =
    let f = g.C.Combine.of_bits in
    let h = c.loop-i in
    let olds = c.args.own.now in
    let others = c.args.other.now.items in
    let at = 16 * h.i in
    let first = c.combine_chunk-changed in
    let second = c.combine_chunk-changed-in-loop-i in
    let before = fold_l bit_or 0 h.changed in
    let between = fold_l bit_or 0 first.result in
    let later = fold_l bit_or 0 second.result in
    let same = first.ensures.items ∙ h.invariant.items in
    let one = Takes-more 64 f others olds h.own first.new.own 0 at 8 at 0 before between h.invariant.taken
    (omega arith)
    (subst (λ (xs : List ℕ). Takes 64 f xs h.own first.new.own at 8 before between)
    h.invariant.items first.ensures.taken) in
    let two = Takes-more 64 f others olds first.new.own second.new.own 0 (at + 8) 8 (at + 8) 0 between later
    one (omega arith)
    (subst (λ (xs : List ℕ). Takes 64 f xs first.new.own second.new.own (at + 8) 8 between later) same
    second.ensures.taken) in
    record {
      taken = subst (λ (m : ℕ). Takes 64 f others olds second.new.own 0 m 0 later) (omega arith) two;
      items = second.ensures.items ∙ same;
      reads = omega (arith, first.ensures.reads, second.ensures.reads, h.invariant.reads);
    }

pub returns : goal.returns
returns g c = record {
  taken = subst (λ (m : ℕ). Takes 64 g.C.Combine.of_bits c.args.other.now.items c.args.own.now
      c.loop-i.own 0 m 0 (fold_l bit_or 0 c.loop-i.changed)) (omega (arith, c.loop-i.auto.i-end))
      c.loop-i.invariant.taken;
  items = c.loop-i.invariant.items;
  reads = omega (arith, c.loop-i.invariant.reads, c.loop-i.auto.i-end);
}
