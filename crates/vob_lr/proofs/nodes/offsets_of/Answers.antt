-- One set more.
use Rattle.std.proofs.Common.{◌≡◌, ◌+◌, ◌<◌, ◌∙◌, ℕ, Global, Vec, [], ap, arith, length, sym}
use Rattle.std.proofs.lemmas.List.{get_or-map, length-map}
use Rattle.vob_flow.specs.Lists.{lists_of}
use Rattle.vob_lr.specs.Nodes.{members_of}
use Rattle.vob_lr.proofs.NodeLemmas.{AreOffsets-push, members_more}
use Rattle.vob_lr.proofs.nodes.offsets_of.Goals as goal

pub loop-state-preserved : goal.loop-state-preserved
loop-state-preserved c =
    let sets = c.args.sets.now in
    let k = c.loop-state.state in
    let row = c.index-sets-state.result in
    let less : k < length sets = omega arith in
    let more = members_more (lists_of sets) k (omega (arith, less, length-map sets (λ v. v.items))) in
    let items = get_or-map (λ (v : Vec ℕ Global). v.items) sets k row [] less
    ∙ ap (λ (v : Vec ℕ Global). v.items) (sym c.index-sets-state.is) in
    let sum : c.in-Some.sum ≡ members_of (lists_of sets) (k + 1) =
    omega (arith, more, ap length items, c.in-Some.ensures, c.len.ensures, c.loop-state.invariant.total) in
    record {
      offsets = rw c.in_ok-push-2.ensures.items
          (AreOffsets-push (lists_of sets) k _ _ c.loop-state.invariant.offsets sum);
      total = sum;
    }
