-- The walk gives the next place, whose column is appended.
use Rattle.std.proofs.Common.{◌≡◌, ◌+◌, ℕ, List, ◌≤◌, ap, length, map, ◌∙◌, refl, sym, arith}
use Rattle.vob_block.specs.Packing.{need, unpacking}
use Rattle.std.below.core.specs.declared.int.usize.TheConstants as usize
use Rattle.vob_rows.specs.Sparse.{members}
use Rattle.vob_rows.proofs.SparseLemmas.{all_next, appended_all, appended_more, appended_none}
use Rattle.vob_rows.proofs.sparse.push_members.Goals as goal

abbrev block_bits : ℕ → List ℕ → List ℕ
block_bits from blocks = map (◌+◌ from) (members (unpacking 64 (map (λ x. x) blocks) 64))

one_block : need 64 64 ≡ 1
unfolding need
one_block = refl

pub over-place-items-requires : goal.over-place-items-requires
over-place-items-requires c = ap length c.new.ensures.items ∙ sym one_block

pub loop-place-init : goal.loop-place-init
loop-place-init c = record {
  can_next = tt;
  is_finite = tt;
  pushed = appended_none _ _ _ (sym (ap (λ walk. map (◌+◌ c.args.from) walk.rest)
      c.into_iter-place-iterator.ensures.into_iter_gives
      ∙ ap (map (◌+◌ c.args.from)) (c.over-place-items.ensures.whole tt).rest
      ∙ ap (λ blocks. block_bits c.args.from blocks) c.new.ensures.items));
}

pub overflow_add-from : goal.overflow_add-from
overflow_add-from c =
    let small = all_next (λ column. column ≤ usize.MAX) (ap (map (◌+◌ c.args.from)) c.in-Some.ensures.steps.gives)
    c.loop-place.invariant.pushed c.requires in
    omega (arith, small)

pub loop-place-preserved : goal.loop-place-preserved
loop-place-preserved c = record {
  can_next = tt;
  is_finite = tt;
  pushed = rw c.in_ok-push.ensures.items (appended_more _ _ _ _ _ _
      (ap (map (◌+◌ c.args.from)) c.in-Some.ensures.steps.gives) c.loop-place.invariant.pushed);
}

pub returns : goal.returns
returns c = appended_all _ _ _ _ (ap (map (◌+◌ c.args.from)) c.in-None.ensures.steps.gives.0)
    c.loop-place.invariant.pushed
