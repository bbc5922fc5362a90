-- The walk gives the next member of the set.
use Rattle.std.proofs.Common.{◌∙◌, ◌∷◌, ◌++◌, [], ap, sym}
use Rattle.std.proofs.lemmas.List.{append_assoc, append-nil}
use Rattle.files_grammar.proofs.states.listed.Goals as goal

pub loop-member-init : goal.loop-member-init
loop-member-init c = record {
  can_next = tt;
  is_finite = tt;
  added = rw c.new-list.ensures.items (ap (λ walk. walk.rest)
      c.into_iter-member-iterator.ensures.into_iter_gives
      ∙ (c.iter_set_bits-member-items.ensures.fresh tt).whole.rest);
}

pub loop-member-preserved : goal.loop-member-preserved
loop-member-preserved c = record {
  can_next = tt;
  is_finite = tt;
  added = rw (
    c.in_ok-push.ensures.items,
    append_assoc c.loop-member.list.items (c.in-Some.member ∷ []) c.next.new.self.rest,
  )
      (ap (λ rest. c.loop-member.list.items ++ rest) (sym c.in-Some.ensures.steps.gives)
      ∙ c.loop-member.invariant.added);
}

pub returns : goal.returns
returns c =
    sym (append-nil c.loop-member.list.items)
    ∙ ap (λ rest. c.loop-member.list.items ++ rest) (sym c.in-None.ensures.steps.gives.0)
    ∙ c.loop-member.invariant.added
