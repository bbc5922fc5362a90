-- The first list with a number at or above the count, or none.
use Rattle.std.specs.List.{All}
use Rattle.std.proofs.Common.{◌≡◌, ◌<◌, ◌∙◌, ℕ, List, Vec, Global, [], inl, inr, length, get_or, ap, refl, sym, subst, arith}
use Rattle.std.proofs.lemmas.Bool.{cases_eq, false≢true}
use Rattle.std.proofs.lemmas.List.{get_or-map, get_or_default, length-map}
use Rattle.vob_flow.specs.Lists.{lists_of}
use Rattle.vob_flow.proofs.lists.are_below.Goals as goal
use Rattle.vob_flow.proofs.lists.are_below.Goals.{After-deref}

list_is : (c : After-deref) → c.deref.result.now ≡ get_or (lists_of c.args.lists.now) c.loop-list.list-index []
list_is c = c.deref.ensures.value ∙ ap (λ (v : Vec ℕ Global). v.items) c.list-item.is
    ∙ sym (get_or-map (λ (v : Vec ℕ Global). v.items) c.args.lists.now c.loop-list.list-index c.list-item.result []
    c.loop-list-test.true)

pub returns-then-not-all_below : goal.returns-then-not-all_below
returns-then-not-all_below c =
    let own = list_is (goal.at.returns-then-not-all_below c).After-deref in
    let as_many = length-map c.args.lists.now (λ (v : Vec ℕ Global). v.items) in (
      (λ e. absurd (false≢true e)),
      (λ all. absurd (false≢true (sym c.if-not-all_below.true ∙ c.all_below.ensures.1
          (subst (All (λ x. x < c.args.count)) (sym own)
          (all c.loop-list.list-index [] (omega (arith, c.loop-list-test.true, as_many))))))),
    )

pub loop-list-preserved : goal.loop-list-preserved
loop-list-preserved c = λ k less.
    let own = list_is (goal.at.loop-list-preserved c).After-deref in
    elim (cases_eq k c.loop-list.list-index) [
      | inl same ↦ rw same (subst (All (λ x. x < c.args.count)) own (c.all_below.ensures.0 c.if-not-all_below.false))
      | inr other ↦ c.loop-list.invariant k (omega (arith, less, other))
    ]

pub returns : goal.returns
returns c =
    let lists = lists_of c.args.lists.now in
    let as_many = length-map c.args.lists.now (λ (v : Vec ℕ Global). v.items) in (
      (λ e k d less. subst (All (λ x. x < c.args.count)) (sym (get_or_default lists k d [] less))
          (c.loop-list.invariant k (omega (arith, less, as_many, c.loop-list-test.false)))),
      (λ all. refl),
    )
