-- A set that is seen waits, and one that waited last comes into the order.
use Rattle.std.proofs.Common.{◌∙◌, ◌++◌, ◌∷◌, ◌≡◌, [], length, refl, subst, sym, ap, arith, List, ℕ}
use Rattle.std.proofs.lemmas.List.{length_push}
use Rattle.vob_flow.specs.Order.{IsVisited, sets_of}
use Rattle.vob_flow.proofs.OrderLemmas.{IsVisited-enter, IsVisited-leave, sets_of_push, steps_seen, still_seen, waiting_inside}
use Rattle.vob_flow.proofs.SearchLemmas.{IsSearched-last, IsSearched-next}
use Rattle.vob_flow.proofs.order.advance.Goals as goal

pub next-from-requires : goal.next-from-requires
next-from-requires c = waiting_inside (sets_of c.args.stack.now.items) c.args.top.set c.requires.visited

pub next_unseen-requires : goal.next_unseen-requires
next_unseen-requires c =
    λ k d less. omega (arith, c.next-from.ensures.inside k d less, c.requires.visited.len)

-- the sets that wait then
waiting : (c : goal.In_ok-enter) → sets_of c.enter.new.stack.items
    ≡ (sets_of c.args.stack.now.items ++ c.args.top.set ∷ []) ++ c.in-Some.next.set ∷ []
waiting c =
    ap sets_of c.in_ok-enter.ensures.stack ∙ sets_of_push _ _ ∙ ap (λ waits. waits ++ c.in-Some.next.set ∷ [])
    (ap sets_of c.in_ok-push.ensures.items ∙ sets_of_push c.args.stack.now.items _)

pub returns-in_ok-enter-clause-visited : goal.returns-in_ok-enter-clause-visited
returns-in_ok-enter-clause-visited c =
    subst (λ (waits : List ℕ). IsVisited (length c.args.graph.now) c.enter.new.seen.bits waits
    c.args.order.now.items) (sym (waiting c))
    (IsVisited-enter c.in-Some.next.set c.requires.visited c.in-Some.ensures.unseen
    c.enter.ensures.seen)

pub returns-in_ok-enter-clause-fewer : goal.returns-in_ok-enter-clause-fewer
returns-in_ok-enter-clause-fewer c =
    let more = ap length (waiting c)
    ∙ length_push (sets_of c.args.stack.now.items ++ c.args.top.set ∷ []) c.in-Some.next.set in
    omega (
      arith,
      more,
      length_push (sets_of c.args.stack.now.items) c.args.top.set,
      steps_seen c.in-Some.next.set c.in-Some.ensures.unseen c.enter.ensures.seen,
    )

pub returns-in_ok-push-2-clause-visited : goal.returns-in_ok-push-2-clause-visited
returns-in_ok-push-2-clause-visited c =
    subst (λ (order : List ℕ). IsVisited (length c.args.graph.now) c.args.seen.now.bits
    (sets_of c.args.stack.now.items) order) (sym c.in_ok-push-2.ensures.items)
    (IsVisited-leave c.args.top.set c.requires.visited (omega arith))

pub returns-in_ok-enter-clause-searched : goal.returns-in_ok-enter-clause-searched
returns-in_ok-enter-clause-searched c =
    let next = c.in-Some.next in
    rw (c.in_ok-enter.ensures.stack, c.in_ok-push.ensures.items) (IsSearched-next
    c.args.graph.now c.args.seen.now.bits c.args.stack.now.items c.args.order.now.items c.args.top
    c.requires.searched c.enter.new.seen.bits next (still_seen next.set c.enter.ensures.seen)
    c.enter.ensures.seen.there (rw c.next-from.ensures.ends at c.in-Some.ensures.next))

pub returns-in_ok-push-2-clause-searched : goal.returns-in_ok-push-2-clause-searched
returns-in_ok-push-2-clause-searched c =
    rw c.in_ok-push-2.ensures.items (IsSearched-last c.args.graph.now c.args.seen.now.bits
    c.args.stack.now.items c.args.order.now.items c.args.top c.requires.searched
    c.requires.visited.found (rw c.next-from.ensures.ends at c.in_default.ensures.none refl))
