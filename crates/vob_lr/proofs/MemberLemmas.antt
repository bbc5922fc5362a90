-- Which items the states have.
use Rattle.std.proofs.Common.{ℕ, ◌+◌, ◌<◌, List, [], get_or, length, Some, refl, ap, ◌∙◌, subst}
use Rattle.std.proofs.lemmas.Option.{get_or_from_slice_get, slice_get-get_or}
use Rattle.std.specs.List.{Contains}
use Rattle.vob_lr.specs.ItemSets.{HasItem, Opens}
use Rattle.vob_lr.specs.ItemSets.InClosure.{inside, expands}
use Rattle.vob_lr.specs.Items.{HasNext}
use Rattle.vob_lr.specs.Lookaheads.{HasMove, LooksAhead, Machine}
use Rattle.vob_lr.specs.Lookaheads.LooksAhead.{begins, passes, keeps}
use Rattle.vob_lr.specs.States.{AreStates, IsMove, IsState}
use Rattle.vob_lr.specs.States.IsState.{start as first_state, after as next_state}
use Rattle.vob_lr.proofs.SetLemmas.{set_inside}
use Rattle.vob_lr.specs.declared.grammar.Rule.{Rule}
use Rattle.vob_lr.specs.declared.grammar.Symbol.{Symbol}
use Rattle.vob_lr.specs.declared.grammar.Symbol.TheVariants.{Nonterminal}
use Rattle.vob_lr.specs.declared.state.Move.{Move}

closed_state : (rules : List Rule) {set : List ℕ} → IsState rules set → (j a i : ℕ) →
    Contains set j → HasNext rules j (Nonterminal a) → Opens rules a i → Contains set i
closed_state rules (first_state s) j a i own next opens =
    (s.each i).1 (expands ((s.each j).0 own) next opens)
closed_state rules (next_state x state ahead s) j a i own next opens =
    (s.each i).1 (expands ((s.each j).0 own) next opens)

module _ (m : Machine) (states : AreStates m.grammar.rules.items m.sets m.moves) where
  -- a move leads to what is left when the dot passes its symbol
  pub move_leads : (q : ℕ) (x : Symbol) (p : ℕ) → q < length m.sets → HasMove m.moves q x p →
      IsMove m.grammar.rules.items m.sets (get_or m.sets q []) (record { symbol = x; state = p })
  move_leads q x p low (k, less, is) =
      subst (λ (z : Move). IsMove m.grammar.rules.items m.sets (get_or m.sets q []) z) is
      ((states.moves_of q low).each k (record { symbol = x; state = p }) less)

  -- a state has what its items bring
  pub member_closed : (q j a i : ℕ) → HasItem m.sets q j →
      HasNext m.grammar.rules.items j (Nonterminal a) → Opens m.grammar.rules.items a i →
      HasItem m.sets q i
  member_closed q j a i own next opens =
      closed_state m.grammar.rules.items (states.each q [] (set_inside m.sets q j own)) j a i own next
      opens

  -- and the state that follows has the item behind
  pub member_advances : (q j : ℕ) (x : Symbol) (p : ℕ) → HasItem m.sets q j →
      HasNext m.grammar.rules.items j x → HasMove m.moves q x p → HasItem m.sets p (j + 1)
  member_advances q j x p own next move =
      ((move_leads q x p (set_inside m.sets q j own) move).goto.each (j + 1)).1
      (inside (j, own, next, refl))

  -- an item with a lookahead is in its state
  pub ahead_inside : {t q i : ℕ} → LooksAhead m t q i → HasItem m.sets q i
  ahead_inside (begins {q} {j} {a} {i} own next st opens) =
      member_closed q j a i own next.next opens
  ahead_inside (passes {q} {j} {a} {i} l next empty opens) =
      member_closed q j a i (ahead_inside l) next.next opens
  ahead_inside (keeps {q} {j} {p} {x} l next move) = member_advances q j x p (ahead_inside l) next move

  -- a state moves by a symbol behind a dot
  pub moves_on : (q i : ℕ) (x : Symbol) → HasItem m.sets q i → HasNext m.grammar.rules.items i x →
      (p : ℕ) × HasMove m.moves q x p
  moves_on q i x own next =
      let row = get_or m.moves q [] in
      let (k, move, less, read, named) = (states.moves_of q (set_inside m.sets q i own)).all x
      (i, own, next) in
      let to : Move = record { symbol = x; state = move.state } in
      let same = ap (λ (y : Symbol). let one : Move = record { symbol = y; state = move.state } in one)
      named in (
        move.state,
        (
          k,
          less,
          get_or_from_slice_get row k move to (slice_get-get_or row k move less ∙ ap Some read)
              ∙ same,
        ),
      )
