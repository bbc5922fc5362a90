-- The states of a parser of operations: what stands behind the dots of their items.
use Rattle.std.proofs.Common.{◌≡◌, ◌⊎◌, ℕ, zero, suc, ◌+◌, inl, inr, List, [], ◌∷◌, Some, slice_get, refl, sym, ap, ◌∙◌, subst}
use Rattle.std.proofs.lemmas.Bool.{cases_eq}
use Rattle.std.proofs.lemmas.Option.{none-some, same_Some}
use Rattle.vob_lr.specs.ItemSets.{HasItem, InClosure, Opens}
use Rattle.vob_lr.specs.ItemSets.InClosure.{inside, expands}
use Rattle.vob_lr.specs.Items.{Completes, HasNext, first_item}
use Rattle.vob_lr.specs.Lookaheads.{HasMove, Machine, Reduces}
use Rattle.vob_lr.specs.Nesting.{HasLeftOperand, Replaces}
use Rattle.vob_lr.specs.Operations.{AreOperands, IsOperation, IsOperator}
use Rattle.vob_lr.specs.OperatorTables.{IsOperatorGrammar}
use Rattle.vob_lr.specs.Operations.AreOperands.{nothing, token, enclosed, last}
use Rattle.vob_lr.specs.Operations.IsOperation.{begins, goes_on}
use Rattle.vob_lr.specs.States.{AreStates}
use Rattle.vob_lr.specs.declared.grammar.Rule.{Rule}
use Rattle.vob_lr.specs.declared.grammar.Symbol.{Symbol}
use Rattle.vob_lr.specs.declared.grammar.Symbol.TheVariants.{Terminal, Nonterminal}
use Rattle.vob_lr.proofs.DotLemmas.{IsBefore, complete_not, next_none, next_same, one_next, opening, past}
use Rattle.vob_lr.proofs.LinkLemmas.{move_inside}
use Rattle.vob_lr.proofs.MemberLemmas.{ahead_inside, move_leads}

pub no_terminal : (t a : ℕ) → Terminal t ≡ Nonterminal a → ⊥
no_terminal t a same = cc

module _ (m : Machine) (e : ℕ) (states : AreStates m.grammar.rules.items m.sets m.moves)
    (of : IsOperatorGrammar m.grammar.rules.items e) where
  abbrev rules : List Rule
  rules = m.grammar.rules.items

  -- ---- all nonterminals on right sides are e

  operand_in : {xs : List Symbol} → AreOperands rules e xs → (d a : ℕ) →
      slice_get xs d ≡ Some (Nonterminal a) → a ≡ e
  operand_in nothing d a is = absurd (none-some (Nonterminal a) is)
  operand_in (token {t} h) zero a is = absurd (no_terminal t a (same_Some (Terminal t) (Nonterminal a) is))
  operand_in (token h) (suc d) a is = operand_in h d a is
  operand_in (enclosed not h) zero a is = cc
  operand_in (enclosed {t} not h) (suc zero) a is =
      absurd (no_terminal t a (same_Some (Terminal t) (Nonterminal a) is))
  operand_in (enclosed not h) (suc (suc d)) a is = operand_in h d a is
  operand_in last zero a is = cc
  operand_in last (suc d) a is = absurd (none-some (Nonterminal a) is)

  operation_in : {xs : List Symbol} → IsOperation rules e xs → (d a : ℕ) →
      slice_get xs d ≡ Some (Nonterminal a) → a ≡ e
  operation_in (begins h) d a is = operand_in (token h) d a is
  operation_in (goes_on h) zero a is = cc
  operation_in (goes_on h) (suc d) a is = operand_in (token h) d a is

  start_in : (d a : ℕ) (right : List Symbol) → right ≡ Nonterminal e ∷ Terminal 0 ∷ [] →
      slice_get right d ≡ Some (Nonterminal a) → a ≡ e
  start_in d a right same is =
      operand_in (enclosed of.no_end nothing) d a (ap (λ ys. slice_get ys d) (sym same) ∙ is)

  pub only_e : (i a : ℕ) → HasNext rules i (Nonterminal a) → a ≡ e
  only_e i a next = elim (cases_eq next.item.rule 0) [
    | inl first ↦
        let (rule, is, left, same) = of.begins in
        let own = same_Some next.is.rule rule
        (sym next.is.is ∙ ap (λ (r : ℕ). slice_get rules r) first ∙ is) in
        start_in next.item.dot a next.is.rule.right.items (ap (λ (x : Rule). x.right.items) own ∙ same) next.next
    | inr other ↦
        let left = of.others next.item.rule next.is.rule next.is.is other in
        operation_in (of.operations.each next.item.rule _ (next.is.rule, next.is.is, left, refl)) next.item.dot a
        next.next
  ]

  -- ---- states

  -- the items of state q are item i and, if operand e stands behind its dot, first items of its rules
  abbrev pub IsAt : ℕ → ℕ → Type 0
  IsAt q i = (j : ℕ) → HasItem m.sets q j → (j ≡ i) ⊎ (HasNext rules i (Nonterminal e) × Opens rules e j)

  -- item j has its dot before the operator of a rule
  abbrev IsInfix : ℕ → Type 0
  IsInfix j = (v : ℕ) × (t : ℕ) × HasLeftOperand rules v e t × (j ≡ first_item rules v + 1)

  -- they are item i and such items
  abbrev pub IsBehind : ℕ → ℕ → Type 0
  IsBehind q i = (j : ℕ) → HasItem m.sets q j → (j ≡ i) ⊎ IsInfix j

  closed_at : {Start : ℕ → Type 0} (i : ℕ) → ((j : ℕ) → Start j → j ≡ i) → {j : ℕ} →
      InClosure rules Start j → (j ≡ i) ⊎ (HasNext rules i (Nonterminal e) × Opens rules e j)
  closed_at i one (inside {i = j} h) = inl (one j h)
  closed_at i one (expands {i = j} {j = l} {a = a} from next new) =
      let named = only_e l a next in
      let next' = subst (λ (b : ℕ). HasNext rules l (Nonterminal b)) named next in
      let new' = subst (λ (b : ℕ). Opens rules b j) named new in
      elim (closed_at i one from) [
        | inl same ↦ inr (subst (λ (k : ℕ). HasNext rules k (Nonterminal e)) same next', new')
        | inr both ↦ inr (both.0, new')
      ]

  -- the first state
  pub start_at : IsAt 0 0
  start_at j there = closed_at 0 (λ k same. same) ((states.first.each j).0 there)

  moved_at : (q p i : ℕ) (x : Symbol) → HasMove m.moves q x p →
      ((l : ℕ) → HasItem m.sets q l → HasNext rules l x → l + 1 ≡ i) → IsAt p i
  moved_at q p i x move all j there =
      closed_at i (λ k h. let (l, own, next, same) = h in sym same ∙ all l own next)
      (((move_leads m states q x p (move_inside m states q x p move) move).goto.each j).0 there)

  -- an item that opens a rule of e
  opened_next : (v t : ℕ) (rule : Rule) → slice_get rules v ≡ Some rule → rule.left ≡ e →
      HasNext rules (first_item rules v) (Terminal t) → (xs : List Symbol) × Replaces rules v e (Terminal t ∷ xs)
  opened_next v t rule is left next =
      let own : Replaces rules v e rule.right.items = (rule, is, left, refl) in
      opened_as v t _ (of.operations.each v _ own) own next
    where
      opened_as : (v t : ℕ) (right : List Symbol) → IsOperation rules e right → Replaces rules v e right →
          HasNext rules (first_item rules v) (Terminal t) →
          (xs : List Symbol) × Replaces rules v e (Terminal t ∷ xs)
      opened_as v t right (begins {t = u} {xs = xs} h) own next =
          let same : Terminal u ≡ Terminal t = next_same rules (opening rules v e _ own) (Terminal t) next in
          (xs, subst (λ (x : Symbol). Replaces rules v e (x ∷ xs)) same own)
      opened_as v t right (goes_on h) own next =
          absurd (no_terminal t e (sym (next_same rules (opening rules v e _ own) (Terminal t) next)))

  opened_infix : (v : ℕ) (rule : Rule) → slice_get rules v ≡ Some rule → rule.left ≡ e →
      HasNext rules (first_item rules v) (Nonterminal e) → (t : ℕ) × HasLeftOperand rules v e t
  opened_infix v rule is left next =
      let own : Replaces rules v e rule.right.items = (rule, is, left, refl) in
      opened_as v _ (of.operations.each v _ own) own next
    where
      opened_as : (v : ℕ) (right : List Symbol) → IsOperation rules e right → Replaces rules v e right →
          HasNext rules (first_item rules v) (Nonterminal e) → (t : ℕ) × HasLeftOperand rules v e t
      opened_as v right (begins {t = u} h) own next =
          absurd (no_terminal u e (next_same rules (opening rules v e _ own) (Nonterminal e) next))
      opened_as v right (goes_on {t = t} {xs = xs} h) own next = (t, (xs, own))

  -- by the first token of a rule
  pub goto_first : (q p i r t : ℕ) (xs : List Symbol) → IsAt q i → HasNext rules i (Nonterminal e) →
      Replaces rules r e (Terminal t ∷ xs) → HasMove m.moves q (Terminal t) p → IsAt p (first_item rules r + 1)
  goto_first q p i r t xs at operand own move =
      moved_at q p (first_item rules r + 1) (Terminal t) move (λ l there next. elim (at l there) [
        | inl same ↦
            absurd (no_terminal t e (one_next rules i (Terminal t) (Nonterminal e)
            (subst (λ (k : ℕ). HasNext rules k (Terminal t)) same next) operand))
        | inr both ↦
            let (v, rule, is, left, number) = both.1 in
            let (ys, other) = opened_next v t rule is left
            (subst (λ (k : ℕ). HasNext rules k (Terminal t)) (sym number) next) in
            let named = of.operations.first v r t ys xs other own in
            ap (λ (k : ℕ). k + 1) (sym number ∙ ap (first_item rules) named)
      ])

  -- by the token behind a dot
  pub goto_next : (q p i t : ℕ) → IsAt q i → HasNext rules i (Terminal t) → HasMove m.moves q (Terminal t) p →
      IsAt p (i + 1)
  goto_next q p i t at own move =
      moved_at q p (i + 1) (Terminal t) move (λ l there next. elim (at l there) [
        | inl same ↦ ap (λ (k : ℕ). k + 1) same
        | inr both ↦ absurd (no_terminal t e (one_next rules i (Terminal t) (Nonterminal e) own both.0))
      ])

  -- by an operand
  pub goto_operand : (q p i : ℕ) → IsAt q i → ((a : ℕ) → HasNext rules (i + 1) (Nonterminal a) → ⊥) →
      HasMove m.moves q (Nonterminal e) p → IsBehind p (i + 1)
  goto_operand q p i at none move j there =
      closed_behind (λ k h.
      let (l, own, next, same) = h in elim (at l own) [
        | inl is ↦ inl (sym same ∙ ap (λ (n : ℕ). n + 1) is)
        | inr both ↦
            let (v, rule, there, left, number) = both.1 in
            let (t, mixed) = opened_infix v rule there left
            (subst (λ (n : ℕ). HasNext rules n (Nonterminal e)) (sym number) next) in
            inr (v, t, mixed, sym same ∙ ap (λ (n : ℕ). n + 1) (sym number))
      ])
      (((move_leads m states q (Nonterminal e) p (move_inside m states q (Nonterminal e) p move) move).goto.each j).0
      there)
    where
      infix_next : (j a : ℕ) → IsInfix j → HasNext rules j (Nonterminal a) → ⊥
      infix_next j a (v, t, (xs, own), same) next =
          no_terminal t a (next_same rules (past rules (opening rules v e _ own)) (Nonterminal a)
          (subst (λ (k : ℕ). HasNext rules k (Nonterminal a)) same next))

      closed_behind : {Start : ℕ → Type 0} → ((j : ℕ) → Start j → (j ≡ i + 1) ⊎ IsInfix j) → {j : ℕ} →
          InClosure rules Start j → (j ≡ i + 1) ⊎ IsInfix j
      closed_behind one (inside {i = j} h) = one j h
      closed_behind one (expands {j = l} {a = a} from next new) = elim (closed_behind one from) [
        | inl same ↦ absurd (none a (subst (λ (k : ℕ). HasNext rules k (Nonterminal a)) same next))
        | inr mixed ↦ absurd (infix_next l a mixed next)
      ]

  infix_token : (j t : ℕ) → IsInfix j → HasNext rules j (Terminal t) →
      (v : ℕ) × HasLeftOperand rules v e t × (j ≡ first_item rules v + 1)
  infix_token j t (v, u, (xs, own), same) next =
      let token : Terminal u ≡ Terminal t =
      next_same rules (past rules (opening rules v e _ own)) (Terminal t)
      (subst (λ (k : ℕ). HasNext rules k (Terminal t)) same next) in
      (v, (xs, subst (λ (x : Symbol). Replaces rules v e (Nonterminal e ∷ x ∷ xs)) token own), same)

  -- behind an operand by an operator
  pub goto_operator : (q p i v t : ℕ) → IsBehind q i → ¬ HasNext rules i (Terminal t) →
      HasLeftOperand rules v e t → HasMove m.moves q (Terminal t) p → IsAt p (first_item rules v + 1 + 1)
  goto_operator q p i v t behind not own move =
      moved_at q p (first_item rules v + 1 + 1) (Terminal t) move (λ l there next. elim (behind l there) [
        | inl same ↦ absurd (not (subst (λ (k : ℕ). HasNext rules k (Terminal t)) same next))
        | inr mixed ↦
            let (w, other, is) = infix_token l t mixed next in
            ap (λ (k : ℕ). k + 1) is
            ∙ ap (λ (n : ℕ). first_item rules n + 1 + 1) (of.operations.behind w v t other own)
      ])

  -- or by another token
  pub goto_enclosing : (q p i t : ℕ) → IsBehind q i → ¬ IsOperator rules e t →
      HasMove m.moves q (Terminal t) p → IsAt p (i + 1)
  goto_enclosing q p i t behind not move =
      moved_at q p (i + 1) (Terminal t) move (λ l there next. elim (behind l there) [
        | inl same ↦ ap (λ (k : ℕ). k + 1) same
        | inr mixed ↦
            let (w, other, is) = infix_token l t mixed next in absurd (not (w, other))
      ])

  -- ---- by which rules they reduce, and by which tokens they move

  pub at_reduces : (q i r t v : ℕ) (x : Symbol) (xs : List Symbol) → IsAt q i → IsBefore rules i r (x ∷ xs) →
      ¬ Reduces m q t v
  at_reduces q i r t v x xs at own (l, done, ahead) = elim (at l (ahead_inside m states ahead)) [
    | inl same ↦ complete_not rules own (subst (λ (k : ℕ). Completes rules v k) same done)
    | inr both ↦
        let (w, rule, is, left, number) = both.1 in
        let other : Replaces rules w e rule.right.items = (rule, is, left, refl) in
        opened_done w v _ (of.operations.each w _ other) other
        (subst (λ (k : ℕ). Completes rules v k) (sym number) done)
  ]
    where
      opened_done : (w v : ℕ) (right : List Symbol) → IsOperation rules e right → Replaces rules w e right →
          Completes rules v (first_item rules w) → ⊥
      opened_done w v right (begins h) other done = complete_not rules (opening rules w e _ other) done
      opened_done w v right (goes_on h) other done = complete_not rules (opening rules w e _ other) done

  pub at_behind : (q i r : ℕ) → IsAt q i → IsBefore rules i r [] → IsBehind q i
  at_behind q i r at own j there = elim (at j there) [
    | inl same ↦ inl same
    | inr both ↦ absurd (next_none rules own (Nonterminal e) both.0)
  ]

  pub at_stays : (q i r t p : ℕ) → IsAt q i → IsBefore rules i r [] → ¬ HasMove m.moves q (Terminal t) p
  at_stays q i r t p at own move =
      let (l, there, next) =
      (move_leads m states q (Terminal t) p (move_inside m states q (Terminal t) p move) move).ahead in
      elim (at l there) [
        | inl same ↦
            next_none rules own (Terminal t) (subst (λ (k : ℕ). HasNext rules k (Terminal t)) same next)
        | inr both ↦ next_none rules own (Nonterminal e) both.0
      ]

  pub behind_reduces : (q i t v : ℕ) → IsBehind q i → Reduces m q t v → Completes rules v i
  behind_reduces q i t v behind (l, done, ahead) = elim (behind l (ahead_inside m states ahead)) [
    | inl same ↦ subst (λ (k : ℕ). Completes rules v k) same done
    | inr mixed ↦
        let (w, u, (xs, own), same) = mixed in
        absurd (complete_not rules (past rules (opening rules w e _ own))
        (subst (λ (k : ℕ). Completes rules v k) same done))
  ]

  pub behind_moves : (q i r t p : ℕ) → IsBehind q i → IsBefore rules i r [] → HasMove m.moves q (Terminal t) p →
      IsOperator rules e t
  behind_moves q i r t p behind own move =
      let (l, there, next) =
      (move_leads m states q (Terminal t) p (move_inside m states q (Terminal t) p move) move).ahead in
      elim (behind l there) [
        | inl same ↦
            absurd (next_none rules own (Terminal t) (subst (λ (k : ℕ). HasNext rules k (Terminal t)) same next))
        | inr mixed ↦ let (w, other, is) = infix_token l t mixed next in (w, other)
      ]
