-- A parser takes one way.
use Rattle.std.proofs.Common.{◌≡◌, ℕ, ◌<◌, ◌≤◌, ◌⊎◌, inl, inr, List, [], length, get_or, drop, Some, refl, sym, ap, ◌∙◌, subst, arith}
use Rattle.std.proofs.lemmas.Option.{get_or_from_slice_get, same_Some, slice_get-get_or}
use Rattle.vob_lr.specs.Lookaheads.{HasMove, Machine}
use Rattle.vob_lr.specs.Parses.{Config, IsAccepted, IsReached, IsTaken, Steps, beginning, replaced, top}
use Rattle.vob_lr.specs.Parses.IsReached.{begins, then_steps}
use Rattle.vob_lr.specs.States.{AreStates}
use Rattle.vob_lr.specs.Stops.{IsTooLong, IsUnexpected, StepsAreOne}
use Rattle.vob_lr.specs.Tables.{TableView}
use Rattle.vob_lr.specs.declared.grammar.Rule.{Rule}
use Rattle.vob_lr.specs.declared.grammar.Symbol.{Symbol}
use Rattle.vob_lr.specs.declared.grammar.Symbol.TheVariants.{Nonterminal}
use Rattle.vob_lr.specs.declared.state.Move.{Move}
use Rattle.vob_lr.specs.declared.table.Action.{Action}
use Rattle.vob_lr.specs.declared.table.Action.TheVariants.{Accept, Reduce, Shift}
use Rattle.vob_lr.proofs.LinkLemmas.{move_inside}
use Rattle.vob_lr.proofs.MoveLemmas.{one_move}

module _ (m : Machine) (states : AreStates m.grammar.rules.items m.sets m.moves) where
  pub one_target : (q : ℕ) (x : Symbol) (p r : ℕ) → HasMove m.moves q x p → HasMove m.moves q x r → p ≡ r
  one_target q x p r move other =
      let low = move_inside m states q x p move in
      let row = get_or m.moves q [] in
      let (i, less, is) = move in
      let (j, near, is') = other in
      let d : Move = record { symbol = x; state = p } in
      let e : Move = record { symbol = x; state = r } in
      let there = get_or_from_slice_get row j e d (slice_get-get_or row j e near ∙ ap Some is') in
      let same = one_move row (states.moves_of q low).rise x i j d less near
      (ap (λ (z : Move). z.symbol) is) (ap (λ (z : Move). z.symbol) there) in
      ap (λ (z : Move). z.state) (sym is ∙ ap (λ (k : ℕ). get_or row k d) same ∙ there)

  one_taken : (tokens : List ℕ) (c d e : Config) (a : Action) → IsTaken m tokens c a d →
      IsTaken m tokens c a e → d ≡ e
  one_taken tokens c d e Accept one other = absurd one
  one_taken tokens c d e (Shift p) one other = one.1 ∙ sym other.1
  one_taken tokens c d e (Reduce r) one other =
      let same = same_Some one.rule other.rule (sym one.is ∙ other.is) in
      let move = subst (λ (x : Rule).
      HasMove m.moves (top (drop (length x.right.items) c.states)) (Nonterminal x.left) other.state)
      (sym same) other.move in
      let state = one_target (top (drop (length one.rule.right.items) c.states))
      (Nonterminal one.rule.left) one.state other.state one.move move in
      one.after
      ∙ ap (λ (x : Rule). replaced r (length x.right.items) one.state c) same
      ∙ ap (λ (p : ℕ). replaced r (length other.rule.right.items) p c) state
      ∙ sym other.after

module _ (table : TableView) (tokens : List ℕ)
    (states : AreStates table.machine.grammar.rules.items table.machine.sets table.machine.moves) where
  one_step : (c d e : Config) → Steps table tokens c d → Steps table tokens c e → d ≡ e
  one_step c d e one other =
      let same = same_Some one.action other.action (sym one.is ∙ other.is) in
      one_taken table.machine states tokens c d e other.action
      (subst (λ (a : Action). IsTaken table.machine tokens c a d) same one.taken) other.taken

  -- steps from one to another
  pub data Leads (c : Config) : Config → Type 0 where
    here : Leads c c
    further : {d e : Config} → Leads c d → Steps table tokens d e → Leads c e

  first_step : (c d e : Config) → Steps table tokens c d → Leads d e → Leads c e
  first_step c d e step here = further here step
  first_step c d e step (further {d = f} leads last) = further (first_step c d f step leads) last

  from_start : {c : Config} → IsReached table tokens c → Leads beginning c
  from_start (begins is) = subst (λ (x : Config). Leads beginning x) (sym is) here
  from_start (then_steps reached step) = further (from_start reached) step

  -- no step, or a first one
  pub begun : {c e : Config} → Leads c e → (c ≡ e) ⊎ ((d : Config) × Steps table tokens c d × Leads d e)
  begun here = inl refl
  begun {c} (further {d} {e} leads step) = elim (begun leads) [
    | inl same ↦ inr (e, subst (λ (x : Config). Steps table tokens x e) (sym same) step, here)
    | inr more ↦ inr (more.0, more.1, further more.2 step)
  ]

  -- of two that are reached, one leads to the other
  pub one_way : {c d : Config} → IsReached table tokens c → IsReached table tokens d →
      Leads c d ⊎ Leads d c
  one_way {c} {d} reached (begins is) = inr (subst (λ (x : Config). Leads x c) (sym is) (from_start reached))
  one_way {c} {d} reached (then_steps {c = e} other step) = elim (one_way reached other) [
    | inl leads ↦ inl (further leads step)
    | inr leads ↦ elim (begun leads) [
      | inl same ↦ inl (subst (λ (x : Config). Leads x d) same (further here step))
      | inr more ↦
          inr (subst (λ (x : Config). Leads x c) (one_step e more.0 d more.1 step) more.2)
    ]
  ]

  -- one that accepts takes no step
  pub accepted_stays : (c : Config) → IsAccepted table tokens c → (d : Config) → ¬ Steps table tokens c d
  accepted_stays c a d step =
      let same = same_Some step.action (Shift a.state) (sym step.is ∙ a.is) in
      let taken = subst (λ (x : Action). IsTaken table.machine tokens c x d) same step.taken in
      omega (arith, taken.0, a.read)

  pub stays : {c d : Config} → Leads c d → ((e : Config) → ¬ Steps table tokens c e) → c ≡ d
  stays leads none = elim (begun leads) [
    | inl same ↦ same
    | inr more ↦ absurd (none more.0 more.1)
  ]

  taken_grows : (c d : Config) (a : Action) → IsTaken table.machine tokens c a d →
      length c.reduced ≤ length d.reduced
  taken_grows c d Accept taken = absurd taken
  taken_grows c d (Shift p) taken = omega (arith, ap (λ (e : Config). length e.reduced) taken.1)
  taken_grows c d (Reduce r) taken = omega (arith, ap (λ (e : Config). length e.reduced) taken.after)

  leads_grows : {c d : Config} → Leads c d → length c.reduced ≤ length d.reduced
  leads_grows here = omega arith
  leads_grows (further {d} {e} leads step) =
      omega (arith, leads_grows leads, taken_grows d e step.action step.taken)

  -- so a parser accepts once
  pub accepts_once : {c d : Config} → IsReached table tokens c → IsAccepted table tokens c →
      IsReached table tokens d → IsAccepted table tokens d → c ≡ d
  accepts_once {c} {d} reached a other b = elim (one_way reached other) [
    | inl leads ↦ stays leads (accepted_stays c a)
    | inr leads ↦ sym (stays leads (accepted_stays d b))
  ]

  -- where a parser accepts, it is nowhere stuck, and reduces no more
  module _ (c : Config) (reached : IsReached table tokens c) (a : IsAccepted table tokens c) where
    pub never_stuck : (n : ℕ) → ¬ IsUnexpected table tokens n
    never_stuck n stuck = elim (one_way reached stuck.reached) [
      | inl leads ↦
          stuck.not_accepted
          (subst (λ (x : Config). IsAccepted table tokens x) (stays leads (accepted_stays c a)) a)
      | inr leads ↦
          stuck.not_accepted
          (subst (λ (x : Config). IsAccepted table tokens x) (sym (stays leads stuck.no_step)) a)
    ]

    pub never_longer : (steps : ℕ) → IsTooLong table tokens steps → steps < length c.reduced
    never_longer steps long = elim (one_way reached long.reached) [
      | inl leads ↦
          let same = ap (λ (x : Config). length x.reduced) (stays leads (accepted_stays c a)) in
          omega (arith, same, long.more)
      | inr leads ↦ omega (arith, leads_grows leads, long.more)
    ]

pub steps_are_one : StepsAreOne
steps_are_one table sound tokens c d e one other = one_step table tokens sound.states c d e one other
