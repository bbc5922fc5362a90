-- The states that a parser by a table may enter.
use Rattle.std.proofs.Common.{◌≡◌, ℕ, ◌+◌, ◌<◌, inl, inr, Bool, List, [], ◌∷◌, ◌++◌, get_or, length, take, drop, None, Option, Some, slice_get, refl, sym, ap, ◌∙◌, subst, arith}
use Rattle.std.specs.List.{All, Contains}
use Rattle.std.proofs.lemmas.Bool.{cases_eq, cases_lt}
use Rattle.std.proofs.lemmas.List.{get_or_past, get_or_append_left, get_or_push, length_push, take_more}
use Rattle.std.proofs.lemmas.List.Elements.{All-cons, All-drop, All-nil, Contains-append_left, Contains-push, Contains-push_cases}
use Rattle.std.proofs.lemmas.Option.{none-some}
use Rattle.vob_flow.specs.Closure.{IsEdge}
use Rattle.vob_flow.specs.Reach.{AreReached, Reaches}
use Rattle.vob_flow.specs.Reach.Reaches.{along, at_start}
use Rattle.vob_lr.specs.Entered.{AreEntered, AreTargets, AreTargetsBelow, AreTargetsOf, IsEntered, IsLeft, OthersAreNotEntered}
use Rattle.vob_lr.specs.Entered.IsEntered.{goes, start}
use Rattle.vob_lr.specs.Parses.{Config, IsReached, IsTaken}
use Rattle.vob_lr.specs.Parses.IsReached.{begins, then_steps}
use Rattle.vob_lr.specs.Stops.{IsSound}
use Rattle.vob_lr.specs.Tables.{TableView, chosen_at, action_of, chosen}
use Rattle.vob_lr.specs.declared.grammar.Symbol.TheVariants.{Nonterminal, Terminal}
use Rattle.vob_lr.specs.declared.state.Move.{Move}
use Rattle.vob_lr.specs.declared.table.Action.{Action}
use Rattle.vob_lr.specs.declared.table.Action.TheVariants.{Accept, Reduce, Shift}
use Rattle.vob_lr.specs.declared.table.Cell.{Cell}
use Rattle.vob_lr.proofs.LinkLemmas.{move_inside}

-- ---- a parser enters these alone

shifts_there : (cell : Option Cell) (p : ℕ) → action_of cell ≡ Some (Shift p) →
    (own : Cell) × (cell ≡ Some own) × (own.shift ≡ Some p)
shifts_there None p act = absurd (none-some (Shift p) act)
shifts_there (Some own) p act = (own, refl, chosen_shift own.shift own.reduces.items p act)
  where
    chosen_shift : (shift : Option ℕ) (rules : List ℕ) (p : ℕ) → chosen shift rules ≡ Some (Shift p) →
        shift ≡ Some p
    chosen_shift (Some q) rules p same = cc
    chosen_shift None [] p same = absurd (none-some (Shift p) same)
    chosen_shift None (r ∷ rules) p same = absurd (cc)

module _ (table : TableView) (tokens : List ℕ) (sound : IsSound table) where
  -- the newest of some states
  newest : (states : List ℕ) → All (IsEntered table) states → IsEntered table (get_or states 0 0)
  newest [] all = start
  newest (q ∷ states) all = all 0 0 (omega arith)

  taken_entered : (c d : Config) (a : Action) →
      chosen_at table.cells (get_or c.states 0 0) (get_or tokens c.read 0) ≡ Some a →
      All (IsEntered table) c.states → IsTaken table.machine tokens c a d → All (IsEntered table) d.states
  taken_entered c d Accept act all taken = absurd taken
  taken_entered c d (Shift p) act all taken =
      let q = get_or c.states 0 0 in
      let t = get_or tokens c.read 0 in
      let (own, is, shift) = shifts_there (slice_get (get_or table.cells q []) t) p act in
      let own_move = sound.actions.shifts q t p act in
      subst (λ (e : Config). All (IsEntered table) e.states) (sym taken.1)
      (All-cons (IsEntered table) p c.states
      (goes (newest c.states all) (Terminal t, own_move, (own, is, shift))) all)
  taken_entered c d (Reduce r) act all taken =
      let left = drop (length taken.rule.right.items) c.states in
      let own = All-drop (IsEntered table) (length taken.rule.right.items) c.states all in
      subst (λ (e : Config). All (IsEntered table) e.states) (sym taken.after)
      (All-cons (IsEntered table) taken.state left
      (goes (newest left own) (Nonterminal taken.rule.left, taken.move, tt)) own)

  reached_entered : {c : Config} → IsReached table tokens c → All (IsEntered table) c.states
  reached_entered (begins is) =
      subst (λ (c : Config). All (IsEntered table) c.states) (sym is)
      (All-cons (IsEntered table) 0 [] start (All-nil (IsEntered table)))
  reached_entered (then_steps {c} {d} reached step) =
      taken_entered c d step.action step.is (reached_entered reached) step.taken

pub others_are_not_entered : OthersAreNotEntered
others_are_not_entered table tokens c sound reached = reached_entered table tokens sound reached

-- ---- the states to which one goes, move by move

module _ (table : TableView) (q : ℕ) (moves : List Move) where
  pub targets_none : AreTargetsOf table q [] []
  targets_none p = (
    (λ (k, less, is). absurd (omega (arith, less))),
    (λ (x, (k, less, is), left). absurd (omega (arith, less))),
  )

  module _ (k : ℕ) (less : k < length moves) (own : Move) (is : own ≡ get_or moves k own) (list : List ℕ)
      (h : AreTargetsOf table q (take k moves) list) where
    more : take (k + 1) moves ≡ take k moves ++ own ∷ []
    more = take_more moves k own less ∙ ap (λ (m : Move). take k moves ++ m ∷ []) (sym is)

    pub targets_with : IsLeft table.cells q own.symbol own.state →
        AreTargetsOf table q (take (k + 1) moves) (list ++ own.state ∷ [])
    targets_with left p = rw more (
      (λ there. elim (Contains-push_cases list own.state p there) [
        | inl old ↦
            let (x, in_row, kept) = (h p).0 old in
            (x, Contains-append_left (take k moves) (own ∷ []) (record { symbol = x; state = p }) in_row, kept)
        | inr same ↦
            let whole : own ≡ record { symbol = own.symbol; state = p } =
            ap (λ (n : ℕ). let m : Move = record { symbol = own.symbol; state = n } in m) same in (
              own.symbol,
              subst (λ (m : Move). Contains (take k moves ++ own ∷ []) m) whole (Contains-push (take k moves) own),
              subst (λ (n : ℕ). IsLeft table.cells q own.symbol n) same left,
            )
      ]),
      (λ (x, in_row, kept).
          elim (Contains-push_cases (take k moves) own (record { symbol = x; state = p }) in_row) [
            | inl old ↦ Contains-append_left list (own.state ∷ []) p ((h p).1 (x, old, kept))
            | inr same ↦
                subst (λ (n : ℕ). Contains (list ++ own.state ∷ []) n) (ap (λ (m : Move). m.state) same)
                (Contains-push list own.state)
          ]),
    )

    pub targets_without : (¬ IsLeft table.cells q own.symbol own.state) →
        AreTargetsOf table q (take (k + 1) moves) list
    targets_without none p = rw more (
      (λ there.
          let (x, in_row, kept) = (h p).0 there in
          (x, Contains-append_left (take k moves) (own ∷ []) (record { symbol = x; state = p }) in_row, kept)),
      (λ (x, in_row, kept).
          elim (Contains-push_cases (take k moves) own (record { symbol = x; state = p }) in_row) [
            | inl old ↦ (h p).1 (x, old, kept)
            | inr same ↦ absurd (none
                (subst (λ (m : Move). IsLeft table.cells q m.symbol m.state) (sym same) kept))
          ]),
    )

-- ---- and so state by state

module _ (table : TableView) where
  pub below_none : AreTargetsBelow table 0 []
  below_none = record { count = refl; each = λ q less. absurd (omega (arith, less)) }

  pub below_more : (n : ℕ) (lists : List (List ℕ)) (list : List ℕ) → AreTargetsBelow table n lists →
      AreTargets table n list → AreTargetsBelow table (n + 1) (lists ++ list ∷ [])
  below_more n lists list h own = record {
    count = omega (arith, length_push lists list, h.count);
    each = λ q less. elim (cases_eq q n) [
      | inl same ↦
          subst (λ (xs : List ℕ). AreTargets table q xs)
          (sym (get_or_push lists list [] q (h.count ∙ sym same)))
          (subst (λ (k : ℕ). AreTargets table k list) (sym same) own)
      | inr other ↦
          subst (λ (xs : List ℕ). AreTargets table q xs)
          (sym (get_or_append_left lists (list ∷ []) [] q (omega (arith, less, other, h.count))))
          (h.each q (omega (arith, less, other)))
    ];
  }

  module _ (states : IsSound table) (lists : List (List ℕ))
      (h : AreTargetsBelow table (length table.machine.sets) lists) where
    inside : (n m : ℕ) → IsEdge lists n m → n < length table.machine.sets
    inside n m (k, less, is) = elim (cases_lt n (length lists)) [
      | inl low ↦ omega (arith, low, h.count)
      | inr past ↦ absurd (omega (arith, less, ap length (get_or_past lists n [] past)))
    ]

    entered : {p : ℕ} → Reaches lists (0 ∷ []) p → IsEntered table p
    entered (at_start {n} (k, less, is)) =
        let none : k ≡ 0 = omega (arith, less) in
        subst (λ (p : ℕ). IsEntered table p) (ap (λ (j : ℕ). get_or (0 ∷ []) j n) (sym none) ∙ is) start
    entered (along {n} {m} way edge) = goes (entered way) ((h.each n (inside n m edge) m).0 edge)

    reaches : {p : ℕ} → IsEntered table p → Reaches lists (0 ∷ []) p
    reaches start = at_start (0, omega arith, refl)
    reaches (goes {q} {p} there step) =
        let less = move_inside table.machine states.states q step.0 p step.1 in
        along (reaches there) ((h.each q less p).1 step)

    pub entered_are : (set : List Bool) → AreReached lists (0 ∷ []) set → AreEntered table set
    entered_are set r = record {
      len = r.len ∙ h.count;
      each = λ q. ((λ on. entered ((r.each q).0 on)), (λ there. (r.each q).1 (reaches there)));
    }
