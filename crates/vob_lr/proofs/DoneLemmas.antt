-- The table of an LALR(1) grammar says all that a parser may do.
use Rattle.std.proofs.Common.{◌≡◌, ℕ, zero, suc, ◌+◌, ◌<◌, inl, inr, List, [], ◌∷◌, get_or, length, None, Option, Some, slice_get, sym, ap, ◌∙◌, subst, arith}
use Rattle.std.specs.List.{All, Contains}
use Rattle.std.proofs.lemmas.Bool.{cases_Bool, cases_eq, cases_lt, false≢true}
use Rattle.std.proofs.lemmas.List.{get_or_past}
use Rattle.std.proofs.lemmas.List.Elements.{All-contains, All-drop, All-head, All-tail}
use Rattle.std.proofs.lemmas.Option.{none-some, same_Some, slice_get_cases}
use Rattle.vob_lr.proofs.SetLemmas.{set_inside}
use Rattle.vob_flow.proofs.FirstLemmas.{all_at}
use Rattle.vob_flow.proofs.PartsLemmas.{has_is}
use Rattle.vob_flow.specs.Lists.{has}
use Rattle.vob_lr.specs.Becoming.{AreDone}
use Rattle.vob_lr.specs.Conflicts.{HasAction, HasActionAt, IsConflict, MayTake, action_count}
use Rattle.vob_lr.specs.Languages.{IsLalr}
use Rattle.vob_lr.specs.Faults.{IsRuleOf, IsSymbol, IsWellFormed}
use Rattle.vob_lr.specs.Grammar.{BeginsWith}
use Rattle.vob_lr.specs.Grammar.BeginsWith.{here, by_rule, behind}
use Rattle.vob_lr.specs.Lookaheads.{HasMove, LooksAhead, Machine}
use Rattle.vob_lr.specs.Lookaheads.LooksAhead.{begins, passes, keeps}
use Rattle.vob_lr.specs.States.{AreStates}
use Rattle.vob_lr.specs.Tables.{TableView, action_of, chosen}
use Rattle.vob_lr.specs.declared.grammar.Symbol.{Symbol}
use Rattle.vob_lr.specs.declared.grammar.Symbol.TheVariants.{Terminal}
use Rattle.vob_lr.specs.declared.table.Action.{Action}
use Rattle.vob_lr.specs.declared.table.Action.TheVariants.{Reduce, Shift}
use Rattle.vob_lr.specs.declared.table.Cell.{Cell}
use Rattle.vob_lr.specs.declared.table.Conflict.{Conflict}
use Rattle.vob_lr.proofs.MemberLemmas.{ahead_inside, move_leads}

-- ---- one action is the one that is chosen

one_rule : (shift : Option ℕ) (rules : List ℕ) (r : ℕ) → ¬ (1 < action_count shift rules) →
    Contains rules r → chosen shift rules ≡ Some (Reduce r)
one_rule (Some p) rules r one (k, less, is) = absurd (one (omega (arith, less)))
one_rule None [] r one (k, less, is) = absurd (omega (arith, less))
one_rule None (s ∷ []) r one (zero, less, is) = ap (λ n. Some (Reduce n)) is
one_rule None (s ∷ []) r one (suc k, less, is) = absurd (omega (arith, less))
one_rule None (s ∷ t ∷ rules) r one there = absurd (one (omega arith))

-- ---- what isn't absent is there

some_there : (shift : Option ℕ) (p : ℕ) → ¬ ¬ (shift ≡ Some p) → shift ≡ Some p
some_there None p there = absurd (there (λ same. none-some p same))
some_there (Some q) p there = elim (cases_eq q p) [
  | inl same ↦ ap Some same
  | inr other ↦ absurd (there (λ same. other (same_Some q p same)))
]

contained_there : (rules : List ℕ) (r : ℕ) → ¬ ¬ Contains rules r → Contains rules r
contained_there rules r there = elim (cases_Bool (has rules r)) [
  | inl on ↦ (has_is rules r).0 on
  | inr off ↦ absurd (there (λ own. false≢true (sym off ∙ (has_is rules r).1 own)))
]

-- ---- lookaheads and moves are by terminals of the grammar

module _ (m : Machine) (states : AreStates m.grammar.rules.items m.sets m.moves)
    (sound : IsWellFormed m.grammar) where
  abbrev IsOwn : Symbol → Type 0
  IsOwn = IsSymbol m.grammar.terminals m.grammar.nonterminals

  begins_inside : {t : ℕ} {xs : List Symbol} → BeginsWith m.grammar.rules.items t xs →
      All IsOwn xs → t < m.grammar.terminals
  begins_inside {t} (here {rest}) own = All-head IsOwn (Terminal t) rest own
  begins_inside {t} (by_rule {a} {right} {rest} (rule, there, left, is) b) own =
      begins_inside b (subst (λ (ys : List Symbol). All IsOwn ys) is
      (All-contains (IsRuleOf m.grammar) m.grammar.rules.items rule sound there).1)
  begins_inside {t} (behind {x} {rest} empty b) own =
      begins_inside b (All-tail IsOwn x rest own)

  pub ahead_terminal : {t q i : ℕ} → LooksAhead m t q i → t < m.grammar.terminals
  ahead_terminal (begins {rest = rest} own next st opens) =
      let item = next.next.item in
      let rule = next.next.is.rule in
      let whole = all_at (IsRuleOf m.grammar) m.grammar.rules.items sound item.rule rule
      next.next.is.is in
      begins_inside st (subst (λ (ys : List Symbol). All IsOwn ys) next.then_rest
      (All-drop IsOwn (item.dot + 1) rule.right.items whole.1))
  ahead_terminal (passes l next empty opens) = ahead_terminal l
  ahead_terminal (keeps l next move) = ahead_terminal l

  pub move_inside : (q : ℕ) (x : Symbol) (p : ℕ) → HasMove m.moves q x p → q < length m.sets
  move_inside q x p (k, less, is) = elim (cases_lt q (length m.moves)) [
    | inl low ↦ omega (arith, low, states.count)
    | inr past ↦ absurd (omega (arith, less, ap length (get_or_past m.moves q [] past)))
  ]

  pub move_terminal : (q t p : ℕ) → HasMove m.moves q (Terminal t) p → t < m.grammar.terminals
  move_terminal q t p move =
      let (i, own, next) = (move_leads m states q (Terminal t) p (move_inside q (Terminal t) p move)
      move).ahead in
      let rule = all_at (IsRuleOf m.grammar) m.grammar.rules.items sound next.item.rule next.is.rule
      next.is.is in
      all_at IsOwn next.is.rule.right.items rule.1 next.item.dot (Terminal t) next.next

module _ (table : TableView) (h : IsLalr table) where
  abbrev m : Machine
  m = table.machine

  cell_there : (q t : ℕ) → q < length m.sets → t < m.grammar.terminals →
      (cell : Cell) × (slice_get (get_or table.cells q []) t ≡ Some cell)
  cell_there q t low inside =
      let sound = h.sound.actions in
      let long = sound.long q [] (omega (arith, low, sound.count)) in
      elim (slice_get_cases (get_or table.cells q []) t).1 [
        | inl (cell, less, is, at) ↦ (cell, is)
        | inr past ↦ absurd (omega (arith, inside, long, past.0))
      ]

  -- a cell has what it may, since nothing is left out
  has_all : (q t : ℕ) (action : Action) (cell : Cell) → MayTake m q t action →
      slice_get (get_or table.cells q []) t ≡ Some cell → ¬ ¬ HasAction cell action
  has_all q t action cell may is none =
      let place : Conflict = record { state = q; terminal = t } in
      let out : ¬ HasActionAt table.cells q t action = λ (own, there, has).
      none (subst (λ (x : Cell). HasAction x action) (same_Some own cell (sym there ∙ is)) has) in
      let (k, less, at) = (h.decided.each place).1 (action, (may, out)) in
      omega (arith, less)

  no_conflict : (q t : ℕ) (cell : Cell) → slice_get (get_or table.cells q []) t ≡ Some cell →
      ¬ IsConflict cell
  no_conflict q t cell is more =
      let place : Conflict = record { state = q; terminal = t } in
      let (k, less, at) = (h.conflicts.each place).1 (cell, is, more) in
      omega (arith, less)

  pub AreDone-of : AreDone table.machine table.cells
  AreDone-of = record {
    shifts = λ q t p move.
        let (cell, at) = cell_there q t (move_inside m h.sound.states h.sound.rules q (Terminal t) p move)
        (move_terminal m h.sound.states h.sound.rules q t p move) in
        let shift = some_there cell.shift p (has_all q t (Shift p) cell move at) in
        ap action_of at ∙ ap (λ s. chosen s cell.reduces.items) shift;
    reduces = λ q t r reduce.
        let (i, complete, ahead) = reduce in
        let (cell, at) = cell_there q t (set_inside m.sets q i (ahead_inside m h.sound.states ahead))
        (ahead_terminal m h.sound.states h.sound.rules ahead) in
        let there = contained_there cell.reduces.items r (has_all q t (Reduce r) cell reduce at) in
        ap action_of at ∙ one_rule cell.shift cell.reduces.items r (no_conflict q t cell at) there;
  }
