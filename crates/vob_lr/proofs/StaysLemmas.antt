-- An action that a table chooses is one that precedence leaves.
use Rattle.std.proofs.Common.{◌≡◌, ◌<◌, ◌⊎◌, ℕ, zero, suc, inl, inr, List, [], ◌∷◌, length, refl, None, Option, Some, sym, ap, ◌∙◌, subst, arith, get_or, slice_get}
use Rattle.std.specs.List.{Contains}
use Rattle.std.proofs.lemmas.Option.{get_or_from_slice_get, none-some, slice_get_cases}
use Rattle.vob_lr.specs.Lookaheads.{HasMove, Machine, Reduces}
use Rattle.vob_lr.specs.Nesting.{RuleStays, ShiftStays}
use Rattle.vob_lr.specs.Precedences.{against, left_of, resolved}
use Rattle.vob_lr.specs.Tables.{AreRowsOfCells, IsCell, chosen_at, action_of, chosen, stays_at}
use Rattle.vob_lr.specs.declared.grammar.Symbol.TheVariants.{Terminal}
use Rattle.vob_lr.specs.declared.precedence.Stays.{Stays}
use Rattle.vob_lr.specs.declared.precedence.Stays.TheVariants.{Shift as TheShift, Rule as TheRule, Nothing, Both}
use Rattle.vob_lr.specs.declared.precedence.Precedence.{Precedence}
use Rattle.vob_lr.specs.declared.table.Action.{Action}
use Rattle.vob_lr.specs.declared.table.Action.TheVariants.{Reduce, Shift}
use Rattle.vob_lr.specs.declared.table.Cell.{Cell}
use Rattle.vob_lr.proofs.SoundLemmas.{acts, chosen_shift}

-- ---- a shift that is left, against each rule

against_shift : (s : Stays) (r : ℕ) (rs : List ℕ) (rest : Option ℕ × List ℕ) (p : ℕ) →
    (against s r rs rest).0 ≡ Some p → ShiftStays s × (rest.0 ≡ Some p)
against_shift TheRule r rs rest p same = absurd (none-some p same)
against_shift TheShift r rs rest p same = (tt, same)
against_shift Nothing r rs rest p same = absurd (none-some p same)
against_shift Both r rs (None, []) p same = absurd (none-some p same)
against_shift Both r rs (None, s ∷ ss) p same = absurd (none-some p same)
against_shift Both r rs (Some q, ss) p same = (tt, same)

left_shift : (which : ℕ → Stays) (p q : ℕ) (rules : List ℕ) → (left_of which p rules).0 ≡ Some q → (r : ℕ) →
    Contains rules r → ShiftStays (which r)
left_shift which p q [] same r (k, less, is) = absurd (omega (arith, less))
left_shift which p q (s ∷ rules) same r (zero, less, is) =
    subst (λ (n : ℕ). ShiftStays (which n)) is
    (against_shift (which s) s rules (left_of which p rules) q same).0
left_shift which p q (s ∷ rules) same r (suc k, less, is) =
    left_shift which p q rules (against_shift (which s) s rules (left_of which p rules) q same).1 r
    (k, omega (arith, less), is)

resolved_shift : (which : ℕ → Stays) (shift : Option ℕ) (q : ℕ) (rules : List ℕ) →
    (resolved which shift rules).0 ≡ Some q → (r : ℕ) → Contains rules r → ShiftStays (which r)
resolved_shift which None q rules same r there = absurd (none-some q same)
resolved_shift which (Some p) q rules same r there = left_shift which p q rules same r there

-- ---- a rule that is chosen, against a shift

abbrev choice : Option ℕ × List ℕ → Option Action
choice left = chosen left.0 left.1

against_rule : (s : Stays) (n : ℕ) (rs : List ℕ) (rest : Option ℕ × List ℕ) (r : ℕ) →
    choice (against s n rs rest) ≡ Some (Reduce r) → (RuleStays s × (n ≡ r)) ⊎ (choice rest ≡ Some (Reduce r))
against_rule TheRule n rs rest r same = inl (tt, cc)
against_rule TheShift n rs rest r same = inr same
against_rule Nothing n rs rest r same = absurd (none-some (Reduce r) same)
against_rule Both n rs (None, []) r same = absurd (none-some (Reduce r) same)
against_rule Both n rs (None, s ∷ ss) r same = inl (tt, cc)
against_rule Both n rs (Some q, ss) r same = absurd (cc)

left_rule : (which : ℕ → Stays) (p : ℕ) (rules : List ℕ) (r : ℕ) →
    choice (left_of which p rules) ≡ Some (Reduce r) → RuleStays (which r)
left_rule which p [] r same = absurd (cc)
left_rule which p (n ∷ rules) r same = elim (against_rule (which n) n rules (left_of which p rules) r same) [
  | inl own ↦ subst (λ (k : ℕ). RuleStays (which k)) own.1 own.0
  | inr later ↦ left_rule which p rules r later
]

-- ---- what stays is chosen

against_keeps : (s : Stays) (r : ℕ) (rs : List ℕ) (rest : Option ℕ × List ℕ) (p : ℕ) → ShiftStays s →
    rest.0 ≡ Some p → (against s r rs rest).0 ≡ Some p
against_keeps TheRule r rs rest p stays same = absurd stays
against_keeps TheShift r rs rest p stays same = same
against_keeps Nothing r rs rest p stays same = absurd stays
against_keeps Both r rs (None, ss) p stays same = absurd (none-some p same)
against_keeps Both r rs (Some q, ss) p stays same = same

left_keeps : (which : ℕ → Stays) (p : ℕ) (rules : List ℕ) →
    ((r : ℕ) → Contains rules r → ShiftStays (which r)) → (left_of which p rules).0 ≡ Some p
left_keeps which p [] stays = refl
left_keeps which p (r ∷ rules) stays =
    against_keeps (which r) r rules (left_of which p rules) p (stays r (0, omega arith, refl))
    (left_keeps which p rules (λ s there. stays s (behind s there)))
  where
    behind : (s : ℕ) → Contains rules s → Contains (r ∷ rules) s
    behind s (k, less, is) = (suc k, omega (arith, less), is)

-- a rule that is alone, and stays against a shift
alone_chosen : (which : ℕ → Stays) (shift : Option ℕ) (rules : List ℕ) (r : ℕ) → Contains rules r →
    ((s : ℕ) → Contains rules s → s ≡ r) → ((p : ℕ) → shift ≡ Some p → which r ≡ TheRule) →
    choice (resolved which shift rules) ≡ Some (Reduce r)
alone_chosen which shift [] r (k, less, is) one stays = absurd (omega (arith, less))
alone_chosen which None (s ∷ rules) r there one stays =
    ap (λ (n : ℕ). Some (Reduce n)) (one s (0, omega arith, refl))
alone_chosen which (Some p) (s ∷ rules) r there one stays =
    let same = one s (0, omega arith, refl) in
    ap (λ (w : Stays). choice (against w s rules (left_of which p rules))) (ap which same ∙ stays p refl)
    ∙ ap (λ (n : ℕ). Some (Reduce n)) same

module _ (m : Machine) (terminals rules : List (Option Precedence)) (cells : List (List Cell))
    (h : AreRowsOfCells m terminals rules (length m.sets) cells) where
  -- against a shift that is chosen each rule yields
  pub shift_left : (q t p r : ℕ) → chosen_at cells q t ≡ Some (Shift p) → Reduces m q t r →
      ShiftStays (stays_at terminals rules t r)
  shift_left q t p r same reduce =
      let (own, is, act) = acts m terminals rules cells h q t (Shift p) _ same refl in
      resolved_shift (stays_at terminals rules t) is.shift p is.reduces
      (sym (ap (λ both. both.0) is.left) ∙ chosen_shift own.shift own.reduces.items p act) r
      ((is.all.reduces.each r).1 reduce)

  -- and a rule that is chosen stays against a shift
  pub rule_left : (q t r p : ℕ) → chosen_at cells q t ≡ Some (Reduce r) → HasMove m.moves q (Terminal t) p →
      RuleStays (stays_at terminals rules t r)
  rule_left q t r p same move =
      let (own, is, act) = acts m terminals rules cells h q t (Reduce r) _ same refl in
      let shift = (is.all.shifts p).1 move in
      left_rule (stays_at terminals rules t) p is.reduces r
      (ap (λ s. choice (resolved (stays_at terminals rules t) s is.reduces)) (sym shift)
      ∙ ap choice (sym is.left) ∙ act)

  cell_at : (q t : ℕ) → q < length m.sets → t < m.grammar.terminals →
      (own : Cell) × IsCell m terminals rules q t own × (slice_get (get_or cells q []) t ≡ Some own)
  cell_at q t low inside =
      let row = get_or cells q [] in
      let own = h.each q (omega (arith, low, h.count)) in
      elim (slice_get_cases row t).1 [
        | inl (cell, less, is, at) ↦ (
          cell,
          subst (λ c. IsCell m terminals rules q t c) (get_or_from_slice_get row t cell cell is)
              (own.each t cell less),
          is,
        )
        | inr past ↦ absurd (omega (arith, inside, own.long, past.0))
      ]

  -- a shift is chosen that stays against each rule
  pub shift_chosen : (q t p : ℕ) → q < length m.sets → t < m.grammar.terminals →
      HasMove m.moves q (Terminal t) p →
      ((r : ℕ) → Reduces m q t r → ShiftStays (stays_at terminals rules t r)) →
      chosen_at cells q t ≡ Some (Shift p)
  shift_chosen q t p low inside move stays =
      let (own, is, at) = cell_at q t low inside in
      let which = stays_at terminals rules t in
      let shift = (is.all.shifts p).1 move in
      let left = left_keeps which p is.reduces (λ r there. stays r ((is.all.reduces.each r).0 there)) in
      let same : own.shift ≡ Some p = ap (λ both. both.0) is.left
      ∙ ap (λ s. (resolved which s is.reduces).0) shift ∙ left in
      ap action_of at ∙ ap (λ s. chosen s own.reduces.items) same

  -- and a rule that is alone there, and stays against a shift
  pub rule_chosen : (q t r : ℕ) → q < length m.sets → t < m.grammar.terminals → Reduces m q t r →
      ((s : ℕ) → Reduces m q t s → s ≡ r) →
      ((p : ℕ) → HasMove m.moves q (Terminal t) p → stays_at terminals rules t r ≡ TheRule) →
      chosen_at cells q t ≡ Some (Reduce r)
  rule_chosen q t r low inside reduce one stays =
      let (own, is, at) = cell_at q t low inside in
      let which = stays_at terminals rules t in
      ap action_of at ∙ ap choice is.left
      ∙ alone_chosen which is.shift is.reduces r ((is.all.reduces.each r).1 reduce)
      (λ s there. one s ((is.all.reduces.each s).0 there))
      (λ p same. stays p ((is.all.shifts p).0 same))
