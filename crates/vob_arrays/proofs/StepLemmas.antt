-- One step of a parser by the arrays of a table, and where it accepts.
use Rattle.std.proofs.Common.{◌≡◌, ◌≢◌, ◌↔◌, ℕ, ◌+◌, ◌<◌, ◌≤◌, List, drop, length, None, Some, slice_get, refl, sym, ap, ◌∙◌, subst, inl, inr, arith}
use Rattle.std.specs.Option.{option_map}
use Rattle.std.proofs.lemmas.List.{get_or_past, length-map}
use Rattle.std.proofs.lemmas.Option.{none-some, same_Some, slice_get-map, slice_get_cases, slice_get_within}
use Rattle.vob_lr.specs.Accepting.{Accepts}
use Rattle.vob_lr.specs.Lookaheads.{HasMove, Machine}
use Rattle.vob_lr.specs.Parses.{Config, IsAccepted, IsReplaced, IsTaken, Steps, action_in, replaced, top}
use Rattle.vob_lr.specs.Tables.{TableView, chosen_at}
use Rattle.vob_lr.specs.declared.grammar.Rule.{Rule}
use Rattle.vob_lr.specs.declared.grammar.Symbol.TheVariants.{Nonterminal}
use Rattle.vob_lr.specs.declared.table.Action.{Action}
use Rattle.vob_lr.specs.declared.table.Action.TheVariants.{Accept, Reduce, Shift}
use Rattle.vob_lr.specs.declared.parse.ParseError.TheVariants.{Memory, TooLong, Unexpected}
use Rattle.vob_arrays.specs.Arrays.{IsTableOf}
use Rattle.vob_arrays.specs.Drives.{IsStopBy}
use Rattle.vob_arrays.specs.Views.{TableArrays}
use Rattle.vob_arrays.specs.declared.error.ArraysError.{ArraysError}
use Rattle.vob_arrays.specs.declared.error.ArraysError.TheVariants.{NoTable, Parse}

-- ---- rules

module _ (table : TableView) (arrays : TableArrays) (of : IsTableOf table arrays) where
  abbrev rules : List Rule
  rules = table.machine.grammar.rules.items

  -- the length of a rule's right side
  length_is : (r : ℕ) (rule : Rule) → slice_get rules r ≡ Some rule →
      slice_get arrays.lengths r ≡ Some (length rule.right.items)
  length_is r rule is =
      ap (λ (ns : List ℕ). slice_get ns r) of.lengths
      ∙ slice_get-map (λ (x : Rule). length x.right.items) rules r
      ∙ ap (option_map (λ (x : Rule). length x.right.items)) is

  -- the symbol of its left side
  left_is : (r : ℕ) (rule : Rule) → slice_get rules r ≡ Some rule →
      slice_get arrays.left r ≡ Some (arrays.terminals + rule.left)
  left_is r rule is =
      ap (λ (ns : List ℕ). slice_get ns r) of.left
      ∙ slice_get-map (λ (x : Rule). table.machine.grammar.terminals + x.left) rules r
      ∙ ap (option_map (λ (x : Rule). table.machine.grammar.terminals + x.left)) is
      ∙ ap (λ (n : ℕ). Some (n + rule.left)) (sym of.terminals)

  -- what the arrays say of a rule
  pub rule_of : (r x n : ℕ) → slice_get arrays.left r ≡ Some x → slice_get arrays.lengths r ≡ Some n →
      (rule : Rule) × (slice_get rules r ≡ Some rule) × (x ≡ arrays.terminals + rule.left)
      × (n ≡ length rule.right.items)
  rule_of r x n left long = elim (slice_get_cases rules r).1
      as (λ _. (rule : Rule) × (slice_get rules r ≡ Some rule) × (x ≡ arrays.terminals + rule.left)
      × (n ≡ length rule.right.items)) [
        | inl (rule, low, is, same) ↦ (
          rule,
          is,
          same_Some x (arrays.terminals + rule.left) (sym left ∙ left_is r rule is),
          same_Some n (length rule.right.items) (sym long ∙ length_is r rule is),
        )
        | inr (past, none) ↦
            let low = slice_get_within arrays.lengths r n long in
            absurd (omega (
              arith,
              past,
              low,
              ap (λ (ns : List ℕ). length ns) of.lengths,
              length-map rules (λ (x : Rule). length x.right.items),
            ))
      ]

  -- each rule has a left side and a length
  pub rule_there : (r : ℕ) → r < length rules →
      ((x : ℕ) × (slice_get arrays.left r ≡ Some x)) × ((n : ℕ) × (slice_get arrays.lengths r ≡ Some n))
  rule_there r low = elim (slice_get_cases rules r).1
      as (λ _. ((x : ℕ) × (slice_get arrays.left r ≡ Some x)) × ((n : ℕ) × (slice_get arrays.lengths r ≡ Some n))) [
        | inl (rule, _, is, same) ↦
            ((arrays.terminals + rule.left, left_is r rule is), (length rule.right.items, length_is r rule is))
        | inr (past, none) ↦ absurd (omega (arith, past, low))
      ]

  -- a rule by which the table reduces is there
  pub reduce_there : (q t r : ℕ) → chosen_at table.cells q t ≡ Some (Reduce r) → r < length rules
  reduce_there q t r action =
      let (i, done, l) = of.sound.actions.reduces q t r action in
      omega (arith, done.rule, slice_get_within rules done.item.rule done.is.rule done.is.is)

  -- ---- where a parser accepts

  -- rule 0 is as long as the stack
  pub accepted_long : (tokens : List ℕ) (c : Config) → IsAccepted table tokens c →
      slice_get arrays.lengths 0 ≡ Some (length c.states)
  accepted_long tokens c a =
      let done = a.last.completes in
      let is = subst (λ (n : ℕ). slice_get rules n ≡ Some done.is.rule) done.rule done.is.is in
      length_is 0 done.is.rule is ∙ ap Some (sym done.dot ∙ a.last.whole)

  pub accepted_is : (tokens : List ℕ) (c : Config) → length tokens ≤ c.read →
      slice_get arrays.lengths 0 ≡ Some (length c.states) →
      Accepts table (top c.states) 0 ↔ IsAccepted table tokens c
  accepted_is tokens c past long =
      let last = get_or_past tokens c.read 0 past in (
        (λ on.
            let (i, done, there) = on.completes in
            let is = subst (λ (n : ℕ). slice_get rules n ≡ Some done.is.rule) done.rule done.is.is in
            let same = same_Some (length done.is.rule.right.items) (length c.states)
            (sym (length_is 0 done.is.rule is) ∙ long) in
            record {
              read = past;
              state = on.state;
              is = ap (chosen_at table.cells (top c.states)) last ∙ on.shifts;
              last = record { item = i; completes = done; there = there; whole = done.dot ∙ same };
            }),
        (λ a. record {
          is_end = refl;
          state = a.state;
          shifts = ap (chosen_at table.cells (top c.states)) (sym last) ∙ a.is;
          completes = (a.last.item, a.last.completes, a.last.there);
        }),
      )

-- ---- a reduction: states are left first, and another is entered then

module _ (m : Machine) (c mid : Config) (r n q : ℕ) (rule : Rule)
    (is : slice_get m.grammar.rules.items r ≡ Some rule) (count : n ≡ length rule.right.items)
    (left : mid ≡ record { states = drop n c.states; read = c.read; reduced = c.reduced })
    (at : q ≡ top mid.states) where
  -- the newest state that is left
  uncovered : q ≡ top (drop (length rule.right.items) c.states)
  uncovered =
      at ∙ ap (λ (e : Config). top e.states) left
      ∙ ap (λ (k : ℕ). top (drop k c.states)) count

  pub replaced_is : (p : ℕ) → HasMove m.moves q (Nonterminal rule.left) p →
      IsReplaced m r c (replaced r 0 p mid)
  replaced_is p move = record {
    rule = rule;
    is = is;
    state = p;
    move = subst (λ (k : ℕ). HasMove m.moves k (Nonterminal rule.left) p) uncovered move;
    after = ap (replaced r 0 p) left ∙ ap (λ (k : ℕ). replaced r k p c) count;
  }

  pub replaced_none : ((p : ℕ) → ¬ HasMove m.moves q (Nonterminal rule.left) p) → (d : Config) →
      ¬ IsReplaced m r c d
  replaced_none none d = λ to.
      let same = same_Some rule to.rule (sym is ∙ to.is) in
      let move = subst (λ (x : Rule).
      HasMove m.moves (top (drop (length x.right.items) c.states)) (Nonterminal x.left) to.state)
      (sym same) to.move in
      none to.state (subst (λ (k : ℕ). HasMove m.moves k (Nonterminal rule.left) to.state)
      (sym uncovered) move)

-- ---- no step

stuck_by : (table : TableView) (tokens : List ℕ) (c d : Config) (action : Action) →
    ((p : ℕ) → action ≡ Shift p → length tokens ≤ c.read) → ((r : ℕ) → action ≢ Reduce r) →
    ¬ IsTaken table.machine tokens c action d
stuck_by table tokens c d (Shift p) read other = λ (low, _). omega (arith, read p refl, low)
stuck_by table tokens c d (Reduce r) read other = λ _. other r refl
stuck_by table tokens c d Accept read other = λ taken. taken

-- there is none if nothing is chosen
pub no_step : (table : TableView) (tokens : List ℕ) (c : Config) → action_in table tokens c ≡ None →
    (d : Config) → ¬ Steps table tokens c d
no_step table tokens c none d = λ s. none-some s.action (sym none ∙ s.is)

-- nor if it is neither a reduction nor a token
pub no_action : (table : TableView) (tokens : List ℕ) (c : Config) (action : Action) →
    action_in table tokens c ≡ Some action → ((p : ℕ) → action ≡ Shift p → length tokens ≤ c.read) →
    ((r : ℕ) → action ≢ Reduce r) → (d : Config) → ¬ Steps table tokens c d
no_action table tokens c action is read other d = λ s.
    let same = same_Some s.action action (sym s.is ∙ is) in
    stuck_by table tokens c d action read other
    (subst (λ (a : Action). IsTaken table.machine tokens c a d) same s.taken)

-- a reduction that stops stops the parser
pub stop_reduced : (table : TableView) (tokens : List ℕ) (most : ℕ) (c : Config) (r : ℕ) →
    action_in table tokens c ≡ Some (Reduce r) → (error : ArraysError) →
    IsStopBy (IsReplaced table.machine r c) most c error → IsStopBy (Steps table tokens c) most c error
stop_reduced table tokens most c r is NoTable stop = absurd stop
stop_reduced table tokens most c r is (Parse Memory) stop = tt
stop_reduced table tokens most c r is (Parse (Unexpected n)) (read, none) = (
  read,
  (λ d s.
      let same = same_Some s.action (Reduce r) (sym s.is ∙ is) in
      none d (subst (λ (a : Action). IsTaken table.machine tokens c a d) same s.taken)),
)
stop_reduced table tokens most c r is (Parse TooLong) (d, to, more) =
    (d, record { action = Reduce r; is = is; taken = to }, more)
