-- Whatever can stand behind tokens is expected.
use Rattle.std.proofs.Common.{◌≡◌, ℕ, ◌+◌, ◌<◌, ◌≤◌, ◌≢◌, ◌↔◌, inl, inr, Bool, true, false, List, [], ◌∷◌, ◌++◌, get_or, length, refl, sym, ap, ◌∙◌, subst, arith, None, Option, Some}
use Rattle.std.proofs.lemmas.List.{get_or_append_left, get_or_past, get_or-append-add, length-append, nil_from_length}
use Rattle.std.proofs.lemmas.Option.{slice_get_past}
use Rattle.std.proofs.lemmas.Bool.{cases_eq, cases_lt}
use Rattle.std.specs.Option.{is_some}
use Rattle.vob.specs.Bits.{IsWritten}
use Rattle.vob_block.specs.Packing.{item}
use Rattle.vob_lr.specs.Expected.{Acts, AreTerminals, ExpectedAreAll, HasRead}
use Rattle.vob_lr.specs.Expected.HasRead.{nothing, shifts}
use Rattle.vob_lr.specs.Languages.{IsLalr}
use Rattle.vob_lr.specs.Parses.{Config, IsAccepted, IsReached, Steps, beginning, top}
use Rattle.vob_lr.specs.Parses.IsReached.{begins, then_steps}
use Rattle.vob_lr.specs.Stops.{IsSound}
use Rattle.vob_lr.specs.Tables.{TableView, chosen_at, action_of}
use Rattle.vob_lr.specs.declared.table.Action.{Action}
use Rattle.vob_lr.specs.declared.table.Cell.{Cell}
use Rattle.vob_lr.specs.declared.table.Action.TheVariants.{Shift}
use Rattle.vob_lr.proofs.FateLemmas.{accepted_stays, begun, one_way, stays}
use Rattle.vob_lr.proofs.LanguageLemmas.{accepts, reached_same, step_reads, step_same}

-- a parser that has read tokens has read them whatever stands behind
reached_on : (table : TableView) (tokens ts : List ℕ) →
    ((k : ℕ) → k < length tokens → get_or tokens k 0 ≡ get_or ts k 0) → length tokens ≤ length ts →
    {c : Config} → HasRead table tokens c → IsReached table ts c × (c.read ≡ length tokens)
reached_on table tokens ts same long (nothing none is) =
    (begins is, ap (λ (e : Config). e.read) is ∙ sym (ap (λ (l : List ℕ). length l) none))
reached_on table tokens ts same long (shifts {c} {d} reached less step read) =
    let high : c.read < length ts = omega (arith, less, long) in
    let alike = λ (k : ℕ) (within : k ≤ c.read). same k (omega (arith, within, less)) in (
      then_steps (reached_same table c.read tokens ts less high alike reached (omega arith))
          (step_same table c.read tokens ts less high alike c d (omega arith) step),
      read,
    )

-- an action stands where a step is taken
step_acts : (table : TableView) (ts : List ℕ) (c d : Config) → Steps table ts c d → (n t : ℕ) → c.read ≡ n →
    get_or ts n 0 ≡ t → Acts table (top c.states) t
step_acts table ts c d step n t read ahead = (
  step.action,
  sym (ap (λ (k : ℕ). chosen_at table.cells (top c.states) k) (ap (λ (k : ℕ). get_or ts k 0) read ∙ ahead)) ∙ step.is,
)

-- on the way to where a parser accepts an action stands, and there
module _ (table : TableView) (h : IsLalr table) (ts : List ℕ) (a : Config) (there : IsReached table ts a)
    (accepted : IsAccepted table ts a) (c : Config) (reached : IsReached table ts c) (n t : ℕ)
    (read : c.read ≡ n) (ahead : get_or ts n 0 ≡ t) where
  same_acts : a ≡ c → Acts table (top c.states) t
  same_acts is =
      let own = subst (λ (e : Config). IsAccepted table ts e) is accepted in (
        Shift own.state,
        sym (ap (λ (k : ℕ). chosen_at table.cells (top c.states) k)
            (ap (λ (k : ℕ). get_or ts k 0) read ∙ ahead)) ∙ own.is,
      )

  acts_there : Acts table (top c.states) t
  acts_there =
      elim (one_way table ts h.sound.states reached there) [
        | inl leads ↦
            elim (begun table ts h.sound.states leads) [
              | inl same ↦ same_acts (sym same)
              | inr more ↦ step_acts table ts c more.0 more.1 n t read ahead
            ]
        | inr leads ↦ same_acts (stays table ts h.sound.states leads (accepted_stays table ts h.sound.states a accepted))
      ]

pub expected_are_all : ExpectedAreAll
expected_are_all table h tokens c has = (
  (λ s.
      let (parsed, a) = accepts table h tokens s in
      let (reached, read) = reached_on table tokens tokens (λ k less. refl) (omega arith) has in
      acts_there table h tokens a.config a.reached a.accepted c reached (length tokens) 0 read
      (get_or_past tokens (length tokens) 0 (omega arith))),
  (λ t more s.
      let ts = tokens ++ t ∷ more in
      let (parsed, a) = accepts table h ts s in
      let long = length-append tokens (t ∷ more) in
      let same = λ (k : ℕ) (less : k < length tokens). sym (get_or_append_left tokens (t ∷ more) 0 k less) in
      let (reached, read) = reached_on table tokens ts same (omega (arith, long)) has in
      let ahead = sym (ap (λ (k : ℕ). get_or ts k 0) (plus_zero (length tokens)))
      ∙ get_or-append-add tokens (t ∷ more) 0 0 in
      acts_there table h ts a.config a.reached a.accepted c reached (length tokens) t read ahead),
)
  where
    plus_zero : (n : ℕ) → n + 0 ≡ n
    plus_zero n = omega arith

-- a parser that begins has read what is nothing
pub read_at_once : (table : TableView) (tokens : List ℕ) (c : Config) → c ≡ beginning → length tokens ≤ c.read →
    HasRead table tokens c
read_at_once table tokens c is all =
    nothing (nil_from_length tokens (omega (arith, all, ap (λ (e : Config). e.read) is))) is

-- one that steps past the last token has read it just now
pub read_now : (table : TableView) (tokens : List ℕ) {c d : Config} → IsReached table tokens c →
    c.read < length tokens → Steps table tokens c d → length tokens ≤ d.read → HasRead table tokens d
read_now table tokens {c} {d} reached less step all =
    shifts reached less step (omega (arith, less, all, (step_reads table tokens c d step.action step.taken).1))

-- ---- a bit for each terminal

-- bits tell P below n
pub record TellBelow (P : ℕ → Type 0) (bits : List Bool) (n : ℕ) : Type 0 where
  pub each : (t : ℕ) → (item bits t ≡ true) ↔ ((t < n) × P t)

pub tell_none : (P : ℕ → Type 0) (bits : List Bool) → ((t : ℕ) → item bits t ≡ false) → TellBelow P bits 0
tell_none P bits none = record {
  each = λ t. (
    (λ is. absurd (cc (is, none t))),
    (λ (p : (t < 0) × P t). absurd (omega (arith, p.0))),
  );
}

pub tell_next : (P : ℕ → Type 0) (bits next : List Bool) (n : ℕ) (has : Bool) → TellBelow P bits n →
    IsWritten bits n has next → (has ≡ true) ↔ P n → TellBelow P next (n + 1)
tell_next P bits next n has so w is = record {
  each = λ t. elim (cases_eq t n) [
    | inl same ↦ (
      (λ set. (omega (arith, same), subst P (sym same) (is.0 (sym w.there ∙ ap (λ (k : ℕ). item next k) (sym same) ∙ set)))),
      (λ (p : (t < n + 1) × P t). ap (λ (k : ℕ). item next k) same ∙ w.there ∙ is.1 (subst P same p.1)),
    )
    | inr other ↦ (
      (λ set.
          let before = (so.each t).0 (sym (w.others t other) ∙ set) in
          (omega (arith, before.0), before.1)),
      (λ (p : (t < n + 1) × P t).
          let less : t < n = below_other t n p.0 other in
          w.others t other ∙ (so.each t).1 (less, p.1)),
    )
  ];
}
  where
    below_other : (t n : ℕ) → t < n + 1 → t ≢ n → t < n
    below_other t n less other = omega (arith, less, other)

no_cell : (table : TableView) → IsSound table → (q t : ℕ) (action : Action) → table.machine.grammar.terminals ≤ t →
    chosen_at table.cells q t ≡ Some action → ⊥
no_cell table sound q t action past is =
    let none = ap action_of (slice_get_past (get_or table.cells q []) t (short q)) in
    absurd (cc (none, is))
  where
    short : (q : ℕ) → length (get_or table.cells q []) ≤ t
    short q =
        elim (cases_lt q (length table.cells)) [
          | inl less ↦ omega (arith, sound.actions.long q [] less, past)
          | inr beyond ↦ omega (arith, ap (λ (row : List Cell). length row) (get_or_past table.cells q [] beyond))
        ]

-- an action stands for terminals alone
acts_inside : (table : TableView) → IsSound table → (q t : ℕ) → Acts table q t → t < table.machine.grammar.terminals
acts_inside table sound q t (action, is) = elim (cases_lt t table.machine.grammar.terminals) [
  | inl less ↦ less
  | inr past ↦ absurd (no_cell table sound q t action past is)
]

pub tell_all : (table : TableView) → IsSound table → (q : ℕ) (bits : List Bool) →
    length bits ≡ table.machine.grammar.terminals →
    TellBelow (Acts table q) bits table.machine.grammar.terminals → AreTerminals table (Acts table q) bits
tell_all table sound q bits long so = record {
  long = long;
  each = λ t. (
    (λ set. ((so.each t).0 set).1),
    (λ acts. (so.each t).1 (acts_inside table sound q t acts, acts)),
  );
}

-- an action that is there stands for the terminal
pub some_acts : (table : TableView) (q t : ℕ) (action : Option Action) (has : Bool) →
    action ≡ chosen_at table.cells q t → has ≡ is_some action → (has ≡ true) ↔ Acts table q t
some_acts table q t None has is so = ((λ yes. absurd (cc (yes, so))), (λ acts. absurd (cc (acts.1, is))))
some_acts table q t (Some a) has is so = ((λ yes. (a, sym is)), (λ acts. so))
