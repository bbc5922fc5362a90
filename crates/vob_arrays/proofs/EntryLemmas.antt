-- What the entries of a table's arrays say.
use Rattle.std.proofs.Common.{◌≡◌, ◌≢◌, ◌↔◌, ℕ, ◌+◌, ◌*◌, ◌/◌, ◌%◌, ◌<◌, ◌≤◌, List, [], ◌∷◌, length, get_or, None, Option, Some, slice_get, refl, sym, ap, ◌∙◌, subst, inl, inr, arith}
use Rattle.std.specs.Option.{IfNone, IfSome}
use Rattle.std.proofs.lemmas.Bool.{cases_lt}
use Rattle.std.proofs.lemmas.List.{get_or_past}
use Rattle.std.proofs.lemmas.Option.{none-some, same_Some, slice_get_past}
use Rattle.vob_lr.specs.Accepting.{Accepts}
use Rattle.vob_lr.specs.Lookaheads.{HasMove}
use Rattle.vob_lr.specs.Stops.{IsSound}
use Rattle.vob_lr.specs.Tables.{TableView, action_of, chosen, chosen_at}
use Rattle.vob_lr.specs.declared.grammar.Symbol.TheVariants.{Nonterminal}
use Rattle.vob_lr.specs.declared.state.Move.{Move}
use Rattle.vob_lr.specs.declared.table.Action.{Action}
use Rattle.vob_lr.specs.declared.table.Action.TheVariants.{Accept, Reduce, Shift}
use Rattle.vob_lr.specs.declared.table.Cell.{Cell}
use Rattle.vob_arrays.specs.Arrays.{HasEntry, IsActionAt, IsCode, IsEntry, IsTableOf}
use Rattle.vob_arrays.specs.Views.{TableArrays}

-- ---- the number of an action

-- is one
code_same : (table : TableView) (q t : ℕ) (action : Action) (a b : ℕ) → IsCode table q t action a →
    IsCode table q t action b → a ≡ b
code_same table q t (Shift p) a b one other = elim one as (λ _. a ≡ b) [
  | inl (on, is) ↦ elim other as (λ _. a ≡ b) [
    | inl (_, also) ↦ is ∙ sym also
    | inr (off, _) ↦ absurd (off on)
  ]
  | inr (off, is) ↦ elim other as (λ _. a ≡ b) [
    | inl (on, _) ↦ absurd (off on)
    | inr (_, also) ↦ is ∙ sym also
  ]
]
code_same table q t (Reduce r) a b one other = one ∙ sym other
code_same table q t Accept a b one other = absurd one

pub action_same : (table : TableView) (q t a b : ℕ) → IsActionAt table q t a → IsActionAt table q t b → a ≡ b
action_same table q t a b one other =
    let same = same_Some one.action other.action (sym one.is ∙ other.is) in
    code_same table q t other.action a b
    (subst (λ (x : Action). IsCode table q t x a) same one.code) other.code

-- it says what the action is
read_code : (table : TableView) (q t : ℕ) (action : Action) (a : ℕ) → IsCode table q t action a →
    (a % 4 ≡ 1 → action ≡ Reduce (a / 4)) × (a % 4 ≢ 1 → action ≡ Shift (a / 4))
read_code table q t (Shift p) a code =
    let either : (a % 4 ≢ 1) × (p ≡ a / 4) =
    elim code as (λ _. (a % 4 ≢ 1) × (p ≡ a / 4)) [
      | inl (_, is) ↦ ((λ one. omega (arith, is, one)), omega (arith, is))
      | inr (_, is) ↦ ((λ one. omega (arith, is, one)), omega (arith, is))
    ] in
    ((λ one. absurd (either.0 one)), (λ _. ap Shift either.1))
read_code table q t (Reduce r) a code =
    let same : r ≡ a / 4 = omega (arith, code) in
    ((λ _. ap Reduce same), (λ other. absurd (other (omega (arith, code)))))
read_code table q t Accept a code = absurd code

pub chosen_reduce : (table : TableView) (q t a : ℕ) → IsActionAt table q t a → a % 4 ≡ 1 →
    chosen_at table.cells q t ≡ Some (Reduce (a / 4))
chosen_reduce table q t a at one =
    at.is ∙ ap Some ((read_code table q t at.action a at.code).0 one)

pub chosen_shift : (table : TableView) (q t a : ℕ) → IsActionAt table q t a → a % 4 ≢ 1 →
    chosen_at table.cells q t ≡ Some (Shift (a / 4))
chosen_shift table q t a at other =
    at.is ∙ ap Some ((read_code table q t at.action a at.code).1 other)

-- ---- no action

-- nothing that is chosen accepts
no_accept : (shift : Option ℕ) (rules : List ℕ) → chosen shift rules ≡ Some Accept → ⊥
no_accept (Some p) rules is = cc
no_accept None [] is = cc
no_accept None (r ∷ rules) is = cc

no_accept_of : (cell : Option Cell) → action_of cell ≡ Some Accept → ⊥
no_accept_of None is = cc
no_accept_of (Some cell) is = no_accept cell.shift cell.reduces.items is

-- without a number nothing is chosen
none_of : (table : TableView) (q t : ℕ) (o : Option Action) → chosen_at table.cells q t ≡ o →
    ((a : ℕ) → ¬ IsActionAt table q t a) → o ≡ None
none_of table q t None is none = refl
none_of table q t (Some (Shift p)) is none =
    let off : ¬ Accepts table q t =
    λ on. none (4 * p + 2) (record { action = Shift p; is = is; code = inl (on, refl) }) in
    absurd (none (4 * p) (record { action = Shift p; is = is; code = inr (off, refl) }))
none_of table q t (Some (Reduce r)) is none =
    absurd (none (4 * r + 1) (record { action = Reduce r; is = is; code = refl }))
none_of table q t (Some Accept) is none =
    absurd (no_accept_of (slice_get (get_or table.cells q []) t) is)

pub chosen_none : (table : TableView) (q t : ℕ) → ((a : ℕ) → ¬ IsActionAt table q t a) →
    chosen_at table.cells q t ≡ None
chosen_none table q t none = none_of table q t (chosen_at table.cells q t) refl none

-- ---- where a parser accepts

accepts_by : (table : TableView) (q t a : ℕ) (action : Action) → chosen_at table.cells q t ≡ Some action →
    IsCode table q t action a → (a % 4 ≡ 2) ↔ Accepts table q t
accepts_by table q t a (Shift p) is code = elim code as (λ _. (a % 4 ≡ 2) ↔ Accepts table q t) [
  | inl (on, two) ↦ ((λ _. on), (λ _. omega (arith, two)))
  | inr (off, zero) ↦ ((λ two. absurd (omega (arith, two, zero))), (λ on. absurd (off on)))
]
accepts_by table q t a (Reduce r) is code = (
  (λ two. absurd (omega (arith, two, code))),
  (λ on.
      let same = same_Some (Reduce r) (Shift on.state) (sym is ∙ on.shifts) in absurd (cc)),
)
accepts_by table q t a Accept is code = absurd code

pub accepts_coded : (table : TableView) (q t a : ℕ) → IsActionAt table q t a →
    (a % 4 ≡ 2) ↔ Accepts table q t
accepts_coded table q t a at = accepts_by table q t a at.action at.is at.code

pub accepts_not : (table : TableView) (q t : ℕ) → ((a : ℕ) → ¬ IsActionAt table q t a) → ¬ Accepts table q t
accepts_not table q t none = λ on.
    none-some (Shift on.state) (sym (chosen_none table q t none) ∙ on.shifts)

-- ---- entries

module _ (table : TableView) (arrays : TableArrays) (of : IsTableOf table arrays) where
  -- those at terminals are of actions
  pub terminal_is : (q t a : ℕ) → t < arrays.terminals → HasEntry arrays q t a ↔ IsActionAt table q t a
  terminal_is q t a low = (
    (λ e. elim ((of.entries q t a).0 e) as (λ _. IsActionAt table q t a) [
      | inl (_, at) ↦ at
      | inr move ↦ absurd (omega (arith, low, of.terminals, move.symbol))
    ]),
    (λ at. (of.entries q t a).1 (inl (omega (arith, low, of.terminals), at))),
  )

  -- no action is at what is no terminal
  pub no_terminal : (q t a : ℕ) → arrays.terminals ≤ t → ¬ IsActionAt table q t a
  no_terminal q t a past = λ at.
      let row = get_or table.cells q [] in
      let short : length row ≤ t =
      elim (cases_lt q (length table.cells)) as (λ _. length row ≤ t) [
        | inl low ↦ omega (arith, past, of.terminals, of.sound.actions.long q [] low)
        | inr high ↦ omega (arith, ap (λ (cells : List Cell). length cells) (get_or_past table.cells q [] high))
      ] in
      none-some at.action (sym (ap action_of (slice_get_past row t short)) ∙ at.is)

  -- those at the symbol of a nonterminal are of moves
  pub move_of : (q n x a : ℕ) → x ≡ arrays.terminals + n → HasEntry arrays q x a →
      HasMove table.machine.moves q (Nonterminal n) (a / 4)
  move_of q n x a symbol e =
      elim ((of.entries q x a).0 e) as (λ _. HasMove table.machine.moves q (Nonterminal n) (a / 4)) [
        | inl (low, _) ↦ absurd (omega (arith, low, symbol, of.terminals))
        | inr move ↦
            let same : move.nonterminal ≡ n = omega (arith, symbol, of.terminals, move.symbol) in
            let to : move.state ≡ a / 4 = omega (arith, move.action) in
            subst (λ (m : ℕ). HasMove table.machine.moves q (Nonterminal m) (a / 4)) same
            (subst (λ (p : ℕ). HasMove table.machine.moves q (Nonterminal move.nonterminal) p) to move.move)
      ]

  pub no_move : (q n x : ℕ) → x ≡ arrays.terminals + n → ((a : ℕ) → ¬ HasEntry arrays q x a) →
      (p : ℕ) → ¬ HasMove table.machine.moves q (Nonterminal n) p
  no_move q n x symbol none p = λ move.
      none (4 * p) ((of.entries q x (4 * p)).1 (inr (record {
        nonterminal = n;
        state = p;
        symbol = omega (arith, symbol, of.terminals);
        move = move;
        action = refl;
      })))

-- what a search found is what there is
pub found_is : (r : Option ℕ) (H A : ℕ → Type 0) → IfSome r H → IfNone r ((a : ℕ) → ¬ H a) →
    ((a : ℕ) → H a ↔ A a) → ((a b : ℕ) → A a → A b → a ≡ b) → (a : ℕ) → (r ≡ Some a) ↔ A a
found_is None H A some none same one a =
    ((λ is. absurd (none-some a is)), (λ own. absurd (none a ((same a).1 own))))
found_is (Some b) H A some none same one a = (
  (λ is. subst A (same_Some b a is) ((same b).0 some)),
  (λ own. ap Some (one b a ((same b).0 some) own)),
)

-- there is no entry of what is no state
pub no_entry : (table : TableView) → IsSound table → (q x a : ℕ) → length table.machine.sets ≤ q →
    ¬ IsEntry table q x a
no_entry table sound q x a past = λ e. elim e as (λ _. ⊥) [
  | inl (_, at) ↦
      let none = get_or_past table.cells q [] (omega (arith, past, sound.actions.count)) in
      none-some at.action (ap (λ (row : List Cell). action_of (slice_get row x)) (sym none) ∙ at.is)
  | inr move ↦
      let none = get_or_past table.machine.moves q [] (omega (arith, past, sound.states.count)) in
      let (k, low, _) = move.move in
      omega (arith, low, ap (λ (row : List Move). length row) none)
]
