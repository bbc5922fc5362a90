-- The lines of cells and of moves.
use Rattle.std.proofs.Common.{◌≡◌, ◌≢◌, ℕ, ◌<◌, ◌++◌, inl, inr, List, [], get_or, length, codes, Option, None, Some, slice_get, refl, ap, subst, arith}
use Rattle.std.specs.Prelude.{Contains, IfSome, slice_index_or}
use Rattle.std.specs.Io.KnownBytes.{Appends}
use Rattle.std.proofs.lemmas.Bool.{cases_lt}
use Rattle.std.proofs.lemmas.List.{get_or_past}
use Rattle.std.proofs.lemmas.List.Elements.{Contains-get_or}
use Rattle.std.proofs.lemmas.Option.{get_or_from_slice_get, slice_get_within}
use Rattle.vob_lr.specs.Entered.{IsEntered, IsLeft}
use Rattle.vob_lr.specs.Entered.IsEntered.{goes, start}
use Rattle.vob_lr.specs.ItemSets.InClosure.{inside}
use Rattle.vob_lr.specs.States.{IsMove}
use Rattle.vob_lr.specs.Stops.{IsSound}
use Rattle.vob_lr.specs.Tables.{TableView, chosen}
use Rattle.vob_lr.specs.Those.{AreThose}
use Rattle.vob_lr.specs.declared.grammar.Symbol.{Symbol}
use Rattle.vob_lr.specs.declared.grammar.Symbol.TheVariants.{Nonterminal, Terminal}
use Rattle.vob_lr.specs.declared.state.Move.{Move}
use Rattle.vob_lr.specs.declared.table.Cell.{Cell}
use Rattle.files_text.specs.Printed.{Writes, line_end}
use Rattle.files_grammar.specs.Rules.{terminal_name}
use Rattle.files_grammar.specs.ActionText.{SaysActions, SaysCell}
use Rattle.files_grammar.specs.StateText.{IsGoto}
use Rattle.files_grammar.specs.declared.file.SymbolNames.{SymbolNames}
use Rattle.files_grammar.proofs.ConflictLemmas.{shift_entered}
use Rattle.files_grammar.proofs.TextLemmas.{after, before, says_yes}

pub says_cell : (names : SymbolNames) (entered : List ℕ) (t : ℕ) (cell : Cell) (a b c d : Option (List ℕ)) →
    chosen cell.shift cell.reduces.items ≢ None → Appends a b (codes "  " ++ terminal_name names t) →
    Writes b c (SaysActions entered (codes ",") cell.shift cell.reduces.items) → Appends c d line_end →
    Writes a d (SaysCell names entered t cell)
says_cell names entered t cell a b c d some name actions ended =
    says_yes a d some
    (after a b d (codes "  " ++ terminal_name names t) name (before b c d line_end actions ended))

pub if_some : (shift : Option ℕ) (P : ℕ → Type 0) → ((p : ℕ) → shift ≡ Some p → P p) → IfSome shift P
if_some None P gives = tt
if_some (Some p) P gives = gives p refl

module _ (table : TableView) (sound : IsSound table) (entered : List ℕ) (are : AreThose (IsEntered table) entered) where
  -- the state of a shift is among those that are entered
  pub shift_listed : (q t : ℕ) (cell : Cell) → IsEntered table q →
      slice_get (get_or table.cells q []) t ≡ Some cell → IfSome cell.shift (Contains entered)
  shift_listed q t cell in_q is =
      if_some cell.shift (Contains entered)
      (λ p shift. (are.each p).1 (shift_entered table sound q t cell p in_q is shift))

  goto_left : (q p : ℕ) (x : Symbol) → IsGoto x → IsLeft table.cells q x p
  goto_left q p (Terminal t) goto = absurd goto
  goto_left q p (Nonterminal a) goto = tt

  -- the state that a nonterminal leads to is among those that are entered
  pub move_listed : (q : ℕ) (moves : List Move) (k : ℕ) (d : Move) → IsEntered table q →
      moves ≡ slice_index_or table.machine.moves q [] → k < length moves → IsGoto (get_or moves k d).symbol →
      Contains entered (get_or moves k d).state
  move_listed q moves k d in_q row less goto =
      let move = get_or moves k d in
      let has = subst (λ (xs : List Move). Contains xs move) row (Contains-get_or moves k d less) in
      (are.each move.state).1 (goes in_q (move.symbol, has, goto_left q move.state move.symbol goto))

  pub numbered_entered : (q n : ℕ) → slice_get entered n ≡ Some q → IsEntered table q
  numbered_entered q n is =
      (are.each q).0 (n, slice_get_within entered n q is, get_or_from_slice_get entered n q q is)

-- an entered state is one of the states
pub entered_inside : (table : TableView) → IsSound table → (q : ℕ) → IsEntered table q → q < length table.machine.sets
entered_inside table sound q start = elim (cases_lt 0 (length table.machine.sets)) [
  | inl low ↦ low
  | inr past ↦
      let (k, less, is) = (sound.states.first.each 0).1 (inside refl) in
      absurd (omega (arith, less, ap length (get_or_past table.machine.sets 0 [] past)))
]
entered_inside table sound p (goes {q} entered (x, (k, less, is), left)) =
    let low = entered_inside table sound q entered in
    let to : Move = record { symbol = x; state = p } in
    (subst (λ (z : Move). IsMove table.machine.grammar.rules.items table.machine.sets
    (get_or table.machine.sets q []) z)
    is ((sound.states.moves_of q low).each k to less)).inside
