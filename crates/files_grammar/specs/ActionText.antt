-- What is printed of the actions of a parser, and the numbers of the states that it enters.
use Rattle.std.specs.Prelude.{◌≡◌, ◌≢◌, ℕ, List, [], ◌∷◌, ◌++◌, codes, slice_get, slice_index_or, Option, None, Some}
use Rattle.std.specs.Fmt.{decimal}
use Rattle.std.specs.List.{flat_map}
use Rattle.vob_lr.specs.Tables.{TableView, chosen}
use Rattle.vob_lr.specs.declared.table.Cell.{Cell}
use Rattle.files_text.specs.Printed.{line_end}
use Rattle.files_grammar.specs.Rules.{terminal_name}
use Rattle.files_grammar.specs.Texts.{Both, SaysIf}
use Rattle.files_grammar.specs.declared.file.SymbolNames.{SymbolNames}

-- state q is one of those that a parser enters, and its place among them is its number, as in bison
abbrev pub HasNumber : (entered : List ℕ) → (q n : ℕ) → Type 0
HasNumber entered q n = slice_get entered n ≡ Some q

-- a shift to a state
abbrev pub SaysShift : (entered : List ℕ) → ℕ → List ℕ → Type 0
SaysShift entered p text = (n : ℕ) × HasNumber entered p n × (text ≡ codes " shift " ++ decimal n)

-- a reduction by a rule
abbrev pub reduction : ℕ → List ℕ
reduction r = codes " reduce " ++ decimal r

-- reductions after another action
abbrev pub others : (between rules : List ℕ) → List ℕ
others between rules = flat_map (λ r. between ++ reduction r) rules

-- reductions with a word between them
abbrev pub reductions : (between rules : List ℕ) → List ℕ
reductions between [] = []
reductions between (r ∷ rules) = reduction r ++ others between rules

-- actions with a word between them: the shift first, then the reductions
abbrev pub SaysActions : (entered between : List ℕ) → Option ℕ → (rules text : List ℕ) → Type 0
SaysActions entered between (Some p) rules text =
    Both (SaysShift entered p) (λ part. part ≡ others between rules) text
SaysActions entered between None rules text = text ≡ reductions between rules

-- the line of the cell of a terminal: what a parser may do, the action that it takes first
abbrev pub SaysCell : SymbolNames → (entered : List ℕ) → ℕ → Cell → List ℕ → Type 0
SaysCell names entered t cell = SaysIf (chosen cell.shift cell.reduces.items ≢ None)
    (Both (λ part. part ≡ codes "  " ++ terminal_name names t)
    (Both (SaysActions entered (codes ",") cell.shift cell.reduces.items) (λ part. part ≡ line_end)))

-- the same of no cell, which has no line, or of a cell
abbrev pub SaysIfCell : SymbolNames → (entered : List ℕ) → ℕ → Option Cell → List ℕ → Type 0
SaysIfCell names entered t None text = text ≡ []
SaysIfCell names entered t (Some cell) text = SaysCell names entered t cell text

-- the line of the cell of state q and terminal t
abbrev pub SaysCellAt : TableView → SymbolNames → (entered : List ℕ) → (q t : ℕ) → List ℕ → Type 0
SaysCellAt table names entered q t =
    SaysIfCell names entered t (slice_get (slice_index_or table.cells q []) t)
