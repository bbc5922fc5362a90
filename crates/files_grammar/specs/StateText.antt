-- What is printed of the states that a parser may enter.
use Rattle.std.specs.Prelude.{◌≡◌, ℕ, List, [], ◌++◌, codes, length, slice_index_or, ⊤}
use Rattle.std.specs.Fmt.{decimal}
use Rattle.std.specs.List.{range_with_len}
use Rattle.vob_lr.specs.Tables.{TableView}
use Rattle.vob_lr.specs.declared.grammar.Symbol.{Symbol}
use Rattle.vob_lr.specs.declared.grammar.Symbol.TheVariants.{Nonterminal, Terminal}
use Rattle.vob_lr.specs.declared.state.Move.{Move}
use Rattle.files_text.specs.Printed.{line_end}
use Rattle.files_grammar.specs.Rules.{nonterminal_name}
use Rattle.files_grammar.specs.Texts.{AreTexts, Both}
use Rattle.files_grammar.specs.declared.file.SymbolNames.{SymbolNames}
use Rattle.files_grammar.specs.ActionText.{HasNumber, SaysCellAt}
use Rattle.files_grammar.specs.ItemText.{SaysItemAt}

-- a move by a nonterminal
abbrev pub IsGoto : Symbol → Type 0
IsGoto (Terminal t) = ⊥
IsGoto (Nonterminal a) = ⊤

-- the line of a move by a nonterminal to state p. Moves by terminals are in the cells
abbrev pub SaysGoto : SymbolNames → (entered : List ℕ) → Symbol → ℕ → List ℕ → Type 0
SaysGoto names entered (Terminal t) p text = text ≡ []
SaysGoto names entered (Nonterminal a) p text = (n : ℕ) × HasNumber entered p n
    × (text ≡ codes "  " ++ nonterminal_name names a ++ codes " goto " ++ decimal n ++ line_end)

-- the line of a move
abbrev pub SaysMove : SymbolNames → (entered : List ℕ) → Move → List ℕ → Type 0
SaysMove names entered move = SaysGoto names entered move.symbol move.state

-- the lines of state q: its items, what a parser may do, and where it goes on
abbrev pub SaysInside : TableView → SymbolNames → (entered : List ℕ) → ℕ → List ℕ → Type 0
SaysInside table names entered q =
    Both (AreTexts (SaysItemAt table.machine names q) (slice_index_or table.machine.sets q []))
    (Both (AreTexts (SaysCellAt table names entered q) (range_with_len 0 table.machine.grammar.terminals))
    (AreTexts (SaysMove names entered) (slice_index_or table.machine.moves q [])))

-- the lines of the state with a number
abbrev pub SaysState : TableView → SymbolNames → (entered : List ℕ) → ℕ → List ℕ → Type 0
SaysState table names entered n text = (q : ℕ) × HasNumber entered q n
    × Both (λ part. part ≡ line_end ++ codes "state " ++ decimal n ++ line_end)
    (SaysInside table names entered q) text

-- the lines of all states that a parser may enter
abbrev pub SaysStates : TableView → SymbolNames → (entered : List ℕ) → List ℕ → Type 0
SaysStates table names entered =
    AreTexts (SaysState table names entered) (range_with_len 0 (length entered))
