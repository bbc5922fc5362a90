-- What is printed of conflicts, and how many there are.
use Rattle.std.specs.Prelude.{◌≡◌, ℕ, ◌-◌, Bool, true, false, List, [], ◌++◌, codes, count_by, length, sum_by, None, Option, Some, unwrap_or}
use Rattle.std.specs.Fmt.{decimal}
use Rattle.vob_lr.specs.declared.grammar.Symbol.TheVariants.{Terminal}
use Rattle.files_text.specs.Printed.{line_end}
use Rattle.files_grammar.specs.Rules.{next_name}
use Rattle.files_grammar.specs.ActionText.{HasNumber, SaysActions}
use Rattle.files_grammar.specs.Texts.{AreTexts, Both}
use Rattle.files_grammar.specs.declared.file.SymbolNames.{SymbolNames}
use Rattle.files_grammar.specs.Conflicts.{Choice}

-- whether there is a shift
abbrev pub has_shift : Option ℕ → Bool
has_shift None = false
has_shift (Some p) = true

-- how many of some choices have a shift
abbrev pub shift_count : List Choice → ℕ
shift_count choices = count_by (λ choice. has_shift choice.shift) choices

-- how many rules are too many
abbrev pub rule_count : List Choice → ℕ
rule_count choices = sum_by (λ choice. length choice.rules - 1) choices

-- the words for an error
abbrev pub error_text : Bool → List ℕ
error_text true = codes " error or"
error_text false = []

-- where a conflict is: the number of the state, and the terminal
abbrev pub place_text : SymbolNames → (n : ℕ) → Choice → List ℕ
place_text names n choice = codes "state " ++ decimal n ++ codes ":" ++ next_name names (Terminal choice.terminal)
    ++ error_text choice.is_error

-- the line of a conflict: where it is, and what a parser may do
abbrev pub SaysConflict : SymbolNames → (entered : List ℕ) → Choice → List ℕ → Type 0
SaysConflict names entered choice text = (n : ℕ) × HasNumber entered choice.state n
    × Both (λ part. part ≡ place_text names n choice)
    (Both (SaysActions entered (codes " or") choice.shift choice.rules) (λ part. part ≡ line_end)) text

-- the lines of all conflicts
abbrev pub SaysConflicts : SymbolNames → (entered : List ℕ) → List Choice → List ℕ → Type 0
SaysConflicts names entered = AreTexts (SaysConflict names entered)

-- these counts are those that a file expects: none if it says nothing
abbrev pub AreExpected : Option ℕ × Option ℕ → (shifts rules : ℕ) → Type 0
AreExpected expected shifts rules =
    (shifts ≡ unwrap_or expected.0 0) × (rules ≡ unwrap_or expected.1 0)
