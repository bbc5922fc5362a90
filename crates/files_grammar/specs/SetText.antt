-- What is printed of the sets of nonterminals.
use Rattle.std.specs.Prelude.{◌≡◌, ◌↔◌, ℕ, Bool, true, if◌then◌else◌, List, [], ◌∷◌, ◌++◌, codes}
use Rattle.std.specs.List.{flat_map, range_with_len}
use Rattle.vob_lr.specs.Grammar.{BecomesEmpty, BeginsWith, Follows}
use Rattle.vob_lr.specs.Those.{AreThose}
use Rattle.vob_lr.specs.declared.grammar.Grammar.{Grammar}
use Rattle.vob_lr.specs.declared.grammar.Symbol.TheVariants.{Nonterminal, Terminal}
use Rattle.files_text.specs.Printed.{line_end}
use Rattle.files_grammar.specs.Rules.{next_name, nonterminal_name}
use Rattle.files_grammar.specs.declared.file.SymbolNames.{SymbolNames}

-- the names of terminals, each after a space
abbrev pub terminals_text : SymbolNames → List ℕ → List ℕ
terminals_text names terminals = flat_map (λ t. next_name names (Terminal t)) terminals

-- the line that says whether a nonterminal can become empty
abbrev pub nullable_line : Bool → List ℕ
nullable_line nullable =
    (if nullable then codes "  nullable yes" else codes "  nullable no") ++ line_end

-- the line of a set: a word and the names of its terminals
abbrev pub set_line : (word : List ℕ) → SymbolNames → List ℕ → List ℕ
set_line word names terminals = word ++ terminals_text names terminals ++ line_end

-- the lines of a nonterminal: its name, whether it can become empty, what begins it, and what follows it
abbrev pub nonterminal_lines : SymbolNames → ℕ → Bool → (first follow : List ℕ) → List ℕ
nonterminal_lines names a nullable first follow =
    line_end ++ nonterminal_name names a ++ line_end ++ nullable_line nullable
    ++ set_line (codes "  FIRST") names first ++ set_line (codes "  FOLLOW") names follow

-- the lines of all nonterminals, with exactly their terminals, the lower numbers first
pub record SaysSets (grammar : Grammar) (names : SymbolNames) (text : List ℕ) : Type 0 where
  pub nullable : ℕ → Bool
  pub first : ℕ → List ℕ
  pub follow : ℕ → List ℕ
  pub are_nullable : (a : ℕ) →
      (nullable a ≡ true) ↔ BecomesEmpty grammar.rules.items (Nonterminal a ∷ [])
  pub are_first : (a : ℕ) →
      AreThose (λ t. BeginsWith grammar.rules.items t (Nonterminal a ∷ [])) (first a)
  pub are_follow : (a : ℕ) → AreThose (λ t. Follows grammar.rules.items t a) (follow a)
  pub lines : text ≡ flat_map (λ a. nonterminal_lines names a (nullable a) (first a) (follow a))
      (range_with_len 0 grammar.nonterminals)
