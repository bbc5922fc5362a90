-- Which terminals a parser takes after tokens, how a message lists them, and before which token it never ends.
use Rattle.std.specs.Prelude.{◌≡◌, ◌≢◌, ◌⊎◌, ℕ, ◌-◌, ◌<◌, ◌≤◌, List, [], ◌∷◌, ◌++◌, codes, cond, length, map, nat_eq, take}
use Rattle.std.specs.Fmt.{decimal}
use Rattle.std.specs.Str.Lossy.{utf8_lossy}
use Rattle.vob_lr.specs.Parses.{Config, IsReached}
use Rattle.vob_lr.specs.Tables.{TableView}
use Rattle.vob_lr.specs.Those.{AreThose}
use Rattle.files_grammar.specs.Rules.{terminal_name}
use Rattle.files_grammar.specs.declared.file.SymbolNames.{SymbolNames}

-- after tokens a parser takes terminal t: it reads them and then that. The end is terminal 0
abbrev pub Fits : TableView → (tokens : List ℕ) → (t : ℕ) → Type 0
Fits table tokens t = (c : Config) × IsReached table (tokens ++ t ∷ []) c × (length tokens < c.read)

-- the end, or a terminal that isn't called `error`
abbrev pub IsToken : SymbolNames → ℕ → Type 0
IsToken names t = (t ≡ 0) ⊎ (terminal_name names t ≢ codes "error")

-- a terminal of a file that fits after tokens
abbrev pub IsExpected : TableView → SymbolNames → (tokens : List ℕ) → (t : ℕ) → Type 0
IsExpected table names tokens t = (t < length names.terminals.items) × IsToken names t × Fits table tokens t

-- what a message calls a terminal
abbrev pub shown : SymbolNames → ℕ → List ℕ
shown names t = cond (nat_eq t 0) (codes "end of input") (utf8_lossy (terminal_name names t))

-- what comes after an item of a list, by how many items follow: nothing, `or` before the last one, and else a comma
abbrev pub separator : ℕ → List ℕ
separator left = cond (nat_eq left 0) [] (cond (nat_eq left 1) (codes " or ") (codes ", "))

-- items as a list in a sentence
abbrev pub joined : List (List ℕ) → List ℕ
joined [] = []
joined (item ∷ items) = item ++ separator (length items) ++ joined items

-- how many others there are, as an item: none if there are no others
abbrev pub others_of : ℕ → List (List ℕ)
others_of count = cond (nat_eq count 0) []
    ((decimal count ++ codes " other" ++ cond (nat_eq count 1) [] (codes "s")) ∷ [])

-- the first five of some terminals, and how many others there are
abbrev pub items_of : SymbolNames → List ℕ → List (List ℕ)
items_of names ts = map (shown names) (take 5 ts) ++ others_of (length ts - 5)

-- a text lists what fits after tokens, in the order of the terminals' numbers
pub record ListsExpected (table : TableView) (names : SymbolNames) (tokens text : List ℕ) : Type 0 where
  pub terminals : List ℕ
  pub are : AreThose (IsExpected table names tokens) terminals
  pub lists : text ≡ joined (items_of names terminals)

-- a parser takes the tokens before the one with an index, or before the end, and then reduces without end: it makes
-- more reductions there than any number
abbrev pub NeverEnds : TableView → (tokens : List ℕ) → (at : ℕ) → Type 0
NeverEnds table tokens at = (n : ℕ) →
    (c : Config) × IsReached table tokens c × (c.read ≡ at) × (n ≤ length c.reduced)
