-- Which edges the lines of a text are, and where it is at fault.
use Rattle.std.specs.Prelude.{◌≡◌, ◌≢◌, ◌⊎◌, ℕ, ◌+◌, List, [], ◌∷◌, ◌++◌, Option, None, Some, length, map, min, codes, ⊤}
use Rattle.std.below.core.specs.declared.int.usize.TheConstants.{MAX}
use Rattle.files_dot.specs.Graphs.{AreNumbers}
use Rattle.files_text.specs.Faults.{IsLine}
use Rattle.files_text.specs.Names.{names_in}
use Rattle.files_text.specs.Words.{Token, AreWords}
use Rattle.files_text.specs.declared.fault.Fault.{Fault}
use Rattle.files_text.specs.declared.fault.Fault.TheVariants.{Memory}

-- the words of a text in which commas are marks
abbrev pub AreWordsOf : List ℕ → List Token → Type 0
AreWordsOf text words = AreWords (codes ",") 1 1 text words

-- a word is a name
abbrev pub IsName : Token → Type 0
IsName word = word.text ≢ codes ","

-- the words go on with another line
abbrev pub LineEnds : (line : ℕ) → List Token → Type 0
LineEnds line [] = ⊤
LineEnds line (word ∷ words) = word.line ≢ line

-- lines of two names, of the nodes from which and to which an edge leads
abbrev pub AreEdges : List Token → List (List ℕ × List ℕ) → Type 0
AreEdges [] [] = ⊤
AreEdges (from ∷ to ∷ words) (edge ∷ edges) = IsName from × IsName to × (from.line ≡ to.line)
    × LineEnds to.line words × (edge ≡ (from.text, to.text)) × AreEdges words edges
AreEdges words edges = ⊥

-- the line of the last word
abbrev pub last_line : List Token → Option ℕ
last_line [] = None
last_line (word ∷ []) = Some word.line
last_line (word ∷ other ∷ words) = last_line (other ∷ words)

-- the words that go on behind a line are no edge, for what was expected at a place
pub data IsFaulty (last : Option ℕ) : List Token → (line column : ℕ) → (expected : List ℕ) → Type 0 where
  comma_first : {from : Token} {rest : List Token} → from.text ≡ codes "," →
      IsFaulty last (from ∷ rest) from.line from.column (codes "white space, as no name has a comma")
  third : {from : Token} {rest : List Token} → IsName from → last ≡ Some from.line →
      IsFaulty last (from ∷ rest) from.line from.column (codes "the end of the line after two names")
  alone : {from : Token} {rest : List Token} → IsName from → last ≢ Some from.line →
      LineEnds from.line rest → IsFaulty last (from ∷ rest) from.line
      (min (from.column + length from.text) MAX)
      (codes "a second name, of the node to which the edge leads")
  comma_second : {from to : Token} {rest : List Token} → IsName from → last ≢ Some from.line →
      from.line ≡ to.line → to.text ≡ codes "," → IsFaulty last (from ∷ to ∷ rest) to.line to.column
      (codes "white space, as no name has a comma")

-- the first words that are no edge: all before them are
pub record IsFirstFault (words : List Token) (line column : ℕ) (expected : List ℕ) : Type 0 where
  pub before : List Token
  pub rest : List Token
  pub cut : words ≡ before ++ rest
  pub edges : List (List ℕ × List ℕ)
  pub are_edges : AreEdges before edges
  pub faulty : IsFaulty (last_line before) rest line column expected

-- the edges of lines: their names, in the order in which they first come, and for each edge their
-- numbers
pub record HasEdges (text : List ℕ) (names : List (List ℕ)) (pairs : List (ℕ × ℕ)) : Type 0 where
  pub words : List Token
  pub are_words : AreWordsOf text words
  pub edges : List (List ℕ × List ℕ)
  pub are_edges : AreEdges words edges
  pub named : names ≡ names_in (map (λ word. word.text) words)
  pub numbers : AreNumbers names edges pairs

-- no edges were read: words are no edge, or there was no memory
abbrev pub IsFaultOf : List Token → Fault → Type 0
IsFaultOf words fault = (fault ≡ Memory) ⊎ ((line : ℕ) × (column : ℕ) × (expected : List ℕ)
    × IsFirstFault words line column expected × IsLine fault line column expected)

abbrev pub IsUnread : List ℕ → Fault → Type 0
IsUnread text fault = (words : List Token) × AreWordsOf text words × IsFaultOf words fault
