-- Where a text stops being lines of nodes.
use Rattle.std.specs.Prelude.{◌≡◌, ◌≢◌, ◌⊎◌, ℕ, ◌+◌, List, [], ◌∷◌, ◌++◌, Option, None, Some, length, min, codes, Contains, ⊤}
use Rattle.std.below.core.specs.declared.int.usize.TheConstants.{MAX}
use Rattle.std.specs.Str.Lossy.{utf8_lossy}
use Rattle.files_text.specs.Words.{Token}
use Rattle.files_flow.specs.declared.nodes.Kind.{Kind}
use Rattle.files_flow.specs.Nodes.{AreNodes, BeginsNode, IsName, Mention, key_of}

-- the words go on with another line
abbrev pub LineEnds : (line : ℕ) → List Token → Type 0
LineEnds line [] = ⊤
LineEnds line (word ∷ words) = word.line ≢ line

-- a word neither begins a part nor ends one
abbrev pub IsNoPart : Token → Type 0
IsNoPart word = (word.text ≢ codes ",") × (word.text ≢ codes ";") × ((kind : Kind) → word.text ≢ key_of kind)

-- the words that go on behind lines of nodes can't, for what was expected at a place
pub data IsFaulty (last : Option ℕ) (part : Option Kind) (names : List (List ℕ)) : List Token →
    (line column : ℕ) → (expected : List ℕ) → Type 0 where
  comma : {word : Token} {rest : List Token} → word.text ≡ codes "," →
      IsFaulty last part names (word ∷ rest) word.line word.column (codes "white space, as no name has a comma")
  no_name : {word : Token} {rest : List Token} → (word.text ≡ codes ":") ⊎ (word.text ≡ codes ";") →
      last ≢ Some word.line → IsFaulty last part names (word ∷ rest) word.line word.column (codes "the name of a node")
  no_part : {word : Token} {rest : List Token} → last ≡ Some word.line → part ≡ None → IsNoPart word →
      IsFaulty last part names (word ∷ rest) word.line word.column (codes "`reads`, `writes`, `next` or `;`")
  colon : {word : Token} {rest : List Token} {kind : Kind} → last ≡ Some word.line → part ≡ Some kind →
      word.text ≡ codes ":" →
      IsFaulty last part names (word ∷ rest) word.line word.column (codes "a name or `;`")
  alone : {name : Token} {rest : List Token} → BeginsNode last names name → LineEnds name.line rest →
      IsFaulty last part names (name ∷ rest) name.line (min (name.column + length name.text) MAX)
      (codes "`:` after the name of a node")
  comma_after : {name word : Token} {rest : List Token} → BeginsNode last names name → name.line ≡ word.line →
      word.text ≡ codes "," → IsFaulty last part names (name ∷ word ∷ rest) word.line word.column
      (codes "white space, as no name has a comma")
  no_colon : {name word : Token} {rest : List Token} → BeginsNode last names name → name.line ≡ word.line →
      word.text ≢ codes "," → word.text ≢ codes ":" → IsFaulty last part names (name ∷ word ∷ rest) word.line
      word.column (codes "`:` after the name of a node")

-- the first words that are no node: all before them are nodes
pub record IsFirstFault (words : List Token) (line column : ℕ) (expected : List ℕ) : Type 0 where
  pub before : List Token
  pub rest : List Token
  pub cut : words ≡ before ++ rest
  pub last : Option ℕ
  pub part : Option Kind
  pub names : List (List ℕ)
  pub mentions : List Mention
  pub are_nodes : AreNodes last part before names mentions
  pub faulty : IsFaulty last part names rest line column expected

-- a name as it is said: what isn't UTF-8 is replaced
pub record IsCalled (word : Token) (line column : ℕ) (name : List ℕ) : Type 0 where
  pub line_is : line ≡ word.line
  pub column_is : column ≡ word.column
  pub name_is : name ≡ utf8_lossy word.text

-- the first word that can't go on is the name of a node that is there
pub record IsSecond (words : List Token) (line column : ℕ) (name : List ℕ) : Type 0 where
  pub before : List Token
  pub word : Token
  pub rest : List Token
  pub cut : words ≡ before ++ word ∷ rest
  pub last : Option ℕ
  pub part : Option Kind
  pub names : List (List ℕ)
  pub mentions : List Mention
  pub are_nodes : AreNodes last part before names mentions
  pub is_name : IsName word
  pub fresh : last ≢ Some word.line
  pub there : Contains names word.text
  pub called : IsCalled word line column name
