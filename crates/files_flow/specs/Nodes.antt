-- The nodes of a text, one a line, and what each reads, writes and leads to.
use Rattle.std.specs.Prelude.{◌≡◌, ◌≢◌, ℕ, List, [], ◌∷◌, ◌++◌, Option, None, Some, length, map, codes, All, Contains}
use Rattle.files_text.specs.Words.{Token, AreWords, token_of}
use Rattle.files_flow.specs.declared.nodes.Kind.{Kind}
use Rattle.files_flow.specs.declared.nodes.Kind.TheVariants.{Reads, Writes, Next}
use Rattle.files_flow.specs.declared.nodes.Use.{Use}

-- the words of a text in which colons, semicolons and commas are marks
abbrev pub AreWordsOf : List ℕ → List Token → Type 0
AreWordsOf text words = AreWords (codes ":;,") 1 1 text words

-- a word is a name
abbrev pub IsName : Token → Type 0
IsName word = (word.text ≢ codes ",") × (word.text ≢ codes ":") × (word.text ≢ codes ";")

-- the word before the names that a node reads, writes or leads to
abbrev pub key_of : Kind → List ℕ
key_of Reads = codes "reads"
key_of Writes = codes "writes"
key_of Next = codes "next"

-- a node reads, writes or leads to a name
pub record Mention : Type 0 where
  pub node : ℕ
  pub kind : Kind
  pub name : Token

abbrev pub mention_of : Use → Mention
mention_of said = record { node = said.node; kind = said.kind; name = token_of said.name }

-- a part of the line of a node: nothing, or a key and names
pub data IsPart (node : ℕ) : Option Kind → List Token → List Mention → Type 0 where
  empty : IsPart node None [] []
  keyed : {kind : Kind} {key : Token} {names : List Token} → key.text ≡ key_of kind → All IsName names →
      IsPart node (Some kind) (key ∷ names) (map (λ name. record { node = node; kind = kind; name = name }) names)

-- parts with a `;` behind each
pub data AreClosed (node : ℕ) : List Token → List Mention → Type 0 where
  nothing : AreClosed node [] []
  closed : {words part : List Token} (semicolon : Token) {mentions own : List Mention} {kind : Option Kind} →
      AreClosed node words mentions → IsPart node kind part own → semicolon.text ≡ codes ";" →
      AreClosed node (words ++ part ++ semicolon ∷ []) (mentions ++ own)

-- a word is the name of one more node, on a new line
abbrev pub BeginsNode : (last : Option ℕ) → (names : List (List ℕ)) → Token → Type 0
BeginsNode last names name = IsName name × (last ≢ Some name.line) × ¬ Contains names name.text

-- lines of nodes, each a name, a colon, and parts with `;` between them: the last line's number, the
-- kind of its last part, the names, and what is said of each node
pub data AreNodes : (last : Option ℕ) (part : Option Kind) → List Token → (names : List (List ℕ)) → List Mention →
    Type 0 where
  no_node : AreNodes None None [] [] []
  node : {last : Option ℕ} {before kind : Option Kind} {words shut part : List Token} (name colon : Token)
      {names : List (List ℕ)} {mentions own others : List Mention} → AreNodes last before words names mentions →
      BeginsNode last names name → colon.text ≡ codes ":" → AreClosed (length names) shut own →
      IsPart (length names) kind part others → All (λ word. word.line ≡ name.line) (colon ∷ (shut ++ part)) →
      AreNodes (Some name.line) kind (words ++ name ∷ colon ∷ (shut ++ part)) (names ++ name.text ∷ [])
      (mentions ++ own ++ others)

-- the nodes of a text: their names, and what is said of each
pub record HasNodes (text : List ℕ) (names : List (List ℕ)) (mentions : List Mention) : Type 0 where
  pub words : List Token
  pub are_words : AreWordsOf text words
  pub last : Option ℕ
  pub part : Option Kind
  pub are_nodes : AreNodes last part words names mentions
