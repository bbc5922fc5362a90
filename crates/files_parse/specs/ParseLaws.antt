-- A text has one list of tokens, and equal texts give equal bytes.
use Rattle.std.specs.Prelude.{◌≡◌, ℕ, List, Option, Some}
use Rattle.vob_lr.specs.Derivations.{IsParse}
use Rattle.vob_lr.specs.declared.grammar.Rule.{Rule}
use Rattle.files_grammar.specs.declared.file.GrammarFile.{GrammarFile}
use Rattle.files_grammar.specs.declared.file.SymbolNames.{SymbolNames}
use Rattle.files_text.specs.Words.{Token}
use Rattle.files_parse.specs.Parses.{HasTokens, WritesParse}
use Rattle.files_parse.specs.declared.tree.TreeForm.{TreeForm}

-- a text has one list of tokens
abbrev pub TokensAreOne : Type 0
TokensAreOne = (names : SymbolNames) (text : List ℕ) (words other_words : List Token) (tokens others : List ℕ) →
    HasTokens names text words tokens → HasTokens names text other_words others →
    (words ≡ other_words) × (tokens ≡ others)

-- tokens have no two parses
abbrev pub AreUnambiguous : List Rule → Type 0
AreUnambiguous rules = (tokens parsed other : List ℕ) → IsParse rules tokens parsed →
    IsParse rules tokens other → parsed ≡ other

-- equal texts give equal bytes: two outputs are equal if both grew from the same bytes by the parse of one text, by
-- a grammar in which tokens have no two
abbrev pub OutputsAreOne : Type 0
OutputsAreOne = (file : GrammarFile) (text : List ℕ) (form : Option TreeForm) (old new other : List ℕ) →
    AreUnambiguous file.grammar.rules.items →
    WritesParse file text form (Some old) (Some new) → WritesParse file text form (Some old) (Some other) →
    new ≡ other
