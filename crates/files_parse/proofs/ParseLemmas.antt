-- Where words end, the rules of a derivation from the last on, and which faults come from where.
use Rattle.std.specs.Prelude.{slice_get}
use Rattle.std.below.core.specs.declared.int.usize.TheConstants.{MAX}
use Rattle.std.specs.Io.KnownBytes.{Keeps}
use Rattle.std.proofs.Common.{Option, Some, ◌≡◌, inl, inr, ℕ, zero, suc, ◌+◌, ◌-◌, ◌<◌, ◌≤◌, List, [], ◌∷◌, length, map, min, take, get_or, reverse, refl, ap, sym, ◌∙◌, arith, subst}
use Rattle.std.proofs.lemmas.Bool.{cases_lt}
use Rattle.std.proofs.lemmas.List.{reverse-append, take_all, take_more}
use Rattle.vob_lr.specs.Derivations.{IsParse}
use Rattle.vob_lr.specs.Stops.{AcceptsBy}
use Rattle.vob_lr.specs.Tables.{TableView}
use Rattle.vob_lr.specs.declared.grammar.Grammar.{Grammar as Seen}
use Rattle.files_grammar.specs.GrammarFaults.{HasNoTable}
use Rattle.files_grammar.specs.declared.fault.GrammarFault.{GrammarFault}
use Rattle.files_grammar.specs.declared.fault.GrammarFault.TheVariants.{Endless, Grammar, Rules, Text, Token as Unexpected}
use Rattle.files_grammar.specs.declared.file.GrammarFile.{GrammarFile}
use Rattle.files_text.specs.Words.{Token, token_of}
use Rattle.files_text.specs.declared.fault.Fault.{Fault}
use Rattle.files_text.specs.declared.fault.Fault.TheVariants.{Input, Line, Memory, Output}
use Rattle.files_text.specs.declared.words.Word.{Word}
use Rattle.files_parse.specs.Failures.{FailsBy}
use Rattle.files_parse.specs.ParseFaults.{IsNoTokens, IsRefused, end_of}
use Rattle.files_parse.specs.Parses.{HasTable, HasTokens, IsParseOf}
use Rattle.files_parse.specs.Tokens.{AreWordsOf}
use Rattle.files_parse.specs.Writing.{IsUnwritten}

-- the last word ends where the words do
pub end_at : (words : List Word) (word : Word) → Some word ≡ slice_get words (length words - 1) →
    (word.line, min (word.column + length word.text.now) MAX) ≡ end_of (map token_of words)
end_at [] word is = absurd (cc)
end_at (first ∷ []) word is =
    let same : word ≡ first = cc in ap (λ (w : Word). (w.line, min (w.column + length w.text.now) MAX)) same
end_at (first ∷ other ∷ words) word is =
    let less : length (first ∷ other ∷ words) - 1 ≡ suc (length (other ∷ words) - 1) = omega arith in
    end_at (other ∷ words) word (is ∙ ap (slice_get (first ∷ other ∷ words)) less)

-- what is taken of a list ends with its last item
pub last_taken : (xs : List ℕ) (k : ℕ) → 0 < k → k ≤ length xs →
    reverse (take k xs) ≡ get_or xs (k - 1) 0 ∷ reverse (take (k - 1) xs)
last_taken xs zero some fits = absurd (omega (arith, some))
last_taken xs (suc k) some fits =
    let same : suc k - 1 ≡ k = omega arith in
    let more : suc k ≡ k + 1 = omega arith in
    rw same
    (ap (λ n. reverse (take n xs)) more ∙ ap reverse (take_more xs k 0 (omega (arith, fits)))
    ∙ reverse-append (take k xs) (get_or xs k 0 ∷ []))

-- nothing is left of what is taken
pub none_taken : (xs : List ℕ) (k : ℕ) → k ≤ 0 → reverse (take k xs) ≡ []
none_taken xs zero past = refl
none_taken xs (suc k) past = absurd (omega (arith, past))

-- no more is taken of a list than it has
pub take_within : (xs : List ℕ) (n m : ℕ) → m ≡ min n (length xs) → take m xs ≡ take n xs
take_within xs n m is = elim (cases_lt n (length xs)) [
  | inl less ↦ ap (λ k. take k xs) (omega (arith, is, less))
  | inr past ↦ take_all m xs (omega (arith, is, past)) ∙ sym (take_all n xs past)
]

-- nothing was written yet
module _ (file : GrammarFile) (text : List ℕ) (old new : Option (List ℕ)) where
  pub table_fails : Keeps old new → (fault : GrammarFault) → HasNoTable file.grammar fault →
      FailsBy file text fault old new
  table_fails same (Text Memory) is = same
  table_fails same (Text (Output error)) is = tt
  table_fails same (Text (Input error)) is = absurd is
  table_fails same (Text (Line line column expected)) is = absurd is
  table_fails same (Grammar error) is = absurd is
  table_fails same (Rules error) is = (is, same)
  table_fails same (Unexpected line column name expected) is = absurd is
  table_fails same (Endless line column) is = absurd is

  pub tokens_fail : Keeps old new → (words : List Token) → AreWordsOf text words → (fault : Fault) →
      IsNoTokens file.names words fault → FailsBy file text (Text fault) old new
  tokens_fail same words are Memory is = same
  tokens_fail same words are (Output error) is = tt
  tokens_fail same words are (Input error) is = absurd is
  tokens_fail same words are (Line line column expected) is = ((words, are, is), same)

  pub parse_fails : Keeps old new → (words : List Token) (tokens : List ℕ) → HasTokens file.names text words tokens →
      (table : TableView) → HasTable file table → (fault : GrammarFault) →
      IsRefused table file.names words tokens fault →
      FailsBy file text fault old new
  parse_fails same words tokens has table own (Text Memory) is = same
  parse_fails same words tokens has table own (Text (Output error)) is = tt
  parse_fails same words tokens has table own (Text (Input error)) is = absurd is
  parse_fails same words tokens has table own (Text (Line line column expected)) is = absurd is
  parse_fails same words tokens has table own (Grammar error) is = absurd is
  parse_fails same words tokens has table own (Rules error) is = absurd is
  parse_fails same words tokens has table own (Unexpected line column name expected) is = (
    record { words = words; tokens = tokens; has_tokens = has; table = table; has_table = own; is = is },
    same,
  )
  parse_fails same words tokens has table own (Endless line column) is = (
    record { words = words; tokens = tokens; has_tokens = has; table = table; has_table = own; is = is },
    same,
  )

-- a tree wasn't written
pub unwritten_fails : (file : GrammarFile) (text : List ℕ) (old new : Option (List ℕ)) (fault : GrammarFault) →
    IsUnwritten fault old new → FailsBy file text fault old new
unwritten_fails file text old new (Text Memory) is = is
unwritten_fails file text old new (Text (Output error)) is = tt
unwritten_fails file text old new (Text (Input error)) is = absurd is
unwritten_fails file text old new (Text (Line line column expected)) is = absurd is
unwritten_fails file text old new (Grammar error) is = absurd is
unwritten_fails file text old new (Rules error) is = absurd is
unwritten_fails file text old new (Unexpected line column name expected) is = absurd is
unwritten_fails file text old new (Endless line column) is = absurd is

-- what a parser reduces by a file's table is a parse by its rules
pub parse_of : (file : GrammarFile) (table : TableView) (tokens parsed : List ℕ) → HasTable file table →
    AcceptsBy table tokens parsed → IsParse table.machine.grammar.rules.items tokens parsed →
    IsParseOf file tokens parsed
parse_of file table tokens parsed own accepts is = record {
  table = table;
  has_table = own;
  accepts = accepts;
  is_parse = subst (λ (grammar : Seen). IsParse grammar.rules.items tokens parsed) own.is.grammar is;
}
