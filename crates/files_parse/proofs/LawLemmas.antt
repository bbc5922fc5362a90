-- A text has one list of tokens, and equal texts give equal bytes.
use Rattle.std.specs.Prelude.{Contains}
use Rattle.std.proofs.Common.{Option, None, Some, ◌≡◌, inl, inr, ℕ, List, [], ◌∷◌, ◌++◌, refl, sym, ap, subst, ◌∙◌, arith}
use Rattle.std.proofs.lemmas.Bool.{cases_lt}
use Rattle.std.proofs.lemmas.Option.{get_or_from_slice_get, slice_get_within}
use Rattle.vob_lr.specs.Derivations.{IsParse}
use Rattle.vob_lr.specs.TreeNodes.{inner, nodes_of}
use Rattle.vob_lr.specs.Trees.{AreTreesOf, ParsesHaveOneTree, Trees}
use Rattle.vob_flow.specs.Lists.{lists_of}
use Rattle.files_grammar.specs.declared.file.GrammarFile.{GrammarFile}
use Rattle.files_grammar.specs.declared.file.SymbolNames.{SymbolNames}
use Rattle.files_text.specs.Words.{Token}
use Rattle.files_text.proofs.OneLemmas.{words_one}
use Rattle.files_parse.specs.DotText.{dot_text}
use Rattle.files_parse.specs.JsonText.{json_text}
use Rattle.files_parse.specs.ParseLaws.{OutputsAreOne, TokensAreOne}
use Rattle.files_parse.specs.Parses.{ListsParse}
use Rattle.files_parse.specs.Tokens.{AreTokens, IsLast, IsTerminal}
use Rattle.files_parse.specs.Tokens.IsTerminal.{by_name, by_identifier, by_character}
use Rattle.files_parse.specs.TreeText.{tree_text}
use Rattle.files_parse.specs.declared.tree.TreeForm.{TreeForm}
use Rattle.files_parse.specs.declared.tree.TreeForm.TheVariants.{Dot, Json, Text as Lines}

one_last : (names : List (List ℕ)) (word : List ℕ) (n m : ℕ) → IsLast names word n → IsLast names word m → n ≡ m
one_last names word n m a b = elim (cases_lt n m) [
  | inl less ↦ absurd (a.none_later m less b.at)
  | inr past ↦ elim (cases_lt m n) [
    | inl less ↦ absurd (b.none_later n less a.at)
    | inr below ↦ omega (arith, past, below)
  ]
]

there : (names : List (List ℕ)) (word : List ℕ) (n : ℕ) → IsLast names word n → Contains names word
there names word n a =
    (n, slice_get_within names n word a.at, get_or_from_slice_get names n word word a.at)

module _ (names : SymbolNames) where
  one_terminal : {word : List ℕ} {t u : ℕ} → IsTerminal names word t → IsTerminal names word u → t ≡ u
  one_terminal (by_name {word} {t} a) (by_name {t = u} b) = one_last (lists_of names.terminals.items) word t u a b
  one_terminal (by_name {word} {t} a) (by_identifier other b) =
      absurd (other (there (lists_of names.terminals.items) word t a))
  one_terminal (by_name {word} {t} a) (by_character other none b) =
      absurd (other (there (lists_of names.terminals.items) word t a))
  one_terminal (by_identifier {word} other a) (by_name {t = u} b) =
      absurd (other (there (lists_of names.terminals.items) word u b))
  one_terminal (by_identifier {word} {t} other a) (by_identifier {t = u} also b) =
      one_last (lists_of names.identifiers.items) word t u a b
  one_terminal (by_identifier {word} {t} other a) (by_character also none b) =
      absurd (none (there (lists_of names.identifiers.items) word t a))
  one_terminal (by_character {character} other none a) (by_name {t = u} b) =
      absurd (other (there (lists_of names.terminals.items) (character ∷ []) u b))
  one_terminal (by_character {character} other none a) (by_identifier {t = u} also b) =
      absurd (none (there (lists_of names.identifiers.items) (character ∷ []) u b))
  one_terminal (by_character {character} {t} other none a) (by_character {t = u} also none' b) =
      one_last (lists_of names.identifiers.items) (39 ∷ character ∷ 39 ∷ []) t u a b

  one_tokens : (words : List Token) (tokens others : List ℕ) → AreTokens names words tokens →
      AreTokens names words others → tokens ≡ others
  one_tokens [] [] [] are also = refl
  one_tokens [] [] (u ∷ others) are also = absurd also
  one_tokens [] (t ∷ tokens) others are also = absurd are
  one_tokens (word ∷ words) [] others are also = absurd are
  one_tokens (word ∷ words) (t ∷ tokens) [] are also = absurd also
  one_tokens (word ∷ words) (t ∷ tokens) (u ∷ others) are also =
      ap (λ n. n ∷ tokens) (one_terminal are.0 also.0)
      ∙ ap (λ l. u ∷ l) (one_tokens words tokens others are.1 also.1)

pub tokens_one : TokensAreOne
tokens_one names text words other_words tokens others a b =
    let same = words_one a.are_words b.are_words in (
      same,
      one_tokens names other_words tokens others
          (subst (λ list. AreTokens names list tokens) same a.are_tokens) b.are_tokens,
    )

module _ (trees_one : ParsesHaveOneTree) (file : GrammarFile) (words : List Token) (tokens parsed : List ℕ) where
  one : {trees others : Trees} → AreTreesOf file.grammar.rules.items tokens parsed trees →
      AreTreesOf file.grammar.rules.items tokens parsed others → trees ≡ others
  one {trees} {others} own other = trees_one file.grammar.rules.items tokens parsed trees others own other

  one_text : (form : Option TreeForm) → (text other : List ℕ) →
      ListsParse file words tokens parsed form text → ListsParse file words tokens parsed form other → text ≡ other
  one_text None text other a b = a ∙ sym b
  one_text (Some Lines) text other a b =
      a.lines ∙ ap (tree_text file words 0 0) (one a.are_trees b.are_trees) ∙ sym b.lines
  one_text (Some Dot) text other a b =
      a.lines ∙ ap (λ trees. dot_text file tokens (nodes_of trees)) (one a.are_trees b.are_trees) ∙ sym b.lines
  one_text (Some Json) text other a b =
      a.lines ∙ ap (λ trees. json_text file words tokens (nodes_of trees) (inner trees))
      (one a.are_trees b.are_trees) ∙ sym b.lines

pub outputs_one : ParsesHaveOneTree → OutputsAreOne
outputs_one trees_one file text form old new other one a b =
    let (words, tokens) = tokens_one file.names text a.words b.words a.tokens b.tokens a.has_tokens b.has_tokens in
    let rules = file.grammar.rules.items in
    let parsed = one b.tokens a.parsed b.parsed
    (subst (λ list. IsParse rules list a.parsed) tokens a.is_parse.is_parse) b.is_parse.is_parse in
    let own = subst (λ list. ListsParse file b.words b.tokens list form a.written.0) parsed
    (subst (λ list. ListsParse file b.words list a.parsed form a.written.0) tokens
    (subst (λ list. ListsParse file list a.tokens a.parsed form a.written.0) words a.written.2)) in
    let same = one_text trees_one file b.words b.tokens b.parsed form a.written.0 b.written.0 own b.written.2 in
    a.written.1 ∙ ap (λ more. old ++ more) same ∙ sym b.written.1
