-- Words are tokens one after another.
use Rattle.std.specs.Prelude.{codes}
use Rattle.std.proofs.Common.{◌≡◌, ℕ, ◌+◌, ◌<◌, List, [], ◌∷◌, ◌++◌, length, map, take, drop, get_or, ap, sym, ◌∙◌}
use Rattle.std.proofs.lemmas.List.{map-append, take-append-drop, take_more, drop_more}
use Rattle.files_grammar.specs.declared.file.SymbolNames.{SymbolNames}
use Rattle.files_text.specs.Faults.{IsLine}
use Rattle.files_text.specs.Words.{Token, token_of}
use Rattle.files_text.specs.declared.fault.Fault.{Fault}
use Rattle.files_text.specs.declared.fault.Fault.TheVariants.{Input, Line, Memory, Output}
use Rattle.files_text.specs.declared.words.Word.{Word}
use Rattle.files_parse.specs.ParseFaults.{IsNoTokens}
use Rattle.files_parse.specs.Tokens.{AreTokens, IsTerminal}

-- a list has an item between those before and those behind it
cut_at : {X Y : Type 0} (f : X → Y) (xs : List X) (k : ℕ) (d : X) → k < length xs →
    map f xs ≡ map f (take k xs) ++ f (get_or xs k d) ∷ map f (drop (k + 1) xs)
cut_at f xs k d less =
    ap (map f) (sym (take-append-drop k xs) ∙ ap (λ rest. take k xs ++ rest) (drop_more xs k d less))
    ∙ map-append f (take k xs) (get_or xs k d ∷ drop (k + 1) xs)

-- one item more is taken
pub take_next : {X Y : Type 0} (f : X → Y) (xs : List X) (k : ℕ) (d : X) → k < length xs →
    map f (take (k + 1) xs) ≡ map f (take k xs) ++ f (get_or xs k d) ∷ []
take_next f xs k d less =
    ap (map f) (take_more xs k d less) ∙ map-append f (take k xs) (get_or xs k d ∷ [])

-- what a list of words has behind its end
abbrev pub no_word : Word
no_word = record { text = record { ref_ptr = (0, 0); now = [] }; line = 0; column = 0 }

module _ (names : SymbolNames) where
  -- one token more
  pub tokens_more : (words : List Token) (tokens : List ℕ) (word : Token) (token : ℕ) → AreTokens names words tokens →
      IsTerminal names word.text token → AreTokens names (words ++ word ∷ []) (tokens ++ token ∷ [])
  tokens_more [] [] word token are is = (is, tt)
  tokens_more [] (other ∷ tokens) word token are is = absurd are
  tokens_more (other ∷ words) [] word token are is = absurd are
  tokens_more (first ∷ words) (other ∷ tokens) word token are is =
      (are.0, tokens_more words tokens word token are.1 is)

  -- a word that names no terminal, behind tokens
  pub unknown : (words : List Word) (k : ℕ) (d : Word) (tokens : List ℕ) → k < length words →
      AreTokens names (map token_of (take k words)) tokens →
      ((t : ℕ) → ¬ IsTerminal names (get_or words k d).text.now t) → (fault : Fault) →
      IsLine fault (get_or words k d).line (get_or words k d).column (codes "a token of the grammar") →
      IsNoTokens names (map token_of words) fault
  unknown words k d tokens less are none Memory is = tt
  unknown words k d tokens less are none (Input error) is = absurd is
  unknown words k d tokens less are none (Output error) is = absurd is
  unknown words k d tokens less are none (Line line column expected) is = (
    record {
      before = map token_of (take k words);
      word = token_of (get_or words k d);
      after = map token_of (drop (k + 1) words);
      cut = cut_at token_of words k d less;
      tokens = tokens;
      known = are;
      unknown = none;
      line_is = sym is.0;
      column_is = sym is.1;
    },
    is.2,
  )
