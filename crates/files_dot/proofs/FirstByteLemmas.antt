-- What the first byte of a text says of the white space, the comment or the word that it begins.
use Rattle.std.specs.Prelude.{slice_index}
use Rattle.std.specs.Char.{is_ascii_whitespace}
use Rattle.std.specs.List.{prefix_len}
use Rattle.std.proofs.Common.{◌≡◌, ◌≢◌, ◌==◌, ◌≤◌, ◌||◌, ℕ, ◌+◌, Bool, true, false, cond, None, List, [], ◌∷◌, take, map, get_or, if◌then◌else◌, refl, sym, ap, ◌∙◌, arith, subst}
use Rattle.std.proofs.lemmas.Bool.{false≢true}
use Rattle.std.proofs.lemmas.Grind.{common_steps}
use Rattle.std.proofs.lemmas.Option.{none-some}
use Rattle.std.specs.Char.{to_ascii_lowercase}
use Rattle.files_dot.specs.Ids.{IsKeyword, bare_in, bare_length, is_bare, is_name, is_numeral, mark_of}
use Rattle.files_dot.specs.Pieces.{IsBlank}
use Rattle.files_dot.specs.Pieces.IsBlank.{comment, directive, line_comment, white}
use Rattle.files_dot.specs.Tokens.{IsWord, NoBlank, Word}
use Rattle.files_dot.specs.Tokens.IsWord.{a_mark, a_name, html, keyword, numeral}
use Rattle.files_dot.specs.declared.place.Place.{Place}
use Rattle.files_dot.specs.declared.token.Mark.{Mark}
use Rattle.files_dot.specs.declared.token.Mark.TheVariants.{Digraph, Edge, Graph, Node, Strict, Subgraph}
use Rattle.files_dot.proofs.TokenLemmas.{keyword_some}

-- ---- the bytes with which white space and comments begin

abbrev pub is_blank_byte : ℕ → Bool
is_blank_byte b = is_ascii_whitespace b || (b == 35 || b == 47)

pub blank_first : {begins_line : Bool} {text : List ℕ} {count : ℕ} → IsBlank begins_line text count →
    is_blank_byte (slice_index text 0) ≡ true
blank_first {text = text} (white is one) = ap (λ w. w || (slice_index text 0 == 35 || slice_index text 0 == 47)) is
blank_first (directive begins is all) = ap is_blank_byte is
blank_first (line_comment is slash all) = ap is_blank_byte is
blank_first (comment inside is star ends all) = ap is_blank_byte is

pub not_blank : {text : List ℕ} (b : ℕ) → slice_index text 0 ≡ b → is_blank_byte b ≡ false → (begins_line : Bool) (count : ℕ) →
    ¬ IsBlank begins_line text count
not_blank b is dark begins_line count blank = false≢true (sym dark ∙ sym (ap is_blank_byte is) ∙ blank_first blank)

-- ---- the bytes with which no word but a string in quotes begins

pub record BeginsNone (b : ℕ) : Type 0 where
  pub not_bare : is_bare b ≡ false
  pub no_mark : (second : ℕ) → mark_of b second ≡ None
  pub not_html : b ≢ 60
  pub not_minus : b ≢ 45

pub none_blank : (b : ℕ) → is_blank_byte b ≡ true → BeginsNone b
none_blank b is = record {
  not_bare = grind (arith, common_steps, is);
  no_mark = λ second. grind (arith, common_steps, is);
  not_html = λ same. false≢true (sym (ap is_blank_byte same) ∙ is);
  not_minus = λ same. false≢true (sym (ap is_blank_byte same) ∙ is);
}

pub none_end : BeginsNone 0
none_end = record {
  not_bare = refl;
  no_mark = λ second. refl;
  not_html = λ same. omega (arith, same);
  not_minus = λ same. omega (arith, same);
}

pub none_quote : BeginsNone 34
none_quote = record {
  not_bare = refl;
  no_mark = λ second. refl;
  not_html = λ same. omega (arith, same);
  not_minus = λ same. omega (arith, same);
}

pub none_plus : BeginsNone 43
none_plus = record {
  not_bare = refl;
  no_mark = λ second. refl;
  not_html = λ same. omega (arith, same);
  not_minus = λ same. omega (arith, same);
}

-- no bare word begins where a byte is none of it
pub no_bare : (text : List ℕ) → is_bare (slice_index text 0) ≡ false → slice_index text 0 ≢ 45 → bare_in text ≡ []
no_bare [] dark minus = refl
no_bare (x ∷ text) dark minus =
    let none : prefix_len is_bare (x ∷ text) ≡ 0 = ap (λ b. cond b (1 + prefix_len is_bare text) 0) dark in
    ap (λ n. take n (x ∷ text)) (plain ∙ none)
  where
    plain : bare_length (x ∷ text) ≡ prefix_len is_bare (x ∷ text)
    plain = grind (arith, common_steps, minus)

pub no_keyword : (mark : Mark) → ¬ IsKeyword [] mark
no_keyword mark is = omega (arith, keyword_some [] mark is)

pub no_word : {text : List ℕ} {word : Word} {count : ℕ} → BeginsNone (slice_index text 0) → ¬ IsWord text word count
no_word {text = text} none (a_mark {mark = mark} is) = none-some mark (sym (none.no_mark (slice_index text 1)) ∙ is)
no_word {text = text} none (keyword {mark = mark} no_mark is) =
    no_keyword mark (subst (λ b. IsKeyword b mark) (no_bare text none.not_bare none.not_minus) is)
no_word {text = text} none (a_name no_mark no_key is) =
    false≢true (ap is_name (sym (no_bare text none.not_bare none.not_minus)) ∙ is)
no_word {text = text} none (numeral no_mark is) =
    false≢true (ap is_numeral (sym (no_bare text none.not_bare none.not_minus)) ∙ is)
no_word none (html inside is ends) = none.not_html is

-- ---- a text is one keyword at most

abbrev decode : List ℕ → Mark
decode text = if get_or text 0 0 == 100 then Digraph
    else (if get_or text 0 0 == 103 then Graph
    else (if get_or text 0 0 == 110 then Node
    else (if get_or text 0 0 == 101 then Edge
    else (if get_or text 1 0 == 116 then Strict else Subgraph))))

decoded : (text : List ℕ) (mark : Mark) → IsKeyword text mark → decode (map to_ascii_lowercase text) ≡ mark
decoded text Strict is = ap decode is
decoded text Graph is = ap decode is
decoded text Digraph is = ap decode is
decoded text Node is = ap decode is
decoded text Edge is = ap decode is
decoded text Subgraph is = ap decode is
decoded text mark is = absurd is

pub one_keyword : (text : List ℕ) (mark other : Mark) → IsKeyword text mark → IsKeyword text other → mark ≡ other
one_keyword text mark other is is' = sym (decoded text mark is) ∙ decoded text other is'

-- a keyword begins with a letter
lower_first : (text : List ℕ) (mark : Mark) → IsKeyword text mark → 97 ≤ to_ascii_lowercase (get_or text 0 0)
lower_first [] mark is = absurd (no_keyword mark is)
lower_first (x ∷ text) Strict is = omega (arith, ap (λ l. get_or l 0 0) is)
lower_first (x ∷ text) Graph is = omega (arith, ap (λ l. get_or l 0 0) is)
lower_first (x ∷ text) Digraph is = omega (arith, ap (λ l. get_or l 0 0) is)
lower_first (x ∷ text) Node is = omega (arith, ap (λ l. get_or l 0 0) is)
lower_first (x ∷ text) Edge is = omega (arith, ap (λ l. get_or l 0 0) is)
lower_first (x ∷ text) Subgraph is = omega (arith, ap (λ l. get_or l 0 0) is)
lower_first (x ∷ text) mark is = absurd is

pub high_first : (text : List ℕ) (mark : Mark) → IsKeyword text mark → 65 ≤ get_or text 0 0
high_first text mark is = by (get_or text 0 0) (lower_first text mark is)
  where
    by : (b : ℕ) → 97 ≤ to_ascii_lowercase b → 65 ≤ b
    by b high = grind (arith, common_steps, high)

-- neither white space nor a comment stands where a keyword does
pub no_blank_word : (place : Place) (text : List ℕ) (mark : Mark) → IsKeyword (bare_in text) mark →
    NoBlank (place.column == 1) text
no_blank_word place text mark is count blank =
    let none = none_blank (slice_index text 0) (blank_first blank) in
    no_keyword mark (subst (λ b. IsKeyword b mark) (no_bare text none.not_bare none.not_minus) is)
