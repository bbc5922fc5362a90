-- White space, comments, words and strings begin a text in one way.
use Rattle.std.specs.Prelude.{slice_index}
use Rattle.std.proofs.Common.{◌≡◌, ◌≢◌, ℕ, ◌+◌, Bool, true, false, None, List, [], ◌∷◌, drop, take, refl, sym, ap, ◌∙◌, arith, subst, inl, inr}
use Rattle.std.proofs.lemmas.Bool.{cases_lt, false≢true}
use Rattle.std.proofs.lemmas.Grind.{common_steps}
use Rattle.std.proofs.lemmas.Option.{none-some, same_Some}
use Rattle.std.specs.Char.{is_ascii_whitespace}
use Rattle.files_dot.specs.Ids.{IsKeyword, bare_in, is_bare, is_name, is_numeral, mark_at, mark_length, mark_of}
use Rattle.files_dot.specs.Pieces.{IsBlank, IsFirst, IsQuoted, text_of}
use Rattle.files_dot.specs.Pieces.IsBlank.{comment, directive, line_comment, white}
use Rattle.files_dot.specs.Tokens.{IsWord, Word, id, sign}
use Rattle.files_dot.specs.Tokens.IsWord.{a_mark, a_name, html, keyword, numeral}
use Rattle.files_dot.specs.declared.token.Mark.{Mark}
use Rattle.files_dot.proofs.FirstByteLemmas.{high_first, no_bare, no_keyword, one_keyword}

one_first : (P : ℕ → Type 0) (k j : ℕ) → IsFirst P k → IsFirst P j → k ≡ j
one_first P k j first other = elim (cases_lt k j) [
  | inl less ↦ absurd (other.1 k less first.0)
  | inr past ↦ elim (cases_lt j k) [
    | inl more ↦ absurd (first.1 j more other.0)
    | inr above ↦ omega (arith, past, above)
  ]
]

-- ---- white space and comments

pub one_blank : {begins_line : Bool} {text : List ℕ} {count other : ℕ} → IsBlank begins_line text count →
    IsBlank begins_line text other → count ≡ other
one_blank (white is one) (white is' one') = one ∙ sym one'
one_blank (white is one) (directive begins is' all) = absurd (false≢true (ap is_ascii_whitespace (sym is') ∙ is))
one_blank (white is one) (line_comment is' slash all) = absurd (false≢true (ap is_ascii_whitespace (sym is') ∙ is))
one_blank (white is one) (comment inside is' star ends all) = absurd (false≢true (ap is_ascii_whitespace (sym is') ∙ is))
one_blank (directive begins is all) (white is' one) = absurd (false≢true (ap is_ascii_whitespace (sym is) ∙ is'))
one_blank (directive begins is all) (directive begins' is' all') = all ∙ sym all'
one_blank (directive begins is all) (line_comment is' slash all') = absurd (omega (arith, is, is'))
one_blank (directive begins is all) (comment inside is' star ends all') = absurd (omega (arith, is, is'))
one_blank (line_comment is slash all) (white is' one) = absurd (false≢true (ap is_ascii_whitespace (sym is) ∙ is'))
one_blank (line_comment is slash all) (directive begins is' all') = absurd (omega (arith, is, is'))
one_blank (line_comment is slash all) (line_comment is' slash' all') = all ∙ sym all'
one_blank (line_comment is slash all) (comment inside is' star ends all') = absurd (omega (arith, slash, star))
one_blank (comment inside is star ends all) (white is' one) = absurd (false≢true (ap is_ascii_whitespace (sym is) ∙ is'))
one_blank (comment inside is star ends all) (directive begins is' all') = absurd (omega (arith, is, is'))
one_blank (comment inside is star ends all) (line_comment is' slash all') = absurd (omega (arith, slash, star))
one_blank (comment inside is star ends all) (comment inside' is' star' ends' all') =
    all ∙ ap (λ n. n + 4) (one_first _ inside inside' ends ends') ∙ sym all'

-- ---- words

-- a keyword is no numeral
keyword_number : (text : List ℕ) (mark : Mark) → IsKeyword text mark → is_numeral text ≢ true
keyword_number [] mark is = absurd (no_keyword mark is)
keyword_number (x ∷ text) mark is =
    let high = high_first (x ∷ text) mark is in grind (arith, common_steps, high)

-- no bare word begins with a bracket
bracket_bare : (text : List ℕ) → slice_index text 0 ≡ 60 → bare_in text ≡ []
bracket_bare text is =
    no_bare text (ap is_bare is) (λ minus. omega (arith, is, minus))

bracket_mark : (text : List ℕ) → slice_index text 0 ≡ 60 → mark_at text ≡ None
bracket_mark text is = ap (λ b. mark_of b (slice_index text 1)) is

pub record AreOne (word other : Word) (count number : ℕ) : Type 0 where
  pub word_is : word ≡ other
  pub count_is : count ≡ number

pub one_word : {text : List ℕ} {word other : Word} {count number : ℕ} → IsWord text word count →
    IsWord text other number → AreOne word other count number
one_word (a_mark {mark = m} is) (a_mark {mark = n} is') =
    let same = same_Some m n (sym is ∙ is') in record { word_is = ap sign same; count_is = ap mark_length same }
one_word (a_mark {mark = m} is) (keyword none is') = absurd (none-some m (sym none ∙ is))
one_word (a_mark {mark = m} is) (a_name none no_key is') = absurd (none-some m (sym none ∙ is))
one_word (a_mark {mark = m} is) (numeral none is') = absurd (none-some m (sym none ∙ is))
one_word {text = text} (a_mark {mark = m} is) (html inside begins ends) =
    absurd (none-some m (sym (bracket_mark text begins) ∙ is))
one_word (keyword none is) (a_mark {mark = m} is') = absurd (none-some m (sym none ∙ is'))
one_word {text = text} (keyword {mark = m} none is) (keyword {mark = n} none' is') =
    record { word_is = ap sign (one_keyword (bare_in text) m n is is'); count_is = refl }
one_word (keyword {mark = m} none is) (a_name none' no_key is') = absurd (no_key m is)
one_word {text = text} (keyword {mark = m} none is) (numeral none' is') = absurd (keyword_number (bare_in text) m is is')
one_word {text = text} (keyword {mark = m} none is) (html inside begins ends) =
    absurd (no_keyword m (subst (λ b. IsKeyword b m) (bracket_bare text begins) is))
one_word (a_name none no_key is) (a_mark {mark = m} is') = absurd (none-some m (sym none ∙ is'))
one_word (a_name none no_key is) (keyword {mark = m} none' is') = absurd (no_key m is')
one_word (a_name none no_key is) (a_name none' no_key' is') = record { word_is = refl; count_is = refl }
one_word (a_name none no_key is) (numeral none' is') = record { word_is = refl; count_is = refl }
one_word {text = text} (a_name none no_key is) (html inside begins ends) =
    absurd (false≢true (ap is_name (sym (bracket_bare text begins)) ∙ is))
one_word (numeral none is) (a_mark {mark = m} is') = absurd (none-some m (sym none ∙ is'))
one_word {text = text} (numeral none is) (keyword {mark = m} none' is') = absurd (keyword_number (bare_in text) m is' is)
one_word (numeral none is) (a_name none' no_key' is') = record { word_is = refl; count_is = refl }
one_word (numeral none is) (numeral none' is') = record { word_is = refl; count_is = refl }
one_word {text = text} (numeral none is) (html inside begins ends) =
    absurd (false≢true (ap is_numeral (sym (bracket_bare text begins)) ∙ is))
one_word {text = text} (html inside begins ends) (a_mark {mark = m} is) =
    absurd (none-some m (sym (bracket_mark text begins) ∙ is))
one_word {text = text} (html inside begins ends) (keyword {mark = m} none is) =
    absurd (no_keyword m (subst (λ b. IsKeyword b m) (bracket_bare text begins) is))
one_word {text = text} (html inside begins ends) (a_name none no_key is) =
    absurd (false≢true (ap is_name (sym (bracket_bare text begins)) ∙ is))
one_word {text = text} (html inside begins ends) (numeral none is) =
    absurd (false≢true (ap is_numeral (sym (bracket_bare text begins)) ∙ is))
one_word {text = text} (html inside begins ends) (html inside' begins' ends') =
    let same = one_first _ inside inside' ends ends' in
    record { word_is = ap (λ n. id (take (n + 1) text)) same; count_is = ap (λ n. n + 1) same }

-- ---- strings in quotes

pub one_quoted : {text value other : List ℕ} {count number : ℕ} → IsQuoted text value count →
    IsQuoted text other number → (value ≡ other) × (count ≡ number)
one_quoted {text = text} a b =
    let same = one_first _ a.inside b.inside a.ends b.ends in (
      a.value_is ∙ ap (λ n. text_of false (take n (drop 1 text))) same ∙ sym b.value_is,
      a.count_is ∙ ap (λ n. n + 2) same ∙ sym b.count_is,
    )
