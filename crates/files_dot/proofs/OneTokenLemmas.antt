-- A text has one list of tokens.
use Rattle.std.specs.Prelude.{slice_index}
use Rattle.std.proofs.Common.{◌≡◌, ◌==◌, ℕ, Bool, false, List, [], ◌∷◌, ◌++◌, drop, take, arith, refl, sym, ap, ◌∙◌, subst, append_assoc}
use Rattle.files_dot.specs.DotLaws.{TokensAreOne}
use Rattle.files_dot.specs.Pieces.{IsBlank, IsQuoted}
use Rattle.files_dot.specs.Places.{behind}
use Rattle.files_dot.specs.Tokens.{AreBlanks, AreStrings, AreTokens, IsPlus, IsWord, NoBlank, Token, Word, id}
use Rattle.files_dot.specs.Tokens.AreBlanks.{blank, no_blank}
use Rattle.files_dot.specs.Tokens.AreStrings.{joined, one_string}
use Rattle.files_dot.specs.Tokens.AreTokens.{a_word, after_blanks, no_token, strings}
use Rattle.files_dot.specs.declared.place.Place.{Place}
use Rattle.files_dot.proofs.FirstByteLemmas.{BeginsNone, blank_first, is_blank_byte, no_word, none_blank, none_end, none_plus, none_quote, not_blank}
use Rattle.files_dot.proofs.OnePieceLemmas.{one_blank, one_quoted, one_word}

-- ---- white space and comments up to where there are no more

pub record AreSame (p q : Place) (text rest : List ℕ) : Type 0 where
  pub place_is : p ≡ q
  pub text_is : text ≡ rest

pub one_blanks : {p q r : Place} {text rest other : List ℕ} → AreBlanks p text q rest → AreBlanks p text r other →
    NoBlank (q.column == 1) rest → NoBlank (r.column == 1) other → AreSame q r rest other
one_blanks no_blank no_blank none none' = record { place_is = refl; text_is = refl }
one_blanks no_blank (blank count is more) none none' = absurd (none count is)
one_blanks (blank count is more) no_blank none none' = absurd (none' count is)
one_blanks {p = p} {r = r} {text = text} {other = other} (blank count is more) (blank number is' more') none none' =
    one_blanks more (subst (λ n. AreBlanks (behind p (take n text)) (drop n text) r other) (sym (one_blank is is')) more')
    none none'

no_blank_at : (p : Place) {text : List ℕ} (b : ℕ) → slice_index text 0 ≡ b → is_blank_byte b ≡ false →
    NoBlank (p.column == 1) text
no_blank_at p b is dark = not_blank b is dark (p.column == 1)

-- ---- strings that `+` joins, the first of them first

data Strings : Place → List ℕ → (value : List ℕ) → Place → List ℕ → Type 0 where
  last_one : {p : Place} {text value : List ℕ} (count : ℕ) → IsQuoted text value count →
      Strings p text value (behind p (take count text)) (drop count text)
  and_more : {p q r : Place} {text first second rest others : List ℕ} (count : ℕ) → IsQuoted text first count →
      IsPlus (behind p (take count text)) (drop count text) r others → Strings r others second q rest →
      Strings p text (first ++ second) q rest

with_last : {p q r : Place} {text value second rest others : List ℕ} (count : ℕ) → Strings p text value q rest →
    IsPlus q rest r others → IsQuoted others second count →
    Strings p text (value ++ second) (behind r (take count others)) (drop count others)
with_last count (last_one number is) plus quoted = and_more number is plus (last_one count quoted)
with_last {p = p} {r = r} {text = text} {second = last} {others = others} count
    (and_more {first = first} {second = second} number is plus' more) plus quoted =
    subst (λ v. Strings p text v (behind r (take count others)) (drop count others)) (sym (append_assoc first second last))
    (and_more number is plus' (with_last count more plus quoted))

from_first : {p q : Place} {text value rest : List ℕ} → AreStrings p text value q rest → Strings p text value q rest
from_first (one_string count is) = last_one count is
from_first (joined count are plus is) = with_last count (from_first are) plus is

begins_quote : {p q : Place} {text value rest : List ℕ} → Strings p text value q rest → slice_index text 0 ≡ 34
begins_quote (last_one count is) = is.begins
begins_quote (and_more count is plus more) = is.begins

-- ---- all tokens of a text, a piece after another

data Cut : Place → List ℕ → List Token → Place → Type 0 where
  finished : {p : Place} → Cut p [] [] p
  a_blank : {p q : Place} {text : List ℕ} {tokens : List Token} (count : ℕ) → IsBlank (p.column == 1) text count →
      Cut (behind p (take count text)) (drop count text) tokens q → Cut p text tokens q
  cut_word : {p q : Place} {text : List ℕ} {tokens : List Token} {word : Word} (count : ℕ) → IsWord text word count →
      Cut (behind p (take count text)) (drop count text) tokens q →
      Cut p text (record { word = word; place = p } ∷ tokens) q
  cut_strings : {p q r : Place} {text rest value : List ℕ} {tokens : List Token} → Strings p text value q rest →
      Cut q rest tokens r → Cut p text (record { word = id value; place = p } ∷ tokens) r

cut_blanks : {p q r : Place} {text rest : List ℕ} {tokens : List Token} → AreBlanks p text q rest → Cut q rest tokens r →
    Cut p text tokens r
cut_blanks no_blank cut = cut
cut_blanks (blank count is more) cut = a_blank count is (cut_blanks more cut)

to_cut : {p q : Place} {text rest : List ℕ} {tokens : List Token} → AreTokens p text tokens q rest → rest ≡ [] →
    Cut p text tokens q
to_cut {p = p} no_token empty = subst (λ t. Cut p t [] p) (sym empty) finished
to_cut (after_blanks blanks are) empty = cut_blanks blanks (to_cut are empty)
to_cut (a_word count is are) empty = cut_word count is (to_cut are empty)
to_cut (strings some are) empty = cut_strings (from_first some) (to_cut are empty)

-- ---- what can't be

quote_blank : {p q : Place} {text value rest : List ℕ} → Strings p text value q rest → (begins_line : Bool) (count : ℕ) →
    ¬ IsBlank begins_line text count
quote_blank some = not_blank 34 (begins_quote some) refl

quote_word : {p q : Place} {text value rest : List ℕ} {word : Word} {count : ℕ} → Strings p text value q rest →
    ¬ IsWord text word count
quote_word some = no_word (subst BeginsNone (sym (begins_quote some)) none_quote)

blank_word : {begins_line : Bool} {text : List ℕ} {word : Word} {count number : ℕ} → IsBlank begins_line text count →
    ¬ IsWord text word number
blank_word {text = text} is = no_word (none_blank (slice_index text 0) (blank_first is))

-- no `+` stands where tokens go on
no_plus_cut : {p q : Place} {text : List ℕ} {tokens : List Token} → slice_index text 0 ≡ 43 → ¬ Cut p text tokens q
no_plus_cut is finished = omega (arith, is)
no_plus_cut is (a_blank {p = p} count gap cut) = not_blank 43 is refl (p.column == 1) count gap
no_plus_cut is (cut_word count word cut) = no_word (subst BeginsNone (sym is) none_plus) word
no_plus_cut is (cut_strings some cut) = omega (arith, is, begins_quote some)

no_plus_behind : {p q r : Place} {text rest : List ℕ} {tokens : List Token} → AreBlanks p text r rest →
    slice_index rest 0 ≡ 43 → ¬ Cut p text tokens q
no_plus_behind no_blank is cut = no_plus_cut is cut
no_plus_behind (blank {p = p} count gap more) is finished = not_blank 0 refl refl (p.column == 1) count gap
no_plus_behind {q = q} {text = text} {tokens = tokens} (blank {p = p} count gap more) is (a_blank number gap' cut) =
    no_plus_behind more is
    (subst (λ n. Cut (behind p (take n text)) (drop n text) tokens q) (sym (one_blank gap gap')) cut)
no_plus_behind (blank count gap more) is (cut_word number word cut) = blank_word gap word
no_plus_behind (blank {p = p} count gap more) is (cut_strings some cut) = quote_blank some (p.column == 1) count gap

no_plus : {p q r : Place} {text rest : List ℕ} {tokens : List Token} → Cut p text tokens q → ¬ IsPlus p text r rest
no_plus cut plus = no_plus_behind plus.before plus.is_plus cut

-- ---- strings are joined in one way

one_plus : {p q r : Place} {text rest other : List ℕ} → IsPlus p text q rest → IsPlus p text r other →
    slice_index rest 0 ≡ 34 → slice_index other 0 ≡ 34 → AreSame q r rest other
one_plus {q = q} {r = r} {rest = rest} {other = other} a b quote quote' =
    let at = one_blanks a.before b.before (no_blank_at a.at 43 a.is_plus refl) (no_blank_at b.at 43 b.is_plus refl) in
    let behind_it : AreBlanks (behind a.at (take 1 a.plus)) (drop 1 a.plus) r other =
    subst (λ t. AreBlanks (behind a.at (take 1 t)) (drop 1 t) r other) (sym at.text_is)
    (subst (λ p. AreBlanks (behind p (take 1 b.plus)) (drop 1 b.plus) r other) (sym at.place_is) b.after) in
    one_blanks a.after behind_it (no_blank_at q 34 quote refl) (no_blank_at r 34 quote' refl)

record AreAlike (value other : List ℕ) (p q : Place) (text rest : List ℕ) : Type 0 where
  pub value_is : value ≡ other
  pub same : AreSame p q text rest

one_strings : {p q r : Place} {text value other rest last : List ℕ} → Strings p text value q rest →
    Strings p text other r last → ((s : Place) (more : List ℕ) → ¬ IsPlus q rest s more) →
    ((s : Place) (more : List ℕ) → ¬ IsPlus r last s more) → AreAlike value other q r rest last
one_strings {p = p} {text = text} (last_one count is) (last_one number is') none none' =
    let same = one_quoted is is' in
    record {
      value_is = same.0;
      same = record { place_is = ap (λ n. behind p (take n text)) same.1; text_is = ap (λ n. drop n text) same.1 };
    }
one_strings {p = p} {text = text} (last_one count is) (and_more {r = s} {others = others} number is' plus more) none none' =
    absurd (none s others (subst (λ n. IsPlus (behind p (take n text)) (drop n text) s others) (sym (one_quoted is is').1) plus))
one_strings {p = p} {text = text} (and_more {r = s} {others = others} count is plus more) (last_one number is') none none' =
    absurd (none' s others (subst (λ n. IsPlus (behind p (take n text)) (drop n text) s others) (one_quoted is is').1 plus))
one_strings {p = p} {r = r} {text = text} {last = last} (and_more {r = s} {first = first} {second = second} {others = others} count is plus more)
    (and_more {r = s'} {first = first'} {second = second'} {others = others'} number is' plus' more') none none' =
    let quoted = one_quoted is is' in
    let there = one_plus plus
    (subst (λ n. IsPlus (behind p (take n text)) (drop n text) s' others') (sym quoted.1) plus')
    (begins_quote more) (begins_quote more') in
    let behind_it = one_strings more
    (subst (λ t. Strings s t second' r last) (sym there.text_is)
    (subst (λ q. Strings q others' second' r last) (sym there.place_is) more')) none none' in
    record {
      value_is = ap (λ v. v ++ second) quoted.0 ∙ ap (λ v. first' ++ v) behind_it.value_is;
      same = behind_it.same;
    }

-- ---- a text is cut in one way

record AreEqual (tokens others : List Token) (p q : Place) : Type 0 where
  pub tokens_are : tokens ≡ others
  pub place_is : p ≡ q

first_is : {tokens others : List Token} {p q : Place} (at : Place) {word other : Word} → word ≡ other →
    AreEqual tokens others p q →
    AreEqual (record { word = word; place = at } ∷ tokens) (record { word = other; place = at } ∷ others) p q
first_is {tokens = tokens} at {other = other} same more = record {
  tokens_are = ap (λ w. record { word = w; place = at } ∷ tokens) same
      ∙ ap (λ l. record { word = other; place = at } ∷ l) more.tokens_are;
  place_is = more.place_is;
}

cut_one : {p q r : Place} {text : List ℕ} {tokens others : List Token} → Cut p text tokens q → Cut p text others r →
    AreEqual tokens others q r
cut_one finished finished = record { tokens_are = refl; place_is = refl }
cut_one finished (a_blank {p = p} count is cut) = absurd (not_blank 0 refl refl (p.column == 1) count is)
cut_one finished (cut_word count is cut) = absurd (no_word none_end is)
cut_one finished (cut_strings some cut) = absurd (omega (arith, begins_quote some))
cut_one (a_blank {p = p} count is cut) finished = absurd (not_blank 0 refl refl (p.column == 1) count is)
cut_one {p = p} {r = r} {text = text} {others = others} (a_blank count is cut) (a_blank number is' cut') =
    cut_one cut (subst (λ n. Cut (behind p (take n text)) (drop n text) others r) (sym (one_blank is is')) cut')
cut_one (a_blank count is cut) (cut_word number is' cut') = absurd (blank_word is is')
cut_one (a_blank {p = p} count is cut) (cut_strings some cut') = absurd (quote_blank some (p.column == 1) count is)
cut_one (cut_word count is cut) finished = absurd (no_word none_end is)
cut_one (cut_word count is cut) (a_blank number is' cut') = absurd (blank_word is' is)
cut_one {p = p} {r = r} {text = text} (cut_word count is cut) (cut_word {tokens = others} number is' cut') =
    let same = one_word is is' in
    first_is p same.word_is (cut_one cut
    (subst (λ n. Cut (behind p (take n text)) (drop n text) others r) (sym same.count_is) cut'))
cut_one (cut_word count is cut) (cut_strings some cut') = absurd (quote_word some is)
cut_one (cut_strings some cut) finished = absurd (omega (arith, begins_quote some))
cut_one (cut_strings some cut) (a_blank {p = p} count is cut') = absurd (quote_blank some (p.column == 1) count is)
cut_one (cut_strings some cut) (cut_word count is cut') = absurd (quote_word some is)
cut_one {p = p} {r = r} (cut_strings {q = q} {rest = rest} some cut) (cut_strings {rest = rest'} {tokens = others} some' cut') =
    let alike = one_strings some some' (λ s more. no_plus cut) (λ s more. no_plus cut') in
    first_is p (ap id alike.value_is) (cut_one cut
    (subst (λ t. Cut q t others r) (sym alike.same.text_is)
    (subst (λ at. Cut at rest' others r) (sym alike.same.place_is) cut')))

pub tokens_one : TokensAreOne
tokens_one text tokens others end other_end are are' =
    let same = cut_one (to_cut are refl) (to_cut are' refl) in (same.tokens_are, same.place_is)
