-- Tokens, a piece after another.
use Rattle.std.specs.Prelude.{IfNone, slice_index}
use Rattle.std.proofs.Common.{◌≡◌, ◌≢◌, ◌==◌, ◌<◌, ℕ, zero, suc, ◌-◌, ◌||◌, Bool, true, false, Option, None, Some, List, [], ◌∷◌, ◌++◌, drop, take, length, refl, sym, ap, ◌∙◌, arith, subst, inl, inr, length-drop, append-nil, map}
use Rattle.std.proofs.lemmas.Bool.{true≢false, false≢true}
use Rattle.std.proofs.lemmas.Grind.{common_steps}
use Rattle.std.proofs.lemmas.List.{map-append, take_all}
use Rattle.std.proofs.lemmas.Option.{none-some}
use Rattle.files_text.specs.declared.fault.Fault.{Fault}
use Rattle.files_text.specs.Faults.{IsLine}
use Rattle.files_dot.specs.Ids.{IsKeyword, bare_in, bare_length, is_name, is_numeral, mark_at, mark_length, mark_of}
use Rattle.files_dot.specs.Pieces.{IsBlank, IsHtmlEnd, IsQuote}
use Rattle.files_dot.specs.Places.{behind, first_place}
use Rattle.files_dot.specs.Scanning.{IsNotQuoted, IsStopped, IsStoppedBehind, TakesQuoted, TakesStrings, TakesWord}
use Rattle.files_dot.specs.Tokens.{AreBlanks, AreDotTokens, AreStrings, AreTokens, IsPlus, IsTokenFault, IsWord, NoBlank, Token, Word, expected_for, id, sign, token_of, word_of}
use Rattle.files_dot.specs.Tokens.AreBlanks.{blank, no_blank}
use Rattle.files_dot.specs.Tokens.AreStrings.{one_string, joined}
use Rattle.files_dot.specs.Tokens.AreTokens.{a_word, after_blanks, no_token, strings}
use Rattle.files_dot.specs.Tokens.IsNoToken.{no_word, unclosed_html, unclosed_string}
use Rattle.files_dot.specs.Tokens.IsWord.{a_mark, a_name, keyword, numeral}
use Rattle.files_dot.specs.declared.place.Place.{Place}
use Rattle.files_dot.specs.declared.token.Mark.{Mark}
use Rattle.files_dot.specs.declared.token.Mark.TheVariants.{Arrow, Digraph, Edge, Graph, Line, Node, Strict, Subgraph}
use Rattle.files_dot.specs.declared.token.Token.{Token as HeldToken}
use Rattle.files_dot.specs.declared.token.Word.{Word as Held}
use Rattle.files_dot.specs.declared.token.Word.TheVariants.{Sign}

-- the rest of a text as a slice of it
pub tail_is : (n : ℕ) (text : List ℕ) → take (length text - n) (drop n text) ≡ drop n text
tail_is n text = take_all (length text - n) (drop n text) (omega (arith, length-drop n text))

-- tokens behind others
pub more_tokens : {p q r : Place} {text rest last : List ℕ} (tokens others : List Token) →
    AreTokens p text tokens q rest → AreTokens q rest others r last → AreTokens p text (tokens ++ others) r last
more_tokens tokens others (no_token) behind_them = behind_them
more_tokens tokens others (after_blanks blanks are) behind_them =
    after_blanks blanks (more_tokens tokens others are behind_them)
more_tokens (token ∷ tokens) others (a_word count word are) behind_them =
    a_word count word (more_tokens tokens others are behind_them)
more_tokens (token ∷ tokens) others (strings some are) behind_them =
    strings some (more_tokens tokens others are behind_them)

-- white space or a comment before others
pub blank_before : {p q to : Place} {text rest last : List ℕ} (count : ℕ) → IsBlank (p.column == 1) text count →
    q ≡ behind p (take count text) → rest ≡ drop count text → AreBlanks q rest to last → AreBlanks p text to last
blank_before count is place_is rest_is are = let there = rw (place_is, rest_is) at are in blank count is there

pub passed : {p q r : Place} {text rest last : List ℕ} →
    ((to : Place) (after : List ℕ) → AreBlanks q rest to after → AreBlanks p text to after) →
    r ≡ q → last ≡ rest → AreBlanks p text r last
passed {q = q} {rest = rest} before place_is rest_is = rw (place_is, rest_is) (before q rest no_blank)

-- a string, which was taken first
pub first_string : {p q : Place} {text none all rest : List ℕ} → none ≡ [] → TakesQuoted p text none all q rest →
    AreStrings p text all q rest
first_string {p = p} {text = text} {all = all} empty taken =
    let same : all ≡ taken.value = taken.all_is ∙ ap (λ l. l ++ taken.value) empty in
    rw (same, taken.to_is, taken.rest_is) (one_string taken.count taken.is_quoted)

-- a string behind others
pub next_string : {p q r s : Place} {text some all rest others last : List ℕ} → AreStrings p text some q rest →
    IsPlus q rest r others → TakesQuoted r others some all s last → AreStrings p text all s last
next_string are plus taken =
    rw (taken.all_is, taken.to_is, taken.rest_is) (joined taken.count are plus taken.is_quoted)

-- no closing quote, and no closing bracket
pub no_quote_in : (text : List ℕ) (found : Option ℕ) (tail : List ℕ) → tail ≡ drop 1 text → found ≡ None →
    IfNone found ((k : ℕ) → ¬ IsQuote tail k) → (k : ℕ) → ¬ IsQuote (drop 1 text) k
no_quote_in text None tail is none not_there =
    λ k quote. not_there k (subst (λ t. IsQuote t k) (sym is) quote)
no_quote_in text (Some n) tail is none not_there = absurd (none-some n (sym none))

pub no_end_in : (text tail : List ℕ) → tail ≡ drop 1 text → ((k : ℕ) → ¬ IsHtmlEnd tail k) →
    (k : ℕ) → ¬ IsHtmlEnd (drop 1 text) k
no_end_in text tail is not_there k ends = not_there k (subst (λ t. IsHtmlEnd t k) (sym is) ends)

pub first_stopped : {p : Place} {text : List ℕ} {fault : Fault} → slice_index text 0 ≡ 34 → IsNotQuoted p text fault →
    IsStopped p text fault
first_stopped begins (inl memory) = inl memory
first_stopped {p = p} begins (inr other) = inr (p, other.0, inl (refl, unclosed_string begins other.1), other.2)

pub next_stopped : {p q r : Place} {text some rest others : List ℕ} {fault : Fault} → AreStrings p text some q rest →
    IsPlus q rest r others → IsNotQuoted r others fault → IsStopped p text fault
next_stopped are plus (inl memory) = inl memory
next_stopped {q = q} {r = r} {some = some} {rest = rest} {others = others} are plus (inr other) =
    inr (
      r,
      other.0,
      inr (record {
        value = some;
        to = q;
        others = rest;
        rest = others;
        are_strings = are;
        plus = plus;
        no_string = other.1;
      }),
      other.2,
    )

-- a word that was taken
pub takes_word : {p q : Place} {text rest : List ℕ} (count : ℕ) (word : Word) (held : Held) → IsWord text word count →
    word_of held ≡ word → 0 < count → 0 < length text → q ≡ behind p (take count text) → rest ≡ drop count text →
    TakesWord p text held q rest
takes_word {p = p} {q = q} {text = text} {rest = rest} count word held is same some long to_is rest_is = record {
  are_tokens = rw (same, to_is, rest_is) (a_word count is no_token);
  shorter = rw rest_is (omega (arith, length-drop count text));
}

pub keyword_some : (bare : List ℕ) (mark : Mark) → IsKeyword bare mark → 0 < length bare
keyword_some (x ∷ bare) mark is = omega arith
keyword_some [] Strict is = absurd (cc)
keyword_some [] Graph is = absurd (cc)
keyword_some [] Digraph is = absurd (cc)
keyword_some [] Node is = absurd (cc)
keyword_some [] Edge is = absurd (cc)
keyword_some [] Subgraph is = absurd (cc)
keyword_some [] mark is = absurd is

bare_some : (bare : List ℕ) → (is_name bare || is_numeral bare) ≡ true → 0 < length bare
bare_some [] is = absurd (false≢true is)
bare_some (x ∷ bare) is = omega arith

some_bytes : (count : ℕ) (text bare : List ℕ) → bare ≡ take count text → 0 < length bare → 0 < count
some_bytes zero text bare is some = absurd (omega (arith, some, ap length is))
some_bytes (suc count) text bare is some = omega arith

mark_some : (mark : Mark) → 0 < mark_length mark
mark_some Arrow = omega arith
mark_some Line = omega arith
mark_some mark = omega arith

module _ {p q : Place} {text rest : List ℕ} (count : ℕ) (long : 0 < length text) (to_is : q ≡ behind p (take count text))
    (rest_is : rest ≡ drop count text) where
  pub takes_mark : (first second : ℕ) (mark : Mark) → Some mark ≡ mark_of first second →
      first ≡ slice_index text 0 → second ≡ slice_index text 1 → count ≡ mark_length mark →
      TakesWord p text (Sign mark) q rest
  takes_mark first second mark found one two is =
      let there : mark_at text ≡ Some mark = sym (found ∙ ap (λ b. mark_of b second) one ∙ ap (mark_of (slice_index text 0)) two) in
      takes_word count (sign mark) (Sign mark) (rw is (a_mark {mark = mark} there)) refl (rw is (mark_some mark)) long to_is
      rest_is

  module _ (bare : List ℕ) (none : mark_at text ≡ None) (count_is : count ≡ bare_length text)
      (bare_is : bare ≡ take count text) where
    pub takes_keyword : (mark : Mark) → IsKeyword bare mark → TakesWord p text (Sign mark) q rest
    takes_keyword mark is =
        let whole : bare ≡ bare_in text = bare_is ∙ ap (λ n. take n text) count_is in
        let there : IsKeyword (bare_in text) mark = subst (λ b. IsKeyword b mark) whole is in
        takes_word count (sign mark) (Sign mark) (rw count_is (keyword {mark = mark} none there)) refl
        (some_bytes count text bare bare_is (keyword_some bare mark is)) long to_is rest_is

    pub takes_bare : (held : Held) → ((mark : Mark) → ¬ IsKeyword bare mark) → (is_name bare || is_numeral bare) ≡ true →
        word_of held ≡ id (take count text) → TakesWord p text held q rest
    takes_bare held no_key is same =
        let whole : bare ≡ bare_in text = bare_is ∙ ap (λ n. take n text) count_is in
        let there : IsWord text (id (bare_in text)) (bare_length text) = by whole (is_name (bare_in text)) refl
        (subst (λ b. (is_name b || is_numeral b) ≡ true) whole is) in
        takes_word count (id (bare_in text)) held (rw count_is there) (same ∙ ap (λ n. id (take n text)) count_is)
        (some_bytes count text bare bare_is (bare_some bare is)) long to_is rest_is
      where
        by : bare ≡ bare_in text → (b : Bool) → is_name (bare_in text) ≡ b → (is_name (bare_in text) || is_numeral (bare_in text)) ≡ true →
            IsWord text (id (bare_in text)) (bare_length text)
        by whole true named either = a_name none (λ mark key. no_key mark (subst (λ b. IsKeyword b mark) (sym whole) key)) named
        by whole false named either =
            let number : is_numeral (bare_in text) ≡ true = sym (ap (λ b. b || is_numeral (bare_in text)) named) ∙ either in
            numeral none number

-- no word at all
pub not_bare : {p : Place} {text : List ℕ} {fault : Fault} (count : ℕ) (bare said : List ℕ) → 0 < length text →
    NoBlank (p.column == 1) text → slice_index text 0 ≢ 34 → slice_index text 0 ≢ 60 → mark_at text ≡ None →
    count ≡ bare_length text → bare ≡ take count text → ((mark : Mark) → ¬ IsKeyword bare mark) →
    (is_name bare || is_numeral bare) ≡ false → said ≡ expected_for (slice_index text 0) →
    IsLine fault p.line p.column said → IsStopped p text fault
not_bare {p = p} {text = text} {fault = fault} count bare said long no_white quote bracket mark count_is bare_is no_key no_id said_is line =
    let whole : bare ≡ bare_in text = bare_is ∙ ap (λ n. take n text) count_is in
    let both = neither (is_name bare) (is_numeral bare) no_id in
    inr (
      p,
      expected_for (slice_index text 0),
      inl (
        refl,
        no_word (λ empty. omega (arith, long, ap length empty)) no_white
            quote bracket mark (λ m key. no_key m (subst (λ b. IsKeyword b m) (sym whole) key)) (sym (ap is_name whole) ∙ both.0)
            (sym (ap is_numeral whole) ∙ both.1),
      ),
      subst (IsLine fault p.line p.column) said_is line,
    )
  where
    neither : (a b : Bool) → (a || b) ≡ false → (a ≡ false) × (b ≡ false)
    neither false b is = (refl, is)
    neither true b is = absurd (true≢false is)

pub not_html : {p : Place} {text : List ℕ} {fault : Fault} (first : ℕ) (said : List ℕ) → slice_index text 0 ≡ 60 →
    ((k : ℕ) → ¬ IsHtmlEnd (drop 1 text) k) → first ≡ slice_index text 0 → said ≡ expected_for first →
    IsLine fault p.line p.column said → IsStopped p text fault
not_html {p = p} {text = text} {fault = fault} first said begins none first_is said_is line = inr (
  p,
  expected_for (slice_index text 0),
  inl (refl, unclosed_html begins none),
  subst (IsLine fault p.line p.column) (said_is ∙ ap expected_for first_is) line,
)

pub takes_joined : {p q : Place} {text value rest : List ℕ} (held : Held) → TakesStrings p text value q rest →
    word_of held ≡ id value → length rest < length text → TakesWord p text held q rest
takes_joined held taken same shorter = record {
  are_tokens = rw same (strings taken.are_strings (after_blanks taken.are_blanks no_token));
  shorter = shorter;
}

pub empty_is : (text : List ℕ) → true ≡ (length text == 0) → text ≡ []
empty_is [] is = refl
empty_is (x ∷ text) is = absurd (true≢false (is ∙ grind (arith, common_steps)))

-- all tokens of a text
module _ (whole : List ℕ) {p : Place} {text : List ℕ} (held : List HeldToken)
    (so_far : AreTokens first_place whole (map token_of held) p text) where
  pub tokens_more : {q : Place} {rest : List ℕ} (token : HeldToken) (all : List HeldToken) →
      AreTokens p text (token_of token ∷ []) q rest → all ≡ held ++ token ∷ [] →
      AreTokens first_place whole (map token_of all) q rest
  tokens_more {q = q} {rest = rest} token all are is =
      subst (λ l. AreTokens first_place whole l q rest)
      (sym (ap (map token_of) is ∙ map-append token_of held (token ∷ [])))
      (more_tokens (map token_of held) (token_of token ∷ []) so_far are)

  pub tokens_end : {q : Place} {rest : List ℕ} → AreTokens p text [] q rest → rest ≡ [] →
      AreDotTokens whole (map token_of held) q
  tokens_end {q = q} {rest = rest} are empty =
      subst (AreTokens first_place whole (map token_of held) q) empty
      (subst (λ l. AreTokens first_place whole l q rest) (append-nil (map token_of held))
      (more_tokens (map token_of held) [] so_far are))

  pub token_fault : {fault : Fault} → IsStoppedBehind p text fault → IsTokenFault whole fault
  token_fault (to, rest, blanks, inl memory) = inl memory
  token_fault (to, rest, blanks, inr stop) = inr (
    stop.0,
    stop.1,
    record {
      tokens = map token_of held;
      from = to;
      text = rest;
      are_tokens = subst (λ l. AreTokens first_place whole l to rest) (append-nil (map token_of held))
          (more_tokens (map token_of held) [] so_far (after_blanks blanks no_token));
      stops = stop.2;
    },
    stop.3,
  )
