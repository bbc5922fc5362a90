-- The terminal that a word names is the last that passes a test.
use Rattle.std.specs.Prelude.{IfNone, IfSome, Contains, Vec, slice_get, nat_eq}
use Rattle.std.specs.Cmp.Lexicographic.{pointwise}
use Rattle.std.specs.declared.alloc.Global.{Global}
use Rattle.std.proofs.Common.{Option, None, Some, ◌≡◌, ◌≢◌, ℕ, zero, suc, ◌+◌, ◌<◌, ◌≤◌, true, false, Bool, List, [], ◌∷◌, cond, length, drop, get_or, refl, ap, rules, sym, ◌∙◌, arith}
use Rattle.std.proofs.lemmas.Bool.{true≢false}
use Rattle.std.proofs.lemmas.List.{at_drop_more, drop_all}
use Rattle.std.proofs.lemmas.Option.{slice_get-get_or}
use Rattle.std.proofs.lemmas.Slice.Eq.{bytes_eq-Decides}
use Rattle.vob_flow.specs.Lists.{lists_of}
use Rattle.files_grammar.specs.declared.file.SymbolNames.{SymbolNames}
use Rattle.files_parse.specs.Terminals.{is_quoted, is_word, last_number, terminal_of}
use Rattle.files_parse.specs.Tokens.{IsLast, IsTerminal, quoted}
use Rattle.files_parse.specs.Tokens.IsTerminal.{by_name, by_identifier, by_character}

-- the name at hand is passed
pub next_name : (test : List ℕ → Bool) (names : List (Vec ℕ Global)) (k : ℕ) (name : Vec ℕ Global)
    (old new all : Option ℕ) → k < length names → name ≡ get_or names k name →
    new ≡ cond (test name.items) (Some k) old → last_number test (lists_of (drop k names)) k old ≡ all →
    last_number test (lists_of (drop (k + 1) names)) (k + 1) new ≡ all
next_name test names k name old new all less at is before =
    let step = λ (own : Vec ℕ Global) (found : Option ℕ).
    last_number test (lists_of (drop (k + 1) names)) (k + 1) (cond (test own.items) (Some k) found) in
    ap (last_number test (lists_of (drop (k + 1) names)) (k + 1)) is ∙ ap (λ own. step own old) at
    ∙ sym (at_drop_more (λ rest. last_number test (lists_of rest) k old) names k name less) ∙ before

-- all names are passed
pub all_names : (test : List ℕ → Bool) (names : List (Vec ℕ Global)) (k : ℕ) (found all : Option ℕ) →
    length names ≤ k → last_number test (lists_of (drop k names)) k found ≡ all → found ≡ all
all_names test names k found all past is =
    sym (ap (λ rest. last_number test (lists_of rest) k found) (drop_all k names past)) ∙ is

-- which name is the last that passes
pub data Last (test : List ℕ → Bool) (names : List (List ℕ)) (k : ℕ) (found result : Option ℕ) : Type 0 where
  passed : (n : ℕ) (name : List ℕ) → result ≡ Some (k + n) → slice_get names n ≡ Some name → test name ≡ true →
      ((m : ℕ) (other : List ℕ) → n < m → slice_get names m ≡ Some other → test other ≡ false) →
      Last test names k found result
  none : ((m : ℕ) (name : List ℕ) → slice_get names m ≡ Some name → test name ≡ false) → result ≡ found →
      Last test names k found result

module _ (test : List ℕ → Bool) where
  later : (name : List ℕ) (names : List (List ℕ)) (n : ℕ) →
      ((m : ℕ) (other : List ℕ) → n < m → slice_get names m ≡ Some other → test other ≡ false) →
      (m : ℕ) (other : List ℕ) → suc n < m → slice_get (name ∷ names) m ≡ Some other → test other ≡ false
  later name names n each zero other less at = absurd (omega (arith, less))
  later name names n each (suc m) other less at = each m other (omega (arith, less)) at

  below : (name : List ℕ) (names : List (List ℕ)) →
      ((m : ℕ) (other : List ℕ) → slice_get names m ≡ Some other → test other ≡ false) →
      (m : ℕ) (other : List ℕ) → 0 < m → slice_get (name ∷ names) m ≡ Some other → test other ≡ false
  below name names each zero other less at = absurd (omega (arith, less))
  below name names each (suc m) other less at = each m other at

  all_fail : (name : List ℕ) (names : List (List ℕ)) → test name ≡ false →
      ((m : ℕ) (other : List ℕ) → slice_get names m ≡ Some other → test other ≡ false) →
      (m : ℕ) (other : List ℕ) → slice_get (name ∷ names) m ≡ Some other → test other ≡ false
  all_fail name names fails each zero other at =
      let same : name ≡ other = cc in ap test (sym same) ∙ fails
  all_fail name names fails each (suc m) other at = each m other at

  last_first : (name : List ℕ) (names : List (List ℕ)) (k : ℕ) (found result : Option ℕ) (b : Bool) →
      test name ≡ b → ((m : ℕ) (other : List ℕ) → slice_get names m ≡ Some other → test other ≡ false) →
      result ≡ cond b (Some k) found → Last test (name ∷ names) k found result
  last_first name names k found result true passes each is =
      let start : k + 0 ≡ k = omega arith in
      passed 0 name (is ∙ ap Some (sym start)) refl passes (below name names each)
  last_first name names k found result false fails each is = none (all_fail name names fails each) is

  pub last_is : (names : List (List ℕ)) (k : ℕ) (found : Option ℕ) →
      Last test names k found (last_number test names k found)
  last_is [] k found = none (λ m name at. absurd (cc)) refl
  last_is (name ∷ names) k found = elim (last_is names (k + 1) (cond (test name) (Some k) found)) [
    | passed n other is at passes each ↦
        let further : k + 1 + n ≡ k + suc n = omega arith in
        passed (suc n) other (is ∙ ap Some further) at passes (later name names n each)
    | none each is ↦ last_first name names k found _ (test name) refl each is
  ]

same_word : (word name : List ℕ) → is_word word name ≡ true → name ≡ word
same_word word name is = (bytes_eq-Decides name word).0 is

is_same : (word : List ℕ) → is_word word word ≡ true
is_same word = (bytes_eq-Decides word word).1 refl

absent : (names : List (List ℕ)) (word : List ℕ) →
    ((m : ℕ) (name : List ℕ) → slice_get names m ≡ Some name → is_word word name ≡ false) → ¬ Contains names word
absent names word each (k, less, same) =
    true≢false (sym (is_same word) ∙ each k word (slice_get-get_or names k word less ∙ ap Some same))

last_word : (names : List (List ℕ)) (word name : List ℕ) (n : ℕ) → slice_get names n ≡ Some name →
    name ≡ word → ((m : ℕ) (other : List ℕ) → n < m → slice_get names m ≡ Some other → is_word word other ≡ false) →
    IsLast names word n
last_word names word name n at same each = record {
  at = at ∙ ap Some same;
  none_later = λ m less there. true≢false (sym (is_same word) ∙ each m word less there);
}

-- ---- by the character between quotes

pub key_quoted : (character : ℕ) (text name word : List ℕ) → text ≡ character ∷ [] → name ≡ quoted character →
    pointwise nat_eq text word ≡ is_quoted word name
key_quoted character text name word short is = rw (short, is) (by word)
  where
    by : (word : List ℕ) → pointwise nat_eq (character ∷ []) word ≡ is_quoted word (quoted character)
    by [] = refl
    by (x ∷ []) = refl
    by (x ∷ y ∷ others) = search rules

pub none_quoted : (name word : List ℕ) → ((character : ℕ) → name ≢ quoted character) → is_quoted word name ≡ false
none_quoted name [] other = refl
none_quoted name (x ∷ []) other = by (is_quoted (x ∷ []) name) refl
  where
    by : (b : Bool) → is_quoted (x ∷ []) name ≡ b → b ≡ false
    by true is = absurd (other x ((bytes_eq-Decides name (quoted x)).0 is))
    by false is = refl
none_quoted name (x ∷ y ∷ others) other = refl

-- ---- what is found

module _ (names : SymbolNames) where
  abbrev terminals : List (List ℕ)
  terminals = lists_of names.terminals.items

  abbrev identifiers : List (List ℕ)
  identifiers = lists_of names.identifiers.items

  -- no name passes
  abbrev Fails : (List ℕ → Bool) → List (List ℕ) → Type 0
  Fails test list = (m : ℕ) (name : List ℕ) → slice_get list m ≡ Some name → test name ≡ false

  -- what is found is what the word names
  abbrev IsFound : List ℕ → Option ℕ → Type 0
  IsFound word result = IfSome result (λ t. IsTerminal names word t)
      × IfNone result ((t : ℕ) → ¬ IsTerminal names word t)

  found : (word : List ℕ) (result : Option ℕ) (t n : ℕ) → result ≡ Some (0 + n) → IsTerminal names word n →
      IsFound word result
  found word result t n is names_it =
      let start : 0 + n ≡ n = omega arith in rw (is ∙ ap Some start) (names_it, tt)

  no_terminal : {word : List ℕ} (t : ℕ) → Fails (is_word word) terminals → Fails (is_word word) identifiers →
      Fails (is_quoted word) identifiers → ¬ IsTerminal names word t
  no_terminal {word} t fails others quotes (by_name last) =
      true≢false (sym (is_same word) ∙ fails t word last.at)
  no_terminal {word} t fails others quotes (by_identifier other last) =
      true≢false (sym (is_same word) ∙ others t word last.at)
  no_terminal t fails others quotes (by_character {character} other one last) =
      true≢false (sym (is_same (quoted character)) ∙ quotes t (quoted character) last.at)

  last_quoted : (character n : ℕ) (name : List ℕ) → slice_get identifiers n ≡ Some name →
      is_quoted (character ∷ []) name ≡ true → ((m : ℕ) (other : List ℕ) → n < m →
      slice_get identifiers m ≡ Some other → is_quoted (character ∷ []) other ≡ false) →
      IsLast identifiers (quoted character) n
  last_quoted character n name at passes each =
      last_word identifiers (quoted character) name n at (same_word (quoted character) name passes) each

  by_quotes : (word : List ℕ) (result : Option ℕ) → Fails (is_word word) terminals →
      Fails (is_word word) identifiers → Last (is_quoted word) identifiers 0 None result → IsFound word result
  by_quotes word result fails others (none each is) =
      rw is (tt, λ t. no_terminal t fails others each)
  by_quotes [] result fails others (passed n name is at passes each) = absurd (true≢false (sym passes))
  by_quotes (x ∷ []) result fails others (passed n name is at passes each) =
      found (x ∷ []) result n n is
      (by_character (absent terminals (x ∷ []) fails) (absent identifiers (x ∷ []) others)
      (last_quoted x n name at passes each))
  by_quotes (x ∷ y ∷ more) result fails others (passed n name is at passes each) = absurd (true≢false (sym passes))

  by_names : (word : List ℕ) (result : Option ℕ) → Fails (is_word word) terminals →
      Last (is_word word) identifiers 0 (last_number (is_quoted word) identifiers 0 None) result →
      IsFound word result
  by_names word result fails (passed n name is at passes each) =
      found word result n n is
      (by_identifier (absent terminals word fails)
      (last_word identifiers word name n at (same_word word name passes) each))
  by_names word result fails (none each is) =
      by_quotes word result fails each (rw is (last_is (is_quoted word) identifiers 0 None))

  pub terminal_is : (word : List ℕ) → IsFound word (terminal_of names word)
  terminal_is word = by (last_is (is_word word) terminals 0 _)
    where
      by : {result : Option ℕ} → Last (is_word word) terminals 0
          (last_number (is_word word) identifiers 0 (last_number (is_quoted word) identifiers 0 None)) result →
          IsFound word result
      by {result} (passed n name is at passes each) =
          found word result n n is (by_name (last_word terminals word name n at (same_word word name passes) each))
      by {result} (none each is) = by_names word result each (rw is (last_is (is_word word) identifiers 0 _))
