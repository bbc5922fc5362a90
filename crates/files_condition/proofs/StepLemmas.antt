-- What was read, after one more word and at the end.
use Rattle.std.specs.Prelude.{codes, nat_eq}
use Rattle.std.proofs.Common.{◌≡◌, ◌≢◌, ◌==◌, ◌&&◌, ℕ, suc, ◌+◌, Bool, true, false, not, Option, None, Some, List, [], ◌∷◌, ◌++◌, length, if◌then◌else◌, refl, sym, ap, subst, ◌∙◌, arith}
use Rattle.std.specs.Cmp.Lexicographic.{pointwise}
use Rattle.std.specs.Option.{option_and_then}
use Rattle.std.proofs.lemmas.Bool.{true≢false}
use Rattle.std.proofs.lemmas.List.{append_assoc, append-nil}
use Rattle.std.proofs.lemmas.Option.{same_Some, none-some}
use Rattle.std.proofs.lemmas.Slice.Eq.{bytes_eq-Decides}
use Rattle.files_condition.specs.declared.words.Mark.TheVariants.{And, Close, Compares, Not, Open, Or}
use Rattle.files_condition.specs.declared.condition.Relation.{Relation}
use Rattle.files_condition.specs.Conditions.{AreCondition, IsComparison, IsExpression, IsKey, Test, Tree, compared, disjunction, missing}
use Rattle.files_condition.specs.Conditions.IsComparison.{asks_missing, asks_present, asks_value}
use Rattle.files_condition.specs.Reading.{Next, State, Waiting, a_joint, a_missing, a_relation, a_value, an_operand, asking, closing, is_key, nothing, run, start, step, step_at, with_alternatives}
use Rattle.files_condition.specs.Words.{Term, Token, mark, text}
use Rattle.files_condition.proofs.SoundLemmas.{HasRead, IsAround, IsAtHand, and_read, asked_more, at_is, at_not, at_relation, at_value, close_read, hand_more, none_at_hand, none_waits, not_read, open_read, or_read, whole_read}
use Rattle.files_condition.proofs.SoundLemmas.AreAlternatives.{no_or}
use Rattle.files_condition.proofs.SoundLemmas.IsAround.{outermost}
use Rattle.files_condition.proofs.SoundLemmas.IsAtHand.{is_hand, name_hand, no_hand, not_hand, value_hand}

pub is_a_key : (term : Term) (key : List ℕ) → is_key term key ≡ true → IsKey term key
is_a_key term key is = by term.is_quoted refl
  where
    by : (q : Bool) → term.is_quoted ≡ q → IsKey term key
    by true quoted = absurd (true≢false (sym is ∙ ap (λ b. not b && pointwise nat_eq term.text key) quoted))
    by false plain = record {
      text_is = (bytes_eq-Decides term.text key).0
          (sym (ap (λ b. not b && pointwise nat_eq term.text key) plain) ∙ is);
      plain = plain;
    }

pub some_text : (xs : List ℕ) → (length xs == 0) ≡ false → xs ≢ []
some_text xs is same = true≢false (sym (ap (λ l. length l == 0) same) ∙ is)

module _ (s t : State) (words : List Token) (read : HasRead s words) where
  abbrev Now : Token → Type 0
  Now token = HasRead t (words ++ token ∷ [])

  abbrev AtHand : Next → List Token → Type 0
  AtHand next hand = IsAtHand (length read.around_tests + length read.own_tests) s.level next hand []

  became : (u : State) (token : Token) → Some u ≡ Some t → HasRead u (words ++ token ∷ []) → Now token
  became u token same is = subst (λ v. HasRead v (words ++ token ∷ [])) (same_Some u t same) is

  -- one word more at hand
  hand_now : (token : Token) (next : Next) (hand : List Token) → (read.hand_words ≡ hand) × (read.hand_tests ≡ []) →
      AtHand next (hand ++ token ∷ []) → Some (record s { next = next }) ≡ Some t → Now token
  hand_now token next hand is there same = became _ token same
      (hand_more s words token read next is.1 (subst (λ l. AtHand next (l ++ token ∷ [])) (sym is.0) there))

  -- the last word of a comparison
  asked_now : (token : Token) (test : Test) (hand : List Token) → (read.hand_words ≡ hand) × (read.hand_tests ≡ []) →
      IsComparison (hand ++ token ∷ []) test → Some (asking s test) ≡ Some t → Now token
  asked_now token test hand is there same = became _ token same
      (asked_more s words token read test is.1 (subst (λ l. IsComparison (l ++ token ∷ []) test) (sym is.0) there))

  abbrev Hand : Next → Type 0
  Hand next = IsAtHand (length read.around_tests + length read.own_tests) s.level next read.hand_words read.hand_tests

  at : (next : Next) → s.next ≡ next → Hand next
  at next is = subst Hand is read.hand

  after_operand : s.next ≡ an_operand → (token : Token) → step_at an_operand s token ≡ Some t → Now token
  after_operand is (text term) same = hand_now (text term) (a_relation term) [] (none_at_hand s words read is)
      (name_hand term) same
  after_operand is (mark Not k) same = became _ (mark Not k) same (subst (λ n. HasRead (record s {
    next = n;
    level =
        record s.level { negations = suc s.level.negations };
  }) (words ++ mark Not k ∷ [])) (sym is) (not_read s words
      read is k))
  after_operand is (mark Open k) same = became _ (mark Open k) same (subst (λ n. HasRead (record s {
    next = n;
    level =
        nothing;
    outer = s.level ∷ s.outer;
  }) (words ++ mark Open k ∷ [])) (sym is) (open_read s words read is k))
  after_operand is (mark And k) same = absurd (none-some t same)
  after_operand is (mark Or k) same = absurd (none-some t same)
  after_operand is (mark Close k) same = absurd (none-some t same)
  after_operand is (mark (Compares relation) k) same = absurd (none-some t same)

  after_name : (name : Term) → s.next ≡ a_relation name → (token : Token) → step_at (a_relation name) s token
      ≡ Some t → Now token
  after_name name is (text term) same = by (is_key term (codes "is")) refl same
    where
      by : (b : Bool) → is_key term (codes "is") ≡ b →
          (if b then Some (record s { next = a_missing name true }) else None) ≡ Some t → Now (text term)
      by true key same = hand_now (text term) (a_missing name true) (text name ∷ []) (at_relation (at (a_relation
          name) is))
          (is_hand name term (is_a_key term (codes "is") key)) same
      by false key same = absurd (none-some t same)
  after_name name is (mark (Compares relation) k) same =
      hand_now (mark (Compares relation) k) (a_value name relation) (text name ∷ []) (at_relation (at (a_relation
      name) is))
      (value_hand name relation k) same
  after_name name is (mark Not k) same = absurd (none-some t same)
  after_name name is (mark Open k) same = absurd (none-some t same)
  after_name name is (mark And k) same = absurd (none-some t same)
  after_name name is (mark Or k) same = absurd (none-some t same)
  after_name name is (mark Close k) same = absurd (none-some t same)

  after_relation : (name : Term) (relation : Relation) → s.next ≡ a_value name relation → (token : Token) →
      step_at (a_value name relation) s token ≡ Some t → Now token
  after_relation name relation is (text term) same = by (length term.text == 0) refl same
    where
      by : (b : Bool) → (length term.text == 0) ≡ b →
          (if b then None else Some (asking s (record { column = name; asked = compared relation term }))) ≡ Some t →
          Now (text term)
      by true empty same = absurd (none-some t same)
      by false some same =
          let (k, hand, none) = at_value (at (a_value name relation) is) in
          asked_now (text term) _ (text name ∷ mark (Compares relation) k ∷ []) (hand, none)
          (asks_value name term relation (some_text term.text some)) same
  after_relation name relation is (mark sign k) same = absurd (none-some t same)

  after_is : (name : Term) → s.next ≡ a_missing name true → (term : Term) → (b c : Bool) →
      is_key term (codes "missing") ≡ b →
      is_key term (codes "not") ≡ c →
      (if b then Some (asking s (record { column = name; asked = missing true }))
      else (if c then Some (record s { next = a_missing name false }) else None)) ≡ Some t → Now (text term)
  after_is name is term true c key other same =
      let (verb, verb_is, hand, none) = at_is (at (a_missing name true) is) in
      asked_now (text term) _ (text name ∷ text verb ∷ []) (
        hand,
        none,
      ) (asks_missing name verb term verb_is (is_a_key term (codes "missing") key)) same
  after_is name is term false true key other same =
      let (verb, verb_is, hand, none) = at_is (at (a_missing name true) is) in
      hand_now (text term) (a_missing name false) (text name ∷ text verb ∷ []) (hand, none)
      (not_hand name verb term verb_is (is_a_key term (codes "not") other)) same
  after_is name is term false false key other same = absurd (none-some t same)

  after_not : (name : Term) → s.next ≡ a_missing name false → (term : Term) → (b : Bool) →
      is_key term (codes "missing") ≡ b →
      (if b then Some (asking s (record { column = name; asked = missing false })) else None) ≡ Some t → Now (text term)
  after_not name is term true key same =
      let (verb, nay, verb_is, nay_is, hand, none) = at_not (at (a_missing name false) is) in
      asked_now (text term) _ (text name ∷ text verb ∷ text nay ∷ []) (hand, none)
      (asks_present name verb nay term verb_is nay_is (is_a_key term (codes "missing") key)) same
  after_not name is term false key same = absurd (none-some t same)

  after_joint : (tree : Tree) → s.next ≡ a_joint tree → (token : Token) → step_at (a_joint tree) s token ≡ Some t →
      Now token
  after_joint tree is (mark And k) same = became _ (mark And k) same (and_read s words tree read is k)
  after_joint tree is (mark Or k) same = became _ (mark Or k) same (or_read s words tree read is k)
  after_joint tree is (mark Close k) same = by s.outer refl same
    where
      by : (outer : List Waiting) → s.outer ≡ outer → closing s.level tree outer s.tests ≡ Some t → Now (mark Close k)
      by [] is_outer same = absurd (none-some t same)
      by (last ∷ outer) is_outer same = became _ (mark Close k) same (close_read s words tree read is k last outer
          is_outer)
  after_joint tree is (text term) same = absurd (none-some t same)
  after_joint tree is (mark Not k) same = absurd (none-some t same)
  after_joint tree is (mark Open k) same = absurd (none-some t same)
  after_joint tree is (mark (Compares relation) k) same = absurd (none-some t same)

  by_next : (next : Next) → s.next ≡ next → (token : Token) → step_at next s token ≡ Some t → Now token
  by_next an_operand is token same = after_operand is token same
  by_next (a_relation name) is token same = after_name name is token same
  by_next (a_value name relation) is token same = after_relation name relation is token same
  by_next (a_missing name true) is (text term) same =
      after_is name is term (is_key term (codes "missing")) (is_key term (codes "not")) refl refl same
  by_next (a_missing name false) is (text term) same = after_not name is term (is_key term (codes "missing")) refl same
  by_next (a_missing name b) is (mark sign k) same = absurd (none-some t same)
  by_next (a_joint tree) is token same = after_joint tree is token same

  pub step_read : (token : Token) → step s token ≡ Some t → Now token
  step_read token same = by_next s.next refl token same

-- nothing was read
pub start_read : HasRead start []
start_read = record {
  around_words = [];
  around_tests = [];
  around = outermost;
  own_words = [];
  own_tests = [];
  own = none_waits nothing refl refl [] [] no_or;
  hand_words = [];
  hand_tests = [];
  hand = no_hand;
  words_are = refl;
  tests_are = refl;
}

-- several words more
module _ (s t : State) (words more : List Token) (token : Token) where
  further : (o : Option State) → step s token ≡ o → HasRead s words →
      ((u : State) → HasRead u (words ++ token ∷ []) → run u more ≡ Some t → HasRead t (words ++ token ∷ [] ++ more)) →
      option_and_then (λ u. run u more) o ≡ Some t → HasRead t (words ++ token ∷ more)
  further None is read each ran = absurd (none-some t ran)
  further (Some u) is read each ran =
      subst (HasRead t) (append_assoc words (token ∷ []) more) (each u (step_read s u words read token is) ran)

pub run_read : (s t : State) (words more : List Token) → HasRead s words → run s more ≡ Some t →
    HasRead t (words ++ more)
run_read s t words [] read ran =
    subst (λ u. HasRead u (words ++ [])) (same_Some s t ran) (subst (HasRead s) (sym (append-nil words)) read)
run_read s t words (token ∷ more) read ran =
    further s t words more token (step s token) refl read
    (λ u now next. run_read u t (words ++ token ∷ []) more now next) ran

around_none : {outer : List Waiting} {words : List Token} {tests : List Test} → IsAround outer words tests → outer
    ≡ [] →
    (words ≡ []) × (tests ≡ [])
around_none outermost none = (refl, refl)
around_none (IsAround.opened at around waits) none = absurd (omega (arith, ap length none))

-- all was read
pub end_read : (s : State) (words : List Token) (tree : Tree) → HasRead s words → s.next ≡ a_joint tree → s.outer ≡ [] →
    AreCondition words s.tests (with_alternatives s.level.alternatives tree)
end_read s words tree read next outer =
    let (no_words, no_tests) = around_none read.around outer in
    let whole = with_alternatives s.level.alternatives tree in
    let words_is : words ≡ read.own_words ++ read.hand_words = read.words_are
    ∙ ap (λ l. l ++ (read.own_words ++ read.hand_words)) no_words in
    let tests_is : s.tests ≡ read.own_tests ++ read.hand_tests = read.tests_are
    ∙ ap (λ l. l ++ (read.own_tests ++ read.hand_tests)) no_tests in
    subst (λ l. IsExpression disjunction 0 l s.tests whole) (sym words_is)
    (subst (λ l. IsExpression disjunction 0 (read.own_words ++ read.hand_words) l whole) (sym tests_is)
    (subst (λ l. IsExpression disjunction (length l) (read.own_words ++ read.hand_words) (read.own_tests
    ++ read.hand_tests) whole) no_tests
    (whole_read s words tree read next)))
