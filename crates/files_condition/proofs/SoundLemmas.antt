-- What was read is an expression, or the beginning of one.
use Rattle.std.specs.Prelude.{codes}
use Rattle.std.proofs.Common.{◌≡◌, ℕ, zero, suc, ◌+◌, true, false, Option, None, Some, List, [], ◌∷◌, ◌++◌, length, refl, sym, ap, subst, ◌∙◌, arith}
use Rattle.std.proofs.lemmas.List.{append_assoc, append-nil, length-append}
use Rattle.std.proofs.lemmas.Option.{none-some}
use Rattle.files_condition.specs.declared.words.Mark.TheVariants.{And, Close, Compares, Not, Open, Or}
use Rattle.files_condition.specs.declared.condition.Relation.{Relation}
use Rattle.files_condition.specs.Conditions.{IsComparison, IsExpression, IsKey, Test, Tree, both, comparison, conjunction, contrary, disjunction, either, operand}
use Rattle.files_condition.specs.Conditions.IsExpression.{compares, conjoined, disjoined, grouped, negated, one_conjunction, one_operand}
use Rattle.files_condition.specs.Reading.{Next, State, Waiting, a_joint, a_missing, a_relation, a_value, after, an_operand, negate, nothing, open_to, with_alternatives, with_factors}
use Rattle.files_condition.specs.Words.{Term, Token, mark, text}

-- the words before the last `|` of some parentheses, before the last `&`, and of `!`
pub data AreAlternatives (n : ℕ) : Option Tree → List Token → List Test → Type 0 where
  no_or : AreAlternatives n None [] []
  or : {tree : Tree} {words : List Token} {tests : List Test} (at : ℕ) → IsExpression disjunction n words tests tree →
      AreAlternatives n (Some tree) (words ++ mark Or at ∷ []) tests

pub data AreFactors (n : ℕ) : Option Tree → List Token → List Test → Type 0 where
  no_and : AreFactors n None [] []
  and : {tree : Tree} {words : List Token} {tests : List Test} (at : ℕ) → IsExpression conjunction n words tests tree →
      AreFactors n (Some tree) (words ++ mark And at ∷ []) tests

pub data AreNegations : ℕ → List Token → Type 0 where
  no_not : AreNegations zero []
  not_more : {k : ℕ} {words : List Token} (at : ℕ) → AreNegations k words →
      AreNegations (suc k) (words ++ mark Not at ∷ [])

-- the words before an operand in its parentheses
pub record Waits (n : ℕ) (waits : Waiting) (words : List Token) (tests : List Test) : Type 0 where
  pub or_words : List Token
  pub or_tests : List Test
  pub alternatives : AreAlternatives n waits.alternatives or_words or_tests
  pub and_words : List Token
  pub and_tests : List Test
  pub factors : AreFactors (n + length or_tests) waits.factors and_words and_tests
  pub not_words : List Token
  pub negations : AreNegations waits.negations not_words
  pub words_are : words ≡ or_words ++ (and_words ++ not_words)
  pub tests_are : tests ≡ or_tests ++ and_tests

-- the words before those in the innermost parentheses that are open
pub data IsAround : List Waiting → List Token → List Test → Type 0 where
  outermost : IsAround [] [] []
  opened : {outer : List Waiting} {waits : Waiting} {words more : List Token} {tests own : List Test} (at : ℕ) →
      IsAround outer words tests → Waits (length tests) waits more own →
      IsAround (waits ∷ outer) (words ++ (more ++ mark Open at ∷ [])) (tests ++ own)

-- the words at hand
pub data IsAtHand (n : ℕ) (waits : Waiting) : Next → List Token → List Test → Type 0 where
  no_hand : IsAtHand n waits an_operand [] []
  name_hand : (name : Term) → IsAtHand n waits (a_relation name) (text name ∷ []) []
  value_hand : (name : Term) (relation : Relation) (at : ℕ) →
      IsAtHand n waits (a_value name relation) (text name ∷ mark (Compares relation) at ∷ []) []
  is_hand : (name is : Term) → IsKey is (codes "is") → IsAtHand n waits (a_missing name true) (text name ∷ text is
      ∷ []) []
  not_hand : (name is nay : Term) → IsKey is (codes "is") → IsKey nay (codes "not") →
      IsAtHand n waits (a_missing name false) (text name ∷ text is ∷ text nay ∷ []) []
  joint_hand : {tree : Tree} {words : List Token} {tests : List Test} → waits.factors ≡ None → waits.negations ≡ 0 →
      IsExpression conjunction n words tests tree → IsAtHand n waits (a_joint tree) words tests

-- what was read
pub record HasRead (s : State) (words : List Token) : Type 0 where
  pub around_words : List Token
  pub around_tests : List Test
  pub around : IsAround s.outer around_words around_tests
  pub own_words : List Token
  pub own_tests : List Test
  pub own : Waits (length around_tests) s.level own_words own_tests
  pub hand_words : List Token
  pub hand_tests : List Test
  pub hand : IsAtHand (length around_tests + length own_tests) s.level s.next hand_words hand_tests
  pub words_are : words ≡ around_words ++ (own_words ++ hand_words)
  pub tests_are : s.tests ≡ around_tests ++ (own_tests ++ hand_tests)

-- an operand behind `!`
under : {n : ℕ} (k : ℕ) (words others : List Token) (own : List Test) (tree : Tree) → AreNegations k words →
    IsExpression operand n others own tree → IsExpression operand n (words ++ others) own (negate k tree)
under _ _ others own tree no_not is = is
under {n} _ _ others own tree (not_more {k = k} {words = words} at before) is =
    subst (λ l. IsExpression operand n l own (negate k (contrary tree))) (sym (append_assoc words (mark Not at ∷ [])
    others))
    (under k words (mark Not at ∷ others) own (contrary tree) before (negated is))

-- and behind `&`
joins : {n : ℕ} (factors : Option Tree) (words others : List Token) (own more : List Test) (tree : Tree) →
    AreFactors n factors words own → IsExpression operand (n + length own) others more tree →
    IsExpression conjunction n (words ++ others) (own ++ more) (with_factors factors tree)
joins {n} _ _ others _ more tree no_and is =
    one_operand (subst (λ k. IsExpression operand k others more tree) (omega arith) is)
joins {n} _ _ others own more tree (and {tree = first} {words = words} at before) is =
    subst (λ l. IsExpression conjunction n l (own ++ more) (both first tree)) (sym (append_assoc words (mark And at
    ∷ []) others))
    (conjoined at before is)

-- a conjunction behind `|`
pub alternates : {n : ℕ} (alternatives : Option Tree) (words others : List Token) (own more : List Test) (tree : Tree) →
    AreAlternatives n alternatives words own → IsExpression conjunction (n + length own) others more tree →
    IsExpression disjunction n (words ++ others) (own ++ more) (with_alternatives alternatives tree)
alternates {n} _ _ others _ more tree no_or is =
    one_conjunction (subst (λ k. IsExpression conjunction k others more tree) (omega arith) is)
alternates {n} _ _ others own more tree (or {tree = first} {words = words} at before) is =
    subst (λ l. IsExpression disjunction n l (own ++ more) (either first tree)) (sym (append_assoc words (mark Or at
    ∷ []) others))
    (disjoined at before is)

-- an operand was read
module _ (waits : Waiting) (outer : List Waiting) (before own more all : List Token)
    (tests own_tests more_tests now : List Test) (tree : Tree) where
  pub after_read : IsAround outer before tests → Waits (length tests) waits own own_tests →
      IsExpression operand (length tests + length own_tests) more more_tests tree →
      all ≡ before ++ (own ++ more) → now ≡ tests ++ (own_tests ++ more_tests) →
      HasRead (after waits tree outer now) all
  after_read around own_is is words_are tests_are =
      let n = length tests in
      let count : length tests + length own_tests ≡ n + length own_is.or_tests + length own_is.and_tests =
      omega (arith, ap length own_is.tests_are, length-append own_is.or_tests own_is.and_tests) in
      let operand_is : IsExpression operand (n + length own_is.or_tests + length own_is.and_tests) more more_tests
      tree =
      subst (λ k. IsExpression operand k more more_tests tree) count is in
      let negated_is = under waits.negations own_is.not_words more more_tests tree own_is.negations operand_is in
      let joined = joins waits.factors own_is.and_words (own_is.not_words ++ more) own_is.and_tests more_tests
      (negate waits.negations tree) own_is.factors negated_is in
      record {
        around_words = before;
        around_tests = tests;
        around = around;
        own_words = own_is.or_words;
        own_tests = own_is.or_tests;
        own = record {
          or_words = own_is.or_words;
          or_tests = own_is.or_tests;
          alternatives = own_is.alternatives;
          and_words = [];
          and_tests = [];
          factors = no_and;
          not_words = [];
          negations = no_not;
          words_are = sym (append-nil own_is.or_words);
          tests_are = sym (append-nil own_is.or_tests);
        };
        hand_words = own_is.and_words ++ (own_is.not_words ++ more);
        hand_tests = own_is.and_tests ++ more_tests;
        hand = joint_hand refl refl joined;
        words_are = words_are ∙ ap (λ l. before ++ (l ++ more)) own_is.words_are
            ∙ ap (λ l. before ++ l) (append_assoc own_is.or_words (own_is.and_words ++ own_is.not_words) more
            ∙ ap (λ l. own_is.or_words ++ l) (append_assoc own_is.and_words own_is.not_words more));
        tests_are = tests_are ∙ ap (λ l. tests ++ (l ++ more_tests)) own_is.tests_are
            ∙ ap (λ l. tests ++ l) (append_assoc own_is.or_tests own_is.and_tests more_tests);
      }

-- a word more at hand, in the same place
module _ (s : State) (words : List Token) (token : Token) (read : HasRead s words) where
  pub hand_more : (next : Next) → read.hand_tests ≡ [] →
      IsAtHand (length read.around_tests + length read.own_tests) s.level next (read.hand_words ++ token ∷ []) [] →
      HasRead (record s { next = next }) (words ++ token ∷ [])
  hand_more next none is = record {
    around_words = read.around_words;
    around_tests = read.around_tests;
    around = read.around;
    own_words = read.own_words;
    own_tests = read.own_tests;
    own = read.own;
    hand_words = read.hand_words ++ token ∷ [];
    hand_tests = [];
    hand = is;
    words_are = ap (λ l. l ++ token ∷ []) read.words_are
        ∙ append_assoc read.around_words (read.own_words ++ read.hand_words) (token ∷ [])
        ∙ ap (λ l. read.around_words ++ l) (append_assoc read.own_words read.hand_words (token ∷ []));
    tests_are = read.tests_are ∙ ap (λ l. read.around_tests ++ (read.own_tests ++ l)) none;
  }

  -- the last word of a comparison
  pub asked_more : (test : Test) → read.hand_tests ≡ [] → IsComparison (read.hand_words ++ token ∷ []) test →
      HasRead (after s.level (comparison (length s.tests)) s.outer (s.tests ++ test ∷ [])) (words ++ token ∷ [])
  asked_more test none is =
      let tests_now : s.tests ≡ read.around_tests ++ read.own_tests =
      read.tests_are ∙ ap (λ l. read.around_tests ++ (read.own_tests ++ l)) none
      ∙ ap (λ l. read.around_tests ++ l) (append-nil read.own_tests) in
      let count : length s.tests ≡ length read.around_tests + length read.own_tests =
      ap length tests_now ∙ length-append read.around_tests read.own_tests in
      after_read s.level s.outer read.around_words read.own_words (read.hand_words ++ token ∷ []) _
      read.around_tests read.own_tests (test ∷ []) (s.tests ++ test ∷ []) (comparison (length s.tests)) read.around
      read.own
      (subst (λ k. IsExpression operand k (read.hand_words ++ token ∷ []) (test ∷ []) (comparison (length s.tests)))
      count (compares is))
      (ap (λ l. l ++ token ∷ []) read.words_are
      ∙ append_assoc read.around_words (read.own_words ++ read.hand_words) (token ∷ [])
      ∙ ap (λ l. read.around_words ++ l) (append_assoc read.own_words read.hand_words (token ∷ [])))
      (ap (λ l. l ++ test ∷ []) tests_now ∙ append_assoc read.around_tests read.own_tests (test ∷ []))

-- what is at hand, by what comes next
module _ {n : ℕ} {waits : Waiting} where
  at_operand : {words : List Token} {tests : List Test} → IsAtHand n waits an_operand words tests →
      (words ≡ []) × (tests ≡ [])
  at_operand no_hand = (refl, refl)

  pub at_relation : {name : Term} {words : List Token} {tests : List Test} →
      IsAtHand n waits (a_relation name) words tests →
      (words ≡ text name ∷ []) × (tests ≡ [])
  at_relation (name_hand name) = (refl, refl)

  pub at_value : {name : Term} {relation : Relation} {words : List Token} {tests : List Test} →
      IsAtHand n waits (a_value name relation) words tests →
      (at : ℕ) × (words ≡ text name ∷ mark (Compares relation) at ∷ []) × (tests ≡ [])
  at_value (value_hand name relation at) = (at, refl, refl)

  pub at_is : {name : Term} {words : List Token} {tests : List Test} →
      IsAtHand n waits (a_missing name true) words tests →
      (is : Term) × IsKey is (codes "is") × (words ≡ text name ∷ text is ∷ []) × (tests ≡ [])
  at_is (is_hand name is key) = (is, key, refl, refl)

  pub at_not : {name : Term} {words : List Token} {tests : List Test} →
      IsAtHand n waits (a_missing name false) words tests →
      (is nay : Term) × IsKey is (codes "is") × IsKey nay (codes "not")
      × (words ≡ text name ∷ text is ∷ text nay ∷ []) × (tests ≡ [])
  at_not (not_hand name is nay key too) = (is, nay, key, too, refl, refl)

  at_joint : {tree : Tree} {words : List Token} {tests : List Test} → IsAtHand n waits (a_joint tree) words tests →
      (waits.factors ≡ None) × (waits.negations ≡ 0) × IsExpression conjunction n words tests tree
  at_joint (joint_hand factors negations is) = (factors, negations, is)

no_factors : {n : ℕ} {factors : Option Tree} {words : List Token} {tests : List Test} →
    AreFactors n factors words tests →
    factors ≡ None → (words ≡ []) × (tests ≡ [])
no_factors no_and none = (refl, refl)
no_factors (and {tree = tree} at is) none = absurd (none-some tree (sym none))

no_negations : {k : ℕ} {words : List Token} → AreNegations k words → k ≡ 0 → words ≡ []
no_negations no_not none = refl
no_negations (not_more at before) none = absurd (omega (arith, none))

at_opened : {last : Waiting} {outer : List Waiting} {all : List Token} {tests : List Test} →
    IsAround (last ∷ outer) all tests →
    (words more : List Token) × (before own : List Test) × (at : ℕ) × IsAround outer words before
    × Waits (length before) last more own × (all ≡ words ++ (more ++ mark Open at ∷ [])) × (tests ≡ before ++ own)
at_opened (opened {words = words} {more = more} {tests = before} {own = own} at around waits) =
    (words, more, before, own, at, around, waits, refl, refl)

-- nothing in parentheses yet
pub none_waits : {n : ℕ} (waits : Waiting) → waits.factors ≡ None → waits.negations ≡ 0 →
    (words : List Token) (tests : List Test) →
    AreAlternatives n waits.alternatives words tests → Waits n waits words tests
none_waits waits factors negations words tests is = record {
  or_words = words;
  or_tests = tests;
  alternatives = is;
  and_words = [];
  and_tests = [];
  factors = rw factors no_and;
  not_words = [];
  negations = rw negations no_not;
  words_are = sym (append-nil words);
  tests_are = sym (append-nil tests);
}

-- the words of lists, joined in another way
module _ (a b c : List Token) (x y : Token) where
  push_last : a ++ (b ++ []) ++ x ∷ [] ≡ a ++ (b ++ x ∷ [])
  push_last = ap (λ l. a ++ l ++ x ∷ []) (append-nil b) ∙ append_assoc a b (x ∷ [])

  push_behind : a ++ (b ++ c) ++ x ∷ [] ≡ a ++ (b ++ (c ++ x ∷ []))
  push_behind = append_assoc a (b ++ c) (x ∷ []) ∙ ap (λ l. a ++ l) (append_assoc b c (x ∷ []))

  push_close : (d : List Token) → a ++ (b ++ x ∷ []) ++ (c ++ d) ++ y ∷ [] ≡ a ++ (b ++ x ∷ (c ++ d ++ y ∷ []))
  push_close d = append_assoc (a ++ (b ++ x ∷ [])) (c ++ d) (y ∷ [])
      ∙ append_assoc a (b ++ x ∷ []) (c ++ d ++ y ∷ [])
      ∙ ap (λ l. a ++ l) (append_assoc b (x ∷ []) (c ++ d ++ y ∷ []))

-- the parts of what was read before a joint
module _ (s : State) (words : List Token) (tree : Tree) (read : HasRead s words) (next : s.next ≡ a_joint tree) where
  abbrev at_hand : IsAtHand (length read.around_tests + length read.own_tests) s.level (a_joint tree) read.hand_words
      read.hand_tests
  at_hand = subst (λ x. IsAtHand (length read.around_tests + length read.own_tests) s.level x read.hand_words
      read.hand_tests) next read.hand

  or_words_are : read.own_words ≡ read.own.or_words
  or_words_are = read.own.words_are
      ∙ ap (λ l. read.own.or_words ++ (l ++ read.own.not_words)) (no_factors read.own.factors (at_joint at_hand).0).0
      ∙ ap (λ l. read.own.or_words ++ l) (no_negations read.own.negations (at_joint at_hand).1) ∙ append-nil _

  or_tests_are : read.own_tests ≡ read.own.or_tests
  or_tests_are = read.own.tests_are ∙ ap (λ l. read.own.or_tests ++ l) (no_factors read.own.factors (at_joint
      at_hand).0).1
      ∙ append-nil _

  hand_is : IsExpression conjunction (length read.around_tests + length read.own.or_tests) read.hand_words
      read.hand_tests tree
  hand_is = subst (λ l. IsExpression conjunction (length read.around_tests + length l) read.hand_words read.hand_tests
      tree)
      or_tests_are (at_joint at_hand).2

  -- all that was read in its parentheses
  pub whole_read : IsExpression disjunction (length read.around_tests) (read.own_words ++ read.hand_words)
      (read.own_tests ++ read.hand_tests) (with_alternatives s.level.alternatives tree)
  whole_read = subst (λ l. IsExpression disjunction (length read.around_tests) (l ++ read.hand_words) (read.own_tests
      ++ read.hand_tests) (with_alternatives s.level.alternatives tree))
      (sym or_words_are)
      (subst (λ l. IsExpression disjunction (length read.around_tests) (read.own.or_words ++ read.hand_words) (l
      ++ read.hand_tests) (with_alternatives s.level.alternatives tree))
      (sym or_tests_are)
      (alternates s.level.alternatives read.own.or_words read.hand_words read.own.or_tests read.hand_tests tree
      read.own.alternatives hand_is))

  pub and_read : (at : ℕ) → HasRead (record s { next = an_operand; level = record s.level { factors = Some tree } })
      (words ++ mark And at ∷ [])
  and_read at = record {
    around_words = read.around_words;
    around_tests = read.around_tests;
    around = read.around;
    own_words = read.own_words ++ (read.hand_words ++ mark And at ∷ []);
    own_tests = read.own_tests ++ read.hand_tests;
    own = record {
      or_words = read.own.or_words;
      or_tests = read.own.or_tests;
      alternatives = read.own.alternatives;
      and_words = read.hand_words ++ mark And at ∷ [];
      and_tests = read.hand_tests;
      factors = and at hand_is;
      not_words = [];
      negations = rw (at_joint at_hand).1 no_not;
      words_are = ap (λ l. l ++ (read.hand_words ++ mark And at ∷ [])) or_words_are
          ∙ ap (λ l. read.own.or_words ++ l) (sym (append-nil (read.hand_words ++ mark And at ∷ [])));
      tests_are = ap (λ l. l ++ read.hand_tests) or_tests_are;
    };
    hand_words = [];
    hand_tests = [];
    hand = no_hand;
    words_are = ap (λ l. l ++ mark And at ∷ []) read.words_are
        ∙ push_behind read.around_words read.own_words read.hand_words (mark And at) (mark And at)
        ∙ ap (λ l. read.around_words ++ l) (sym (append-nil _));
    tests_are = read.tests_are ∙ ap (λ l. read.around_tests ++ l) (sym (append-nil _));
  }

  pub or_read : (at : ℕ) → HasRead (record s {
    next = an_operand;
    level =
        open_to (Some (with_alternatives s.level.alternatives tree));
  }) (words ++ mark Or at ∷ [])
  or_read at = record {
    around_words = read.around_words;
    around_tests = read.around_tests;
    around = read.around;
    own_words = read.own_words ++ read.hand_words ++ mark Or at ∷ [];
    own_tests = read.own_tests ++ read.hand_tests;
    own = none_waits (open_to (Some (with_alternatives s.level.alternatives tree))) refl refl _ _
        (or at whole_read);
    hand_words = [];
    hand_tests = [];
    hand = no_hand;
    words_are = ap (λ l. l ++ mark Or at ∷ []) read.words_are
        ∙ append_assoc read.around_words (read.own_words ++ read.hand_words) (mark Or at ∷ [])
        ∙ ap (λ l. read.around_words ++ l) (sym (append-nil _));
    tests_are = read.tests_are ∙ ap (λ l. read.around_tests ++ l) (sym (append-nil _));
  }

  pub close_read : (at : ℕ) (last : Waiting) (outer : List Waiting) → s.outer ≡ last ∷ outer →
      HasRead (after last (with_alternatives s.level.alternatives tree) outer s.tests) (words ++ mark Close at ∷ [])
  close_read at last outer same =
      let around_is : IsAround (last ∷ outer) read.around_words read.around_tests =
      subst (λ l. IsAround l read.around_words read.around_tests) same read.around in
      let (before_words, more, before, own, to, around, waits, words_is, tests_is) = at_opened around_is in
      let count : length read.around_tests ≡ length before + length own =
      ap length tests_is ∙ length-append before own in
      let inside = subst (λ k. IsExpression disjunction k (read.own_words ++ read.hand_words)
      (read.own_tests ++ read.hand_tests) (with_alternatives s.level.alternatives tree)) count whole_read in
      after_read last outer before_words more (mark Open to ∷ (read.own_words ++ read.hand_words ++ mark Close at
      ∷ [])) _
      before own (read.own_tests ++ read.hand_tests) s.tests (with_alternatives s.level.alternatives tree) around waits
      (grouped at inside)
      (ap (λ l. l ++ mark Close at ∷ []) (read.words_are ∙ ap (λ l. l ++ (read.own_words ++ read.hand_words)) words_is)
      ∙ push_close before_words more read.own_words (mark Open to) (mark Close at) read.hand_words)
      (read.tests_are ∙ ap (λ l. l ++ (read.own_tests ++ read.hand_tests)) tests_is
      ∙ append_assoc before own (read.own_tests ++ read.hand_tests))

-- `!` and `(` were read
module _ (s : State) (words : List Token) (read : HasRead s words) (next : s.next ≡ an_operand) where
  pub none_at_hand : (read.hand_words ≡ []) × (read.hand_tests ≡ [])
  none_at_hand = at_operand (subst (λ x. IsAtHand (length read.around_tests + length read.own_tests) s.level x
      read.hand_words read.hand_tests) next read.hand)

  words_now : words ≡ read.around_words ++ (read.own_words ++ [])
  words_now = read.words_are ∙ ap (λ l. read.around_words ++ (read.own_words ++ l)) none_at_hand.0

  tests_now : s.tests ≡ read.around_tests ++ (read.own_tests ++ [])
  tests_now = read.tests_are ∙ ap (λ l. read.around_tests ++ (read.own_tests ++ l)) none_at_hand.1

  pub not_read : (at : ℕ) → HasRead (record s {
    next = an_operand;
    level = record s.level {
      negations =
          suc s.level.negations;
    };
  })
      (words ++ mark Not at ∷ [])
  not_read at = record {
    around_words = read.around_words;
    around_tests = read.around_tests;
    around = read.around;
    own_words = read.own_words ++ mark Not at ∷ [];
    own_tests = read.own_tests;
    own = record {
      or_words = read.own.or_words;
      or_tests = read.own.or_tests;
      alternatives = read.own.alternatives;
      and_words = read.own.and_words;
      and_tests = read.own.and_tests;
      factors = read.own.factors;
      not_words = read.own.not_words ++ mark Not at ∷ [];
      negations = not_more at read.own.negations;
      words_are = ap (λ l. l ++ mark Not at ∷ []) read.own.words_are
          ∙ push_behind read.own.or_words read.own.and_words read.own.not_words (mark Not at) (mark Not at);
      tests_are = read.own.tests_are;
    };
    hand_words = [];
    hand_tests = [];
    hand = no_hand;
    words_are = ap (λ l. l ++ mark Not at ∷ []) words_now
        ∙ push_last read.around_words read.own_words [] (mark Not at) (mark Not at)
        ∙ ap (λ l. read.around_words ++ l) (sym (append-nil _));
    tests_are = tests_now;
  }

  pub open_read : (at : ℕ) → HasRead (record s { next = an_operand; level = nothing; outer = s.level ∷ s.outer })
      (words ++ mark Open at ∷ [])
  open_read at = record {
    around_words = read.around_words ++ (read.own_words ++ mark Open at ∷ []);
    around_tests = read.around_tests ++ read.own_tests;
    around = opened at read.around read.own;
    own_words = [];
    own_tests = [];
    own = none_waits nothing refl refl [] [] no_or;
    hand_words = [];
    hand_tests = [];
    hand = no_hand;
    words_are = ap (λ l. l ++ mark Open at ∷ []) words_now
        ∙ push_last read.around_words read.own_words [] (mark Open at) (mark Open at)
        ∙ sym (append-nil _);
    tests_are = tests_now ∙ ap (λ l. read.around_tests ++ l) (append-nil _) ∙ sym (append-nil _);
  }
