-- The words of an expression are read to the end, so that they have one expression.
use Rattle.std.specs.Prelude.{codes, nat_eq}
use Rattle.std.proofs.Common.{◌≡◌, ◌≢◌, ◌==◌, ◌&&◌, ℕ, suc, ◌+◌, true, false, not, Option, None, Some, List, [], ◌∷◌, ◌++◌, length, refl, sym, ap, ◌∙◌, arith}
use Rattle.std.specs.Cmp.Lexicographic.{pointwise}
use Rattle.std.specs.Option.{option_and_then}
use Rattle.std.proofs.lemmas.Grind.{common_steps}
use Rattle.std.proofs.lemmas.List.{append_assoc, length-append}
use Rattle.std.proofs.lemmas.Option.{same_Some}
use Rattle.std.proofs.lemmas.Slice.Eq.{bytes_eq-Decides}
use Rattle.files_condition.specs.Conditions.{IsComparison, IsExpression, IsKey, Level, Test, Tree, both, comparison, conjunction, disjunction, either, operand}
use Rattle.files_condition.specs.Conditions.IsComparison.{asks_missing, asks_present, asks_value}
use Rattle.files_condition.specs.Conditions.IsExpression.{compares, conjoined, disjoined, grouped, negated, one_conjunction, one_operand}
use Rattle.files_condition.specs.Laws.{ConditionsAreOne}
use Rattle.files_condition.specs.Reading.{Next, State, Waiting, a_joint, after, an_operand, is_key, nothing, open_to, run, start, step, with_alternatives}
use Rattle.files_condition.specs.Words.{Term, Token}
use Rattle.files_condition.proofs.OneLemmas.{words_of_one}

-- words after others
on : (xs ys : List Token) → ((t : State) → run t (xs ++ ys) ≡ option_and_then (λ t. run t ys) (run t xs)) →
    (o : Option State) → option_and_then (λ t. run t (xs ++ ys)) o
    ≡ option_and_then (λ t. run t ys) (option_and_then (λ t. run t xs) o)
on xs ys each None = refl
on xs ys each (Some t) = each t

pub run-append : (s : State) (xs ys : List Token) → run s (xs ++ ys) ≡ option_and_then (λ t. run t ys) (run s xs)
run-append s [] ys = refl
run-append s (x ∷ xs) ys = on xs ys (λ t. run-append t xs ys) (step s x)

pub run_then : (s t : State) (xs ys : List Token) → run s xs ≡ Some t → run s (xs ++ ys) ≡ run t ys
run_then s t xs ys ran = run-append s xs ys ∙ ap (option_and_then (λ t. run t ys)) ran

pub key_is : (term : Term) (key : List ℕ) → IsKey term key → is_key term key ≡ true
key_is term key is =
    ap (λ b. not b && pointwise nat_eq term.text key) is.plain
    ∙ (bytes_eq-Decides term.text key).1 is.text_is

pub not_is_other : (term : Term) → IsKey term (codes "not") → is_key term (codes "missing") ≡ false
not_is_other term is =
    ap (λ b. not b && pointwise nat_eq term.text (codes "missing")) is.plain
    ∙ ap (λ t. pointwise nat_eq t (codes "missing")) is.text_is

pub some_length : (xs : List ℕ) → xs ≢ [] → (length xs == 0) ≡ false
some_length [] some = absurd (some refl)
some_length (x ∷ xs) some = grind (arith, common_steps)

-- a state before an operand, and after one
unfoldable pub begin : Waiting → List Waiting → List Test → State
begin waits outer tests = record { next = an_operand; level = waits; outer = outer; tests = tests }

abbrev pub joint : Option Tree → Tree → List Waiting → List Test → State
joint alternatives tree outer tests =
    record { next = a_joint tree; level = open_to alternatives; outer = outer; tests = tests }

-- what the words of an expression do
abbrev pub Reads : Level → ℕ → List Token → List Test → Tree → Type 0
Reads operand n words own tree = (waits : Waiting) (outer : List Waiting) (tests : List Test) → length tests ≡ n →
    run (begin waits outer tests) words ≡ Some (after waits tree outer (tests ++ own))
Reads conjunction n words own tree = (alternatives : Option Tree) (outer : List Waiting) (tests : List Test) →
    length tests ≡ n →
    run (begin (open_to alternatives) outer tests) words ≡ Some (joint alternatives tree outer (tests ++ own))
Reads disjunction n words own tree = (outer : List Waiting) (tests : List Test) → length tests ≡ n →
    (alternatives : Option Tree) × (last : Tree) × (with_alternatives alternatives last ≡ tree)
    × (run (begin nothing outer tests) words ≡ Some (joint alternatives last outer (tests ++ own)))

reads_comparison : (n : ℕ) (words : List Token) (test : Test) → IsComparison words test →
    Reads operand n words (test ∷ []) (comparison n)
unfolding begin
reads_comparison n words test (asks_value name value relation some) waits outer tests long =
    rw (some_length value.text some, long) refl
reads_comparison n words test (asks_missing name is last one two) waits outer tests long =
    rw (key_is is _ one, key_is last _ two, long) refl
reads_comparison n words test (asks_present name is nay last one two three) waits outer tests long =
    rw (key_is is _ one, not_is_other nay two, key_is nay _ two, key_is last _ three, long) refl

pub reads : {level : Level} {n : ℕ} {words : List Token} {own : List Test} {tree : Tree} →
    IsExpression level n words own tree → Reads level n words own tree
unfolding begin
reads {n = n} (compares {words = words} {test = test} is) = λ waits outer tests long.
    reads_comparison n words test is waits outer tests long
reads (negated is) = λ waits outer tests long.
    reads is (record waits { negations = suc waits.negations }) outer tests long
reads (grouped to {words = words} {tests = own} is) = λ waits outer tests long.
    let (alternatives, last, same, ran) = reads is (waits ∷ outer) tests long in
    run_then (begin nothing (waits ∷ outer) tests) _ words _ ran
    ∙ ap (λ t. Some (after waits t outer (tests ++ own))) same
reads (one_operand is) = λ alternatives outer tests long. reads is (open_to alternatives) outer tests long
reads (one_conjunction {tree = tree} is) = λ outer tests long. (None, tree, refl, reads is None outer tests long)
reads (conjoined at {words = words} {tests = own} {more = more} {first = first} {second = second} is other) =
    λ alternatives outer tests long.
    run_then (begin (open_to alternatives) outer tests) _ words _ (reads is alternatives outer tests long)
    ∙ reads other (record (open_to alternatives) { factors = Some first }) outer (tests ++ own)
    (length-append tests own ∙ ap (λ n. n + length own) long)
    ∙ ap (λ l. Some (joint alternatives (both first second) outer l)) (append_assoc tests own more)
reads (disjoined at {words = words} {tests = own} {more = more} {first = first} {second = second} is other) =
    λ outer tests long.
    let (alternatives, last, same, ran) = reads is outer tests long in (
      Some (with_alternatives alternatives last),
      second,
      ap (λ t. either t second) same,
      run_then (begin nothing outer tests) _ words _ ran
          ∙ reads other (Some (with_alternatives alternatives last)) outer (tests ++ own)
          (length-append tests own ∙ ap (λ n. n + length own) long)
          ∙ ap (λ l. Some (joint (Some (with_alternatives alternatives last)) second outer l)) (append_assoc tests own
          more),
    )

-- the tree of a state after an operand
abbrev pub tree_at : Next → Tree
tree_at (a_joint tree) = tree
tree_at other = comparison 0

abbrev pub whole_at : State → Tree
whole_at s = with_alternatives s.level.alternatives (tree_at s.next)

-- words that are a condition are read from the start on
pub condition_reads : (words : List Token) (own : List Test) (tree : Tree) → IsExpression disjunction 0 words own tree →
    (s : State) × (run start words ≡ Some s) × (s.tests ≡ own) × (whole_at s ≡ tree)
unfolding begin
condition_reads words own tree is =
    let (alternatives, last, same, ran) = reads is [] [] refl in
    (joint alternatives last [] own, ran, refl, same)

pub condition_ends : (words : List Token) (own : List Test) (tree : Tree) → IsExpression disjunction 0 words own tree →
    (last : Tree) × (s : State) × (run start words ≡ Some s) × (s.next ≡ a_joint last) × (s.outer ≡ [])
unfolding begin
condition_ends words own tree is =
    let (alternatives, last, same, ran) = reads is [] [] refl in
    (last, joint alternatives last [] own, ran, refl, refl)

pub conditions_one : ConditionsAreOne
conditions_one whole tests others tree other is too =
    let words_same = words_of_one whole is.words too.words is.are_words too.are_words in
    let (s, ran, tests_are, tree_is) = condition_reads is.words tests tree is.are_condition in
    let (t, ran', tests_are', tree_is') = condition_reads too.words others other too.are_condition in
    let same : s ≡ t = same_Some s t (sym ran ∙ ap (run start) words_same ∙ ran') in
    (sym tests_are ∙ ap (λ (u : State). u.tests) same ∙ tests_are', sym tree_is ∙ ap whole_at same ∙ tree_is')
