-- Which words can be next, and where words stop being a condition.
use Rattle.std.specs.Prelude.{codes, ⊤}
use Rattle.std.proofs.Common.{◌≡◌, ◌≢◌, ◌==◌, ◌⊎◌, inl, inr, ℕ, Bool, true, false, Option, None, Some, List, [], ◌∷◌, ◌++◌, length, if◌then◌else◌, refl, sym, ap, ◌∙◌}
use Rattle.std.specs.Option.{option_and_then}
use Rattle.std.proofs.lemmas.Bool.{true≢false}
use Rattle.std.proofs.lemmas.List.{append_assoc, append-nil}
use Rattle.std.proofs.lemmas.Option.{none-some}
use Rattle.files_condition.specs.declared.words.Mark.TheVariants.{And, Close, Compares, Not, Open, Or}
use Rattle.files_condition.specs.declared.condition.Relation.{Relation}
use Rattle.files_condition.specs.declared.condition.Relation.TheVariants.{Equal}
use Rattle.files_condition.specs.declared.fault.ConditionFault.{ConditionFault}
use Rattle.files_condition.specs.declared.fault.ConditionFault.TheVariants.{Memory, Word}
use Rattle.files_condition.specs.Conditions.{IsKey, Test, Tree, comparison, compared, missing}
use Rattle.files_condition.specs.Places.{CanBegin, CanStand, IsFirstFault, LeadTo, Place, after_is, after_name, after_not, after_operand, after_relation, before_operand, expected_at}
use Rattle.files_condition.specs.Reading.{IsRefused, IsUnended, Next, State, Waiting, a_joint, a_missing, a_relation, a_value, an_operand, asking, closing, conjunction_of, is_key, open_to, place_of, run, start, step, with_alternatives}
use Rattle.files_condition.specs.Words.{Term, Token, mark, text}
use Rattle.files_condition.proofs.CompleteLemmas.{condition_reads, key_is, not_is_other, run_then, some_length}
use Rattle.files_condition.proofs.SoundLemmas.{HasRead}
use Rattle.files_condition.proofs.StepLemmas.{end_read, is_a_key, run_read, some_text, start_read}

-- the words that end what is open
closers : List Waiting → List Token
closers [] = []
closers (waits ∷ outer) = mark Close 0 ∷ closers outer

pub record IsEnd (s : State) : Type 0 where
  pub tree : Tree
  pub next : s.next ≡ a_joint tree
  pub outer : s.outer ≡ []

pub record Ends (s : State) : Type 0 where
  pub rest : List Token
  pub end : State
  pub ran : run s rest ≡ Some end
  pub is_end : IsEnd end

abbrev state : Next → Waiting → List Waiting → List Test → State
state next waits outer tests = record { next = next; level = waits; outer = outer; tests = tests }

closed_run : (outer : List Waiting) (waits : Waiting) (tree : Tree) (tests : List Test) →
    (t : State) × (run (state (a_joint tree) waits outer tests) (closers outer) ≡ Some t) × IsEnd t
unfolding closers
closed_run [] waits tree tests =
    (state (a_joint tree) waits [] tests, refl, record { tree = tree; next = refl; outer = refl })
closed_run (last ∷ outer) waits tree tests =
    closed_run outer (open_to last.alternatives) (conjunction_of last (with_alternatives waits.alternatives tree)) tests

abbrev sample : Token
sample = text (record { text = 97 ∷ []; at = 0; is_quoted = false })

abbrev sample_missing : Token
sample_missing = text (record { text = codes "missing"; at = 0; is_quoted = false })

module _ (waits : Waiting) (outer : List Waiting) (tests : List Test) where
  joint_ends : (tree : Tree) → Ends (state (a_joint tree) waits outer tests)
  joint_ends tree =
      let (t, ran, is_end) = closed_run outer waits tree tests in
      record { rest = closers outer; end = t; ran = ran; is_end = is_end }

  abbrev asked : Test → State
  asked test = asking (state an_operand waits outer tests) test

  asked_ends : (test : Test) → Ends (asked test)
  asked_ends test =
      let (t, ran, is_end) = closed_run outer (open_to waits.alternatives) (conjunction_of waits (comparison (length
      tests))) (tests ++ test ∷ []) in
      record { rest = closers outer; end = t; ran = ran; is_end = is_end }

  value_ends : (name : Term) (relation : Relation) → Ends (state (a_value name relation) waits outer tests)
  value_ends name relation =
      let e = asked_ends (record {
        column = name;
        asked = compared relation (record {
          text = 97 ∷ [];
          at = 0;
          is_quoted = false;
        });
      }) in
      record { rest = sample ∷ e.rest; end = e.end; ran = e.ran; is_end = e.is_end }

  relation_ends : (name : Term) → Ends (state (a_relation name) waits outer tests)
  relation_ends name =
      let e = value_ends name Equal in
      record { rest = mark (Compares Equal) 0 ∷ e.rest; end = e.end; ran = e.ran; is_end = e.is_end }

  operand_ends : Ends (state an_operand waits outer tests)
  operand_ends =
      let e = relation_ends (record { text = 97 ∷ []; at = 0; is_quoted = false }) in
      record { rest = sample ∷ e.rest; end = e.end; ran = e.ran; is_end = e.is_end }

  missing_ends : (name : Term) (b : Bool) → Ends (state (a_missing name b) waits outer tests)
  missing_ends name b =
      let e = asked_ends (record { column = name; asked = missing b }) in
      record { rest = sample_missing ∷ e.rest; end = e.end; ran = e.ran; is_end = e.is_end }

  state_ends : (next : Next) → Ends (state next waits outer tests)
  state_ends an_operand = operand_ends
  state_ends (a_relation name) = relation_ends name
  state_ends (a_value name relation) = value_ends name relation
  state_ends (a_missing name b) = missing_ends name b
  state_ends (a_joint tree) = joint_ends tree

can_begin : (s : State) (words : List Token) → HasRead s words → CanBegin words
can_begin s words read =
    let e = state_ends s.level s.outer s.tests s.next in
    let all = run_read s e.end words e.rest read e.ran in
    record {
      rest = e.rest;
      tests = e.end.tests;
      tree = with_alternatives e.end.level.alternatives e.is_end.tree;
      are_condition = end_read e.end (words ++ e.rest) e.is_end.tree all e.is_end.next e.is_end.outer;
    }

-- a word that is taken can stand there
module _ (waits : Waiting) (outer : List Waiting) (tests : List Test) (t : State) where
  stands_name : (name term : Term) (b : Bool) → is_key term (codes "is") ≡ b →
      (if b then Some (state (a_missing name true) waits outer tests) else None) ≡ Some t → IsKey term (codes "is")
  stands_name name term true key same = is_a_key term (codes "is") key
  stands_name name term false key same = absurd (none-some t same)

  stands_value : (u : State) (term : Term) (b : Bool) → (length term.text == 0) ≡ b →
      (if b then None else Some u) ≡ Some t → term.text ≢ []
  stands_value u term true empty same = absurd (none-some t same)
  stands_value u term false some same = some_text term.text some

  stands_is : (u v : State) (term : Term) (b c : Bool) → is_key term (codes "missing") ≡ b → is_key term (codes "not")
      ≡ c →
      (if b then Some u else (if c then Some v else None)) ≡ Some t → IsKey term (codes "missing")
      ⊎ IsKey term (codes "not")
  stands_is u v term true c key other same = inl (is_a_key term (codes "missing") key)
  stands_is u v term false true key other same = inr (is_a_key term (codes "not") other)
  stands_is u v term false false key other same = absurd (none-some t same)

  stands_not : (u : State) (term : Term) (b : Bool) → is_key term (codes "missing") ≡ b →
      (if b then Some u else None) ≡ Some t → IsKey term (codes "missing")
  stands_not u term true key same = is_a_key term (codes "missing") key
  stands_not u term false key same = absurd (none-some t same)

  pub stands : (next : Next) (token : Token) → step (state next waits outer tests) token ≡ Some t →
      CanStand (place_of next outer) token
  stands an_operand (text term) same = tt
  stands an_operand (mark Not at) same = tt
  stands an_operand (mark Open at) same = tt
  stands an_operand (mark And at) same = absurd (none-some t same)
  stands an_operand (mark Or at) same = absurd (none-some t same)
  stands an_operand (mark Close at) same = absurd (none-some t same)
  stands an_operand (mark (Compares relation) at) same = absurd (none-some t same)
  stands (a_relation name) (text term) same = stands_name name term (is_key term (codes "is")) refl same
  stands (a_relation name) (mark (Compares relation) at) same = tt
  stands (a_relation name) (mark And at) same = absurd (none-some t same)
  stands (a_relation name) (mark Or at) same = absurd (none-some t same)
  stands (a_relation name) (mark Not at) same = absurd (none-some t same)
  stands (a_relation name) (mark Open at) same = absurd (none-some t same)
  stands (a_relation name) (mark Close at) same = absurd (none-some t same)
  stands (a_value name relation) (text term) same = stands_value _ term (length term.text == 0) refl same
  stands (a_value name relation) (mark sign at) same = absurd (none-some t same)
  stands (a_missing name true) (text term) same =
      stands_is _ _ term (is_key term (codes "missing")) (is_key term (codes "not")) refl refl same
  stands (a_missing name false) (text term) same = stands_not _ term (is_key term (codes "missing")) refl same
  stands (a_missing name b) (mark sign at) same = absurd (none-some t same)
  stands (a_joint tree) (mark And at) same = tt
  stands (a_joint tree) (mark Or at) same = tt
  stands (a_joint tree) (mark Close at) same = by outer same
    where
      by : (outer : List Waiting) → closing waits tree outer tests ≡ Some t →
          CanStand (place_of (a_joint tree) outer) (mark Close at)
      by [] same = absurd (none-some t same)
      by (last ∷ outer) same = refl
  stands (a_joint tree) (text term) same = absurd (none-some t same)
  stands (a_joint tree) (mark Not at) same = absurd (none-some t same)
  stands (a_joint tree) (mark Open at) same = absurd (none-some t same)
  stands (a_joint tree) (mark (Compares relation) at) same = absurd (none-some t same)

-- and one that can stand there is taken
module _ (waits : Waiting) (outer : List Waiting) (tests : List Test) where
  abbrev Steps : Next → Token → Type 0
  Steps next token = (t : State) × (step (state next waits outer tests) token ≡ Some t)

  pub steps : (next : Next) (token : Token) → CanStand (place_of next outer) token → Steps next token
  steps an_operand (text term) can = (_, refl)
  steps an_operand (mark Not at) can = (_, refl)
  steps an_operand (mark Open at) can = (_, refl)
  steps an_operand (mark And at) can = absurd can
  steps an_operand (mark Or at) can = absurd can
  steps an_operand (mark Close at) can = absurd can
  steps an_operand (mark (Compares relation) at) can = absurd can
  steps (a_relation name) (text term) can = (
    _,
    ap (λ b. if b then Some (state (a_missing name true) waits outer tests) else None) (key_is term (codes "is")
        can),
  )
  steps (a_relation name) (mark (Compares relation) at) can = (_, refl)
  steps (a_relation name) (mark And at) can = absurd can
  steps (a_relation name) (mark Or at) can = absurd can
  steps (a_relation name) (mark Not at) can = absurd can
  steps (a_relation name) (mark Open at) can = absurd can
  steps (a_relation name) (mark Close at) can = absurd can
  steps (a_value name relation) (text term) can = (
    _,
    ap (λ b. if b then None else Some (asked waits outer tests (record {
      column = name;
      asked =
          compared relation term;
    }))) (some_length term.text can),
  )
  steps (a_value name relation) (mark sign at) can = absurd can
  steps (a_missing name true) (text term) (inl key) = (
    _,
    ap (λ b. if b then Some (asked waits outer tests (record { column = name; asked = missing true }))
        else (if is_key term (codes "not") then Some (state (a_missing name false) waits outer tests) else None))
        (key_is term (codes "missing") key),
  )
  steps (a_missing name true) (text term) (inr key) = (
    _,
    ap (λ b. if b then Some (asked waits outer tests (record { column = name; asked = missing true }))
        else (if is_key term (codes "not") then Some (state (a_missing name false) waits outer tests) else None))
        (not_is_other term key)
        ∙ ap (λ b. if b then Some (state (a_missing name false) waits outer tests) else None) (key_is term (codes
        "not") key),
  )
  steps (a_missing name false) (text term) can = (
    _,
    ap (λ b. if b then Some (asked waits outer tests (record {
      column = name;
      asked =
          missing false;
    })) else None) (key_is term (codes "missing") can),
  )
  steps (a_missing name true) (mark sign at) can = absurd can
  steps (a_missing name false) (mark sign at) can = absurd can
  steps (a_joint tree) (mark And at) can = (_, refl)
  steps (a_joint tree) (mark Or at) can = (_, refl)
  steps (a_joint tree) (mark Close at) can = by outer can
    where
      by : (outer : List Waiting) → CanStand (place_of (a_joint tree) outer) (mark Close at) →
          (t : State) × (closing waits tree outer tests ≡ Some t)
      by [] can = absurd (true≢false (sym can))
      by (last ∷ outer) can = (_, refl)
  steps (a_joint tree) (text term) can = absurd can
  steps (a_joint tree) (mark Not at) can = absurd can
  steps (a_joint tree) (mark Open at) can = absurd can
  steps (a_joint tree) (mark (Compares relation) at) can = absurd can

-- exactly the words that can stand there can be next
module _ (s : State) (words : List Token) (ran : run start words ≡ Some s) where
  abbrev here : Place
  here = place_of s.next s.outer

  forth : (token : Token) → CanBegin (words ++ token ∷ []) → CanStand here token
  forth token can =
      let (u, all, tests_are, tree_is) = condition_reads (words ++ token ∷ [] ++ can.rest) can.tests can.tree
      can.are_condition in
      by u (step s token) refl
      (sym (run_then start s words (token ∷ can.rest) ran) ∙ ap (run start) (sym (append_assoc words (token ∷ [])
      can.rest)) ∙ all)
    where
      by : (u : State) (o : Option State) → step s token ≡ o → option_and_then (λ t. run t can.rest) o ≡ Some u →
          CanStand here token
      by u None none same = absurd (none-some u same)
      by u (Some t) is same = stands s.level s.outer s.tests t s.next token is

  back : (token : Token) → CanStand here token → CanBegin (words ++ token ∷ [])
  back token can =
      let (t, is) = steps s.level s.outer s.tests s.next token can in
      let all : run start (words ++ token ∷ []) ≡ Some t =
      run_then start s words (token ∷ []) ran ∙ ap (option_and_then (λ u. run u [])) is in
      can_begin t (words ++ token ∷ []) (run_read start t [] (words ++ token ∷ []) start_read all)

  pub leads : LeadTo words here
  leads = record {
    begin = can_begin s words (run_read start s [] words start_read ran);
    next = λ token. (forth token, back token);
  }

  -- a word that isn't taken
  pub no_step : (token : Token) → step s token ≡ None → ¬ CanStand here token
  no_step token none can =
      let (t, is) = steps s.level s.outer s.tests s.next token can in none-some t (sym none ∙ is)

expected_first : (place : Place) (token : Token) (rest : List Token) → expected_at place (token ∷ [])
    ≡ expected_at place (token ∷ rest)
expected_first before_operand token rest = refl
expected_first after_name token rest = refl
expected_first after_relation (text term) rest = refl
expected_first after_relation (mark sign at) rest = refl
expected_first after_is token rest = refl
expected_first after_not token rest = refl
expected_first (after_operand inside) (text term) rest = refl
expected_first (after_operand inside) (mark And at) rest = refl
expected_first (after_operand inside) (mark Or at) rest = refl
expected_first (after_operand inside) (mark Not at) rest = refl
expected_first (after_operand inside) (mark Open at) rest = refl
expected_first (after_operand inside) (mark Close at) rest = refl
expected_first (after_operand inside) (mark (Compares relation) at) rest = refl

-- why words are no condition
abbrev pub IsFaultOf : (end : ℕ) → List Token → ConditionFault → Type 0
IsFaultOf end words Memory = ⊤
IsFaultOf end words (Word column expected) = IsFirstFault end words column expected.now

pub refused : (s : State) (before rest : List Token) (token : Token) (end : ℕ) (fault : ConditionFault) →
    run start before ≡ Some s → IsRefused s token fault → IsFaultOf end (before ++ token ∷ rest) fault
refused s before rest token end Memory ran is = tt
refused s before rest token end (Word column expected) ran is = record {
  before = before;
  rest = token ∷ rest;
  cut = refl;
  place = place_of s.next s.outer;
  lead = leads s before ran;
  stop = no_step s before ran token is.0;
  column_is = is.1;
  expected_is = is.2 ∙ expected_first (place_of s.next s.outer) token rest;
}

pub unended : (s : State) (words : List Token) (end : ℕ) (fault : ConditionFault) →
    run start words ≡ Some s → IsUnended s end fault → IsFaultOf end words fault
unended s words end Memory ran is = tt
unended s words end (Word column expected) ran is = record {
  before = words;
  rest = [];
  cut = sym (append-nil words);
  place = place_of s.next s.outer;
  lead = leads s words ran;
  stop = is.0;
  column_is = is.1;
  expected_is = is.2;
}
