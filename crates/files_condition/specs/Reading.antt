-- Conditions as they are read, a word after another. No public clause cites this page.
use Rattle.std.specs.Prelude.{◌≡◌, ◌==◌, ◌&&◌, ℕ, zero, suc, Bool, true, false, not, List, [], ◌∷◌, ◌++◌, length, codes, nat_eq, Option, None, Some, if◌then◌else◌, ⊤}
use Rattle.std.specs.Cmp.Lexicographic.{pointwise}
use Rattle.std.specs.Option.{option_and_then}
use Rattle.files_condition.specs.declared.condition.Relation.{Relation}
use Rattle.files_condition.specs.declared.words.Mark.TheVariants.{And, Close, Compares, Not, Open, Or}
use Rattle.files_condition.specs.Conditions.{Test, Tree, both, comparison, compared, contrary, either, missing}
use Rattle.files_condition.specs.declared.fault.ConditionFault.{ConditionFault}
use Rattle.files_condition.specs.declared.fault.ConditionFault.TheVariants.{Memory, Word}
use Rattle.files_condition.specs.Places.{Place, Stop, expected_at, after_is, after_name, after_not, after_operand, after_relation, before_operand}
use Rattle.files_condition.specs.Words.{Term, Token, column_of, mark, text}

-- what comes next, and what is at hand: the column and the relation of a comparison, or a conjunction
pub data Next : Type 0 where
  an_operand : Next
  a_relation : Term → Next
  a_value : Term → Relation → Next
  a_missing : Term → (may_be_not : Bool) → Next
  a_joint : Tree → Next

-- what comes before an operand in its parentheses: what `|` and `&` join to it, and how many `!`
pub record Waiting : Type 0 where
  pub alternatives : Option Tree
  pub factors : Option Tree
  pub negations : ℕ

-- what was read: what comes next, the level at hand, those around it, and the comparisons
pub record State : Type 0 where
  pub next : Next
  pub level : Waiting
  pub outer : List Waiting
  pub tests : List Test

-- nothing comes before an operand
abbrev pub nothing : Waiting
nothing = record { alternatives = None; factors = None; negations = 0 }

-- nothing was read
abbrev pub start : State
start = record { next = an_operand; level = nothing; outer = []; tests = [] }

-- what comes before an operand after `|`, or after a parenthesis
abbrev pub open_to : Option Tree → Waiting
open_to alternatives = record { alternatives = alternatives; factors = None; negations = 0 }

-- a tree under so many `!`
abbrev pub negate : ℕ → Tree → Tree
negate zero tree = tree
negate (suc n) tree = negate n (contrary tree)

-- a tree behind what comes before `&`, if anything
abbrev pub with_factors : Option Tree → Tree → Tree
with_factors None tree = tree
with_factors (Some first) tree = both first tree

-- a tree behind what comes before `|`, if anything
abbrev pub with_alternatives : Option Tree → Tree → Tree
with_alternatives None tree = tree
with_alternatives (Some first) tree = either first tree

-- the conjunction that an operand ends
abbrev pub conjunction_of : Waiting → Tree → Tree
conjunction_of level tree = with_factors level.factors (negate level.negations tree)

-- an operand was read
abbrev pub after : Waiting → Tree → List Waiting → List Test → State
after level tree outer tests = record {
  next = a_joint (conjunction_of level tree);
  level = open_to level.alternatives;
  outer = outer;
  tests = tests;
}

-- a comparison was read
abbrev pub asking : State → Test → State
asking s test = after s.level (comparison (length s.tests)) s.outer (s.tests ++ test ∷ [])

-- whether a name or a value is a word of the language
abbrev pub is_key : Term → List ℕ → Bool
is_key term key = not term.is_quoted && pointwise nat_eq term.text key

-- a parenthesis was closed, or none is open
abbrev pub closing : Waiting → Tree → List Waiting → List Test → Option State
closing level tree [] tests = None
closing level tree (last ∷ outer) tests =
    Some (after last (with_alternatives level.alternatives tree) outer tests)

-- the state after a word, or none if it can't stand there
abbrev pub step_at : Next → State → Token → Option State
step_at an_operand s (text term) = Some (record s { next = a_relation term })
step_at an_operand s (mark Not at) =
    Some (record s { level = record s.level { negations = suc s.level.negations } })
step_at an_operand s (mark Open at) = Some (record s { level = nothing; outer = s.level ∷ s.outer })
step_at an_operand s (mark sign at) = None
step_at (a_relation name) s (text term) =
    if is_key term (codes "is") then Some (record s { next = a_missing name true }) else None
step_at (a_relation name) s (mark (Compares relation) at) = Some (record s { next = a_value name relation })
step_at (a_relation name) s (mark sign at) = None
step_at (a_value name relation) s (text term) = if length term.text == 0 then None
    else Some (asking s (record { column = name; asked = compared relation term }))
step_at (a_value name relation) s (mark sign at) = None
step_at (a_missing name may_be_not) s (text term) = if is_key term (codes "missing")
    then Some (asking s (record { column = name; asked = missing may_be_not }))
    else (if may_be_not && is_key term (codes "not") then Some (record s { next = a_missing name false })
    else None)
step_at (a_missing name may_be_not) s (mark sign at) = None
step_at (a_joint tree) s (mark And at) =
    Some (record s { next = an_operand; level = record s.level { factors = Some tree } })
step_at (a_joint tree) s (mark Or at) = Some (record s {
  next = an_operand;
  level = open_to (Some (with_alternatives s.level.alternatives tree));
})
step_at (a_joint tree) s (mark Close at) = closing s.level tree s.outer s.tests
step_at (a_joint tree) s token = None

-- the state after a word
abbrev pub step : State → Token → Option State
step s token = step_at s.next s token

-- the state after some words
abbrev pub run : State → List Token → Option State
run s [] = Some s
run s (token ∷ words) = option_and_then (λ t. run t words) (step s token)

-- whether some parenthesis is open
abbrev pub is_inside : List Waiting → Bool
is_inside [] = false
is_inside (level ∷ outer) = true

-- the place where a state is
abbrev pub place_of : Next → List Waiting → Place
place_of an_operand outer = before_operand
place_of (a_relation name) outer = after_name
place_of (a_value name relation) outer = after_relation
place_of (a_missing name true) outer = after_is
place_of (a_missing name false) outer = after_not
place_of (a_joint tree) outer = after_operand (is_inside outer)

-- why a word isn't taken: it can't stand there
abbrev pub IsRefused : State → Token → ConditionFault → Type 0
IsRefused s token Memory = ⊤
IsRefused s token (Word column expected) = (step s token ≡ None) × (column ≡ column_of token)
    × (expected.now ≡ expected_at (place_of s.next s.outer) (token ∷ []))

-- why the words end too early
abbrev pub IsUnended : State → (end : ℕ) → ConditionFault → Type 0
IsUnended s end Memory = ⊤
IsUnended s end (Word column expected) = Stop (place_of s.next s.outer) [] × (column ≡ end)
    × (expected.now ≡ expected_at (place_of s.next s.outer) [])

-- what was read at the end of the words
pub record IsEnded (s : State) (tests : List Test) (tree : Tree) : Type 0 where
  pub last : Tree
  pub next : s.next ≡ a_joint last
  pub outer : s.outer ≡ []
  pub tests_are : tests ≡ s.tests
  pub tree_is : tree ≡ with_alternatives s.level.alternatives last
