-- What a reader holds, as a state. No public clause cites this page.
use Rattle.std.specs.Prelude.{List, [], ◌∷◌, ◌++◌, Option, None, Some, map}
use Rattle.vob_filter.specs.declared.filter.Expression.{Expression}
use Rattle.files_condition.specs.declared.reader.Next.{Next as Following}
use Rattle.files_condition.specs.declared.reader.Next.TheVariants.{Joint, Missing, Operand, Relation, Value}
use Rattle.files_condition.specs.declared.reader.Reader.{Reader}
use Rattle.files_condition.specs.declared.waiting.Waiting.{Waiting as Held}
use Rattle.files_condition.specs.Conditions.{Tree, test_of, tree_of}
use Rattle.files_condition.specs.Reading.{Next, State, Waiting, a_joint, a_missing, a_relation, a_value, an_operand}
use Rattle.files_condition.specs.Words.{term_of}

-- the tree of an expression, if there is one
abbrev pub option_tree : Option Expression → Option Tree
option_tree None = None
option_tree (Some expression) = Some (tree_of expression)

-- what comes next
abbrev pub next_of : Following → Next
next_of Operand = an_operand
next_of (Relation name) = a_relation (term_of name)
next_of (Value name relation) = a_value (term_of name) relation
next_of (Missing name may_be_not) = a_missing (term_of name) may_be_not
next_of (Joint expression) = a_joint (tree_of expression)

-- what comes before an operand
abbrev pub waiting_of : Held → Waiting
waiting_of held = record {
  alternatives = option_tree held.alternatives;
  factors = option_tree held.factors;
  negations = held.negations;
}

-- the innermost level first
abbrev pub levels_of : List Held → List Waiting
levels_of [] = []
levels_of (held ∷ others) = levels_of others ++ waiting_of held ∷ []

-- the state of a reader
abbrev pub state_of : Following → Reader → State
state_of next reader = record {
  next = next_of next;
  level = waiting_of reader.level;
  outer = levels_of reader.outer.items;
  tests = map test_of reader.comparisons.items;
}
