-- The problems of available and busy expressions.
use Rattle.std.specs.Prelude.{◌≡◌, ℕ, Bool, true, false, List, [], ◌∷◌, ◌++◌, length, map}
use Rattle.std.specs.List.{AllZip}
use Rattle.vob_flow.specs.declared.lists.Paths.TheVariants.{AllFrom}
use Rattle.files_flow.specs.declared.flow.FlowGraph.{FlowGraph}
use Rattle.files_flow.specs.declared.problem.Problem.{Problem}
use Rattle.files_flow.specs.Expressions.{AreReachedBefore, AreTransposed, IsLasting, IsOwn, expression_label, expressions_of}
use Rattle.files_flow.specs.FlowText.{ListsSolution}
use Rattle.files_flow.specs.Problems.{lists_of}

-- a node ends the expressions that read what it writes
pub record HasExpressions (graph : FlowGraph) (problem : Problem) : Type 0 where
  pub labels : lists_of problem.labels.items
      ≡ map (expression_label graph.variables) (expressions_of graph.nodes.items)
  pub by_variable : AreTransposed (length graph.variables) (expressions_of graph.nodes.items)
      (lists_of problem.by_variable.items)

-- expressions on all paths from the first node, where there are none: a node makes its own if it
-- doesn't write any variable of it
pub record IsAvailableProblem (graph : FlowGraph) (problem : Problem) : Type 0 where
  pub paths : problem.paths ≡ AllFrom 0
  pub forward : problem.is_forward ≡ true
  pub expressions : HasExpressions graph problem
  pub generates : AllZip (IsLasting (expressions_of graph.nodes.items)) graph.nodes.items
      (lists_of problem.generates.items)
  pub writes : lists_of problem.writes.items ≡ map (λ node. node.writes.items) graph.nodes.items
  pub from : AreReachedBefore graph.nodes.items (lists_of problem.from.items)

-- the nodes that come after one, or a border if there are none
abbrev pub after_of : (border : ℕ) → List ℕ → List ℕ
after_of border [] = border ∷ []
after_of border (node ∷ next) = node ∷ next

-- expressions on all paths to a border behind the last node, where there are none: a node makes its
-- own
pub record IsBusyProblem (graph : FlowGraph) (problem : Problem) : Type 0 where
  pub paths : problem.paths ≡ AllFrom (length graph.nodes.items)
  pub backward : problem.is_forward ≡ false
  pub expressions : HasExpressions graph problem
  pub own : List (List ℕ)
  pub are_own : AllZip (λ node. IsOwn (expressions_of graph.nodes.items) node.reads.items) graph.nodes.items own
  pub generates : lists_of problem.generates.items ≡ own ++ [] ∷ []
  pub writes : lists_of problem.writes.items ≡ map (λ node. node.writes.items) graph.nodes.items ++ [] ∷ []
  pub from : lists_of problem.from.items
      ≡ map (λ node. after_of (length graph.nodes.items) node.next.items) graph.nodes.items ++ [] ∷ []

-- the expressions that were computed on all paths from the first node, before and after each node
pub record ListsAvailable (json : Bool) (graph : FlowGraph) (text : List ℕ) : Type 0 where
  pub problem : Problem
  pub of : IsAvailableProblem graph problem
  pub lists : ListsSolution json graph.names problem text

-- the expressions that will be computed on all paths, before and after each node
pub record ListsBusy (json : Bool) (graph : FlowGraph) (text : List ℕ) : Type 0 where
  pub problem : Problem
  pub of : IsBusyProblem graph problem
  pub lists : ListsSolution json graph.names problem text
