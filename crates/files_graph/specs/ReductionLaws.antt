-- What the edges of a reduction are good for.
use Rattle.std.specs.Prelude.{◌↔◌, ℕ, ◌≤◌, List, length, AllPairs, Contains}
use Rattle.vob_flow.specs.Closure.{Leads}
use Rattle.files_graph.specs.ClosureText.{IsBefore}
use Rattle.files_graph.specs.Reduction.{IsReduced}

-- a path of one edge or more leads from node n to node m by some edges
pub data LeadsBy (edges : List (ℕ × ℕ)) : ℕ → ℕ → Type 0 where
  by_edge : {n m : ℕ} → Contains edges (n, m) → LeadsBy edges n m
  through : {n k m : ℕ} → Contains edges (n, k) → LeadsBy edges k m → LeadsBy edges n m

-- some edges have the closure of a graph: paths by them lead where those of the graph do
abbrev pub HaveClosure : List (List ℕ) → List (ℕ × ℕ) → Type 0
HaveClosure next edges = (n m : ℕ) → LeadsBy edges n m ↔ Leads next n m

-- some edges are those of a graph's reduction
abbrev pub AreReduced : List (List ℕ) → List (ℕ × ℕ) → Type 0
AreReduced next edges = (n m : ℕ) → Contains edges (n, m) ↔ IsReduced next n m

-- the edges of a graph's reduction have the closure of the graph
abbrev pub ReductionKeepsClosure : Type 0
ReductionKeepsClosure = (next : List (List ℕ)) (edges : List (ℕ × ℕ)) →
    AreReduced next edges → HaveClosure next edges

-- if those edges stand there once each, no edges with the closure of the graph are fewer
abbrev pub ReductionIsLeast : Type 0
ReductionIsLeast = (next : List (List ℕ)) (edges others : List (ℕ × ℕ)) →
    AreReduced next edges → AllPairs IsBefore edges →
    HaveClosure next others → length edges ≤ length others
