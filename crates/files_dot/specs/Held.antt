-- What a reader holds, as lists of names. No public clause cites this page.
use Rattle.std.specs.Prelude.{ℕ, List, map}
use Rattle.std.specs.Borrow.{Bor}

-- names, whatever places of memory they have
abbrev pub names_of : List (Bor (List ℕ)) → List (List ℕ)
names_of names = map (λ name. name.now) names

-- edges between names, whatever places of memory they have
abbrev pub edges_of : List (Bor (List ℕ) × Bor (List ℕ)) → List (List ℕ × List ℕ)
edges_of edges = map (λ edge. (edge.0.now, edge.1.now)) edges
