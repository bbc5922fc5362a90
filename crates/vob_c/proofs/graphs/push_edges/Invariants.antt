-- The edges to the ends so far.
use Rattle.std.specs.Prelude.{◌≡◌, ◌++◌, map, take}
use Rattle.vob_c.proofs.graphs.push_edges.Given as goal

abbrev pub invariant-loop-end : goal.invariant-loop-end
invariant-loop-end l = l.edges.items ≡ l.fn.edges.items ++ map (λ end. (l.node, end)) (take l.end-index l.ends)
