-- The edges to the ends so far are appended.
use Rattle.std.proofs.Common.{◌≡◌, ◌++◌, map, take}
use Rattle.vob_flow.specs.Touched.{place_in}
use Rattle.vob_flow.proofs.chosen.push_chosen.Given as goal

abbrev pub invariant-loop-end : goal.invariant-loop-end
invariant-loop-end l = l.edges.items ≡ l.fn.edges.items ++ map (λ end. (l.at, place_in l.nodes end)) (take l.end-index l.ends)
