-- The edges from the numbers so far are appended.
use Rattle.std.proofs.Common.{◌≡◌, ◌+◌, ◌++◌, map, take}
use Rattle.vob_flow.proofs.touched.push_edges.Given as goal

abbrev pub invariant-loop-number : goal.invariant-loop-number
invariant-loop-number l = l.edges.items ≡ l.fn.edges.items ++ map (λ number. (l.first + number, l.node)) (take l.number-index l.numbers)
