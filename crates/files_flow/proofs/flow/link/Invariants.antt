-- The nodes have what was said so far.
use Rattle.std.proofs.Common.{map, take}
use Rattle.files_flow.specs.Nodes.{mention_of}
use Rattle.files_flow.specs.Numbering.{HaveSaid}
use Rattle.files_flow.proofs.flow.link.Given as goal

abbrev pub invariant-loop-number : goal.invariant-loop-number
invariant-loop-number l = HaveSaid l.read.names l.variables l.nodes.items (map mention_of (take l.number l.read.uses.items))
