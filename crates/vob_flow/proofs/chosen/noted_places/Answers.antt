-- There is a place for each node.
use Rattle.std.proofs.Common.{arith}
use Rattle.vob_flow.proofs.chosen.noted_places.Goals as goal
