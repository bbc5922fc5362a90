-- Each lane of a vector fits its type.
use Rattle.std.proofs.Common.{w64}
use Rattle.std.proofs.lemmas.Simd.{below_from_Fits}
use Rattle.vob_block.proofs.lanes.in_range.Goals as goal

pub returns : goal.returns
returns c = below_from_Fits w64 c.args.lanes c.fits-lanes.1
