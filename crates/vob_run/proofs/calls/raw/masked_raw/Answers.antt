-- The masked blocks are the packing of the bits.
use Rattle.std.proofs.Common.{rules}
use Rattle.vob_run.proofs.calls.raw.masked_raw.Goals as goal

pub returns-then-mask-clause-blocks : goal.returns-then-mask-clause-blocks
returns-then-mask-clause-blocks g c = search rules
