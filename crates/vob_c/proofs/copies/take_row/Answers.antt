-- A row is as long as there are columns.
use Rattle.std.proofs.Common.{◌∙◌, ap, length}
use Rattle.vob_block.proofs.PackingLemmas.{length-unpacking}
use Rattle.vob_c.proofs.copies.take_row.Goals as goal

pub or_with-requires-clause-long : goal.or_with-requires-clause-long
or_with-requires-clause-long c =
    ap length (c.of.ensures ∙ (rw c.clear.ensures.bits at c.append_blocks.ensures.bits))
    ∙ length-unpacking _ _ 64 ∙ c.columns.ensures.columns
