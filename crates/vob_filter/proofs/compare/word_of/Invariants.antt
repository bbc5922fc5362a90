use Rattle.std.proofs.Common.{◌+◌}
use Rattle.vob_block.specs.Packing.{item}
use Rattle.vob_filter.proofs.PackedLemmas.{HasRows}
use Rattle.vob_filter.proofs.compare.word_of.Given as goal

abbrev pub invariant-loop-row : goal.invariant-loop-row
invariant-loop-row g l =
    HasRows (λ j. item (g.R.Rows.rows l.rows) (l.start + j)) l.row l.word
