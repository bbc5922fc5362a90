-- The words of the rows so far are read.
use Rattle.std.proofs.Common.{◌+◌}
use Rattle.vob_matrix.specs.TileRows.{IsLoaded}
use Rattle.vob_matrix.proofs.tiles.load_words.Given as goal

abbrev pub invariant-loop-k : goal.invariant-loop-k
invariant-loop-k l = IsLoaded l.rows.rows l.first (l.first + l.k) l.start l.end l.words
