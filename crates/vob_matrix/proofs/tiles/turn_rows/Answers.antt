-- No strip is taken at first.
use Rattle.std.proofs.Common.{inl, refl, arith}
use Rattle.vob_matrix.proofs.TurnLemmas.{AreTaken-start}
use Rattle.vob_matrix.proofs.tiles.turn_rows.Goals as goal

pub strips-init : goal.strips-init
strips-init c = record {
  within = omega arith;
  taken = AreTaken-start _ _ 0 0 0 _ (inl (omega arith));
  columns = refl;
}
