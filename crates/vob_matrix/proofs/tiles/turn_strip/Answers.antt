-- No tile is taken at first.
use Rattle.std.proofs.Common.{inr, refl, arith}
use Rattle.vob_matrix.proofs.TurnLemmas.{AreTaken-start}
use Rattle.vob_matrix.proofs.tiles.turn_strip.Goals as goal

pub tiles-init : goal.tiles-init
tiles-init c = record {
  within = omega arith;
  taken = AreTaken-start _ _ c.args.first c.args.last 0 0 (inr (omega arith));
  columns = refl;
}
