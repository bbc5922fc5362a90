-- Each call is for half the exponent.
use Rattle.vob_matrix.proofs.matrix.BitMatrix.+power.Given as goal

abbrev pub decreases-power : goal.decreases-power
decreases-power l = l.n
