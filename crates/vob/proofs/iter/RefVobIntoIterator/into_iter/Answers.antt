-- The walk is the one that `iter` gives.
use Rattle.std.proofs.Common.{arith}
use Rattle.vob.proofs.RestLemmas.{rest_runs, rest_runs_back}
use Rattle.vob.proofs.iter.RefVobIntoIterator.into_iter.Goals as goal

pub returns : goal.returns
returns g c = record {
  into_iter_gives = (
    c.iter.ensures.bits,
    omega (arith, c.iter.ensures.longest),
    rest_runs,
    rest_runs_back,
  );
}
