-- What isn't set is unset.
use Rattle.std.proofs.Common.{arith}
use Rattle.vob.proofs.BitsLemmas.{counts_add_up}
use Rattle.vob.proofs.vob.Vob.count_zeros.Goals as goal

pub returns-clause-count : goal.returns-clause-count
returns-clause-count g c = omega (
  arith,
  counts_add_up c.args.self.now.bits,
  c.len.ensures.len,
  c.count_ones.ensures.count,
)
