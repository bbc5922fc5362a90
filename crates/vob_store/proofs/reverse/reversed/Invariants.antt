-- The parts stand in reverse order, and their size is a power of two.
use Rattle.std.proofs.Common.{◌-◌, ℕ}
use Rattle.vob_store.specs.Reversing.{IsHalvable}
use Rattle.vob_store.proofs.ReversingLemmas.{IsHalved}
use Rattle.vob_store.proofs.reverse.reversed.Given as goal

abbrev pub invariant-loop-size : goal.invariant-loop-size
invariant-loop-size g l = record {
  halvable : IsHalvable l.size;
  halved : (m : ℕ) × IsHalved g.T.BitBlock.BITS l.size (g.T.BitBlock.number l.fn.block)
      (g.T.BitBlock.number l.all) (g.T.BitBlock.number l.mask) m;
}

abbrev pub decreases-loop-size : goal.decreases-loop-size
decreases-loop-size g l = l.size - 1
