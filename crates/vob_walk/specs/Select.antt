-- The true bit of a rank, which is how many true bits stand below it.
use Rattle.std.specs.Prelude.{◌≡◌, ℕ, true, List}
use Rattle.vob_block.specs.Packing.{bit_at}
use Rattle.vob_walk.specs.Count.{ones_between}

-- the bit at index i is true, and as many as its rank are true below it
-- Example: [237, 2] at 8: 9 has rank 6
pub record HasRank (width : ℕ) (blocks : List ℕ) (rank i : ℕ) : Type 0 where
  pub there : bit_at blocks width i ≡ true
  pub below : ones_between width blocks 0 i ≡ rank
