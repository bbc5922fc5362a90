-- How many bits of some blocks are true.
use Rattle.std.specs.Prelude.{ℕ, ◌-◌, List, count_by}
use Rattle.std.specs.List.{range_with_len}
use Rattle.vob_block.specs.Packing.{bit_at}

-- how many are true from index start to below stop
-- Example: [237, 2] at 8, 3 to 10: 5
unfoldable pub ones_between : ℕ → List ℕ → ℕ → ℕ → ℕ
ones_between width blocks start stop =
    count_by (bit_at blocks width) (range_with_len start (stop - start))
