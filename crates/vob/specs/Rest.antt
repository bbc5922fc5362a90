-- Within the crate: what a walk over bits has left. No public contract cites this page.
use Rattle.std.specs.Prelude.{ℕ, ◌-◌, Bool, List, map}
use Rattle.std.specs.List.{range_with_len}
use Rattle.vob_block.specs.Packing.{bit_at}

-- the bits of some blocks from one index to below another
unfoldable pub bits_between : ℕ → ℕ → List ℕ → ℕ → List Bool
bits_between from to blocks width = map (bit_at blocks width) (range_with_len from (to - from))
