-- The bits of bytes, as they come from outside.
use Rattle.std.specs.Prelude.{ℕ, ◌-◌, Bool, List, [], ◌∷◌, ◌++◌, map}
use Rattle.std.specs.List.{range_with_len}
use Rattle.vob_block.specs.Places.{place}

-- of each byte in order its places 7, 6, .. 0
-- Example: byte 160: 10100000
unfoldable pub bytes_list : List ℕ → List Bool
bytes_list [] = []
bytes_list (byte ∷ bytes) =
    map (λ j. place (7 - j) byte) (range_with_len 0 8) ++ bytes_list bytes
