-- What a list of bits feeds a hasher.
use Rattle.std.specs.Prelude.{ℕ, Bool, List}
use Rattle.std.specs.List.{flat_map}
use Rattle.vob_block.specs.Packing.{packing}

-- the blocks of a list in order, each fed as a block is, and not the length
-- Example: of 0 and of 00: the block 0
abbrev pub hash_words : {X : Type 0} → (X → List (List ℕ)) → (ℕ → X) → ℕ → List Bool → List (List ℕ)
hash_words fed block_of width bits = flat_map (λ n. fed (block_of n)) (packing bits width)
