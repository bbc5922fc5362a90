-- The blocks of two lists combined, place by place. No public contract cites this page.
use Rattle.std.specs.Prelude.{ℕ, Bool, List}
use Rattle.std.specs.Simd.Lanes.{zip2}
use Rattle.vob_block.specs.Places.{place, value}

-- the number that has the places of two numbers combined by f
abbrev pub combined_number : ℕ → (Bool → Bool → Bool) → ℕ → ℕ → ℕ
combined_number width f own other = value width (λ j. f (place j own) (place j other))

-- the blocks of both lists combined by f, one beside the other
unfoldable pub combined_blocks : {X : Type 0} → (X → ℕ) → (ℕ → X) → ℕ
    → (Bool → Bool → Bool) → List X → List X → List X
combined_blocks number of_bits width f =
    zip2 (λ own other. of_bits (combined_number width f (number own) (number other)))
