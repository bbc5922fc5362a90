-- How far a kernel has come. No public contract cites this page.
use Rattle.std.specs.Prelude.{◌≡◌, ◌↔◌, ℕ, ◌+◌, ◌^◌, ◌<◌, ◌≤◌, Bool, List, length, slice_index_or}
use Rattle.vob_block.specs.Places.{place, HasPlaces}

-- from the blocks before to those after, the m from k on are combined with the others, the rest are as
-- they were, and later is 0 exactly where changed is and none of the m changed
pub record Takes (width : ℕ) (f : Bool → Bool → Bool) (others before after : List ℕ)
    (k m changed later : ℕ) : Type 0 where
  pub count : length after ≡ length before
  pub done : (i : ℕ) → k ≤ i → i < k + m → HasPlaces width (slice_index_or after i 0)
      (λ j. f (place j (slice_index_or before i 0)) (place j (slice_index_or others i 0)))
  pub within : (i : ℕ) → k ≤ i → i < k + m → slice_index_or after i 0 < 2 ^ width
  pub below : (i : ℕ) → i < k → slice_index_or after i 0 ≡ slice_index_or before i 0
  pub above : (i : ℕ) → k + m ≤ i → slice_index_or after i 0 ≡ slice_index_or before i 0
  pub flag : (later ≡ 0) ↔ ((changed ≡ 0)
      × ((i : ℕ) → k ≤ i → i < k + m → slice_index_or after i 0 ≡ slice_index_or before i 0))
