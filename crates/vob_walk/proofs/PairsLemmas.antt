-- The blocks of two lists combined: what is read of them, and the bits that they unpack to.
use Rattle.std.proofs.Common.{◌≡◌, ℕ, zero, suc, ◌/◌, ◌%◌, ◌^◌, ◌<◌, ◌≤◌, Bool, List, [], ◌∷◌}
use Rattle.std.proofs.Common.{length, map, get_or, slice_get, Some, refl, sym, ap, ◌∙◌, arith}
use Rattle.std.proofs.Common.{mod-lt}
use Rattle.vob_block.specs.Places.{place, HasPlaces}
use Rattle.vob_block.specs.Packing.{item, need, unpacking}
use Rattle.vob_block.specs.Pointwise.{pointwise}
use Rattle.vob_block.proofs.NeedLemmas.{div-lt-need}
use Rattle.vob_block.proofs.NumberLemmas.{number_read}
use Rattle.vob_block.proofs.PackingLemmas.{bit_at-is_place, get_or-unpacking, length-unpacking}
use Rattle.vob_block.proofs.PackingLemmas.{unpacking_from_items}
use Rattle.vob_block.proofs.PlaceLemmas.{same_from_places}
use Rattle.vob_block.proofs.PointwiseLemmas.{length-pointwise}
use Rattle.vob_block.proofs.ValueLemmas.{value-lt, place-value}
use Rattle.vob_walk.specs.Pairs.{combined_number, combined_blocks}

-- a bit of two lists of one length combined
pub item-pointwise_inside : (f : Bool → Bool → Bool) (bs cs : List Bool) → length bs ≡ length cs
    → (i : ℕ) → i < length bs → item (pointwise f bs cs) i ≡ f (item bs i) (item cs i)
item-pointwise_inside f [] cs e i inside = absurd (omega arith)
item-pointwise_inside f (b ∷ bs) [] e i inside = absurd (omega arith)
item-pointwise_inside f (b ∷ bs) (c ∷ cs) e zero inside = refl
item-pointwise_inside f (b ∷ bs) (c ∷ cs) e (suc i) inside =
    item-pointwise_inside f bs cs (omega arith) i (omega arith)

module _ {X : Type 0} (number : X → ℕ) (of_bits : ℕ → X) (w : ℕ) (f : Bool → Bool → Bool) where
  abbrev both : List X → List X → List X
  both = combined_blocks number of_bits w f

  -- no more than there are of either
  pub length-combined : (xs ys : List X)
      → (length (both xs ys) ≤ length xs) × (length (both xs ys) ≤ length ys)
  unfolding combined_blocks
  length-combined [] ys = (omega arith, omega arith)
  length-combined (x ∷ xs) [] = (omega arith, omega arith)
  length-combined (x ∷ xs) (y ∷ ys) = let rest = length-combined xs ys in (omega arith, omega arith)

  pub length-combined_same : (xs ys : List X) → length xs ≡ length ys
      → length (both xs ys) ≡ length xs
  unfolding combined_blocks
  length-combined_same [] ys same = refl
  length-combined_same (x ∷ xs) [] same = absurd (omega arith)
  length-combined_same (x ∷ xs) (y ∷ ys) same = ap suc (length-combined_same xs ys (omega arith))

  module _ (of_bits_number : (n : ℕ) → n < 2 ^ w → number (of_bits n) ≡ n) where
    -- block k is made of the blocks k of both
    get_or-combined : (xs ys : List X) (k : ℕ) → k < length xs → k < length ys
        → get_or (map number (both xs ys)) k 0
        ≡ combined_number w f (get_or (map number xs) k 0) (get_or (map number ys) k 0)
    unfolding combined_blocks
    get_or-combined [] ys k own other = absurd (omega arith)
    get_or-combined (x ∷ xs) [] k own other = absurd (omega arith)
    get_or-combined (x ∷ xs) (y ∷ ys) zero own other =
        of_bits_number (combined_number w f (number x) (number y))
        (value-lt w (λ j. f (place j (number x)) (place j (number y))))
    get_or-combined (x ∷ xs) (y ∷ ys) (suc k) own other =
        get_or-combined xs ys k (omega arith) (omega arith)

    -- so it is what two blocks make that were read
    pub read-combined : (xs ys : List X) (k n : ℕ) (x y : X) → slice_get xs k ≡ Some x
        → slice_get ys k ≡ Some y → k < length (both xs ys)
        → HasPlaces w n (λ j. f (place j (number x)) (place j (number y))) → n < 2 ^ w
        → n ≡ get_or (map number (both xs ys)) k 0
    read-combined xs ys k n x y own other inside places within =
        let few = length-combined xs ys in
        let made = λ (j : ℕ). f (place j (get_or (map number xs) k 0))
        (place j (get_or (map number ys) k 0)) in
        same_from_places w n (combined_number w f (get_or (map number xs) k 0)
        (get_or (map number ys) k 0)) within (value-lt w made) (λ j below. places.each j below
        ∙ ap (λ b. f (place j b) (place j (number y))) (number_read number xs k x own)
        ∙ ap (λ b. f (place j (get_or (map number xs) k 0)) (place j b))
        (number_read number ys k y other) ∙ sym (place-value w j made below))
        ∙ sym (get_or-combined xs ys k (omega arith) (omega arith))

    -- and blocks that are combined unpack to the lists combined
    pub unpacking-combined : 0 < w → (n : ℕ) (xs ys : List X) → length xs ≡ need n w
        → length ys ≡ need n w
        → unpacking n (map number (both xs ys)) w
        ≡ pointwise f (unpacking n (map number xs) w) (unpacking n (map number ys) w)
    unpacking-combined wide n xs ys own other =
        let bs = unpacking n (map number xs) w in
        let cs = unpacking n (map number ys) w in
        let blocks = map number (both xs ys) in
        let long = length-unpacking n (map number xs) w in
        let same = long ∙ sym (length-unpacking n (map number ys) w) in
        unpacking_from_items (pointwise f bs cs) n blocks w (length-pointwise f bs cs same ∙ long)
        (λ i inside.
        let block = div-lt-need w wide n i inside in
        let made = λ (j : ℕ). f (place j (get_or (map number xs) (i / w) 0))
        (place j (get_or (map number ys) (i / w) 0)) in
        bit_at-is_place blocks w i
        ∙ ap (place (i % w)) (get_or-combined xs ys (i / w) (omega arith) (omega arith))
        ∙ place-value w (i % w) made (mod-lt i wide)
        ∙ sym (item-pointwise_inside f bs cs same i (omega arith)
        ∙ ap (λ b. f b (item cs i)) (get_or-unpacking n (map number xs) w i _ inside
        ∙ bit_at-is_place (map number xs) w i)
        ∙ ap (f (place (i % w) (get_or (map number xs) (i / w) 0)))
        (get_or-unpacking n (map number ys) w i _ inside
        ∙ bit_at-is_place (map number ys) w i)))
