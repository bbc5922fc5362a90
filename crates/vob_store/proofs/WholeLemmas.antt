-- All bits of canonical storage negated, at a plain width.
use Rattle.std.proofs.Common.{◌≡◌, ℕ, ◌+◌, ◌<◌, ◌≤◌, false, not, List, length, map, get_or, set, sym, ap, ◌∙◌, arith}
use Rattle.std.proofs.lemmas.List.{get_or-map, length-map}
use Rattle.vob_block.specs.Places.{place, HasPlaces}
use Rattle.vob_block.specs.Packing.{need, bit_at, unpacking}
use Rattle.vob_block.proofs.NeedLemmas.{div-lt-need}
use Rattle.vob_block.proofs.PackingLemmas.{bit_at-in_block, length-unpacking, get_or-unpacking, unpacking_from_items}
use Rattle.vob_store.specs.Building.{AreBuilt}
use Rattle.vob_store.proofs.BuildLemmas.{AreBuilt-more}

module _ (w : ℕ) (wide : 0 < w) where
  -- one block more negated
  pub AreBuilt-negated : (olds xs : List ℕ) (k x y : ℕ) → x ≡ get_or olds k 0
      → HasPlaces w y (λ j. not (place j x)) → AreBuilt w k xs (λ i. not (bit_at olds w i))
      → k < length xs → AreBuilt w (k + 1) (set xs k y) (λ i. not (bit_at olds w i))
  AreBuilt-negated olds xs k x y is negated h inside =
      AreBuilt-more w wide (λ i. not (bit_at olds w i)) xs k y h inside (record {
        each = λ j below. negated.each j below ∙ ap (λ z. not (place j z)) is
            ∙ ap not (sym (bit_at-in_block olds w k j below));
      })

  -- negated blocks unpack to the negated list
  pub unpacking-negated : (n : ℕ) (olds xs : List ℕ) (k : ℕ) → need n w ≤ k
      → AreBuilt w k xs (λ i. not (bit_at olds w i)) → unpacking n xs w
      ≡ map not (unpacking n olds w)
  unpacking-negated n olds xs k enough h = unpacking_from_items (map not (unpacking n olds w)) n
      xs w (length-map (unpacking n olds w) not ∙ length-unpacking n olds w) (λ i below.
      h.each i (omega (arith, div-lt-need w wide n i below))
      ∙ ap not (sym (get_or-unpacking n olds w i false below))
      ∙ sym (get_or-map not (unpacking n olds w) i false false
      (omega (arith, length-unpacking n olds w))))
