-- Words of two arrays combined.
use Rattle.std.proofs.Common.{◌≡◌, ◌≢◌, ◌↔◌, ◌||◌, ℕ, Bool, false, List, IsTrue, length, refl, sym, ap, ◌∙◌, arith}
use Rattle.vob_block.specs.Packing.{packing, unpacking, IsCanonical, Stores}
use Rattle.vob_block.specs.Pointwise.{pointwise, IsCombined, IsPointwise}
use Rattle.vob_block.proofs.PackingLemmas.{length-unpacking, packing-unpacking, packing_is}
use Rattle.vob_block.proofs.PointwiseLemmas.{length-pointwise, pointwise_stored, same_from_lists}
use Rattle.vob.proofs.CombineLemmas.{pointwise_blocks}

module _ (f : Bool → Bool → Bool) (none : f false false ≡ false) (n : ℕ) (xs ys zs : List ℕ)
    (changed : Bool) (g : IsCanonical n xs 64) (h : IsCanonical n ys 64)
    (done : IsCombined 64 f xs ys zs changed) where
  pub combined_stores : Stores 64 n zs (pointwise f (unpacking n xs 64) (unpacking n ys 64))
  combined_stores = pointwise_stored 64 (omega arith) f none n xs ys zs g h done.places done.within

  pub combined_changes : IsTrue changed ↔ (unpacking n zs 64 ≢ unpacking n xs 64)
  combined_changes = (
    (λ e lists. done.flag.0 e (same_from_lists 64 (omega arith) n zs xs combined_stores.canonical g
        lists)),
    (λ lists. done.flag.1 (λ words. lists (ap (λ xs. unpacking n xs 64) words))),
  )

-- words to which two others combined are added
module _ (f : Bool → Bool → Bool) (none : f false false ≡ false) (n : ℕ) (xs ys ws zs : List ℕ)
    (changed : Bool) (g : IsCanonical n xs 64) (h : IsCanonical n ys 64) (k : IsCanonical n ws 64)
    (done : (both : List ℕ) → IsPointwise 64 f ys ws both → IsCombined 64 ◌||◌ xs both zs changed)
  where
    abbrev both_bits : List Bool
    both_bits = pointwise f (unpacking n ys 64) (unpacking n ws 64)

    as_long : length (unpacking n ys 64) ≡ length (unpacking n ws 64)
    as_long = length-unpacking n ys 64 ∙ sym (length-unpacking n ws 64)

    both_stored : Stores 64 n (packing both_bits 64) both_bits
    both_stored = packing_is 64 (omega arith) both_bits n (packing both_bits 64) refl
        (length-pointwise f (unpacking n ys 64) (unpacking n ws 64) as_long ∙ length-unpacking n ys 64)

    added : IsCombined 64 ◌||◌ xs (packing both_bits 64) zs changed
    added = done (packing both_bits 64) (pointwise_blocks 64 (omega arith) f none (unpacking n ys 64)
        (unpacking n ws 64) as_long ys ws (sym (packing-unpacking 64 (omega arith) n ys h))
        (sym (packing-unpacking 64 (omega arith) n ws k)))

    pub added_stores : Stores 64 n zs (pointwise ◌||◌ (unpacking n xs 64) both_bits)
    added_stores = rw both_stored.bits at (combined_stores ◌||◌ refl n xs (packing both_bits 64) zs
        changed g both_stored.canonical added)

    pub added_changes : IsTrue changed ↔ (unpacking n zs 64 ≢ unpacking n xs 64)
    added_changes = combined_changes ◌||◌ refl n xs (packing both_bits 64) zs changed g
        both_stored.canonical added
