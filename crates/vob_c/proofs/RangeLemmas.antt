-- Words of which the bits of a range are changed, or written over others.
use Rattle.std.specs.Prelude.{All}
use Rattle.std.specs.declared.ops.Bound.TheVariants.{Included, Excluded}
use Rattle.std.proofs.Common.{◌≡◌, ℕ, ◌+◌, ◌-◌, ◌*◌, ◌^◌, ◌<◌, ◌≤◌, Bool, List, length, map, take, drop, replicate, refl, arith}
use Rattle.std.proofs.lemmas.List.{length-drop, length-take-le}
use Rattle.vob_block.specs.Packing.{unpacking, IsCanonical, Stores}
use Rattle.vob_block.proofs.NeedLemmas.{need_enough}
use Rattle.vob_block.proofs.PackingLemmas.{length-unpacking}
use Rattle.vob_store.specs.Copying.{AreCopied}
use Rattle.vob_store.specs.Range.{IsRanged}
use Rattle.vob_walk.proofs.WindowLemmas.{IsRangeOf-own}
use Rattle.vob.specs.Copy.{written_over, IsCopied}
use Rattle.vob.specs.Ranges.{replaced, IsChangedWithin}
use Rattle.vob.proofs.CopyLemmas.{written-is, IsCanonical-copied, IsCopied-blocks}
use Rattle.vob.proofs.RangeLemmas.{IsChangedWithin-ranged, IsChangedWithin-parts, IsChangedWithin-value}

-- bits within the words that hold them
pub words_inside : (n i : ℕ) (xs : List ℕ) → IsCanonical n xs 64 → i ≤ n → i ≤ length xs * 64
words_inside n i xs g inside = omega (arith, g.count, need_enough 64 (omega arith) n, inside)

module _ (start stop n : ℕ) (order : start ≤ stop) (inside : stop ≤ n) (xs ys : List ℕ) where
  pub changed_each : {f : Bool → Bool} → IsCanonical n xs 64 → IsCanonical n ys 64
      → IsRanged 64 f start stop xs ys → IsChangedWithin f (Included start) (Excluded stop)
      (unpacking n xs 64) (unpacking n ys 64)
  changed_each g h ranged = IsChangedWithin-ranged 64 (omega arith) g h ranged
      (IsRangeOf-own start stop n order inside)

  pub changed_list : {f : Bool → Bool} → IsChangedWithin f (Included start) (Excluded stop)
      (unpacking n xs 64) (unpacking n ys 64) → unpacking n ys 64 ≡ replaced start stop
      (map f (take (stop - start) (drop start (unpacking n xs 64)))) (unpacking n xs 64)
  changed_list each = IsChangedWithin-parts each start stop (IsRangeOf-own start stop
      (length (unpacking n xs 64)) order (omega (arith, inside, length-unpacking n xs 64)))

  pub value_list : {value : Bool}
      → IsChangedWithin (λ _. value) (Included start) (Excluded stop)
      (unpacking n xs 64) (unpacking n ys 64) → unpacking n ys 64
      ≡ replaced start stop (replicate (stop - start) value) (unpacking n xs 64)
  value_list each = IsChangedWithin-value each start stop (IsRangeOf-own start stop
      (length (unpacking n xs 64)) order (omega (arith, inside, length-unpacking n xs 64)))

module _ (at start count n m : ℕ) (xs others ys : List ℕ) (own : IsCanonical n xs 64)
    (other : IsCanonical m others 64) (fits : at + count ≤ n) (long : length ys ≡ length xs)
    (small : All (λ x. x < 2 ^ 64) ys) (h : AreCopied 64 at start count xs others ys) where
  pub copied_each : IsCopied at start count (unpacking n xs 64) (unpacking m others 64)
      (unpacking n ys 64)
  copied_each = IsCopied-blocks 64 (omega arith) at start count n m xs others ys own other fits long
      small h

  pub copied_stores : start + count ≤ m → Stores 64 n ys (written_over at
      (take count (drop start (unpacking m others 64))) (unpacking n xs 64))
  copied_stores source =
      let theirs = drop start (unpacking m others 64) in record {
        canonical = IsCanonical-copied 64 (omega arith) at start count n m xs others ys own other
            fits long small h;
        bits = written-is (take count theirs) copied_each refl
            (length-take-le count theirs (omega (
              arith,
              length-drop start (unpacking m others 64),
              length-unpacking m others 64,
              source,
            ))) (omega (arith, fits, length-unpacking n xs 64));
      }
