-- What is unread after a scan for a block that isn't the one without a bit of the value.
use Rattle.std.proofs.Common.{◌≡◌, ℕ, ◌+◌, ◌-◌, ◌*◌, ◌^◌, ◌<◌, ◌≤◌, Bool, List, [], cond, map, Some, None, refl, sym, ◌∙◌, arith, append-nil}
use Rattle.vob_block.specs.Reading.{Reading}
use Rattle.vob_walk.specs.declared.walk.End.{End}
use Rattle.vob_walk.specs.declared.walk.End.TheVariants.{Front, Back}
use Rattle.vob_walk.specs.Cursor.{indices_in, unread}
use Rattle.vob_walk.specs.Skip.{Scans, Reads, side_start, side_end, other_end, beside}
use Rattle.vob_walk.proofs.ScanLemmas.{unread-none, unread-skipped, unread-found}

beside-nil : (side : End) (xs : List ℕ) → beside side [] xs ≡ xs
beside-nil Front xs = refl
beside-nil Back xs = append-nil xs

-- the blocks at the other side of block k
rest_order : (side : End) (a k b : ℕ) → a ≤ k → k < b
    → (a ≤ side_start (other_end side) a k)
    × (side_start (other_end side) a k ≤ side_end (other_end side) b k)
    × (side_end (other_end side) b k ≤ b)
    × (side_end side b k + 1 - side_start side a k
    + (side_end (other_end side) b k - side_start (other_end side) a k) ≡ b - a)
rest_order Front a k b low high = (omega arith, omega arith, omega arith, omega arith)
rest_order Back a k b low high = (omega arith, omega arith, omega arith, omega arith)

module _ (w : ℕ) (wide : 0 < w) (value : Bool) (start stop : ℕ) where
  abbrev left : List ℕ → ℕ → ℕ → List ℕ
  left xs = unread w xs value start stop

  module _ {X : Type 0} {number : X → ℕ} where
    still_left : (side : End) {x y : Reading X} {a b m n : ℕ}
        → Reads side number left x y a b m n []
        → left (map number y.items) m n ≡ left (map number y.items) a b
    still_left side so_far = rw so_far.items (sym (beside-nil side _) ∙ so_far.rest)

    module _ {skip : X} (without : number skip ≡ cond value 0 (2 ^ w - 1)) (side : End)
        {x y z : Reading X} {a b m n : ℕ} (so_far : Reads side number left x y a b m n []) where
      -- a scan found a block, whose indices are given
      pub Reads-found : {k c d : ℕ} {block : X} {given : List ℕ}
          → Scans side number skip y z m n (Some (k, block))
          → c ≡ side_start (other_end side) m k → d ≡ side_end (other_end side) n k
          → given ≡ indices_in w (number block) (k * w) value start stop
          → Reads side number left x z a b c d given
      Reads-found {k} {c} {d} {block} {given} scan first last gives =
          let other = scan.found.0 in
          let rest = rest_order side m k n other.from other.below in
          record {
            low = omega arith;
            order = omega arith;
            high = omega arith;
            rest = rw (gives, first, last, ← so_far.items)
                (unread-found w (map number y.items) value start stop wide without side m k n
                (number block) other.from other.below other.same scan.found.1
                ∙ still_left side so_far);
            reads = omega arith;
            items = scan.items ∙ so_far.items;
          }

      -- or none, so nothing is left
      pub Reads-end : {given : List ℕ} → Scans side number skip y z m n None → given ≡ []
          → Reads side number left x z a b n n given
      Reads-end {given} scan gives = record {
        low = omega arith;
        order = omega arith;
        high = so_far.high;
        rest = rw (gives, ← so_far.items)
            (beside-nil side _
            ∙ unread-none w (map number y.items) value start stop n n (omega arith)
            ∙ sym (unread-skipped w (map number y.items) value start stop wide without m n
            so_far.order scan.found) ∙ still_left side so_far);
        reads = omega arith;
        items = scan.items ∙ so_far.items;
      }
