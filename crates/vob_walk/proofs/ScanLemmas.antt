-- Blocks that a scan reads one after another, from either end, over a plain width.
use Rattle.std.proofs.Common.{◌≡◌, ℕ, ◌+◌, ◌-◌, ◌*◌, ◌/◌, ◌%◌, ◌^◌, ◌<◌, ◌≤◌, Bool, true, false}
use Rattle.std.proofs.Common.{not, ◌&&◌, List, [], ◌++◌, append-nil, cond, get_or, ltb, leb, refl, sym, ap, ◌∙◌, arith}
use Rattle.std.proofs.Common.{add-mul, suc-mul, zero-mul, add-one, mod-lt, inl, inr}
use Rattle.std.proofs.lemmas.Bool.{cases_lt, and_right, false≢true}
use Rattle.std.proofs.lemmas.Bool.Decides.{nat_tests}
use Rattle.std.proofs.lemmas.Nat.{div_below, le-div}
use Rattle.vob_block.specs.Places.{place, HasPlaces}
use Rattle.vob_block.specs.Packing.{bit_at}
use Rattle.vob_block.proofs.PlaceLemmas.{place-ones, place-zero}
use Rattle.vob_block.proofs.PackingLemmas.{bit_at-in_block, bit_at-is_place}
use Rattle.vob_walk.specs.declared.walk.End.{End}
use Rattle.vob_walk.specs.declared.walk.End.TheVariants.{Front, Back}
use Rattle.vob_walk.specs.Matches.{has_value}
use Rattle.vob_walk.specs.Cursor.{indices_where, block_indices, indices_in, is_hit, unread}
use Rattle.vob_walk.specs.Skip.{AreSkipped, side_start, side_end, other_end, beside}
use Rattle.vob_walk.proofs.WhereLemmas.{indices_where-split, indices_where-same, indices_where-nothing}

-- ---- the bits of a block that have a value, and are cut at the start

pub HasPlaces-same : (w x : ℕ) (value : Bool) → value ≡ true
    → HasPlaces w x (λ j. has_value value (place j x))
HasPlaces-same w x true is = record { each = λ j inside. refl }
HasPlaces-same w x false is = absurd (false≢true is)

pub HasPlaces-other : (w x y : ℕ) (value : Bool) → value ≡ false
    → HasPlaces w y (λ j. not (place j x)) → HasPlaces w y (λ j. has_value value (place j x))
HasPlaces-other w x y false is h = h
HasPlaces-other w x y true is h = absurd (false≢true (sym is))

-- by all places, moved up
pub HasPlaces-from_part : (w a start n x y ones mask : ℕ) → n ≡ start - a → a ≤ start → ones
    ≡ 2 ^ w - 1
    → HasPlaces w mask (λ j. leb n j && place (j - n) ones)
    → HasPlaces w y (λ j. place j x && place j mask)
    → HasPlaces w y (λ j. leb start (a + j) && place j x)
HasPlaces-from_part w a start n x y ones mask far within all p q = record {
  each = λ j inside. q.each j inside ∙ rw (p.each j inside) (elim (cases_lt j n) [
    | inl low ↦ grind (arith, nat_tests)
    | inr high ↦
        let kept = ap (place (j - n)) all ∙ place-ones w (j - n) (omega arith) in
        grind (arith, nat_tests)
  ]);
}

-- no place of a block without a bit of the value is looked for
pub without_value : (w x j : ℕ) (value : Bool) → x ≡ cond value 0 (2 ^ w - 1) → j < w
    → has_value value (place j x) ≡ false
without_value w x j true is inside = ap (place j) is ∙ place-zero j
without_value w x j false is inside = ap not (ap (place j) is ∙ place-ones w j inside)

-- a masked block in hand holds those of its bits that are looked for
pub block_indices-in : (w x y at start stop : ℕ) (value : Bool)
    → HasPlaces w y (λ j. leb start (at + j) && ltb (at + j) stop && has_value value (place j x))
    → block_indices w at y ≡ indices_in w x at value start stop
unfolding block_indices
block_indices-in w x y at start stop value places = indices_where-same (λ i. place (i - at) y)
    (λ i. leb start i && ltb i stop && has_value value (place (i - at) x)) at w
    (λ i low high.
    let back : at + (i - at) ≡ i = omega arith in
    places.each (i - at) (omega arith)
    ∙ ap (λ m. leb start m && ltb m stop && has_value value (place (i - at) x)) back)

-- ---- the blocks that are not read yet

pub product-more : (w q : ℕ) → (q + 1) * w ≡ q * w + w
product-more w q = ap (λ k. k * w) (add-one q) ∙ suc-mul q w

-- a bit of blocks that are all `skip` is one of its places
pub bit_at-skipped : (w : ℕ) → 0 < w → (xs : List ℕ) (skip a b : ℕ)
    → AreSkipped skip (λ k. get_or xs k 0) a b → (i : ℕ) → a * w ≤ i → i < b * w
    → bit_at xs w i ≡ place (i % w) skip
bit_at-skipped w wide xs skip a b all i from below =
    bit_at-is_place xs w i
    ∙ ap (place (i % w)) (all (i / w) (le-div a i w wide from) (div_below i w b wide below))

module _ (w : ℕ) (xs : List ℕ) (value : Bool) (start stop : ℕ) where
  abbrev hit : ℕ → Bool
  hit = is_hit w xs value start stop

  abbrev left : ℕ → ℕ → List ℕ
  left = unread w xs value start stop

  pub unread-none : (k end : ℕ) → end ≤ k → left k end ≡ []
  unfolding unread
  unread-none k end past =
      let none : end - k ≡ 0 = omega arith in
      ap (λ n. indices_where hit (k * w) (n * w)) none ∙ ap (indices_where hit (k * w)) (zero-mul w)

  -- two parts of some blocks
  unread-split : (k m end : ℕ) → k ≤ m → m ≤ end → left k end ≡ left k m ++ left m end
  unfolding unread
  unread-split k m end low high =
      let parts : (end - k) * w ≡ (m - k) * w + (end - m) * w =
      ap (λ n. n * w) (omega arith) ∙ add-mul (m - k) (end - m) w in
      let there : k * w + (m - k) * w ≡ m * w =
      sym (add-mul k (m - k) w) ∙ ap (λ n. n * w) (omega arith) in
      ap (indices_where hit (k * w)) parts
      ∙ indices_where-split hit (k * w) ((m - k) * w) ((end - m) * w)
      ∙ ap (λ a. indices_where hit (k * w) ((m - k) * w) ++ indices_where hit a ((end - m) * w))
      there

  module _ (k x : ℕ) (read : x ≡ get_or xs k 0) where
    -- what is looked for in block k is exactly what is to be found there
    indices_in-hits : indices_in w x (k * w) value start stop ≡ indices_where hit (k * w) w
    indices_in-hits = indices_where-same
        (λ i. leb start i && ltb i stop && has_value value (place (i - k * w) x)) hit (k * w) w
        (λ i low high.
        let back : k * w + (i - k * w) ≡ i = omega arith in
        let inside : i - k * w < w = omega arith in
        let bit : place (i - k * w) x ≡ bit_at xs w i =
        ap (place (i - k * w)) read ∙ sym (bit_at-in_block xs w k (i - k * w) inside)
        ∙ ap (bit_at xs w) back in
        ap (λ b. leb start i && ltb i stop && has_value value b) bit)

    pub block_indices-masked : (y : ℕ)
        → HasPlaces w y (λ j. leb start (k * w + j) && ltb (k * w + j) stop && has_value value
        (place j x)) → block_indices w (k * w) y ≡ indices_where hit (k * w) w
    block_indices-masked y places =
        block_indices-in w x y (k * w) start stop value places ∙ indices_in-hits

    unread-block : indices_in w x (k * w) value start stop ≡ left k (k + 1)
    unfolding unread
    unread-block =
        let same : 1 * w ≡ w = omega arith in
        let one : (k + 1 - k) * w ≡ w = ap (λ n. n * w) (omega arith) ∙ same in
        indices_in-hits ∙ ap (indices_where hit (k * w)) (sym one)

  module _ (wide : 0 < w) {skip : ℕ} (without : skip ≡ cond value 0 (2 ^ w - 1)) where
    -- blocks without a bit of the value have none that is looked for
    pub unread-skipped : (a b : ℕ) → a ≤ b → AreSkipped skip (λ k. get_or xs k 0) a b
        → left a b ≡ []
    unfolding unread
    unread-skipped a b order all =
        let ends : a * w + (b - a) * w ≡ b * w =
        sym (add-mul a (b - a) w) ∙ ap (λ n. n * w) (omega arith) in
        indices_where-nothing hit (a * w) ((b - a) * w) (λ i from below.
        and_right (leb start i && ltb i stop) (has_value value (bit_at xs w i))
        (ap (has_value value) (bit_at-skipped w wide xs skip a b all i from (omega arith))
        ∙ without_value w skip (i % w) value without (mod-lt i wide)))

    -- so after them block k gives what is looked for there, and the others are left
    pub unread-found : (side : End) (a k b x : ℕ) → a ≤ k → k < b → x ≡ get_or xs k 0
        → AreSkipped skip (λ k. get_or xs k 0) (side_start side a k) (side_end side b k)
        → beside side (indices_in w x (k * w) value start stop)
        (left (side_start (other_end side) a k) (side_end (other_end side) b k)) ≡ left a b
    unread-found Front a k b x low high read all = rw (
      unread-block k x read,
      unread-split a k b low (omega arith),
      unread-skipped a k low all,
      unread-split k (k + 1) b (omega arith) (omega arith),
    ) refl
    unread-found Back a k b x low high read all = rw (
      unread-block k x read,
      unread-split a (k + 1) b (omega arith) (omega arith),
      unread-skipped (k + 1) b (omega arith) all,
      append-nil,
      unread-split a k (k + 1) low (omega arith),
    ) refl
