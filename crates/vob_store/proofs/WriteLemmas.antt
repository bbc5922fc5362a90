-- One place of one block written, and what the blocks store then, at a plain width.
use Rattle.std.specs.Prelude.{Option, Some, IsTrue}
use Rattle.std.specs.Bool.{beq}
use Rattle.std.specs.Int.{w64}
use Rattle.std.proofs.lemmas.Nat.{mul-le}
use Rattle.std.proofs.Common.{Fits, ◌*◌, ◌≤◌, ◌≡◌, ◌≢◌, ◌↔◌, ℕ, ◌/◌, ◌%◌, ◌^◌, ◌<◌, Bool, true}
use Rattle.std.proofs.Common.{false, not, ◌&&◌, ◌||◌, cond, List, length, map, get_or, set, eqb}
use Rattle.std.proofs.Common.{refl, sym, ap, ◌∙◌, arith, inl, inr, mod-lt}
use Rattle.std.proofs.lemmas.Bool.{cases_eq, eq-eqb, ne_eqb, cond-true, cond-false}
use Rattle.std.proofs.lemmas.List.{map-set, length-map, length-set, get_or-set_same, get_or-set_other}
use Rattle.std.proofs.lemmas.List.Elements.{All-set}
use Rattle.vob_block.specs.Places.{place, HasPlaces}
use Rattle.vob_block.specs.Packing.{item, bit_at, unpacking, IsCanonical, Stores}
use Rattle.vob_block.specs.Pointwise.{differ}
use Rattle.vob_block.proofs.BoolLemmas.{or-test, and-test, differ-test}
use Rattle.vob_block.proofs.NeedLemmas.{div-lt-need}
use Rattle.vob_block.proofs.PackingLemmas.{bit_at-is_place, bit_at-set_same, bit_at-set_other, length-unpacking, bit_at-is_item, stores_from_items}
use Rattle.vob_block.proofs.PlaceLemmas.{place-pow}
use Rattle.vob_store.proofs.BuildLemmas.{number_indexed}
use Rattle.vob_store.proofs.PushLemmas.{eqb-places, eqb-blocks}

-- ---- a block with another value at one place

-- `x | m`, where m is place j alone
pub HasPlaces-marked : (w x y m j : ℕ) (v : Bool) → v ≡ true → m ≡ 2 ^ j
    → HasPlaces w y (λ i. place i x || place i m)
    → HasPlaces w y (λ i. cond (eqb i j) v (place i x))
HasPlaces-marked w x y m j v is alone h = record {
  each = λ i k.
      h.each i k ∙ ap (λ b. place i x || b) (ap (place i) alone ∙ place-pow j i)
      ∙ or-test (place i x) (eqb i j)
      ∙ ap (λ b. cond (eqb i j) b (place i x)) (sym is);
}

-- `x & !m`
pub HasPlaces-unmarked : (w x y z m j : ℕ) (v : Bool) → v ≡ false → m ≡ 2 ^ j
    → HasPlaces w z (λ i. not (place i m)) → HasPlaces w y (λ i. place i x && place i z)
    → HasPlaces w y (λ i. cond (eqb i j) v (place i x))
HasPlaces-unmarked w x y z m j v is alone negated h = record {
  each = λ i k.
      h.each i k ∙ ap (λ b. place i x && b) (negated.each i k ∙ ap (λ n. not (place i n)) alone
      ∙ ap not (place-pow j i)) ∙ and-test (place i x) (eqb i j)
      ∙ ap (λ b. cond (eqb i j) b (place i x)) (sym is);
}

-- `x ^ m`, where v is what place j becomes
pub not-not : (b : Bool) → not (not b) ≡ b
not-not true = refl
not-not false = refl

module _ (w x y m j : ℕ) (v : Bool) (inside : j < w) (alone : m ≡ 2 ^ j) (new : v ≡ place j y)
    (h : HasPlaces w y (λ i. differ (place i x) (place i m))) where
  negated : (i : ℕ) → i < w → place i y ≡ cond (eqb i j) (not (place i x)) (place i x)
  negated i k =
      h.each i k ∙ ap (λ n. differ (place i x) (place i n)) alone
      ∙ ap (differ (place i x)) (place-pow j i) ∙ differ-test (place i x) (eqb i j)

  pub place-flipped : not v ≡ place j x
  place-flipped = ap not (new ∙ negated j inside
      ∙ cond-true (eqb j j) (not (place j x)) (place j x) (eq-eqb j j refl)) ∙ not-not (place j x)

  pub HasPlaces-flipped : HasPlaces w y (λ i. cond (eqb i j) v (place i x))
  HasPlaces-flipped = record {
    each = λ i k. elim (cases_eq i j) [
      | inl same ↦ ap (λ n. place n y) same ∙ sym new
          ∙ sym (cond-true (eqb i j) v (place i x) (eq-eqb i j same))
      | inr other ↦ negated i k
          ∙ cond-false (eqb i j) (not (place i x)) (place i x) (ne_eqb i j other)
          ∙ sym (cond-false (eqb i j) v (place i x) (ne_eqb i j other))
    ];
  }

-- ---- blocks with another value at one bit

pub item-set : (bits : List Bool) (index : ℕ) (v : Bool) (i : ℕ) → index < length bits
    → item (set bits index v) i ≡ cond (eqb i index) v (item bits i)
item-set bits index v i inside = elim (cases_eq i index) [
  | inl same ↦
      ap (item (set bits index v)) same ∙ get_or-set_same bits index v false inside
      ∙ sym (cond-true (eqb i index) v (item bits i) (eq-eqb i index same))
  | inr other ↦ get_or-set_other bits index i v false other
      ∙ sym (cond-false (eqb i index) v (item bits i) (ne_eqb i index other))
]

module _ (w : ℕ) (wide : 0 < w) (xs : List ℕ) (index : ℕ) (v : Bool) (y : ℕ) where
  -- the block of the bit has v at the bit's place, and is the old one elsewhere
  pub bit_at-write : index / w < length xs → ((j : ℕ) → j < w → place j y
      ≡ cond (eqb j (index % w)) v (place j (get_or xs (index / w) 0)))
      → (i : ℕ) → bit_at (set xs (index / w) y) w i ≡ cond (eqb i index) v (bit_at xs w i)
  bit_at-write there places i = elim (cases_eq (i / w) (index / w)) [
    | inl here ↦
        let old : place (i % w) (get_or xs (index / w) 0) ≡ bit_at xs w i =
        ap (λ q. place (i % w) (get_or xs q 0)) (sym here) ∙ sym (bit_at-is_place xs w i) in
        bit_at-set_same xs w (index / w) y i there here ∙ places (i % w) (mod-lt i wide)
        ∙ ap (λ t. cond t v (place (i % w) (get_or xs (index / w) 0)))
        (sym (eqb-places w i index here)) ∙ ap (cond (eqb i index) v) old
    | inr apart ↦ bit_at-set_other xs w (index / w) y i apart
        ∙ sym (cond-false (eqb i index) v (bit_at xs w i) (eqb-blocks w i index apart))
  ]

  pub write_place : (n : ℕ) → IsCanonical n xs w → index < n → y < 2 ^ w
      → ((j : ℕ) → j < w → place j y ≡ cond (eqb j (index % w)) v
      (place j (get_or xs (index / w) 0)))
      → Stores w n (set xs (index / w) y) (set (unpacking n xs w) index v)
  write_place n h inside small places =
      let bits = unpacking n xs w in
      let there : index / w < length xs = omega
      (arith, h.count, div-lt-need w wide n index inside) in
      stores_from_items w wide (set bits index v) n (set xs (index / w) y)
      (length-set bits index v ∙ length-unpacking n xs w)
      (length-set xs (index / w) y ∙ h.count)
      (All-set (λ x. x < 2 ^ w) xs (index / w) y small h.within)
      (λ i. bit_at-write there places i ∙ ap (cond (eqb i index) v) (bit_at-is_item w wide n xs h i)
      ∙ sym (item-set bits index v i (omega (arith, length-unpacking n xs w))))

-- the same of items with a number each; u is the width as the code read it
pub write_at : {X : Type 0} (number : X → ℕ) (w : ℕ) → 0 < w → (n : ℕ) (items : List X)
    → IsCanonical n (map number items) w → (index : ℕ) → index < n → (u : ℕ) → u ≡ w → (v : Bool)
    (x y : X) → x ≡ get_or items (index / u) x → number y < 2 ^ w
    → HasPlaces w (number y) (λ j. cond (eqb j (index % u)) v (place j (number x)))
    → Stores w n (map number (set items (index / u) y)) (set (unpacking n (map number items) w) index v)
write_at number w wide n items h index inside u same v x y read small places =
    let there : index / w < length items =
    omega (arith, h.count, div-lt-need w wide n index inside, length-map items number) in
    let block = number_indexed number items (index / w) x there (rw same at read) in
    rw (same, map-set) (write_place w wide (map number items) index v (number y) n h inside small
    (λ j k. (rw same at places).each j k ∙ ap (λ b. cond (eqb j (index % w)) v (place j b)) block))

-- where a block stands in memory is a number that fits
pub offset_fits : (i n size : ℕ) → i < n → n * size < 2 ^ 63 → Fits w64 (i * size)
offset_fits i n size inside small =
    let row : i * size ≤ n * size = mul-le i size n size (omega arith) (omega arith) in
    record { fits = omega (arith, row, small) }

-- a bit that is b becomes another one exactly where b isn't the new value
pub changed_from : (o : Option Bool) (b v : Bool) → o ≡ Some b → IsTrue (not (beq b v))
    ↔ (o ≢ Some v)
changed_from o true true e = ((λ t. absurd (cc)), (λ other. absurd (other e)))
changed_from o true false e = ((λ _ f. absurd (cc)), (λ _. refl))
changed_from o false true e = ((λ _ f. absurd (cc)), (λ _. refl))
changed_from o false false e = ((λ t. absurd (cc)), (λ other. absurd (other e)))
