-- A read of canonical storage, whose blocks are items of a type X with a number each.
use Rattle.std.specs.Prelude.{Some, None, slice_get}
use Rattle.std.proofs.Common.{◌≡◌, ℕ, ◌*◌, ◌/◌, ◌%◌, ◌^◌, ◌-◌, ◌<◌, ◌≤◌, Bool, false, [], min, List, length, map, get_or, refl, sym, ap, ◌∙◌, arith}
use Rattle.std.proofs.lemmas.List.{get_or-map, length-map}
use Rattle.std.proofs.lemmas.Option.{slice_get-get_or, slice_get_past}
use Rattle.std.proofs.lemmas.Nat.{mul-le, div_below}
use Rattle.vob_block.specs.Places.{place}
use Rattle.vob_block.specs.Packing.{need, bit_at, unpacking, IsCanonical}
use Rattle.vob_block.proofs.NeedLemmas.{need_enough, need-zero}
use Rattle.vob_block.proofs.PackingLemmas.{bit_at-is_place, bit_at-past, length-unpacking, get_or-unpacking}

-- the blocks of so many bits have room for fewer
pub room_of : {X : Type 0} (number : X → ℕ) (w : ℕ) → 0 < w → (n stop : ℕ) (items : List X)
    → IsCanonical n (map number items) w → stop ≤ n → stop ≤ length items * w
room_of number w wide n stop items h inside =
    let rooms : need n w * w ≡ length items * w = ap (λ k. k * w)
    (sym h.count ∙ length-map items number) in
    omega (arith, rooms, need_enough w wide n, inside)

-- a bit of blocks is that of the list which they store
pub stored-bit : (n : ℕ) (xs : List ℕ) (w i : ℕ) {b : Bool} → i < n → b ≡ bit_at xs w i
    → slice_get (unpacking n xs w) i ≡ Some b
stored-bit n xs w i inside is = slice_get-get_or (unpacking n xs w) i false
    (omega (arith, length-unpacking n xs w)) ∙ ap Some (get_or-unpacking n xs w i false inside ∙ sym is)

-- so many bits have room in the blocks that there is room for
pub length-le-room : (w : ℕ) → 0 < w → (n blocks capacity : ℕ) → blocks ≡ need n w
    → blocks ≤ capacity → n < 2 ^ 64 → n ≤ min (capacity * w) (2 ^ 64 - 1)
length-le-room w wide n blocks capacity count held fits =
    let rooms : need n w * w ≤ capacity * w =
    mul-le (need n w) w capacity w (omega arith) (omega arith) in
    omega (arith, need_enough w wide n, rooms)

-- no bits are canonical where there are no blocks
pub canonical_nothing : (w : ℕ) → 0 < w → IsCanonical 0 [] w
canonical_nothing w wide = record {
  count = sym (need-zero w wide);
  within = λ k d h. absurd (omega arith);
  unused = λ i h. bit_at-past [] w i (omega arith);
}

pub unpacking-zero : (xs : List ℕ) (w : ℕ) → unpacking 0 xs w ≡ []
unfolding unpacking
unpacking-zero xs w = refl

pub past_unpacking : (n : ℕ) (xs : List ℕ) (w i : ℕ) → n ≤ i → slice_get (unpacking n xs w) i ≡ None
past_unpacking n xs w i h = slice_get_past (unpacking n xs w) i
    (omega (arith, length-unpacking n xs w))

-- a bit of some items with a number each; u is the width as the code read it
module _ {X : Type 0} (number : X → ℕ) (w : ℕ) (wide : 0 < w) (items : List X) (i u : ℕ)
    (same : u ≡ w) (inside : i < length items * w) where
  pub block_there : i / u < length items
  block_there = rw same (div_below i w (length items) wide inside)

  pub bit_is_at_place : (x : X) (b : Bool) → x ≡ get_or items (i / u) x → b
      ≡ place (i % u) (number x) → b ≡ bit_at (map number items) w i
  bit_is_at_place x b read tested =
      let xs = map number items in
      let block : number x ≡ get_or xs (i / u) 0 =
      ap number read ∙ sym (get_or-map number items (i / u) x 0 block_there) in
      tested ∙ ap (place (i % u)) block ∙ ap (λ k. place (i % k) (get_or xs (i / k) 0)) same
      ∙ sym (bit_at-is_place xs w i)
