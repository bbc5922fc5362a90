-- The true bit of a rank, over the blocks and within one of them.
use Rattle.std.specs.List.{range_with_len}
use Rattle.std.proofs.Common.{◌≡◌, ℕ, ◌+◌, ◌-◌, ◌*◌, ◌<◌, ◌≤◌, true, ◌&&◌, nat_lt, cond, List, length, get_or, refl, sym, ap, ◌∙◌, arith, inl, inr, count_by}
use Rattle.std.proofs.lemmas.Bool.{cases_Bool, and_from, and_parts, lt-ltb, ltb-true}
use Rattle.std.proofs.lemmas.List.Sums.{sum_by_push, length-filter}
use Rattle.vob_block.specs.Places.{place, HasPlaces, true_places}
use Rattle.vob_block.specs.Packing.{bit_at}
use Rattle.vob_block.proofs.PackingLemmas.{bit_at-in_block}
use Rattle.vob_block.proofs.ValueLemmas.{range-more}
use Rattle.vob_walk.specs.Count.{ones_between}
use Rattle.vob_walk.specs.Select.{HasRank}
use Rattle.vob_walk.specs.Cursor.{indices_where}
use Rattle.vob_walk.proofs.WhereLemmas.{indices_where-alike}
use Rattle.vob_walk.proofs.CountLemmas.{ones-part, ones-more, ones-split}

-- ---- the true places below one

pub true_places-more : (n x : ℕ) → true_places (n + 1) x
    ≡ true_places n x + cond (place n x) 1 0
unfolding true_places
true_places-more n x = ap (count_by (λ j. place j x)) (range-more n)
    ∙ sum_by_push (λ j. cond (place j x) 1 0) (range_with_len 0 n) n

pub true_places-none : (x : ℕ) → true_places 0 x ≡ 0
unfolding true_places
true_places-none x = refl

true_places-indices : (n x : ℕ) → true_places n x ≡ length (indices_where (λ j. place j x) 0 n)
unfolding true_places
true_places-indices n x = sym (length-filter (λ j. place j x) (range_with_len 0 n))

-- the places below n, and no others
pub true_places-masked : (w n x mask y : ℕ) → n ≤ w → HasPlaces w mask (λ j. nat_lt j n)
    → HasPlaces w y (λ j. place j x && place j mask) → true_places w y ≡ true_places n x
true_places-masked w n x mask y order below both =
    true_places-indices w y
    ∙ ap length (indices_where-alike (λ j. place j y) (λ j. place j x) 0 w 0 n
    (λ j from inside holds.
    let parts = and_parts (place j x) (place j mask) (sym (both.each j (omega arith)) ∙ holds) in
    let less = ltb-true j n (sym (below.each j (omega arith)) ∙ parts.1) in
    (omega arith, omega arith, parts.0))
    (λ j from inside holds. (
      omega arith,
      omega arith,
      both.each j (omega arith) ∙ and_from (place j x) (place j mask) holds
          (below.each j (omega arith) ∙ lt-ltb j n (omega arith)),
    )))
    ∙ sym (true_places-indices n x)

-- between two neighbours that the rank parts stands its place
pub place_between : (x low high rank : ℕ) → low < high → high - low ≤ 1
    → true_places low x ≤ rank → rank < true_places high x
    → (place low x ≡ true) × (true_places low x ≡ rank)
place_between x low high rank some few least most =
    let next : high ≡ low + 1 = omega arith in
    let more = ap (λ n. true_places n x) next ∙ true_places-more low x in
    elim (cases_Bool (place low x)) [
      | inl t ↦ (t, omega (arith, ap {B = ℕ} (λ b. cond b 1 0) t))
      | inr f ↦ absurd (omega (arith, ap {B = ℕ} (λ b. cond b 1 0) f))
    ]

-- ---- the true bits below one

module _ (w : ℕ) (xs : List ℕ) (k x : ℕ) (read : x ≡ get_or xs k 0) where
  bit_at-place : (j : ℕ) → j < w → place j x ≡ true → bit_at xs w (k * w + j) ≡ true
  bit_at-place j inside there =
      bit_at-in_block xs w k j inside ∙ ap (place j) (sym read) ∙ there

  -- one block more
  pub ones-whole : ones_between w xs 0 ((k + 1) * w)
      ≡ ones_between w xs 0 (k * w) + true_places w x
  ones-whole =
      let none : 0 * w ≡ 0 = omega arith in
      ap (λ n. ones_between w xs n ((k + 1) * w)) (sym none)
      ∙ ones-more w xs 0 k x (omega arith) read
      ∙ ap (λ n. ones_between w xs n (k * w) + true_places w x) none

  module _ {rank left j : ℕ} (before : ones_between w xs 0 (k * w) + left ≡ rank)
      (inside : j < w) (there : place j x ≡ true) (ones : true_places j x ≡ left) where
    pub HasRank-place : HasRank w xs rank (k * w + j)
    HasRank-place = record {
      there = bit_at-place j inside there;
      below = omega (
        arith,
        ones-split w xs 0 (k * w) (k * w + j) (omega arith) (omega arith),
        ones-part w xs k x read j (omega arith),
      );
    }
