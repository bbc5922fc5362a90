-- Blocks combined one after another: how many places are true so far, and whether one is.
use Rattle.std.specs.Prelude.{Some, slice_get}
use Rattle.std.specs.List.{range_with_len}
use Rattle.std.proofs.Common.{◌≡◌, ◌↔◌, ℕ, zero, suc, ◌+◌, ◌-◌, ◌*◌, ◌/◌, ◌%◌, ◌^◌, ◌<◌, ◌≤◌, Bool}
use Rattle.std.proofs.Common.{◌||◌, cond, List, All, length, map, get_or, count_by, refl, sym, ap}
use Rattle.std.proofs.Common.{◌∙◌, subst, arith, inl, inr, add-mul, mod-lt, div-add-mod'}
use Rattle.std.proofs.lemmas.Bool.{cases_eq}
use Rattle.std.proofs.lemmas.List.{ext_get_or, get_or-map}
use Rattle.std.proofs.lemmas.List.Elements.{All-get_or}
use Rattle.std.proofs.lemmas.List.Sums.{sum_by-cons}
use Rattle.std.proofs.lemmas.Nat.{div-mul-add, mul-le, pow_pos}
use Rattle.vob_block.specs.Places.{place, HasPlaces, true_places}
use Rattle.vob_block.specs.Packing.{bit_at}
use Rattle.vob_block.specs.Pointwise.{differ}
use Rattle.vob_block.proofs.BoolLemmas.{same_from_differ, differ-same}
use Rattle.vob_block.proofs.KernelLemmas.{or-zero, zero-or}
use Rattle.vob_block.proofs.NumberLemmas.{number_read}
use Rattle.vob_block.proofs.PackingLemmas.{bit_at-in_block}
use Rattle.vob_block.proofs.PlaceLemmas.{same_from_places, place-zero}
use Rattle.vob_store.specs.Combined.{combined_bit, ones_combined, HaveNone}

-- ---- how many numbers of a stretch a test holds of

pub count-along : (p q : ℕ → Bool) (a b n : ℕ) → ((i : ℕ) → i < n → p (a + i) ≡ q (b + i))
    → count_by p (range_with_len a n) ≡ count_by q (range_with_len b n)
count-along p q a b zero same = refl
count-along p q a b (suc n) same =
    let here : p a ≡ q b = ap p (omega arith) ∙ same 0 (omega arith) ∙ ap q (omega arith) in
    let rest = count-along p q (a + 1) (b + 1) n (λ i less.
    let mine : a + 1 + i ≡ a + suc i = omega arith in
    let its : b + 1 + i ≡ b + suc i = omega arith in
    ap p mine ∙ same (suc i) (omega arith) ∙ ap q (sym its)) in
    sum_by-cons (λ i. cond (p i) 1 0) a (range_with_len (a + 1) n)
    ∙ ap (λ v. cond v 1 0 + count_by p (range_with_len (a + 1) n)) here
    ∙ ap (λ m. cond (q b) 1 0 + m) rest
    ∙ sym (sum_by-cons (λ i. cond (q i) 1 0) b (range_with_len (b + 1) n))

pub count-split : (p : ℕ → Bool) (a n m : ℕ) → count_by p (range_with_len a (n + m))
    ≡ count_by p (range_with_len a n) + count_by p (range_with_len (a + n) m)
count-split p a zero m =
    let all : 0 + m ≡ m = omega arith in
    let here : a ≡ a + 0 = omega arith in
    let same : count_by p (range_with_len a (0 + m)) ≡ count_by p (range_with_len (a + 0) m) =
    ap (λ n. count_by p (range_with_len a n)) all
    ∙ ap (λ k. count_by p (range_with_len k m)) here in
    omega (arith, same)
count-split p a (suc n) m =
    let more : suc n + m ≡ suc (n + m) = omega arith in
    let there : a + 1 + n ≡ a + suc n = omega arith in
    let first : count_by p (range_with_len a (suc n + m))
    ≡ cond (p a) 1 0 + count_by p (range_with_len (a + 1) (n + m)) =
    ap (λ k. count_by p (range_with_len a k)) more
    ∙ sum_by-cons (λ i. cond (p i) 1 0) a (range_with_len (a + 1) (n + m)) in
    let last : count_by p (range_with_len (a + 1 + n) m)
    ≡ count_by p (range_with_len (a + suc n) m) =
    ap (λ k. count_by p (range_with_len k m)) there in
    let part : count_by p (range_with_len a (suc n))
    ≡ cond (p a) 1 0 + count_by p (range_with_len (a + 1) n) =
    sum_by-cons (λ i. cond (p i) 1 0) a (range_with_len (a + 1) n) in
    omega (arith, first, count-split p (a + 1) n m, last, part)

module _ (f : Bool → Bool → Bool) (w : ℕ) (xs ys : List ℕ) where
  -- z has the places of block k of both combined
  pub record IsBlock (k z : ℕ) : Type 0 where
    pub each : (j : ℕ) → j < w → combined_bit f w xs ys (k * w + j) ≡ place j z

  -- ---- how many

  pub ones_combined-none : ones_combined f w xs ys 0 ≡ 0
  unfolding ones_combined
  ones_combined-none =
      let nothing : 0 * w ≡ 0 = omega arith in
      ap (λ n. count_by (combined_bit f w xs ys) (range_with_len 0 n)) nothing

  -- one block more
  pub ones_combined-more : (k z : ℕ) → IsBlock k z
      → ones_combined f w xs ys (k + 1) ≡ ones_combined f w xs ys k + true_places w z
  unfolding ones_combined true_places
  ones_combined-more k z here =
      let p = combined_bit f w xs ys in
      let whole : (k + 1) * w ≡ k * w + w = omega (arith, add-mul k 1 w) in
      let block : count_by p (range_with_len (0 + k * w) w)
      ≡ count_by (λ j. place j z) (range_with_len 0 w) =
      count-along p (λ j. place j z) (0 + k * w) 0 w (λ j less.
      let at : 0 + k * w + j ≡ k * w + j = omega arith in
      let there : j ≡ 0 + j = omega arith in
      ap p at ∙ here.each j less ∙ ap (λ i. place i z) there) in
      ap (λ n. count_by p (range_with_len 0 n)) whole ∙ count-split p 0 (k * w) w
      ∙ ap (λ n. count_by p (range_with_len 0 (k * w)) + n) block

  -- more blocks have no fewer
  pub ones_combined-le : (k m : ℕ) → k ≤ m → ones_combined f w xs ys k ≤ ones_combined f w xs ys m
  unfolding ones_combined
  ones_combined-le k m h =
      let p = combined_bit f w xs ys in
      let fewer : k * w ≤ m * w = mul-le k w m w h (omega arith) in
      let parts : m * w ≡ k * w + (m * w - k * w) = omega arith in
      let whole : count_by p (range_with_len 0 (m * w))
      ≡ count_by p (range_with_len 0 (k * w + (m * w - k * w))) =
      ap (λ n. count_by p (range_with_len 0 n)) parts in
      omega (arith, whole, count-split p 0 (k * w) (m * w - k * w))

  -- ---- whether there is one

  -- a block more that has none
  pub HaveNone-next : 0 < w → (from k z : ℕ) → IsBlock k z → HaveNone f w from k xs ys → z ≡ 0
      → HaveNone f w from (k + 1) xs ys
  HaveNone-next wide from k z here h none i above below = elim (cases_eq (i / w) k) [
    | inl at ↦
        let whole : k * w + i % w ≡ i = ap (λ q. q * w + i % w) (sym at) ∙ div-add-mod' i w in
        ap (combined_bit f w xs ys) (sym whole) ∙ here.each (i % w) (mod-lt i wide)
        ∙ ap (place (i % w)) none ∙ place-zero (i % w)
    | inr other ↦ h i above (omega arith)
  ]

  -- blocks from one on, combined and gathered in a block that is 0 exactly where they have none
  pub record IsFound (from k found : ℕ) : Type 0 where
    pub small : found < 2 ^ w
    pub none : found ≡ 0 → HaveNone f w from k xs ys
    pub zero : HaveNone f w from k xs ys → found ≡ 0

  pub IsFound-start : (from found : ℕ) → found ≡ 0 → IsFound from from found
  IsFound-start from found e = record {
    small = subst (λ (x : ℕ). x < 2 ^ w) (sym e) (pow_pos w);
    none = λ _ i above below. absurd (omega arith);
    zero = λ _. e;
  }

  module _ (from k found z after : ℕ) (h : IsFound from k found) (order : from ≤ k)
      (here : IsBlock k z) (z-in : z < 2 ^ w) (after-in : after < 2 ^ w)
      (packed : HasPlaces w after (λ j. place j found || place j z)) where
    none_more : 0 < w → after ≡ 0 → HaveNone f w from (k + 1) xs ys
    none_more wide e i above below =
        let parts = or-zero w found z after h.small z-in packed e in
        HaveNone-next wide from k z here (h.none parts.0) parts.1 i above below

    zero_more : HaveNone f w from (k + 1) xs ys → after ≡ 0
    zero_more all =
        let earlier = h.zero (λ i above below. all i above (omega arith)) in
        let this : z ≡ 0 = same_from_places w z 0 z-in (pow_pos w) (λ j less.
        let at : (k * w + j) / w ≡ k = div-mul-add k w j less in
        sym (here.each j less)
        ∙ all (k * w + j) (omega (arith, at, order)) (omega (arith, at)) ∙ sym (place-zero j)) in
        zero-or w found z after after-in packed earlier this

    pub IsFound-more : 0 < w → IsFound from (k + 1) after
    IsFound-more wide = record { small = after-in; none = none_more wide; zero = zero_more }

  -- one block alone
  pub HaveNone-alone : 0 < w → (z : ℕ) → IsBlock 0 z → z < 2 ^ w
      → (z ≡ 0) ↔ HaveNone f w 0 1 xs ys
  HaveNone-alone wide z here z-in =
      let packed : HasPlaces w z (λ j. place j 0 || place j z) =
      record { each = λ j _. sym (ap (λ b. b || place j z) (place-zero j)) } in
      let found = IsFound-more 0 0 0 z z (IsFound-start 0 0 refl) (omega arith) here z-in z-in
      packed wide in
      (found.none, found.zero)

-- the block that two read make
module _ {X : Type 0} (number : X → ℕ) (f : Bool → Bool → Bool) (w : ℕ) (own others : List X) where
  pub IsBlock-read : (k : ℕ) (x y : X) (z : ℕ) → x ≡ get_or own k x → k < length own
      → slice_get others k ≡ Some y → HasPlaces w z (λ j. f (place j (number x)) (place j (number y)))
      → IsBlock f w (map number own) (map number others) k z
  IsBlock-read k x y z is inside its places = record {
    each = λ j less. ap (λ b. f b (bit_at (map number others) w (k * w + j)))
        (bit_at-in_block (map number own) w k j less
        ∙ ap (place j) (get_or-map number own k x 0 inside ∙ ap number (sym is)))
        ∙ ap (f (place j (number x))) (bit_at-in_block (map number others) w k j less
        ∙ ap (place j) (sym (number_read number others k y its)))
        ∙ sym (places.each j less);
  }

-- no place differs exactly if the blocks are the same
module _ (w : ℕ) (wide : 0 < w) (xs ys : List ℕ) (same : length xs ≡ length ys)
    (mine : All (λ x. x < 2 ^ w) xs) (theirs : All (λ y. y < 2 ^ w) ys) where
  pub HaveNone-differ : HaveNone differ w 0 (length xs) xs ys ↔ (xs ≡ ys)
  HaveNone-differ = (
    λ none. ext_get_or 0 xs ys same (λ k inside.
        same_from_places w (get_or xs k 0) (get_or ys k 0)
        (All-get_or (λ x. x < 2 ^ w) xs k 0 inside mine)
        (All-get_or (λ y. y < 2 ^ w) ys k 0 (omega (arith, same)) theirs) (λ j less.
        let at : (k * w + j) / w ≡ k = div-mul-add k w j less in
        same_from_differ (place j (get_or xs k 0)) (place j (get_or ys k 0))
        (sym (ap (λ b. differ b (bit_at ys w (k * w + j))) (bit_at-in_block xs w k j less)
        ∙ ap (differ (place j (get_or xs k 0))) (bit_at-in_block ys w k j less))
        ∙ none (k * w + j) (omega arith) (omega (arith, at))))),
    λ e i above below. ap (λ zs. differ (bit_at xs w i) (bit_at zs w i)) (sym e)
        ∙ differ-same (bit_at xs w i),
  )
