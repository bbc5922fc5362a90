-- The bits of a list as the places of one block.
use Rattle.std.specs.Prelude.{All}
use Rattle.std.proofs.Common.{◌≡◌, ℕ, zero, suc, ◌≤◌, ◌+◌, ◌^◌, ◌<◌, Bool, true, false, ◌&&◌, List, [], ◌∷◌}
use Rattle.std.proofs.Common.{take, drop, ltb, refl, sym, ap, ◌∙◌, arith, inl, inr, one-mul}
use Rattle.std.proofs.lemmas.Bool.{cases_lt, lt-ltb, le-ltb}
use Rattle.std.proofs.lemmas.List.{get_or-drop, get_or-take, get_or_past, length-take}
use Rattle.std.proofs.lemmas.Nat.{le-div}
use Rattle.vob_block.specs.Packing.{item, bit_at, packing, IsCanonical}
use Rattle.vob_block.specs.Places.{place, HasPlaces}
use Rattle.vob_block.proofs.NeedLemmas.{need_is}
use Rattle.vob_block.proofs.PackingLemmas.{bit_at-past}
use Rattle.vob_block.proofs.PackingLemmas.{bit-in_blocks}

and-true : (b : Bool) → (b && true) ≡ b
and-true true = refl
and-true false = refl

and-false : (b : Bool) → (b && false) ≡ false
and-false true = refl
and-false false = refl

-- the bits from an index on, masked to the first n
pub loaded : (w : ℕ) → 0 < w → (bits : List Bool) (xs : List ℕ) → xs ≡ packing bits w
    → (start n x y z : ℕ) → HasPlaces w x (λ j. bit_at xs w (start + j))
    → HasPlaces w y (λ j. ltb j n) → HasPlaces w z (λ j. place j x && place j y)
    → HasPlaces w z (item (take n (drop start bits)))
loaded w wide bits xs blocks start n x y z all mask both = record {
  each = λ j below. both.each j below ∙ elim (cases_lt j n) [
    | inl less ↦ ap (λ b. place j x && b) (mask.each j below ∙ lt-ltb j n less)
        ∙ and-true (place j x) ∙ all.each j below ∙ bit-in_blocks w wide bits xs blocks (start + j)
        ∙ sym (get_or-drop start bits j false) ∙ sym (get_or-take n (drop start bits) j false less)
    | inr past ↦ ap (λ b. place j x && b) (mask.each j below ∙ le-ltb j n past)
        ∙ and-false (place j x)
        ∙ sym (get_or_past (take n (drop start bits)) j false
        (omega (arith, past, length-take n (drop start bits))))
  ];
}

-- so each of these places is the bit there
pub loaded_each : (w : ℕ) (bits : List Bool) (start n z : ℕ) → n ≤ w
    → HasPlaces w z (item (take n (drop start bits))) → (j : ℕ) → j < n
    → place j z ≡ item bits (start + j)
loaded_each w bits start n z few all j less = all.each j (omega (arith, less, few))
    ∙ get_or-take n (drop start bits) j false less ∙ get_or-drop start bits j false

-- a block stores as many bits as it has places
pub one_canonical : (w : ℕ) → 0 < w → (x : ℕ) → x < 2 ^ w → IsCanonical w (x ∷ []) w
one_canonical w wide x small = record {
  count = sym (need_is w wide w 1 (omega (arith, one-mul w)) (omega (arith, one-mul w, wide)));
  within = within_one;
  unused = λ i past. bit_at-past (x ∷ []) w i (le-div 1 i w wide (omega (arith, past, one-mul w)));
}
  where
    within_one : All (λ y. y < 2 ^ w) (x ∷ [])
    within_one zero d h = small
    within_one (suc k) d h = absurd (omega arith)
