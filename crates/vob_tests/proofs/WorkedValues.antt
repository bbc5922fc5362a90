-- Values of the definitions, worked out by hand and then by computation.
use Rattle.std.specs.declared.ops.Bound.TheVariants.{Included, Excluded}
use Rattle.std.proofs.Common.{◌≡◌, ℕ, zero, suc, ◌-◌, ◌/◌, ◌%◌, ◌^◌, ◌<◌, ◌≤◌, Bool, true, false}
use Rattle.std.proofs.Common.{List, [], ◌∷◌, get_or, refl, sym, ap, ◌∙◌, inl, inr, arith, lit<}
use Rattle.std.proofs.Common.{lit≤}
use Rattle.std.proofs.lemmas.Bool.{cases_lt, false≢true}
use Rattle.std.proofs.lemmas.List.{get_or_past}
use Rattle.vob_block.proofs.PlaceLemmas.{place_above, place-zero}
use Rattle.vob_block.specs.Places.{place, value}
use Rattle.vob_block.specs.Packing.{need, packing, bit_at, unpacking, IsCanonical}
use Rattle.vob.specs.Drain.{bits_where, bits_within, bits_outside}

abbrev bits-101 : List Bool
bits-101 = true ∷ false ∷ true ∷ []

abbrev nine_true : List Bool
nine_true = true ∷ true ∷ true ∷ true ∷ true ∷ true ∷ true ∷ true ∷ true ∷ []

abbrev bits-1011011101 : List Bool
bits-1011011101 = true ∷ false ∷ true ∷ true ∷ false ∷ true ∷ true ∷ true ∷ false ∷ true ∷ []

-- ---- places

place-2-of-5 : place 2 5 ≡ true
place-2-of-5 = refl

place-1-of-5 : place 1 5 ≡ false
place-1-of-5 = refl

value-of-places-0-and-2 : value 8 (λ j. bit_at (5 ∷ []) 8 j) ≡ 5
unfolding value bit_at
value-of-places-0-and-2 = refl

-- ---- how many blocks

need-0 : need 0 8 ≡ 0
unfolding need
need-0 = refl

need-8 : need 8 8 ≡ 1
unfolding need
need-8 = refl

need-9 : need 9 8 ≡ 2
unfolding need
need-9 = refl

need-greatest-64 : need (2 ^ 64 - 1) 64 ≡ 2 ^ 58
unfolding need
need-greatest-64 = refl

need-greatest-128 : need (2 ^ 64 - 1) 128 ≡ 2 ^ 57
unfolding need
need-greatest-128 = refl

-- ---- blocks of bits

packing-101 : packing bits-101 8 ≡ 5 ∷ []
unfolding packing need value
packing-101 = refl

packing-nine_true : packing nine_true 8 ≡ 255 ∷ 1 ∷ []
unfolding packing need value
packing-nine_true = refl

packing-1011011101 : packing bits-1011011101 8 ≡ 237 ∷ 2 ∷ []
unfolding packing need value
packing-1011011101 = refl

packing-nine_true-16 : packing nine_true 16 ≡ 511 ∷ []
unfolding packing need value
packing-nine_true-16 = refl

packing-101-64 : packing bits-101 64 ≡ 5 ∷ []
unfolding packing need value
packing-101-64 = refl

packing-101-128 : packing bits-101 128 ≡ 5 ∷ []
unfolding packing need value
packing-101-128 = refl

packing-none : packing [] 8 ≡ []
unfolding packing need value
packing-none = refl

-- ---- bits of blocks

unpacking-101 : unpacking 3 (5 ∷ []) 8 ≡ bits-101
unfolding unpacking bit_at
unpacking-101 = refl

unpacking-1011011101 : unpacking 10 (237 ∷ 2 ∷ []) 8 ≡ bits-1011011101
unfolding unpacking bit_at
unpacking-1011011101 = refl

-- ---- the one way to store a list of bits

-- bits from 9 on stand above place 0 of block 1, or in no block
unused-nine_true : (i : ℕ) → 9 ≤ i → bit_at (255 ∷ 1 ∷ []) 8 i ≡ false
unfolding bit_at
unused-nine_true i above = elim (cases_lt i 16) [
  | inl last ↦
      let block : i / 8 ≡ 1 = omega arith in
      let high : 1 ≤ i % 8 = omega arith in
      ap (λ (k : ℕ). place (i % 8) (get_or (255 ∷ 1 ∷ []) k 0)) block
      ∙ place_above 1 1 (i % 8) (lit< tt) high
  | inr past ↦
      let none : 2 ≤ i / 8 = omega arith in
      ap (place (i % 8)) (get_or_past (255 ∷ 1 ∷ []) (i / 8) 0 none) ∙ place-zero (i % 8)
]

within-nine_true : (k d : ℕ) → k < 2 → get_or (255 ∷ 1 ∷ []) k d < 256
within-nine_true zero d h = lit< tt
within-nine_true (suc zero) d h = lit< tt
within-nine_true (suc (suc k)) d h = absurd (omega arith)

canonical-nine_true : IsCanonical 9 (255 ∷ 1 ∷ []) 8
unfolding need
canonical-nine_true = record { count = refl; within = within-nine_true; unused = unused-nine_true }

-- place 1 of the last block is true, and only 9 bits are asked for
not_canonical-unused_bit : IsCanonical 9 (255 ∷ 2 ∷ []) 8 → ⊥
unfolding bit_at
not_canonical-unused_bit c = false≢true (sym (c.unused 9 (lit≤ tt)))

not_canonical-13 : IsCanonical 3 (13 ∷ []) 8 → ⊥
unfolding bit_at
not_canonical-13 c = false≢true (sym (c.unused 3 (lit≤ tt)))

-- a block too many, and one too few
not_canonical-too_many : IsCanonical 3 (5 ∷ 0 ∷ []) 8 → ⊥
unfolding need
not_canonical-too_many c = omega (arith, c.count)

not_canonical-too_few : IsCanonical 9 (1 ∷ []) 8 → ⊥
unfolding need
not_canonical-too_few c = omega (arith, c.count)

-- ---- a range taken out

taken-2-to-5 : bits_within (Included 2) (Excluded 5) bits-1011011101 ≡ true ∷ true ∷ false ∷ []
unfolding bits_where
taken-2-to-5 = refl

left-2-to-5 : bits_outside (Included 2) (Excluded 5) bits-1011011101
    ≡ true ∷ false ∷ true ∷ true ∷ true ∷ false ∷ true ∷ []
unfolding bits_where
left-2-to-5 = refl

taken-above-8 : bits_within (Excluded 8) (Included (2 ^ 64 - 1)) bits-1011011101 ≡ true ∷ []
unfolding bits_where
taken-above-8 = refl

taken-3-to-1 : bits_within (Included 3) (Excluded 1) bits-1011011101 ≡ []
unfolding bits_where
taken-3-to-1 = refl
