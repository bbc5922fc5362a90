-- Sets with each bit negated, and how many places they have.
use Rattle.std.proofs.Common.{◌≡◌, ◌↔◌, ℕ, suc, ◌+◌, ◌*◌, ◌<◌, Bool, true, false, not, inl, inr, List, [], ◌∷◌, length, get_or, map, set, refl, sym, ap, ◌∙◌, arith}
use Rattle.std.proofs.lemmas.Bool.{cases_lt, false≢true}
use Rattle.std.proofs.lemmas.List.{ext_get_or, get_or-map, get_or_past, length-map}
use Rattle.std.proofs.lemmas.List.Sums.{sum_by-cons}
use Rattle.vob_block.specs.Packing.{item}
use Rattle.vob.specs.Bits.{count_of, one_of}
use Rattle.vob.specs.Vobs.{AreOfLength, total_count}
use Rattle.vob.proofs.BitsLemmas.{count_cons}
use Rattle.vob.proofs.VobsLemmas.{of_length_at}
use Rattle.vob_flow.specs.Changes.{Becomes, EachBecomes, IsOut}
use Rattle.vob_flow.specs.Draws.{HaveShape, IsIn}
use Rattle.vob_flow.proofs.ChangesLemmas.{Becomes-row}

-- each set negated
abbrev pub negated : List (List Bool) → List (List Bool)
negated sets = map (λ bits. map not bits) sets

pub row_negated : (sets : List (List Bool)) (n : ℕ) → n < length sets →
    get_or (negated sets) n [] ≡ map not (get_or sets n [])
row_negated sets n less = get_or-map (λ bits. map not bits) sets n [] [] less

pub negated_shape : (sets : List (List Bool)) → HaveShape sets (negated sets)
negated_shape sets = record {
  count = length-map sets (λ bits. map not bits);
  long = λ n. elim (cases_lt n (length sets)) [
    | inl less ↦ ap length (row_negated sets n less) ∙ length-map (get_or sets n []) not
    | inr past ↦ ap length (get_or_past (negated sets) n []
        (omega (arith, past, length-map sets (λ bits. map not bits))) ∙ sym (get_or_past sets n [] past))
  ];
}

not_means : (b : Bool) → (not b ≡ true) ↔ (b ≡ false)
not_means true = ((λ e. absurd (false≢true e)), (λ e. absurd (false≢true (sym e))))
not_means false = ((λ e. refl), (λ e. refl))

-- what is in a negated set isn't in the set
pub in_negated : (places : ℕ) (sets : List (List Bool)) → AreOfLength places sets → (n v : ℕ) →
    n < length sets → v < places → IsIn (negated sets) n v ↔ (item (get_or sets n []) v ≡ false)
in_negated places sets long n v less small =
    let row = get_or sets n [] in
    let inside : v < length row = omega (arith, small, of_length_at places sets n [] long less) in
    let at : item (get_or (negated sets) n []) v ≡ not (item row v) =
    ap (λ (xs : List Bool). item xs v) (row_negated sets n less) ∙ get_or-map not row v false false inside in
    rw at (not_means (item row v))

not_of : (a b : Bool) → (a ≡ true) ↔ (b ≡ false) → a ≡ not b
not_of true b same = sym (ap not (same.0 refl))
not_of false true same = refl
not_of false false same = absurd (false≢true (same.1 refl))

-- one set negated
pub Becomes-negated : {sets after : List (List Bool)} (n : ℕ) → n < length sets
    → after ≡ set sets n (map not (get_or sets n [])) → Becomes sets n (IsOut sets n) after
Becomes-negated {sets} n inside put =
    let row = get_or sets n [] in
    Becomes-row n _ (map not row) inside put (length-map row not)
    (λ v less. rw (get_or-map not row v false false less) (not_means (item row v)))

-- sets that become what isn't in them
pub negated_whole : (lacks sets : List (List Bool)) → EachBecomes lacks (IsOut lacks) sets (length lacks) →
    sets ≡ negated lacks
negated_whole lacks sets h =
    ext_get_or [] sets (negated lacks) (h.shape.count ∙ sym (negated_shape lacks).count) (λ n less.
    let low : n < length lacks = omega (arith, less, h.shape.count) in
    let row = get_or lacks n [] in
    ext_get_or false (get_or sets n []) (map not row) (h.shape.long n ∙ sym (length-map row not))
    (λ i inside.
    let within : i < length row = omega (arith, inside, h.shape.long n) in
    not_of _ _ (h.below n i low within) ∙ sym (get_or-map not row i false false within))
    ∙ sym (row_negated lacks n low))

-- two lists are one if they are one negated
same_not : (a b : Bool) → not a ≡ not b → a ≡ b
same_not true true e = refl
same_not true false e = absurd (false≢true e)
same_not false true e = absurd (false≢true (sym e))
same_not false false e = refl

same_row : (bits others : List Bool) → map not bits ≡ map not others → bits ≡ others
same_row bits others e =
    let count = sym (length-map bits not) ∙ ap length e ∙ length-map others not in
    ext_get_or false bits others count (λ i less. same_not (item bits i) (item others i)
    (sym (get_or-map not bits i false false less) ∙ ap (λ (xs : List Bool). item xs i) e
    ∙ get_or-map not others i false false (omega (arith, less, count))))

pub same_sets : (sets others : List (List Bool)) → negated sets ≡ negated others → sets ≡ others
same_sets sets others e =
    let count = sym (negated_shape sets).count ∙ ap length e ∙ (negated_shape others).count in
    ext_get_or [] sets others count (λ n less. same_row (get_or sets n []) (get_or others n [])
    (sym (row_negated sets n less) ∙ ap (λ (xs : List (List Bool)). get_or xs n []) e
    ∙ row_negated others n (omega (arith, less, count))))

-- ---- counts

one_negated : (b : Bool) → one_of true b + one_of true (not b) ≡ 1
one_negated true = refl
one_negated false = refl

count_negated : (bits : List Bool) → count_of true bits + count_of true (map not bits) ≡ length bits
count_negated [] = refl
count_negated (b ∷ bits) =
    omega (arith, count_cons true b bits, count_cons true (not b) (map not bits), one_negated b, count_negated bits)

-- what sets have, and what they have negated, is all places
pub total_negated : (places : ℕ) (lists : List (List Bool)) → AreOfLength places lists →
    total_count lists + total_count (negated lists) ≡ length lists * places
total_negated places [] long = omega arith
total_negated places (bits ∷ lists) long =
    let rest = total_negated places lists (λ k d inside. long (suc k) d (omega (arith, inside))) in
    let more : (1 + length lists) * places ≡ places + length lists * places = grind arith in
    omega (
      arith,
      sum_by-cons (count_of true) bits lists,
      sum_by-cons (count_of true) (map not bits) (negated lists),
      count_negated bits,
      long 0 [] (omega arith),
      rest,
      more,
    )
