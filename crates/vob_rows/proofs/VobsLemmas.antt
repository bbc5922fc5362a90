-- Rows that get the bits of Vobs, or bits at some indices, one after another.
use Rattle.std.proofs.Common.{◌≡◌, ◌||◌, ℕ, ◌+◌, ◌<◌, ◌≤◌, Bool, true, false, inl, inr, List, [], ◌∷◌, ◌++◌, length, get_or, set, replicate, take, refl, sym, ap, ◌∙◌, arith}
use Rattle.std.proofs.lemmas.Bool.{cases_eq}
use Rattle.std.proofs.lemmas.List.{ext_get_or, get_or-replicate, get_or-set_other, get_or-set_same, length-map, length-replicate, length-set, length-take-le, set-set, take_more}
use Rattle.std.proofs.lemmas.List.Elements.{Contains-append_left, Contains-push, Contains-push_cases}
use Rattle.vob_block.specs.Packing.{item}
use Rattle.vob_block.specs.Pointwise.{pointwise}
use Rattle.vob_block.proofs.PointwiseLemmas.{length-pointwise}
use Rattle.vob.specs.Indices.{IsSetAt}
use Rattle.vob.specs.Vob.{BitVector}
use Rattle.vob.specs.Vobs.{bits_of}
use Rattle.vob.proofs.BitsLemmas.{AreCombined-pointwise, item_false}

-- the first k rows have the bits of their Vobs, and the others none
pub record AreFilled (columns : ℕ) (vobs : List BitVector) (rows : List (List Bool)) (wide k : ℕ)
    : Type 0 where
  pub count : length rows ≡ length vobs
  pub low : (n : ℕ) → n < k → n < length vobs → get_or rows n [] ≡ get_or (bits_of vobs) n []
  pub high : (n : ℕ) → k ≤ n → n < length vobs → get_or rows n [] ≡ replicate columns false
  pub columns_are : wide ≡ columns

pub filled_none : (columns : ℕ) (vobs : List BitVector) (rows : List (List Bool)) (wide : ℕ)
    → rows ≡ replicate (length vobs) (replicate columns false) → wide ≡ columns
    → AreFilled columns vobs rows wide 0
filled_none columns vobs rows wide is same = record {
  count = ap length is ∙ length-replicate (length vobs) (replicate columns false);
  low = λ n less. absurd (omega (arith, less));
  high = λ n past less. ap (λ xs. get_or xs n []) is
      ∙ get_or-replicate (length vobs) n (replicate columns false) [] less;
  columns_are = same;
}

-- bits added to none
or_none : (bits : List Bool) → pointwise ◌||◌ (replicate (length bits) false) bits ≡ bits
or_none bits =
    let none = replicate (length bits) false in
    let same = length-replicate (length bits) false in
    ext_get_or false (pointwise ◌||◌ none bits) bits (length-pointwise ◌||◌ none bits same ∙ same)
    (λ i less. (AreCombined-pointwise ◌||◌ none bits same refl).each i
    ∙ ap (λ b. b || item bits i) (item_false (length bits) i))

pub filled_more : (columns : ℕ) (vobs : List BitVector) (rows after : List (List Bool))
    (wide wide' k : ℕ) (bits : List Bool) → AreFilled columns vobs rows wide k → k < length vobs
    → bits ≡ get_or (bits_of vobs) k [] → length bits ≡ columns
    → after ≡ set rows k (pointwise ◌||◌ (get_or rows k []) bits) → wide' ≡ wide
    → AreFilled columns vobs after wide' (k + 1)
filled_more columns vobs rows after wide wide' k bits h less is long put same =
    let put_is : after ≡ set rows k bits = put ∙ ap (set rows k)
    (ap (λ row. pointwise ◌||◌ row bits) (h.high k (omega arith) less ∙ ap (λ m. replicate m false) (sym long))
    ∙ or_none bits) in
    record {
      count = ap length put_is ∙ length-set rows k bits ∙ h.count;
      low = λ n under inside. elim (cases_eq n k) [
        | inl here ↦ rw here (ap (λ xs. get_or xs k []) put_is
            ∙ get_or-set_same rows k bits [] (omega (arith, less, h.count)) ∙ is)
        | inr other ↦ ap (λ xs. get_or xs n []) put_is ∙ get_or-set_other rows k n bits [] other
            ∙ h.low n (omega (arith, under, other)) inside
      ];
      high = λ n past inside. ap (λ xs. get_or xs n []) put_is
          ∙ get_or-set_other rows k n bits [] (λ e. omega (arith, past, e))
          ∙ h.high n (omega (arith, past)) inside;
      columns_are = same ∙ h.columns_are;
    }

pub filled_all : (columns : ℕ) (vobs : List BitVector) (rows : List (List Bool)) (wide k : ℕ)
    → AreFilled columns vobs rows wide k → k ≡ length vobs → rows ≡ bits_of vobs
filled_all columns vobs rows wide k h all =
    let count = length-map vobs (λ vob. vob.bits) in
    ext_get_or [] rows (bits_of vobs) (h.count ∙ sym count)
    (λ n less. h.low n (omega (arith, less, h.count, all)) (omega (arith, less, h.count)))

-- ---- a row of which some bits are set

pub set_none : (indices : List ℕ) (bits : List Bool) → IsSetAt (take 0 indices) bits bits
set_none indices bits =
    let none = length-take-le 0 indices (omega arith) in
    record {
      len = refl;
      each = λ v. (
        (λ e. inl e),
        (λ either. elim either [ inl old ↦ old | inr within ↦ absurd (omega (arith, within.1, none)) ]),
      );
    }

pub set_more : (indices : List ℕ) (k j : ℕ) (bits mid : List Bool) → k < length indices
    → get_or indices k 0 ≡ j → j < length mid → IsSetAt (take k indices) bits mid
    → IsSetAt (take (k + 1) indices) bits (set mid j true)
set_more indices k j bits mid less is low h =
    let more : take (k + 1) indices ≡ take k indices ++ j ∷ [] =
    take_more indices k 0 less ∙ ap (λ n. take k indices ++ n ∷ []) is in
    record {
      len = length-set mid j true ∙ h.len;
      each = λ v. rw more (
        (λ e. elim (cases_eq v j) [
          | inl here ↦ inr (rw here (Contains-push (take k indices) j))
          | inr other ↦ elim ((h.each v).0 (sym (get_or-set_other mid j v true false other) ∙ e)) [
            | inl old ↦ inl old
            | inr before ↦ inr (Contains-append_left (take k indices) (j ∷ []) v before)
          ]
        ]),
        (λ either. elim (cases_eq v j) [
          | inl here ↦ rw here (get_or-set_same mid j true false low)
          | inr other ↦ get_or-set_other mid j v true false other ∙ (h.each v).1 (elim either [
            | inl old ↦ inl old
            | inr within ↦ elim (Contains-push_cases (take k indices) j v within) [
              | inl before ↦ inr before
              | inr same ↦ absurd (other (sym same))
            ]
          ])
        ]),
      );
    }

-- a row that was put twice
pub row_put : (rows mid after : List (List Bool)) (i : ℕ) (row : List Bool) → i < length rows
    → mid ≡ set rows i (get_or mid i []) → after ≡ set mid i row
    → (get_or after i [] ≡ row) × (after ≡ set rows i (get_or after i []))
row_put rows mid after i row inside once twice =
    let whole : after ≡ set rows i row = twice ∙ ap (λ xs. set xs i row) once
    ∙ set-set rows i (get_or mid i []) row in
    let here : get_or after i [] ≡ row = ap (λ xs. get_or xs i []) whole ∙ get_or-set_same rows i row [] inside in
    (here, whole ∙ ap (set rows i) (sym here))
