-- Eight blocks combined at once.
use Rattle.std.proofs.Common.{◌≡◌, ℕ, ◌+◌, ◌-◌, ◌^◌, ◌<◌, ◌≤◌, ◌↔◌, Bool, ◌&&◌, ◌||◌, List, [], ◌∷◌, length, get_or, bit_and, bit_or, bit_xor, refl, sym, ap, ◌∙◌, subst, arith}
use Rattle.std.specs.Int.Bits.{xor_self, xor_assoc, xor_add_and, or_add_and}
use Rattle.std.proofs.lemmas.Nat.{and_le_l, and_le_r}
use Rattle.std.proofs.lemmas.List.{ext_get_or}
use Rattle.std.proofs.lemmas.Simd.{length-zip2, length-chunk, length-put_chunk, get_or-chunk}
use Rattle.std.proofs.lemmas.Simd.{get_or-zip2, get_or-put_chunk_below, get_or-put_chunk_at}
use Rattle.std.proofs.lemmas.Simd.{get_or-put_chunk_above, Each1-get_or}
use lib.Lanes.{zip2, chunk, put_chunk, fold_l, Each1}
use Rattle.vob_block.specs.Places.{place, HasPlaces}
use Rattle.vob_block.specs.Kernel.{Takes}
use Rattle.vob_block.specs.Pointwise.{IsPointwise, differ, without}
use Rattle.vob_block.proofs.PlaceLemmas.{place-and, place-or, place-xor, place-without}

-- ---- the lanes of a connective

-- lanes are combined place by place if numbers are
lanes-of : (f : Bool → Bool → Bool) (make : ℕ → ℕ → ℕ)
    → ((x y j : ℕ) → place j (make x y) ≡ f (place j x) (place j y)) → (xs ys : List ℕ)
    → length xs ≡ length ys → IsPointwise 64 f xs ys (zip2 make xs ys)
lanes-of f make law xs ys same = record {
  count = length-zip2 make xs ys same;
  each = λ k less. record {
    each = λ j _. ap (place j) (get_or-zip2 make xs ys k 0 0 0 less (omega (arith, same)))
        ∙ law (get_or xs k 0) (get_or ys k 0) j;
  };
}

pub lanes-and : (xs ys : List ℕ) → length xs ≡ length ys
    → IsPointwise 64 ◌&&◌ xs ys (zip2 bit_and xs ys)
lanes-and = lanes-of ◌&&◌ bit_and place-and

pub lanes-or : (xs ys : List ℕ) → length xs ≡ length ys
    → IsPointwise 64 ◌||◌ xs ys (zip2 bit_or xs ys)
lanes-or = lanes-of ◌||◌ bit_or place-or

pub lanes-xor : (xs ys : List ℕ) → length xs ≡ length ys
    → IsPointwise 64 differ xs ys (zip2 bit_xor xs ys)
lanes-xor = lanes-of differ bit_xor place-xor

zip-without : (xs ys : List ℕ)
    → zip2 (λ x y. bit_xor x (bit_and x y)) xs ys ≡ zip2 bit_xor xs (zip2 bit_and xs ys)
zip-without [] ys = refl
zip-without (x ∷ xs) [] = refl
zip-without (x ∷ xs) (y ∷ ys) = ap (λ zs. bit_xor x (bit_and x y) ∷ zs) (zip-without xs ys)

pub lanes-without : (xs ys : List ℕ) → length xs ≡ length ys
    → IsPointwise 64 without xs ys (zip2 bit_xor xs (zip2 bit_and xs ys))
lanes-without xs ys same = subst (IsPointwise 64 without xs ys) (zip-without xs ys)
    (lanes-of without (λ x y. bit_xor x (bit_and x y)) place-without xs ys same)

-- "xor" twice with one number
xor-undone : (x y : ℕ) → bit_xor x (bit_xor x y) ≡ y
xor-undone x y = sym (xor_assoc x x y) ∙ ap (λ z. bit_xor z y) (xor_self x)

-- what both have is where "and not" differs
pub zip-undone : (xs ys : List ℕ)
    → zip2 bit_and xs ys ≡ zip2 bit_xor xs (zip2 bit_xor xs (zip2 bit_and xs ys))
zip-undone [] ys = refl
zip-undone (x ∷ xs) [] = refl
zip-undone (x ∷ xs) (y ∷ ys) =
    let one = sym (xor-undone x (bit_and x y)) in
    let more = zip-undone xs ys in cc

-- ---- the flag: the lanes of what changed, taken together

abbrev IsZero : ℕ → Type 0
IsZero x = x ≡ 0

or_zero : (a b : ℕ) → (bit_or a b ≡ 0) ↔ ((a ≡ 0) × (b ≡ 0))
or_zero a b = (
  λ e. (
    omega (arith, or_add_and a b, and_le_l a b, and_le_r a b),
    omega (arith, or_add_and a b, and_le_l a b, and_le_r a b),
  ),
  λ h. omega (arith, or_add_and a b, h.0, h.1),
)

xor_zero : (a b : ℕ) → (bit_xor a b ≡ 0) ↔ (b ≡ a)
xor_zero a b = (
  λ e. omega (arith, xor_add_and a b, and_le_l a b, and_le_r a b),
  λ e. ap (bit_xor a) e ∙ xor_self a,
)

fold-zero : (a : ℕ) (xs : List ℕ) → (fold_l bit_or a xs ≡ 0) ↔ ((a ≡ 0) × Each1 IsZero xs)
fold-zero a [] = (λ e. (e, tt), λ h. h.0)
fold-zero a (x ∷ xs) =
    let rest = fold-zero (bit_or a x) xs in
    let here = or_zero a x in (
      λ e.
          let parts = rest.0 e in
          let two = here.0 parts.0 in
          (two.0, (two.1, parts.1)),
      λ h. rest.1 (here.1 (h.0, h.1.0), h.1.1),
    )

zip_or-zero : (xs ys : List ℕ) → length xs ≡ length ys
    → Each1 IsZero (zip2 bit_or xs ys) ↔ (Each1 IsZero xs × Each1 IsZero ys)
zip_or-zero [] [] e = (λ h. (h, h), λ h. h.0)
zip_or-zero [] (y ∷ ys) e = absurd (omega arith)
zip_or-zero (x ∷ xs) [] e = absurd (omega arith)
zip_or-zero (x ∷ xs) (y ∷ ys) e =
    let rest = zip_or-zero xs ys (omega arith) in
    let here = or_zero x y in (
      λ h.
          let two = here.0 h.0 in
          let parts = rest.0 h.1 in
          ((two.0, parts.0), (two.1, parts.1)),
      λ h. (here.1 (h.0.0, h.1.0), rest.1 (h.0.1, h.1.1)),
    )

zip_xor-zero : (xs ys : List ℕ) → length xs ≡ length ys
    → Each1 IsZero (zip2 bit_xor xs ys) ↔ (ys ≡ xs)
zip_xor-zero [] [] e = (λ _. refl, λ _. tt)
zip_xor-zero [] (y ∷ ys) e = absurd (omega arith)
zip_xor-zero (x ∷ xs) [] e = absurd (omega arith)
zip_xor-zero (x ∷ xs) (y ∷ ys) e =
    let rest = zip_xor-zero xs ys (omega arith) in
    let here = xor_zero x y in (
      λ h. let one = here.0 h.0 in let more = rest.0 h.1 in cc,
      λ same.
          let one : y ≡ x = cc in
          let more : ys ≡ xs = cc in
          (here.1 one, rest.1 more),
    )

-- none so far and none of these: all the lanes together are 0
pub flag_zero : (changed old new : List ℕ) → length changed ≡ length old → length old ≡ length new
    → (fold_l bit_or 0 (zip2 bit_or changed (zip2 bit_xor old new)) ≡ 0)
    ↔ ((fold_l bit_or 0 changed ≡ 0) × (new ≡ old))
flag_zero changed old new long same =
    let all = fold-zero 0 (zip2 bit_or changed (zip2 bit_xor old new)) in
    let before = fold-zero 0 changed in
    let these = zip_xor-zero old new same in
    let parts = zip_or-zero changed (zip2 bit_xor old new)
    (long ∙ sym (length-zip2 bit_xor old new same)) in (
      λ e.
          let two = parts.0 (all.0 e).1 in
          (before.1 (refl, two.0), these.0 two.1),
      λ h. all.1 (refl, parts.1 ((before.0 h.0).1, these.1 h.1)),
    )

-- ---- the eight blocks from k on

module _ (f : Bool → Bool → Bool) (others before changed new : List ℕ) (k : ℕ)
    (room : k + 8 ≤ length before) (enough : k + 8 ≤ length others) (lanes : length changed ≡ 8)
    (made : IsPointwise 64 f (chunk k 8 before) (chunk k 8 others) new) where
  long-old : length (chunk k 8 before) ≡ 8
  long-old = length-chunk k 8 before room

  long-new : length new ≡ 8
  long-new = made.count ∙ long-old

  -- by the lane of a block
  by_lane : (P : ℕ → Type 0) → ((j : ℕ) → j < 8 → P (k + j)) → (i : ℕ) → k ≤ i → i < k + 8 → P i
  by_lane P each i from less = subst P (omega arith) (each (i - k) (omega arith))

  pub Takes-lanes : (diff : List ℕ) → diff ≡ zip2 bit_xor (chunk k 8 before) new
      → Each1 (λ x. x < 2 ^ 64) new → Takes 64 f others before
      (put_chunk k before new) k 8 (fold_l bit_or 0 changed)
      (fold_l bit_or 0 (zip2 bit_or changed diff))
  Takes-lanes diff differs fit =
      let after = put_chunk k before new in
      let at : (j : ℕ) → j < 8 → get_or after (k + j) 0 ≡ get_or new j 0 =
      λ j less. get_or-put_chunk_at k before new j 0 (omega (arith, long-new))
      (omega (arith, long-new)) in
      let old = chunk k 8 before in
      let flag = subst (λ (ds : List ℕ). (fold_l bit_or 0 (zip2 bit_or changed ds) ≡ 0)
      ↔ ((fold_l bit_or 0 changed ≡ 0) × (new ≡ old))) (sym differs)
      (flag_zero changed old new (lanes ∙ sym long-old) (long-old ∙ sym long-new)) in
      record {
        count = length-put_chunk k before new;
        done = by_lane (λ i. HasPlaces 64 (get_or after i 0)
            (λ j. f (place j (get_or before i 0)) (place j (get_or others i 0))))
            (λ j less. record {
              each = λ p h. ap (place p) (at j less)
                  ∙ (made.each j (omega (arith, long-old))).each p h
                  ∙ ap (λ x. f (place p x) (place p (get_or (chunk k 8 others) j 0)))
                  (get_or-chunk k 8 before j 0 less)
                  ∙ ap (λ y. f (place p (get_or before (k + j) 0)) (place p y))
                  (get_or-chunk k 8 others j 0 less);
            });
        within = by_lane (λ i. get_or after i 0 < 2 ^ 64)
            (λ j less. subst (λ (x : ℕ). x < 2 ^ 64) (sym (at j less))
            (Each1-get_or (λ x. x < 2 ^ 64) new j 0 (omega (arith, long-new)) fit));
        below = λ i less. get_or-put_chunk_below k before new i 0 less;
        above = λ i more. get_or-put_chunk_above k before new i 0 (omega (arith, long-new));
        flag = (
          λ e.
              let parts = flag.0 e in (
                parts.0,
                by_lane (λ i. get_or after i 0 ≡ get_or before i 0)
                    (λ j less. at j less ∙ ap (λ xs. get_or xs j 0) parts.1
                    ∙ get_or-chunk k 8 before j 0 less),
              ),
          λ h. flag.1 (
            h.0,
            ext_get_or 0 new old (long-new ∙ sym long-old) (λ j less.
                let lane : j < 8 = omega (arith, long-new) in
                sym (at j lane) ∙ h.1 (k + j) (omega arith) (omega arith)
                ∙ sym (get_or-chunk k 8 before j 0 lane)),
          ),
        );
      }
