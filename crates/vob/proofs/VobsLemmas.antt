-- A page for users: some Vobs as lists of bits, one of them pushed or changed, or each beside an item.
use Rattle.std.specs.Prelude.{Contains, Some, slice_get, slice_set}
use Rattle.std.specs.List.{AllZip, Any}
use Rattle.std.specs.declared.ops.Bound.TheVariants.{Included, Excluded}
use Rattle.std.specs.declared.ops.Range.{Range}
use Rattle.std.proofs.Common.{◌≡◌, ◌↔◌, ◌⊎◌, ◌||◌, ℕ, ◌+◌, ◌<◌, ◌≤◌, ◌*◌, Bool, true, false, List, []}
use Rattle.std.proofs.Common.{◌++◌, length, get_or, take, replicate, suc, refl, sym, ap, ◌∙◌, subst, arith}
use Rattle.std.proofs.Common.{All, inl, inr, zero, ◌∷◌}
use Rattle.std.proofs.lemmas.Bool.{cases_lt}
use Rattle.std.proofs.lemmas.List.{get_or_append_left, get_or_push, length_push, map-append, map-set}
use Rattle.std.proofs.lemmas.List.{get_or-map, length-append, take_more}
use Rattle.std.proofs.lemmas.List.Elements.{All-nil, All-cons, All-push, All-pop, All-replicate}
use Rattle.std.proofs.lemmas.List.Elements.{All-set, All-get_or}
use Rattle.std.proofs.lemmas.List.Quantifiers.{Any-push}
use Rattle.std.proofs.lemmas.List.Sums.{sum_by-set, sum_by-cons}
use Rattle.std.proofs.lemmas.Option.{get_or_from_slice_get, slice_get_within}
use Rattle.vob_block.specs.Packing.{item}
use Rattle.vob_block.specs.Pointwise.{without}
use Rattle.vob.specs.Bits.{count_of, AreCombined}
use Rattle.vob.specs.Vob.{BitVector}
use Rattle.vob.specs.Vobs.{bits_of, AreOfLength, total_count}
use Rattle.vob.specs.Indices.{IsSetAt}
use Rattle.vob.specs.Ranges.{IsChangedWithin}
use Rattle.vob.proofs.BitsLemmas.{count_at_most, or_true, without_true}
use Rattle.vob.proofs.RangeLemmas.{range_true}

-- one more
pub bits_of_push : (vobs : List BitVector) (vob : BitVector)
    → bits_of (vobs ++ vob ∷ []) ≡ bits_of vobs ++ vob.bits ∷ []
bits_of_push vobs vob = map-append (λ v. v.bits) vobs (vob ∷ [])

-- the bits of one of them
pub bits_of_at : (vobs : List BitVector) (i : ℕ) (vob : BitVector) → slice_get vobs i ≡ Some vob
    → get_or (bits_of vobs) i [] ≡ vob.bits
bits_of_at vobs i vob is =
    get_or-map (λ v. v.bits) vobs i vob [] (slice_get_within vobs i vob is)
    ∙ ap (λ v. v.bits) (get_or_from_slice_get vobs i vob vob is)

pub bits_of_get_or : (vobs : List BitVector) (i : ℕ) (vob : BitVector) → i < length vobs
    → get_or (bits_of vobs) i [] ≡ (get_or vobs i vob).bits
bits_of_get_or vobs i vob inside = get_or-map (λ v. v.bits) vobs i vob [] inside

pub of_length_push : (len : ℕ) (lists : List (List Bool)) (bits : List Bool)
    → AreOfLength len lists → length bits ≡ len → AreOfLength len (lists ++ bits ∷ [])
of_length_push len lists bits all same = All-push (λ b. length b ≡ len) lists bits all same

-- what holds of each element of a list holds with one more
pub each_push : {X : Type 0} (P : ℕ → X → Type 0) (xs : List X) (x : X)
    → ((i : ℕ) (d : X) → i < length xs → P i (get_or xs i d)) → P (length xs) x
    → (i : ℕ) (d : X) → i < length (xs ++ x ∷ []) → P i (get_or (xs ++ x ∷ []) i d)
each_push P xs x all last i d inside = elim (cases_lt i (length xs)) [
  | inl less ↦ subst (P i) (sym (get_or_append_left xs (x ∷ []) d i less)) (all i d less)
  | inr past ↦
      let here : length xs ≡ i = omega (arith, past, inside, length_push xs x) in
      subst (P i) (sym (get_or_push xs x d i here)) (subst (λ j. P j x) here last)
]

-- one list so many times
pub of_length_replicate : (len n : ℕ) (bits : List Bool) → length bits ≡ len
    → AreOfLength len (replicate n bits)
of_length_replicate len n bits same = All-replicate (λ b. length b ≡ len) n bits same

-- one changed
pub of_length_set : (len : ℕ) (lists : List (List Bool)) (i : ℕ) (bits : List Bool)
    → AreOfLength len lists → length bits ≡ len → AreOfLength len (slice_set lists i bits)
of_length_set len lists i bits all same = All-set (λ b. length b ≡ len) lists i bits same all

pub of_length_at : (len : ℕ) (lists : List (List Bool)) (i : ℕ) (default : List Bool)
    → AreOfLength len lists → i < length lists → length (get_or lists i default) ≡ len
of_length_at len lists i default all inside =
    All-get_or (λ b. length b ≡ len) lists i default inside all

pub bits_of_set : (vobs : List BitVector) (i : ℕ) (vob : BitVector)
    → bits_of (slice_set vobs i vob) ≡ slice_set (bits_of vobs) i vob.bits
bits_of_set vobs i vob = map-set (λ v. v.bits) vobs i vob

-- how many bits are true then
pub total_count_set : (lists : List (List Bool)) (i : ℕ) (bits : List Bool) → i < length lists
    → total_count (slice_set lists i bits) + count_of true (get_or lists i [])
    ≡ total_count lists + count_of true bits
total_count_set lists i bits inside = sum_by-set (count_of true) lists i bits [] inside

-- no more than there are bits
pub total_count_at_most : (len : ℕ) (lists : List (List Bool)) → AreOfLength len lists
    → total_count lists ≤ length lists * len
total_count_at_most len [] all = omega arith
total_count_at_most len (bits ∷ lists) all =
    let rest = total_count_at_most len lists
    (λ k d inside. all (suc k) d (omega (arith, inside))) in
    let more : (1 + length lists) * len ≡ len + length lists * len = grind arith in
    omega (
      arith,
      sum_by-cons (count_of true) bits lists,
      count_at_most true bits,
      all 0 [] (omega arith),
      rest,
      more,
    )

-- ---- some Vobs beside a list that each of them comes from

-- one more of both
beside_push : {A B : Type 0} (R : A → B → Type 0) (xs : List A) (ys : List B) (x : A) (y : B)
    → AllZip R xs ys → R x y → AllZip R (xs ++ x ∷ []) (ys ++ y ∷ [])
beside_push R [] [] x y all r = (r, all)
beside_push R [] (z ∷ ys) x y all r = absurd all
beside_push R (z ∷ xs) [] x y all r = absurd all
beside_push R (w ∷ xs) (z ∷ ys) x y all r = (all.0, beside_push R xs ys x y all.1 r)

pub beside_more : {A B : Type 0} (R : A → B → Type 0) (xs : List A) (ys : List B) (k : ℕ) (x : A)
    (y : B) → k < length xs → x ≡ get_or xs k x → AllZip R (take k xs) ys → R x y
    → AllZip R (take (k + 1) xs) (ys ++ y ∷ [])
beside_more R xs ys k x y inside is all r =
    let more = take_more xs k x inside ∙ ap (λ z. take k xs ++ z ∷ []) (sym is) in
    subst (λ zs. AllZip R zs (ys ++ y ∷ [])) (sym more) (beside_push R (take k xs) ys x y all r)

pub beside_length : {A B : Type 0} (R : A → B → Type 0) (xs : List A) (ys : List B)
    → AllZip R xs ys → length ys ≡ length xs
beside_length R [] [] all = refl
beside_length R [] (y ∷ ys) all = absurd all
beside_length R (x ∷ xs) [] all = absurd all
beside_length R (x ∷ xs) (y ∷ ys) all = ap suc (beside_length R xs ys all.1)

pub beside_at : {A B : Type 0} (R : A → B → Type 0) (xs : List A) (ys : List B) (k : ℕ) (d : A)
    (e : B) → AllZip R xs ys → k < length xs → R (get_or xs k d) (get_or ys k e)
beside_at R [] [] k d e all less = absurd (omega arith)
beside_at R [] (y ∷ ys) k d e all less = absurd all
beside_at R (x ∷ xs) [] k d e all less = absurd all
beside_at R (x ∷ xs) (y ∷ ys) zero d e all less = all.0
beside_at R (x ∷ xs) (y ∷ ys) (suc k) d e all less = beside_at R xs ys k d e all.1 (omega arith)

-- the one beside an element, from either side
pub beside_of : {A B : Type 0} (R : A → B → Type 0) (xs : List A) (ys : List B) (n : ℕ) (x : A)
    → AllZip R xs ys → slice_get xs n ≡ Some x → (y : B) × (slice_get ys n ≡ Some y) × R x y
beside_of R [] ys n x all is = absurd (cc)
beside_of R (w ∷ xs) [] n x all is = absurd all
beside_of R (w ∷ xs) (z ∷ ys) zero x all is =
    let same : w ≡ x = cc in (z, refl, subst (λ u. R u z) same all.0)
beside_of R (w ∷ xs) (z ∷ ys) (suc n) x all is = beside_of R xs ys n x all.1 is

pub beside_from : {A B : Type 0} (R : A → B → Type 0) (xs : List A) (ys : List B) (n : ℕ) (y : B)
    → AllZip R xs ys → slice_get ys n ≡ Some y → (x : A) × (slice_get xs n ≡ Some x) × R x y
beside_from R [] [] n y all is = absurd (cc)
beside_from R [] (z ∷ ys) n y all is = absurd all
beside_from R (w ∷ xs) [] n y all is = absurd all
beside_from R (w ∷ xs) (z ∷ ys) zero y all is =
    let same : z ≡ y = cc in (w, refl, subst (R w) same all.0)
beside_from R (w ∷ xs) (z ∷ ys) (suc n) y all is = beside_from R xs ys n y all.1 is

pub beside_all : {A B : Type 0} (R : A → B → Type 0) (P : B → Type 0) (xs : List A) (ys : List B)
    → ((x : A) (y : B) → R x y → P y) → AllZip R xs ys → All P ys
beside_all R P [] [] f all = All-nil P
beside_all R P [] (y ∷ ys) f all = absurd all
beside_all R P (x ∷ xs) [] f all = absurd all
beside_all R P (x ∷ xs) (y ∷ ys) f all =
    All-cons P y ys (f x y all.0) (beside_all R P xs ys f all.1)

-- ---- a list that is combined with each of some others, one after another

any_left : {X : Type 0} (P : X → Type 0) (xs ys : List X) → Any P xs → Any P (xs ++ ys)
any_left P xs ys (k, x, less, is, p) =
    (k, x, omega (arith, length-append xs ys), get_or_append_left xs ys x k less ∙ is, p)

any_cases : {X : Type 0} (P : X → Type 0) (xs : List X) (y : X) → Any P (xs ++ y ∷ [])
    → Any P xs ⊎ P y
any_cases P xs y (k, x, less, is, p) = elim (cases_lt k (length xs)) [
  | inl inside ↦ inl (k, x, inside, sym (get_or_append_left xs (y ∷ []) x k inside) ∙ is, p)
  | inr past ↦
      let last : length xs ≡ k = omega (arith, length_push xs y) in
      inr (subst P (sym is ∙ get_or_push xs y x k last) p)
]

module _ {X : Type 0} (P : X → Type 0) (xs : List X) (k : ℕ) (x : X) (inside : k < length xs)
    (is : x ≡ get_or xs k x) where
  one_more : take (k + 1) xs ≡ take k xs ++ x ∷ []
  one_more = take_more xs k x inside ∙ ap (λ y. take k xs ++ y ∷ []) (sym is)

  pub all_next : All P (take (k + 1) xs) ↔ (All P (take k xs) × P x)
  all_next = (
    (λ all.
        let parts = All-pop P (take (k + 1) xs) (take k xs) (Some x) one_more all in
        (parts.0, parts.1)),
    (λ both. subst (All P) (sym one_more) (All-push P (take k xs) x both.0 both.1)),
  )

  pub any_next : Any P (take (k + 1) xs) ↔ (Any P (take k xs) ⊎ P x)
  any_next = (
    (λ any. any_cases P (take k xs) x (subst (Any P) one_more any)),
    (λ either. subst (Any P) (sym one_more) (elim either [
      | inl old ↦ any_left P (take k xs) (x ∷ []) old
      | inr new ↦ Any-push P (take k xs) x new
    ])),
  )

  -- something was so before the first one, or holds of one so far: and so after one more
  pub either_next : {S old new : Type 0} → new ↔ (old ⊎ P x) → old ↔ (S ⊎ Any P (take k xs))
      → new ↔ (S ⊎ Any P (take (k + 1) xs))
  either_next {S} {old} {new} step so_far = (
    (λ there. elim (step.0 there) [
      | inl before ↦ elim (so_far.0 before) [
        | inl start ↦ inl start
        | inr any ↦ inr (any_next.1 (inl any))
      ]
      | inr now ↦ inr (any_next.1 (inr now))
    ]),
    (λ all. step.1 (elim all [
      | inl start ↦ inl (so_far.1 (inl start))
      | inr any ↦ elim (any_next.0 any) [
        | inl before ↦ inl (so_far.1 (inr before))
        | inr now ↦ inr now
      ]
    ])),
  )

module _ {X : Type 0} (bits_at : X → List Bool) (xs : List X) (k : ℕ) (x : X)
    (inside : k < length xs) (is : x ≡ get_or xs k x) (bits after : List Bool) (i : ℕ)
    (S : Type 0) where
  -- a bit is true if none of the ones so far has it, and so after one more
  pub without_each : AreCombined without bits (bits_at x) after
      → (item bits i ≡ true) ↔ (S × All (λ y. item (bits_at y) i ≡ false) (take k xs))
      → (item after i ≡ true) ↔ (S × All (λ y. item (bits_at y) i ≡ false) (take (k + 1) xs))
  without_each combined so_far =
      let both = without_true bits (bits_at x) after i combined in
      let next = all_next (λ y. item (bits_at y) i ≡ false) xs k x inside is in (
        (λ there.
            let old = so_far.0 (both.0 there).0 in
            (old.0, next.1 (old.1, (both.0 there).1))),
        (λ all.
            let parts = next.0 all.1 in both.1 (so_far.1 (all.0, parts.0), parts.1)),
      )

  -- or if some of them has it
  pub or_each : AreCombined ◌||◌ bits (bits_at x) after
      → (item bits i ≡ true) ↔ (S ⊎ Any (λ y. item (bits_at y) i ≡ true) (take k xs))
      → (item after i ≡ true) ↔ (S ⊎ Any (λ y. item (bits_at y) i ≡ true) (take (k + 1) xs))
  or_each combined so_far = either_next (λ y. item (bits_at y) i ≡ true) xs k x inside is
      (or_true bits (bits_at x) after i combined) so_far

  -- or if its index is in some of their ranges
  pub range_each : (range_at : X → Range ℕ) → i < length bits
      → IsChangedWithin (λ _. true) (Included ((range_at x).start)) (Excluded ((range_at x).end)) bits after
      → (item bits i ≡ true) ↔ (S ⊎ Any (λ y. ((range_at y).start ≤ i) × (i < (range_at y).end)) (take k xs))
      → (item after i ≡ true)
      ↔ (S ⊎ Any (λ y. ((range_at y).start ≤ i) × (i < (range_at y).end)) (take (k + 1) xs))
  range_each range_at below set so_far =
      either_next (λ y. ((range_at y).start ≤ i) × (i < (range_at y).end)) xs k x inside is
      (range_true bits after i set below) so_far

  -- or among some of their indices
  pub indices_each : (indices_at : X → List ℕ) → IsSetAt (indices_at x) bits after
      → (item bits i ≡ true) ↔ (S ⊎ Any (λ y. Contains (indices_at y) i) (take k xs))
      → (item after i ≡ true) ↔ (S ⊎ Any (λ y. Contains (indices_at y) i) (take (k + 1) xs))
  indices_each indices_at set so_far =
      either_next (λ y. Contains (indices_at y) i) xs k x inside is (set.each i) so_far
