-- Two Vobs of one length as sets: what their blocks say of their bits.
use Rattle.std.specs.Prelude.{replicate}
use Rattle.std.proofs.Common.{◌≡◌, ◌↔◌, ℕ, zero, suc, ◌+◌, ◌*◌, ◌/◌, ◌<◌, ◌≤◌, Bool, true, false, not, ◌&&◌}
use Rattle.std.proofs.Common.{◌⊎◌, List, [], ◌∷◌, length, map, refl, sym, ap, ◌∙◌, subst, arith}
use Rattle.std.proofs.Common.{inl, inr}
use Rattle.std.proofs.lemmas.Bool.{and_parts, cases_lt, cases_Bool, false≢true, not-true}
use Rattle.std.proofs.lemmas.List.Sums.{count_by-le-length}
use Rattle.std.proofs.lemmas.List.{ext_get_or, get_or-replicate, get_or_past, length-map, length-replicate}
use Rattle.vob_block.specs.Packing.{item, bit_at, packing, unpacking, need, IsCanonical}
use Rattle.vob_block.specs.Pointwise.{pointwise, without}
use Rattle.vob_block.proofs.NeedLemmas.{need_enough}
use Rattle.vob_block.proofs.PackingLemmas.{bit_at-is_item, bit_at-packing, bit_at-past, length-unpacking}
use Rattle.vob_block.proofs.BoolLemmas.{and-none, has_too, without-none}
use Rattle.vob_block.proofs.PointwiseLemmas.{item-pointwise, length-pointwise, same_count}
use Rattle.vob_walk.specs.Matches.{has_value}
use Rattle.vob_store.specs.Combined.{combined_bit, ones_combined, HaveNone}
use Rattle.vob.specs.Bits.{count_of}
use Rattle.vob.specs.Sets.{IsSubset, AreDisjoint, HasOther, HasShared}
use Rattle.vob_block.proofs.PackingLemmas.{true_inside}
use Rattle.vob.proofs.BitsLemmas.{and_fewer}
use Rattle.vob.proofs.SetsLemmas.{counted}

-- ---- lists

module _ (f : Bool → Bool → Bool) (none : f false false ≡ false) (bits others : List Bool)
    (same : length bits ≡ length others) where
  -- no index has a bit of both combined
  abbrev pub HasNoBit : Type 0
  HasNoBit = (i : ℕ) → f (item bits i) (item others i) ≡ false

  pub no_bit_is_list : HasNoBit ↔ (pointwise f bits others ≡ replicate (length bits) false)
  no_bit_is_list = (
    (λ h. ext_get_or false (pointwise f bits others) (replicate (length bits) false)
        (length-pointwise f bits others same ∙ sym (length-replicate (length bits) false))
        (λ i inside. item-pointwise f bits others same none i ∙ h i
        ∙ sym (get_or-replicate (length bits) i false false
        (omega (arith, inside, length-pointwise f bits others same))))),
    (λ e i. sym (item-pointwise f bits others same none i) ∙ ap (λ xs. item xs i) e
        ∙ falses i (length bits)),
  )
    where
      falses : (i n : ℕ) → item (replicate n false) i ≡ false
      falses i n = elim (cases_lt i n) [
        | inl inside ↦ get_or-replicate n i false false inside
        | inr past ↦ get_or_past (replicate n false) i false
            (omega (arith, length-replicate n false, past))
      ]

hasnt : (a b : Bool) → (a && b) ≡ false → a ≡ true → b ≡ false
hasnt true b e h = e
hasnt false b e h = absurd (false≢true h)

module _ (bits others : List Bool) where
  pub subset_is : ((i : ℕ) → without (item bits i) (item others i) ≡ false) ↔ IsSubset bits others
  subset_is = (
    (λ h i. has_too (item bits i) (item others i) (h i)),
    (λ h i. without-none (item bits i) (item others i) (h i)),
  )

  pub disjoint_is : ((i : ℕ) → (item bits i && item others i) ≡ false) ↔ AreDisjoint bits others
  disjoint_is = (
    (λ h i. hasnt (item bits i) (item others i) (h i)),
    (λ h i. and-none (item bits i) (item others i) (h i)),
  )

-- a test fails at each number below n, or passes at one of them
pub none_or_some : (p : ℕ → Bool) (n : ℕ) → ((i : ℕ) → i < n → p i ≡ false)
    ⊎ ((i : ℕ) × (i < n) × (p i ≡ true))
none_or_some p zero = inl (λ i less. absurd (omega arith))
none_or_some p (suc n) = elim (none_or_some p n) [
  | inr (i, less, passes) ↦ inr (i, omega arith, passes)
  | inl none ↦ elim (cases_Bool (p n)) [
    | inl passes ↦ inr (n, omega arith, passes)
    | inr fails ↦ inl (λ i less. elim (cases_lt i n) [
      | inl lower ↦ none i lower
      | inr past ↦ let at : i ≡ n = omega arith in ap p at ∙ fails
    ])
  ]
]

module _ (bits others : List Bool) (r : Bool) where
  pub HasOther-missed : ((r ≡ true) ↔ IsSubset bits others) → r ≡ false → HasOther bits others
  HasOther-missed flag unset =
      elim (none_or_some (λ i. without (item bits i) (item others i)) (length bits)) [
        | inl none ↦ absurd (false≢true (sym unset ∙ flag.1 (λ i here.
            has_too (item bits i) (item others i) (none i (true_inside bits i here)) here)))
        | inr (i, less, passes) ↦ (
          i,
          less,
          (and_parts (item bits i) (not (item others i)) passes).0,
          not-true (item others i) (and_parts (item bits i) (not (item others i)) passes).1,
        )
      ]

  pub HasShared-missed : ((r ≡ true) ↔ AreDisjoint bits others) → r ≡ false → HasShared bits others
  HasShared-missed flag unset =
      elim (none_or_some (λ i. item bits i && item others i) (length bits)) [
        | inl none ↦ absurd (false≢true (sym unset ∙ flag.1 (λ i here.
            hasnt (item bits i) (item others i) (none i (true_inside bits i here)) here)))
        | inr (i, less, passes) ↦ (
          i,
          less,
          (and_parts (item bits i) (item others i) passes).0,
          (and_parts (item bits i) (item others i) passes).1,
        )
      ]

-- what is left without the bits of another is what the other, negated, has too
pub without-and : (bits others : List Bool)
    → pointwise without bits others ≡ pointwise ◌&&◌ bits (map not others)
without-and [] others = refl
without-and (b ∷ bits) [] = refl
without-and (b ∷ bits) (c ∷ others) = ap (λ xs. (b && not c) ∷ xs) (without-and bits others)

-- so it is all that the first has, or fewer
pub without_fewer : (bits others : List Bool) → length bits ≡ length others
    → (pointwise without bits others ≡ bits)
    ⊎ (count_of true (pointwise without bits others) < count_of true bits)
without_fewer bits others same =
    let P : List Bool → Type 0 = λ xs. (xs ≡ bits) ⊎ (count_of true xs < count_of true bits) in
    subst P (sym (without-and bits others))
    (and_fewer bits (map not others) (same ∙ sym (length-map others not)))

-- ---- the blocks of a Vob and those of a list as long

module _ {X : Type 0} (number : X → ℕ) (w : ℕ) (wide : 0 < w) (n : ℕ) (mine theirs : List X)
    (bits others : List Bool) (h : IsCanonical n (map number mine) w)
    (mine_is : unpacking n (map number mine) w ≡ bits) (same : length bits ≡ length others)
    (theirs_is : map number theirs ≡ packing others w) (f : Bool → Bool → Bool)
    (none : f false false ≡ false) where
  abbrev xs : List ℕ
  xs = map number mine

  abbrev ys : List ℕ
  ys = map number theirs

  bit_is : (i : ℕ) → combined_bit f w xs ys i ≡ f (item bits i) (item others i)
  bit_is i =
      ap (λ b. f b (bit_at ys w i))
      (bit_at-is_item w wide n xs h i ∙ ap (λ bs. item bs i) mine_is)
      ∙ ap (f (item bits i)) (ap (λ zs. bit_at zs w i) theirs_is ∙ bit_at-packing w wide others i)

  long : length bits ≡ n
  long = sym (ap length mine_is) ∙ length-unpacking n xs w

  as_many : length mine ≡ length theirs
  as_many = same_count number w wide n mine theirs others h (sym long ∙ same) theirs_is

  pub ones_is : ones_combined f w xs ys (length mine) ≡ count_of true (pointwise f bits others)
  unfolding ones_combined
  ones_is =
      let room = need_enough w wide n in
      let blocks : length mine ≡ need n w = sym (length-map mine number) ∙ h.count in
      let whole : length mine * w ≡ need n w * w = ap (λ k. k * w) blocks in
      counted (combined_bit f w xs ys) 0 (pointwise f bits others) (length mine * w)
      (omega (arith, length-pointwise f bits others same, long, room, whole))
      (λ i _. let at : 0 + i ≡ i = omega arith in
      ap (combined_bit f w xs ys) at ∙ bit_is i ∙ sym (item-pointwise f bits others same none i))

  pub none_is : HaveNone f w 0 (length mine) xs ys
      ↔ ((i : ℕ) → f (item bits i) (item others i) ≡ false)
  none_is = (
    (λ all i. elim (cases_lt (i / w) (length mine)) [
      | inl inside ↦ sym (bit_is i) ∙ all i (omega arith) inside
      | inr past ↦
          sym (bit_is i)
          ∙ ap (λ b. f b (bit_at ys w i))
          (bit_at-past xs w i (omega (arith, past, length-map mine number)))
          ∙ ap (f false)
          (bit_at-past ys w i (omega (arith, past, as_many, length-map theirs number)))
          ∙ none
    ]),
    (λ all i _ _. bit_is i ∙ all i),
  )

  -- ---- the same of the slice that was lent

  module _ {lent : List X} (lent_is : lent ≡ mine) where
    pub lent_as_many : length lent ≡ length theirs
    lent_as_many = ap length lent_is ∙ as_many

    pub lent_ones : ones_combined f w (map number lent) ys (length lent)
        ≡ count_of true (pointwise f bits others)
    lent_ones =
        ap (λ (items : List X). ones_combined f w (map number items) ys (length items)) lent_is
        ∙ ones_is

    pub lent_ones-le : ones_combined f w (map number lent) ys (length lent) ≤ n
    lent_ones-le = omega (
      arith,
      lent_ones,
      count_by-le-length (has_value true) (pointwise f bits others),
      length-pointwise f bits others same,
      long,
    )

    -- a flag that says that no place is true
    module _ (r : Bool)
        (flag : (r ≡ true) ↔ HaveNone f w 0 (length lent) (map number lent) ys) where
      lent_none : (r ≡ true) ↔ ((i : ℕ) → f (item bits i) (item others i) ≡ false)
      lent_none =
          let P : List X → Type 0 =
          λ items. (r ≡ true) ↔ HaveNone f w 0 (length items) (map number items) ys in
          let here = subst P lent_is flag in
          ((λ e. none_is.0 (here.0 e)), (λ all. here.1 (none_is.1 all)))

      pub flag_of_list : (r ≡ true) ↔ (pointwise f bits others ≡ replicate (length bits) false)
      flag_of_list =
          let list = no_bit_is_list f none bits others same in
          ((λ e. list.0 (lent_none.0 e)), (λ e. lent_none.1 (list.1 e)))

      pub flag_of : (P : Type 0) → (((i : ℕ) → f (item bits i) (item others i) ≡ false) ↔ P)
          → (r ≡ true) ↔ P
      flag_of P is = ((λ e. is.0 (lent_none.0 e)), (λ p. lent_none.1 (is.1 p)))
