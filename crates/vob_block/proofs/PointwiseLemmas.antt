-- Canonical storage combined with another, place by place.
use Rattle.std.specs.Prelude.{All}
use Rattle.std.proofs.Common.{◌≡◌, ◌≢◌, ◌↔◌, ℕ, zero, suc, ◌/◌, ◌%◌, ◌^◌, ◌<◌, Bool, true, false}
use Rattle.std.proofs.Common.{List, [], ◌∷◌, length, map, get_or, refl, sym, ap, ◌∙◌, subst, arith}
use Rattle.std.proofs.Common.{inl, inr, mod-lt}
use Rattle.std.proofs.lemmas.Bool.{cases_lt}
use Rattle.std.proofs.lemmas.List.{length-map}
use Rattle.vob_block.specs.Places.{place}
use Rattle.vob_block.specs.Packing.{item, packing, bit_at, unpacking, IsCanonical, Stores}
use Rattle.vob_block.specs.Pointwise.{IsCombined, IsPointwise, pointwise}
use Rattle.vob_block.proofs.PackingLemmas.{IsCanonical-packing, unpacking-packing, bit_at-is_place}
use Rattle.vob_block.proofs.PackingLemmas.{bit_at-past, length-unpacking, bit_at-is_item}
use Rattle.vob_block.proofs.PackingLemmas.{stores_from_items, packing-unpacking}

pub length-pointwise : (f : Bool → Bool → Bool) (bs cs : List Bool) → length bs ≡ length cs
    → length (pointwise f bs cs) ≡ length bs
length-pointwise f [] cs e = refl
length-pointwise f (b ∷ bs) [] e = absurd (omega arith)
length-pointwise f (b ∷ bs) (c ∷ cs) e = ap suc (length-pointwise f bs cs (omega arith))

-- a bit of two lists of one length combined, false past their ends
pub item-pointwise : (f : Bool → Bool → Bool) (bs cs : List Bool) → length bs ≡ length cs
    → f false false ≡ false → (i : ℕ) → item (pointwise f bs cs) i ≡ f (item bs i) (item cs i)
item-pointwise f [] [] e none i = sym none
item-pointwise f [] (c ∷ cs) e none i = absurd (omega arith)
item-pointwise f (b ∷ bs) [] e none i = absurd (omega arith)
item-pointwise f (b ∷ bs) (c ∷ cs) e none zero = refl
item-pointwise f (b ∷ bs) (c ∷ cs) e none (suc i) = item-pointwise f bs cs (omega arith) none i

module _ (w : ℕ) (wide : 0 < w) (f : Bool → Bool → Bool) (none : f false false ≡ false) (n : ℕ)
    (xs ys zs : List ℕ) (g : IsCanonical n xs w) (h : IsCanonical n ys w)
    (p : IsPointwise w f xs ys zs) where
  bit_at-pointwise : (i : ℕ) → bit_at zs w i ≡ f (bit_at xs w i) (bit_at ys w i)
  bit_at-pointwise i = elim (cases_lt (i / w) (length xs)) [
    | inl inside ↦
        bit_at-is_place zs w i ∙ (p.each (i / w) inside).each (i % w) (mod-lt i wide)
        ∙ sym (ap (λ b. f b (bit_at ys w i)) (bit_at-is_place xs w i)
        ∙ ap (f (place (i % w) (get_or xs (i / w) 0))) (bit_at-is_place ys w i))
    | inr past ↦
        let ours = bit_at-past xs w i past in
        let theirs = bit_at-past ys w i (omega (arith, g.count, h.count)) in
        bit_at-past zs w i (omega (arith, p.count)) ∙ sym none
        ∙ sym (ap (λ b. f b (bit_at ys w i)) ours ∙ ap (f false) theirs)
  ]

  pub pointwise_stored : All (λ x. x < 2 ^ w) zs
      → Stores w n zs (pointwise f (unpacking n xs w) (unpacking n ys w))
  pointwise_stored within =
      let bs = unpacking n xs w in
      let cs = unpacking n ys w in
      let same = length-unpacking n xs w ∙ sym (length-unpacking n ys w) in
      stores_from_items w wide (pointwise f bs cs) n zs
      (length-pointwise f bs cs same ∙ length-unpacking n xs w) (p.count ∙ g.count) within (λ i.
      bit_at-pointwise i ∙ ap (λ b. f b (bit_at ys w i)) (bit_at-is_item w wide n xs g i)
      ∙ ap (f (item bs i)) (bit_at-is_item w wide n ys h i)
      ∙ sym (item-pointwise f bs cs same none i))

-- blocks are the same where the lists are
pub same_from_lists : (w : ℕ) → 0 < w → (n : ℕ) (xs ys : List ℕ) → IsCanonical n xs w
    → IsCanonical n ys w → unpacking n xs w ≡ unpacking n ys w → xs ≡ ys
same_from_lists w wide n xs ys g h e = sym (packing-unpacking w wide n xs g)
    ∙ ap (λ bs. packing bs w) e ∙ packing-unpacking w wide n ys h

-- the blocks of a Vob combined with those of a list as long, where both are items with a
-- number each
module _ {X : Type 0} (number : X → ℕ) (w : ℕ) (wide : 0 < w) (n : ℕ) (mine theirs : List X)
    (bits : List Bool)
    (h : IsCanonical n (map number mine) w) (same : n ≡ length bits)
    (its : map number theirs ≡ packing bits w) where
  their_canonical : IsCanonical n (map number theirs) w
  their_canonical =
      subst (λ (xs : List ℕ). IsCanonical n xs w) (sym its)
      (subst (λ (m : ℕ). IsCanonical m (packing bits w) w) (sym same)
      (IsCanonical-packing w wide bits))

  pub same_count : length mine ≡ length theirs
  same_count = sym (length-map mine number) ∙ h.count ∙ sym their_canonical.count
      ∙ length-map theirs number

  -- what the news store, and that they are others exactly where the list is
  pub combined : (f : Bool → Bool → Bool) → f false false ≡ false → (news : List X) (changed : Bool)
      → IsCombined w f (map number mine) (map number theirs) (map number news) changed
      → Stores w n (map number news) (pointwise f (unpacking n (map number mine) w) bits)
      × ((changed ≡ true) ↔ (unpacking n (map number news) w ≢ unpacking n (map number mine) w))
  combined f none news changed done =
      let stored = pointwise_stored w wide f none n (map number mine) (map number theirs)
      (map number news) h their_canonical done.places done.within in
      let unpacking-bits : unpacking n (map number theirs) w ≡ bits =
      ap (λ xs. unpacking n xs w) its ∙ ap (λ m. unpacking m (packing bits w) w) same
      ∙ unpacking-packing w wide bits in (
        record {
          canonical = stored.canonical;
          bits = stored.bits ∙ ap (pointwise f (unpacking n (map number mine) w)) unpacking-bits;
        },
        (
          (λ e lists. done.flag.0 e (same_from_lists w wide n (map number news) (map number mine)
              stored.canonical h lists)),
          (λ lists. done.flag.1 (λ blocks. lists (ap (λ xs. unpacking n xs w) blocks))),
        ),
      )
