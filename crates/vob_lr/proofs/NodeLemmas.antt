-- The items of some sets, numbered set by set.
use Rattle.std.proofs.Common.{◌≡◌, ℕ, zero, suc, ◌+◌, ◌<◌, ◌≤◌, inl, inr, List, [], ◌∷◌, ◌++◌, length, get_or, take, refl, sym, ap, ◌∙◌, subst, arith}
use Rattle.std.specs.List.{sum_by}
use Rattle.std.proofs.lemmas.Bool.{cases_lt}
use Rattle.std.proofs.lemmas.List.{get_or_append_left, get_or_push, length_push, take_all, take-take}
use Rattle.std.proofs.lemmas.List.Sums.{sum_by_more, sum_by-take-le}
use Rattle.vob_lr.specs.ItemSets.{HasItem}
use Rattle.vob_lr.specs.Nodes.{AreOffsets, member_total, members_of, node, place_of}
use Rattle.vob_lr.proofs.SetLemmas.{place_at, place_inside, set_inside}

module _ (sets : List (List ℕ)) where
  pub members_more : (q : ℕ) → q < length sets →
      members_of sets (q + 1) ≡ members_of sets q + length (get_or sets q [])
  members_more q less = sum_by_more length sets q [] less

  members_le : (q r : ℕ) → q ≤ r → members_of sets q ≤ members_of sets r
  members_le q r less =
      subst (λ (xs : List (List ℕ)). sum_by length xs ≤ members_of sets r)
      (take-take q r sets less) (sum_by-take-le length (take r sets) q)

  pub members_all : (n : ℕ) → length sets ≤ n → members_of sets n ≡ member_total sets
  members_all n past = ap (sum_by length) (take_all n sets past)

  pub node_below : (q i : ℕ) → HasItem sets q i → node sets q i < members_of sets (q + 1)
  node_below q i there =
      omega (
        arith,
        members_more q (set_inside sets q i there),
        place_inside (get_or sets q []) i there,
      )

  pub node_inside : (q i : ℕ) → HasItem sets q i → node sets q i < member_total sets
  node_inside q i there =
      omega (arith, node_below q i there, sum_by-take-le length sets (q + 1))

  state_rises : (q r i j : ℕ) → HasItem sets q i → q < r → node sets q i < node sets r j
  state_rises q r i j there less =
      omega (arith, node_below q i there, members_le (q + 1) r (omega (arith, less)))

  one_state : (q r i j : ℕ) → HasItem sets q i → HasItem sets r j → node sets q i ≡ node sets r j → q ≡ r
  one_state q r i j here there same = elim (cases_lt q r) [
    | inl less ↦ absurd (omega (arith, state_rises q r i j here less, same))
    | inr past ↦ elim (cases_lt r q) [
      | inl less ↦ absurd (omega (arith, state_rises r q j i there less, same))
      | inr over ↦ omega (arith, past, over)
    ]
  ]

  one_place : (q i j : ℕ) → HasItem sets q i → HasItem sets q j →
      place_of (get_or sets q []) i ≡ place_of (get_or sets q []) j → i ≡ j
  one_place q i j here there same =
      let set = get_or sets q [] in
      sym (place_at set i here 0) ∙ ap (λ k. get_or set k 0) same ∙ place_at set j there 0

  -- a number is that of one item of one state
  pub one_node : (q r i j : ℕ) → HasItem sets q i → HasItem sets r j →
      node sets q i ≡ node sets r j → (q ≡ r) × (i ≡ j)
  one_node q r i j here there same =
      let state = one_state q r i j here there same in
      let other = subst (λ (k : ℕ). HasItem sets k j) (sym state) there in
      let nodes = same ∙ ap (λ (k : ℕ). node sets k j) (sym state) in
      (state, one_place q i j here other (omega (arith, nodes)))

  no_members : (q d : ℕ) → q ≤ 0 → get_or (0 ∷ []) q d ≡ members_of sets q
  no_members zero d le = refl
  no_members (suc q) d le = absurd (omega (arith, le))

  pub AreOffsets-none : AreOffsets sets 0 (0 ∷ [])
  AreOffsets-none = record { total = refl; each = no_members }

  pub AreOffsets-push : (k : ℕ) (offsets : List ℕ) (sum : ℕ) → AreOffsets sets k offsets →
      sum ≡ members_of sets (k + 1) → AreOffsets sets (k + 1) (offsets ++ sum ∷ [])
  AreOffsets-push k offsets sum h is = record {
    total = length_push offsets sum ∙ ap (λ n. n + 1) h.total;
    each = λ q d le. elim (cases_lt q (length offsets)) [
      | inl less ↦
          get_or_append_left offsets (sum ∷ []) d q less ∙ h.each q d (omega (arith, less, h.total))
      | inr past ↦
          let here : length offsets ≡ q = omega (arith, past, le, h.total) in
          let same : k + 1 ≡ q = omega (arith, here, h.total) in
          get_or_push offsets sum d q here ∙ is ∙ ap (members_of sets) same
    ];
  }
