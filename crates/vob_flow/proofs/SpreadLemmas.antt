-- The edges along which places spread, and those of the graph that some nodes make.
use Rattle.std.specs.List.{All, AllPairs, Any, Contains}
use Rattle.std.proofs.Common.{◌≡◌, ◌≢◌, ◌↔◌, ◌⊎◌, ℕ, ◌+◌, ◌-◌, ◌<◌, ◌≤◌, IsTrue, Bool, true, false, not, cond, inl, inr, Option}
use Rattle.std.proofs.Common.{List, [], ◌∷◌, ◌++◌, length, map, take, get_or, set, refl, sym, ap, ◌∙◌, subst, arith}
use Rattle.std.proofs.lemmas.Bool.{cases_eq, false≢true}
use Rattle.std.proofs.lemmas.List.{append_assoc, map-append, take_more, get_or-map, get_or-set_other, get_or-set_same, get_or_default, length-map, length-set}
use Rattle.std.proofs.lemmas.List.Elements.{Contains-append_cases, Contains-append_left, Contains-append_right, Contains-push_cases}
use Rattle.std.specs.List.{range_with_len}
use Rattle.std.specs.declared.ops.Bound.TheVariants.{Unbounded, Excluded}
use Rattle.std.proofs.lemmas.Bool.{lt-ltb, ltb-true}
use Rattle.std.proofs.lemmas.List.FromFn.{get_or-range_with_len, length-range_with_len}
use Rattle.std.proofs.lemmas.List.Elements.{Contains-get_or, Contains-push}
use Rattle.vob_block.specs.Packing.{item}
use Rattle.vob_block.proofs.PackingLemmas.{true_inside}
use Rattle.vob_walk.specs.Matches.{matches, within}
use Rattle.vob_walk.proofs.IndexLemmas.{matches-exactly, matches-rise}
use Rattle.vob_flow.specs.Reach.{AreReached, Reaches}
use Rattle.vob_flow.specs.Reach.Reaches.{along, at_start}
use Rattle.vob_flow.specs.Available.{IsEntry}
use Rattle.vob_flow.specs.declared.lists.Paths.{Paths}
use Rattle.vob_flow.specs.Touched.{AreNoted, AreSpread, AreSpreadFrom, IsChosenEdge, IsFed, place_in}
use Rattle.vob_flow.proofs.TouchedLemmas.{place_at, place_out}

-- ---- members of what is made of each number

module _ {B : Type 0} (f : ℕ → B) (xs : List ℕ) where
  pub mapped_has : (x : ℕ) → Contains xs x → Contains (map f xs) (f x)
  mapped_has x (k, less, is) =
      (k, omega (arith, less, length-map xs f), get_or-map f xs k x (f x) less ∙ ap f is)

  pub mapped_only : (y : B) → Contains (map f xs) y → Any (λ x. f x ≡ y) xs
  mapped_only y (k, less, is) =
      let low : k < length xs = omega (arith, less, length-map xs f) in
      (k, get_or xs k 0, low, get_or_default xs k (get_or xs k 0) 0 low, sym (get_or-map f xs k 0 y low) ∙ is)

-- one number more is mapped
pub mapped_next : {B : Type 0} (f : ℕ → B) (xs : List ℕ) (k x : ℕ) (y : B) (old now after : List B) → k < length xs →
    get_or xs k 0 ≡ x → y ≡ f x → now ≡ old ++ map f (take k xs) → after ≡ now ++ y ∷ [] →
    after ≡ old ++ map f (take (k + 1) xs)
mapped_next f xs k x y old now after less is made before pushed =
    pushed ∙ ap (λ l. l ++ y ∷ []) before ∙ append_assoc old (map f (take k xs)) (y ∷ [])
    ∙ ap (λ l. old ++ l) (ap (λ z. map f (take k xs) ++ z ∷ []) (made ∙ ap f (sym is))
    ∙ sym (map-append f (take k xs) (get_or xs k 0 ∷ [])) ∙ ap (map f) (sym (take_more xs k 0 less)))

-- ---- where places spread

pub AreSpread-as : (paths : Paths) (next generates users : List (List ℕ)) (places k : ℕ) {P : ℕ → ℕ → Type 0}
    (Q : ℕ → ℕ → Type 0) → ((n m : ℕ) → P n m → Q n m) → AreSpread paths next generates users places k P →
    AreSpread paths next generates users places k Q
AreSpread-as paths next generates users places k Q f h = record {
  draws = λ n m low within. f m n (h.draws n m low within);
  starts = λ n v low within. f (length next + v) n (h.starts n v low within);
  others = λ n low. elim (h.others n low) [
    | inl edge ↦ inl (f (length next + places) n edge)
    | inr fed ↦ inr fed
  ];
}

module _ (paths : Paths) (next generates users : List (List ℕ)) (places : ℕ) where
  pub spread_none : (edges : List (ℕ × ℕ)) → AreSpread paths next generates users places 0 (λ n m. Contains edges (n, m))
  spread_none edges = record {
    draws = λ n m low. absurd (omega (arith, low));
    starts = λ n v low. absurd (omega (arith, low));
    others = λ n low. absurd (omega (arith, low));
  }

  pub spread_more : (k : ℕ) (edges own made extra after : List (ℕ × ℕ)) →
      own ≡ edges ++ map (λ m. (0 + m, k)) (get_or next k []) →
      made ≡ own ++ map (λ v. (length next + v, k)) (get_or generates k []) → after ≡ made ++ extra →
      (Contains extra (length next + places, k) ⊎ IsFed paths users k) →
      AreSpread paths next generates users places k (λ n m. Contains edges (n, m)) →
      AreSpread paths next generates users places (k + 1) (λ n m. Contains after (n, m))
  spread_more k edges own made extra after own_is made_is after_is last h = record {
    draws = λ n m low within. elim (cases_eq n k) [
      | inl here ↦
          let zero_more : 0 + m ≡ m = omega arith in
          in_own (m, n) (Contains-append_right edges (map (λ m. (0 + m, k)) (get_or next k [])) (m, n)
          (subst (Contains (map (λ m. (0 + m, k)) (get_or next k []))) (ap (λ j. (j, k)) zero_more ∙ ap (λ j. (m, j)) (sym here))
          (mapped_has (λ m. (0 + m, k)) (get_or next k []) m (subst (λ j. Contains (get_or next j []) m) here within))))
      | inr other ↦ in_own (m, n) (Contains-append_left edges _ (m, n) (h.draws n m (omega (arith, low, other)) within))
    ];
    starts = λ n v low within. elim (cases_eq n k) [
      | inl here ↦ in_made (length next + v, n) (Contains-append_right own (map (λ v. (length next + v, k)) (get_or generates k [])) (length next + v, n)
          (subst (Contains (map (λ v. (length next + v, k)) (get_or generates k []))) (ap (λ j. (length next + v, j)) (sym here))
          (mapped_has (λ v. (length next + v, k)) (get_or generates k []) v (subst (λ j. Contains (get_or generates j []) v) here within))))
      | inr other ↦ in_own (length next + v, n) (Contains-append_left edges _ (length next + v, n) (h.starts n v (omega (arith, low, other)) within))
    ];
    others = λ n low. elim (cases_eq n k) [
      | inl here ↦ elim last [
        | inl edge ↦ inl (subst (λ j. Contains after (length next + places, j)) (sym here)
            (subst (λ l. Contains l (length next + places, k)) (sym after_is) (Contains-append_right made extra (length next + places, k) edge)))
        | inr fed ↦ inr (subst (IsFed paths users) (sym here) fed)
      ]
      | inr other ↦ elim (h.others n (omega (arith, low, other))) [
        | inl edge ↦ inl (in_own (length next + places, n) (Contains-append_left edges _ (length next + places, n) edge))
        | inr fed ↦ inr fed
      ]
    ];
  }
    where
      in_made : (e : ℕ × ℕ) → Contains (own ++ map (λ v. (length next + v, k)) (get_or generates k [])) e → Contains after e
      in_made e within = subst (λ l. Contains l e) (sym after_is)
          (Contains-append_left made extra e (subst (λ l. Contains l e) (sym made_is) within))

      in_own : (e : ℕ × ℕ) → Contains (edges ++ map (λ m. (0 + m, k)) (get_or next k [])) e → Contains after e
      in_own e within = in_made e (Contains-append_left own _ e (subst (λ l. Contains l e) (sym own_is) within))

-- ---- places that are noted

module _ (nodes : List ℕ) (rise : AllPairs (λ n m. n < m) nodes) where
  pub noted_none : (places : List ℕ) → AreNoted nodes 0 places
  noted_none places i n low is = absurd (omega (arith, low))

  pub noted_more : (k : ℕ) (places : List ℕ) → k < length nodes → get_or nodes k 0 < length places → AreNoted nodes k places →
      AreNoted nodes (k + 1) (set places (get_or nodes k 0) k)
  noted_more k places less inside h i n low is = elim (cases_eq i k) [
    | inl here ↦
        let at : n ≡ get_or nodes k 0 = sym is ∙ ap (λ j. get_or nodes j 0) here in (
          omega (arith, at, inside, length-set places (get_or nodes k 0) k),
          ap (λ j. get_or (set places (get_or nodes k 0) k) j 0) at ∙ get_or-set_same places (get_or nodes k 0) k 0 inside ∙ sym here,
        )
    | inr other ↦
        let before = h i n (omega (arith, low, other)) is in
        let apart : n ≢ get_or nodes k 0 = λ e. omega (arith, e, is, rise i k 0 (omega (arith, low, other)) less) in (
          omega (arith, before.0, length-set places (get_or nodes k 0) k),
          get_or-set_other places (get_or nodes k 0) n k 0 apart ∙ before.1,
        )
  ]

  module _ (places : List ℕ) (noted : AreNoted nodes (length nodes) places) (node : ℕ) where
    pub noted_there : (k : ℕ) → k < length nodes → get_or nodes k 0 ≡ node → k ≡ place_in nodes node
    noted_there k less is = sym (place_at nodes k rise less) ∙ ap (place_in nodes) is

    pub noted_out : ((node < length places) → (get_or places node 0 < length nodes) →
        get_or nodes (get_or places node 0) 0 ≡ node → ⊥) → length nodes ≡ place_in nodes node
    noted_out none = sym (place_out nodes node (λ (k, less, is).
        let at : get_or nodes k 0 ≡ node = get_or_default nodes k 0 node less ∙ is in
        let both = noted k node less at in
        none both.0 (omega (arith, both.1, less)) (ap (λ j. get_or nodes j 0) both.1 ∙ at)))

-- ---- edges between nodes that are there

module _ (entry : Option ℕ) (next : List (List ℕ)) (nodes : List ℕ) where
  abbrev pub AreChosenEdges : ℕ → List (ℕ × ℕ) → Type 0
  AreChosenEdges k edges = (i j : ℕ) → Contains edges (i, j) ↔ ((i < k) × IsChosenEdge entry next nodes i j)

  pub chosen_none : AreChosenEdges 0 []
  chosen_none i j = ((λ (q, less, is). absurd (omega (arith, less))), (λ both. absurd (omega (arith, both.0))))

  pub chosen_more : (k : ℕ) (edges own extra after : List (ℕ × ℕ)) →
      own ≡ edges ++ map (λ m. (k, place_in nodes m)) (get_or next (get_or nodes k 0) []) → after ≡ own ++ extra →
      ((i j : ℕ) → Contains extra (i, j) ↔ ((i ≡ k) × IsEntry entry (get_or nodes k 0) × (j ≡ length nodes))) →
      AreChosenEdges k edges → AreChosenEdges (k + 1) after
  chosen_more k edges own extra after own_is after_is last h i j = (
    (λ within. elim (Contains-append_cases own extra (i, j) (subst (λ l. Contains l (i, j)) after_is within)) [
      | inl first ↦ elim (Contains-append_cases edges made (i, j) (subst (λ l. Contains l (i, j)) own_is first)) [
        | inl old ↦ let both = (h i j).0 old in (omega (arith, both.0), both.1)
        | inr new ↦
            let some = mapped_only (λ m. (k, place_in nodes m)) ends (i, j) new in
            let at : i ≡ k = ap (λ e. e.0) (sym some.4) in (
              omega (arith, at),
              inl (subst (λ n. Any (λ m. place_in nodes m ≡ j) (get_or next (get_or nodes n 0) [])) (sym at)
                  (some.0, some.1, some.2, some.3, ap (λ e. e.1) some.4)),
            )
      ]
      | inr new ↦
          let all = (last i j).0 new in (
            omega (arith, all.0),
            inr (subst (λ n. IsEntry entry (get_or nodes n 0)) (sym all.0) all.1, all.2),
          )
    ]),
    (λ both. subst (λ l. Contains l (i, j)) (sym after_is) (elim (cases_eq i k) [
      | inl here ↦ elim both.1 [
        | inl (q, m, less, is, placed) ↦
            Contains-append_left own extra (i, j) (subst (λ l. Contains l (i, j)) (sym own_is)
            (Contains-append_right edges made (i, j)
            (subst (Contains made) (ap (λ n. (n, place_in nodes m)) (sym here) ∙ ap (λ p. (i, p)) placed)
            (mapped_has (λ m. (k, place_in nodes m)) ends m
            (subst (λ n. Contains (get_or next (get_or nodes n 0) []) m) here (q, less, is))))))
        | inr out ↦ Contains-append_right own extra (i, j)
            ((last i j).1 (here, subst (λ n. IsEntry entry (get_or nodes n 0)) here out.0, out.1))
      ]
      | inr other ↦ Contains-append_left own extra (i, j) (subst (λ l. Contains l (i, j)) (sym own_is)
          (Contains-append_left edges made (i, j) ((h i j).1 (omega (arith, both.0, other), both.1))))
    ])),
  )
    where
      ends : List ℕ
      ends = get_or next (get_or nodes k 0) []

      made : List (ℕ × ℕ)
      made = map (λ m. (k, place_in nodes m)) ends

-- ---- an edge that may be there

pub where_is : (b : Bool) (Q : Type 0) (k last : ℕ) → (b ≡ true) ↔ Q → (i j : ℕ) →
    Contains {X = ℕ × ℕ} (cond b ((k, last) ∷ []) []) (i, j) ↔ ((i ≡ k) × Q × (j ≡ last))
where_is true Q k last is i j = (
  (λ within. elim (Contains-push_cases [] (k, last) (i, j) within) [
    | inl none ↦ absurd (omega (arith, none.1))
    | inr same ↦ (ap (λ e. e.0) (sym same), is.0 refl, ap (λ e. e.1) (sym same))
  ]),
  (λ all. (0, omega arith, ap (λ n. (n, last)) (sym all.0) ∙ ap (λ n. (i, n)) (sym all.2))),
)
where_is false Q k last is i j = (
  (λ within. absurd (omega (arith, within.1))),
  (λ all. absurd (false≢true (is.1 all.1))),
)

pub where_last : (b : Bool) (e : ℕ × ℕ) (F : Type 0) → (b ≡ true → F) → Contains (cond (not b) (e ∷ []) []) e ⊎ F
where_last true e F f = inr (f refl)
where_last false e F f = inl (0, omega arith, refl)

-- ---- what a search reaches from some numbers

module _ (first count last : ℕ) where
  numbers_are : (x : ℕ) → Contains (range_with_len first count ++ last ∷ []) x ↔ (((first ≤ x) × (x < first + count)) ⊎ (last ≡ x))
  numbers_are x = (
    (λ within. elim (Contains-push_cases (range_with_len first count) last x within) [
      | inl (k, less, is) ↦
          let low : k < count = omega (arith, less, length-range_with_len first count) in
          let at = get_or-range_with_len first count k x low in
          inl (omega (arith, is, at), omega (arith, is, at, low))
      | inr same ↦ inr same
    ]),
    (λ either. elim either [
      | inl both ↦
          let k = x - first in
          let low : k < count = omega (arith, both.0, both.1) in
          Contains-append_left (range_with_len first count) (last ∷ []) x
          (k, omega (arith, low, length-range_with_len first count), get_or-range_with_len first count k x low ∙ omega (arith, both.0))
      | inr same ↦ subst (Contains (range_with_len first count ++ last ∷ [])) same (Contains-push (range_with_len first count) last)
    ]),
  )

  pub numbers_inside : (all : ℕ) → first + count ≤ all → last < all →
      All (λ x. x < all) (range_with_len first count ++ last ∷ [])
  numbers_inside all most low k d less =
      elim ((numbers_are (get_or (range_with_len first count ++ last ∷ []) k d)).0
      (Contains-get_or (range_with_len first count ++ last ∷ []) k d less)) [
        | inl both ↦ omega (arith, both.1, most)
        | inr same ↦ omega (arith, same, low)
      ]

  pub numbers_have : (j : ℕ) → j < count → Contains (range_with_len first count ++ last ∷ []) (first + j)
  numbers_have j low = (numbers_are (first + j)).1 (inl (omega arith, omega (arith, low)))

  pub numbers_end : Contains (range_with_len first count ++ last ∷ []) last
  numbers_end = (numbers_are last).1 (inr refl)

pub spread_from : (spread : List (List ℕ)) (nodes places start count : ℕ) (set : List Bool) →
    length spread ≡ nodes + places + 1 →
    AreReached spread (range_with_len (nodes + start) count ++ (nodes + places) ∷ []) set →
    AreSpreadFrom spread nodes places start count (matches set true Unbounded (Excluded nodes))
spread_from spread nodes places start count set size r = record {
  rise = matches-rise set true Unbounded (Excluded nodes);
  inside = λ k d less. ltb-true _ _
      ((member (get_or (matches set true Unbounded (Excluded nodes)) k d)).0
      (Contains-get_or (matches set true Unbounded (Excluded nodes)) k d less)).1;
  starts = λ n j node low edge.
      let at : nodes + start + j ≡ nodes + (start + j) = omega arith in
      reached n node (along (at_start
      (subst (Contains (range_with_len (nodes + start) count ++ (nodes + places) ∷ [])) at
      (numbers_have (nodes + start) count (nodes + places) j low))) edge);
  last = λ n node edge. reached n node (along (at_start (numbers_end (nodes + start) count (nodes + places))) edge);
  along = λ n m node within edge. reached n node (along ((r.each m).0 ((member m).0 within).2) edge);
}
  where
    member : (n : ℕ) → Contains (matches set true Unbounded (Excluded nodes)) n
        ↔ ((n < length set) × IsTrue (within Unbounded (Excluded nodes) n) × (item set n ≡ true))
    member n = matches-exactly set true Unbounded (Excluded nodes) n

    reached : (n : ℕ) → n < nodes → Reaches spread (range_with_len (nodes + start) count ++ (nodes + places) ∷ []) n →
        Contains (matches set true Unbounded (Excluded nodes)) n
    reached n node way =
        let on = (r.each n).1 way in
        (member n).1 (true_inside set n on, lt-ltb n nodes node, on)
