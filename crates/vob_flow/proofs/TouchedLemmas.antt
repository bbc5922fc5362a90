-- Problems at the nodes to which places of a part may come.
use Rattle.std.specs.List.{All, AllPairs, Any, Contains}
use Rattle.std.proofs.Common.{◌≡◌, ◌↔◌, ◌⊎◌, ◌==◌, ℕ, ◌+◌, ◌<◌, ◌≤◌, Bool, true, false, inl, inr, Option, None, Some}
use Rattle.std.proofs.Common.{List, [], ◌∷◌, length, get_or, refl, sym, ap, ◌∙◌, subst, arith, eq-eqb, eqb-true}
use Rattle.std.proofs.lemmas.Bool.{and_right, cases_eq, cases_lt, false≢true, ne_eqb}
use Rattle.std.proofs.lemmas.List.{get_or_default}
use Rattle.std.proofs.lemmas.List.Elements.{All-contains, Contains-get_or}
use Rattle.std.proofs.lemmas.List.Sums.{fails_before_first, passes_at_first, position_or_len_is, prefix_len-le-length}
use Rattle.vob_rows.specs.Graph.{IsReversed, LeadToNodes}
use Rattle.vob_rows.proofs.SparseLemmas.{cases_contains}
use Rattle.vob_flow.specs.Available.{IsEntry}
use Rattle.vob_flow.specs.Draws.{Comes, IsIn}
use Rattle.vob_flow.specs.Draws.Comes.{starts_in, drawn}
use Rattle.vob_flow.specs.Greatest.{away}
use Rattle.vob_flow.specs.Greatest.Misses.{dropped, missed}
use Rattle.vob_flow.specs.Lists.{sets_of}
use Rattle.vob_flow.specs.Parts.{DrawsNear, Far, HoldThere, HoldsNear, MissesFar, Near, value_of}
use Rattle.vob_flow.specs.Reach.{Reaches}
use Rattle.vob_flow.specs.Reach.Reaches.{at_start, along}
use Rattle.vob_flow.specs.Touched.{AreSpreadFrom, AreTouched, HoldAt, IsChosen, IsSpread, entry_of, inner_paths, place_in}
use Rattle.vob_flow.specs.declared.lists.Paths.{Paths}
use Rattle.vob_flow.specs.declared.lists.Paths.TheVariants.{Some as SomePath, All as AllPaths, AllFrom}
use Rattle.vob_flow.proofs.AnyLemmas.{Any-contained, edge_inside}
use Rattle.vob_flow.proofs.GreatestLemmas.{mask_at_entry, mask_away}
use Rattle.vob_flow.proofs.PartsLemmas.{sets_are}
use Rattle.vob_flow.proofs.WayLemmas.{alone}

-- ---- places of nodes in a list

module _ (nodes : List ℕ) (m : ℕ) where
  pub place_le : place_in nodes m ≤ length nodes
  place_le = prefix_len-le-length _ nodes

  pub place_there : place_in nodes m < length nodes → get_or nodes (place_in nodes m) 0 ≡ m
  place_there low = eqb-true _ m (passes_at_first (λ n. n == m) nodes 0 low)

  pub place_contains : Contains nodes m → place_in nodes m < length nodes
  place_contains (k, less, is) = elim (cases_lt (place_in nodes m) (length nodes)) [
    | inl low ↦ low
    | inr past ↦ absurd (false≢true (sym (fails_before_first (λ n. n == m) nodes k m (omega (arith, less, past))) ∙ eq-eqb _ m is))
  ]

  pub place_out : (¬ Contains nodes m) → place_in nodes m ≡ length nodes
  place_out none = elim (cases_lt (place_in nodes m) (length nodes)) [
    | inl low ↦ absurd (none (place_in nodes m, low, get_or_default nodes (place_in nodes m) m 0 low ∙ place_there low))
    | inr past ↦ omega (arith, past, place_le)
  ]

pub place_at : (nodes : List ℕ) (i : ℕ) → AllPairs (λ n m. n < m) nodes → i < length nodes →
    place_in nodes (get_or nodes i 0) ≡ i
place_at nodes i rise less = position_or_len_is _ nodes i 0 (omega (arith, less))
    (λ k low. ne_eqb _ _ (λ e. omega (arith, e, rise k i 0 low less))) (λ low. eq-eqb _ _ refl)

-- ---- where no place of a part comes

module _ (next : List (List ℕ)) (mask : ℕ → ℕ → Bool) (places : ℕ) (generates users : List (List ℕ)) (start count : ℕ)
    (nodes : List ℕ) (fit : length generates ≡ length next) (lead : LeadToNodes next (length next))
    (back : IsReversed next users)
    (starts : (n j : ℕ) → n < length next → j < count → Contains (get_or generates n []) (start + j) → Contains nodes n)
    (onward : (n m : ℕ) → n < length next → Contains nodes m → Contains (get_or next n []) m → Contains nodes n) where
  abbrev gens : List (List Bool)
  gens = sets_of places generates

  gen_touched : (n j : ℕ) → j < count → IsIn (sets_of places generates) n (start + j) → Contains nodes n
  gen_touched n j low e =
      let both = (sets_are places generates n (start + j)).0 e in
      starts n j (omega (arith, edge_inside generates n (start + j) both.1, fit)) low both.1

  pub comes_touched : {n v : ℕ} (j : ℕ) → j < count → v ≡ start + j → Comes next mask (sets_of places generates) n v →
      Contains nodes n
  comes_touched {n} j low same (starts_in e) = gen_touched n j low (subst (IsIn gens n) same e)
  comes_touched {n} j low same (drawn {m = m} keeps within c) =
      onward n m (edge_inside next n m within) (comes_touched j low same c) within

  pub near_touched : (n j : ℕ) → j < count → DrawsNear next mask (sets_of places generates) n (start + j) → Contains nodes n
  near_touched n j low some =
      let within : Contains (get_or next n []) some.1 = (some.0, some.2, some.3) in
      onward n some.1 (edge_inside next n some.1 within) (comes_touched j low refl some.4) within

  module _ (entry : Option ℕ) (from : ℕ) (is : IsEntry entry from) where
    pub misses_apart : {n : ℕ} → Reaches users (from ∷ []) n → n < length next → (¬ Contains nodes n) →
        (j : ℕ) → j < count → MissesFar next mask (sets_of places generates) entry n (start + j)
    misses_apart {n} (at_start within) node none j low =
        dropped (λ e. none (gen_touched n j low e))
        (mask_at_entry entry mask n (start + j) (subst (IsEntry entry) (alone from n within) is))
    misses_apart {n} (along {n = m} way edge) node none j low =
        let within = (back.each m n).0 edge in
        missed (λ e. none (gen_touched n j low e)) within
        (misses_apart way (All-contains (λ m. m < length next) (get_or next n []) m (lead n node) within)
        (λ there. none (onward n m node there within)) j low)

    pub near_apart : {n : ℕ} → Reaches users (from ∷ []) n → n < length next → (¬ Contains nodes n) →
        (j : ℕ) → j < count → HoldsNear next mask (sets_of places generates) entry n (start + j) → ⊥
    near_apart {n} (at_start within) node none j low holds =
        holds.0 (subst (IsEntry entry) (alone from n within) is)
    near_apart {n} (along {n = m} way edge) node none j low holds =
        let within = (back.each m n).0 edge in
        All-contains (λ m. ¬ MissesFar next mask (sets_of places generates) entry m (start + j)) (get_or next n []) m holds.1 within
        (misses_apart way (All-contains (λ m. m < length next) (get_or next n []) m (lead n node) within)
        (λ there. none (onward n m node there within)) j low)

-- what a problem asks of them
module _ (paths : Paths) (next : List (List ℕ)) (mask : ℕ → ℕ → Bool) (places : ℕ) (generates : List (List ℕ))
    (start count : ℕ) (nodes : List ℕ) (fit : length generates ≡ length next) (lead : LeadToNodes next (length next))
    (t : AreTouched paths next generates start count nodes)
    (n j : ℕ) (node : n < length next) (none : ¬ Contains nodes n) (low : j < count) where
  pub far_apart : (false ≡ value_of paths) ↔ Far next mask (sets_of places generates) paths n (start + j)
  far_apart = at paths t
    where
      at : (paths : Paths) → AreTouched paths next generates start count nodes →
          (false ≡ value_of paths) ↔ Far next mask (sets_of places generates) paths n (start + j)
      at SomePath t = (
        (λ e. absurd (false≢true e)),
        (λ c. absurd (none (comes_touched next mask places generates t.users start count nodes fit lead t.back t.starts t.along j low refl c))),
      )
      at AllPaths t = ((λ e. absurd (t.fed n node none)), (λ c. refl))
      at (AllFrom entry) t = (
        (λ e. misses_apart next mask places generates t.users start count nodes fit lead t.back t.starts t.along
            (Some entry) entry refl (t.fed n node none) node none j low),
        (λ c. refl),
      )

  pub near_none : (false ≡ true) ↔ Near next mask (sets_of places generates) paths n (start + j)
  near_none = at paths t
    where
      at : (paths : Paths) → AreTouched paths next generates start count nodes →
          (false ≡ true) ↔ Near next mask (sets_of places generates) paths n (start + j)
      at SomePath t = (
        (λ e. absurd (false≢true e)),
        (λ c. absurd (none (near_touched next mask places generates t.users start count nodes fit lead t.back t.starts t.along n j low c))),
      )
      at AllPaths t = ((λ e. absurd (false≢true e)), (λ c. absurd (t.fed n node none)))
      at (AllFrom entry) t = (
        (λ e. absurd (false≢true e)),
        (λ c. absurd (near_apart next mask places generates t.users start count nodes fit lead t.back t.starts t.along
            (Some entry) entry refl (t.fed n node none) node none j low c)),
      )

-- ---- the graph that the nodes make

module _ (next : List (List ℕ)) (mask : ℕ → ℕ → Bool) (gens : List (List Bool)) (start count : ℕ) (nodes : List ℕ)
    (rise : AllPairs (λ n m. n < m) nodes) (entry : Option ℕ) (own : List (List ℕ)) (g : IsChosen entry next nodes own)
    (part : ℕ → ℕ → Bool) (own_gens : List (List Bool))
    (gens_same : (i j : ℕ) → j < count → IsIn own_gens i j
    ↔ ((i < length nodes) × IsIn gens (get_or nodes i 0) (start + j)))
    (mask_same : (i j : ℕ) → i < length nodes → j < count → part i j ≡ mask (get_or nodes i 0) (start + j)) where
  abbrev at : ℕ → ℕ
  at i = get_or nodes i 0

  -- an edge to a node that is there
  edge_there : (i n m : ℕ) → i < length nodes → at i ≡ n → Contains (get_or next n []) m →
      Contains (get_or own i []) (place_in nodes m)
  edge_there i n m less is within = (g.each i (place_in nodes m)).1 (
    less,
    inl (Any-contained (λ k. place_in nodes k ≡ place_in nodes m) (get_or next (at i) []) m
        (subst (λ k. Contains (get_or next k []) m) (sym is) within) refl),
  )

  module _ (closed : (n v j : ℕ) → j < count → v ≡ start + j → Comes next mask gens n v → Contains nodes n) where
    comes_up : {i j : ℕ} → j < count → Comes own part own_gens i j →
        (i < length nodes) × Comes next mask gens (get_or nodes i 0) (start + j)
    comes_up {i} {j} low (starts_in e) =
        let both = (gens_same i j low).0 e in (both.0, starts_in both.1)
    comes_up {i} {j} low (drawn {m = k} keeps within c) =
        let edge = (g.each i k).0 within in
        let up = comes_up low c in (
          edge.0,
          elim edge.1 [
            | inl (q, m, less, is, placed) ↦
                let same : at k ≡ m = ap at (sym placed) ∙ place_there nodes m (omega (arith, placed, up.0)) in
                drawn (sym (mask_same i j edge.0 low) ∙ keeps) (q, less, is)
                (subst (λ n. Comes next mask gens n (start + j)) same up.1)
            | inr last ↦ absurd (omega (arith, up.0, last.1))
          ],
        )

    comes_down : {n v : ℕ} (i j : ℕ) → i < length nodes → get_or nodes i 0 ≡ n → j < count → v ≡ start + j →
        Comes next mask gens n v → Comes own part own_gens i j
    comes_down i j less is low same (starts_in e) =
        starts_in ((gens_same i j low).1 (less, subst (λ n. IsIn gens n (start + j)) (sym is) (subst (IsIn gens _) same e)))
    comes_down {n} {v} i j less is low same (drawn {m = m} keeps within c) =
        let there = place_contains nodes m (closed m v j low same c) in
        drawn (mask_same i j less low ∙ subst (λ k. mask k (start + j) ≡ true) (sym is) (subst (λ u. mask n u ≡ true) same keeps))
        (edge_there i n m less is within)
        (comes_down (place_in nodes m) j there (place_there nodes m there) low same c)

    pub comes_chosen : (i j : ℕ) → i < length nodes → j < count →
        Comes own part own_gens i j ↔ Comes next mask gens (get_or nodes i 0) (start + j)
    comes_chosen i j less low = ((λ c. (comes_up low c).1), (λ c. comes_down i j less refl low refl c))

    pub drawn_chosen : (i j : ℕ) → i < length nodes → j < count →
        DrawsNear own part own_gens i j ↔ DrawsNear next mask gens (get_or nodes i 0) (start + j)
    drawn_chosen i j less low = (
      (λ (k, p, inside, is, c).
          let edge = (g.each i p).0 (k, inside, is) in
          let up = comes_up low c in
          elim edge.1 [
            | inl (q, m, small, there, placed) ↦
                let same : at p ≡ m = ap at (sym placed) ∙ place_there nodes m (omega (arith, placed, up.0)) in
                (q, m, small, there, subst (λ n. Comes next mask gens n (start + j)) same up.1)
            | inr last ↦ absurd (omega (arith, up.0, last.1))
          ]),
      (λ (q, m, small, there, c).
          let within = place_contains nodes m (closed m (start + j) j low refl c) in
          Any-contained (λ k. Comes own part own_gens k j) (get_or own i []) (place_in nodes m)
          (edge_there i (at i) m less refl (q, small, there))
          (comes_down (place_in nodes m) j within (place_there nodes m within) low refl c)),
    )

  -- on all paths: the last node stands for those that aren't there, at which all is missing
  module _ (lead : LeadToNodes next (length next)) (inside : All (λ n. n < length next) nodes)
      (apart : (n j : ℕ) → n < length next → (¬ Contains nodes n) → j < count → MissesFar next mask gens entry n (start + j)) where
    abbrev last : ℕ
    last = length nodes

    last_misses : (j : ℕ) → j < count → MissesFar own part own_gens (Some (length nodes)) (length nodes) j
    last_misses j low = dropped (λ e. let both = (gens_same last j low).0 e in omega (arith, both.0))
        (mask_at_entry (Some last) part last j refl)

    -- what a node draws from misses a place there if it does here
    edge_misses : (i j k : ℕ) → i < length nodes → j < count → Contains (get_or own i []) k →
        (k < length nodes → MissesFar next mask gens entry (get_or nodes k 0) (start + j)) →
        IsEntry entry (get_or nodes i 0)
        ⊎ Any (λ m. MissesFar next mask gens entry m (start + j)) (get_or next (get_or nodes i 0) [])
    edge_misses i j k less low within there =
        let edge = (g.each i k).0 within in
        elim edge.1 [
          | inl (q, m, small, is, placed) ↦ inr (
            q,
            m,
            small,
            is,
            elim (cases_contains nodes m) [
              | inl known ↦
                  let low_place = place_contains nodes m known in
                  let same : at k ≡ m = ap at (sym placed) ∙ place_there nodes m low_place in
                  subst (λ n. MissesFar next mask gens entry n (start + j)) same (there (omega (arith, placed, low_place)))
              | inr none ↦
                  apart m j (All-contains (λ m. m < length next) (get_or next (at i) []) m (lead (at i) (inside i 0 less)) (q, small, is)) none low
            ],
          )
          | inr here ↦ inl here.0
        ]

    misses_up : {i j : ℕ} → j < count → MissesFar own part own_gens (Some (length nodes)) i j → i < length nodes →
        MissesFar next mask gens entry (get_or nodes i 0) (start + j)
    misses_up {i} {j} low (dropped new drops) less =
        dropped (λ e. new ((gens_same i j low).1 (less, e)))
        (away_false entry mask (at i) (start + j) (sym (mask_same i j less low)
        ∙ sym (mask_away (Some last) part i j (λ e. omega (arith, less, e))) ∙ drops))
      where
        away_false : (entry : Option ℕ) (mask : ℕ → ℕ → Bool) (n v : ℕ) → mask n v ≡ false → away entry mask n v ≡ false
        away_false None mask n v off = off
        away_false (Some own) mask n v off = and_right _ _ off
    misses_up {i} {j} low (missed {m = k} new within c) less =
        let fresh : ¬ IsIn gens (at i) (start + j) = λ e. new ((gens_same i j low).1 (less, e)) in
        elim (edge_misses i j k less low within (λ there. misses_up low c there)) [
          | inl here ↦ dropped fresh (mask_at_entry entry mask (at i) (start + j) here)
          | inr (q, m, small, is, miss) ↦ missed fresh (q, small, is) miss
        ]

    misses_down : {n v : ℕ} (i j : ℕ) → i < length nodes → get_or nodes i 0 ≡ n → j < count → v ≡ start + j →
        MissesFar next mask gens entry n v → MissesFar own part own_gens (Some (length nodes)) i j
    misses_down {n} {v} i j less is low same (dropped new drops) =
        elim (cases_entry entry (at i)) [
          | inl here ↦ missed (fresh_own i j n v is same low new) ((g.each i last).1 (less, inr (here, refl))) (last_misses j low)
          | inr other ↦ dropped (fresh_own i j n v is same low new)
              (mask_away (Some last) part i j (λ e. omega (arith, less, e)) ∙ mask_same i j less low
              ∙ sym (mask_away entry mask (at i) (start + j) other)
              ∙ subst (λ k. away entry mask k (start + j) ≡ false) (sym is) (subst (λ u. away entry mask n u ≡ false) same drops))
        ]
      where
        fresh_own : (i j n v : ℕ) → get_or nodes i 0 ≡ n → v ≡ start + j → j < count → (¬ IsIn gens n v) → ¬ IsIn own_gens i j
        fresh_own i j n v is same low new e =
            new (subst (IsIn gens n) (sym same) (subst (λ k. IsIn gens k (start + j)) is ((gens_same i j low).0 e).1))

        cases_entry : (entry : Option ℕ) (n : ℕ) → IsEntry entry n ⊎ (¬ IsEntry entry n)
        cases_entry None n = inr (λ e. e)
        cases_entry (Some own) n = cases_eq n own
    misses_down {n} {v} i j less is low same (missed {m = m} new within c) =
        missed (λ e. new (subst (IsIn gens n) (sym same) (subst (λ k. IsIn gens k (start + j)) is ((gens_same i j low).0 e).1)))
        (edge_there i n m less is within)
        (elim (cases_contains nodes m) [
          | inl known ↦
              let there = place_contains nodes m known in
              misses_down (place_in nodes m) j there (place_there nodes m there) low same c
          | inr none ↦ subst (λ k. MissesFar own part own_gens (Some last) k j) (sym (place_out nodes m none)) (last_misses j low)
        ])

    pub misses_chosen : (i j : ℕ) → i < length nodes → j < count →
        MissesFar own part own_gens (Some (length nodes)) i j ↔ MissesFar next mask gens entry (get_or nodes i 0) (start + j)
    misses_chosen i j less low = ((λ c. misses_up low c less), (λ c. misses_down i j less refl low refl c))

    pub holds_chosen : (i j : ℕ) → i < length nodes → j < count →
        HoldsNear own part own_gens (Some (length nodes)) i j ↔ HoldsNear next mask gens entry (get_or nodes i 0) (start + j)
    holds_chosen i j less low = (
      (λ both. (
        (λ here. All-contains (λ k. ¬ MissesFar own part own_gens (Some last) k j) (get_or own i []) last both.1
            ((g.each i last).1 (less, inr (here, refl))) (last_misses j low)),
        (λ q d small c.
            let m = get_or (get_or next (at i) []) q d in
            let within = Contains-get_or (get_or next (at i) []) q d small in
            All-contains (λ k. ¬ MissesFar own part own_gens (Some last) k j) (get_or own i []) (place_in nodes m) both.1
            (edge_there i (at i) m less refl within)
            (elim (cases_contains nodes m) [
              | inl known ↦
                  let there = place_contains nodes m known in
                  misses_down (place_in nodes m) j there (place_there nodes m there) low refl c
              | inr none ↦ subst (λ k. MissesFar own part own_gens (Some last) k j) (sym (place_out nodes m none)) (last_misses j low)
            ])),
      )),
      (λ both. (
        (λ e. omega (arith, less, e)),
        (λ q d small c.
            let k = get_or (get_or own i []) q d in
            elim (edge_misses i j k less low (Contains-get_or (get_or own i []) q d small) (λ there. misses_up low c there)) [
              | inl here ↦ both.0 here
              | inr (p, m, inside, is, miss) ↦
                  All-contains (λ m. ¬ MissesFar next mask gens entry m (start + j)) (get_or next (at i) []) m both.1 (p, inside, is) miss
            ]),
      )),
    )

-- ---- what a problem asks of the nodes

module _ (next : List (List ℕ)) (mask : ℕ → ℕ → Bool) (places : ℕ) (generates : List (List ℕ))
    (start count : ℕ) (nodes : List ℕ) (fit : length generates ≡ length next) (lead : LeadToNodes next (length next))
    (own : List (List ℕ)) (part : ℕ → ℕ → Bool) (own_gens : List (List Bool))
    (gens_same : (i j : ℕ) → j < count → IsIn own_gens i j
    ↔ ((i < length nodes) × IsIn (sets_of places generates) (get_or nodes i 0) (start + j)))
    (mask_same : (i j : ℕ) → i < length nodes → j < count → part i j ≡ mask (get_or nodes i 0) (start + j)) where
  abbrev gens_all : List (List Bool)
  gens_all = sets_of places generates

  far_chosen : (paths : Paths) → AreTouched paths next generates start count nodes →
      IsChosen (entry_of paths) next nodes own → (i j : ℕ) → i < length nodes → j < count →
      Far own part own_gens (inner_paths paths (length nodes)) i j
      ↔ Far next mask (sets_of places generates) paths (get_or nodes i 0) (start + j)
  far_chosen SomePath t g = comes_chosen next mask gens_all start count nodes t.rise None own g part own_gens gens_same mask_same
      (λ n v j low same c. comes_touched next mask places generates t.users start count nodes fit lead t.back t.starts t.along j low same c)
  far_chosen AllPaths t g = misses_chosen next mask gens_all start count nodes t.rise None own g part own_gens gens_same mask_same
      lead t.inside (λ n j node none low. (far_apart AllPaths next mask places generates start count nodes fit lead t n j node none low).0 refl)
  far_chosen (AllFrom entry) t g = misses_chosen next mask gens_all start count nodes t.rise (Some entry) own g part own_gens gens_same mask_same
      lead t.inside (λ n j node none low.
      (far_apart (AllFrom entry) next mask places generates start count nodes fit lead t n j node none low).0 refl)

  near_chosen : (paths : Paths) → AreTouched paths next generates start count nodes →
      IsChosen (entry_of paths) next nodes own → (i j : ℕ) → i < length nodes → j < count →
      Near own part own_gens (inner_paths paths (length nodes)) i j
      ↔ Near next mask (sets_of places generates) paths (get_or nodes i 0) (start + j)
  near_chosen SomePath t g = drawn_chosen next mask gens_all start count nodes t.rise None own g part own_gens gens_same mask_same
      (λ n v j low same c. comes_touched next mask places generates t.users start count nodes fit lead t.back t.starts t.along j low same c)
  near_chosen AllPaths t g = holds_chosen next mask gens_all start count nodes t.rise None own g part own_gens gens_same mask_same
      lead t.inside (λ n j node none low. (far_apart AllPaths next mask places generates start count nodes fit lead t n j node none low).0 refl)
  near_chosen (AllFrom entry) t g = holds_chosen next mask gens_all start count nodes t.rise (Some entry) own g part own_gens gens_same mask_same
      lead t.inside (λ n j node none low.
      (far_apart (AllFrom entry) next mask places generates start count nodes fit lead t n j node none low).0 refl)

  value_same : (paths : Paths) → value_of (inner_paths paths (length nodes)) ≡ value_of paths
  value_same SomePath = refl
  value_same AllPaths = refl
  value_same (AllFrom entry) = refl

  module _ (paths : Paths) (t : AreTouched paths next generates start count nodes)
      (g : IsChosen (entry_of paths) next nodes own) (rows : List (List Bool)) where
    pub far_at : HoldThere (value_of (inner_paths paths (length nodes))) (length own) count
        (Far own part own_gens (inner_paths paths (length nodes))) rows →
        HoldAt (value_of paths) nodes count (λ n j. Far next mask (sets_of places generates) paths n (start + j)) rows
    far_at h = record {
      enough = omega (arith, h.count_is, g.count);
      long = h.long;
      each = λ i j less low.
          let is = h.each i j (omega (arith, less, g.count)) low in
          let same = far_chosen paths t g i j less low in
          ((λ e. same.0 (is.0 (e ∙ sym (value_same paths)))), (λ f. is.1 (same.1 f) ∙ value_same paths));
    }

    pub near_at : HoldThere true (length own) count (Near own part own_gens (inner_paths paths (length nodes))) rows →
        HoldAt true nodes count (λ n j. Near next mask (sets_of places generates) paths n (start + j)) rows
    near_at h = record {
      enough = omega (arith, h.count_is, g.count);
      long = h.long;
      each = λ i j less low.
          let is = h.each i j (omega (arith, less, g.count)) low in
          let same = near_chosen paths t g i j less low in
          ((λ e. same.0 (is.0 e)), (λ f. is.1 (same.1 f)));
    }

-- ---- the nodes to which places spread

pub AreTouched-spread : (paths : Paths) (next generates spread : List (List ℕ)) (places start count : ℕ)
    (list : List ℕ) → start + count ≤ places → IsSpread paths next generates places spread →
    AreSpreadFrom spread (length next) places start count list →
    AreTouched paths next generates start count list
AreTouched-spread paths next generates spread places start count list inside s f = record {
  users = s.users;
  back = s.back;
  rise = f.rise;
  inside = f.inside;
  starts = λ n j node low within. f.starts n j node low (s.edges.starts n (start + j) node within);
  along = λ n m node there within. f.along n m node there (s.edges.draws n m node within);
  fed = λ n node none. elim (s.edges.others n node) [
    | inl edge ↦ absurd (none (f.last n node edge))
    | inr fed ↦ fed
  ];
}
