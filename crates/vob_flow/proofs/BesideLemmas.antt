-- Parts of a problem side by side.
use Rattle.std.specs.List.{AllPairs, Contains, range_with_len}
use Rattle.std.proofs.Common.{◌≡◌, ◌↔◌, ℕ, zero, suc, ◌+◌, ◌-◌, ◌<◌, ◌≤◌, Bool, true, false, inl, inr}
use Rattle.std.proofs.Common.{List, [], ◌∷◌, ◌++◌, length, map, replicate, take, get_or, sym, ap, ◌∙◌, subst, arith, refl}
use Rattle.std.proofs.lemmas.Bool.{cases_lt}
use Rattle.std.proofs.lemmas.List.{ext_get_or, get_or-append-add, get_or_append_left, get_or-map, get_or-replicate, get_or-take, get_or_default, get_or_past, length-append, length-map, length-replicate, length-take-le}
use Rattle.std.proofs.lemmas.List.FromFn.{get_or-map-range_with_len, length-map-range_with_len}
use Rattle.vob_block.specs.Packing.{item}
use Rattle.vob.specs.Vobs.{AreOfLength}
use Rattle.vob.proofs.VobsLemmas.{of_length_at, of_length_replicate}
use Rattle.vob_rows.specs.Rows.{Matrix}
use Rattle.vob_rows.specs.Sparse.{AreWidened, SparseMatrix, members}
use Rattle.vob_rows.proofs.SparseLemmas.{cases_contains, members-append, members_none, members_same}
use Rattle.vob_flow.specs.declared.lists.Paths.{Paths}
use Rattle.vob_flow.specs.Parts.{AreSolvedBelow, Far, HoldThere, Near, value_of}
use Rattle.vob_flow.specs.Touched.{HoldAt, place_in}
use Rattle.vob_flow.proofs.TouchedLemmas.{place_at, place_out}

-- ---- rows of some nodes among those of all

-- the rows of some nodes, and unset bits at the others
abbrev pub padded : ℕ → ℕ → List ℕ → List (List Bool) → List (List Bool)
padded all count nodes rows =
    map (λ n. get_or (take (length nodes) rows) (place_in nodes n) (replicate count false)) (range_with_len 0 all)

module _ (all count : ℕ) (nodes : List ℕ) (rows : List (List Bool)) where
  padded_row : (n : ℕ) → n < all → get_or (padded all count nodes rows) n []
      ≡ get_or (take (length nodes) rows) (place_in nodes n) (replicate count false)
  padded_row n less = get_or-map-range_with_len
      (λ n. get_or (take (length nodes) rows) (place_in nodes n) (replicate count false)) 0 all n n [] less (omega arith)

  pub padded_there : AllPairs (λ n m. n < m) nodes → length nodes ≤ length rows → (n i : ℕ) → n < all →
      i < length nodes → get_or nodes i 0 ≡ n → get_or (padded all count nodes rows) n [] ≡ get_or rows i []
  padded_there rise enough n i less low is =
      let placed : place_in nodes n ≡ i = ap (place_in nodes) (sym is) ∙ place_at nodes i rise low in
      padded_row n less
      ∙ ap (λ k. get_or (take (length nodes) rows) k (replicate count false)) placed
      ∙ get_or-take (length nodes) rows i (replicate count false) low
      ∙ get_or_default rows i (replicate count false) [] (omega (arith, low, enough))

  pub padded_none : length nodes ≤ length rows → (n : ℕ) → n < all → (¬ Contains nodes n) →
      get_or (padded all count nodes rows) n [] ≡ replicate count false
  padded_none enough n less none =
      padded_row n less
      ∙ get_or_past (take (length nodes) rows) (place_in nodes n) (replicate count false)
      (omega (arith, place_out nodes n none, length-take-le (length nodes) rows enough))

pub HoldThere-padded : (value : Bool) (all count : ℕ) (nodes : List ℕ) (rows : List (List Bool)) (P : ℕ → ℕ → Type 0) →
    AllPairs (λ n m. n < m) nodes → HoldAt value nodes count P rows →
    ((n j : ℕ) → n < all → (¬ Contains nodes n) → j < count → (false ≡ value) ↔ P n j) →
    HoldThere value all count P (padded all count nodes rows)
HoldThere-padded value all count nodes rows P rise h out = record {
  count_is = count_is;
  long = λ n d less.
      let node : n < all = omega (arith, less, count_is) in
      ap length (get_or_default (padded all count nodes rows) n d [] less) ∙ elim (cases_contains nodes n) [
        | inl known ↦
            ap length (padded_there all count nodes rows rise h.enough n known.0 node known.1 (at n known))
            ∙ of_length_at count rows known.0 [] h.long (omega (arith, known.1, h.enough))
        | inr none ↦ ap length (padded_none all count nodes rows h.enough n node none) ∙ length-replicate count false
      ];
  each = λ n j node low. elim (cases_contains nodes n) [
    | inl known ↦
        let row = ap (λ bits. item bits j) (padded_there all count nodes rows rise h.enough n known.0 node known.1 (at n known)) in
        let is = h.each known.0 j known.1 low in (
          (λ e. subst (λ k. P k j) (at n known) (is.0 (sym row ∙ e))),
          (λ p. row ∙ is.1 (subst (λ k. P k j) (sym (at n known)) p)),
        )
    | inr none ↦
        let row = ap (λ bits. item bits j) (padded_none all count nodes rows h.enough n node none)
        ∙ get_or-replicate count j false false low in
        let is = out n j node none low in ((λ e. is.0 (sym row ∙ e)), (λ p. row ∙ is.1 p))
  ];
}
  where
    count_is : length (padded all count nodes rows) ≡ all
    count_is = length-map-range_with_len
        (λ n. get_or (take (length nodes) rows) (place_in nodes n) (replicate count false)) 0 all

    at : (n : ℕ) → (known : Contains nodes n) → get_or nodes known.0 0 ≡ n
    at n known = get_or_default nodes known.0 0 n known.1 ∙ known.2

-- ---- parts side by side

abbrev pub beside : List (List Bool) → List (List Bool) → List (List Bool)
beside low high = map (λ n. get_or low n [] ++ get_or high n []) (range_with_len 0 (length low))

beside_row : (low high : List (List Bool)) (n : ℕ) → n < length low →
    get_or (beside low high) n [] ≡ get_or low n [] ++ get_or high n []
beside_row low high n less =
    get_or-map-range_with_len (λ n. get_or low n [] ++ get_or high n []) 0 (length low) n n [] less (omega arith)

module _ (value : Bool) (nodes from count : ℕ) (P : ℕ → ℕ → Type 0) (low high : List (List Bool))
    (first : HoldThere value nodes from P low) (last : HoldThere value nodes count (λ n j. P n (from + j)) high) where
  row_long : (n : ℕ) → n < nodes → length (get_or low n []) ≡ from
  row_long n node = of_length_at from low n [] first.long (omega (arith, node, first.count_is))

  pub HoldThere-beside : HoldThere value nodes (from + count) P (beside low high)
  HoldThere-beside = record {
    count_is = length-map-range_with_len (λ n. get_or low n [] ++ get_or high n []) 0 (length low) ∙ first.count_is;
    long = λ n d less.
        let node : n < nodes = omega (
          arith,
          less,
          first.count_is,
          length-map-range_with_len (λ n. get_or low n [] ++ get_or high n []) 0 (length low),
        ) in
        omega (
          arith,
          ap length (get_or_default (beside low high) n d [] less),
          ap length (beside_row low high n (omega (arith, node, first.count_is))),
          length-append (get_or low n []) (get_or high n []),
          row_long n node,
          of_length_at count high n [] last.long (omega (arith, node, last.count_is)),
        );
    each = λ n v node less.
        let row = ap (λ bits. item bits v) (beside_row low high n (omega (arith, node, first.count_is))) in
        elim (cases_lt v from) [
          | inl early ↦
              let same = row ∙ get_or_append_left (get_or low n []) (get_or high n []) false v
              (omega (arith, early, row_long n node)) in
              let is = first.each n v node early in
              ((λ e. is.0 (sym same ∙ e)), (λ p. same ∙ is.1 p))
          | inr late ↦
              let at : from + (v - from) ≡ v = omega (arith, late) in
              let same = row ∙ ap (λ k. item (get_or low n [] ++ get_or high n []) k)
              (sym at ∙ ap (λ k. k + (v - from)) (sym (row_long n node)))
              ∙ get_or-append-add (get_or low n []) (get_or high n []) (v - from) false in
              let is = last.each n (v - from) node (omega (arith, late, less)) in
              ((λ e. subst (P n) at (is.0 (sym same ∙ e))), (λ p. same ∙ is.1 (subst (P n) (sym at) p)))
        ];
  }

-- the members of a list with unset bits behind it
members_filled : (xs : List Bool) (count : ℕ) → members (xs ++ replicate count false) ≡ members xs
members_filled xs count = members_same _ _ (λ i. elim (cases_lt i (length xs)) [
  | inl low ↦ get_or_append_left xs (replicate count false) false i low
  | inr past ↦
      let at : length xs + (i - length xs) ≡ i = omega (arith, past) in
      ap (λ k. item (xs ++ replicate count false) k) (sym at)
      ∙ get_or-append-add xs (replicate count false) (i - length xs) false
      ∙ filled (i - length xs) ∙ sym (get_or_past xs i false past)
])
  where
    filled : (k : ℕ) → item (replicate count false) k ≡ false
    filled k = elim (cases_lt k count) [
      | inl low ↦ get_or-replicate count k false false low
      | inr past ↦ get_or_past (replicate count false) k false (omega (arith, past, length-replicate count false))
    ]

-- what sparse rows hold as those of some nodes are put behind their own
pub members_beside : (low rows : List (List Bool)) (nodes : List ℕ) (count columns wide : ℕ)
    (before after : SparseMatrix) → AreOfLength columns low → before.columns ≡ columns →
    length nodes ≤ length rows → AllPairs (λ n m. n < m) nodes → before.rows ≡ map members low →
    AreWidened before nodes (record { rows = rows; columns = wide }) after →
    after.rows ≡ map members (beside low (padded (length low) count nodes rows))
members_beside low rows nodes count columns wide before after long is enough rise same w =
    ext_get_or [] after.rows (map members (beside low high))
    (w.count ∙ ap length same ∙ length-map low members ∙ sym (length-map (beside low high) members ∙ sides_count))
    (λ n less.
    let node : n < length low = omega (arith, less, w.count, ap length same, length-map low members) in
    let own : get_or before.rows n [] ≡ members (get_or low n []) =
    ap (λ rows. get_or rows n []) same ∙ get_or-map members low n [] [] node in
    elim (cases_contains nodes n) [
      | inl known ↦
          let i = known.0 in
          let at : get_or nodes i 0 ≡ n = get_or_default nodes i 0 n known.1 ∙ known.2 in
          w.each i n known.1 at
          ∙ ap (λ (l : List ℕ). l ++ map (λ i. before.columns + i) (members (get_or rows i []))) own
          ∙ ap (λ k. members (get_or low n []) ++ map (λ i. k + i) (members (get_or rows i [])))
          (is ∙ sym (of_length_at columns low n [] long node))
          ∙ ap (λ bits. members (get_or low n []) ++ map (λ i. length (get_or low n []) + i) (members bits))
          (sym (padded_there (length low) count nodes rows rise enough n i node known.1 at))
          ∙ sym (members-append (get_or low n []) (get_or high n []))
          ∙ row n node
      | inr none ↦
          w.others_stay n none ∙ own ∙ sym (members_filled (get_or low n []) count)
          ∙ ap (λ bits. members (get_or low n [] ++ bits)) (sym (padded_none (length low) count nodes rows enough n node none))
          ∙ row n node
    ])
  where
    high : List (List Bool)
    high = padded (length low) count nodes rows

    sides_count : length (beside low high) ≡ length low
    sides_count = length-map-range_with_len (λ n. get_or low n [] ++ get_or high n []) 0 (length low)

    row : (n : ℕ) → n < length low →
        members (get_or low n [] ++ get_or high n []) ≡ get_or (map members (beside low high)) n []
    row n node = ap members (sym (beside_row low high n node))
        ∙ sym (get_or-map members (beside low high) n [] [] (omega (arith, node, sides_count)))

module _ (next : List (List ℕ)) (mask : ℕ → ℕ → Bool) (gens : List (List Bool)) (paths : Paths) where
  empty : (value : Bool) (P : ℕ → ℕ → Type 0) (nodes : ℕ) → HoldThere value nodes 0 P (replicate nodes [])
  empty value P nodes = record {
    count_is = length-replicate nodes [];
    long = of_length_replicate 0 nodes [] refl;
    each = λ n v node less. absurd (omega (arith, less));
  }

  empty_members : (nodes : ℕ) → replicate {A = List ℕ} nodes [] ≡ map members (replicate nodes [])
  empty_members zero = refl
  empty_members (suc nodes) = ap (λ l. [] ∷ l) (empty_members nodes)
      ∙ ap (λ xs. xs ∷ map members (replicate nodes [])) (sym members_none)

  pub below_none : (near far : SparseMatrix) → near.rows ≡ replicate (length next) [] → near.columns ≡ 0 →
      far.rows ≡ replicate (length next) [] → far.columns ≡ 0 → AreSolvedBelow next mask gens paths 0 near far
  below_none near far near_rows near_columns far_rows far_columns = record {
    near_sets = replicate (length next) [];
    far_sets = replicate (length next) [];
    near_hold = empty true (Near next mask gens paths) (length next);
    far_hold = empty (value_of paths) (Far next mask gens paths) (length next);
    near_is = near_rows ∙ empty_members (length next);
    far_is = far_rows ∙ empty_members (length next);
    near_columns = near_columns;
    far_columns = far_columns;
  }

  pub below_more : (columns count : ℕ) (nodes : List ℕ) (near far : SparseMatrix) (near_part far_part : Matrix)
      (near_after far_after : SparseMatrix) → AllPairs (λ n m. n < m) nodes →
      AreSolvedBelow next mask gens paths columns near far →
      HoldAt true nodes count (λ n j. Near next mask gens paths n (columns + j)) near_part.rows →
      HoldAt (value_of paths) nodes count (λ n j. Far next mask gens paths n (columns + j)) far_part.rows →
      ((n j : ℕ) → n < length next → (¬ Contains nodes n) → j < count →
      (false ≡ true) ↔ Near next mask gens paths n (columns + j)) →
      ((n j : ℕ) → n < length next → (¬ Contains nodes n) → j < count →
      (false ≡ value_of paths) ↔ Far next mask gens paths n (columns + j)) →
      near_part.columns ≡ count → far_part.columns ≡ count →
      AreWidened near nodes near_part near_after → AreWidened far nodes far_part far_after →
      AreSolvedBelow next mask gens paths (columns + count) near_after far_after
  below_more columns count nodes near far near_part far_part near_after far_after rise h near_h far_h near_out far_out near_wide far_wide w w' = record {
    near_sets = beside h.near_sets (padded (length next) count nodes near_part.rows);
    far_sets = beside h.far_sets (padded (length next) count nodes far_part.rows);
    near_hold = HoldThere-beside true (length next) columns count (Near next mask gens paths) h.near_sets _ h.near_hold
        (HoldThere-padded true (length next) count nodes near_part.rows _ rise near_h near_out);
    far_hold = HoldThere-beside (value_of paths) (length next) columns count (Far next mask gens paths) h.far_sets _ h.far_hold
        (HoldThere-padded (value_of paths) (length next) count nodes far_part.rows _ rise far_h far_out);
    near_is = subst (λ n. near_after.rows ≡ map members (beside h.near_sets (padded n count nodes near_part.rows))) h.near_hold.count_is
        (members_beside h.near_sets near_part.rows nodes count columns near_part.columns near near_after h.near_hold.long
        h.near_columns near_h.enough rise h.near_is w);
    far_is = subst (λ n. far_after.rows ≡ map members (beside h.far_sets (padded n count nodes far_part.rows))) h.far_hold.count_is
        (members_beside h.far_sets far_part.rows nodes count columns far_part.columns far far_after h.far_hold.long
        h.far_columns far_h.enough rise h.far_is w');
    near_columns = w.columns ∙ ap (λ k. k + near_part.columns) h.near_columns ∙ ap (λ k. columns + k) near_wide;
    far_columns = w'.columns ∙ ap (λ k. k + far_part.columns) h.far_columns ∙ ap (λ k. columns + k) far_wide;
  }
