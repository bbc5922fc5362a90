-- Problems that are solved for some places at a time.
use Rattle.std.specs.List.{Any, Contains, list_any, range_with_len}
use Rattle.std.proofs.Common.{◌≡◌, ◌↔◌, ◌⊎◌, ◌==◌, ℕ, ◌+◌, ◌-◌, ◌<◌, Bool, true, false, not, inl, inr, Option, None, Some}
use Rattle.std.proofs.Common.{List, [], length, map, take, get_or, refl, sym, ap, ◌∙◌, subst, arith, eq-eqb}
use Rattle.std.proofs.lemmas.Bool.{cases_Bool, cases_eq, cases_lt, false≢true, false_from_ne_true, ne_eqb}
use Rattle.std.proofs.lemmas.List.{get_or-map, get_or_default, get_or_past, length-map}
use Rattle.std.proofs.lemmas.List.Elements.{Contains-get_or}
use Rattle.std.proofs.lemmas.List.Folds.{Any-from_list_any, list_any-from_Any}
use Rattle.std.proofs.lemmas.List.FromFn.{get_or-map-range_with_len, length-map-range_with_len}
use Rattle.vob_block.specs.Packing.{item}
use Rattle.vob_block.proofs.PackingLemmas.{true_inside}
use Rattle.vob.specs.Vobs.{AreOfLength}
use Rattle.vob.proofs.BitsLemmas.{row_inside}
use Rattle.vob.proofs.VobsLemmas.{of_length_at}
use Rattle.vob_rows.specs.Graph.{LeadToNodes}
use Rattle.vob_rows.specs.Sparse.{SparseMatrix}
use Rattle.vob_flow.specs.Available.{HoldOnAll, IsEntry}
use Rattle.vob_flow.specs.Changes.{EachBecomes, Gets}
use Rattle.vob_flow.specs.declared.lists.Paths.{Paths}
use Rattle.vob_flow.specs.declared.lists.Paths.TheVariants.{Some as SomePath, All as AllPaths, AllFrom}
use Rattle.vob_flow.specs.Draws.{AreLeast, Comes, HaveShape, IsDrawn, IsIn}
use Rattle.vob_flow.specs.Draws.Comes.{starts_in, drawn}
use Rattle.vob_flow.specs.Gathered.{AreGathered}
use Rattle.vob_flow.specs.Reaching.{AreReaching}
use Rattle.vob_flow.specs.Greatest.{AreGreatest, IsInAll, Misses, away}
use Rattle.vob_flow.specs.Greatest.Misses.{dropped, missed}
use Rattle.vob_flow.specs.Lists.{Solve, has, keeps, sets_of}
use Rattle.vob_flow.specs.Parts.{AreSolvedBelow, DrawsNear, HoldThere, HoldsNear, Kills, MissesFar}
use Rattle.vob_flow.proofs.AnyLemmas.{Any-contained, Any-map, contains_next, edge_inside}
use Rattle.vob_flow.proofs.AvailableLemmas.{HoldOnAll-greatest, missing}
use Rattle.vob_flow.proofs.BlankLemmas.{shape_from_long}
use Rattle.vob_flow.proofs.ChangesLemmas.{Gets-more, Gets-none}
use Rattle.vob_flow.proofs.GreatestLemmas.{in_or}
use Rattle.vob_flow.proofs.PassLemmas.{shape_long}
use Rattle.vob_flow.proofs.ReachingLemmas.{AreReaching-least}
use Rattle.vob_flow.proofs.UnderwayLemmas.{HaveShape-trans}

-- ---- sets of lists

pub any_is : (p : ℕ → Bool) (xs : List ℕ) → (list_any p xs ≡ true) ↔ Any (λ x. p x ≡ true) xs
any_is p xs = ((λ e. Any-from_list_any p xs e), (λ some. list_any-from_Any p xs some))

pub has_is : (list : List ℕ) (v : ℕ) → (has list v ≡ true) ↔ Contains list v
has_is list v = (
  (λ e.
      let some = (any_is (λ x. x == v) list).0 e in
      (some.0, some.2, get_or_default list some.0 v some.1 some.2 ∙ some.3 ∙ same some.1 some.4)),
  (λ within. (any_is (λ x. x == v) list).1 (within.0, v, within.1, within.2, eq-eqb v v refl)),
)
  where
    same : (x : ℕ) → (x == v) ≡ true → x ≡ v
    same x e = elim (cases_eq x v) [
      | inl is ↦ is
      | inr other ↦ absurd (false≢true (sym (ne_eqb x v other) ∙ e))
    ]

same_bits : (a b : Bool) → (a ≡ true) ↔ (b ≡ true) → a ≡ b
same_bits true b is = sym (is.0 refl)
same_bits false true is = is.1 refl
same_bits false false is = refl

module _ (places : ℕ) (lists : List (List ℕ)) where
  pub sets_count : length (sets_of places lists) ≡ length lists
  sets_count = length-map lists (λ list. map (has list) (range_with_len 0 places))

  pub sets_long : AreOfLength places (sets_of places lists)
  sets_long k d less = ap length (get_or-map (λ list. map (has list) (range_with_len 0 places)) lists k [] d
      (omega (arith, less, sets_count)))
      ∙ length-map-range_with_len (has (get_or lists k [])) 0 places

  pub sets_are : (n v : ℕ) →
      IsIn (sets_of places lists) n v ↔ ((v < places) × Contains (get_or lists n []) v)
  sets_are n v = (
    (λ e.
        let node : n < length lists = omega (arith, row_inside (sets_of places lists) n v e, sets_count) in
        let row = ap (λ bits. item bits v) (row_is node) in
        elim (cases_lt v places) [
          | inl less ↦ (less, (has_is (get_or lists n []) v).0 (sym (bit less) ∙ sym row ∙ e))
          | inr past ↦ absurd (false≢true (sym (get_or_past (map (has (get_or lists n [])) (range_with_len 0 places)) v false
              (omega (arith, past, length-map-range_with_len (has (get_or lists n [])) 0 places))) ∙ sym row ∙ e))
        ]),
    (λ both. ap (λ bits. item bits v) (row_is (edge_inside lists n v both.1)) ∙ bit both.0
        ∙ (has_is (get_or lists n []) v).1 both.1),
  )
    where
      row_is : n < length lists →
          get_or (sets_of places lists) n [] ≡ map (has (get_or lists n [])) (range_with_len 0 places)
      row_is node = get_or-map (λ list. map (has list) (range_with_len 0 places)) lists n [] [] node

      bit : v < places → item (map (has (get_or lists n [])) (range_with_len 0 places)) v ≡ has (get_or lists n []) v
      bit less = get_or-map-range_with_len (has (get_or lists n [])) 0 places v v false less (omega arith)

-- ---- what a node kills, and its mask

pub mask_is : (by_variable : List (List ℕ)) (own : List ℕ) (kills : List (List Bool)) (i j v : ℕ) →
    IsIn kills i j ↔ Kills by_variable own v →
    not (item (get_or kills i []) j) ≡ not (list_any (λ x. has (get_or by_variable x []) v) own)
mask_is by_variable own kills i j v is = ap not (same_bits _ _ (
  (λ e. (any_is p own).1 (Any-map _ _ own (λ x within. (has_is (get_or by_variable x []) v).1 within) (is.0 e))),
  (λ e. is.1 (Any-map _ _ own (λ x on. (has_is (get_or by_variable x []) v).0 on) ((any_is p own).0 e))),
))
  where
    p : ℕ → Bool
    p x = has (get_or by_variable x []) v

-- ---- numbers of a list that are added to a set

module _ (list : List ℕ) (start columns : ℕ) where
  abbrev pub InPart : ℕ → ℕ → Type 0
  InPart k j = (j < columns) × Contains (take k list) (start + j)

  pub part_none : (sets : List (List Bool)) (n : ℕ) → Gets sets n (InPart 0) sets
  part_none sets n = Gets-none sets n (InPart 0) (λ j both. absurd (omega (arith, both.1.1)))

  pub part_next : {sets mid after : List (List Bool)} {n : ℕ} (k m : ℕ) → k < length list →
      get_or list k 0 ≡ m → Gets sets n (InPart k) mid →
      Gets mid n (λ j. (j < columns) × (start + j ≡ m)) after → Gets sets n (InPart (k + 1)) after
  part_next k m less is h g = Gets-more (InPart (k + 1)) h g (λ j.
      let next = contains_next list k m (start + j) less is in (
        (λ both. elim (next.0 both.1) [
          | inl old ↦ inl (both.0, old)
          | inr new ↦ inr (both.0, sym new)
        ]),
        (λ either. elim either [
          | inl old ↦ (old.0, next.1 (inl old.1))
          | inr new ↦ (new.0, next.1 (inr (sym new.1)))
        ]),
      ))

-- ---- the least sets, and the greatest, hold what they should

module _ {next : List (List ℕ)} (mask : ℕ → ℕ → Bool) {gens far : List (List Bool)} (columns : ℕ)
    (fit : length next ≡ length gens) (long : AreOfLength columns gens) where
  come_in : AreLeast next mask gens far → {n v : ℕ} → Comes next mask gens n v → IsIn far n v
  come_in h {n} {v} (starts_in e) = (h.solution.meets n v).1 (inl e)
  come_in h {n} {v} (drawn {m = m} keeps (k, less, e) c) =
      (h.solution.meets n v).1 (inr (keeps, (k, m, less, e, come_in h c)))

  pub hold_comes : AreLeast next mask gens far → HoldThere true (length next) columns (Comes next mask gens) far
  hold_comes h = record {
    count_is = h.solution.shape.count ∙ sym fit;
    long = shape_long columns gens far h.solution.shape long;
    each = λ n v node less. ((λ e. h.least n v e), (λ c. come_in h c));
  }

  pub hold_drawn : {near : List (List Bool)} → AreLeast next mask gens far → AreGathered next far near →
      AreOfLength columns near → HoldThere true (length next) columns (DrawsNear next mask gens) near
  hold_drawn {near} h g wide = record {
    count_is = g.count;
    long = wide;
    each = λ n v node less. (
      (λ e. Any-map _ _ (get_or next n []) (λ m on. h.least m v on) ((g.each n v).0 e)),
      (λ some. (g.each n v).1 (Any-map _ _ (get_or next n []) (λ m c. come_in h c) some)),
    );
  }

  module _ (entry : Option ℕ) (h : AreGreatest columns next (away entry mask) gens far) where
    far_on : (n v : ℕ) → n < length next → v < columns → IsIn far n v ↔ (¬ MissesFar next mask gens entry n v)
    far_on n v node less = (
      (λ e c. missing columns next (away entry mask) gens far (h.solution.shape.count ∙ sym fit)
          (λ k u low is. (h.solution.meets k u low is).0) less c e),
      (λ holds. elim (in_or far n v) [
        | inl there ↦ there
        | inr none ↦ absurd (holds (h.greatest n v (omega (arith, node, h.solution.shape.count, fit)) less none))
      ]),
    )

    pub hold_far : HoldThere false (length next) columns (MissesFar next mask gens entry) far
    hold_far = record {
      count_is = h.solution.shape.count ∙ sym fit;
      long = shape_long columns gens far h.solution.shape long;
      each = λ n v node less. (
        (λ off. h.greatest n v (omega (arith, node, h.solution.shape.count, fit)) less
            (λ on. false≢true (sym off ∙ on))),
        (λ c. false_from_ne_true _ (λ on. (far_on n v node less).0 on c)),
      );
    }

    pub hold_near : (common near : List (List Bool)) → LeadToNodes next (length next) →
        EachBecomes gens (λ n. IsInAll far (get_or next n [])) common (length next) → HaveShape common near →
        ((n v : ℕ) → IsIn near n v ↔ (IsIn common n v × (¬ IsEntry entry n))) →
        HoldThere true (length next) columns (HoldsNear next mask gens entry) near
    hold_near common near inside in_all shape cleared = record {
      count_is = shape.count ∙ in_all.shape.count ∙ sym fit;
      long = shape_long columns gens near (HaveShape-trans in_all.shape shape) long;
      each = λ n v node less.
          let of = in_all.below n v node (omega (arith, less, of_length_at columns gens n [] long (omega (arith, node, fit)))) in
          let from = get_or next n [] in (
            (λ e.
                let both = (cleared n v).0 e in
                (both.1, λ k d low. (far_on (get_or from k d) v (inside n node k d low) less).0 (of.0 both.0 k d low))),
            (λ both. (cleared n v).1 (
              of.1 (λ k d low.
                  (far_on (get_or from k d) v (inside n node k d low) less).1 (both.1 k d low)),
              both.0,
            )),
          );
    }

-- ---- all places are solved

module _ (places : ℕ) (next : List (List ℕ)) (mask : ℕ → ℕ → Bool) (gens near far : List (List Bool))
    (fit : length next ≡ length gens) (long : AreOfLength places gens) (inside : LeadToNodes next (length next)) where
  comes_below : {n v : ℕ} → Comes next mask gens n v → (n < length next) × (v < places)
  comes_below {n} {v} (starts_in e) =
      let node : n < length gens = row_inside gens n v e in
      let low : v < length (get_or gens n []) = true_inside (get_or gens n []) v e in
      (omega (arith, node, fit), omega (arith, low, of_length_at places gens n [] long node))
  comes_below {n} {v} (drawn {m = m} keeps within c) = (edge_inside next n m within, (comes_below c).1)

  held_inside : {value : Bool} {P : ℕ → ℕ → Type 0} {rows : List (List Bool)} → HoldThere value (length next) places P rows →
      (n v : ℕ) → IsIn rows n v → (n < length next) × (v < places)
  held_inside {rows = rows} h n v e =
      let node = row_inside rows n v e in
      let low = true_inside (get_or rows n []) v e in
      (omega (arith, node, h.count_is), omega (arith, low, of_length_at places rows n [] h.long node))

  held_shape : {value : Bool} {P : ℕ → ℕ → Type 0} {rows : List (List Bool)} → HoldThere value (length next) places P rows →
      HaveShape gens rows
  held_shape {rows = rows} h = shape_from_long places gens rows long h.long (h.count_is ∙ fit)

  pub reaches_all : HoldThere true (length next) places (DrawsNear next mask gens) near →
      HoldThere true (length next) places (Comes next mask gens) far → AreReaching next mask gens near far
  reaches_all near_h far_h = AreReaching-least (held_shape near_h) (record {
    solution = record {
      shape = held_shape far_h;
      meets = λ n v. (
        (λ e. met ((far_is n v).0 e)),
        (λ either. elim either [
          | inl start ↦ (far_is n v).1 (starts_in start)
          | inr new ↦
              let some = new.1 in
              (far_is n v).1 (drawn new.0 (some.0, some.2, some.3) ((far_is some.1 v).0 some.4))
        ]),
      );
    };
    least = λ n v e. (far_is n v).0 e;
  }) (record {
    count = near_h.count_is;
    each = λ n v. (
      (λ e.
          let at = held_inside near_h n v e in
          Any-map _ _ (get_or next n []) (λ m c. (far_is m v).1 c) ((near_h.each n v at.0 at.1).0 e)),
      (λ some.
          let c = (far_is some.1 v).0 some.4 in
          let node = edge_inside next n some.1 (some.0, some.2, some.3) in
          (near_h.each n v node (comes_below c).1).1
          (Any-map _ _ (get_or next n []) (λ m on. (far_is m v).0 on) some)),
    );
  })
    where
      far_is : (n v : ℕ) → IsIn far n v ↔ Comes next mask gens n v
      far_is n v = (
        (λ e. let at = held_inside far_h n v e in (far_h.each n v at.0 at.1).0 e),
        (λ c. let at = comes_below c in (far_h.each n v at.0 at.1).1 c),
      )

      met : {n v : ℕ} → Comes next mask gens n v → (IsIn gens n v ⊎ IsDrawn next mask far n v)
      met {n} {v} (starts_in e) = inl e
      met {n} {v} (drawn {m = m} keeps within c) =
          inr (keeps, Any-contained (λ k. IsIn far k v) (get_or next n []) m within ((far_is m v).1 c))

  module _ (entry : Option ℕ) (near_h : HoldThere true (length next) places (HoldsNear next mask gens entry) near)
      (far_h : HoldThere false (length next) places (MissesFar next mask gens entry) far) where
    far_holds : (n v : ℕ) → n < length next → v < places → IsIn far n v ↔ (¬ MissesFar next mask gens entry n v)
    far_holds n v node less = (
      (λ e c. false≢true (sym ((far_h.each n v node less).1 c) ∙ e)),
      (λ holds. elim (cases_Bool (item (get_or far n []) v)) [
        | inl on ↦ on
        | inr off ↦ absurd (holds ((far_h.each n v node less).0 off))
      ]),
    )

    refute : {n v : ℕ} → (IsIn gens n v ⊎ ((away entry mask n v ≡ true) × IsInAll far (get_or next n []) v)) →
        Misses next (away entry mask) gens n v → ⊥
    refute {n} {v} either (dropped new drops) = elim either [
      | inl start ↦ new start
      | inr both ↦ false≢true (sym drops ∙ both.0)
    ]
    refute {n} {v} either (missed {m = m} new (k, low, is) c) = elim either [
      | inl start ↦ new start
      | inr both ↦
          let on = subst (λ j. IsIn far j v) is (both.1 k m low) in
          let at = held_inside far_h m v on in
          (far_holds m v at.0 at.1).0 on c
    ]

    meets_far : (n v : ℕ) → n < length next → v < places →
        IsIn far n v ↔ (IsIn gens n v ⊎ ((away entry mask n v ≡ true) × IsInAll far (get_or next n []) v))
    meets_far n v node less = (
      (λ e. elim (in_or gens n v) [
        | inl start ↦ inl start
        | inr new ↦
            let holds = (far_holds n v node less).0 e in
            inr (
              elim (cases_Bool (away entry mask n v)) [
                | inl on ↦ on
                | inr off ↦ absurd (holds (dropped new off))
              ],
              λ k d low. (far_holds (get_or (get_or next n []) k d) v (inside n node k d low) less).1
                  (λ c. holds (missed new (Contains-get_or (get_or next n []) k d low) c)),
            )
      ]),
      (λ either. (far_holds n v node less).1 (λ c. refute either c)),
    )

    pub holds_all : HoldOnAll places entry next mask gens near far
    holds_all = HoldOnAll-greatest places entry next mask gens near far fit (record {
      solution = record { shape = held_shape far_h; meets = meets_far };
      greatest = λ n v node less none. (far_h.each n v (omega (arith, node, far_h.count_is)) less).0
          (false_from_ne_true _ none);
    }) (held_shape near_h)
        (λ n v node less other. (
          (λ e k d low. (far_holds (get_or (get_or next n []) k d) v (inside n node k d low) less).1
              (((near_h.each n v node less).0 e).1 k d low)),
          (λ all. (near_h.each n v node less).1 (
            other,
            λ k d low.
                (far_holds (get_or (get_or next n []) k d) v (inside n node k d low) less).0 (all k d low),
          )),
        ))
        (λ n v here e. let at = held_inside near_h n v e in ((near_h.each n v at.0 at.1).0 e).0 here)

-- the sets that solve a problem
pub solved_all : (paths : Paths) (places : ℕ) (next : List (List ℕ)) (mask : ℕ → ℕ → Bool)
    (gens : List (List Bool)) (near far : SparseMatrix) → length next ≡ length gens → AreOfLength places gens →
    LeadToNodes next (length next) → (h : AreSolvedBelow next mask gens paths places near far) →
    Solve paths places next mask gens h.near_sets h.far_sets
solved_all SomePath places next mask gens near far fit long inside h =
    reaches_all places next mask gens h.near_sets h.far_sets fit long inside h.near_hold h.far_hold
solved_all AllPaths places next mask gens near far fit long inside h =
    holds_all places next mask gens h.near_sets h.far_sets fit long inside None h.near_hold h.far_hold
solved_all (AllFrom entry) places next mask gens near far fit long inside h =
    holds_all places next mask gens h.near_sets h.far_sets fit long inside (Some entry) h.near_hold h.far_hold
