-- Problems that differ in the order of their lists alone have one solution.
use Rattle.std.specs.Prelude.{All, Contains, cond, slice_index_or}
use Rattle.std.specs.List.{Any, list_any}
use Rattle.std.proofs.Common.{◌≡◌, ◌↔◌, ◌⊎◌, inl, inr, ℕ, ◌<◌, ◌≤◌, Bool, true, false, not, ◌||◌, Option, None, Some, Vec, Global, List, [], ◌∷◌, length, map, get_or, arith, refl, sym, ap, subst, ◌∙◌}
use Rattle.std.proofs.lemmas.Bool.{cases_lt}
use Rattle.std.proofs.lemmas.List.{ext_get_or, get_or_past, length-map}
use Rattle.std.proofs.lemmas.List.Elements.{Contains-get_or}
use Rattle.vob_block.proofs.PackingLemmas.{true_inside}
use Rattle.vob_rows.specs.Sparse.{members}
use Rattle.vob_flow.specs.Available.{AreFlowingOnAll, HoldOnAll}
use Rattle.vob_flow.specs.Draws.{IsIn}
use Rattle.vob_flow.specs.Lists.{Solve, has, keeps, lists_of, sets_of}
use Rattle.vob_flow.specs.Reaching.{AreFlowing, AreReaching}
use Rattle.vob_flow.specs.declared.lists.Paths.{Paths}
use Rattle.vob_flow.specs.declared.lists.Paths.TheVariants.{Some as SomePath, All as AllPaths, AllFrom}
use Rattle.vob_flow.proofs.PartsLemmas.{has_is, sets_are, sets_count, sets_long}
use Rattle.files_flow.specs.declared.problem.Problem.{Problem}
use Rattle.files_flow.specs.FlowText.{ListsSolution, sides_text}
use Rattle.files_flow.specs.Problems.{IsSolved}
use Rattle.files_text.proofs.ListLemmas.{nothing}

-- ---- lists of the same numbers

-- as many lists, of the same numbers
pub record HaveSameNumbers (lists others : List (List ℕ)) : Type 0 where
  pub count : length lists ≡ length others
  pub each : (n m : ℕ) → Contains (slice_index_or lists n []) m ↔ Contains (slice_index_or others n []) m

pub same_back : {lists others : List (List ℕ)} → HaveSameNumbers lists others → HaveSameNumbers others lists
same_back same = record { count = sym same.count; each = λ n m. ((same.each n m).1, (same.each n m).0) }

pub same_equal : (lists others : List (List ℕ)) → lists ≡ others → HaveSameNumbers lists others
same_equal lists others is = record {
  count = ap length is;
  each = λ n m. (
    subst (λ l. Contains (slice_index_or l n []) m) is,
    subst (λ l. Contains (slice_index_or l n []) m) (sym is),
  );
}

-- lists for the numbers below a count that have what P says
pub same_by : (k : ℕ) (P : ℕ → ℕ → Type 0) (lists others : List (List ℕ)) → length lists ≡ k → length others ≡ k →
    ((n m : ℕ) → n < k → Contains (slice_index_or lists n []) m ↔ P n m) →
    ((n m : ℕ) → n < k → Contains (slice_index_or others n []) m ↔ P n m) → HaveSameNumbers lists others
same_by k P lists others count count' each each' = record {
  count = count ∙ sym count';
  each = λ n m. elim (cases_lt n k) [
    | inl less ↦ (
      (λ there. (each' n m less).1 ((each n m less).0 there)),
      (λ there. (each n m less).1 ((each' n m less).0 there)),
    )
    | inr past ↦ (
      (λ there. absurd (nothing m
          (subst (λ l. Contains l m) (get_or_past lists n [] (omega (arith, past, count))) there))),
      (λ there. absurd (nothing m
          (subst (λ l. Contains l m) (get_or_past others n [] (omega (arith, past, count'))) there))),
    )
  ];
}

any_over : (P : ℕ → Type 0) (xs ys : List ℕ) → ((m : ℕ) → Contains xs m → Contains ys m) → Any P xs → Any P ys
any_over P xs ys into (k, x, less, is, p) = let at = into x (k, less, is) in (at.0, x, at.1, at.2, p)

all_over : (P : ℕ → Type 0) (xs ys : List ℕ) → ((m : ℕ) → Contains ys m → Contains xs m) → All P xs → All P ys
all_over P xs ys from all k d less =
    let at = from (get_or ys k d) (Contains-get_or ys k d less) in
    subst P at.2 (all at.0 (get_or ys k d) at.1)

-- ---- sets of the same numbers

same_bits : (a b : Bool) → (a ≡ true) ↔ (b ≡ true) → a ≡ b
same_bits true b is = sym (is.0 refl)
same_bits false true is = is.1 refl
same_bits false false is = refl

pub sets_one : (sets others : List (List Bool)) → length sets ≡ length others →
    ((n : ℕ) → length (get_or sets n []) ≡ length (get_or others n [])) →
    ((n v : ℕ) → IsIn sets n v ↔ IsIn others n v) → sets ≡ others
sets_one sets others count long each = ext_get_or [] sets others count (λ n less.
    ext_get_or false (get_or sets n []) (get_or others n []) (long n) (λ v inside. same_bits _ _ (each n v)))

set_long : (places : ℕ) (lists : List (List ℕ)) (n : ℕ) → n < length lists →
    length (get_or (sets_of places lists) n []) ≡ places
set_long places lists n less = sets_long places lists n [] (omega (arith, less, sets_count places lists))

set_past : (places : ℕ) (lists : List (List ℕ)) (n : ℕ) → length lists ≤ n →
    length (get_or (sets_of places lists) n []) ≡ 0
set_past places lists n past =
    ap length (get_or_past (sets_of places lists) n [] (omega (arith, past, sets_count places lists)))

same_sets : (places : ℕ) (lists others : List (List ℕ)) → HaveSameNumbers lists others →
    sets_of places lists ≡ sets_of places others
same_sets places lists others same =
    sets_one (sets_of places lists) (sets_of places others)
    (sets_count places lists ∙ same.count ∙ sym (sets_count places others))
    (λ n. elim (cases_lt n (length lists)) [
      | inl less ↦ set_long places lists n less ∙ sym (set_long places others n (omega (arith, less, same.count)))
      | inr past ↦ set_past places lists n past ∙ sym (set_past places others n (omega (arith, past, same.count)))
    ])
    (λ n v. (
      (λ on. let is = (sets_are places lists n v).0 on in
          (sets_are places others n v).1 (is.0, (same.each n v).0 is.1)),
      (λ on. let is = (sets_are places others n v).0 on in
          (sets_are places lists n v).1 (is.0, (same.each n v).1 is.1)),
    ))

any_same : (p q : ℕ → Bool) → ((x : ℕ) → p x ≡ q x) → (xs : List ℕ) → list_any p xs ≡ list_any q xs
any_same p q same [] = refl
any_same p q same (x ∷ xs) = ap (λ b. b || list_any p xs) (same x) ∙ ap (λ b. q x || b) (any_same p q same xs)

same_keeps : (by others writes : List (List ℕ)) → HaveSameNumbers by others → (n v : ℕ) →
    keeps by writes n v ≡ keeps others writes n v
same_keeps by others writes same n v = ap not (any_same (λ x. has (get_or by x []) v) (λ x. has (get_or others x []) v)
    (λ x. same_bits _ _ (
      (λ on. (has_is (get_or others x []) v).1 ((same.each x v).0 ((has_is (get_or by x []) v).0 on))),
      (λ on. (has_is (get_or by x []) v).1 ((same.each x v).1 ((has_is (get_or others x []) v).0 on))),
    )) (get_or writes n []))

-- ---- what solves a problem

module _ (next next' : List (List ℕ)) (mask mask' : ℕ → ℕ → Bool) (gens : List (List Bool))
    (nexts : HaveSameNumbers next next') (masks : (n v : ℕ) → mask n v ≡ mask' n v) where
  reaching_over : (starts ends : List (List Bool)) → AreFlowing next mask gens starts ends →
      AreFlowing next' mask' gens starts ends
  reaching_over starts ends f = record {
    starts_are = record {
      count = f.starts_are.count ∙ nexts.count;
      each = λ n v. (
        (λ on. any_over (λ m. IsIn ends m v) (get_or next n []) (get_or next' n []) (λ m. (nexts.each n m).0)
            ((f.starts_are.each n v).0 on)),
        (λ some. (f.starts_are.each n v).1 (any_over (λ m. IsIn ends m v) (get_or next' n []) (get_or next n [])
            (λ m. (nexts.each n m).1) some)),
      );
    };
    count = f.count;
    ends_are = λ n v. subst (λ b. IsIn ends n v ↔ (IsIn gens n v ⊎ (IsIn starts n v × (b ≡ true)))) (masks n v)
        (f.ends_are n v);
  }

  module _ (places : ℕ) (entry : Option ℕ) where
    hold_over : (near far : List (List Bool)) → AreFlowingOnAll places entry next mask gens near far →
        AreFlowingOnAll places entry next' mask' gens near far
    hold_over near far f = record {
      near_count = f.near_count ∙ nexts.count;
      near_is = λ n v less place none.
          let old = f.near_is n v (omega (arith, less, nexts.count)) place none in (
            (λ on. all_over (λ m. IsIn far m v) (get_or next n []) (get_or next' n []) (λ m. (nexts.each n m).1)
                (old.0 on)),
            (λ all. old.1 (all_over (λ m. IsIn far m v) (get_or next' n []) (get_or next n [])
                (λ m. (nexts.each n m).0) all)),
          );
      at_entry = f.at_entry;
      far_count = f.far_count;
      far_is = λ n v place. subst (λ b. IsIn far n v ↔ (IsIn gens n v ⊎ (IsIn near n v × (b ≡ true)))) (masks n v)
          (f.far_is n v place);
    }

module _ (places : ℕ) (next next' : List (List ℕ)) (mask mask' : ℕ → ℕ → Bool) (gens : List (List Bool))
    (nexts : HaveSameNumbers next next') (masks : (n v : ℕ) → mask n v ≡ mask' n v)
    (small : (n : ℕ) → length (get_or gens n []) ≤ places) (near near' far far' : List (List Bool)) where
  over : (starts ends : List (List Bool)) → AreFlowing next mask gens starts ends → AreFlowing next' mask' gens
      starts ends
  over = reaching_over next next' mask mask' gens nexts masks

  back : (starts ends : List (List Bool)) → AreFlowing next' mask' gens starts ends → AreFlowing next mask gens
      starts ends
  back = reaching_over next' next mask' mask gens (same_back nexts) (λ n v. sym (masks n v))

  reaching_one : AreReaching next mask gens near far → AreReaching next' mask' gens near' far' →
      (near ≡ near') × (far ≡ far')
  reaching_one a b =
      let there = a.least near' far' (back near' far' b.flowing) in
      let again = b.least near far (over near far a.flowing) in (
        sets_one near near' (a.starts_shape.count ∙ sym b.starts_shape.count)
            (λ n. a.starts_shape.long n ∙ sym (b.starts_shape.long n)) (λ n v. (there.0 n v, again.0 n v)),
        sets_one far far' (a.ends_shape.count ∙ sym b.ends_shape.count)
            (λ n. a.ends_shape.long n ∙ sym (b.ends_shape.long n)) (λ n v. (there.1 n v, again.1 n v)),
      )

  inside : (sets : List (List Bool)) → ((n : ℕ) → length (get_or sets n []) ≡ length (get_or gens n [])) → (n v : ℕ) →
      IsIn sets n v → v < places
  inside sets long n v on = omega (arith, true_inside (get_or sets n []) v on, long n, small n)

  hold_one : (entry : Option ℕ) → HoldOnAll places entry next mask gens near far →
      HoldOnAll places entry next' mask' gens near' far' → (near ≡ near') × (far ≡ far')
  hold_one entry a b =
      let there = b.greatest near far
      (hold_over next next' mask mask' gens nexts masks places entry near far a.flowing) in
      let again = a.greatest near' far' (hold_over next' next mask' mask gens (same_back nexts) (λ n v. sym (masks n v))
      places entry near' far' b.flowing) in (
        sets_one near near' (a.near_shape.count ∙ sym b.near_shape.count)
            (λ n. a.near_shape.long n ∙ sym (b.near_shape.long n)) (λ n v. (
              (λ on. there.0 n v (inside near a.near_shape.long n v on) on),
              (λ on. again.0 n v (inside near' b.near_shape.long n v on) on),
            )),
        sets_one far far' (a.far_shape.count ∙ sym b.far_shape.count)
            (λ n. a.far_shape.long n ∙ sym (b.far_shape.long n)) (λ n v. (
              (λ on. there.1 n v (inside far a.far_shape.long n v on) on),
              (λ on. again.1 n v (inside far' b.far_shape.long n v on) on),
            )),
      )

  solve_one : (paths : Paths) → Solve paths places next mask gens near far →
      Solve paths places next' mask' gens near' far' → (near ≡ near') × (far ≡ far')
  solve_one SomePath a b = reaching_one a b
  solve_one AllPaths a b = hold_one None a b
  solve_one (AllFrom entry) a b = hold_one (Some entry) a b

-- ---- what is listed of a problem

-- problems that differ in the order of their lists alone
pub record AreSame (problem other : Problem) : Type 0 where
  pub paths : problem.paths ≡ other.paths
  pub forward : problem.is_forward ≡ other.is_forward
  pub labels : lists_of problem.labels.items ≡ lists_of other.labels.items
  pub generates : HaveSameNumbers (lists_of problem.generates.items) (lists_of other.generates.items)
  pub by_variable : HaveSameNumbers (lists_of problem.by_variable.items) (lists_of other.by_variable.items)
  pub writes : lists_of problem.writes.items ≡ lists_of other.writes.items
  pub from : HaveSameNumbers (lists_of problem.from.items) (lists_of other.from.items)

module _ (problem other : Problem) (same : AreSame problem other) where
  abbrev places_of : Problem → ℕ
  places_of p = length p.labels.items

  same_places : places_of problem ≡ places_of other
  same_places = sym (length-map problem.labels.items (λ (v : Vec ℕ Global). v.items)) ∙ ap length same.labels
      ∙ length-map other.labels.items (λ (v : Vec ℕ Global). v.items)

  small : (n : ℕ) → length (get_or (sets_of (places_of other) (lists_of other.generates.items)) n []) ≤ places_of other
  small n = elim (cases_lt n (length (lists_of other.generates.items))) [
    | inl less ↦ omega (arith, set_long (places_of other) (lists_of other.generates.items) n less)
    | inr past ↦ omega (arith, set_past (places_of other) (lists_of other.generates.items) n past)
  ]

  masks : (n v : ℕ) → keeps (lists_of problem.by_variable.items) (lists_of problem.writes.items) n v
      ≡ keeps (lists_of other.by_variable.items) (lists_of other.writes.items) n v
  masks n v = same_keeps (lists_of problem.by_variable.items) (lists_of other.by_variable.items)
      (lists_of problem.writes.items) same.by_variable n v
      ∙ ap (λ l. keeps (lists_of other.by_variable.items) l n v) same.writes

  solved_one : {near near' far far' : List (List ℕ)} → IsSolved problem near far → IsSolved other near' far' →
      (near ≡ near') × (far ≡ far')
  solved_one {near} {near'} {far} {far'} a b =
      let from = lists_of problem.from.items in
      let mask = keeps (lists_of problem.by_variable.items) (lists_of problem.writes.items) in
      let gens = λ (k : ℕ). sets_of k (lists_of problem.generates.items) in
      let gens' = sets_of (places_of other) (lists_of other.generates.items) in
      let first = subst (λ (p : Paths). Solve p (places_of problem) from mask (gens (places_of problem)) a.near_sets
      a.far_sets)
      same.paths a.solved in
      let second = subst (λ (k : ℕ). Solve other.paths k from mask (gens k) a.near_sets a.far_sets) same_places first in
      let third = subst (λ g. Solve other.paths (places_of other) from mask g a.near_sets a.far_sets)
      (same_sets (places_of other) (lists_of problem.generates.items) (lists_of other.generates.items) same.generates)
      second in
      let (nears, fars) = solve_one (places_of other) from (lists_of other.from.items) mask
      (keeps (lists_of other.by_variable.items) (lists_of other.writes.items)) gens' same.from masks small a.near_sets
      b.near_sets a.far_sets b.far_sets other.paths third b.solved in (
        a.near_is ∙ ap (map members) nears ∙ sym b.near_is,
        a.far_is ∙ ap (map members) fars ∙ sym b.far_is,
      )

  pub solution_one : (json : Bool) (names : List (List ℕ)) (text text' : List ℕ) →
      ListsSolution json names problem text → ListsSolution json names other text' → text ≡ text'
  solution_one json names text text' a b =
      let (nears, fars) = solved_one a.solved b.solved in
      let form = λ (on : Bool) (labels near far : List (List ℕ)).
      cond on (sides_text json names labels near far) (sides_text json names labels far near) in
      let labels = lists_of problem.labels.items in
      let labels' = lists_of other.labels.items in
      a.lines ∙ ap (λ on. form on labels a.near a.far) same.forward
      ∙ ap (λ l. form other.is_forward l a.near a.far) same.labels
      ∙ ap (λ l. form other.is_forward labels' l a.far) nears
      ∙ ap (λ l. form other.is_forward labels' b.near l) fars ∙ sym b.lines
