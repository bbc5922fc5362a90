-- The runs of a list of bits: where they start and end, and that they are all of the maximal ones.
use Rattle.std.specs.Prelude.{Any, All, map, slice_index_or}
use Rattle.std.specs.Iterator.{Drains}
use Rattle.std.specs.List.{AllPairs, position_or_len}
use Rattle.std.specs.declared.ops.Range.{Range}
use Rattle.std.proofs.Common.{◌≡◌, ◌≢◌, ℕ, zero, suc, ◌+◌, ◌-◌, ◌<◌, ◌≤◌, Bool, true, false, ◌&&◌}
use Rattle.std.proofs.Common.{not, List, [], ◌∷◌, length, drop, refl, sym, ap, subst, ◌∙◌, arith}
use Rattle.std.proofs.Common.{inl, inr, ◌↔◌, length-drop}
use Rattle.std.proofs.lemmas.Bool.{cases_lt, cond-true, false≢true}
use Rattle.std.proofs.lemmas.List.{get_or_past, get_or-drop, length-map}
use Rattle.std.proofs.lemmas.List.Elements.{All-nil, All-cons}
use Rattle.std.proofs.lemmas.List.Kept.{AllPairs-cons}
use Rattle.std.proofs.lemmas.List.Sums.{fails_before_first, passes_at_first, position_or_len_is}
use Rattle.std.proofs.lemmas.List.Sums.{prefix_len-le-length}
use Rattle.vob_block.specs.Packing.{item}
use Rattle.vob_walk.specs.Cursor.{indices_where}
use Rattle.vob_walk.proofs.WhereLemmas.{indices_where-nothing, indices_where-skip, length-indices_where-le}
use Rattle.vob_walk.specs.Runs.{AreRuns, IsMaximalRun, IsFirstFrom, IsFirstRun, RunWalk, GivesRun, starts_run, run_end}
use Rattle.vob_walk.specs.Runs.{runs_from, runs_of}
use Rattle.vob_block.proofs.PackingLemmas.{true_inside}

pub set_from : (b : Bool) → b ≢ false → b ≡ true
set_from true h = refl
set_from false h = absurd (h refl)

pub unset_from : (b : Bool) → b ≢ true → b ≡ false
unset_from true h = absurd (h refl)
unset_from false h = refl

-- ---- the first index from another on whose bit passes, or the length

module _ (p : Bool → Bool) (bits : List Bool) (from : ℕ) (within : from ≤ length bits) where
  abbrev first_at : ℕ
  first_at = from + position_or_len p (drop from bits)

  first_at-within : first_at ≤ length bits
  first_at-within = omega (
    arith,
    prefix_len-le-length (λ b. not (p b)) (drop from bits),
    length-drop from bits,
  )

  first_at-before : (i : ℕ) → from ≤ i → i < first_at → p (item bits i) ≡ false
  first_at-before i above below =
      let here : from + (i - from) ≡ i = omega arith in
      ap (λ k. p (item bits k)) (sym here)
      ∙ ap p (sym (get_or-drop from bits (i - from) false))
      ∙ fails_before_first p (drop from bits) (i - from) false (omega arith)

  first_at-there : first_at < length bits → p (item bits first_at) ≡ true
  first_at-there below =
      ap p (sym (get_or-drop from bits (position_or_len p (drop from bits)) false))
      ∙ passes_at_first p (drop from bits) false (omega (arith, length-drop from bits))

-- ---- one run: from the first set bit from an index on to the first unset one, or to the end

module _ (bits : List Bool) (from a b : ℕ) (first : IsFirstFrom true bits from a)
    (ended : 0 < from → from < length bits → item bits from ≡ false) (above : a ≤ b)
    (within : b ≤ length bits) (set : (i : ℕ) → a ≤ i → i < b → item bits i ≢ false)
    (there : b < length bits → item bits b ≡ false) where
  -- the bit below the first set one is unset: it was passed, or ended what was given before
  below_first : (i : ℕ) → i + 1 ≡ a → item bits i ≡ false
  below_first i next = elim (cases_lt i from) [
    | inl less ↦
        let here : from ≡ a = omega (arith, first.above) in
        absurd (false≢true (sym (ended (omega arith) (omega (arith, here, first.inside)))
        ∙ ap (item bits) here ∙ first.there))
    | inr above ↦ unset_from (item bits i) (first.between i above (omega arith))
  ]

  pub IsFirstRun-between : IsFirstRun bits from a b
  IsFirstRun-between = record {
    first = first;
    run = record {
      some = elim (cases_lt a b) [
        | inl less ↦ less
        | inr past ↦
            let here : b ≡ a = omega arith in
            absurd (false≢true (sym (there (omega (arith, here, first.inside)))
            ∙ ap (item bits) here ∙ first.there))
      ];
      inside = within;
      set = λ i from below. set_from (item bits i) (set i from below);
      before = below_first;
      behind = elim (cases_lt b (length bits)) [
        | inl below ↦ there below
        | inr past ↦ get_or_past bits b false past
      ];
    };
  }

-- ---- where a run starts, and where it ends

only_first : (a b : Bool) → a ≡ true → b ≡ false → (a && not b) ≡ true
only_first a b p q = ap (λ c. c && not b) p ∙ ap not q

not_first : (a b : Bool) → b ≡ true → (a && not b) ≡ false
not_first true b q = ap not q
not_first false b q = refl

starts_run-unset : (bits : List Bool) (i : ℕ) → item bits i ≡ false → starts_run bits i ≡ false
starts_run-unset bits i unset = ap (λ b. b && not (item (false ∷ bits) i)) unset

starts_run-inside : (bits : List Bool) (i j : ℕ) → j + 1 ≡ i → item bits j ≡ true
    → starts_run bits i ≡ false
starts_run-inside bits zero j next there = absurd (omega arith)
starts_run-inside bits (suc i) j next there =
    let same : i ≡ j = omega arith in
    not_first (item bits (suc i)) (item bits i) (ap (item bits) same ∙ there)

starts_run-there : (bits : List Bool) (i : ℕ) → item bits i ≡ true
    → ((j : ℕ) → j + 1 ≡ i → item bits j ≡ false) → starts_run bits i ≡ true
starts_run-there bits zero there before = only_first (item bits 0) false there refl
starts_run-there bits (suc i) there before =
    only_first (item bits (suc i)) (item bits i) there (before i (omega arith))

run_end-is : (bits : List Bool) (a b : ℕ) → IsMaximalRun bits a b → run_end bits a ≡ b
run_end-is bits a b run =
    let long = length-drop a bits in
    let some = run.some in
    let inside = run.inside in
    let there : a + (b - a) ≡ b = omega arith in
    let steps = position_or_len_is not (drop a bits) (b - a) false (omega arith)
    (λ k less. ap not (get_or-drop a bits k false ∙ run.set (a + k) (omega arith) (omega arith)))
    (λ less. ap not (get_or-drop a bits (b - a) false ∙ ap (item bits) there ∙ run.behind)) in
    omega arith

-- ---- the runs from an index on

skip_to : (p : ℕ → Bool) (n a b : ℕ) → a ≤ b → b ≤ n
    → ((i : ℕ) → a ≤ i → i < b → p i ≡ false)
    → indices_where p a (n - a) ≡ indices_where p b (n - b)
skip_to p n a b order within none =
    let parts : n - a ≡ (b - a) + (n - b) = omega arith in
    let there : a + (b - a) ≡ b = omega arith in
    ap (indices_where p a) parts
    ∙ indices_where-skip p a (b - a) (n - b) (λ i above below. none i above (omega arith))
    ∙ ap (λ k. indices_where p k (n - b)) there

pub runs_from-none : (bits : List Bool) (from : ℕ)
    → ((i : ℕ) → from ≤ i → i < length bits → item bits i ≢ true) → runs_from bits from ≡ []
unfolding runs_from
runs_from-none bits from none =
    ap (map (λ i. let run : Range ℕ = record { start = i; end = run_end bits i } in run))
    (indices_where-nothing (starts_run bits) from (length bits - from)
    (λ i above below. starts_run-unset bits i
    (unset_from (item bits i) (none i above (omega arith)))))

pub runs_from-first : (bits : List Bool) (from : ℕ) (run : Range ℕ)
    → IsFirstRun bits from run.start run.end → runs_from bits from ≡ run ∷ runs_from bits run.end
unfolding runs_from
runs_from-first bits from run is =
    let n = length bits in
    let a = run.start in
    let b = run.end in
    let p = starts_run bits in
    let first = is.first in
    let maximal = is.run in
    let to_start = skip_to p n from a first.above (omega (arith, first.inside))
    (λ i above below. starts_run-unset bits i
    (unset_from (item bits i) (first.between i above below))) in
    let one : n - a ≡ suc (n - (a + 1)) = omega (arith, first.inside) in
    let rest = indices_where p (a + 1) (n - (a + 1)) in
    let starts = ap (indices_where p a) one
    ∙ cond-true (p a) (a ∷ rest) rest (starts_run-there bits a first.there maximal.before) in
    let to_end = skip_to p n (a + 1) b (omega (arith, maximal.some)) maximal.inside
    (λ i above below. starts_run-inside bits i (i - 1) (omega arith)
    (maximal.set (i - 1) (omega arith) (omega arith))) in
    let run_at : ℕ → Range ℕ = λ i. record { start = i; end = run_end bits i } in
    ap (map run_at) (to_start ∙ starts ∙ ap (λ l. a ∷ l) to_end)
    ∙ ap (λ e. let head : Range ℕ = record { start = a; end = e } in head ∷ runs_from bits b)
    (run_end-is bits a b maximal)

pub length-runs_from-le : (bits : List Bool) (from : ℕ) → length (runs_from bits from)
    ≤ length bits - from
unfolding runs_from
length-runs_from-le bits from =
    let run_at : ℕ → Range ℕ = λ i. record { start = i; end = run_end bits i } in
    omega (
      arith,
      length-map (indices_where (starts_run bits) from (length bits - from)) run_at,
      length-indices_where-le (starts_run bits) from (length bits - from),
    )

-- ---- each of them, and no other list has each of them

-- a run that begins at or above an index
abbrev pub IsAbove : List Bool → ℕ → Range ℕ → Type 0
IsAbove bits from run = IsMaximalRun bits run.start run.end × (from ≤ run.start)

-- a list has the runs from an index on
pub record AreRunsFrom (bits : List Bool) (from : ℕ) (runs : List (Range ℕ)) : Type 0 where
  pub each : All (IsAbove bits from) runs
  pub order : AllPairs (λ run next. run.end < next.start) runs
  pub all : (i : ℕ) → from ≤ i → item bits i ≡ true
      → Any (λ run. (run.start ≤ i) × (i < run.end)) runs

none_from : (bits : List Bool) (from : ℕ)
    → ((i : ℕ) → from ≤ i → i < length bits → item bits i ≢ true) → AreRunsFrom bits from []
none_from bits from none = record {
  each = All-nil (IsAbove bits from);
  order = λ i j d less inside. absurd (omega arith);
  all = λ i above there. absurd (none i above (true_inside bits i there) there);
}

-- one run before those that begin above its end
module _ (bits : List Bool) (from : ℕ) (run : Range ℕ) (runs : List (Range ℕ))
    (first : IsFirstRun bits from run.start run.end)
    (rest : AreRunsFrom bits run.end runs) where
  -- no other run begins at its end, whose bit is unset
  above_end : (next : Range ℕ) → IsAbove bits run.end next → run.end < next.start
  above_end next h = elim (cases_lt run.end next.start) [
    | inl less ↦ less
    | inr past ↦
        let here : run.end ≡ next.start = omega (arith, h.1) in
        absurd (false≢true (sym first.run.behind ∙ ap (item bits) here
        ∙ h.0.set next.start (omega arith) h.0.some))
  ]

  one_more : AreRunsFrom bits from (run ∷ runs)
  one_more = record {
    each = All-cons (IsAbove bits from) run runs (first.run, first.first.above) (λ k d below.
        let h = rest.each k d below in
        (h.0, omega (arith, h.1, first.run.some, first.first.above)));
    order = AllPairs-cons (λ run next. run.end < next.start) run runs
        (λ k d below. above_end _ (rest.each k d below)) rest.order;
    all = λ i above there. elim (cases_lt i run.end) [
      | inl within ↦ elim (cases_lt i run.start) [
        | inl before ↦ absurd (first.first.between i above before there)
        | inr after ↦ (0, run, omega arith, refl, (after, within))
      ]
      | inr past ↦
          let found = rest.all i past there in
          (suc found.0, found.1, omega (arith, found.2), found.3, found.4)
    ];
  }

-- the first run is found where a bit from there on is set
module _ (bits : List Bool) (from : ℕ) (within : from ≤ length bits)
    (ended : 0 < from → from < length bits → item bits from ≡ false) where
  abbrev start_at : ℕ
  start_at = first_at (λ b. b) bits from within

  first_run : start_at < length bits → IsFirstRun bits from start_at (run_end bits start_at)
  first_run some =
      let inside : start_at ≤ length bits = omega arith in
      let unset = first_at-before (λ b. b) bits from within in
      let set = first_at-before not bits start_at inside in
      let there = first_at-there not bits start_at inside in
      IsFirstRun-between bits from start_at (run_end bits start_at)
      record {
        above = omega arith;
        inside = some;
        there = first_at-there (λ b. b) bits from within some;
        between = λ i above below there. absurd (false≢true (sym (unset i above below) ∙ there));
      }
      ended (omega arith) (first_at-within not bits start_at inside)
      (λ i above below unset. absurd (false≢true (sym (set i above below) ∙ ap not unset)))
      (λ below. unset_from (item bits (run_end bits start_at)) (λ same.
      absurd (false≢true (ap not (sym same) ∙ there below))))

  none_before : length bits ≤ start_at
      → (i : ℕ) → from ≤ i → i < length bits → item bits i ≢ true
  none_before past i above below there = absurd (false≢true
      (sym (first_at-before (λ b. b) bits from within i above (omega arith)) ∙ there))

none_at : (bits : List Bool) (from : ℕ)
    → ((i : ℕ) → from ≤ i → i < length bits → item bits i ≢ true)
    → AreRunsFrom bits from (runs_from bits from)
none_at bits from none =
    subst (AreRunsFrom bits from) (sym (runs_from-none bits from none)) (none_from bits from none)

pub all_from : (most : ℕ) (bits : List Bool) (from : ℕ) → length bits ≤ from + most
    → (0 < from → from < length bits → item bits from ≡ false)
    → AreRunsFrom bits from (runs_from bits from)
all_from zero bits from enough ended = none_at bits from (λ i above below. absurd (omega arith))
all_from (suc most) bits from enough ended = elim (cases_lt (length bits) from) [
  | inl past ↦ none_at bits from (λ i above below. absurd (omega arith))
  | inr within ↦ elim (cases_lt (start_at bits from within ended) (length bits)) [
    | inr past ↦ none_at bits from (none_before bits from within ended past)
    | inl some ↦
        let a = start_at bits from within ended in
        let b = run_end bits a in
        let run : Range ℕ = record { start = a; end = b } in
        let first = first_run bits from within ended some in
        let later = first.run.some in
        let rest = all_from most bits b (omega arith) (λ _ _. first.run.behind) in
        subst (AreRunsFrom bits from) (sym (runs_from-first bits from run first))
        (one_more bits from run (runs_from bits b) first rest)
  ]
]

-- a list that has each run from an index on is the list of them
module _ (bits : List Bool) (from : ℕ) (run : Range ℕ) (runs : List (Range ℕ))
    (are : AreRunsFrom bits from (run ∷ runs)) where
  head : IsAbove bits from run
  head = are.each 0 run (omega arith)

  later : (k : ℕ) (d : Range ℕ) → k < length runs → run.end < (slice_index_or runs k d).start
  later k d below = are.order 0 (suc k) d (omega arith) (omega arith)

  head_first : IsFirstRun bits from run.start run.end
  head_first = record {
    first = record {
      above = head.1;
      inside = omega (arith, head.0.some, head.0.inside);
      there = head.0.set run.start (omega arith) head.0.some;
      between = λ i above below there. not_before i below (are.all i above there);
    };
    run = head.0;
  }
    where
      not_before : (i : ℕ) → i < run.start
          → Any (λ r. (r.start ≤ i) × (i < r.end)) (run ∷ runs) → ⊥
      not_before i below (zero, r, inside, is, there) =
          let same = ap (λ (x : Range ℕ). x.start) is in omega (arith, same, there.0)
      not_before i below (suc k, r, inside, is, there) =
          let same = ap (λ (x : Range ℕ). x.start) is in
          omega (arith, same, there.0, later k r (omega arith), head.0.some)

  tail_from : AreRunsFrom bits run.end runs
  tail_from = record {
    each = λ k d below.
        let h = are.each (suc k) d (omega arith) in (h.0, omega (arith, later k d below));
    order = λ i j d less below. are.order (suc i) (suc j) d (omega arith) (omega arith);
    all = λ i above there.
        after i above (are.all i (omega (arith, head.0.some, head.1)) there);
  }
    where
      after : (i : ℕ) → run.end ≤ i → Any (λ r. (r.start ≤ i) × (i < r.end)) (run ∷ runs)
          → Any (λ r. (r.start ≤ i) × (i < r.end)) runs
      after i above (zero, r, inside, is, there) =
          let same = ap (λ (x : Range ℕ). x.end) is in absurd (omega (arith, same, there.1))
      after i above (suc k, r, inside, is, there) = (k, r, omega arith, is, there)

pub only_these : (runs : List (Range ℕ)) (bits : List Bool) (from : ℕ) → AreRunsFrom bits from runs
    → runs ≡ runs_from bits from
only_these [] bits from are = sym (runs_from-none bits from
    (λ i above below there. let found = (are.all i above there).2 in absurd (omega arith)))
only_these (run ∷ runs) bits from are =
    ap (λ l. run ∷ l) (only_these runs bits run.end (tail_from bits from run runs are))
    ∙ sym (runs_from-first bits from run (head_first bits from run runs are))

pub AreRuns-only : (bits : List Bool) (runs : List (Range ℕ)) → (runs ≡ runs_of bits)
    ↔ AreRuns bits runs
AreRuns-only bits runs = (
  (λ same.
      let all = all_from (length bits) bits 0 (omega arith) (λ some. absurd (omega arith)) in
      subst (AreRuns bits) (sym same) record {
        each = λ k d below. (all.each k d below).0;
        order = all.order;
        all = λ i there. all.all i (omega arith) there;
      }),
  λ are. only_these runs bits 0 record {
    each = λ k d below. (are.each k d below, omega arith);
    order = are.order;
    all = λ i _ there. are.all i there;
  },
)

-- ---- a whole walk gives each of them

walk_from : (runs : List (Range ℕ)) (walk : RunWalk) → Drains GivesRun walk runs
    → AreRunsFrom walk.bits walk.at runs
walk_from [] walk h =
    let last = h.1.2.run.0 in
    let same = h.1.1 in none_from walk.bits walk.at (rw (← same) at last)
walk_from (run ∷ runs) walk h =
    let step = h.1.1.1 in
    let after = h.1.1.0 in
    let rest = walk_from runs after (h.0, (h.1.0, h.1.1.2, h.1.2)) in
    one_more walk.bits walk.at run runs step.run.0 (rw (step.bits, step.run.1) at rest)

pub AreRuns-walk : (walk : RunWalk) (runs : List (Range ℕ)) → walk.at ≡ 0
    → Drains GivesRun walk runs → AreRuns walk.bits runs
AreRuns-walk walk runs start h =
    let all = walk_from runs walk h in record {
      each = λ k d below. (all.each k d below).0;
      order = all.order;
      all = λ i there. all.all i (omega (arith, start)) there;
    }
