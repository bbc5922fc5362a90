-- The long runs of the slots that are free in two calendars are their common stretches.
use Rattle.std.specs.Prelude.{Any, Contains, filter, slice_index_or, ◌||◌}
use Rattle.std.specs.declared.ops.Range.{Range}
use Rattle.std.proofs.Common.{◌≡◌, ℕ, zero, suc, ◌+◌, ◌-◌, ◌<◌, ◌≤◌, Bool, true, false, not, cond}
use Rattle.std.proofs.Common.{List, [], ◌∷◌, length, refl, sym, ap, subst, ◌∙◌, arith, inl, inr}
use Rattle.std.proofs.Common.{leb-true, le-leb}
use Rattle.std.proofs.lemmas.Bool.{cases_lt, cond-true, false≢true}
use Rattle.std.proofs.lemmas.List.Elements.{All-filter, filter_passes}
use Rattle.std.proofs.lemmas.List.Kept.{AllPairs-filter}
use Rattle.vob_block.specs.Packing.{item}
use Rattle.vob_walk.specs.Runs.{AreRuns, IsMaximalRun, runs_of}
use Rattle.vob_block.proofs.PackingLemmas.{true_inside}
use Rattle.vob_slots.specs.Calendar.{AreCommon, IsCommonStretch, IsFreeInBoth, is_long}

unset_both : (a b : Bool) → not (a || b) ≡ true → (a ≡ false) × (b ≡ false)
unset_both true b h = absurd (false≢true h)
unset_both false true h = absurd (false≢true h)
unset_both false false h = (refl, refl)

neither_set : (a b : Bool) → a ≡ false → b ≡ false → not (a || b) ≡ true
neither_set a b p q = ap (λ c. not (c || b)) p ∙ ap not q

-- a filter keeps each element that passes
keeps : {X : Type 0} (p : X → Bool) (x : X) → p x ≡ true → (xs : List X) (k : ℕ) → k < length xs
    → slice_index_or xs k x ≡ x → Contains (filter p xs) x
keeps p x holds [] k below is = absurd (omega arith)
keeps p x holds (y ∷ ys) zero below is = subst (λ l. Contains l x)
    (sym (cond-true (p y) (y ∷ filter p ys) (filter p ys) (ap p is ∙ holds))) (0, omega arith, is)
keeps p x holds (y ∷ ys) (suc k) below is = later (p y) (keeps p x holds ys k (omega arith) is)
  where
    later : (b : Bool) → Contains (filter p ys) x
        → Contains (cond b (y ∷ filter p ys) (filter p ys)) x
    later true h = (suc h.0, omega (arith, h.1), h.2)
    later false h = h

module _ (first second free : List Bool) (same : length first ≡ length second)
    (len : length free ≡ length first)
    (each : (i : ℕ) → i < length first → item free i ≡ not (item first i || item second i)) where
  free_in_both : (i : ℕ) → item free i ≡ true → IsFreeInBoth first second i
  free_in_both i set =
      let below : i < length first = omega (arith, true_inside free i set, len) in
      let unset = unset_both (item first i) (item second i) (sym (each i below) ∙ set) in
      ((below, unset.0), (omega arith, unset.1))

  set_there : (i : ℕ) → IsFreeInBoth first second i → item free i ≡ true
  set_there i h =
      each i h.0.0 ∙ neither_set (item first i) (item second i) h.0.1 h.1.1

  stretch_of : (a b : ℕ) → IsMaximalRun free a b → IsCommonStretch first second a b
  stretch_of a b run = record {
    some = run.some;
    free = λ i above below. free_in_both i (run.set i above below);
    before = λ i next both. absurd (false≢true (sym (run.before i next) ∙ set_there i both));
    after = λ both. absurd (false≢true (sym run.behind ∙ set_there b both));
  }

  -- a common stretch is the run that has its first slot
  module _ (a b : ℕ) (stretch : IsCommonStretch first second a b) (run : Range ℕ)
      (maximal : IsMaximalRun free run.start run.end) (from : run.start ≤ a)
      (to : a < run.end) where
    same_start : run.start ≡ a
    same_start = elim (cases_lt run.start a) [
      | inl less ↦ absurd (stretch.before (a - 1) (omega arith)
          (free_in_both (a - 1) (maximal.set (a - 1) (omega arith) (omega arith))))
      | inr more ↦ omega arith
    ]

    same_end : run.end ≡ b
    same_end = elim (cases_lt run.end b) [
      | inl less ↦ absurd (false≢true (sym maximal.behind
          ∙ set_there run.end (stretch.free run.end (omega arith) less)))
      | inr more ↦ elim (cases_lt b run.end) [
        | inl less ↦ absurd (stretch.after
            (free_in_both b (maximal.set b (omega (arith, stretch.some)) less)))
        | inr here ↦ omega arith
      ]
    ]

  module _ (least : ℕ) (are : AreRuns free (runs_of free)) where
    each_is : (k : ℕ) (d : Range ℕ) → k < length (filter (is_long least) (runs_of free))
        → let s = slice_index_or (filter (is_long least) (runs_of free)) k d in
        IsCommonStretch first second s.start s.end × (s.start + least ≤ s.end)
    each_is k d below =
        let s = slice_index_or (filter (is_long least) (runs_of free)) k d in
        let run = All-filter (is_long least) (λ r. IsMaximalRun free r.start r.end) (runs_of free)
        are.each k d below in
        let passes = filter_passes (is_long least) (runs_of free) k d below in
        let long = leb-true least (s.end - s.start) passes in
        (stretch_of s.start s.end run, omega (arith, run.some))

    all_are : (start end : ℕ) → IsCommonStretch first second start end → start + least ≤ end
        → Any (λ s. (s.start ≡ start) × (s.end ≡ end)) (filter (is_long least) (runs_of free))
    all_are start end stretch long =
        let set = set_there start (stretch.free start (omega arith) stretch.some) in
        let found = are.all start set in
        let run = found.1 in
        let is : slice_index_or (runs_of free) found.0 run ≡ run = found.3 in
        let maximal = subst (λ (r : Range ℕ). IsMaximalRun free r.start r.end) is
        (are.each found.0 run found.2) in
        let starts = same_start start end stretch run maximal found.4.0 found.4.1 in
        let ends = same_end start end stretch run maximal found.4.0 found.4.1 in
        let kept = keeps (is_long least) run (le-leb least (run.end - run.start) (omega arith))
        (runs_of free) found.0 found.2 is in
        (kept.0, run, kept.1, kept.2, (starts, ends))

    pub AreCommon-long_runs : AreCommon first second least (filter (is_long least) (runs_of free))
    AreCommon-long_runs = record {
      each = each_is;
      all = all_are;
      order = AllPairs-filter (λ s next. s.end < next.start) (is_long least) (runs_of free)
          are.order;
    }
