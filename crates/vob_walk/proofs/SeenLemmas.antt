-- The bits that a walk over runs sees, and the runs of bits that are the same at each index.
use Rattle.std.specs.Prelude.{◌/◌, map, replicate, slice_index_or}
use Rattle.std.specs.declared.ops.Bound.{Bound}
use Rattle.std.specs.declared.ops.Bound.TheVariants.{Included, Excluded}
use Rattle.std.specs.declared.ops.Range.{Range}
use Rattle.std.proofs.Common.{◌≡◌, ℕ, ◌+◌, ◌-◌, ◌<◌, ◌≤◌, Bool, true, false, ◌&&◌, not, List}
use Rattle.std.proofs.Common.{length, drop, refl, sym, ap, ◌∙◌, arith, inl, inr, length-append}
use Rattle.std.proofs.Common.{length-drop}
use Rattle.std.proofs.lemmas.Bool.{cases_lt, false≢true}
use Rattle.std.proofs.lemmas.List.{get_or_past, get_or-drop, get_or-map, length-map, map-id}
use Rattle.std.proofs.lemmas.List.{length-replicate, get_or-replicate, get_or_append_left}
use Rattle.std.proofs.lemmas.List.{get_or-append_right}
use Rattle.std.proofs.lemmas.List.FromFn.{length-map-range_with_len, get_or-map-range_with_len}
use Rattle.vob_block.specs.Packing.{item, need, packing, unpacking}
use Rattle.vob_block.proofs.PackingLemmas.{bit-in_blocks, get_or-unpacking, length-unpacking, true_inside}
use Rattle.vob_walk.specs.Matches.{blocks_met, has_value, within, IsRangeOf}
use Rattle.vob_walk.specs.Runs.{AreRuns, IsMaximalRun, IsOverRange, RunWalk, kept, runs_of}
use Rattle.vob_walk.specs.RunSteps.{seen, IsOnRuns}
use Rattle.vob_walk.proofs.MatchesLemmas.{within-there, within-before, within-behind}
use Rattle.vob_walk.proofs.RunListLemmas.{AreRuns-only, length-runs_from-le}
use Rattle.vob_walk.proofs.WindowLemmas.{blocks_met-same}

-- ---- a bit of a value

pub has_value-there : (value b : Bool) → b ≡ value → has_value value b ≡ true
has_value-there true b e = e
has_value-there false b e = ap not e

pub has_value-only : (value b : Bool) → has_value value b ≡ true → b ≡ value
has_value-only true b e = e
has_value-only false false e = refl
has_value-only false true e = sym e

pub has_value-other : (value b : Bool) → b ≡ not value → has_value value b ≡ false
has_value-other true b e = e
has_value-other false b e = ap not e

pub has_value-unset : (value b : Bool) → has_value value b ≡ false → b ≡ not value
has_value-unset true b e = e
has_value-unset false true e = refl
has_value-unset false false e = sym e

-- ---- what is seen of bits

module _ (value : Bool) (first : ℕ) (bits : List Bool) where
  pub length-seen : first ≤ length bits → length (seen value first bits) ≡ length bits
  length-seen fits = omega (
    arith,
    length-append (replicate first false) (map (has_value value) (drop first bits)),
    length-replicate first false,
    length-map (drop first bits) (has_value value),
    length-drop first bits,
  )

  pub seen-below : (i : ℕ) → i < first → item (seen value first bits) i ≡ false
  seen-below i below =
      get_or_append_left (replicate first false) (map (has_value value) (drop first bits)) false i
      (omega (arith, length-replicate first false))
      ∙ get_or-replicate first i false false below

  pub seen-above : (i : ℕ) → first ≤ i → i < length bits
      → item (seen value first bits) i ≡ has_value value (item bits i)
  seen-above i above below =
      let there : first + (i - first) ≡ i = omega arith in
      get_or-append_right (replicate first false) (map (has_value value) (drop first bits)) first i
      false (length-replicate first false) above
      ∙ get_or-map (has_value value) (drop first bits) (i - first) false false
      (omega (arith, length-drop first bits))
      ∙ ap (has_value value) (get_or-drop first bits (i - first) false ∙ ap (item bits) there)

pub seen-all : (bits : List Bool) → seen true 0 bits ≡ bits
seen-all bits = map-id bits

pub seen-negated : (bits : List Bool) → seen false 0 bits ≡ map not bits
seen-negated bits = refl

-- no more runs than bits
pub length-runs_of-seen : (value : Bool) (first n : ℕ) (xs : List ℕ) (w : ℕ) → first ≤ n
    → length (runs_of (seen value first (unpacking n xs w))) ≤ n
length-runs_of-seen value first n xs w order =
    let long = length-unpacking n xs w in
    let all = length-seen value first (unpacking n xs w) (omega (arith, long, order)) in
    omega (arith, long, all, length-runs_from-le (seen value first (unpacking n xs w)) 0)

-- a walk before its first step: no bit below the start of its range is seen set
pub IsOnRuns-start : (value : Bool) {w first n hand back : ℕ} (xs : List ℕ) → need n w ≤ length xs
    → first ≤ n → (0 < first → first < n → hand ≡ slice_index_or xs (first / w) 0)
    → IsOnRuns w xs (seen value first (unpacking n xs w)) n first 0 first hand false back
IsOnRuns-start value {w} {first} {n} xs count order held = record {
  count = count;
  within = order;
  begun = omega arith;
  order = omega arith;
  passed = λ i above below same.
      false≢true (sym (seen-below value first (unpacking n xs w) i below) ∙ same);
  ended = λ some. absurd (omega arith);
  held = held;
  held_back = λ ready. absurd (false≢true ready);
}

-- ---- the runs of bits that are the same at each index

module _ (xs ys : List Bool) (same : (i : ℕ) → item xs i ≡ item ys i) where
  IsMaximalRun-same : (a b : ℕ) → IsMaximalRun xs a b → IsMaximalRun ys a b
  IsMaximalRun-same a b run =
      let some = run.some in
      let last : item ys (b - 1) ≡ true =
      sym (same (b - 1)) ∙ run.set (b - 1) (omega arith) (omega arith) in
      record {
        some = some;
        inside = omega (arith, some, true_inside ys (b - 1) last);
        set = λ i above less. sym (same i) ∙ run.set i above less;
        before = λ i next. sym (same i) ∙ run.before i next;
        behind = sym (same b) ∙ run.behind;
      }

  AreRuns-same : (runs : List (Range ℕ)) → AreRuns xs runs → AreRuns ys runs
  AreRuns-same runs are = record {
    each = λ k d below. IsMaximalRun-same _ _ (are.each k d below);
    order = are.order;
    all = λ i there. are.all i (same i ∙ there);
  }

  pub runs_of-same : runs_of xs ≡ runs_of ys
  runs_of-same = (AreRuns-only ys (runs_of xs)).1
      (AreRuns-same (runs_of xs) ((AreRuns-only xs (runs_of xs)).0 refl))

-- ---- the bits that a range keeps

kept_at : (low high : Bound ℕ) (bits : List Bool) (i : ℕ) → i < length bits
    → item (kept low high bits) i ≡ (within low high i && item bits i)
kept_at low high bits i below = get_or-map-range_with_len
    (λ j. within low high j && item bits j) 0 (length bits) i i false below (omega arith)

kept-past : (low high : Bound ℕ) (bits : List Bool) (i : ℕ) → length bits ≤ i
    → item (kept low high bits) i ≡ false
kept-past low high bits i past = get_or_past (kept low high bits) i false
    (omega (arith, length-map-range_with_len (λ j. within low high j && item bits j) 0 (length bits)))

-- bits up to the end of a range, seen from its start on, are those that it keeps
module _ {low high : Bound ℕ} (bits : List Bool) {start stop : ℕ}
    (range : IsRangeOf low high (length bits) start stop) (some : List Bool)
    (long : length some ≡ stop) (same : (i : ℕ) → i < stop → item some i ≡ item bits i) where
  seen-kept : (i : ℕ) → item (seen true start some) i ≡ item (kept low high bits) i
  seen-kept i = elim (cases_lt i (length bits)) [
    | inr past ↦ unseen (omega (arith, range.inside)) ∙ sym (kept-past low high bits i past)
    | inl below ↦ elim (cases_lt i start) [
      | inl before ↦ seen-below true start some i before
          ∙ sym (kept_at low high bits i below
          ∙ ap (λ b. b && item bits i) (within-before range i below before))
      | inr after ↦ elim (cases_lt i stop) [
        | inl less ↦ seen-above true start some i after (omega (arith, long)) ∙ same i less
            ∙ sym (kept_at low high bits i below
            ∙ ap (λ b. b && item bits i) (within-there range i below after less))
        | inr behind ↦ unseen behind
            ∙ sym (kept_at low high bits i below
            ∙ ap (λ b. b && item bits i) (within-behind range i below behind))
      ]
    ]
  ]
    where
      unseen : stop ≤ i → item (seen true start some) i ≡ false
      unseen past = get_or_past (seen true start some) i false (omega (
        arith,
        length-seen true start some (omega (arith, long, range.order)),
        long,
      ))

  pub runs_of-kept : runs_of (seen true start some) ≡ runs_of (kept low high bits)
  runs_of-kept = runs_of-same (seen true start some) (kept low high bits) seen-kept

-- and blocks of all bits have them
module _ (w : ℕ) (wide : 0 < w) (bits : List Bool) (xs : List ℕ) (blocks : xs ≡ packing bits w)
    {low high : Bound ℕ} {start stop : ℕ} (range : IsRangeOf low high (length bits) start stop)
  where
    same_below : (i : ℕ) → i < stop → item (unpacking stop xs w) i ≡ item bits i
    same_below i below =
        get_or-unpacking stop xs w i false below ∙ bit-in_blocks w wide bits xs blocks i

    -- so a walk over those from the start on is over the bits that the range keeps
    pub IsOverRange-walk : {walk : RunWalk} → walk.bits ≡ seen true start (unpacking stop xs w)
        → walk.rest ≡ runs_of walk.bits
        → walk.reads + walk.left ≡ blocks_met (Included start) (Excluded stop) stop w
        → IsOverRange low high bits w walk
    IsOverRange-walk {walk} sees rest reads = record {
      rest = same_rest;
      runs = (AreRuns-only (kept low high bits) walk.rest).0 same_rest;
      reads = reads ∙ blocks_met-same w wide range;
      each = λ i. ap (λ some. item some i) sees
          ∙ seen-kept bits range (unpacking stop xs w) (length-unpacking stop xs w) same_below i;
    }
      where
        same_rest : walk.rest ≡ runs_of (kept low high bits)
        same_rest = rest ∙ ap runs_of sees
            ∙ runs_of-kept bits range (unpacking stop xs w) (length-unpacking stop xs w) same_below
