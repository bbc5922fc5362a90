-- Runs of unset bits, and where n of them in a row stand, by the runs that were passed.
use Rattle.std.specs.Prelude.{Any, Some, None, map}
use Rattle.std.specs.declared.ops.Range.{Range}
use Rattle.std.proofs.Common.{◌≡◌, ℕ, ◌+◌, ◌-◌, ◌<◌, ◌≤◌, Bool, true, false, not, List, length}
use Rattle.std.proofs.Common.{refl, sym, ap, ◌∙◌, ◌↔◌, arith, inl, inr}
use Rattle.std.proofs.lemmas.Bool.{cases_lt, false≢true}
use Rattle.std.proofs.lemmas.List.{get_or_past, get_or-map, length-map}
use Rattle.vob_block.specs.Packing.{item}
use Rattle.vob_block.proofs.PackingLemmas.{true_inside}
use Rattle.vob_walk.specs.Runs.{AreRuns, GivesRun, IsMaximalRun, RunWalk}
use Rattle.vob.specs.Room.{HasNoRoom, IsFirstRoom, IsRoom, IsUnsetRun}

-- ---- a run of the bits negated

set_of : (b : Bool) → not b ≡ false → b ≡ true
set_of true e = refl
set_of false e = sym e

pub unset_of : (b : Bool) → not b ≡ true → b ≡ false
unset_of true e = sym e
unset_of false e = refl

pub turned_at : (bits : List Bool) (i : ℕ) → i < length bits
    → item (map not bits) i ≡ not (item bits i)
turned_at bits i below = get_or-map not bits i false false below

module _ (bits : List Bool) (a b : ℕ) where
  IsUnsetRun-turned : IsMaximalRun (map not bits) a b → IsUnsetRun bits a b
  IsUnsetRun-turned run =
      let within : b ≤ length bits = omega (arith, run.inside, length-map bits not) in
      let some = run.some in record {
        some = some;
        inside = within;
        unset = λ i above below. unset_of (item bits i)
            (sym (turned_at bits i (omega (arith, below, within))) ∙ run.set i above below);
        before = λ i next. set_of (item bits i)
            (sym (turned_at bits i (omega (arith, next, some, within))) ∙ run.before i next);
        behind = λ below. set_of (item bits b) (sym (turned_at bits b below) ∙ run.behind);
      }

  IsMaximalRun-turned : IsUnsetRun bits a b → IsMaximalRun (map not bits) a b
  IsMaximalRun-turned run =
      let within = run.inside in
      let some = run.some in record {
        some = some;
        inside = omega (arith, within, length-map bits not);
        set = λ i above below. turned_at bits i (omega (arith, below, within))
            ∙ ap not (run.unset i above below);
        before = λ i next. turned_at bits i (omega (arith, next, some, within))
            ∙ ap not (run.before i next);
        behind = elim (cases_lt b (length bits)) [
          | inl below ↦ turned_at bits b below ∙ ap not (run.behind below)
          | inr past ↦ get_or_past (map not bits) b false
              (omega (arith, past, length-map bits not))
        ];
      }

pub IsMaximalRun-negated : (bits : List Bool) (a b : ℕ) → IsMaximalRun (map not bits) a b
    ↔ IsUnsetRun bits a b
IsMaximalRun-negated bits a b = (IsUnsetRun-turned bits a b, IsMaximalRun-turned bits a b)

-- ---- room

-- each room begins at or above an index
abbrev pub IsBelowRoom : ℕ → List Bool → ℕ → Type 0
IsBelowRoom n bits at = (i : ℕ) → IsRoom n bits i → at ≤ i

pub IsFirstRoom-none : (bits : List Bool) → IsFirstRoom 0 bits 0
IsFirstRoom-none bits = record {
  there = record {
    inside = omega arith;
    unset = λ j above below. absurd (omega arith);
  };
  least = λ j room. omega arith;
}

module _ (n : ℕ) (some : 0 < n) (bits : List Bool) where
  seen_set : (i : ℕ) → i < length bits → item bits i ≡ false → item (map not bits) i ≡ true
  seen_set i below unset = turned_at bits i below ∙ ap not unset

  module _ (walk : RunWalk) (same : walk.bits ≡ map not bits) (passed : IsBelowRoom n bits walk.at)
    where
      pub HasNoRoom-end : {after : RunWalk} → GivesRun walk None after → HasNoRoom n bits
      HasNoRoom-end gives = record {
        none = λ i room.
            let within = room.inside in
            let below : i < length bits = omega (arith, within, some) in
            gives.run.0 i (passed i room)
            (omega (arith, below, ap length same, length-map bits not))
            (ap (λ l. item l i) same
            ∙ seen_set i below (room.unset i (omega arith) (omega (arith, some))));
      }

      module _ {run : Range ℕ} {after : RunWalk} (gives : GivesRun walk (Some run) after) where
        from_start : (i : ℕ) → IsRoom n bits i → run.start ≤ i
        from_start i room = elim (cases_lt i run.start) [
          | inr past ↦ past
          | inl before ↦
              let within = room.inside in
              let below : i < length bits = omega (arith, within, some) in
              absurd (gives.run.0.first.between i (passed i room) before
              (ap (λ l. item l i) same
              ∙ seen_set i below (room.unset i (omega arith) (omega (arith, some)))))
        ]

        -- a shorter run is passed
        pub IsBelowRoom-next : run.end - run.start < n → IsBelowRoom n bits after.at
        IsBelowRoom-next short i room = elim (cases_lt i run.end) [
          | inr past ↦ omega (arith, past, gives.run.1)
          | inl before ↦
              let within = room.inside in
              let start = from_start i room in
              let reaches : run.end < i + n = omega (arith, short, start) in
              absurd (false≢true (sym gives.run.0.run.behind
              ∙ ap (λ l. item l run.end) same
              ∙ seen_set run.end (omega (arith, reaches, within))
              (room.unset run.end (omega (arith, before)) reaches)))
        ]

        -- and the first one that isn't begins with room
        pub IsFirstRoom-run : n ≤ run.end - run.start → IsFirstRoom n bits run.start
        IsFirstRoom-run long = record {
          there = record {
            inside = omega (
              arith,
              long,
              some,
              gives.run.0.run.inside,
              ap length same,
              length-map bits not,
            );
            unset = λ j above below.
                let set = ap (λ l. item l j) (sym same)
                ∙ gives.run.0.run.set j above (omega (arith, long, below)) in
                let within = true_inside (map not bits) j set in
                unset_of (item bits j)
                (sym (turned_at bits j (omega (arith, within, length-map bits not))) ∙ set);
          };
          least = from_start;
        }

pub IsBelowRoom-start : (n : ℕ) (bits : List Bool) (at : ℕ) → at ≡ 0 → IsBelowRoom n bits at
IsBelowRoom-start n bits at e i room = omega (arith, e)

-- ---- room among all runs

pub room-in_run : (bits : List Bool) (runs : List (Range ℕ)) (n i : ℕ) → AreRuns (map not bits) runs
    → 0 < n → IsRoom n bits i → Any (λ run. (run.start ≤ i) × (i + n ≤ run.end)) runs
room-in_run bits runs n i are some room =
    let inside = room.inside in
    let unset = room.unset i (omega arith) (omega (arith, some)) in
    let (k, run, less, is, there) = are.all i
    (seen_set n some bits i (omega (arith, inside, some)) unset) in
    let longest : IsMaximalRun (map not bits) run.start run.end = rw is at (are.each k run less) in (
      k,
      run,
      less,
      is,
      (
        there.0,
        elim (cases_lt run.end (i + n)) [
          | inr reaches ↦ reaches
          | inl short ↦
              let below : run.end < length bits = omega (arith, short, inside) in
              let free = room.unset run.end (omega (arith, there.1)) short in
              absurd (false≢true (sym longest.behind ∙ seen_set n some bits run.end below free))
        ],
      ),
    )
