-- The first run from an index on, by two searches over the blocks.
use Rattle.std.specs.Prelude.{◌==◌, Some, None}
use Rattle.std.specs.Iterator.Runs.{YieldsInOrder}
use Rattle.std.specs.declared.ops.Bound.TheVariants.{Included, Excluded}
use Rattle.std.specs.declared.ops.Range.{Range}
use Rattle.std.proofs.Common.{◌≡◌, ◌≢◌, ℕ, ◌+◌, ◌-◌, ◌/◌, ◌<◌, ◌≤◌, min, true, false, cond, List}
use Rattle.std.proofs.Common.{Bool, ◌∷◌, length, map, refl, sym, ap, ◌∙◌, arith, inl, inr, not, div-add-mod'}
use Rattle.std.proofs.iter.runs.Sources.{from_front, as_is}
use Rattle.std.proofs.lemmas.Bool.{cases_eq, cases_lt, eq-eqb, ne_eqb}
use Rattle.std.proofs.lemmas.Nat.{div_below, le-div}
use Rattle.vob_block.specs.Packing.{item, need, bit_at, unpacking}
use Rattle.vob_block.specs.Reading.{Reading}
use Rattle.vob_block.proofs.NeedLemmas.{div-lt-need, need_least}
use Rattle.vob_block.proofs.PackingLemmas.{get_or-unpacking, length-unpacking}
use Rattle.vob_walk.specs.Next.{FindsUp}
use Rattle.vob_walk.proofs.NextLemmas.{need_most}
use Rattle.vob_walk.specs.Matches.{blocks_met, has_value, IsRangeOf}
use Rattle.vob_walk.specs.RunSteps.{IsOnRuns, seen, unread_from}
use Rattle.vob_walk.specs.Runs.{IsFirstFrom, IsFirstRun, RunWalk, GivesRun, runs_from}
use Rattle.vob_walk.proofs.RunListLemmas.{IsFirstRun-between, runs_from-none, runs_from-first}
use Rattle.vob_walk.proofs.SeenLemmas.{has_value-there, has_value-only, has_value-other, has_value-unset}
use Rattle.vob_walk.proofs.SeenLemmas.{length-seen, seen-above}
use Rattle.vob_walk.proofs.WindowLemmas.{IsRangeOf-own, blocks_met-nothing, blocks_met-window}

-- ---- among blocks

pub quotients_rise : (w : ℕ) → 0 < w → (i j : ℕ) → i ≤ j → i / w ≤ j / w
quotients_rise w wide i j order = le-div (i / w) j w wide (omega (arith, div-add-mod' i w))

module _ (w : ℕ) (wide : 0 < w) (n from : ℕ) where
  pub unread-some : 0 < from → unread_from w n from ≡ need n w - (from / w + 1)
  unread-some some = ap (λ b. need n w - cond b 0 (from / w + 1))
      (ne_eqb from 0 (λ e. absurd (omega (arith, e, some))))

  -- the block in hand is the first of those that are unread, or was read
  in_hand : (r s : ℕ) → from < n → s ≡ r + cond (from == 0) 1 0
      → s + (need n w - (from / w + 1)) ≡ r + unread_from w n from
  in_hand r s below reads =
      let some = div-lt-need w wide n from below in
      elim (cases_eq from 0) [
        | inl zero ↦
            let test = eq-eqb from 0 zero in
            let first = ap (λ k. k / w) zero in
            omega (
              arith,
              reads,
              some,
              first,
              div_below 0 w 1 wide (omega arith),
              ap {B = ℕ} (λ b. cond b 1 0) test,
              ap (λ b. need n w - cond b 0 (from / w + 1)) test,
            )
        | inr later ↦
            let test = ne_eqb from 0 later in
            omega (
              arith,
              reads,
              ap {B = ℕ} (λ b. cond b 1 0) test,
              ap (λ b. need n w - cond b 0 (from / w + 1)) test,
            )
      ]

module _ {X : Type 0} (w : ℕ) (wide : 0 < w) (number : X → ℕ) (value : Bool) (first n : ℕ)
    (x : Reading X) where
  abbrev pub xs : List ℕ
  xs = map number x.items

  abbrev pub bits_in : Reading X → List Bool
  bits_in r = seen value first (unpacking n (map number r.items) w)

  -- the walk whose blocks are these
  abbrev walk_of : Reading X → ℕ → ℕ → ℕ → RunWalk
  walk_of r at from again = record {
    rest = runs_from (bits_in r) at;
    bits = bits_in r;
    at = at;
    reads = r.reads;
    left = unread_from w n from;
    again = again;
  }

  abbrev pub bits : List Bool
  bits = bits_in x

  same_bits : (r : Reading X) → r.items ≡ x.items → bits_in r ≡ bits
  same_bits r same = ap (λ l. seen value first (unpacking n (map number l) w)) same

  pub bit-is : (r : Reading X) → r.items ≡ x.items → (i : ℕ) → first ≤ i → i < n
      → item bits i ≡ has_value value (bit_at (map number r.items) w i)
  bit-is r same i above below =
      let xs_long = length-unpacking n xs w in
      seen-above value first (unpacking n xs w) i above (omega (arith, xs_long))
      ∙ ap (has_value value) (get_or-unpacking n xs w i false below
      ∙ ap (λ l. bit_at (map number l) w i) (sym same))

  module _ {at from hand back : ℕ} {ready : Bool}
      (on : IsOnRuns w xs bits n first at from hand ready back) where
    pub long : length bits ≡ n
    long =
        let xs_long = length-unpacking n xs w in
        length-seen value first (unpacking n xs w) (omega (arith, xs_long, on.begun, on.within))
        ∙ xs_long

    ended_there : 0 < at → at < length bits → item bits at ≡ false
    ended_there some below = on.ended some (omega (arith, below, long))

    passed_there : (i : ℕ) → at ≤ i → i < from → item bits i ≢ true
    passed_there = on.passed

    -- nothing is looked at where all is passed
    pub GivesRun-end : {again : ℕ} → from ≡ n
        → GivesRun (walk_of x at from again) None (walk_of x at from again)
    GivesRun-end end =
        let none : (i : ℕ) → at ≤ i → i < length bits → item bits i ≢ true =
        λ i above inside. passed_there i above (omega (arith, inside, long, end)) in record {
          gives = (runs_from-none bits at none, runs_from-none bits at none);
          bits = refl;
          run = (none, refl);
          reads = omega arith;
          rises = omega arith;
          again = refl;
        }

    module _ (more : from ≢ n) {y z : Reading X} (held : y.items ≡ x.items)
        (counted : y.reads ≡ x.reads + cond (from == 0) 1 0) {start : ℕ} {found : X}
        (search : FindsUp w number value y z from n start found) where
      some : from < n
      some = omega (arith, on.within, more)

      after_start : z.items ≡ x.items
      after_start = search.items ∙ held

      unset_below : (i : ℕ) → at ≤ i → i < start → item bits i ≢ true
      unset_below i above below same = elim (cases_lt i from) [
        | inl less ↦ passed_there i above less same
        | inr past ↦ search.between i past below (has_value-only value _
            (sym (bit-is y held i (omega (arith, past, on.begun))
            (omega (arith, below, search.within))) ∙ same))
      ]

      reads_so_far : z.reads + (need n w - min (start / w + 1) (need n w))
          ≡ x.reads + unread_from w n from
      reads_so_far = omega (
        arith,
        search.reads,
        in_hand w wide n from x.reads y.reads some counted,
        div-lt-need w wide n from some,
      )

      rises_so_far : x.reads ≤ z.reads
      rises_so_far = omega (
        arith,
        search.reads,
        counted,
        div-lt-need w wide n from some,
        quotients_rise w wide from start search.above,
      )

      -- no set bit is left
      module _ (none : start ≡ n) where
        none_left : (i : ℕ) → at ≤ i → i < length bits → item bits i ≢ true
        none_left i above inside = unset_below i above (omega (arith, none, inside, long))

        pub GivesRun-none : {again : ℕ}
            → GivesRun (walk_of x at from again) None (walk_of z at n again)
        GivesRun-none = record {
          gives = (
            runs_from-none bits at none_left,
            ap (λ l. runs_from l at) (same_bits z after_start) ∙ runs_from-none bits at none_left,
          );
          bits = same_bits z after_start;
          run = (none_left, refl);
          reads = omega (
            arith,
            reads_so_far,
            unread-some w wide n n (omega arith),
            need_most w wide n,
            ap (λ k. k / w) none,
          );
          rises = rises_so_far;
          again = refl;
        }

        pub IsOnRuns-none : {any : ℕ}
            → IsOnRuns w (map number z.items) (bits_in z) n first at n any ready back
        IsOnRuns-none = record {
          count = rw (after_start) on.count;
          within = omega arith;
          begun = omega (arith, on.begun, on.within);
          order = omega (arith, on.order, on.within);
          passed = λ i above below.
              rw (same_bits z after_start) (none_left i above (omega (arith, below, long)));
          ended = λ more below.
              rw (same_bits z after_start) (ended_there more (omega (arith, below, long)));
          held = λ more below. absurd (omega arith);
          held_back = λ own below. absurd (omega arith);
        }

      module _ (inside : start ≢ n) {u : Reading X} {stop : ℕ} {last : X}
          (behind : FindsUp w number (not value) z u start n stop last) where
        first_there : IsFirstFrom true bits at start
        first_there =
            let below : start < n = omega (arith, search.within, inside) in record {
              above = omega (arith, on.order, search.above);
              inside = omega (arith, below, long);
              there = bit-is y held start (omega (arith, on.begun, search.above)) below
                  ∙ has_value-there value _ (search.there below);
              between = unset_below;
            }

        -- the bit behind the run ends it
        unset_there : stop < n → item bits stop ≡ false
        unset_there below =
            bit-is z after_start stop
            (omega (arith, on.begun, search.above, behind.above)) below
            ∙ has_value-other value _ (behind.there below)

        run_there : IsFirstRun bits at start stop
        run_there = IsFirstRun-between bits at start stop first_there ended_there behind.above
            (omega (arith, behind.within, long))
            (λ i above below same. behind.between i above below (has_value-unset value _
            (sym (bit-is z after_start i (omega (arith, on.begun, search.above, above))
            (omega (arith, below, behind.within))) ∙ same)))
            (λ below. unset_there (omega (arith, below, long)))

        pub IsOnRuns-next : IsOnRuns w (map number u.items) (bits_in u) n first stop stop
            (number last) ready back
        IsOnRuns-next = record {
          count = rw (behind.items ∙ after_start) on.count;
          within = behind.within;
          begun = omega (arith, on.begun, search.above, behind.above);
          order = omega arith;
          passed = λ i above below. absurd (omega arith);
          ended = λ more below. rw (same_bits u (behind.items ∙ after_start)) (unset_there below);
          held = λ more below. rw (behind.items) (behind.block below);
          held_back = λ own below. rw (behind.items ∙ after_start) (on.held_back own some);
        }

        pub GivesRun-next : {again : ℕ} → GivesRun (walk_of x at from again)
            (Some record { start = start; end = stop }) (walk_of u stop stop again)
        GivesRun-next = record {
          gives = runs_from-first bits at record { start = start; end = stop } run_there
              ∙ ap (λ l. record { start = start; end = stop } ∷ runs_from l stop)
              (sym (same_bits u (behind.items ∙ after_start)));
          bits = same_bits u (behind.items ∙ after_start);
          run = (run_there, refl);
          reads = omega (
            arith,
            reads_so_far,
            behind.reads,
            unread-some w wide n stop (omega (arith, run_there.run.some)),
            div-lt-need w wide n start (omega (arith, search.within, inside)),
          );
          rises = omega (
            arith,
            rises_so_far,
            behind.reads,
            div-lt-need w wide n start (omega (arith, search.within, inside)),
            quotients_rise w wide start stop behind.above,
          );
          again = refl;
        }

-- ---- where a walk begins

module _ (w : ℕ) (wide : 0 < w) (start stop : ℕ) (order : start ≤ stop) where
  abbrev met : ℕ
  met = blocks_met (Included start) (Excluded stop) stop w

  own : IsRangeOf (Included start) (Excluded stop) stop start stop
  own = IsRangeOf-own start stop stop order (omega arith)

  -- the block of its first index is in hand
  pub met-held : 0 < start → start < stop → unread_from w stop start + 1 ≡ met
  met-held some less = omega (
    arith,
    unread-some w wide stop start some,
    div-lt-need w wide stop start less,
    blocks_met-window w wide own less,
  )

  -- or none is
  pub met-unread : ((0 < start) × (start < stop) → ⊥) → unread_from w stop start ≡ met
  met-unread none = elim (cases_eq start 0) [
    | inl zero ↦
        let all = ap (λ b. need stop w - cond b 0 (start / w + 1)) (eq-eqb start 0 zero) in
        elim (cases_lt start stop) [
          | inl less ↦ omega (
            arith,
            all,
            ap (λ k. k / w) zero,
            div_below 0 w 1 wide (omega arith),
            blocks_met-window w wide own less,
          )
          | inr past ↦ omega (
            arith,
            all,
            need_most w wide stop,
            need_least w wide stop 0 (omega (arith, order)),
            blocks_met-nothing w wide own (omega (arith, order)),
          )
        ]
    | inr later ↦ elim (cases_lt start stop) [
      | inl less ↦ absurd (none (omega arith, less))
      | inr past ↦
          let same : start ≡ stop = omega (arith, order) in omega (
            arith,
            unread-some w wide stop start (omega arith),
            need_most w wide stop,
            ap (λ k. k / w) same,
            blocks_met-nothing w wide own same,
          )
    ]
  ]

-- what is still to come grows fewer by each run that is given
pub fewer_left : (walk after : RunWalk) (run : Range ℕ) → GivesRun walk (Some run) after
    → length after.rest < length walk.rest
fewer_left walk after run gives = omega (arith, ap length gives.gives)

-- a run over a walk gives the runs still to come, in order
pub runs_in_order : YieldsInOrder GivesRun (λ walk. walk.rest)
runs_in_order p s = as_is p p.from.rest (from_front GivesRun (λ run. run) (λ walk. walk.rest)
    (λ walk after h. ap length h.gives.0) (λ walk run after h. h.gives) p s)
