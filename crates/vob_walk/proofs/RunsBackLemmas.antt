-- The last run from an index on, by two searches over the blocks.
use Rattle.std.specs.Prelude.{◌==◌, Some, None, map, replicate}
use Rattle.std.specs.Iterator.Runs.{YieldsInReverse}
use Rattle.std.specs.declared.ops.Range.{Range}
use Rattle.std.proofs.Common.{◌≡◌, ◌≢◌, ℕ, ◌+◌, ◌-◌, ◌/◌, ◌<◌, ◌≤◌, true, false, cond, List, Bool}
use Rattle.std.proofs.Common.{[], ◌∷◌, ◌++◌, length, take, drop, refl, sym, ap, ◌∙◌, arith, inl, inr, not}
use Rattle.std.proofs.Math.Seq.{take-append-add}
use Rattle.std.proofs.iter.runs.Sources.{from_back, as_is_back}
use Rattle.std.proofs.lemmas.Bool.{cases_eq, cases_lt, false≢true}
use Rattle.std.proofs.lemmas.List.{drop-take, get_or-append-add, get_or-take, get_or_append_left}
use Rattle.std.proofs.lemmas.List.{get_or_past, length-append, length-map, length-replicate}
use Rattle.std.proofs.lemmas.List.{length-take-le, take-map}
use Rattle.std.proofs.lemmas.List.Elements.{All-push}
use Rattle.std.proofs.lemmas.List.Quantifiers.{all_pairs_push}
use Rattle.vob_block.specs.Packing.{item, need, bit_at, unpacking}
use Rattle.vob_block.specs.Reading.{Reading}
use Rattle.vob_block.proofs.NeedLemmas.{div-lt-need, need-le-need, need-zero}
use Rattle.vob_block.proofs.PackingLemmas.{take-unpacking}
use Rattle.vob_walk.specs.Matches.{has_value}
use Rattle.vob_walk.specs.Next.{FindsBack}
use Rattle.vob_walk.proofs.NextLemmas.{need_most, need_one_more}
use Rattle.vob_walk.specs.RunSteps.{IsOnRuns, seen, unread_from}
use Rattle.vob_walk.specs.Runs.{IsMaximalRun, RunWalk, runs_from}
use Rattle.vob_walk.specs.RunsBack.{GivesLastRun, IsLastRun}
use Rattle.vob_walk.proofs.RunListLemmas.{AreRunsFrom, IsAbove, all_from, only_these, runs_from-none, set_from}
use Rattle.vob_walk.proofs.RunListLemmas.{unset_from}
use Rattle.vob_walk.proofs.RunsLemmas.{bit-is, long, quotients_rise, unread-some}
use Rattle.vob_walk.proofs.SeenLemmas.{has_value-there, has_value-only, has_value-other, has_value-unset}

-- ---- the last run behind the others

module _ (bits : List Bool) (from : ℕ) (run : Range ℕ)
    (last : IsLastRun bits from run.start run.end)
    (ended : 0 < from → from < length bits → item bits from ≡ false) where
  abbrev front : List Bool
  front = take run.start bits

  abbrev others : List (Range ℕ)
  others = runs_from front from

  front-long : length front ≡ run.start
  front-long = length-take-le run.start bits (omega (arith, last.run.some, last.run.inside))

  front-item : (i : ℕ) → i < run.start → item front i ≡ item bits i
  front-item i below = get_or-take run.start bits i false below

  are_others : AreRunsFrom front from others
  are_others = all_from (length front) front from (omega arith) (λ some below.
      let less : from < run.start = omega (arith, below, front-long) in
      front-item from less ∙ ended some (omega (arith, less, last.run.some, last.run.inside)))

  -- a run of the others ends before the last one begins, since the bit below that is unset
  apart : (a b : ℕ) → IsMaximalRun front a b → b < run.start
  apart a b own =
      let inside : b ≤ run.start = omega (arith, own.inside, front-long) in
      let some = own.some in
      elim (cases_lt b run.start) [
        | inl less ↦ less
        | inr past ↦ absurd (false≢true
            (sym (last.run.before (b - 1) (omega arith))
            ∙ sym (front-item (b - 1) (omega arith))
            ∙ own.set (b - 1) (omega arith) (omega arith)))
      ]

  own_too : (a b : ℕ) → IsMaximalRun front a b → IsMaximalRun bits a b
  own_too a b own =
      let less = apart a b own in
      let some = own.some in record {
        some = some;
        inside = omega (arith, less, last.run.some, last.run.inside);
        set = λ i above below. sym (front-item i (omega arith)) ∙ own.set i above below;
        before = λ i next. sym (front-item i (omega arith)) ∙ own.before i next;
        behind = sym (front-item b less) ∙ own.behind;
      }

  are_all : AreRunsFrom bits from (others ++ run ∷ [])
  are_all = record {
    each = All-push (IsAbove bits from) others run
        (λ k d below. let h = are_others.each k d below in (own_too _ _ h.0, h.1))
        (last.run, last.above);
    order = all_pairs_push (λ one next. one.end < next.start) others run are_others.order
        (λ k d below. apart _ _ (are_others.each k d below).0);
    all = λ i above there. elim (cases_lt i run.start) [
      | inl less ↦
          let found = are_others.all i above (front-item i less ∙ there) in (
            found.0,
            found.1,
            omega (arith, found.2, length-append others (run ∷ [])),
            get_or_append_left others (run ∷ []) found.1 found.0 found.2 ∙ found.3,
            found.4,
          )
      | inr past ↦ elim (cases_lt i run.end) [
        | inl within ↦ (
          length others + 0,
          run,
          omega (arith, length-append others (run ∷ [])),
          get_or-append-add others (run ∷ []) 0 run,
          (past, within),
        )
        | inr behind ↦ absurd (last.last i behind there)
      ]
    ];
  }

  pub runs_from-last : runs_from bits from ≡ others ++ run ∷ []
  runs_from-last = sym (only_these (others ++ run ∷ []) bits from are_all)

-- ---- among blocks

cond-le : (b : Bool) (k : ℕ) → cond b 0 k ≤ k
cond-le true k = omega arith
cond-le false k = omega arith

seen-take : (value : Bool) (first m n : ℕ) (xs : List ℕ) (w : ℕ) → first ≤ m → m ≤ n
    → seen value first (unpacking m xs w) ≡ take m (seen value first (unpacking n xs w))
seen-take value first m n xs w low high =
    let whole : m ≡ length (replicate first false) + (m - first) =
    omega (arith, length-replicate first false) in
    let parts : m ≡ first + (m - first) = omega arith in
    let all = unpacking n xs w in
    sym (ap (λ k. take k (seen value first all)) whole
    ∙ take-append-add (replicate first false) (map (has_value value) (drop first all)) (m - first)
    ∙ ap (λ l. replicate first false ++ l) (take-map (has_value value) (m - first) (drop first all)
    ∙ ap (map (has_value value)) (sym (drop-take first (m - first) all)
    ∙ ap (λ k. drop first (take k all)) (sym parts)
    ∙ ap (drop first) (take-unpacking m n xs w high))))

module _ {X : Type 0} (w : ℕ) (wide : 0 < w) (number : X → ℕ) (value : Bool) (first n : ℕ)
    (x : Reading X) where
  -- the bits of the first m, and the walk over them
  abbrev bits_of : ℕ → Reading X → List Bool
  bits_of m r = seen value first (unpacking m (map number r.items) w)

  abbrev walk_of : ℕ → Reading X → ℕ → ℕ → Bool → RunWalk
  walk_of m r at from ready = record {
    rest = runs_from (bits_of m r) at;
    bits = bits_of m r;
    at = at;
    reads = r.reads;
    left = unread_from w m from;
    again = cond ready 0 1;
  }

  abbrev bits : List Bool
  bits = bits_of n x

  same_bits : (r : Reading X) → r.items ≡ x.items → bits_of n r ≡ bits
  same_bits r same = ap (λ l. seen value first (unpacking n (map number l) w)) same

  bit_is : (r : Reading X) → r.items ≡ x.items → (i : ℕ) → first ≤ i → i < n
      → item bits i ≡ has_value value (bit_at (map number r.items) w i)
  bit_is = bit-is w wide number value first n x

  module _ {at from hand back : ℕ} {ready : Bool}
      (on : IsOnRuns w (map number x.items) bits n first at from hand ready back) where
    size : length bits ≡ n
    size = long w wide number value first n x on

    ended_there : 0 < at → at < length bits → item bits at ≡ false
    ended_there some below = on.ended some (omega (arith, below, size))

    -- the block of each index that is walked over is there
    pub block_there : {i : ℕ} {items : List X} → i < n → items ≡ x.items → i / w < length items
    block_there {i} below same = omega (
      arith,
      on.count,
      length-map x.items number,
      ap length same,
      div-lt-need w wide n i below,
    )

    pub last_there : from ≢ n → {items : List X} → items ≡ x.items → (n - 1) / w < length items
    last_there more same = block_there (omega (arith, on.within, more)) same

    -- no block is read where all is passed
    pub GivesLastRun-end : from ≡ n
        → GivesLastRun (walk_of n x at from ready) None (walk_of n x at from ready)
    GivesLastRun-end end =
        let none : (i : ℕ) → at ≤ i → i < length bits → item bits i ≢ true =
        λ i above inside. on.passed i above (omega (arith, inside, size, end)) in record {
          gives = (runs_from-none bits at none, runs_from-none bits at none);
          at = refl;
          run = (none, refl);
          reads = omega arith;
          rises = omega arith;
        }

    module _ (more : from ≢ n) {y z : Reading X} (held : y.items ≡ x.items)
        (counted : y.reads ≡ x.reads + cond ready 0 1) {upto end : ℕ} (top : upto ≡ n - 1) {found : X}
        (search : FindsBack w number value y z from upto end found) where
      some : from < n
      some = omega (arith, on.within, more)

      after_end : z.items ≡ x.items
      after_end = search.items ∙ held

      unset_behind : (i : ℕ) → end ≤ i → i < n → item bits i ≢ true
      unset_behind i above below same = search.between i above (omega (arith, below, top))
          (has_value-only value _ (sym (bit_is y held i
          (omega (arith, above, search.above, on.begun)) below) ∙ same))

      last_block : need n w ≡ upto / w + 1
      last_block =
          let next : n ≡ upto + 1 = omega (arith, top, some) in
          ap (λ m. need m w) next ∙ need_one_more w wide upto

      rises_so_far : x.reads ≤ z.reads
      rises_so_far = omega (
        arith,
        search.reads,
        counted,
        quotients_rise w wide from upto (omega (arith, some, top)),
        quotients_rise w wide (end - 1) upto (omega (arith, search.within)),
      )

      unread-le : upto / w ≤ from / w + unread_from w n from
      unread-le = elim (cases_eq from 0) [
        | inl zero ↦ omega (arith, last_block, ap (unread_from w n) zero)
        | inr later ↦ omega (arith, last_block, unread-some w wide n from (omega arith))
      ]

      -- no set bit is left
      module _ (none : end ≡ from) where
        none_left : (i : ℕ) → at ≤ i → i < length bits → item bits i ≢ true
        none_left i above inside = elim (cases_lt i from) [
          | inl below ↦ on.passed i above below
          | inr past ↦ unset_behind i (omega (arith, none, past)) (omega (arith, inside, size))
        ]

        pub GivesLastRun-none : GivesLastRun (walk_of n x at from ready) None
            (walk_of n z at n true)
        GivesLastRun-none = record {
          gives = (
            runs_from-none bits at none_left,
            ap (λ l. runs_from l at) (same_bits z after_end) ∙ runs_from-none bits at none_left,
          );
          at = refl;
          run = (none_left, same_bits z after_end);
          reads = omega (
            arith,
            search.reads,
            counted,
            unread-le,
            unread-some w wide n n (omega (arith, some)),
            need_most w wide n,
          );
          rises = rises_so_far;
        }

        pub IsOnRuns-back_none : {any any_back : ℕ}
            → IsOnRuns w (map number z.items) (bits_of n z) n first at n any true any_back
        IsOnRuns-back_none = record {
          count = rw (after_end) on.count;
          within = omega arith;
          begun = omega (arith, on.begun, on.within);
          order = omega (arith, on.order, on.within);
          passed = λ i above below.
              rw (same_bits z after_end) (none_left i above (omega (arith, below, size)));
          ended = λ more below.
              rw (same_bits z after_end) (ended_there more (omega (arith, below, size)));
          held = λ more below. absurd (omega arith);
          held_back = λ own below. absurd (omega arith);
        }

      module _ (inside : end ≢ from) {u : Reading X} {last : ℕ} (below_end : last ≡ end - 1)
          {start : ℕ} {held_last : X}
          (before : FindsBack w number (not value) z u from last start held_last) where
        upto_end : (from < end) × (end ≤ n)
        upto_end = (
          omega (arith, search.above, inside),
          omega (arith, search.within, top, some),
        )

        after_start : u.items ≡ x.items
        after_start = before.items ∙ after_end

        set_within : (i : ℕ) → start ≤ i → i < end → item bits i ≡ true
        set_within i above below = set_from (item bits i) (λ same.
            before.between i above (omega (arith, below, below_end)) (has_value-unset value _
            (sym (bit_is z after_end i (omega (arith, above, before.above, on.begun))
            (omega (arith, below, upto_end.1))) ∙ same)))

        set_last : item bits (end - 1) ≡ true
        set_last = bit_is y held (end - 1) (omega (arith, upto_end.0, on.begun))
            (omega (arith, upto_end.0, upto_end.1))
            ∙ has_value-there value _ (search.there upto_end.0)

        unset_before : from < start → item bits (start - 1) ≡ false
        unset_before above =
            bit_is z after_end (start - 1) (omega (arith, above, on.begun))
            (omega (arith, before.within, below_end, upto_end))
            ∙ has_value-other value _ (before.there above)

        -- the bit that ends one search isn't the one that ends the other
        some_set : start < end
        some_set = elim (cases_lt start end) [
          | inl less ↦ less
          | inr past ↦
              let here : end - 1 ≡ start - 1 =
              omega (arith, past, before.within, below_end, upto_end.0) in
              absurd (false≢true (sym (unset_before (omega (arith, past, upto_end.0)))
              ∙ ap (item bits) (sym here) ∙ set_last))
        ]

        below_start : (i : ℕ) → i + 1 ≡ start → item bits i ≡ false
        below_start i next = elim (cases_lt from start) [
          | inl above ↦
              let here : i ≡ start - 1 = omega (arith, next) in
              ap (item bits) here ∙ unset_before above
          | inr same ↦ elim (cases_lt i at) [
            | inr passed ↦ unset_from (item bits i)
                (on.passed i passed (omega (arith, next, same, before.above)))
            | inl under ↦
                let here : at ≡ start = omega (arith, next, same, under, on.order, before.above) in
                absurd (false≢true (sym (ended_there (omega (arith, under))
                (omega (arith, here, some_set, upto_end.1, size)))
                ∙ ap (item bits) here ∙ set_within start (omega arith) some_set))
          ]
        ]

        unset_from_end : (i : ℕ) → end ≤ i → item bits i ≢ true
        unset_from_end i above = elim (cases_lt i n) [
          | inl below ↦ unset_behind i above below
          | inr past ↦ λ same. false≢true
              (sym (get_or_past bits i false (omega (arith, past, size))) ∙ same)
        ]

        last_run : IsLastRun bits at start end
        last_run = record {
          above = omega (arith, on.order, before.above);
          run = record {
            some = some_set;
            inside = omega (arith, upto_end.1, size);
            set = set_within;
            before = below_start;
            behind = unset_from (item bits end) (unset_from_end end (omega arith));
          };
          last = unset_from_end;
        }

        left_bits : bits_of start u ≡ take start bits
        left_bits =
            ap (λ l. seen value first (unpacking start (map number l) w)) after_start
            ∙ seen-take value first start n (map number x.items) w
            (omega (arith, on.begun, before.above)) (omega (arith, some_set, upto_end.1))

        left_item : (i : ℕ) → i < start → item (bits_of start u) i ≡ item bits i
        left_item i below = ap (λ l. item l i) left_bits ∙ get_or-take start bits i false below

        pub IsOnRuns-back : IsOnRuns w (map number u.items) (bits_of start u) start first at from
            hand true (number held_last)
        IsOnRuns-back = record {
          count = rw (after_start) (omega (
            arith,
            on.count,
            need-le-need w wide start n (omega (arith, some_set, upto_end.1)),
          ));
          within = before.above;
          begun = on.begun;
          order = on.order;
          passed = λ i above below same. on.passed i above below
              (sym (left_item i (omega (arith, below, before.above))) ∙ same);
          ended = λ more below. left_item at below
              ∙ on.ended more (omega (arith, below, some_set, upto_end.1));
          held = λ more below. rw (after_start)
              (on.held more (omega (arith, below, some_set, upto_end.1)));
          held_back = λ own below. rw (before.items) (before.block below);
        }

        reads_in_all : u.reads + unread_from w start from + 0
            ≤ x.reads + unread_from w n from + cond ready 0 1
        reads_in_all = elim (cases_lt from start) [
          | inr same ↦
              let here : start ≡ from = omega (arith, same, before.above) in
              omega (
                arith,
                none_unread here,
                before.reads,
                search.reads,
                counted,
                unread-le,
                ap (λ k. k / w) below_end,
              )
          | inl above ↦
              let next : start ≡ (start - 1) + 1 = omega arith in
              let blocks = ap (λ m. need m w) next ∙ need_one_more w wide (start - 1) in
              omega (
                arith,
                blocks,
                last_block,
                before.reads,
                search.reads,
                counted,
                cond-le (from == 0) (from / w + 1),
                quotients_rise w wide from (start - 1) (omega arith),
                ap (λ k. k / w) below_end,
              )
        ]
          where
            none_unread : start ≡ from → unread_from w start from ≡ 0
            none_unread here = elim (cases_eq from 0) [
              | inl zero ↦ ap (λ m. unread_from w m from) (here ∙ zero)
                  ∙ omega (arith, need-zero w wide)
              | inr later ↦ unread-some w wide start from (omega arith)
                  ∙ omega (arith, need_most w wide from, ap (λ m. need m w) here)
            ]

        pub GivesLastRun-next : GivesLastRun (walk_of n x at from ready)
            (Some record { start = start; end = end }) (walk_of start u at from true)
        GivesLastRun-next = record {
          gives = runs_from-last bits at record { start = start; end = end } last_run ended_there
              ∙ ap (λ l. runs_from l at ++ record { start = start; end = end } ∷ []) (sym left_bits);
          at = refl;
          run = (last_run, left_bits);
          reads = reads_in_all;
          rises = omega (
            arith,
            rises_so_far,
            before.reads,
            quotients_rise w wide from last (omega (arith, below_end, upto_end.0)),
            quotients_rise w wide (start - 1) last (omega (arith, below_end, some_set)),
          );
        }

-- what is still to come grows fewer by each run that is given at the back
pub fewer_left_back : (walk after : RunWalk) (run : Range ℕ) → GivesLastRun walk (Some run) after
    → length after.rest < length walk.rest
fewer_left_back walk after run gives =
    omega (arith, ap length gives.gives, length-append after.rest (run ∷ []))

-- a run over a walk from the back gives the runs still to come, the last one first
pub runs_in_reverse : YieldsInReverse GivesLastRun (λ walk. walk.rest)
runs_in_reverse p s = as_is_back p p.from.rest (from_back GivesLastRun (λ run. run)
    (λ walk. walk.rest) (λ walk after h. ap length h.gives.0) (λ walk run after h. h.gives) p s)
