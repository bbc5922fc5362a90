-- A pull at a walk: the block in hand gives its first or last index, and the rest stays.
use Rattle.std.specs.Bool.{⊤}
use Rattle.std.specs.Option.{MatchOption}
use Rattle.std.specs.Iterator.{MakesProgress, item_count}
use Rattle.std.specs.declared.ops.Bound.{Bound}
use Rattle.std.proofs.Common.{◌≡◌, ℕ, Bool, ◌/◌, ◌+◌, ◌-◌, ◌<◌, ◌≤◌, List, [], ◌∷◌, ◌++◌, length}
use Rattle.std.proofs.Common.{Option, Some, None, refl, sym, ap, ◌∙◌, arith, inl, inr, append-nil}
use Rattle.std.proofs.Common.{append_assoc}
use Rattle.std.proofs.lemmas.Bool.{cases_lt}
use Rattle.std.proofs.lemmas.Option.{MatchOption-at_none}
use Rattle.std.proofs.lemmas.List.{nil_from_length, length-append}
use Rattle.vob_block.specs.Packing.{need, unpacking}
use Rattle.vob_block.proofs.NeedLemmas.{mul-lt_from_need}
use Rattle.vob_walk.specs.Matches.{matches, blocks_met, IsRangeOf}
use Rattle.vob_walk.specs.Cursor.{unread, UnreadBlocks, has_index, walk_of, AreBlocksOf}
use Rattle.vob_walk.proofs.WindowLemmas.{matches-hits, matches-nothing, blocks_met-window, blocks_met-nothing, div-le-need}
use Rattle.vob_walk.proofs.ScanLemmas.{unread-none}
use Rattle.vob_walk.specs.Walk.{Walk, IsWhole, IsPulled, given_count}

pub nil_left : (xs ys : List ℕ) → xs ++ ys ≡ [] → xs ≡ []
nil_left xs ys none = nil_from_length xs (omega (arith, length-append xs ys, ap length none))

pub nil_right : (xs ys : List ℕ) → xs ++ ys ≡ [] → ys ≡ []
nil_right xs ys none = nil_from_length ys (omega (arith, length-append xs ys, ap length none))

pub nil_both : (xs ys zs : List ℕ) → zs ≡ [] → xs ++ ys ≡ [] → xs ++ (ys ++ zs) ≡ []
nil_both xs ys zs last none = sym (append_assoc xs ys zs) ∙ ap (λ l. l ++ zs) none ∙ last

-- the last of a list whose last part is in hand
pub last-steps : (answer : Option ℕ) (full bits front between old : List ℕ)
    → front ++ (between ++ full) ≡ old → (full ≡ [] → old ≡ [])
    → MatchOption answer ((full ≡ []) × (bits ≡ [])) (λ i. full ≡ bits ++ i ∷ [])
    → MatchOption answer ((old ≡ []) × (front ++ (between ++ bits) ≡ []))
    (λ i. old ≡ (front ++ (between ++ bits)) ++ i ∷ [])
last-steps None full bits front between old same empty taken =
    let none = empty taken.0 in
    (none, ap (λ xs. front ++ (between ++ xs)) (taken.1 ∙ sym taken.0) ∙ same ∙ none)
last-steps (Some i) full bits front between old same empty taken =
    rw (← same, taken) (simp append_assoc)

-- ---- a pull at either end: the indices in hand there and at the other end, before it and after it

module _ (before after : UnreadBlocks) (taken left other other_after : List ℕ)
    (reads : after.reads + after.left ≡ before.reads + before.left)
    (falls : after.left ≤ before.left) (fewer : length other_after ≤ length other) where
  -- where an index was given, one read more is paid for, and else no end holds an index any more
  pub reads-pulled : (answer : Option ℕ) (walk walk_after : Walk) → walk.reads ≡ before.reads
      → walk.left ≡ before.left + has_index taken + has_index other → walk.credit ≡ before.left
      → walk_after.reads ≡ after.reads → walk_after.left
      ≡ after.left + has_index left + has_index other_after → walk_after.credit ≡ after.left
      → (answer ≡ None → (left ≡ []) × (other_after ≡ [])) → IsPulled walk (answer ∷ []) walk_after
  unfolding given_count
  reads-pulled None walk walk_after r l k ra la ka empty =
      let none = empty refl in
      record {
        bound = omega (arith, ap has_index none.0, ap has_index none.1);
        rises = omega arith;
        credit = omega arith;
      }
  reads-pulled (Some i) walk walk_after r l k ra la ka empty = record {
    bound = omega arith;
    rises = omega arith;
    credit = omega arith;
  }

-- a pull that gave nothing left nothing at either end
pub none-left : {answer : Option ℕ} {filled left other : List ℕ} (Q : ℕ → Type 0) → answer ≡ None
    → (filled ≡ [] → other ≡ []) → MatchOption answer ((filled ≡ []) × (left ≡ [])) Q
    → (left ≡ []) × (other ≡ [])
none-left {filled = filled} {left = left} Q none empty taken =
    let nothing = MatchOption-at_none ((filled ≡ []) × (left ≡ [])) Q none taken in
    (nothing.1, empty nothing.0)

-- ---- the walk over a window, before the first pull

module _ (w : ℕ) (wide : 0 < w) where
  pub AreBlocksOf-window : (start stop next end : ℕ) → start < stop → next ≡ start / w → end
      ≡ need stop w → AreBlocksOf w start stop next end
  AreBlocksOf-window start stop next end some first last = record {
    order = omega (arith, div-le-need w wide start stop (omega arith));
    count = omega arith;
    below = λ k h. mul-lt_from_need w wide stop k (omega arith);
    some = λ _. (first, last);
    none = λ empty. absurd (omega arith);
  }

  module _ {low high : Bound ℕ} {n start stop next end : ℕ}
      (window : IsRangeOf low high n start stop) (spans : AreBlocksOf w start stop next end) where
    -- all that matches is in unread blocks
    pub unread-window : (xs : List ℕ) (value : Bool) → unread w xs value start stop next end
        ≡ matches (unpacking n xs w) value low high
    unread-window xs value = elim (cases_lt start stop) [
      | inl some ↦
          let ends = spans.some some in
          rw (ends.0, ends.1) (sym (matches-hits w wide window xs value))
      | inr none ↦
          let empty : start ≡ stop = let ordered = window.order in omega arith in
          unread-none w xs value start stop next end (omega (arith, spans.none empty))
          ∙ sym (matches-nothing w wide window xs value empty)
    ]

    -- and they are the blocks met
    pub blocks_met-blocks : end - next ≡ blocks_met low high n w
    blocks_met-blocks = elim (cases_lt start stop) [
      | inl some ↦ let ends = spans.some some in omega
          (arith, ends.0, ends.1, blocks_met-window w wide window some)
      | inr none ↦
          let empty : start ≡ stop = let ordered = window.order in omega arith in
          omega (arith, spans.none empty, blocks_met-nothing w wide window empty)
    ]

-- where nothing is in hand at either end, all is in the unread blocks
module _ {front back : List ℕ} (none : front ≡ []) (no_other : back ≡ []) where
  pub rest-fresh : (indices : List ℕ) → front ++ (indices ++ back) ≡ indices
  rest-fresh indices = rw (none, no_other, append-nil) refl

  pub IsWhole-fresh : (unread : UnreadBlocks) {bits : List Bool} {value : Bool} {low high : Bound ℕ}
      {n w : ℕ} → length bits ≡ n → unread.rest ≡ matches bits value low high
      → unread.left ≡ blocks_met low high n w
      → IsWhole (walk_of front unread back) bits value low high w
  IsWhole-fresh unread {bits} {value} {low} {high} {n} {w} long rest left =
      let met = ap (λ m. blocks_met low high m w) long in record {
        rest = rest-fresh unread.rest ∙ rest;
        left = omega (arith, ap has_index none, ap has_index no_other);
        credit = omega arith;
      }

-- what gives the last of a list has less left
pub goes-last : (answer : Option ℕ) (walk after : Walk)
    → MatchOption answer ((walk.rest ≡ []) × (after.rest ≡ []))
    (λ i. walk.rest ≡ after.rest ++ i ∷ [])
    → MakesProgress (λ (w : Walk). ⊤) (item_count (λ (w : Walk). w.rest)) walk answer after
goes-last None walk after taken = record { on = λ finite. tt; keeps = tt; rests = λ _. tt }
goes-last (Some i) walk after taken = record {
  on =
      λ finite. (tt, finite, omega (arith, ap length taken, length-append after.rest (i ∷ [])));
  keeps = tt;
  rests = λ _. tt;
}
