-- A range cut to a window of indices: what matches there stands in the blocks that the window meets.
use Rattle.std.specs.List.{list_any, range_with_len}
use Rattle.std.specs.declared.ops.Bound.{Bound}
use Rattle.std.specs.declared.ops.Bound.TheVariants.{Included, Excluded}
use Rattle.std.proofs.Common.{◌≡◌, ℕ, ◌+◌, ◌-◌, ◌*◌, ◌/◌, ◌<◌, ◌≤◌, Bool, true, false, ◌&&◌, nat_le}
use Rattle.std.proofs.Common.{nat_lt, ◌==◌, List, [], length, refl, sym, ap, ◌∙◌, arith, inl, inr}
use Rattle.std.proofs.Common.{add-mul, div-mul-le_self}
use Rattle.std.proofs.Common.{mul-div_cancel}
use Rattle.std.proofs.lemmas.Bool.{cases_lt, and_from, and_left, and_right, and_parts, ltb-true}
use Rattle.std.proofs.lemmas.Bool.{leb-true, lt-ltb, le-leb, eqb-true, eq-eqb, false_from_ne_true}
use Rattle.std.proofs.lemmas.Bool.{false≢true}
use Rattle.std.proofs.lemmas.List.Sums.{length-filter}
use Rattle.std.proofs.lemmas.Nat.{div_below, le-div, mul-le}
use Rattle.vob_block.specs.Packing.{item, need, bit_at, unpacking}
use Rattle.vob_block.proofs.NeedLemmas.{need_enough, need_least, mul-lt_from_need, div-lt-need}
use Rattle.vob_block.proofs.PackingLemmas.{length-unpacking, get_or-unpacking}
use Rattle.vob_walk.specs.Matches.{from_start, up_to_end, within, has_value, matches, blocks_met, IsRangeOf}
use Rattle.vob_walk.specs.Cursor.{indices_where, is_hit, unread}
use Rattle.vob_walk.proofs.WhereLemmas.{indices_where-same, indices_where-nothing, between_parts}
use Rattle.vob_walk.proofs.ScanLemmas.{product-more}
use Rattle.vob_walk.proofs.WhereLemmas.{indices_where-both, length-indices_all}
use Rattle.vob_walk.proofs.WhereLemmas.{length-indices_within, any-indices_where, any-nothing}

cut_tests : (s a f : Bool) → (s ≡ true → a ≡ f) → (f && s) ≡ (a && s)
cut_tests true a f same = ap (λ t. t && true) (sym (same refl))
cut_tests false a f same = and_right f false refl ∙ sym (and_right a false refl)

-- cut at the end first, and then at the start
pub IsRangeOf-cut : (low high : Bound ℕ) (len start stop : ℕ) → stop ≤ len → start ≤ stop
    → ((i : ℕ) → nat_lt i stop ≡ (nat_lt i len && up_to_end high i))
    → ((i : ℕ) → i < stop → nat_le start i ≡ from_start low i)
    → IsRangeOf low high len start stop
IsRangeOf-cut low high len start stop shorter ordered ends starts = record {
  order = ordered;
  inside = shorter;
  each = λ i inside.
      let end = ends i ∙ ap (λ b. b && up_to_end high i) (lt-ltb i len inside) in
      ap (λ b. from_start low i && b) (sym end) ∙ cut_tests (nat_lt i stop) (nat_le start i)
      (from_start low i) (λ below. starts i (ltb-true i stop below));
}

-- indices are the range of themselves
pub IsRangeOf-own : (start stop len : ℕ) → start ≤ stop → stop ≤ len
    → IsRangeOf (Included start) (Excluded stop) len start stop
IsRangeOf-own start stop len order inside =
    record { order = order; inside = inside; each = λ i _. refl }

module _ {low high : Bound ℕ} {n start stop : ℕ} (window : IsRangeOf low high n start stop) where
  in_window : (i : ℕ) → i < n → within low high i ≡ true → (start ≤ i) × (i < stop)
  in_window i below holds =
      let both = and_parts (nat_le start i) (nat_lt i stop) (sym (window.each i below) ∙ holds) in
      (leb-true start i both.0, ltb-true i stop both.1)

  from_window : (i : ℕ) → start ≤ i → i < stop → within low high i ≡ true
  from_window i from below =
      let inside = window.inside in
      window.each i (omega arith) ∙ and_from (nat_le start i) (nat_lt i stop)
      (le-leb start i from) (lt-ltb i stop below)

-- ---- the blocks from that of index start to the last that stop bits need

module _ (w : ℕ) (wide : 0 < w) where
  div-le-div : (i j : ℕ) → i ≤ j → i / w ≤ j / w
  div-le-div i j h = le-div (i / w) j w wide (omega (arith, div-mul-le_self i w))

  need-le_self : (n : ℕ) → need n w ≤ n
  need-le_self n = need_least w wide n n (omega (arith, mul-le n 1 n w (omega arith) wide))

  pub div-le-need : (start stop : ℕ) → start ≤ stop → start / w ≤ need stop w
  div-le-need start stop h =
      let more = product-more w (need stop w) in
      let below = div_below start w (need stop w + 1) wide
      (omega (arith, need_enough w wide stop)) in
      omega arith

  product_between : (k end : ℕ) → k ≤ end → k * w + (end - k) * w ≡ end * w
  product_between k end h =
      let whole : k + (end - k) ≡ end = omega arith in
      sym (add-mul k (end - k) w) ∙ ap (λ m. m * w) whole

-- ---- what is left of some blocks

module _ (w : ℕ) (xs : List ℕ) (value : Bool) (start stop : ℕ) where
  pub length-unread-le : (k end : ℕ) → length (unread w xs value start stop k end) ≤ stop
  unfolding unread
  length-unread-le k end =
      length-indices_within (is_hit w xs value start stop) (k * w) ((end - k) * w) 0 stop
      (λ i from below holds.
      let hit = between_parts start stop i (has_value value (bit_at xs w i)) holds in
      (omega arith, omega arith))

-- ---- a window over the first n bits of some blocks

module _ (w : ℕ) (wide : 0 < w) {low high : Bound ℕ} {n start stop : ℕ}
    (window : IsRangeOf low high n start stop) where
  -- the bits that match within the bounds are the hits in the blocks that the window meets
  pub matches-hits : (xs : List ℕ) (value : Bool) → matches (unpacking n xs w) value low high
      ≡ unread w xs value start stop (start / w) (need stop w)
  unfolding matches unread
  matches-hits xs value =
      let bits = unpacking n xs w in
      let test = λ (i : ℕ). within low high i && has_value value (item bits i) in
      let hit = λ (i : ℕ). is_hit w xs value start stop i in
      let agree = λ (i : ℕ) (from : 0 ≤ i) (below : i < 0 + n).
      ap (λ b. b && has_value value (item bits i)) (window.each i (omega arith))
      ∙ ap (λ b. (nat_le start i && nat_lt i stop) && has_value value b)
      (get_or-unpacking n xs w i false (omega arith)) in
      let between = λ (i : ℕ) (holds : hit i ≡ true).
      between_parts start stop i (has_value value (bit_at xs w i)) holds in
      let first = div-mul-le_self start w in
      let last = need_enough w wide stop in
      let blocks = product_between w wide (start / w) (need stop w)
      (div-le-need w wide start stop window.order) in
      let shorter = window.inside in
      ap (λ m. indices_where test 0 m) (length-unpacking n xs w)
      ∙ indices_where-same test hit 0 n agree
      ∙ indices_where-both hit 0 n (start / w * w) ((need stop w - start / w) * w)
      (λ i holds. (omega arith, omega (arith, between i holds)))
      (λ i holds. (omega (arith, between i holds), omega (arith, between i holds)))

  -- nothing matches where the window is empty
  pub matches-nothing : (xs : List ℕ) (value : Bool) → start ≡ stop
      → matches (unpacking n xs w) value low high ≡ []
  unfolding matches
  matches-nothing xs value empty =
      let bits = unpacking n xs w in
      let test = λ (i : ℕ). within low high i && has_value value (item bits i) in
      ap (λ m. indices_where test 0 m) (length-unpacking n xs w)
      ∙ indices_where-nothing test 0 n (λ i from below.
      and_left (within low high i) (has_value value (item bits i))
      (false_from_ne_true (within low high i)
      (λ holds. let there = in_window window i (omega arith) holds in absurd (omega arith))))

  -- whether block k holds an index of the range
  abbrev meets : ℕ → Bool
  meets k = list_any (λ i. i / w == k && within low high i) (range_with_len 0 n)

  meets-from : (k i : ℕ) → start ≤ i → i < stop → i / w ≡ k → meets k ≡ true
  meets-from k i from below here =
      let inside = window.inside in
      any-indices_where (λ j. j / w == k && within low high j) 0 n i (omega arith) (omega arith)
      (and_from (i / w == k) (within low high i) (eq-eqb (i / w) k here)
      (from_window window i from below))

  -- a block from the first to the last of the window does
  meets-within : (k : ℕ) → start < stop → start / w ≤ k → k < need stop w → meets k ≡ true
  meets-within k some first last = elim (cases_lt (k * w) start) [
    | inl before ↦
        let quotient : start / w ≡ k = omega (arith, le-div k start w wide (omega arith)) in
        meets-from k start (omega arith) some quotient
    | inr after ↦ meets-from k (k * w) after (mul-lt_from_need w wide stop k last)
        (mul-div_cancel k wide)
  ]

  -- and no other block
  meets-nothing : (k : ℕ) → ((i : ℕ) → start ≤ i → i < stop → i / w ≡ k → ⊥) → meets k ≡ false
  meets-nothing k never =
      any-nothing (λ j. j / w == k && within low high j) 0 n (λ i from below.
      false_from_ne_true (i / w == k && within low high i) (λ holds.
      let both = and_parts (i / w == k) (within low high i) holds in
      let there = in_window window i (omega arith) both.1 in
      never i there.0 there.1 (eqb-true (i / w) k both.0)))

  meets-only : (k : ℕ) → meets k ≡ true → (start / w ≤ k) × (k < need stop w)
  meets-only k holds = (
    elim (cases_lt k (start / w)) [
      | inl before ↦ absurd (false≢true (sym (meets-nothing k
          (λ i from below here. omega (arith, div-le-div w wide start i from))) ∙ holds))
      | inr fine ↦ fine
    ],
    elim (cases_lt k (need stop w)) [
      | inl fine ↦ fine
      | inr past ↦ absurd (false≢true (sym (meets-nothing k
          (λ i from below here. omega (arith, div-lt-need w wide stop i below))) ∙ holds))
    ],
  )

  -- so as many blocks are met as the window spans
  pub blocks_met-window : start < stop → blocks_met low high n w ≡ need stop w - start / w
  unfolding blocks_met
  blocks_met-window some =
      let ordered = div-le-need w wide start stop window.order in
      let few = need-le_self w wide stop in
      let shorter = window.inside in
      sym (length-filter meets (range_with_len 0 n))
      ∙ ap length (indices_where-both meets 0 n (start / w) (need stop w - start / w)
      (λ k holds. (omega arith, omega (arith, meets-only k holds)))
      (λ k holds. (omega (arith, meets-only k holds), omega (arith, meets-only k holds))))
      ∙ length-indices_all meets (start / w) (need stop w - start / w)
      (λ k first last. meets-within k some first (omega arith))

  pub blocks_met-nothing : start ≡ stop → blocks_met low high n w ≡ 0
  unfolding blocks_met
  blocks_met-nothing empty =
      sym (length-filter meets (range_with_len 0 n))
      ∙ ap length (indices_where-nothing meets 0 n
      (λ k from below. meets-nothing k (λ i first last here. omega arith)))

  pub blocks_met-most : blocks_met low high n w ≤ need stop w
  blocks_met-most = elim (cases_lt start stop) [
    | inl some ↦ omega (arith, blocks_met-window some)
    | inr past ↦ omega (arith, blocks_met-nothing (omega (arith, window.order)))
  ]

-- the window itself meets the same
pub blocks_met-same : (w : ℕ) → 0 < w → {low high : Bound ℕ} {n start stop : ℕ}
    → IsRangeOf low high n start stop
    → blocks_met (Included start) (Excluded stop) stop w ≡ blocks_met low high n w
blocks_met-same w wide {low} {high} {n} {start} {stop} window =
    let own = IsRangeOf-own start stop stop window.order (omega arith) in
    elim (cases_lt start stop) [
      | inl some ↦ blocks_met-window w wide own some ∙ sym (blocks_met-window w wide window some)
      | inr past ↦
          let empty : start ≡ stop = omega (arith, window.order) in
          blocks_met-nothing w wide own empty ∙ sym (blocks_met-nothing w wide window empty)
    ]
