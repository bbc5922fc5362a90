-- How many bits are true in a window, over its blocks.
use Rattle.std.specs.declared.ops.Bound.TheVariants.{Included, Excluded}
use Rattle.std.proofs.Common.{◌≡◌, ◌≢◌, ℕ, ◌+◌, ◌-◌, ◌*◌, ◌/◌, ◌<◌, ◌≤◌, min, max}
use Rattle.std.proofs.Common.{Bool, true, false, not, ◌&&◌, nat_le, nat_lt, List}
use Rattle.std.proofs.Common.{length, map, get_or, refl, sym, ap, ◌∙◌, arith, inl, inr}
use Rattle.std.proofs.Common.{length-append, add-mul, mod-lt, div-add-mod', div-mul-le_self}
use Rattle.std.proofs.lemmas.Bool.{cases_lt}
use Rattle.std.specs.List.{range_with_len}
use Rattle.std.proofs.lemmas.List.Sums.{length-filter}
use Rattle.std.proofs.lemmas.Nat.{mul-le}
use Rattle.vob_block.specs.Places.{place, HasPlaces, true_places}
use Rattle.vob_block.specs.Packing.{need, bit_at}
use Rattle.vob_block.proofs.NeedLemmas.{need_enough}
use Rattle.vob_block.proofs.PackingLemmas.{bit_at-in_block}
use Rattle.vob_walk.specs.Matches.{has_value, blocks_met}
use Rattle.vob_walk.specs.Count.{ones_between}
use Rattle.vob_walk.specs.Cursor.{indices_where, block_indices, is_hit, unread, AreBlocksOf}
use Rattle.vob_walk.proofs.WhereLemmas.{indices_where-split, indices_where-same, length-indices_where-le, between_parts, between_from, indices_where-alike}
use Rattle.std.proofs.lemmas.List.Filters.{length-filter_both}
use Rattle.std.proofs.lemmas.List.FromFn.{length-range_with_len}
use Rattle.vob_walk.proofs.BlockBitsLemmas.{length-block_indices}
use Rattle.vob_walk.proofs.ScanLemmas.{product-more, block_indices-masked}
use Rattle.vob_walk.proofs.WindowLemmas.{IsRangeOf-own}
use Rattle.vob_walk.proofs.CursorLemmas.{blocks_met-blocks}

-- ---- a test and its contrary

-- together they hold of every number
indices_where-not : (p : ℕ → Bool) (a n : ℕ) → length (indices_where p a n) + length
    (indices_where (λ i. not (p i)) a n) ≡ n
indices_where-not p a n = length-filter_both p (λ i. not (p i)) (λ i. refl) (range_with_len a n)
    ∙ length-range_with_len a n

-- ---- the true bits of some blocks

module _ (w : ℕ) (xs : List ℕ) where
  ones-indices_where : (start stop : ℕ) → ones_between w xs start stop
      ≡ length (indices_where (bit_at xs w) start (stop - start))
  unfolding ones_between
  ones-indices_where start stop = sym (length-filter (bit_at xs w)
      (range_with_len start (stop - start)))

  pub ones-none : (start stop : ℕ) → stop ≤ start → ones_between w xs start stop ≡ 0
  ones-none start stop h = omega (
    arith,
    ones-indices_where start stop,
    length-indices_where-le (bit_at xs w) start (stop - start),
  )

  pub ones-le : (start stop : ℕ) → ones_between w xs start stop ≤ stop - start
  ones-le start stop = omega (
    arith,
    ones-indices_where start stop,
    length-indices_where-le (bit_at xs w) start (stop - start),
  )

  pub ones-split : (start middle stop : ℕ) → start ≤ middle → middle ≤ stop
      → ones_between w xs start stop ≡ ones_between w xs start middle + ones_between w xs middle
      stop
  ones-split start middle stop first second =
      let parts : stop - start ≡ (middle - start) + (stop - middle) = omega arith in
      let there : start + (middle - start) ≡ middle = omega arith in
      simp ones-indices_where (rw (
        parts,
        indices_where-split (bit_at xs w) start (middle - start) (stop - middle),
        length-append,
        there,
      ) refl)

  -- the first bits of a block are its places
  pub ones-part : (k x : ℕ) → x ≡ get_or xs k 0 → (j : ℕ) → j ≤ w
      → ones_between w xs (k * w) (k * w + j) ≡ true_places j x
  unfolding block_indices
  ones-part k x read j inside =
      let long : k * w + j - k * w ≡ j = omega arith in
      ones-indices_where (k * w) (k * w + j)
      ∙ ap (λ n. length (indices_where (bit_at xs w) (k * w) n)) long
      ∙ ap length (indices_where-same (bit_at xs w) (λ i. place (i - k * w) x) (k * w) j
      (λ i from below.
      let back : k * w + (i - k * w) ≡ i = omega arith in
      ap (bit_at xs w) (sym back) ∙ bit_at-in_block xs w k (i - k * w) (omega arith)
      ∙ ap (place (i - k * w)) (sym read)))
      ∙ length-block_indices j (k * w) x

  -- one block more
  pub ones-more : (from k x : ℕ) → from ≤ k → x ≡ get_or xs k 0
      → ones_between w xs (from * w) ((k + 1) * w)
      ≡ ones_between w xs (from * w) (k * w) + true_places w x
  ones-more from k x h read =
      ones-split (from * w) (k * w) ((k + 1) * w) (mul-le from w k w h (omega arith))
      (omega (arith, product-more w k))
      ∙ ap (λ n. ones_between w xs (from * w) (k * w) + n)
      (ap (ones_between w xs (k * w)) (product-more w k) ∙ ones-part k x read w (omega arith))

  -- those of two halves, each counted up to where it ends
  pub ones-halves : (from half k : ℕ) {low high : ℕ} → k ≡ from + half
      → low ≡ ones_between w xs (from * w) (k * w)
      → high ≡ ones_between w xs ((from + half) * w) ((k + half) * w)
      → low + high ≡ ones_between w xs (from * w) ((from + half + half) * w)
  ones-halves from half k last first second =
      let middle = from + half in
      let to = middle + half in
      omega (
        arith,
        ap (λ n. ones_between w xs (from * w) (n * w)) last,
        ap (λ n. ones_between w xs (middle * w) ((n + half) * w)) last,
        ones-split (from * w) (middle * w) (to * w) (mul-le from w middle w (omega arith)
            (omega arith)) (mul-le middle w to w (omega arith) (omega arith)),
      )

  -- ---- within a window

  -- the hits of a stretch are the bits of the value in the part of the window in it
  hits-cut : (value : Bool) (start stop a n low high : ℕ) → high ≡ min stop (a + n)
      → low ≡ min (max start a) high → indices_where (is_hit w xs value start stop) a n
      ≡ indices_where (λ i. has_value value (bit_at xs w i)) low (high - low)
  hits-cut value start stop a n low high last first =
      let bit = λ (i : ℕ). has_value value (bit_at xs w i) in
      indices_where-alike (is_hit w xs value start stop) bit a n low (high - low)
      (λ i from below holds. let hit = between_parts start stop i (bit i) holds in
      (omega arith, omega arith, hit.2))
      (λ i from below holds. (
        omega arith,
        omega arith,
        between_from start stop i (omega arith) (omega arith) holds,
      ))

  -- so are the places of one block, masked
  pub ones-masked : (start stop k low high x y : ℕ) → x ≡ get_or xs k 0
      → HasPlaces w y (λ j. nat_le start (k * w + j) && nat_lt (k * w + j) stop && has_value true
      (place j x))
      → low ≡ max start (k * w) → high ≡ min stop (k * w + w) → low ≤ high → true_places w y
      ≡ ones_between w xs low high
  ones-masked start stop k low high x y read places first last ordered =
      sym (length-block_indices w (k * w) y) ∙ ap length
      (block_indices-masked w xs true start stop k x read y places
      ∙ hits-cut true start stop (k * w) w low high last (omega arith))
      ∙ sym (ones-indices_where low high)

  -- and the unread blocks
  module _ (value : Bool) (start stop next end low high : ℕ) (ordered : next ≤ end)
      (last : high ≡ min stop (end * w)) (first : low ≡ min (max start (next * w)) high) where
    length-unread : length (unread w xs value start stop next end)
        ≡ length (indices_where (λ i. has_value value (bit_at xs w i)) low (high - low))
    unfolding unread
    length-unread =
        let blocks : next * w + (end - next) * w ≡ end * w =
        sym (add-mul next (end - next) w) ∙ ap (λ k. k * w) (omega arith) in
        ap length (hits-cut value start stop (next * w) ((end - next) * w) low high (omega arith) first)

    pub length-unread-set : value ≡ true → length (unread w xs value start stop next end)
        ≡ ones_between w xs low high
    length-unread-set set = length-unread ∙ ap
        (λ v. length (indices_where (λ i. has_value v (bit_at xs w i)) low (high - low))) set
        ∙ sym (ones-indices_where low high)

    pub length-unread-unset : value ≡ false → length (unread w xs value start stop next end)
        ≡ high - low - ones_between w xs low high
    length-unread-unset unset =
        length-unread ∙ ap (λ v. length (indices_where (λ i. has_value v (bit_at xs w i)) low
        (high - low))) unset
        ∙ omega (
          arith,
          indices_where-not (bit_at xs w) low (high - low),
          ones-indices_where low high,
        )

-- ---- a window over the blocks that it meets

module _ (w : ℕ) (wide : 0 < w) {start stop first end : ℕ}
    (spans : AreBlocksOf w start stop first end) (ordered : start ≤ stop) where
  pub blocks_met-own : end - first ≡ blocks_met (Included start) (Excluded stop) stop w
  blocks_met-own = blocks_met-blocks w wide (IsRangeOf-own start stop stop ordered (omega arith)) spans

  module _ (xs : List ℕ) where
    pub ones-nothing : first ≡ end → ones_between w xs start stop ≡ 0
    ones-nothing none = elim (cases_lt start stop) [
      | inl some ↦
          let at = spans.some some in
          let empty : start / w * w ≡ need stop w * w = ap (λ k. k * w) (sym at.0 ∙ none ∙ at.1) in
          absurd (omega (arith, need_enough w wide stop, div-mul-le_self start w))
      | inr past ↦ ones-none w xs start stop past
    ]

    module _ (apart : first ≢ end) where
      -- the first block holds index start, and the last one ends the window
      record Ends : Type 0 where
        some : first < end
        from : first * w ≤ start
        within : start < first * w + w
        enough : stop ≤ end * w

      ends : Ends
      ends = elim (cases_lt start stop) [
        | inl fine ↦
            let at = spans.some fine in
            let parts = div-add-mod' start w in
            let product = ap (λ k. k * w) at.0 in
            let room = ap (λ k. k * w) at.1 in
            record {
              some = omega arith;
              from = omega arith;
              within = omega (arith, mod-lt start wide);
              enough = omega (arith, need_enough w wide stop);
            }
        | inr past ↦ absurd (omega (arith, spans.none (omega arith)))
      ]

      -- the part of the window in block k
      abbrev part : ℕ → ℕ
      part k = ones_between w xs (max start (k * w)) (min stop (k * w + w))

      part-is : (k low high : ℕ) → low ≡ max start (k * w) → high ≡ min stop (k * w + w)
          → part k ≡ ones_between w xs low high
      part-is k low high first last =
          ap (λ n. ones_between w xs n (min stop (k * w + w))) (sym first)
          ∙ ap (ones_between w xs low) (sym last)

      -- one block alone holds the whole window
      pub ones-alone : first ≡ end - 1 → part first ≡ ones_between w xs start stop
      ones-alone alone =
          let whole : end * w ≡ first * w + w =
          ap (λ k. k * w) (omega arith) ∙ product-more w first in
          part-is first start stop (omega (arith, ends.from)) (omega (arith, ends.enough, whole))

      -- two blocks or more have a part in them at each end, and whole blocks between them
      pub ones-parts : first ≢ end - 1
          → part first + ones_between w xs ((first + 1) * w) ((end - 1) * w) + part (end - 1)
          ≡ ones_between w xs start stop
      ones-parts more =
          let last = end - 1 in
          let after = product-more w first in
          let whole : end * w ≡ last * w + w =
          ap (λ k. k * w) (omega arith) ∙ product-more w last in
          let between = mul-le (first + 1) w last w (omega arith) (omega arith) in
          let short = spans.below last (omega arith) in
          let head = part-is first start ((first + 1) * w) (omega (arith, ends.from))
          (omega arith) in
          let tail = part-is last (last * w) stop (omega (arith, after, between, ends.within))
          (omega (arith, ends.enough, whole)) in
          let rest = ones-split w xs ((first + 1) * w) (last * w) stop between (omega arith) in
          let all = ones-split w xs start ((first + 1) * w) stop (omega (arith, after, ends.within))
          (omega arith) in
          omega arith

-- ---- blocks as they are read

-- one block more of those before block `to`
pub ones-next : {A : Type 0} (w : ℕ) (number : A → ℕ) (items : List A) {from k : ℕ} {x : A}
    {sum more : ℕ} (next to : ℕ) → number x ≡ get_or (map number items) k 0
    → sum ≡ ones_between w (map number items) (from * w) (k * w) → more ≡ true_places w (number x)
    → from ≤ k → next ≡ k + 1 → next ≤ to
    → (sum + more ≡ ones_between w (map number items) (from * w) (next * w)) × (sum + more ≤ to * w)
ones-next w number items {from} {k} {x} next to read so_far here low is_next high =
    let xs = map number items in
    let all = ones-more w xs from k (number x) low read in
    let same = ap (λ n. ones_between w xs (from * w) (n * w)) is_next in
    let few = ones-le w xs (from * w) (next * w) in
    let within = mul-le next w to w high (omega arith) in
    (omega arith, omega (arith, within))
