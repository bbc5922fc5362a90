-- A block in hand at the back, of which the lowest places are true, or others.
use Rattle.std.specs.List.{range_with_len}
use Rattle.std.proofs.Common.{◌≡◌, ◌≢◌, ◌↔◌, ℕ, Bool, true, false, ◌+◌, ◌-◌, ◌^◌, ◌<◌, ◌≤◌, [], ◌∷◌, ◌++◌, ltb, length, append-nil, sym, ap, ◌∙◌, arith}
use Rattle.std.proofs.lemmas.Bool.{lt-ltb, le-ltb, ltb-true}
use Rattle.std.proofs.lemmas.List.FromFn.{length-range_with_len}
use Rattle.vob_block.specs.Places.{place, HasPlaces, HasZerosHigh}
use Rattle.vob_walk.specs.Cursor.{indices_where, block_indices}
use Rattle.vob_walk.specs.InHand.{IsBlockBits, IsBackBits, back_indices}
use Rattle.vob_walk.proofs.BlockBitsLemmas.{block_indices-zero, some_index, last_there}
use Rattle.vob_walk.proofs.FrontBitsLemmas.{range-full}
use Rattle.vob_walk.proofs.WhereLemmas.{indices_where-stop, indices_where-all, range_with_len-split}

-- the places of a mask are a run
block_indices-mask : (w at n m : ℕ) → n ≤ w → HasPlaces w m (λ j. ltb j n)
    → block_indices w at m ≡ range_with_len at n
unfolding block_indices
block_indices-mask w at n m inside mask =
    let whole : w ≡ n + (w - n) = omega arith in
    let p = λ (i : ℕ). place (i - at) m in
    ap (indices_where p at) whole
    ∙ indices_where-stop p at n (w - n) (λ i low high. mask.each (i - at) (omega arith)
    ∙ le-ltb (i - at) n (omega arith))
    ∙ indices_where-all p at n (λ i low high. mask.each (i - at) (omega arith)
    ∙ lt-ltb (i - at) n (omega arith))

-- without a run
pub word-indices : (w at word past : ℕ) → past ≡ at
    → back_indices w at word past ≡ block_indices w at word
word-indices w at word past none =
    let empty : past - at ≡ 0 = omega arith in
    ap (λ n. block_indices w at word ++ range_with_len at n) empty ∙ append-nil _

-- the last true place of a block that isn't 0, by a test (u is the width as the code read it)
pub word-last : {w at word u n : ℕ} {answer : Bool} → IsBlockBits w at word → u ≡ w
    → HasZerosHigh w word n → (answer ≡ true) ↔ (word ≡ 0) → answer ≡ false
    → (n ≤ u - 1) × (u - 1 - n < w) × (place (u - 1 - n) word ≡ true)
word-last {w} {at} bits e high test differs =
    last_there _ _ at _ _ e high (some_index w at _ _ test bits.within differs)

pub IsBackBits-word : {w at word past : ℕ} → past ≡ at → IsBlockBits w at word
    → IsBackBits w at word past
IsBackBits-word none bits = record {
  bits = bits;
  order = omega arith;
  inside = omega arith;
  alone = λ some. absurd (omega arith);
}

-- all places are a run
pub back_indices-full : (w at word past x : ℕ) → word ≡ 0 → past ≡ at + w → x ≡ 2 ^ w - 1
    → back_indices w at word past ≡ block_indices w at x
back_indices-full w at word past x none is full =
    let whole : past - at ≡ w = omega arith in
    ap (λ xs. xs ++ range_with_len at (past - at)) (block_indices-zero w at word none)
    ∙ ap (range_with_len at) whole ∙ range-full w at x full

-- a run
module _ {w at word past : ℕ} (h : IsBackBits w at word past) (some : past ≢ at) where
  run-alone : back_indices w at word past ≡ range_with_len at (past - at)
  run-alone = ap (λ xs. xs ++ range_with_len at (past - at))
      (block_indices-zero w at word (h.alone (omega arith)))

  pub run-some : back_indices w at word past ≢ []
  run-some none =
      omega (arith, ap length (sym run-alone ∙ none), length-range_with_len at (past - at))

  pub IsBackBits-shorter : IsBackBits w at word (past - 1)
  IsBackBits-shorter = record {
    bits = h.bits;
    order = omega arith;
    inside = omega arith;
    alone = λ less. h.alone (omega arith);
  }

  pub run-taken : back_indices w at word past
      ≡ back_indices w at word (past - 1) ++ (past - 1) ∷ []
  run-taken =
      let long : past - at ≡ past - 1 - at + 1 = omega arith in
      let last : at + (past - 1 - at) ≡ past - 1 = omega arith in
      let word_none = block_indices-zero w at word (h.alone (omega arith)) in
      run-alone ∙ ap (range_with_len at) long ∙ range_with_len-split at (past - 1 - at) 1
      ∙ ap (λ i. range_with_len at (past - 1 - at) ++ i ∷ []) last
      ∙ ap (λ xs. (xs ++ range_with_len at (past - 1 - at)) ++ (past - 1) ∷ []) (sym word_none)

  -- the block of its places
  module _ {m : ℕ} (within : m < 2 ^ w) (mask : HasPlaces w m (λ j. ltb j (past - at))) where
    pub IsBlockBits-mask : past < 2 ^ 64 → IsBlockBits w at m
    IsBlockBits-mask fits = record {
      within = within;
      fits = λ j inside there.
          omega (arith, ltb-true j (past - at) (sym (mask.each j inside) ∙ there));
    }

    pub run-indices : block_indices w at m ≡ back_indices w at word past
    run-indices = block_indices-mask w at (past - at) m (omega arith) mask ∙ sym run-alone
