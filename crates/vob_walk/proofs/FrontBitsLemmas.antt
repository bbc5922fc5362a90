-- A block in hand at the front, of which the places from one on are true and no others.
use Rattle.std.specs.List.{range_with_len}
use Rattle.std.proofs.Common.{◌≡◌, ℕ, ◌+◌, ◌-◌, ◌^◌, ◌<◌, ◌≤◌, true, false, ◌&&◌, leb, List, ◌++◌, filter}
use Rattle.std.proofs.Common.{length, sym, ap, ◌∙◌, arith}
use Rattle.std.proofs.lemmas.Bool.{lt-leb, le-leb, and_from}
use Rattle.std.proofs.lemmas.List.FromFn.{length-range_with_len}
use Rattle.vob_block.specs.Places.{place, HasPlaces}
use Rattle.vob_block.proofs.PlaceLemmas.{place-ones}
use Rattle.vob_walk.specs.Cursor.{block_indices}
use Rattle.vob_walk.specs.InHand.{IsFrontBits}
use Rattle.vob_walk.proofs.WhereLemmas.{indices_where-skip, indices_where-all}

-- x has no true place below `gone`, and every one from there on
block_indices-run : (w at x gone : ℕ) → gone ≤ w → ((j : ℕ) → j < gone → place j x ≡ false)
    → ((j : ℕ) → gone ≤ j → j < w → place j x ≡ true)
    → block_indices w at x ≡ range_with_len (at + gone) (w - gone)
unfolding block_indices
block_indices-run w at x gone inside none all =
    let whole : w ≡ gone + (w - gone) = omega arith in
    ap (λ n. filter (λ i. place (i - at) x) (range_with_len at n)) whole
    ∙ indices_where-skip (λ i. place (i - at) x) at gone (w - gone)
    (λ i low high. none (i - at) (omega arith))
    ∙ indices_where-all (λ i. place (i - at) x) (at + gone) (w - gone)
    (λ i low high. all (i - at) (omega arith) (omega arith))

-- all of them
pub range-full : (w at x : ℕ) → x ≡ 2 ^ w - 1 → range_with_len at w ≡ block_indices w at x
range-full w at x full =
    let first : at + 0 ≡ at = omega arith in
    let whole : w - 0 ≡ w = omega arith in
    sym (block_indices-run w at x 0 (omega arith) (λ j below. absurd (omega arith))
    (λ j from below. ap (place j) full ∙ place-ones w j below)
    ∙ ap (range_with_len (at + 0)) whole ∙ ap (λ i. range_with_len i w) first)

-- what is left of a run, and the block of its places
module _ {w first run : ℕ} {places : List ℕ} (h : IsFrontBits w places first run) (left : 0 < run) where
  pub run-alone : places ++ range_with_len first run ≡ range_with_len first run
  run-alone = ap (λ xs. xs ++ range_with_len first run) (h.alone left)

  pub length-run : run ≡ length (places ++ range_with_len first run)
  length-run = sym (ap length run-alone ∙ length-range_with_len first run)

  -- (u is the width as the code read it)
  pub run-indices : (u ones m : ℕ) → u ≡ w → ones ≡ 2 ^ w - 1
      → HasPlaces w m (λ j. leb (u - run) j && place (j - (u - run)) ones)
      → block_indices w (first - (u - run)) m ≡ places ++ range_with_len first run
  run-indices u ones m e full up =
      let gone = u - run in
      let start : first - gone + gone ≡ first = omega (arith, h.begins left) in
      let rest : w - gone ≡ run = omega arith in
      block_indices-run w (first - gone) m gone (omega arith)
      (λ j below. up.each j (omega arith)
      ∙ ap (λ b. b && place (j - gone) ones) (lt-leb gone j below))
      (λ j from below. up.each j below
      ∙ and_from (leb gone j) (place (j - gone) ones) (le-leb gone j from)
      (ap (place (j - gone)) full ∙ place-ones w (j - gone) (omega arith)))
      ∙ ap (λ i. range_with_len i (w - gone)) start ∙ ap (range_with_len first) rest
      ∙ sym run-alone
