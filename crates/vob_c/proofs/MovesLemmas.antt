-- Words whose bits are turned around.
use Rattle.std.specs.Prelude.{All}
use Rattle.std.proofs.Common.{◌≡◌, ℕ, ◌+◌, ◌-◌, ◌^◌, ◌<◌, ◌≤◌, Bool, false, List, ◌++◌, length, drop, take, sym, ◌∙◌, arith}
use Rattle.std.proofs.lemmas.List.{ext_get_or, length-append, length-drop, length-take}
use Rattle.vob_block.specs.Packing.{unpacking, IsCanonical}
use Rattle.vob_block.proofs.PackingLemmas.{bit_at-is_item, length-unpacking}
use Rattle.vob_store.specs.Reversing.{AreReversed}
use Rattle.vob.specs.Moves.{IsReversedBetween}

module _ (n start stop : ℕ) (xs ys : List ℕ) (own : IsCanonical n xs 64) (fits : stop ≤ n)
    (long : length ys ≡ length xs) (small : All (λ x. x < 2 ^ 64) ys)
    (done : AreReversed 64 start stop xs ys) where
  pub turned_canonical : IsCanonical n ys 64
  turned_canonical = record {
    count = long ∙ own.count;
    within = small;
    unused = λ i past. done.behind i (omega (arith, fits, past)) ∙ own.unused i past;
  }

  pub turned_each : IsReversedBetween start stop (unpacking n xs 64) (unpacking n ys 64)
  turned_each =
      let new = λ (i : ℕ). sym (bit_at-is_item 64 (omega arith) n ys turned_canonical i) in
      let old = bit_at-is_item 64 (omega arith) n xs own in record {
        len = length-unpacking n ys 64 ∙ sym (length-unpacking n xs 64);
        inside = λ j below. new (start + j) ∙ done.inside j below ∙ old (stop - 1 - j);
        before = λ i less. new i ∙ done.before i less ∙ old i;
        behind = λ i past. new i ∙ done.behind i past ∙ old i;
      }

-- no bits are those rotated
pub rotated_nothing : (k : ℕ) (bits : List Bool) → length bits ≡ 0 → bits ≡ drop k bits ++ take k bits
rotated_nothing k bits none = ext_get_or false bits (drop k bits ++ take k bits)
    (omega (
      arith,
      none,
      length-append (drop k bits) (take k bits),
      length-drop k bits,
      length-take k bits,
    )) (λ i inside. absurd (omega (arith, none, inside)))
