-- Rows that are led through a node, where one of them is that node's own.
use Rattle.std.proofs.Common.{◌≡◌, ℕ, ◌+◌, Bool, true, false, ◌||◌, List, refl, arith, inl, inr}
use Rattle.std.proofs.lemmas.Bool.{cases_Bool}
use Rattle.vob_matrix.specs.Matrix.{entry}
use Rattle.vob_matrix.specs.MatrixPaths.{IsLedThrough}
use Rattle.vob_matrix.proofs.ShapeLemmas.{HaveShapeOf-same}
use Rattle.vob_matrix.proofs.UnionLemmas.{IsLedThrough-more, IsLedThrough-skip}

or_itself : (b : Bool) → b ≡ (b || b)
or_itself true = refl
or_itself false = refl

-- a row gains nothing from itself
pub led_itself : (rows before : List (List Bool)) (k : ℕ) → IsLedThrough rows k 0 k before
    → IsLedThrough rows k 0 (k + 1) before
led_itself rows before k h = elim (cases_Bool (entry before k k)) [
  | inl edge ↦ IsLedThrough-more rows k 0 k before (omega arith) h before edge (record {
    shape = HaveShapeOf-same before;
    there = λ j. or_itself (entry before k j);
    others = λ l j other. refl;
  })
  | inr none ↦ IsLedThrough-skip rows k 0 k before (omega arith) h none
]
