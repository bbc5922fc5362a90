-- Rows of a matrix that keep their lengths where one of them is replaced.
use Rattle.std.proofs.Common.{◌≡◌, ◌≢◌, ℕ, ◌<◌, Bool, false, List, []}
use Rattle.std.proofs.Common.{length, replicate, set, refl, sym, ap, ◌∙◌, subst, arith, inl}
use Rattle.std.proofs.Common.{inr}
use Rattle.std.proofs.lemmas.Bool.{cases_eq}
use Rattle.std.proofs.lemmas.List.{length-set, length-replicate, get_or-set_same}
use Rattle.std.proofs.lemmas.List.{get_or-set_other}
use Rattle.std.proofs.lemmas.List.Elements.{All-from_get_or}
use Rattle.vob_block.specs.Packing.{item}
use Rattle.vob.specs.Bits.{IsWritten}
use Rattle.vob.specs.Vobs.{AreOfLength}
use Rattle.vob.proofs.BitsLemmas.{IsWritten-set}
use Rattle.vob.proofs.VobsLemmas.{of_length_replicate}
use Rattle.vob_rows.specs.Rows.{row_of}
use Rattle.vob_matrix.specs.Matrix.{entry, HaveShapeOf, IsEntryWritten}

pub HaveShapeOf-same : (rows : List (List Bool)) → HaveShapeOf rows rows
HaveShapeOf-same rows = record { count = refl; long = λ i. refl }

pub HaveShapeOf-trans : (rows between after : List (List Bool)) → HaveShapeOf rows between →
    HaveShapeOf between after → HaveShapeOf rows after
HaveShapeOf-trans rows between after first second = record {
  count = second.count ∙ first.count;
  long = λ i. second.long i ∙ first.long i;
}

pub AreOfLength-kept : (columns : ℕ) (rows after : List (List Bool)) → AreOfLength columns rows →
    HaveShapeOf rows after → AreOfLength columns after
AreOfLength-kept columns rows after long shape =
    All-from_get_or (λ row. length row ≡ columns) after []
    (λ i inside. shape.long i ∙ long i [] (omega (arith, inside, shape.count)))

-- each row is as long as another one of them
pub AreOfLength-row : (columns : ℕ) (rows after : List (List Bool)) (k : ℕ) →
    AreOfLength columns rows → HaveShapeOf rows after → k < length rows →
    AreOfLength (length (row_of after k)) after
AreOfLength-row columns rows after k long shape below =
    let kept = AreOfLength-kept columns rows after long shape in
    λ i d inside. kept i d inside ∙ sym (kept k [] (omega (arith, below, shape.count)))

pub AreOfLength-empty : (rows columns : ℕ) →
    AreOfLength columns (replicate rows (replicate columns false))
AreOfLength-empty rows columns =
    of_length_replicate columns rows (replicate columns false) (length-replicate columns false)

-- ---- one row is replaced

module _ (rows : List (List Bool)) (i : ℕ) (row : List Bool) (inside : i < length rows) where
  pub row_of-there : row_of (set rows i row) i ≡ row
  row_of-there = get_or-set_same rows i row [] inside

  pub row_of-other : (k : ℕ) → k ≢ i → row_of (set rows i row) k ≡ row_of rows k
  row_of-other k other = get_or-set_other rows i k row [] other

  pub HaveShapeOf-set : length row ≡ length (row_of rows i) → HaveShapeOf rows (set rows i row)
  HaveShapeOf-set long = record {
    count = length-set rows i row;
    long = λ k. elim (cases_eq k i) [
      | inl here ↦
          ap (λ n. length (row_of (set rows i row) n)) here ∙ ap length row_of-there ∙ long
          ∙ ap (λ n. length (row_of rows n)) (sym here)
      | inr other ↦ ap length (row_of-other k other)
    ];
  }

  -- by a row with a bit that is written
  pub IsEntryWritten-set : (j : ℕ) (value : Bool) → IsWritten (row_of rows i) j value row →
      IsEntryWritten rows i j value (set rows i row)
  IsEntryWritten-set j value written = record {
    shape = HaveShapeOf-set written.len;
    there = ap (λ r. item r j) row_of-there ∙ written.there;
    others = λ k l apart. elim (cases_eq k i) [
      | inl here ↦ elim apart [
        | inl other ↦ absurd (other here)
        | inr other ↦
            ap (λ n. entry (set rows i row) n l) here ∙ ap (λ r. item r l) row_of-there
            ∙ written.others l other ∙ ap (λ n. entry rows n l) (sym here)
      ]
      | inr other ↦ ap (λ r. item r l) (row_of-other k other)
    ];
  }

-- by an entry of it that is written
pub IsEntryWritten-at : (rows : List (List Bool)) (i j : ℕ) (value : Bool) (after : List (List Bool))
    → i < length rows → j < length (row_of rows i)
    → after ≡ set rows i (set (row_of rows i) j value) → IsEntryWritten rows i j value after
IsEntryWritten-at rows i j value after inside below is = subst (IsEntryWritten rows i j value) (sym is)
    (IsEntryWritten-set rows i (set (row_of rows i) j value) inside j value
    (IsWritten-set (row_of rows i) j value below))
