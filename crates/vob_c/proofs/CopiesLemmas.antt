-- Rows that come from words, and go into words, one after another.
use Rattle.std.proofs.Common.{◌≡◌, ◌||◌, ℕ, ◌+◌, ◌<◌, ◌≤◌, Bool, false, List, [], length, map, get_or, set, replicate}
use Rattle.std.proofs.Common.{refl, sym, ap, ◌∙◌, arith, inl, inr}
use Rattle.std.proofs.lemmas.Bool.{cases_eq}
use Rattle.std.proofs.lemmas.List.{ext_get_or, get_or-replicate, get_or-set_other, get_or-set_same, length-replicate, length-set}
use Rattle.vob_block.specs.Packing.{item, need, packing}
use Rattle.vob_block.specs.Pointwise.{pointwise}
use Rattle.vob_block.proofs.PackingLemmas.{packing_is}
use Rattle.vob_block.proofs.PointwiseLemmas.{length-pointwise}
use Rattle.vob.proofs.BitsLemmas.{AreCombined-pointwise, item_false}
use Rattle.vob_rows.specs.Part.{with_row}
use Rattle.vob_rows.proofs.PartLemmas.{HoldRows}
use Rattle.vob_c.specs.Copies.{AreTaken, AreWritten}
use Rattle.vob_c.specs.Rows.{AreCanonicalRows, rows_in}
use Rattle.vob_c.proofs.RowsLemmas.{length-rows_in, row_here, rows_are, rows_back}

-- ---- rows from words

pub none_taken : (table : List (List Bool)) (columns : ℕ) (rows : List (List Bool))
    → rows ≡ replicate (length table) (replicate columns false) → AreTaken table columns rows 0
none_taken table columns rows is = record {
  count = ap length is ∙ length-replicate (length table) (replicate columns false);
  low = λ n less. absurd (omega (arith, less));
  high = λ n past less. ap (λ (xs : List (List Bool)). get_or xs n []) is
      ∙ get_or-replicate (length table) n (replicate columns false) [] less;
}

-- bits added to none
or_none : (bits : List Bool) → pointwise ◌||◌ (replicate (length bits) false) bits ≡ bits
or_none bits =
    let none = replicate (length bits) false in
    let same = length-replicate (length bits) false in
    ext_get_or false (pointwise ◌||◌ none bits) bits (length-pointwise ◌||◌ none bits same ∙ same)
    (λ i less. (AreCombined-pointwise ◌||◌ none bits same refl).each i
    ∙ ap (λ b. b || item bits i) (item_false (length bits) i))

pub one_taken : (table : List (List Bool)) (columns : ℕ) (rows after : List (List Bool)) (k : ℕ)
    (bits : List Bool) → AreTaken table columns rows k → k < length table → bits ≡ get_or table k []
    → length bits ≡ columns → after ≡ set rows k (pointwise ◌||◌ (get_or rows k []) bits)
    → AreTaken table columns after (k + 1)
one_taken table columns rows after k bits h less is long put =
    let put_is : after ≡ set rows k bits = put ∙ ap (set rows k)
    (ap (λ row. pointwise ◌||◌ row bits) (h.high k (omega arith) less ∙ ap (λ m. replicate m false) (sym long))
    ∙ or_none bits) in
    record {
      count = ap length put_is ∙ length-set rows k bits ∙ h.count;
      low = λ n under inside. elim (cases_eq n k) [
        | inl here ↦ rw here (ap (λ (xs : List (List Bool)). get_or xs k []) put_is
            ∙ get_or-set_same rows k bits [] (omega (arith, less, h.count)) ∙ is)
        | inr other ↦ ap (λ (xs : List (List Bool)). get_or xs n []) put_is
            ∙ get_or-set_other rows k n bits [] other ∙ h.low n (omega (arith, under, other)) inside
      ];
      high = λ n past inside. ap (λ (xs : List (List Bool)). get_or xs n []) put_is
          ∙ get_or-set_other rows k n bits [] (λ e. omega (arith, past, e))
          ∙ h.high n (omega (arith, past)) inside;
    }

pub all_taken : (table : List (List Bool)) (columns : ℕ) (rows : List (List Bool)) (k : ℕ)
    → AreTaken table columns rows k → length table ≤ k → rows ≡ table
all_taken table columns rows k h all = ext_get_or [] rows table h.count
    (λ n less. h.low n (omega (arith, less, h.count, all)) (omega (arith, less, h.count)))

-- ---- rows into words

module _ (rows columns : ℕ) (words : List ℕ) (h : AreCanonicalRows rows columns words) (count : ℕ)
    (counted : count ≡ need columns 64) (table : List (List Bool)) (k : ℕ) (below : k < rows)
    (w : AreWritten table (rows_in rows columns words) k) (row new : List ℕ) (bits : List Bool)
    (long : length bits ≡ columns) (is : get_or table k [] ≡ bits) (packed : map (λ x. x) row ≡ packing bits 64)
    (put : new ≡ with_row count words k row) where
  held : HoldRows (λ x. x) 64 rows columns new (set (rows_in rows columns words) k bits)
  held = (row_here rows columns words h count counted k below).put new new bits refl
      (record { new = row; stores = packing_is 64 (omega arith) _ _ _ packed long; put = put })

  pub row_canonical : AreCanonicalRows rows columns new
  row_canonical = rows_back rows columns new held.canonical

  pub row_written : AreWritten table (rows_in rows columns new) (k + 1)
  row_written =
      let old = rows_in rows columns words in
      let same : rows_in rows columns new ≡ set old k bits = sym (rows_are rows columns new) ∙ held.are in
      record {
        count = length-rows_in rows columns new ∙ sym (length-rows_in rows columns words) ∙ w.count;
        low = λ n under inside. elim (cases_eq n k) [
          | inl here ↦ rw here (ap (λ (xs : List (List Bool)). get_or xs k []) same
              ∙ get_or-set_same old k bits [] (omega (arith, below, length-rows_in rows columns words))
              ∙ sym is)
          | inr other ↦ ap (λ (xs : List (List Bool)). get_or xs n []) same
              ∙ get_or-set_other old k n bits [] other ∙ w.low n (omega (arith, under, other)) inside
        ];
      }

pub all_written : (table rows : List (List Bool)) (k : ℕ) → AreWritten table rows k → length table ≤ k
    → rows ≡ table
all_written table rows k h all = ext_get_or [] rows table h.count
    (λ n less. h.low n (omega (arith, less, h.count, all)) (omega (arith, less, h.count)))
