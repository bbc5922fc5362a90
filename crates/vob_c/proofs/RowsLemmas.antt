-- Rows of bits in words: one row read, and a list added to one.
use Rattle.std.proofs.Common.{◌≡◌, ◌≢◌, ◌↔◌, ℕ, ◌<◌, Bool, true, false, ◌||◌, List, [], length, map, get_or, set, slice_get, unwrap_or, Some}
use Rattle.std.proofs.Common.{refl, sym, ap, ◌∙◌, subst, arith, inl, inr}
use Rattle.std.proofs.lemmas.Bool.{cases_eq, or_left}
use Rattle.std.proofs.lemmas.List.{map-id, get_or-set_same, set-get_or}
use Rattle.std.proofs.lemmas.Option.{unwrap_or-slice_get}
use Rattle.vob_block.specs.Packing.{need, packing, unpacking}
use Rattle.vob_block.specs.Pointwise.{pointwise}
use Rattle.vob.specs.Bits.{GainsBits}
use Rattle.vob.specs.Vobs.{AreOfLength}
use Rattle.vob_rows.specs.Part.{blocks_of, unpacked_rows, AreCanonical, IsRowCombined, IsRowPut}
use Rattle.vob_rows.proofs.PartLemmas.{HoldCombined, HoldRows, IsRowAt, length-unpacked_rows, of_length, or_each, or_gains, packed, row_at, row_combined, unpacked}
use Rattle.vob_matrix.specs.Matrix.{entry, GetsRow, IsEntryWritten}
use Rattle.vob_matrix.specs.Unions.{IsUnionSet}
use Rattle.vob_matrix.proofs.ShapeLemmas.{IsEntryWritten-at}
use Rattle.vob_matrix.proofs.UnionLemmas.{IsUnionSet-or}
use Rattle.vob_c.specs.Gains.{HaveGained}
use Rattle.vob_c.specs.Rows.{AreCanonicalRows, rows_in}

-- the same words as in the lemmas on blocks of any type
module _ (rows columns : ℕ) (words : List ℕ) where
  pub rows_are : unpacked (λ x. x) 64 rows columns words ≡ rows_in rows columns words
  unfolding unpacked_rows rows_in
  rows_are = ap (λ ys. unpacked_rows rows columns ys 64) (map-id words)

  pub length-rows_in : length (rows_in rows columns words) ≡ rows
  length-rows_in = ap length (sym rows_are) ∙ length-unpacked_rows (λ x. x) 64 rows columns words

  pub rows_of_length : AreOfLength columns (rows_in rows columns words)
  rows_of_length = of_length (λ x. x) 64 rows columns words (rows_in rows columns words) rows_are

  pub rows_as : AreCanonicalRows rows columns words → AreCanonical rows columns (map (λ x. x) words) 64
  rows_as h = subst (λ (ys : List ℕ). AreCanonical rows columns ys 64) (sym (map-id words))
      (record { count = h.count; each = h.each })

  pub rows_back : AreCanonical rows columns (map (λ x. x) words) 64 → AreCanonicalRows rows columns words
  rows_back h =
      let own = subst (λ (ys : List ℕ). AreCanonical rows columns ys 64) (map-id words) h in
      record { count = own.count; each = own.each }

module _ (rows columns : ℕ) (words : List ℕ) (h : AreCanonicalRows rows columns words) (count : ℕ)
    (counted : count ≡ need columns 64) where
  abbrev table : List (List Bool)
  table = rows_in rows columns words

  pub row_here : (i : ℕ) → i < rows → IsRowAt (λ x. x) 64 rows columns count words table i
  row_here i below = row_at (λ x. x) 64 rows columns words (rows_as rows columns words h) table
      (rows_are rows columns words) i (omega (arith, below, length-rows_in rows columns words)) count
      words counted refl

  -- the words of a row are the packing of its bits
  pub row_packed : (i : ℕ) → i < rows → (theirs : List ℕ) → theirs ≡ blocks_of count words i
      → map (λ x. x) theirs ≡ packing (get_or table i []) 64
  row_packed i below theirs is = ap (map (λ x. x)) is ∙ packed 64 (omega arith) columns
      (map (λ x. x) (blocks_of count words i)) (get_or table i [])
      (row_here i below).row.canonical (row_here i below).bits

  -- one bit of a row
  pub entry_is : (i j : ℕ) → i < rows → (theirs : List ℕ) → theirs ≡ blocks_of count words i
      → (value : Bool) → slice_get (unpacking columns (map (λ x. x) theirs) 64) j ≡ Some value
      → entry table i j ≡ value
  entry_is i j below theirs is value given =
      sym (unwrap_or-slice_get (get_or table i []) j false) ∙ ap (λ o. unwrap_or o false)
      (ap (λ bits. slice_get bits j) (sym (row_here i below).bits
      ∙ ap (λ (ys : List ℕ). unpacking columns (map (λ x. x) ys) 64) (sym is)) ∙ given)

  -- a list was added to row i
  module _ (i : ℕ) (below : i < rows) (list : List Bool) (long : length list ≡ columns)
      (theirs : List ℕ) (is_packing : theirs ≡ packing list 64) (after : List ℕ) (changed : Bool)
      (done : IsRowCombined (λ x. x) 64 ◌||◌ count i words theirs after changed) where
    abbrev bits : List Bool
    bits = pointwise ◌||◌ (get_or table i []) list

    abbrev made : List (List Bool)
    made = rows_in rows columns after

    inside : i < length table
    inside = omega (arith, below, length-rows_in rows columns words)

    as_long : length (get_or table i []) ≡ length list
    as_long = (row_here i below).long ∙ sym long

    added : HoldCombined (λ x. x) 64 rows columns after table i bits changed
    added = row_combined (λ x. x) 64 (omega arith) (row_here i below) inside (λ x. x) (λ n _. refl)
        ◌||◌ refl list long theirs is_packing after after changed refl done

    pub added_canonical : AreCanonicalRows rows columns after
    added_canonical = rows_back rows columns after added.hold.canonical

    is : made ≡ set table i bits
    is = sym (rows_are rows columns after) ∙ added.hold.are

    pub added_row : IsUnionSet table i i list made
    added_row = IsUnionSet-or table i list bits made inside is (or_each table i list made inside as_long is)

    flag : (changed ≡ true) ↔ (made ≢ table)
    flag = subst (λ (t : List (List Bool)). (changed ≡ true) ↔ (t ≢ table)) (sym is) added.flag

    gains : GainsBits changed (get_or table i []) (get_or made i [])
    gains = or_gains table i list made changed inside as_long is flag

    pub added_gain : HaveGained changed table made
    added_gain = record {
      shape = added_row.shape;
      kept = λ k j edge. elim (cases_eq k i) [
        | inl here ↦ ap (λ l. entry made l j) here ∙ added_row.there j
            ∙ or_left (entry table i j) (get_or list j false) (ap (λ l. entry table l j) (sym here) ∙ edge)
        | inr other ↦ added_row.others k j other ∙ edge
      ];
      same = λ none. is ∙ ap (set table i) (sym (ap (λ t. get_or t i []) is
          ∙ get_or-set_same table i bits [] inside) ∙ gains.same none) ∙ set-get_or table i [];
      gained = flag.0;
    }

  -- so was row `from`
  module _ (i from : ℕ) (below : i < rows) (also : from < rows) (after : List ℕ) (changed : Bool)
      (done : IsRowCombined (λ x. x) 64 ◌||◌ count i words (map (λ x. x) (blocks_of count words from))
      after changed) where
    abbrev theirs : List ℕ
    theirs = map (λ x. x) (blocks_of count words from)

    theirs_are : theirs ≡ packing (get_or table from []) 64
    theirs_are = row_packed from also (blocks_of count words from) refl

    pub joined_canonical : AreCanonicalRows rows columns after
    joined_canonical = added_canonical i below (get_or table from []) (row_here from also).long theirs
        theirs_are after changed done

    pub joined_row : GetsRow table i from (rows_in rows columns after)
    joined_row =
        let made = added_row i below (get_or table from []) (row_here from also).long theirs theirs_are
        after changed done in record { shape = made.shape; there = made.there; others = made.others }

    pub joined_gain : HaveGained changed table (rows_in rows columns after)
    joined_gain = added_gain i below (get_or table from []) (row_here from also).long theirs theirs_are
        after changed done

  -- one bit of row i was written
  module _ (i j : ℕ) (below : i < rows) (within : j < columns) (value : Bool) (after : List ℕ)
      (done : IsRowPut (λ x. x) 64 columns count i words (set (unpacking columns
      (map (λ x. x) (blocks_of count words i)) 64) j value) after) where
    put : HoldRows (λ x. x) 64 rows columns after (set table i (set (unpacking columns
        (map (λ x. x) (blocks_of count words i)) 64) j value))
    put = (row_here i below).put after after (set (unpacking columns
        (map (λ x. x) (blocks_of count words i)) 64) j value) refl done

    pub written_canonical : AreCanonicalRows rows columns after
    written_canonical = rows_back rows columns after put.canonical

    pub written_entry : IsEntryWritten table i j value (rows_in rows columns after)
    written_entry = IsEntryWritten-at table i j value (rows_in rows columns after)
        (omega (arith, below, length-rows_in rows columns words))
        (omega (arith, within, (row_here i below).long))
        (sym (rows_are rows columns after) ∙ put.are
        ∙ ap (λ bits. set table i (set bits j value)) (row_here i below).bits)
