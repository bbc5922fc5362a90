-- Rows that are led through a node one after another, and columns that are marked.
use Rattle.std.specs.declared.ops.Bound.TheVariants.{Unbounded}
use Rattle.std.specs.List.{Contains}
use Rattle.std.specs.Prelude.{◌↔◌, IsTrue, not}
use Rattle.std.proofs.Common.{◌≡◌, ◌≢◌, ℕ, ◌+◌, ◌<◌, ◌≤◌, Bool, true, false, ◌||◌, List, []}
use Rattle.std.proofs.Common.{◌∷◌, length, replicate, refl, sym, ap, ◌∙◌, subst, arith, inl, inr}
use Rattle.std.proofs.lemmas.Bool.{cases_eq, cases_lt, false≢true}
use Rattle.std.proofs.lemmas.List.{get_or_past, get_or-replicate, length-replicate}
use Rattle.std.proofs.lemmas.List.Elements.{Contains-append_right, Contains-append_cases, Contains-push_cases, Contains-get_or}
use Rattle.vob_block.specs.Packing.{item}
use Rattle.vob_walk.specs.Matches.{matches}
use Rattle.vob_walk.proofs.IndexLemmas.{matches-exactly}
use Rattle.vob.specs.Bits.{IsWritten}
use Rattle.vob.specs.Sets.{AreDisjoint, HasShared}
use Rattle.vob.specs.Vobs.{AreOfLength}
use Rattle.vob_rows.specs.Rows.{row_of, Matrix}
use Rattle.vob_matrix.specs.Matrix.{entry, HaveShapeOf, IsColumnUnion, IsEntryWritten, IsTransposed}
use Rattle.vob_matrix.specs.MatrixRows.{IsColumnMarked, AreColumnsMarked}
use Rattle.vob_block.proofs.BoolLemmas.{or-false}
use Rattle.vob_block.proofs.PackingLemmas.{true_inside}
use Rattle.vob.proofs.BitsLemmas.{item_false}
use Rattle.vob_matrix.proofs.ShapeLemmas.{HaveShapeOf-same, HaveShapeOf-trans, AreOfLength-kept, AreOfLength-empty}

-- ---- a column that is marked at the true bits of a list

-- no index but the first and those behind it
apart_from : (i : ℕ) (rest : List ℕ) (k : ℕ) → Contains (i ∷ rest) k → k ≢ i → Contains rest k
apart_from i rest k given apart = elim (Contains-append_cases (i ∷ []) rest k given) [
  | inl first ↦ elim (Contains-push_cases [] i k first) [
    | inl none ↦ absurd (omega (arith, none.1))
    | inr same ↦ absurd (apart (sym same))
  ]
  | inr behind ↦ behind
]

-- entries of a column at true bits were made true, but for some indices that are left
pub record AreMarkedBut (rows : List (List Bool)) (column : ℕ) (bits : List Bool) (rest : List ℕ)
    (after : List (List Bool)) : Type 0 where
  pub shape : HaveShapeOf rows after
  pub left : (i : ℕ) → Contains rest i → item bits i ≡ true
  pub there : (i : ℕ) → item bits i ≡ true → ¬ Contains rest i → entry after i column ≡ true
  pub off : (i : ℕ) → item bits i ≡ false → entry after i column ≡ entry rows i column
  pub others : (i j : ℕ) → j ≢ column → entry after i j ≡ entry rows i j

module _ (rows : List (List Bool)) (column : ℕ) (bits : List Bool) where
  pub AreMarkedBut-start : (rest : List ℕ) → rest ≡ matches bits true Unbounded Unbounded →
      AreMarkedBut rows column bits rest rows
  AreMarkedBut-start rest all =
      let exactly = matches-exactly bits true Unbounded Unbounded in
      record {
        shape = HaveShapeOf-same rows;
        left = λ i given. ((exactly i).0 (subst (λ xs. Contains xs i) all given)).2;
        there = λ i on other. absurd (other (subst (λ xs. Contains xs i) (sym all)
            ((exactly i).1 (true_inside bits i on, refl, on))));
        off = λ i unset. refl;
        others = λ i j other. refl;
      }

  pub AreMarkedBut-more : (before after : List (List Bool)) (i : ℕ) (given rest : List ℕ) →
      given ≡ i ∷ rest → AreMarkedBut rows column bits given before →
      IsEntryWritten before i column true after → AreMarkedBut rows column bits rest after
  AreMarkedBut-more before after i given rest is h written = record {
    shape = HaveShapeOf-trans rows before after h.shape written.shape;
    left = λ k behind. h.left k
        (subst (λ xs. Contains xs k) (sym is) (Contains-append_right (i ∷ []) rest k behind));
    there = λ k on other. elim (cases_eq k i) [
      | inl here ↦ ap (λ l. entry after l column) here ∙ written.there
      | inr apart ↦
          written.others k column (inl apart)
          ∙ h.there k on (λ given. other (apart_from i rest k
          (subst (λ xs. Contains xs k) is given) apart))
    ];
    off = λ k unset. elim (cases_eq k i) [
      | inl here ↦ absurd (false≢true (sym unset ∙ ap (item bits) here ∙ h.left i
          (subst (λ xs. Contains xs i) (sym is) (Contains-get_or (i ∷ rest) 0 i (omega arith)))))
      | inr apart ↦ written.others k column (inl apart) ∙ h.off k unset
    ];
    others = λ k j other. written.others k j (inr other) ∙ h.others k j other;
  }

-- the next index is that of a row
pub next_inside : (rows now : List (List Bool)) (column : ℕ) (bits : List Bool) (i : ℕ)
    (given rest : List ℕ) → given ≡ i ∷ rest → length bits ≡ length rows →
    AreMarkedBut rows column bits given now → i < length now
next_inside rows now column bits i given rest is same h =
    let first = subst (λ xs. Contains xs i) (sym is)
    (Contains-get_or (i ∷ rest) 0 i (omega arith)) in
    omega (arith, same, true_inside bits i (h.left i first), h.shape.count)

-- ---- columns that are marked, one after another

-- the columns before column n were marked, and the others are as before
pub record AreMarkedBefore (rows from : List (List Bool)) (n : ℕ) (after : List (List Bool))
    : Type 0 where
  pub shape : HaveShapeOf rows after
  pub done : (i j : ℕ) → i < n → entry after j i ≡ (entry from i j || entry rows j i)
  pub left : (i j : ℕ) → n ≤ i → entry after j i ≡ entry rows j i

module _ (rows from : List (List Bool)) where
  pub AreMarkedBefore-more : (n : ℕ) (before after : List (List Bool)) →
      AreMarkedBefore rows from n before → IsColumnMarked before n (row_of from n) after →
      AreMarkedBefore rows from (n + 1) after
  AreMarkedBefore-more n before after h marked = record {
    shape = HaveShapeOf-trans rows before after h.shape marked.shape;
    done = λ i j less. elim (cases_eq i n) [
      | inl here ↦
          ap (entry after j) here ∙ marked.there j
          ∙ ap (λ b. entry from n j || b) (h.left n j (omega arith))
          ∙ ap (λ l. entry from l j || entry rows j l) (sym here)
      | inr other ↦ marked.others j i other ∙ h.done i j (omega (arith, less))
    ];
    left = λ i j past.
        marked.others j i (λ here. omega (arith, past, here)) ∙ h.left i j (omega (arith, past));
  }

-- no entry of an empty matrix is true
pub entry-empty : (rows columns i j : ℕ) → entry (replicate rows (replicate columns false)) i j ≡ false
entry-empty rows columns i j = elim (cases_lt i rows) [
  | inl less ↦
      ap (λ r. item r j) (get_or-replicate rows i (replicate columns false) [] less)
      ∙ item_false columns j
  | inr past ↦
      let count = length-replicate rows (replicate columns false) in
      ap (λ r. item r j)
      (get_or_past (replicate rows (replicate columns false)) i [] (omega (arith, past, count)))
]

-- the columns of an empty matrix were marked
pub IsTransposed-marked : (matrix made : Matrix) (empty after : List (List Bool)) →
    empty ≡ replicate matrix.columns (replicate (length matrix.rows) false) →
    made.rows ≡ after → made.columns ≡ length matrix.rows →
    AreColumnsMarked empty matrix.rows after → IsTransposed matrix made
IsTransposed-marked matrix made empty after none rows columns marked =
    let count = length-replicate matrix.columns (replicate (length matrix.rows) false) in
    let start = subst (AreOfLength (length matrix.rows)) (sym none)
    (AreOfLength-empty matrix.columns (length matrix.rows)) in
    let long = AreOfLength-kept (length matrix.rows) empty after start marked.shape in
    record {
      count = ap length rows ∙ marked.shape.count ∙ ap length none ∙ count;
      columns = columns;
      long = subst (λ n. AreOfLength n made.rows) (sym columns)
          (subst (AreOfLength (length matrix.rows)) (sym rows) long);
      each = λ i j.
          ap (λ rs. entry rs j i) rows ∙ marked.each i j
          ∙ ap (λ b. entry matrix.rows i j || b)
          (ap (λ rs. entry rs j i) none
          ∙ entry-empty matrix.columns (length matrix.rows) j i)
          ∙ or-false (entry matrix.rows i j);
    }

-- ---- bits of rows that meet a set

-- the bits before bit n are those of the rows that have a bit of a set
pub record AreUnitedBefore (rows : List (List Bool)) (columns : List Bool) (n : ℕ)
    (before after : List Bool) : Type 0 where
  pub len : length after ≡ length before
  pub done : (i : ℕ) → i < n → (item after i ≡ true) ↔ HasShared (row_of rows i) columns

-- two sets share an index exactly if it isn't so that they share none
shared-from_apart : (bits others : List Bool) (apart bit : Bool) → bit ≡ not apart →
    (IsTrue apart ↔ AreDisjoint bits others) → (apart ≡ false → HasShared bits others) →
    (bit ≡ true) ↔ HasShared bits others
shared-from_apart bits others true bit is answer shared = (
  λ on. absurd (false≢true (sym is ∙ on)),
  λ found. absurd (false≢true (sym (answer.0 refl found.0 found.2) ∙ found.3)),
)
shared-from_apart bits others false bit is answer shared = (λ on. shared refl, λ found. is)

module _ (rows : List (List Bool)) (columns : List Bool) (n : ℕ) (first : List Bool) where
  pub AreUnitedBefore-more : (before after row : List Bool) (apart value : Bool) →
      row ≡ row_of rows n → value ≡ not apart →
      (IsTrue apart ↔ AreDisjoint row columns) → (apart ≡ false → HasShared row columns) →
      AreUnitedBefore rows columns n first before → IsWritten before n value after →
      AreUnitedBefore rows columns (n + 1) first after
  AreUnitedBefore-more before after row apart value is turned answer shared h written = record {
    len = written.len ∙ h.len;
    done = λ i less. elim (cases_eq i n) [
      | inl here ↦
          subst (λ k. (item after k ≡ true) ↔ HasShared (row_of rows k) columns) (sym here)
          (subst (λ r. (item after n ≡ true) ↔ HasShared r columns) is
          (shared-from_apart row columns apart (item after n) (written.there ∙ turned) answer
          shared))
      | inr other ↦
          subst (λ b. (b ≡ true) ↔ HasShared (row_of rows i) columns) (sym (written.others i other))
          (h.done i (omega (arith, less, other)))
    ];
  }

-- all rows were looked at, and past them is no bit
pub IsColumnUnion-all : (rows : List (List Bool)) (columns : List Bool) (n : ℕ)
    (before after : List Bool) → n ≡ length rows → length before ≡ length rows →
    AreUnitedBefore rows columns n before after → IsColumnUnion rows columns after
IsColumnUnion-all rows columns n before after all count h = record {
  len = h.len ∙ count;
  each = λ i. elim (cases_lt i n) [
    | inl less ↦ h.done i less
    | inr past ↦ (
      λ on. absurd (false≢true (sym (get_or_past after i false (omega (arith, past, all, count, h.len))) ∙ on)),
      λ found. absurd (omega (arith, found.1, ap length (get_or_past rows i [] (omega (arith, past, all))))),
    )
  ];
}
