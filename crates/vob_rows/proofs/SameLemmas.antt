-- Rows that are the same.
use Rattle.std.proofs.Common.{◌≡◌, ◌↔◌, ℕ, zero, suc, ◌+◌, ◌-◌, ◌*◌, ◌<◌, ◌≤◌, Bool, true, ◌&&◌, List, [], ◌++◌, length, map, take, drop, eqb, get_or, take-add, suc-mul, take_all, refl, sym, ap, ◌∙◌, subst, arith}
use Rattle.std.proofs.lemmas.Bool.{eqb-true, eq-eqb, and_parts, and_from}
use Rattle.std.specs.Bool.{Decides, one_answer}
use Rattle.std.specs.Cmp.Lexicographic.{pointwise, pointwise_decides}
use Rattle.vob.specs.Same.{same_bits}
use Rattle.vob.proofs.SameLemmas.{same_bits_decides}
use Rattle.vob_block.specs.Packing.{need, unpacking}
use Rattle.vob_block.proofs.PointwiseLemmas.{same_from_lists}
use Rattle.vob_rows.specs.Part.{blocks_of, unpacked_rows, AreCanonical}
use Rattle.vob_rows.specs.Rows.{Matrix, same_matrix}
use Rattle.vob_rows.proofs.PartLemmas.{blocks_of-map, length-unpacked_rows, row_is, unpacked}

abbrev pub made : List (List Bool) → ℕ → Matrix
made lists count = record { rows = lists; columns = count }

alike : (matrix other : Matrix) → matrix.rows ≡ other.rows → matrix.columns ≡ other.columns
    → matrix ≡ other
alike matrix other rows columns =
    let first : matrix ≡ record { rows = other.rows; columns = matrix.columns } =
    ap (λ (lists : List (List Bool)). made lists matrix.columns) rows in
    first ∙ ap (made other.rows) columns

pub same_matrix_decides : (matrix other : Matrix)
    → Decides (same_matrix matrix other) (matrix ≡ other)
same_matrix_decides matrix other = (
  (λ same.
      let parts = and_parts (eqb matrix.columns other.columns)
      (pointwise same_bits matrix.rows other.rows) same in
      let rows = (pointwise_decides same_bits_decides matrix.rows other.rows).0 parts.1 in
      alike matrix other rows (eqb-true matrix.columns other.columns parts.0)),
  (λ is. subst (λ m. same_matrix matrix m ≡ true) is (and_from (eqb matrix.columns matrix.columns)
      (pointwise same_bits matrix.rows matrix.rows) (eq-eqb matrix.columns matrix.columns refl)
      ((pointwise_decides same_bits_decides matrix.rows matrix.rows).1 refl))),
)

-- a test of two that is right answers what `same_matrix` does
pub same_matrix_is : (matrix other : Matrix) (r : Bool) → Decides r (matrix ≡ other)
    → r ≡ same_matrix matrix other
same_matrix_is matrix other r test = one_answer r (same_matrix matrix other) test
    (same_matrix_decides matrix other)

-- blocks are those of each row
module _ (n rows : ℕ) (xs ys : List ℕ) (count : length xs ≡ rows * n) (same : length ys ≡ rows * n)
    (each : (i : ℕ) → i < rows → blocks_of n xs i ≡ blocks_of n ys i) where
  first_rows : (m : ℕ) → m ≤ rows → take (m * n) xs ≡ take (m * n) ys
  first_rows zero less =
      let none : 0 * n ≡ 0 = omega arith in
      ap (λ k. take k xs) none ∙ ap (λ k. take k ys) (sym none)
  first_rows (suc m) less =
      let start = m * n in
      let next : suc m * n ≡ start + n = suc-mul m n in
      let one : start + n - start ≡ n = omega arith in
      let row = each m (omega (arith, less)) in
      ap (λ k. take k xs) next ∙ take-add start n xs
      ∙ ap (λ zs. zs ++ take n (drop start xs)) (first_rows m (omega (arith, less)))
      ∙ ap (λ zs. take start ys ++ zs) (ap (λ k. take k (drop start xs)) (sym one) ∙ row
      ∙ ap (λ k. take k (drop start ys)) one)
      ∙ sym (take-add start n ys) ∙ ap (λ k. take k ys) (sym next)

  same_blocks : xs ≡ ys
  same_blocks = sym (take_all (rows * n) xs (omega (arith, count))) ∙ first_rows rows (omega arith)
      ∙ take_all (rows * n) ys (omega (arith, same))

-- storage of rows, which are the same exactly where their blocks are
module _ {X : Type 0} (number : X → ℕ) (w : ℕ) (wide : 0 < w) (rows columns : ℕ) (xs ys : List X)
    (g : AreCanonical rows columns (map number xs) w)
    (h : AreCanonical rows columns (map number ys) w) where
  bits : (items : List X) (i : ℕ) → i < rows
      → unpacking columns (blocks_of (need columns w) (map number items) i) w
      ≡ get_or (unpacked number w rows columns items) i []
  bits items i less =
      ap (λ zs. unpacking columns zs w) (blocks_of-map (need columns w) items number i)
      ∙ sym (row_is number w rows columns items i less)

  pub rows_decide : (r : Bool) → Decides r (map number xs ≡ map number ys)
      → Decides r (unpacked number w rows columns xs ≡ unpacked number w rows columns ys)
  rows_decide r test = (
    (λ e. ap (λ zs. unpacked_rows rows columns zs w) (test.0 e)),
    (λ e. test.1 (same_blocks (need columns w) rows (map number xs) (map number ys) g.count h.count
        (λ i less. same_from_lists w wide columns _ _ (g.each i less) (h.each i less)
        (bits xs i less ∙ ap (λ t. get_or t i []) e ∙ sym (bits ys i less))))),
  )

-- rows that are the same are as many
pub counts_same : {X : Type 0} (number : X → ℕ) (w rows columns m n : ℕ) (xs ys : List X)
    (table other : Matrix) → made (unpacked number w rows columns xs) columns ≡ table
    → made (unpacked number w m n ys) n ≡ other → table ≡ other → rows ≡ m
counts_same number w rows columns m n xs ys table other mine theirs e =
    sym (length-unpacked_rows number w rows columns xs)
    ∙ ap (λ v. length v.rows) (mine ∙ e ∙ sym theirs) ∙ length-unpacked_rows number w m n ys

-- and with their shapes
module _ {X : Type 0} (number : X → ℕ) (w : ℕ) (wide : 0 < w) (rows columns : ℕ) (xs : List X)
    (g : AreCanonical rows columns (map number xs) w) (table : Matrix)
    (mine : made (unpacked number w rows columns xs) columns ≡ table) (m n : ℕ) (ys : List X)
    (h : AreCanonical m n (map number ys) w) (other : Matrix)
    (theirs : made (unpacked number w m n ys) n ≡ other) where
  pub matrices_decide : rows ≡ m → columns ≡ n → (r : Bool) → Decides r (map number xs ≡ map number ys)
      → Decides r (table ≡ other)
  matrices_decide as_many as_wide r test =
      let theirs_here : AreCanonical rows columns (map number ys) w = rw (as_many, as_wide) h in
      let decide = rows_decide number w wide rows columns xs ys g theirs_here r test in
      let their_rows = ap (λ k. unpacked number w k columns ys) as_many
      ∙ ap (λ k. unpacked number w m k ys) as_wide ∙ ap (λ v. v.rows) theirs in (
        (λ e. alike table other (sym (ap (λ v. v.rows) mine) ∙ decide.0 e ∙ their_rows)
            (sym (ap (λ v. v.columns) mine) ∙ as_wide ∙ ap (λ v. v.columns) theirs)),
        (λ e. decide.1 (ap (λ v. v.rows) (mine ∙ e) ∙ sym their_rows)),
      )
