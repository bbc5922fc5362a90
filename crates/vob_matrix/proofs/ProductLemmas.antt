-- Products of rows, group by group, and paths of exactly so many edges.
use Rattle.std.proofs.Common.{◌≡◌, ℕ, zero, suc, ◌+◌, ◌^◌, ◌<◌, ◌≤◌, Bool, false, List, [], ◌∷◌, length, replicate}
use Rattle.std.proofs.Common.{refl, sym, ap, ◌∙◌, subst, arith, inl, inr}
use Rattle.std.proofs.lemmas.Bool.{cases_lt, false≢true}
use Rattle.std.proofs.lemmas.List.{length-replicate}
use Rattle.std.proofs.Math.Pow.{pow_mono}
use Rattle.vob.specs.Vobs.{AreOfLength}
use Rattle.vob_rows.specs.Rows.{Matrix}
use Rattle.vob_matrix.specs.Matrix.{IsPath, HasPath, entry, IsEdge}
use Rattle.vob_matrix.specs.Unions.{AreLinked}
use Rattle.vob_matrix.specs.Products.{ClosureIsOfPowers, HasPathOf, IsIdentity, IsProduct, IsPower}
use Rattle.vob_matrix.proofs.ShapeLemmas.{HaveShapeOf-same, HaveShapeOf-trans}
use Rattle.vob_matrix.proofs.MatrixLemmas.{entry-empty}
use Rattle.vob_matrix.proofs.PathLemmas.{edge_row, edge_column}

-- a table with room for some rows has it for fewer
pub fewer_room : (few some room : ℕ) → some ≤ few → 2 ^ few ≤ room → 2 ^ some ≤ room
fewer_room few some room less fits = omega (arith, fits, pow_mono {i = some} {j = few} less)

-- ---- rows that are linked to one group after another

module _ (some rows others : List (List Bool)) where
  pub AreLinked-start : AreLinked some rows others 0 0 some
  AreLinked-start = record {
    shape = HaveShapeOf-same some;
    each = λ i j. (
      (λ edge. inl edge),
      (λ either. elim either [ inl edge ↦ edge | inr link ↦ absurd (omega (arith, link.2)) ]),
    );
  }

  pub AreLinked-more : (b c : ℕ) (before after : List (List Bool)) → b ≤ c →
      AreLinked some rows others 0 b before → AreLinked before rows others b c after →
      AreLinked some rows others 0 c after
  AreLinked-more b c before after order h more = record {
    shape = HaveShapeOf-trans some before after h.shape more.shape;
    each = λ i j. (
      (λ edge. elim ((more.each i j).0 edge) [
        | inl old ↦ elim ((h.each i j).0 old) [
          | inl own ↦ inl own
          | inr link ↦ inr (link.0, link.1, omega (arith, order, link.2), link.3, link.4)
        ]
        | inr link ↦ inr (link.0, omega arith, link.2, link.3, link.4)
      ]),
      (λ either. (more.each i j).1 (elim either [
        | inl own ↦ inl ((h.each i j).1 (inl own))
        | inr link ↦ elim (cases_lt link.0 b) [
          | inl low ↦ inl ((h.each i j).1 (inr (link.0, link.1, low, link.3, link.4)))
          | inr high ↦ inr (link.0, high, link.2, link.3, link.4)
        ]
      ])),
    );
  }

-- rows that had no bit, and were linked to all others
pub IsProduct-linked : (first second after : Matrix) (some : List (List Bool)) (columns : ℕ) →
    some ≡ replicate (length first.rows) (replicate columns false) → after.columns ≡ second.columns →
    AreLinked some first.rows second.rows 0 (length second.rows) after.rows →
    IsProduct first second after
IsProduct-linked first second after some columns blank wide h =
    let none = λ (i j : ℕ). ap (λ rs. entry rs i j) blank
    ∙ entry-empty (length first.rows) columns i j in
    record {
      count = h.shape.count ∙ ap length blank
          ∙ length-replicate (length first.rows) (replicate columns false);
      columns = wide;
      each = λ i j. (
        (λ edge. elim ((h.each i j).0 edge) [
          | inl own ↦ absurd (false≢true (sym (none i j) ∙ own))
          | inr link ↦ (link.0, link.3, link.4)
        ]),
        (λ two. (h.each i j).1
            (inr (two.0, omega arith, edge_row second.rows two.0 j two.2, two.1, two.2))),
      );
    }

-- ---- paths of exactly so many edges

module _ (rows : List (List Bool)) where
  -- a path has a first node with a row
  path_row : (n i j : ℕ) → HasPathOf n rows i j → i < length rows
  path_row zero i j path = path.1
  path_row (suc n) i j path = edge_row rows i path.0 path.1

  path_on : (m n i k j : ℕ) → HasPathOf m rows i k → HasPathOf n rows k j →
      HasPathOf (m + n) rows i j
  path_on zero n i k j here on =
      subst (λ x. HasPathOf x rows i j) (zero_add n)
      (subst (λ x. HasPathOf n rows x j) (sym here.0) on)
    where
      zero_add : (x : ℕ) → x ≡ 0 + x
      zero_add x = omega arith
  path_on (suc m) n i k j to on =
      subst (λ x. HasPathOf x rows i j) (suc_add m n)
      (to.0, to.1, path_on m n to.0 k j to.2 on)
    where
      suc_add : (x y : ℕ) → suc (x + y) ≡ suc x + y
      suc_add x y = omega arith

  path_cut : (m n i j : ℕ) → HasPathOf (m + n) rows i j →
      (k : ℕ) × HasPathOf m rows i k × HasPathOf n rows k j
  path_cut zero n i j path =
      let on = subst (λ x. HasPathOf x rows i j) (zero_add n) path in
      (i, (refl, path_row n i j on), on)
    where
      zero_add : (x : ℕ) → 0 + x ≡ x
      zero_add x = omega arith
  path_cut (suc m) n i j path =
      let on = subst (λ x. HasPathOf x rows i j) (suc_add m n) path in
      let rest = path_cut m n on.0 j on.2 in
      (rest.0, (on.0, on.1, rest.1), rest.2)
    where
      suc_add : (x y : ℕ) → suc x + y ≡ suc (x + y)
      suc_add x y = omega arith

-- a path of one edge is an edge to a node with a row
pub IsPower-one : (matrix : Matrix) → length matrix.rows ≡ matrix.columns →
    AreOfLength matrix.columns matrix.rows → IsPower matrix 1 matrix
IsPower-one matrix square long = record {
  count = refl;
  columns = refl;
  each = λ i j. (
    (λ edge. (
      j,
      edge,
      (refl, omega (arith, square, edge_column matrix.rows matrix.columns i j long edge)),
    )),
    (λ path. subst (IsEdge matrix.rows i) path.2.0 path.1),
  );
}

pub IsPower-zero : (matrix after : Matrix) (n : ℕ) → n ≡ length matrix.rows →
    length matrix.rows ≡ matrix.columns → IsIdentity n after → IsPower matrix 0 after
IsPower-zero matrix after n is square identity = record {
  count = identity.count ∙ is;
  columns = identity.columns ∙ is ∙ square;
  each = λ i j. (
    (λ edge. let same = (identity.each i j).0 edge in (same.0, omega (arith, same.1, is))),
    (λ path. (identity.each i j).1 (path.0, omega (arith, path.1, is))),
  );
}

pub IsPower-product : (matrix first second after : Matrix) (m n sum : ℕ) → sum ≡ m + n →
    IsPower matrix m first → IsPower matrix n second → IsProduct first second after →
    IsPower matrix sum after
IsPower-product matrix first second after m n sum is low high made =
    subst (λ x. IsPower matrix x after) (sym is) (record {
      count = made.count ∙ low.count;
      columns = made.columns ∙ high.columns;
      each = λ i j. (
        (λ edge.
            let two = (made.each i j).0 edge in
            path_on matrix.rows m n i two.0 j ((low.each i two.0).0 two.1)
            ((high.each two.0 j).0 two.2)),
        (λ path.
            let parts = path_cut matrix.rows m n i j path in
            (made.each i j).1 (
              parts.0,
              (low.each i parts.0).1 parts.1,
              (high.each parts.0 j).1 parts.2,
            )),
      );
    })

-- ---- paths of any length, and of exactly so many edges

path_of : (rows : List (List Bool)) (columns : ℕ) → length rows ≡ columns →
    AreOfLength columns rows → (i : ℕ) (through : List ℕ) (j : ℕ) → IsPath rows i through j →
    (n : ℕ) × (0 < n) × HasPathOf n rows i j
path_of rows columns square long i [] j path = (
  1,
  omega arith,
  (j, path, (refl, omega (arith, square, edge_column rows columns i j long path))),
)
path_of rows columns square long i (x ∷ through) j path =
    let on = path_of rows columns square long x through j path.1 in
    (suc on.0, omega arith, (x, path.0, on.2))

has_path : (rows : List (List Bool)) (n i j : ℕ) → HasPathOf (suc n) rows i j → HasPath rows i j
has_path rows zero i j path = ([], subst (IsEdge rows i) path.2.0 path.1)
has_path rows (suc n) i j path =
    let on = has_path rows n path.0 j path.2 in
    (path.0 ∷ on.0, (path.1, on.1))

pub closure-of_powers : ClosureIsOfPowers
closure-of_powers matrix after power square long closed powers i j = (
  (λ edge.
      let path = (closed.each i j).0 edge in
      let of = path_of matrix.rows matrix.columns square long i path.0 j path.1 in
      (of.0, of.1, ((powers of.0).each i j).1 of.2)),
  (λ some. (closed.each i j).1 (above some.0 some.1 (((powers some.0).each i j).0 some.2))),
)
  where
    above : (n : ℕ) → 0 < n → HasPathOf n matrix.rows i j → HasPath matrix.rows i j
    above zero some path = absurd (omega (arith, some))
    above (suc n) some path = has_path matrix.rows n i j path
