-- Rows that get those of others, one row after another, and blank rows.
use Rattle.std.proofs.Common.{◌≡◌, ◌↔◌, ◌⊎◌, ◌||◌, ℕ, ◌+◌, ◌*◌, ◌<◌, ◌≤◌, Bool, true, false, List, [], length, map, replicate}
use Rattle.std.proofs.Common.{sym, ap, ◌∙◌, subst, arith, inl, inr, refl}
use Rattle.std.proofs.lemmas.Bool.{cases_Bool, cases_eq, cases_lt, false≢true, or_cases, or_left, or_right}
use Rattle.std.proofs.lemmas.List.{ext_get_or, get_or_past, length-replicate}
use Rattle.std.proofs.lemmas.Nat.{mul-le}
use Rattle.vob_block.specs.Packing.{item, need}
use Rattle.vob_block.proofs.NeedLemmas.{need_enough}
use Rattle.vob_rows.specs.Part.{AreCanonical}
use Rattle.vob_rows.specs.Rows.{row_of}
use Rattle.vob_rows.proofs.BlankLemmas.{blank_canonical, blank_rows}
use Rattle.vob_rows.proofs.PartLemmas.{unpacked}
use Rattle.vob_matrix.specs.Matrix.{entry, IsEdge, IsTransposed}
use Rattle.vob_matrix.specs.MatrixRows.{AreColumnsMarked}
use Rattle.vob_matrix.specs.Products.{IsProduct}
use Rattle.vob_matrix.specs.Unions.{AreLinked, HasLink, IsUnionSet}
use Rattle.vob_matrix.proofs.MatrixLemmas.{AreMarkedBefore}
use Rattle.vob_matrix.proofs.PathLemmas.{edge_column, edge_row}
use Rattle.vob_matrix.proofs.ProductLemmas.{IsProduct-linked}
use Rattle.vob_matrix.proofs.ShapeLemmas.{HaveShapeOf-same, HaveShapeOf-trans}
use Rattle.vob_c.specs.Linking.{AreRowsLinked, IsRowLinked}
use Rattle.vob_c.specs.Rows.{AreCanonicalRows, matrix_in, rows_in}
use Rattle.vob_c.proofs.RowsLemmas.{length-rows_in, rows_are, rows_back, rows_of_length}

-- ---- words that are 0

module _ (rows columns : ℕ) (words : List ℕ) (is : words ≡ replicate (rows * need columns 64) 0) where
  pub blank_words : AreCanonicalRows rows columns words
  blank_words = rows_back rows columns words
      (subst (λ (ys : List ℕ). AreCanonical rows columns (map (λ x. x) ys) 64) (sym is)
      (blank_canonical (λ x. x) 64 (omega arith) rows columns 0 refl))

  pub blank_in : rows_in rows columns words ≡ replicate rows (replicate columns false)
  blank_in = sym (rows_are rows columns words) ∙ ap (unpacked (λ x. x) 64 rows columns) is
      ∙ blank_rows (λ x. x) 64 (omega arith) rows columns 0 refl

-- ---- one row

module _ (before rows others : List (List Bool)) (i : ℕ) where
  abbrev Links : ℕ → ℕ → Type 0
  Links k j = IsEdge before i j ⊎ HasLink rows others 0 k i j

  pub IsRowLinked-start : IsRowLinked before rows others i 0 before
  IsRowLinked-start = record {
    shape = HaveShapeOf-same before;
    there = λ j. (
      (λ edge. inl edge),
      (λ either. elim either [ inl edge ↦ edge | inr link ↦ absurd (omega (arith, link.2)) ]),
    );
    others_stay = λ l j apart. refl;
  }

  wider : (k j : ℕ) → Links k j → Links (k + 1) j
  wider k j (inl own) = inl own
  wider k j (inr link) = inr (link.0, link.1, omega (arith, link.2), link.3, link.4)

  -- what row k adds, or no more
  narrower : (k j : ℕ) → Links (k + 1) j → Links k j ⊎ (IsEdge rows i k × IsEdge others k j)
  narrower k j (inl own) = inl (inl own)
  narrower k j (inr link) = elim (cases_lt link.0 k) [
    | inl low ↦ inl (inr (link.0, link.1, low, link.3, link.4))
    | inr high ↦
        let here : link.0 ≡ k = omega (arith, high, link.2) in inr (
          subst (λ n. IsEdge rows i n) here link.3,
          subst (λ n. IsEdge others n j) here link.4,
        )
  ]

  module _ (k : ℕ) (now : List (List Bool)) (h : IsRowLinked before rows others i k now) where
    pub IsRowLinked-skip : entry rows i k ≡ false → IsRowLinked before rows others i (k + 1) now
    IsRowLinked-skip none = record {
      shape = h.shape;
      there = λ j. (
        (λ edge. wider k j ((h.there j).0 edge)),
        (λ links. (h.there j).1 (elim (narrower k j links) [
          | inl less ↦ less
          | inr both ↦ absurd (false≢true (sym none ∙ both.0))
        ])),
      );
      others_stay = h.others_stay;
    }

    pub IsRowLinked-more : (after : List (List Bool)) → entry rows i k ≡ true
        → IsUnionSet now i i (row_of others k) after → IsRowLinked before rows others i (k + 1) after
    IsRowLinked-more after edge made = record {
      shape = HaveShapeOf-trans before now after h.shape made.shape;
      there = λ j. (
        (λ new. elim (or_cases (entry now i j) (entry others k j) (sym (made.there j) ∙ new)) [
          | inl old ↦ wider k j ((h.there j).0 old)
          | inr named ↦ inr (k, omega arith, omega arith, edge, named)
        ]),
        (λ links. made.there j ∙ elim (narrower k j links) [
          | inl less ↦ or_left (entry now i j) (entry others k j) ((h.there j).1 less)
          | inr both ↦ or_right (entry now i j) (entry others k j) both.1
        ]),
      );
      others_stay = λ l j apart. made.others l j apart ∙ h.others_stay l j apart;
    }

-- ---- all rows

module _ (before rows others : List (List Bool)) (k : ℕ) where
  pub AreRowsLinked-start : AreRowsLinked before rows others k 0 before
  AreRowsLinked-start = record {
    shape = HaveShapeOf-same before;
    done = λ i j less. absurd (omega (arith, less));
    left = λ i j past. refl;
  }

  pub AreRowsLinked-more : (n : ℕ) (now after : List (List Bool))
      → AreRowsLinked before rows others k n now → IsRowLinked now rows others n k after
      → AreRowsLinked before rows others k (n + 1) after
  AreRowsLinked-more n now after h row = record {
    shape = HaveShapeOf-trans before now after h.shape row.shape;
    done = λ i j less. elim (cases_eq i n) [
      | inl here ↦
          subst (λ m. IsEdge after m j ↔ (IsEdge before m j ⊎ HasLink rows others 0 k m j)) (sym here) (
            (λ edge. elim ((row.there j).0 edge) [
              | inl own ↦ inl (sym (h.left n j (omega arith)) ∙ own)
              | inr link ↦ inr link
            ]),
            (λ either. (row.there j).1 (elim either [
              | inl own ↦ inl (h.left n j (omega arith) ∙ own)
              | inr link ↦ inr link
            ])),
          )
      | inr other ↦
          let old = h.done i j (omega (arith, less, other)) in (
            (λ edge. old.0 (sym (row.others_stay i j other) ∙ edge)),
            (λ either. row.others_stay i j other ∙ old.1 either),
          )
    ];
    left = λ i j past. row.others_stay i j (λ here. omega (arith, here, past))
        ∙ h.left i j (omega (arith, past));
  }

  all_linked : (n : ℕ) (after : List (List Bool)) → length rows ≤ n
      → AreRowsLinked before rows others k n after → AreLinked before rows others 0 k after
  all_linked n after whole h = record {
    shape = h.shape;
    each = λ i j. elim (cases_lt i n) [
      | inl less ↦ h.done i j less
      | inr past ↦ (
        (λ edge. inl (sym (h.left i j past) ∙ edge)),
        (λ either. elim either [
          | inl own ↦ h.left i j past ∙ own
          | inr link ↦ absurd (omega (arith, past, whole, edge_row rows i link.0 link.3))
        ]),
      )
    ];
  }

-- rows that were blank, and got all that their rows name
pub product_in : (rows inner columns : ℕ) (first second made : List ℕ)
    → AreRowsLinked (replicate rows (replicate columns false)) (rows_in rows inner first)
    (rows_in inner columns second) inner rows (rows_in rows columns made)
    → IsProduct (matrix_in rows inner first) (matrix_in inner columns second)
    (matrix_in rows columns made)
product_in rows inner columns first second made h =
    let blank = replicate rows (replicate columns false) in
    let by = rows_in rows inner first in
    let others = rows_in inner columns second in
    IsProduct-linked (matrix_in rows inner first) (matrix_in inner columns second)
    (matrix_in rows columns made) blank columns
    (ap (λ n. replicate n (replicate columns false)) (sym (length-rows_in rows inner first))) refl
    (subst (λ n. AreLinked blank by others 0 n (rows_in rows columns made))
    (sym (length-rows_in inner columns second))
    (all_linked blank by others inner rows (rows_in rows columns made)
    (omega (arith, length-rows_in rows inner first)) h))

-- ---- no words

-- a row and a column need a word
some_words : (rows columns i j : ℕ) → i < rows → j < columns → 0 < rows * need columns 64
some_words rows columns i j row column =
    let some : 1 ≤ need columns 64 = omega (arith, column, need_enough 64 (omega arith) columns) in
    omega (arith, mul-le 1 1 rows (need columns 64) (omega (arith, row)) some)

module _ (rows columns : ℕ) (words : List ℕ) (none : rows * need columns 64 ≡ 0) where
  pub no_words : length words ≡ rows * need columns 64 → AreCanonicalRows rows columns words
  no_words many = blank_words rows columns words
      (ext_get_or 0 words (replicate (rows * need columns 64) 0)
      (many ∙ sym (length-replicate (rows * need columns 64) 0))
      (λ i inside. absurd (omega (arith, inside, many, none))))

  no_edge : (i j : ℕ) → entry (rows_in rows columns words) i j ≡ false
  no_edge i j = elim (cases_Bool (entry (rows_in rows columns words) i j)) [
    | inl edge ↦ absurd (omega (
      arith,
      none,
      some_words rows columns i j
          (omega (arith, edge_row (rows_in rows columns words) i j edge, length-rows_in rows columns words))
          (edge_column (rows_in rows columns words) columns i j (rows_of_length rows columns words) edge),
    ))
    | inr unset ↦ unset
  ]

  pub no_product : (inner : ℕ) (first second : List ℕ) → IsProduct (matrix_in rows inner first)
      (matrix_in inner columns second) (matrix_in rows columns words)
  no_product inner first second = record {
    count = length-rows_in rows columns words ∙ sym (length-rows_in rows inner first);
    columns = refl;
    each = λ i j. (
      (λ edge. absurd (false≢true (sym (no_edge i j) ∙ edge))),
      (λ two. absurd (omega (
        arith,
        none,
        some_words rows columns i j
            (omega (arith, edge_row (rows_in rows inner first) i two.0 two.1, length-rows_in rows inner first))
            (edge_column (rows_in inner columns second) columns two.0 j
            (rows_of_length inner columns second) two.2),
      ))),
    );
  }

  pub no_transpose : (others : List ℕ)
      → IsTransposed (matrix_in columns rows others) (matrix_in rows columns words)
  no_transpose others = record {
    count = length-rows_in rows columns words;
    columns = sym (length-rows_in columns rows others);
    long = rows_of_length rows columns words;
    each = λ i j. no_edge j i ∙ elim (cases_Bool (entry (rows_in columns rows others) i j)) [
      | inl edge ↦ absurd (omega (
        arith,
        none,
        some_words rows columns j i
            (edge_column (rows_in columns rows others) rows i j (rows_of_length columns rows others) edge)
            (omega (arith, edge_row (rows_in columns rows others) i j edge, length-rows_in columns rows others)),
      ))
      | inr unset ↦ sym unset
    ];
  }

-- ---- all columns

pub all_marked : (rows from after : List (List Bool)) (n : ℕ) → length from ≤ n
    → AreMarkedBefore rows from n after → AreColumnsMarked rows from after
all_marked rows from after n whole h = record {
  shape = h.shape;
  each = λ i j. elim (cases_lt i n) [
    | inl less ↦ h.done i j less
    | inr past ↦ h.left i j past ∙ sym (ap (λ r. item r j || entry rows j i)
        (get_or_past from i [] (omega (arith, past, whole))))
  ];
}
