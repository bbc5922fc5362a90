-- Paths through some nodes, which the turns of a closure add one group after another.
use Rattle.std.proofs.Common.{◌≡◌, ◌↔◌, ◌⊎◌, ℕ, ◌+◌, ◌<◌, ◌≤◌, Bool, ◌&&◌, List, [], ◌∷◌, ◌++◌, length, refl, subst, sym, ap, ◌∙◌, arith, inl, inr}
use Rattle.std.proofs.lemmas.Bool.{cases_lt, false≢true, or_cases, and_parts, or_left, or_right, and_from}
use Rattle.std.proofs.lemmas.List.{get_or_past}
use Rattle.vob_block.specs.Packing.{item}
use Rattle.vob_block.proofs.PackingLemmas.{true_inside}
use Rattle.vob.specs.Vobs.{AreOfLength}
use Rattle.vob_rows.specs.Rows.{row_of}
use Rattle.vob_matrix.specs.Matrix.{entry, IsEdge, IsPath, AreClosed}
use Rattle.vob_matrix.specs.MatrixPaths.{AreWithin, HasPathWithin, IsLedThrough, AreClosedWithin, IsClosedThrough}
use Rattle.vob_matrix.specs.Unions.{HasLink, AreLinked}
use Rattle.vob_matrix.proofs.ShapeLemmas.{HaveShapeOf-same, HaveShapeOf-trans}

-- a node with an edge has a row
pub edge_row : (rows : List (List Bool)) (i j : ℕ) → IsEdge rows i j → i < length rows
edge_row rows i j e = elim (cases_lt i (length rows)) [
  | inl less ↦ less
  | inr past ↦ absurd (false≢true (sym (ap (λ r. item r j) (get_or_past rows i [] past)) ∙ e))
]

-- and an edge leads to a node with a column
pub edge_column : (rows : List (List Bool)) (columns i j : ℕ) → AreOfLength columns rows →
    IsEdge rows i j → j < columns
edge_column rows columns i j long e =
    omega (arith, true_inside (row_of rows i) j e, long i [] (edge_row rows i j e))

-- so a path leads through nodes that have both
path_within : (rows : List (List Bool)) (columns : ℕ) → AreOfLength columns rows →
    (n : ℕ) → (length rows ≤ n) ⊎ (columns ≤ n) →
    (i : ℕ) (through : List ℕ) (j : ℕ) → IsPath rows i through j → AreWithin 0 n through
path_within rows columns long n all i [] j path = tt
path_within rows columns long n all i (x ∷ []) j path = (
  omega arith,
  elim all [
    | inl has_rows ↦ omega (arith, has_rows, edge_row rows x j path.1)
    | inr has_columns ↦ omega (arith, has_columns, edge_column rows columns i x long path.0)
  ],
  tt,
)
path_within rows columns long n all i (x ∷ y ∷ through) j path = (
  omega arith,
  elim all [
    | inl has_rows ↦ omega (arith, has_rows, edge_row rows x y path.1.0)
    | inr has_columns ↦ omega (arith, has_columns, edge_column rows columns i x long path.0)
  ],
  path_within rows columns long n all x (y ∷ through) j path.1,
)

-- ---- paths that are joined

within_wider : (a b c d : ℕ) → c ≤ a → b ≤ d → (through : List ℕ) → AreWithin a b through →
    AreWithin c d through
within_wider a b c d low high [] within = tt
within_wider a b c d low high (x ∷ through) within = (
  omega (arith, low, within.0),
  omega (arith, high, within.1),
  within_wider a b c d low high through within.2,
)

append_within : (a b : ℕ) (through : List ℕ) (k : ℕ) (others : List ℕ) → AreWithin a b through →
    a ≤ k → k < b → AreWithin a b others → AreWithin a b (through ++ k ∷ others)
append_within a b [] k others within low high after = (low, high, after)
append_within a b (x ∷ through) k others within low high after =
    (within.0, within.1, append_within a b through k others within.2 low high after)

append_path : (rows : List (List Bool)) (i k j : ℕ) (through others : List ℕ) →
    IsPath rows i through k → IsPath rows k others j → IsPath rows i (through ++ k ∷ others) j
append_path rows i k j [] others path after = (path, after)
append_path rows i k j (x ∷ through) others path after =
    (path.0, append_path rows x k j through others path.1 after)

module _ (rows : List (List Bool)) where
  pub wider : (a b c d i j : ℕ) → c ≤ a → b ≤ d → HasPathWithin rows a b i j →
      HasPathWithin rows c d i j
  wider a b c d i j low high path =
      (path.0, within_wider a b c d low high path.0 path.1, path.2)

  -- a path to node k, and one from it on
  pub joined : (a b i k j : ℕ) → a ≤ k → k < b → HasPathWithin rows a b i k →
      HasPathWithin rows a b k j → HasPathWithin rows a b i j
  joined a b i k j low high to on = (
    to.0 ++ k ∷ on.0,
    append_within a b to.0 k on.0 to.1 low high on.1,
    append_path rows i k j to.0 on.0 to.2 on.2,
  )

-- ---- one group of nodes after another

-- Some nodes, those of the group among them, have an edge wherever a path through nodes from a to
-- below b led. A path through the group along such edges is one through all nodes up to the group.
module _ (rows edges : List (List Bool)) (a b c : ℕ) (low : a ≤ b) (high : b ≤ c)
    (Has : ℕ → Type 0) (group : (i : ℕ) → b ≤ i → i < c → Has i)
    (each : (i j : ℕ) → Has i → IsEdge edges i j ↔ HasPathWithin rows a b i j) where
  pub group_on : (i : ℕ) (through : List ℕ) (j : ℕ) → Has i → AreWithin b c through →
      IsPath edges i through j → HasPathWithin rows a c i j
  group_on i [] j has within path =
      wider rows a b a c i j (omega arith) high ((each i j has).0 path)
  group_on i (x ∷ through) j has within path =
      joined rows a c i x j (omega (arith, low, within.0)) within.1
      (wider rows a b a c i x (omega arith) high ((each i x has).0 path.0))
      (group_on x through j (group x within.0 within.1) within.2 path.1)

  -- a path through nodes below the group, or to a node of it and on from there
  Cut : ℕ → ℕ → Type 0
  Cut i j = HasPathWithin rows a b i j ⊎ ((k : ℕ) × (b ≤ k) × (k < c)
      × HasPathWithin rows a b i k × HasPathWithin edges b c k j)

  whole : (i j : ℕ) → Has i → Cut i j → HasPathWithin edges b c i j
  unfolding Cut
  whole i j has (inl below) = ([], tt, (each i j has).1 below)
  whole i j has (inr on) =
      (on.0 ∷ on.4.0, (on.1, on.2, on.4.1), ((each i on.0 has).1 on.3, on.4.2))

  cut : (i : ℕ) (through : List ℕ) (j : ℕ) → AreWithin a c through → IsPath rows i through j →
      Cut i j
  unfolding Cut
  cut i [] j within path = inl ([], tt, path)
  cut i (x ∷ through) j within path =
      let on = cut x through j within.2 path.1 in
      elim (cases_lt x b) [
        | inl below ↦ elim on [
          | inl all ↦ inl (x ∷ all.0, (within.0, below, all.1), (path.0, all.2))
          | inr later ↦ inr (
            later.0,
            later.1,
            later.2,
            (x ∷ later.3.0, (within.0, below, later.3.1), (path.0, later.3.2)),
            later.4,
          )
        ]
        | inr inside ↦
            inr (x, inside, within.1, ([], tt, path.0), whole x j (group x inside within.1) on)
      ]

  -- so both ways
  pub group-paths : (i j : ℕ) → Has i → HasPathWithin edges b c i j ↔ HasPathWithin rows a c i j
  group-paths i j has = (
    (λ path. group_on i path.0 j has path.1 path.2),
    (λ path. whole i j has (cut i path.0 j path.1 path.2)),
  )

-- ---- a group of one node

one_only : (edges : List (List Bool)) (k i : ℕ) (through : List ℕ) (j : ℕ) →
    AreWithin k (k + 1) through → IsPath edges i through j →
    IsEdge edges i j ⊎ (IsEdge edges i k × IsEdge edges k j)
one_only edges k i [] j within path = inl path
one_only edges k i (x ∷ through) j within path =
    let here : x ≡ k = omega (arith, within.0, within.1) in
    let to = subst (IsEdge edges i) here path.0 in
    elim (one_only edges k x through j within.2 path.1) [
      | inl on ↦ inr (to, subst (λ n. IsEdge edges n j) here on)
      | inr round ↦ inr (to, round.1)
    ]

module _ (rows : List (List Bool)) (first last : ℕ) where
  pub AreClosedWithin-start : AreClosedWithin rows first last first rows
  AreClosedWithin-start = record {
    shape = HaveShapeOf-same rows;
    each = λ i j low high. ((λ edge. ([], tt, edge)), (λ path. none i path.0 j path.1 path.2));
    others = λ i j out. refl;
  }
    where
      none : (i : ℕ) (through : List ℕ) (j : ℕ) → AreWithin first first through →
          IsPath rows i through j → IsEdge rows i j
      none i [] j within path = path
      none i (x ∷ through) j within path = absurd (omega (arith, within.0, within.1))

  -- row k was added where an edge leads to node k
  pub AreClosedWithin-more : (before after : List (List Bool)) (k : ℕ) → first ≤ k → k < last →
      AreClosedWithin rows first last k before → IsLedThrough before k first last after →
      AreClosedWithin rows first last (k + 1) after
  AreClosedWithin-more before after k from below h led = record {
    shape = HaveShapeOf-trans rows before after h.shape led.shape;
    each = λ i j low high.
        let own = entry before i j in
        let round = entry before i k && entry before k j in
        let paths = group-paths rows before first k (k + 1) from (omega arith)
        (λ n. (first ≤ n) × (n < last))
        (λ n past near. (omega (arith, past, from), omega (arith, near, below)))
        (λ n l has. h.each n l has.0 has.1) i j (low, high) in (
          (λ edge. paths.0 (elim (or_cases own round (sym (led.each i j low high) ∙ edge)) [
            | inl old ↦ ([], tt, old)
            | inr both ↦
                let parts = and_parts (entry before i k) (entry before k j) both in
                (k ∷ [], (omega arith, omega arith, tt), (parts.0, parts.1))
          ])),
          (λ path.
              let on = paths.1 path in
              led.each i j low high ∙ elim (one_only before k i on.0 j on.1 on.2) [
                | inl old ↦ or_left own round old
                | inr both ↦ or_right own round
                    (and_from (entry before i k) (entry before k j) both.0 both.1)
              ]),
        );
    others = λ i j out. led.others i j out ∙ h.others i j out;
  }

-- ---- a group of nodes whose rows are closed among themselves, and linked to all rows

module _ (rows mid after : List (List Bool)) (first last : ℕ)
    (h : AreClosedWithin rows first last last mid) (linked : AreLinked mid mid mid first last after)
  where
    -- a node of the group, or another
    inside : (i : ℕ) → ((first ≤ i) × (i < last)) ⊎ ((i < first) ⊎ (last ≤ i))
    inside i = elim (cases_lt i first) [
      | inl before ↦ inr (inl before)
      | inr from ↦ elim (cases_lt i last) [
        | inl below ↦ inl (from, below)
        | inr past ↦ inr (inr past)
      ]
    ]

    led : (i j : ℕ) → IsEdge mid i j → HasPathWithin rows first last i j
    led i j edge = elim (inside i) [
      | inl own ↦ (h.each i j own.0 own.1).0 edge
      | inr out ↦ ([], tt, sym (h.others i j out) ∙ edge)
    ]

    linked_all : (i : ℕ) → (i < first) ⊎ (last ≤ i) → (through : List ℕ) (j : ℕ) →
        AreWithin first last through → IsPath rows i through j →
        IsEdge mid i j ⊎ HasLink mid mid first last i j
    linked_all i out [] j within path = inl (h.others i j out ∙ path)
    linked_all i out (x ∷ through) j within path = inr (
      x,
      within.0,
      within.1,
      h.others i x out ∙ path.0,
      (h.each x j within.0 within.1).1 (through, within.2, path.1),
    )

    pub IsClosedThrough-linked : IsClosedThrough rows first last after
    IsClosedThrough-linked = record {
      shape = HaveShapeOf-trans rows mid after h.shape linked.shape;
      each = λ i j. (
        (λ edge. elim ((linked.each i j).0 edge) [
          | inl own ↦ led i j own
          | inr link ↦ joined rows first last i link.0 j link.1 link.2 (led i link.0 link.3)
              (led link.0 j link.4)
        ]),
        (λ path. (linked.each i j).1 (elim (inside i) [
          | inl own ↦ inl ((h.each i j own.0 own.1).1 path)
          | inr out ↦ linked_all i out path.0 j path.1 path.2
        ])),
      );
    }

-- ---- all groups

pub IsClosedThrough-start : (rows : List (List Bool)) → IsClosedThrough rows 0 0 rows
IsClosedThrough-start rows = record {
  shape = HaveShapeOf-same rows;
  each = λ i j. ((λ edge. ([], tt, edge)), (λ path. none i path.0 j path.1 path.2));
}
  where
    none : (i : ℕ) (through : List ℕ) (j : ℕ) → AreWithin 0 0 through → IsPath rows i through j →
        IsEdge rows i j
    none i [] j within path = path
    none i (x ∷ through) j within path = absurd (omega (arith, within.1))

pub IsClosedThrough-more : (rows before after : List (List Bool)) (b c : ℕ) → b ≤ c →
    IsClosedThrough rows 0 b before → IsClosedThrough before b c after →
    IsClosedThrough rows 0 c after
IsClosedThrough-more rows before after b c order h more = record {
  shape = HaveShapeOf-trans rows before after h.shape more.shape;
  each = λ i j.
      let paths = group-paths rows before 0 b c (omega arith) order (λ n. Unit {0})
      (λ n past near. tt) (λ n l has. h.each n l) i j tt in
      ((λ edge. paths.0 ((more.each i j).0 edge)), (λ path. (more.each i j).1 (paths.1 path)));
}

-- each node with a row and a column was taken
pub AreClosed-through : (rows after : List (List Bool)) (columns n : ℕ) →
    AreOfLength columns rows → (length rows ≤ n) ⊎ (columns ≤ n) →
    IsClosedThrough rows 0 n after → AreClosed rows after
AreClosed-through rows after columns n long all h = record {
  shape = h.shape;
  each = λ i j. (
    (λ edge. let path = (h.each i j).0 edge in (path.0, path.2)),
    (λ path. (h.each i j).1
        (path.0, path_within rows columns long n all i path.0 j path.1, path.1)),
  );
}

-- and so was each node, one after another
pub AreClosed-within : (rows after : List (List Bool)) (columns n : ℕ) → n ≡ length rows →
    AreOfLength columns rows → AreClosedWithin rows 0 n n after → AreClosed rows after
AreClosed-within rows after columns n whole long h =
    AreClosed-through rows after columns n long (inl (omega arith)) (record {
      shape = h.shape;
      each = λ i j. (
        (λ edge. (h.each i j (omega arith)
            (omega (arith, edge_row after i j edge, h.shape.count))).0 edge),
        (λ path. elim (cases_lt i n) [
          | inl less ↦ (h.each i j (omega arith) less).1 path
          | inr past ↦ absurd (omega (arith, past, path_row i path.0 j path.2))
        ]),
      );
    })
  where
    path_row : (i : ℕ) (through : List ℕ) (j : ℕ) → IsPath rows i through j → i < length rows
    path_row i [] j path = edge_row rows i j path
    path_row i (x ∷ through) j path = edge_row rows i x path.0
