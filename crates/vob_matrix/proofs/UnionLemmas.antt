-- Rows that get the union of others, one by one or by a table of all unions.
use Rattle.std.proofs.Common.{◌≡◌, ◌≢◌, ◌↔◌, ◌⊎◌, ℕ, ◌+◌, ◌-◌, ◌*◌, ◌^◌, ◌<◌, ◌≤◌, Bool, true, false, ◌||◌, ◌&&◌, List}
use Rattle.std.proofs.Common.{length, set, take, drop, replicate, eqb, refl, sym, ap, ◌∙◌, subst, arith, inl, inr}
use Rattle.std.proofs.lemmas.Nat.{pow_pos}
use Rattle.vob_matrix.proofs.PathLemmas.{edge_row}
use Rattle.std.proofs.lemmas.Bool.{cases_Bool, cases_eq, cases_lt, false≢true, or_cases, or_left, or_right}
use Rattle.std.proofs.lemmas.List.{get_or_past, length-replicate, length-take}
use Rattle.std.proofs.Math.Pow.{pow_mono}
use Rattle.std.proofs.lemmas.Grind.{pow_more}
use Rattle.std.proofs.lemmas.Nat.Bits.{bit_at_cat_low, bit_at_cat_high}
use Rattle.vob_block.specs.Packing.{item}
use Rattle.vob_block.specs.Places.{place, value, HasPlaces}
use Rattle.vob_block.proofs.BoolLemmas.{or-false, or-absorbs}
use Rattle.vob_block.proofs.PlaceLemmas.{place_above, place-zero, same_from_places}
use Rattle.vob_block.proofs.ValueLemmas.{value-lt, place-value}
use Rattle.vob.specs.Bits.{AreCombined}
use Rattle.vob.proofs.BitsLemmas.{item_false}
use Rattle.vob_rows.specs.Rows.{row_of}
use Rattle.vob_matrix.specs.Matrix.{entry, GetsRow, HaveShapeOf, IsEdge}
use Rattle.vob_matrix.specs.MatrixPaths.{IsLedThrough}
use Rattle.vob_matrix.specs.Unions.{IsUnionSet, AreDoubled, IsNamed, AreUnions, HasLink, AreLinked}
use Rattle.vob_matrix.proofs.ShapeLemmas.{HaveShapeOf-same, HaveShapeOf-trans, HaveShapeOf-set, row_of-there, row_of-other}

-- ---- rows that are led through node k

pub IsLedThrough-start : (rows : List (List Bool)) (k first : ℕ) →
    IsLedThrough rows k first first rows
IsLedThrough-start rows k first = record {
  shape = HaveShapeOf-same rows;
  each = λ i j low less. absurd (omega (arith, low, less));
  others = λ i j out. refl;
}

module _ (rows : List (List Bool)) (k first n : ℕ) (before : List (List Bool)) (from : first ≤ n)
    (h : IsLedThrough rows k first n before) where
  -- row k stays as it was
  row_stays : (j : ℕ) → entry before k j ≡ entry rows k j
  row_stays j = elim (cases_lt k n) [
    | inl less ↦ elim (cases_lt k first) [
      | inl under ↦ h.others k j (inl under)
      | inr low ↦ h.each k j low less ∙ or-absorbs (entry rows k k) (entry rows k j)
    ]
    | inr past ↦ h.others k j (inr past)
  ]

  -- no edge leads from node n to node k
  pub IsLedThrough-skip : entry before n k ≡ false → IsLedThrough rows k first (n + 1) before
  IsLedThrough-skip none = record {
    shape = h.shape;
    each = λ i j low less. elim (cases_eq i n) [
      | inl here ↦
          let stays = ap (λ l. entry rows l k) here ∙ sym (h.others n k (inr (omega arith))) ∙ none in
          h.others i j (inr (omega (arith, here))) ∙ sym (or-false (entry rows i j))
          ∙ ap (λ b. entry rows i j || (b && entry rows k j)) (sym stays)
      | inr other ↦ h.each i j low (omega (arith, less))
    ];
    others = λ i j out. elim out [
      | inl under ↦ h.others i j (inl under)
      | inr past ↦ h.others i j (inr (omega (arith, past)))
    ];
  }

  -- one does, and row k is added
  pub IsLedThrough-more : (after : List (List Bool)) → entry before n k ≡ true →
      GetsRow before n k after → IsLedThrough rows k first (n + 1) after
  IsLedThrough-more after edge gets =
      record {
        shape = HaveShapeOf-trans rows before after h.shape gets.shape;
        each = λ i j low less. elim (cases_eq i n) [
          | inl here ↦
              let edges = ap (λ l. entry rows l k) here ∙ sym (h.others n k (inr (omega arith)))
              ∙ edge in
              ap (λ l. entry after l j) here ∙ gets.there j
              ∙ ap (λ b. b || entry before k j)
              (h.others n j (inr (omega arith)) ∙ ap (λ l. entry rows l j) (sym here))
              ∙ ap (λ b. entry rows i j || b) (row_stays j)
              ∙ ap (λ b. entry rows i j || (b && entry rows k j)) (sym edges)
          | inr other ↦ gets.others i j other ∙ h.each i j low (omega (arith, less))
        ];
        others = λ i j out. elim out [
          | inl under ↦
              gets.others i j (λ here. omega (arith, under, here, from)) ∙ h.others i j (inl under)
          | inr past ↦ gets.others i j (λ here. omega (arith, past, here))
              ∙ h.others i j (inr (omega (arith, past)))
        ];
      }

-- ---- one row is made the union of another and a list

-- by a call that adds the list to a row
module _ (rows : List (List Bool)) (i : ℕ) (row new : List Bool) (after : List (List Bool))
    (inside : i < length rows) (is : after ≡ set rows i new)
    (combined : AreCombined ◌||◌ (row_of rows i) row (row_of after i)) where
  pub IsUnionSet-or : IsUnionSet rows i i row after
  IsUnionSet-or =
      let there = ap (λ rs. row_of rs i) is ∙ row_of-there rows i new inside in
      record {
        shape = subst (HaveShapeOf rows) (sym is)
            (HaveShapeOf-set rows i new inside (ap length (sym there) ∙ combined.len));
        there = combined.each;
        others = λ l j apart. ap (λ rs. entry rs l j) is
            ∙ ap (λ r. item r j) (row_of-other rows i new inside l apart);
      }

pub GetsRow-or : (rows : List (List Bool)) (i k : ℕ) (new : List Bool) (after : List (List Bool)) →
    i < length rows → after ≡ set rows i new →
    AreCombined ◌||◌ (row_of rows i) (row_of rows k) (row_of after i) → GetsRow rows i k after
GetsRow-or rows i k new after inside is combined =
    let made = IsUnionSet-or rows i (row_of rows k) new after inside is combined in
    record { shape = made.shape; there = made.there; others = made.others }

-- by three calls: one clears a row, and two add the other and the list
pub IsUnionSet-made : (rows blank both after : List (List Bool)) (i other columns : ℕ)
    (row new newer : List Bool) → i < length rows → other < i → columns ≡ length (row_of rows i) →
    blank ≡ set rows i (replicate columns false) → both ≡ set blank i new →
    AreCombined ◌||◌ (row_of blank i) (row_of blank other) (row_of both i) →
    after ≡ set both i newer → AreCombined ◌||◌ (row_of both i) row (row_of after i) →
    IsUnionSet rows i other row after
IsUnionSet-made rows blank both after i other columns row new newer inside less long cleared is first
    its second =
    let none = replicate columns false in
    let start = subst (HaveShapeOf rows) (sym cleared)
    (HaveShapeOf-set rows i none inside (length-replicate columns false ∙ long)) in
    let one = IsUnionSet-or blank i (row_of blank other) new both (omega (arith, inside, start.count)) is first in
    let two = IsUnionSet-or both i row newer after
    (omega (arith, inside, start.count, one.shape.count)) its second in
    let kept = λ (l j : ℕ) (apart : l ≢ i). ap (λ rs. entry rs l j) cleared
    ∙ ap (λ r. item r j) (row_of-other rows i none inside l apart) in
    let gone = λ (j : ℕ). ap (λ rs. entry rs i j) cleared
    ∙ ap (λ r. item r j) (row_of-there rows i none inside) ∙ item_false columns j in
    record {
      shape = HaveShapeOf-trans rows both after (HaveShapeOf-trans rows blank both start one.shape) two.shape;
      there = λ j. two.there j ∙ ap (λ b. b || item row j) (one.there j
          ∙ ap (λ b. b || entry blank other j) (gone j) ∙ kept other j (λ e. omega (arith, e, less)));
      others = λ l j apart. two.others l j apart ∙ one.others l j apart ∙ kept l j apart;
    }

-- a row that gets an empty entry stays
pub IsUnionSet-blank : (rows unions : List (List Bool)) (i m : ℕ) → m ≡ 0 →
    ((j : ℕ) → entry unions 0 j ≡ false) → IsUnionSet rows i i (row_of unions m) rows
IsUnionSet-blank rows unions i m none blank = record {
  shape = HaveShapeOf-same rows;
  there = λ j. sym (ap (λ b. entry rows i j || b) (ap (λ n. entry unions n j) none ∙ blank j)
      ∙ or-false (entry rows i j));
  others = λ l j other. refl;
}

-- ---- a table that is doubled

pub AreDoubled-start : (unions : List (List Bool)) (width : ℕ) (row : List Bool) →
    AreDoubled unions width 0 row unions
AreDoubled-start unions width row = record {
  shape = HaveShapeOf-same unions;
  there = λ m j less. absurd (omega (arith, less));
  others = λ l j out. refl;
}

pub AreDoubled-more : (unions : List (List Bool)) (width n : ℕ) (row : List Bool)
    (before after : List (List Bool)) → n < width → AreDoubled unions width n row before →
    IsUnionSet before (width + n) n row after → AreDoubled unions width (n + 1) row after
AreDoubled-more unions width n row before after below h made = record {
  shape = HaveShapeOf-trans unions before after h.shape made.shape;
  there = λ m j less. elim (cases_eq m n) [
    | inl here ↦ ap (λ l. entry after (width + l) j) here ∙ made.there j
        ∙ ap (λ b. b || item row j) (h.others n j (inl below) ∙ ap (λ l. entry unions l j) (sym here))
    | inr other ↦ made.others (width + m) j (λ same. omega (arith, same, less, other))
        ∙ h.there m j (omega (arith, less, other))
  ];
  others = λ l j out. elim out [
    | inl under ↦ made.others l j (λ same. omega (arith, same, under)) ∙ h.others l j (inl under)
    | inr past ↦ made.others l j (λ same. omega (arith, same, past))
        ∙ h.others l j (inr (omega (arith, past)))
  ];
}

-- ---- the places of a number below a power of two, and of one above it

place-low : (t m s : ℕ) → s < t → place s (2 ^ t + m) ≡ place s m
place-low t m s less =
    let one : 2 ^ t + m ≡ 1 * 2 ^ t + m = omega arith in
    ap (place s) one ∙ ap (λ b. eqb b 1) (bit_at_cat_low 1 t m s less)

place-top : (t m : ℕ) → m < 2 ^ t → place t (2 ^ t + m) ≡ true
place-top t m less =
    let one : 2 ^ t + m ≡ 1 * 2 ^ t + m = omega arith in
    let none : t - t ≡ 0 = omega arith in
    ap (place t) one ∙ ap (λ b. eqb b 1) (bit_at_cat_high 1 t m t less (omega arith))
    ∙ ap (λ n. place n 1) none

-- a number without places from `count` on
pub within_places : (w count x : ℕ) → count ≤ w → x < 2 ^ w →
    ((j : ℕ) → count ≤ j → j < w → place j x ≡ false) → x < 2 ^ count
within_places w count x few small none =
    let low = value count (λ j. place j x) in
    let below : low < 2 ^ count = value-lt count (λ j. place j x) in
    let wide : low < 2 ^ w = omega (arith, below, pow_mono {i = count} {j = w} few) in
    let same : x ≡ low = same_from_places w x low small wide
    (λ j less. elim (cases_lt j count) [
      | inl under ↦ sym (place-value count j (λ n. place n x) under)
      | inr past ↦ none j past less ∙ sym (place_above low count j below past)
    ]) in
    subst (λ n. n < 2 ^ count) (sym same) below

-- a table that has room for some rows has it for one row fewer, doubled
pub doubled_room : (first row last width room : ℕ) → first ≤ row → row < last →
    width ≡ 2 ^ (row - first) → 2 ^ (last - first) ≤ room → width * 2 ≤ room
doubled_room first row last width room from below is fits =
    let more : row - first + 1 ≤ last - first = omega arith in
    omega (
      arith,
      is,
      fits,
      pow_more 2 (row - first),
      pow_mono {i = row - first + 1} {j = last - first} more,
    )

-- ---- the table of unions

module _ (rows : List (List Bool)) (first : ℕ) where
  -- entry 0 names no row
  pub AreUnions-start : (unions : List (List Bool)) → ((j : ℕ) → entry unions 0 j ≡ false) →
      AreUnions rows first 0 unions
  AreUnions-start unions none = record {
    each = λ m j less. (
      (λ edge. absurd (false≢true (sym (none j)
          ∙ ap (λ n. entry unions n j) (zero_is m less) ∙ edge))),
      (λ named. absurd (omega (arith, named.1))),
    );
  }
    where
      zero_is : (m : ℕ) → m < 2 ^ 0 → 0 ≡ m
      zero_is m less = omega arith

  -- an entry of the upper half is that of the lower half and the row
  upper : (t low m j : ℕ) (row : List Bool) (before after : List (List Bool)) → low < 2 ^ t →
      m ≡ 2 ^ t + low → row ≡ row_of rows (first + t) → AreUnions rows first t before →
      entry after m j ≡ (entry before low j || item row j) →
      IsEdge after m j ↔ IsNamed rows first (t + 1) m j
  upper t low m j row before after less is own h there = (
    (λ edge. elim (or_cases (entry before low j) (item row j) (sym there ∙ edge)) [
      | inl old ↦
          let named = (h.each low j less).0 old in (
            named.0,
            omega (arith, named.1),
            ap (place named.0) is ∙ place-low t low named.0 named.1 ∙ named.2,
            named.3,
          )
      | inr new ↦ (
        t,
        omega arith,
        ap (place t) is ∙ place-top t low less,
        ap (λ r. item r j) (sym own) ∙ new,
      )
    ]),
    (λ named. there ∙ elim (cases_lt named.0 t) [
      | inl under ↦ or_left (entry before low j) (item row j) ((h.each low j less).1 (
        named.0,
        under,
        sym (place-low t low named.0 under) ∙ ap (place named.0) (sym is) ∙ named.2,
        named.3,
      ))
      | inr past ↦
          let last : named.0 ≡ t = omega (arith, past, named.1) in
          or_right (entry before low j) (item row j)
          (ap (λ r. item r j) own ∙ subst (λ n. IsEdge rows (first + n) j) last named.3)
    ]),
  )

  -- a doubled table has one row more
  pub AreUnions-more : (t width : ℕ) (row : List Bool) (before after : List (List Bool)) →
      width ≡ 2 ^ t → row ≡ row_of rows (first + t) → AreUnions rows first t before →
      AreDoubled before width width row after → AreUnions rows first (t + 1) after
  AreUnions-more t width row before after wide is h made = record {
    each = λ m j less. elim (cases_lt m width) [
      | inl low ↦ (
        (λ edge.
            let named = (h.each m j (omega (arith, low, wide))).0
            (sym (made.others m j (inl low)) ∙ edge) in
            (named.0, omega (arith, named.1), named.2, named.3)),
        (λ named. made.others m j (inl low) ∙ elim (cases_lt named.0 t) [
          | inl under ↦
              (h.each m j (omega (arith, low, wide))).1 (named.0, under, named.2, named.3)
          | inr past ↦ absurd (false≢true (sym
              (place_above m t named.0 (omega (arith, low, wide)) past) ∙ named.2))
        ]),
      )
      | inr high ↦
          let low : m - width < width = omega (arith, less, pow_more 2 t, wide, high) in
          let split : m ≡ width + (m - width) = omega (arith, high) in
          upper t (m - width) m j row before after (omega (arith, low, wide))
          (split ∙ ap (λ n. n + (m - width)) wide) is h
          (ap (λ n. entry after n j) split ∙ made.there (m - width) j low)
    ];
  }

-- ---- rows that are linked, one after another

-- a number names the nodes that an edge of a list leads to, from `first` to below `last`
pub record IsNumberOf (bits : List Bool) (first last number : ℕ) : Type 0 where
  pub within : number < 2 ^ (last - first)
  pub each : (t : ℕ) → t < last - first → place t number ≡ item bits (first + t)

-- the number that up to eight bits of a list are loaded as
pub IsNumberOf-loaded : (bits row : List Bool) (first last number : ℕ) → last ≤ first + 8 →
    row ≡ bits → HasPlaces 64 number (item (take (last - first) (drop first bits))) →
    ((t : ℕ) → t < last - first → place t number ≡ item bits (first + t)) → number < 2 ^ 64 →
    IsNumberOf row first last number
IsNumberOf-loaded bits row first last number few is places each small = record {
  within = within_places 64 (last - first) number (omega (arith, few)) small
      (λ j past less. places.each j less ∙ get_or_past (take (last - first) (drop first bits)) j
      false (omega (arith, past, length-take (last - first) (drop first bits))));
  each = λ t less. each t less ∙ ap (λ r. item r (first + t)) (sym is);
}

pub IsNumberOf-same : (bits row : List Bool) (first last number : ℕ) →
    ((j : ℕ) → item bits j ≡ item row j) → IsNumberOf bits first last number →
    IsNumberOf row first last number
IsNumberOf-same bits row first last number same names = record {
  within = names.within;
  each = λ t less. names.each t less ∙ same (first + t);
}

-- the rows before row n are linked, and the others are as before
pub record AreLinkedBefore (some rows others : List (List Bool)) (first last n : ℕ)
    (after : List (List Bool)) : Type 0 where
  pub shape : HaveShapeOf some after
  pub done : (i j : ℕ) → i < n →
      IsEdge after i j ↔ (IsEdge some i j ⊎ HasLink rows others first last i j)
  pub left : (i j : ℕ) → n ≤ i → entry after i j ≡ entry some i j

module _ (some rows others unions : List (List Bool)) (first last : ℕ)
    (table : AreUnions others first (last - first) unions) where
  -- an entry of the table is what the row links to
  named-link : (n j number : ℕ) → IsNumberOf (row_of rows n) first last number →
      IsEdge unions number j ↔ HasLink rows others first last n j
  named-link n j number names = (
    (λ edge.
        let named = (table.each number j names.within).0 edge in (
          first + named.0,
          omega arith,
          omega (arith, named.1),
          sym (names.each named.0 named.1) ∙ named.2,
          named.3,
        )),
    (λ link.
        let t = link.0 - first in
        let at : first + t ≡ link.0 = omega (arith, link.1) in
        let inside : t < last - first = omega (arith, link.1, link.2) in
        (table.each number j names.within).1 (
          t,
          inside,
          names.each t inside ∙ ap (item (row_of rows n)) at ∙ link.3,
          ap (λ k. entry others k j) at ∙ link.4,
        )),
  )

  pub AreLinkedBefore-start : AreLinkedBefore some rows others first last 0 some
  AreLinkedBefore-start = record {
    shape = HaveShapeOf-same some;
    done = λ i j less. absurd (omega (arith, less));
    left = λ i j past. refl;
  }

  pub AreLinkedBefore-more : (n number : ℕ) (before after : List (List Bool)) →
      AreLinkedBefore some rows others first last n before →
      IsNumberOf (row_of rows n) first last number →
      IsUnionSet before n n (row_of unions number) after →
      AreLinkedBefore some rows others first last (n + 1) after
  AreLinkedBefore-more n number before after h names made = record {
    shape = HaveShapeOf-trans some before after h.shape made.shape;
    done = λ i j less. elim (cases_eq i n) [
      | inl here ↦
          let there = made.there j ∙ ap (λ b. b || entry unions number j) (h.left n j (omega arith)) in
          let link = named-link n j number names in
          subst (λ k. IsEdge after k j ↔ (IsEdge some k j ⊎ HasLink rows others first last k j))
          (sym here) (
            (λ edge. elim (or_cases (entry some n j) (entry unions number j) (sym there ∙ edge)) [
              | inl own ↦ inl own
              | inr new ↦ inr (link.0 new)
            ]),
            (λ either. there ∙ elim either [
              | inl own ↦ or_left (entry some n j) (entry unions number j) own
              | inr new ↦ or_right (entry some n j) (entry unions number j) (link.1 new)
            ]),
          )
      | inr other ↦
          let kept = made.others i j other in
          let old = h.done i j (omega (arith, less, other)) in
          ((λ edge. old.0 (sym kept ∙ edge)), (λ either. kept ∙ old.1 either))
    ];
    left = λ i j past.
        made.others i j (λ here. omega (arith, past, here)) ∙ h.left i j (omega (arith, past));
  }

  -- 0 names no row
  pub AreUnions-blank : (j : ℕ) → entry unions 0 j ≡ false
  AreUnions-blank j = elim (cases_Bool (entry unions 0 j)) [
    | inl on ↦
        let named = (table.each 0 j (pow_pos (last - first))).0 on in
        absurd (false≢true (sym (place-zero named.0) ∙ named.2))
    | inr off ↦ off
  ]

  -- all rows are linked
  pub AreLinked-whole : (n : ℕ) (after : List (List Bool)) → n ≡ length some →
      length rows ≡ length some → AreLinkedBefore some rows others first last n after →
      AreLinked some rows others first last after
  AreLinked-whole n after whole count h = record {
    shape = h.shape;
    each = λ i j. elim (cases_lt i n) [
      | inl less ↦ h.done i j less
      | inr past ↦ (
        (λ edge. absurd (omega (arith, past, edge_row after i j edge, h.shape.count))),
        (λ either. elim either [
          | inl own ↦ absurd (omega (arith, past, edge_row some i j own))
          | inr link ↦ absurd (omega (arith, past, count, edge_row rows i link.0 link.3))
        ]),
      )
    ];
  }
