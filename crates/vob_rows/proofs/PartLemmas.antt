-- Blocks of rows: one row read, and one row written.
use Rattle.std.proofs.Common.{◌≡◌, ◌≢◌, ◌↔◌, ℕ, ◌+◌, ◌-◌, ◌*◌, ◌^◌, ◌<◌, ◌≤◌, Bool, true, false, ◌||◌, List, [], ◌∷◌, ◌++◌, length, map, take, drop}
use Rattle.std.proofs.Common.{get_or, set, refl, sym, ap, ◌∙◌, subst, arith, inl, inr, suc-mul, add-one, zero-add}
use Rattle.std.proofs.lemmas.Bool.{cases_eq, cases_lt}
use Rattle.std.proofs.lemmas.Nat.{mul-le}
use Rattle.std.proofs.lemmas.List.{ext_get_or, get_or-set_same, get_or-set_other, get_or_default, set-get_or, length-map, length-set, length-append, length-take, length-drop, take-map, drop-map, take-append-le, drop-append-le, append_assoc, take_at, drop_at}
use Rattle.std.proofs.lemmas.List.FromFn.{length-map-range_with_len, get_or-map-range_with_len}
use Rattle.std.proofs.lemmas.Slice.{between_is, between-put_mid, take-put_mid_below, drop-put_mid}
use borrow.Rule.Slice.PartMut.{put_mid}
use Rattle.vob_block.specs.Packing.{need, packing, unpacking, IsCanonical, Stores}
use Rattle.vob_block.specs.Pointwise.{IsPointwise, pointwise}
use Rattle.vob_block.proofs.PackingLemmas.{IsCanonical-packing, length-unpacking, packing-unpacking}
use Rattle.vob_block.proofs.PointwiseLemmas.{length-pointwise}
use Rattle.vob.proofs.CombineLemmas.{HasCombined, as_items, combined_here, pointwise_blocks}
use Rattle.vob.specs.Bits.{AreCombined, GainsBits}
use Rattle.vob.specs.Vobs.{AreOfLength}
use Rattle.vob.proofs.BitsLemmas.{AreCombined-pointwise, GainsBits-by, or_more}
use Rattle.vob_rows.specs.Part.{blocks_of, unpacked_rows, AreCanonical, HasRow, IsRowCombined, IsRowPut, with_row}

-- row i ends where the rows before m end, or before
pub row_end : (n i m : ℕ) → i < m → i * n + n ≤ m * n
row_end n i m less =
    let more : (i + 1) * n ≤ m * n = mul-le (i + 1) n m n (omega arith) (omega arith) in
    omega (arith, more, suc-mul i n, ap (λ k. k * n) (add-one i))

module _ {X : Type 0} (n : ℕ) (xs : List X) where
  pub blocks_of-map : {Y : Type 0} (f : X → Y) (i : ℕ) → blocks_of n (map f xs) i ≡ map f (blocks_of n xs i)
  blocks_of-map f i = ap (take (i * n + n - i * n)) (drop-map f (i * n) xs)
      ∙ take-map f (i * n + n - i * n) (drop (i * n) xs)

  -- row i written
  module _ (i : ℕ) (ys : List X) (inside : i * n + n ≤ length xs) (long : length ys ≡ n) where
    pub length-put : length (put_mid (i * n) n xs ys) ≡ length xs
    length-put = omega (
      arith,
      long,
      length-append (take (i * n) xs) (ys ++ drop n (drop (i * n) xs)),
      length-append ys (drop n (drop (i * n) xs)),
      length-take (i * n) xs,
      length-drop n (drop (i * n) xs),
      length-drop (i * n) xs,
    )

    pub blocks_of-put : blocks_of n (put_mid (i * n) n xs ys) i ≡ ys
    blocks_of-put = between-put_mid (i * n) n xs ys (i * n + n) (omega arith) (omega arith)

    pub blocks_of-put_other : (k : ℕ) → k ≢ i → blocks_of n (put_mid (i * n) n xs ys) k ≡ blocks_of n xs k
    blocks_of-put_other k other = elim (cases_lt k i) [
      | inl below ↦ between_is (put_mid (i * n) n xs ys) (k * n) (k * n + n)
          ∙ ap (drop (k * n)) (take-put_mid_below (i * n) n xs ys (k * n + n) (row_end n k i below) (omega arith))
          ∙ sym (between_is xs (k * n) (k * n + n))
      | inr past ↦ ap (take (k * n + n - k * n)) (drop-put_mid (i * n) n xs ys (k * n)
          (row_end n i k (omega (arith, past, other))) (omega arith) long)
    ]

-- a part of one half written is a part of the whole written
pub put-low : {X : Type 0} (a n : ℕ) (low high ys : List X) → a + n ≤ length low →
    put_mid a n low ys ++ high ≡ put_mid a n (low ++ high) ys
put-low a n low high ys inside =
    append_assoc (take a low) (ys ++ drop n (drop a low)) high
    ∙ ap (λ zs. take a low ++ zs) (append_assoc ys (drop n (drop a low)) high)
    ∙ ap (λ zs. take a low ++ (ys ++ zs))
    (sym (ap (drop n) (drop-append-le a low high (omega arith))
    ∙ drop-append-le n (drop a low) high (omega (arith, length-drop a low))))
    ∙ ap (λ zs. zs ++ (ys ++ drop n (drop a (low ++ high)))) (sym (take-append-le a low high (omega arith)))

pub put-high : {X : Type 0} (a n : ℕ) (low high ys : List X) → length low ≡ a →
    low ++ (ys ++ drop n high) ≡ put_mid a n (low ++ high) ys
put-high a n low high ys long =
    ap (λ zs. low ++ (ys ++ drop n zs)) (sym (drop_at low high a long))
    ∙ ap (λ zs. zs ++ (ys ++ drop n (drop a (low ++ high)))) (sym (take_at low high a long))

module _ {X : Type 0} (number : X → ℕ) (w rows columns : ℕ) where
  abbrev n : ℕ
  n = need columns w

  abbrev pub unpacked : List X → List (List Bool)
  unpacked items = unpacked_rows rows columns (map number items) w

  pub length-unpacked_rows : (items : List X) → length (unpacked items) ≡ rows
  unfolding unpacked_rows
  length-unpacked_rows items = length-map-range_with_len
      (λ i. unpacking columns (blocks_of n (map number items) i) w) 0 rows

  pub row_is : (items : List X) (i : ℕ) → i < rows →
      get_or (unpacked items) i [] ≡ unpacking columns (map number (blocks_of n items i)) w
  unfolding unpacked_rows
  row_is items i less = get_or-map-range_with_len
      (λ i. unpacking columns (blocks_of n (map number items) i) w) 0 rows i i [] less (zero-add i)
      ∙ ap (λ ys. unpacking columns ys w) (blocks_of-map n items number i)

  pub length-row_is : (items : List X) (i : ℕ) → i < rows → length (get_or (unpacked items) i []) ≡ columns
  length-row_is items i less = ap length (row_is items i less)
      ∙ length-unpacking columns (map number (blocks_of n items i)) w

  -- each row is as long as there are columns
  pub of_length : (items : List X) (table : List (List Bool)) → unpacked items ≡ table →
      AreOfLength columns table
  of_length items table view k d less =
      ap length (get_or_default table k d [] less ∙ ap (λ t. get_or t k []) (sym view))
      ∙ length-row_is items k (omega (arith, less, ap length view, length-unpacked_rows items))

  module _ (items : List X) (h : AreCanonical rows columns (map number items) w) where
    pub row_inside : (i : ℕ) → i < rows → i * n + n ≤ length items
    row_inside i less = omega (arith, row_end n i rows less, h.count, length-map items number)

    pub row_canonical : (i : ℕ) → i < rows → IsCanonical columns (map number (blocks_of n items i)) w
    row_canonical i less = subst (λ (ys : List ℕ). IsCanonical columns ys w)
        (blocks_of-map n items number i) (h.each i less)

    -- one row written
    module _ (i : ℕ) (inside : i < rows) (new : List X) (bits : List Bool)
        (stored : Stores w columns (map number new) bits) (after : List X)
        (is : after ≡ put_mid (i * n) n items new) where
      long : length new ≡ n
      long = sym (length-map new number) ∙ stored.canonical.count

      fits : i * n + n ≤ length items
      fits = row_inside i inside

      here : (k : ℕ) → k ≡ i → map number (blocks_of n after k) ≡ map number new
      here k same = ap (λ m. map number (blocks_of n after m)) same
          ∙ ap (λ zs. map number (blocks_of n zs i)) is
          ∙ ap (map number) (blocks_of-put n items i new fits long)

      there : (k : ℕ) → k ≢ i → map number (blocks_of n after k) ≡ map number (blocks_of n items k)
      there k other = ap (λ zs. map number (blocks_of n zs k)) is
          ∙ ap (map number) (blocks_of-put_other n items i new fits long k other)

      pub written_canonical : AreCanonical rows columns (map number after) w
      written_canonical = record {
        count = length-map after number ∙ ap length is ∙ length-put n items i new fits long
            ∙ sym (length-map items number) ∙ h.count;
        each = λ k less. subst (λ (ys : List ℕ). IsCanonical columns ys w)
            (sym (blocks_of-map n after number k)) (elim (cases_eq k i) [
              | inl same ↦ subst (λ (ys : List ℕ). IsCanonical columns ys w) (sym (here k same))
                  stored.canonical
              | inr other ↦ subst (λ (ys : List ℕ). IsCanonical columns ys w) (sym (there k other))
                  (row_canonical k less)
            ]);
      }

      pub written_rows : unpacked after ≡ set (unpacked items) i bits
      written_rows = ext_get_or [] (unpacked after) (set (unpacked items) i bits)
          (length-unpacked_rows after ∙ sym (length-set (unpacked items) i bits
          ∙ length-unpacked_rows items)) (λ k below.
          let less : k < rows = omega (arith, below, length-unpacked_rows after) in
          row_is after k less ∙ elim (cases_eq k i) [
            | inl same ↦ ap (λ ys. unpacking columns ys w) (here k same) ∙ stored.bits
                ∙ sym (ap (λ m. get_or (set (unpacked items) i bits) m []) same
                ∙ get_or-set_same (unpacked items) i bits []
                (omega (arith, inside, length-unpacked_rows items)))
            | inr other ↦ ap (λ ys. unpacking columns ys w) (there k other)
                ∙ sym (row_is items k less)
                ∙ sym (get_or-set_other (unpacked items) i k bits [] other)
          ])

-- ---- a call on one row, by what its contract says of the rows

-- blocks that hold some rows
pub record HoldRows {X : Type 0} (number : X → ℕ) (w rows columns : ℕ) (items : List X)
    (table : List (List Bool)) : Type 0 where
  pub canonical : AreCanonical rows columns (map number items) w
  pub are : unpacked number w rows columns items ≡ table

-- what the code of such a call has to know
pub record IsRowAt {X : Type 0} (number : X → ℕ) (w rows columns count : ℕ) (lent : List X)
    (table : List (List Bool)) (i : ℕ) : Type 0 where
  pub there : i < rows
  pub row : HasRow number w columns count lent i
  pub bits : unpacking columns (map number (blocks_of count lent i)) w ≡ get_or table i []
  pub long : length (get_or table i []) ≡ columns
  pub put : (after left : List X) (bits : List Bool) → left ≡ after
      → IsRowPut number w columns count i lent bits after
      → HoldRows number w rows columns left (set table i bits)

module _ {X : Type 0} (number : X → ℕ) (w rows columns : ℕ) (items : List X)
    (h : AreCanonical rows columns (map number items) w) (table : List (List Bool))
    (view : unpacked number w rows columns items ≡ table) (i : ℕ) (below : i < length table) where
  row_there : i < rows
  row_there = omega (arith, below, ap length view, length-unpacked_rows number w rows columns items)

  row_facts : IsRowAt number w rows columns (need columns w) items table i
  row_facts = record {
    there = row_there;
    row = record {
      inside = row_inside number w rows columns items h i row_there;
      canonical = row_canonical number w rows columns items h i row_there;
    };
    bits = sym (row_is number w rows columns items i row_there) ∙ ap (λ t. get_or t i []) view;
    long = ap (λ t. length (get_or t i [])) (sym view) ∙ length-row_is number w rows columns items i
        row_there;
    put = λ after left bits same put. record {
      canonical = written_canonical number w rows columns items h i row_there put.new bits put.stores
          left (same ∙ put.put);
      are = written_rows number w rows columns items h i row_there put.new bits put.stores left
          (same ∙ put.put) ∙ ap (λ t. set t i bits) view;
    };
  }

  pub row_at : (count : ℕ) (lent : List X) → count ≡ need columns w → lent ≡ items
      → IsRowAt number w rows columns count lent table i
  row_at count lent counted is = rw (counted, is) row_facts

-- ---- two rows of blocks that are cut in two parts

module _ {X : Type 0} (number : X → ℕ) (w n : ℕ) (items low high : List X) (is : items ≡ low ++ high)
    (m : ℕ) (count : length low ≡ m * n) where
  -- a row of the first part, and the first of the second
  pub at_low : (k : ℕ) → k < m → blocks_of n low k ≡ blocks_of n items k
  at_low k below = between_is low (k * n) (k * n + n)
      ∙ ap (drop (k * n)) (sym (take-append-le (k * n + n) low high (omega (arith, count, row_end n k m below))))
      ∙ sym (between_is (low ++ high) (k * n) (k * n + n)) ∙ ap (λ zs. blocks_of n zs k) (sym is)

  pub at_high : blocks_of n high 0 ≡ blocks_of n items m
  at_high =
      let none : 0 * n ≡ 0 = omega arith in
      let sub : 0 + n - 0 ≡ m * n + n - m * n = omega arith in
      ap (λ q. take (q + n - q) (drop q high)) none ∙ ap (λ q. take q high) sub
      ∙ ap (take (m * n + n - m * n)) (sym (drop_at low high (m * n) count))
      ∙ ap (λ zs. blocks_of n zs m) (sym is)

  module _ (f : Bool → Bool → Bool) (others theirs : List ℕ) (its : others ≡ theirs) (after : List X)
      (changed : Bool) where
    pub combined_low : (i : ℕ) → i < m → IsRowCombined number w f n i low others after changed
        → IsRowCombined number w f n i items theirs (after ++ high) changed
    combined_low i below h = record {
      new = h.new;
      combined = rw (sym its, sym (at_low i below)) h.combined;
      put = ap (λ zs. zs ++ high) h.put
          ∙ put-low (i * n) n low high h.new (omega (arith, count, row_end n i m below))
          ∙ ap (λ zs. put_mid (i * n) n zs h.new) (sym is);
    }

    pub combined_high : IsRowCombined number w f n 0 high others after changed
        → IsRowCombined number w f n m items theirs (low ++ after) changed
    combined_high h =
        let none : 0 * n ≡ 0 = omega arith in
        record {
          new = h.new;
          combined = rw (sym its, sym at_high) h.combined;
          put = ap (λ zs. low ++ zs) (h.put
              ∙ ap (λ q. take q high ++ (h.new ++ drop n (drop q high))) none)
              ∙ put-high (m * n) n low high h.new count
              ∙ ap (λ zs. put_mid (m * n) n zs h.new) (sym is);
        }

-- ---- a row combined with others

-- rows of which row i was combined with a list, and a flag that says whether that changed them
pub record HoldCombined {X : Type 0} (number : X → ℕ) (w rows columns : ℕ) (items : List X)
    (table : List (List Bool)) (i : ℕ) (bits : List Bool) (changed : Bool) : Type 0 where
  pub hold : HoldRows number w rows columns items (set table i bits)
  pub flag : (changed ≡ true) ↔ (set table i bits ≢ table)

-- a list took the place of another one
set_flag : (table : List (List Bool)) (i : ℕ) (bits : List Bool) (changed : Bool) → i < length table
    → ((changed ≡ true) ↔ (bits ≢ get_or table i [])) → (changed ≡ true) ↔ (set table i bits ≢ table)
set_flag table i bits changed inside flag = (
  (λ e same. flag.0 e (sym (get_or-set_same table i bits [] inside) ∙ ap (λ t. get_or t i []) same)),
  (λ other. flag.1 (λ same. other (ap (set table i) same ∙ set-get_or table i []))),
)

module _ {X : Type 0} (number : X → ℕ) (w : ℕ) (wide : 0 < w) {rows columns count : ℕ} {lent : List X}
    {table : List (List Bool)} {i : ℕ} (at : IsRowAt number w rows columns count lent table i)
    (inside : i < length table) where
  -- by what the storage of both lists says
  hold_combined : (f : Bool → Bool → Bool) (list : List Bool) (new after left : List X)
      (changed : Bool) → after ≡ with_row count lent i new → left ≡ after
      → HasCombined w columns f (get_or table i []) list changed (map number new)
      → HoldCombined number w rows columns left table i (pointwise f (get_or table i []) list) changed
  hold_combined f list new after left changed put same h = record {
    hold = at.put after left (pointwise f (get_or table i []) list) same (record {
      new = new;
      stores = record { canonical = h.canonical; bits = h.stored };
      put = put;
    });
    flag = set_flag table i (pointwise f (get_or table i []) list) changed inside
        (rw h.stored at h.flag);
  }

  -- with a list whose packing these are
  module _ (item_of : ℕ → X) (back : (n : ℕ) → n < 2 ^ w → number (item_of n) ≡ n) where
    pub row_combined : (f : Bool → Bool → Bool) → f false false ≡ false → (list : List Bool)
        → length list ≡ columns → (others : List ℕ) → others ≡ packing list w
        → (after left : List X) (changed : Bool) → left ≡ after
        → IsRowCombined number w f count i lent others after changed
        → HoldCombined number w rows columns left table i (pointwise f (get_or table i []) list) changed
    row_combined f none list as_long others packed after left changed same done =
        let theirs = map item_of (packing list w) in
        let theirs_are : map number theirs ≡ packing list w =
        as_items number item_of w back (packing list w) (IsCanonical-packing w wide list).within in
        hold_combined f list done.new after left changed done.put same
        (combined_here number w wide columns (blocks_of count lent i) theirs (get_or table i []) list
        at.row.canonical at.bits (at.long ∙ sym as_long) theirs_are f none changed refl refl
        (rw (theirs_are ∙ sym packed) done.combined))

    -- with what two lists combine to
    pub row_or_combined : (f : Bool → Bool → Bool) → f false false ≡ false → (first second : List Bool)
        → length first ≡ columns → length second ≡ columns → (xs ys : List ℕ)
        → xs ≡ packing first w → ys ≡ packing second w → (after left : List X) (changed : Bool)
        → left ≡ after → ((both : List ℕ) → IsPointwise w f xs ys both
        → IsRowCombined number w ◌||◌ count i lent both after changed)
        → HoldCombined number w rows columns left table i
        (pointwise ◌||◌ (get_or table i []) (pointwise f first second)) changed
    row_or_combined f none first second as_long also xs ys is its after left changed same done =
        let long = as_long ∙ sym also in
        row_combined ◌||◌ refl (pointwise f first second) (length-pointwise f first second long ∙ as_long)
        (packing (pointwise f first second) w) refl after left changed same
        (done (packing (pointwise f first second) w)
        (pointwise_blocks w wide f none first second long xs ys is its))

-- what a list gains from part of itself is nothing
pub absorbed : (f : Bool → Bool → Bool) → ((bit other : Bool) → (bit || f bit other) ≡ bit)
    → (bits others : List Bool) → length bits ≡ length others
    → pointwise ◌||◌ bits (pointwise f bits others) ≡ bits
absorbed f absorbs [] others same = refl
absorbed f absorbs (b ∷ bits) [] same = absurd (omega arith)
absorbed f absorbs (b ∷ bits) (c ∷ others) same =
    ap (λ bs. (b || f b c) ∷ bs) (absorbed f absorbs bits others (omega arith))
    ∙ ap (λ bit. bit ∷ bits) (absorbs b c)

pub or_itself : (bits : List Bool) → pointwise ◌||◌ bits bits ≡ bits
or_itself [] = refl
or_itself (true ∷ bits) = ap (λ bs. true ∷ bs) (or_itself bits)
or_itself (false ∷ bits) = ap (λ bs. false ∷ bs) (or_itself bits)

-- the packing of what some blocks store
pub packed : (w : ℕ) → 0 < w → (len : ℕ) (blocks : List ℕ) (bits : List Bool)
    → IsCanonical len blocks w → unpacking len blocks w ≡ bits → blocks ≡ packing bits w
packed w wide len blocks bits canonical is =
    sym (packing-unpacking w wide len blocks canonical) ∙ ap (λ bs. packing bs w) is

-- each bit of a row that got others
pub or_each : (table : List (List Bool)) (i : ℕ) (others : List Bool) (after : List (List Bool))
    → i < length table → length (get_or table i []) ≡ length others
    → after ≡ set table i (pointwise ◌||◌ (get_or table i []) others)
    → AreCombined ◌||◌ (get_or table i []) others (get_or after i [])
or_each table i others after inside same is =
    let row = get_or table i [] in
    let both = pointwise ◌||◌ row others in
    let here : get_or after i [] ≡ both =
    ap (λ t. get_or t i []) is ∙ get_or-set_same table i both [] inside in
    rw here (AreCombined-pointwise ◌||◌ row others same refl)

-- a row that got others has more true bits where it changed
pub or_gains : (table : List (List Bool)) (i : ℕ) (others : List Bool) (after : List (List Bool))
    (changed : Bool) → i < length table → length (get_or table i []) ≡ length others
    → after ≡ set table i (pointwise ◌||◌ (get_or table i []) others)
    → ((changed ≡ true) ↔ (after ≢ table))
    → GainsBits changed (get_or table i []) (get_or after i [])
or_gains table i others after changed inside same is flag =
    let row = get_or table i [] in
    let both = pointwise ◌||◌ row others in
    let here : get_or after i [] ≡ both =
    ap (λ t. get_or t i []) is ∙ get_or-set_same table i both [] inside in
    rw here (GainsBits-by changed row both (
      (λ e kept. flag.0 e (is ∙ ap (set table i) kept ∙ set-get_or table i [])),
      (λ other. flag.1 (λ kept. other (sym here ∙ ap (λ t. get_or t i []) kept))),
    ) (or_more row others same))
