-- The indices of set bits, part by part.
use Rattle.std.specs.Prelude.{All, AllPairs, Contains, ◌⊎◌}
use Rattle.std.specs.List.{range_with_len}
use Rattle.std.specs.declared.ops.Bound.TheVariants.{Unbounded}
use Rattle.std.proofs.Common.{◌≡◌, ◌≢◌, ℕ, zero, suc, ◌+◌, ◌-◌, ◌*◌, ◌<◌, ◌≤◌, Bool, true, false, cond, inl, inr, List, [], ◌∷◌, ◌++◌, length, map, take, drop, filter, get_or, set, refl, sym, ap, subst, ◌∙◌, arith, take-add}
use Rattle.std.proofs.lemmas.Bool.{cases_eq, cases_lt}
use Rattle.std.proofs.lemmas.List.{append-nil, append_assoc, get_or_past, get_or-drop, get_or-take, get_or-append-add, get_or_append_left, get_or_default, get_or-map, get_or-set_other, get_or-set_same, length-append, length-map, length-set, length-take, length-take-le, map-append, take_all}
use Rattle.std.proofs.lemmas.List.Concat.{flat_map-append}
use Rattle.std.proofs.lemmas.List.Elements.{Contains-get_or, filter-append}
use Rattle.vob_block.specs.Packing.{bit_at, item, packing, unpacking}
use Rattle.vob_block.specs.Places.{place}
use Rattle.vob_block.proofs.NeedLemmas.{mul-lt_from_need, need_enough}
use Rattle.vob_block.proofs.PlaceLemmas.{place-zero}
use Rattle.vob_block.proofs.PackingLemmas.{bit_at-in_block, bit_at-packing, get_or-unpacking, length-packing, length-unpacking}
use Rattle.vob.specs.Vobs.{AreOfLength}
use Rattle.vob_walk.specs.Matches.{matches}
use Rattle.vob_walk.proofs.IndexLemmas.{matches_exactly}
use Rattle.vob_rows.specs.Sparse.{block_members, kept_members, members}

module _ (p : ℕ → Bool) where
  -- where a test holds of no number
  filter_none : (a n : ℕ) → ((i : ℕ) → a ≤ i → i < a + n → p i ≡ false) →
      filter p (range_with_len a n) ≡ []
  filter_none a zero none = refl
  filter_none a (suc n) none =
      ap (λ b. cond b (a ∷ filter p (range_with_len (a + 1) n)) (filter p (range_with_len (a + 1) n)))
      (none a (omega arith) (omega arith))
      ∙ filter_none (a + 1) n (λ i past less. none i (omega (arith, past)) (omega (arith, less)))

  -- the numbers from a + s on are those from s on, moved by a
  filter_moved : (a s n : ℕ) → filter p (range_with_len (a + s) n)
      ≡ map (λ i. a + i) (filter (λ i. p (a + i)) (range_with_len s n))
  filter_moved a s zero = refl
  filter_moved a s (suc n) =
      let next : a + s + 1 ≡ a + (s + 1) = omega arith in
      ap (λ k. cond (p (a + s)) ((a + s) ∷ filter p (range_with_len k n)) (filter p (range_with_len k n))) next
      ∙ ap (λ (rest : List ℕ). cond (p (a + s)) ((a + s) ∷ rest) rest) (filter_moved a (s + 1) n)
      ∙ both (p (a + s)) (filter (λ i. p (a + i)) (range_with_len (s + 1) n))
    where
      both : (b : Bool) (rest : List ℕ) → cond b ((a + s) ∷ map (λ i. a + i) rest) (map (λ i. a + i) rest)
          ≡ map (λ i. a + i) (cond b (s ∷ rest) rest)
      both true rest = refl
      both false rest = refl

  -- two tests that agree
  filter_same : (q : ℕ → Bool) (a n : ℕ) → ((i : ℕ) → a ≤ i → i < a + n → p i ≡ q i) →
      filter p (range_with_len a n) ≡ filter q (range_with_len a n)
  filter_same q a zero same = refl
  filter_same q a (suc n) same =
      let rest = filter_same q (a + 1) n (λ i past less. same i (omega (arith, past)) (omega (arith, less))) in
      ap (λ (xs : List ℕ). cond (p a) (a ∷ xs) xs) rest
      ∙ ap (λ b. cond b (a ∷ filter q (range_with_len (a + 1) n)) (filter q (range_with_len (a + 1) n)))
      (same a (omega arith) (omega arith))

range_split : (a m n : ℕ) → range_with_len a (m + n) ≡ range_with_len a m ++ range_with_len (a + m) n
range_split a zero n =
    let all : 0 + n ≡ n = omega arith in
    let same : a ≡ a + 0 = omega arith in
    ap (range_with_len a) all ∙ ap (λ k. range_with_len k n) same
range_split a (suc m) n =
    let all : suc m + n ≡ suc (m + n) = omega arith in
    let next : a + 1 + m ≡ a + suc m = omega arith in
    ap (range_with_len a) all ∙ ap (λ xs. a ∷ xs) (range_split (a + 1) m n
    ∙ ap (λ k. range_with_len (a + 1) m ++ range_with_len k n) next)

members_is : (bits : List Bool) → members bits ≡ filter (item bits) (range_with_len 0 (length bits))
unfolding matches
members_is bits = refl

-- the indices of two lists, one after the other
pub members-append : (xs ys : List Bool) →
    members (xs ++ ys) ≡ members xs ++ map (λ i. length xs + i) (members ys)
members-append xs ys =
    let p = item (xs ++ ys) in
    let m = length xs in
    let n = length ys in
    let low = filter_same p (item xs) 0 m (λ i past less. get_or_append_left xs ys false i (omega (arith, less))) in
    let zero_more : 0 + m ≡ m + 0 = omega arith in
    let high = ap (λ k. filter p (range_with_len k n)) zero_more ∙ filter_moved p m 0 n
    ∙ ap (map (λ i. m + i)) (filter_same (λ i. p (m + i)) (item ys) 0 n (λ i past less. above i)) in
    members_is (xs ++ ys) ∙ ap (λ k. filter p (range_with_len 0 k)) (length-append xs ys)
    ∙ ap (filter p) (range_split 0 m n) ∙ filter-append p (range_with_len 0 m) (range_with_len (0 + m) n)
    ∙ ap (λ l. l ++ filter p (range_with_len (0 + m) n)) (low ∙ sym (members_is xs))
    ∙ ap (λ l. members xs ++ l) (high ∙ ap (map (λ i. m + i)) (sym (members_is ys)))
  where
    above : (i : ℕ) → item (xs ++ ys) (length xs + i) ≡ item ys i
    above i = get_or-append-add xs ys i false

-- more indices without a set bit
members_to : (bits : List Bool) (n : ℕ) →
    filter (item bits) (range_with_len 0 (length bits + n)) ≡ members bits
members_to bits n =
    let p = item bits in
    ap (filter p) (range_split 0 (length bits) n)
    ∙ filter-append p (range_with_len 0 (length bits)) (range_with_len (0 + length bits) n)
    ∙ ap (λ l. filter p (range_with_len 0 (length bits)) ++ l) (filter_none p (0 + length bits) n
    (λ i past less. get_or_past bits i false (omega (arith, past))))
    ∙ append-nil _ ∙ sym (members_is bits)

-- lists with the same set bits
pub members_same : (xs ys : List Bool) → ((i : ℕ) → item xs i ≡ item ys i) → members xs ≡ members ys
members_same xs ys same =
    let swap : length xs + length ys ≡ length ys + length xs = omega arith in
    sym (members_to xs (length ys))
    ∙ filter_same (item xs) (item ys) 0 (length xs + length ys) (λ i past less. same i)
    ∙ ap (λ k. filter (item ys) (range_with_len 0 k)) swap ∙ members_to ys (length xs)

moved : (a b : ℕ) (xs : List ℕ) → map (λ i. a + b + i) xs ≡ map (λ i. a + i) (map (λ i. b + i) xs)
moved a b [] = refl
moved a b (x ∷ xs) =
    let same : a + b + x ≡ a + (b + x) = omega arith in
    ap (λ y. y ∷ map (λ i. a + b + i) xs) same ∙ ap (λ l. (a + (b + x)) ∷ l) (moved a b xs)

-- the indices of w bits more, whose block is known
module _ (w : ℕ) (wide : 0 < w) (bits : List Bool) (m block : ℕ) (less : m < length bits)
    (holds : (j : ℕ) → j < w → place j block ≡ item bits (m + j)) where
  part_same : (j : ℕ) → item (take w (drop m bits)) j ≡ item (unpacking w (block ∷ []) w) j
  part_same j = elim (cases_lt j w) [
    | inl low ↦
        let first : j ≡ 0 * w + j = omega arith in
        get_or-take w (drop m bits) j false low ∙ get_or-drop m bits j false ∙ sym (holds j low)
        ∙ sym (get_or-unpacking w (block ∷ []) w j false low
        ∙ ap (λ i. bit_at (block ∷ []) w i) first
        ∙ bit_at-in_block (block ∷ []) w 0 j low)
    | inr high ↦ get_or_past (take w (drop m bits)) j false (omega (arith, high, length-take w (drop m bits)))
        ∙ sym (get_or_past (unpacking w (block ∷ []) w) j false
        (omega (arith, high, length-unpacking w (block ∷ []) w)))
  ]

  pub members_more : members (take (m + w) bits)
      ≡ members (take m bits) ++ map (λ i. m + i) (members (unpacking w (block ∷ []) w))
  members_more =
      ap members (take-add m w bits) ∙ members-append (take m bits) (take w (drop m bits))
      ∙ ap (λ k. members (take m bits) ++ map (λ i. k + i) (members (take w (drop m bits)))) (length-take-le m bits (omega (arith, less)))
      ∙ ap (λ l. members (take m bits) ++ map (λ i. m + i) l)
      (members_same (take w (drop m bits)) (unpacking w (block ∷ []) w) part_same)

pub members_none : members [] ≡ []
members_none = members_is []

-- a block of zeros has no set bit
members_zero : (w : ℕ) → members (unpacking w (0 ∷ []) w) ≡ []
members_zero w = members_same (unpacking w (0 ∷ []) w) [] off ∙ members_none
  where
    off : (i : ℕ) → item (unpacking w (0 ∷ []) w) i ≡ false
    off i = elim (cases_lt i w) [
      | inl low ↦
          let first : i ≡ 0 * w + i = omega arith in
          get_or-unpacking w (0 ∷ []) w i false low ∙ ap (bit_at (0 ∷ []) w) first
          ∙ bit_at-in_block (0 ∷ []) w 0 i low ∙ place-zero i
      | inr high ↦ get_or_past (unpacking w (0 ∷ []) w) i false
          (omega (arith, high, length-unpacking w (0 ∷ []) w))
    ]

-- one block more is kept, if it has a set bit
pub kept_push : (kept : List (ℕ × ℕ)) (block : ℕ × ℕ) →
    kept_members (kept ++ block ∷ []) ≡ kept_members kept ++ block_members block
kept_push kept block = flat_map-append block_members kept (block ∷ [])
    ∙ ap (λ l. kept_members kept ++ l) (append-nil (block_members block))

pub kept_zero : (kept : List (ℕ × ℕ)) (from : ℕ) →
    kept_members kept ≡ kept_members kept ++ block_members (from, 0)
kept_zero kept from = sym (ap (λ l. kept_members kept ++ map (λ i. from + i) l) (members_zero 64)
    ∙ append-nil (kept_members kept))

-- the first k blocks of a row are kept
pub record AreKept (from : ℕ) (bits : List Bool) (old kept : List (ℕ × ℕ)) (k : ℕ) : Type 0 where
  pub is : kept_members kept ≡ kept_members old ++ map (λ i. from + i) (members (take (k * 64) bits))

module _ (from : ℕ) (bits : List Bool) (blocks : List ℕ) (packed : blocks ≡ packing bits 64)
    (old : List (ℕ × ℕ)) where
  pub kept_inside : (k : ℕ) → k < length blocks → k * 64 < length bits
  kept_inside k less = mul-lt_from_need 64 (omega arith) (length bits) k
      (omega (arith, less, ap length packed, length-packing 64 (omega arith) bits))

  holds : (k j : ℕ) → j < 64 → place j (get_or blocks k 0) ≡ item bits (k * 64 + j)
  holds k j low = sym (bit_at-in_block blocks 64 k j low)
      ∙ ap (λ xs. bit_at xs 64 (k * 64 + j)) packed ∙ bit_at-packing 64 (omega arith) bits (k * 64 + j)

  pub kept_start : AreKept from bits old old 0
  kept_start = record {
    is = sym (ap (λ l. kept_members old ++ map (λ i. from + i) l) members_none ∙ append-nil (kept_members old));
  }

  pub kept_more : (kept after : List (ℕ × ℕ)) (k : ℕ) → k < length blocks → AreKept from bits old kept k →
      kept_members after ≡ kept_members kept ++ block_members (from + k * 64, get_or blocks k 0) →
      AreKept from bits old after (k + 1)
  kept_more kept after k less h new = record {
    is =
        let more : (k + 1) * 64 ≡ k * 64 + 64 = omega arith in
        let block = get_or blocks k 0 in
        let low = members (take (k * 64) bits) in
        let own = members (unpacking 64 (block ∷ []) 64) in
        let next = ap (λ n. members (take n bits)) more
        ∙ members_more 64 (omega arith) bits (k * 64) block (kept_inside k less) (holds k) in
        new ∙ ap (λ l. l ++ map (λ i. from + k * 64 + i) own) h.is
        ∙ append_assoc (kept_members old) (map (λ i. from + i) low) _
        ∙ ap (λ l. kept_members old ++ (map (λ i. from + i) low ++ l)) (moved from (k * 64) own)
        ∙ ap (λ l. kept_members old ++ l)
        (sym (map-append (λ i. from + i) low (map (λ i. k * 64 + i) own))
        ∙ ap (map (λ i. from + i)) (sym next));
  }

  pub kept_all : (kept : List (ℕ × ℕ)) (k : ℕ) → length blocks ≤ k → AreKept from bits old kept k →
      kept_members kept ≡ kept_members old ++ map (λ i. from + i) (members bits)
  kept_all kept k all h = h.is ∙ ap (λ l. kept_members old ++ map (λ i. from + i) (members l))
      (take_all (k * 64) bits (omega (
        arith,
        need_enough 64 (omega arith) (length bits),
        ap length packed,
        length-packing 64 (omega arith) bits,
        all,
      )))

-- ---- lists that are appended part by part

-- a part of a list was appended, and a rest of it is left
pub record AreAppended (old now all rest : List ℕ) : Type 0 where
  pub part : List ℕ
  pub is : now ≡ old ++ part
  pub cut : all ≡ part ++ rest

pub appended_none : (old all rest : List ℕ) → all ≡ rest → AreAppended old old all rest
appended_none old all rest same = record { part = []; is = sym (append-nil old); cut = same }

pub appended_more : (old now all rest after : List ℕ) (x : ℕ) → rest ≡ x ∷ after →
    AreAppended old now all rest → AreAppended old (now ++ x ∷ []) all after
appended_more old now all rest after x next h = record {
  part = h.part ++ x ∷ [];
  is = ap (λ l. l ++ x ∷ []) h.is ∙ append_assoc old h.part (x ∷ []);
  cut = h.cut ∙ ap (λ l. h.part ++ l) next ∙ sym (append_assoc h.part (x ∷ []) after);
}

pub appended_all : (old now all rest : List ℕ) → rest ≡ [] → AreAppended old now all rest → now ≡ old ++ all
appended_all old now all rest none h =
    h.is ∙ ap (λ l. old ++ l) (sym (h.cut ∙ ap (λ l. h.part ++ l) none ∙ append-nil h.part))

module _ (P : ℕ → Type 0) where
  pub all_left : (xs ys : List ℕ) → All P (xs ++ ys) → All P xs
  all_left xs ys all k d less = subst P (get_or_append_left xs ys d k less)
      (all k d (omega (arith, less, length-append xs ys)))

  pub all_right : (xs ys : List ℕ) → All P (xs ++ ys) → All P ys
  all_right xs ys all k d less = subst P (get_or-append-add xs ys k d)
      (all (length xs + k) d (omega (arith, less, length-append xs ys)))

  pub all_next : {old now all rest after : List ℕ} {x : ℕ} → rest ≡ x ∷ after →
      AreAppended old now all rest → All P all → P x
  all_next {rest = rest} {after = after} {x = x} next h all =
      let right = all_right h.part (x ∷ after) (subst (All P) (h.cut ∙ ap (λ l. h.part ++ l) next) all) in
      right 0 0 (omega arith)

  pub all_kept : (kept : List (ℕ × ℕ)) (k : ℕ) (d : ℕ × ℕ) → k < length kept →
      All P (kept_members kept) → All P (block_members (get_or kept k d))
  all_kept [] k d less all = absurd (omega (arith, less))
  all_kept (x ∷ kept) zero d less all = all_left (block_members x) (kept_members kept) all
  all_kept (x ∷ kept) (suc k) d less all =
      all_kept kept k d (omega (arith, less)) (all_right (block_members x) (kept_members kept) all)

-- ---- rows that become wider

-- the indices of set bits are below the length
members_inside : (bits : List Bool) → All (λ i. i < length bits) (members bits)
members_inside bits k d less =
    ((matches_exactly bits true Unbounded Unbounded (get_or (members bits) k d)).0
    (Contains-get_or (members bits) k d less)).0

-- a number is in a list, or it isn't
pub cases_contains : (xs : List ℕ) (n : ℕ) → Contains xs n ⊎ (¬ Contains xs n)
cases_contains [] n = inr (λ within. omega (arith, within.1))
cases_contains (x ∷ xs) n = elim (cases_eq n x) [
  | inl here ↦ inl (0, omega arith, sym here)
  | inr apart ↦ elim (cases_contains xs n) [
    | inl later ↦ inl (suc later.0, omega (arith, later.1), later.2)
    | inr none ↦ inr (λ within. other x xs n apart none within.0 within.1 within.2)
  ]
]
  where
    other : (x : ℕ) (xs : List ℕ) (n : ℕ) → n ≢ x → (¬ Contains xs n) → (k : ℕ) → k < length (x ∷ xs) →
        get_or (x ∷ xs) k n ≡ n → ⊥
    other x xs n apart none zero less e = apart (sym e)
    other x xs n apart none (suc k) less e = none (k, omega (arith, less), e)

-- the rows with the first k numbers are wider
pub record AreWider (from : ℕ) (numbers : List ℕ) (others : List (List Bool)) (k : ℕ)
    (before after : List (List ℕ)) : Type 0 where
  pub count : length after ≡ length before
  pub low : (i n : ℕ) → i < k → get_or numbers i 0 ≡ n →
      get_or after n [] ≡ get_or before n [] ++ map (λ j. from + j) (members (get_or others i []))
  pub high : (n : ℕ) → ((i : ℕ) → i < k → get_or numbers i 0 ≢ n) → get_or after n [] ≡ get_or before n []

module _ (from : ℕ) (numbers : List ℕ) (others : List (List Bool)) where
  pub wider_none : (before : List (List ℕ)) → AreWider from numbers others 0 before before
  wider_none before = record {
    count = refl;
    low = λ i n less is. absurd (omega (arith, less));
    high = λ n away. refl;
  }

  module _ (k : ℕ) (before mid : List (List ℕ)) (row : List ℕ) (less : k < length numbers)
      (rise : AllPairs (λ n m. n < m) numbers) (inside : All (λ n. n < length before) numbers)
      (h : AreWider from numbers others k before mid) where
    abbrev at : ℕ
    at = get_or numbers k 0

    below : (i : ℕ) → i < k → get_or numbers i 0 ≢ at
    below i low e = omega (arith, rise i k 0 low less, e)

    pub wider_more : row ≡ get_or mid (get_or numbers k 0) [] ++ map (λ j. from + j) (members (get_or others k [])) →
        AreWider from numbers others (k + 1) before (set mid (get_or numbers k 0) row)
    wider_more is = record {
      count = length-set mid at row ∙ h.count;
      low = λ i n low there. elim (cases_eq i k) [
        | inl same ↦
            let here : n ≡ at = sym there ∙ ap (λ j. get_or numbers j 0) same in
            rw (here, same) (get_or-set_same mid at row [] (omega (arith, inside k 0 less, h.count))
            ∙ is ∙ ap (λ (l : List ℕ). l ++ map (λ j. from + j) (members (get_or others k []))) (h.high at below))
        | inr other ↦
            let before_k : i < k = omega (arith, low, other) in
            get_or-set_other mid at n row [] (λ e. below i before_k (there ∙ e)) ∙ h.low i n before_k there
      ];
      high = λ n away.
          get_or-set_other mid at n row [] (λ e. away k (omega arith) (sym e))
          ∙ h.high n (λ i low. away i (omega (arith, low)));
    }

  pub wider_all : (n : ℕ) (before after : List (List ℕ)) → AreWider from numbers others (length numbers) before after →
      (¬ Contains numbers n) → get_or after n [] ≡ get_or before n []
  wider_all n before after h none = h.high n (λ i low e. none (i, low, get_or_default numbers i n 0 low ∙ e))

  -- so are all, and their columns are below both counts
  pub wider_inside : (columns wide : ℕ) (before after : List (List ℕ)) → columns ≡ from →
      AreOfLength wide others → length numbers ≤ length others →
      AreWider from numbers others (length numbers) before after →
      All (λ row. All (λ j. j < columns) row) before → All (λ row. All (λ j. j < from + wide) row) after
  wider_inside columns wide before after same long enough h all n d less =
      let old = all n [] (omega (arith, less, h.count)) in
      elim (cases_contains numbers n) [
        | inl within ↦
            let i = within.0 in
            let is : get_or numbers i 0 ≡ n = get_or_default numbers i 0 n within.1 ∙ within.2 in
            let wider = get_or_default after n d [] less ∙ h.low i n within.1 is in
            let own = get_or others i [] in
            let wide_is = long i [] (omega (arith, within.1, enough)) in
            subst (All (λ j. j < from + wide)) (sym wider) (both (get_or before n []) (members own)
            (λ k d less. omega (arith, old k d less, same))
            (λ k d less. omega (arith, members_inside own k d less, wide_is)))
        | inr none ↦
            subst (All (λ j. j < from + wide)) (sym (get_or_default after n d [] less ∙ wider_all n before after h none))
            (λ k d less. omega (arith, old k d less, same))
      ]
    where
      both : (xs ys : List ℕ) → All (λ j. j < from + wide) xs → All (λ j. j < wide) ys →
          All (λ j. j < from + wide) (xs ++ map (λ j. from + j) ys)
      both xs ys low high k d less = elim (cases_lt k (length xs)) [
        | inl early ↦ subst (λ j. j < from + wide) (sym (get_or_append_left xs (map (λ j. from + j) ys) d k early)) (low k d early)
        | inr late ↦
            let at : length xs + (k - length xs) ≡ k = omega (arith, late) in
            let low_enough : k - length xs < length ys =
            omega (arith, less, length-append xs (map (λ j. from + j) ys), length-map ys (λ j. from + j), late) in
            let is = ap (λ n. get_or (xs ++ map (λ j. from + j) ys) n d) (sym at)
            ∙ get_or-append-add xs (map (λ j. from + j) ys) (k - length xs) d
            ∙ get_or-map (λ j. from + j) ys (k - length xs) d d low_enough in
            omega (arith, is, high (k - length xs) d low_enough)
      ]
