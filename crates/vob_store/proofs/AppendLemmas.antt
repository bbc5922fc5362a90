-- Bits put behind others: blocks behind whole ones, and places in the last one, at a plain width.
use Rattle.std.specs.Prelude.{◌⊎◌}
use Rattle.std.proofs.Common.{◌≡◌, ◌≢◌, ℕ, ◌+◌, ◌-◌, ◌*◌, ◌/◌, ◌%◌, ◌^◌, ◌<◌, ◌≤◌, Bool, true}
use Rattle.std.proofs.Common.{false, ◌&&◌, ◌||◌, List, [], ◌∷◌, ◌++◌, length, map, get_or, set}
use Rattle.std.proofs.Common.{take, drop, min, replicate, leb, refl, sym, ap, ◌∙◌, subst, arith}
use Rattle.std.proofs.Common.{inl, inr, mod-lt, div-add-mod', add-mul, zero-mul, one-mul}
use Rattle.std.proofs.lemmas.Bool.{cases_lt, cases_eq, lt-leb, le-leb}
use Rattle.std.proofs.lemmas.List.{nil_from_length, append-nil, append_assoc, take-append-drop}
use Rattle.std.proofs.lemmas.List.{length-take-le, length-drop, length-map, map-set, length-append}
use Rattle.std.proofs.lemmas.List.{length-replicate, get_or_past, get_or-replicate}
use Rattle.std.proofs.lemmas.List.Elements.{All-append, All-push, All-nil}
use Rattle.std.proofs.Math.Bool.{or-false}
use Rattle.std.proofs.lemmas.Nat.{mod-mul-add, le-div}
use Rattle.vob_block.specs.Places.{place, HasPlaces}
use Rattle.vob_block.specs.Packing.{item, need, packing, bit_at, unpacking, IsCanonical, Stores}
use Rattle.vob_block.proofs.NeedLemmas.{need_is, need-zero, need_enough, need_at_full, need_at_open, div-lt-need, lt-need}
use Rattle.vob_block.proofs.PackingLemmas.{bit_at-in_block, bit_at-past, bit_at-is_item, packing_is}
use Rattle.vob_block.proofs.PackingLemmas.{length-unpacking, stores_from_items, length-packing}
use Rattle.vob_block.proofs.PackingLemmas.{packing-unpacking}
use Rattle.vob_block.proofs.PlaceLemmas.{place-ones}
use Rattle.vob_store.proofs.BuildLemmas.{number_indexed, Stores-last, Stores-built, item-low, item-high, bit_at-append_left, bit_at-append_right}
use Rattle.vob_store.proofs.RoomLemmas.{need-add}

module _ (w : ℕ) (wide : 0 < w) where
  -- a block whose places are some bits stores them
  bit_at-block : (x : ℕ) (bits : List Bool) → length bits ≤ w → HasPlaces w x (item bits)
      → (i : ℕ) → bit_at (x ∷ []) w i ≡ item bits i
  bit_at-block x bits fits held i = elim (cases_lt i w) [
    | inl here ↦ ap (bit_at (x ∷ []) w) (omega (arith, zero-mul w))
        ∙ bit_at-in_block (x ∷ []) w 0 i here ∙ held.each i here
    | inr past ↦ bit_at-past (x ∷ []) w i (le-div 1 i w wide (omega (arith, one-mul w)))
        ∙ sym (get_or_past bits i false (omega arith))
  ]

  pub Stores-block : (x : ℕ) (bits : List Bool) → 0 < length bits → length bits ≤ w → x < 2 ^ w
      → HasPlaces w x (item bits) → Stores w (length bits) (x ∷ []) bits
  Stores-block x bits some fits small held =
      stores_from_items w wide bits (length bits) (x ∷ []) refl
      (sym (need_is w wide (length bits) 1 (omega (arith, one-mul w)) (omega (arith, one-mul w))))
      (All-push (λ y. y < 2 ^ w) [] x (All-nil (λ y. y < 2 ^ w)) small)
      (bit_at-block x bits fits held)

  module _ (n : ℕ) (xs : List ℕ) (h : IsCanonical n xs w) where
    -- blocks that store bits, behind whole ones
    pub Stores-behind : (m : ℕ) (ys : List ℕ) (bits : List Bool) → n % w ≡ 0 → Stores w m ys bits
        → Stores w (n + m) (xs ++ ys) (unpacking n xs w ++ bits)
    Stores-behind m ys bits full stored =
        let long : length bits ≡ m = sym (ap length stored.bits) ∙ length-unpacking m ys w in
        let blocks = h.count ∙ (need_at_full w wide n full).0 in
        let whole : length xs * w ≡ n = ap (λ k. k * w) blocks
        ∙ omega (arith, div-add-mod' n w, full) in
        let count : length (xs ++ ys) ≡ need (n + m) w = length-append xs ys
        ∙ ap (λ k. length xs + k) stored.canonical.count ∙ sym (need-add w wide (length xs) m)
        ∙ ap (λ k. need (k + m) w) whole in
        let its = λ (j : ℕ). bit_at-is_item w wide m ys stored.canonical j
        ∙ ap (λ bs. item bs j) stored.bits in
        rw long at (Stores-built w wide n xs bits (xs ++ ys)
        (count ∙ ap (λ k. need (n + k) w) (sym long))
        (All-append (λ x. x < 2 ^ w) xs ys h.within stored.canonical.within) (record {
          each = λ i _. elim (cases_lt i n) [
            | inl below ↦ bit_at-append_left w wide xs ys i
                (omega (arith, h.count, div-lt-need w wide n i below))
                ∙ sym (item-low w wide n xs bits i below)
            | inr above ↦ ap (bit_at (xs ++ ys) w) (omega (arith, whole))
                ∙ bit_at-append_right w wide xs ys (i - n) ∙ its (i - n)
                ∙ sym (item-high w wide n xs bits i above)
          ];
        }))

    -- the packing of a list behind blocks, where they are whole or the list is empty
    pub append_packing : (bits : List Bool) → (n % w ≡ 0) ⊎ (length bits ≡ 0)
        → Stores w (n + length bits) (xs ++ packing bits w) (unpacking n xs w ++ bits)
    append_packing bits which =
        let packed = packing_is w wide bits (length bits) (packing bits w) refl refl in
        elim which [
          | inl full ↦ Stores-behind (length bits) (packing bits w) bits full packed
          | inr none ↦
              let no_blocks : xs ++ packing bits w ≡ xs = ap (λ ys. xs ++ ys)
              (nil_from_length (packing bits w) (length-packing w wide bits
              ∙ ap (λ k. need k w) none ∙ need-zero w wide)) ∙ append-nil xs in
              let all : n + length bits ≡ n = omega (arith, none) in
              rw (no_blocks, all) (record {
                canonical = h;
                bits = sym (append-nil (unpacking n xs w))
                    ∙ ap (λ bs. unpacking n xs w ++ bs) (sym (nil_from_length bits none));
              })
        ]

    -- places filled in the last block
    module _ (partial : n % w ≢ 0) where
      last_there : length xs ≡ n / w + 1
      last_there = h.count ∙ (need_at_open w wide n partial).0

      pub Stores-in_last : (y x : ℕ) (bits : List Bool) → y < 2 ^ w
          → HasPlaces w y (λ j. place j (get_or xs (n / w) 0)
          || (leb (n % w) j && place (j - n % w) x))
          → n % w + length bits ≤ w → HasPlaces (w - n % w) x (item bits)
          → Stores w (n + length bits) (set xs (n / w) y) (unpacking n xs w ++ bits)
      Stores-in_last y x bits small places fits held =
          let block = get_or xs (n / w) 0 in
          let start = div-add-mod' n w in
          let count : need (n + length bits) w ≡ n / w + 1 =
          need_is w wide (n + length bits) (n / w + 1)
          (omega (arith, add-mul (n / w) 1 w, one-mul w))
          (omega (arith, add-mul (n / w) 1 w, one-mul w, partial)) in
          Stores-last w wide n xs bits last_there h.within count y small (record {
            each = λ j below. places.each j below ∙ elim (cases_lt j (n % w)) [
              | inl low ↦ ap (λ b. place j block || (b && place (j - n % w) x))
                  (lt-leb (n % w) j low) ∙ or-false (place j block)
                  ∙ sym (item-low w wide n xs bits (n / w * w + j) (omega arith)
                  ∙ bit_at-in_block xs w (n / w) j below)
              | inr high ↦
                  ap (λ b. place j block || (b && place (j - n % w) x)) (le-leb (n % w) j high)
                  ∙ ap (λ b. b || place (j - n % w) x) (sym (bit_at-in_block xs w (n / w) j below)
                  ∙ h.unused (n / w * w + j) (omega arith)) ∙ held.each (j - n % w) (omega arith)
                  ∙ sym (item-high w wide n xs bits (n / w * w + j) (omega arith)
                  ∙ ap (item bits) (omega arith))
            ];
          })

      -- the places left are all true where a block of true ones is put there
      pub Stores-last_filled : (ys : List ℕ) (ones : ℕ) → ones ≡ 2 ^ w - 1
          → ((bits : List Bool) → n % w + length bits ≤ w → HasPlaces (w - n % w) ones (item bits)
          → Stores w (n + length bits) ys (unpacking n xs w ++ bits))
          → Stores w (length xs * w) ys (unpacking n xs w ++ replicate (length xs * w - n) true)
      Stores-last_filled ys ones are stored =
          let k = length xs * w - n in
          let more = replicate k true in
          let long = length-replicate k true in
          let start = div-add-mod' n w in
          let rest : k + n % w ≡ w = omega (
            arith,
            ap (λ q. q * w) last_there,
            add-mul (n / w) 1 w,
            one-mul w,
            mod-lt n wide,
          ) in
          let all : n + length more ≡ length xs * w = omega (arith, long, rest) in
          rw all at (stored more (omega (arith, long, rest)) (record {
            each = λ j below. ap (place j) are ∙ place-ones w j (omega arith)
                ∙ sym (get_or-replicate k j true false (omega (arith, rest)));
          }))

    -- the places left as they are, where they are false or there are none
    pub Stores-last_kept : (v : Bool) → (v ≡ false) ⊎ (n % w ≡ 0)
        → Stores w (length xs * w) xs (unpacking n xs w ++ replicate (length xs * w - n) v)
    Stores-last_kept v which =
        let k = length xs * w - n in
        let more = replicate k v in
        let enough : n ≤ length xs * w = subst (λ (q : ℕ). n ≤ q * w) (sym h.count)
        (need_enough w wide n) in
        let all : n + length more ≡ length xs * w = omega (arith, length-replicate k v, enough) in
        let none : (j : ℕ) → item more j ≡ false = λ j. elim (cases_lt j k) [
          | inl inside ↦ get_or-replicate k j v false inside ∙ elim which [
            | inl e ↦ e
            | inr full ↦
                let whole = ap (λ q. q * w) (h.count ∙ (need_at_full w wide n full).0) in
                absurd (omega (arith, whole, full, div-add-mod' n w))
          ]
          | inr past ↦ get_or_past more j false (omega (arith, length-replicate k v))
        ] in
        let count : length xs ≡ need (length xs * w) w = sym (need_is w wide (length xs * w)
        (length xs) (omega arith) (omega arith)) in
        rw all at (Stores-built w wide n xs more xs (count ∙ ap (λ m. need m w) (sym all))
        h.within (record {
          each = λ i _. elim (cases_lt i n) [
            | inl below ↦ sym (item-low w wide n xs more i below)
            | inr above ↦ h.unused i above ∙ sym (item-high w wide n xs more i above ∙ none (i - n))
          ];
        }))

  -- ---- the packing of bits, block after block

  -- the first places of some bits are the first block
  packing-first : (bits rest : List Bool) (x n : ℕ) → 0 < length bits → n ≡ min (length bits) w
      → rest ≡ drop n bits → x < 2 ^ w → HasPlaces w x (item (take n bits))
      → packing bits w ≡ x ∷ packing rest w
  packing-first bits rest x n some size left small places =
      let first = take n bits in
      let short : length first ≡ n = length-take-le n bits (omega (arith, size)) in
      let behind : length rest ≡ length bits - n = ap length left ∙ length-drop n bits in
      let stored = Stores-block x first (omega (arith, size)) (omega (arith, size)) small places in
      let which : (length first % w ≡ 0) ⊎ (length rest ≡ 0) = elim (cases_lt w (length bits)) [
        | inl more ↦
            let whole : length first ≡ 1 * w + 0 = omega (arith, size, one-mul w) in
            inl (ap (λ k. k % w) whole ∙ mod-mul-add 1 w 0 wide)
        | inr few ↦ inr (omega (arith, size))
      ] in
      let both = append_packing (length first) (x ∷ []) stored.canonical rest which in
      let all : unpacking (length first + length rest) (x ∷ packing rest w) w ≡ bits =
      both.bits ∙ ap (λ bs. bs ++ rest) stored.bits ∙ ap (λ bs. first ++ bs) left
      ∙ take-append-drop n bits in
      ap (λ bs. packing bs w) (sym all)
      ∙ packing-unpacking w wide (length first + length rest) (x ∷ packing rest w) both.canonical

  module _ (news wanted : List ℕ) (rest : List Bool)
      (h : news ++ packing rest w ≡ wanted) where
    pub packed_more : (after : List Bool) (x n : ℕ) → 0 < length rest → n ≡ min (length rest) w
        → after ≡ drop n rest → x < 2 ^ w → HasPlaces w x (item (take n rest))
        → (news ++ x ∷ []) ++ packing after w ≡ wanted
    packed_more after x n some size left small places =
        append_assoc news (x ∷ []) (packing after w)
        ∙ ap (λ zs. news ++ zs) (sym (packing-first rest after x n some size left small places)) ∙ h

    pub packed-count : length news + need (length rest) w ≡ length wanted
    packed-count = omega (
      arith,
      ap length h,
      length-append news (packing rest w),
      length-packing w wide rest,
    )

    -- while bits are left, there are fewer blocks than wanted
    pub packed-lt : 0 < length rest → length news < length wanted
    packed-lt some = omega (
      arith,
      packed-count,
      lt-need w wide (length rest) 0 (omega (arith, some, zero-mul w)),
    )

    -- and where none are, these are all
    pub packed_all : length rest ≡ 0 → news ≡ wanted
    packed_all none = sym (append-nil news) ∙ ap (λ zs. news ++ zs) (sym (nil_from_length
        (packing rest w) (length-packing w wide rest ∙ ap (λ k. need k w) none ∙ need-zero w wide)))
        ∙ h

  -- a list put behind others in two parts: the last block takes the first k, and the packing of the
  -- rest follows
  pub Stores-parts : (n : ℕ) (before bits : List Bool) (k : ℕ) (ys : List ℕ) → k ≤ length bits
      → (k ≢ length bits → (n + k) % w ≡ 0) → Stores w (n + k) ys (before ++ take k bits)
      → Stores w (n + length bits) (ys ++ packing (drop k bits) w) (before ++ bits)
  Stores-parts n before bits k ys inside whole top =
      let rest = drop k bits in
      let left : length rest ≡ length bits - k = length-drop k bits in
      let which : ((n + k) % w ≡ 0) ⊎ (length rest ≡ 0) = elim (cases_eq k (length bits)) [
        | inl all ↦ inr (omega (arith, left))
        | inr fewer ↦ inl (whole fewer)
      ] in
      let both = append_packing (n + k) ys top.canonical rest which in
      let sum : n + k + length rest ≡ n + length bits = omega (arith, left) in
      rw sum at (rw (top.bits, append_assoc, take-append-drop) at both)

pub HasPlaces-fewer : {w m x : ℕ} {f : ℕ → Bool} → HasPlaces w x f → m ≤ w → HasPlaces m x f
HasPlaces-fewer h fewer = record { each = λ j below. h.each j (omega arith) }

-- the last block of items, where it has places left; u is the width as the code read it
module _ {X : Type 0} (number : X → ℕ) (w : ℕ) (wide : 0 < w) (n : ℕ) (items : List X)
    (h : IsCanonical n (map number items) w) (u : ℕ) (same : u ≡ w) (partial : n % w ≢ 0) where
  pub last_in_canonical : n / u < length items
  last_in_canonical = rw same (omega (
    arith,
    length-map items number,
    h.count,
    (need_at_open w wide n partial).0,
  ))

  -- x moved up behind the bits of the block
  pub Stores-topped : (old y : X) (x moved : ℕ) → old ≡ get_or items (n / u) old
      → HasPlaces w moved (λ j. leb (n % u) j && place (j - n % u) x) → number y < 2 ^ w
      → HasPlaces w (number y) (λ j. place j (number old) || place j moved)
      → (bits : List Bool) → n % w + length bits ≤ w → HasPlaces (w - n % w) x (item bits)
      → Stores w (n + length bits) (map number (set items (n / u) y))
      (unpacking n (map number items) w ++ bits)
  Stores-topped old y x moved read up small both bits fits held =
      let xs = map number items in
      let block = number_indexed number items (n / u) old last_in_canonical read
      ∙ ap (λ v. get_or xs (n / v) 0) same in
      rw (map-set, same) (Stores-in_last w wide n xs h partial (number y) x bits small (record {
        each = λ j below. both.each j below ∙ ap (λ b. place j b || place j moved) block
            ∙ ap (λ b. place j (get_or xs (n / w) 0) || b)
            (up.each j below ∙ ap (λ v. leb (n % v) j && place (j - n % v) x) same);
      }) fits held)

-- where fewer bits than there are find room, they fill the block up
pub full-room : (w len taken size : ℕ) → 0 < w → taken ≡ min size (w - len % w) → taken ≢ size
    → (len + taken) % w ≡ 0
full-room w len taken size wide is less =
    let end : len + taken ≡ (len / w + 1) * w + 0 = omega
    (arith, is, less, div-add-mod' len w, mod-lt len wide, add-mul (len / w) 1 w, one-mul w) in
    ap (λ n. n % w) end ∙ mod-mul-add (len / w + 1) w 0 wide
