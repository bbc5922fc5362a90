-- Lists whose bits move to other indices, from what the calls below them leave.
use Rattle.std.specs.declared.ops.Bound.TheVariants.{Included, Excluded}
use Rattle.std.proofs.Common.{◌≡◌, ℕ, ◌+◌, ◌-◌, ◌*◌, ◌<◌, ◌≤◌, min, nat_le, nat_lt, Bool, false, List, [], ◌∷◌, ◌++◌}
use Rattle.std.proofs.Common.{length, map, take, drop, replicate, refl, sym, ap, ◌∙◌, arith, inl, inr}
use Rattle.std.proofs.lemmas.Bool.{cases_lt, cases_eq, and_from, and_left, and_right, le-leb, lt-leb, lt-ltb, le-ltb}
use Rattle.std.proofs.lemmas.List.{ext_get_or, get_or_append_left, get_or-append_right, get_or-drop}
use Rattle.std.proofs.lemmas.List.{get_or_past, get_or-take, length-append, length-drop, length-replicate}
use Rattle.std.proofs.lemmas.List.{length-take-le}
use Rattle.vob_block.specs.Packing.{item, packing, unpacking, IsCanonical}
use Rattle.vob_block.proofs.PackingLemmas.{packing-unpacking}
use Rattle.vob.specs.Bits.{IsWritten}
use Rattle.vob.specs.Copy.{IsCopied}
use Rattle.vob.specs.Moves.{AreSwapped, IsInserted, IsMovedDown, IsMovedUp}
use Rattle.vob.specs.Ranges.{IsChangedWithin}
use Rattle.vob.proofs.BitsLemmas.{item_false}
use Rattle.vob.proofs.CopyLemmas.{copied_inside}

-- the blocks of a Vob are the packing of its bits
pub own_blocks : {X : Type 0} (number : X → ℕ) (w : ℕ) → 0 < w → (n : ℕ) (items : List X)
    {bits : List Bool} → IsCanonical n (map number items) w
    → unpacking n (map number items) w ≡ bits → map number items ≡ packing bits w
own_blocks number w wide n items own is = sym (packing-unpacking w wide n (map number items) own)
    ∙ ap (λ bs. packing bs w) is

-- a stretch of a Vob's own bits is within its blocks
pub own_inside : {X : Type 0} (number : X → ℕ) (w : ℕ) → 0 < w → (n : ℕ) (items : List X)
    {bits : List Bool} → IsCanonical n (map number items) w
    → unpacking n (map number items) w ≡ bits → (at count : ℕ) → at + count ≤ length bits
    → at + count ≤ length items * w
own_inside number w wide n items {bits} own is at count fits =
    copied_inside number w wide n at at count items items bits bits own is
    (own_blocks number w wide n items own is) fits

-- ---- bits that become unset from one index to below another

module _ (a b : ℕ) {bits after : List Bool} (inside : b ≤ length bits)
    (h : IsChangedWithin (λ _. false) (Included a) (Excluded b) bits after) where
  unset_inside : (i : ℕ) → a ≤ i → i < b → item after i ≡ false
  unset_inside i above below = h.inside i (omega (arith, below, inside))
      (and_from (nat_le a i) (nat_lt i b) (le-leb a i above) (lt-ltb i b below))

  unset_before : (i : ℕ) → i < a → item after i ≡ item bits i
  unset_before i less = h.outside i (and_left (nat_le a i) (nat_lt i b) (lt-leb a i less))

  unset_behind : (i : ℕ) → b ≤ i → item after i ≡ item bits i
  unset_behind i past = h.outside i (and_right (nat_le a i) (nat_lt i b) (le-ltb i b past))

-- ---- moved up

pub IsMovedUp-by : (n m count : ℕ) {bits mid after : List Bool} → m ≡ min n (length bits)
    → count ≡ length bits - m → IsCopied m 0 count bits bits mid
    → IsChangedWithin (λ _. false) (Included 0) (Excluded m) mid after → IsMovedUp n bits after
IsMovedUp-by n m count {bits} {mid} {after} cut all copied changed =
    let fits : m ≤ length mid = omega (arith, cut, copied.len) in
    record {
      len = changed.len ∙ copied.len;
      below = λ i less. elim (cases_lt i m) [
        | inl here ↦ unset_inside 0 m fits changed i (omega arith) here
        | inr past ↦ get_or_past after i false
            (omega (arith, past, less, cut, changed.len, copied.len))
      ];
      above = λ i past inside.
          let here : m + (i - n) ≡ i = omega (arith, past, inside, cut) in
          unset_behind 0 m fits changed i (omega (arith, past, cut)) ∙ ap (item mid) (sym here)
          ∙ copied.copied (i - n) (omega (arith, past, inside, cut, all))
          ∙ ap (item bits) (omega arith);
    }

pub moved_up : (n : ℕ) {bits after : List Bool} → IsMovedUp n bits after
    → after ≡ take (length bits) (replicate n false ++ bits)
moved_up n {bits} {after} h =
    let low = replicate n false in
    let few : length low ≡ n = length-replicate n false in
    let long = length-take-le (length bits) (low ++ bits) (omega (arith, length-append low bits)) in
    ext_get_or false after (take (length bits) (low ++ bits)) (h.len ∙ sym long) (λ i inside.
    let less : i < length bits = omega (arith, inside, h.len) in
    elim (cases_lt i n) [
      | inl below ↦ h.below i below ∙ sym (item_false n i)
          ∙ sym (get_or_append_left low bits false i (omega (arith, few, below)))
      | inr past ↦ h.above i past less ∙ sym (get_or-append_right low bits n i false few past)
    ] ∙ sym (get_or-take (length bits) (low ++ bits) i false less))

-- ---- moved down

pub IsMovedDown-by : (n m left count : ℕ) {bits mid after : List Bool} → m ≡ min n (length bits)
    → left ≡ length bits - m → count ≡ left → IsCopied 0 m count bits bits mid
    → IsChangedWithin (λ _. false) (Included left) (Excluded (left + m)) mid after
    → IsMovedDown n bits after
IsMovedDown-by n m left count {bits} {mid} {after} cut rest all copied changed =
    let fits : left + m ≤ length mid = omega (arith, cut, rest, copied.len) in
    record {
      len = changed.len ∙ copied.len;
      each = λ i. elim (cases_lt i left) [
        | inl below ↦
            unset_before left (left + m) fits changed i below
            ∙ ap (item mid) (omega arith) ∙ copied.copied i (omega (arith, below, all))
            ∙ ap (item bits) (omega (arith, below, rest, cut))
        | inr past ↦ elim (cases_lt i (left + m)) [
          | inl less ↦ unset_inside left (left + m) fits changed i past less
          | inr far ↦ get_or_past after i false
              (omega (arith, far, rest, cut, changed.len, copied.len))
        ] ∙ sym (get_or_past bits (i + n) false (omega (arith, past, rest, cut)))
      ];
    }

pub moved_down : (n : ℕ) {bits after : List Bool} → IsMovedDown n bits after
    → after ≡ drop n bits ++ replicate (min n (length bits)) false
moved_down n {bits} {after} h =
    let m = min n (length bits) in
    let kept = length-drop n bits in
    ext_get_or false after (drop n bits ++ replicate m false) (omega (
      arith,
      h.len,
      length-append (drop n bits) (replicate m false),
      kept,
      length-replicate m false,
    )) (λ i inside. h.each i ∙ elim (cases_lt i (length bits - n)) [
      | inl below ↦ ap (item bits) (omega arith) ∙ sym (get_or-drop n bits i false)
          ∙ sym (get_or_append_left (drop n bits) (replicate m false) false i
          (omega (arith, kept, below)))
      | inr past ↦ get_or_past bits (i + n) false (omega (arith, past))
          ∙ sym (item_false m (i - (length bits - n)))
          ∙ sym (get_or-append_right (drop n bits) (replicate m false) (length bits - n) i false
          kept past)
    ])

-- ---- a bit put in

pub IsInserted-by : (index : ℕ) (value : Bool) {bits grown mid after : List Bool}
    → grown ≡ bits ++ value ∷ [] → index ≤ length bits
    → IsCopied (index + 1) index (length bits - index) grown grown mid
    → IsWritten mid index value after → IsInserted index value bits after
IsInserted-by index value {bits} {grown} {mid} {after} more inside copied written =
    let long : length grown ≡ length bits + 1 = ap length more ∙ length-append bits (value ∷ []) in
    let old = λ (i : ℕ) (less : i < length bits). ap (λ bs. item bs i) more
    ∙ get_or_append_left bits (value ∷ []) false i less in
    record {
      len = written.len ∙ copied.len ∙ long;
      before = λ i less. written.others i (λ e. absurd (omega (arith, e, less)))
          ∙ copied.before i (omega (arith, less)) ∙ old i (omega (arith, less, inside));
      there = written.there;
      behind = λ i past. written.others (i + 1) (λ e. absurd (omega (arith, e, past)))
          ∙ elim (cases_lt i (length bits)) [
            | inl less ↦
                let here : index + 1 + (i - index) ≡ i + 1 = omega (arith, past) in
                ap (item mid) (sym here) ∙ copied.copied (i - index) (omega (arith, past, less))
                ∙ ap (item grown) (omega (arith, past)) ∙ old i less
            | inr far ↦ get_or_past mid (i + 1) false (omega (arith, far, copied.len, long))
                ∙ sym (get_or_past bits i false far)
          ];
    }

item_next : (b : Bool) (bs : List Bool) (j : ℕ) → item (b ∷ bs) (j + 1) ≡ item bs j
item_next b bs j = get_or-append_right (b ∷ []) bs 1 (j + 1) false refl (omega arith)
    ∙ ap (item bs) (omega arith)

pub inserted : (index : ℕ) (value : Bool) {bits after : List Bool} → index ≤ length bits
    → IsInserted index value bits after → after ≡ take index bits ++ value ∷ drop index bits
inserted index value {bits} {after} inside h =
    let low = take index bits in
    let high = value ∷ drop index bits in
    let few : length low ≡ index = length-take-le index bits inside in
    ext_get_or false after (low ++ high) (omega (
      arith,
      h.len,
      length-append low high,
      few,
      length-drop index bits,
      inside,
    )) (λ i less. elim (cases_lt i index) [
      | inl front ↦ h.before i front ∙ sym (get_or-take index bits i false front)
          ∙ sym (get_or_append_left low high false i (omega (arith, few, front)))
      | inr past ↦ at_or_behind i past
          ∙ sym (get_or-append_right low high index i false few past)
    ])
  where
    at_or_behind : (i : ℕ) → index ≤ i → item after i ≡ item (value ∷ drop index bits) (i - index)
    at_or_behind i past = elim (cases_lt index i) [
      | inl far ↦
          let here : i - 1 + 1 ≡ i = omega (arith, far) in
          let next : i - index ≡ i - 1 - index + 1 = omega (arith, far) in
          ap (item after) (sym here) ∙ h.behind (i - 1) (omega (arith, far))
          ∙ ap (item bits) (omega (arith, far)) ∙ sym (get_or-drop index bits (i - 1 - index) false)
          ∙ sym (item_next value (drop index bits) (i - 1 - index))
          ∙ ap (item (value ∷ drop index bits)) (sym next)
      | inr near ↦
          let here : i ≡ index = omega (arith, past, near) in
          let none : i - index ≡ 0 = omega (arith, near) in
          ap (item after) here ∙ h.there ∙ ap (item (value ∷ drop index bits)) (sym none)
    ]

-- ---- two bits exchanged

pub AreSwapped-by : (first second : ℕ) {bit other : Bool} {bits mid after : List Bool}
    → bit ≡ item bits first → other ≡ item bits second → IsWritten bits first other mid
    → IsWritten mid second bit after → AreSwapped first second bits after
AreSwapped-by first second {bit} {other} {bits} {mid} {after} is its one two = record {
  len = two.len ∙ one.len;
  first_bit = elim (cases_eq first second) [
    | inl same ↦ ap (item after) same ∙ two.there ∙ is ∙ ap (item bits) same
    | inr apart ↦ two.others first apart ∙ one.there ∙ its
  ];
  second_bit = two.there ∙ is;
  others = λ i front back. two.others i back ∙ one.others i front;
}

-- ---- bits taken out

pub closed_up : (at count n : ℕ) {bits mid after : List Bool} → at + count ≤ length bits
    → n ≡ length bits → IsCopied at (at + count) (n - (at + count)) bits bits mid
    → after ≡ take (n - count) mid → after ≡ take at bits ++ drop (at + count) bits
closed_up at count n {bits} {mid} {after} inside long copied cut =
    let low = take at bits in
    let high = drop (at + count) bits in
    let few : length low ≡ at = length-take-le at bits (omega (arith, inside)) in
    let left : length after ≡ n - count = ap length cut
    ∙ length-take-le (n - count) mid (omega (arith, copied.len, long)) in
    ext_get_or false after (low ++ high) (omega (
      arith,
      left,
      length-append low high,
      few,
      length-drop (at + count) bits,
      long,
      inside,
    )) (λ i less. ap (λ bs. item bs i) cut
    ∙ get_or-take (n - count) mid i false (omega (arith, less, left))
    ∙ elim (cases_lt i at) [
      | inl front ↦ copied.before i front ∙ sym (get_or-take at bits i false front)
          ∙ sym (get_or_append_left low high false i (omega (arith, few, front)))
      | inr past ↦
          let here : at + (i - at) ≡ i = omega (arith, past) in
          ap (item mid) (sym here)
          ∙ copied.copied (i - at) (omega (arith, past, less, left, inside, long))
          ∙ sym (get_or-drop (at + count) bits (i - at) false)
          ∙ sym (get_or-append_right low high at i false few past)
    ])

pub IsInserted-removed : (index : ℕ) {bits after : List Bool} → index < length bits
    → after ≡ take index bits ++ drop (index + 1) bits
    → IsInserted index (item bits index) after bits
IsInserted-removed index {bits} {after} inside left =
    let low = take index bits in
    let high = drop (index + 1) bits in
    let few : length low ≡ index = length-take-le index bits (omega (arith, inside)) in
    record {
      len = omega (
        arith,
        ap length left,
        length-append low high,
        few,
        length-drop (index + 1) bits,
        inside,
      );
      before = λ i less. sym (ap (λ bs. item bs i) left
          ∙ get_or_append_left low high false i (omega (arith, few, less))
          ∙ get_or-take index bits i false less);
      there = refl;
      behind = λ i past. sym (ap (λ bs. item bs i) left
          ∙ get_or-append_right low high index i false few past
          ∙ get_or-drop (index + 1) bits (i - index) false ∙ ap (item bits) (omega (arith, past)));
    }
