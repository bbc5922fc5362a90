-- Lists whose bits are turned around, from what the calls below them leave.
use Rattle.std.specs.Prelude.{All, reverse}
use Rattle.std.proofs.Common.{◌≡◌, ℕ, ◌+◌, ◌-◌, ◌*◌, ◌/◌, ◌%◌, ◌^◌, ◌<◌, ◌≤◌, Bool, false, List, ◌++◌}
use Rattle.std.proofs.Common.{length, map, take, drop, refl, sym, ap, ◌∙◌, subst, arith, inl, inr}
use Rattle.std.proofs.Common.{mod-lt, div-add-mod'}
use Rattle.std.proofs.lemmas.Bool.{cases_lt}
use Rattle.std.proofs.lemmas.List.{ext_get_or, get_or_append_left, get_or-append_right, get_or-drop}
use Rattle.std.proofs.lemmas.List.{get_or-reverse, get_or-take, length-append, length-drop, length-map}
use Rattle.std.proofs.lemmas.List.{length-reverse, length-take-le}
use Rattle.std.proofs.Math.Nat.{mod-eq_of_lt}
use Rattle.std.proofs.lemmas.Nat.{mod-mul-add}
use Rattle.vob_block.specs.Packing.{item, need, unpacking, IsCanonical}
use Rattle.vob_block.proofs.NeedLemmas.{need_enough}
use Rattle.vob_block.proofs.PackingLemmas.{bit_at-is_item, length-unpacking}
use Rattle.vob_store.specs.Reversing.{AreReversed}
use Rattle.vob.specs.Moves.{rotated, rotated_back, IsReversed, IsReversedBetween, IsRotated}

-- ---- all bits in reverse order

pub IsReversed-all : {bits after : List Bool} (n : ℕ) → n ≡ length bits
    → IsReversedBetween 0 n bits after → IsReversed bits after
IsReversed-all {bits} {after} n all h = record {
  len = h.len;
  each = λ i less. ap (item after) (omega arith) ∙ h.inside i (omega (arith, less, all))
      ∙ ap (item bits) (omega (arith, all));
}

pub reversed : {bits after : List Bool} → IsReversed bits after → after ≡ reverse bits
reversed {bits} {after} h = ext_get_or false after (reverse bits)
    (h.len ∙ sym (length-reverse bits)) (λ i less.
    h.each i (omega (arith, less, h.len))
    ∙ sym (get_or-reverse bits i false (omega (arith, less, h.len))))

-- ---- the first bits put behind the others

module _ (n : ℕ) (bits : List Bool) (few : n ≤ length bits) where
  pub length-rotated : length (drop n bits ++ take n bits) ≡ length bits
  length-rotated = omega (
    arith,
    length-append (drop n bits) (take n bits),
    length-drop n bits,
    length-take-le n bits few,
    few,
  )

  pub item-rotated_low : (j : ℕ) → j + n < length bits
      → item (drop n bits ++ take n bits) j ≡ item bits (j + n)
  item-rotated_low j less =
      get_or_append_left (drop n bits) (take n bits) false j (omega (arith, less, length-drop n bits))
      ∙ get_or-drop n bits j false ∙ ap (item bits) (omega arith)

  pub item-rotated_high : (j : ℕ) → length bits ≤ j + n → j < length bits
      → item (drop n bits ++ take n bits) j ≡ item bits (j + n - length bits)
  item-rotated_high j past less =
      let rest = length bits - n in
      get_or-append_right (drop n bits) (take n bits) rest j false (length-drop n bits)
      (omega (arith, past, few))
      ∙ get_or-take n bits (j - rest) false (omega (arith, past, less, few))
      ∙ ap (item bits) (omega (arith, past, less, few))

-- both parts reversed, and then all bits
pub rotated-by : (n m : ℕ) {bits a b c : List Bool} → n ≤ length bits → m ≡ length bits
    → IsReversedBetween 0 n bits a → IsReversedBetween n m a b → IsReversedBetween 0 m b c
    → c ≡ drop n bits ++ take n bits
rotated-by n m {bits} {a} {b} {c} few same p q r =
    ext_get_or false c (drop n bits ++ take n bits)
    (r.len ∙ q.len ∙ p.len ∙ sym (length-rotated n bits few)) (λ i inside.
    let less : i < length bits = omega (arith, inside, r.len, q.len, p.len) in
    ap (item c) (omega arith) ∙ r.inside i (omega (arith, less, same))
    ∙ elim (cases_lt (i + n) (length bits)) [
      | inl low ↦
          let at : m - 1 - i ≡ n + (length bits - 1 - i - n) = omega (arith, low, same) in
          ap (item b) at ∙ q.inside (length bits - 1 - i - n) (omega (arith, low, same))
          ∙ p.behind (m - 1 - (length bits - 1 - i - n)) (omega (arith, low, same))
          ∙ ap (item bits) (omega (arith, low, same))
          ∙ sym (item-rotated_low n bits few i low)
      | inr high ↦
          let at : m - 1 - i ≡ 0 + (length bits - 1 - i) = omega (arith, same) in
          q.before (m - 1 - i) (omega (arith, high, same, less))
          ∙ ap (item a) at ∙ p.inside (length bits - 1 - i) (omega (arith, high, less))
          ∙ ap (item bits) (omega (arith, high, less, few))
          ∙ sym (item-rotated_high n bits few i high less)
    ])

-- an index with another added to it, taken modulo a length that isn't 0
module _ (i n size : ℕ) (inside : i < size) where
  sum_is : i + n ≡ n / size * size + (i + n % size)
  sum_is = omega (arith, div-add-mod' n size)

  pub mod-sum_low : i + n % size < size → (i + n) % size ≡ i + n % size
  mod-sum_low less = ap (λ m. m % size) sum_is
      ∙ mod-mul-add (n / size) size (i + n % size) less

  pub mod-sum_high : size ≤ i + n % size → (i + n) % size ≡ i + n % size - size
  mod-sum_high past =
      let some : 0 < size = omega (arith, inside) in
      let below : n % size < size = mod-lt n some in
      let is : i + n ≡ (n / size + 1) * size + (i + n % size - size) =
      omega (arith, sum_is, past) in
      ap (λ m. m % size) is
      ∙ mod-mul-add (n / size + 1) size (i + n % size - size) (omega (arith, below, inside))

pub mod-le : (n size : ℕ) → 0 < size → n % size ≤ size
mod-le n size some =
    let below : n % size < size = mod-lt n some in omega (arith, below)

pub IsRotated-list : (n : ℕ) {bits after : List Bool} → 0 < length bits → after ≡ rotated n bits
    → IsRotated n bits after
IsRotated-list n {bits} {after} some is =
    let size = length bits in
    let k = n % size in
    let few = mod-le n size some in
    record {
      len = ap length is ∙ length-rotated k bits few;
      each = λ i less. ap (λ bs. item bs i) is ∙ elim (cases_lt (i + k) size) [
        | inl low ↦ item-rotated_low k bits few i low
            ∙ ap (item bits) (sym (mod-sum_low i n size less low))
        | inr high ↦ item-rotated_high k bits few i high less
            ∙ ap (item bits) (sym (mod-sum_high i n size less high))
      ];
    }

pub IsRotated-back : (n : ℕ) {bits after : List Bool} → 0 < length bits
    → after ≡ rotated_back n bits → IsRotated n after bits
IsRotated-back n {bits} {after} some is =
    let size = length bits in
    let k = n % size in
    let m = size - k in
    let below : k < size = mod-lt n some in
    let few : m ≤ size = omega arith in
    let long : length after ≡ size = ap length is ∙ length-rotated m bits few in
    record {
      len = sym long;
      each = λ i inside.
          let less : i < size = omega (arith, inside, long) in
          sym (ap (λ s. item after ((i + n) % s)) long ∙ elim (cases_lt (i + k) size) [
            | inl low ↦ ap (item after) (mod-sum_low i n size less low)
                ∙ ap (λ bs. item bs (i + k)) is
                ∙ item-rotated_high m bits few (i + k) (omega (arith, below)) low
                ∙ ap (item bits) (omega (arith, below))
            | inr high ↦ ap (item after) (mod-sum_high i n size less high)
                ∙ ap (λ bs. item bs (i + k - size)) is
                ∙ item-rotated_low m bits few (i + k - size) (omega (arith, below, high, less))
                ∙ ap (item bits) (omega (arith, below, high))
          ]);
    }

-- each bit of a list rotated back comes from as many indices above it as the others are
pub IsRotated-moved : (n : ℕ) {bits after : List Bool} → 0 < length bits
    → after ≡ rotated_back n bits → IsRotated (length bits - n % length bits) bits after
IsRotated-moved n {bits} {after} some is =
    let size = length bits in
    let m = size - n % size in
    let few : m ≤ size = omega arith in
    record {
      len = ap length is ∙ length-rotated m bits few;
      each = λ i less. ap (λ bs. item bs i) is ∙ elim (cases_lt (i + m) size) [
        | inl low ↦ item-rotated_low m bits few i low ∙ ap (item bits) (sym (mod-eq_of_lt low))
        | inr high ↦
            let sum : i + m ≡ 1 * size + (i + m - size) = omega (arith, high) in
            item-rotated_high m bits few i high less ∙ ap (item bits)
            (sym (ap (λ k. k % size) sum ∙ mod-mul-add 1 size (i + m - size) (omega (arith, less, few))))
      ];
    }

-- ---- the blocks of a Vob

module _ {X : Type 0} (number : X → ℕ) (w : ℕ) (wide : 0 < w) (n start stop : ℕ) (items : List X)
    (bits : List Bool) (own : IsCanonical n (map number items) w)
    (own_is : unpacking n (map number items) w ≡ bits) (fits : stop ≤ length bits) where
  turned_fits : stop ≤ n
  turned_fits = omega (arith, fits, ap length own_is, length-unpacking n (map number items) w)

  pub turned_inside : stop ≤ length items * w
  turned_inside =
      let blocks : need n w * w ≡ length items * w =
      ap (λ k. k * w) (sym own.count ∙ length-map items number) in
      omega (arith, turned_fits, need_enough w wide n, blocks)

  module _ {lent now left : List X} (lent_is : lent ≡ items) (left_is : left ≡ now)
      (long : length now ≡ length lent) (small : All (λ x. x < 2 ^ w) (map number now))
      (done : AreReversed w start stop (map number lent) (map number now)) where
    moved : AreReversed w start stop (map number items) (map number now)
    moved = rw lent_is at done

    now_canonical : IsCanonical n (map number now) w
    now_canonical = record {
      count = length-map now number ∙ long ∙ ap length lent_is ∙ sym (length-map items number)
          ∙ own.count;
      within = small;
      unused = λ i past. moved.behind i (omega (arith, turned_fits, past)) ∙ own.unused i past;
    }

    now_reversed : IsReversedBetween start stop (unpacking n (map number items) w)
        (unpacking n (map number now) w)
    now_reversed =
        let new = λ (i : ℕ). sym (bit_at-is_item w wide n (map number now) now_canonical i) in
        let old = bit_at-is_item w wide n (map number items) own in
        record {
          len = length-unpacking n (map number now) w
              ∙ sym (length-unpacking n (map number items) w);
          inside = λ j below. new (start + j) ∙ moved.inside j below ∙ old (stop - 1 - j);
          before = λ i less. new i ∙ moved.before i less ∙ old i;
          behind = λ i past. new i ∙ moved.behind i past ∙ old i;
        }

    pub reversed_canonical : IsCanonical n (map number left) w
    reversed_canonical = subst (λ (xs : List X). IsCanonical n (map number xs) w) (sym left_is)
        now_canonical

    pub reversed_between : IsReversedBetween start stop bits (unpacking n (map number left) w)
    reversed_between = subst (λ (xs : List X). IsReversedBetween start stop bits
        (unpacking n (map number xs) w)) (sym left_is) (rw own_is at now_reversed)
