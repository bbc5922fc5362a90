-- Decimal numbers: what orders them, and the parts of their texts.
use Rattle.std.proofs.Common.{◌≡◌, ◌≢◌, inl, inr, ℕ, ℤ, pos, negsuc, ◌+ℤ◌, ◌-ℤ◌, ◌<ℤ◌, neg_ℤ, suc, ◌+◌, ◌*◌, ◌^◌, ◌<◌, ◌≤◌, ◌-◌, ◌==◌, true, false, cond, List, [], ◌∷◌, ◌++◌, length, min, get_or, drop, take, arith, refl, sym, subst, ap, ◌∙◌, length-drop}
use Rattle.std.proofs.lemmas.List.{drop_all, get_or_past}
use Rattle.std.proofs.lemmas.List.Folds.{prefix_len-append}
use Rattle.std.proofs.Math.Nat.{mul-le-mul, one-le-pow, pow-le-pow_right, pow-suc, mul_comm, mul-le-mul_right}
use Rattle.std.proofs.lemmas.Nat.{pow-add}
use Rattle.std.proofs.lemmas.Int.{ints}
use Rattle.std.proofs.lemmas.Str.{IsAscii-append, IsUtf8-from_ascii}
use Rattle.std.proofs.lemmas.Str.Ascii.{IsAscii-from_all, IsAscii-nil}
use Rattle.std.proofs.lemmas.Fmt.{IsAscii-from_digits}
use Rattle.std.specs.Str.{IsAscii, IsUtf8}
use Rattle.std.proofs.lemmas.Bool.Decides.{nat_tests}
use Rattle.std.specs.Cmp.{nat_cmp_is, int_cmp_is}
use Rattle.std.specs.declared.cmp.Ordering.{Ordering}
use Rattle.std.specs.declared.cmp.Ordering.TheVariants.{Less, Equal, Greater}
use Rattle.std.proofs.lemmas.Bool.{eq-eqb, ne_eqb, eqb-true, cases_lt, cases_order, cases_Bool}
use Rattle.std.proofs.lemmas.Int.Digits.{digits_value-lt}
use Rattle.std.specs.Char.{digit_value, is_ascii_digit}
use Rattle.std.specs.List.{prefix_len}
use Rattle.std.specs.Ordering.{MatchOrdering, int_cmp, nat_cmp, ordering_then}
use Rattle.std.specs.Str.Parse.{AllDigits, IsNumeral, digits_value, without_leading_sign}
use Rattle.files_condition.specs.Numbers.{Decimal, IsPower, above, below, digits, down, order_of, signed, up}
use Rattle.files_condition.specs.Padded.{is_zero, padded_cmp}
use Rattle.files_condition.proofs.DigitLemmas.{value-cons, padded-at, grows, scaled, byte-of, same-cmp, factors, compares}

-- ---- zeros before the first other digit

-- one zero more, or none
zeros-yes : (d : ℕ) (ds : List ℕ) → is_zero d ≡ true → prefix_len is_zero (d ∷ ds) ≡ suc (prefix_len is_zero ds)
zeros-yes d ds zero-digit = ap (λ b. cond b (1 + prefix_len is_zero ds) 0) zero-digit ∙ omega arith

zeros-no : (d : ℕ) (ds : List ℕ) → is_zero d ≡ false → prefix_len is_zero (d ∷ ds) ≡ 0
zeros-no d ds other = ap (λ b. cond b (1 + prefix_len is_zero ds) 0) other

-- a byte is that of 0 exactly if its digit's value is 0
zero-byte : (d : ℕ) → is_zero d ≡ true → d ≡ 48
zero-byte d is-zero = eqb-true d 48 is-zero

not-zero : (d : ℕ) → is_zero d ≡ false → d ≢ 48
not-zero d other same = cc (eq-eqb d 48 same, other)

above-zero : (d : ℕ) → digit_value d < 10 → is_zero d ≡ false → 0 < digit_value d
above-zero d small other = elim (cases_order (digit_value d) 0) [
  | inl none ↦ absurd (not-zero d other (omega (arith, byte-of d small, none)))
  | inr (inl less) ↦ absurd (omega arith)
  | inr (inr more) ↦ more
]

-- the digits from the first one above 0 on write the same number
pub same-value : (ds : List ℕ) → AllDigits 10 ds → (digits_value 10 (drop (prefix_len is_zero ds) ds) ≡ digits_value 10 ds)
    × AllDigits 10 (drop (prefix_len is_zero ds) ds)
same-value [] all = (refl, all)
same-value (d ∷ ds) all = elim (cases_Bool (is_zero d)) [
  | inl yes-zero ↦
      let same = same-value ds all.1 in
      let shorter : drop (prefix_len is_zero (d ∷ ds)) (d ∷ ds) ≡ drop (prefix_len is_zero ds) ds =
      ap (λ k. drop k (d ∷ ds)) (zeros-yes d ds yes-zero) in
      let value : digits_value 10 (d ∷ ds) ≡ digits_value 10 ds =
      value-cons d ds ∙ omega (
        arith,
        ap digit_value (zero-byte d yes-zero),
        ap (λ x. digit_value x * 10 ^ length ds) (zero-byte d yes-zero),
      ) in
      (ap (digits_value 10) shorter ∙ same.0 ∙ sym value, subst (AllDigits 10) (sym shorter) same.1)
  | inr other ↦
      let shorter : drop (prefix_len is_zero (d ∷ ds)) (d ∷ ds) ≡ d ∷ ds =
      ap (λ k. drop k (d ∷ ds)) (zeros-no d ds other) in
      (ap (digits_value 10) shorter, subst (AllDigits 10) (sym shorter) all)
]

-- a first digit above 0 writes a tenth at least of what one digit more begins
pub at-least : (ds : List ℕ) → AllDigits 10 ds → prefix_len is_zero ds < length ds →
    10 ^ length (drop (prefix_len is_zero ds) ds) ≤ digits_value 10 ds * 10
at-least [] all some = absurd (omega arith)
at-least (d ∷ ds) all some = elim (cases_Bool (is_zero d)) [
  | inl yes-zero ↦
      let shorter : drop (prefix_len is_zero (d ∷ ds)) (d ∷ ds) ≡ drop (prefix_len is_zero ds) ds =
      ap (λ k. drop k (d ∷ ds)) (zeros-yes d ds yes-zero) in
      let value : digits_value 10 (d ∷ ds) ≡ digits_value 10 ds =
      value-cons d ds ∙ omega (
        arith,
        ap digit_value (zero-byte d yes-zero),
        ap (λ x. digit_value x * 10 ^ length ds) (zero-byte d yes-zero),
      ) in
      omega (arith, at-least ds all.1 (omega (arith, zeros-yes d ds yes-zero, some)), value, ap (λ xs. 10 ^ length xs) shorter)
  | inr other ↦
      let shorter : drop (prefix_len is_zero (d ∷ ds)) (d ∷ ds) ≡ d ∷ ds =
      ap (λ k. drop k (d ∷ ds)) (zeros-no d ds other) in
      omega (
        arith,
        value-cons d ds,
        mul-le-mul_right (10 ^ length ds) (above-zero d all.0 other),
        pow-suc 10 (length ds),
        ap (λ xs. 10 ^ length xs) shorter,
      )
]

-- no digit is above 0 exactly if the number is 0
pub all-zeros : (ds : List ℕ) → AllDigits 10 ds → prefix_len is_zero ds ≡ length ds → digits_value 10 ds ≡ 0
all-zeros ds all zeros =
    sym (same-value ds all).0
    ∙ ap (digits_value 10) (drop_all (prefix_len is_zero ds) ds (omega arith))

pub some-above : (ds : List ℕ) → AllDigits 10 ds → prefix_len is_zero ds < length ds → 0 < digits_value 10 ds
some-above ds all some = omega (arith, at-least ds all some, one-le-pow (length (drop (prefix_len is_zero ds) ds)) 10 (omega arith))

-- ---- numbers of digits over powers of ten

tenfold : (w p : ℕ) → w * 10 * p ≡ w * p * 10
tenfold w p = grind arith

regrouped : (v m n x : ℕ) → v * m * (n * x) ≡ v * x * (n * m)
regrouped v m n x = grind arith

regroup : (v m n x f : ℕ) → f ≡ n * x → v * m * f ≡ v * x * (n * m)
regroup v m n x f is = ap (λ k. v * m * k) is ∙ regrouped v m n x

positive : (a b : ℕ) → 0 < a → 0 < b → 0 < a * b
positive a b some-a some-b = omega (arith, mul-le-mul {n₁ = 1} {m₁ = 1} {n₂ = a} {m₂ = b} some-a some-b)

-- the number whose first digit is higher is greater
high-digits : (v w n m x y : ℕ) → v < 10 ^ n → 10 ^ m ≤ w * 10 → n + x < m + y → v * 10 ^ x < w * 10 ^ y
high-digits v w n m x y below-n at-least-m less =
    omega (
      arith,
      grows v (10 ^ n) (10 ^ x) below-n (one-le-pow x 10 (omega arith)),
      pow-add 10 n x,
      pow-add 10 m y,
      mul-le-mul_right (10 ^ y) at-least-m,
      tenfold w (10 ^ y),
      pow-suc 10 (n + x),
      pow-le-pow_right {n = 10} (omega arith) {i = suc (n + x)} {j = m + y} less,
    )

-- and if both are as high, digits decide
pub same-height : (v w n m x y : ℕ) → n + x ≡ m + y → nat_cmp (v * 10 ^ m) (w * 10 ^ n) ≡ nat_cmp (v * 10 ^ x) (w * 10 ^ y)
same-height v w n m x y same =
    sym (scaled (v * 10 ^ m) (w * 10 ^ n) (10 ^ (n + x)) (one-le-pow (n + x) 10 (omega arith)))
    ∙ same-cmp (regroup v (10 ^ m) (10 ^ n) (10 ^ x) (10 ^ (n + x)) (pow-add 10 n x))
    (regroup w (10 ^ n) (10 ^ m) (10 ^ y) (10 ^ (n + x)) (ap (λ k. 10 ^ k) same ∙ pow-add 10 m y)
    ∙ ap (λ f. w * 10 ^ y * f) (mul_comm (10 ^ m) (10 ^ n)))
    ∙ scaled (v * 10 ^ x) (w * 10 ^ y) (10 ^ n * 10 ^ m) (positive (10 ^ n) (10 ^ m)
    (one-le-pow n 10 (omega arith)) (one-le-pow m 10 (omega arith)))

-- ---- two runs of digits, one behind the other

pub zeros-within : (xs ys : List ℕ) → prefix_len is_zero xs < length xs → prefix_len is_zero (xs ++ ys) ≡ prefix_len is_zero xs
zeros-within xs ys less =
    prefix_len-append is_zero xs ys
    ∙ ap (λ b. cond b (length xs + prefix_len is_zero ys) (prefix_len is_zero xs)) (ne_eqb (prefix_len is_zero xs) (length xs) (omega arith))

pub zeros-through : (xs ys : List ℕ) → prefix_len is_zero xs ≡ length xs →
    prefix_len is_zero (xs ++ ys) ≡ length xs + prefix_len is_zero ys
zeros-through xs ys same =
    prefix_len-append is_zero xs ys
    ∙ ap (λ b. cond b (length xs + prefix_len is_zero ys) (prefix_len is_zero xs)) (eq-eqb (prefix_len is_zero xs) (length xs) same)

-- ---- the order of two numbers without signs

-- digits from the first one above 0 on write less than as many digits can
as-many : (ds : List ℕ) → AllDigits 10 ds → digits_value 10 ds < 10 ^ (length ds - prefix_len is_zero ds)
as-many ds all = subst (λ v. v < 10 ^ (length ds - prefix_len is_zero ds)) (same-value ds all).0
    (subst (λ n. digits_value 10 (drop (prefix_len is_zero ds) ds) < 10 ^ n) (length-drop (prefix_len is_zero ds) ds)
    (digits_value-lt 10 (drop (prefix_len is_zero ds) ds) (same-value ds all).1))

-- if one is 0, the number of digits from the first one above 0 on decides
pub if-one-is-zero : (xs ys : List ℕ) (x y : ℕ) → AllDigits 10 xs → AllDigits 10 ys →
    prefix_len is_zero xs ≤ length xs → prefix_len is_zero ys ≤ length ys →
    min (length xs - prefix_len is_zero xs) (length ys - prefix_len is_zero ys) ≡ 0 →
    nat_cmp (length xs - prefix_len is_zero xs) (length ys - prefix_len is_zero ys)
    ≡ nat_cmp (digits_value 10 xs * 10 ^ x) (digits_value 10 ys * 10 ^ y)
if-one-is-zero xs ys x y all-x all-y in-x in-y none =
    elim (cases_order (length xs - prefix_len is_zero xs) (length ys - prefix_len is_zero ys)) [
      | inl same ↦ sym (nat_cmp_is (length xs - prefix_len is_zero xs) (length ys - prefix_len is_zero ys) Equal same)
          ∙ nat_cmp_is (digits_value 10 xs * 10 ^ x) (digits_value 10 ys * 10 ^ y) Equal
          (omega (arith, ap (λ v. v * 10 ^ x) (all-zeros xs all-x (omega arith)), ap (λ v. v * 10 ^ y) (all-zeros ys all-y (omega arith))))
      | inr (inl less) ↦ sym (nat_cmp_is (length xs - prefix_len is_zero xs) (length ys - prefix_len is_zero ys) Less less)
          ∙ nat_cmp_is (digits_value 10 xs * 10 ^ x) (digits_value 10 ys * 10 ^ y) Less
          (omega (
            arith,
            ap (λ v. v * 10 ^ x) (all-zeros xs all-x (omega arith)),
            positive (digits_value 10 ys) (10 ^ y) (some-above ys all-y (omega arith)) (one-le-pow y 10 (omega arith)),
          ))
      | inr (inr more) ↦ sym (nat_cmp_is (length xs - prefix_len is_zero xs) (length ys - prefix_len is_zero ys) Greater more)
          ∙ nat_cmp_is (digits_value 10 xs * 10 ^ x) (digits_value 10 ys * 10 ^ y) Greater
          (omega (
            arith,
            ap (λ v. v * 10 ^ y) (all-zeros ys all-y (omega arith)),
            positive (digits_value 10 xs) (10 ^ x) (some-above xs all-x (omega arith)) (one-le-pow x 10 (omega arith)),
          ))
    ]

-- else the one whose first digit is higher is greater
pub if-higher : (xs ys : List ℕ) (x y : ℕ) → AllDigits 10 xs → AllDigits 10 ys → prefix_len is_zero ys < length ys →
    (length xs - prefix_len is_zero xs) + x < (length ys - prefix_len is_zero ys) + y →
    digits_value 10 xs * 10 ^ x < digits_value 10 ys * 10 ^ y
if-higher xs ys x y all-x all-y some less =
    high-digits (digits_value 10 xs) (digits_value 10 ys) (length xs - prefix_len is_zero xs)
    (length ys - prefix_len is_zero ys) x y (as-many xs all-x)
    (subst (λ n. 10 ^ n ≤ digits_value 10 ys * 10) (length-drop (prefix_len is_zero ys) ys) (at-least ys all-y some)) less

-- and if both are as high, the digits decide
pub if-as-high : (xs ys : List ℕ) (x y : ℕ) → AllDigits 10 xs → AllDigits 10 ys →
    (length xs - prefix_len is_zero xs) + x ≡ (length ys - prefix_len is_zero ys) + y →
    padded_cmp (drop (prefix_len is_zero xs) xs) (drop (prefix_len is_zero ys) ys)
    ≡ nat_cmp (digits_value 10 xs * 10 ^ x) (digits_value 10 ys * 10 ^ y)
if-as-high xs ys x y all-x all-y same =
    compares (drop (prefix_len is_zero xs) xs) (drop (prefix_len is_zero ys) ys) (same-value xs all-x).1 (same-value ys all-y).1
    ∙ same-cmp (factors (same-value xs all-x).0 (ap (λ n. 10 ^ n) (length-drop (prefix_len is_zero ys) ys)))
    (factors (same-value ys all-y).0 (ap (λ n. 10 ^ n) (length-drop (prefix_len is_zero xs) xs)))
    ∙ same-height (digits_value 10 xs) (digits_value 10 ys) (length xs - prefix_len is_zero xs)
    (length ys - prefix_len is_zero ys) x y same

-- a number is 0 exactly if its digits are
pub is-zero-if : (ds : List ℕ) → AllDigits 10 ds → prefix_len is_zero ds ≤ length ds → digits_value 10 ds ≡ 0 →
    prefix_len is_zero ds ≡ length ds
is-zero-if ds all within none = elim (cases_order (prefix_len is_zero ds) (length ds)) [
  | inl same ↦ same
  | inr (inl less) ↦ absurd (omega (arith, some-above ds all less, none))
  | inr (inr more) ↦ absurd (omega arith)
]

-- ---- a step of the loop over digits

-- behind the last digit there are zeros
pub saturated : (xs : List ℕ) (n most : ℕ) → length xs ≤ most → get_or xs (min n most) 48 ≡ get_or xs n 48
saturated xs n most within = elim (cases_lt n most) [
  | inl less ↦ ap (λ k. get_or xs k 48) (omega (arith, less))
  | inr more ↦ get_or_past xs (min n most) 48 (omega arith) ∙ sym (get_or_past xs n 48 (omega arith))
]

-- equal digits leave the order to those behind them
pub after-equal : (xs ys : List ℕ) (i j : ℕ) → nat_cmp (get_or xs i 48) (get_or ys j 48) ≡ Equal →
    padded_cmp (drop i xs) (drop j ys) ≡ padded_cmp (drop (i + 1) xs) (drop (j + 1) ys)
after-equal xs ys i j equal =
    padded-at xs ys i j ∙ ap (λ o. ordering_then o (padded_cmp (drop (i + 1) xs) (drop (j + 1) ys))) equal

-- others decide
pub decided : (o p : Ordering) → o ≢ Equal → ordering_then o p ≡ o
decided Less p other = refl
decided Equal p other = absurd (other refl)
decided Greater p other = refl

pub at-other : (xs ys : List ℕ) (i j : ℕ) (o : Ordering) → o ≡ nat_cmp (get_or xs i 48) (get_or ys j 48) → o ≢ Equal →
    padded_cmp (drop i xs) (drop j ys) ≡ o
at-other xs ys i j o is other =
    padded-at xs ys i j ∙ ap (λ p. ordering_then p (padded_cmp (drop (i + 1) xs) (drop (j + 1) ys))) (sym is)
    ∙ decided o (padded_cmp (drop (i + 1) xs) (drop (j + 1) ys)) other

-- ---- the powers of ten above two numbers

-- their order is that of natural numbers
top-less : (n m f g : ℕ) (p q : ℤ) → ((pos n +ℤ p) -ℤ pos f) <ℤ ((pos m +ℤ q) -ℤ pos g) →
    n + (above p + (g + below q)) < m + (above q + (f + below p))
top-less n m f g (pos p) (pos q) less = omega (arith, ints)
top-less n m f g (pos p) (negsuc q) less = omega (arith, ints)
top-less n m f g (negsuc p) (pos q) less = omega (arith, ints)
top-less n m f g (negsuc p) (negsuc q) less = omega (arith, ints)

pub top-same : (n m f g : ℕ) (p q : ℤ) → ((pos n +ℤ p) -ℤ pos f) ≡ ((pos m +ℤ q) -ℤ pos g) →
    n + (above p + (g + below q)) ≡ m + (above q + (f + below p))
top-same n m f g (pos p) (pos q) same = omega (arith, ints)
top-same n m f g (pos p) (negsuc q) same = omega (arith, ints)
top-same n m f g (negsuc p) (pos q) same = omega (arith, ints)
top-same n m f g (negsuc p) (negsuc q) same = omega (arith, ints)

-- so the higher of two numbers is greater
pub by-tops : (xs ys : List ℕ) (f g : ℕ) (p q : ℤ) (o : Ordering) → AllDigits 10 xs → AllDigits 10 ys →
    prefix_len is_zero xs < length xs → prefix_len is_zero ys < length ys →
    MatchOrdering o (((pos (length xs - prefix_len is_zero xs) +ℤ p) -ℤ pos f)
    <ℤ ((pos (length ys - prefix_len is_zero ys) +ℤ q) -ℤ pos g))
    (((pos (length xs - prefix_len is_zero xs) +ℤ p) -ℤ pos f) ≡ ((pos (length ys - prefix_len is_zero ys) +ℤ q) -ℤ pos g))
    (((pos (length ys - prefix_len is_zero ys) +ℤ q) -ℤ pos g)
    <ℤ ((pos (length xs - prefix_len is_zero xs) +ℤ p) -ℤ pos f)) →
    o ≢ Equal → o ≡ nat_cmp (digits_value 10 xs * 10 ^ (above p + (g + below q)))
    (digits_value 10 ys * 10 ^ (above q + (f + below p)))
by-tops xs ys f g p q Less all-x all-y some-x some-y less other =
    nat_cmp_is (digits_value 10 xs * 10 ^ (above p + (g + below q))) (digits_value 10 ys * 10 ^ (above q + (f + below p))) Less
    (if-higher xs ys (above p + (g + below q)) (above q + (f + below p)) all-x all-y some-y
    (top-less (length xs - prefix_len is_zero xs) (length ys - prefix_len is_zero ys) f g p q less))
by-tops xs ys f g p q Equal all-x all-y some-x some-y same other = absurd (other refl)
by-tops xs ys f g p q Greater all-x all-y some-x some-y more other =
    nat_cmp_is (digits_value 10 xs * 10 ^ (above p + (g + below q))) (digits_value 10 ys * 10 ^ (above q + (f + below p))) Greater
    (if-higher ys xs (above q + (f + below p)) (above p + (g + below q)) all-y all-x some-x
    (top-less (length ys - prefix_len is_zero ys) (length xs - prefix_len is_zero xs) g f q p more))

-- ---- signs

-- a number below 0 or equal to it is less than one above 0 or equal to it, unless both are 0
pub mixed-signs : (v w x y : ℕ) → ¬ ((v ≡ 0) × (w ≡ 0)) → neg_ℤ (pos (v * 10 ^ x)) <ℤ pos (w * 10 ^ y)
mixed-signs v w x y some = elim (cases_order v 0) [
  | inl none ↦ elim (cases_order w 0) [
    | inl no-other ↦ absurd (some (none, no-other))
    | inr (inl less) ↦ absurd (omega arith)
    | inr (inr more) ↦ omega (arith, ints, ap (λ k. k * 10 ^ x) none, positive w (10 ^ y) more (one-le-pow y 10 (omega arith)))
  ]
  | inr (inl less) ↦ absurd (omega arith)
  | inr (inr more) ↦ omega (arith, ints, positive v (10 ^ x) more (one-le-pow x 10 (omega arith)))
]

pub below-other : (first second : Decimal) → first.negative ≡ true → second.negative ≡ false →
    ¬ ((digits first ≡ 0) × (digits second ≡ 0)) → Less ≡ order_of first second
below-other first second is-negative is-other some =
    int_cmp_is (neg_ℤ (pos (digits first * 10 ^ (up first + down second)))) (pos (digits second * 10 ^ (up second + down first)))
    Less (mixed-signs (digits first) (digits second) (up first + down second) (up second + down first) some)
    ∙ ap (λ b. int_cmp (signed b (digits first * 10 ^ (up first + down second)))
    (pos (digits second * 10 ^ (up second + down first)))) (sym is-negative)
    ∙ ap (λ b. int_cmp (signed first.negative (digits first * 10 ^ (up first + down second)))
    (signed b (digits second * 10 ^ (up second + down first)))) (sym is-other)

pub above-other : (first second : Decimal) → first.negative ≡ false → second.negative ≡ true →
    ¬ ((digits first ≡ 0) × (digits second ≡ 0)) → Greater ≡ order_of first second
above-other first second is-other is-negative some =
    int_cmp_is (pos (digits first * 10 ^ (up first + down second))) (neg_ℤ (pos (digits second * 10 ^ (up second + down first))))
    Greater (mixed-signs (digits second) (digits first) (up second + down first) (up first + down second)
    (λ both. some (both.1, both.0)))
    ∙ ap (λ b. int_cmp (signed b (digits first * 10 ^ (up first + down second)))
    (neg_ℤ (pos (digits second * 10 ^ (up second + down first))))) (sym is-other)
    ∙ ap (λ b. int_cmp (signed first.negative (digits first * 10 ^ (up first + down second)))
    (signed b (digits second * 10 ^ (up second + down first)))) (sym is-negative)

-- ---- the parts of a text

-- a byte of a digit has a value below 10
ascii-digit : (b : ℕ) → is_ascii_digit b ≡ true → digit_value b < 10
ascii-digit b is-digit = grind (arith, nat_tests, is-digit)

-- what is taken are digits
pub digits-all : (bs : List ℕ) → AllDigits 10 (take (prefix_len is_ascii_digit bs) bs)
digits-all [] = tt
digits-all (b ∷ bs) = elim (cases_Bool (is_ascii_digit b)) [
  | inl yes-digit ↦
      let longer : prefix_len is_ascii_digit (b ∷ bs) ≡ suc (prefix_len is_ascii_digit bs) =
      ap (λ t. cond t (1 + prefix_len is_ascii_digit bs) 0) yes-digit ∙ omega arith in
      subst (λ k. AllDigits 10 (take k (b ∷ bs))) (sym longer) (ascii-digit b yes-digit, digits-all bs)
  | inr other ↦
      let none : prefix_len is_ascii_digit (b ∷ bs) ≡ 0 = ap (λ t. cond t (1 + prefix_len is_ascii_digit bs) 0) other in
      subst (λ k. AllDigits 10 (take k (b ∷ bs))) (sym none) tt
]

pub all-append : (xs ys : List ℕ) → AllDigits 10 xs → AllDigits 10 ys → AllDigits 10 (xs ++ ys)
all-append [] ys all-x all-y = all-y
all-append (x ∷ xs) ys all-x all-y = (all-x.0, all-append xs ys all-x.1 all-y)

-- a power's text is UTF-8
one-ascii : (b : ℕ) (bs : List ℕ) → b < 128 → IsAscii bs → IsAscii (b ∷ bs)
one-ascii b bs small ascii = IsAscii-append (b ∷ []) bs (IsAscii-from_all (b ∷ []) (λ k d less.
    let first : 0 ≡ k = omega arith in
    subst (λ i. get_or (b ∷ []) i d < 128) first small)) ascii

pub signed-ascii : (bs : List ℕ) → IsAscii (without_leading_sign bs) → IsAscii bs
signed-ascii [] ascii = ascii
signed-ascii (b ∷ bs) ascii = elim (cases_Bool (b == 45)) [
  | inl minus ↦ one-ascii b bs (omega (arith, eqb-true b 45 minus))
      (subst IsAscii (ap (λ t. cond t bs (drop (cond (b == 43) 1 0) (b ∷ bs))) minus) ascii)
  | inr other ↦ elim (cases_Bool (b == 43)) [
    | inl plus ↦ one-ascii b bs (omega (arith, eqb-true b 43 plus))
        (subst IsAscii (ap (λ t. cond t bs (drop (cond (b == 43) 1 0) (b ∷ bs))) other
        ∙ ap (λ t. drop (cond t 1 0) (b ∷ bs)) plus) ascii)
    | inr none ↦ subst IsAscii (ap (λ t. cond t bs (drop (cond (b == 43) 1 0) (b ∷ bs))) other
        ∙ ap (λ t. drop (cond t 1 0) (b ∷ bs)) none) ascii
  ]
]

pub power-utf8 : (bs : List ℕ) → IsNumeral 10 (without_leading_sign bs) → IsUtf8 bs
power-utf8 bs numeral = IsUtf8-from_ascii bs (signed-ascii bs (IsAscii-from_digits (without_leading_sign bs) numeral.1))

pub behind-utf8 : (text : List ℕ) (power : ℤ) → IsPower text power → IsUtf8 (drop 1 text)
behind-utf8 [] power is = IsUtf8-from_ascii [] IsAscii-nil
behind-utf8 (b ∷ rest) power is = power-utf8 rest is.1
