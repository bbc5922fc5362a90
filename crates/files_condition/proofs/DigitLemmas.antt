-- Digits, what they write, and their order.
use Rattle.std.proofs.Common.{◌≡◌, inl, inr, ℕ, suc, ◌+◌, ◌*◌, ◌^◌, ◌<◌, List, [], ◌∷◌, length, get_or, drop, arith, refl, sym, ap, ◌∙◌, get_or-drop, drop-drop}
use Rattle.std.proofs.Math.Nat.{pow-suc, mul_comm, mul-le-mul_right, mul-lt-mul_of_pos_right}
use Rattle.std.proofs.lemmas.Str.{digit_value_digit}
use Rattle.std.proofs.lemmas.Str.Parse.{digit_from_value}
use Rattle.std.specs.Cmp.{nat_cmp_is}
use Rattle.std.specs.declared.cmp.Ordering.TheVariants.{Less, Equal, Greater}
use Rattle.std.proofs.lemmas.Bool.{cases_order}
use Rattle.std.proofs.lemmas.Int.Digits.{digits_value-lt}
use Rattle.std.specs.Char.{digit_value}
use Rattle.std.specs.Ordering.{nat_cmp, ordering_then}
use Rattle.std.specs.Str.Parse.{AllDigits, digits_value, digits_value_after}
use Rattle.files_condition.specs.Numbers.{above}
use Rattle.files_condition.specs.Padded.{padded_cmp}

-- a digit more
distributes : (n v p : ℕ) → (n * 10 + v) * p ≡ n * (p * 10) + v * p
distributes n v p = grind arith

-- the digits behind others
after : (n : ℕ) (ds : List ℕ) → digits_value_after 10 n ds ≡ n * 10 ^ length ds + digits_value 10 ds
after n [] = omega arith
after n (d ∷ ds) = omega (
  arith,
  after (n * 10 + digit_value d) ds,
  after (0 * 10 + digit_value d) ds,
  pow-suc 10 (length ds),
  distributes n (digit_value d) (10 ^ length ds),
  distributes 0 (digit_value d) (10 ^ length ds),
  ap (λ p. n * p) (pow-suc 10 (length ds)),
)

-- the first digit, and the others
pub value-cons : (d : ℕ) (ds : List ℕ) → digits_value 10 (d ∷ ds) ≡ digit_value d * 10 ^ length ds + digits_value 10 ds
value-cons d ds = omega (arith, after (0 * 10 + digit_value d) ds, distributes 0 (digit_value d) (10 ^ length ds))

-- a step of the order of digits
padded-step : (xs ys : List ℕ) → padded_cmp xs ys
    ≡ ordering_then (nat_cmp (get_or xs 0 48) (get_or ys 0 48)) (padded_cmp (drop 1 xs) (drop 1 ys))
padded-step [] [] = refl
padded-step [] (y ∷ ys) = refl
padded-step (x ∷ xs) [] = refl
padded-step (x ∷ xs) (y ∷ ys) = refl

pub padded-at : (xs ys : List ℕ) (i j : ℕ) → padded_cmp (drop i xs) (drop j ys)
    ≡ ordering_then (nat_cmp (get_or xs i 48) (get_or ys j 48)) (padded_cmp (drop (i + 1) xs) (drop (j + 1) ys))
padded-at xs ys i j =
    padded-step (drop i xs) (drop j ys)
    ∙ ap (λ d. ordering_then (nat_cmp d (get_or (drop j ys) 0 48)) (padded_cmp (drop 1 (drop i xs)) (drop 1 (drop j ys))))
    (get_or-drop i xs 0 48 ∙ ap (λ k. get_or xs k 48) (omega arith))
    ∙ ap (λ d. ordering_then (nat_cmp (get_or xs i 48) d) (padded_cmp (drop 1 (drop i xs)) (drop 1 (drop j ys))))
    (get_or-drop j ys 0 48 ∙ ap (λ k. get_or ys k 48) (omega arith))
    ∙ ap (λ tail. ordering_then (nat_cmp (get_or xs i 48) (get_or ys j 48)) (padded_cmp tail (drop 1 (drop j ys))))
    (drop-drop 1 i xs ∙ ap (λ k. drop k xs) (omega arith))
    ∙ ap (λ tail. ordering_then (nat_cmp (get_or xs i 48) (get_or ys j 48)) (padded_cmp (drop (i + 1) xs) tail))
    (drop-drop 1 j ys ∙ ap (λ k. drop k ys) (omega arith))

-- ---- the order of products

-- a factor above 0 keeps an order
pub grows : (a b c : ℕ) → a < b → 0 < c → a * c < b * c
grows a b c less above = mul-lt-mul_of_pos_right less above

pub scaled : (a b c : ℕ) → 0 < c → nat_cmp (a * c) (b * c) ≡ nat_cmp a b
scaled a b c above = elim (cases_order a b) [
  | inl same ↦ sym (nat_cmp_is (a * c) (b * c) Equal (ap (λ x. x * c) same)) ∙ nat_cmp_is a b Equal same
  | inr (inl less) ↦ sym (nat_cmp_is (a * c) (b * c) Less (grows a b c less above)) ∙ nat_cmp_is a b Less less
  | inr (inr more) ↦ sym (nat_cmp_is (a * c) (b * c) Greater (grows b a c more above)) ∙ nat_cmp_is a b Greater more
]

-- one more time
add-one-times : (d x : ℕ) → suc d * x ≡ d * x + x
add-one-times d x = grind arith

-- a greater first digit decides
expand : (d a p q : ℕ) → (d * p + a) * (q * 10) ≡ 10 * (d * (p * q)) + 10 * (a * q)
expand d a p q = grind arith

less-digits : (d e a b p q : ℕ) → a < p → b < q → d < e → (d * p + a) * (q * 10) < (e * q + b) * (p * 10)
less-digits d e a b p q below-p below-q less =
    omega (
      arith,
      expand d a p q,
      expand e b q p,
      mul_comm q p,
      grows a p q below-p (omega arith),
      mul-le-mul_right (p * q) less,
      add-one-times d (p * q),
      ap (λ x. e * x) (mul_comm q p),
    )

same-digits : (d e a b p q : ℕ) → d ≡ e → nat_cmp (a * q) (b * p) ≡ nat_cmp ((d * p + a) * (q * 10)) ((e * q + b) * (p * 10))
same-digits d e a b p q same = elim (cases_order (a * q) (b * p)) [
  | inl equal ↦ sym (nat_cmp_is (a * q) (b * p) Equal equal)
      ∙ nat_cmp_is ((d * p + a) * (q * 10)) ((e * q + b) * (p * 10)) Equal
      (omega (arith, expand d a p q, expand e b q p, ap (λ x. e * x) (mul_comm q p), ap (λ x. x * (p * q)) same))
  | inr (inl less) ↦ sym (nat_cmp_is (a * q) (b * p) Less less)
      ∙ nat_cmp_is ((d * p + a) * (q * 10)) ((e * q + b) * (p * 10)) Less
      (omega (arith, expand d a p q, expand e b q p, ap (λ x. e * x) (mul_comm q p), ap (λ x. x * (p * q)) same))
  | inr (inr more) ↦ sym (nat_cmp_is (a * q) (b * p) Greater more)
      ∙ nat_cmp_is ((d * p + a) * (q * 10)) ((e * q + b) * (p * 10)) Greater
      (omega (arith, expand d a p q, expand e b q p, ap (λ x. e * x) (mul_comm q p), ap (λ x. x * (p * q)) same))
]

-- one digit more before numbers of as many digits each
first-digits : (d e a b p q : ℕ) → a < p → b < q →
    ordering_then (nat_cmp d e) (nat_cmp (a * q) (b * p)) ≡ nat_cmp ((d * p + a) * (q * 10)) ((e * q + b) * (p * 10))
first-digits d e a b p q below-p below-q = elim (cases_order d e) [
  | inl same ↦
      ap (λ o. ordering_then o (nat_cmp (a * q) (b * p))) (sym (nat_cmp_is d e Equal same))
      ∙ same-digits d e a b p q same
  | inr (inl less) ↦
      ap (λ o. ordering_then o (nat_cmp (a * q) (b * p))) (sym (nat_cmp_is d e Less less))
      ∙ nat_cmp_is ((d * p + a) * (q * 10)) ((e * q + b) * (p * 10)) Less (less-digits d e a b p q below-p below-q less)
  | inr (inr more) ↦
      ap (λ o. ordering_then o (nat_cmp (a * q) (b * p))) (sym (nat_cmp_is d e Greater more))
      ∙ nat_cmp_is ((d * p + a) * (q * 10)) ((e * q + b) * (p * 10)) Greater (less-digits e d b a q p below-q below-p more)
]

-- ---- digits by their values

-- a digit's byte is 48 more than its value
pub byte-of : (c : ℕ) → digit_value c < 10 → digit_value c + 48 ≡ c
byte-of c small = digit_value_digit c (digit_from_value c small)

-- bytes of digits are ordered as their values are
digits-order : (c d : ℕ) → digit_value c < 10 → digit_value d < 10 → nat_cmp c d ≡ nat_cmp (digit_value c) (digit_value d)
digits-order c d small-c small-d = elim (cases_order (digit_value c) (digit_value d)) [
  | inl same ↦ sym (nat_cmp_is c d Equal (omega (arith, byte-of c small-c, byte-of d small-d)))
      ∙ nat_cmp_is (digit_value c) (digit_value d) Equal same
  | inr (inl less) ↦ sym (nat_cmp_is c d Less (omega (arith, byte-of c small-c, byte-of d small-d)))
      ∙ nat_cmp_is (digit_value c) (digit_value d) Less less
  | inr (inr more) ↦ sym (nat_cmp_is c d Greater (omega (arith, byte-of c small-c, byte-of d small-d)))
      ∙ nat_cmp_is (digit_value c) (digit_value d) Greater more
]

-- equal numbers have one order
pub same-cmp : {a b c d : ℕ} → a ≡ c → b ≡ d → nat_cmp a b ≡ nat_cmp c d
same-cmp {a = a} {d = d} first second = ap (λ x. nat_cmp a x) second ∙ ap (λ x. nat_cmp x d) first

pub factors : {a b c d : ℕ} → a ≡ c → b ≡ d → a * b ≡ c * d
factors {a = a} {d = d} first second = ap (λ x. a * x) second ∙ ap (λ x. x * d) first

-- no digits against some
none-first : (v w q r : ℕ) → v ≡ w → nat_cmp ((0 * 1 + 0) * (q * 10)) (v * (1 * 10)) ≡ nat_cmp (0 * r) (w * 1)
none-first v w q r same = same-cmp {a = (0 * 1 + 0) * (q * 10)} {b = v * (1 * 10)} {c = 0 * 10} {d = v * 10} (omega arith) (omega arith) ∙ scaled 0 v 10 (omega arith)
    ∙ same-cmp {a = 0} {b = v} {c = 0 * r} {d = w * 1} (omega arith) (omega arith)

none-second : (v w p r : ℕ) → v ≡ w → nat_cmp (v * (1 * 10)) ((0 * 1 + 0) * (p * 10)) ≡ nat_cmp (w * 1) (0 * r)
none-second v w p r same = same-cmp {a = v * (1 * 10)} {b = (0 * 1 + 0) * (p * 10)} {c = v * 10} {d = 0 * 10} (omega arith) (omega arith) ∙ scaled v 0 10 (omega arith)
    ∙ same-cmp {a = v} {b = 0} {c = w * 1} {d = 0 * r} (omega arith) (omega arith)

-- the order of digits behind a point is that of numbers over one line
pub compares : (xs ys : List ℕ) → AllDigits 10 xs → AllDigits 10 ys → padded_cmp xs ys
    ≡ nat_cmp (digits_value 10 xs * 10 ^ length ys) (digits_value 10 ys * 10 ^ length xs)
compares [] [] all-x all-y = refl
compares [] (y ∷ ys) all-x all-y =
    ap (λ o. ordering_then o (padded_cmp [] ys)) (digits-order 48 y (omega arith) all-y.0)
    ∙ ap (λ o. ordering_then (nat_cmp 0 (digit_value y)) o) (compares [] ys tt all-y.1)
    ∙ first-digits 0 (digit_value y) 0 (digits_value 10 ys) 1 (10 ^ length ys) (omega arith) (digits_value-lt 10 ys all-y.1)
    ∙ none-first (digit_value y * 10 ^ length ys + digits_value 10 ys) (digits_value 10 (y ∷ ys)) (10 ^ length ys)
    (10 ^ length (y ∷ ys)) (sym (value-cons y ys))
compares (x ∷ xs) [] all-x all-y =
    ap (λ o. ordering_then o (padded_cmp xs [])) (digits-order x 48 all-x.0 (omega arith))
    ∙ ap (λ o. ordering_then (nat_cmp (digit_value x) 0) o) (compares xs [] all-x.1 tt)
    ∙ first-digits (digit_value x) 0 (digits_value 10 xs) 0 (10 ^ length xs) 1 (digits_value-lt 10 xs all-x.1) (omega arith)
    ∙ none-second (digit_value x * 10 ^ length xs + digits_value 10 xs) (digits_value 10 (x ∷ xs)) (10 ^ length xs)
    (10 ^ length (x ∷ xs)) (sym (value-cons x xs))
compares (x ∷ xs) (y ∷ ys) all-x all-y =
    ap (λ o. ordering_then o (padded_cmp xs ys)) (digits-order x y all-x.0 all-y.0)
    ∙ ap (λ o. ordering_then (nat_cmp (digit_value x) (digit_value y)) o) (compares xs ys all-x.1 all-y.1)
    ∙ first-digits (digit_value x) (digit_value y) (digits_value 10 xs) (digits_value 10 ys) (10 ^ length xs)
    (10 ^ length ys) (digits_value-lt 10 xs all-x.1) (digits_value-lt 10 ys all-y.1)
    ∙ same-cmp (factors (sym (value-cons x xs)) (sym (pow-suc 10 (length ys))))
    (factors (sym (value-cons y ys)) (sym (pow-suc 10 (length xs))))
