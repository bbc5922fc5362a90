-- Decimal numbers in texts, and their order.
use mir.Syntax.{w32}
use mir.Val.{SFits}
use Rattle.std.specs.Prelude.{◌≡◌, ◌⊎◌, ℕ, ◌+◌, ◌*◌, ◌^◌, ◌<◌, ◌==◌, Bool, if◌then◌else◌, ℤ, pos, negsuc, neg_ℤ, List, [], ◌∷◌, ◌++◌, drop, length, slice_index, take}
use Rattle.std.specs.Char.{is_ascii_digit}
use Rattle.std.specs.List.{prefix_len}
use Rattle.std.specs.Ordering.{int_cmp}
use Rattle.std.specs.Float.Numeral.{dot, lower_e, upper_e}
use Rattle.std.specs.Str.Parse.{IsNumeral, digits_value, signed_digits_value, starts_with_minus, without_leading_sign}
use Rattle.std.specs.declared.cmp.Ordering.{Ordering}

-- the parts of a number: its sign, its digits before the point and after it, and a power of ten
pub record Decimal : Type 0 where
  pub negative : Bool
  pub whole : List ℕ
  pub fraction : List ℕ
  pub power : ℤ

-- the digits that a text begins with, and what comes after
abbrev pub digits_in : List ℕ → List ℕ
digits_in text = take (prefix_len is_ascii_digit text) text

abbrev pub behind_digits : List ℕ → List ℕ
behind_digits text = drop (prefix_len is_ascii_digit text) text

-- the digits after a point, if it is next, and what comes after these
abbrev pub fraction_in : List ℕ → List ℕ
fraction_in text = if slice_index text 0 == dot then digits_in (drop 1 text) else []

abbrev pub behind_fraction : List ℕ → List ℕ
behind_fraction text = if slice_index text 0 == dot then behind_digits (drop 1 text) else text

-- a power of ten after the digits: none, or `e`, perhaps a sign, and digits of a number that an `i32` holds
abbrev pub IsPower : List ℕ → ℤ → Type 0
IsPower [] power = power ≡ pos 0
IsPower (byte ∷ rest) power = ((byte ≡ lower_e) ⊎ (byte ≡ upper_e)) × IsNumeral 10 (without_leading_sign rest)
    × SFits w32 (signed_digits_value 10 rest) × (power ≡ signed_digits_value 10 rest)

-- a text without its sign is digits, perhaps a point and digits, and perhaps a power of ten
pub record IsNumber (text : List ℕ) (number : Decimal) : Type 0 where
  pub negative : number.negative ≡ starts_with_minus text
  pub whole : number.whole ≡ digits_in (without_leading_sign text)
  pub fraction : number.fraction ≡ fraction_in (behind_digits (without_leading_sign text))
  pub some : 0 < length (number.whole ++ number.fraction)
  pub power : IsPower (behind_fraction (behind_digits (without_leading_sign text))) number.power

-- a power of ten as one above a line, and one below it
abbrev pub above : ℤ → ℕ
above (pos n) = n
above (negsuc n) = 0

abbrev pub below : ℤ → ℕ
below (pos n) = 0
below (negsuc n) = n + 1

-- a number without its sign is digits times 10^up over 10^down
abbrev pub digits : Decimal → ℕ
digits number = digits_value 10 (number.whole ++ number.fraction)

abbrev pub up : Decimal → ℕ
up number = above number.power

abbrev pub down : Decimal → ℕ
down number = length number.fraction + below number.power

-- an integer with a sign
abbrev pub signed : Bool → ℕ → ℤ
signed negative size = if negative then neg_ℤ (pos size) else pos size

-- the order of two numbers: that of integers, once both are over one line
abbrev pub order_of : Decimal → Decimal → Ordering
order_of first second = int_cmp (signed first.negative (digits first * 10 ^ (up first + down second)))
    (signed second.negative (digits second * 10 ^ (up second + down first)))
