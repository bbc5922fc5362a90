-- Digits of numbers, as they are compared. No public clause cites this page.
use Rattle.std.specs.Prelude.{◌==◌, ℕ, Bool, List, [], ◌∷◌, ◌++◌}
use Rattle.std.specs.List.{prefix_len}
use Rattle.std.specs.Ordering.{nat_cmp, ordering_then}
use Rattle.files_condition.specs.Numbers.{Decimal}
use Rattle.std.specs.declared.cmp.Ordering.{Ordering}
use Rattle.std.specs.declared.cmp.Ordering.TheVariants.{Equal}

-- whether a byte is the digit 0
abbrev pub is_zero : ℕ → Bool
is_zero byte = byte == 48

-- the order of digits, the shorter ones with zeros behind
abbrev pub padded_cmp : List ℕ → List ℕ → Ordering
padded_cmp [] [] = Equal
padded_cmp [] (b ∷ bs) = ordering_then (nat_cmp 48 b) (padded_cmp [] bs)
padded_cmp (a ∷ others) [] = ordering_then (nat_cmp a 48) (padded_cmp others [])
padded_cmp (a ∷ others) (b ∷ bs) = ordering_then (nat_cmp a b) (padded_cmp others bs)

-- all digits of a number
abbrev pub digits_of : Decimal → List ℕ
digits_of number = number.whole ++ number.fraction

-- the digits from the first one above 0 on
abbrev pub zeros_of : Decimal → ℕ
zeros_of number = prefix_len is_zero (digits_of number)
