-- Lists of bits that are the same.
use Rattle.std.specs.Prelude.{Bool, List}
use Rattle.std.specs.Bool.{beq}
use Rattle.std.specs.Cmp.Lexicographic.{pointwise}

-- whether two lists are as long and have the same bit at each place
-- Example: 10 and 101: false
abbrev pub same_bits : List Bool → List Bool → Bool
same_bits bits others = pointwise beq bits others
