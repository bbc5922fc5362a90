-- Columns of comparisons of numbers with one number.
use Rattle.std.specs.Prelude.{Bool, false, ℤ, int_lt, Option, Some, None}
use Rattle.std.specs.Ordering.{int_eq}
use Rattle.vob_filter.specs.declared.compare.Comparison.{Comparison}
use Rattle.vob_filter.specs.declared.compare.Comparison.TheVariants.{LessThan, EqualTo}

-- whether a comparison holds of a number
abbrev pub holds : Comparison → ℤ → Bool
holds (LessThan limit) value = int_lt value limit
holds (EqualTo wanted) value = int_eq value wanted

-- what a comparison is at a number that may be missing: it is missing too
abbrev pub compared : Comparison → Option ℤ → Option Bool
compared comparison (Some value) = Some (holds comparison value)
compared comparison None = None

-- and as a bit: it doesn't hold of a missing number
abbrev pub holds_known : Comparison → Option ℤ → Bool
holds_known comparison (Some value) = holds comparison value
holds_known comparison None = false
