-- What a relation asks of two values.
use Rattle.std.specs.Prelude.{Bool}
use Rattle.std.specs.Ordering.{is_eq, is_ge, is_gt, is_le, is_lt, is_ne}
use Rattle.std.specs.declared.cmp.Ordering.{Ordering}
use Rattle.files_condition.specs.declared.condition.Relation.{Relation}
use Rattle.files_condition.specs.declared.condition.Relation.TheVariants.{Equal, Greater, GreaterOrEqual, Less, LessOrEqual, NotEqual}

-- whether a relation holds of two values in an order
abbrev pub holds : Relation → Ordering → Bool
holds Equal order = is_eq order
holds NotEqual order = is_ne order
holds Less order = is_lt order
holds LessOrEqual order = is_le order
holds Greater order = is_gt order
holds GreaterOrEqual order = is_ge order
