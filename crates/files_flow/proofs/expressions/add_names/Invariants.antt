-- The names so far were added.
use Rattle.std.specs.List.{flat_map}
use Rattle.std.proofs.Common.{◌≡◌, ◌++◌, ◌∷◌, take}
use Rattle.files_text.specs.Printed.{name_at}
use Rattle.files_flow.proofs.expressions.add_names.Given as goal

abbrev pub invariant-loop-variable : goal.invariant-loop-variable
invariant-loop-variable l = l.label.items
    ≡ l.fn.label.items ++ flat_map (λ variable. 32 ∷ name_at l.variables variable) (take l.variable-index l.others)
