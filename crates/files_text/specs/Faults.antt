-- What a fault says.
use Rattle.std.specs.Prelude.{◌≡◌, ℕ, List}
use Rattle.files_text.specs.declared.fault.Fault.{Fault}
use Rattle.files_text.specs.declared.fault.Fault.TheVariants.{Line}

-- a line isn't in its form at a column, where something was expected
abbrev pub IsLine : Fault → (line column : ℕ) → (expected : List ℕ) → Type 0
IsLine (Line l c e) line column expected = (l ≡ line) × (c ≡ column) × (e.now ≡ expected)
IsLine fault line column expected = ⊥
