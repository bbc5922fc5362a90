-- A text has one graph, and each part of its closure is written in one way.
use Rattle.std.specs.Prelude.{◌≡◌, ◌↔◌, ℕ, List, Option, Some}
use Rattle.vob_flow.specs.Closure.{IsEdge}
use Rattle.files_dot.specs.declared.notation.Notation.{Notation}
use Rattle.files_graph.specs.Closures.{WritesPart}
use Rattle.files_graph.specs.Graphs.{IsGraphOf}
use Rattle.files_graph.specs.declared.closure.Part.{Part}
use Rattle.files_graph.specs.declared.form.GraphForm.{GraphForm}

-- each edge of one graph is one of the other, and the other way round
abbrev pub HaveSameEdges : (next other : List (List ℕ)) → Type 0
HaveSameEdges next other = (n m : ℕ) → IsEdge next n m ↔ IsEdge other n m

-- two graphs of one text have the same names and the same edges
abbrev pub GraphsAreOne : Type 0
GraphsAreOne = (notation : Notation) (text : List ℕ) (names next other_names other_next : List (List ℕ)) →
    IsGraphOf notation text names next → IsGraphOf notation text other_names other_next →
    (names ≡ other_names) × HaveSameEdges next other_next

-- equal texts give equal bytes: two outputs are equal if both grew from the same bytes by the same
-- part of the closure of one text, in one form, whatever its notation
abbrev pub OutputsAreOne : Type 0
OutputsAreOne = (said : Option Notation) (text : List ℕ) (part : Part) (form : Option GraphForm)
    (old new other : List ℕ) → WritesPart said text part form (Some old) (Some new) →
    WritesPart said text part form (Some old) (Some other) → new ≡ other
