-- What `closure` makes of a text: what it writes, and why it fails.
use Rattle.std.specs.Prelude.{◌≡◌, ℕ, List, Option, Contains, ⊤}
use Rattle.std.specs.Io.KnownBytes.{Keeps}
use Rattle.std.specs.String.{string_bytes}
use Rattle.files_dot.specs.Notations.{IsIn}
use Rattle.files_dot.specs.declared.notation.Notation.{Notation}
use Rattle.files_text.specs.Printed.{Writes}
use Rattle.files_text.specs.declared.fault.Fault.TheVariants.{Memory, Output}
use Rattle.files_graph.specs.ClosureText.{ListsPart}
use Rattle.files_graph.specs.Graphs.{IsGraphOf, IsUnread}
use Rattle.files_graph.specs.declared.closure.Part.{Part}
use Rattle.files_graph.specs.declared.closure.Part.TheVariants.{From}
use Rattle.files_graph.specs.declared.fault.GraphFault.{GraphFault}
use Rattle.files_graph.specs.declared.form.GraphForm.{GraphForm}
use Rattle.files_graph.specs.declared.fault.GraphFault.TheVariants.{Text, Name}

-- known bytes grew by a part of the closure of a graph in a notation, in a form
pub record WritesPartOf (notation : Notation) (text : List ℕ) (part : Part) (form : Option GraphForm)
    (old new : Option (List ℕ)) : Type 0 where
  pub names : List (List ℕ)
  pub next : List (List ℕ)
  pub graph : IsGraphOf notation text names next
  pub written : Writes old new (ListsPart form names next part)

-- the same for the notation that was said, or else that in which the text begins
abbrev pub WritesPart : (said : Option Notation) → List ℕ → Part → Option GraphForm →
    (old new : Option (List ℕ)) → Type 0
WritesPart said text part form old new =
    (notation : Notation) × IsIn said text notation × WritesPartOf notation text part form old new

-- a part is what the node with a name leads to
abbrev pub IsFrom : Part → List ℕ → Type 0
IsFrom (From name) wanted = name.now ≡ wanted
IsFrom part wanted = ⊥

-- the name to start from isn't one of the text's
pub record IsUnknown (notation : Notation) (text : List ℕ) (part : Part) (name : List ℕ) : Type 0 where
  pub names : List (List ℕ)
  pub next : List (List ℕ)
  pub graph : IsGraphOf notation text names next
  pub absent : ¬ Contains names name
  pub asked : IsFrom part name

-- why nothing was written, unless the output failed
abbrev pub FailsOf : Notation → List ℕ → Part → GraphFault → (old new : Option (List ℕ)) → Type 0
FailsOf notation text part (Text (Output error)) old new = ⊤
FailsOf notation text part (Text fault) old new = IsUnread notation text fault × Keeps old new
FailsOf notation text part (Name name) old new =
    IsUnknown notation text part (string_bytes name) × Keeps old new

abbrev pub FailsBy : (said : Option Notation) → List ℕ → Part → GraphFault → (old new : Option (List ℕ)) → Type 0
FailsBy said text part fault old new =
    (notation : Notation) × IsIn said text notation × FailsOf notation text part fault old new

-- a fault names a node
abbrev pub IsNamed : List ℕ → GraphFault → Type 0
IsNamed name (Name text) = string_bytes text ≡ name
IsNamed name fault = ⊥

-- the same of a graph that was read
abbrev pub FailsOn : (names : List (List ℕ)) → Part → GraphFault → (old new : Option (List ℕ)) → Type 0
FailsOn names part (Text Memory) old new = Keeps old new
FailsOn names part (Text (Output error)) old new = ⊤
FailsOn names part (Text fault) old new = ⊥
FailsOn names part (Name name) old new =
    (¬ Contains names (string_bytes name)) × IsFrom part (string_bytes name) × Keeps old new
