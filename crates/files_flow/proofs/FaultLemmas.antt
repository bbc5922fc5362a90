-- Faults of a text, and those of writing.
use Rattle.std.proofs.Common.{Option, ℕ, List}
use Rattle.std.specs.Io.KnownBytes.{Keeps}
use Rattle.files_dot.specs.declared.notation.Notation.{Notation}
use Rattle.files_dot.specs.declared.notation.Notation.TheVariants.{Lines}
use Rattle.files_text.specs.declared.fault.Fault.{Fault}
use Rattle.files_text.specs.declared.fault.Fault.TheVariants.{Input, Line, Memory, Output}
use Rattle.files_flow.specs.Analyses.{FailsOf, IsOutputFault, IsUnreadIn}
use Rattle.files_flow.specs.FlowFaults.{IsUnread}
use Rattle.files_flow.specs.declared.analysis.Analysis.{Analysis}
use Rattle.files_flow.specs.declared.fault.FlowFault.{FlowFault}
use Rattle.files_flow.specs.declared.fault.FlowFault.TheVariants.{NoNode, NoTree, NoVariables, Text, Twice}
use Rattle.files_flow.specs.declared.form.FlowForm.{FlowForm}

module _ (text : List ℕ) (analysis : Analysis) (form : Option FlowForm) (old new : Option (List ℕ)) where
  -- nothing was written before the text was read
  pub unread_fails : Keeps old new → (fault : FlowFault) → IsUnread text fault →
      FailsOf Lines text analysis form fault old new
  unread_fails same (Text Memory) is = tt
  unread_fails same (Text (Output error)) is = tt
  unread_fails same (Text (Input error)) is = (is, same)
  unread_fails same (Text (Line line column expected)) is = (is, same)
  unread_fails same (Twice line column name) is = (is, same)
  unread_fails same (NoNode line column name) is = (is, same)
  unread_fails same NoVariables is = absurd is.2
  unread_fails same NoTree is = absurd is.2

  pub text_fails : (notation : Notation) → Keeps old new → (fault : Fault) → IsUnreadIn notation text (Text fault) →
      FailsOf notation text analysis form (Text fault) old new
  text_fails notation same Memory is = tt
  text_fails notation same (Output error) is = tt
  text_fails notation same (Input error) is = (is, same)
  text_fails notation same (Line line column expected) is = (is, same)

  pub output_fails : (notation : Notation) (fault : Fault) → IsOutputFault fault →
      FailsOf notation text analysis form (Text fault) old new
  output_fails notation Memory is = tt
  output_fails notation (Output error) is = tt
  output_fails notation (Input error) is = absurd is
  output_fails notation (Line line column expected) is = absurd is
