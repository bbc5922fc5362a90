-- What `flow` makes of a text: what it writes, and why it fails.
use Rattle.std.specs.Prelude.{◌≡◌, ℕ, Bool, true, false, List, Option, None, Some, ⊤}
use Rattle.std.specs.Io.KnownBytes.{Keeps}
use Rattle.files_dot.specs.Notations.{IsIn}
use Rattle.files_dot.specs.Texts.{IsUnreadDot}
use Rattle.files_dot.specs.declared.notation.Notation.{Notation}
use Rattle.files_dot.specs.declared.notation.Notation.TheVariants.{Dot, Lines}
use Rattle.files_text.specs.Printed.{Writes}
use Rattle.files_text.specs.declared.fault.Fault.{Fault}
use Rattle.files_text.specs.declared.fault.Fault.TheVariants.{Memory, Output}
use Rattle.files_flow.specs.DotFlows.{WritesDominance}
use Rattle.files_flow.specs.FlowForms.{IsFramed}
use Rattle.files_flow.specs.Problems.{AreBefore}
use Rattle.files_flow.specs.Trees.{IsTree}
use Rattle.files_flow.specs.FlowText.{ListsDominators, ListsImmediate, ListsLive, ListsReaching}
use Rattle.files_flow.specs.Available.{ListsAvailable, ListsBusy}
use Rattle.files_flow.specs.Flows.{IsFlowOf}
use Rattle.files_flow.specs.FlowFaults.{IsUnread}
use Rattle.files_flow.specs.declared.analysis.Analysis.{Analysis}
use Rattle.files_flow.specs.declared.analysis.Analysis.TheVariants.{Live, Reaching, Available, Busy, Dominators, Immediate}
use Rattle.files_flow.specs.declared.fault.FlowFault.{FlowFault}
use Rattle.files_flow.specs.declared.fault.FlowFault.TheVariants.{NoTree, NoVariables, Text}
use Rattle.files_flow.specs.declared.flow.FlowGraph.{FlowGraph}
use Rattle.files_flow.specs.declared.form.FlowForm.{FlowForm}
use Rattle.files_flow.specs.declared.form.FlowForm.TheVariants.{Dot as DotForm, Json}

-- what an analysis lists of a flow graph
abbrev pub ListsAnalysis : Analysis → (json : Bool) → FlowGraph → List ℕ → Type 0
ListsAnalysis Live json graph text = ListsLive json graph text
ListsAnalysis Reaching json graph text = ListsReaching json graph text
ListsAnalysis Available json graph text = ListsAvailable json graph text
ListsAnalysis Busy json graph text = ListsBusy json graph text
ListsAnalysis Dominators json graph text = ListsDominators json graph text
ListsAnalysis Immediate json graph text = ListsImmediate json graph text

-- the tree of the dominators of a flow graph
pub record ListsTree (graph : FlowGraph) (text : List ℕ) : Type 0 where
  pub before : List (List ℕ)
  pub are_before : AreBefore graph.nodes.items before
  pub tree : IsTree before graph.names text

-- what an analysis lists in a form: lines, JSON, or in DOT the tree of dominators
abbrev pub ListsIn : Analysis → Option FlowForm → FlowGraph → List ℕ → Type 0
ListsIn analysis None graph text = IsFramed false (ListsAnalysis analysis false graph) text
ListsIn analysis (Some Json) graph text = IsFramed true (ListsAnalysis analysis true graph) text
ListsIn analysis (Some DotForm) graph text = ListsTree graph text

-- known bytes grew by what an analysis lists of the flow graph that lines are
pub record WritesLines (text : List ℕ) (analysis : Analysis) (form : Option FlowForm) (old new : Option (List ℕ))
    : Type 0 where
  pub graph : FlowGraph
  pub graph_is : IsFlowOf text graph
  pub written : Writes old new (ListsIn analysis form graph)

-- whether a text in a notation can be analysed: a graph in DOT has no variables
abbrev pub can_read : Notation → Analysis → Bool
can_read Lines analysis = true
can_read Dot Dominators = true
can_read Dot Immediate = true
can_read Dot analysis = false

-- whether an analysis can be written in a form: immediate dominators alone are a tree
abbrev pub can_write : Analysis → Option FlowForm → Bool
can_write Immediate (Some DotForm) = true
can_write analysis (Some DotForm) = false
can_write analysis form = true

-- known bytes grew by what an analysis lists, in a form, of the flow graph in a notation
abbrev pub WritesOf : Notation → List ℕ → Analysis → Option FlowForm → (old new : Option (List ℕ)) → Type 0
WritesOf Lines text analysis form old new = WritesLines text analysis form old new
WritesOf Dot text analysis form old new = WritesDominance text analysis form old new

-- the same for the notation that was said, or else that in which the text begins
pub record WritesAnalysis (said : Option Notation) (text : List ℕ) (analysis : Analysis) (form : Option FlowForm)
    (old new : Option (List ℕ)) : Type 0 where
  pub notation : Notation
  pub is_in : IsIn said text notation
  pub reads : can_read notation analysis ≡ true
  pub forms : can_write analysis form ≡ true
  pub writes : WritesOf notation text analysis form old new

-- there was no memory, or the output failed
abbrev pub IsOutputFault : Fault → Type 0
IsOutputFault Memory = ⊤
IsOutputFault (Output error) = ⊤
IsOutputFault fault = ⊥

-- why a text in DOT is no graph
abbrev pub IsDotFault : List ℕ → FlowFault → Type 0
IsDotFault text (Text fault) = IsUnreadDot text fault
IsDotFault text fault = ⊥

-- why a text in a notation is no flow graph
abbrev pub IsUnreadIn : Notation → List ℕ → FlowFault → Type 0
IsUnreadIn Lines text fault = IsUnread text fault
IsUnreadIn Dot text fault = IsDotFault text fault

-- why nothing was written, unless memory ran out or the output failed
abbrev pub FailsOf : Notation → List ℕ → Analysis → Option FlowForm → FlowFault → (old new : Option (List ℕ)) → Type 0
FailsOf notation text analysis form (Text Memory) old new = ⊤
FailsOf notation text analysis form (Text (Output error)) old new = ⊤
FailsOf notation text analysis form NoVariables old new = (can_read notation analysis ≡ false) × Keeps old new
FailsOf notation text analysis form NoTree old new = (can_write analysis form ≡ false) × Keeps old new
FailsOf notation text analysis form fault old new = IsUnreadIn notation text fault × Keeps old new

abbrev pub FailsBy : (said : Option Notation) → List ℕ → Analysis → Option FlowForm → FlowFault →
    (old new : Option (List ℕ)) → Type 0
FailsBy said text analysis form fault old new =
    (notation : Notation) × IsIn said text notation × FailsOf notation text analysis form fault old new
