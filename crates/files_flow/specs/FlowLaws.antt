-- A text has one flow graph, and each analysis of it is written in one way.
use Rattle.std.specs.Prelude.{◌≡◌, ℕ, List, Option, Some, map}
use Rattle.files_dot.specs.declared.notation.Notation.{Notation}
use Rattle.files_flow.specs.Analyses.{WritesAnalysis}
use Rattle.files_flow.specs.Flows.{IsFlowOf, list_of}
use Rattle.files_flow.specs.declared.analysis.Analysis.{Analysis}
use Rattle.files_flow.specs.declared.flow.FlowGraph.{FlowGraph}
use Rattle.files_flow.specs.declared.form.FlowForm.{FlowForm}
use Rattle.files_flow.specs.declared.nodes.Kind.{Kind}

-- two flow graphs have the same names and variables, and node by node the same lists
pub record AreAlike (graph other : FlowGraph) : Type 0 where
  pub names : graph.names ≡ other.names
  pub variables : graph.variables ≡ other.variables
  pub lists : (kind : Kind) → map (list_of kind) graph.nodes.items ≡ map (list_of kind) other.nodes.items

-- two flow graphs of one text in lines are alike
abbrev pub GraphsAreOne : Type 0
GraphsAreOne = (text : List ℕ) (graph other : FlowGraph) → IsFlowOf text graph → IsFlowOf text other →
    AreAlike graph other

-- equal texts give equal bytes: by one analysis of one text, in one form, the same bytes grow to the
-- same, whatever its notation
abbrev pub OutputsAreOne : Type 0
OutputsAreOne = (said : Option Notation) (text : List ℕ) (analysis : Analysis) (form : Option FlowForm)
    (old new other : List ℕ) → WritesAnalysis said text analysis form (Some old) (Some new) →
    WritesAnalysis said text analysis form (Some old) (Some other) → new ≡ other
