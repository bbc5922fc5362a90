-- What can be wrong with the nodes of a flow graph, and which node is the first with a fault.
use Rattle.std.specs.Prelude.{◌≡◌, ◌≢◌, ℕ, ◌<◌, List, [], ◌++◌, length, slice_get, Some, All, codes}
use Rattle.std.specs.Fmt.{decimal}
use Rattle.vob_flow.specs.declared.live.Flow.{Flow}
use Rattle.vob_flow.specs.declared.live.LiveError.{LiveError}
use Rattle.vob_flow.specs.declared.live.LiveError.TheVariants.{Memory, BadVariable, BadNext}

-- a node that reads and writes variables alone
abbrev pub NamesVariables : ℕ → Flow → Type 0
NamesVariables vars flow =
    All (λ v. v < vars) flow.reads.items × All (λ v. v < vars) flow.writes.items

-- a node with nodes alone next to it
abbrev pub NamesNodes : ℕ → Flow → Type 0
NamesNodes count flow = All (λ m. m < count) flow.next.items

-- a node at which nothing is wrong
abbrev pub IsSound : ℕ → List Flow → Flow → Type 0
IsSound vars nodes flow = NamesVariables vars flow × NamesNodes (length nodes) flow

-- node n is the first at which something is wrong: it names no variable
pub record IsBadVariable (vars : ℕ) (nodes : List Flow) (n : ℕ) : Type 0 where
  pub lower : (k : ℕ) (flow : Flow) → k < n → slice_get nodes k ≡ Some flow →
      IsSound vars nodes flow
  pub flow : Flow
  pub is : slice_get nodes n ≡ Some flow
  pub bad : ¬ NamesVariables vars flow

-- node n is the first at which something is wrong: it names variables alone, and leads to no node
pub record IsBadNext (vars : ℕ) (nodes : List Flow) (n : ℕ) : Type 0 where
  pub lower : (k : ℕ) (flow : Flow) → k < n → slice_get nodes k ≡ Some flow →
      IsSound vars nodes flow
  pub flow : Flow
  pub is : slice_get nodes n ≡ Some flow
  pub good : NamesVariables vars flow
  pub bad : ¬ NamesNodes (length nodes) flow

-- what is wrong with the nodes
abbrev pub IsFlowFault : ℕ → List Flow → LiveError → Type 0
IsFlowFault vars nodes Memory = ⊥
IsFlowFault vars nodes (BadVariable n) = IsBadVariable vars nodes n
IsFlowFault vars nodes (BadNext n) = IsBadNext vars nodes n

-- why a call over some nodes may fail: one of them is at fault, or memory ran out for some
abbrev pub MayRefuseNodes : ℕ → List Flow → LiveError → Type 0
MayRefuseNodes vars nodes Memory = nodes ≢ []
MayRefuseNodes vars nodes fault = IsFlowFault vars nodes fault

-- the number of a refusal
abbrev pub live_error_number : LiveError → ℕ
live_error_number Memory = 2
live_error_number (BadVariable node) = 5
live_error_number (BadNext node) = 6

-- the text of a refusal
abbrev pub live_error_text : LiveError → List ℕ
live_error_text Memory = codes "out of memory"
live_error_text (BadVariable node) = codes "node " ++ decimal node ++ codes " names no variable"
live_error_text (BadNext node) = codes "node " ++ decimal node ++ codes " leads to no node"
