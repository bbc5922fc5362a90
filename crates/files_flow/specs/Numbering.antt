-- Names as they get their numbers. No public clause cites this page.
use Rattle.std.specs.Prelude.{◌≡◌, ◌==◌, ◌⊎◌, ◌<◌, ℕ, List, [], ◌∷◌, ◌++◌, cond, if◌then◌else◌, not, length, slice_get, Some, All, Contains, ⊤}
use Rattle.std.specs.List.{list_any}
use Rattle.std.specs.String.{string_bytes}
use Rattle.vob_flow.specs.declared.live.Flow.{Flow}
use Rattle.files_text.specs.Names.{with_name}
use Rattle.files_text.specs.Words.{Token}
use Rattle.files_text.specs.declared.fault.Fault.TheVariants.{Memory}
use Rattle.files_flow.specs.declared.fault.FlowFault.{FlowFault}
use Rattle.files_flow.specs.declared.fault.FlowFault.TheVariants.{NoNode, Text}
use Rattle.files_flow.specs.declared.nodes.Kind.{Kind}
use Rattle.files_flow.specs.declared.nodes.Kind.TheVariants.{Next}
use Rattle.files_flow.specs.Flows.{AreFlows, is_kind, list_of, variables_in}
use Rattle.files_flow.specs.NodeFaults.{IsCalled}
use Rattle.files_flow.specs.FlowFaults.{IsFound}
use Rattle.files_flow.specs.Nodes.{Mention}

-- numbers with one more, which is the last unless it is there
abbrev pub with_number : List ℕ → ℕ → List ℕ
with_number numbers number = if list_any (λ n. n == number) numbers then numbers else numbers ++ number ∷ []

-- variables with the name that a node reads or writes
abbrev pub with_variable : List (List ℕ) → Mention → List (List ℕ)
with_variable variables mention =
    cond (not (is_kind mention.kind Next)) (with_name variables mention.name.text) variables

-- a node got a number in one of its lists
abbrev pub HasMore : Kind → ℕ → Flow → Flow → Type 0
HasMore kind number old new = (other : Kind) → list_of other new
    ≡ cond (is_kind kind other) (with_number (list_of other old) number) (list_of other old)

-- a node reads nothing, writes nothing, and leads to none
abbrev pub IsEmpty : Flow → Type 0
IsEmpty node = (kind : Kind) → list_of kind node ≡ []

-- no two names are alike
abbrev pub AreDistinct : List (List ℕ) → Type 0
AreDistinct names = (i j : ℕ) (x : List ℕ) → slice_get names i ≡ Some x → slice_get names j ≡ Some x → i ≡ j

-- nodes have what was said so far
pub record HaveSaid (names variables : List (List ℕ)) (nodes : List Flow) (mentions : List Mention) : Type 0 where
  pub found : All (IsFound names) mentions
  pub variables_are : variables ≡ variables_in mentions
  pub flows : AreFlows names variables nodes mentions

-- no node has a name, or there was no memory
abbrev pub IsNone : List (List ℕ) → Token → FlowFault → Type 0
IsNone names word (Text Memory) = ⊤
IsNone names word (NoNode line column name) = (¬ Contains names word.text) × IsCalled word line column (string_bytes name)
IsNone names word fault = ⊥

-- why a name has no number: a node leads to no node, or there was no memory
abbrev pub IsUnnumbered : List (List ℕ) → Mention → FlowFault → Type 0
IsUnnumbered names mention (Text Memory) = ⊤
IsUnnumbered names mention (NoNode line column name) =
    (mention.kind ≡ Next) × IsNone names mention.name (NoNode line column name)
IsUnnumbered names mention fault = ⊥

-- the same for the first name of some that has none
abbrev pub AreUnnumbered : List (List ℕ) → List Mention → FlowFault → Type 0
AreUnnumbered names mentions fault = (fault ≡ Text Memory) ⊎ ((early : List Mention) × (mention : Mention)
    × (late : List Mention) × (mentions ≡ early ++ mention ∷ late) × All (IsFound names) early
    × IsUnnumbered names mention fault)

-- the names of nodes are distinct, and each mention is of a node
abbrev pub AreSound : List (List ℕ) → List Mention → Type 0
AreSound names mentions = AreDistinct names × All (λ mention. mention.node < length names) mentions
