-- The flow graph of a text: what each node reads, writes and leads to, by numbers.
use Rattle.std.specs.Prelude.{◌≡◌, ◌==◌, ◌&&◌, ◌<◌, ℕ, Bool, true, false, not, List, [], ◌∷◌, length, map, filter, slice_get, Some, All, ⊤}
use Rattle.vob_flow.specs.declared.live.Flow.{Flow}
use Rattle.files_text.specs.Names.{names_in}
use Rattle.files_flow.specs.declared.flow.FlowGraph.{FlowGraph}
use Rattle.files_flow.specs.declared.nodes.Kind.{Kind}
use Rattle.files_flow.specs.declared.nodes.Kind.TheVariants.{Reads, Writes, Next}
use Rattle.files_flow.specs.Nodes.{HasNodes, Mention}
use Rattle.files_flow.specs.FlowFaults.{IsFound}

abbrev pub is_kind : Kind → Kind → Bool
is_kind Reads Reads = true
is_kind Writes Writes = true
is_kind Next Next = true
is_kind kind other = false

-- the names that a node reads, or writes, or leads to, in the order of the text
abbrev pub said_of : (node : ℕ) → Kind → List Mention → List (List ℕ)
said_of n kind mentions =
    map (λ mention. mention.name.text) (filter (λ mention. (mention.node == n) && is_kind mention.kind kind) mentions)

-- the variables, in the order in which they first come
abbrev pub variables_in : List Mention → List (List ℕ)
variables_in mentions =
    names_in (map (λ mention. mention.name.text) (filter (λ mention. not (is_kind mention.kind Next)) mentions))

-- the numbers of some texts among names
abbrev pub AreNumbers : (names : List (List ℕ)) → List ℕ → List (List ℕ) → Type 0
AreNumbers names [] [] = ⊤
AreNumbers names (number ∷ numbers) (text ∷ texts) = (slice_get names number ≡ Some text) × AreNumbers names numbers texts
AreNumbers names numbers texts = ⊥

abbrev pub list_of : Kind → Flow → List ℕ
list_of Reads node = node.reads.items
list_of Writes node = node.writes.items
list_of Next node = node.next.items

-- where the names of a kind have their numbers
abbrev pub names_for : (names variables : List (List ℕ)) → Kind → List (List ℕ)
names_for names variables Next = names
names_for names variables kind = variables

-- nodes have the numbers of what is said of each, once, in the order in which the names first come
pub record AreFlows (names variables : List (List ℕ)) (nodes : List Flow) (mentions : List Mention) : Type 0 where
  pub count : length nodes ≡ length names
  pub each : (n : ℕ) (node : Flow) → slice_get nodes n ≡ Some node → (kind : Kind) →
      AreNumbers (names_for names variables kind) (list_of kind node) (names_in (said_of n kind mentions))

-- the flow graph of a text, in which each name to which a node leads is that of a node
pub record IsFlowOf (text : List ℕ) (graph : FlowGraph) : Type 0 where
  pub mentions : List Mention
  pub has : HasNodes text graph.names mentions
  pub found : All (IsFound graph.names) mentions
  pub variables : graph.variables ≡ variables_in mentions
  pub flows : AreFlows graph.names graph.variables graph.nodes.items mentions

-- the numbers in the lists of each node are those of variables and nodes
pub record IsInRange (graph : FlowGraph) : Type 0 where
  pub count : length graph.nodes.items ≡ length graph.names
  pub each : (n : ℕ) (node : Flow) → slice_get graph.nodes.items n ≡ Some node → (kind : Kind) →
      All (λ number. number < length (names_for graph.names graph.variables kind)) (list_of kind node)
