-- Why a text is no flow graph.
use Rattle.std.specs.Prelude.{◌≡◌, ℕ, List, ◌∷◌, ◌++◌, Option, All, Contains, ⊤}
use Rattle.std.specs.String.{string_bytes}
use Rattle.files_text.specs.Words.{Token}
use Rattle.files_text.specs.declared.fault.Fault.{Fault}
use Rattle.files_text.specs.declared.fault.Fault.TheVariants.{Line, Memory}
use Rattle.files_flow.specs.declared.fault.FlowFault.{FlowFault}
use Rattle.files_flow.specs.declared.fault.FlowFault.TheVariants.{NoNode, Text, Twice}
use Rattle.files_flow.specs.declared.nodes.Kind.{Kind}
use Rattle.files_flow.specs.declared.nodes.Kind.TheVariants.{Next}
use Rattle.files_flow.specs.NodeFaults.{IsCalled, IsFirstFault, IsSecond}
use Rattle.files_flow.specs.Nodes.{AreNodes, AreWordsOf, Mention}

-- a name to which a node leads is that of a node
abbrev pub IsFound : List (List ℕ) → Mention → Type 0
IsFound names mention = mention.kind ≡ Next → Contains names mention.name.text

-- all words are lines of nodes, and this is the first name to which a node leads that no node has
pub record IsAbsent (words : List Token) (line column : ℕ) (name : List ℕ) : Type 0 where
  pub last : Option ℕ
  pub part : Option Kind
  pub names : List (List ℕ)
  pub early : List Mention
  pub mention : Mention
  pub late : List Mention
  pub are_nodes : AreNodes last part words names (early ++ mention ∷ late)
  pub found : All (IsFound names) early
  pub next : mention.kind ≡ Next
  pub absent : ¬ Contains names mention.name.text
  pub called : IsCalled mention.name line column name

-- why words are no flow graph
abbrev pub IsTextFault : List Token → Fault → Type 0
IsTextFault words Memory = ⊤
IsTextFault words (Line line column expected) = IsFirstFault words line column expected.now
IsTextFault words fault = ⊥

abbrev pub IsFaultOf : List Token → FlowFault → Type 0
IsFaultOf words (Text fault) = IsTextFault words fault
IsFaultOf words (Twice line column name) = IsSecond words line column (string_bytes name)
IsFaultOf words (NoNode line column name) = IsAbsent words line column (string_bytes name)
IsFaultOf words fault = ⊥

abbrev pub IsUnread : List ℕ → FlowFault → Type 0
IsUnread text fault = (words : List Token) × AreWordsOf text words × IsFaultOf words fault
