-- Which variables are live at the nodes of a flow graph: the least sets that solve its flow equations, and
-- the rounds that find them.
use Rattle.std.specs.Prelude.{◌≡◌, ◌≢◌, ℕ, ◌+◌, ◌*◌, ◌≤◌, ◌⊎◌, ◌↔◌, Bool, List, [], length, slice_index_or, slice_get, Some, Contains}
pub use Rattle.vob.specs.Vobs.{bits_of}
pub use Rattle.vob_flow.specs.Draws.{AreWithin}
pub use Rattle.vob_flow.specs.LiveEquations.{AreSets, AreLeastLive, IsLive, IsLiveHere, IsLiveNext, IsSolution}
use Rattle.vob_flow.specs.Draws.{HaveShape}
use Rattle.vob_flow.specs.Turns.{ArePasses}
use Rattle.vob_flow.specs.declared.live.Flow.{Flow}
use Rattle.vob_flow.specs.declared.live.Live.{Live}
use Rattle.vob_flow.specs.declared.live.LiveRows.{LiveRows}

-- what is live before each node is read there
abbrev pub AreRead : List Flow → List (List Bool) → Type 0
AreRead nodes before = (n : ℕ) (flow : Flow) → slice_get nodes n ≡ Some flow →
    (v : ℕ) → IsLive before n v → Contains flow.reads.items v

-- in a set for each node the variables that it reads
pub record AreReadSets (vars : ℕ) (nodes : List Flow) (sets : List (List Bool)) : Type 0 where
  pub are_sets : AreSets vars (length nodes) sets
  pub each : (n : ℕ) (flow : Flow) → slice_get nodes n ≡ Some flow →
      (v : ℕ) → IsLive sets n v ↔ Contains flow.reads.items v

-- node n has its turn: what is live before a node that comes next becomes live before it, but for
-- what it writes, and no other set changes
pub record IsLiveTurn (nodes : List Flow) (n : ℕ) (before after : List (List Bool))
    : Type 0 where
  pub shape : HaveShape before after
  pub here : (v : ℕ) (flow : Flow) → slice_get nodes n ≡ Some flow →
      IsLive after n v
      ↔ (IsLive before n v ⊎ (IsLiveNext before flow v × ¬ Contains flow.writes.items v))
  pub others : (k : ℕ) → k ≢ n → slice_index_or after k [] ≡ slice_index_or before k []

-- so many rounds, from what each node reads on
pub record AreRounds (vars : ℕ) (nodes : List Flow) (before : List (List Bool)) (rounds : ℕ)
    : Type 0 where
  pub reads : List (List Bool)
  pub are_reads : AreReadSets vars nodes reads
  pub passes : ArePasses (IsLiveTurn nodes) reads before rounds

-- the least sets that meet the flow equations, found in at most one pass for each place and one
-- more; no pass was enough only if there are no nodes, and one only if it added nothing to the reads
pub record AreLiveSets (vars : ℕ) (nodes : List Flow) (before after : List (List Bool)) (passes : ℕ)
    : Type 0 where
  pub solution : IsSolution vars nodes before after
  pub least : AreLeastLive vars nodes before after
  pub rounds : passes ≤ 1 + length nodes * vars
  pub no_round : passes ≡ 0 → nodes ≡ []
  pub one_round : passes ≡ 1 → AreRead nodes before
  pub count : passes ≢ 0 → AreRounds vars nodes before passes

-- the same in Vobs
abbrev pub AreLive : ℕ → List Flow → Live → Type 0
AreLive vars nodes live =
    AreLiveSets vars nodes (bits_of live.before.items) (bits_of live.after.items) live.rounds

-- and in rows
abbrev pub AreLiveRows : ℕ → List Flow → LiveRows → Type 0
AreLiveRows vars nodes live = AreLiveSets vars nodes live.before.rows live.after.rows live.rounds
