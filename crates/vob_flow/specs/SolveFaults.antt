-- What can be wrong with sets that draw from one another.
use Rattle.std.specs.Prelude.{◌≢◌, ℕ, ◌<◌, ◌≤◌, List, codes}
use Rattle.vob_flow.specs.Draws.{FitMasks}
use Rattle.vob_flow.specs.declared.draw.Masks.{Masks}
use Rattle.vob_flow.specs.declared.faults.SolveError.{SolveError}
use Rattle.vob_flow.specs.declared.faults.SolveError.TheVariants.{Memory, BadMasks, BadEntry}

-- what is wrong with the masks of some sets
abbrev pub IsMaskFault : ℕ → ℕ → Masks → SolveError → Type 0
IsMaskFault count places masks Memory = ⊥
IsMaskFault count places masks BadMasks = ¬ FitMasks count places masks
IsMaskFault count places masks BadEntry = ⊥

-- why a call over some sets may fail: the masks don't fit, or memory ran out for some
abbrev pub MayRefuseSets : ℕ → ℕ → Masks → SolveError → Type 0
MayRefuseSets count places masks Memory = count ≢ 0
MayRefuseSets count places masks fault = IsMaskFault count places masks fault

-- an entry that is none of some nodes
abbrev pub IsNoNode : ℕ → ℕ → Type 0
IsNoNode nodes entry = (0 < nodes) × (nodes ≤ entry)

-- what is wrong with an entry
abbrev pub IsEntryFault : ℕ → ℕ → SolveError → Type 0
IsEntryFault nodes entry Memory = ⊥
IsEntryFault nodes entry BadMasks = ⊥
IsEntryFault nodes entry BadEntry = IsNoNode nodes entry

-- why a call over some sets and an entry may fail
abbrev pub MayRefuseFlows : ℕ → ℕ → ℕ → Masks → SolveError → Type 0
MayRefuseFlows entry count places masks BadEntry =
    FitMasks count places masks × IsNoNode count entry
MayRefuseFlows entry count places masks fault = MayRefuseSets count places masks fault

-- the text of a refusal
abbrev pub solve_error_text : SolveError → List ℕ
solve_error_text Memory = codes "out of memory"
solve_error_text BadMasks = codes "the masks don't fit the sets"
solve_error_text BadEntry = codes "the entry is no node"
