-- The sets of the solver as the least and the greatest that meet an equation at each node.
use Rattle.std.specs.Prelude.{◌≡◌, ℕ, ◌<◌, Bool, List, length}
use Rattle.vob_flow.specs.Draws.{AreLeast, AreWithin, IsIn, IsSolution}
use Rattle.vob_flow.specs.Greatest.{AreGreatest, IsCommonSolution}

-- what comes to each set alone is the solution that is within every other
abbrev pub LeastIsLeastSolution : Type 0
LeastIsLeastSolution = (next : List (List ℕ)) (mask : ℕ → ℕ → Bool)
    (starts sets others : List (List Bool)) → AreLeast next mask starts sets →
    IsSolution next mask starts others → AreWithin sets others

-- what is missing from each set alone leaves the solution that has every other
abbrev pub GreatestIsGreatestSolution : Type 0
GreatestIsGreatestSolution = (places : ℕ) (next : List (List ℕ)) (mask : ℕ → ℕ → Bool)
    (starts sets others : List (List Bool)) → length next ≡ length starts →
    AreGreatest places next mask starts sets → IsCommonSolution places next mask starts others →
    (n v : ℕ) → v < places → IsIn others n v → IsIn sets n v
