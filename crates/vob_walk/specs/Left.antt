-- What a loop over a walk keeps of the indices that are left.
use Rattle.std.specs.Prelude.{◌≡◌, ◌==◌, ◌||◌, ℕ, ◌<◌, Bool, false, List, [], ◌∷◌, length, IsTrue, All}
use Rattle.std.specs.declared.ops.Bound.{Bound}
use Rattle.vob_block.specs.Packing.{item}
use Rattle.vob_walk.specs.Matches.{within}

-- an index is within a range, and that of a bit of a value
abbrev pub IsMatch : List Bool → Bool → Bound ℕ → Bound ℕ → ℕ → Type 0
IsMatch bits value low high i =
    (i < length bits) × IsTrue (within low high i) × (item bits i ≡ value)

-- so is each of some indices. Tactics don't look into it, and go by the lemmas of IndexLemmas
unfoldable pub AreMatches : List Bool → Bool → Bound ℕ → Bound ℕ → List ℕ → Type 0
AreMatches bits value low high indices = All (IsMatch bits value low high) indices

-- whether an index is one of those that are left. Tactics don't look into it either
unfoldable pub is_left : List ℕ → ℕ → Bool
is_left [] j = false
is_left (i ∷ rest) j = i == j || is_left rest j
