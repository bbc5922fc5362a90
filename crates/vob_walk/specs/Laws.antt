-- What the indices within a range obey, for both values and at both ends of a walk.
use Rattle.std.specs.Prelude.{◌≡◌, ◌≢◌, ◌↔◌, ◌⊎◌, ℕ, ◌+◌, ◌<◌, ◌≤◌, Bool, true, false, List, []}
use Rattle.std.specs.Prelude.{◌∷◌, length, replicate, None, IsTrue, Contains, AllPairs, count_by}
use Rattle.std.specs.List.{range_with_len}
use Rattle.std.specs.declared.ops.Bound.{Bound}
use Rattle.std.specs.declared.ops.Bound.TheVariants.{Unbounded}
use Rattle.vob_block.specs.Packing.{item}
use Rattle.vob_walk.specs.declared.walk.End.{End}
use Rattle.vob_walk.specs.Matches.{within, has_value, matches}
use Rattle.vob_walk.specs.Walk.{end_item, without_end, answers}

-- no index within a range matches both values
abbrev pub MatchesShareNoIndex : Type 0
MatchesShareNoIndex =
    (bits : List Bool) (low high : Bound ℕ) (i : ℕ)
    → Contains (matches bits true low high) i → ¬ Contains (matches bits false low high) i

-- the indices within a range are those that match either
abbrev pub MatchesFillTheRange : Type 0
MatchesFillTheRange =
    (bits : List Bool) (low high : Bound ℕ) (i : ℕ)
    → (Contains (matches bits true low high) i ⊎ Contains (matches bits false low high) i)
    ↔ ((i < length bits) × IsTrue (within low high i))

-- and as many as both together
abbrev pub MatchesAddUp : Type 0
MatchesAddUp =
    (bits : List Bool) (low high : Bound ℕ)
    → length (matches bits true low high) + length (matches bits false low high)
    ≡ count_by (within low high) (range_with_len 0 (length bits))

-- where a pull at either end gave nothing, no pull after it gives an index, whichever ends they are at
abbrev pub NoneIsForGood : Type 0
NoneIsForGood =
    (xs : List ℕ) (side : End) (pulls : List End) → end_item side xs ≡ None
    → answers (without_end side xs) pulls ≡ replicate (length pulls) None

-- an index is given where it is below the length and within the range, and its bit has the value
abbrev pub MatchesExactly : Type 0
MatchesExactly =
    (bits : List Bool) (value : Bool) (low high : Bound ℕ) (i : ℕ)
    → Contains (matches bits value low high) i
    ↔ ((i < length bits) × IsTrue (within low high i) × (item bits i ≡ value))

-- each index that is given is above those before it
abbrev pub MatchesRise : Type 0
MatchesRise =
    (bits : List Bool) (value : Bool) (low high : Bound ℕ)
    → AllPairs (λ i j. i < j) (matches bits value low high)

-- the first index that is given is that of a bit of the value, and the least one
abbrev pub FirstMatchIsLeast : Type 0
FirstMatchIsLeast =
    (bits : List Bool) (value : Bool) (low high : Bound ℕ) (i : ℕ) (rest : List ℕ)
    → matches bits value low high ≡ i ∷ rest
    → (i < length bits) × IsTrue (within low high i) × (item bits i ≡ value)
    × ((j : ℕ) → j < i → IsTrue (within low high j) → item bits j ≢ value)

-- if none is given, no bit within the range has the value
abbrev pub NoMatchIsNone : Type 0
NoMatchIsNone =
    (bits : List Bool) (value : Bool) (low high : Bound ℕ) → matches bits value low high ≡ []
    → (i : ℕ) → i < length bits → IsTrue (within low high i) → item bits i ≢ value

-- over all indices, as many are given as bits have the value
abbrev pub MatchesAreCounted : Type 0
MatchesAreCounted =
    (bits : List Bool) (value : Bool)
    → length (matches bits value Unbounded Unbounded) ≡ count_by (has_value value) bits

-- no more are given than there are bits
abbrev pub MatchesAreFew : Type 0
MatchesAreFew =
    (bits : List Bool) (value : Bool) (low high : Bound ℕ)
    → length (matches bits value low high) ≤ length bits
