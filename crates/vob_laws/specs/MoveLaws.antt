-- What lists of bits obey whose bits move, and so the calls that move them.
use Rattle.std.specs.Prelude.{◌≡◌, ℕ, ◌+◌, ◌-◌, ◌*◌, ◌<◌, ◌≤◌, Bool, false, not, List, ◌∷◌, ◌++◌}
use Rattle.std.specs.Prelude.{drop, length, min, replicate, reverse, slice_set, take}
use Rattle.vob_block.specs.Packing.{item}
use Rattle.vob.specs.Moves.{rotated, rotated_back}

-- a list with the bit at an index negated
abbrev pub flipped : ℕ → List Bool → List Bool
flipped index bits = slice_set bits index (not (item bits index))

-- a bit negated twice leaves the list
abbrev pub FlipTwice : Type 0
FlipTwice =
    (bits : List Bool) (index : ℕ) → index < length bits → flipped index (flipped index bits) ≡ bits

-- each bit moved up by n indices, and each moved down: unset bits come in at the other end
abbrev pub moved_up : ℕ → List Bool → List Bool
moved_up n bits = take (length bits) (replicate n false ++ bits)

-- each bit moved down by n indices, the last n unset
abbrev pub moved_down : ℕ → List Bool → List Bool
moved_down n bits = drop n bits ++ replicate (min n (length bits)) false

-- moved up and down again, the last n bits are unset, and the others are as they were
abbrev pub DownAfterUp : Type 0
DownAfterUp =
    (bits : List Bool) (n : ℕ) → moved_down n (moved_up n bits)
    ≡ take (length bits - n) bits ++ replicate (min n (length bits)) false

-- moved down and up again, the first n bits are
abbrev pub UpAfterDown : Type 0
UpAfterDown =
    (bits : List Bool) (n : ℕ) → moved_up n (moved_down n bits)
    ≡ replicate (min n (length bits)) false ++ drop n bits

-- a list reversed twice is the list
abbrev pub ReverseTwice : Type 0
ReverseTwice = (bits : List Bool) → reverse (reverse bits) ≡ bits

-- a list rotated by n and back by n is the list, in either order
abbrev pub RotateBack : Type 0
RotateBack =
    (bits : List Bool) (n : ℕ)
    → (rotated_back n (rotated n bits) ≡ bits) × (rotated n (rotated_back n bits) ≡ bits)

-- and so is a list rotated either way by a multiple of its length
abbrev pub RotateByLengths : Type 0
RotateByLengths =
    (bits : List Bool) (k : ℕ)
    → (rotated (k * length bits) bits ≡ bits) × (rotated_back (k * length bits) bits ≡ bits)

-- a list rotated twice is rotated by both counts together
abbrev pub RotationsAdd : Type 0
RotationsAdd = (bits : List Bool) (n m : ℕ) → rotated m (rotated n bits) ≡ rotated (n + m) bits

-- a list with a bit put in at an index, and a list with one taken out
abbrev pub inserted : ℕ → Bool → List Bool → List Bool
inserted index value bits = take index bits ++ value ∷ drop index bits

-- a list without the bit at an index
abbrev pub removed : ℕ → List Bool → List Bool
removed index bits = take index bits ++ drop (index + 1) bits

-- the bit that was put in at an index is there, and taken out it leaves the list
abbrev pub RemoveUndoesInsert : Type 0
RemoveUndoesInsert =
    (bits : List Bool) (index : ℕ) (value : Bool) → index ≤ length bits
    → (item (inserted index value bits) index ≡ value)
    × (removed index (inserted index value bits) ≡ bits)

-- and a bit that was taken out leaves the list if it is put in again
abbrev pub InsertUndoesRemove : Type 0
InsertUndoesRemove =
    (bits : List Bool) (index : ℕ) → index < length bits
    → inserted index (item bits index) (removed index bits) ≡ bits
