-- Some Vobs as lists of bits: what contracts over a slice or a `Vec` of them speak of.
use Rattle.std.specs.Prelude.{◌≡◌, ℕ, Bool, true, List, length, map, All, sum_by}
use Rattle.vob.specs.Bits.{count_of}
use Rattle.vob.specs.Vob.{BitVector}

-- the bits of some Vobs
abbrev pub bits_of : List BitVector → List (List Bool)
bits_of vobs = map (λ vob. vob.bits) vobs

-- each list has `len` bits
-- Example: 10 and 01 have length 2
abbrev pub AreOfLength : ℕ → List (List Bool) → Type 0
AreOfLength len lists = All (λ bits. length bits ≡ len) lists

-- how many bits are true in all of them
abbrev pub total_count : List (List Bool) → ℕ
total_count lists = sum_by (count_of true) lists
