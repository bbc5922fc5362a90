-- What the status of a call says.
use Rattle.std.specs.Prelude.{◌≡◌, ◌⊎◌, ◌↔◌, ℕ, List, length}
use Rattle.vob_block.specs.Packing.{need}

-- as many words as some bits need
-- Example: 65 bits need 2
abbrev pub HasWords : ℕ → List ℕ → Type 0
HasWords bits words = length words ≡ need bits 64

-- a status is 0 exactly if every condition of a call is met; else it says which is the first that isn't:
-- 1 for the number of words, 4 for canonical words, 2 for the range
pub record Tells (status : ℕ) (words canonical range : Type 0) : Type 0 where
  pub ok : (status ≡ 0) ↔ (words × canonical × range)
  pub length : (status ≡ 1) ↔ (¬ words)
  pub not_canonical : (status ≡ 4) ↔ (words × ¬ canonical)
  pub out_of_range : (status ≡ 2) ↔ (words × canonical × ¬ range)
  pub known : (status ≡ 0) ⊎ ((status ≡ 1) ⊎ ((status ≡ 2) ⊎ (status ≡ 4)))

-- the same, of a call whose words alone are tested
pub record TellsWords (status : ℕ) (words canonical : Type 0) : Type 0 where
  pub ok : (status ≡ 0) ↔ (words × canonical)
  pub length : (status ≡ 1) ↔ (¬ words)
  pub not_canonical : (status ≡ 4) ↔ (words × ¬ canonical)
  pub known : (status ≡ 0) ⊎ ((status ≡ 1) ⊎ (status ≡ 4))

-- the same, of a call on arrays of numbers, of which none has a bit past the last one
abbrev pub TellsRange : ℕ → Type 0 → Type 0 → Type 0
TellsRange status words range = Tells status words (Unit {0}) range

-- a call that asks for memory once its tests gave 0: the status that they tell, or 3 if memory ran out
abbrev pub TellsOrMemory : (ℕ → Type 0) → ℕ → Type 0
TellsOrMemory Told status = Told status ⊎ ((status ≡ 3) × Told 0)
