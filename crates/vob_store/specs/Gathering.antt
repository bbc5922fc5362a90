-- Items of an iterator that are packed into a block.
use Rattle.std.specs.Prelude.{◌≡◌, ℕ, ◌≤◌, Bool, List, length, Option, None, MatchBool}
use Rattle.std.specs.Iterator.{Count, IsFinite, Yields, YieldsThen, size}
use Rattle.vob_block.specs.Places.{HasPlaces}
use Rattle.vob_block.specs.Packing.{item}

-- an iterator may be called on, and has no more items left than before
pub record GoesOn {S : Type 0} (can : S → Type 0) (remaining : S → Count) (from to : S) : Type 0 where
  pub can_next : can to
  pub finite : IsFinite (remaining to)
  pub fewer : size (remaining to) ≤ size (remaining from)

-- calls gave these items, and then none, if it ended
abbrev pub Gives : {S : Type 0} → (S → Option Bool → S → Type 0) → S → List Bool → S → Bool → Type 0
Gives steps from bits to ended =
    MatchBool ended (YieldsThen steps from bits None to) (Yields steps from bits to)

-- the items that calls gave, at most `room`, are the first places of a block, and no other place is
-- true
pub record Gathers {S : Type 0} (steps : S → Option Bool → S → Type 0) (from to : S)
    (room width x count : ℕ) (ended : Bool) : Type 0 where
  pub bits : List Bool
  pub len : length bits ≡ count
  pub fits : count ≤ room
  pub places : HasPlaces width x (item bits)
  pub given : Gives steps from bits to ended
