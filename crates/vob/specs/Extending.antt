-- What an `extend` by the items of an iterator leaves: it reserves the lower bound of its hint first.
use Rattle.std.specs.Prelude.{◌≡◌, ◌≢◌, ◌↔◌, ◌⊎◌, ℕ, ◌+◌, ◌-◌, ◌^◌, ◌<◌, ◌≤◌, Bool, List, ◌++◌, length, Option, Some, Result, Err, OnOk, IfErr, ⊤}
use Rattle.std.specs.Iterator.{Count, Drains, Yields, YieldsThen}
use Rattle.std.specs.Iterator.SizeHint.{IsWithinCount}
use Rattle.vob.specs.declared.error.VobError.{VobError}
use Rattle.vob.specs.declared.error.VobError.TheVariants.{TooLong, Memory, PastEnd}
use Rattle.vob.specs.Vob.{BitVector, IsTooLong, NeedsMemory}

-- what a call for n bits more refuses: a length that is too great always, memory only where more of
-- it is needed, and nothing else
-- Example: 8 bits, capacity 8, width 8: a push may return Memory
pub record RefusesMore (width : ℕ) (vob : BitVector) (n : ℕ) (result : Result ⊤ VobError)
    : Type 0 where
  pub too_long : (result ≡ Err TooLong) ↔ IsTooLong vob n
  pub memory : result ≡ Err Memory → NeedsMemory width vob n
  pub past_end : result ≢ Err PastEnd

-- why n bits more may be refused
abbrev pub MayRefuse : VobError → BitVector → ℕ → Type 0
MayRefuse TooLong vob n = IsTooLong vob n
MayRefuse Memory vob n = vob.capacity < length vob.bits + n
MayRefuse PastEnd vob n = ⊥

-- a source makes an iterator whose calls give these items, and then none
abbrev pub GivesAll : {X S : Type 0} → (X → S → Type 0) → (S → Option Bool → S → Type 0)
    → X → List Bool → Type 0
GivesAll {X} {S} makes steps source items = (it : S) × makes source it × Drains steps it items

-- calls of an iterator give more than n items
abbrev pub GivesMoreThan : {S : Type 0} → (S → Option Bool → S → Type 0) → S → ℕ → Type 0
GivesMoreThan {S} steps it n =
    (items : List Bool) × (rest : S) × Yields steps it items rest × (n < length items)

-- what a call for a Vob of the items of a source refuses: more of them than a length can count,
-- memory only where there is an item, or a hint at one, and nothing else
pub record RefusesItems {X S A : Type 0} (makes : X → S → Type 0)
    (steps : S → Option Bool → S → Type 0) (remaining : S → Count) (source : X) (result : Result A VobError) : Type 0 where
  pub too_long : result ≡ Err TooLong
      → (it : S) × makes source it × GivesMoreThan steps it (2 ^ 64 - 1)
  pub memory : result ≡ Err Memory
      → (it : S) × (hint : ℕ) × makes source it × IsWithinCount hint (remaining it)
      × ((0 < hint) ⊎ GivesMoreThan steps it 0)
  pub past_end : result ≢ Err PastEnd

module _ {S : Type 0} (steps : S → Option Bool → S → Type 0) (it : S) (before after : BitVector) where
  -- all items are added
  abbrev pub AddsAll : Type 0
  AddsAll = (items : List Bool) × Drains steps it items × (after.bits ≡ before.bits ++ items)

  -- a hint is refused, and nothing is added
  abbrev pub RefusesHint : ℕ → VobError → Type 0
  RefusesHint hint refusal =
      (0 < hint) × MayRefuse refusal before hint × (after.bits ≡ before.bits)

  -- an item is refused, and those before it are added, no fewer than a hint
  abbrev pub RefusesItem : ℕ → VobError → Type 0
  RefusesItem hint refusal =
      (added : List Bool) × (bit : Bool) × (rest : S) × YieldsThen steps it added (Some bit) rest
      × (hint ≤ length added)
      × MayRefuse refusal before (length added + 1) × (after.bits ≡ before.bits ++ added)

module _ {S : Type 0} (steps : S → Option Bool → S → Type 0) (it : S) (hint : ℕ)
    (before after : BitVector) where
  pub record IsExtended (result : Result ⊤ VobError) : Type 0 where
    pub ok : OnOk result (AddsAll steps it before after)
    pub err : IfErr result (λ refusal. RefusesHint steps it before after hint refusal
        ⊎ RefusesItem steps it before after hint refusal)
    pub too_long : IsTooLong before hint → (result ≡ Err TooLong) × (after.bits ≡ before.bits)
