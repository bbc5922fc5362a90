-- What a walk over a set or a list lets sets gain. No public clause cites this page.
use Rattle.std.specs.Prelude.{◌≡◌, ◌⊎◌, ℕ, ◌<◌, Bool, true, false, List, length}
use Rattle.std.specs.declared.ops.Bound.TheVariants.{Unbounded}
use Rattle.vob_lr.specs.Equations.{HasAt, System}
use Rattle.vob_lr.specs.Expansions.{Has}
use Rattle.vob_lr.specs.declared.grammar.Symbol.{Symbol}
use Rattle.vob_walk.specs.Left.{AreMatches, is_left}

-- one of the first k
abbrev pub IsOfFirst : ℕ → (ℕ → ℕ → Symbol → Type 0) → ℕ → Symbol → Type 0
IsOfFirst k Each n y = (q : ℕ) × (q < k) × Each q n y

-- one of a set's members
abbrev pub IsOfMember : List Bool → (ℕ → ℕ → Symbol → Type 0) → ℕ → Symbol → Type 0
IsOfMember set Each n y = (j : ℕ) × Has set j × Each j n y

-- a walk over a set lets sets gain what its members give, but for those that are left
pub record GainWalked (Each : ℕ → ℕ → Symbol → Type 0) (set : List Bool) (left : List ℕ)
    (before after : System) : Type 0 where
  pub matches : AreMatches set true Unbounded Unbounded left
  pub count : length after.starts ≡ length before.starts
  pub places : after.places ≡ before.places
  pub kept : (n : ℕ) (y : Symbol) → HasAt before n y → HasAt after n y
  pub done : (j n : ℕ) (y : Symbol) → Has set j → is_left left j ≡ false → Each j n y →
      HasAt after n y
  pub only : (n : ℕ) (y : Symbol) → HasAt after n y → HasAt before n y ⊎ IsOfMember set Each n y
