-- Sets of terminals, each with some to start with and others to draw from. No public clause cites
-- this page.
use Rattle.std.specs.Prelude.{◌≡◌, ◌↔◌, ◌⊎◌, ◌<◌, ℕ, Bool, true, List, length, All, Contains}
use Rattle.vob_block.specs.Packing.{item}
use Rattle.vob_flow.specs.Draws.{IsIn}
use Rattle.vob_lr.specs.declared.grammar.Symbol.{Symbol}
use Rattle.vob_lr.specs.declared.grammar.Symbol.TheVariants.{Terminal, Nonterminal}

-- what some sets start with, how many places each has, and an edge from a set to each that it draws
-- from
pub record System : Type 0 where
  pub starts : List (List Bool)
  pub places : ℕ
  pub edges : List (ℕ × ℕ)

-- each edge is from a set
abbrev pub AreFromSets : List (List Bool) → List (ℕ × ℕ) → Type 0
AreFromSets starts edges = All (λ edge. edge.0 < length starts) edges

-- set n starts with a terminal, or draws from the set of a nonterminal
abbrev pub HasAt : System → ℕ → Symbol → Type 0
HasAt system n (Terminal t) = IsIn system.starts n t
HasAt system n (Nonterminal a) = Contains system.edges (n, a)

-- symbols of set n alone
abbrev pub At : ℕ → (Symbol → Type 0) → ℕ → Symbol → Type 0
At n P k x = (n ≡ k) × P x

-- a terminal of a set
abbrev pub IsTerminalOf : List Bool → Symbol → Type 0
IsTerminalOf set (Terminal t) = item set t ≡ true
IsTerminalOf set (Nonterminal a) = ⊥

-- each set n has what it had, and the symbols of which P n holds
pub record GainEach (P : ℕ → Symbol → Type 0) (before after : System) : Type 0 where
  pub count : length after.starts ≡ length before.starts
  pub places : after.places ≡ before.places
  pub each : (n : ℕ) (x : Symbol) → HasAt after n x ↔ (HasAt before n x ⊎ P n x)

-- so it is once each set n gains those of which Rest n holds
pub record GainEachRest (P Rest : ℕ → Symbol → Type 0) (before after : System) : Type 0 where
  pub count : length after.starts ≡ length before.starts
  pub places : after.places ≡ before.places
  pub each : (n : ℕ) (x : Symbol) → (HasAt after n x ⊎ Rest n x) ↔ (HasAt before n x ⊎ P n x)

-- so many sets with so many places, which have the symbols of which Has holds
pub record AreEquations (total places : ℕ) (Has : ℕ → Symbol → Type 0) (system : System)
    : Type 0 where
  pub count : length system.starts ≡ total
  pub width : system.places ≡ places
  pub each : (n : ℕ) (x : Symbol) → HasAt system n x ↔ Has n x

-- t comes to set n: it starts there, or comes to a set from which n draws
pub data Reaches (Has : ℕ → Symbol → Type 0) (t : ℕ) : ℕ → Type 0 where
  at_start : {n : ℕ} → Has n (Terminal t) → Reaches Has t n
  along : {n m : ℕ} → Has n (Nonterminal m) → Reaches Has t m → Reaches Has t n

-- sets that have what they start with and draw, and nothing but what comes to them
pub record AreSolved (Has : ℕ → Symbol → Type 0) (sets : List (List Bool)) : Type 0 where
  pub starts : (n t : ℕ) → Has n (Terminal t) → IsIn sets n t
  pub draws : (n m t : ℕ) → Has n (Nonterminal m) → IsIn sets m t → IsIn sets n t
  pub least : (n t : ℕ) → IsIn sets n t → Reaches Has t n
