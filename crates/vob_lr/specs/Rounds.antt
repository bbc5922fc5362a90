-- The states that were found so far. No public clause cites this page.
use Rattle.std.specs.Prelude.{◌≡◌, ◌≢◌, ℕ, ◌<◌, ◌≤◌, ◌⊎◌, Bool, true, false, List, [], ◌∷◌, ◌++◌, length, map, slice_index_or, All, AllPairs, Any, Vec}
use Rattle.std.specs.declared.alloc.Global.{Global}
use Rattle.std.specs.declared.ops.Bound.TheVariants.{Unbounded}
use Rattle.vob_lr.specs.Expansions.{Has}
use Rattle.vob_lr.specs.Ahead.{symbol_with}
use Rattle.vob_lr.specs.States.{AreGiven, AreMoves, IsMove, IsStart, IsState, Precedes, targets_of}
use Rattle.vob_lr.specs.declared.grammar.Grammar.{Grammar}
use Rattle.vob_lr.specs.declared.grammar.Rule.{Rule}
use Rattle.vob_lr.specs.declared.state.Move.{Move}
use Rattle.vob_walk.specs.Left.{AreMatches, is_left}

-- the moves in some lists
abbrev pub rows_of : List (Vec Move Global) → List (List Move)
rows_of lists = map (λ list. list.items) lists

-- some states, each once
pub record AreSome (rules : List Rule) (sets : List (List ℕ)) : Type 0 where
  pub each : All (IsState rules) sets
  pub once : AllPairs (λ one other. one ≢ other) sets

-- some sets, and perhaps more
abbrev pub Extends : List (List ℕ) → List (List ℕ) → Type 0
Extends sets after = (more : List (List ℕ)) × (after ≡ sets ++ more)

-- a set found at p, or added
pub record HasEntered (sets : List (List ℕ)) (set : List ℕ) (after : List (List ℕ))
    (p : ℕ) : Type 0 where
  pub inside : p < length after
  pub there : slice_index_or after p [] ≡ set
  pub added : (after ≡ sets) ⊎ ((after ≡ sets ++ set ∷ []) × All (λ own. own ≢ set) sets)

-- the moves of a set by those of some symbols that aren't left
pub record AreMovesBut (grammar : Grammar) (sets : List (List ℕ)) (set : List ℕ) (ahead : List Bool)
    (left : List ℕ) (moves : List Move) : Type 0 where
  pub matches : AreMatches ahead true Unbounded Unbounded left
  pub left_rises : AllPairs (λ i j. i < j) left
  pub each : All (IsMove grammar.rules.items sets set) moves
  pub rise : AllPairs (λ one other. Precedes one.symbol other.symbol) moves
  pub before : All (λ move.
      All (λ k. Precedes move.symbol (symbol_with grammar.terminals k)) left) moves
  pub done : (k : ℕ) → Has ahead k → is_left left k ≡ false →
      Any (λ move. move.symbol ≡ symbol_with grammar.terminals k) moves

-- more states than there were, and the moves from one of them
pub record AreMovesFrom (grammar : Grammar) (before : List (List ℕ)) (state : ℕ)
    (sets : List (List ℕ)) (moves : List Move) : Type 0 where
  pub some : AreSome grammar.rules.items sets
  pub more : Extends before sets
  pub given : AreGiven (length before) (map (λ move. move.state) moves) (length sets)
  pub moves_of : AreMoves grammar.rules.items sets (slice_index_or before state []) moves

-- the start and other states, and the moves of the first of them
pub record AreRounds (rules : List Rule) (sets : List (List ℕ)) (moves : List (List Move))
    : Type 0 where
  pub some : AreSome rules sets
  pub inside : 0 < length sets
  pub first : IsStart rules (slice_index_or sets 0 [])
  pub count : length moves ≤ length sets
  pub given : AreGiven 1 (targets_of moves) (length sets)
  pub moves_of : (q : ℕ) → q < length moves →
      AreMoves rules sets (slice_index_or sets q []) (slice_index_or moves q [])
