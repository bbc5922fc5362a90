-- The states of a grammar's automaton: sets of items, and the moves between them.
use Rattle.std.specs.Prelude.{◌≡◌, ◌≢◌, ◌⊎◌, ℕ, ◌+◌, ◌<◌, List, [], ◌∷◌, length, map, slice_index_or, All, AllPairs, Any, Contains}
use Rattle.std.specs.List.{flat_map}
use Rattle.vob_lr.specs.ItemSets.{InClosure, IsGoto}
use Rattle.vob_lr.specs.Items.{HasNext}
use Rattle.vob_lr.specs.Those.{AreThose}
use Rattle.vob_lr.specs.declared.grammar.Rule.{Rule}
use Rattle.vob_lr.specs.declared.grammar.Symbol.{Symbol}
use Rattle.vob_lr.specs.declared.grammar.Symbol.TheVariants.{Terminal, Nonterminal}
use Rattle.vob_lr.specs.declared.state.Move.{Move}

-- symbol x stands behind the dot of an item of a set
abbrev pub IsAhead : List Rule → List ℕ → Symbol → Type 0
IsAhead rules set x = (i : ℕ) × Contains set i × HasNext rules i x

-- the closure of item 0, which is rule 0 with the dot before all
abbrev pub IsStart : List Rule → List ℕ → Type 0
IsStart rules set = AreThose (InClosure rules (λ i. i ≡ 0)) set

-- a set of items is a state: the start, or what follows a state by a symbol that is ahead
pub data IsState (rules : List Rule) : List ℕ → Type 0 where
  start : {set : List ℕ} → IsStart rules set → IsState rules set
  after : {set next : List ℕ} (x : Symbol) → IsState rules set → IsAhead rules set x →
      IsGoto rules set x next → IsState rules next

-- a move from a set of items, by a symbol that is ahead to the state that follows
pub record IsMove (rules : List Rule) (sets : List (List ℕ)) (set : List ℕ) (move : Move)
    : Type 0 where
  pub ahead : IsAhead rules set move.symbol
  pub inside : move.state < length sets
  pub goto : IsGoto rules set move.symbol (slice_index_or sets move.state [])

-- terminals come before nonterminals, and of a kind the lower number first
abbrev pub Precedes : Symbol → Symbol → Type 0
Precedes (Terminal t) (Terminal u) = t < u
Precedes (Terminal t) (Nonterminal b) = Unit {0}
Precedes (Nonterminal a) (Terminal u) = ⊥
Precedes (Nonterminal a) (Nonterminal b) = a < b

-- one by each such symbol, in the order of the symbols
pub record AreMoves (rules : List Rule) (sets : List (List ℕ)) (set : List ℕ)
    (moves : List Move) : Type 0 where
  pub each : All (IsMove rules sets set) moves
  pub all : (x : Symbol) → IsAhead rules set x → Any (λ move. move.symbol ≡ x) moves
  pub rise : AllPairs (λ one other. Precedes one.symbol other.symbol) moves

-- the states that moves lead to, one after another
abbrev pub targets_of : List (List Move) → List ℕ
targets_of moves = flat_map (λ row. map (λ move. move.state) row) moves

-- numbers given from n up to m: each is one given before, or the next
abbrev pub AreGiven : ℕ → List ℕ → ℕ → Type 0
AreGiven n [] m = n ≡ m
AreGiven n (p ∷ ps) m = ((p < n) × AreGiven n ps m) ⊎ ((p ≡ n) × AreGiven (n + 1) ps m)

-- all states, each once and the start first, as a breadth-first walk finds them, and their moves
pub record AreStates (rules : List Rule) (sets : List (List ℕ)) (moves : List (List Move))
    : Type 0 where
  pub first : IsStart rules (slice_index_or sets 0 [])
  pub each : All (IsState rules) sets
  pub all : (set : List ℕ) → IsState rules set → Contains sets set
  pub once : AllPairs (λ one other. one ≢ other) sets
  pub order : AreGiven 1 (targets_of moves) (length sets)
  pub count : length moves ≡ length sets
  pub moves_of : (q : ℕ) → q < length sets →
      AreMoves rules sets (slice_index_or sets q []) (slice_index_or moves q [])
