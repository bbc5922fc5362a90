-- A rightmost derivation read backwards, as the moves of a parser. No public clause cites this page.
use Rattle.std.specs.Prelude.{◌≡◌, ℕ, ◌+◌, ◌≤◌, List, [], ◌∷◌, ◌++◌, drop, length, map, reverse, slice_get, take, Option, None, Some}
use Rattle.vob_lr.specs.Derivations.{DerivesBy}
use Rattle.vob_lr.specs.declared.grammar.Rule.{Rule}
use Rattle.vob_lr.specs.declared.grammar.Symbol.{Symbol}
use Rattle.vob_lr.specs.declared.grammar.Symbol.TheVariants.{Nonterminal, Terminal}

-- from symbols that are built, and tokens that are left, moves lead to the symbols `goal`: a token is read,
-- or the symbols of a rule's right side are replaced by its left side
pub data Finishes (rules : List Rule) (goal : List Symbol) :
    List Symbol → List ℕ → List (Option ℕ) → List ℕ → Type 0 where
  done : {xs : List Symbol} → xs ≡ goal → Finishes rules goal xs [] [] []
  reads : {t : ℕ} {xs : List Symbol} {ts : List ℕ} {ms : List (Option ℕ)} {rs : List ℕ} →
      Finishes rules goal (xs ++ Terminal t ∷ []) ts ms rs → Finishes rules goal xs (t ∷ ts) (None ∷ ms) rs
  reduces : {r : ℕ} {rule : Rule} {xs : List Symbol} {ts : List ℕ} {ms : List (Option ℕ)} {rs : List ℕ}
      (before : List Symbol) → slice_get rules r ≡ Some rule → xs ≡ before ++ rule.right.items →
      Finishes rules goal (before ++ Nonterminal rule.left ∷ []) ts ms rs →
      Finishes rules goal xs ts (Some r ∷ ms) (r ∷ rs)

-- a rightmost derivation read backwards to the symbols `form` and the tokens behind them: so many of its rules are
-- left, and the others are moves that lead on to the symbols `goal`
pub record IsUnwound (rules : List Rule) (tokens parsed : List ℕ) (goal form : List Symbol) (left : ℕ)
    (moves : List (Option ℕ)) : Type 0 where
  pub at : ℕ
  pub inside : at ≤ length tokens
  pub rules_left : left ≤ length parsed
  pub count : length moves + (at + left) ≡ length tokens + length parsed
  pub derives : DerivesBy rules tokens (form ++ map Terminal (drop at tokens)) (reverse (take left parsed))
  pub finishes : Finishes rules goal form (drop at tokens) moves (drop left parsed)

-- some derivation is
abbrev pub CanUnwind : List Rule → List ℕ → List Symbol → ℕ → Type 0
CanUnwind rules parsed form left = (tokens : List ℕ) × (goal : List Symbol) × (moves : List (Option ℕ))
    × IsUnwound rules tokens parsed goal form left moves

-- one more move is read backwards
abbrev pub IsUndone : List Rule → List ℕ → List Symbol → ℕ → Option ℕ → List Symbol → ℕ → Type 0
IsUndone rules parsed form left made before fewer =
    (tokens : List ℕ) (goal : List Symbol) (moves : List (Option ℕ)) →
    IsUnwound rules tokens parsed goal form left moves →
    IsUnwound rules tokens parsed goal before fewer (made ∷ moves)
