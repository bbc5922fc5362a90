-- A walk over indices, pulled at from both ends.
use Rattle.std.specs.Prelude.{◌≡◌, ℕ, Bool, ◌+◌, ◌-◌, ◌≤◌, List, [], ◌∷◌, length, take, drop, slice_get, Option, Some, None}
use Rattle.std.specs.Iterator.{YieldsFirst, YieldsLast}
use Rattle.std.specs.declared.ops.Bound.{Bound}
use Rattle.vob_walk.specs.Matches.{matches, blocks_met}
use Rattle.vob_walk.specs.declared.walk.End.{End}
use Rattle.vob_walk.specs.declared.walk.End.TheVariants.{Front, Back}

-- the indices still to give, how many blocks were read, how many may still give one (the unread
-- ones that hold an index of the range, and at each end the one in hand while an index of it is
-- left), and how many of these are unread
-- Example: over 0100, set, at first: rest is index 1, reads 0, left 1, credit 1
pub record Walk : Type 0 where
  pub rest : List ℕ
  pub reads : ℕ
  pub left : ℕ
  pub credit : ℕ

-- what a pull at an end gives
-- Example: Back of 0, 2, 3: 3
unfoldable pub end_item : End → List ℕ → Option ℕ
end_item Front xs = slice_get xs 0
end_item Back xs = slice_get xs (length xs - 1)

-- what a pull at an end leaves
unfoldable pub without_end : End → List ℕ → List ℕ
without_end Front xs = drop 1 xs
without_end Back xs = take (length xs - 1) xs

-- what pulls give, one after another
-- Example: Back, Front on 1, 4, 8: 8, 1
unfoldable pub answers : List ℕ → List End → List (Option ℕ)
answers xs [] = []
answers xs (side ∷ pulls) = end_item side xs ∷ answers (without_end side xs) pulls

-- what pulls leave, one after another
-- Example: Back, Front on 1, 4, 8: 4
unfoldable pub left_after : List ℕ → List End → List ℕ
left_after xs [] = xs
left_after xs (side ∷ pulls) = left_after (without_end side xs) pulls

-- how many indices were given
unfoldable pub given_count : List (Option ℕ) → ℕ
given_count [] = 0
given_count (None ∷ others) = given_count others
given_count (Some i ∷ others) = given_count others + 1

-- a walk that has given no index: all that matches is left, and each block that holds an index of
-- the range is unread
-- Example: the walk just named
pub record IsWhole (walk : Walk) (bits : List Bool) (value : Bool) (low high : Bound ℕ) (width : ℕ)
    : Type 0 where
  pub rest : walk.rest ≡ matches bits value low high
  pub left : walk.left ≡ blocks_met low high (length bits) width
  pub credit : walk.credit ≡ blocks_met low high (length bits) width

-- a walk that has given no index and read no block
pub record IsFresh (walk : Walk) (bits : List Bool) (value : Bool) (low high : Bound ℕ) (width : ℕ)
    : Type 0 where
  pub whole : IsWhole walk bits value low high width
  pub reads : walk.reads ≡ 0

-- a walk after pulls that were answered: reads rise by at most one for each index given and each
-- block of the range, and no block that an end holds is read again
pub record IsPulled (walk : Walk) (given : List (Option ℕ)) (after : Walk) : Type 0 where
  pub bound : after.reads + after.left ≤ walk.reads + walk.left + given_count given
  pub rises : walk.reads ≤ after.reads
  pub credit : after.reads + after.credit ≤ walk.reads + walk.credit

-- what a call of `next` does: the first index is given, or `None` if none is left
pub record GivesFirst (walk : Walk) (index : Option ℕ) (after : Walk) : Type 0 where
  pub gives : YieldsFirst (λ (w : Walk). w.rest) walk index after
  pub reads : IsPulled walk (index ∷ []) after

-- what a call of `next_back` does: the same at the other end
pub record GivesLast (walk : Walk) (index : Option ℕ) (after : Walk) : Type 0 where
  pub gives : YieldsLast (λ (w : Walk). w.rest) walk index after
  pub reads : IsPulled walk (index ∷ []) after
