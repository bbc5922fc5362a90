-- The nodes in trees, and those on the edges of them.
use Rattle.std.specs.Prelude.{ℕ}
use Rattle.vob_lr.specs.Trees.{Trees}
use Rattle.vob_lr.specs.Trees.Trees.{none, leaf, node}

-- a node by rule r above these trees is one of some trees, or below one
pub data HasNode (r : ℕ) (below : Trees) : Trees → Type 0 where
  here : {more : Trees} → HasNode r below (node r below more)
  inside : {s : ℕ} {trees more : Trees} → HasNode r below trees → HasNode r below (node s trees more)
  behind_leaf : {t : ℕ} {more : Trees} → HasNode r below more → HasNode r below (leaf t more)
  behind_node : {s : ℕ} {trees more : Trees} → HasNode r below more →
      HasNode r below (node s trees more)

-- a node by rule r is the first of some trees, or on the left edge of what is below that
pub data IsOnLeftEdge (r : ℕ) : Trees → Type 0 where
  here : {below more : Trees} → IsOnLeftEdge r (node r below more)
  inside : {s : ℕ} {below more : Trees} → IsOnLeftEdge r below → IsOnLeftEdge r (node s below more)

-- a node by rule r is the last of some trees, or on the right edge of what is below that
pub data IsOnRightEdge (r : ℕ) : Trees → Type 0 where
  here : {below : Trees} → IsOnRightEdge r (node r below none)
  inside : {s : ℕ} {below : Trees} → IsOnRightEdge r below → IsOnRightEdge r (node s below none)
  behind_leaf : {t : ℕ} {more : Trees} → IsOnRightEdge r more → IsOnRightEdge r (leaf t more)
  behind_node : {s : ℕ} {below more : Trees} → IsOnRightEdge r more →
      IsOnRightEdge r (node s below more)

-- it is on the left edge of the last of some trees
pub data BeginsLast (r : ℕ) : Trees → Type 0 where
  last : {s : ℕ} {below : Trees} → IsOnLeftEdge r (node s below none) →
      BeginsLast r (node s below none)
  behind_leaf : {t : ℕ} {more : Trees} → BeginsLast r more → BeginsLast r (leaf t more)
  behind_node : {s : ℕ} {below more : Trees} → BeginsLast r more → BeginsLast r (node s below more)

-- it is on the right edge of the first of some trees
pub data EndsFirst (r : ℕ) : Trees → Type 0 where
  first : {s : ℕ} {below more : Trees} → IsOnRightEdge r (node s below none) →
      EndsFirst r (node s below more)
