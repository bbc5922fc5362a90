-- A scan from either end for a block that isn't the one to be skipped. No public contract cites this page.
use Rattle.std.specs.Prelude.{◌≡◌, ◌≢◌, ℕ, ◌+◌, ◌-◌, ◌<◌, ◌≤◌, List, ◌++◌, map, slice_index_or, Option, option_map, unwrap_or, MatchOption}
use Rattle.vob_block.specs.Reading.{Reading}
use Rattle.vob_walk.specs.declared.walk.End.{End}
use Rattle.vob_walk.specs.declared.walk.End.TheVariants.{Front, Back}

-- block i of those from a to below b, counted from an end
unfoldable pub from_end : End → ℕ → ℕ → ℕ → ℕ
from_end Front a b i = a + i
from_end Back a b i = b - 1 - i

abbrev pub other_end : End → End
other_end Front = Back
other_end Back = Front

-- the blocks from a to below b at one side of block k are those from here to below there
abbrev pub side_start : End → ℕ → ℕ → ℕ
side_start Front a k = a
side_start Back a k = k + 1

abbrev pub side_end : End → ℕ → ℕ → ℕ
side_end Front b k = k
side_end Back b k = b

-- block k of some blocks, by its number
abbrev pub number_at : {X : Type 0} → (X → ℕ) → List X → ℕ → ℕ
number_at number items k = slice_index_or (map number items) k 0

-- each block from a to below b is `skip`
abbrev pub AreSkipped : ℕ → (ℕ → ℕ) → ℕ → ℕ → Type 0
AreSkipped skip block a b = (k : ℕ) → a ≤ k → k < b → block k ≡ skip

-- block k, from a to below b, is x, which isn't `skip`
pub record IsOther (skip : ℕ) (block : ℕ → ℕ) (a b k x : ℕ) : Type 0 where
  pub from : a ≤ k
  pub below : k < b
  pub same : x ≡ block k
  pub other : x ≢ skip

-- steps from m to below n, of which step i reads block `at i`, found the first block that isn't
-- `skip`, with the step and its number, or none. Each block was read once, and none after that one
pub record Steps {X : Type 0} (number : X → ℕ) (skip : X) (at : ℕ → ℕ) (before after : Reading X)
    (m n : ℕ) (answer : Option (ℕ × ℕ × X)) : Type 0 where
  pub found : MatchOption answer
      (AreSkipped (number skip) (λ i. number_at number before.items (at i)) m n)
      (λ p. IsOther (number skip) (λ i. number_at number before.items (at i)) m n p.0 (number p.2)
      × (p.1 ≡ at p.0)
      × AreSkipped (number skip) (λ i. number_at number before.items (at i)) m p.0)
  pub reads : after.reads + m ≡ before.reads + unwrap_or (option_map (λ p. p.0 + 1) answer) n
  pub items : after.items ≡ before.items

-- so did a scan of the blocks from a to below b, taken from an end
pub record Scans {X : Type 0} (side : End) (number : X → ℕ) (skip : X) (before after : Reading X)
    (a b : ℕ) (answer : Option (ℕ × X)) : Type 0 where
  pub found : MatchOption answer
      (AreSkipped (number skip) (number_at number before.items) a b)
      (λ p. IsOther (number skip) (number_at number before.items) a b p.0 (number p.1)
      × AreSkipped (number skip) (number_at number before.items) (side_start side a p.0)
      (side_end side b p.0))
  pub reads : after.reads ≡ before.reads
      + unwrap_or (option_map (λ p. side_end side b p.0 + 1 - side_start side a p.0) answer) (b - a)
  pub items : after.items ≡ before.items

-- what is given at an end, and the rest
abbrev pub beside : End → List ℕ → List ℕ → List ℕ
beside Front given rest = given ++ rest
beside Back given rest = rest ++ given

-- blocks from a to below b read from an end, each once, until one had indices to give or all were
-- read: what was given, and those from c to below d are still unread
pub record Reads {X : Type 0} (side : End) (number : X → ℕ) (left : List ℕ → ℕ → ℕ → List ℕ)
    (before after : Reading X) (a b c d : ℕ) (given : List ℕ) : Type 0 where
  pub low : a ≤ c
  pub order : c ≤ d
  pub high : d ≤ b
  pub rest : beside side given (left (map number before.items) c d)
      ≡ left (map number before.items) a b
  pub reads : after.reads + (d - c) ≡ before.reads + (b - a)
  pub items : after.items ≡ before.items
