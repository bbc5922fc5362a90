-- Words of 64 rows by 64 places that are transposed. No public clause cites this page.
use Rattle.std.specs.Prelude.{◌≡◌, ◌≢◌, ℕ, ◌+◌, ◌*◌, ◌<◌, ◌≤◌, true, false, List, slice_index_or}
use Rattle.vob_block.specs.Places.{place}

-- word i of some, 0 past the last
abbrev pub word : List ℕ → ℕ → ℕ
word words i = slice_index_or words i 0

-- number c of the first group of pair b, and of the second, where groups have a size
abbrev pub first_at : ℕ → ℕ → ℕ → ℕ
first_at group b c = b * (2 * group) + c

abbrev pub second_at : ℕ → ℕ → ℕ → ℕ
second_at group b c = b * (2 * group) + (group + c)

-- the true places of a mask are those of the first group of each pair
pub record IsMask (group pairs mask : ℕ) : Type 0 where
  pub first : (b d : ℕ) → b < pairs → d < group → place (first_at group b d) mask ≡ true
  pub second : (b d : ℕ) → b < pairs → d < group → place (second_at group b d) mask ≡ false

-- the first groups of two words side by side, in each pair
pub record JoinsFirst (group pairs low high joined : ℕ) : Type 0 where
  pub first : (b d : ℕ) → b < pairs → d < group →
      place (first_at group b d) joined ≡ place (first_at group b d) low
  pub second : (b d : ℕ) → b < pairs → d < group →
      place (second_at group b d) joined ≡ place (first_at group b d) high

-- and the second groups
pub record JoinsSecond (group pairs low high joined : ℕ) : Type 0 where
  pub first : (b d : ℕ) → b < pairs → d < group →
      place (first_at group b d) joined ≡ place (second_at group b d) low
  pub second : (b d : ℕ) → b < pairs → d < group →
      place (second_at group b d) joined ≡ place (second_at group b d) high

-- each of `count` words from word `first` on got the first groups of itself and of the word a group
-- after it, which got the second groups of both
pub record AreExchanged (group pairs first count : ℕ) (before after : List ℕ) : Type 0 where
  pub lows : (c : ℕ) → c < count → JoinsFirst group pairs (word before (first + c))
      (word before (first + (group + c))) (word after (first + c))
  pub highs : (c : ℕ) → c < count → JoinsSecond group pairs (word before (first + c))
      (word before (first + (group + c))) (word after (first + (group + c)))
  pub others : (i : ℕ) →
      ((c : ℕ) → c < count → (i ≢ first + c) × (i ≢ first + (group + c))) →
      word after i ≡ word before i

-- so did the words of the first `count` pairs of groups
pub record IsStage (group pairs count : ℕ) (before after : List ℕ) : Type 0 where
  pub lows : (a c : ℕ) → a < count → c < group → JoinsFirst group pairs
      (word before (first_at group a c)) (word before (second_at group a c))
      (word after (first_at group a c))
  pub highs : (a c : ℕ) → a < count → c < group → JoinsSecond group pairs
      (word before (first_at group a c)) (word before (second_at group a c))
      (word after (second_at group a c))
  pub others : (i : ℕ) → count * (2 * group) ≤ i → word after i ≡ word before i

-- squares of `group` words by `group` places were transposed as wholes
pub record AreSquaresTurned (group count : ℕ) (before after : List ℕ) : Type 0 where
  pub each : (a b c d : ℕ) → a < count → b < count → c < group → d < group →
      place (b * group + d) (word after (a * group + c))
      ≡ place (a * group + d) (word before (b * group + c))

-- place j of word i is what place i of word j was
pub record AreTurned (before after : List ℕ) : Type 0 where
  pub each : (i j : ℕ) → i < 64 → j < 64 → place j (word after i) ≡ place i (word before j)
