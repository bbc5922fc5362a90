-- The arguments of a call, and which words stand for them.
use Rattle.std.specs.Prelude.{◌≡◌, ℕ, Bool, List, [], ◌∷◌, ⊤}
use Rattle.std.specs.declared.ops.Bound.{Bound}
use Rattle.vob_walk.specs.declared.walk.End.{End}
use Rattle.vob_lines.specs.Spelling.{digit, initial, letters, Writes, WritesBytes, IsRange}

-- what a word after the first one stands for
pub data Argument : Type 0 where
  number : ℕ → Argument
  bit : Bool → Argument
  bits : List Bool → Argument
  bytes : List ℕ → Argument
  range : (start end : Bound ℕ) → Argument
  pulls : List End → Argument

-- a word stands for an argument
abbrev pub Spells : List ℕ → Argument → Type 0
Spells word (number n) = Writes word n
Spells word (bit value) = word ≡ digit value ∷ []
Spells word (bits values) = word ≡ letters digit values
Spells word (bytes values) = WritesBytes word values
Spells word (range start end) = IsRange word start end
Spells word (pulls ends) = word ≡ letters initial ends

-- each of these words stands for its argument
abbrev pub AllSpell : List (List ℕ) → List Argument → Type 0
AllSpell [] [] = ⊤
AllSpell (word ∷ words) (argument ∷ arguments) = Spells word argument × AllSpell words arguments
AllSpell [] (argument ∷ arguments) = ⊥
AllSpell (word ∷ words) [] = ⊥
