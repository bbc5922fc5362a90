-- A word stands for one argument of a kind.
use Rattle.std.proofs.Common.{◌≡◌, ◌≢◌, ℕ, Bool, true, false, List, [], ◌∷◌, length, map, refl, ap, sym, ◌∙◌, arith, subst, eqb}
use Rattle.std.specs.List.{position_or_len}
use Rattle.std.specs.declared.ops.Bound.{Bound}
use Rattle.std.specs.declared.ops.Bound.TheVariants.{Included, Excluded, Unbounded}
use Rattle.vob_walk.specs.declared.walk.End.{End}
use Rattle.vob_walk.specs.declared.walk.End.TheVariants.{Front, Back}
use Rattle.vob_lines.specs.Spelling.{digit, initial, letters, IsPair, ArePairs, WritesBytes, IsStart, IsEnd, IsRange, Writes}
use Rattle.vob_lines.specs.Arguments.{Argument, number, bit, bits, bytes, range, pulls, Spells}
use Rattle.vob_lines.specs.Kinds.{kind_of}
use Rattle.vob_lines.proofs.SpellingLemmas.{range-cut}

digit_once : (a b : Bool) → digit a ≡ digit b → a ≡ b
digit_once true true e = refl
digit_once false false e = refl
digit_once true false e = absurd (omega (arith, e))
digit_once false true e = absurd (omega (arith, e))

digit_some : (a : Bool) → digit a ≢ 45
digit_some true e = absurd (omega (arith, e))
digit_some false e = absurd (omega (arith, e))

initial_once : (a b : End) → initial a ≡ initial b → a ≡ b
initial_once Front Front e = refl
initial_once Back Back e = refl
initial_once Front Back e = absurd (omega (arith, e))
initial_once Back Front e = absurd (omega (arith, e))

initial_some : (a : End) → initial a ≢ 45
initial_some Front e = absurd (omega (arith, e))
initial_some Back e = absurd (omega (arith, e))

-- letters that tell their values apart, and aren't the dash, tell lists of values apart
module _ {X : Type 0} (letter : X → ℕ) (once : (a b : X) → letter a ≡ letter b → a ≡ b)
    (some : (a : X) → letter a ≢ 45) where
  map_once : (xs ys : List X) → map letter xs ≡ map letter ys → xs ≡ ys
  map_once [] [] e = refl
  map_once [] (y ∷ ys) e = cc
  map_once (x ∷ xs) [] e = cc
  map_once (x ∷ xs) (y ∷ ys) e =
      let first : letter x ≡ letter y = cc in
      let others : map letter xs ≡ map letter ys = cc in
      let same = once x y first in
      let rest = map_once xs ys others in cc

  letters_once : (xs ys : List X) → letters letter xs ≡ letters letter ys → xs ≡ ys
  letters_once [] [] e = refl
  letters_once [] (y ∷ ys) e = let dash : letter y ≡ 45 = cc in absurd (some y dash)
  letters_once (x ∷ xs) [] e = let dash : letter x ≡ 45 = cc in absurd (some x dash)
  letters_once (x ∷ xs) (y ∷ ys) e = map_once (x ∷ xs) (y ∷ ys) e

pair_once : (high low other_high other_low x y : ℕ) → IsPair high low x →
    IsPair other_high other_low y → high ≡ other_high → low ≡ other_low → x ≡ y
pair_once high low other_high other_low x y here there first second =
    let same = rw (first, second) at here in sym same.1 ∙ there.1

pairs_once : (word xs ys : List ℕ) → ArePairs word xs → ArePairs word ys → xs ≡ ys
pairs_once word [] [] here there = refl
pairs_once word [] (y ∷ ys) here there = let e = there.3 in cc
pairs_once word (x ∷ xs) [] here there = let e = here.3 in cc
pairs_once word (x ∷ xs) (y ∷ ys) here there =
    let e : here.0 ∷ here.1 ∷ here.2 ≡ there.0 ∷ there.1 ∷ there.2 = sym here.3 ∙ there.3 in
    let high : here.0 ≡ there.0 = cc in
    let low : here.1 ≡ there.1 = cc in
    let rest : here.2 ≡ there.2 = cc in
    let same = pair_once _ _ _ _ x y here.4 there.4 high low in
    let others = pairs_once there.2 xs ys (subst (λ w. ArePairs w xs) rest here.5) there.5 in
    cc

bytes_once : (word xs ys : List ℕ) → WritesBytes word xs → WritesBytes word ys → xs ≡ ys
bytes_once word [] [] here there = refl
bytes_once word [] (y ∷ ys) here there = let e = sym here ∙ there.3 in cc
bytes_once word (x ∷ xs) [] here there = let e = sym there ∙ here.3 in cc
bytes_once word (x ∷ xs) (y ∷ ys) here there = pairs_once word (x ∷ xs) (y ∷ ys) here there

no_numeral : (word : List ℕ) (n : ℕ) → Writes word n → word ≡ [] → ⊥
no_numeral word n writes none = omega (arith, writes.0.0, ap length none)

no_mark : (word numeral : List ℕ) (mark n : ℕ) → Writes word n → word ≡ mark ∷ numeral →
    (mark ≡ 62 → ⊥) × (mark ≡ 61 → ⊥)
no_mark word numeral mark n writes e =
    let digits = rw e at writes.0.1 in (
      λ same. let other = rw same at digits.0 in omega (arith, other),
      λ same. let other = rw same at digits.0 in omega (arith, other),
    )

start_once : (word : List ℕ) (a b : Bound ℕ) → IsStart word a → IsStart word b → a ≡ b
start_once word Unbounded Unbounded here there = refl
start_once word Unbounded (Included n) here there = absurd (no_numeral word n there here)
start_once word Unbounded (Excluded n) here there = let e = sym here ∙ there.1 in cc
start_once word (Included m) Unbounded here there = absurd (no_numeral word m here there)
start_once word (Included m) (Included n) here there = ap Included (sym here.1 ∙ there.1)
start_once word (Included m) (Excluded n) here there =
    absurd ((no_mark word there.0 62 m here there.1).0 refl)
start_once word (Excluded m) Unbounded here there = let e = sym there ∙ here.1 in cc
start_once word (Excluded m) (Included n) here there =
    absurd ((no_mark word here.0 62 n there here.1).0 refl)
start_once word (Excluded m) (Excluded n) here there =
    let e = sym here.1 ∙ there.1 in
    let same : here.0 ≡ there.0 = cc in
    let value = rw same at here.2.1 in ap Excluded (sym value ∙ there.2.1)

end_once : (word : List ℕ) (a b : Bound ℕ) → IsEnd word a → IsEnd word b → a ≡ b
end_once word Unbounded Unbounded here there = refl
end_once word Unbounded (Excluded n) here there = absurd (no_numeral word n there here)
end_once word Unbounded (Included n) here there = let e = sym here ∙ there.1 in cc
end_once word (Excluded m) Unbounded here there = absurd (no_numeral word m here there)
end_once word (Excluded m) (Excluded n) here there = ap Excluded (sym here.1 ∙ there.1)
end_once word (Excluded m) (Included n) here there =
    absurd ((no_mark word there.0 61 m here there.1).1 refl)
end_once word (Included m) Unbounded here there = let e = sym there ∙ here.1 in cc
end_once word (Included m) (Excluded n) here there =
    absurd ((no_mark word here.0 61 n there here.1).1 refl)
end_once word (Included m) (Included n) here there =
    let e = sym here.1 ∙ there.1 in
    let same : here.0 ≡ there.0 = cc in
    let value = rw same at here.2.1 in ap Included (sym value ∙ there.2.1)

abbrev is_dot : ℕ → Bool
is_dot byte = eqb byte 46

range_once : (word : List ℕ) (a b c d : Bound ℕ) → IsRange word a b → IsRange word c d →
    range a b ≡ range c d
range_once word a b c d here there =
    let n = position_or_len is_dot word in
    let mine = range-cut word a b n here refl in
    let other = range-cut word c d n there refl in
    let front : here.front ≡ there.front = sym mine.0 ∙ other.0 in
    let dots = sym mine.1 ∙ other.1 in
    let back : here.back ≡ there.back = cc in
    let start = start_once there.front a c (rw front at here.begins) there.begins in
    let end = end_once there.back b d (rw back at here.ends) there.ends in
    cc

pub spells_once : (word : List ℕ) (x y : Argument) → kind_of x ≡ kind_of y → Spells word x →
    Spells word y → x ≡ y
spells_once word (number m) (number n) same here there = ap number (sym here.1 ∙ there.1)
spells_once word (bit a) (bit b) same here there =
    ap bit (digit_once a b (let e = sym here ∙ there in cc))
spells_once word (bits xs) (bits ys) same here there =
    ap bits (letters_once digit digit_once digit_some xs ys (sym here ∙ there))
spells_once word (bytes xs) (bytes ys) same here there = ap bytes (bytes_once word xs ys here there)
spells_once word (range a b) (range c d) same here there = range_once word a b c d here there
spells_once word (pulls xs) (pulls ys) same here there =
    ap pulls (letters_once initial initial_once initial_some xs ys (sym here ∙ there))
spells_once word (number m) (bit q) same here there = cc
spells_once word (number m) (bits ys) same here there = cc
spells_once word (number m) (bytes ys) same here there = cc
spells_once word (number m) (range c d) same here there = cc
spells_once word (number m) (pulls ys) same here there = cc
spells_once word (bit p) (number n) same here there = cc
spells_once word (bit p) (bits ys) same here there = cc
spells_once word (bit p) (bytes ys) same here there = cc
spells_once word (bit p) (range c d) same here there = cc
spells_once word (bit p) (pulls ys) same here there = cc
spells_once word (bits xs) (number n) same here there = cc
spells_once word (bits xs) (bit q) same here there = cc
spells_once word (bits xs) (bytes ys) same here there = cc
spells_once word (bits xs) (range c d) same here there = cc
spells_once word (bits xs) (pulls ys) same here there = cc
spells_once word (bytes xs) (number n) same here there = cc
spells_once word (bytes xs) (bit q) same here there = cc
spells_once word (bytes xs) (bits ys) same here there = cc
spells_once word (bytes xs) (range c d) same here there = cc
spells_once word (bytes xs) (pulls ys) same here there = cc
spells_once word (range a b) (number n) same here there = cc
spells_once word (range a b) (bit q) same here there = cc
spells_once word (range a b) (bits ys) same here there = cc
spells_once word (range a b) (bytes ys) same here there = cc
spells_once word (range a b) (pulls ys) same here there = cc
spells_once word (pulls xs) (number n) same here there = cc
spells_once word (pulls xs) (bit q) same here there = cc
spells_once word (pulls xs) (bits ys) same here there = cc
spells_once word (pulls xs) (bytes ys) same here there = cc
spells_once word (pulls xs) (range c d) same here there = cc
