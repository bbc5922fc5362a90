-- A condition with `&`, `!`, `|` and parentheses, and a parenthesis that closes nothing, worked out by
-- hand.
use Rattle.std.specs.Prelude.{All, codes}
use Rattle.std.proofs.Common.{◌≡◌, true, false, ℕ, zero, suc, List, [], ◌∷◌, refl, ap, length, arith}
use Rattle.std.proofs.lemmas.Bool.{false≢true}
use Rattle.files_condition.specs.declared.condition.Relation.TheVariants.{Equal}
use Rattle.files_condition.specs.declared.words.Mark.TheVariants.{And, Close, Compares, Not, Open, Or}
use Rattle.files_condition.specs.Conditions.{IsComparison, IsCondition, Test, both, comparison, compared, contrary, either}
use Rattle.files_condition.specs.Conditions.IsComparison.{asks_value}
use Rattle.files_condition.specs.Conditions.IsExpression.{compares, conjoined, disjoined, grouped, negated, one_conjunction, one_operand}
use Rattle.files_condition.specs.Places.{IsFirstFault, after_operand}
use Rattle.files_condition.specs.Words.{AreWordsOf, Term, Token, is_plain, mark, text}
use Rattle.files_condition.specs.Words.AreWords.{none, white, word}
use Rattle.files_condition.proofs.PlaceLemmas.{leads}

abbrev letter : (byte at : ℕ) → Term
letter byte at = record { text = byte ∷ []; at = at; is_quoted = false }

-- a letter by itself
alone : (x : ℕ) → is_plain x ≡ true → All (λ byte. is_plain byte ≡ true) (x ∷ [])
alone x is zero d less = is
alone x is (suc k) d less = absurd (omega (arith, less))

-- the words of a=1 | !(b=2 & c=3)
abbrev words : List Token
words = text (letter 97 1) ∷ mark (Compares Equal) 2 ∷ text (letter 49 3) ∷ mark Or 5 ∷ mark Not 7 ∷ mark Open 8
    ∷ text (letter 98 9) ∷ mark (Compares Equal) 10 ∷ text (letter 50 11) ∷ mark And 13
    ∷ text (letter 99 15) ∷ mark (Compares Equal) 16 ∷ text (letter 51 17) ∷ mark Close 18 ∷ []

are_words : AreWordsOf (codes "a=1 | !(b=2 & c=3)") words
are_words = record {
  after = 19;
  are_words =
      word 97 [] (refl, (refl, alone 97 refl, refl)) (word 61 [] (refl, refl, tt)
      (word 49 [] (refl, (refl, alone 49 refl, refl)) (white refl (word 124 [] (refl, refl, tt) (white refl
      (word 33 [] (refl, refl, (λ same. omega (arith, same))) (word 40 [] (refl, refl, tt)
      (word 98 [] (refl, (refl, alone 98 refl, refl)) (word 61 [] (refl, refl, tt)
      (word 50 [] (refl, (refl, alone 50 refl, refl)) (white refl (word 38 [] (refl, refl, tt) (white refl
      (word 99 [] (refl, (refl, alone 99 refl, refl)) (word 61 [] (refl, refl, tt)
      (word 51 [] (refl, (refl, alone 51 refl, refl)) (word 41 [] (refl, refl, tt) none)))))))))))))))));
  few = omega arith;
}

abbrev equals : (name value : Term) → Test
equals name value = record { column = name; asked = compared Equal value }

some : (x : ℕ) → (x ∷ []) ≡ [] → ⊥
some x same = omega (arith, ap length same)

equal : (name x : ℕ) (at column to : ℕ) →
    IsComparison (text (letter name at) ∷ mark (Compares Equal) column ∷ text (letter x to) ∷ [])
    (equals (letter name at) (letter x to))
equal name x at column to = asks_value (letter name at) (letter x to) Equal (some x)

-- it asks for comparison 0, or that 1 and 2 aren't both so
is_condition : IsCondition (codes "a=1 | !(b=2 & c=3)")
    (equals (letter 97 1) (letter 49 3) ∷ equals (letter 98 9) (letter 50 11) ∷ equals (letter 99 15) (letter 51 17)
    ∷ [])
    (either (comparison 0) (contrary (both (comparison 1) (comparison 2))))
is_condition = record {
  words = words;
  are_words = are_words;
  are_condition = disjoined 5 (one_conjunction (one_operand (compares (equal 97 49 1 2 3))))
      (one_operand (negated (grouped 18 (one_conjunction
      (conjoined 13 (one_operand (compares (equal 98 50 9 10 11))) (compares (equal 99 51 15 16 17)))))));
}

-- the words of a=1)
abbrev few_words : List Token
few_words = text (letter 97 1) ∷ mark (Compares Equal) 2 ∷ text (letter 49 3) ∷ mark Close 4 ∷ []

few_are_words : AreWordsOf (codes "a=1)") few_words
few_are_words = record {
  after = 5;
  are_words = word 97 [] (refl, (refl, alone 97 refl, refl)) (word 61 [] (refl, refl, tt)
      (word 49 [] (refl, (refl, alone 49 refl, refl)) (word 41 [] (refl, refl, tt) none)));
  few = omega arith;
}

-- the parenthesis is the first that can't stand where it does
pub fault : IsFirstFault 5 few_words 4 (codes "`&`, `|` or the end")
fault = record {
  before = text (letter 97 1) ∷ mark (Compares Equal) 2 ∷ text (letter 49 3) ∷ [];
  rest = mark Close 4 ∷ [];
  cut = refl;
  place = after_operand false;
  lead = leads _ _ refl;
  stop = false≢true;
  column_is = refl;
  expected_is = refl;
}
