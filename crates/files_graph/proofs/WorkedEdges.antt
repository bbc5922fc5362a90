-- The edges of two lines with a comment between them, and the fault of a line of three names, worked
-- out by hand.
use Rattle.std.specs.Prelude.{codes, All}
use Rattle.std.proofs.Common.{◌≡◌, ◌≢◌, inr, true, ℕ, zero, suc, List, [], ◌∷◌, refl, ap, map, get_or, arith}
use Rattle.files_text.specs.Names.{names_in}
use Rattle.files_text.specs.Words.{Token, is_letter}
use Rattle.files_text.specs.Words.AreWords.{none, white, line_feed, comment, word}
use Rattle.files_graph.specs.Edges.{AreEdges, AreWordsOf, IsFirstFault}
use Rattle.files_graph.specs.Edges.IsFaulty.{third}

-- the bytes of a, b, c, white space and a number sign
abbrev two_lines : List ℕ
two_lines = 97 ∷ 32 ∷ 98 ∷ 10 ∷ 35 ∷ 99 ∷ 10 ∷ 98 ∷ 32 ∷ 97 ∷ []

abbrev letter : (byte line column : ℕ) → Token
letter byte line column = record { text = byte ∷ []; line = line; column = column }

abbrev words : List Token
words = letter 97 1 1 ∷ letter 98 1 3 ∷ letter 98 3 1 ∷ letter 97 3 3 ∷ []

-- a letter by itself
alone : (x : ℕ) → is_letter (codes ",") x ≡ true → All (λ byte. is_letter (codes ",") byte ≡ true) (x ∷ [])
alone x is zero d less = is
alone x is (suc k) d less = absurd (omega (arith, less))

no_line_feed : All (λ (byte : ℕ). byte ≢ 10) (99 ∷ [])
no_line_feed zero d less = λ same. omega (arith, same)
no_line_feed (suc k) d less = absurd (omega (arith, less))

are_words : AreWordsOf two_lines words
are_words =
    word 97 [] (λ same. omega (arith, same), refl) (inr (alone 97 refl, refl)) (white refl (λ same. omega (arith, same))
    (word 98 [] (λ same. omega (arith, same), refl) (inr (alone 98 refl, refl)) (line_feed
    (comment (99 ∷ []) no_line_feed refl (line_feed
    (word 98 [] (λ same. omega (arith, same), refl) (inr (alone 98 refl, refl)) (white refl (λ same. omega (arith, same))
    (word 97 [] (λ same. omega (arith, same), refl) (inr (alone 97 refl, tt)) none))))))))

is_name : (x : ℕ) → x ≢ 44 → (x ∷ []) ≢ codes ","
is_name x other same = other (ap (λ l. get_or l 0 x) same)

-- they are an edge from a to b, and one back
are_edges : AreEdges words ((codes "a", codes "b") ∷ (codes "b", codes "a") ∷ [])
are_edges = (
  is_name 97 (λ same. omega (arith, same)),
  is_name 98 (λ same. omega (arith, same)),
  refl,
  (λ same. omega (arith, same)),
  refl,
  (is_name 98 (λ same. omega (arith, same)), is_name 97 (λ same. omega (arith, same)), refl, tt, refl, tt),
)

-- a is node 0, and b node 1
names : names_in (map (λ (w : Token). w.text) words) ≡ codes "a" ∷ codes "b" ∷ []
names = refl

-- a third name on a line is a fault at its column
fault : IsFirstFault (letter 97 1 1 ∷ letter 98 1 3 ∷ letter 99 1 5 ∷ []) 1 5 (codes "the end of the line after two names")
fault = record {
  before = letter 97 1 1 ∷ letter 98 1 3 ∷ [];
  rest = letter 99 1 5 ∷ [];
  cut = refl;
  edges = (codes "a", codes "b") ∷ [];
  are_edges = (is_name 97 (λ same. omega (arith, same)), is_name 98 (λ same. omega (arith, same)), refl, tt, refl, tt);
  faulty = third (is_name 99 (λ same. omega (arith, same))) refl;
}
