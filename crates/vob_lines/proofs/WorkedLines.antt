-- Which calls three lines are read as, worked out by hand and then by computation.
use Rattle.std.specs.Prelude.{codes}
use Rattle.std.specs.declared.ops.Bound.TheVariants.{Included}
use Rattle.std.proofs.Common.{◌≡◌, ℕ, ◌^◌, true, List, [], ◌∷◌, get_or, refl, ap, arith, lit<}
use Rattle.vob_walk.specs.declared.walk.End.TheVariants.{Front, Back}
use Rattle.vob_run.specs.Call.{FromRaw, FromBytes, Push, Pop, Walk}
use Rattle.vob_lines.specs.Spelling.{Writes}
use Rattle.vob_lines.specs.Grammar.{Reads}

-- ---- numerals

zero_is_written : Writes (codes "0") 0
zero_is_written = ((lit< tt, (lit< tt, tt)), refl, lit< tt)

with_leading_zeros : Writes (codes "007") 7
with_leading_zeros = ((lit< tt, (lit< tt, (lit< tt, (lit< tt, tt)))), refl, lit< tt)

-- a number past the greatest isn't written
too_great : Writes (codes "18446744073709551616") (2 ^ 64) → ⊥
too_great written = omega (arith, written.2)

-- ---- lines

abbrev walk_line : List (List ℕ)
walk_line = codes "walk" ∷ codes "0" ∷ codes "1" ∷ codes "2..=7" ∷ codes "FB" ∷ []

reads-walk : Reads walk_line (Walk 0 true (Included 2) (Included 7) (Front ∷ Back ∷ []))
reads-walk = (
  refl,
  (
    zero_is_written,
    (
      refl,
      (
        record {
          front = codes "2";
          back = codes "=7";
          cut = refl;
          begins = ((lit< tt, (lit< tt, tt)), refl, lit< tt);
          ends = (codes "7", refl, ((lit< tt, (lit< tt, tt)), refl, lit< tt));
        },
        (refl, tt),
      ),
    ),
  ),
)

abbrev raw_line : List (List ℕ)
raw_line = codes "raw" ∷ codes "10" ∷ codes "1" ∷ codes "237" ∷ codes "2" ∷ []

reads-raw : Reads raw_line (FromRaw 10 true (237 ∷ 2 ∷ []))
reads-raw = (
  refl,
  (
    ((lit< tt, (lit< tt, (lit< tt, tt))), refl, lit< tt),
    (
      refl,
      (
        ((lit< tt, (lit< tt, (lit< tt, (lit< tt, tt)))), refl, lit< tt),
        (((lit< tt, (lit< tt, tt)), refl, lit< tt), tt),
      ),
    ),
  ),
)

abbrev bytes_line : List (List ℕ)
bytes_line = codes "bytes" ∷ codes "a0Ff" ∷ []

reads-bytes : Reads bytes_line (FromBytes (160 ∷ 255 ∷ []))
reads-bytes = (
  refl,
  (
    (
      97,
      48,
      codes "Ff",
      refl,
      ((lit< tt, (lit< tt, (lit< tt, tt))), refl),
      (70, 102, [], refl, ((lit< tt, (lit< tt, (lit< tt, tt))), refl), refl),
    ),
    tt,
  ),
)

-- ---- lines that can't be read as a call

no_bit : Reads (codes "push" ∷ codes "0" ∷ codes "2" ∷ []) (Push 0 true) → ⊥
no_bit read = let code : 50 ≡ 49 = ap (λ word. get_or word 0 0) read.1.1.0 in omega (arith, code)

a_word_too_few : Reads (codes "push" ∷ codes "0" ∷ []) (Push 0 true) → ⊥
a_word_too_few read = read.1.1

another_word : Reads (codes "push" ∷ codes "0" ∷ []) (Pop 0) → ⊥
another_word read = let code : 117 ≡ 111 = ap (λ word. get_or word 1 0) read.0 in omega (arith, code)
