-- A word spells what its characters spell, one after another.
use Rattle.std.proofs.Common.{◌≡◌, ◌≢◌, ℕ, zero, suc, ◌+◌, ◌*◌, ◌<◌, Bool, true, false, List, []}
use Rattle.std.proofs.Common.{◌∷◌, ◌++◌, length, map, get_or, take, drop, refl, ap, ◌∙◌, arith}
use Rattle.std.proofs.Common.{codes, eqb}
use Rattle.std.specs.List.{position_or_len}
use Rattle.std.specs.Cmp.Lexicographic.{pointwise}
use Rattle.std.specs.Str.Parse.{AllDigits}
use Rattle.std.specs.declared.ops.Bound.{Bound}
use Rattle.std.specs.declared.ops.Bound.TheVariants.{Included, Excluded, Unbounded}
use Rattle.std.proofs.Math.Numerals.{one-add}
use Rattle.std.proofs.lemmas.Bool.Decides.{nat_tests}
use Rattle.vob_lines.specs.Spelling.{letters, IsPair, ArePairs, WritesBytes, IsStart, IsRange}

-- a test for the dash that fails
pub not_dash : (word dash : List ℕ) (test : Bool) → test ≡ pointwise eqb word dash →
    test ≡ false → dash ≡ codes "-" → word ≢ codes "-"
not_dash word dash test is fails e =
    λ same. let passes : test ≡ true = rw (same, e) at is in cc

module _ {X : Type 0} (letter : X → ℕ) where
  letter_at : (xs : List X) (k : ℕ) → k < length (map letter xs) →
      (x : X) × (get_or (map letter xs) k 0 ≡ letter x)
  letter_at [] k below = absurd (omega arith)
  letter_at (x ∷ xs) zero below = (x, refl)
  letter_at (x ∷ xs) (suc k) below = letter_at xs k (omega arith)

  -- a character that is no letter
  pub letters-none : (word : List ℕ) (k : ℕ) → k < length word →
      ((x : X) → get_or word k 0 ≢ letter x) → word ≢ codes "-" → (xs : List X) →
      word ≢ letters letter xs
  letters-none word k below other some [] e = some e
  letters-none word k below other some (x ∷ xs) e =
      let found = letter_at (x ∷ xs) k (omega (arith, ap length e)) in
      other found.0 (ap (λ w. get_or w k 0) e ∙ found.1)

-- two digits more
pub ArePairs_push : (word bytes : List ℕ) (high low byte : ℕ) → ArePairs word bytes →
    IsPair high low byte → ArePairs (word ++ high ∷ low ∷ []) (bytes ++ byte ∷ [])
ArePairs_push word [] high low byte pairs pair = (high, low, [], rw pairs refl, pair, refl)
ArePairs_push word (first ∷ bytes) high low byte pairs pair =
    let rest = ArePairs_push pairs.2 bytes high low byte pairs.5 pair in
    (pairs.0, pairs.1, pairs.2 ++ high ∷ low ∷ [], rw pairs.3 refl, pairs.4, rest)

-- the next two characters
pub take_two : (word : List ℕ) (n i j : ℕ) → i + 1 < length word → n ≡ i + 2 → j ≡ i + 1 →
    take n word ≡ take i word ++ get_or word i 0 ∷ get_or word j 0 ∷ []
take_two [] n i j below end next = absurd (omega arith)
take_two (x ∷ []) n i j below end next = absurd (omega arith)
take_two (x ∷ y ∷ word) n zero j below end next = rw (end, next) refl
take_two (x ∷ y ∷ word) n (suc i) j below end next =
    let n2 : n ≡ suc (i + 2) = omega arith in let j2 : j ≡ suc (i + 1) = omega arith in
    rw (n2, j2) (ap (λ w. x ∷ w) (take_two (y ∷ word) (i + 2) i (i + 1) (omega arith) refl refl))

-- as many digits as twice the bytes
pub length-pairs : (word bytes : List ℕ) → ArePairs word bytes → length word ≡ 2 * length bytes
length-pairs word [] pairs = ap length pairs
length-pairs word (byte ∷ bytes) pairs =
    let rest = length-pairs pairs.2 bytes pairs.5 in omega (arith, ap length pairs.3)

-- the digits of each byte
pub pair_at : (word bytes : List ℕ) (k i j : ℕ) → ArePairs word bytes → k < length bytes →
    i ≡ 2 * k → j ≡ 2 * k + 1 → IsPair (get_or word i 0) (get_or word j 0) (get_or bytes k 0)
pair_at word [] k i j pairs below first second = absurd (omega arith)
pair_at word (byte ∷ bytes) zero i j pairs below first second =
    let i0 : i ≡ 0 = omega arith in let j1 : j ≡ 1 = omega arith in
    rw (i0, j1, pairs.3) pairs.4
pair_at word (byte ∷ bytes) (suc k) i j pairs below first second =
    let i2 : i ≡ suc (suc (2 * k)) = omega arith in
    let j2 : j ≡ suc (suc (2 * k + 1)) = omega arith in
    let later = pair_at pairs.2 bytes k (2 * k) (2 * k + 1) pairs.5 (omega arith) refl refl in
    rw (i2, j2, pairs.3) later

-- a word of pairs writes its bytes
pub writes_pairs : (word bytes : List ℕ) → ArePairs word bytes → 0 < length word →
    WritesBytes word bytes
writes_pairs word [] pairs some = absurd (omega (arith, ap length pairs))
writes_pairs word (byte ∷ bytes) pairs some = pairs

-- and no other word than a dash does
pub pairs_written : (word bytes : List ℕ) → WritesBytes word bytes → word ≢ codes "-" →
    ArePairs word bytes × (0 < length bytes)
pairs_written word [] writes other = absurd (other writes)
pairs_written word (byte ∷ bytes) writes other = (writes, omega arith)

abbrev is_dot : ℕ → Bool
is_dot byte = eqb byte 46

-- before the dots
abbrev Dotless : List ℕ → Type 0
Dotless front = (rest : List ℕ) → position_or_len is_dot (front ++ 46 ∷ rest) ≡ length front

Dotless-cons : (c : ℕ) (cs : List ℕ) → is_dot c ≡ false → Dotless cs → Dotless (c ∷ cs)
Dotless-cons c cs other front = λ rest. rw (other, one-add) (ap suc (front rest))

Dotless-digits : (cs : List ℕ) → AllDigits 10 cs → Dotless cs
Dotless-digits [] all = λ rest. refl
Dotless-digits (c ∷ cs) all =
    let other : is_dot c ≡ false = grind (arith, nat_tests, all.0) in
    Dotless-cons c cs other (Dotless-digits cs all.1)

Dotless-start : (front : List ℕ) (start : Bound ℕ) → IsStart front start → Dotless front
Dotless-start front Unbounded begins = rw begins (λ rest. refl)
Dotless-start front (Included n) begins = Dotless-digits front begins.0.1
Dotless-start front (Excluded n) begins =
    rw begins.1 (Dotless-cons 62 begins.0 refl (Dotless-digits begins.0 begins.2.0.1))

place-front : (front back : List ℕ) → Dotless front →
    position_or_len is_dot (front ++ (codes ".." ++ back)) ≡ length front
place-front front back free = free (46 ∷ back)

take_front : (xs ys : List ℕ) → take (length xs) (xs ++ ys) ≡ xs
take_front [] ys = refl
take_front (x ∷ xs) ys = ap (λ zs. x ∷ zs) (take_front xs ys)

drop_front : (xs ys : List ℕ) → drop (length xs) (xs ++ ys) ≡ ys
drop_front [] ys = refl
drop_front (x ∷ xs) ys = drop_front xs ys

-- a range is cut at its first dot
pub range-cut : (word : List ℕ) (start end : Bound ℕ) (n : ℕ) (range : IsRange word start end) →
    n ≡ position_or_len is_dot word →
    (take n word ≡ range.front) × (drop n word ≡ codes ".." ++ range.back)
range-cut word start end n range place =
    let front : position_or_len is_dot word ≡ length range.front =
    ap (λ w. position_or_len is_dot w) range.cut
    ∙ place-front range.front range.back (Dotless-start range.front start range.begins) in
    rw (place ∙ front, range.cut)
    (take_front range.front _, drop_front range.front _)
