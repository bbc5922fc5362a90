-- The words of a line and the lines of a text, cut off one after another.
use Rattle.std.proofs.Common.{◌≡◌, ℕ, ◌+◌, ◌<◌, Bool, true, false, cond, not, List, [], ◌∷◌, length}
use Rattle.std.proofs.Common.{get_or, take, drop, refl, ap, sym, ◌∙◌, arith, length-take}
use Rattle.std.proofs.Common.{length-drop, get_or-drop, add-zero, eqb}
use Rattle.std.proofs.Math.Numerals.{one-add}
use Rattle.std.specs.Prelude.{filter, nat_lt}
use Rattle.std.specs.List.{slice_split, prefix_len, position_or_len}
use Rattle.std.specs.Str.Lines.{strip_carriage_return}
use Rattle.std.proofs.lemmas.List.{nil_from_length}
use Rattle.std.proofs.lemmas.Bool.{lt-ltb}
use Rattle.std.proofs.lemmas.Bool.Decides.{nat_tests}
use Rattle.std.proofs.lemmas.List.Splits.{slice_split_first, slice_split_none}
use Rattle.std.proofs.lemmas.List.Sums.{fails_before_first, prefix_len_stops, prefix_len-le-length}
use Rattle.vob_lines.specs.Cuts.{is_space, is_line_feed, words_of, lines_of}

-- a space in front is of no word
words_of-cons_space : (x : ℕ) (xs : List ℕ) → is_space x ≡ true → words_of (x ∷ xs) ≡ words_of xs
unfolding words_of
words_of-cons_space x xs space = rw space refl

-- nor are several
pub words_of-spaces : (xs : List ℕ) → words_of xs ≡ words_of (drop (prefix_len is_space xs) xs)
words_of-spaces [] = refl
words_of-spaces (x ∷ xs) =
    let n : Bool → ℕ = λ b. cond b (1 + prefix_len is_space xs) 0 in
    let same : Bool → Type 0 = λ b. words_of (x ∷ xs) ≡ words_of (drop (n b) (x ∷ xs)) in
    elim (is_space x) as (λ b. is_space x ≡ b → same b) [
      | true ↦ λ e. rw one-add (words_of-cons_space x xs e ∙ words_of-spaces xs)
      | false ↦ λ e. refl
    ] refl

abbrev is_part : List ℕ → Bool
is_part part = nat_lt 0 (length part)

-- the parts of a line, the first of them before its first space
record CutsPart (xs : List ℕ) (n : ℕ) : Type 0 where
  parts : List (List ℕ)
  first : slice_split is_space xs ≡ take n xs ∷ parts
  others : filter is_part parts ≡ words_of (drop n xs)

cuts_part : (xs : List ℕ) → CutsPart xs (position_or_len is_space xs)
unfolding words_of
cuts_part [] = record { parts = []; first = refl; others = refl }
cuts_part (x ∷ xs) =
    let n : Bool → ℕ = λ b. cond (not b) (1 + position_or_len is_space xs) 0 in
    elim (is_space x) as (λ b. is_space x ≡ b → CutsPart (x ∷ xs) (n b)) [
      | true ↦ λ e. record {
        parts = slice_split is_space xs;
        first = rw e refl;
        others = sym (words_of-cons_space x xs e);
      }
      | false ↦ λ e. let cut = cuts_part xs in rw one-add (record {
        parts = cut.parts;
        first = rw e (rw cut.first refl);
        others = cut.others;
      })
    ] refl

-- what stands before the first space is a word, unless it is empty
words_of-part : (xs : List ℕ) → let n = position_or_len is_space xs in
    0 < n → words_of xs ≡ take n xs ∷ words_of (drop n xs)
unfolding words_of
words_of-part xs some =
    let cut = cuts_part xs in
    let n = position_or_len is_space xs in
    let within = prefix_len-le-length (λ x. not (is_space x)) xs in
    let long : 0 < length (take n xs) = simp length-take (omega (arith, within)) in
    let kept : is_part (take n xs) ≡ true = lt-ltb 0 (length (take n xs)) long in
    rw cut.first (rw kept (ap (λ parts. take n xs ∷ parts) cut.others))

some_part : (xs : List ℕ) → 0 < length xs → is_space (get_or xs 0 0) ≡ false →
    0 < position_or_len is_space xs
some_part [] long other = long
some_part (x ∷ xs) long other = rw other (omega arith)

-- behind its leading spaces, a line begins with its first word
words_of-word : (xs rest : List ℕ) → rest ≡ drop (prefix_len is_space xs) xs → 0 < length rest →
    let n = position_or_len is_space rest in words_of xs ≡ take n rest ∷ words_of (drop n rest)
words_of-word xs rest e long =
    let n = prefix_len is_space xs in
    let within : n < length xs = omega (arith, ap length e, length-drop n xs) in
    let stop : is_space (get_or xs n 0) ≡ false = prefix_len_stops is_space xs 0 within in
    let first : get_or rest 0 0 ≡ get_or xs n 0 =
    ap (λ ys. get_or ys 0 0) e ∙ get_or-drop n xs 0 0 ∙ ap (λ k. get_or xs k 0) (add-zero n) in
    let some = some_part rest long (ap is_space first ∙ stop) in
    words_of-spaces xs ∙ ap words_of (sym e) ∙ words_of-part rest some

pub words_of-cut : (xs rest : List ℕ) (n : ℕ) (word after : List ℕ) →
    rest ≡ drop (prefix_len is_space xs) xs → 0 < length rest → n ≡ position_or_len is_space rest →
    word ≡ take n rest → after ≡ drop n rest → words_of xs ≡ word ∷ words_of after
words_of-cut xs rest n word after e long place front back =
    rw (front, back, place) (words_of-word xs rest e long)

-- where nothing stands behind the leading spaces there are no words
pub words_of-blank : (xs rest : List ℕ) → rest ≡ drop (prefix_len is_space xs) xs →
    length rest ≡ 0 → words_of xs ≡ []
unfolding words_of
words_of-blank xs rest e none = words_of-spaces xs ∙ ap words_of (sym e ∙ nil_from_length rest none)

-- and nowhere else
pub words_of-none : (xs rest : List ℕ) → rest ≡ drop (prefix_len is_space xs) xs →
    words_of xs ≡ [] → length rest ≡ 0
words_of-none xs [] e none = refl
words_of-none xs (y ∷ ys) e none = let some = words_of-word xs (y ∷ ys) e (omega arith) in cc

-- a line that no line feed ends is the last one
pub lines_of-last : (xs : List ℕ) → position_or_len is_line_feed xs ≡ length xs → 0 < length xs →
    lines_of xs ≡ xs ∷ lines_of []
unfolding lines_of
lines_of-last xs e long =
    let others =
    λ (k d : ℕ) (h : k < length xs). fails_before_first is_line_feed xs k d (omega arith) in
    let whole : slice_split is_line_feed xs ≡ xs ∷ [] = slice_split_none is_line_feed xs others in
    let some : eqb (length xs) 0 ≡ false = grind (arith, nat_tests) in
    rw whole (rw some refl)

-- parts, of which there is at least one
abbrev HasParts : List (List ℕ) → Type 0
HasParts cut = (part : List ℕ) × (parts : List (List ℕ)) × (cut ≡ part ∷ parts)

some_parts : (xs : List ℕ) → HasParts (slice_split is_line_feed xs)
some_parts [] = ([], [], refl)
some_parts (x ∷ xs) =
    let cut = slice_split is_line_feed (x ∷ xs) in
    elim (is_line_feed x) as (λ b. is_line_feed x ≡ b → HasParts cut) [
      | true ↦ λ e. ([], slice_split is_line_feed xs, rw e refl)
      | false ↦ λ e. let cut = some_parts xs in (x ∷ cut.0, cut.1, rw e (rw cut.2 refl))
    ] refl

-- the first line goes up to the first line feed, and loses its carriage return
pub lines_of-first : (xs : List ℕ) (n : ℕ) (line after : List ℕ) →
    n ≡ position_or_len is_line_feed xs → n < length xs →
    line ≡ strip_carriage_return (take n xs) → after ≡ drop (n + 1) xs →
    lines_of xs ≡ line ∷ lines_of after
unfolding lines_of
lines_of-first xs n line after e within front back =
    let p : position_or_len is_line_feed xs < length xs = omega arith in
    let cut = slice_split_first is_line_feed xs 0 p in
    let rest = some_parts (drop (position_or_len is_line_feed xs + 1) xs) in
    rw (front, back, e) (rw cut (rw rest.2 refl))
