-- Bytes that are exchanged one after another, and twice.
use Rattle.std.specs.Prelude.{map}
use Rattle.std.proofs.Common.{◌≡◌, ◌==◌, ◌∙◌, ◌+◌, ◌<◌, ℕ, Bool, true, false, List, [], ◌∷◌, ◌++◌, Option, None, Some, ap, arith, drop, get_or, length, option_map, refl, set, sym, take}
use Rattle.std.proofs.lemmas.Bool.{eq-eqb, eqb-true}
use Rattle.std.proofs.lemmas.Grind.{drop_more_same}
use Rattle.std.proofs.lemmas.List.{drop-set-lt, drop_more, map-append, take_more, take_more_set}
use Rattle.std.specs.Io.KnownBytes.{Keeps}
use Rattle.files_filter.specs.Exchanged.{exchange}

-- what is left of a byte after one that is the delimiter, a comma, or another
exchanged_delimiter : (delimiter : ℕ) → exchange delimiter delimiter ≡ 44
exchanged_delimiter delimiter = rw (eq-eqb delimiter delimiter refl) refl

exchanged_comma : (delimiter : ℕ) → exchange delimiter 44 ≡ delimiter
exchanged_comma delimiter = by_delimiter (44 == delimiter) refl
  where
    by_delimiter : (is : Bool) → (44 == delimiter) ≡ is → exchange delimiter 44 ≡ delimiter
    by_delimiter true same = rw same (eqb-true 44 delimiter same)
    by_delimiter false same = rw same refl

-- exchanged twice, a byte is as before
twice : (delimiter byte : ℕ) → exchange delimiter (exchange delimiter byte) ≡ byte
twice delimiter byte = by_delimiter (byte == delimiter) refl
  where
    by_comma : (is : Bool) → (byte == delimiter) ≡ false → (byte == 44) ≡ is →
        exchange delimiter (exchange delimiter byte) ≡ byte
    by_comma true other same =
        let once : exchange delimiter byte ≡ delimiter = rw (other, same) refl in
        ap (exchange delimiter) once ∙ exchanged_delimiter delimiter ∙ sym (eqb-true byte 44 same)
    by_comma false other same =
        let once : exchange delimiter byte ≡ byte = rw (other, same) refl in
        ap (exchange delimiter) once ∙ once

    by_delimiter : (is : Bool) → (byte == delimiter) ≡ is → exchange delimiter (exchange delimiter byte) ≡ byte
    by_delimiter true same =
        let once : exchange delimiter byte ≡ 44 = rw same refl in
        ap (exchange delimiter) once ∙ exchanged_comma delimiter ∙ sym (eqb-true byte delimiter same)
    by_delimiter false other = by_comma (byte == 44) other refl

pub text_twice : (delimiter : ℕ) (text : List ℕ) → map (exchange delimiter) (map (exchange delimiter) text) ≡ text
text_twice delimiter [] = refl
text_twice delimiter (byte ∷ text) =
    ap (λ b. b ∷ map (exchange delimiter) (map (exchange delimiter) text)) (twice delimiter byte)
    ∙ ap (λ bytes. byte ∷ bytes) (text_twice delimiter text)

-- what is left is exchanged twice
pub exchanged_back : (delimiter : ℕ) (known left : Option (List ℕ)) →
    Keeps (option_map (map (exchange delimiter)) known) left → Keeps known (option_map (map (exchange delimiter)) left)
exchanged_back delimiter None left keeps = tt
exchanged_back delimiter (Some text) None keeps = keeps
exchanged_back delimiter (Some text) (Some left) keeps =
    ap (map (exchange delimiter)) keeps ∙ text_twice delimiter text

-- a comma is exchanged for itself
pub by_comma : (text : List ℕ) → map (exchange 44) text ≡ text
by_comma [] = refl
by_comma (byte ∷ text) = ap (λ b. b ∷ map (exchange 44) text) (same (byte == 44) refl) ∙ ap (λ bytes. byte ∷ bytes) (by_comma text)
  where
    same : (is : Bool) → (byte == 44) ≡ is → exchange 44 byte ≡ byte
    same true is = rw is (sym (eqb-true byte 44 is))
    same false is = rw is refl

-- one more byte of a text is exchanged
module _ (f : ℕ → ℕ) (now old : List ℕ) (at byte : ℕ) (less : at < length now) (same : length now ≡ length old)
    (first : take at now ≡ map f (take at old)) (rest : drop at now ≡ drop at old) (is : byte ≡ f (get_or now at 0)) where
  here : get_or now at 0 ≡ get_or old at 0
  here =
      let short : at < length old = omega (arith, less, same) in
      ap (λ bytes. get_or bytes 0 0) (sym (drop_more now at 0 less) ∙ rest ∙ drop_more old at 0 short)

  pub more_exchanged : take (at + 1) (set now at byte) ≡ map f (take (at + 1) old)
  more_exchanged =
      let short : at < length old = omega (arith, less, same) in
      take_more_set now at byte less
      ∙ ap (λ bytes. bytes ++ byte ∷ []) first ∙ ap (λ b. map f (take at old) ++ b ∷ []) (is ∙ ap f here)
      ∙ sym (map-append f (take at old) (get_or old at 0 ∷ [])) ∙ ap (map f) (sym (take_more old at 0 short))

  pub less_left : drop (at + 1) (set now at byte) ≡ drop (at + 1) old
  less_left = drop-set-lt (at + 1) now at byte (omega arith) ∙ drop_more_same now old at rest
