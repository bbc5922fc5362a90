-- Rows whose bits are all false.
use Rattle.std.proofs.Common.{◌≡◌, ℕ, zero, suc, ◌+◌, ◌-◌, ◌*◌, ◌/◌, ◌%◌, ◌^◌, ◌<◌, Bool, true, false, List, [], ◌∷◌, ◌++◌, map, take, replicate}
use Rattle.std.proofs.Common.{cond, refl, sym, ap, ◌∙◌, subst, arith, inl, inr}
use Rattle.std.proofs.lemmas.Bool.{cases_lt, cond-true}
use Rattle.std.proofs.lemmas.Nat.{pow_pos}
use Rattle.std.proofs.lemmas.List.{ext_get_or, get_or_past, length-map, length-replicate, get_or-replicate, take-replicate, drop-replicate, take_all}
use Rattle.std.proofs.lemmas.List.Elements.{All-replicate}
use Rattle.vob_block.specs.Packing.{need, bit_at, unpacking, IsCanonical, Stores}
use Rattle.vob_block.specs.Places.{place}
use Rattle.vob_block.proofs.PackingLemmas.{stores_from_items, bit_at-is_place}
use Rattle.vob_block.proofs.PlaceLemmas.{place-zero}
use Rattle.vob.proofs.BitsLemmas.{item_false}
use Rattle.vob_rows.specs.Part.{blocks_of, AreCanonical}
use Rattle.vob_rows.proofs.PartLemmas.{blocks_of-map, length-unpacked_rows, row_end, row_is, unpacked}

module _ {X : Type 0} (number : X → ℕ) (w : ℕ) (wide : 0 < w) (rows columns : ℕ) (x : X)
    (none : number x ≡ 0) where
  numbers : (m : ℕ) → map number (replicate m x) ≡ replicate m 0
  numbers zero = refl
  numbers (suc m) = ap (λ y. y ∷ map number (replicate m x)) none ∙ ap (λ zs. 0 ∷ zs) (numbers m)

  places : (m i : ℕ) → bit_at (replicate m 0) w i ≡ false
  places m i = bit_at-is_place (replicate m 0) w i ∙ ap (place (i % w)) (elim (cases_lt (i / w) m) [
    | inl inside ↦ get_or-replicate m (i / w) 0 0 inside
    | inr past ↦ get_or_past (replicate m 0) (i / w) 0 (omega (arith, length-replicate {A = ℕ} m 0))
  ]) ∙ place-zero (i % w)

  blank_row : Stores w columns (map number (replicate (need columns w) x)) (replicate columns false)
  blank_row = rw numbers (stores_from_items w wide (replicate columns false) columns (replicate (need columns w) 0)
      (length-replicate columns false) (length-replicate (need columns w) 0)
      (All-replicate (λ y. y < 2 ^ w) (need columns w) 0 (pow_pos w))
      (λ i. places (need columns w) i ∙ sym (item_false columns i)))

  blank_blocks : (i : ℕ) → i < rows → blocks_of (need columns w) (replicate (rows * need columns w) x) i
      ≡ replicate (need columns w) x
  blank_blocks i less =
      let k = need columns w in
      let sub : i * k + k - i * k ≡ k = omega arith in
      ap (take (i * k + k - i * k)) (drop-replicate (i * k) (rows * k) x)
      ∙ take-replicate (i * k + k - i * k) (rows * k - i * k) x (omega (arith, row_end k i rows less))
      ∙ ap (λ m. replicate m x) sub

  pub blank_canonical : AreCanonical rows columns (map number (replicate (rows * need columns w) x)) w
  blank_canonical = record {
    count = length-map (replicate (rows * need columns w) x) number ∙ length-replicate (rows * need columns w) x;
    each = λ i less. subst (λ (ys : List ℕ). IsCanonical columns ys w)
        (sym (blocks_of-map (need columns w) (replicate (rows * need columns w) x) number i
        ∙ ap (map number) (blank_blocks i less))) blank_row.canonical;
  }

  pub blank_rows : unpacked number w rows columns (replicate (rows * need columns w) x)
      ≡ replicate rows (replicate columns false)
  blank_rows =
      let items = replicate (rows * need columns w) x in
      ext_get_or [] (unpacked number w rows columns items) (replicate rows (replicate columns false))
      (length-unpacked_rows number w rows columns items ∙ sym (length-replicate rows (replicate columns false)))
      (λ i below.
      let less : i < rows = omega (arith, below, length-unpacked_rows number w rows columns items) in
      row_is number w rows columns items i less
      ∙ ap (λ ys. unpacking columns (map number ys) w) (blank_blocks i less) ∙ blank_row.bits
      ∙ sym (get_or-replicate rows i (replicate columns false) [] less))

-- an empty vector, after a resize that isn't refused
pub resized : {X : Type 0} (xs ys : List X) (t len : ℕ) (x : X) (done : Bool) → xs ≡ [] → len ≡ 0 → done ≡ true
    → ys ≡ cond done (take t xs ++ replicate (t - len) x) xs → ys ≡ replicate t x
resized xs ys t len x done none empty ok is =
    let all : t - len ≡ t = omega (arith, empty) in
    is ∙ cond-true done (take t xs ++ replicate (t - len) x) xs ok
    ∙ ap (λ zs. zs ++ replicate (t - len) x) (ap (take t) none ∙ take_all t [] (omega arith))
    ∙ ap (λ m. replicate m x) all
