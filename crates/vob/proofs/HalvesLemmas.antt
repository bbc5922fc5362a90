-- Some Vobs cut in two parts, and one of them written.
use Rattle.std.proofs.Common.{◌≡◌, ℕ, ◌<◌, ◌-◌, List, [], ◌++◌, length, get_or, set, sym, ap, ◌∙◌, arith}
use Rattle.std.proofs.lemmas.List.{get_or-map, get_or_append_left, get_or-append_right, length-append, length-map}
use Rattle.std.proofs.lemmas.List.{set-append_left, set-append_right}
use Rattle.vob.specs.Vob.{BitVector}
use Rattle.vob.specs.Vobs.{AreOfLength, bits_of}
use Rattle.vob.proofs.VobsLemmas.{of_length_at}

module _ (items low high : List BitVector) (n : ℕ) (is : items ≡ low ++ high)
    (count : length low ≡ n) where
  -- one of the first part
  pub bits-low : (i : ℕ) (d : BitVector) → i < n →
      get_or (bits_of items) i [] ≡ (get_or low i d).bits
  bits-low i d inside =
      get_or-map (λ v. v.bits) items i d []
      (omega (arith, inside, count, ap length is, length-append low high))
      ∙ ap (λ v. v.bits) (ap (λ xs. get_or xs i d) is
      ∙ get_or_append_left low high d i (omega (arith, inside, count)))

  -- the first of the second
  pub bits-high : (d : BitVector) → n < length items →
      get_or (bits_of items) n [] ≡ (get_or high 0 d).bits
  bits-high d inside =
      let none : n - n ≡ 0 = omega arith in
      get_or-map (λ v. v.bits) items n d [] inside
      ∙ ap (λ v. v.bits) (ap (λ xs. get_or xs n d) is
      ∙ get_or-append_right low high n n d count (omega arith) ∙ ap (λ k. get_or high k d) none)

  -- as long as all of them
  module _ (places : ℕ) (long : AreOfLength places (bits_of items)) where
    pub long-low : (i : ℕ) (d : BitVector) → i < n → length (get_or low i d).bits ≡ places
    long-low i d inside = ap length (sym (bits-low i d inside))
        ∙ of_length_at places (bits_of items) i [] long (omega (
          arith,
          inside,
          count,
          ap length is,
          length-append low high,
          length-map items (λ v. v.bits),
        ))

    pub long-high : (d : BitVector) → n < length items → length (get_or high 0 d).bits ≡ places
    long-high d inside = ap length (sym (bits-high d inside))
        ∙ of_length_at places (bits_of items) n [] long
        (omega (arith, inside, length-map items (λ v. v.bits)))

  pub set-low : (i : ℕ) (new : BitVector) → i < n → set low i new ++ high ≡ set items i new
  set-low i new inside =
      sym (set-append_left low high i new (omega (arith, inside, count)))
      ∙ ap (λ xs. set xs i new) (sym is)

  pub set-high : (new : BitVector) → low ++ set high 0 new ≡ set items n new
  set-high new =
      let none : 0 ≡ n - n = omega arith in
      ap (λ k. low ++ set high k new) none
      ∙ sym (set-append_right low high n n new count (omega arith))
      ∙ ap (λ xs. set xs n new) (sym is)
