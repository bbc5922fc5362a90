-- What is found in words is found in their bits.
use Rattle.std.specs.Prelude.{Option, Some, None, IfSome, MatchOption, unwrap_or}
use Rattle.std.proofs.Common.{◌≡◌, ◌↔◌, ℕ, ◌+◌, ◌*◌, ◌<◌, ◌≤◌, Bool, true, false, List, IsTrue, length, map, min, take, refl, sym, ap, ◌∙◌, subst, arith, inl, inr}
use Rattle.std.proofs.lemmas.Bool.{cases_lt, cond-true, cond-false, lt-ltb, le-ltb}
use Rattle.std.proofs.lemmas.List.{map-id}
use Rattle.vob_block.specs.Packing.{item, need, packing, unpacking, IsCanonical}
use Rattle.vob_block.proofs.PackingLemmas.{length-unpacking, packing-unpacking}
use Rattle.vob_block.specs.Pointwise.{differ, pointwise}
use Rattle.vob_block.proofs.NeedLemmas.{need_enough, need-le-need}
use Rattle.vob_block.proofs.PointwiseLemmas.{same_from_lists}
use Rattle.vob_store.specs.Combined.{ones_combined, HaveNone, IsFirstCombined}
use Rattle.vob_walk.specs.Count.{ones_between}
use Rattle.vob_walk.specs.Next.{HasNoBit, IsFirstBit, IsLastBit}
use Rattle.vob_walk.specs.Select.{HasRank}
use Rattle.vob.specs.Bits.{count_of}
use Rattle.vob.specs.Order.{IsDifference}
use Rattle.vob.specs.Sets.{IsBit, IsIndexOfRank, IsNext, IsPrevious}
use Rattle.vob.proofs.OrderLemmas.{DecideFirst, decide}
use Rattle.vob.proofs.PairLemmas.{flag_of, lent_ones, lent_ones-le}
use Rattle.vob.proofs.SelectLemmas.{IsIndexOfRank-blocks}
use Rattle.vob.proofs.SetsLemmas.{IsIndexOfRank-inside, IsNext-blocks, IsNext-inside, IsPrevious-blocks, IsPrevious-inside}
use Rattle.vob_c.specs.Found.{found_below}

found_none : (n r : ℕ) → n ≤ r → found_below n r ≡ None
found_none n r past = cond-false _ _ _ (le-ltb r n past)

found_some : (n r i : ℕ) → r ≡ i → i < n → found_below n r ≡ Some i
found_some n r i is below = cond-true _ _ _ (lt-ltb r n (omega (arith, is, below))) ∙ ap Some is

-- an answer by the index that stands for it
pub found_is : (n r : ℕ) (answer : Option ℕ) → r ≡ unwrap_or answer n → IfSome answer (λ i. i < n)
    → found_below n r ≡ answer
found_is n r None is below = found_none n r (omega (arith, is))
found_is n r (Some i) is below = found_some n r i is below

pub found_most : (n r : ℕ) (answer : Option ℕ) → r ≡ unwrap_or answer n → IfSome answer (λ i. i < n)
    → r ≤ n
found_most n r None is below = omega (arith, is)
found_most n r (Some i) is below = omega (arith, is, below)

-- words are the packing of their bits
pub words_packed : (n : ℕ) (xs ys : List ℕ) → IsCanonical n xs 64 → ys ≡ xs
    → map (λ x. x) ys ≡ packing (unpacking n xs 64) 64
words_packed n xs ys g same = map-id ys ∙ same ∙ sym (packing-unpacking 64 (omega arith) n xs g)

pub as_long : (n : ℕ) (xs : List ℕ) → n ≡ length (unpacking n xs 64)
as_long n xs = sym (length-unpacking n xs 64)

-- ---- an index that is found in words

inside_of : (value : Bool) (n : ℕ) (xs : List ℕ) (answer : Option ℕ)
    → IfSome answer (λ i. IsBit value (unpacking n xs 64) i) → IfSome answer (λ i. i < n)
inside_of value n xs None h = tt
inside_of value n xs (Some i) h = omega (arith, h.0, length-unpacking n xs 64)

module _ (n : ℕ) (xs items : List ℕ) (g : IsCanonical n xs 64) (same : items ≡ xs) where
  abbrev own : List Bool
  own = unpacking n xs 64

  module _ (value : Bool) (from r : ℕ) (answer : Option ℕ) (is : r ≡ unwrap_or answer n) where
    pub next_found : MatchOption answer (HasNoBit 64 (map (λ x. x) items) value from n)
        (IsFirstBit 64 (map (λ x. x) items) value from n)
        → IsNext value own from (found_below n r)
    next_found h =
        let next = IsNext-blocks 64 (omega arith) (λ x. x) items own n (words_packed n xs items g same)
        (as_long n xs) value from answer h in
        subst (λ a. IsNext value own from a) (sym (found_is n r answer is
        (inside_of value n xs answer (IsNext-inside value own from answer next)))) next

    pub previous_found : MatchOption answer
        (HasNoBit 64 (map (λ x. x) items) value 0 (min (from + 1) n))
        (IsLastBit 64 (map (λ x. x) items) value (min (from + 1) n))
        → IsPrevious value own from (found_below n r)
    previous_found h =
        let last = IsPrevious-blocks 64 (omega arith) (λ x. x) items own n
        (words_packed n xs items g same) (as_long n xs) value from answer h in
        subst (λ a. IsPrevious value own from a) (sym (found_is n r answer is
        (inside_of value n xs answer (IsPrevious-inside value own from answer last)))) last

  pub rank_found : (k r : ℕ) (answer : Option ℕ) → r ≡ unwrap_or answer n
      → MatchOption answer (ones_between 64 (map (λ x. x) items) 0 (length items * 64) ≤ k)
      (HasRank 64 (map (λ x. x) items) k) → IsIndexOfRank own k (found_below n r)
  rank_found k r answer is h =
      let room = need_enough 64 (omega arith) n in
      let ranked = IsIndexOfRank-blocks 64 (omega arith) own (map (λ x. x) items)
      (words_packed n xs items g same) k (length items * 64) answer
      (omega (arith, room, g.count, ap length same, length-unpacking n xs 64)) h in
      subst (λ a. IsIndexOfRank own k a) (sym (found_is n r answer is
      (inside_of true n xs answer (IsIndexOfRank-inside own k answer ranked)))) ranked

-- ---- two arrays of words

-- the first words of both, as many as the shorter list needs
module _ (n m : ℕ) (xs ys : List ℕ) (g : IsCanonical n xs 64) (h : IsCanonical m ys 64) (k : ℕ)
    (counted : k ≡ need (min n m) 64) where
  pub decided : DecideFirst 64 n m k (take k xs) (take k ys) (unpacking n xs 64) (unpacking m ys 64)
  decided = decide 64 (omega arith) n m xs ys (unpacking n xs 64) (unpacking m ys 64) g refl h refl k
      counted

  pub enough_words : (k ≤ length xs) × (k ≤ length ys)
  enough_words = (
    omega (arith, counted, g.count, need-le-need 64 (omega arith) (min n m) n (omega arith)),
    omega (arith, counted, h.count, need-le-need 64 (omega arith) (min n m) m (omega arith)),
  )

  pub difference_found : (r : ℕ) (answer : Option ℕ) → r ≡ min (unwrap_or answer (min n m)) (min n m)
      → MatchOption answer (HaveNone differ 64 0 k (take k xs) (take k ys))
      (IsFirstCombined differ 64 (take k xs) (take k ys))
      → IsDifference (unpacking n xs 64) (unpacking m ys 64) (found_below (min n m) r)
  difference_found r None is none = subst (λ a. IsDifference (unpacking n xs 64) (unpacking m ys 64) a)
      (sym (found_none (min n m) r (omega (arith, is)))) (decided.none none)
  difference_found r (Some i) is first = elim (cases_lt i (min n m)) [
    | inl less ↦ subst (λ a. IsDifference (unpacking n xs 64) (unpacking m ys 64) a)
        (sym (found_some (min n m) r i (omega (arith, is, less)) less)) (decided.inside i first less)
    | inr past ↦ subst (λ a. IsDifference (unpacking n xs 64) (unpacking m ys 64) a)
        (sym (found_none (min n m) r (omega (arith, is, past)))) (decided.past i first past)
  ]

module _ (n : ℕ) (xs ys : List ℕ) (g : IsCanonical n xs 64) (h : IsCanonical n ys 64) where
  pub none_found : (f : Bool → Bool → Bool) → f false false ≡ false → (items : List ℕ) → items ≡ ys
      → (r : Bool) → (IsTrue r ↔ HaveNone f 64 0 (length xs) (map (λ x. x) xs) (map (λ x. x) items))
      → IsTrue r ↔ ((i : ℕ) → f (item (unpacking n xs 64) i) (item (unpacking n ys 64) i) ≡ false)
  none_found f none items same r flag = flag_of (λ x. x) 64 (omega arith) n xs items
      (unpacking n xs 64) (unpacking n ys 64) (subst (λ (zs : List ℕ). IsCanonical n zs 64)
      (sym (map-id xs)) g) (ap (λ zs. unpacking n zs 64) (map-id xs))
      (length-unpacking n xs 64 ∙ sym (length-unpacking n ys 64)) (words_packed n ys items h same) f
      none refl r flag ((i : ℕ) → f (item (unpacking n xs 64) i) (item (unpacking n ys 64) i) ≡ false)
      ((λ p. p), (λ p. p))

  module _ (f : Bool → Bool → Bool) (none : f false false ≡ false) (items : List ℕ) (same : items ≡ ys)
    where
      pub ones_found : ones_combined f 64 (map (λ x. x) xs) (map (λ x. x) items) (length xs)
          ≡ count_of true (pointwise f (unpacking n xs 64) (unpacking n ys 64))
      ones_found = lent_ones (λ x. x) 64 (omega arith) n xs items (unpacking n xs 64)
          (unpacking n ys 64) (subst (λ (zs : List ℕ). IsCanonical n zs 64) (sym (map-id xs)) g)
          (ap (λ zs. unpacking n zs 64) (map-id xs))
          (length-unpacking n xs 64 ∙ sym (length-unpacking n ys 64)) (words_packed n ys items h same)
          f none refl

      pub ones_most : ones_combined f 64 (map (λ x. x) xs) (map (λ x. x) items) (length xs) ≤ n
      ones_most = lent_ones-le (λ x. x) 64 (omega arith) n xs items (unpacking n xs 64)
          (unpacking n ys 64) (subst (λ (zs : List ℕ). IsCanonical n zs 64) (sym (map-id xs)) g)
          (ap (λ zs. unpacking n zs 64) (map-id xs))
          (length-unpacking n xs 64 ∙ sym (length-unpacking n ys 64)) (words_packed n ys items h same)
          f none refl

  pub equal_found : (r : Bool) → (IsTrue r ↔ (xs ≡ ys))
      → IsTrue r ↔ (unpacking n xs 64 ≡ unpacking n ys 64)
  equal_found r flag = (
    (λ e. ap (λ zs. unpacking n zs 64) (flag.0 e)),
    (λ e. flag.1 (same_from_lists 64 (omega arith) n xs ys g h e)),
  )
