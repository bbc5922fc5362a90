-- The storage of one Vob with that of another combined into it, as `and`, `or` and `xor` leave it.
use Rattle.std.specs.Prelude.{All}
use Rattle.std.proofs.Common.{◌≡◌, ◌≢◌, ◌↔◌, ℕ, ◌+◌, ◌*◌, ◌^◌, ◌<◌, Bool, true, false, ◌||◌, List, length}
use Rattle.std.proofs.Common.{map, get_or, refl, sym, ap, ◌∙◌, subst, arith}
use Rattle.std.proofs.lemmas.List.{ext_get_or, get_or-map, length-map}
use Rattle.vob_block.specs.Packing.{item, need, bit_at, IsCanonical, packing, unpacking}
use Rattle.vob_block.specs.Places.{place}
use Rattle.vob_block.specs.Pointwise.{IsCombined, IsPointwise, pointwise}
use Rattle.vob_block.proofs.PackingLemmas.{bit_at-in_block, bit_at-packing, length-packing, length-unpacking, IsCanonical-packing}
use Rattle.vob_block.proofs.PointwiseLemmas.{same_count, combined, item-pointwise, length-pointwise}
use Rattle.vob.specs.Bits.{AreCombined}
use Rattle.vob.proofs.BitsLemmas.{AreCombined-pointwise}

-- blocks that hold a list combined with another
pub record HasCombined (w n : ℕ) (f : Bool → Bool → Bool) (bits others : List Bool) (changed : Bool)
    (ys : List ℕ) : Type 0 where
  pub canonical : IsCanonical n ys w
  pub stored : unpacking n ys w ≡ pointwise f bits others
  pub each : AreCombined f bits others (unpacking n ys w)
  pub flag : (changed ≡ true) ↔ (unpacking n ys w ≢ bits)

module _ {X : Type 0} (number : X → ℕ) (w : ℕ) (wide : 0 < w) (n : ℕ) (mine theirs : List X)
    (bits others : List Bool) (h : IsCanonical n (map number mine) w)
    (mine_is : unpacking n (map number mine) w ≡ bits) (same : length bits ≡ length others)
    (theirs_is : map number theirs ≡ packing others w) where
  same_length : n ≡ length others
  same_length = sym (length-unpacking n (map number mine) w) ∙ ap length mine_is ∙ same

  pub as_many : length mine ≡ length theirs
  as_many = same_count number w wide n mine theirs others h same_length theirs_is

  module _ (f : Bool → Bool → Bool) (none : f false false ≡ false) (changed : Bool)
      {lent own left : List X} (lent_is : lent ≡ mine) (left_is : left ≡ own)
      (done : IsCombined w f (map number lent) (map number theirs) (map number own) changed) where
    pub combined_here : HasCombined w n f bits others changed (map number left)
    combined_here =
        let after = combined number w wide n mine theirs others h same_length theirs_is f none own
        changed (rw lent_is at done) in
        let stored = rw (← left_is, mine_is) at after.0.bits in
        record {
          canonical = rw left_is after.0.canonical;
          stored = stored;
          each = subst (λ after. AreCombined f bits others after) (sym stored)
              (AreCombined-pointwise f bits others same none);
          flag = rw (← left_is, mine_is) at after.1;
        }

-- ---- with two others combined

-- blocks of two lists combined are those of both lists combined
pub pointwise_blocks : (w : ℕ) → 0 < w → (f : Bool → Bool → Bool) → f false false ≡ false
    → (bits others : List Bool) → length bits ≡ length others → (xs ys : List ℕ)
    → xs ≡ packing bits w → ys ≡ packing others w
    → IsPointwise w f xs ys (packing (pointwise f bits others) w)
pointwise_blocks w wide f none bits others same xs ys is its =
    let both = pointwise f bits others in
    let zs = packing both w in
    record {
      count = length-packing w wide both ∙ ap (λ n. need n w) (length-pointwise f bits others same)
          ∙ sym (length-packing w wide bits) ∙ ap length (sym is);
      each = λ k inside. record {
        each = λ j less. sym (bit_at-in_block zs w k j less)
            ∙ bit_at-packing w wide both (k * w + j)
            ∙ item-pointwise f bits others same none (k * w + j)
            ∙ ap (λ b. f b (item others (k * w + j)))
            (sym (ap (λ ys. bit_at ys w (k * w + j)) is ∙ bit_at-packing w wide bits (k * w + j))
            ∙ bit_at-in_block xs w k j less)
            ∙ ap (f (place j (get_or xs k 0)))
            (sym (ap (λ zs. bit_at zs w (k * w + j)) its ∙ bit_at-packing w wide others (k * w + j))
            ∙ bit_at-in_block ys w k j less);
      };
    }

-- numbers in the range of a type are those of items
pub as_items : {X : Type 0} (number : X → ℕ) (item_of : ℕ → X) (w : ℕ)
    → ((n : ℕ) → n < 2 ^ w → number (item_of n) ≡ n) → (xs : List ℕ) → All (λ x. x < 2 ^ w) xs
    → map number (map item_of xs) ≡ xs
as_items number item_of w back xs small =
    let made = map item_of xs in
    let long = length-map made number ∙ length-map xs item_of in
    ext_get_or 0 (map number made) xs long (λ i inside.
    let less : i < length xs = omega (arith, inside, long) in
    get_or-map number made i (item_of 0) 0 (omega (arith, less, length-map xs item_of))
    ∙ ap number (get_or-map item_of xs i 0 (item_of 0) less) ∙ back (get_or xs i 0) (small i 0 less))

-- a Vob to which two others combined are added
module _ {X : Type 0} (number : X → ℕ) (item_of : ℕ → X) (w : ℕ) (wide : 0 < w)
    (back : (n : ℕ) → n < 2 ^ w → number (item_of n) ≡ n) (n : ℕ) (mine : List X)
    (bits firsts seconds : List Bool) (h : IsCanonical n (map number mine) w)
    (mine_is : unpacking n (map number mine) w ≡ bits) (same : length bits ≡ length firsts)
    (also : length bits ≡ length seconds) (f : Bool → Bool → Bool) (none : f false false ≡ false)
    (changed : Bool) {lent own left : List X} (lent_is : lent ≡ mine) (left_is : left ≡ own)
    (xs ys : List ℕ) (is : xs ≡ packing firsts w) (its : ys ≡ packing seconds w)
    (done : (both : List ℕ) → IsPointwise w f xs ys both
    → IsCombined w ◌||◌ (map number lent) both (map number own) changed) where
  abbrev pub both_bits : List Bool
  both_bits = pointwise f firsts seconds

  as_long : length firsts ≡ length seconds
  as_long = sym same ∙ also

  abbrev pub theirs : List X
  theirs = map item_of (packing both_bits w)

  pub theirs_are : map number theirs ≡ packing both_bits w
  theirs_are = as_items number item_of w back (packing both_bits w)
      (IsCanonical-packing w wide both_bits).within

  pub same_long : length bits ≡ length both_bits
  same_long = same ∙ sym (length-pointwise f firsts seconds as_long)

  pub added : IsCombined w ◌||◌ (map number lent) (map number theirs) (map number own) changed
  added = rw theirs_are (done (packing both_bits w)
      (pointwise_blocks w wide f none firsts seconds as_long xs ys is its))

  pub added_here : HasCombined w n ◌||◌ bits both_bits changed (map number left)
  added_here = combined_here number w wide n mine theirs bits both_bits h mine_is same_long
      theirs_are ◌||◌ refl changed lent_is left_is added
