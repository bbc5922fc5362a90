-- Blocks whose places are all of one bit.
use Rattle.std.proofs.Common.{◌+◌, ◌≡◌, ℕ, ◌-◌, ◌*◌, ◌/◌, ◌%◌, ◌^◌, ◌<◌, ◌≤◌, Bool, true, false}
use Rattle.std.proofs.Common.{cond, zero, suc, ◌∷◌, map, replicate, refl, sym, ap, ◌∙◌, arith}
use Rattle.std.proofs.Common.{mod-lt, div-add-mod', add-one, suc-mul}
use Rattle.std.proofs.lemmas.List.{length-replicate, get_or-replicate, take-replicate}
use Rattle.std.proofs.lemmas.List.Elements.{All-replicate}
use Rattle.std.proofs.lemmas.Nat.{pow_pos, mul-le}
use Rattle.vob_block.specs.Places.{place}
use Rattle.vob_block.specs.Packing.{unpacking, Stores}
use Rattle.vob_block.proofs.PackingLemmas.{bit_at-is_place}
use Rattle.vob_block.proofs.PlaceLemmas.{place-ones, place-zero}
use Rattle.vob_store.proofs.BuildLemmas.{stores_from_built}
use Rattle.vob_store.proofs.CutLemmas.{unpacking-first}
use Rattle.vob_store.proofs.RoomLemmas.{need-mul}

-- blocks of places that are all v
pub place-splat : (v : Bool) (w x j : ℕ) → x ≡ cond v (2 ^ w - 1) 0 → j < w → place j x ≡ v
place-splat true w x j e h = ap (place j) e ∙ place-ones w j h
place-splat false w x j e h = ap (place j) e ∙ place-zero j

pub splat-lt : (v : Bool) (w x : ℕ) → x ≡ cond v (2 ^ w - 1) 0 → x < 2 ^ w
splat-lt true w x e = omega (arith, pow_pos w)
splat-lt false w x e = omega (arith, pow_pos w)

-- k blocks of them
module _ {X : Type 0} (number : X → ℕ) (w : ℕ) (wide : 0 < w) (k : ℕ) (v : Bool) (x : X)
    (splat : number x ≡ cond v (2 ^ w - 1) 0) where
  numbers : (m : ℕ) → map number (replicate m x) ≡ replicate m (number x)
  numbers zero = refl
  numbers (suc m) = ap (λ zs. number x ∷ zs) (numbers m)

  pub Stores-splat : Stores w (k * w) (map number (replicate k x)) (replicate (k * w) v)
  Stores-splat =
      let ys = replicate k (number x) in
      let long = length-replicate k (number x) in
      rw numbers (stores_from_built w wide (replicate (k * w) v) (k * w) ys
      (length-replicate (k * w) v) (long ∙ sym (need-mul w wide k))
      (All-replicate (λ y. y < 2 ^ w) k (number x) (splat-lt v w (number x) splat)) (record {
        each = λ i below.
            let row = mul-le (i / w + 1) w k w (omega (arith, long)) (omega arith) in
            let next = ap (λ q. q * w) (add-one (i / w)) ∙ suc-mul (i / w) w in
            bit_at-is_place ys w i
            ∙ ap (place (i % w)) (get_or-replicate k (i / w) (number x) 0 (omega (arith, long)))
            ∙ place-splat v w (number x) (i % w) splat (mod-lt i wide)
            ∙ sym (get_or-replicate (k * w) i v false
            (omega (arith, row, next, div-add-mod' i w, mod-lt i wide)));
      }))

  -- and the first n bits of them
  pub unpacking-splat : (n : ℕ) → n ≤ k * w → unpacking n (map number (replicate k x)) w
      ≡ replicate n v
  unpacking-splat n fewer = unpacking-first Stores-splat fewer ∙ take-replicate n (k * w) v fewer
