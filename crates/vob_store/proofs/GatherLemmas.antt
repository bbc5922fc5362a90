-- Items that are packed into a block, one after another.
use Rattle.std.proofs.Common.{◌≡◌, ℕ, ◌-◌, Bool, false, ◌&&◌, ◌||◌, cond, List, [], ◌∷◌, ◌++◌, length, leb, sym, ap, ◌∙◌, arith}
use Rattle.std.proofs.lemmas.List.{get_or_past}
use Rattle.std.specs.Iterator.{Count, MakesProgress}
use Rattle.std.specs.Prelude.{Some}
use Rattle.vob_block.specs.Places.{place, HasPlaces}
use Rattle.vob_block.specs.Packing.{item}
use Rattle.vob_block.proofs.PlaceLemmas.{place-zero}
use Rattle.vob_store.specs.Gathering.{GoesOn}
use Rattle.vob_store.proofs.PackLemmas.{mark-places}
use Rattle.vob_store.proofs.PushLemmas.{item-push}

-- no items are the places of an empty block
pub gather_none : (w x : ℕ) → x ≡ 0 → HasPlaces w x (item [])
gather_none w x none = record {
  each = λ j below. ap (place j) none ∙ place-zero j ∙ sym (get_or_past [] j false (omega arith));
}

-- one item more, marked at the next place
pub gather_more : (w x y n mark moved : ℕ) (bits : List Bool) (b : Bool) → length bits ≡ n
    → HasPlaces w x (item bits) → mark ≡ cond b 1 0
    → HasPlaces w moved (λ j. leb n j && place (j - n) mark)
    → HasPlaces w y (λ j. place j x || place j moved) → HasPlaces w y (item (bits ++ b ∷ []))
gather_more w x y n mark moved bits b len h marked up both = record {
  each = λ j below.
      both.each j below ∙ ap (λ t. t || place j moved) (h.each j below)
      ∙ ap (λ t. item bits j || t)
      (up.each j below ∙ ap (λ z. leb n j && place (j - n) z) marked ∙ mark-places b n j)
      ∙ sym (item-push bits n b j len);
}

-- an iterator goes on from where it goes on to
pub goes_further : {S : Type 0} (can : S → Type 0) (remaining : S → Count) (from to next : S)
    (b : Bool) → GoesOn can remaining from to → MakesProgress can remaining to (Some b) next
    → GoesOn can remaining from next
goes_further can remaining from to next b h progress =
    let p = progress.on h.finite in
    record { can_next = p.0; finite = p.1; fewer = omega (arith, h.fewer, p.2) }
