-- Sets that grow in one step or in another.
use Rattle.std.proofs.Common.{◌≡◌, ◌<◌, ◌||◌, ◌∙◌, Bool, true, false, List, refl, sym, ap, arith}
use Rattle.std.proofs.lemmas.Bool.{false≢true}
use Rattle.vob.specs.Vobs.{total_count}

pub grew_either : (a b : Bool) {sets mid after : List (List Bool)}
    → (a ≡ true → total_count sets < total_count mid) → (a ≡ false → mid ≡ sets)
    → (b ≡ true → total_count mid < total_count after) → (b ≡ false → after ≡ mid)
    → (a || b) ≡ true → total_count sets < total_count after
grew_either true true up same more still e = omega (arith, up refl, more refl)
grew_either true false up same more still e = omega (arith, up refl, ap total_count (still refl))
grew_either false true up same more still e = omega (arith, more refl, ap total_count (same refl))
grew_either false false up same more still e = absurd (false≢true e)

pub grew_neither : (a b : Bool) {sets mid after : List (List Bool)} → (a ≡ false → mid ≡ sets)
    → (b ≡ false → after ≡ mid) → (a || b) ≡ false → after ≡ sets
grew_neither true b same still e = absurd (false≢true (sym e))
grew_neither false b same still e = still e ∙ same refl

pub neither : (a b : Bool) → (a || b) ≡ false → (a ≡ false) × (b ≡ false)
neither true b e = absurd (false≢true (sym e))
neither false b e = (refl, e)
