-- By the bits, one after another.
use Rattle.std.proofs.Common.{◌≡◌, Bool, not, List, [], ◌∷◌, map, refl, ap, ◌∙◌}
use Rattle.vob_store.proofs.WriteLemmas.{not-not}
use Rattle.vob_laws.proofs.lists.negate_twice.Goals as goal

twice : (bits : List Bool) → map not (map not bits) ≡ bits
twice [] = refl
twice (bit ∷ bits) = ap (λ b. b ∷ map not (map not bits)) (not-not bit)
    ∙ ap (λ bs. bit ∷ bs) (twice bits)

pub returns : goal.returns
returns c = twice
