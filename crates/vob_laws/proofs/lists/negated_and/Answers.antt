-- By the bits, one after another.
use Rattle.std.proofs.Common.{◌≡◌, Bool, true, false, not, ◌&&◌, ◌||◌, List, [], ◌∷◌, map, refl, ap, ◌∙◌}
use Rattle.vob_block.specs.Pointwise.{pointwise}
use Rattle.vob_laws.proofs.lists.negated_and.Goals as goal

negated_bit : (bit other : Bool) → not (bit && other) ≡ (not bit || not other)
negated_bit true other = refl
negated_bit false other = refl

negated : (bits others : List Bool) → map not (pointwise ◌&&◌ bits others)
    ≡ pointwise ◌||◌ (map not bits) (map not others)
negated [] others = refl
negated (bit ∷ bits) [] = refl
negated (bit ∷ bits) (other ∷ others) =
    ap (λ b. b ∷ map not (pointwise ◌&&◌ bits others)) (negated_bit bit other)
    ∙ ap (λ bs. (not bit || not other) ∷ bs) (negated bits others)

pub returns : goal.returns
returns c = negated
