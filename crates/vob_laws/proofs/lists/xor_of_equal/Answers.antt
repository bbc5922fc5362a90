-- By the bits, one after another.
use Rattle.std.specs.Prelude.{replicate}
use Rattle.std.proofs.Common.{◌≡◌, Bool, true, false, List, [], ◌∷◌, length, refl, sym, ap, ◌∙◌}
use Rattle.vob_block.specs.Pointwise.{differ, pointwise}
use Rattle.vob_laws.proofs.lists.xor_of_equal.Goals as goal

differ_none : (bit : Bool) → differ bit bit ≡ false
differ_none true = refl
differ_none false = refl

with_itself : (bits : List Bool) → pointwise differ bits bits ≡ replicate (length bits) false
with_itself [] = refl
with_itself (bit ∷ bits) = ap (λ b. b ∷ pointwise differ bits bits) (differ_none bit)
    ∙ ap (λ bs. false ∷ bs) (with_itself bits)

pub returns : goal.returns
returns c = λ bits others same. ap (pointwise differ bits) (sym same) ∙ with_itself bits
