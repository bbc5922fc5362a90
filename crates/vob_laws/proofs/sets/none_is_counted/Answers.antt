-- By the bits, one after another: a true one is counted.
use Rattle.std.specs.Prelude.{replicate}
use Rattle.std.proofs.Common.{◌≡◌, ℕ, zero, suc, Bool, true, false, List, [], ◌∷◌, length, refl, ap, ◌∙◌, arith}
use Rattle.vob.specs.Bits.{count_of}
use Rattle.vob.proofs.SelectLemmas.{count-cons}
use Rattle.vob_laws.proofs.sets.none_is_counted.Goals as goal

count-unset : (n : ℕ) → count_of true (replicate n false) ≡ 0
count-unset zero = refl
count-unset (suc n) = omega (arith, count-cons false (replicate n false), count-unset n)

unset-counted : (bits : List Bool) → count_of true bits ≡ 0 → bits ≡ replicate (length bits) false
unset-counted [] h = refl
unset-counted (true ∷ bits) h = absurd (omega (arith, h, count-cons true bits))
unset-counted (false ∷ bits) h = ap (λ bs. false ∷ bs)
    (unset-counted bits (omega (arith, h, count-cons false bits)))

pub returns : goal.returns
returns c = λ bits n len. (
  (λ unset. ap (count_of true) unset ∙ count-unset n),
  (λ none. unset-counted bits none ∙ ap (λ k. replicate k false) len),
)
