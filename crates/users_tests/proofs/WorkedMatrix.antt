-- Paths in a matrix of three nodes, of which each leads to the next, worked out by hand.
use Rattle.std.proofs.Common.{◌≡◌, ℕ, zero, suc, Bool, true, false, List, [], ◌∷◌, refl, sym, ◌∙◌}
use Rattle.std.proofs.lemmas.Bool.{false≢true}
use Rattle.vob_matrix.specs.Matrix.{entry, IsPath}

abbrev rows-010-001-000 : List (List Bool)
rows-010-001-000 =
    (false ∷ true ∷ false ∷ []) ∷ (false ∷ false ∷ true ∷ []) ∷ (false ∷ false ∷ false ∷ []) ∷ []

path-0-through-1-to-2 : IsPath rows-010-001-000 0 (1 ∷ []) 2
path-0-through-1-to-2 = (refl, refl)

no_step-0-to-2 : entry rows-010-001-000 0 2 ≡ false
no_step-0-to-2 = refl

no_step-past_the_rows : entry rows-010-001-000 3 0 ≡ false
no_step-past_the_rows = refl

no_step-from-2 : (j : ℕ) → entry rows-010-001-000 2 j ≡ false
no_step-from-2 zero = refl
no_step-from-2 (suc zero) = refl
no_step-from-2 (suc (suc zero)) = refl
no_step-from-2 (suc (suc (suc j))) = refl

no_path-from-2 : (through : List ℕ) (j : ℕ) → IsPath rows-010-001-000 2 through j → ⊥
no_path-from-2 [] j step = false≢true (sym (no_step-from-2 j) ∙ step)
no_path-from-2 (k ∷ through) j path = false≢true (sym (no_step-from-2 k) ∙ path.0)
