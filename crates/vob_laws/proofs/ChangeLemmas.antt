-- Lists of one length are unequal exactly where they differ at some place.
use Rattle.std.proofs.Common.{◌≡◌, ◌≢◌, ◌↔◌, suc, Bool, true, false, List, [], ◌∷◌, length, refl, sym, ap, arith}
use Rattle.std.proofs.lemmas.Bool.{false≢true}
use Rattle.vob_block.specs.Packing.{item}
use Rattle.vob_laws.specs.Laws.{DifferSomewhere}

-- a place further on, behind one more bit
one_on : (bit : Bool) (bits others : List Bool) → DifferSomewhere bits others
    → DifferSomewhere (bit ∷ bits) (bit ∷ others)
one_on bit bits others indices_where = (
  suc indices_where.0,
  omega (arith, indices_where.1),
  indices_where.2,
)

first_place : (bits others : List Bool) → length bits ≡ length others → bits ≢ others
    → DifferSomewhere bits others
first_place [] [] e unequal = absurd (unequal refl)
first_place [] (other ∷ others) e unequal = absurd (omega arith)
first_place (bit ∷ bits) [] e unequal = absurd (omega arith)
first_place (true ∷ bits) (false ∷ others) e unequal =
    (0, omega arith, λ same. false≢true (sym same))
first_place (false ∷ bits) (true ∷ others) e unequal = (0, omega arith, false≢true)
first_place (true ∷ bits) (true ∷ others) e unequal =
    one_on true bits others (first_place bits others (omega arith)
    (λ same. unequal (ap (λ bs. true ∷ bs) same)))
first_place (false ∷ bits) (false ∷ others) e unequal =
    one_on false bits others (first_place bits others (omega arith)
    (λ same. unequal (ap (λ bs. false ∷ bs) same)))

pub unequal_decides : (bits others : List Bool) → length bits ≡ length others → (bits ≢ others)
    ↔ DifferSomewhere bits others
unequal_decides bits others e = (
  first_place bits others e,
  (λ indices_where same. indices_where.2 (ap (λ bs. item bs indices_where.0) same)),
)
