-- The blocks are taken where the test of them says that they are canonical.
use Rattle.std.proofs.Common.{refl, sym, ◌∙◌}
use Rattle.std.proofs.lemmas.Bool.{false≢true}
use Rattle.vob.proofs.raw.vob_of_parts.Goals as goal

pub returns-then-not-is_canonical-clause-taken : goal.returns-then-not-is_canonical-clause-taken
returns-then-not-is_canonical-clause-taken g c =
    let test = rw c.as_slice.ensures.value at c.is_canonical.ensures in
    ((λ e. absurd (false≢true e)), (λ h. sym c.if-not-is_canonical.true ∙ test.1 h))

pub returns-then-not-is_canonical-clause-back : goal.returns-then-not-is_canonical-clause-back
returns-then-not-is_canonical-clause-back g c = refl

pub invariant_of-result : goal.invariant_of-result
invariant_of-result g c =
    let test = rw c.as_slice.ensures.value at c.is_canonical.ensures in
    test.0 c.if-not-is_canonical.false

pub returns-clause-taken : goal.returns-clause-taken
returns-clause-taken g c = ((λ _. invariant_of-result g c), (λ _. refl))

pub returns-clause-bits : goal.returns-clause-bits
returns-clause-bits g c = refl
