-- The number of an action says whether the end is accepted by it.
use Rattle.std.proofs.Common.{◌%◌, refl}
use Rattle.std.proofs.lemmas.Bool.{eq-eqb, eqb-true}
use Rattle.std.proofs.lemmas.Option.{none-some}
use Rattle.vob_arrays.proofs.EntryLemmas.{accepts_coded, accepts_not}
use Rattle.vob_arrays.proofs.arrays.Arrays.accepts_at.Goals as goal

pub returns-in-Some : goal.returns-in-Some
returns-in-Some c = λ table of.
    let a = c.in-Some.action in
    let coded = accepts_coded table c.args.state 0 a ((c.in-Some.ensures table of a).0 refl) in
    ((λ is. coded.0 (eqb-true (a % 4) 2 is)), (λ on. eq-eqb (a % 4) 2 (coded.1 on)))

pub returns-in-None : goal.returns-in-None
returns-in-None c = λ table of. (
  (λ is. cc),
  (λ on. absurd (accepts_not table c.args.state 0
      (λ a at. none-some a ((c.in-None.ensures table of a).1 at)) on)),
)
