-- A run has a last index.
use Rattle.std.proofs.Common.{◌≢◌, ◌∙◌, arith}
use Rattle.vob_walk.proofs.BackBitsLemmas.{run-some}
use Rattle.vob_walk.proofs.back_bits.BackBits.is_run.Goals as goal

pub returns : goal.returns
returns g c = λ yes none.
    let some : c.self.inside.past ≢ c.self.inside.at = λ e. grind (arith, yes, e) in
    run-some c.self.invariant some (c.self.view_is ∙ none)
