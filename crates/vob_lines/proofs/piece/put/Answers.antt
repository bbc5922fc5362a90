-- What was written so far, and what of the text is still to be written.
use Rattle.std.proofs.Common.{◌≡◌, [], arith}
use Rattle.std.proofs.lemmas.Bool.Decides.{nat_tests}
use Rattle.std.proofs.lemmas.List.{nil_from_length, take_rest}
use Rattle.vob_lines.proofs.WrittenLemmas.{but_all, but_taken, but_kept, kept_none, puts_bad}
use Rattle.vob_lines.proofs.piece.put.Goals as goal

pub loop-rest-init : goal.loop-rest-init
loop-rest-init g c = but_all _ _

-- one call more
pub loop-rest-preserved : goal.loop-rest-preserved
loop-rest-preserved g c =
    rw (take_rest c.loop-rest.rest.now c.in_ok-count.count)
    (but_taken _ _ _ _ _ _ c.loop-rest.invariant c.in_ok-count.ensures.bytes)

pub returns-in_err-count : goal.returns-in_err-count
returns-in_err-count g c =
    puts_bad _ _ _ _ _ c.from_residual.ensures.0
    (but_kept _ _ _ _ _ c.loop-rest.invariant c.in_err-count.ensures.bytes)

-- a call that took nothing
pub returns-then-count-eq0 : goal.returns-then-count-eq0
returns-then-count-eq0 g c =
    but_kept _ _ _ _ _ c.loop-rest.invariant
    (kept_none _ _ c.loop-rest.rest.now c.in_ok-count.count (omega arith)
    c.in_ok-count.ensures.bytes)

-- nothing is left
pub returns : goal.returns
returns g c =
    let none : c.loop-rest.rest.now ≡ [] = nil_from_length _ (grind (arith, nat_tests)) in
    rw none at c.loop-rest.invariant
