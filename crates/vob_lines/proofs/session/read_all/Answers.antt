-- A failed read tells nothing of the input, and memory is refused for bytes that were read.
use Rattle.std.proofs.Common.{◌≡◌, ◌<◌, length, take, arith, rules}
use Rattle.std.proofs.lemmas.List.{length-take-le}
use Rattle.std.proofs.lemmas.Result.{err_from_is_err_and}
use Rattle.std.specs.Io.KnownBytes.{Consumes}
use Rattle.vob_lines.specs.declared.session.Ending.TheVariants.{Failed}
use Rattle.vob_lines.proofs.SessionLemmas.{stops_failed, some_refused}
use Rattle.vob_lines.proofs.session.read_all.Goals as goal

pub returns-in_err-count-clause-err : goal.returns-in_err-count-clause-err
returns-in_err-count-clause-err g c =
    let p = err_from_is_err_and c.from_residual.result c.from_residual.ensures.1 in
    let failed : p.0 ≡ Failed = grind arith in
    rw (p.1, failed) (stops_failed _)

pub returns-in_err-extend_from_slice-clause-err : goal.returns-in_err-extend_from_slice-clause-err
returns-in_err-extend_from_slice-clause-err g c =
    let refused = c.from_residual-in_err-extend_from_slice in
    let p = err_from_is_err_and refused.result refused.ensures.1 in
    let last = take c.in_ok-count.count c.read.new.buf in
    let read : Consumes (g.R.Read.remaining c.loop.input) (g.R.Read.remaining c.read.new.self) last =
    search rules in
    let some : 0 < length last = grind (arith, length-take-le) in
    rw (p.1, p.2) (some_refused _ _ _ c.loop.text.items last c.loop.invariant read some)

pub returns-clause-err : goal.returns-clause-err
returns-clause-err g c = stops_failed _
