-- Strings are next, one behind another.
use Rattle.std.proofs.Common.{arith}
use Rattle.std.proofs.lemmas.Result.{err_from_is_err_and}
use Rattle.files_dot.proofs.TokenLemmas.{first_stopped, first_string, next_string}
use Rattle.files_dot.proofs.scanner.Scanner.take_string.Goals as goal

pub returns-in_err-take_quoted-clause-err : goal.returns-in_err-take_quoted-clause-err
returns-in_err-take_quoted-clause-err c =
    let p = err_from_is_err_and c.from_residual.result c.from_residual.ensures.1 in
    rw (p.1, p.2) (first_stopped c.requires c.in_err-take_quoted.ensures.err)

pub joined-init : goal.joined-init
joined-init c = (
  first_string c.new-text.ensures.items c.in_ok-take_quoted.ensures.ok,
  c.in_ok-take_quoted.ensures.shorter,
)

pub joined-preserved : goal.joined-preserved
joined-preserved c = (
  next_string c.joined.invariant.0 c.joined-test.ensures.plus c.in_ok-take_quoted-2.ensures.ok,
  omega (arith, c.joined.invariant.1, c.pass_plus.ensures.shorter, c.in_ok-take_quoted-2.ensures.shorter),
)
