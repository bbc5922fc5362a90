-- Each line is passed over, gives a command, or is the first bad one.
use Rattle.std.proofs.Common.{◌≡◌, [], ◌∷◌, ◌++◌, rules, arith}
use Rattle.std.proofs.lemmas.Bool.Decides.{nat_tests}
use Rattle.std.proofs.lemmas.Grind.{common_steps}
use Rattle.std.proofs.lemmas.Result.{err_from_is_err_and}
use Rattle.std.proofs.lemmas.List.{nil_from_length, map-append}
use Rattle.vob_run.specs.Commands.{usize_call_of}
use Rattle.vob_lines.specs.Cuts.{words_of, lines_of}
use Rattle.vob_lines.specs.Grammar.{Reads}
use Rattle.vob_lines.proofs.SessionLemmas.{reads_blank, reads_more, reads_all, refused_call}
use Rattle.vob_lines.proofs.session.read_commands.Goals as goal

-- a line that has words
pub loop-rest-preserved-in_ok-push : goal.loop-rest-preserved-in_ok-push
loop-rest-preserved-in_ok-push c =
    let call = usize_call_of c.in_ok-command.command in
    let reads : Reads (words_of c.cut_line.result.0.now) call = search rules in
    let before = c.loop-rest.commands.items in
    let pushed : c.push.new.self.items ≡ before ++ c.in_ok-command.command ∷ [] =
    grind (arith, common_steps) in
    record {
      lines =
          rw (pushed, map-append)
          (reads_more _ _ _ _ _ _ c.loop-rest.invariant.lines c.cut_line.ensures.line _ reads);
      bytes = omega (arith, c.loop-rest.invariant.bytes, c.cut_line.ensures.shorter);
    }

-- a line for whose command there is no room
pub returns-in_err-push-clause-err : goal.returns-in_err-push-clause-err
returns-in_err-push-clause-err c =
    let refused = c.from_residual-in_err-push in
    let p = err_from_is_err_and refused.result refused.ensures.1 in
    let reads : Reads (words_of c.cut_line.result.0.now) (usize_call_of c.in_ok-command.command) =
    search rules in
    rw (p.1, p.2)
    (refused_call _ _ _ _ _ _ c.loop-rest.invariant.lines c.cut_line.ensures.line _ reads)

-- a blank line
pub loop-rest-preserved : goal.loop-rest-preserved
loop-rest-preserved c = record {
  lines =
      reads_blank _ _ _ _ _ _ c.loop-rest.invariant.lines c.cut_line.ensures.line
      (c.is_blank.ensures.0 c.if-not-is_blank.false);
  bytes = omega (arith, c.loop-rest.invariant.bytes, c.cut_line.ensures.shorter);
}

-- no line is left
pub returns-clause-ok : goal.returns-clause-ok
unfolding lines_of
returns-clause-ok c =
    let none : c.loop-rest.rest.now ≡ [] = nil_from_length _ (grind (arith, nat_tests)) in
    reads_all _ _ _ (rw none at c.loop-rest.invariant.lines)
