-- The text is read in its notation, if it can be.
use Rattle.std.proofs.Common.{◌≡◌, true, arith}
use Rattle.std.proofs.lemmas.Grind.{common_steps}
use Rattle.files_flow.specs.Analyses.{can_read, can_write}
use Rattle.files_flow.proofs.analysis.print_flow.Goals as goal

pub returns-clause-ok : goal.returns-clause-ok
returns-clause-ok g c =
    let reads : can_read c.notation_of-notation.result c.args.analysis ≡ true =
    grind (arith, common_steps, c.can_read.ensures, c.if-not-can_read.false) in
    let forms : can_write c.args.analysis c.args.form ≡ true =
    grind (arith, common_steps, c.can_write.ensures, c.if-not-can_write.false) in
    record {
      notation = c.notation_of-notation.result;
      is_in = c.notation_of-notation.ensures;
      reads = reads;
      forms = forms;
      writes = c.in_ok-print_in.ensures.ok;
    }
