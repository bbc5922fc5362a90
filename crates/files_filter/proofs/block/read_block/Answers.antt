-- One more row was read.
use Rattle.std.proofs.Common.{◌≡◌, ◌∙◌, true, rules}
use Rattle.std.specs.Result.{is_ok}
use Rattle.files_filter.proofs.BlocksLemmas.{answers_more_rows, block_more}
use Rattle.files_filter.proofs.block.read_block.Goals as goal

pub loop-preserved : goal.loop-preserved
loop-preserved g c =
    let now = c.loop.invariant in
    let row = c.in-Ok-Some.row in
    let good : is_ok c.push.result ≡ true = search rules in record {
      tests = c.in-Ok-Some.ensures.tests ∙ now.tests;
      rows = λ text rows has.
          let read = rw c.in-Ok-Some.field-0-is at c.in-Ok-Some.ensures.row text _ (now.rows text rows has) in
          rw (c.in_ok-push-in-Ok-Some.ensures.items)
          (block_more g.R.Read.remaining text rows c.loop.rows.items row c.next_row.new.table c.next_row.new.questions read);
      answers =
          let are = rw (c.in-Ok-Some.field-0-is, now.tests) at c.in-Ok-Some.ensures.answers in
          rw (c.in_ok-push-in-Ok-Some.ensures.items)
          (answers_more_rows c.args.questions.now.tests.items c.loop.rows.items row now.answers are);
    }

pub returns-in-Err-clause-rows : goal.returns-in-Err-clause-rows
returns-in-Err-clause-rows g c = λ text rows has.
    rw (c.in-Err.ensures.tests) (c.in-Err.ensures.err text _ (c.loop.invariant.rows text rows has))
