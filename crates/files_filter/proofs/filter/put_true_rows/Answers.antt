-- Block by block the rows are written.
use Rattle.std.proofs.Common.{◌∙◌, ◌<◌, ◌^◌, inr, map, refl, rules}
use Rattle.files_filter.specs.Blocks.{AnswerAll}
use Rattle.files_filter.specs.FilterText.{answered}
use Rattle.files_filter.proofs.BlocksLemmas.{answers_wide}
use Rattle.files_filter.proofs.FilteredLemmas.{all_filtered, first_filtered, more_filtered, none_yet, then_fault, then_none, then_rows}
use Rattle.files_filter.proofs.filter.put_true_rows.Goals as goal

pub loop-init : goal.loop-init
loop-init g c = record {
  tests = refl;
  width = c.len-width.ensures;
  filtered = λ text rows has.
      none_yet g.R.Read.remaining text rows c.args.questions.now.tests.items c.args.expression.now c.args.layout.now c.args.window.skip
      c.args.window.most (g.W.Write.contents c.args.output.now) c.args.table.now c.args.questions.now has;
}

pub put_block-requires : goal.put_block-requires
put_block-requires g c =
    answers_wide c.args.questions.now.tests.items _ _ c.loop.invariant.width
    (rw (c.deref.ensures.value) (rw c.loop.invariant.tests at c.in_ok-rows.ensures.answers))

pub loop-preserved : goal.loop-preserved
loop-preserved g c =
    let now = c.loop.invariant in
    let block = c.in_ok-rows.field-0.rows.items in
    let answers : AnswerAll c.args.questions.now.tests.items (map answered block) =
    rw now.tests at c.in_ok-rows.ensures.answers in
    let put = rw c.deref.ensures.value at c.in_ok-kept.ensures in record {
      tests = c.in_ok-rows.ensures.tests ∙ now.tests;
      width = now.width;
      filtered = λ text rows has.
          let so = now.filtered text rows has in
          let read = then_rows g.R.Read.remaining text _ c.read_block.new.table c.read_block.new.questions c.in_ok-rows.field-0.next
          (c.in_ok-rows.ensures.rows text _ so.read) c.in-Rows.is in
          more_filtered g.R.Read.remaining text rows c.args.questions.now.tests.items c.args.expression.now
          c.args.layout.now c.args.window.skip c.args.window.most _ _ _ c.loop.table c.loop.questions c.loop.count c.loop.window.skip c.loop.window.most so
          (map answered block) answers c.in_ok-kept.kept _ put.kept c.in-Some.ensures.1 put.wrote c.in_ok-kept.written _ _ _ _
          put.written c.after-window.ensures.skip c.after-window.ensures.most read;
    }

pub returns-in-End-clause-ok : goal.returns-in-End-clause-ok
returns-in-End-clause-ok g c =
    let now = c.loop.invariant in
    let block = c.in_ok-rows.field-0.rows.items in
    let answers : AnswerAll c.args.questions.now.tests.items (map answered block) =
    rw now.tests at c.in_ok-rows.ensures.answers in
    let put = rw c.deref.ensures.value at c.in_ok-kept.ensures in λ text rows has.
    let so = now.filtered text rows has in
    let read = then_none g.R.Read.remaining text _ c.read_block.new.table c.read_block.new.questions c.in_ok-rows.field-0.next
    (c.in_ok-rows.ensures.rows text _ so.read) c.in-End.is in
    all_filtered g.R.Read.remaining text rows c.args.questions.now.tests.items c.args.expression.now
    c.args.layout.now c.args.window.skip c.args.window.most _ _ _ c.loop.table c.loop.questions c.loop.count c.loop.window.skip c.loop.window.most so
    (map answered block) answers c.in_ok-kept.kept _ put.kept c.in-Some.ensures.1 put.wrote read

pub returns-in-Fault-clause-err : goal.returns-in-Fault-clause-err
returns-in-Fault-clause-err g c =
    let now = c.loop.invariant in
    let block = c.in_ok-rows.field-0.rows.items in
    let answers : AnswerAll c.args.questions.now.tests.items (map answered block) =
    rw now.tests at c.in_ok-rows.ensures.answers in
    let put = rw c.deref.ensures.value at c.in_ok-kept.ensures in
    let fits : c.in-Some.sum < 2 ^ 64 = search rules in inr (λ text rows has.
    let so = now.filtered text rows has in
    let read = then_fault g.R.Read.remaining text _ c.read_block.new.table c.read_block.new.questions c.in_ok-rows.field-0.next
    (c.in_ok-rows.ensures.rows text _ so.read) c.in-Fault.fault c.in-Fault.is in
    first_filtered g.R.Read.remaining text rows c.args.questions.now.tests.items c.args.expression.now
    c.args.layout.now c.args.window.skip c.args.window.most _ _ _ c.loop.table c.loop.questions c.loop.count c.loop.window.skip c.loop.window.most so
    (map answered block) answers c.in_ok-kept.kept _ put.kept c.in-Some.ensures.1 put.wrote c.in-Fault.fault
    (rw (c.in_ok-rows.ensures.tests ∙ now.tests) at read) fits)
