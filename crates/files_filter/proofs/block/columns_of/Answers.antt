-- One more column is made.
use Rattle.std.proofs.Common.{◌≡◌, ◌<◌, ◌∙◌, true, arith, length, rules}
use Rattle.std.specs.Result.{is_ok}
use Rattle.std.proofs.lemmas.List.{take_all}
use Rattle.std.proofs.lemmas.List.Elements.{All-push}
use Rattle.files_filter.specs.Blocks.{answers_at}
use Rattle.files_filter.proofs.BlocksLemmas.{answers_width, column_more}
use Rattle.files_filter.proofs.block.columns_of.Goals as goal

pub loop-comparison-preserved : goal.loop-comparison-preserved
loop-comparison-preserved c =
    let less : c.loop-comparison.comparison < c.args.comparisons = omega (arith, c.loop-comparison-test.true) in
    let good : is_ok c.push.result ≡ true = search rules in
    let columns = c.loop-comparison.columns.items in
    let rows = c.args.rows.now in
    let now = c.loop-comparison.invariant in
    let column = c.in_ok-column_of.ensures in record {
      len = rw c.in_ok-push.ensures.items (All-push (λ column. length column ≡ length rows) columns _ now.len column.len);
      each = rw c.in_ok-push.ensures.items (column_more columns _ rows c.loop-comparison.comparison c.args.comparisons
          less c.requires column.each now.each);
    }

pub returns-clause-each : goal.returns-clause-each
returns-clause-each c = λ i inside.
    let width : length (answers_at c.args.rows.now i) ≡ c.args.comparisons =
    answers_width c.args.rows.now c.args.comparisons c.requires i inside in
    c.loop-comparison.invariant.each i inside
    ∙ take_all c.loop-comparison.comparison (answers_at c.args.rows.now i)
    (omega (arith, width, c.loop-comparison-test.false))
