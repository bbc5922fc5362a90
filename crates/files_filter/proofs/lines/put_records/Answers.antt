-- The row with the next number is written.
use Rattle.std.proofs.Common.{◌≡◌, ◌<◌, [], ap, arith, get_or, length, subst, sym}
use Rattle.std.proofs.lemmas.List.{drop_more, get_or-map}
use Rattle.std.specs.Io.KnownBytes.{Appends}
use Rattle.csv.specs.Records.{fields_of}
use Rattle.csv.specs.Writing.{text_written}
use Rattle.files_filter.specs.FilterText.{answered}
use Rattle.files_filter.specs.Layouts.{record_line}
use Rattle.files_filter.specs.Written.{cells_of}
use Rattle.files_text.proofs.PrintedLemmas.{items_more}
use Rattle.files_filter.proofs.lines.put_records.Goals as goal

pub loop-number-preserved : goal.loop-number-preserved
loop-number-preserved g c =
    let rows = c.args.rows.now in
    let at = c.loop-number.number-index in
    let number = get_or c.args.numbers.now at 0 in
    let less : at < length c.args.numbers.now = omega (arith, c.loop-number-test.true) in
    let item = get_or rows number c.index-rows-number.result in
    let row : cells_of rows number ≡ fields_of item.cells =
    ap (λ answered. answered.0)
    (get_or-map answered rows number c.index-rows-number.result ([], []) (c.requires.numbers at 0 less)) in
    let before = text_written g.W.Write.contents c.loop-number.writer in
    let after = text_written g.W.Write.contents c.put_record.new.writer in record {
      ready = c.in_ok-put_record.ensures.ready;
      wrote = items_more _ _ _ _ _ _ _ number (drop_more c.args.numbers.now at 0 less) c.loop-number.invariant.wrote
          (subst (λ cells. Appends before after (record_line c.args.layout.now cells)) (sym row)
          c.in_ok-put_record.ensures.ok);
    }
