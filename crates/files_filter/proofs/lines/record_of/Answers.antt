-- The writer's text is what it has written and what it holds back.
use Rattle.std.proofs.Common.{◌∙◌, ap}
use Rattle.csv.specs.Writing.{with_delimiter}
use Rattle.csv.specs.declared.writer.WriterBuilder.{WriterBuilder}
use Rattle.files_filter.proofs.FilterTextLemmas.{starts_empty, text_kept}
use Rattle.files_filter.proofs.lines.record_of.Goals as goal

pub put_record-requires : goal.put_record-requires
put_record-requires c =
    let writer = c.from_writer-writer.ensures in record {
      setup = writer.cfg ∙ c.delimiter.ensures
          ∙ ap (λ (builder : WriterBuilder). with_delimiter builder c.args.layout.now.delimiter) c.new.ensures;
      fields = writer.fields;
      wrote = writer.wrote;
    }

pub returns-in-Ok-clause-ok : goal.returns-in-Ok-clause-ok
returns-in-Ok-clause-ok c =
    let fresh = c.from_writer-writer.result in
    let writer = c.from_writer-writer.ensures in
    text_kept fresh c.put_record.new.writer c.in-Ok.text
    (starts_empty fresh c.new-2.result writer.wtr c.new-2.ensures.items writer.empty) _
    c.in_ok-put_record.ensures.ok c.in-Ok.ensures.ok
