-- The whole text comes after no row.
use Rattle.std.proofs.Common.{◌≡◌, ◌∙◌, ap, false, inr}
use Rattle.csv.specs.Reading.{builder_config, with_config, with_names_headers}
use Rattle.csv.specs.declared.parser.Config.{Config}
use Rattle.csv.specs.declared.reader.ReaderBuilder.{ReaderBuilder}
use Rattle.files_csv.specs.Whole.{unread}
use Rattle.files_filter.specs.Exchanged.{left_between, left_exchanged}
use Rattle.files_filter.specs.Reading.{delimited}
use Rattle.files_filter.proofs.ExchangedLemmas.{exchanged_back}
use Rattle.files_filter.proofs.ReadingLemmas.{begins}
use Rattle.files_filter.proofs.table.Table.new.Goals as goal

pub returns : goal.returns
returns g c =
    let remaining = g.R.Read.remaining in
    let delimiter = c.args.delimiter in
    let reader = c.from_reader-reader.ensures in
    let config : Config = record (builder_config c.new-2.result) { delimiter = delimiter } in
    let setup : c.has_headers.result.now ≡ with_names_headers (with_config c.new-2.result config) false =
    c.has_headers.ensures ∙ ap (λ (builder : ReaderBuilder). with_names_headers builder false) c.delimiter.ensures in
    begins remaining (delimited delimiter (remaining c.args.input))
    (left_between remaining (record { input = c.new.result; delimiter = delimiter })) _
    (exchanged_back delimiter (remaining c.args.input) (unread (left_exchanged remaining) c.new.result) c.new.ensures.unread)
    (rw setup at reader.trim ∙ c.new-2.ensures.trim) (inr (inr (rw setup at reader.has_headers, reader.headers)))
    (rw setup at reader.config ∙ ap (λ (config : Config). record config { delimiter = delimiter }) c.new-2.ensures.config)
    (rw setup at reader.flexible ∙ c.new-2.ensures.flexible) reader.expected reader.state reader.source
