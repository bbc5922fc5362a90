-- The mark is whole.
use Rattle.files_csv.proofs.PartLemmas.{mark_read}
use Rattle.files_csv.proofs.quotes.Part.after_mark.Goals as goal

pub returns-in-2-eq191 : goal.returns-in-2-eq191
returns-in-2-eq191 c = λ seen stands.
    mark_read seen c.args.count c.args.byte c.in-2-eq191.is-0 c.in-2-eq191.is-1 stands.1
