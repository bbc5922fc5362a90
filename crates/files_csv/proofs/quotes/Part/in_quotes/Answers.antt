-- Other bytes are the text's.
use Rattle.files_csv.proofs.PartLemmas.{text_more}
use Rattle.files_csv.proofs.quotes.Part.in_quotes.Goals as goal

pub returns-else-byte-eq34 : goal.returns-else-byte-eq34
returns-else-byte-eq34 c = λ cell begins. text_more cell c.args.byte c.if-byte-eq34.false begins
