-- The number is that of the key, and a new key is the last.
use Rattle.files_text.proofs.NamesLemmas.{numbered_name}
use Rattle.files_text.proofs.names.Names.number.Goals as goal

pub returns : goal.returns
returns c =
    rw (← c.self.view_is)
    (numbered_name c.self.inside.names.keys c.insert_full.new.self.keys c.args.name c.in_ok-number.number
    c.in_ok-number.ensures.keys c.in_ok-number.ensures.stored)
