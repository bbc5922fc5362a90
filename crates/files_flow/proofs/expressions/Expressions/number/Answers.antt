use Rattle.files_text.proofs.NamesLemmas.{numbered_name}
use Rattle.files_flow.proofs.expressions.Expressions.number.Goals as goal

pub returns : goal.returns
returns c =
    rw (← c.self.view_is)
    (numbered_name c.self.inside.lists.keys c.insert_full.new.self.keys c.args.list c.in_ok-number.number
    c.in_ok-number.ensures.keys c.in_ok-number.ensures.stored)
