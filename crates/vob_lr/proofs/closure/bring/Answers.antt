-- It is the symbol that is there.
use Rattle.vob_lr.proofs.closure.bring.Goals as goal

pub bring_by-requires-clause-row : goal.bring_by-requires-clause-row
bring_by-requires-clause-row c = rw c.in-Some.is at c.requires.row

pub returns-in-Some : goal.returns-in-Some
returns-in-Some c = rw c.in-Some.is c.bring_by.ensures
