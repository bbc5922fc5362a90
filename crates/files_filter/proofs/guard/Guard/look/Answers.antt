-- A guard looks as its kind does.
use Rattle.std.proofs.Common.{subst}
use Rattle.csv.specs.Records.{fields_of}
use Rattle.files_filter.specs.Watching.{Watches}
use Rattle.files_filter.proofs.RefusalsLemmas.{on_ok}
use Rattle.files_filter.proofs.guard.Guard.look.Goals as goal

pub returns-in-Text-clause-ok : goal.returns-in-Text-clause-ok
returns-in-Text-clause-ok g c =
    on_ok c.look.result _ _ (λ looked rows test so. looked (fields_of c.args.table.now.header) rows test
    (subst (Watches (fields_of c.args.table.now.header) rows test) c.in-Text.is so))
    c.look.ensures.ok
