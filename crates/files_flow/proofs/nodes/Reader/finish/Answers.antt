use Rattle.std.proofs.Common.{[]}
use Rattle.std.proofs.lemmas.List.{append-nil}
use Rattle.files_flow.specs.NodeFaults.IsFaulty.{alone}
use Rattle.files_flow.proofs.NodeLemmas.{stopped}
use Rattle.files_flow.proofs.nodes.Reader.finish.Goals as goal

pub returns-in-Some-clause-err : goal.returns-in-Some-clause-err
returns-in-Some-clause-err c words read =
    let fresh = rw c.in-Some.is at read.fresh in
    rw (append-nil words) at
    (stopped c.args.self words [] read c.in-Some.name.line c.end.result _ c.no_colon.result
    (rw (c.in-Some.is, c.end.ensures) (alone fresh tt)) c.no_colon.ensures)
