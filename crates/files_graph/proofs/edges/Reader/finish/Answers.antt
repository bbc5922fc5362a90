-- A name alone on the last line is a fault.
use Rattle.std.proofs.Common.{[]}
use Rattle.std.proofs.lemmas.List.{append-nil}
use Rattle.files_graph.specs.Edges.IsFaulty.{alone}
use Rattle.files_graph.proofs.ReadingLemmas.{stopped}
use Rattle.files_graph.proofs.edges.Reader.finish.Goals as goal

pub returns-in-Some-clause-err : goal.returns-in-Some-clause-err
returns-in-Some-clause-err c words read =
    let fresh = rw c.in-Some.is at read.fresh in
    rw (append-nil words) at
    (stopped c.args.self words [] read _ _ _ c.no_second.result
    (rw c.in-Some.is (alone fresh.0 fresh.1 tt)) c.no_second.ensures)
