-- At the front the first, at the back the last.
use Rattle.vob_walk.proofs.PullLemmas.{end_item-first, end_item-last}
use Rattle.vob_walk.proofs.cursor.Cursor.pull.Goals as goal

pub returns-in-Front-clause-given : goal.returns-in-Front-clause-given
returns-in-Front-clause-given g c = rw c.in-Front.is (end_item-first _ _ _ c.next.ensures.steps).0

pub returns-in-Front-clause-kept : goal.returns-in-Front-clause-kept
returns-in-Front-clause-kept g c = rw c.in-Front.is (end_item-first _ _ _ c.next.ensures.steps).1

pub returns-in-Back-clause-given : goal.returns-in-Back-clause-given
returns-in-Back-clause-given g c = rw c.in-Back.is (end_item-last _ _ _ c.next_back.ensures.steps).0

pub returns-in-Back-clause-kept : goal.returns-in-Back-clause-kept
returns-in-Back-clause-kept g c = rw c.in-Back.is (end_item-last _ _ _ c.next_back.ensures.steps).1
