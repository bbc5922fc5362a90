-- What is changed below the length stays canonical, and holds the list changed.
use Rattle.vob_store.proofs.RangeLemmas.{changed_list, IsCanonical-ranged}
use Rattle.vob_store.proofs.StorageLemmas.{room_of}
use Rattle.vob_store.proofs.range.change_range.Goals as goal

pub change_some-requires-clause-inside : goal.change_some-requires-clause-inside
change_some-requires-clause-inside g c = room_of g.T.BitBlock.number _ g.met.T.BitBlock.wide_law _ _
    _ c.requires.canonical c.requires.inside

pub returns-then-start-stop-clause-changed : goal.returns-then-start-stop-clause-changed
returns-then-start-stop-clause-changed g c =
    let number = g.T.BitBlock.number in
    changed_list _ g.met.T.BitBlock.wide_law _ _ _ _ c.requires.canonical (IsCanonical-ranged
    c.requires.canonical c.change_some.ensures.ranged c.requires.inside)
    c.change_some.ensures.changed
