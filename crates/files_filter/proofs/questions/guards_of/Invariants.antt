-- The tests so far have their guards.
use Rattle.std.proofs.Common.{All, []}
use Rattle.files_filter.specs.Reading.{Cells}
use Rattle.files_filter.specs.Watching.{IsWatched}
use Rattle.files_filter.proofs.questions.guards_of.Given as goal

abbrev pub invariant-loop-test : goal.invariant-loop-test
invariant-loop-test l = (header : Cells) → All (IsWatched header [] l.tests) l.guards.items
