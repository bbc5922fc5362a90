-- The places so far are noted.
use Rattle.std.proofs.Common.{◌≡◌, length}
use Rattle.vob_flow.specs.Touched.{AreNoted}
use Rattle.vob_flow.proofs.chosen.note_places.Given as goal

abbrev pub invariant-loop-place : goal.invariant-loop-place
invariant-loop-place l = AreNoted l.nodes l.place l.places × (length l.places ≡ length l.fn.places)
