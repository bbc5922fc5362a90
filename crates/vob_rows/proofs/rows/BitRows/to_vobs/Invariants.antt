-- The Vobs so far have the bits of their rows.
use Rattle.std.proofs.Common.{◌≡◌, take}
use Rattle.vob.specs.Vobs.{bits_of}
use Rattle.vob_rows.proofs.rows.BitRows.to_vobs.Given as goal

abbrev pub invariant-loop-i : goal.invariant-loop-i
invariant-loop-i g l = bits_of l.vobs.items ≡ take l.i l.self.rows
