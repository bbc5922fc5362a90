-- The bytes so far are exchanged, and the others aren't.
use Rattle.std.specs.Prelude.{map}
use Rattle.std.proofs.Common.{◌≡◌, drop, take}
use Rattle.files_filter.specs.Exchanged.{exchange}
use Rattle.files_filter.proofs.exchanged.exchange_all.Given as goal

abbrev pub invariant-loop-byte : goal.invariant-loop-byte
invariant-loop-byte l = (take l.byte-index l.text ≡ map (exchange l.delimiter) (take l.byte-index l.fn.text))
    × (drop l.byte-index l.text ≡ drop l.byte-index l.fn.text)
