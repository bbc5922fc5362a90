-- Digits are ASCII, and so a text.
use Rattle.std.proofs.lemmas.Str.{IsUtf8-from_ascii}
use Rattle.vob_store.proofs.TextLemmas.{IsAscii-digits}
use Rattle.vob_store.proofs.text.write_block.Goals as goal

pub unreachable-requires : goal.unreachable-requires
unreachable-requires g c =
    c.in_default.ensures.cases.0
    (rw c.fill_digits.ensures (IsUtf8-from_ascii _ (IsAscii-digits _)))
