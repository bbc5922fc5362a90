-- The bytes so far are those of the word.
use Rattle.std.proofs.Common.{◌≡◌, ℕ, ◌+◌, ◌*◌, ◌<◌, length}
use Rattle.vob_block.specs.Packing.{bit_at}
use Rattle.vob_c.specs.Bytes.{byte_bit}
use Rattle.vob_c.proofs.bytes.store_word.Given as goal

abbrev pub invariant-loop-j : goal.invariant-loop-j
invariant-loop-j l = record {
  long : length l.bytes ≡ length l.fn.bytes;
  each : ((i : ℕ) → i < 8 * (8 * l.at)
      → byte_bit l.most_first l.fn.bytes i ≡ bit_at l.words 64 i) → (i : ℕ) → i < 8 * (8 * l.at + l.j)
      → byte_bit l.most_first l.bytes i ≡ bit_at l.words 64 i;
}
