-- The bytes of the words so far hold their bits.
use Rattle.std.proofs.Common.{◌≡◌, ℕ, ◌*◌, ◌<◌, length}
use Rattle.vob_block.specs.Packing.{bit_at}
use Rattle.vob_c.specs.Bytes.{byte_bit}
use Rattle.vob_c.proofs.bytes.store_words.Given as goal

abbrev pub invariant-loop-k : goal.invariant-loop-k
invariant-loop-k l = record {
  long : length l.bytes ≡ length l.fn.bytes;
  each : (i : ℕ) → i < 8 * (8 * l.k) → byte_bit l.most_first l.bytes i ≡ bit_at l.words 64 i;
}
