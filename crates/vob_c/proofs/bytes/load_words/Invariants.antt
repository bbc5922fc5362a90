-- The words so far hold the bits of their bytes.
use Rattle.std.proofs.Common.{◌≡◌, ℕ, ◌*◌, ◌<◌, length}
use Rattle.vob_block.specs.Packing.{bit_at}
use Rattle.vob_c.specs.Bytes.{byte_bit}
use Rattle.vob_c.proofs.bytes.load_words.Given as goal

abbrev pub invariant-loop-k : goal.invariant-loop-k
invariant-loop-k l = record {
  long : length l.words ≡ length l.fn.words;
  each : (i : ℕ) → i < 64 * l.k → bit_at l.words 64 i ≡ byte_bit l.most_first l.bytes i;
}
