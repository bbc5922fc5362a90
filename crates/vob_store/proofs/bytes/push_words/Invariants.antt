-- The bytes so far hold the bits of the blocks so far.
use Rattle.std.proofs.Common.{◌≡◌, ℕ, ◌*◌, ◌<◌, ◌≤◌, length, vec_capacity}
use Rattle.vob_block.specs.Packing.{item, bit_at}
use Rattle.vob_block.specs.Bytes.{bytes_list}
use Rattle.vob_store.proofs.bytes.push_words.Given as goal

abbrev pub invariant-loop-k : goal.invariant-loop-k
invariant-loop-k l = record {
  count : length l.bytes.items ≡ 8 * l.k;
  bits : (i : ℕ) → i < 64 * l.k → item (bytes_list l.bytes.items) i ≡ bit_at l.fn.blocks 64 i;
  room : 8 * length l.fn.blocks ≤ vec_capacity l.bytes;
}
