-- The bytes so far hold the bits of the blocks so far.
use Rattle.std.proofs.Common.{◌≡◌, ℕ, ◌*◌, ◌^◌, ◌<◌, ◌≤◌, length, get_or, vec_capacity}
use Rattle.vob_block.specs.Packing.{bit_at}
use Rattle.vob_store.proofs.le_bytes.push_low_words.Given as goal

abbrev pub invariant-loop-k : goal.invariant-loop-k
invariant-loop-k l = record {
  count : length l.bytes.items ≡ 8 * l.k;
  bits : (i : ℕ) → i < 64 * l.k → bit_at l.bytes.items 8 i ≡ bit_at l.fn.blocks 64 i;
  within : (k : ℕ) → get_or l.bytes.items k 0 < 2 ^ 8;
  room : 8 * length l.fn.blocks ≤ vec_capacity l.bytes;
}
