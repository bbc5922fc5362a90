-- What is pushed, and behind it the packing of what is left, are the whole packing.
use Rattle.std.proofs.Common.{◌≡◌, ◌≤◌, ◌++◌, length, vec_capacity}
use Rattle.vob_block.specs.Packing.{packing}
use Rattle.vob_store.proofs.LowBytesLemmas.{low_bits}
use Rattle.vob_store.proofs.le_bytes.low_byte_blocks.Given as goal

abbrev pub invariant-loop-first : goal.invariant-loop-first
invariant-loop-first l = record {
  packed : l.blocks.items ++ packing (low_bits l.rest) 64 ≡ packing (low_bits l.fn.bytes) 64;
  room : length (packing (low_bits l.fn.bytes) 64) ≤ vec_capacity l.blocks;
}

abbrev pub decreases-loop-first : goal.decreases-loop-first
decreases-loop-first l = length l.rest
