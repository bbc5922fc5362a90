-- Each byte is written over its eight bits, or over those that are left.
use Rattle.std.proofs.Common.{◌≡◌, ℕ, ◌*◌, ◌<◌, ◌≤◌, ◌∙◌, arith}
use Rattle.std.proofs.lemmas.List.{map-id}
use Rattle.vob_block.specs.Packing.{need}
use Rattle.vob_block.proofs.NeedLemmas.{mul-lt_from_need, need_enough, need_least}
use Rattle.vob_c.proofs.BytesLemmas.{loaded_more, loaded_all}
use Rattle.vob_c.proofs.bytes.load_bytes.Goals as goal

room : (n size many : ℕ) → size ≡ need n 64 → many ≡ need n 8 → many ≤ 8 * size
room n size many count bytes = omega (
  arith,
  bytes,
  need_least 8 (omega arith) n (8 * size) (omega (arith, count, need_enough 64 (omega arith) n)),
)

below : (k n m : ℕ) → k < m → m ≡ need n 8 → 8 * k < n
below k n m less count = omega (arith, mul-lt_from_need 8 (omega arith) n k (omega (arith, less, count)))

inside : (at n size given : ℕ) → size ≡ given → given ≡ need n 64 → at ≤ n → at ≤ size * 64
inside at n size given long count fits =
    omega (arith, long, count, fits, need_enough 64 (omega arith) n)

-- words enough for the bytes
pub load_words-first-requires : goal.load_words-first-requires
load_words-first-requires c = room _ _ _ c.requires.words c.requires.bytes

pub overflow_mul-k : goal.overflow_mul-k
overflow_mul-k c = omega (arith, below _ _ _ c.loop-k-test.true c.requires.bytes, c.ranges.bits.fits)

pub overflow_mul-k-in-loop-k : goal.overflow_mul-k-in-loop-k
overflow_mul-k-in-loop-k c = omega (
  arith,
  below _ _ _ c.loop-k-test.true c.requires.bytes,
  c.ranges.bits.fits,
)

pub overflow_sub-bits : goal.overflow_sub-bits
overflow_sub-bits c = omega (arith, below _ _ _ c.loop-k-test.true c.requires.bytes)

pub write_bits-requires-clause-inside : goal.write_bits-requires-clause-inside
write_bits-requires-clause-inside c =
    let less = below _ _ _ c.loop-k-test.true c.requires.bytes in
    inside _ c.args.bits _ _ c.loop-k.invariant.long c.requires.words (omega (arith, less, c.min.ensures))

pub write_bits-requires-clause-fits : goal.write_bits-requires-clause-fits
write_bits-requires-clause-fits c =
    let less = below _ _ _ c.loop-k-test.true c.requires.bytes in
    omega (arith, less, c.min.ensures, c.ranges.bits.fits)

pub loop-k-init : goal.loop-k-init
loop-k-init c = record {
  long = c.load_words-first.ensures.long;
  each = λ i less inside. c.load_words-first.ensures.each i less;
}

pub loop-k-preserved : goal.loop-k-preserved
loop-k-preserved c =
    let h = c.loop-k.invariant in record {
      long = c.write_bits.auto.own ∙ h.long;
      each = loaded_more c.args.most_first c.args.bits c.loop-k.words c.args.bytes.now
          c.write_bits.new.own c.loop-k.k c.turned-byte.result c.turned-byte.ensures
          (rw (c.min.ensures, c.from.ensures) at (simp map-id at c.write_bits.ensures.copied))
          h.each;
    }

pub returns : goal.returns
returns c =
    let is = loaded_all c.args.most_first c.args.bits c.loop-k.words c.args.bytes.now
    c.requires.bytes (λ i less. c.loop-k.invariant.each i (omega (arith, less, c.loop-k.auto.k-end)))
    in rw (← is) (simp map-id at c.mask_last.ensures)
