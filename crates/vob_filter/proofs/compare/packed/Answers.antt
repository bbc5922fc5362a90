-- The rows of a word more.
use Rattle.std.proofs.Common.{◌+◌, ◌*◌, ◌<◌, ◌∙◌, refl, arith}
use Rattle.vob_filter.proofs.PackedLemmas.{packed_more, packed_all}
use Rattle.vob_filter.proofs.compare.packed.Goals as goal

pub loop-k-preserved : goal.loop-k-preserved
loop-k-preserved g c =
    let start = 64 * c.loop-k.k in
    let inside : start < c.len-len.result = omega
    (arith, c.loop-k-test.true, c.div_ceil-k-end.ensures) in
    record {
      len = c.store.ensures.each.len ∙ c.loop-k.invariant.len;
      below = λ i less within. packed_more (g.R.Rows.rows c.args.rows.now) c.loop-k.bits.bits
          c.store.new.self.bits start (start + c.min-count.result) c.min-count.result
          c.word_of-word.result (omega (arith, c.min-count.ensures)) refl c.store.ensures.each
          c.word_of-word.ensures
          (λ j before. c.loop-k.invariant.below j before (omega (arith, before, inside))) i
          (omega (arith, less, within, c.min-count.ensures, inside));
    }

pub returns : goal.returns
returns g c =
    packed_all (g.R.Rows.rows c.args.rows.now) c.loop-k.bits.bits
    (c.loop-k.invariant.len ∙ c.len-len.ensures)
    (λ i less. c.loop-k.invariant.below i
    (omega (arith, less, c.loop-k-test.false, c.div_ceil-k-end.ensures, c.len-len.ensures))
    (omega (arith, less, c.len-len.ensures)))
