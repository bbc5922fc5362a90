-- By the lemmas on blocks that are read one after another.
use Rattle.std.proofs.Common.{◌∙◌, sym, ap}
use Rattle.vob_walk.proofs.BlockBitsLemmas.{block_indices-zero, some_index}
use Rattle.vob_walk.proofs.ReadLemmas.{Reads-found, Reads-end}
use Rattle.vob_walk.proofs.SkipLemmas.{none_found}
use Rattle.vob_walk.proofs.scan.find.Goals as goal

pub loop-found-preserved : goal.loop-found-preserved
loop-found-preserved g c =
    let h = c.loop-found.invariant in
    let window = c.args.window in
    record {
      side = c.pass.ensures.side ∙ h.side;
      reads = Reads-found _ g.met.T.BitBlock.wide_law window.value window.start window.stop
          c.block_without-skip.ensures c.args.span.now.side h.reads
          (rw (h.side, c.in-Some.is) at c.next_other.ensures) (rw h.side at c.pass.ensures.start)
          (rw h.side at c.pass.ensures.end)
          (sym (block_indices-zero _ _ _ (c.is_zero.ensures.0 c.if-not-is_zero.false))
          ∙ c.bits_in-word.ensures.indices);
    }

pub returns-then-not-is_zero-clause-reads : goal.returns-then-not-is_zero-clause-reads
returns-then-not-is_zero-clause-reads g c =
    let h = c.loop-found.invariant in
    let window = c.args.window in
    Reads-found _ g.met.T.BitBlock.wide_law window.value window.start window.stop
    c.block_without-skip.ensures c.args.span.now.side h.reads
    (rw (h.side, c.in-Some.is) at c.next_other.ensures) (rw h.side at c.pass.ensures.start)
    (rw h.side at c.pass.ensures.end) c.bits_in-word.ensures.indices

pub returns-then-not-is_zero-clause-none : goal.returns-then-not-is_zero-clause-none
returns-then-not-is_zero-clause-none g c = λ none.
    absurd (some_index _ _ _ _ c.is_zero.ensures c.bits_in-word.ensures.bits.within
    c.if-not-is_zero.true none)

pub returns-clause-reads : goal.returns-clause-reads
returns-clause-reads g c =
    let h = c.loop-found.invariant in
    let window = c.args.window in
    Reads-end _ g.met.T.BitBlock.wide_law window.value window.start window.stop
    c.block_without-skip.ensures c.args.span.now.side h.reads
    (rw (h.side, none_found _ c.in_default.not-Some) at c.next_other.ensures)
    (block_indices-zero _ 0 _ (ap g.T.BitBlock.number c.ZERO.ensures
    ∙ g.met.T.BitBlock.zero_number_law))
