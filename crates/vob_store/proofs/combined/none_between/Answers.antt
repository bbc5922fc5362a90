-- By the lemma on one block more.
use Rattle.std.proofs.Common.{◌≡◌, ◌∙◌, map, refl, sym, ap, arith}
use Rattle.vob_store.proofs.CombinedLemmas.{IsBlock-read, IsFound-start, IsFound-more}
use Rattle.vob_store.proofs.combined.none_between.Goals as goal

pub loop-k-init : goal.loop-k-init
loop-k-init g c = record {
  found = IsFound-start g.C.Combine.of_bits g.T.BitBlock.BITS (map g.T.BitBlock.number c.args.own.now)
      (map g.T.BitBlock.number c.args.other.now.items) c.args.from
      (g.T.BitBlock.number c.ZERO-found.result)
      (ap g.T.BitBlock.number c.ZERO-found.ensures ∙ g.met.T.BitBlock.zero_number_law);
  items = refl;
  reads = omega arith;
}

pub loop-k-preserved : goal.loop-k-preserved
loop-k-preserved g c =
    let h = c.loop-k in
    let here = IsBlock-read g.T.BitBlock.number g.C.Combine.of_bits g.T.BitBlock.BITS
    c.args.own.now c.args.other.now.items h.k _ _ _ c.index-own-k.is
    (omega (arith, c.requires.count, c.loop-k-test.true))
    (rw h.invariant.items at c.block.ensures.block) c.block-in-loop-k.ensures.places in
    record {
      found = IsFound-more _ _ _ _ _ _ _ _ _ h.invariant.found (omega (arith, h.auto.k)) here
          c.block-in-loop-k.ensures.within c.bor-found.ensures.within c.bor-found.ensures.places
          g.met.T.BitBlock.wide_law;
      items = c.block.ensures.items ∙ h.invariant.items;
      reads = omega (arith, c.block.ensures.reads, h.invariant.reads);
    }

pub returns-clause-none : goal.returns-clause-none
returns-clause-none g c =
    let number = g.T.BitBlock.number in
    let zero = ap number c.ZERO.ensures ∙ g.met.T.BitBlock.zero_number_law in
    let test = g.met.T.BitBlock.equal_law c.loop-k.found c.ZERO.result in
    let last : c.loop-k.k ≡ c.args.to = omega (arith, c.loop-k.auto.k-end, c.requires.order) in
    let found = rw last at c.loop-k.invariant.found in (
      λ e. found.none (test.0 (sym c.eq.ensures ∙ e) ∙ zero),
      λ none. c.eq.ensures ∙ test.1 (found.zero none ∙ sym zero),
    )
