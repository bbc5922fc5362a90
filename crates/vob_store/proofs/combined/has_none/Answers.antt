-- A block is alone, or among the chunks, or behind them.
use Rattle.std.proofs.Common.{◌≡◌, ◌∙◌, ◌/◌, ◌*◌, length, sym, ap, inl, inr, arith}
use Rattle.std.proofs.lemmas.Bool.{cases_lt}
use Rattle.vob_store.proofs.CombinedLemmas.{IsBlock-read, HaveNone-alone}
use Rattle.vob_store.proofs.combined.has_none.Goals as goal

pub returns-then-own-eq1-clause-none : goal.returns-then-own-eq1-clause-none
returns-then-own-eq1-clause-none g c =
    let number = g.T.BitBlock.number in
    let zero = ap number c.ZERO.ensures ∙ g.met.T.BitBlock.zero_number_law in
    let test = g.met.T.BitBlock.equal_law c.block-then-own-eq1.result c.ZERO.result in
    let one : length c.args.own.now ≡ 1 = omega (arith, c.if-own-eq1.true) in
    let alone = HaveNone-alone _ _ _ _ g.met.T.BitBlock.wide_law _ (IsBlock-read number
    g.C.Combine.of_bits _ c.args.own.now _ _ _ _ _ c.index-own-0.is (omega (arith, one)) c.block.ensures.block
    c.block-then-own-eq1.ensures.places) c.block-then-own-eq1.ensures.within in
    rw one (
      λ e. alone.0 (test.0 (sym c.eq.ensures ∙ e) ∙ zero),
      λ none. c.eq.ensures ∙ test.1 (alone.1 none ∙ sym zero),
    )

pub returns-clause-none : goal.returns-clause-none
returns-clause-none g c =
    let h = c.loop-chunk.invariant in
    let rest = rw h.items at c.none_between-2.ensures.none in (
      λ yes i low below. elim (cases_lt (i / g.T.BitBlock.BITS) (c.loop-chunk.chunk * 64)) [
        | inl less ↦ h.none i low less
        | inr past ↦ rest.0 yes i (omega (arith, past, c.loop-chunk-test.false)) below
      ],
      λ none. rest.1 (λ i low below. none i (omega arith) below),
    )
