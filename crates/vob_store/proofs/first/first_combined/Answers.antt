-- A block that isn't 0 has a first true place, and one that is 0 has none.
use Rattle.std.proofs.Common.{◌≡◌, ◌↔◌, ℕ, ◌<◌, ◌∙◌, true, false, not, map, sym, ap, arith}
use Rattle.std.proofs.lemmas.Bool.{false≢true, not-false}
use Rattle.std.proofs.lemmas.List.{length-map}
use Rattle.std.proofs.lemmas.Nat.{div-mul-add}
use Rattle.vob_block.specs.Places.{HasZerosLow}
use Rattle.vob_store.proofs.CombinedLemmas.{IsBlock, IsBlock-read, HaveNone-next}
use Rattle.vob_store.proofs.FirstLemmas.{IsFirstCombined-place, zeros-less}
use Rattle.vob_store.proofs.first.first_combined.Given as given
use Rattle.vob_store.proofs.first.first_combined.Goals as goal
use Rattle.vob_store.proofs.first.first_combined.Goals.{After-ne}

block : (g : given.Over) (c : After-ne g)
    → IsBlock g.C.Combine.of_bits g.T.BitBlock.BITS (map g.T.BitBlock.number c.args.own.now)
    (map g.T.BitBlock.number c.args.other.now.items) c.loop-k.k (g.T.BitBlock.number c.block-block.result)
block g c = IsBlock-read g.T.BitBlock.number _ _ _ _ _ _ _ _ c.index-own-k.is (omega arith)
    (rw c.loop-k.invariant.items at c.block.ensures.block) c.block-block.ensures.places

is_zero : (g : given.Over) (c : After-ne g)
    → (c.ne.result ≡ false) ↔ (g.T.BitBlock.number c.block-block.result ≡ 0)
is_zero g c =
    let zero = ap g.T.BitBlock.number c.ZERO.ensures ∙ g.met.T.BitBlock.zero_number_law in
    let test = g.met.T.BitBlock.equal_law c.block-block.result c.ZERO.result in (
      λ e. test.0 (not-false _ (sym c.ne.ensures ∙ e)) ∙ zero,
      λ e. c.ne.ensures ∙ ap not (test.1 (e ∙ sym zero)),
    )

inside : (g : given.Over) (c : After-ne g) (n : ℕ) → c.ne.result ≡ true
    → HasZerosLow g.T.BitBlock.BITS (g.T.BitBlock.number c.block-block.result) n → n < g.T.BitBlock.BITS
inside g c n some = zeros-less _ _ n c.block-block.ensures.within
    (λ e. false≢true (sym ((is_zero g c).1 e) ∙ some))

pub returns-then-ne-clause-found : goal.returns-then-ne-clause-found
returns-then-ne-clause-found g c =
    let so_far = (goal.at.returns-then-ne-clause-found g c).After-ne in
    rw c.BITS.ensures (IsFirstCombined-place _ _ _ _ _ _ _ (block g so_far) c.loop-k.invariant.none
    (inside g so_far _ c.if-ne.true c.zeros_low-place.ensures) c.zeros_low-place.ensures
    (omega (arith, length-map c.args.own.now g.T.BitBlock.number)))

pub overflow_mul-result : goal.overflow_mul-result
overflow_mul-result g c = omega (arith, c.requires.fits _ (returns-then-ne-clause-found g c).there)

pub overflow_add-result : goal.overflow_add-result
overflow_add-result g c = omega (arith, c.requires.fits _ (returns-then-ne-clause-found g c).there)

pub returns-then-ne-clause-reads : goal.returns-then-ne-clause-reads
returns-then-ne-clause-reads g c =
    let below = inside g (goal.at.returns-then-ne-clause-reads g c).After-ne _ c.if-ne.true
    c.zeros_low-place.ensures in
    let own = div-mul-add c.loop-k.k _ _ below in
    rw c.BITS.ensures (omega (arith, own, c.block.ensures.reads, c.loop-k.invariant.reads))

pub loop-k-preserved : goal.loop-k-preserved
loop-k-preserved g c =
    let so_far = (goal.at.loop-k-preserved g c).After-ne in record {
      none = HaveNone-next _ _ _ _ g.met.T.BitBlock.wide_law _ _ _ (block g so_far)
          c.loop-k.invariant.none ((is_zero g so_far).0 c.if-ne.false);
      items = c.block.ensures.items ∙ c.loop-k.invariant.items;
      reads = omega (arith, c.block.ensures.reads, c.loop-k.invariant.reads);
    }
