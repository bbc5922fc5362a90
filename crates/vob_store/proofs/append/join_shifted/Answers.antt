-- Each block is made of the one before and the one just read, and the last one has none behind it.
use Rattle.std.proofs.Common.{◌≡◌, ◌∷◌, ◌+◌, ap, map, get_or, refl, arith, rules, sym, ◌∙◌, add-one}
use Rattle.std.proofs.lemmas.List.{length-map, map-set, get_or_past}
use Rattle.vob_block.proofs.NumberLemmas.{number_read}
use Rattle.vob_store.proofs.BuildLemmas.{AreBuilt-none, AreBuilt-upto}
use Rattle.vob_store.proofs.FunnelLemmas.{AreBuilt-funnel}
use Rattle.vob_store.proofs.append.join_shifted.Goals as goal

pub loop-k-init : goal.loop-k-init
loop-k-init g c =
    record { built = AreBuilt-none; before = refl; items = search rules; reads = omega arith }

pub loop-k-preserved : goal.loop-k-preserved
loop-k-preserved g c =
    let number = g.T.BitBlock.number in
    let h = c.loop-k.invariant in
    let source = number c.args.first ∷ map number c.args.other.now.items in
    let read = number_read number c.args.other.now.items c.loop-k.k c.block-block.result
    (rw h.items at c.block-block.ensures.block)
    ∙ sym (ap (λ k. get_or source k 0) (add-one c.loop-k.k)) in
    record {
      built = rw map-set (AreBuilt-funnel _ g.met.T.BitBlock.wide_law _ _ _ _ _ _ _ c.requires.below
          h.built (omega (arith, length-map c.loop-k.own number, c.loop-k.auto.own)) h.before read
          c.funnel_down.ensures.places);
      before = read;
      items = c.block-block.ensures.items ∙ h.items;
      reads = omega (arith, c.block-block.ensures.reads, h.reads);
    }

pub returns-then-count-own-clause-built : goal.returns-then-count-own-clause-built
returns-then-count-own-clause-built g c =
    let number = g.T.BitBlock.number in
    let end : c.loop-k.k ≡ c.len-count.result = omega arith in
    let h = c.loop-k.invariant in
    let source = number c.args.first ∷ map number c.args.other.now.items in
    let none : number c.ZERO.result ≡ get_or source (c.loop-k.k + 1) 0 =
    ap number c.ZERO.ensures ∙ g.met.T.BitBlock.zero_number_law
    ∙ sym (get_or_past source (c.loop-k.k + 1) 0
    (omega (arith, length-map c.args.other.now.items number))) in
    rw (map-set, ← end) (AreBuilt-upto _ (AreBuilt-funnel _ g.met.T.BitBlock.wide_law _ _ _ _ _ _ _
    c.requires.below h.built (omega (arith, length-map c.loop-k.own number)) h.before none
    c.funnel_down-then-count-own.ensures.places) (omega arith))

pub returns-else-count-own-clause-built : goal.returns-else-count-own-clause-built
returns-else-count-own-clause-built g c = AreBuilt-upto _ c.loop-k.invariant.built (omega arith)
