-- What was seen was found, and none of that is seen any more.
use Rattle.std.proofs.Common.{◌≡◌, ◌<◌, ◌∙◌, ℕ, List, get_or, length, refl, ap, subst, arith}
use Rattle.std.proofs.lemmas.Bool.{false_from_ne_true}
use Rattle.std.proofs.lemmas.List.{get_or_default}
use Rattle.vob_block.proofs.PackingLemmas.{true_inside}
use Rattle.files_graph.proofs.DirectLemmas.{count_zero}
use Rattle.files_graph.proofs.direct.clear.Goals as goal

pub set-requires : goal.set-requires
set-requires c =
    let h = c.loop-k.invariant in
    let s = c.args.search.now in
    let less : c.loop-k.k < length s.found.items =
    omega (arith, c.loop-k-test.true, c.len-k-end.ensures, s.found.ok.0) in
    let is : c.index-node.result.now ≡ get_or s.found.items c.loop-k.k 0 =
    subst (λ (xs : List ℕ). c.index-node.result.now ≡ get_or xs c.loop-k.k c.index-node.result.now) h.found
    c.index-node.ensures ∙ get_or_default s.found.items c.loop-k.k c.index-node.result.now 0 less in
    let there = true_inside s.seen.bits _ (c.requires.search.listed c.loop-k.k less) in
    record { in_range = omega (arith, is, there, h.seen_long) }

pub returns : goal.returns
returns c =
    let h = c.loop-k.invariant in
    let s = c.args.search.now in
    let state = c.requires.search in
    record {
      seen_long = h.seen_long;
      missing_long = ap length h.missing ∙ state.missing_long;
      unseen = λ x. false_from_ne_true _ (λ on.
          let g = h.gone x on in
          let p = state.whole x g.0 in
          g.1 p.0 (omega (arith, p.1, c.loop-k-test.false, c.len-k-end.ensures, s.found.ok.0)) p.2);
      none = rw h.missing c.requires.none;
      left = h.left ∙ state.left_is ∙ count_zero s.missing.bits c.requires.none;
      found = c.clear.ensures.items;
      followed = refl;
    }
