-- One item more starts with the terminals, and draws from the node.
use Rattle.std.proofs.Common.{◌≡◌, ◌∙◌, ap, arith, sym}
use Rattle.vob_lr.specs.Behind.{IsOfTrailer}
use Rattle.vob_lr.specs.Lookaheads.{Machine}
use Rattle.vob_lr.specs.Nodes.{member_total, node}
use Rattle.vob_lr.proofs.EquationLemmas.{GainEach-as}
use Rattle.vob_lr.proofs.FlowLemmas.{GainEach-walked, GainWalked-start, GainWalked-step, walked_own}
use Rattle.vob_lr.proofs.flows.Flows.open_items.Goals as goal

pub loop-item-init : goal.loop-item-init
loop-item-init c = record {
  can_next = tt;
  is_finite = tt;
  walked = GainWalked-start _ _ _ _ (ap (λ walk. walk.rest)
      c.into_iter-item-iterator.ensures.into_iter_gives
      ∙ (c.iter_set_bits-item-items.ensures.fresh tt).whole.rest);
}

pub number-to-requires : goal.number-to-requires
number-to-requires c =
    let own = walked_own _ _ _ _ _ c.loop-item.invariant.walked c.in-Some.item _
    c.in-Some.ensures.steps.gives in
    rw (ap (λ (m : Machine). m.sets) c.self.view_is) (c.requires.opened c.in-Some.item own)

pub add_trailer-requires-clause-set : goal.add_trailer-requires-clause-set
add_trailer-requires-clause-set c =
    let sets = ap (λ (m : Machine). member_total m.sets) c.self.view_is in
    omega (
      arith,
      c.number-to.ensures.inside,
      sets,
      c.requires.sets,
      c.loop-item.invariant.walked.count,
    )

pub loop-item-preserved : goal.loop-item-preserved
loop-item-preserved c =
    let q = c.args.state in
    let Q = IsOfTrailer c.args.from c.args.begins.now.bits c.args.empty in
    let at = c.number-to.ensures.number
    ∙ ap (λ (m : Machine). node m.sets q c.in-Some.item) c.self.view_is in
    record {
      can_next = tt;
      is_finite = tt;
      walked = GainWalked-step _ _ _ _ _ c.loop-item.invariant.walked c.in-Some.item _
          c.in-Some.ensures.steps.gives _
          (GainEach-as (λ n y. (node c.args.self.now.sets q c.in-Some.item ≡ n) × Q y)
          c.in_ok-add_trailer.ensures
          (λ n y. ((λ e. (sym at ∙ e.0, e.1)), (λ e. (at ∙ e.0, e.1)))));
    }

pub returns : goal.returns
returns c =
    GainEach-walked _ _ _ _ _ c.loop-item.invariant.walked c.in-None.ensures.steps.gives.0
