-- A pass that goes on made a bit more true, of which there are only so many.
use Rattle.std.proofs.Common.{true, false, length, ◌∙◌, ◌+◌, ◌-◌, ◌*◌, ◌≤◌, refl, sym, ap, subst, arith}
use Rattle.std.proofs.lemmas.List.{get_or-replicate, length-replicate}
use Rattle.vob.specs.Vobs.{total_count}
use Rattle.vob_flow.specs.Draws.{IsTurn, mask_of}
use Rattle.vob_flow.specs.Schedules.{place_of}
use Rattle.vob_flow.specs.Turns.{ChangeInPasses, TakeTurns}
use Rattle.vob_flow.specs.Turns.ChangeInPasses.{no_pass, one_more}
use Rattle.vob_flow.proofs.DrawLemmas.{fits_after}
use Rattle.vob_flow.proofs.PassLemmas.{AreMore-refl, AreMore-trans, few_true, product_fits}
use Rattle.vob_flow.proofs.ScheduleLemmas.{place_there}
use Rattle.vob_flow.proofs.UnderwayLemmas.{AreUnderway-start, AreUnderway-done, AreLeast-done}
use Rattle.vob_flow.proofs.passes.settle.Goals as goal

pub passes-init : goal.passes-init
passes-init c =
    let order = c.args.schedule.now.order.items in
    let places = c.args.schedule.now.places.items in
    let all = c.requires.pending in
    record {
      len = ap length all ∙ length-replicate (length order) true;
      sets_more = AreMore-refl _;
      underway = AreUnderway-start _ _ _ _ _ (λ k inside.
          rw all (get_or-replicate (length order) (place_of places k) true false
          (place_there c.requires.schedule.places k inside)));
      most = omega arith;
      one_more = omega arith;
      change = no_pass;
      columns = refl;
      one_pass = λ _. refl;
    }

pub pass-requires-clause-masks : goal.pass-requires-clause-masks
pass-requires-clause-masks c = fits_after c.args.masks c.requires.masks
    c.passes.invariant.sets_more.shape.count c.passes.invariant.columns

few : (c : goal.In-passes) → total_count c.pass.new.sets.rows
    ≤ length c.args.sets.now.rows * c.args.sets.now.columns
few c = few_true _ _ (AreMore-trans c.passes.invariant.sets_more
    c.pass.ensures.pass.sets_more) (rw c.columns-places.ensures.columns at c.columns-places.ensures.long)

pub overflow_add-passes : goal.overflow_add-passes
overflow_add-passes c =
    let fits = product_fits (length c.args.sets.now.rows) c.args.sets.now.columns
    (omega (arith, c.rows-count.ensures)) (omega (arith, c.columns-places.ensures.columns)) in
    let more = c.pass.ensures.pass.more c.passes-test.true in
    omega (arith, fits, few c, more, c.passes.invariant.most)

pub passes-smaller : goal.passes-smaller
passes-smaller c = omega (arith, few c, c.pass.ensures.pass.more c.passes-test.true)

changed : (c : goal.In-passes) →
    ChangeInPasses (IsTurn c.args.graph.now (mask_of c.args.masks)) c.args.schedule.now.order.items
    c.args.sets.now.rows (c.passes.passes + 1 - 1) c.pass.new.sets.rows
changed c =
    let before = c.passes.invariant in
    let passed = c.pass.ensures.pass in
    subst (λ k. ChangeInPasses (IsTurn c.args.graph.now (mask_of c.args.masks))
    c.args.schedule.now.order.items c.args.sets.now.rows k c.pass.new.sets.rows)
    (omega (arith, before.one_more))
    (one_more before.change (passed.turns _ before.underway)
    (λ e. omega (arith, ap total_count e, passed.more c.passes-test.true)))

pub passes-preserved : goal.passes-preserved
passes-preserved c =
    let passed = c.pass.ensures.pass in
    record {
      len = passed.len ∙ c.passes.invariant.len;
      sets_more = AreMore-trans c.passes.invariant.sets_more passed.sets_more;
      underway = passed.underway _ c.passes.invariant.underway;
      most = omega (arith, passed.more c.passes-test.true, c.passes.invariant.most);
      one_more = omega arith;
      change = changed c;
      columns = c.pass.ensures.columns ∙ c.passes.invariant.columns;
      one_pass = λ e. absurd (omega (arith, e, c.passes.invariant.one_more));
    }

pub returns-clause-least : goal.returns-clause-least
returns-clause-least c =
    let passed = c.pass.ensures.pass in
    let under = passed.underway _ c.passes.invariant.underway in
    AreLeast-done under (AreUnderway-done under (λ k inside.
    passed.quiet c.passes-test.false (place_of c.args.schedule.now.places.items k)
    (place_there c.requires.schedule.places k inside)))

pub returns-clause-passes : goal.returns-clause-passes
returns-clause-passes c =
    let passed = c.pass.ensures.pass in
    let before = c.passes.invariant in
    let order = c.args.schedule.now.order.items in
    let starts = c.args.sets.now.rows in
    let same = sym (passed.same c.passes-test.false) in
    record {
      most = omega (arith, c.passes.invariant.most, passed.sets_more.total);
      no_pass = λ none. absurd (omega (arith, none, c.passes.invariant.one_more));
      one_pass = λ one. passed.same c.passes-test.false ∙ c.passes.invariant.one_pass one;
      count = λ some. record {
        order = order;
        each_once = rw (← c.requires.count) c.requires.schedule.order;
        changing = c.passes.passes - 1;
        change = subst (ChangeInPasses (IsTurn c.args.graph.now (mask_of c.args.masks)) order starts (c.passes.passes - 1))
            same before.change;
        last = subst (λ xs. TakeTurns (IsTurn c.args.graph.now (mask_of c.args.masks)) order xs (length order)
            c.pass.new.sets.rows) same (passed.turns _ before.underway);
        is = omega (arith, before.one_more);
      };
    }
