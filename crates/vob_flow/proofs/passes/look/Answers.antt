-- The set grew, and those that draw from it wait.
use Rattle.std.proofs.Common.{◌≡◌, ◌<◌, ◌∙◌, [], arith, get_or, inl, inr, length, refl, subst, sym}
use Rattle.std.specs.List.{Contains}
use Rattle.std.proofs.lemmas.Bool.{false≢true}
use Rattle.std.proofs.lemmas.List.{get_or_default}
use Rattle.vob_block.proofs.PackingLemmas.{true_inside}
use Rattle.vob_flow.specs.Draws.{IsDrawn, mask_of}
use Rattle.vob_flow.specs.Gains.{HasGained}
use Rattle.vob_flow.specs.Schedules.{place_of}
use Rattle.vob_flow.proofs.AnyLemmas.{Any-contained}
use Rattle.vob_flow.proofs.passes.look.Goals as goal

pub returns-then-grew-clause-look : goal.returns-then-grew-clause-look
returns-then-grew-clause-look c =
    let next = c.args.graph.now in
    let mask = mask_of c.args.masks in
    let sets = c.args.sets.now.rows in
    let order = c.args.schedule.now.order.items in
    let places = c.args.schedule.now.places.items in
    let set = c.index-set.result.now in
    let low : c.args.at < length order =
    omega (arith, true_inside c.args.pending.now.bits c.args.at c.requires.waits, c.requires.pending) in
    let same : set ≡ get_or order c.args.at 0 =
    c.index-set.ensures ∙ get_or_default order c.args.at set 0 low in
    let each = rw (c.next-then-grew.ensures.ends, c.deref.ensures.value) at c.wait.ensures.each in
    record {
      drawn = subst (λ n. HasGained sets n (IsDrawn next mask sets n) c.draw_set-grew.new.sets.rows
          c.draw_set-grew.result) same (rw c.next.ensures.ends at c.draw_set-grew.ensures.gained);
      len = c.wait.ensures.len ∙ c.set.ensures.written.len;
      kept = λ p other on. (each p).1 (inl (c.set.ensures.written.others p other ∙ on));
      users = λ up k within.
          let own = subst (λ n. Contains (get_or next k []) n) (sym same) within in
          (each (place_of places k)).1 (inr (Any-contained
          (λ user. place_of places user ≡ place_of places k) (get_or c.args.schedule.now.users set []) k
          ((c.requires.schedule.users.each set k).1 own) refl));
      quiet = λ none. absurd (false≢true (sym none ∙ c.if-grew.true));
    }
