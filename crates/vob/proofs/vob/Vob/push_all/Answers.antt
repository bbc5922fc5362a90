-- A turn adds the item that is pushed and those that are gathered behind it.
use Rattle.std.proofs.Common.{◌++◌, ◌∷◌, [], ◌∙◌, ap, arith}
use Rattle.vob_store.proofs.GatherLemmas.{goes_further}
use Rattle.vob.proofs.ExtendingLemmas.{Yields-append, pushed_and_filled}
use Rattle.vob.proofs.vob.Vob.push_all.Goals as goal

pub returns-then-fill_last-clause-ok : goal.returns-then-fill_last-clause-ok
returns-then-fill_last-clause-ok g c =
    let steps = g.I.Iterator.next_gives in
    let h = c.turns.invariant.added in
    let bit = c.in-Some.bit in
    let more = c.if-fill_last.ensures.added in
    let gave = more.1 in (
      h.0 ++ bit ∷ more.0,
      (
        c.fill_last.new.items,
        (
          gave.0,
          Yields-append steps c.args.items h.0 c.turns.items (bit ∷ more.0) gave.0 h.1
              (c.next.new.self, c.in-Some.ensures.steps, gave.1),
          gave.2,
        ),
      ),
      more.2
          ∙ ap (λ bs. bs ++ more.0) (c.in_ok-push.ensures.ok ∙ ap (λ bs. bs ++ bit ∷ []) h.2)
          ∙ pushed_and_filled c.args.self.now.bits h.0 more.0 bit,
    )

pub turns-preserved : goal.turns-preserved
turns-preserved g c =
    let steps = g.I.Iterator.next_gives in
    let now = c.turns.invariant in
    let h = now.added in
    let bit = c.in-Some.bit in
    let more = c.if-fill_last.ensures.added in
    let next = goes_further g.I.Iterator.can_next g.I.Iterator.remaining c.args.items
    c.turns.items c.next.new.self bit now.goes_on c.in-Some.ensures.goes in
    let after = c.if-fill_last.ensures.goes_on in
    record {
      added = (
        h.0 ++ bit ∷ more.0,
        Yields-append steps c.args.items h.0 c.turns.items (bit ∷ more.0)
            c.fill_last.new.items h.1 (c.next.new.self, c.in-Some.ensures.steps, more.1),
        more.2
            ∙ ap (λ bs. bs ++ more.0) (c.in_ok-push.ensures.ok ∙ ap (λ bs. bs ++ bit ∷ []) h.2)
            ∙ pushed_and_filled c.args.self.now.bits h.0 more.0 bit,
      );
      goes_on = record {
        can_next = after.can_next;
        finite = after.finite;
        fewer = omega (arith, after.fewer, next.fewer);
      };
      capacity = omega (
        arith,
        now.capacity,
        c.in_ok-push.ensures.capacity,
        c.if-fill_last.ensures.capacity,
      );
    }
