-- Each pull goes on from those so far.
use Rattle.std.proofs.Common.{◌∷◌, ◌++◌, [], arith, sym, ap, ◌∙◌}
use Rattle.std.proofs.lemmas.List.{append-nil, append_assoc}
use Rattle.vob_walk.specs.declared.walk.End.TheVariants.{Front}
use Rattle.vob_walk.proofs.PullLemmas.{answers-none, IsPulledBy-none, IsPulledBy-more, answers-more}
use Rattle.vob_walk.proofs.walk.deal.Goals as goal

pub loop-side-init : goal.loop-side-init
loop-side-init g c = record {
  answered = c.in_ok-reserve.ensures.items ∙ sym
      (ap (λ xs. c.args.out.now.items ++ xs) (answers-none _) ∙ append-nil _);
  pulled = IsPulledBy-none (g.W.IndexWalk.walk c.args.walk.now);
  room = omega (arith, c.in_ok-reserve.ensures.ok);
}

pub push_reserved-requires : goal.push_reserved-requires
push_reserved-requires g c = omega (arith, c.loop-side.invariant.room, c.loop-side-test.true)

pub loop-side-preserved : goal.loop-side-preserved
loop-side-preserved g c =
    let walk = g.W.IndexWalk.walk in
    let h = c.loop-side.invariant in
    let pulls = c.args.pulls.now in
    let k = c.loop-side.side-index in
    let e = c.pull-index.ensures in
    record {
      answered = c.push_reserved.ensures.items
          ∙ ap (λ xs. xs ++ c.pull-index.result ∷ []) h.answered
          ∙ append_assoc c.args.out.now.items _ (c.pull-index.result ∷ [])
          ∙ ap (λ xs. c.args.out.now.items ++ xs)
          (sym (answers-more (walk c.args.walk.now) (walk c.loop-side.walk)
          (walk c.pull-index.new.self) pulls k Front c.loop-side-test.true h.pulled
          c.pull-index.result e.given));
      pulled = IsPulledBy-more (walk c.args.walk.now) (walk c.loop-side.walk)
          (walk c.pull-index.new.self) pulls k Front c.loop-side-test.true h.pulled
          c.pull-index.result e.given e.kept e.reads;
      room = omega (arith, c.push_reserved.ensures.len, c.push_reserved.ensures.capacity);
    }
