-- The first run that is long enough begins with room, and there is no room elsewhere.
use Rattle.std.proofs.Common.{◌∙◌, ap, arith, false}
use Rattle.vob_block.specs.Packing.{unpacking}
use Rattle.vob_block.proofs.PackingLemmas.{length-unpacking}
use Rattle.vob_walk.specs.RunSteps.{seen}
use Rattle.vob_walk.specs.Runs.{RunWalk}
use Rattle.vob_walk.proofs.SeenLemmas.{seen-negated}
use Rattle.std.proofs.lemmas.List.{map-id}
use Rattle.vob.proofs.RoomLemmas.{HasNoRoom-end, IsBelowRoom-next, IsBelowRoom-start, IsFirstRoom-run}
use Rattle.vob_c.proofs.search.room_or_end.Goals as goal

pub returns-then-run-count : goal.returns-then-run-count
returns-then-run-count c =
    let own = unpacking c.args.bits c.args.words.now 64 in
    let first = IsFirstRoom-run c.args.count c.requires.some own c.loop-run.run-iterator
    c.loop-run.invariant.bits c.loop-run.invariant.passed c.in-Some.ensures.steps
    c.if-run-count.true in
    let long = length-unpacking c.args.bits c.args.words.now 64 in record {
      found = λ _. first;
      none = λ e. absurd (omega (arith, e, first.there.inside, long, c.requires.some));
      most = omega (arith, first.there.inside, long);
    }

pub loop-run-preserved : goal.loop-run-preserved
loop-run-preserved c = record {
  can_next = tt;
  is_finite = tt;
  bits = c.in-Some.ensures.steps.bits ∙ c.loop-run.invariant.bits;
  passed = IsBelowRoom-next c.args.count c.requires.some (unpacking c.args.bits c.args.words.now 64)
      c.loop-run.run-iterator c.loop-run.invariant.bits c.loop-run.invariant.passed
      c.in-Some.ensures.steps (omega (arith, c.if-run-count.false));
}

pub loop-run-init : goal.loop-run-init
loop-run-init c = record {
  can_next = tt;
  is_finite = tt;
  bits = ap (λ (r : RunWalk). r.bits) c.into_iter-run-iterator.ensures.into_iter_gives
      ∙ c.over-run-items.ensures.bits ∙ ap (λ ys. seen false 0 (unpacking c.args.bits ys 64))
      (map-id c.new.result.items ∙ c.new.ensures.items)
      ∙ seen-negated (unpacking c.args.bits c.args.words.now 64);
  passed = IsBelowRoom-start c.args.count (unpacking c.args.bits c.args.words.now 64) _
      (ap (λ (r : RunWalk). r.at) c.into_iter-run-iterator.ensures.into_iter_gives ∙ c.over-run-items.ensures.start);
}

pub returns : goal.returns
returns c = record {
  found = λ less. absurd (omega (arith, less));
  none = λ _. HasNoRoom-end c.args.count c.requires.some (unpacking c.args.bits c.args.words.now 64)
      c.loop-run.run-iterator c.loop-run.invariant.bits c.loop-run.invariant.passed
      c.in-None.ensures.steps;
  most = omega arith;
}
