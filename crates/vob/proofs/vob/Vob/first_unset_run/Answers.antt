-- The first run that is long enough begins with room, and there is no room elsewhere.
use Rattle.std.proofs.Common.{◌<◌, ◌∙◌, arith}
use Rattle.vob.proofs.RoomLemmas.{HasNoRoom-end, IsBelowRoom-next, IsFirstRoom-run}
use Rattle.vob.proofs.vob.Vob.first_unset_run.Goals as goal

pub returns-then-run-n : goal.returns-then-run-n
returns-then-run-n g c =
    let some : 0 < c.args.n = omega (arith, c.if-n-eq0.false) in
    record {
      room = IsFirstRoom-run c.args.n some c.args.self.now.bits c.loop-run.run-iterator
          c.loop-run.invariant.bits c.loop-run.invariant.passed c.in-Some.ensures.steps
          c.if-run-n.true;
    }

pub loop-run-preserved : goal.loop-run-preserved
loop-run-preserved g c =
    let some : 0 < c.args.n = omega (arith, c.if-n-eq0.false) in
    record {
      can_next = tt;
      is_finite = tt;
      bits = c.in-Some.ensures.steps.bits ∙ c.loop-run.invariant.bits;
      passed = IsBelowRoom-next c.args.n some c.args.self.now.bits c.loop-run.run-iterator
          c.loop-run.invariant.bits c.loop-run.invariant.passed c.in-Some.ensures.steps
          (omega (arith, c.if-run-n.false));
    }

pub returns : goal.returns
returns g c =
    let some : 0 < c.args.n = omega (arith, c.if-n-eq0.false) in
    record {
      room = HasNoRoom-end c.args.n some c.args.self.now.bits c.loop-run.run-iterator
          c.loop-run.invariant.bits c.loop-run.invariant.passed c.in-None.ensures.steps;
    }
