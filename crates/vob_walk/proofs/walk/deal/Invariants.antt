-- The pulls so far are answered, and there is room for the other answers.
use Rattle.std.proofs.Common.{◌≡◌, ◌≤◌, ◌+◌, ◌++◌, take, length, vec_len, vec_capacity}
use Rattle.vob_walk.specs.Walk.{answers}
use Rattle.vob_walk.proofs.PullLemmas.{IsPulledBy}
use Rattle.vob_walk.proofs.walk.deal.Given as goal

abbrev pub invariant-loop-side : goal.invariant-loop-side
invariant-loop-side g l = record {
  answered : l.out.items ≡ l.fn.out.items ++ answers (g.W.IndexWalk.walk l.fn.walk).rest
      (take l.side-index l.pulls);
  pulled : IsPulledBy (g.W.IndexWalk.walk l.fn.walk) (take l.side-index l.pulls)
      (g.W.IndexWalk.walk l.walk);
  room : vec_len l.out + length l.pulls ≤ vec_capacity l.out + l.side-index;
}
