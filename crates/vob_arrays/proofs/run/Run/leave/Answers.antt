-- The states that are left are the oldest.
use Rattle.std.proofs.Common.{◌≡◌, ◌-◌, arith, length}
use Rattle.vob_arrays.proofs.RunLemmas.{left_states}
use Rattle.vob_arrays.proofs.run.Run.leave.Goals as goal

pub returns : goal.returns
returns c =
    let xs = c.self.inside.states.items in
    let left : c.saturating_sub-left.result ≡ length xs - c.args.count =
    omega (arith, c.len.ensures, c.self.inside.states.ok.0, c.saturating_sub-left.ensures) in
    let same = left_states xs c.args.count in
    rw (← c.self.view_is, c.truncate.ensures.items, left) (cc same)
