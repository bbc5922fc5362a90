-- The states that are left are the oldest.
use Rattle.std.proofs.Common.{◌≡◌, ◌≤◌, ap, arith, length}
use Rattle.std.proofs.lemmas.List.{length-reverse}
use Rattle.vob_lr.specs.Parses.{Config}
use Rattle.vob_lr.proofs.ParseLemmas.{left_states}
use Rattle.vob_lr.proofs.parse.Run.leave.Goals as goal

pub returns : goal.returns
returns c =
    let xs = c.self.inside.states.items in
    let states = ap (λ (r : Config). length r.states) c.self.view_is in
    let less : c.args.count ≤ length xs = omega (arith, c.requires, states, length-reverse xs) in
    let long : c.len.result ≡ length xs = omega (arith, c.len.ensures, c.self.inside.states.ok.0) in
    let left = left_states xs c.args.count less in
    rw (← c.self.view_is, c.truncate.ensures.items, long) (cc left)
