-- The entries of one state more.
use Rattle.std.proofs.Common.{◌≡◌, arith, length}
use Rattle.vob_arrays.proofs.BuiltLemmas.{built_more, built_none}
use Rattle.vob_arrays.proofs.build.rows_of.Goals as goal

pub loop-state-init : goal.loop-state-init
loop-state-init c = rw (c.in_ok-push.ensures.items, c.new-offsets.ensures.items, c.new-entries.ensures.items) built_none

pub loop-state-preserved : goal.loop-state-preserved
loop-state-preserved c =
    let after = c.push_row.new.entries.items in
    let long : c.len.result ≡ length after = omega (arith, c.len.ensures, c.push_row.new.entries.ok.0) in
    rw (c.in_ok-push-2.ensures.items, long)
    (built_more c.loop-state.state c.loop-state.offsets.items c.loop-state.entries.items after
    c.loop-state.invariant c.in_ok-push_row.ensures)
