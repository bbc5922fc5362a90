-- One expression more stands in the lists of what it reads.
use Rattle.std.proofs.Common.{◌∙◌, arith, drop, length}
use Rattle.std.proofs.lemmas.List.{take_at}
use Rattle.files_flow.proofs.ExpressionLemmas.{transposed_all, transposed_more}
use Rattle.files_flow.proofs.expressions.readers_of.Goals as goal

pub loop-number-preserved : goal.loop-number-preserved
loop-number-preserved c =
    let after = c.add_to_each.new.lists in
    rw (take_at after (drop (length after) c.loop-number.lists.items) c.loop-number.lists.len
    (c.add_to_each.auto.lists ∙ c.deref_mut.ensures.len))
    (transposed_more c.args.variables c.args.expressions.now c.loop-number.number _ _ c.loop-number.invariant
    (rw (c.deref_mut.ensures.value, c.list.ensures) at c.in_ok-add_to_each.ensures))

pub returns : goal.returns
returns c =
    transposed_all c.args.variables c.args.expressions.now _ c.loop-number.number
    (omega (arith, c.loop-number-test.false, c.len-number-end.ensures)) c.loop-number.invariant
