-- One `!` more was put around it.
use Rattle.std.proofs.Common.{ap, ◌∙◌, sym}
use Rattle.files_condition.specs.Conditions.{contrary, tree_of}
use Rattle.files_condition.proofs.StateLemmas.{negate_more}
use Rattle.files_condition.proofs.waiting.negated.Goals as goal

pub loop-preserved : goal.loop-preserved
loop-preserved c =
    ap (λ e. contrary (tree_of e)) c.in_ok-new.ensures.ok ∙ ap contrary c.loop.invariant
    ∙ sym (negate_more c.loop.counter (tree_of c.args.expression))
