-- The next name takes the place of others at its word.
use Rattle.std.specs.Prelude.{nat_eq}
use Rattle.std.specs.Cmp.Lexicographic.{pointwise}
use Rattle.std.proofs.Common.{ℕ, List, Some, cond, ap, refl, ◌∙◌}
use Rattle.files_parse.specs.Terminals.{is_word, number_at}
use Rattle.files_parse.proofs.TerminalLemmas.{all_names, next_name}
use Rattle.files_parse.proofs.terminals.add_names.Goals as goal

pub loop-number-init : goal.loop-number-init
loop-number-init c word = refl

pub loop-number-preserved : goal.loop-number-preserved
loop-number-preserved c word =
    next_name (is_word word.now) c.args.names.now c.loop-number.number c.index-names-number.result
    (number_at c.loop-number.numbers word) (number_at c.insert.new.self word) _ c.loop-number-test.true
    c.index-names-number.is
    (c.in_ok-insert.ensures.updates.0 word
    ∙ ap (λ (text : List ℕ). cond (pointwise nat_eq text word.now) (Some c.loop-number.number)
    (number_at c.loop-number.numbers word)) c.as_slice.ensures.value)
    (c.loop-number.invariant word)

pub returns : goal.returns
returns c word =
    all_names (is_word word.now) c.args.names.now c.loop-number.number _ _ c.loop-number-test.false
    (c.loop-number.invariant word)
