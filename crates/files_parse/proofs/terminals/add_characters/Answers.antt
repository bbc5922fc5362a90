-- The next name takes the place of others at its character.
use Rattle.std.proofs.Common.{ℕ, List, Some, cond, ap, refl, ◌∙◌}
use Rattle.files_parse.specs.Terminals.{is_quoted, number_at}
use Rattle.files_parse.proofs.TerminalLemmas.{all_names, next_name}
use Rattle.files_parse.proofs.terminals.add_characters.Goals as goal

pub loop-number-init : goal.loop-number-init
loop-number-init c word = refl

pub loop-number-preserved : goal.loop-number-preserved
loop-number-preserved c word =
    next_name (is_quoted word.now) c.args.names.now c.loop-number.number c.index-names-number.result
    (number_at c.loop-number.numbers word) (number_at c.add_character.new.numbers word) _
    c.loop-number-test.true c.index-names-number.is
    (c.in_ok-add_character.ensures word
    ∙ ap (λ (name : List ℕ). cond (is_quoted word.now name) (Some c.loop-number.number)
    (number_at c.loop-number.numbers word)) c.deref.ensures.value)
    (c.loop-number.invariant word)

pub returns : goal.returns
returns c word =
    all_names (is_quoted word.now) c.args.names.now c.loop-number.number _ _ c.loop-number-test.false
    (c.loop-number.invariant word)
