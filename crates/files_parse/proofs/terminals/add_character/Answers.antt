-- The text of the character is the word.
use Rattle.std.proofs.Common.{Bool, Some, cond, ap, sym, ◌∙◌}
use Rattle.files_parse.specs.Terminals.{number_at}
use Rattle.files_parse.proofs.TerminalLemmas.{key_quoted, none_quoted}
use Rattle.files_parse.proofs.terminals.add_character.Goals as goal

pub returns-in_default : goal.returns-in_default
returns-in_default c word =
    let none = rw c.in_default.is at c.character_of.ensures.none in
    ap (λ (b : Bool). cond b (Some c.args.number) (number_at c.args.numbers.now word))
    (sym (none_quoted c.args.name.now word.now none))

pub returns : goal.returns
returns c word =
    let is = c.in-Some.ensures.some in
    c.in_ok-insert.ensures.updates.0 word
    ∙ ap (λ (b : Bool). cond b (Some c.args.number) (number_at c.args.numbers.now word))
    (key_quoted is.0 c.in-Some.text.now c.args.name.now word.now is.1 is.2)
