-- A line reads as the call that its keyword's arguments make, and as no other.
use Rattle.std.proofs.Common.{◌≡◌, None, Some, sym, ◌∙◌, arith}
use Rattle.std.proofs.lemmas.Result.{IfOk-weaker}
use Rattle.vob_run.specs.Commands.{usize_call_of}
use Rattle.vob_lines.proofs.ReadLemmas.{reads_once, reads_line, not_read, not_named, begins_as_list}
use Rattle.vob_lines.proofs.command.read_command.Goals as goal

-- a word that is no keyword
pub returns-in_err-keyword-clause-only : goal.returns-in_err-keyword-clause-only
returns-in_err-keyword-clause-only c =
    let none : c.named.result ≡ None = grind arith in
    λ _. not_named _ _ _ c.in_ok-word.ensures.ok (sym c.named.ensures ∙ none)

pub returns-clause-found : goal.returns-clause-found
returns-clause-found c =
    let found : c.named.result ≡ Some c.in_ok-keyword.keyword = grind arith in
    let named = sym c.named.ensures ∙ found in
    let cut = c.in_ok-word.ensures.ok in
    IfOk-weaker c.command.result _ _
    (λ command line. reads_line _ _ _ _ cut (usize_call_of command) named line)
    c.command.ensures.ok

pub returns-clause-one : goal.returns-clause-one
returns-clause-one c =
    IfOk-weaker c.command.result _ _ (λ command reads other read. reads_once _ _ _ read reads)
    (returns-clause-found c)

-- words that are no arguments of the keyword
pub returns-clause-only : goal.returns-clause-only
returns-clause-only c =
    let found : c.named.result ≡ Some c.in_ok-keyword.keyword = grind arith in
    let named = sym c.named.ensures ∙ found in
    λ unreadable. not_read _ _ _ _ c.in_ok-word.ensures.ok named (c.command.ensures.err unreadable)

-- its keyword takes memory
pub returns-clause-memory : goal.returns-clause-memory
returns-clause-memory c =
    let found : c.named.result ≡ Some c.in_ok-keyword.keyword = grind arith in
    let named = sym c.named.ensures ∙ found in
    λ refused. begins_as_list _ _ _ _ c.in_ok-word.ensures.ok named (c.command.ensures.memory refused)
