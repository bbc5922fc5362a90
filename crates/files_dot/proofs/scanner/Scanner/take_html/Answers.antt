-- The bracket is closed, or it is not.
use Rattle.std.proofs.Common.{◌+◌, ◌<◌, ap, arith, length, subst, take}
use Rattle.files_dot.specs.Pieces.{IsFirst, IsHtmlEnd}
use Rattle.files_dot.specs.Tokens.{id}
use Rattle.files_dot.specs.Tokens.IsWord.{html}
use Rattle.files_dot.proofs.TokenLemmas.{no_end_in, not_html, tail_is, takes_word}
use Rattle.files_dot.proofs.scanner.Scanner.take_html.Goals as goal

pub returns-in_ok-text-in-Some-clause-ok : goal.returns-in_ok-text-in-Some-clause-ok
returns-in_ok-text-in-Some-clause-ok c =
    let text = c.args.self.now.rest.now in
    let n = c.in-Some.inside in
    let ends = subst (λ tail. IsFirst (IsHtmlEnd tail) n) (tail_is 1 text) c.in-Some.ensures.some in
    let long : 0 < length text =
    c.byte_at-first.ensures.within (omega (arith, c.byte_at-first.ensures.value, c.requires)) in
    takes_word (n + 1) (id (take (n + 1) text)) _ (html n c.requires ends)
    (ap id c.in_ok-text-in-Some.ensures.text) (omega arith) long
    c.in_ok-text-in-Some.ensures.place c.in_ok-text-in-Some.ensures.rest

pub returns-in-None-clause-err : goal.returns-in-None-clause-err
returns-in-None-clause-err c =
    let text = c.args.self.now.rest.now in
    not_html c.byte_at-first.result c.expected_for.result.now c.requires
    (no_end_in text _ (tail_is 1 text) c.in-None.ensures.none) c.byte_at-first.ensures.value c.expected_for.ensures
    c.unexpected.ensures
