-- The bytes are a keyword, a name, a numeral or nothing at all.
use Rattle.std.proofs.Common.{◌≡◌, ◌||◌, true, false, ap, arith, refl, take}
use Rattle.std.proofs.lemmas.Grind.{common_steps}
use Rattle.files_dot.specs.Ids.{is_name, is_numeral}
use Rattle.files_dot.specs.Tokens.{id}
use Rattle.files_dot.proofs.TokenLemmas.{not_bare, takes_bare, takes_keyword}
use Rattle.files_dot.proofs.scanner.Scanner.take_bare.Goals as goal

pub returns-in-Some-clause-ok : goal.returns-in-Some-clause-ok
returns-in-Some-clause-ok c =
    let n = c.bare_length-count.result in
    let text = c.args.self.now.rest.now in
    takes_keyword n c.requires.some c.pass.ensures.place c.pass.ensures.rest (take n text) c.requires.no_mark
    c.bare_length-count.ensures.count refl c.in-Some.mark c.in-Some.ensures.some

pub returns-then-not-is_bare_id-clause-err : goal.returns-then-not-is_bare_id-clause-err
returns-then-not-is_bare_id-clause-err c =
    let n = c.bare_length-count.result in
    let text = c.args.self.now.rest.now in
    let neither : (is_name (take n text) || is_numeral (take n text)) ≡ false =
    grind (arith, common_steps, c.is_bare_id.ensures, c.if-not-is_bare_id.true) in
    not_bare n (take n text) c.expected_for.result.now c.requires.some c.requires.no_blank c.requires.no_quote
    c.requires.no_html c.requires.no_mark c.bare_length-count.ensures.count refl c.in_default.ensures.none
    neither c.expected_for.ensures c.unexpected.ensures

pub returns-clause-ok : goal.returns-clause-ok
returns-clause-ok c =
    let n = c.bare_length-count.result in
    let text = c.args.self.now.rest.now in
    let either : (is_name (take n text) || is_numeral (take n text)) ≡ true =
    grind (arith, common_steps, c.is_bare_id.ensures, c.if-not-is_bare_id.false) in
    takes_bare n c.requires.some c.in_ok-text.ensures.place c.in_ok-text.ensures.rest (take n text)
    c.requires.no_mark c.bare_length-count.ensures.count refl _ c.in_default.ensures.none either
    (ap id c.in_ok-text.ensures.text)
