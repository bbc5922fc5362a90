-- What is passed is white space, the end of a line or a comment.
use Rattle.std.specs.Prelude.{slice_get}
use Rattle.std.specs.List.{prefix_len}
use Rattle.std.proofs.Common.{◌∙◌, ap, sym}
use Rattle.files_text.specs.Words.{Rest}
use Rattle.files_text.proofs.WordsLemmas.{in_line, white_left, line_feed_left, comment_left}
use Rattle.files_text.proofs.words.Words.pass_blank.Goals as goal

pub returns-in-Some-eq10-clause-passed : goal.returns-in-Some-eq10-clause-passed
returns-in-Some-eq10-clause-passed c words left =
    let byte = c.in-Some-eq10 in
    let there = byte.ensures.value ∙ ap (λ (r : Rest). slice_get r.text 0) c.self.view_is in
    line_feed_left c.args.self.now.text byte.field-0.now there byte.field-0-test
    (rw c.pass_line_feed.ensures at left)

pub returns-in-Some-eq35-clause-passed : goal.returns-in-Some-eq35-clause-passed
returns-in-Some-eq35-clause-passed c words left =
    let byte = c.in-Some-eq35 in
    let there = byte.ensures.value ∙ ap (λ (r : Rest). slice_get r.text 0) c.self.view_is in
    let count = c.line_length.ensures.count ∙ ap (λ (r : Rest). prefix_len in_line r.text) c.pass.view_is in
    comment_left c.args.self.now.text byte.field-0.now c.line_length.result there byte.field-0-test count
    (rw c.pass-in-Some-eq35.ensures at left)

pub returns-in-Some-clause-passed : goal.returns-in-Some-clause-passed
returns-in-Some-clause-passed c words left =
    let there = c.in-Some.ensures.value ∙ ap (λ (r : Rest). slice_get r.text 0) c.self.view_is in
    white_left c.args.self.now.text c.in-Some.byte.now there (sym c.if-is_ascii_whitespace.ensures.value)
    c.in-Some.byte-test.0.1 (rw c.pass-in-Some.ensures at left)
