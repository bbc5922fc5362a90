-- The oldest states are left.
use Rattle.std.proofs.Common.{reverse, ap, ◌∙◌, arith}
use Rattle.files_parse.proofs.ParserLemmas.{left_newest}
use Rattle.files_parse.proofs.parser.leave.Goals as goal

pub returns : goal.returns
returns c =
    ap reverse c.truncate.ensures.items
    ∙ left_newest c.args.states.now.items c.args.count c.saturating_sub-left.result
    (omega (arith, c.saturating_sub-left.ensures, c.len.ensures, c.args.states.now.ok.0))
