use Rattle.std.proofs.Common.{map, take, ◌++◌, codes}
use Rattle.std.specs.List.{flat_map}
use Rattle.vob_lines.specs.Written.{AppendsBut}
use Rattle.vob_lines.proofs.text.add_others.Given as goal

-- a space and its text were added for each item so far
abbrev pub invariant-loop-other : goal.invariant-loop-other
invariant-loop-other g l =
    let texts = map g.T.Item.text (take l.other-index l.others) in
    AppendsBut (g.W.Write.contents l.fn.output) (g.W.Write.contents l.output)
    (l.fn.piece ++ flat_map (λ other. codes " " ++ other) texts) l.piece
