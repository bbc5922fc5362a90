-- The last subgraph ends, and edges lead to its nodes.
use Rattle.std.proofs.Common.{◌++◌, ◌∙◌, ap, drop}
use Rattle.files_text.specs.Names.{names_in}
use Rattle.files_dot.specs.Held.{edges_of, names_of}
use Rattle.files_dot.specs.Reading.{edges_to}
use Rattle.files_dot.specs.States.{level_of, state_of}
use Rattle.files_dot.specs.declared.reader.Next.TheVariants.{At}
use Rattle.files_dot.specs.declared.stage.Stage.TheVariants.{Begin}
use Rattle.files_dot.proofs.StateLemmas.{closed_held}
use Rattle.files_dot.proofs.reader.Reader.close.Goals as goal

pub returns-clause-ok : goal.returns-clause-ok
returns-clause-ok c =
    let reader = c.args.self.now in
    let level = c.in-Some.level in
    closed_held (state_of (At Begin) reader) reader.levels.items _ level _ c.in-Some.ensures.items
    (c.in_ok-lead_to.ensures ∙ ap (λ m. edges_of reader.edges.items ++ edges_to (level_of level).tails
    (names_in (drop level.start (names_of m)))) c.deref.ensures.value)
