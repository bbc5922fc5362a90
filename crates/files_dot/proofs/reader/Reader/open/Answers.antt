-- The subgraph begins behind all mentions.
use Rattle.std.proofs.Common.{◌∙◌, refl, sym}
use Rattle.files_dot.specs.States.{state_of}
use Rattle.files_dot.specs.declared.reader.Next.TheVariants.{At}
use Rattle.files_dot.specs.declared.stage.Stage.TheVariants.{Begin}
use Rattle.files_dot.proofs.HeldLemmas.{names_length}
use Rattle.files_dot.proofs.StateLemmas.{opened_held}
use Rattle.files_dot.proofs.reader.Reader.open.Goals as goal

pub returns-clause-ok : goal.returns-clause-ok
returns-clause-ok c =
    let reader = c.args.self.now in
    opened_held (state_of (At Begin) reader) reader.levels.items _ _ refl c.in_ok-push.ensures.items
    (c.len-start.ensures ∙ reader.mentions.ok.0 ∙ sym (names_length reader.mentions.items))
