-- The names are those behind the others.
use Rattle.std.proofs.Common.{◌≡◌, ◌∙◌, ap, subst}
use Rattle.std.specs.Prelude.{IfOk}
use Rattle.files_text.specs.Names.{names_in}
use Rattle.files_dot.specs.Held.{names_of}
use Rattle.files_dot.proofs.HeldLemmas.{names_tail}
use Rattle.files_dot.proofs.nodes.nodes_since.Goals as goal

pub returns : goal.returns
returns c =
    subst (λ names. IfOk c.listed.result (λ all. names_of all.items ≡ names))
    (c.in_ok-names.ensures ∙ ap names_in (names_tail c.args.start c.args.mentions.now)) c.listed.ensures
