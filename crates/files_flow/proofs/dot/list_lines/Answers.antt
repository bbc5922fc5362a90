-- No other analysis is asked for.
use Rattle.std.proofs.Common.{◌≡◌, ◌≢◌, true, refl}
use Rattle.std.proofs.lemmas.Bool.{false≢true}
use Rattle.files_dot.specs.declared.notation.Notation.TheVariants.{Dot}
use Rattle.files_flow.specs.Analyses.{can_read}
use Rattle.files_flow.specs.declared.analysis.Analysis.{Analysis}
use Rattle.files_flow.specs.declared.analysis.Analysis.TheVariants.{Available, Busy, Dominators, Immediate, Live, Reaching}
use Rattle.files_flow.proofs.dot.list_lines.Goals as goal

pub returns-in_default-clause-ok : goal.returns-in_default-clause-ok
returns-in_default-clause-ok g c =
    absurd (none c.args.analysis c.in_default.not-Dominators c.in_default.not-Immediate c.requires.reads)
  where
    none : (analysis : Analysis) → analysis ≢ Dominators → analysis ≢ Immediate → can_read Dot analysis ≡ true → ⊥
    none Dominators other another is = other refl
    none Immediate other another is = another refl
    none Live other another is = false≢true is
    none Reaching other another is = false≢true is
    none Available other another is = false≢true is
    none Busy other another is = false≢true is
