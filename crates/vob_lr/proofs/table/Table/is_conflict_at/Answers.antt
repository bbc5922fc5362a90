-- The cell is the one that is there.
use Rattle.std.proofs.Common.{◌∙◌, subst, sym}
use Rattle.std.proofs.lemmas.Option.{same_Some}
use Rattle.vob_lr.specs.Conflicts.{IsConflict}
use Rattle.vob_lr.specs.declared.table.Cell.{Cell}
use Rattle.vob_lr.proofs.table.Table.is_conflict_at.Goals as goal

pub returns-in-Some : goal.returns-in-Some
returns-in-Some c =
    let cell = c.in-Some.cell.now in
    let is = c.in-Some.ensures.some in (
      (λ on. (cell, is, c.is_conflict.ensures.0 on)),
      (λ (own, there, more).
          c.is_conflict.ensures.1
          (subst (λ (x : Cell). IsConflict x) (same_Some own cell (sym there ∙ is)) more)),
    )
