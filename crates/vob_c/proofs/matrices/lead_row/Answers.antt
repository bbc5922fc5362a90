-- Row `through` is added where there is an edge, and a row gains nothing from itself.
use Rattle.std.proofs.Common.{◌≡◌, ◌+◌, ◌∙◌, subst, sym, arith}
use Rattle.vob_matrix.specs.MatrixPaths.{IsLedThrough}
use Rattle.vob_matrix.proofs.UnionLemmas.{IsLedThrough-more, IsLedThrough-skip}
use Rattle.vob_c.specs.Rows.{rows_in}
use Rattle.vob_c.proofs.ClosingLemmas.{led_itself}
use Rattle.vob_c.proofs.RowsLemmas.{entry_is, joined_canonical, joined_gain, joined_row}
use Rattle.vob_c.proofs.matrices.lead_row.Goals as goal
use Rattle.vob_c.proofs.matrices.lead_row.Goals.{then-row-through-via-then-row-through, then-row-through-via-else-row-through+then-not-stored_bit}

pub returns-then-row-through-clause-led : goal.returns-then-row-through-clause-led
returns-then-row-through-clause-led c = λ rows h. elim c.then-row-through.branch [
  | then-row-through-via-then-row-through w ↦
      let now = rows_in c.args.size c.args.size c.args.words.now in
      let here : c.args.row ≡ c.args.through = w.if-row-through.true in
      subst (λ n. IsLedThrough rows c.args.through 0 (n + 1) now) (sym here)
      (led_itself rows now c.args.through (subst (λ n. IsLedThrough rows c.args.through 0 n now) here h))
  | then-row-through-via-else-row-through+then-not-stored_bit w ↦
      IsLedThrough-skip rows c.args.through 0 c.args.row _ (omega arith) h
      (entry_is c.args.size c.args.size c.args.words.now c.requires.canonical _
      c.block_count-count.ensures c.args.row c.args.through c.requires.row _ w.words_at.ensures _
      w.stored_bit.ensures ∙ w.if-not-stored_bit.true)
]

pub returns-clause-canonical : goal.returns-clause-canonical
returns-clause-canonical c = joined_canonical c.args.size c.args.size c.args.words.now
    c.requires.canonical _ c.block_count-count.ensures c.args.row c.args.through c.requires.row
    c.requires.through _ _ c.add_row.ensures

pub returns-clause-led : goal.returns-clause-led
returns-clause-led c = λ rows h. IsLedThrough-more rows c.args.through 0 c.args.row _ (omega arith) h _
    (entry_is c.args.size c.args.size c.args.words.now c.requires.canonical _
    c.block_count-count.ensures c.args.row c.args.through c.requires.row _ c.words_at.ensures _
    c.stored_bit.ensures ∙ c.if-not-stored_bit.false)
    (joined_row c.args.size c.args.size c.args.words.now c.requires.canonical _
    c.block_count-count.ensures c.args.row c.args.through c.requires.row c.requires.through _ _
    c.add_row.ensures)

pub returns-clause-gained : goal.returns-clause-gained
returns-clause-gained c = joined_gain c.args.size c.args.size c.args.words.now c.requires.canonical _
    c.block_count-count.ensures c.args.row c.args.through c.requires.row c.requires.through _ _
    c.add_row.ensures
