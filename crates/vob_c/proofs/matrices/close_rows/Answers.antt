-- Each turn leads paths through one node more.
use Rattle.std.proofs.Common.{◌≡◌, sym, subst, arith}
use Rattle.vob_matrix.specs.MatrixPaths.{AreClosedWithin}
use Rattle.vob_matrix.proofs.PathLemmas.{AreClosed-within, AreClosedWithin-start, AreClosedWithin-more}
use Rattle.vob_c.specs.Rows.{rows_in}
use Rattle.vob_c.proofs.GainLemmas.{HaveGained-same, HaveGained-trans}
use Rattle.vob_c.proofs.RowsLemmas.{length-rows_in, rows_of_length}
use Rattle.vob_c.proofs.matrices.close_rows.Goals as goal

pub loop-through-init : goal.loop-through-init
loop-through-init c = record {
  canonical = c.requires;
  closed = AreClosedWithin-start _ _ _;
  gained = HaveGained-same _;
}

pub loop-through-preserved : goal.loop-through-preserved
loop-through-preserved c = record {
  canonical = c.lead_through-changed.ensures.canonical;
  closed = AreClosedWithin-more _ _ _ _ _ c.loop-through.through (omega arith) (omega arith)
      c.loop-through.invariant.closed c.lead_through-changed.ensures.led;
  gained = HaveGained-trans _ _ _ _ _ c.loop-through.invariant.gained
      c.lead_through-changed.ensures.gained;
}

pub returns-clause-closed : goal.returns-clause-closed
returns-clause-closed c =
    let size = c.args.size in
    let rows = rows_in size size c.args.words.now in
    let all : c.loop-through.through ≡ size = omega (arith, c.loop-through.auto.through-end) in
    AreClosed-within rows _ size size (sym (length-rows_in size size c.args.words.now))
    (rows_of_length size size c.args.words.now) (subst (λ n. AreClosedWithin rows 0 size n
    (rows_in size size c.loop-through.words)) all c.loop-through.invariant.closed)
