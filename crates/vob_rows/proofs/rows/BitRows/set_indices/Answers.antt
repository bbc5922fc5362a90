-- One bit more of the row was set.
use Rattle.std.proofs.Common.{◌<◌, ◌∙◌, [], ap, get_or, length, refl, sym, arith}
use Rattle.std.proofs.lemmas.List.{length-set, set-get_or}
use Rattle.vob_rows.proofs.VobsLemmas.{row_put, set_more, set_none}
use Rattle.vob_rows.proofs.rows.BitRows.set_indices.Goals as goal

pub loop-j-init : goal.loop-j-init
loop-j-init g c = record {
  rows = sym (set-get_or c.args.self.now.rows c.args.i []);
  set = set_none c.args.indices.now _;
  columns = refl;
}

pub set-requires-clause-row : goal.set-requires-clause-row
set-requires-clause-row g c = omega (
  arith,
  c.requires.row,
  ap length c.loop-j.invariant.rows,
  length-set c.args.self.now.rows c.args.i (get_or c.loop-j.self.rows c.args.i []),
)

pub loop-j-preserved : goal.loop-j-preserved
loop-j-preserved g c =
    let k = c.loop-j.j-index in
    let now = c.loop-j.self.rows in
    let there : c.args.i < length now = omega (
      arith,
      c.requires.row,
      ap length c.loop-j.invariant.rows,
      length-set c.args.self.now.rows c.args.i (get_or now c.args.i []),
    ) in
    let low : get_or c.args.indices.now k 0 < length (get_or now c.args.i []) =
    omega (
      arith,
      c.columns-columns.ensures.long c.args.i [] there,
      c.columns-columns.ensures.columns,
      c.loop-j.invariant.columns,
      c.requires.columns k 0 c.loop-j-test.true,
    ) in
    let put = row_put c.args.self.now.rows now c.set.new.self.rows c.args.i _ c.requires.row
    c.loop-j.invariant.rows c.set.ensures.rows in
    record {
      rows = put.1;
      set = rw put.0 (set_more c.args.indices.now k _ _ _ c.loop-j-test.true refl low c.loop-j.invariant.set);
      columns = c.set.ensures.columns ∙ c.loop-j.invariant.columns;
    }
