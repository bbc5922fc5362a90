-- The rows are blank at first, and each gets the bits of its words.
use Rattle.std.proofs.Common.{◌||◌, ◌∙◌, ℕ, List, [], false, get_or, set, replicate, ap, subst, sym, arith}
use Rattle.std.proofs.lemmas.List.{map-id}
use Rattle.vob_block.specs.Packing.{unpacking, IsCanonical}
use Rattle.vob_block.specs.Pointwise.{pointwise}
use Rattle.vob_block.proofs.PackingLemmas.{length-unpacking}
use Rattle.vob_rows.specs.Part.{blocks_of}
use Rattle.vob_c.specs.Rows.{rows_in}
use Rattle.vob_c.proofs.CopiesLemmas.{all_taken, none_taken, one_taken}
use Rattle.vob_c.proofs.RowsLemmas.{length-rows_in, row_here}
use Rattle.vob_c.proofs.copies.rows_of.Goals as goal

pub loop-i-init : goal.loop-i-init
loop-i-init c =
    let count = c.args.shape.rows in
    let columns = c.args.shape.columns in
    record {
      taken = none_taken (rows_in count columns c.args.words.now) columns c.in_ok-made.made.rows
          (c.in_ok-made.ensures.rows ∙ ap (λ n. replicate n (replicate columns false))
          (sym (length-rows_in count columns c.args.words.now)));
      columns = c.in_ok-made.ensures.columns;
      room = c.in_ok-room.ensures.room;
    }

pub take_row-requires-clause-row : goal.take_row-requires-clause-row
take_row-requires-clause-row c = omega (
  arith,
  c.loop-i-test.true,
  c.loop-i.invariant.taken.count,
  length-rows_in c.args.shape.rows c.args.shape.columns c.args.words.now,
)

pub take_row-requires-clause-words : goal.take_row-requires-clause-words
take_row-requires-clause-words c = subst (λ n. IsCanonical n c.words_at.result.now 64)
    (sym c.loop-i.invariant.columns) (subst (λ (ys : List ℕ). IsCanonical c.args.shape.columns ys 64)
    (sym (c.words_at.ensures ∙ ap (λ n. blocks_of n c.args.words.now c.loop-i.i) c.block_count-count.ensures))
    (c.requires.each c.loop-i.i c.loop-i-test.true))

pub take_row-requires-clause-room : goal.take_row-requires-clause-room
take_row-requires-clause-room c = omega (arith, c.loop-i.invariant.room, c.loop-i.invariant.columns)

pub loop-i-preserved : goal.loop-i-preserved
loop-i-preserved c =
    let count = c.args.shape.rows in
    let columns = c.args.shape.columns in
    let words = c.args.words.now in
    let i = c.loop-i.i in
    let rows = c.loop-i.made.rows in
    let row = c.words_at.result.now in
    let here = row_here count columns words c.requires _ c.block_count-count.ensures i c.loop-i-test.true in
    record {
      taken = one_taken (rows_in count columns words) columns rows c.take_row.new.made.rows i
          (unpacking columns row 64) c.loop-i.invariant.taken
          (omega (arith, c.loop-i-test.true, length-rows_in count columns words))
          (ap (λ (ys : List ℕ). unpacking columns ys 64) (c.words_at.ensures ∙ sym (map-id _)) ∙ here.bits)
          (length-unpacking columns row 64) (c.take_row.ensures.rows
          ∙ ap (λ n. set rows i (pointwise ◌||◌ (get_or rows i []) (unpacking n row 64)))
          c.loop-i.invariant.columns);
      columns = c.take_row.ensures.columns ∙ c.loop-i.invariant.columns;
      room = omega (arith, c.loop-i.invariant.room, c.take_row.ensures.room);
    }

pub returns-clause-rows : goal.returns-clause-rows
returns-clause-rows c = all_taken (rows_in c.args.shape.rows c.args.shape.columns c.args.words.now)
    c.args.shape.columns c.loop-i.made.rows c.loop-i.i c.loop-i.invariant.taken (omega (
      arith,
      c.loop-i-test.false,
      length-rows_in c.args.shape.rows c.args.shape.columns c.args.words.now,
    ))

pub returns-clause-columns : goal.returns-clause-columns
returns-clause-columns c = c.loop-i.invariant.columns

pub returns-then-shape-eq0-clause-rows : goal.returns-then-shape-eq0-clause-rows
returns-then-shape-eq0-clause-rows c =
    let count = c.args.shape.rows in
    let columns = c.args.shape.columns in
    let table = rows_in count columns c.args.words.now in
    let long = length-rows_in count columns c.args.words.now in
    all_taken table columns c.in_ok-made.made.rows 0 (none_taken table columns c.in_ok-made.made.rows
    (c.in_ok-made.ensures.rows ∙ ap (λ n. replicate n (replicate columns false)) (sym long)))
    (omega (arith, long, c.if-shape-eq0.true))
