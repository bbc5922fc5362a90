-- The words are blank at first, and row after row goes into them.
use Rattle.std.proofs.Common.{◌≡◌, ◌<◌, ◌∙◌, length, replicate, ap, sym, arith}
use Rattle.std.proofs.lemmas.List.{map-id}
use Rattle.vob_block.specs.Packing.{need}
use Rattle.vob_block.proofs.PackingLemmas.{packing_is}
use Rattle.vob_c.proofs.LinkingLemmas.{blank_words}
use Rattle.vob_c.proofs.CopiesLemmas.{all_written, row_canonical, row_written}
use Rattle.vob_c.proofs.RowsLemmas.{length-rows_in}
use Rattle.vob_c.proofs.copies.write_rows.Goals as goal
use Rattle.vob_c.proofs.copies.write_rows.Goals.{After-block_count-count}

counted : (c : After-block_count-count) → c.block_count-count.result ≡ need c.args.rows.now.columns 64
counted c = c.block_count-count.ensures ∙ ap (λ n. need n 64) c.columns.ensures.columns

pub loop-i-init : goal.loop-i-init
loop-i-init c = record {
  canonical = blank_words _ _ c.clear.new.words (c.clear.ensures ∙ ap (λ n. replicate n 0) c.requires);
  written = record {
    count = length-rows_in _ _ c.clear.new.words;
    low = λ n less. absurd (omega (arith, less));
  };
}

pub put_words-requires-clause-long : goal.put_words-requires-clause-long
put_words-requires-clause-long c =
    ap length (sym (map-id c.get_storage.result.now))
    ∙ (packing_is 64 (omega arith) _ _ _ c.get_storage.ensures c.row.ensures.long).canonical.count
    ∙ sym (counted (goal.at.put_words-requires-clause-long c).After-block_count-count)

pub loop-i-preserved : goal.loop-i-preserved
loop-i-preserved c =
    let table = c.args.rows.now.rows in
    let rows = length table in
    let columns = c.args.rows.now.columns in
    let below : c.loop-i.i < rows = omega (arith, c.loop-i-test.true, c.rows-i-end.ensures) in
    let many = counted (goal.at.loop-i-preserved c).After-block_count-count in
    record {
      canonical = row_canonical rows columns c.loop-i.words c.loop-i.invariant.canonical _ many table
          c.loop-i.i below c.loop-i.invariant.written c.get_storage.result.now c.put_words.new.words
          c.row.result c.row.ensures.long (sym c.row.ensures.bits) c.get_storage.ensures c.put_words.ensures;
      written = row_written rows columns c.loop-i.words c.loop-i.invariant.canonical _ many table
          c.loop-i.i below c.loop-i.invariant.written c.get_storage.result.now c.put_words.new.words
          c.row.result c.row.ensures.long (sym c.row.ensures.bits) c.get_storage.ensures c.put_words.ensures;
    }

pub returns-clause-rows : goal.returns-clause-rows
returns-clause-rows c = all_written c.args.rows.now.rows _ c.loop-i.i c.loop-i.invariant.written
    (omega (arith, c.loop-i-test.false, c.rows-i-end.ensures))
