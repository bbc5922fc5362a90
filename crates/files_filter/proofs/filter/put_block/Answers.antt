-- The rows with the numbers of a window are written.
use Rattle.std.proofs.Common.{◌≡◌, ◌∙◌, length, rules}
use Rattle.files_filter.proofs.FilterTextLemmas.{rows_count, window_count, window_inside, window_text}
use Rattle.files_filter.specs.Written.{cells_of}
use Rattle.files_filter.proofs.filter.put_block.Goals as goal

pub lines_of-requires : goal.lines_of-requires
lines_of-requires g c =
    rw (c.deref.ensures.value, c.in_ok-numbers.ensures) (window_inside c.args.window.skip c.unwrap_or-most.result
    c.in_ok-kept.kept.bits _ c.in_ok-kept.ensures.len)

pub returns-clause-kept : goal.returns-clause-kept
returns-clause-kept g c =
    rows_count c.args.layout.now (cells_of c.args.rows.now) _ c.in_ok-kept.kept.bits c.in_ok-kept.ensures.rows c.count_ones.result
    c.count_ones.ensures.count

pub returns-clause-written : goal.returns-clause-written
returns-clause-written g c =
    let len : c.len-2.result ≡ length c.in_ok-numbers.numbers.items = search rules in
    len ∙ rw (c.in_ok-numbers.ensures, c.unwrap_or-most.ensures) (window_count c.args.layout.now (cells_of c.args.rows.now) _
    c.in_ok-kept.kept.bits c.in_ok-kept.ensures.rows c.args.window.skip c.args.window.most c.len.result c.len.ensures.len)

pub returns-clause-wrote : goal.returns-clause-wrote
returns-clause-wrote g c =
    let text = window_text c.args.layout.now (cells_of c.args.rows.now) _ c.in_ok-kept.kept.bits c.in_ok-kept.ensures.rows
    c.args.window.skip c.args.window.most c.len.result c.len.ensures.len in
    rw (
      c.deref-2.ensures.value,
      c.in_ok-lines_of.ensures.ok,
      c.deref.ensures.value,
      c.in_ok-numbers.ensures,
      c.unwrap_or-most.ensures,
      text,
    ) at c.in_ok-write_all.ensures.bytes
