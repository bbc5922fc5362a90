-- The next member is written.
use Rattle.std.specs.Prelude.{map}
use Rattle.std.specs.Io.KnownBytes.{Appends}
use Rattle.std.specs.List.{range_with_len}
use Rattle.std.specs.String.{string_bytes}
use Rattle.std.proofs.Common.{◌≡◌, ◌-◌, ◌<◌, ◌≤◌, ◌∙◌, [], ap, arith, get_or, length, subst, sym}
use Rattle.std.proofs.lemmas.List.{get_or-map, length-map}
use Rattle.files_text.proofs.PrintedLemmas.{Appends-both, items_all, items_more, items_none, range_more, range_none}
use Rattle.csv.specs.Records.{fields_of}
use Rattle.files_filter.specs.Answers.{cell_at}
use Rattle.files_filter.specs.Layouts.{json_cell, picked}
use Rattle.files_filter.proofs.lines.put_object.Goals as goal

pub loop-number-init : goal.loop-number-init
loop-number-init g c =
    let all : length c.args.keys.now - 0 ≡ length c.args.keys.now = omega arith in (
      g.W.Write.contents c.write_all.new.self,
      c.in_ok-write_all.ensures.bytes,
      items_all _ _ _ _ (ap (range_with_len 0) all),
    )

pub loop-number-preserved : goal.loop-number-preserved
loop-number-preserved g c =
    let keys = c.args.keys.now in
    let number = c.loop-number.number in
    let contents = g.W.Write.contents in
    let cells = picked c.args.layout.now.places (fields_of c.args.row.now) in
    let less : number < length keys = omega (arith, c.loop-number-test.true) in
    let begun = c.loop-number.invariant.0 in
    let a = contents c.loop-number.output in
    let b = contents c.put_comma.new.output in
    let d = contents c.write_all-in-loop-number.new.self in
    let e = contents c.write_all-in-loop-number-2.new.self in
    let f = contents c.put_cell.new.output in
    let key : c.as_bytes.result.now ≡ get_or (map (λ key. string_bytes key) keys) number [] =
    c.as_bytes.ensures.value ∙ ap (λ key. string_bytes key) c.index-keys-number.is ∙ sym (get_or-map (λ key. string_bytes key) keys number _ [] less) in
    let named : Appends b d (get_or (map (λ key. string_bytes key) keys) number []) =
    subst (Appends b d) key c.in_ok-write_all-2.ensures.bytes in
    let valued : Appends e f (json_cell (cell_at cells number)) =
    subst (λ cell. Appends e f (json_cell cell)) c.picked_cell.ensures c.in_ok-put_cell.ensures.ok in (
      begun,
      c.loop-number.invariant.1,
      items_more _ _ a f _ _ _ number (range_more number (length keys) less) c.loop-number.invariant.2
          (Appends-both a e f _ _ (Appends-both a d e _ _ (Appends-both a b d _ _ c.in_ok-put_comma.ensures named)
          c.in_ok-write_all-3.ensures.bytes) valued),
    )

pub returns-clause-ok : goal.returns-clause-ok
returns-clause-ok g c =
    let keys = c.args.keys.now in
    let number = c.loop-number.number in
    let contents = g.W.Write.contents in
    let begun = c.loop-number.invariant.0 in
    let old = contents c.args.output.now in
    let now = contents c.loop-number.output in
    let new = contents c.write_all-2.new.self in
    let past : length keys ≤ number = omega (arith, c.loop-number-test.false) in
    rw (length-map keys (λ key. string_bytes key)) (Appends-both old now new _ _
    (Appends-both old begun now _ _ c.loop-number.invariant.1
    (items_none _ _ _ _ _ (range_none number (length keys) past) c.loop-number.invariant.2))
    c.in_ok-write_all-4.ensures.bytes)
