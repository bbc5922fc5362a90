-- The next node is written.
use Rattle.std.proofs.Common.{◌≡◌, ◌<◌, ◌≤◌, ◌-◌, ◌∙◌, Some, length, ap, arith, sym}
use Rattle.std.specs.List.{range_with_len}
use Rattle.std.specs.Prelude.{slice_get}
use Rattle.std.proofs.lemmas.Option.{slice_get-get_or}
use Rattle.files_text.proofs.PrintedLemmas.{items_all, items_more, items_none, range_more, range_none}
use Rattle.files_parse.proofs.JsonLemmas.{name_there}
use Rattle.files_parse.proofs.tree.WordTree.put_json_nodes.Goals as goal

pub loop-number-init : goal.loop-number-init
loop-number-init g c =
    let nodes = c.args.self.now.tree.now.nodes.items in
    let all : length nodes - 0 ≡ length nodes = omega arith in
    items_all _ _ _ _ (ap (range_with_len 0) all)

pub loop-number-preserved : goal.loop-number-preserved
loop-number-preserved g c =
    let nodes = c.args.self.now.tree.now.nodes in
    let less : c.loop-number.number < length nodes.items = omega (arith, nodes.ok.0) in
    let node = c.index.result.now in
    let at : slice_get nodes.items c.loop-number.number ≡ Some node =
    slice_get-get_or nodes.items c.loop-number.number node less ∙ ap Some (sym c.index.ensures) in
    items_more _ _ _ _ _ _ _ _ (range_more c.loop-number.number (length nodes.items) less) c.loop-number.invariant
    (rw at c.in_ok-put_json_node.ensures)

pub returns : goal.returns
returns g c =
    let nodes = c.args.self.now.tree.now.nodes in
    let past : length nodes.items ≤ c.loop-number.number = omega (arith, nodes.ok.0) in
    items_none _ _ _ _ _ (range_none c.loop-number.number (length nodes.items) past) c.loop-number.invariant

pub put_json_node-requires : goal.put_json_node-requires
put_json_node-requires g c =
    let nodes = c.args.self.now.tree.now.nodes in
    let less : c.loop-number.number < length nodes.items = omega (arith, nodes.ok.0) in
    c.deref.ensures
    ∙ name_there c.args.self.now.file.now c.args.self.now.tokens.now nodes.items c.loop-number.number
    c.index.result.now c.args.names.now c.index-names-number.result less c.index.ensures c.index-names-number.is
    c.requires
