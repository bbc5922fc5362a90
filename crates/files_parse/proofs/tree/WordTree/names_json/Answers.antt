-- The name of the next node is the last.
use Rattle.std.proofs.Common.{◌<◌, ap, arith, length, ◌∙◌}
use Rattle.files_forms.specs.Forms.{json_name}
use Rattle.files_parse.proofs.JsonLemmas.{names_all, names_more}
use Rattle.files_parse.proofs.tree.WordTree.names_json.Goals as goal

pub loop-number-preserved : goal.loop-number-preserved
loop-number-preserved c =
    let nodes = c.args.self.now.tree.now.nodes in
    let less : c.loop-number.number < length nodes.items = omega (arith, nodes.ok.0) in
    names_more c.args.self.now.file.now c.args.self.now.tokens.now nodes.items c.loop-number.number c.index.result.now
    c.loop-number.names.items c.push.new.self.items c.in_ok-name_json.field-0 less c.index.ensures
    c.in_ok-push.ensures.items (c.in_ok-name_json.ensures ∙ ap json_name c.name.ensures) c.loop-number.invariant

pub returns : goal.returns
returns c =
    let nodes = c.args.self.now.tree.now.nodes in
    names_all c.args.self.now.file.now c.args.self.now.tokens.now nodes.items c.loop-number.number
    c.loop-number.names.items (omega (arith, nodes.ok.0)) c.loop-number.invariant
