-- The nodes before the next have their names.
use Rattle.std.proofs.Common.{take}
use Rattle.files_parse.specs.JsonNames.{HasNames}
use Rattle.files_parse.proofs.tree.WordTree.names_json.Given as goal

abbrev pub invariant-loop-number : goal.invariant-loop-number
invariant-loop-number l =
    HasNames l.self.file.now l.self.tokens.now (take l.number l.self.tree.now.nodes.items) l.names.items
