-- The tree of the parse has lines, and they are what is written.
use Rattle.std.proofs.Common.{map, ap, ◌∙◌}
use Rattle.files_text.specs.Words.{token_of}
use Rattle.vob_lr.specs.TreeNodes.{nodes_of}
use Rattle.files_parse.specs.DotText.{dot_text}
use Rattle.files_parse.specs.JsonText.{json_text}
use Rattle.files_parse.proofs.LineLemmas.{tree_has_lines, tree_lists}
use Rattle.files_parse.proofs.parse.put_tree.Goals as goal

pub put_text-requires : goal.put_text-requires
put_text-requires g c =
    tree_has_lines c.args.file.now (map token_of c.args.words.now) c.args.tokens.now c.args.parsed.now c.in_ok-tree.tree
    (rw c.deref.ensures.value at c.in_ok-tree.ensures)

pub returns-in-Text-clause-ok : goal.returns-in-Text-clause-ok
returns-in-Text-clause-ok g c =
    let is = rw c.deref.ensures.value at c.in_ok-tree.ensures in
    let written = c.in_ok-put_text-in-Text.ensures.ok in
    let words = map token_of c.args.words.now in
    let lists = tree_lists c.args.file.now words c.args.tokens.now c.args.parsed.now c.in_ok-tree.tree is in
    rw c.in-Text.is (written.0, written.1, lists written.0 written.2)

pub returns-in-Dot-clause-ok : goal.returns-in-Dot-clause-ok
returns-in-Dot-clause-ok g c =
    let is = rw c.deref.ensures.value at c.in_ok-tree.ensures in
    rw c.in-Dot.is (
      _,
      c.in_ok-put_dot-in-Dot.ensures,
      record {
        trees = is.trees;
        are_trees = is.are;
        lines = ap (λ nodes. dot_text c.args.file.now c.args.tokens.now nodes) is.nodes;
      },
    )

pub returns-clause-ok : goal.returns-clause-ok
returns-clause-ok g c =
    let is = rw c.deref.ensures.value at c.in_ok-tree.ensures in
    let words = map token_of c.args.words.now in
    rw c.in-Json.is (
      _,
      c.in_ok-put_json-in-Json.ensures.ok,
      record {
        trees = is.trees;
        are_trees = is.are;
        lines = ap (λ nodes. json_text c.args.file.now words c.args.tokens.now nodes c.in_ok-tree.tree.first) is.nodes
            ∙ ap (λ first. json_text c.args.file.now words c.args.tokens.now (nodes_of is.trees) first) is.first;
      },
    )
