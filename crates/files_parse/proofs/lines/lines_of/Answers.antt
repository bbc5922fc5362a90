-- The node on top has its line, and the nodes below it are next.
use Rattle.std.proofs.Common.{◌++◌, [], ap, arith, reverse, take, ◌∙◌, ◌+◌, ◌-◌}
use Rattle.files_parse.specs.TreeLines.{on_level}
use Rattle.files_parse.proofs.UnfoldLemmas.{level_low, unfolds_all, unfolds_first, unfolds_more, unfolds_none}
use Rattle.files_parse.proofs.lines.lines_of.Goals as goal

pub loop-init : goal.loop-init
loop-init c =
    unfolds_first c.args.tree.now c.put_on_top.new.stack.items c.in_ok-lines.lines.items c.requires
    c.in_ok-lines.ensures.items
    (c.in_ok-put_on_top.ensures ∙ ap (λ l. on_level 0 c.roots.result.now ++ reverse l) c.new-stack.ensures.items
    ∙ ap (λ l. on_level 0 l ++ reverse []) c.roots.ensures)

pub returns-in_default : goal.returns-in_default
returns-in_default c =
    unfolds_none c.args.tree.now c.loop.counter c.loop.stack.items c.loop.lines.items c.loop.invariant
    (c.in_default.ensures.items ∙ ap (λ l. l ++ [])
    (c.in_default.ensures.rest ∙ ap (λ n. take (n - 1) c.loop.stack.items) c.in_default.ensures.cases.0))

pub overflow_add-level : goal.overflow_add-level
overflow_add-level c =
    let low = level_low c.args.tree.now c.loop.counter c.loop.stack.items c.loop.lines.items c.pop.new.self.items
    (c.in-Some.node, c.in-Some.level) c.loop.invariant c.in-Some.ensures.items in
    omega (arith, low, c.loop-test.true, c.len-end.type_inv)

pub loop-preserved : goal.loop-preserved
loop-preserved c =
    unfolds_more c.args.tree.now c.loop.counter c.loop.stack.items c.loop.lines.items c.pop.new.self.items
    c.put_on_top-in-loop.new.stack.items c.push.new.self.items (c.in-Some.node, c.in-Some.level) c.loop.invariant
    c.in-Some.ensures.items
    (c.in_ok-put_on_top-2.ensures
    ∙ ap (λ l. on_level (c.in-Some.level + 1) l ++ reverse c.pop.new.self.items) c.children.ensures)
    c.in_ok-push.ensures.items

pub returns : goal.returns
returns c =
    unfolds_all c.args.tree.now c.loop.counter c.loop.stack.items c.loop.lines.items c.loop.invariant
    (omega (arith, c.loop-test.false, c.args.tree.now.nodes.ok.0, c.len-end.ensures))
