-- The number was pushed to the list.
use Rattle.std.proofs.Common.{◌<◌, ℕ, [], Vec, Global, arith, length}
use Rattle.std.proofs.lemmas.List.{get_or-map, length-map, map-set}
use Rattle.files_flow.specs.Problems.{lists_of}
use Rattle.files_flow.proofs.ProblemLemmas.{added_one}
use Rattle.files_flow.proofs.problem.add_to.Goals as goal

pub returns-in_ok-push : goal.returns-in_ok-push
returns-in_ok-push c =
    let lists = c.args.lists.now in
    let items = λ (list : Vec ℕ Global). list.items in
    let inside : c.args.list < length (lists_of lists) = omega (arith, c.if-list-lists.true, length-map lists items) in
    rw (map-set items lists c.args.list c.push.new.self, c.in_ok-push.ensures.items)
    (added_one (lists_of lists) c.args.number c.args.list _ inside
    (get_or-map items lists c.args.list c.index-lists-list.result [] c.if-list-lists.true))
