-- The last level goes on with all that was in the parentheses.
use Rattle.std.proofs.Common.{ap, ◌∙◌, sym, Some}
use Rattle.files_condition.specs.Conditions.{test_of, tree_of}
use Rattle.files_condition.specs.Reading.{with_alternatives}
use Rattle.files_condition.specs.States.{option_tree, waiting_of}
use Rattle.std.proofs.Common.{map}
use Rattle.files_condition.proofs.StateLemmas.{closing_is}
use Rattle.files_condition.proofs.reader.Reader.close.Goals as goal

pub returns-clause-ok : goal.returns-clause-ok
returns-clause-ok c =
    closing_is (waiting_of c.args.self.now.level) (tree_of c.args.conjunction) (tree_of c.in_ok-whole.whole)
    c.args.self.now.outer.items c.pop.new.self.items c.in-Some.last (map test_of c.args.self.now.comparisons.items)
    c.in-Some.ensures.items
    (c.in_ok-whole.ensures ∙ ap (λ o. with_alternatives (option_tree o) (tree_of c.args.conjunction))
    c.take.ensures.value)
    ∙ ap Some (sym c.in_ok-next.ensures)
