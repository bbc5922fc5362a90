-- The lines of the next nonterminal are written.
use Rattle.std.proofs.Common.{◌≡◌, ◌-◌, ap, arith}
use Rattle.std.specs.List.{range_with_len}
use Rattle.files_text.proofs.PrintedLemmas.{items_all, items_more, items_none, range_more, range_none}
use Rattle.files_grammar.proofs.SetTextLemmas.{says_sets}
use Rattle.files_grammar.proofs.sets.put_sets.Goals as goal

pub loop-number-init : goal.loop-number-init
loop-number-init g c =
    let all : c.args.file.now.grammar.nonterminals - 0 ≡ c.args.file.now.grammar.nonterminals = omega arith in
    items_all _ _ _ _ (ap (range_with_len 0) all)

pub loop-number-preserved : goal.loop-number-preserved
loop-number-preserved g c =
    items_more _ _ _ _ _ _ _ _
    (range_more c.loop-number.number c.args.file.now.grammar.nonterminals c.loop-number-test.true)
    c.loop-number.invariant c.in_ok-put_nonterminal.ensures

pub returns : goal.returns
returns g c = (
  _,
  items_none _ _ _ _ _ (range_none c.loop-number.number c.args.file.now.grammar.nonterminals (omega arith))
      c.loop-number.invariant,
  says_sets c.args.file.now.grammar c.args.file.now.names _ _ _ c.requires.nullable c.requires.first
      c.requires.follow,
)
