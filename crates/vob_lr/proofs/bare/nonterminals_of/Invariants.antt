-- The nonterminals among the symbols so far.
use Rattle.std.proofs.Common.{◌≡◌, take}
use Rattle.vob_lr.specs.Productive.{nonterminals_in}
use Rattle.vob_lr.proofs.bare.nonterminals_of.Given as goal

abbrev pub invariant-loop-symbol : goal.invariant-loop-symbol
invariant-loop-symbol l = l.own.items ≡ nonterminals_in (take l.symbol-index l.symbols)
