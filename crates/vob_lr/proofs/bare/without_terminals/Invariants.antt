-- The rules so far.
use Rattle.std.proofs.Common.{◌≡◌, map, take}
use Rattle.vob_lr.specs.Derivations.{sides}
use Rattle.vob_lr.specs.Productive.{bare}
use Rattle.vob_lr.proofs.bare.without_terminals.Given as goal

abbrev pub invariant-loop-rule : goal.invariant-loop-rule
invariant-loop-rule l = map sides l.own.items ≡ map bare (take l.rule-index l.rules)
