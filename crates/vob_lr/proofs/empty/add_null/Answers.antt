-- The left side of a rule becomes empty where all of its right side does.
use Rattle.std.proofs.Common.{List, subst, sym, ℕ}
use Rattle.vob_lr.specs.Sizes.{AreSized}
use Rattle.vob_lr.proofs.EmptyLemmas.{AreEmptied-written}
use Rattle.vob_lr.proofs.SizeLemmas.{AreSized-written}
use Rattle.vob_lr.proofs.empty.add_null.Goals as goal

pub returns-clause-sound : goal.returns-clause-sound
returns-clause-sound c = λ rules within sound.
    AreEmptied-written rules c.args.emptied.now.nullable.bits c.args.rule.now c.set.new.self.bits within
    (c.all_null.ensures.0 c.if-not-all_null.false) c.set.ensures.written sound

pub returns-then-rule-len-clause-sound : goal.returns-then-rule-len-clause-sound
returns-then-rule-len-clause-sound c = λ rules within sound.
    AreEmptied-written rules c.args.emptied.now.nullable.bits c.args.rule.now c.set.new.self.bits within
    (c.all_null.ensures.0 c.if-not-all_null.false) c.set.ensures.written sound

pub returns-clause-sized : goal.returns-clause-sized
returns-clause-sized c = λ rules within sized.
    let nullable = c.args.emptied.now.nullable.bits in
    let own = subst (λ (sizes : List ℕ). AreSized 18446744073709551615 rules nullable sizes)
    (sym c.deref.ensures.value) sized in
    AreSized-written 18446744073709551615 rules nullable c.set.new.self.bits c.args.emptied.now.sizes.items
    c.args.rule.now.left c.size_by.result c.requires c.set.ensures.written
    (c.size_by.ensures rules nullable within own (c.all_null.ensures.0 c.if-not-all_null.false)) sized
