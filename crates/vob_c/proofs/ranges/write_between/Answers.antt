-- The value is known where the bits are changed.
use Rattle.vob_c.proofs.RangeLemmas.{value_list}
use Rattle.vob_c.proofs.ranges.write_between.Goals as goal

pub returns-then-value-clause-stores : goal.returns-then-value-clause-stores
returns-then-value-clause-stores c = record {
  canonical = c.change_between.ensures.stores.canonical;
  bits = rw c.if-value.true (value_list _ _ _ c.requires.order c.requires.inside _ _
      c.change_between.ensures.each);
}

pub returns-else-value-clause-stores : goal.returns-else-value-clause-stores
returns-else-value-clause-stores c = record {
  canonical = c.change_between-else-value.ensures.stores.canonical;
  bits = rw c.if-value.false (value_list _ _ _ c.requires.order c.requires.inside _ _
      c.change_between-else-value.ensures.each);
}
