-- The law, by the numbers of items.
use Rattle.vob_lr.proofs.ItemLemmas.{next_item}
use Rattle.vob_lr.proofs.laws.next_item_is_behind.Goals as goal

pub returns : goal.returns
returns c = next_item
