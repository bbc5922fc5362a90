-- The level is the last one.
use Rattle.std.proofs.Common.{refl}
use Rattle.files_condition.proofs.StateLemmas.{levels_of-push}
use Rattle.files_condition.proofs.reader.Reader.open.Goals as goal

pub returns-clause-ok : goal.returns-clause-ok
returns-clause-ok c = rw (
  c.in_ok-push.ensures.items,
  levels_of-push,
  c.replace-level.ensures.value,
  c.replace-level.ensures.after,
  c.new.ensures,
) refl
