-- All blocks came out of the walk.
use Rattle.std.proofs.Common.{refl}
use Rattle.std.proofs.lemmas.Iterator.Consumers.{YieldsList-at, YieldsList-from_first}
use Rattle.vob_run.proofs.ItemsLemmas.{all_taken}
use Rattle.vob_run.proofs.calls.read.blocks_of.Goals as goal

pub returns : goal.returns
returns g c =
    let ran = c.in_ok-extend.ensures.ran in
    let walk = YieldsList-from_first (λ x. x) (λ rest. rest) c.iter_storage.result refl in
    let all = all_taken _ ran.0 c.iter_storage.result (YieldsList-at ran.2 walk) ran.1 ran.4 in
    rw (ran.3.0, c.in_ok-blocks.ensures.items, all) c.iter_storage.ensures
