-- It stands behind the others, and its number is how many they were.
use Rattle.std.proofs.Common.{refl, inl}
use Rattle.vob_run.proofs.calls.make.placed.Goals as goal

pub returns : goal.returns
returns g c =
    inl (
      rw (c.len-which.ensures, c.args.vobs.now.ok.0) refl,
      rw (c.push_reserved.ensures.items, c.reserve.ensures.items) refl,
    )
