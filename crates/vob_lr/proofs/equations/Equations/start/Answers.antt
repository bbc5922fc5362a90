-- The bit of one row was set.
use Rattle.std.proofs.Common.{◌<◌, [], ap, arith, get_or, length, refl}
use Rattle.vob_lr.specs.Equations.{System}
use Rattle.vob_lr.proofs.EquationLemmas.{GainEach-terminal}
use Rattle.vob_lr.proofs.equations.Equations.start.Goals as goal

pub returns : goal.returns
returns c =
    let rows = c.self.inside.starts.rows in
    let less : c.args.set < length rows =
    omega (arith, c.requires.set, ap (λ (s : System). length s.starts) c.self.view_is) in
    let low : c.args.terminal < length (get_or rows c.args.set []) =
    omega (
      arith,
      c.columns-places.ensures.long c.args.set [] less,
      c.columns-places.ensures.columns,
      c.requires.place,
      ap (λ (s : System). s.places) c.self.view_is,
    ) in
    rw (← c.self.view_is)
    (GainEach-terminal _ _ c.args.set c.args.terminal less low c.set.ensures.rows c.set.ensures.columns
    refl)
