-- One row has the bits of both.
use Rattle.std.proofs.Common.{◌<◌, ◌∙◌, [], ap, arith, length, refl, sym}
use Rattle.vob_lr.specs.Equations.{System}
use Rattle.vob_lr.proofs.EquationLemmas.{GainEach-terminals}
use Rattle.vob_lr.proofs.equations.Equations.start_with.Goals as goal

pub returns : goal.returns
returns c =
    let less : c.args.set < length c.self.inside.starts.rows =
    omega (arith, c.requires.set, ap (λ (s : System). length s.starts) c.self.view_is) in
    let long = c.columns-places.ensures.long c.args.set [] less ∙ c.columns-places.ensures.columns
    ∙ ap (λ (s : System). s.places) c.self.view_is ∙ sym c.requires.long in
    rw (← c.self.view_is)
    (GainEach-terminals _ _ c.args.set c.args.terminals.now.bits less long
    (rw c.of.ensures at c.or_with.ensures.rows) c.or_with.ensures.columns refl)
