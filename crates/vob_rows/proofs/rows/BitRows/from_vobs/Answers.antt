-- One row more has the bits of its Vob.
use Rattle.std.proofs.Common.{◌≡◌, ◌∙◌, [], get_or, length, ap, sym, arith}
use Rattle.std.proofs.lemmas.List.{length-map}
use Rattle.vob.specs.Vob.{BitVector}
use Rattle.vob.specs.Vobs.{bits_of}
use Rattle.vob.proofs.VobsLemmas.{bits_of_get_or, of_length_at}
use Rattle.vob_rows.proofs.VobsLemmas.{filled_all, filled_more}
use Rattle.vob_rows.proofs.rows.BitRows.from_vobs.Goals as goal
use Rattle.vob_rows.proofs.rows.BitRows.from_vobs.Goals.{After-of}

bits_are : (g : _) (c : After-of g) → c.of.result ≡ get_or (bits_of c.args.vobs.now) c.loop-i.i []
bits_are g c = c.of.ensures ∙ ap (λ (vob : BitVector). vob.bits) c.index-vobs-i.is
    ∙ sym (bits_of_get_or c.args.vobs.now c.loop-i.i c.index-vobs-i.result (omega arith))

long : (g : _) (c : After-of g) → length c.of.result ≡ c.args.columns
long g c = ap length (bits_are g c)
    ∙ of_length_at c.args.columns (bits_of c.args.vobs.now) c.loop-i.i [] c.requires
    (omega (arith, length-map c.args.vobs.now (λ (vob : BitVector). vob.bits)))

pub or_with-requires-clause-long : goal.or_with-requires-clause-long
or_with-requires-clause-long g c = long g (goal.at.or_with-requires-clause-long g c).After-of ∙ sym c.loop-i.invariant.columns_are

pub loop-i-preserved : goal.loop-i-preserved
loop-i-preserved g c = filled_more _ _ c.loop-i.made.rows c.or_with.new.self.rows _ _ _ c.of.result
    c.loop-i.invariant (omega arith) (bits_are g (goal.at.loop-i-preserved g c).After-of)
    (long g (goal.at.loop-i-preserved g c).After-of) c.or_with.ensures.rows c.or_with.ensures.columns

pub returns-clause-rows : goal.returns-clause-rows
returns-clause-rows g c = filled_all _ _ _ _ _ c.loop-i.invariant (omega arith)
