-- The walk has every bit left, each of which stands in one of the blocks.
use Rattle.std.proofs.Common.{◌≡◌, ◌∙◌, ◌*◌, sym, ap, arith, map, length}
use Rattle.std.proofs.lemmas.List.{length-map}
use Rattle.vob_block.proofs.NeedLemmas.{need_enough}
use Rattle.vob_block.proofs.PackingLemmas.{length-unpacking}
use Rattle.vob.proofs.RestLemmas.{length-bits_between, bits_between-whole, rest_runs, rest_runs_back}
use Rattle.vob.proofs.vob.Vob.iter.Goals as goal

pub invariant_of-result : goal.invariant_of-result
invariant_of-result g c =
    let w = g.T.BitBlock.BITS in
    let items = c.self.inside.vec.items in
    let end : c.len.result ≡ c.self.inside.len =
    c.len.ensures.len ∙ ap (λ v. length v.bits) (sym c.self.view_is) ∙ length-unpacking _ _ _ in
    let count = ap (λ k. k * w) (sym (length-map items g.T.BitBlock.number)
    ∙ c.self.invariant.count) in (
      omega arith,
      rw c.as_slice.ensures.value
          (omega (arith, need_enough w g.met.T.BitBlock.wide_law c.self.inside.len, count, end)),
    )

pub returns-clause-bits : goal.returns-clause-bits
returns-clause-bits g c =
    let end : c.len.result ≡ c.self.inside.len =
    c.len.ensures.len ∙ ap (λ v. length v.bits) (sym c.self.view_is) ∙ length-unpacking _ _ _ in
    rw (end, c.as_slice.ensures.value, ← c.self.view_is) (bits_between-whole _ _ _)

pub returns-clause-longest : goal.returns-clause-longest
returns-clause-longest g c =
    let whole = length-bits_between 0 c.len.result (map g.T.BitBlock.number c.as_slice.result.now)
    g.T.BitBlock.BITS in
    omega (arith, whole)

pub returns-clause-runs : goal.returns-clause-runs
returns-clause-runs g c = rest_runs

pub returns-clause-runs_back : goal.returns-clause-runs_back
returns-clause-runs_back g c = rest_runs_back
