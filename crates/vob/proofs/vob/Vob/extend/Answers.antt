-- What is refused is the hint, or one item more.
use Rattle.std.specs.Prelude.{Err}
use Rattle.std.proofs.Common.{◌+◌, ◌-◌, ◌^◌, ◌≤◌, length, refl, inl, arith}
use Rattle.std.proofs.lemmas.Result.{err_from_is_err_and}
use Rattle.vob.specs.Vob.{IsTooLong}
use Rattle.vob.proofs.ExtendingLemmas.{extended, hint_refused}
use Rattle.vob.proofs.vob.Vob.extend.Goals as goal

pub returns-in_err-reserve-clause-extended : goal.returns-in_err-reserve-clause-extended
returns-in_err-reserve-clause-extended g c =
    let p = err_from_is_err_and c.from_residual.result c.from_residual.ensures.1 in
    let e = c.in_err-reserve.ensures in
    let refused = hint_refused c.args.self.now c.size_hint-hint.result.0
    (Err c.in_err-reserve.field-0.0) g.T.BitBlock.BITS c.in_err-reserve.field-0.0 refl e.nothing
    e.refused in (
      c.into_iter-items.result,
      c.size_hint-hint.result.0,
      c.into_iter-items.ensures.into_iter_gives,
      c.size_hint-hint.ensures.lower,
      rw (p.1, p.2) (record {
        ok = tt;
        err = inl (refused.0, refused.1, e.bits);
        too_long = λ h. (e.refused.too_long.1 h, e.bits);
      }),
    )

pub returns-clause-extended : goal.returns-clause-extended
returns-clause-extended g c =
    let hint = c.size_hint-hint.result.0 in
    let e = c.in_ok-reserve.ensures in
    let near : IsTooLong c.args.self.now hint → ⊥ = λ far.
    let refused = e.refused.too_long.1 far in cc in
    let fits : length c.args.self.now.bits + hint ≤ 2 ^ 64 - 1 = omega (arith, near) in (
      c.into_iter-items.result,
      hint,
      c.into_iter-items.ensures.into_iter_gives,
      c.size_hint-hint.ensures.lower,
      extended _ _ _ _ _ _ e.bits e.capacity e.ok fits _ c.push_all.ensures.ok
          c.push_all.ensures.err,
    )

pub returns-clause-capacity : goal.returns-clause-capacity
returns-clause-capacity g c =
    omega (arith, c.in_ok-reserve.ensures.capacity, c.push_all.ensures.capacity)
