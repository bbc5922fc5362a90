-- The first byte that isn't a digit is named, and none where all are.
use Rattle.std.proofs.Common.{◌≡◌, All, Err, refl, subst, ap}
use Rattle.std.proofs.lemmas.Result.{err_from_is_err_and}
use Rattle.vob_block.specs.Digits.{IsDigit, IsFirstBad}
use Rattle.vob.specs.declared.text.DigitsError.TheVariants.{BadDigit}
use Rattle.vob.proofs.TextLemmas.{no-bad, no-bad-of-none, one-first-bad}
use Rattle.vob.proofs.vob.Vob.from_digits.Goals as goal

pub returns-in-Some-clause-bad : goal.returns-in-Some-clause-bad
returns-in-Some-clause-bad g c =
    let text = c.args.text.now in
    let first : IsFirstBad text c.in-Some.index =
    subst (λ bytes. IsFirstBad bytes c.in-Some.index) c.as_bytes-digits.ensures.value
    (c.in-Some.ensures.some c.in-Some.index refl) in
    λ at. (
      (λ e.
          let same : c.in-Some.index ≡ at = cc in
          subst (IsFirstBad text) same first),
      (λ bad. ap (λ i. Err (BadDigit i)) (one-first-bad text _ at first bad)),
    )

pub returns-in-Some-clause-nothing : goal.returns-in-Some-clause-nothing
returns-in-Some-clause-nothing g c =
    λ none. absurd (no-bad-of-none c.args.text.now c.in-Some.index none
    (subst (λ bytes. IsFirstBad bytes c.in-Some.index) c.as_bytes-digits.ensures.value
    (c.in-Some.ensures.some c.in-Some.index refl)))

pub returns-in_err-vob-clause-bad : goal.returns-in_err-vob-clause-bad
returns-in_err-vob-clause-bad g c =
    let p = err_from_is_err_and c.from_residual.result c.from_residual.ensures.1 in
    let all = subst (All IsDigit) c.as_bytes-digits.ensures.value (c.in_default.ensures.none refl) in
    rw (p.1, p.2)
    (λ at. ((λ e. cc), (λ bad. absurd (no-bad c.args.text.now at all bad))))

pub returns-clause-bad : goal.returns-clause-bad
returns-clause-bad g c =
    let all = subst (All IsDigit) c.as_bytes-digits.ensures.value (c.in_default.ensures.none refl) in
    λ at. ((λ e. cc), (λ bad. absurd (no-bad c.args.text.now at all bad)))
