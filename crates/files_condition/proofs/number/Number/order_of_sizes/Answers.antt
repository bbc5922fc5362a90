-- The numbers are ordered as the powers of ten above them, and then as their digits.
use mir.Syntax.{w128}
use mir.Val.{of_z, to_z}
use Rattle.std.proofs.Common.{rules, ◌≡◌, ◌+◌, ◌-◌, ◌+ℤ◌, ◌-ℤ◌, ℤ, pos, arith, length, sym, refl, ap, ◌∙◌}
use Rattle.std.proofs.lemmas.Bool.Decides.{nat_tests}
use Rattle.std.proofs.lemmas.Cmp.{int_ranked}
use Rattle.std.specs.Ordering.{int_cmp}
use Rattle.std.specs.declared.cmp.Ordering.TheVariants.{Equal}
use Rattle.files_condition.specs.Numbers.{Decimal, up, down}
use Rattle.files_condition.specs.Padded.{digits_of, zeros_of}
use Rattle.files_condition.proofs.NumberLemmas.{by-tops, if-as-high, if-one-is-zero, top-same}
use Rattle.files_condition.proofs.number.Number.order_of_sizes.Goals as goal

-- the power of ten above a number
abbrev top : Decimal → ℤ
top number = (pos (length (digits_of number) - zeros_of number) +ℤ number.power) -ℤ pos (length number.fraction)

pub returns-then-min-eq0 : goal.returns-then-min-eq0
returns-then-min-eq0 c =
    c.cmp.ensures
    ∙ rw (c.len.ensures, c.len-2.ensures, c.zeros-zeros.ensures.count, c.zeros-others.ensures.count)
    (if-one-is-zero (digits_of c.args.self.now) (digits_of c.args.other.now) (up c.args.self.now + down c.args.other.now)
    (up c.args.other.now + down c.args.self.now) c.zeros-zeros.ensures.digits c.zeros-others.ensures.digits
    (grind (arith, c.zeros-zeros.ensures.count, c.zeros-zeros.ensures.within))
    (grind (arith, c.zeros-others.ensures.count, c.zeros-others.ensures.within))
    (grind (
      arith,
      nat_tests,
      c.min.ensures,
      c.if-min-eq0.true,
      c.len.ensures,
      c.len-2.ensures,
      c.zeros-zeros.ensures.count,
      c.zeros-others.ensures.count,
    )))

pub returns-in-Equal : goal.returns-in-Equal
returns-in-Equal c =
    let fits-first : to_z w128 (of_z w128 c.top.result) ≡ c.top.result = search rules in
    let fits-second : to_z w128 (of_z w128 c.top-2.result) ≡ c.top-2.result = search rules in
    let first : c.top.result ≡ top c.args.self.now =
    c.top.ensures ∙ rw (c.len.ensures, c.zeros-zeros.ensures.count) refl in
    let second : c.top-2.result ≡ top c.args.other.now =
    c.top-2.ensures ∙ rw (c.len-2.ensures, c.zeros-others.ensures.count) refl in
    let same : c.top.result ≡ c.top-2.result =
    int_ranked c.top.result c.top-2.result Equal (sym c.in-Equal.is ∙ c.order_of_powers.ensures ∙ rw (fits-first, fits-second) refl) in
    c.order_of_digits.ensures
    ∙ rw (c.zeros-zeros.ensures.count, c.zeros-others.ensures.count)
    (if-as-high (digits_of c.args.self.now) (digits_of c.args.other.now) (up c.args.self.now + down c.args.other.now)
    (up c.args.other.now + down c.args.self.now) c.zeros-zeros.ensures.digits c.zeros-others.ensures.digits
    (top-same (length (digits_of c.args.self.now) - zeros_of c.args.self.now)
    (length (digits_of c.args.other.now) - zeros_of c.args.other.now) (length c.args.self.now.fraction)
    (length c.args.other.now.fraction) c.args.self.now.power c.args.other.now.power (sym first ∙ same ∙ second)))

pub returns-in_default : goal.returns-in_default
returns-in_default c =
    let fits-first : to_z w128 (of_z w128 c.top.result) ≡ c.top.result = search rules in
    let fits-second : to_z w128 (of_z w128 c.top-2.result) ≡ c.top-2.result = search rules in
    let first : c.top.result ≡ top c.args.self.now =
    c.top.ensures ∙ rw (c.len.ensures, c.zeros-zeros.ensures.count) refl in
    let second : c.top-2.result ≡ top c.args.other.now =
    c.top-2.ensures ∙ rw (c.len-2.ensures, c.zeros-others.ensures.count) refl in
    by-tops (digits_of c.args.self.now) (digits_of c.args.other.now) (length c.args.self.now.fraction)
    (length c.args.other.now.fraction) c.args.self.now.power c.args.other.now.power c.order_of_powers.result
    c.zeros-zeros.ensures.digits c.zeros-others.ensures.digits
    (grind (
      arith,
      nat_tests,
      c.min.ensures,
      c.if-min-eq0.false,
      c.len.ensures,
      c.len-2.ensures,
      c.zeros-zeros.ensures.count,
      c.zeros-others.ensures.count,
    ))
    (grind (
      arith,
      nat_tests,
      c.min.ensures,
      c.if-min-eq0.false,
      c.len.ensures,
      c.len-2.ensures,
      c.zeros-zeros.ensures.count,
      c.zeros-others.ensures.count,
    ))
    (int_ranked (top c.args.self.now) (top c.args.other.now) c.order_of_powers.result
    (c.order_of_powers.ensures ∙ ap (λ t. int_cmp t (to_z w128 (of_z w128 c.top-2.result))) fits-first
    ∙ ap (λ t. int_cmp c.top.result t) fits-second ∙ ap (λ t. int_cmp t c.top-2.result) first ∙ ap (λ t. int_cmp (top c.args.self.now) t) second))
    c.in_default.not-Equal
