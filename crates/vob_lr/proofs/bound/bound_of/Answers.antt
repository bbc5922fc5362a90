-- The bound suffices.
use Rattle.std.proofs.Common.{◌≡◌, ℕ, arith, length, ◌+◌, ◌*◌, ◌∙◌, ap, min}
use Rattle.vob_lr.proofs.BoundLemmas.{bound_is}
use Rattle.vob_lr.proofs.bound.bound_of.Goals as goal

pub returns : goal.returns
returns c =
    let emptied = c.in_ok-emptied.emptied in
    let long : length c.resize.new.self.items ≡ c.args.grammar.now.nonterminals =
    omega (arith, c.resize.new.self.ok.0, c.in_ok-resize.ensures.len) in
    let all = rw c.deref.ensures.value at c.greatest-size.ensures in
    let wide = rw c.deref-2.ensures.value at c.widest.ensures in
    bound_is 18446744073709551615 c.args.grammar.now c.requires emptied.nullable.bits emptied.sizes.items
    c.in_ok-emptied.ensures.nullable (c.in_ok-emptied.ensures.sized long) c.greatest-size.result c.widest.result all
    wide c.saturating_mul-right.result c.saturating_add-base.result c.saturating_mul-each.result
    c.saturating_mul-right.ensures
    (c.saturating_add-base.ensures ∙ ap (λ (n : ℕ). min (n + 1) 18446744073709551615) c.saturating_add.ensures)
    (c.saturating_mul-each.ensures ∙ ap (λ (n : ℕ). min (n * 2) 18446744073709551615) c.saturating_mul.ensures)
