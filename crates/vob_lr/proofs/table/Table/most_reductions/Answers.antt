-- The bound, or the greatest number.
use Rattle.std.proofs.Common.{◌≡◌, ◌+◌, ◌*◌, arith, inl, inr, subst, sym, ℕ}
use Rattle.std.proofs.lemmas.Bool.{cases_lt}
use Rattle.vob_lr.specs.Languages.{Suffice}
use Rattle.vob_lr.specs.Tables.{TableView}
use Rattle.vob_lr.proofs.table.Table.most_reductions.Goals as goal

pub returns : goal.returns
returns c =
    let bound = c.self.inside.bound in
    let n = c.args.tokens in
    elim (cases_lt c.saturating_add.result 18446744073709551615) [
      | inr past ↦ inl (omega (arith, past, c.saturating_add.ensures))
      | inl low ↦
          let sum : c.saturating_add.result ≡ bound.base + bound.each * n =
          omega (arith, low, c.saturating_add.ensures, c.saturating_mul-more.ensures) in
          elim (c.self.invariant.1 n) [
            | inl past ↦ absurd (omega (arith, past, sum, low))
            | inr enough ↦
                inr (subst (λ (t : TableView). Suffice t.machine.grammar.rules.items n c.saturating_add.result)
                c.self.view_is
                (subst (λ (k : ℕ). Suffice c.self.inside.lookaheads.grammar.rules.items n k) (sym sum) enough))
          ]
    ]
