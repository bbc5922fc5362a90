-- One symbol more, from the last one to the first.
use Rattle.std.proofs.Common.{◌≡◌, ◌∙◌, ◌+◌, ◌-◌, ℕ, drop, length, arith, subst}
use Rattle.std.proofs.lemmas.List.{drop_all}
use Rattle.vob_lr.specs.Behind.{IsTrailer}
use Rattle.vob_lr.specs.Flows.{HasTables}
use Rattle.vob_lr.specs.Lookaheads.{Machine}
use Rattle.vob_lr.proofs.FollowLemmas.{IsTrailer-before, IsTrailer-nothing, last_more}
use Rattle.vob_lr.proofs.flows.Flows.begin.Goals as goal

pub loop-back-init : goal.loop-back-init
loop-back-init c =
    let right = c.args.rule.now.right.items in
    let none = drop_all (length right - 0) right (omega arith) in
    rw none record {
      len = c.set_all.ensures.each.len;
      trailer = rw c.set_all.ensures.bits
          (IsTrailer-nothing c.args.self.now.grammar.rules.items _);
    }

pub loop-back-preserved : goal.loop-back-preserved
loop-back-preserved c =
    let m = c.args.self.now in
    let own = c.self.inside in
    let h = subst (λ (z : Machine). HasTables z c.self.inside.nullable.now.bits
    c.self.inside.first.now.rows c.self.inside.opens.now.starts) c.self.view_is
    c.self.invariant in
    let right = c.args.rule.now.right.items in
    let back = c.loop-back.back in
    let x = c.index-symbol.result.now in
    let last = last_more right back _ x (omega arith) (omega arith) c.index-symbol.ensures in
    rw last record {
      len = c.put_before-empty.ensures.len ∙ c.loop-back.invariant.len;
      trailer = IsTrailer-before m.grammar own.nullable.now.bits own.first.now.rows
          h.empties h.firsts x (drop (length right - back) right) _ _ _ _
          c.loop-back.invariant.trailer c.put_before-empty.ensures.each
          c.put_before-empty.ensures.empty;
    }

pub returns-clause-trailer : goal.returns-clause-trailer
returns-clause-trailer c =
    let right = c.args.rule.now.right.items in
    let at : length right - c.loop-back.back ≡ c.args.dot + 1 = omega arith in
    subst (λ (k : ℕ). IsTrailer c.args.self.now.grammar.rules.items (drop k right)
    c.loop-back.begins.bits c.loop-back.empty) at c.loop-back.invariant.trailer
