-- One symbol more, from the last one to the first.
use Rattle.std.proofs.Common.{◌∙◌, ◌-◌, [], drop, length, arith}
use Rattle.std.proofs.lemmas.List.{drop_all}
use Rattle.vob_lr.specs.Behind.{IsBehind}
use Rattle.vob_lr.proofs.EquationLemmas.{GainEach-both, GainEach-none}
use Rattle.vob_lr.proofs.FollowLemmas.{IsTrailer-before, IsTrailer-nothing, behind_more, last_more}
use Rattle.vob_lr.proofs.follow.add_rule.Goals as goal

pub loop-back-init : goal.loop-back-init
loop-back-init c =
    let rules = c.args.grammar.now.rules.items in
    let right = c.args.rule.now.right.items in
    let none = drop_all (length right - 0) right (omega arith) in
    rw none record {
      len = c.set_all.ensures.each.len;
      trailer = rw c.set_all.ensures.bits (IsTrailer-nothing rules _);
      behind = GainEach-none (IsBehind rules c.args.rule.now.left []) _ (λ n x h. h);
    }

pub loop-back-preserved : goal.loop-back-preserved
loop-back-preserved c =
    let rules = c.args.grammar.now.rules.items in
    let right = c.args.rule.now.right.items in
    let back = c.loop-back.back in
    let x = c.index-symbol.result.now in
    let last = last_more right back _ x (omega arith) (omega (arith, c.len.ensures))
    c.index-symbol.ensures in
    let trailer = c.loop-back.invariant.trailer in
    rw last record {
      len = c.put_before-empty.ensures.len ∙ c.loop-back.invariant.len;
      trailer = IsTrailer-before c.args.grammar.now c.args.nullable.now.bits
          c.args.first.now.rows c.requires.nullable c.requires.first x
          (drop (length right - back) right) _ _ _ _ trailer c.put_before-empty.ensures.each
          c.put_before-empty.ensures.empty;
      behind = GainEach-both _ c.in_ok-add_behind.ensures
          c.loop-back.invariant.behind
          (behind_more rules c.args.rule.now.left x (drop (length right - back) right) _ _ trailer);
    }
