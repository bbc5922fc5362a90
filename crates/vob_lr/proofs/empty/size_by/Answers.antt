-- One symbol more.
use Rattle.std.proofs.Common.{◌∙◌, ◌<◌, ◌∷◌, ◌++◌, List, [], ap, arith, length, subst, sym, take}
use Rattle.std.proofs.lemmas.List.{take_all, take_more}
use Rattle.std.proofs.lemmas.List.Elements.{All-get_or}
use Rattle.vob_lr.specs.Passes.{IsNull}
use Rattle.vob_lr.specs.Sizes.{BecomeEmptyBelow, IsSize}
use Rattle.vob_lr.specs.declared.grammar.Symbol.{Symbol}
use Rattle.vob_lr.proofs.SizeLemmas.{below_more, nothing_below, size_of_rule}
use Rattle.vob_lr.proofs.empty.size_by.Goals.{in-Nonterminal, in_default}
use Rattle.vob_lr.proofs.empty.size_by.Goals as goal

pub loop-place-init : goal.loop-place-init
loop-place-init c = λ rules nullable there sized null. nothing_below 18446744073709551615 rules

pub loop-place-preserved : goal.loop-place-preserved
loop-place-preserved c = λ rules nullable there sized null.
    let right = c.args.rule.now.right.items in
    let k = c.loop-place.place in
    let x = c.index.result.now in
    let inside : k < length right = omega (arith, c.len-place-end.ensures) in
    let own = subst (IsNull nullable) (sym c.index.ensures)
    (All-get_or (IsNull nullable) right k x inside null) in
    elim c.match-index.branch [
      | in-Nonterminal w ↦
          let a = w.in-Nonterminal.nonterminal in
          let set = subst (IsNull nullable) w.in-Nonterminal.is own in
          let more = take_more right k x inside
          ∙ ap (λ (y : Symbol). take k right ++ y ∷ []) (sym c.index.ensures ∙ w.in-Nonterminal.is) in
          let size = subst (IsSize 18446744073709551615 rules a) (sym w.number_at.ensures) (sized.each a set) in
          subst (λ (xs : List Symbol). BecomeEmptyBelow 18446744073709551615 rules xs c.match-index.size) (sym more)
          (below_more 18446744073709551615 rules (take k right) a c.loop-place.size w.number_at.result
          c.match-index.size (c.loop-place.invariant rules nullable there sized null) size
          (w.size-is ∙ w.saturating_add-size.ensures))
      | in_default w ↦ absurd (subst (IsNull nullable) w.in_default.is own)
    ]

pub returns : goal.returns
returns c = λ rules nullable there sized null.
    let right = c.args.rule.now.right.items in
    size_of_rule 18446744073709551615 rules c.args.rule.now c.loop-place.size there
    (subst (λ (xs : List Symbol). BecomeEmptyBelow 18446744073709551615 rules xs c.loop-place.size)
    (take_all c.loop-place.place right (omega (arith, c.len-place-end.ensures)))
    (c.loop-place.invariant rules nullable there sized null))
