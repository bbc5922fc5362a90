-- Where there is nothing to take out, the list is what it was.
use Rattle.std.proofs.Common.{◌+◌, ◌-◌, ◌≡◌, ◌∙◌, ◌++◌, sym, ap, take, drop, arith}
use Rattle.std.proofs.lemmas.List.{take-append-drop}
use Rattle.vob.proofs.vob.Vob.take_between.Goals as goal
use Rattle.vob.proofs.vob.Vob.take_between.Goals.{then-start-end, else-start-end}

pub returns-clause-left : goal.returns-clause-left
returns-clause-left g c = elim c.if-start-end.branch [
  | then-start-end w ↦
      let whole : c.args.start + (c.args.end - c.args.start) ≡ c.args.end =
      omega (arith, c.requires.order) in
      ap (λ v. v.bits) w.self-is ∙ w.remove_from.ensures.bits
      ∙ ap (λ k. take c.args.start c.args.self.now.bits ++ drop k c.args.self.now.bits) whole
  | else-start-end w ↦ ap (λ v. v.bits) w.self-is ∙ sym (take-append-drop c.args.start c.args.self.now.bits)
      ∙ ap (λ k. take c.args.start c.args.self.now.bits ++ drop k c.args.self.now.bits)
      (omega (arith, c.requires.order, w.if-start-end.false))
]
