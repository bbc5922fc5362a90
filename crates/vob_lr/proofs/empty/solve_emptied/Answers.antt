-- A set that is closed and has only what becomes empty.
use Rattle.std.proofs.Common.{◌∙◌, List, Bool, sym, subst}
use Rattle.vob_lr.specs.Passes.{IsNullClosed}
use Rattle.vob_lr.proofs.EmptyLemmas.{null_each}
use Rattle.vob_lr.proofs.empty.solve_emptied.Goals as goal

pub returns-clause-nullable : goal.returns-clause-nullable
returns-clause-nullable c =
    let rules = c.args.grammar.now.rules.items in
    let adds = c.null_pass.ensures.adds in
    let off = c.passes-test.false in
    let items = c.deref.ensures.value in
    record {
      count = c.null_pass.ensures.len ∙ c.passes.invariant.count;
      each = null_each rules _ (rw items at c.null_pass.ensures.sound c.passes.invariant.sound)
          (subst (λ (bits : List Bool). IsNullClosed rules bits) (sym (adds.same off))
          (rw items at (adds.met off)));
    }
