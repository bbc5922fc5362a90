-- The guards have seen the row, and then the tests are answered.
use Rattle.std.proofs.Common.{◌≡◌, inl, inr, length, rules}
use Rattle.std.proofs.lemmas.Result.{err_from_is_err_and}
use Rattle.files_filter.proofs.RefusalsLemmas.{if_err, ok_anyway, whole_slice}
use Rattle.files_filter.proofs.questions.Questions.answer.Goals as goal

pub returns-in_err-look-clause-err : goal.returns-in_err-look-clause-err
returns-in_err-look-clause-err g c =
    let p = err_from_is_err_and c.from_residual.result c.from_residual.ensures.1 in
    rw (p.1, p.2) (elim c.in_err-look.ensures.err [
      | inl memory ↦ inl memory
      | inr refuses ↦ inr (λ text rows all. refuses text rows c.args.self.now.tests.items
          (rw (c.deref_mut.ensures.value) all))
    ])

pub returns-clause-watched : goal.returns-clause-watched
returns-clause-watched g c =
    let same : length c.look.new.guards ≡ length c.args.self.now.guards.items = search rules in
    let len : c.args.self.now.guards.len ≡ length c.args.self.now.guards.items = search rules in
    ok_anyway c.set_answers.result _ (λ rows all.
    rw (whole_slice c.look.new.guards c.args.self.now.guards.items c.args.self.now.guards.len same len)
    (c.in_ok-look.ensures.ok rows c.args.self.now.tests.items (rw (c.deref_mut.ensures.value) all)))

pub returns-clause-err : goal.returns-clause-err
returns-clause-err g c = if_err c.set_answers.result _ _ (λ fault is. elim is [
  | inl memory ↦ inl memory
  | inr refuses ↦ inr (λ text rows all. rw (c.deref.ensures.value) at refuses text rows)
]) c.set_answers.ensures.err
