-- One more guard has seen the row, or refuses it.
use Rattle.std.proofs.Common.{◌++◌, ◌∷◌, [], ◌<◌, arith, inl, inr, length}
use Rattle.std.proofs.lemmas.List.{length-set}
use Rattle.std.proofs.lemmas.List.Elements.{AllWithin-more_set}
use Rattle.std.proofs.lemmas.Result.{err_from_is_err_and}
use Rattle.csv.specs.Records.{fields_of}
use Rattle.files_filter.specs.Watching.{IsWatched}
use Rattle.files_filter.proofs.RefusalsLemmas.{any_as, rest_set}
use Rattle.files_filter.proofs.questions.look.Goals as goal

pub loop-guard-init : goal.loop-guard-init
loop-guard-init g c = λ rows tests all. (λ k d low less. absurd (omega (arith, low, less)), λ k d low less. all k d less)

pub loop-guard-preserved : goal.loop-guard-preserved
loop-guard-preserved g c = λ rows tests all.
    let header = fields_of c.args.table.now.header in
    let cells = fields_of c.args.row.now in
    let guards = c.loop-guard.guards in
    let index = c.loop-guard.guard-index in
    let less : index < length guards = omega (arith, c.loop-guard-test.true) in
    let now = c.loop-guard.invariant rows tests all in
    let item = now.1 index c.guard-item.result (omega arith) less in (
      AllWithin-more_set guards index c.look.new.self less (IsWatched header (rows ++ cells ∷ []) tests) now.0
          (any_as _ _ tests (λ test so. c.in_ok-look.ensures.ok rows test so) item),
      rw (length-set guards index c.look.new.self)
          (rest_set (IsWatched header rows tests) guards index c.look.new.self (length guards) now.1),
    )

pub returns-in_err-look-clause-err : goal.returns-in_err-look-clause-err
returns-in_err-look-clause-err g c =
    let p = err_from_is_err_and c.from_residual.result c.from_residual.ensures.1 in
    let index = c.loop-guard.guard-index in
    let less : index < length c.loop-guard.guards = omega (arith, c.loop-guard-test.true) in
    rw (p.1, p.2) (elim c.in_err-look.ensures.err [
      | inl memory ↦ inl memory
      | inr refuses ↦ inr (λ text rows tests all.
          let now = c.loop-guard.invariant rows tests all in
          any_as _ _ tests (λ test so. refuses text rows test so)
          (now.1 index c.guard-item.result (omega arith) less))
    ])
