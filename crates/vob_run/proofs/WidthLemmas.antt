-- Runs at two widths, in which no call speaks of blocks.
use Rattle.std.proofs.Common.{◌≡◌, ◌≢◌, ℕ, List, [], ◌∷◌, Bool, refl, sym, ap, ◌∙◌, subst, inl, inr}
use Rattle.std.specs.Prelude.{All}
use Rattle.std.proofs.lemmas.List.Elements.{All-head, All-tail}
use Rattle.vob_run.specs.Call.{Call, FromRaw, Storage, FromRecord}
use Rattle.vob_run.specs.Answer.{Answer, refused, outcome}
use Rattle.vob_run.specs.Step.{step}
use Rattle.vob_run.specs.Run.{IsStep, IsRun}
use Rattle.vob_run.specs.Widths.{SpeaksOfBlocks, IsOfListsAlone, step_answers, step_lists}

abbrev IsPlain : Call → Type 0
IsPlain call = SpeaksOfBlocks call → ⊥

abbrev WasTaken : Answer → Type 0
WasTaken answer = answer ≢ refused 2

-- the width isn't read for a call that speaks of no blocks
step-widths : (width other : ℕ) (before : List (List Bool)) (call : Call) → IsPlain call
    → step width before call ≡ step other before call
step-widths width other before (FromRaw len mask blocks) plain = absurd (plain tt)
step-widths width other before (Storage which) plain = absurd (plain tt)
step-widths width other before (FromRecord len blocks) plain = absurd (plain tt)
step-widths width other before _ plain = refl

step-taken : (width : ℕ) (before after : List (List Bool)) (call : Call) (answer : Answer)
    → IsStep width before call answer after → WasTaken answer
    → step width before call ≡ outcome answer after
step-taken width before after call answer (inl is) taken = is
step-taken width before after call answer (inr refusal) taken = absurd (taken refusal.1)

steps_of_run : (width other : ℕ) (before : List (List Bool)) (calls : List Call)
    (answers : List Answer) (after : List (List Bool)) → IsRun width before calls answers after
    → All IsPlain calls → All WasTaken answers
    → (answers ≡ step_answers other before calls) × (after ≡ step_lists other before calls)
steps_of_run width other before [] [] after run plain took = (refl, run)
steps_of_run width other before (call ∷ calls) (a ∷ answers) after run plain took =
    let own = step-taken width before run.0 call a run.1 (All-head WasTaken a answers took) in
    let same = sym own ∙ step-widths width other before call (All-head IsPlain call calls plain) in
    let between : run.0 ≡ (step other before call).lists = ap (λ o. o.lists) same in
    let rest = steps_of_run width other run.0 calls answers after run.2
    (All-tail IsPlain call calls plain) (All-tail WasTaken a answers took) in (
      ap (λ x. x ∷ answers) (ap (λ o. o.answer) same)
          ∙ ap (λ xs. (step other before call).answer ∷ xs)
          (rest.0 ∙ ap (λ l. step_answers other l calls) between),
      rest.1
          ∙ ap (λ l. step_lists other l calls) between,
    )
steps_of_run width other before [] (a ∷ answers) after run plain took = absurd run
steps_of_run width other before (call ∷ calls) [] after run plain took = absurd run

same_runs : (width other : ℕ) (before : List (List Bool)) (calls : List Call)
    (answers others : List Answer) (after afterwards : List (List Bool))
    → IsRun width before calls answers after → IsRun other before calls others afterwards
    → All IsPlain calls → All WasTaken answers → All WasTaken others
    → (answers ≡ others) × (after ≡ afterwards)
same_runs width other before [] [] [] after afterwards run its plain took took_too =
    (refl, run ∙ sym its)
same_runs width other before (call ∷ calls) (a ∷ answers) (b ∷ others) after afterwards
    run its plain took took_too =
    let left = step-taken width before run.0 call a run.1 (All-head WasTaken a answers took) in
    let right = step-taken other before its.0 call b its.1 (All-head WasTaken b others took_too) in
    let alike = step-widths width other before call (All-head IsPlain call calls plain) in
    let same = sym left ∙ alike ∙ right in
    let between : its.0 ≡ run.0 = sym (ap (λ o. o.lists) same) in
    let on =
    subst (λ (l : List (List Bool)). IsRun other l calls others afterwards) between its.2 in
    let rest = same_runs width other run.0 calls answers others after afterwards run.2 on
    (All-tail IsPlain call calls plain) (All-tail WasTaken a answers took)
    (All-tail WasTaken b others took_too) in
    (ap (λ x. x ∷ answers) (ap (λ o. o.answer) same) ∙ ap (λ xs. b ∷ xs) rest.0, rest.1)
same_runs width other before [] (a ∷ answers) others after afterwards run its plain took took_too =
    absurd run
same_runs width other before [] [] (b ∷ others) after afterwards run its plain took took_too =
    absurd its
same_runs width other before (call ∷ calls) [] others after afterwards run its plain took took_too =
    absurd run
same_runs width other before (call ∷ calls) (a ∷ answers) [] after afterwards
    run its plain took took_too = absurd its

-- as records
pub run_is_its_steps : (width other : ℕ) (before : List (List Bool)) (calls : List Call)
    (answers : List Answer) (after : List (List Bool))
    → IsOfListsAlone width before calls answers after
    → (answers ≡ step_answers other before calls) × (after ≡ step_lists other before calls)
run_is_its_steps width other before calls answers after run =
    steps_of_run width other before calls answers after run.run run.no_blocks run.none_refused

pub same_at_every_width : (width other : ℕ) (before : List (List Bool)) (calls : List Call)
    (answers others : List Answer) (after afterwards : List (List Bool))
    → IsOfListsAlone width before calls answers after
    → IsOfListsAlone other before calls others afterwards
    → (answers ≡ others) × (after ≡ afterwards)
same_at_every_width width other before calls answers others after afterwards run its =
    same_runs width other before calls answers others after afterwards run.run its.run
    run.no_blocks run.none_refused its.none_refused
