-- The runs that pulls at both ends of a walk give.
use Rattle.std.specs.Prelude.{Option, Some, None, reverse}
use Rattle.std.specs.Iterator.{Drains}
use Rattle.std.specs.declared.ops.Range.{Range}
use Rattle.std.proofs.Common.{◌≡◌, ℕ, List, [], ◌∷◌, ◌++◌, sym, ap, ◌∙◌}
use Rattle.std.proofs.lemmas.List.{append-nil, append_assoc, reverse-append}
use Rattle.vob_walk.specs.declared.walk.End.{End}
use Rattle.vob_walk.specs.declared.walk.End.TheVariants.{Front, Back}
use Rattle.vob_walk.specs.Runs.{RunWalk}
use Rattle.vob_walk.specs.RunsBack.{AreRunsPulled, GivesLastRun, RunsAreGivenOnce, WalkBackGivesRuns}
use Rattle.vob_walk.specs.RunsBack.{back_runs, front_runs}
use Rattle.vob_walk.proofs.RunListLemmas.{AreRuns-only}

-- up to `None` the back gives what is left, the last run first
reversed_rest : (runs : List (Range ℕ)) (walk : RunWalk) → Drains GivesLastRun walk runs
    → walk.rest ≡ reverse runs
reversed_rest [] walk h = ap (λ (w : RunWalk). w.rest) h.1.1 ∙ h.1.2.gives.0
reversed_rest (run ∷ runs) walk h =
    let after = h.1.1.0 in
    let rest = reversed_rest runs after (h.0, (h.1.0, h.1.1.2, h.1.2)) in
    h.1.1.1.gives ∙ ap (λ l. l ++ run ∷ []) rest ∙ sym (reverse-append (run ∷ []) runs)

pub AreRuns-walk_back : WalkBackGivesRuns
AreRuns-walk_back walk bits runs all h = (AreRuns-only bits (reverse runs)).0
    (sym (reversed_rest runs walk h) ∙ all)

-- pulls at both ends give what was left before them, in its order
given_rest : (pulls : List (End × Option (Range ℕ))) (walk after : RunWalk)
    → AreRunsPulled walk pulls after
    → front_runs pulls ++ (after.rest ++ back_runs pulls) ≡ walk.rest
given_rest [] walk after same = append-nil after.rest ∙ ap (λ (w : RunWalk). w.rest) (sym same)
given_rest ((Front, Some run) ∷ pulls) walk after h =
    ap (λ l. run ∷ l) (given_rest pulls h.0 after h.2) ∙ sym h.1.gives
given_rest ((Front, None) ∷ pulls) walk after h =
    given_rest pulls h.0 after h.2 ∙ h.1.gives.1 ∙ sym h.1.gives.0
given_rest ((Back, Some run) ∷ pulls) walk after h =
    ap (λ l. front_runs pulls ++ l) (sym (append_assoc after.rest (back_runs pulls) (run ∷ [])))
    ∙ sym (append_assoc (front_runs pulls) (after.rest ++ back_runs pulls) (run ∷ []))
    ∙ ap (λ l. l ++ run ∷ []) (given_rest pulls h.0 after h.2) ∙ sym h.1.gives
given_rest ((Back, None) ∷ pulls) walk after h =
    given_rest pulls h.0 after h.2 ∙ h.1.gives.1 ∙ sym h.1.gives.0

pub runs_given : RunsAreGivenOnce
runs_given walk after bits pulls all h = given_rest pulls walk after h ∙ all
