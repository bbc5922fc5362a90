-- A run goes on by one step.
use Rattle.std.proofs.Common.{◌≡◌, ℕ, ◌+◌, ◌<◌, List, [], ◌∷◌, ◌++◌, Bool, length, map, take, get_or, refl, subst, ap, ◌∙◌, append_assoc}
use Rattle.std.proofs.lemmas.List.{take_more, map_push}
use Rattle.vob_run.specs.Call.{Call}
use Rattle.vob_run.specs.Answer.{Answer}
use Rattle.vob_run.specs.Run.{IsStep, IsRun}

IsRun-push : (width : ℕ) (before between after : List (List Bool)) (calls : List Call)
    (answers : List Answer) (call : Call) (answer : Answer)
    → IsRun width before calls answers between → IsStep width between call answer after
    → IsRun width before (calls ++ call ∷ []) (answers ++ answer ∷ []) after
IsRun-push width before between after [] [] call answer ran step =
    (after, subst (λ (b : List (List Bool)). IsStep width b call answer after) ran step, refl)
IsRun-push width before between after [] (a ∷ answers) call answer ran step = absurd ran
IsRun-push width before between after (c ∷ calls) [] call answer ran step = absurd ran
IsRun-push width before between after (c ∷ calls) (a ∷ answers) call answer ran step =
    let rest = IsRun-push width ran.0 between after calls answers call answer ran.2 step in
    (ran.0, ran.1, rest)

-- commands of one kind, each a call, and replies of one kind, each an answer
module _ {C R : Type 0} (call_of : C → Call) (answer_of : R → Answer) (width : ℕ)
    (commands : List C) (before : List (List Bool)) (old : List R) where
  -- so many commands were run, and their replies stand behind the old ones
  abbrev pub HasRun : ℕ → List R → List (List Bool) → Type 0
  HasRun i replies after =
      (added : List R) × (replies ≡ old ++ added)
      × IsRun width before (map call_of (take i commands)) (map answer_of added) after

  -- the next command, and its reply
  pub HasRun-more : (i : ℕ) (replies now : List R) (between after : List (List Bool))
      (command : C) (reply : R) → HasRun i replies between → i < length commands
      → command ≡ get_or commands i command → now ≡ replies ++ reply ∷ []
      → IsStep width between (call_of command) (answer_of reply) after → HasRun (i + 1) now after
  HasRun-more i replies now between after command reply ran inside read pushed step =
      let calls = map call_of (take i commands) in
      let more = IsRun-push width before between after calls (map answer_of ran.0)
      (call_of command) (answer_of reply) ran.2 step in
      let next = take_more commands i command inside in
      let taken = ap (λ c. take i commands ++ c ∷ []) read in
      let calls-push = map_push call_of (take i commands) command in
      let behind = ap (λ rs. rs ++ reply ∷ []) ran.1 ∙ append_assoc old ran.0 (reply ∷ []) in (
        ran.0 ++ reply ∷ [],
        pushed ∙ behind,
        rw (next, ← taken, calls-push, map_push answer_of ran.0 reply) more,
      )
