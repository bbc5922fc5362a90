-- Passes over sets, seen through a function of them.
use Rattle.std.proofs.Common.{◌≡◌, ℕ, Bool, List, length}
use Rattle.vob_flow.specs.Turns.{ArePasses, ChangeInPasses, TakeTurns}
use Rattle.vob_flow.specs.Turns.TakeTurns.{no_turn, one_more as one_more_turn}
use Rattle.vob_flow.specs.Turns.ChangeInPasses.{no_pass, one_more as one_more_pass}

-- what each turn keeps all keep
module _ {Turn : ℕ → List (List Bool) → List (List Bool) → Type 0} (P : List (List Bool) → Type 0)
    (keeps : (n : ℕ) (sets after : List (List Bool)) → P sets → Turn n sets after → P after) where
  turns_keep : {order : List ℕ} {sets after : List (List Bool)} {i : ℕ} → P sets →
      TakeTurns Turn order sets i after → P after
  turns_keep p no_turn = p
  turns_keep p (one_more_turn turns turn) = keeps _ _ _ (turns_keep p turns) turn

  passes_keep : {order : List ℕ} {sets after : List (List Bool)} {k : ℕ} → P sets →
      ChangeInPasses Turn order sets k after → P after
  passes_keep p no_pass = p
  passes_keep p (one_more_pass passes turns other) = turns_keep (passes_keep p passes) turns

module _ {Turn Turn' : ℕ → List (List Bool) → List (List Bool) → Type 0}
    (f : List (List Bool) → List (List Bool)) (P : List (List Bool) → Type 0)
    (keeps : (n : ℕ) (sets after : List (List Bool)) → P sets → Turn n sets after → P after)
    (maps : (n : ℕ) (sets after : List (List Bool)) → P sets → Turn n sets after →
    Turn' n (f sets) (f after))
    (one_to_one : (sets others : List (List Bool)) → P sets → P others → f sets ≡ f others →
    sets ≡ others) where
  turns_map : {order : List ℕ} {sets after : List (List Bool)} {i : ℕ} → P sets →
      TakeTurns Turn order sets i after → TakeTurns Turn' order (f sets) i (f after)
  turns_map p no_turn = no_turn
  turns_map p (one_more_turn turns turn) =
      one_more_turn (turns_map p turns) (maps _ _ _ (turns_keep P keeps p turns) turn)

  passes_map : {order : List ℕ} {sets after : List (List Bool)} {k : ℕ} → P sets →
      ChangeInPasses Turn order sets k after → ChangeInPasses Turn' order (f sets) k (f after)
  passes_map p no_pass = no_pass
  passes_map p (one_more_pass passes turns other) =
      let mid = passes_keep P keeps p passes in
      one_more_pass (passes_map p passes) (turns_map mid turns)
      (λ e. other (one_to_one _ _ (turns_keep P keeps mid turns) mid e))

  pub ArePasses-map : {starts sets : List (List Bool)} {passes : ℕ} → P starts →
      length (f starts) ≡ length starts → ArePasses Turn starts sets passes →
      ArePasses Turn' (f starts) (f sets) passes
  ArePasses-map {starts} {sets} {passes} p same h = record {
    order = h.order;
    each_once = rw same h.each_once;
    changing = h.changing;
    change = passes_map p h.change;
    last = turns_map (passes_keep P keeps p h.change) h.last;
    is = h.is;
  }
