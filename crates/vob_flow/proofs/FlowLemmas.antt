-- The nodes of a flow graph, and the first at which something is wrong.
use Rattle.std.proofs.Common.{◌≡◌, ◌≢◌, ◌↔◌, ℕ, List, Result, Ok, Err, All, sym, ap, subst}
use Rattle.vob_flow.specs.declared.live.Flow.{Flow}
use Rattle.vob_flow.specs.declared.live.LiveError.{LiveError}
use Rattle.vob_flow.specs.declared.live.LiveError.TheVariants.{Memory, BadVariable, BadNext}
use Rattle.vob_flow.specs.FlowFaults.{NamesVariables, IsSound, IsBadVariable, IsBadNext}
use Rattle.vob_flow.specs.FlowFaults.{IsFlowFault}
use Rattle.vob_flow.proofs.FirstLemmas.{same_at, all_at, one_first}

-- ---- which refusal

module _ (vars : ℕ) (nodes : List Flow) where
  -- where nothing is wrong no node is the first with a fault
  no_bad_variable : All (IsSound vars nodes) nodes → (n : ℕ) → ¬ IsBadVariable vars nodes n
  no_bad_variable all n h = h.bad (all_at (IsSound vars nodes) nodes all n h.flow h.is).0

  no_bad_next : All (IsSound vars nodes) nodes → (n : ℕ) → ¬ IsBadNext vars nodes n
  no_bad_next all n h = h.bad (all_at (IsSound vars nodes) nodes all n h.flow h.is).1

  -- so what no answer says, none is
  pub not_variable : {P : ℕ → Type 0} → All (IsSound vars nodes) nodes → ((n : ℕ) → ¬ P n) → (n : ℕ)
      → P n ↔ IsBadVariable vars nodes n
  not_variable all none n = ((λ p. absurd (none n p)), (λ bad. absurd (no_bad_variable all n bad)))

  pub not_next : {P : ℕ → Type 0} → All (IsSound vars nodes) nodes → ((n : ℕ) → ¬ P n) → (n : ℕ)
      → P n ↔ IsBadNext vars nodes n
  not_next all none n = ((λ p. absurd (none n p)), (λ bad. absurd (no_bad_next all n bad)))

  -- one node has both faults at first: no
  one_fault : (n m : ℕ) → IsBadVariable vars nodes n → ¬ IsBadNext vars nodes m
  one_fault n m h g =
      let same = one_first (IsSound vars nodes) nodes n m h.flow g.flow h.lower g.lower h.is g.is
      (λ sound. h.bad sound.0) (λ sound. g.bad sound.1) in
      let flow = same_at nodes n m h.flow g.flow same h.is g.is in
      h.bad (subst (NamesVariables vars) (sym flow) g.good)

  pub refuses_variable : {T : Type 0} (fault : LiveError) → IsFlowFault vars nodes fault → (n : ℕ) →
      ◌≡◌ {A = Result T LiveError} (Err fault) (Err (BadVariable n)) ↔ IsBadVariable vars nodes n
  refuses_variable Memory is n = absurd is
  refuses_variable (BadVariable m) is n = (
    (λ e. let same : m ≡ n = cc in subst (IsBadVariable vars nodes) same is),
    (λ h. ap (λ k. Err (BadVariable k)) (one_first (IsSound vars nodes) nodes m n is.flow h.flow
        is.lower h.lower is.is h.is (λ sound. is.bad sound.0) (λ sound. h.bad sound.0))),
  )
  refuses_variable (BadNext m) is n = ((λ e. cc), (λ h. absurd (one_fault n m h is)))

  pub refuses_next : {T : Type 0} (fault : LiveError) → IsFlowFault vars nodes fault → (n : ℕ) →
      ◌≡◌ {A = Result T LiveError} (Err fault) (Err (BadNext n)) ↔ IsBadNext vars nodes n
  refuses_next Memory is n = absurd is
  refuses_next (BadVariable m) is n = ((λ e. cc), (λ h. absurd (one_fault m n is h)))
  refuses_next (BadNext m) is n = (
    (λ e. let same : m ≡ n = cc in subst (IsBadNext vars nodes) same is),
    (λ h. ap (λ k. Err (BadNext k)) (one_first (IsSound vars nodes) nodes m n is.flow h.flow
        is.lower h.lower is.is h.is (λ sound. is.bad sound.1) (λ sound. h.bad sound.1))),
  )

-- ---- the same refusals of what is made of an answer

module _ {A B P : Type 0} where
  pub refuses_too : (e f : LiveError) → (◌≡◌ {A = Result A LiveError} (Err e) (Err f) ↔ P)
      → ◌≡◌ {A = Result B LiveError} (Err e) (Err f) ↔ P
  refuses_too e f same = (
    (λ is. let one : e ≡ f = cc in same.0 (ap Err one)),
    (λ p. let is = same.1 p in let one : e ≡ f = cc in ap Err one),
  )

  pub answers_too : (a : A) (b : B) (f : LiveError) → (◌≡◌ {A = Result A LiveError} (Ok a) (Err f) ↔ P)
      → ◌≡◌ {A = Result B LiveError} (Ok b) (Err f) ↔ P
  answers_too a b f same = ((λ is. cc), (λ p. let is = same.1 p in cc))

  pub refuses_other : (a : A) (e f : LiveError) → (◌≡◌ {A = Result A LiveError} (Ok a) (Err f) ↔ P)
      → e ≢ f → ◌≡◌ {A = Result B LiveError} (Err e) (Err f) ↔ P
  refuses_other a e f same other =
      ((λ is. let one : e ≡ f = cc in absurd (other one)), (λ p. let is = same.1 p in cc))
