-- Immediate dominators as numbers, one of which stands for none.
use Rattle.std.specs.Prelude.{Option, Some, None, IfSome, unwrap_or}
use Rattle.std.proofs.Common.{◌≡◌, ℕ, ◌<◌, ◌≤◌, List, [], ◌∷◌, length, get_or, Contains, sym, ap, ◌∙◌, subst, arith, inl, inr}
use Rattle.std.proofs.lemmas.List.Elements.{Contains-append_cases}
use Rattle.vob_block.proofs.PackingLemmas.{true_inside}
use Rattle.vob_flow.specs.Dominators.{HasPath, IsDominatorTree, IsImmediate, IsPath, Tree}
use Rattle.vob_flow.specs.Dominators.IsPath.{start, step}
use Rattle.vob_c.specs.Found.{found_below}
use Rattle.vob_c.proofs.FoundLemmas.{found_is, found_most}

alone : (n m : ℕ) → Contains (n ∷ []) m → n ≡ m
alone n m there =
    let first : there.0 ≡ 0 = omega (arith, there.1) in
    sym (ap (λ k. get_or (n ∷ []) k m) first) ∙ there.2

-- a path leads to each node of one
path_to : (before : List (List ℕ)) (entry : ℕ) {path : List ℕ} {n : ℕ} → IsPath before entry path n
    → (d : ℕ) → Contains path d → HasPath before entry d
path_to before entry start d there =
    (entry ∷ [], subst (IsPath before entry (entry ∷ [])) (alone entry d there) start)
path_to before entry (step {path} {m} {n} rest edge) d there =
    elim (Contains-append_cases (n ∷ []) path d there) [
      | inl first ↦ (n ∷ path, subst (IsPath before entry (n ∷ path)) (alone n d first) (step rest edge))
      | inr later ↦ path_to before entry rest d later
    ]

module _ (before : List (List ℕ)) (entry : ℕ) (tree : Tree) (h : IsDominatorTree before entry tree) (nodes : ℕ)
    (long : nodes ≡ length tree.reached) (n r : ℕ) where
  inside : (found : Option ℕ) → IsImmediate before entry n found → IfSome found (λ d. d < nodes)
  inside None is = tt
  inside (Some d) is =
      let path = is.0 in
      omega (
        arith,
        long,
        true_inside tree.reached d ((h.leads d).1
            (path_to before entry path.1 d (is.1 path.0 path.1))),
      )

  pub immediate_is : (found : Option ℕ) → r ≡ unwrap_or found nodes → IsImmediate before entry n found
      → (r ≤ nodes) × IsImmediate before entry n (found_below nodes r)
  immediate_is found is own = (
    found_most nodes r found is (inside found own),
    subst (IsImmediate before entry n) (sym (found_is nodes r found is (inside found own))) own,
  )
