-- The list of one number more.
use Rattle.std.proofs.Common.{◌∙◌, ◌++◌, ◌∷◌, [], ℕ, List, Vec, Global, ap, map, arith, sym}
use Rattle.std.specs.List.{range_with_len}
use Rattle.std.proofs.lemmas.List.{map-append}
use Rattle.std.proofs.lemmas.List.FromFn.{map-range_with_len_more}
use Rattle.files_flow.proofs.problem.single_lists.Goals as goal

pub loop-number-preserved : goal.loop-number-preserved
loop-number-preserved c =
    let k = c.loop-number.number in
    rw c.in_ok-push.ensures.items (map-append (λ (own : Vec ℕ Global). own.items) c.loop-number.lists.items _
    ∙ ap (λ (xs : List (List ℕ)). xs ++ c.in_ok-vec.field-0.items ∷ []) c.loop-number.invariant
    ∙ ap (λ (x : List ℕ). map (λ (y : ℕ). y ∷ []) (range_with_len 0 k) ++ x ∷ []) c.in_ok-vec.ensures.items
    ∙ sym (map-range_with_len_more (λ (x : ℕ). x ∷ []) 0 k k (omega arith)))
