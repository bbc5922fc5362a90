-- The states that are left once the newest are.
use Rattle.std.proofs.Common.{◌≡◌, ℕ, ◌-◌, ◌≤◌, List, ◌++◌, length, take, drop, reverse, sym, ap, ◌∙◌, inl, inr, arith}
use Rattle.std.proofs.lemmas.Bool.{cases_lt}
use Rattle.std.proofs.lemmas.List.{drop_all, length-drop, length-reverse, reverse-append, take-append-drop}
use Rattle.std.proofs.Math.Seq.{drop-append_seam}

-- so many of the last are the first ones in reverse
dropped_newest : (xs : List ℕ) (count : ℕ) → count ≤ length xs →
    drop count (reverse xs) ≡ reverse (take (length xs - count) xs)
dropped_newest xs count less =
    let n = length xs - count in
    let newest = reverse (drop n xs) in
    let older = reverse (take n xs) in
    let long : count ≡ length newest = omega (arith, less, length-reverse (drop n xs), length-drop n xs) in
    ap (λ (ys : List ℕ). drop count (reverse ys)) (sym (take-append-drop n xs))
    ∙ ap (drop count) (reverse-append (take n xs) (drop n xs))
    ∙ ap (λ (k : ℕ). drop k (newest ++ older)) long ∙ drop-append_seam newest older

-- all of them, if there are no more
pub left_states : (xs : List ℕ) (count : ℕ) →
    drop count (reverse xs) ≡ reverse (take (length xs - count) xs)
left_states xs count = elim (cases_lt (length xs) count) [
  | inl few ↦
      let none : length xs - count ≡ 0 = omega (arith, few) in
      drop_all count (reverse xs) (omega (arith, few, length-reverse xs))
      ∙ ap (λ (n : ℕ). reverse (take n xs)) (sym none)
  | inr enough ↦ dropped_newest xs count enough
]
