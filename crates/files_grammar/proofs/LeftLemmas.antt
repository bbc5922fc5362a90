-- The rules that bison leaves if precedence makes a cell an error, one rule after another.
use Rattle.std.proofs.Common.{◌≡◌, ℕ, ◌+◌, ◌<◌, ◌≤◌, List, [], ◌∷◌, ◌++◌, drop, get_or, length, sym, ap, ◌∙◌}
use Rattle.std.proofs.lemmas.List.{append_assoc, append-nil, at_drop_more, drop_all}
use Rattle.files_grammar.specs.Conflicts.{left_after, left_by_error}
use Rattle.files_grammar.specs.declared.conflicts.Decided.{Decided}
use Rattle.files_grammar.specs.declared.conflicts.Decided.TheVariants.{One, Both as BothStay, Neither}

module _ (which : ℕ → Decided) (rules kept : List ℕ) (k : ℕ) where
  module _ (less : k < length rules)
      (so_far : kept ++ left_by_error which (drop k rules) ≡ left_by_error which rules) where
    abbrev r : ℕ
    r = get_or rules k 0

    abbrev others : List ℕ
    others = drop (k + 1) rules

    at : drop k rules ≡ r ∷ others
    at = at_drop_more (λ xs. xs) rules k 0 less

    by : (d : Decided) → which r ≡ d →
        kept ++ left_after d r others (left_by_error which others) ≡ left_by_error which rules
    by d same =
        sym (ap (λ d. kept ++ left_after d r others (left_by_error which others)) same)
        ∙ sym (ap (λ xs. kept ++ left_by_error which xs) at) ∙ so_far

    pub next_one : which r ≡ One → kept ++ left_by_error which others ≡ left_by_error which rules
    next_one same = by One same

    pub next_both : which r ≡ BothStay →
        (kept ++ r ∷ []) ++ left_by_error which others ≡ left_by_error which rules
    next_both same = append_assoc kept (r ∷ []) (left_by_error which others) ∙ by BothStay same

    pub next_neither : which r ≡ Neither → kept ++ others ≡ left_by_error which rules
    next_neither same = by Neither same

  pub next_none : length rules ≤ k →
      kept ++ left_by_error which (drop k rules) ≡ left_by_error which rules → kept ≡ left_by_error which rules
  next_none past so_far =
      sym (append-nil kept) ∙ sym (ap (λ xs. kept ++ left_by_error which xs) (drop_all k rules past)) ∙ so_far
