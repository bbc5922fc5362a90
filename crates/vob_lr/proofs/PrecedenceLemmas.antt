-- A shift and rules, one rule after another.
use Rattle.std.proofs.Common.{◌≡◌, ℕ, ◌+◌, ◌<◌, List, [], ◌∷◌, ◌++◌, drop, get_or, length, None, Option, Some, refl, sym, ap, ◌∙◌}
use Rattle.std.proofs.lemmas.List.{at_drop_more}
use Rattle.vob_lr.specs.Precedences.{against, beside, beside_all, left_of}
use Rattle.vob_lr.specs.declared.precedence.Stays.{Stays}
use Rattle.vob_lr.specs.declared.precedence.Stays.TheVariants.{Shift, Rule, Nothing, Both}

-- ---- rules beside what is left

beside_all-push : (ks : List ℕ) (k : ℕ) (rest : Option ℕ × List ℕ) →
    beside_all (ks ++ k ∷ []) rest ≡ beside_all ks (beside k rest)
beside_all-push [] k rest = refl
beside_all-push (x ∷ ks) k rest = ap (beside x) (beside_all-push ks k rest)

beside_all-nothing : (ks : List ℕ) → beside_all ks (None, []) ≡ (None, [])
beside_all-nothing [] = refl
beside_all-nothing (x ∷ ks) = ap (beside x) (beside_all-nothing ks)

beside_all-rules : (ks : List ℕ) (r : ℕ) (rs : List ℕ) →
    beside_all ks (None, r ∷ rs) ≡ (None, ks ++ r ∷ rs)
beside_all-rules [] r rs = refl
beside_all-rules (x ∷ []) r rs = refl
beside_all-rules (x ∷ y ∷ ks) r rs = ap (beside x) (beside_all-rules (y ∷ ks) r rs)

pub beside_all-shift : (ks : List ℕ) (p : ℕ) → beside_all ks (Some p, []) ≡ (Some p, ks)
beside_all-shift [] p = refl
beside_all-shift (x ∷ ks) p = ap (beside x) (beside_all-shift ks p)

-- ---- the next rule

module _ (which : ℕ → Stays) (p : ℕ) (rules kept : List ℕ) (k : ℕ) (less : k < length rules)
    (so_far : left_of which p rules ≡ beside_all kept (left_of which p (drop k rules))) where
  abbrev r : ℕ
  r = get_or rules k 0

  abbrev after : List ℕ
  after = drop (k + 1) rules

  at : drop k rules ≡ r ∷ after
  at = at_drop_more (λ xs. xs) rules k 0 less

  next : left_of which p rules ≡ beside_all kept (against (which r) r after (left_of which p after))
  next = so_far ∙ ap (λ xs. beside_all kept (left_of which p xs)) at

  pub next_both : which r ≡ Both →
      left_of which p rules ≡ beside_all (kept ++ r ∷ []) (left_of which p after)
  next_both same =
      next ∙ ap (λ s. beside_all kept (against s r after (left_of which p after))) same
      ∙ sym (beside_all-push kept r (left_of which p after))

  pub next_shift : which r ≡ Shift → left_of which p rules ≡ beside_all kept (left_of which p after)
  next_shift same =
      next ∙ ap (λ s. beside_all kept (against s r after (left_of which p after))) same

  pub next_rule : which r ≡ Rule → (None, kept ++ drop k rules) ≡ left_of which p rules
  next_rule same =
      ap (λ xs. (None, kept ++ xs)) at ∙ sym (beside_all-rules kept r after)
      ∙ sym (next ∙ ap (λ s. beside_all kept (against s r after (left_of which p after))) same)

  pub next_nothing : which r ≡ Nothing → (None, []) ≡ left_of which p rules
  next_nothing same =
      sym (beside_all-nothing kept)
      ∙ sym (next ∙ ap (λ s. beside_all kept (against s r after (left_of which p after))) same)
