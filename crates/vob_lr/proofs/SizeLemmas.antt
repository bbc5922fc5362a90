-- By how many rules symbols become empty.
use Rattle.std.proofs.Common.{◌≡◌, ℕ, ◌+◌, ◌<◌, inl, inr, min, Bool, true, List, [], ◌∷◌, ◌++◌, get_or, length, set, Some, refl, sym, ap, ◌∙◌, subst, arith}
use Rattle.std.specs.List.{Contains}
use Rattle.std.proofs.lemmas.Bool.{cases_eq, cases_lt}
use Rattle.std.proofs.lemmas.List.{get_or-set_other, get_or-set_same, length-set}
use Rattle.vob.specs.Bits.{IsWritten}
use Rattle.std.proofs.lemmas.Option.{slice_get-get_or}
use Rattle.vob_lr.specs.Becoming.Becomes.{nothing}
use Rattle.vob_lr.specs.Sizes.{AreSized, BecomeEmptyBelow, IsSize}
use Rattle.vob_lr.specs.declared.grammar.Rule.{Rule}
use Rattle.vob_lr.specs.declared.grammar.Symbol.{Symbol}
use Rattle.vob_lr.specs.declared.grammar.Symbol.TheVariants.{Nonterminal}
use Rattle.vob_lr.proofs.SmallLemmas.{short_both, short_rule}

module _ (greatest : ℕ) (rules : List Rule) where
  pub nothing_below : BecomeEmptyBelow greatest rules [] 1
  nothing_below = inr (0, record { by = []; becomes = nothing; long = omega arith }, omega arith)

  -- one nonterminal more
  pub below_more : (xs : List Symbol) (a size own after : ℕ) → BecomeEmptyBelow greatest rules xs size →
      IsSize greatest rules a own → after ≡ min (size + own) greatest →
      BecomeEmptyBelow greatest rules (xs ++ Nonterminal a ∷ []) after
  below_more xs a size own after h g is = elim (cases_lt after greatest) [
    | inr past ↦ inl past
    | inl low ↦
        let sum : after ≡ size + own = omega (arith, is, low) in
        elim h [
          | inl past ↦ absurd (omega (arith, past, sum, low))
          | inr (n, short, less) ↦ elim g [
            | inl past ↦ absurd (omega (arith, past, sum, low))
            | inr alone ↦ inr (n + own, short_both rules short alone, omega (arith, less, sum))
          ]
        ]
  ]

  pub size_of_rule : (rule : Rule) (size : ℕ) → Contains rules rule →
      BecomeEmptyBelow greatest rules rule.right.items size → IsSize greatest rules rule.left size
  size_of_rule rule size (r, less, is) h = elim h [
    | inl past ↦ inl past
    | inr (n, short, few) ↦
        let at = slice_get-get_or rules r rule less ∙ ap Some is in
        let own = short_rule rules r rule at refl short in
        inr (record { by = own.by; becomes = own.becomes; long = omega (arith, own.long, few) })
  ]

-- a set that gains a nonterminal, with its size
pub AreSized-written : (greatest : ℕ) (rules : List Rule) (nullable after : List Bool) (sizes : List ℕ)
    (a size : ℕ) → a < length nullable → IsWritten nullable a true after → IsSize greatest rules a size →
    AreSized greatest rules nullable sizes → AreSized greatest rules after (set sizes a size)
AreSized-written greatest rules nullable after sizes a size less w own h = record {
  long = length-set sizes a size ∙ h.long ∙ sym w.len;
  each = λ b there. elim (cases_eq b a) [
    | inl here ↦
        let read = get_or-set_same sizes a size 0 (omega (arith, less, h.long)) in
        subst (λ (n : ℕ). IsSize greatest rules n (get_or (set sizes a size) n 0)) (sym here)
        (subst (λ (n : ℕ). IsSize greatest rules a n) (sym read) own)
    | inr other ↦
        subst (λ (n : ℕ). IsSize greatest rules b n) (sym (get_or-set_other sizes a b size 0 other))
        (h.each b (sym (w.others b other) ∙ there))
  ];
}
