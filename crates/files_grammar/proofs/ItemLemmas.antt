-- The numbers of items, and their lines.
use Rattle.std.proofs.Common.{◌≡◌, ℕ, ◌+◌, ◌<◌, ◌≤◌, inl, inr, List, length, Option, Some, slice_get, refl, sym, ap, ◌∙◌, subst, arith}
use Rattle.std.specs.Io.KnownBytes.{Appends}
use Rattle.std.proofs.lemmas.List.Sums.{sum_by_more, sum_by-take-le}
use Rattle.std.proofs.lemmas.Option.{get_or_from_slice_get, same_Some, slice_get_within}
use Rattle.vob_lr.specs.Items.{IsItem, first_item, item_count, item_total}
use Rattle.vob_lr.specs.Lookaheads.{Machine}
use Rattle.vob_lr.specs.declared.grammar.Rule.{Rule}
use Rattle.vob_lr.specs.declared.items.Item.{Item}
use Rattle.files_text.specs.Printed.{Writes, line_end}
use Rattle.files_grammar.specs.ItemText.{CanReduce, IsShown, SaysAhead, SaysItem, dotted_rule}
use Rattle.files_grammar.specs.Texts.{Both, SaysIf}
use Rattle.files_grammar.specs.declared.file.SymbolNames.{SymbolNames}
use Rattle.files_grammar.proofs.TextLemmas.{after, before, writes_as, writes_nothing}

first_item-more : (rules : List Rule) (r : ℕ) (rule : Rule) → slice_get rules r ≡ Some rule →
    first_item rules (r + 1) ≡ first_item rules r + item_count rule
first_item-more rules r rule is =
    sum_by_more item_count rules r rule (slice_get_within rules r rule is)
    ∙ ap (λ (x : Rule). first_item rules r + item_count x) (get_or_from_slice_get rules r rule rule is)

-- the number of an item is below the count of all
pub item_inside : (rules : List Rule) (i : ℕ) (item : Item) → IsItem rules i item → i < item_total rules
item_inside rules i item h =
    let more = first_item-more rules item.rule h.rule h.is in
    let le : first_item rules (item.rule + 1) ≤ item_total rules = sum_by-take-le item_count rules (item.rule + 1) in
    omega (arith, h.number, h.dot, more, le)

module _ (m : Machine) (names : SymbolNames) (q i : ℕ) (item : Item) (is : IsItem m.grammar.rules.items i item)
    (rule : Rule) (at : slice_get m.grammar.rules.items item.rule ≡ Some rule) where
  same_rule : rule ≡ is.rule
  same_rule = same_Some rule is.rule (sym at ∙ is.is)

  pub dot_inside : item.dot ≤ length rule.right.items
  dot_inside = omega (arith, is.dot, ap (λ (r : Rule). length r.right.items) same_rule)

  pub says_item : (a b c d : Option (List ℕ)) → IsShown rule item → Appends a b (dotted_rule names rule item.dot) →
      Writes b c (SaysIf (CanReduce rule item) (SaysAhead m names q i)) → Appends c d line_end →
      Writes a d (SaysItem m names q i)
  says_item a b c d shown dotted ahead ended =
      writes_as a d (λ text says. record {
        item = item;
        is = is;
        line = subst (λ (r : Rule). SaysIf (IsShown r item) (Both (λ part. part ≡ dotted_rule names r item.dot)
            (Both (SaysIf (CanReduce r item) (SaysAhead m names q i)) (λ part. part ≡ line_end))) text) same_rule
            (inl (shown, says));
      })
      (after a b d (dotted_rule names rule item.dot) dotted (before b c d line_end ahead ended))

  pub says_none : (a : Option (List ℕ)) → (¬ IsShown rule item) → Writes a a (SaysItem m names q i)
  says_none a hidden =
      writes_nothing a (record {
        item = item;
        is = is;
        line = inr (subst (λ (r : Rule). ¬ IsShown r item) same_rule hidden, refl);
      })
