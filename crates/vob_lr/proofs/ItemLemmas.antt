-- The items of a grammar, by their numbers.
use Rattle.std.proofs.Common.{◌≡◌, ◌↔◌, ℕ, ◌+◌, ◌<◌, ◌≤◌, inl, inr, List, [], ◌∷◌, ◌++◌, length, get_or, take, None, Option, Some, slice_get, refl, sym, ap, ◌∙◌, subst, arith}
use Rattle.std.specs.List.{sum_by}
use Rattle.std.proofs.lemmas.Bool.{cases_lt}
use Rattle.std.proofs.lemmas.List.{get_or_append_left, get_or_push, length_push, take_all, take-take}
use Rattle.std.proofs.lemmas.List.Sums.{sum_by-cons, sum_by_more, sum_by-take-le}
use Rattle.std.proofs.lemmas.Option.{get_or_from_slice_get, none-some, same_Some, slice_get_within}
use Rattle.vob_lr.specs.declared.items.Item.{Item}
use Rattle.vob_lr.specs.declared.grammar.Rule.{Rule}
use Rattle.vob_lr.specs.declared.grammar.Symbol.{Symbol}
use Rattle.vob_lr.specs.ItemTables.{AreFirsts, AreItems}
use Rattle.vob_lr.specs.Items.{Completes, HasNext, IsItem, NextItemIsBehind, first_item, item_count, item_total}

-- the items of one rule more
pub first_item-more : (rules : List Rule) (r : ℕ) (rule : Rule) → slice_get rules r ≡ Some rule →
    first_item rules (r + 1) ≡ first_item rules r + item_count rule
first_item-more rules r rule is =
    sum_by_more item_count rules r rule (slice_get_within rules r rule is)
    ∙ ap (λ (x : Rule). first_item rules r + item_count x) (get_or_from_slice_get rules r rule rule is)

pub first_item-all : (rules : List Rule) (n : ℕ) → length rules ≤ n → first_item rules n ≡ item_total rules
first_item-all rules n past = ap (sum_by item_count) (take_all n rules past)

-- the items of some rules are no more than those of more rules
pub first_item-le : (rules : List Rule) (r s : ℕ) → r ≤ s → first_item rules r ≤ first_item rules s
first_item-le rules r s less =
    subst (λ (xs : List Rule). sum_by item_count xs ≤ first_item rules s) (take-take r s rules less)
    (sum_by-take-le item_count (take s rules) r)

pub first_item-le_total : (rules : List Rule) (r : ℕ) → first_item rules r ≤ item_total rules
first_item-le_total rules r = sum_by-take-le item_count rules r

-- ---- an item and its number

-- all items of a rule come before those of a later one
item_below : (rules : List Rule) (i : ℕ) (item : Item) → IsItem rules i item → (s : ℕ) →
    item.rule < s → i < first_item rules s
item_below rules i item h s less =
    let more = first_item-more rules item.rule h.rule h.is in
    let le = first_item-le rules (item.rule + 1) s (omega (arith, less)) in
    omega (arith, h.number, h.dot, more, le)

pub item_inside : (rules : List Rule) (i : ℕ) (item : Item) → IsItem rules i item →
    i < item_total rules
item_inside rules i item h =
    let below = item_below rules i item h (item.rule + 1) (omega arith) in
    omega (arith, below, first_item-le_total rules (item.rule + 1))

-- a rule has a first item
pub first_below : (rules : List Rule) (r : ℕ) (rule : Rule) → slice_get rules r ≡ Some rule →
    first_item rules r < item_total rules
first_below rules r rule is =
    item_inside rules (first_item rules r) record { rule = r; dot = 0 }
    record { rule = rule; is = is; dot = omega arith; number = omega arith }

-- and the item behind one with a symbol behind its dot is there
pub next_item : NextItemIsBehind
next_item rules i x ahead =
    let less = slice_get_within ahead.is.rule.right.items ahead.item.dot x ahead.next in record {
      rule = ahead.is.rule;
      is = ahead.is.is;
      dot = omega arith;
      number = omega (arith, ahead.is.number);
    }

pub next_inside : (rules : List Rule) (i : ℕ) (x : Symbol) → HasNext rules i x →
    i + 1 < item_total rules
next_inside rules i x ahead = item_inside rules (i + 1) _ (next_item rules i x ahead)

-- where there is a rule there is an item
pub item_first : (rules : List Rule) → 0 < length rules → 0 < item_total rules
item_first [] less = absurd (omega (arith, less))
item_first (rule ∷ rules) less = omega (arith, sum_by-cons item_count rule rules)

one_rule : (rules : List Rule) (i : ℕ) (x y : Item) → IsItem rules i x → IsItem rules i y →
    x.rule ≡ y.rule
one_rule rules i x y h k = elim (cases_lt x.rule y.rule) [
  | inl less ↦
      let below = item_below rules i x h y.rule less in
      absurd (omega (arith, below, k.number))
  | inr past ↦ elim (cases_lt y.rule x.rule) [
    | inl less ↦
        let below = item_below rules i y k x.rule less in
        absurd (omega (arith, below, h.number))
    | inr same ↦ omega (arith, past, same)
  ]
]

-- a number is that of one item
pub one_item : (rules : List Rule) (i : ℕ) (x y : Item) → IsItem rules i x → IsItem rules i y → x ≡ y
one_item rules i x y h k =
    let same = one_rule rules i x y h k in
    let first = ap (first_item rules) same in
    let dots : x.dot ≡ y.dot = omega (arith, first, h.number, k.number) in
    ap (λ (r : ℕ). let z : Item = record { rule = r; dot = x.dot } in z) same
    ∙ ap (λ (d : ℕ). let z : Item = record { rule = y.rule; dot = d } in z) dots

-- a rule has one item with the dot behind all
pub one_complete : (rules : List Rule) (r i j : ℕ) → Completes rules r i → Completes rules r j → i ≡ j
one_complete rules r i j h k =
    let own = subst (λ n. slice_get rules n ≡ Some h.is.rule) h.rule h.is.is in
    let other = subst (λ n. slice_get rules n ≡ Some k.is.rule) k.rule k.is.is in
    let long = ap (λ (x : Rule). length x.right.items)
    (same_Some h.is.rule k.is.rule (sym own ∙ other)) in
    omega (
      arith,
      ap (first_item rules) h.rule,
      ap (first_item rules) k.rule,
      h.is.number,
      k.is.number,
      h.dot,
      k.dot,
      long,
    )

-- and a later complete item is that of a later rule
pub complete_rises : (rules : List Rule) (r s i j : ℕ) → Completes rules r i → Completes rules s j → i < j → r < s
complete_rises rules r s i j h k less = elim (cases_lt r s) [
  | inl low ↦ low
  | inr past ↦ elim (cases_lt s r) [
    | inl low ↦
        let below = item_below rules j k.item k.is r (omega (arith, low, k.rule)) in
        absurd (omega (arith, below, h.is.number, ap (first_item rules) h.rule, less))
    | inr over ↦
        let same : s ≡ r = omega (arith, past, over) in
        let other = subst (λ (n : ℕ). Completes rules n j) same k in
        absurd (omega (arith, less, one_complete rules r i j h other))
  ]
]

-- an item completes the rule of which it is, if its dot is behind the right side
pub one_completed : (rules : List Rule) (r s i : ℕ) → Completes rules r i → Completes rules s i → r ≡ s
one_completed rules r s i h k =
    sym h.rule ∙ ap (λ (z : Item). z.rule) (one_item rules i h.item k.item h.is k.is) ∙ k.rule

module _ (rules : List Rule) (i : ℕ) (item : Item) (is : IsItem rules i item) (r : ℕ) where
  pub completes_last : length is.rule.right.items ≤ item.dot → (Some item.rule ≡ Some r) ↔ Completes rules r i
  completes_last past = (
    (λ e. record { item = item; is = is; rule = same_Some item.rule r e; dot = omega (arith, is.dot, past) }),
    (λ h. ap Some (ap (λ (z : Item). z.rule) (one_item rules i item h.item is h.is) ∙ h.rule)),
  )

  pub completes_not : item.dot < length is.rule.right.items → (None ≡ Some r) ↔ Completes rules r i
  completes_not less = (
    (λ e. absurd (none-some r e)),
    (λ h.
        let same = one_item rules i item h.item is h.is in
        let there = subst (λ (z : Item). slice_get rules z.rule ≡ Some is.rule) same is.is in
        let long = ap (λ (x : Rule). length x.right.items)
        (same_Some is.rule h.is.rule (sym there ∙ h.is.is)) in
        absurd (omega (arith, less, long, h.dot, ap (λ (z : Item). z.dot) same))),
  )

-- what stands behind its dot
pub next_is : (rules : List Rule) (i : ℕ) (item : Item) (is : IsItem rules i item) (x : Symbol) →
    (slice_get is.rule.right.items item.dot ≡ Some x) ↔ HasNext rules i x
next_is rules i item is x = (
  (λ e. record { item = item; is = is; next = e }),
  (λ h.
      let same = one_item rules i h.item item h.is is in
      let there = subst (λ (z : Item). slice_get rules z.rule ≡ Some h.is.rule) same h.is.is in
      let rule = same_Some h.is.rule is.rule (sym there ∙ is.is) in
      subst (λ (r : Rule). slice_get r.right.items item.dot ≡ Some x) rule
      (subst (λ (z : Item). slice_get h.is.rule.right.items z.dot ≡ Some x) same h.next)),
)

pub next_read : (rules : List Rule) (i : ℕ) (item : Item) → IsItem rules i item → (rule : Rule) →
    rule ≡ get_or rules item.rule rule → (found : Option Symbol) →
    found ≡ slice_get rule.right.items item.dot → (x : Symbol) → (found ≡ Some x) ↔ HasNext rules i x
next_read rules i item is rule read found same x =
    let there = get_or_from_slice_get rules item.rule is.rule rule is.is in
    let e = same ∙ ap (λ (r : Rule). slice_get r.right.items item.dot) (read ∙ there) in
    let next = next_is rules i item is x in
    ((λ h. next.0 (sym e ∙ h)), (λ h. e ∙ next.1 h))

-- the number of an item that is there
pub number_is : (rules : List Rule) (item : Item) (rule : Rule) (first : ℕ) →
    slice_get rules item.rule ≡ Some rule → item.dot ≤ length rule.right.items →
    first ≡ first_item rules item.rule → (i : ℕ) →
    (Some (first + item.dot) ≡ Some i) ↔ IsItem rules i item
number_is rules item rule first is dot same i = (
  (λ e. record {
    rule = rule;
    is = is;
    dot = dot;
    number = omega (arith, same, same_Some (first + item.dot) i e);
  }),
  (λ h. ap Some (omega (arith, same, h.number))),
)

-- and of one that isn't: the rule isn't there, or its right side isn't so long
pub no_rule : (rules : List Rule) (item : Item) → length rules ≤ item.rule → (i : ℕ) →
    (None ≡ Some i) ↔ IsItem rules i item
no_rule rules item past i = (
  (λ e. absurd (none-some i e)),
  (λ h. absurd (omega (arith, past, slice_get_within rules item.rule h.rule h.is))),
)

pub no_dot : (rules : List Rule) (item : Item) (rule : Rule) →
    slice_get rules item.rule ≡ Some rule → length rule.right.items < item.dot → (i : ℕ) →
    (None ≡ Some i) ↔ IsItem rules i item
no_dot rules item rule is past i = (
  (λ e. absurd (none-some i e)),
  (λ h.
      let same = same_Some h.rule rule (sym h.is ∙ is) in
      let long = ap (λ (r : Rule). length r.right.items) same in
      absurd (omega (arith, past, long, h.dot))),
)

-- ---- tables of items

pub AreItems-none : (rules : List Rule) → AreItems rules 0 []
AreItems-none rules = record { total = refl; each = λ i d less. absurd (omega (arith, less)) }

pub AreItems-push : (rules : List Rule) (n : ℕ) (items : List Item) (item : Item) →
    AreItems rules n items → IsItem rules n item → AreItems rules (n + 1) (items ++ item ∷ [])
AreItems-push rules n items item h is = record {
  total = length_push items item ∙ ap (λ k. k + 1) h.total;
  each = λ i d inside. elim (cases_lt i (length items)) [
    | inl less ↦ subst (IsItem rules i) (sym (get_or_append_left items (item ∷ []) d i less)) (h.each i d less)
    | inr past ↦
        let here : length items ≡ i = omega (arith, past, inside, length_push items item) in
        let same : n ≡ i = sym h.total ∙ here in
        subst (IsItem rules i) (sym (get_or_push items item d i here))
        (subst (λ (j : ℕ). IsItem rules j item) same is)
  ];
}

pub AreFirsts-none : (rules : List Rule) → AreFirsts rules 0 []
AreFirsts-none rules = record { total = refl; each = λ i d less. absurd (omega (arith, less)) }

pub AreFirsts-push : (rules : List Rule) (n : ℕ) (firsts : List ℕ) (first : ℕ) →
    AreFirsts rules n firsts → first ≡ first_item rules n →
    AreFirsts rules (n + 1) (firsts ++ first ∷ [])
AreFirsts-push rules n firsts first h is = record {
  total = length_push firsts first ∙ ap (λ k. k + 1) h.total;
  each = λ r d inside. elim (cases_lt r (length firsts)) [
    | inl less ↦ get_or_append_left firsts (first ∷ []) d r less ∙ h.each r d less
    | inr past ↦
        let here : length firsts ≡ r = omega (arith, past, inside, length_push firsts first) in
        get_or_push firsts first d r here ∙ is ∙ ap (first_item rules) (sym h.total ∙ here)
  ];
}
