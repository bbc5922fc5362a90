-- The states on a parser's stack, each with the symbol by which it was entered: what stands before
-- the dots of their items.
use Rattle.std.proofs.Common.{◌≡◌, ℕ, ◌+◌, ◌<◌, ◌≤◌, zero, suc, inl, inr, List, [], ◌∷◌, ◌++◌, length, get_or, take, drop, reverse, Some, slice_get, refl, sym, ap, ◌∙◌, subst, arith, add-one}
use Rattle.std.proofs.lemmas.Bool.{cases_lt}
use Rattle.std.proofs.lemmas.List.{get_or_past, reverse-append, take_more}
use Rattle.std.proofs.lemmas.Option.{get_or_from_slice_get, same_Some, slice_get_within}
use Rattle.std.specs.List.{Contains}
use Rattle.vob_lr.specs.ItemSets.{HasItem, InClosure, IsAdvanced, Opens}
use Rattle.vob_lr.specs.ItemSets.InClosure.{inside, expands}
use Rattle.vob_lr.specs.Items.{HasNext, IsItem}
use Rattle.vob_lr.specs.Lookaheads.{HasMove, Machine}
use Rattle.vob_lr.specs.States.{AreStates, IsStart}
use Rattle.vob_lr.specs.declared.grammar.Rule.{Rule}
use Rattle.vob_lr.specs.declared.grammar.Symbol.{Symbol}
use Rattle.vob_lr.specs.declared.items.Item.{Item}
use Rattle.vob_lr.specs.declared.state.Move.{Move}
use Rattle.vob_lr.proofs.ItemLemmas.{next_item, one_item}
use Rattle.vob_lr.proofs.MemberLemmas.{move_leads}

module _ (rules : List Rule) where
  -- what a nonterminal brings has its dot first
  opens_first : (a i : ℕ) → Opens rules a i → (item : Item) → IsItem rules i item → item.dot ≡ 0
  opens_first a i (r, rule, is, left, number) item there =
      let first : IsItem rules i (record { rule = r; dot = 0 }) =
      record { rule = rule; is = is; dot = omega arith; number = omega (arith, number) } in
      ap (λ (x : Item). x.dot) (one_item rules i item (record { rule = r; dot = 0 }) there first)

  -- so an item of a closure whose dot isn't first was there before
  closed_from : {Start : ℕ → Type 0} {i : ℕ} → InClosure rules Start i → (item : Item) →
      IsItem rules i item → 0 < item.dot → Start i
  closed_from (inside there) item is past = there
  closed_from (expands {i} {a = a} from next opens) item is past =
      absurd (omega (arith, past, opens_first a i opens item is))

  -- and in the first state each dot is first
  start_first : (set : List ℕ) → IsStart rules set → (i : ℕ) → Contains set i → (item : Item) →
      IsItem rules i item → item.dot ≡ 0
  start_first set h i there item is = elim (cases_lt 0 item.dot) [
    | inl past ↦
        let zero = closed_from ((h.each i).0 there) item is past in
        omega (arith, zero, is.number)
    | inr first ↦ omega (arith, first)
  ]

-- the first d symbols of a right side are the last d of some others, the newest of which is first
abbrev pub EndWith : List Symbol → List Symbol → ℕ → Type 0
EndWith symbols right d = (d ≤ length symbols) × (reverse (take d symbols) ≡ take d right)

end_more : (symbols right : List Symbol) (x : Symbol) (d : ℕ) → EndWith symbols right d →
    slice_get right d ≡ Some x → EndWith (x ∷ symbols) right (d + 1)
end_more symbols right x d (long, same) next = (
  omega (arith, long),
  ap (λ (n : ℕ). reverse (take n (x ∷ symbols))) (add-one d)
      ∙ (reverse-append (x ∷ []) (take d symbols)
      ∙ (ap (λ (xs : List Symbol). xs ++ x ∷ []) same
      ∙ (ap (λ (y : Symbol). take d right ++ y ∷ []) (sym (get_or_from_slice_get right d x x next))
      ∙ sym (take_more right d x (slice_get_within right d x next))))),
)

-- states that moves by some symbols link, the newest first, down to state 0
pub data AreLinked (moves : List (List Move)) : List ℕ → List Symbol → Type 0 where
  bottom : AreLinked moves (0 ∷ []) []
  above : {p q : ℕ} {qs : List ℕ} {x : Symbol} {xs : List Symbol} → HasMove moves q x p →
      AreLinked moves (q ∷ qs) xs → AreLinked moves (p ∷ q ∷ qs) (x ∷ xs)

module _ (m : Machine) (h : AreStates m.grammar.rules.items m.sets m.moves) where
  abbrev rules : List Rule
  rules = m.grammar.rules.items

  -- a state that moves is there
  pub move_inside : (q : ℕ) (x : Symbol) (p : ℕ) → HasMove m.moves q x p → q < length m.sets
  move_inside q x p (k, less, is) = elim (cases_lt q (length m.sets)) [
    | inl low ↦ low
    | inr past ↦
        let none = ap length (get_or_past m.moves q [] (omega (arith, past, h.count))) in
        absurd (omega (arith, less, none))
  ]

  -- an item whose dot isn't first comes from the state before
  moved_from : (q : ℕ) (x : Symbol) (p : ℕ) → HasMove m.moves q x p → (i : ℕ) → HasItem m.sets p i →
      (item : Item) → IsItem rules i item → 0 < item.dot →
      IsAdvanced rules (get_or m.sets q []) x i
  moved_from q x p move i there item is past =
      closed_from rules
      (((move_leads m h q x p (move_inside q x p move) move).goto.each i).0 there) item is past

  -- the item before it
  item_before : (i j d : ℕ) (x : Symbol) (item : Item) (is : IsItem rules i item) → item.dot ≡ suc d →
      (next : HasNext rules j x) → j + 1 ≡ i →
      (next.item.dot ≡ d) × (next.is.rule ≡ is.rule)
  item_before i j d x item is dot next e =
      let after : Item = record { rule = next.item.rule; dot = next.item.dot + 1 } in
      let there = subst (λ (k : ℕ). IsItem rules k after) e (next_item rules j x next) in
      let same = one_item rules i after item there is in
      let dots = ap (λ (z : Item). z.dot) same in
      let own = subst (λ (r : ℕ). slice_get rules r ≡ Some next.is.rule)
      (ap (λ (z : Item). z.rule) same) next.is.is in
      (omega (arith, dots, dot), same_Some next.is.rule is.rule (sym own ∙ is.is))

  -- the symbols before the dot of an item in the newest state are the newest on the stack
  pub dots_linked : {qs : List ℕ} {xs : List Symbol} → AreLinked m.moves qs xs → (i d : ℕ)
      (item : Item) (is : IsItem rules i item) → HasItem m.sets (get_or qs 0 0) i → item.dot ≡ d →
      EndWith xs is.rule.right.items d
  dots_linked bottom i zero item is there dot = (omega arith, refl)
  dots_linked bottom i (suc d) item is there dot =
      absurd (omega (arith, dot, start_first rules (get_or m.sets 0 []) h.first i there item is))
  dots_linked (above move links) i zero item is there dot = (omega arith, refl)
  dots_linked (above {p} {q} {qs} {x} {xs} move links) i (suc d) item is there dot =
      let (j, own, next, e) = moved_from q x p move i there item is (omega (arith, dot)) in
      let before = item_before i j d x item is dot next e in
      let ends = dots_linked links j d next.item next.is own before.0 in
      let at = subst (λ (n : ℕ). slice_get next.is.rule.right.items n ≡ Some x) before.0 next.next in
      let more = end_more xs next.is.rule.right.items x d ends at in
      subst (λ (n : ℕ). EndWith (x ∷ xs) is.rule.right.items n) (add-one d)
      (subst (λ (r : Rule). EndWith (x ∷ xs) r.right.items (d + 1)) before.1 more)

-- what is left of a stack
pub linked_drop : (moves : List (List Move)) {qs : List ℕ} {xs : List Symbol} →
    AreLinked moves qs xs → (n : ℕ) → n ≤ length xs → AreLinked moves (drop n qs) (drop n xs)
linked_drop moves links zero less = links
linked_drop moves bottom (suc n) less = absurd (omega (arith, less))
linked_drop moves (above move links) (suc n) less = linked_drop moves links n (omega (arith, less))

-- one state more
pub linked_push : (moves : List (List Move)) {qs : List ℕ} {xs : List Symbol} →
    AreLinked moves qs xs → (x : Symbol) (p : ℕ) → HasMove moves (get_or qs 0 0) x p →
    AreLinked moves (p ∷ qs) (x ∷ xs)
linked_push moves bottom x p move = above move bottom
linked_push moves (above own links) x p move = above move (above own links)

-- a state more than symbols
pub linked_count : (moves : List (List Move)) {qs : List ℕ} {xs : List Symbol} →
    AreLinked moves qs xs → length qs ≡ length xs + 1
linked_count moves bottom = refl
linked_count moves (above move links) = omega (arith, linked_count moves links)
