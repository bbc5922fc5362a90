-- One step of a parser, as its parts take it.
use Rattle.std.proofs.Common.{◌≡◌, ◌↔◌, ℕ, Bool, List, [], length, get_or, drop, None, Option, Some, slice_get, refl, sym, ap, ◌∙◌, subst, arith}
use Rattle.std.specs.Bool.{IsTrue}
use Rattle.std.proofs.lemmas.Option.{get_or_from_slice_get, none-some, same_Some}
use Rattle.vob_lr.specs.Accepting.{Accepts}
use Rattle.vob_lr.specs.ItemSets.{HasComplete, HasItem}
use Rattle.vob_lr.specs.Items.{Completes}
use Rattle.vob_lr.specs.Lookaheads.{HasMove, Machine}
use Rattle.vob_lr.specs.Parses.{Config, IsLast, IsReplaced, replaced, top}
use Rattle.vob_lr.specs.Tables.{TableView, chosen_at}
use Rattle.vob_lr.specs.declared.grammar.Rule.{Rule}
use Rattle.vob_lr.specs.declared.grammar.Symbol.TheVariants.{Nonterminal}
use Rattle.vob_lr.specs.declared.table.Action.TheVariants.{Shift}
use Rattle.vob_lr.proofs.ItemLemmas.{one_complete}

-- ---- a reduction: states are left first, and another is entered then

module _ (m : Machine) (c mid : Config) (r n q : ℕ) (own : Rule) (found : Option ℕ)
    (is : slice_get m.grammar.rules.items r ≡ Some own) (count : n ≡ length own.right.items)
    (left : mid ≡ record { states = drop n c.states; read = c.read; reduced = c.reduced })
    (at : q ≡ top mid.states)
    (next : (p : ℕ) → (found ≡ Some p) ↔ HasMove m.moves q (Nonterminal own.left) p) where
  -- the newest state that is left
  uncovered : q ≡ top (drop (length own.right.items) c.states)
  uncovered =
      at ∙ ap (λ (e : Config). top e.states) left
      ∙ ap (λ (k : ℕ). top (drop k c.states)) count

  pub replaced_is : (p : ℕ) → found ≡ Some p → IsReplaced m r c (replaced r 0 p mid)
  replaced_is p found_is = record {
    rule = own;
    is = is;
    state = p;
    move = subst (λ (k : ℕ). HasMove m.moves k (Nonterminal own.left) p) uncovered ((next p).0 found_is);
    after = ap (replaced r 0 p) left ∙ ap (λ (k : ℕ). replaced r k p c) count;
  }

  pub replaced_none : found ≡ None → (d : Config) → ¬ IsReplaced m r c d
  replaced_none none d = λ to.
      let same = same_Some own to.rule (sym is ∙ to.is) in
      let move = subst (λ (x : Rule).
      HasMove m.moves (top (drop (length x.right.items) c.states)) (Nonterminal x.left) to.state)
      (sym same) to.move in
      let there = subst (λ (k : ℕ). HasMove m.moves k (Nonterminal own.left) to.state)
      (sym uncovered) move in
      none-some to.state (sym none ∙ (next to.state).1 there)

-- ---- the state behind the end

pub last_is : (m : Machine) (p count i : ℕ) (rule : Rule) →
    Completes m.grammar.rules.items 0 i → rule ≡ get_or m.grammar.rules.items 0 rule →
    length rule.right.items ≡ count → HasItem m.sets p i ↔ IsLast m p count
last_is m p count i rule done read long = (
  (λ there.
      let own = subst (λ (s : ℕ). slice_get m.grammar.rules.items s ≡ Some done.is.rule) done.rule
      done.is.is in
      let same = get_or_from_slice_get m.grammar.rules.items 0 done.is.rule rule own in
      let right = ap (λ (x : Rule). length x.right.items) (read ∙ same) in
      record { item = i; completes = done; there = there; whole = omega (arith, done.dot, right, long) }),
  (λ last.
      subst (λ (k : ℕ). HasItem m.sets p k) (one_complete m.grammar.rules.items 0 last.item i last.completes done)
      last.there),
)

-- a state with rule 0, the dot behind all its symbols
pub end_is : (m : Machine) (p : ℕ) (rule : Rule) → slice_get m.grammar.rules.items 0 ≡ Some rule →
    IsLast m p (length rule.right.items) ↔ HasComplete m.grammar.rules.items (get_or m.sets p []) 0
end_is m p rule is = (
  (λ last. (last.item, last.completes, last.there)),
  (λ (i, done, there).
      let read = sym (get_or_from_slice_get m.grammar.rules.items 0 rule rule is) in
      (last_is m p (length rule.right.items) i rule done read refl).0 there),
)

-- there is none without a rule
pub no_end : (rules : List Rule) (set : List ℕ) → slice_get rules 0 ≡ None → ¬ HasComplete rules set 0
no_end rules set none (i, done, there) =
    none-some done.is.rule (sym none ∙ ap (slice_get rules) (sym done.rule) ∙ done.is.is)

-- a parser that shifts the end into such a state accepts, and only that
pub accepts_is : (table : TableView) (q t p : ℕ) (ended : Bool) → t ≡ 0 → chosen_at table.cells q t ≡ Some (Shift p) →
    IsTrue ended ↔ HasComplete table.machine.grammar.rules.items (get_or table.machine.sets p []) 0 →
    IsTrue ended ↔ Accepts table q t
accepts_is table q t p ended zero is done = (
  (λ on. record { is_end = zero; state = p; shifts = is; completes = done.0 on }),
  (λ accepts.
      let shifts = same_Some (Shift p) (Shift accepts.state) (sym is ∙ accepts.shifts) in
      let same : p ≡ accepts.state = cc in
      done.1 (subst (λ (s : ℕ). HasComplete table.machine.grammar.rules.items (get_or table.machine.sets s []) 0)
      (sym same) accepts.completes)),
)
