-- What a parser has read begins a sentence.
use Rattle.std.proofs.Common.{◌≡◌, ◌≢◌, ℕ, ◌+◌, List, [], ◌∷◌, ◌++◌, length, get_or, take, drop, map, reverse, Some, slice_get, refl, sym, ap, ◌∙◌, subst, arith}
use Rattle.std.specs.List.{All}
use Rattle.std.proofs.lemmas.List.{append-nil, append_assoc, drop_more, length-append, length-drop, map-append, reverse-append}
use Rattle.std.proofs.Math.Seq.{take-append_seam}
use Rattle.std.proofs.lemmas.List.Elements.{All-append, All-drop, All-head, All-nil, All-tail}
use Rattle.std.proofs.lemmas.Option.{get_or_from_slice_get, same_Some, slice_get_within}
use Rattle.vob_flow.proofs.FirstLemmas.{all_at}
use Rattle.vob_lr.specs.Becoming.{Becomes}
use Rattle.vob_lr.specs.Becoming.Becomes.{nothing, terminal, by_rule}
use Rattle.vob_lr.specs.Derivations.{Derives}
use Rattle.vob_lr.specs.Derivations.Derives.{itself}
use Rattle.vob_lr.specs.Faults.{IsRuleOf, IsSymbol, IsWellFormed}
use Rattle.vob_lr.specs.Grammar.{HasRule}
use Rattle.vob_lr.specs.ItemSets.{HasItem, InClosure}
use Rattle.vob_lr.specs.ItemSets.InClosure.{inside, expands}
use Rattle.vob_lr.specs.Items.{HasNext, IsItem}
use Rattle.vob_lr.specs.Languages.{AreProductive, ErrorsAreLate}
use Rattle.vob_lr.specs.Lookaheads.{Machine}
use Rattle.vob_lr.specs.States.{AreStates}
use Rattle.vob_lr.specs.declared.grammar.Grammar.{Grammar}
use Rattle.vob_lr.specs.declared.grammar.Rule.{Rule}
use Rattle.vob_lr.specs.declared.grammar.Symbol.{Symbol}
use Rattle.vob_lr.specs.declared.grammar.Symbol.TheVariants.{Terminal}
use Rattle.vob_lr.specs.declared.items.Item.{Item}
use Rattle.vob_lr.proofs.BecomingLemmas.{derived_becomes, parts}
use Rattle.vob_lr.proofs.DerivationLemmas.{after_that, between, by_one, rightmost_derived}
use Rattle.vob_lr.proofs.ItemLemmas.{one_item}
use Rattle.vob_lr.proofs.LinkLemmas.{AreLinked, move_inside}
use Rattle.vob_lr.proofs.LinkLemmas.AreLinked.{bottom, above}
use Rattle.vob_lr.proofs.MemberLemmas.{move_leads}
use Rattle.vob_lr.proofs.ParseLemmas.{run_reached}
use Rattle.vob_lr.proofs.RightmostLemmas.{becomes_derives, own_becomes, rightmost}

-- what stands behind the dot of an item
abbrev pub behind : {rules : List Rule} {i : ℕ} (item : Item) → IsItem rules i item → List Symbol
behind item is = drop item.dot is.rule.right.items

pub behind_same : {rules : List Rule} {i : ℕ} (item other : Item) (is : IsItem rules i item)
    (too : IsItem rules i other) → behind item is ≡ behind other too
behind_same {rules} {i} item other is too =
    let same = one_item rules i item other is too in
    let own = subst (λ (r : ℕ). slice_get rules r ≡ Some is.rule) (ap (λ (x : Item). x.rule) same) is.is in
    let rule = same_Some is.rule too.rule (sym own ∙ too.is) in
    ap (λ (x : Item). drop x.dot is.rule.right.items) same
    ∙ ap (λ (r : Rule). drop other.dot r.right.items) rule

-- and behind the symbol there
pub behind_next : {rules : List Rule} {i : ℕ} {x : Symbol} (next : HasNext rules i x) →
    behind next.item next.is ≡ x ∷ drop (next.item.dot + 1) next.is.rule.right.items
behind_next {rules} {i} {x} next =
    let right = next.is.rule.right.items in
    drop_more right next.item.dot x (slice_get_within right next.item.dot x next.next)
    ∙ ap (λ (y : Symbol). y ∷ drop (next.item.dot + 1) right)
    (get_or_from_slice_get right next.item.dot x x next.next)

-- the symbols there are those of the grammar
pub tail_own : (grammar : Grammar) → IsWellFormed grammar → (i n : ℕ) (item : Item)
    (is : IsItem grammar.rules.items i item) →
    All (IsSymbol grammar.terminals grammar.nonterminals) (drop n is.rule.right.items)
tail_own grammar sound i n item is =
    let rule = all_at (IsRuleOf grammar) grammar.rules.items sound item.rule is.rule is.is in
    All-drop (IsSymbol grammar.terminals grammar.nonterminals) n is.rule.right.items rule.1

module _ (m : Machine) (sound : IsWellFormed m.grammar)
    (states : AreStates m.grammar.rules.items m.sets m.moves) (first : Rule)
    (start : slice_get m.grammar.rules.items 0 ≡ Some first) where
  abbrev rules : List Rule
  rules = m.grammar.rules.items

  abbrev IsOwn : Symbol → Type 0
  IsOwn = IsSymbol m.grammar.terminals m.grammar.nonterminals

  -- rule 0 derives some symbols, then what stands behind the dot of item i, and then others
  record IsAhead (xs : List Symbol) (i : ℕ) : Type 0 where
    own_item : Item
    own_is : IsItem rules i own_item
    after : List Symbol
    own : All IsOwn after
    derives : (item : Item) (is : IsItem rules i item) →
        Derives rules first.right.items (xs ++ (behind item is ++ after))

  -- what one item says, all say
  ahead_by : (xs : List Symbol) (i : ℕ) (item : Item) (is : IsItem rules i item) (after : List Symbol) →
      All IsOwn after → Derives rules first.right.items (xs ++ (behind item is ++ after)) → IsAhead xs i
  ahead_by xs i item is after own d = record {
    own_item = item;
    own_is = is;
    after = after;
    own = own;
    derives = λ other too.
        subst (λ (ys : List Symbol). Derives rules first.right.items (xs ++ (ys ++ after)))
        (behind_same item other is too) d;
  }

  ahead_closed : {Start : ℕ → Type 0} (xs : List Symbol) → ((i : ℕ) → Start i → IsAhead xs i) →
      {i : ℕ} → InClosure rules Start i → IsAhead xs i
  ahead_closed xs from (inside {i} there) = from i there
  ahead_closed xs from (expands {i} {j} {a} there next (r, rule, at, left, number)) =
      let before = ahead_closed xs from there in
      let rest = drop (next.item.dot + 1) next.is.rule.right.items in
      let d = subst (λ (ys : List Symbol). Derives rules first.right.items (xs ++ (ys ++ before.after)))
      (behind_next next) (before.derives next.item next.is) in
      let has : HasRule rules a rule.right.items =
      (rule, (r, slice_get_within rules r rule at, get_or_from_slice_get rules r rule rule at), left, refl) in
      ahead_by xs i (record { rule = r; dot = 0 })
      (record { rule = rule; is = at; dot = omega arith; number = omega (arith, number) })
      (rest ++ before.after)
      (All-append IsOwn rest before.after (tail_own m.grammar sound j (next.item.dot + 1) next.item next.is) before.own)
      (after_that d (by_one xs (rest ++ before.after) has))

  -- the symbols that link states are what rule 0 derives first
  linked_ahead : {qs : List ℕ} {xs : List Symbol} → AreLinked m.moves qs xs → (i : ℕ) →
      HasItem m.sets (get_or qs 0 0) i → IsAhead (reverse xs) i
  linked_ahead bottom i there =
      ahead_closed [] (λ k same.
      let own : IsItem rules k (record { rule = 0; dot = 0 }) =
      record { rule = first; is = start; dot = omega arith; number = omega (arith, same) } in
      ahead_by [] k (record { rule = 0; dot = 0 }) own [] (All-nil IsOwn)
      (subst (λ (ys : List Symbol). Derives rules first.right.items ys)
      (sym (append-nil first.right.items)) itself))
      ((states.first.each i).0 there)
  linked_ahead (above {p} {q} {qs} {x} {xs} move links) i there =
      let leads = move_leads m states q x p (move_inside m states q x p move) move in
      ahead_closed (reverse (x ∷ xs)) (λ k (j, own, next, e).
      let before = linked_ahead links j own in
      let rest = drop (next.item.dot + 1) next.is.rule.right.items in
      let d = subst (λ (ys : List Symbol). Derives rules first.right.items (reverse xs ++ (ys ++ before.after)))
      (behind_next next) (before.derives next.item next.is) in
      let same : reverse (x ∷ xs) ++ (rest ++ before.after) ≡ reverse xs ++ x ∷ (rest ++ before.after) =
      ap (λ (ys : List Symbol). ys ++ (rest ++ before.after)) (reverse-append (x ∷ []) xs)
      ∙ append_assoc (reverse xs) (x ∷ []) (rest ++ before.after) in
      let less = slice_get_within next.is.rule.right.items next.item.dot x next.next in
      let is : IsItem rules k (record { rule = next.item.rule; dot = next.item.dot + 1 }) = record {
        rule = next.is.rule;
        is = next.is.is;
        dot = omega (arith, less);
        number = omega (arith, next.is.number, e);
      } in
      ahead_by (reverse (x ∷ xs)) k (record { rule = next.item.rule; dot = next.item.dot + 1 }) is
      before.after before.own
      (subst (λ (ys : List Symbol). Derives rules first.right.items ys) (sym same) d))
      ((leads.goto.each i).0 there)

  -- and the newest state has an item
  some_item : {qs : List ℕ} {xs : List Symbol} → AreLinked m.moves qs xs →
      (i : ℕ) × HasItem m.sets (get_or qs 0 0) i
  some_item bottom = (0, (states.first.each 0).1 (inside refl))
  some_item (above {p} {q} {qs} {x} {xs} move links) =
      let leads = move_leads m states q x p (move_inside m states q x p move) move in
      let (j, own, next) = leads.ahead in
      (j + 1, (leads.goto.each (j + 1)).1 (inside (j, own, next, refl)))

  -- so what links the states derives more tokens
  pub linked_derives : AreProductive m.grammar → {qs : List ℕ} {xs : List Symbol} →
      AreLinked m.moves qs xs → (ts : List ℕ) → Derives rules (reverse xs) (map Terminal ts) →
      (more : List ℕ) × Derives rules first.right.items (map Terminal (ts ++ more))
  linked_derives fruitful {qs} {xs} links ts d =
      let (i, there) = some_item links in
      let ahead = linked_ahead links i there in
      let item = ahead.own_item in
      let is = ahead.own_is in
      let rest = behind item is ++ ahead.after in
      let own = All-append IsOwn (behind item is) ahead.after (tail_own m.grammar sound i item.dot item is) ahead.own in
      let (us, rs, b) = own_becomes m.grammar fruitful rest own in
      let e = rightmost_derived rules us rest (reverse rs) (becomes_derives rules b) in
      let one = between [] rest d in
      let other : Derives rules (map Terminal ts ++ rest) (map Terminal ts ++ map Terminal us) =
      simp append-nil at (between (map Terminal ts) [] e) in (
        us,
        subst (λ (zs : List Symbol). Derives rules first.right.items zs) (sym (map-append Terminal ts us))
            (after_that (ahead.derives item is) (after_that one other)),
      )

-- ---- rule 0 derives a sentence and then the end

-- the last of some numbers is the last of what stands behind others
ends_behind : (xs us ts : List ℕ) → xs ++ us ≡ ts ++ 0 ∷ [] → All (λ t. t ≢ 0) xs →
    (vs : List ℕ) × (ts ≡ xs ++ vs)
ends_behind [] us ts h none = (ts, refl)
ends_behind (x ∷ xs) us [] h none =
    let first : x ≡ 0 = cc in absurd (All-head (λ t. t ≢ 0) x xs none first)
ends_behind (x ∷ xs) us (t ∷ ts) h none =
    let first : x ≡ t = cc in
    let rest : xs ++ us ≡ ts ++ 0 ∷ [] = cc in
    let (vs, same) = ends_behind xs us ts rest (All-tail (λ t. t ≢ 0) x xs none) in
    (vs, ap (λ (y : ℕ). y ∷ ts) (sym first) ∙ ap (λ (ys : List ℕ). x ∷ ys) same)

module _ (rules : List Rule) where
  -- terminals become themselves
  themselves : {xs : List Symbol} {ts rs : List ℕ} → Becomes rules xs ts rs → (us : List ℕ) →
      xs ≡ map Terminal us → ts ≡ us
  themselves nothing [] h = refl
  themselves nothing (u ∷ us) h = absurd (cc)
  themselves (terminal b) [] h = absurd (cc)
  themselves (terminal {t} {xs} {ts} b) (u ∷ us) h =
      let first : t ≡ u = cc in
      let rest : xs ≡ map Terminal us = cc in
      ap (λ (y : ℕ). y ∷ ts) first ∙ ap (λ (ys : List ℕ). u ∷ ys) (themselves b us rest)
  themselves (by_rule r rule ts us rs ss is b b') [] h = absurd (cc)
  themselves (by_rule r rule ts us rs ss is b b') (v ∷ vs) h = absurd (cc)

  -- what derives tokens becomes them
  derived_becomes_by : {xs : List Symbol} {ts : List ℕ} → Derives rules xs (map Terminal ts) →
      (rs : List ℕ) × Becomes rules xs ts rs
  derived_becomes_by d = let (by, r) = rightmost rules d in (reverse by, derived_becomes rules r)

  becomes_derived : {xs : List Symbol} {ts rs : List ℕ} → Becomes rules xs ts rs →
      Derives rules xs (map Terminal ts)
  becomes_derived {xs} {ts} {rs} b = rightmost_derived rules ts xs (reverse rs) (becomes_derives rules b)

  before_end : (symbols : List Symbol) (xs us : List ℕ) → All (λ t. t ≢ 0) xs →
      Derives rules (symbols ++ Terminal 0 ∷ []) (map Terminal (xs ++ us)) →
      (vs : List ℕ) × Derives rules symbols (map Terminal (xs ++ vs))
  before_end symbols xs us none d =
      let (rs, b) = derived_becomes_by d in
      let p = parts rules b symbols (Terminal 0 ∷ []) refl in
      let last = themselves p.other (0 ∷ []) refl in
      let whole = p.tokens ∙ ap (λ (ts : List ℕ). p.ts_of ++ ts) last in
      let (vs, same) = ends_behind xs us p.ts_of whole none in
      (vs, subst (λ (ts : List ℕ). Derives rules symbols (map Terminal ts)) same (becomes_derived p.one))

pub errors_are_late : ErrorsAreLate
errors_are_late table sound fruitful (rule, symbols, is, then_end) tokens n none stuck =
    let m = table.machine in
    let rules = m.grammar.rules.items in
    let c = stuck.config in
    let run = run_reached table tokens sound.states sound.actions stuck.reached in
    let rest = drop c.read tokens in
    let p = parts rules (derived_becomes rules run.derives) (reverse run.symbols) (map Terminal rest) refl in
    let same = themselves rules p.other rest refl in
    let whole = p.tokens ∙ ap (λ (ts : List ℕ). p.ts_of ++ ts) same in
    let count : length p.ts_of ≡ n =
    omega (arith, ap length whole, length-append p.ts_of rest, length-drop c.read tokens, run.read, stuck.read) in
    let read : p.ts_of ≡ take n tokens =
    sym (take-append_seam p.ts_of rest) ∙ ap (λ (k : ℕ). take k (p.ts_of ++ rest)) count
    ∙ ap (take n) (sym whole) in
    let (us, d) = linked_derives m sound.rules sound.states rule is fruitful run.linked p.ts_of
    (becomes_derived rules p.one) in
    let own = subst (λ (ts : List ℕ). Derives rules rule.right.items (map Terminal (ts ++ us))) read d in
    let (vs, e) = before_end rules symbols (take n tokens) us none
    (subst (λ (xs : List Symbol). Derives rules xs (map Terminal (take n tokens ++ us))) then_end own) in (
      vs,
      record { rule = rule; is = is; symbols = symbols; then_end = then_end; derives = e },
    )
