-- A parser reduces by a rule where its handles end.
use Rattle.std.proofs.Common.{◌≡◌, ℕ, ◌+◌, inl, inr, List, [], ◌∷◌, ◌++◌, length, get_or, map, reverse, take, drop, None, Option, Some, slice_get, refl, sym, ap, ◌∙◌, subst, arith, add-one}
use Rattle.std.specs.List.{All}
use Rattle.std.proofs.Math.Seq.{drop-append_seam}
use Rattle.std.proofs.lemmas.List.{append-nil, append_assoc, length-append, take-append-drop, take_all, take_more}
use Rattle.std.proofs.lemmas.List.Elements.{All-tail}
use Rattle.std.proofs.lemmas.Option.{get_or_from_slice_get, none-some, same_Some, slice_get-get_or, slice_get_within}
use Rattle.vob_flow.proofs.FirstLemmas.{all_at}
use Rattle.vob_lr.specs.Becoming.{Becomes}
use Rattle.vob_lr.specs.Becoming.Becomes.{nothing, terminal, by_rule}
use Rattle.vob_lr.specs.Canonical.{IsProductive, IsValid, LeadsBy}
use Rattle.vob_lr.specs.Canonical.IsValid.{start, begins, passes, keeps}
use Rattle.vob_lr.specs.Derivations.DerivesInOne.{replaced}
use Rattle.vob_lr.specs.Faults.{IsRuleOf, IsSymbol}
use Rattle.vob_lr.specs.Grammar.{BecomesEmpty, BeginsWith, HasRule}
use Rattle.vob_lr.specs.Grammar.BecomesEmpty.{nothing as empty_nothing}
use Rattle.vob_lr.specs.Grammar.BeginsWith.{here, by_rule as begins_rule, behind}
use Rattle.vob_lr.specs.Handles.{HasHandle, IsRightmostForm, ReductionsAreOfHandles}
use Rattle.vob_lr.specs.Handles.IsRightmostForm.{start as first_form, further}
use Rattle.vob_lr.specs.ItemSets.{Opens}
use Rattle.vob_lr.specs.Items.{Completes, HasNext, IsItem, first_item}
use Rattle.vob_lr.specs.Lookaheads.{HasNextThen, Machine, Reduces}
use Rattle.vob_lr.specs.declared.grammar.Rule.{Rule}
use Rattle.vob_lr.specs.declared.grammar.Symbol.{Symbol}
use Rattle.vob_lr.specs.declared.grammar.Symbol.TheVariants.{Terminal, Nonterminal}
use Rattle.vob_lr.specs.declared.items.Item.{Item}
use Rattle.vob_lr.proofs.BecomingLemmas.{derived_becomes, joined}
use Rattle.vob_lr.proofs.CanonicalLemmas.{ahead_valid, valid_ahead}
use Rattle.vob_lr.proofs.DerivationLemmas.{begin_parts, begin_replaced, cut, empty_before, empty_derived, empty_parts, has_rule}
use Rattle.vob_lr.proofs.DotLemmas.{drop_here}
use Rattle.vob_lr.proofs.ItemLemmas.{next_is, one_item}
use Rattle.vob_lr.proofs.PrefixLemmas.{behind_next, behind_same, tail_own}
use Rattle.vob_lr.proofs.RightmostLemmas.{numbered, own_becomes, rightmost}

-- no nonterminal is among terminals
no_nonterminal : (ts : List ℕ) (xs : List Symbol) (a : ℕ) (ys : List Symbol) →
    map Terminal ts ≡ xs ++ Nonterminal a ∷ ys → ⊥
no_nonterminal [] [] a ys h = absurd (cc)
no_nonterminal [] (x ∷ xs) a ys h = absurd (cc)
no_nonterminal (t ∷ ts) [] a ys h = absurd (cc)
no_nonterminal (t ∷ ts) (x ∷ xs) a ys h =
    let rest : map Terminal ts ≡ xs ++ Nonterminal a ∷ ys = cc in no_nonterminal ts xs a ys rest

-- the first of some tokens, if it is one
first_is : (ts : List ℕ) (t : ℕ) → slice_get ts 0 ≡ Some t → (us : List ℕ) × (ts ≡ t ∷ us)
first_is [] t same = absurd (none-some t same)
first_is (u ∷ us) t same = (us, ap (λ (n : ℕ). n ∷ us) (same_Some u t same))

-- what is ahead before some symbols, behind which something is: a terminal, or nothing
data IsNext (rules : List Rule) (xs : List Symbol) (behind : Option ℕ) : Option ℕ → Type 0 where
  first : {t : ℕ} → BeginsWith rules t xs → IsNext rules xs behind (Some t)
  later : BecomesEmpty rules xs → IsNext rules xs behind behind

module _ (rules : List Rule) where
  -- ---- in a rightmost form

  -- symbols are replaced by the tokens that they become
  form_becomes : {xs : List Symbol} {ts rs : List ℕ} → Becomes rules xs ts rs →
      (before : List Symbol) (after : List ℕ) →
      IsRightmostForm rules (before ++ (xs ++ map Terminal after)) →
      IsRightmostForm rules (before ++ map Terminal (ts ++ after))
  form_becomes nothing before after f = f
  form_becomes (terminal {t} {xs} {ts} {rs} b) before after f =
      subst (λ (ys : List Symbol). IsRightmostForm rules ys)
      (append_assoc before (Terminal t ∷ []) (map Terminal (ts ++ after)))
      (form_becomes b (before ++ Terminal t ∷ []) after
      (subst (λ (ys : List Symbol). IsRightmostForm rules ys)
      (sym (append_assoc before (Terminal t ∷ []) (xs ++ map Terminal after))) f))
  form_becomes (by_rule r rule {xs} ts us rs ss is b b') before after f =
      let left = Nonterminal rule.left in
      let one = form_becomes b' (before ++ left ∷ []) after
      (subst (λ (ys : List Symbol). IsRightmostForm rules ys)
      (sym (append_assoc before (left ∷ []) (xs ++ map Terminal after))) f) in
      let two = further before (us ++ after) one (has_rule rules r rule is)
      (append_assoc before (left ∷ []) (map Terminal (us ++ after))) refl in
      subst (λ (vs : List ℕ). IsRightmostForm rules (before ++ map Terminal vs))
      (sym (append_assoc ts us after)) (form_becomes b before (us ++ after) two)

  -- what is ahead before a right side is ahead before the left side
  next_replaced : {a : ℕ} {right : List Symbol} (before after : List Symbol) {ahead : Option ℕ} →
      HasRule rules a right → IsNext rules (before ++ (right ++ after)) None ahead →
      IsNext rules (before ++ Nonterminal a ∷ after) None ahead
  next_replaced before after has (first b) = first (begin_replaced before after has b)
  next_replaced before after has (later e) =
      later (empty_before (replaced before after has refl refl) e)

  -- and before two parts it is ahead of one, behind which the other is
  next_parts : (xs : List Symbol) (ts : List ℕ) {ahead : Option ℕ} →
      IsNext rules (xs ++ map Terminal ts) None ahead →
      (behind : Option ℕ) × IsNext rules (map Terminal ts) None behind × IsNext rules xs behind ahead
  next_parts xs ts (later e) =
      let both = empty_parts xs (map Terminal ts) e in (None, later both.1, later both.0)
  next_parts xs ts (first {t} b) = elim (begin_parts xs (map Terminal ts) b) [
    | inl own ↦ let (u, n) = first_of ts in (u, n, first own)
    | inr both ↦ (Some t, first both.1, later both.0)
  ]
    where
      first_of : (ts : List ℕ) → (behind : Option ℕ) × IsNext rules (map Terminal ts) None behind
      first_of [] = (None, later empty_nothing)
      first_of (t ∷ ts) = (Some t, first here)

  -- ---- from a form to a valid item

  opens_next : {xs rest : List Symbol} {j a i : ℕ} {u ahead : Option ℕ} → IsNext rules rest u ahead →
      IsValid rules xs j u → HasNextThen rules j a rest → Opens rules a i → IsValid rules xs i ahead
  opens_next (first b) v next opens = begins v next b opens
  opens_next (later e) v next opens = passes v next e opens

  module _ (r : ℕ) (rule : Rule) (is : slice_get rules r ≡ Some rule) where
    -- a symbol behind the dot, and those behind it
    next_at : (ys : List Symbol) (x : Symbol) (rest : List Symbol) → rule.right.items ≡ ys ++ x ∷ rest →
        (next : HasNext rules (first_item rules r + length ys) x)
        × (drop (next.item.dot + 1) next.is.rule.right.items ≡ rest)
    next_at ys x rest h =
        let d = length ys in
        let right = rule.right.items in
        let (at, left) = drop_here Symbol right d x rest (ap (drop d) h ∙ drop-append_seam ys (x ∷ rest)) in
        let less = slice_get_within right d x at in (
          record {
            item = record { rule = r; dot = d };
            is = record { rule = rule; is = is; dot = omega (arith, less); number = refl };
            next = at;
          },
          ap (λ (n : ℕ). drop n right) (add-one d) ∙ left,
        )

    -- the dot passes symbols
    passes_over : (before ys rest zs : List Symbol) (u : Option ℕ) →
        rule.right.items ≡ before ++ (ys ++ rest) →
        IsValid rules zs (first_item rules r + length before) u →
        IsValid rules (zs ++ ys) (first_item rules r + length (before ++ ys)) u
    passes_over before [] rest zs u h v = simp append-nil v
    passes_over before (y ∷ ys) rest zs u h v =
        let n = first_item rules r in
        let one = keeps v (next_at before y (ys ++ rest) h).0 refl in
        let e : n + length before + 1 ≡ n + length (before ++ y ∷ []) =
        omega (arith, length-append before (y ∷ [])) in
        let more = passes_over (before ++ y ∷ []) ys rest (zs ++ y ∷ []) u
        (h ∙ sym (append_assoc before (y ∷ []) (ys ++ rest)))
        (subst (λ (k : ℕ). IsValid rules (zs ++ y ∷ []) k u) e one) in
        subst (λ (xs : List Symbol). IsValid rules (zs ++ y ∷ ys) (n + length xs) u)
        (append_assoc before (y ∷ []) ys)
        (subst (λ (xs : List Symbol). IsValid rules xs (n + length ((before ++ y ∷ []) ++ ys)) u)
        (append_assoc zs (y ∷ []) ys) more)

    -- from the first item on
    passes_first : (ys rest zs : List Symbol) (u : Option ℕ) → rule.right.items ≡ ys ++ rest →
        IsValid rules zs (first_item rules r) u →
        IsValid rules (zs ++ ys) (first_item rules r + length ys) u
    passes_first ys rest zs u h v =
        let e : first_item rules r ≡ first_item rules r + 0 = omega arith in
        passes_over [] ys rest zs u h (subst (λ (k : ℕ). IsValid rules zs k u) e v)

    -- and what stands behind it opens
    opens_there : (ys rest zs : List Symbol) (a i : ℕ) (u ahead : Option ℕ) →
        rule.right.items ≡ ys ++ Nonterminal a ∷ rest → IsValid rules zs (first_item rules r) u →
        IsNext rules rest u ahead → Opens rules a i → IsValid rules (zs ++ ys) i ahead
    opens_there ys rest zs a i u ahead h v n opens =
        let (next, left) = next_at ys (Nonterminal a) rest h in
        opens_next n (passes_first ys (Nonterminal a ∷ rest) zs u h v)
        (record { next = next; then_rest = left }) opens

  -- before a nonterminal in a rightmost form its items are valid, with what is ahead behind it
  form_valid : {zs : List Symbol} → IsRightmostForm rules zs → (xs rest : List Symbol) (a i : ℕ)
      (ahead : Option ℕ) → zs ≡ xs ++ Nonterminal a ∷ rest → IsNext rules rest None ahead →
      Opens rules a i → IsValid rules xs i ahead
  form_valid (first_form {rule = rule} is whole) xs rest a i ahead h n opens =
      opens_there 0 rule is xs rest [] a i None ahead (sym whole ∙ h) start n opens
  form_valid (further {right = right} {a = b} before after f has from to) xs rest a i ahead h n opens =
      elim (cut before (right ++ map Terminal after) xs (Nonterminal a) rest (sym to ∙ h)) [
        | inl (ms, whole, left) ↦
            form_valid f xs (ms ++ Nonterminal b ∷ map Terminal after) a i ahead
            (from ∙ ap (λ (ys : List Symbol). ys ++ Nonterminal b ∷ map Terminal after) whole
            ∙ append_assoc xs (Nonterminal a ∷ ms) (Nonterminal b ∷ map Terminal after))
            (next_replaced ms (map Terminal after) has
            (subst (λ (ys : List Symbol). IsNext rules ys None ahead) left n)) opens
        | inr (ms, whole, left) ↦ elim (cut right (map Terminal after) ms (Nonterminal a) rest left) [
          | inl (es, inner, over) ↦
              let (rule, there, named, items) = has in
              let (r, is) = numbered rules rule there in
              let (u, own, outer) = next_parts es after
              (subst (λ (ys : List Symbol). IsNext rules ys None ahead) over n) in
              let v = form_valid f before (map Terminal after) b (first_item rules r) u from own
              (r, rule, is, named, refl) in
              subst (λ (ys : List Symbol). IsValid rules ys i ahead) (sym whole)
              (opens_there r rule is ms es before a i u ahead (items ∙ inner) v outer opens)
          | inr (es, inner, over) ↦ absurd (no_nonterminal after es a rest over)
        ]
      ]

-- ---- from a valid item to a form

-- an item that is valid after symbols: they end with what stands before its dot, its whole right side
-- stands there in a rightmost form, and before a terminal its left side does
record IsFormed (rules : List Rule) (xs : List Symbol) (i : ℕ) (ahead : Option ℕ) : Type 0 where
  item : Item
  is : IsItem rules i item
  before : List Symbol
  after : List ℕ
  symbols : xs ≡ before ++ take item.dot is.rule.right.items
  form : IsRightmostForm rules (before ++ (is.rule.right.items ++ map Terminal after))
  next : slice_get after 0 ≡ ahead
  left : (t : ℕ) → ahead ≡ Some t →
      IsRightmostForm rules (before ++ Nonterminal is.rule.left ∷ map Terminal after)

-- the parts of a right side round a dot
parts_of : (rules : List Rule) (j a : ℕ) (rest : List Symbol) (h : HasNextThen rules j a rest)
    (item : Item) (is : IsItem rules j item) →
    is.rule.right.items ≡ take item.dot is.rule.right.items ++ Nonterminal a ∷ rest
parts_of rules j a rest h item is =
    let right = is.rule.right.items in
    sym (take-append-drop item.dot right)
    ∙ ap (λ (ys : List Symbol). take item.dot right ++ ys) (behind_same item h.next.item is h.next.is
    ∙ behind_next h.next ∙ ap (λ (ys : List Symbol). Nonterminal a ∷ ys) h.then_rest)

module _ (rules : List Rule) where
  formed_start : (rule : Rule) → slice_get rules 0 ≡ Some rule → IsFormed rules [] 0 None
  formed_start rule is = record {
    item = record { rule = 0; dot = 0 };
    is = record { rule = rule; is = is; dot = omega arith; number = refl };
    before = [];
    after = [];
    symbols = refl;
    form = first_form is (append-nil rule.right.items);
    next = refl;
    left = λ t same. absurd (none-some t same);
  }

  formed_keeps : (xs ys : List Symbol) (j : ℕ) (x : Symbol) (ahead : Option ℕ) →
      IsFormed rules xs j ahead → HasNext rules j x → ys ≡ xs ++ x ∷ [] →
      IsFormed rules ys (j + 1) ahead
  formed_keeps xs ys j x ahead h next same =
      let right = h.is.rule.right.items in
      let d = h.item.dot in
      let at = (next_is rules j h.item h.is x).1 next in
      let less = slice_get_within right d x at in record {
        item = record { rule = h.item.rule; dot = d + 1 };
        is = record {
          rule = h.is.rule;
          is = h.is.is;
          dot = omega (arith, less);
          number = omega (arith, h.is.number);
        };
        before = h.before;
        after = h.after;
        symbols = same ∙ ap (λ (zs : List Symbol). zs ++ x ∷ []) h.symbols
            ∙ append_assoc h.before (take d right) (x ∷ [])
            ∙ ap (λ (zs : List Symbol). h.before ++ zs)
            (ap (λ (y : Symbol). take d right ++ y ∷ []) (sym (get_or_from_slice_get right d x x at))
            ∙ sym (take_more right d x less));
        form = h.form;
        next = h.next;
        left = h.left;
      }

  around : (us vs ws ys : List Symbol) (x : Symbol) →
      us ++ ((vs ++ x ∷ ws) ++ ys) ≡ ((us ++ vs) ++ x ∷ []) ++ (ws ++ ys)
  around us vs ws ys x = simp append_assoc

  -- what stands behind the dot opens, once what stands behind that is tokens
  formed_opens : (xs rest : List Symbol) (j a i : ℕ) (u ahead : Option ℕ) →
      (h : IsFormed rules xs j u) → HasNextThen rules j a rest → Opens rules a i → (ts rs : List ℕ) →
      Becomes rules rest ts rs → slice_get (ts ++ h.after) 0 ≡ ahead → IsFormed rules xs i ahead
  formed_opens xs rest j a i u ahead h next (r, rule, is, named, number) ts rs b found =
      let tokens = map Terminal h.after in
      let whole = ap (λ (ys : List Symbol). h.before ++ (ys ++ tokens))
      (parts_of rules j a rest next h.item h.is)
      ∙ around h.before (take h.item.dot h.is.rule.right.items) rest tokens (Nonterminal a)
      ∙ ap (λ (ys : List Symbol). (ys ++ Nonterminal a ∷ []) ++ (rest ++ tokens)) (sym h.symbols) in
      let one = form_becomes rules b (xs ++ Nonterminal a ∷ []) h.after
      (subst (λ (ys : List Symbol). IsRightmostForm rules ys) whole h.form) in
      let two = subst (λ (ys : List Symbol). IsRightmostForm rules ys)
      (append_assoc xs (Nonterminal a ∷ []) (map Terminal (ts ++ h.after))
      ∙ ap (λ (n : ℕ). xs ++ Nonterminal n ∷ map Terminal (ts ++ h.after)) (sym named)) one in record {
        item = record { rule = r; dot = 0 };
        is = record { rule = rule; is = is; dot = omega arith; number = omega (arith, number) };
        before = xs;
        after = ts ++ h.after;
        symbols = sym (append-nil xs);
        form = further xs (ts ++ h.after) two (has_rule rules r rule is) refl refl;
        next = found;
        left = λ t same. two;
      }

-- an item that completes a rule has its dot behind all
complete_whole : (rules : List Rule) (r i : ℕ) → Completes rules r i → (item : Item)
    (is : IsItem rules i item) → (slice_get rules r ≡ Some is.rule)
    × (take item.dot is.rule.right.items ≡ is.rule.right.items)
complete_whole rules r i h item is =
    let same = one_item rules i item h.item is h.is in
    let number = ap (λ (z : Item). z.rule) same ∙ h.rule in
    let there = subst (λ (n : ℕ). slice_get rules n ≡ Some is.rule) number is.is in
    let own = subst (λ (n : ℕ). slice_get rules n ≡ Some h.is.rule) h.rule h.is.is in
    let long = ap (λ (x : Rule). length x.right.items) (same_Some is.rule h.is.rule (sym there ∙ own)) in
    let dots = ap (λ (z : Item). z.dot) same in
    (there, take_all item.dot is.rule.right.items (omega (arith, long, h.dot, dots)))

module _ (m : Machine) (h : IsProductive m) where
  abbrev rules : List Rule
  rules = m.grammar.rules.items

  abbrev IsOwn : Symbol → Type 0
  IsOwn = IsSymbol m.grammar.terminals m.grammar.nonterminals

  vanishes : {xs : List Symbol} → BecomesEmpty rules xs → (rs : List ℕ) × Becomes rules xs [] rs
  vanishes {xs} e =
      let (by, d) = rightmost rules ((empty_derived rules xs).0 e) in
      (reverse by, derived_becomes rules d)

  -- symbols that a terminal can begin become tokens of which it is the first
  begins_becomes : {t : ℕ} {xs : List Symbol} → BeginsWith rules t xs → All IsOwn xs →
      (ts : List ℕ) × (rs : List ℕ) × Becomes rules xs (t ∷ ts) rs
  begins_becomes {t} (here {rest}) own =
      let (ts, rs, b) = own_becomes m.grammar h.each rest (All-tail IsOwn (Terminal t) rest own) in
      (ts, rs, terminal b)
  begins_becomes {t} (begins_rule {a} {right} {rest} (rule, there, named, items) b) own =
      let (r, is) = numbered rules rule there in
      let inner = (all_at (IsRuleOf m.grammar) rules h.rules r rule is).1 in
      let (ts, rs, c) = begins_becomes b (subst (λ (ys : List Symbol). All IsOwn ys) items inner) in
      let (us, ss, d) = own_becomes m.grammar h.each rest (All-tail IsOwn (Nonterminal a) rest own) in
      let whole = by_rule r rule (t ∷ ts) us rs ss is
      (subst (λ (ys : List Symbol). Becomes rules ys (t ∷ ts) rs) (sym items) c) d in (
        ts ++ us,
        rs ++ r ∷ ss,
        subst (λ (n : ℕ). Becomes rules (Nonterminal n ∷ rest) (t ∷ (ts ++ us)) (rs ++ r ∷ ss)) named
            whole,
      )
  begins_becomes {t} (behind {x} {rest} e b) own =
      let (rs, c) = vanishes e in
      let (ts, ss, d) = begins_becomes b (All-tail IsOwn x rest own) in
      (ts, rs ++ ss, joined rules c d)

  valid_formed : (rule : Rule) → slice_get rules 0 ≡ Some rule → {xs : List Symbol} {i : ℕ}
      {ahead : Option ℕ} → IsValid rules xs i ahead → IsFormed rules xs i ahead
  valid_formed rule is start = formed_start rules rule is
  valid_formed rule is (begins {xs} {rest} {j} {a} {i} {t} {ahead} v next b opens) =
      let own = subst (λ (ys : List Symbol). All IsOwn ys) next.then_rest
      (tail_own m.grammar h.rules j (next.next.item.dot + 1) next.next.item next.next.is) in
      let (ts, rs, c) = begins_becomes b own in
      formed_opens rules xs rest j a i ahead (Some t) (valid_formed rule is v) next opens (t ∷ ts) rs c
      refl
  valid_formed rule is (passes {xs} {rest} {j} {a} {i} {ahead} v next e opens) =
      let f = valid_formed rule is v in
      let (rs, c) = vanishes e in
      formed_opens rules xs rest j a i ahead ahead f next opens [] rs c f.next
  valid_formed rule is (keeps {xs} {ys} {j} {x} {ahead} v next same) =
      formed_keeps rules xs ys j x ahead (valid_formed rule is v) next same

  -- ---- both ways

  handle_of : (q t r : ℕ) → Reduces m q t r → HasHandle m q t r
  handle_of q t r (i, complete, l) =
      let (there, _) = complete_whole rules r i complete complete.item complete.is in
      let low = slice_get_within rules r complete.is.rule there in
      let zero = slice_get-get_or rules 0 complete.is.rule (omega (arith, low)) in
      let (xs, way, v) = ahead_valid m h l in
      let f = valid_formed (get_or rules 0 complete.is.rule) zero v in
      let (is, whole) = complete_whole rules r i complete f.item f.is in
      let (us, same) = first_is f.after t f.next in record {
        rule = f.is.rule;
        is = is;
        before = f.before;
        after = us;
        form = subst (λ (ts : List ℕ). IsRightmostForm rules
            (f.before ++ Nonterminal f.is.rule.left ∷ map Terminal ts)) same (f.left t refl);
        leads = subst (λ (ys : List Symbol). LeadsBy m.moves 0 ys q)
            (f.symbols ∙ ap (λ (ys : List Symbol). f.before ++ ys) whole) way;
      }

  reduces_by : (q t r : ℕ) → HasHandle m q t r → Reduces m q t r
  reduces_by q t r g =
      let right = g.rule.right.items in
      let n = first_item rules r in
      let v = form_valid rules g.form g.before (map Terminal (t ∷ g.after)) g.rule.left n (Some t) refl
      (first here) (r, g.rule, g.is, refl, refl) in
      let all = passes_first rules r g.rule g.is right [] g.before (Some t) (sym (append-nil right)) v in (
        n + length right,
        record {
          item = record { rule = r; dot = length right };
          is = record { rule = g.rule; is = g.is; dot = omega arith; number = refl };
          rule = refl;
          dot = refl;
        },
        valid_ahead m h all t refl q g.leads,
      )

pub reductions_are_of_handles : ReductionsAreOfHandles
reductions_are_of_handles m h q t r = (handle_of m h q t r, reduces_by m h q t r)
