-- A rightmost derivation read backwards is what a parser did.
use Rattle.std.proofs.Common.{◌≡◌, ℕ, ◌+◌, ◌-◌, ◌<◌, ◌≤◌, inl, inr, List, [], ◌∷◌, ◌++◌, drop, length, map, reverse, take, get_or, Option, None, Some, slice_get, refl, sym, ap, ◌∙◌, subst, arith, suc, zero}
use Rattle.std.proofs.lemmas.List.{append_assoc, append-nil, drop_all, drop_more, drop_at, length-append, length-drop, length-reverse, reverse-append, take_all, take_more}
use Rattle.std.proofs.lemmas.Option.{slice_get_within}
use Rattle.vob_lr.specs.Derivations.{DerivesBy}
use Rattle.vob_lr.specs.Derivations.DerivesBy.{nothing, further}
use Rattle.vob_lr.specs.Unwinding.{CanUnwind, Finishes, IsUndone, IsUnwound}
use Rattle.vob_lr.specs.Unwinding.Finishes.{done, reads, reduces}
use Rattle.vob_lr.specs.declared.grammar.Rule.{Rule}
use Rattle.vob_lr.specs.declared.grammar.Symbol.{Symbol}
use Rattle.vob_lr.specs.declared.grammar.Symbol.TheVariants.{Nonterminal, Terminal}
use Rattle.vob_lr.proofs.DerivationLemmas.{cut}

same_tokens : (ts us : List ℕ) → map Terminal ts ≡ map Terminal us → ts ≡ us
same_tokens [] [] e = refl
same_tokens [] (u ∷ us) e = absurd (cc)
same_tokens (t ∷ ts) [] e = absurd (cc)
same_tokens (t ∷ ts) (u ∷ us) e =
    let rest = same_tokens ts us (cc) in
    let first : t ≡ u = cc in
    cc

-- the last symbols of tokens are tokens
tail_of : (ts : List ℕ) (before : List Symbol) (us : List ℕ) →
    map Terminal ts ≡ before ++ map Terminal us → (ws : List ℕ) × (ts ≡ ws ++ us)
tail_of ts [] us e = ([], same_tokens ts us e)
tail_of [] (x ∷ before) us e = absurd (cc)
tail_of (t ∷ ts) (x ∷ before) us e =
    let (ws, is) = tail_of ts before us (cc) in
    (t ∷ ws, ap (λ (l : List ℕ). t ∷ l) is)

-- no nonterminal is among tokens
no_nonterminal : (ts : List ℕ) (before : List Symbol) (a : ℕ) (after : List Symbol) →
    map Terminal ts ≡ before ++ Nonterminal a ∷ after → ⊥
no_nonterminal [] [] a after e = absurd (cc)
no_nonterminal [] (x ∷ before) a after e = absurd (cc)
no_nonterminal (t ∷ ts) [] a after e = absurd (cc)
no_nonterminal (t ∷ ts) (x ∷ before) a after e = no_nonterminal ts before a after (cc)

-- the last nonterminal before tokens is one
record LastIs (before : List Symbol) (a : ℕ) (after : List ℕ) (others : List Symbol) (b : ℕ) (more : List ℕ)
    : Type 0 where
  before_is : before ≡ others
  is : a ≡ b
  after_is : after ≡ more

last_is : (before : List Symbol) (a : ℕ) (after : List ℕ) (others : List Symbol) (b : ℕ) (more : List ℕ) →
    before ++ Nonterminal a ∷ map Terminal after ≡ others ++ Nonterminal b ∷ map Terminal more →
    LastIs before a after others b more
last_is [] a after [] b more e =
    record { before_is = refl; is = cc; after_is = same_tokens after more (cc) }
last_is [] a after (x ∷ others) b more e = absurd (no_nonterminal after others b (map Terminal more) (cc))
last_is (x ∷ before) a after [] b more e = absurd (no_nonterminal more before a (map Terminal after) (cc))
last_is (x ∷ before) a after (y ∷ others) b more e =
    let rest = last_is before a after others b more (cc) in
    let first : x ≡ y = cc in
    record { before_is = cc; is = rest.is; after_is = rest.after_is }

module _ (rules : List Rule) (tokens : List ℕ) where
  -- tokens at the end of a form stay
  kept : {xs : List Symbol} {rs : List ℕ} → DerivesBy rules tokens xs rs → (before : List Symbol) (ts : List ℕ) →
      xs ≡ before ++ map Terminal ts → (us : List ℕ) × (tokens ≡ us ++ ts)
  kept (nothing is) before ts e = tail_of tokens before ts (sym is ∙ e)
  kept (further {rule = rule} first after is at d) before ts e =
      elim (cut before (map Terminal ts) first (Nonterminal rule.left) (map Terminal after) (sym e ∙ at)) [
        | inl found ↦
            kept d (first ++ (rule.right.items ++ found.0)) ts
            (ap (λ (l : List Symbol). first ++ (rule.right.items ++ l)) found.2
            ∙ ap (λ (l : List Symbol). first ++ l) (sym (append_assoc rule.right.items found.0 (map Terminal ts)))
            ∙ sym (append_assoc first (rule.right.items ++ found.0) (map Terminal ts)))
        | inr found ↦ absurd (no_nonterminal ts found.0 rule.left (map Terminal after) found.2)
      ]

  -- the last nonterminal before tokens was replaced last
  record Replaced (before : List Symbol) (a : ℕ) (ts rs : List ℕ) : Type 0 where
    r : ℕ
    more : List ℕ
    rule : Rule
    rules_are : rs ≡ r ∷ more
    is : slice_get rules r ≡ Some rule
    left_is : rule.left ≡ a
    derives : DerivesBy rules tokens ((before ++ rule.right.items) ++ map Terminal ts) more

  replaced_last : (before : List Symbol) (a : ℕ) (ts : List ℕ) {xs : List Symbol} {rs : List ℕ} →
      DerivesBy rules tokens xs rs → xs ≡ before ++ Nonterminal a ∷ map Terminal ts → Replaced before a ts rs
  replaced_last before a ts (nothing is) e =
      absurd (no_nonterminal tokens before a (map Terminal ts) (sym is ∙ e))
  replaced_last before a ts (further {r = r} {rs = rs} {rule = rule} first after is at d) e =
      let same = last_is before a ts first rule.left after (sym e ∙ at) in
      let one = subst (λ (l : List Symbol). DerivesBy rules tokens (l ++ (rule.right.items ++ map Terminal after)) rs)
      (sym same.before_is) d in
      let two = subst (λ (l : List ℕ). DerivesBy rules tokens (before ++ (rule.right.items ++ map Terminal l)) rs)
      (sym same.after_is) one in
      record {
        r = r;
        more = rs;
        rule = rule;
        rules_are = refl;
        is = is;
        left_is = sym same.is;
        derives = subst (λ (l : List Symbol). DerivesBy rules tokens l rs)
            (sym (append_assoc before rule.right.items (map Terminal ts))) two;
      }

  -- tokens derive themselves alone, by no rule
  tokens_by : (ts : List ℕ) {xs : List Symbol} {rs : List ℕ} → DerivesBy rules tokens xs rs →
      xs ≡ map Terminal ts → (tokens ≡ ts) × (rs ≡ [])
  tokens_by ts (nothing is) e = (same_tokens tokens ts (sym is ∙ e), refl)
  tokens_by ts (further {rule = rule} first after is at d) e =
      absurd (no_nonterminal ts first rule.left (map Terminal after) (sym e ∙ at))

none_taken : (left : ℕ) (xs : List ℕ) → left ≤ length xs → reverse (take left xs) ≡ [] → left ≡ 0
none_taken zero xs within e = refl
none_taken (suc n) [] within e = absurd (omega (arith, within))
none_taken (suc n) (x ∷ xs) within e =
    absurd (omega (arith, ap (λ (l : List ℕ). length l) e, length-reverse (x ∷ take n xs)))

-- where the last of some numbers stands
record LastTaken (left : ℕ) (xs : List ℕ) (r : ℕ) (more : List ℕ) : Type 0 where
  some : 0 < left
  is : get_or xs (left - 1) 0 ≡ r
  inside : left - 1 < length xs
  more_is : reverse (take (left - 1) xs) ≡ more
  rest_is : drop (left - 1) xs ≡ get_or xs (left - 1) 0 ∷ drop left xs

some_taken : (left : ℕ) (xs : List ℕ) (r : ℕ) (more : List ℕ) → reverse (take left xs) ≡ r ∷ more → 0 < left
some_taken zero xs r more e = absurd (cc)
some_taken (suc n) xs r more e = omega (arith)

same_head : (x y : ℕ) (xs ys : List ℕ) → x ∷ xs ≡ y ∷ ys → (x ≡ y) × (xs ≡ ys)
same_head x y xs ys e = (cc, cc)

last_taken : (left : ℕ) (xs : List ℕ) (r : ℕ) (more : List ℕ) → left ≤ length xs →
    reverse (take left xs) ≡ r ∷ more → LastTaken left xs r more
last_taken left xs r more within e =
    let some = some_taken left xs r more e in
    let n = left - 1 in
    let left_is : n + 1 ≡ left = omega (arith, some) in
    let inside : n < length xs = omega (arith, some, within) in
    let turned : reverse (take (n + 1) xs) ≡ get_or xs n 0 ∷ reverse (take n xs) =
    ap (λ (l : List ℕ). reverse l) (take_more xs n 0 inside)
    ∙ reverse-append (take n xs) (get_or xs n 0 ∷ []) in
    let whole : get_or xs n 0 ∷ reverse (take n xs) ≡ r ∷ more =
    sym turned ∙ ap (λ (k : ℕ). reverse (take k xs)) left_is ∙ e in
    let same = same_head (get_or xs n 0) r (reverse (take n xs)) more whole in
    record {
      some = some;
      is = same.0;
      inside = inside;
      more_is = same.1;
      rest_is = drop_more xs n 0 inside ∙ ap (λ (k : ℕ). get_or xs n 0 ∷ drop k xs) left_is;
    }

place_of : (xs us : List ℕ) (t at : ℕ) → at ≤ length xs → xs ≡ us ++ t ∷ drop at xs → at ≡ length us + 1
place_of xs us t at within e =
    let whole = ap (λ (l : List ℕ). length l) e ∙ length-append us (t ∷ drop at xs) in
    let rest = length-drop at xs in
    omega (arith, whole, rest, within)

module _ (rules : List Rule) (parsed : List ℕ) where
  pub unread : (before : List Symbol) (x : Symbol) (t left : ℕ) → x ≡ Terminal t →
      IsUndone rules parsed (before ++ x ∷ []) left None before left
  unread before x t left is tokens goal moves whole =
      let u = subst (λ (y : Symbol). IsUnwound rules tokens parsed goal (before ++ y ∷ []) left moves) is whole in
      let ts = drop u.at tokens in
      let form : (before ++ Terminal t ∷ []) ++ map Terminal ts ≡ before ++ map Terminal (t ∷ ts) =
      append_assoc before (Terminal t ∷ []) (map Terminal ts) in
      let (us, tokens_are) = kept rules tokens u.derives before (t ∷ ts) form in
      let at_is = place_of tokens us t u.at u.inside tokens_are in
      let back : drop (length us) tokens ≡ t ∷ ts =
      ap (λ (l : List ℕ). drop (length us) l) tokens_are ∙ drop_at us (t ∷ ts) (length us) refl in
      record {
        at = length us;
        inside = omega (arith, at_is, u.inside);
        rules_left = u.rules_left;
        count = omega (arith, u.count, at_is);
        derives = subst (λ (l : List Symbol). DerivesBy rules tokens l (reverse (take left parsed)))
            (form ∙ ap (λ (l : List ℕ). before ++ map Terminal l) (sym back)) u.derives;
        finishes = subst (λ (l : List ℕ). Finishes rules goal before l (None ∷ moves) (drop left parsed))
            (sym back) (reads u.finishes);
      }

  -- the last rule that is left
  pub record LastLeft (left : ℕ) : Type 0 where
    pub rule : Rule
    pub some : 0 < left
    pub inside : left - 1 < length parsed
    pub is : slice_get rules (get_or parsed (left - 1) 0) ≡ Some rule
    pub there : get_or parsed (left - 1) 0 < length rules

  pub last_left : (before : List Symbol) (x : Symbol) (a left : ℕ) → x ≡ Nonterminal a →
      CanUnwind rules parsed (before ++ x ∷ []) left → LastLeft left
  last_left before x a left is (tokens, goal, moves, whole) =
      let u = subst (λ (y : Symbol). IsUnwound rules tokens parsed goal (before ++ y ∷ []) left moves) is whole in
      let ts = drop u.at tokens in
      let form : (before ++ Nonterminal a ∷ []) ++ map Terminal ts ≡ before ++ Nonterminal a ∷ map Terminal ts =
      append_assoc before (Nonterminal a ∷ []) (map Terminal ts) in
      let p = replaced_last rules tokens before a ts u.derives form in
      let l = last_taken left parsed p.r p.more u.rules_left p.rules_are in
      let there : slice_get rules (get_or parsed (left - 1) 0) ≡ Some p.rule =
      ap (λ (n : ℕ). slice_get rules n) l.is ∙ p.is in
      record {
        rule = p.rule;
        some = l.some;
        inside = l.inside;
        is = there;
        there = slice_get_within rules (get_or parsed (left - 1) 0) p.rule there;
      }

  pub unreduced : (before : List Symbol) (x : Symbol) (a left : ℕ) (rule : Rule) → x ≡ Nonterminal a →
      slice_get rules (get_or parsed (left - 1) 0) ≡ Some rule →
      IsUndone rules parsed (before ++ x ∷ []) left (Some (get_or parsed (left - 1) 0))
      (before ++ rule.right.items) (left - 1)
  unreduced before x a left rule is there tokens goal moves whole =
      let u = subst (λ (y : Symbol). IsUnwound rules tokens parsed goal (before ++ y ∷ []) left moves) is whole in
      let ts = drop u.at tokens in
      let form : (before ++ Nonterminal a ∷ []) ++ map Terminal ts ≡ before ++ Nonterminal a ∷ map Terminal ts =
      append_assoc before (Nonterminal a ∷ []) (map Terminal ts) in
      let p = replaced_last rules tokens before a ts u.derives form in
      let l = last_taken left parsed p.r p.more u.rules_left p.rules_are in
      let found : slice_get rules (get_or parsed (left - 1) 0) ≡ Some p.rule =
      ap (λ (n : ℕ). slice_get rules n) l.is ∙ p.is in
      let same : p.rule ≡ rule = cc in
      let named : p.rule.left ≡ a = p.left_is in
      let one : Finishes rules goal (before ++ p.rule.right.items) ts
      (Some (get_or parsed (left - 1) 0) ∷ moves) (drop (left - 1) parsed) =
      subst (λ (ns : List ℕ). Finishes rules goal (before ++ p.rule.right.items) ts
      (Some (get_or parsed (left - 1) 0) ∷ moves) ns) (sym l.rest_is)
      (reduces before found refl (subst (λ (n : ℕ). Finishes rules goal (before ++ Nonterminal n ∷ []) ts
      moves (drop left parsed)) (sym named) u.finishes)) in
      record {
        at = u.at;
        inside = u.inside;
        rules_left = omega (arith, u.rules_left);
        count = omega (arith, u.count, l.some);
        derives = subst (λ (own : Rule). DerivesBy rules tokens ((before ++ own.right.items) ++ map Terminal ts)
            (reverse (take (left - 1) parsed))) same
            (subst (λ (ns : List ℕ). DerivesBy rules tokens
            ((before ++ p.rule.right.items) ++ map Terminal ts) ns) (sym l.more_is) p.derives);
        finishes = subst (λ (own : Rule). Finishes rules goal (before ++ own.right.items) ts
            (Some (get_or parsed (left - 1) 0) ∷ moves) (drop (left - 1) parsed)) same one;
      }

module _ (rules : List Rule) (tokens parsed : List ℕ) (goal : List Symbol) where
  -- a derivation begins with all of its rules left
  pub all_left : DerivesBy rules tokens goal (reverse parsed) →
      IsUnwound rules tokens parsed goal goal (length parsed) []
  all_left d =
      let no_tokens : drop (length tokens) tokens ≡ [] = drop_all (length tokens) tokens (omega arith) in
      let no_rules : drop (length parsed) parsed ≡ [] = drop_all (length parsed) parsed (omega arith) in
      let all : take (length parsed) parsed ≡ parsed = take_all (length parsed) parsed (omega arith) in
      record {
        at = length tokens;
        inside = omega arith;
        rules_left = omega arith;
        count = omega arith;
        derives = rw (no_tokens, all, append-nil goal) d;
        finishes = rw (no_tokens, no_rules) (done refl);
      }

  -- and ends with none
  pub none_left : (form : List Symbol) (left : ℕ) (moves : List (Option ℕ)) → form ≡ [] →
      IsUnwound rules tokens parsed goal form left moves → Finishes rules goal [] tokens moves parsed
  none_left form left moves is whole =
      let u = subst (λ (l : List Symbol). IsUnwound rules tokens parsed goal l left moves) is whole in
      let end = tokens_by rules tokens (drop u.at tokens) u.derives refl in
      let rest : drop left parsed ≡ parsed =
      ap (λ (k : ℕ). drop k parsed) (none_taken left parsed u.rules_left end.1) in
      subst (λ (ts : List ℕ). Finishes rules goal [] ts moves parsed) (sym end.0)
      (subst (λ (ns : List ℕ). Finishes rules goal [] (drop u.at tokens) moves ns) rest u.finishes)

-- each move that is found brings the end nearer
pub nearer : (n more : ℕ) (moves next : List (Option ℕ)) (made : Option ℕ) →
    length (made ∷ reverse moves) + more ≡ n → next ≡ moves ++ made ∷ [] → n - length next < n - length moves
nearer n more moves next made count is =
    let turned = length-reverse moves in
    let long = ap (λ (l : List (Option ℕ)). length l) is ∙ length-append moves (made ∷ []) in
    omega (arith, count, turned, long)
