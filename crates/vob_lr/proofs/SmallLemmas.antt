-- Tokens that symbols become have a parse that isn't long.
use Rattle.std.proofs.Common.{◌≡◌, ℕ, zero, suc, ◌+◌, ◌<◌, ◌≤◌, ◌⊎◌, inl, inr, List, [], ◌∷◌, ◌++◌, length, Some, slice_get, refl, sym, ap, ◌∙◌, subst, arith}
use Rattle.std.proofs.lemmas.Bool.{cases_eq}
use Rattle.std.proofs.lemmas.List.{append-nil, length-append}
use Rattle.vob_lr.specs.Becoming.{Becomes}
use Rattle.vob_lr.specs.Becoming.Becomes.{nothing, terminal, by_rule}
use Rattle.vob_lr.specs.Sizes.{IsShort}
use Rattle.vob_lr.proofs.BecomingLemmas.{joined}
use Rattle.vob_lr.specs.declared.grammar.Rule.{Rule}
use Rattle.vob_lr.specs.declared.grammar.Symbol.{Symbol}
use Rattle.vob_lr.specs.declared.grammar.Symbol.TheVariants.{Terminal, Nonterminal}

-- ---- numbers that are left

abbrev In : List ℕ → ℕ → Type 0
In [] b = ⊥
In (x ∷ xs) b = (x ≡ b) ⊎ In xs b

in_cases : (xs : List ℕ) (b : ℕ) → In xs b ⊎ ¬ In xs b
in_cases [] b = inr (λ h. h)
in_cases (x ∷ xs) b = elim (cases_eq x b) [
  | inl same ↦ inl (inl same)
  | inr other ↦ elim (in_cases xs b) [
    | inl there ↦ inl (inr there)
    | inr none ↦ inr (λ h. elim h [ inl same ↦ other same | inr there ↦ none there ])
  ]
]

-- all below a number
abbrev all_below : ℕ → List ℕ
all_below zero = []
all_below (suc n) = n ∷ all_below n

in_all : (n b : ℕ) → b < n → In (all_below n) b
in_all zero b less = absurd (omega (arith, less))
in_all (suc n) b less = elim (cases_eq n b) [
  | inl same ↦ inl same
  | inr other ↦ inr (in_all n b (omega (arith, less, other)))
]

length_all : (n : ℕ) → length (all_below n) ≡ n
length_all zero = refl
length_all (suc n) = ap suc (length_all n)

-- one less is left
record Fewer (xs : List ℕ) (a : ℕ) : Type 0 where
  left : List ℕ
  long : length xs ≡ suc (length left)
  kept : (b : ℕ) → In xs b → (a ≡ b) ⊎ In left b

fewer : (xs : List ℕ) (a : ℕ) → In xs a → Fewer xs a
fewer [] a x' = elim x' [ ]
fewer (x ∷ xs) a (inl same) = record {
  left = xs;
  long = refl;
  kept = λ b there. elim there [ inl own ↦ inl (sym same ∙ own) | inr other ↦ inr other ];
}
fewer (x ∷ xs) a (inr there) =
    let f = fewer xs a there in record {
      left = x ∷ f.left;
      long = ap suc f.long;
      kept = λ b own. elim own [
        | inl first ↦ inr (inl first)
        | inr later ↦ elim (f.kept b later) [ inl same ↦ inl same | inr still ↦ inr (inr still) ]
      ];
    }

-- the tokens of a part
one_left : (ts us : List ℕ) → ts ++ us ≡ [] → (ts ≡ []) × (us ≡ [])
one_left [] us h = (refl, h)
one_left (t ∷ ts) us h = absurd (cc)

no_tokens : (ts : List ℕ) → (ts ≡ []) ⊎ (0 < length ts)
no_tokens [] = inl refl
no_tokens (t ∷ ts) = inr (omega arith)

-- n taken m times
abbrev pub times : ℕ → ℕ → ℕ
times n zero = zero
times n (suc m) = n + times n m

pub times_sum : (n m k : ℕ) → times n (m + k) ≡ times n m + times n k
times_sum n zero k = let same : 0 + k ≡ k = omega arith in omega (arith, ap (times n) same)
times_sum n (suc m) k =
    let same : suc m + k ≡ suc (m + k) = omega arith in
    omega (arith, ap (times n) same, times_sum n m k)

module _ (rules : List Rule) where
  short_at : {xs : List Symbol} {ts us : List ℕ} {n m : ℕ} → IsShort rules xs ts n → ts ≡ us → n ≤ m →
      IsShort rules xs us m
  short_at {xs} s same more = record {
    by = s.by;
    becomes = subst (λ (vs : List ℕ). Becomes rules xs vs s.by) same s.becomes;
    long = omega (arith, s.long, more);
  }

  pub short_both : {xs ys : List Symbol} {ts us : List ℕ} {n m : ℕ} → IsShort rules xs ts n → IsShort rules ys us m →
      IsShort rules (xs ++ ys) (ts ++ us) (n + m)
  short_both s t = record {
    by = s.by ++ t.by;
    becomes = joined rules s.becomes t.becomes;
    long = omega (arith, length-append s.by t.by, s.long, t.long);
  }

  -- the rule by which a nonterminal becomes tokens
  record Root (a : ℕ) (ts rs : List ℕ) : Type 0 where
    number : ℕ
    rule : Rule
    by : List ℕ
    is : slice_get rules number ≡ Some rule
    left : rule.left ≡ a
    becomes : Becomes rules rule.right.items ts by
    long : length rs ≡ suc (length by)

  root : {xs : List Symbol} {ts rs : List ℕ} → Becomes rules xs ts rs → (a : ℕ) →
      xs ≡ Nonterminal a ∷ [] → Root a ts rs
  root nothing a h = absurd (cc)
  root (terminal b) a h = absurd (cc)
  root (by_rule r rule {xs} ts us rs ss is b b') a h =
      let none : xs ≡ [] = cc in
      let left : rule.left ≡ a = cc in
      let end = ended b' none in record {
        number = r;
        rule = rule;
        by = rs;
        is = is;
        left = left;
        becomes = subst (λ (vs : List ℕ). Becomes rules rule.right.items vs rs)
            (sym (append-nil ts) ∙ ap (λ (vs : List ℕ). ts ++ vs) (sym end.0)) b;
        long = omega (arith, length-append rs (r ∷ ss), ap length end.1);
      }
    where
      ended : {xs : List Symbol} {us ss : List ℕ} → Becomes rules xs us ss → xs ≡ [] →
          (us ≡ []) × (ss ≡ [])
      ended nothing h = (refl, refl)
      ended (terminal b) h = absurd (cc)
      ended (by_rule r rule ts us rs ss is b b') h = absurd (cc)

  pub short_rule : {a : ℕ} {ts : List ℕ} {n : ℕ} (r : ℕ) (rule : Rule) → slice_get rules r ≡ Some rule →
      rule.left ≡ a → IsShort rules rule.right.items ts n → IsShort rules (Nonterminal a ∷ []) ts (n + 1)
  short_rule {a} {ts} r rule is left s =
      let whole = by_rule r rule ts [] s.by [] is s.becomes nothing in record {
        by = s.by ++ r ∷ [];
        becomes = subst (λ (b : ℕ). Becomes rules (Nonterminal b ∷ []) ts (s.by ++ r ∷ [])) left
            (subst (λ (vs : List ℕ). Becomes rules (Nonterminal rule.left ∷ []) vs (s.by ++ r ∷ []))
            (append-nil ts) whole);
        long = omega (arith, length-append s.by (r ∷ []), s.long);
      }

  module _ (nonterminals e d : ℕ)
      (below : (r : ℕ) (rule : Rule) → slice_get rules r ≡ Some rule → rule.left < nonterminals)
      (wide : (r : ℕ) (rule : Rule) → slice_get rules r ≡ Some rule →
      times e (length rule.right.items) < d)
      (empties : (a : ℕ) (rs : List ℕ) → Becomes rules (Nonterminal a ∷ []) [] rs →
      IsShort rules (Nonterminal a ∷ []) [] e) where
    abbrev c : ℕ
    c = times d nonterminals

    abbrev cost : List ℕ → ℕ
    cost ts = times c (length ts) + times c (length ts)

    cost_sum : (ts us : List ℕ) → cost (ts ++ us) ≡ cost ts + cost us
    cost_sum ts us =
        let sum = ap (times c) (length-append ts us) ∙ times_sum c (length ts) (length us) in
        omega (arith, sum)

    -- what a nonterminal becomes by few rules
    abbrev IsSmall : ℕ → List ℕ → Type 0
    IsSmall a ts = (n : ℕ) × IsShort rules (Nonterminal a ∷ []) ts n × (n + c ≤ cost ts)

    abbrev AreSmall : ℕ → Type 0
    AreSmall f = (a : ℕ) (ts rs : List ℕ) → Becomes rules (Nonterminal a ∷ []) ts rs → length rs ≤ f →
        0 < length ts → IsSmall a ts

    -- one nonterminal becomes all tokens, by at most f rules
    record IsAlone (f : ℕ) (xs : List Symbol) (ts : List ℕ) : Type 0 where
      only : ℕ
      by : List ℕ
      becomes : Becomes rules (Nonterminal only ∷ []) ts by
      less : length by ≤ f
      rest : (n : ℕ) → IsShort rules (Nonterminal only ∷ []) ts n → IsShort rules xs ts (times e (length xs) + n)

    -- symbols become nothing, or one nonterminal becomes all tokens, or the rules are few
    data Split (f : ℕ) (xs : List Symbol) (ts : List ℕ) : Type 0 where
      empty : ts ≡ [] → IsShort rules xs [] (times e (length xs)) → Split f xs ts
      alone : 0 < length ts → IsAlone f xs ts → Split f xs ts
      parted : (n : ℕ) → IsShort rules xs ts n → n + c + c ≤ times e (length xs) + cost ts → Split f xs ts

    -- a terminal more, in front
    with_terminal : (f t : ℕ) (xs : List Symbol) (ts : List ℕ) → AreSmall f → Split f xs ts →
        Split f (Terminal t ∷ xs) (t ∷ ts)
    with_terminal f t xs ts small s =
        let one : IsShort rules (Terminal t ∷ []) (t ∷ []) 0 = record {
          by = [];
          becomes = terminal nothing;
          long = omega arith;
        } in elim s [
          | empty none short ↦
              parted (times e (length xs)) (short_at (short_both one short) (ap (λ (us : List ℕ). t ∷ us) (sym none)) (omega arith))
              (omega (arith, ap length none))
          | alone some a ↦
              let (n, short, few) = small a.only ts a.by a.becomes a.less some in
              parted (times e (length xs) + n) (short_at (short_both one (a.rest n short)) refl (omega arith))
              (omega (arith, few))
          | parted n short few ↦ parted n (short_at (short_both one short) refl (omega arith)) (omega (arith, few))
        ]

    -- a nonterminal more that becomes nothing
    with_empty : (f a : ℕ) (xs : List Symbol) (us : List ℕ) → IsShort rules (Nonterminal a ∷ []) [] e →
        Split f xs us → Split f (Nonterminal a ∷ xs) us
    with_empty f a xs us own s = elim s [
      | empty none short ↦ empty none (short_both own short)
      | alone some one ↦
          alone some (record {
            only = one.only;
            by = one.by;
            becomes = one.becomes;
            less = one.less;
            rest = λ n short. short_at (short_both own (one.rest n short)) refl (omega arith);
          })
      | parted n short few ↦ parted (e + n) (short_both own short) (omega (arith, few))
    ]

    -- and one that becomes tokens
    with_tokens : (f a : ℕ) (xs : List Symbol) (ts us rs : List ℕ) → AreSmall f → 0 < length ts →
        Becomes rules (Nonterminal a ∷ []) ts rs → length rs ≤ f → Split f xs us →
        Split f (Nonterminal a ∷ xs) (ts ++ us)
    with_tokens f a xs ts us rs small some own less s = elim s [
      | empty none short ↦
          let same : ts ≡ ts ++ us = sym (append-nil ts) ∙ ap (λ (vs : List ℕ). ts ++ vs) (sym none) in
          alone (omega (arith, some, ap length same)) (record {
            only = a;
            by = rs;
            becomes = subst (λ (vs : List ℕ). Becomes rules (Nonterminal a ∷ []) vs rs) same own;
            less = less;
            rest = λ n one. short_at (short_both one short) (append-nil (ts ++ us)) (omega arith);
          })
      | alone more one ↦
          let (n, short, few) = small a ts rs own less some in
          let (m, other, also) = small one.only us one.by one.becomes one.less more in
          parted (n + (times e (length xs) + m)) (short_both short (one.rest m other))
          (omega (arith, few, also, cost_sum ts us))
      | parted m other also ↦
          let (n, short, few) = small a ts rs own less some in
          parted (n + m) (short_both short other) (omega (arith, few, also, cost_sum ts us))
    ]

    split : (f : ℕ) → AreSmall f → {xs : List Symbol} {ts rs : List ℕ} → Becomes rules xs ts rs →
        length rs ≤ f → Split f xs ts
    split f small nothing less = empty refl (record { by = []; becomes = nothing; long = omega arith })
    split f small (terminal {t} {xs} {ts} b) less = with_terminal f t xs ts small (split f small b less)
    split f small (by_rule r rule {xs} ts us rs ss is b b') less =
        let long = length-append rs (r ∷ ss) in
        let rest = split f small b' (omega (arith, less, long)) in
        let whole = by_rule r rule ts [] rs [] is b nothing in
        let own : Becomes rules (Nonterminal rule.left ∷ []) ts (rs ++ r ∷ []) =
        subst (λ (vs : List ℕ). Becomes rules (Nonterminal rule.left ∷ []) vs (rs ++ r ∷ [])) (append-nil ts)
        whole in
        elim (no_tokens ts) [
          | inl none ↦
              let e' = empties rule.left (rs ++ r ∷ [])
              (subst (λ (vs : List ℕ). Becomes rules (Nonterminal rule.left ∷ []) vs (rs ++ r ∷ [])) none own) in
              subst (λ (vs : List ℕ). Split f (Nonterminal rule.left ∷ xs) vs)
              (ap (λ (vs : List ℕ). vs ++ us) (sym none)) (with_empty f rule.left xs us e' rest)
          | inr some ↦
              with_tokens f rule.left xs ts us (rs ++ r ∷ []) small some own
              (omega (arith, less, long, length-append rs (r ∷ []))) rest
        ]

    -- a nonterminal becomes tokens by few rules if k nonterminals may stand on the way
    abbrev IsChain : ℕ → ℕ → List ℕ → Type 0
    IsChain k a ts = (n : ℕ) × IsShort rules (Nonterminal a ∷ []) ts n × (n + c + c ≤ times d k + cost ts)

    -- or one that may not does, by less than f rules
    record IsBack (f : ℕ) (free : List ℕ) (ts : List ℕ) : Type 0 where
      other : ℕ
      taken : ¬ In free other
      by : List ℕ
      becomes : Becomes rules (Nonterminal other ∷ []) ts by
      less : length by < f

    weaker : {f : ℕ} {free ts : List ℕ} → IsBack f free ts → IsBack (suc f) free ts
    weaker b = record {
      other = b.other;
      taken = b.taken;
      by = b.by;
      becomes = b.becomes;
      less = omega (arith, b.less);
    }

    -- where all may, none is left that may not
    as_small : {f a : ℕ} {ts : List ℕ} →
        IsChain nonterminals a ts ⊎ IsBack f (all_below nonterminals) ts → IsSmall a ts
    as_small (inl done) = (done.0, done.1, omega (arith, done.2))
    as_small (inr back) =
        let r = root back.becomes back.other refl in
        let less = subst (λ (n : ℕ). n < nonterminals) r.left (below r.number r.rule r.is) in
        absurd (back.taken (in_all nonterminals back.other less))

    -- a rule more
    chain_more : (k a r : ℕ) (rule : Rule) (ts : List ℕ) (n : ℕ) → slice_get rules r ≡ Some rule →
        rule.left ≡ a → IsShort rules rule.right.items ts (times e (length rule.right.items) + n) →
        n + c + c ≤ times d k + cost ts → IsChain (suc k) a ts
    chain_more k a r rule ts n is left short few = (
      times e (length rule.right.items) + n + 1,
      short_rule r rule is left short,
      omega (arith, few, wide r rule is),
    )

    -- from a nonterminal that may stand on the way
    chain : (f k : ℕ) (free : List ℕ) → length free ≤ k → (a : ℕ) → In free a → {ts rs : List ℕ} →
        Becomes rules (Nonterminal a ∷ []) ts rs → length rs ≤ f → 0 < length ts →
        IsChain k a ts ⊎ IsBack f free ts
    chain zero k free room a there {ts} {rs} b less some =
        let r = root b a refl in absurd (omega (arith, less, r.long))
    chain (suc f) zero free room a there {ts} {rs} b less some =
        absurd (omega (arith, room, (fewer free a there).long))
    chain (suc f) (suc k) free room a there {ts} {rs} b less some =
        let r = root b a refl in
        let right = r.rule.right.items in
        let left = fewer free a there in
        let fits : length left.left ≤ k = omega (arith, room, left.long) in
        let smalls : AreSmall f = λ b ts rs own short more.
        let whole = subst (λ (n : ℕ). n < nonterminals) (root own b refl).left
        (below (root own b refl).number (root own b refl).rule (root own b refl).is) in
        as_small (chain f nonterminals (all_below nonterminals) (omega (arith, length_all nonterminals)) b
        (in_all nonterminals b whole) own short more) in
        -- from another nonterminal on, which is this one or may not stand on the way
        let again : (other : ℕ) → (¬ In left.left other) → (by : List ℕ) →
        Becomes rules (Nonterminal other ∷ []) ts by → length by ≤ f →
        IsChain (suc k) a ts ⊎ IsBack (suc f) free ts =
        λ other none by own short. elim (in_cases free other) [
          | inr taken ↦
              inr (record { other = other; taken = taken; by = by; becomes = own; less = omega (arith, short) })
          | inl inside ↦ elim (left.kept other inside) [
            | inr still ↦ absurd (none still)
            | inl same ↦
                elim (chain f (suc k) free room a there
                (subst (λ (n : ℕ). Becomes rules (Nonterminal n ∷ []) ts by) (sym same) own) short some) [
                  | inl done ↦ inl done
                  | inr back ↦ inr (weaker back)
                ]
          ]
        ] in
        elim (split f smalls r.becomes (omega (arith, less, r.long))) [
          | empty none short ↦ absurd (omega (arith, some, ap length none))
          | parted n short few ↦ inl (
            n + 1,
            short_rule r.number r.rule r.is r.left short,
            omega (arith, few, wide r.number r.rule r.is),
          )
          | alone more one ↦ elim (in_cases left.left one.only) [
            | inr none ↦ again one.only none one.by one.becomes one.less
            | inl inside ↦
                elim (chain f k left.left fits one.only inside one.becomes one.less some) [
                  | inl (n, short, few) ↦
                      inl (chain_more k a r.number r.rule ts n r.is r.left (one.rest n short) few)
                  | inr back ↦ again back.other back.taken back.by back.becomes (omega (arith, back.less))
                ]
          ]
        ]

    -- so symbols become tokens by few rules
    pub short_becomes : {xs : List Symbol} {ts rs : List ℕ} → Becomes rules xs ts rs →
        IsShort rules xs ts (times e (length xs) + (times c (length ts) + times c (length ts)))
    short_becomes {xs} {ts} {rs} b =
        let smalls : AreSmall (length rs) = λ b ts rs' own short more.
        let whole = subst (λ (n : ℕ). n < nonterminals) (root own b refl).left
        (below (root own b refl).number (root own b refl).rule (root own b refl).is) in
        as_small (chain (length rs) nonterminals (all_below nonterminals) (omega (arith, length_all nonterminals)) b
        (in_all nonterminals b whole) own short more) in
        elim (split (length rs) smalls b (omega arith)) [
          | empty none short ↦ short_at short (sym none) (omega arith)
          | parted n short few ↦ short_at short refl (omega (arith, few))
          | alone some one ↦
              let (n, short, few) = smalls one.only ts one.by one.becomes one.less some in
              short_at (one.rest n short) refl (omega (arith, few))
        ]
