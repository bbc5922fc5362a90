-- Which nonterminals derive tokens: those that become empty once terminals are left out.
use Rattle.std.proofs.Common.{◌≡◌, ◌↔◌, ℕ, zero, suc, ◌+◌, ◌<◌, Bool, List, [], ◌∷◌, ◌++◌, length, get_or, take, map, reverse, Some, slice_get, refl, sym, ap, ◌∙◌, subst, arith}
use Rattle.std.specs.List.{All}
use Rattle.std.proofs.lemmas.List.{take_more}
use Rattle.std.proofs.lemmas.List.Elements.{All-cons, All-head, All-nil, All-tail}
use Rattle.std.proofs.lemmas.Option.{none-some, slice_get-get_or}
use Rattle.vob_flow.proofs.FirstLemmas.{all_at}
use Rattle.vob_lr.specs.Becoming.{Becomes}
use Rattle.vob_lr.specs.Becoming.Becomes.{nothing, terminal, by_rule}
use Rattle.vob_lr.specs.Derivations.{sides}
use Rattle.vob_lr.specs.Faults.{IsRule, IsSymbol}
use Rattle.vob_lr.specs.Grammar.{AreNullable, BecomesEmpty, HasRule}
use Rattle.vob_lr.specs.Grammar.BecomesEmpty.{nothing as empty_nothing, by_rule as empty_rule}
use Rattle.vob_lr.specs.Productive.{DerivesTokens, TellProductive, bare, nonterminals_in}
use Rattle.vob_lr.specs.declared.grammar.Grammar.{Grammar}
use Rattle.vob_lr.specs.declared.grammar.Rule.{Rule}
use Rattle.vob_lr.specs.declared.grammar.Symbol.{Symbol}
use Rattle.vob_lr.specs.declared.grammar.Symbol.TheVariants.{Terminal, Nonterminal}
use Rattle.vob_lr.proofs.BecomingLemmas.{derived_becomes, joined}
use Rattle.vob_lr.proofs.DerivationLemmas.{has_rule, rightmost_derived}
use Rattle.vob_lr.proofs.RightmostLemmas.{becomes_derives, numbered, rightmost}

-- ---- the nonterminals among symbols

nonterminals_in-append : (xs ys : List Symbol) →
    nonterminals_in (xs ++ ys) ≡ nonterminals_in xs ++ nonterminals_in ys
nonterminals_in-append [] ys = refl
nonterminals_in-append (Terminal t ∷ xs) ys = nonterminals_in-append xs ys
nonterminals_in-append (Nonterminal a ∷ xs) ys =
    ap (λ (zs : List Symbol). Nonterminal a ∷ zs) (nonterminals_in-append xs ys)

-- one symbol more
pub nonterminals_in-more : (xs : List Symbol) (i : ℕ) (x d : Symbol) → i < length xs → get_or xs i d ≡ x →
    nonterminals_in (take (i + 1) xs) ≡ nonterminals_in (take i xs) ++ nonterminals_in (x ∷ [])
nonterminals_in-more xs i x d less is =
    ap nonterminals_in (take_more xs i d less ∙ ap (λ (y : Symbol). take i xs ++ y ∷ []) is)
    ∙ nonterminals_in-append (take i xs) (x ∷ [])

own_nonterminals : (terminals nonterminals : ℕ) (xs : List Symbol) →
    All (IsSymbol terminals nonterminals) xs → All (IsSymbol 0 nonterminals) (nonterminals_in xs)
own_nonterminals t n [] own = All-nil (IsSymbol 0 n)
own_nonterminals t n (Terminal u ∷ xs) own =
    own_nonterminals t n xs (All-tail (IsSymbol t n) (Terminal u) xs own)
own_nonterminals t n (Nonterminal a ∷ xs) own =
    All-cons (IsSymbol 0 n) (Nonterminal a) (nonterminals_in xs)
    (All-head (IsSymbol t n) (Nonterminal a) xs own)
    (own_nonterminals t n xs (All-tail (IsSymbol t n) (Nonterminal a) xs own))

-- without nonterminals there is no rule
pub no_rules : (terminals nonterminals : ℕ) (rules : List Rule) →
    All (IsRule terminals nonterminals) rules → nonterminals ≡ 0 → rules ≡ []
no_rules t n [] sound none = refl
no_rules t n (rule ∷ rules) sound none =
    let own = All-head (IsRule t n) rule rules sound in absurd (omega (arith, own.0, none))

-- ---- a rule is there with its terminals and without

rule_at : (own rules : List Rule) → map sides own ≡ map bare rules → (n : ℕ) (one : Rule) →
    slice_get own n ≡ Some one → (rule : Rule) × (slice_get rules n ≡ Some rule) × (sides one ≡ bare rule)
rule_at [] rules same n one is = absurd (none-some one is)
rule_at (o ∷ os) [] same n one is = absurd (cc)
rule_at (o ∷ os) (r ∷ rs) same zero one is =
    let here : o ≡ one = cc in
    let first : sides o ≡ bare r = cc in (r, refl, ap sides (sym here) ∙ first)
rule_at (o ∷ os) (r ∷ rs) same (suc n) one is = rule_at os rs (cc) n one is

bare_at : (own rules : List Rule) → map sides own ≡ map bare rules → (n : ℕ) (rule : Rule) →
    slice_get rules n ≡ Some rule → (one : Rule) × (slice_get own n ≡ Some one) × (sides one ≡ bare rule)
bare_at own [] same n rule is = absurd (none-some rule is)
bare_at [] (r ∷ rs) same n rule is = absurd (cc)
bare_at (o ∷ os) (r ∷ rs) same zero rule is =
    let here : r ≡ rule = cc in
    let first : sides o ≡ bare r = cc in (o, refl, first ∙ ap bare here)
bare_at (o ∷ os) (r ∷ rs) same (suc n) rule is = bare_at os rs (cc) n rule is

module _ (own rules : List Rule) (same : map sides own ≡ map bare rules) where
  pub bare_sound : (terminals nonterminals : ℕ) → All (IsRule terminals nonterminals) rules →
      All (IsRule 0 nonterminals) own
  bare_sound t n sound k d less =
      let (rule, is, both) = rule_at own rules same k (get_or own k d) (slice_get-get_or own k d less) in
      let (left, right) = all_at (IsRule t n) rules sound k rule is in
      let sides_are = sym both in (
        subst (λ p. p.0 < n) sides_are left,
        subst (λ p. All (IsSymbol 0 n) p.1) sides_are (own_nonterminals t n rule.right.items right),
      )

  -- ---- what becomes empty without terminals becomes tokens with them

  abbrev IsFruitful : Symbol → Type 0
  IsFruitful (Terminal t) = Unit {0}
  IsFruitful (Nonterminal a) = (ts : List ℕ) × (rs : List ℕ) × Becomes rules (Nonterminal a ∷ []) ts rs

  all_become : (xs : List Symbol) → All IsFruitful (nonterminals_in xs) →
      (ts : List ℕ) × (rs : List ℕ) × Becomes rules xs ts rs
  all_become [] all = ([], [], nothing)
  all_become (Terminal t ∷ xs) all =
      let (ts, rs, b) = all_become xs all in (t ∷ ts, rs, terminal b)
  all_become (Nonterminal a ∷ xs) all =
      let (us, ss, c) = All-head IsFruitful (Nonterminal a) (nonterminals_in xs) all in
      let (ts, rs, b) = all_become xs (All-tail IsFruitful (Nonterminal a) (nonterminals_in xs) all) in
      (us ++ ts, ss ++ rs, joined rules c b)

  all_fruitful : {ys : List Symbol} → BecomesEmpty own ys → All IsFruitful ys
  all_fruitful empty_nothing = All-nil IsFruitful
  all_fruitful (empty_rule {a} {right} {rest} (one, there, left, items) e others) =
      let (r, is) = numbered own one there in
      let (rule, at, both) = rule_at own rules same r one is in
      let inner = subst (λ (xs : List Symbol). All IsFruitful xs) (sym items ∙ ap (λ p. p.1) both)
      (all_fruitful e) in
      let (ts, rs, b) = all_become rule.right.items inner in
      let named = sym (ap (λ p. p.0) both) ∙ left in
      let whole = subst (λ (n : ℕ). Becomes rules (Nonterminal n ∷ []) (ts ++ []) (rs ++ r ∷ [])) named
      (by_rule r rule ts [] rs [] at b nothing) in
      All-cons IsFruitful (Nonterminal a) rest (ts ++ [], rs ++ r ∷ [], whole) (all_fruitful others)

  -- and the other way
  emptied : {xs : List Symbol} {ts rs : List ℕ} → Becomes rules xs ts rs →
      BecomesEmpty own (nonterminals_in xs)
  emptied nothing = empty_nothing
  emptied (terminal b) = emptied b
  emptied (by_rule r rule {xs} ts us rs ss is b b') =
      let (one, at, both) = bare_at own rules same r rule is in
      let has = subst (λ p. HasRule own p.0 p.1) both (has_rule own r one at) in
      empty_rule has (emptied b) (emptied b')

  fruitful_is : (a : ℕ) → BecomesEmpty own (Nonterminal a ∷ []) ↔ DerivesTokens rules a
  fruitful_is a = (
    (λ e.
        let (ts, rs, b) = All-head IsFruitful (Nonterminal a) [] (all_fruitful e) in
        (ts, rightmost_derived rules ts (Nonterminal a ∷ []) (reverse rs) (becomes_derives rules b))),
    (λ found. let (by, d) = rightmost rules found.1 in emptied (derived_becomes rules d)),
  )

pub tell_productive : (grammar own : Grammar) (set : List Bool) → own.nonterminals ≡ grammar.nonterminals →
    map sides own.rules.items ≡ map bare grammar.rules.items → AreNullable own set →
    TellProductive grammar set
tell_productive grammar own set count same h = record {
  count = h.count ∙ count;
  each = λ a.
      let is = fruitful_is own.rules.items grammar.rules.items same a in
      ((λ on. is.0 ((h.each a).0 on)), (λ d. (h.each a).1 (is.1 d)));
}
