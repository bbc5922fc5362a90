-- How many reductions suffice for a sentence.
use Rattle.std.proofs.Common.{◌≡◌, ℕ, zero, suc, ◌+◌, ◌*◌, ◌<◌, ◌≤◌, inl, inr, min, Bool, true, false, List, [], ◌∷◌, length, Some, slice_get, refl, sym, ap, ◌∙◌, arith}
use Rattle.std.specs.List.{All}
use Rattle.std.proofs.lemmas.Bool.{cases_lt, false≢true}
use Rattle.std.proofs.lemmas.List.{get_or_past, length-append}
use Rattle.vob_block.specs.Packing.{item}
use Rattle.vob_flow.proofs.FirstLemmas.{all_at}
use Rattle.vob_lr.specs.Becoming.{Becomes}
use Rattle.vob_lr.specs.Derivations.{IsParse, IsSentence}
use Rattle.vob_lr.specs.Faults.{IsRuleOf, IsWellFormed}
use Rattle.vob_lr.specs.Grammar.{AreNullable}
use Rattle.vob_lr.specs.Languages.{Suffice}
use Rattle.vob_lr.specs.Sizes.{AreSized, IsBound, IsShort}
use Rattle.vob_lr.specs.declared.grammar.Grammar.{Grammar}
use Rattle.vob_lr.specs.declared.grammar.Rule.{Rule}
use Rattle.vob_lr.specs.declared.grammar.Symbol.TheVariants.{Nonterminal, Terminal}
use Rattle.vob_lr.proofs.BecomingLemmas.{derived_becomes}
use Rattle.vob_lr.proofs.CompleteLemmas.{empty_becomes}
use Rattle.vob_lr.proofs.RightmostLemmas.{becomes_derives, rightmost}
use Rattle.vob_lr.proofs.SmallLemmas.{short_becomes, times}
use native.Mathlib.Numerals.{unary_clauses}

times_is : (n m : ℕ) → times n m ≡ n * m
times_is n zero = omega arith
times_is n (suc m) = let next : n * suc m ≡ n * m + n = simp unary_clauses refl in omega (arith, times_is n m, next)

times_less : (n m k : ℕ) → m ≤ k → times n m ≤ times n k
times_less n zero k less = omega arith
times_less n (suc m) zero less = absurd (omega (arith, less))
times_less n (suc m) (suc k) less = omega (arith, times_less n m k (omega (arith, less)))

module _ (g : ℕ) (grammar : Grammar) (sound : IsWellFormed grammar) (nullable : List Bool)
    (sizes : List ℕ) (h : AreNullable grammar nullable)
    (s : AreSized g grammar.rules.items nullable sizes) (e w : ℕ) (all : All (λ n. n ≤ e) sizes)
    (wide : All (λ rule. length rule.right.items ≤ w) grammar.rules.items) (low : e < g) where
  abbrev rules : List Rule
  rules = grammar.rules.items

  abbrev d : ℕ
  d = times e w + e + 1

  abbrev c : ℕ
  c = times d grammar.nonterminals

  null_inside : (a : ℕ) → item nullable a ≡ true → a < length nullable
  null_inside a on = elim (cases_lt a (length nullable)) [
    | inl less ↦ less
    | inr past ↦ absurd (false≢true (sym (get_or_past nullable a false past) ∙ on))
  ]

  empties : (a : ℕ) (rs : List ℕ) → Becomes rules (Nonterminal a ∷ []) [] rs →
      IsShort rules (Nonterminal a ∷ []) [] e
  empties a rs b =
      let on = (h.each a).1 (empty_becomes rules b refl) in
      let small = all a 0 (omega (arith, null_inside a on, s.long)) in
      elim (s.each a on) [
        | inl past ↦ absurd (omega (arith, past, small, low))
        | inr short ↦
            record { by = short.by; becomes = short.becomes; long = omega (arith, short.long, small) }
      ]

  fits : (r : ℕ) (rule : Rule) → slice_get rules r ≡ Some rule → times e (length rule.right.items) < d
  fits r rule is =
      let less = all_at (λ (x : Rule). length x.right.items ≤ w) rules wide r rule is in
      omega (arith, times_less e (length rule.right.items) w less)

  inside : (r : ℕ) (rule : Rule) → slice_get rules r ≡ Some rule → rule.left < grammar.nonterminals
  inside r rule is = (all_at (IsRuleOf grammar) rules sound r rule is).0

  -- a sentence has a parse of few rules
  pub suffices : (n : ℕ) → Suffice rules n (d + (times c n + times c n))
  suffices n tokens long p =
      let derived = rightmost rules p.derives in
      let short = short_becomes rules grammar.nonterminals e d inside fits empties
      (derived_becomes rules derived.1) in
      (short.by, parsed p short, few p short)
    where
      parsed : (p : IsSentence rules tokens) (short : IsShort rules p.symbols tokens
          (times e (length p.symbols) + (times c (length tokens) + times c (length tokens)))) →
          IsParse rules tokens short.by
      parsed p short = record {
        rule = p.rule;
        is = p.is;
        symbols = p.symbols;
        then_end = p.then_end;
        derives = becomes_derives rules short.becomes;
      }

      few : (p : IsSentence rules tokens) (short : IsShort rules p.symbols tokens
          (times e (length p.symbols) + (times c (length tokens) + times c (length tokens)))) →
          length short.by ≤ d + (times c n + times c n)
      few p short =
          let count = ap length p.then_end ∙ length-append p.symbols (Terminal 0 ∷ []) in
          let less = times_less e (length p.symbols) (length p.rule.right.items) (omega (arith, count)) in
          omega (arith, short.long, less, fits 0 p.rule p.is, ap (times c) long)

suffice_more : (rules : List Rule) (n m k : ℕ) → m ≤ k → Suffice rules n m → Suffice rules n k
suffice_more rules n m k less h = λ tokens long p.
    let (parsed, is, short) = h tokens long p in (parsed, is, omega (arith, short, less))

-- a product of a number that isn't 0
product_more : (n m : ℕ) → 0 < m → n ≤ n * m
product_more n zero some = absurd (omega (arith, some))
product_more n (suc m) some = let next : n * suc m ≡ n * m + n = simp unary_clauses refl in omega (arith, next)

twice : (n m : ℕ) → (n * 2) * m ≡ n * m + n * m
twice n zero = omega arith
twice n (suc m) =
    let next : (n * 2) * suc m ≡ (n * 2) * m + n * 2 = simp unary_clauses refl in
    let own : n * suc m ≡ n * m + n = simp unary_clauses refl in
    omega (arith, twice n m, next, own)

pub bound_is : (g : ℕ) (grammar : Grammar) → IsWellFormed grammar → (nullable : List Bool)
    (sizes : List ℕ) → AreNullable grammar nullable → AreSized g grammar.rules.items nullable sizes →
    (e w : ℕ) → All (λ n. n ≤ e) sizes →
    All (λ rule. length rule.right.items ≤ w) grammar.rules.items → (right base each : ℕ) →
    right ≡ min (e * w) g → base ≡ min (min (right + e) g + 1) g →
    each ≡ min (min (base * grammar.nonterminals) g * 2) g → IsBound g grammar.rules.items base each
bound_is g grammar sound nullable sizes h s e w all wide right base each right_is base_is each_is n =
    elim (cases_lt base g) [
      | inr past ↦ inl (omega (arith, past))
      | inl low ↦
          let rules = grammar.rules.items in
          let exact : base ≡ times e w + e + 1 = omega (arith, low, right_is, base_is, times_is e w) in
          let few : e < g = omega (arith, exact, low) in
          let c = times (times e w + e + 1) grammar.nonterminals in
          let own = suffices g grammar sound nullable sizes h s e w all wide few n in
          let c_is : c ≡ base * grammar.nonterminals =
          ap (λ (d : ℕ). times d grammar.nonterminals) (sym exact) ∙ times_is base grammar.nonterminals in
          elim (cases_lt each g) [
            | inl less ↦
                let whole : each ≡ c * 2 = omega (arith, each_is, less, c_is) in
                let product : each * n ≡ times c n + times c n =
                ap (λ (k : ℕ). k * n) whole ∙ twice c n ∙ sym (ap (λ (k : ℕ). k + k) (times_is c n)) in
                inr (suffice_more rules n (times e w + e + 1 + (times c n + times c n)) (base + each * n)
                (omega (arith, product, exact)) own)
            | inr over ↦ elim (cases_lt 0 n) [
              | inl some ↦ inl (omega (arith, over, product_more each n some))
              | inr none ↦
                  let zero_is : n ≡ 0 = omega (arith, none) in
                  let nothing : times c n ≡ 0 = ap (times c) zero_is in
                  inr (suffice_more rules n (times e w + e + 1 + (times c n + times c n)) (base + each * n)
                  (omega (arith, nothing, exact)) own)
            ]
          ]
    ]
