-- What derives tokens derives them by a rightmost derivation.
use Rattle.std.proofs.Common.{◌≡◌, ℕ, List, [], ◌∷◌, ◌++◌, map, reverse, Some, slice_get, refl, sym, ap, ◌∙◌, subst}
use Rattle.std.specs.List.{All, Contains}
use Rattle.std.proofs.lemmas.List.{append-nil, append_assoc, reverse-append, reverse-reverse}
use Rattle.std.proofs.lemmas.List.Elements.{All-head, All-tail}
use Rattle.std.proofs.lemmas.Option.{slice_get-get_or}
use Rattle.vob_lr.specs.Becoming.{Becomes}
use Rattle.vob_lr.specs.Becoming.Becomes.{nothing, terminal, by_rule}
use Rattle.vob_lr.specs.Derivations.{Derives, DerivesBy, DerivesInOne, DerivedIsRightmost, SentencesHaveParses}
use Rattle.vob_lr.specs.Derivations.Derives.{itself, further}
use Rattle.vob_lr.specs.Derivations.DerivesBy.{nothing as last, further as then_by}
use Rattle.vob_lr.specs.Derivations.DerivesInOne.{replaced}
use Rattle.vob_lr.specs.Faults.{IsSymbol}
use Rattle.vob_lr.specs.Languages.{AreProductive}
use Rattle.vob_lr.specs.declared.grammar.Grammar.{Grammar}
use Rattle.vob_lr.specs.declared.grammar.Rule.{Rule}
use Rattle.vob_lr.specs.declared.grammar.Symbol.{Symbol}
use Rattle.vob_lr.specs.declared.grammar.Symbol.TheVariants.{Terminal, Nonterminal}
use Rattle.vob_lr.proofs.BecomingLemmas.{derived_becomes, joined, parts, terminals_become}
use Rattle.vob_lr.proofs.DerivationLemmas.{rightmost_derived}

module _ (rules : List Rule) where
  -- a rule that is there has a number
  pub numbered : (rule : Rule) → Contains rules rule → (r : ℕ) × (slice_get rules r ≡ Some rule)
  numbered rule (r, less, is) = (r, slice_get-get_or rules r rule less ∙ ap Some is)

  -- a nonterminal in place of a rule's right side becomes the same
  replaced_becomes : {xs ys : List Symbol} {ts rs : List ℕ} → DerivesInOne rules xs ys →
      Becomes rules ys ts rs → (ss : List ℕ) × Becomes rules xs ts ss
  replaced_becomes {xs} {ys} {ts} {rs} (replaced {a} {right} before after (rule, there, left, is) from to) b =
      let (r, at) = numbered rule there in
      let p = parts rules b before (right ++ after) to in
      let q = parts rules p.other right after refl in
      let own = subst (λ (zs : List Symbol). Becomes rules zs q.ts_of q.rs_of) (sym is) q.one in
      let whole = joined rules p.one (by_rule r rule q.ts_of q.us_of q.rs_of q.ss_of at own q.other) in
      let named = subst (λ (n : ℕ). Becomes rules (before ++ Nonterminal n ∷ after)
      (p.ts_of ++ (q.ts_of ++ q.us_of)) (p.rs_of ++ (q.rs_of ++ r ∷ q.ss_of))) left whole in
      let tokens = p.tokens ∙ ap (λ (us : List ℕ). p.ts_of ++ us) q.tokens in (
        p.rs_of ++ (q.rs_of ++ r ∷ q.ss_of),
        subst (λ (zs : List Symbol). Becomes rules zs ts (p.rs_of ++ (q.rs_of ++ r ∷ q.ss_of))) (sym from)
            (subst (λ (us : List ℕ). Becomes rules (before ++ Nonterminal a ∷ after) us
            (p.rs_of ++ (q.rs_of ++ r ∷ q.ss_of))) (sym tokens) named),
      )

  derived : {xs ys : List Symbol} {ts rs : List ℕ} → Derives rules xs ys → Becomes rules ys ts rs →
      (ss : List ℕ) × Becomes rules xs ts ss
  derived {rs = rs} itself b = (rs, b)
  derived (further d step) b = derived d (replaced_becomes step b).1

  -- symbols between others and the tokens behind them are replaced from the right
  becomes_by : {xs : List Symbol} {ts rs : List ℕ} → Becomes rules xs ts rs →
      (tokens : List ℕ) (before : List Symbol) (after more : List ℕ) →
      DerivesBy rules tokens (before ++ map Terminal (ts ++ after)) more →
      DerivesBy rules tokens (before ++ (xs ++ map Terminal after)) (reverse rs ++ more)
  becomes_by nothing tokens before after more d = d
  becomes_by (terminal {t} {xs} {ts} {rs} b) tokens before after more d =
      subst (λ (ys : List Symbol). DerivesBy rules tokens ys (reverse rs ++ more))
      (append_assoc before (Terminal t ∷ []) (xs ++ map Terminal after))
      (becomes_by b tokens (before ++ Terminal t ∷ []) after more
      (subst (λ (ys : List Symbol). DerivesBy rules tokens ys more)
      (sym (append_assoc before (Terminal t ∷ []) (map Terminal (ts ++ after)))) d))
  becomes_by (by_rule r rule {xs} ts us rs ss is b b') tokens before after more d =
      let rest = us ++ after in
      let one = becomes_by b tokens before rest more
      (subst (λ (ws : List ℕ). DerivesBy rules tokens (before ++ map Terminal ws) more)
      (append_assoc ts us after) d) in
      let two : DerivesBy rules tokens (before ++ Nonterminal rule.left ∷ map Terminal rest)
      (r ∷ (reverse rs ++ more)) = then_by before rest is refl one in
      let three = becomes_by b' tokens (before ++ Nonterminal rule.left ∷ []) after
      (r ∷ (reverse rs ++ more))
      (subst (λ (ys : List Symbol). DerivesBy rules tokens ys (r ∷ (reverse rs ++ more)))
      (sym (append_assoc before (Nonterminal rule.left ∷ []) (map Terminal rest))) two) in
      subst (λ (ys : List Symbol). DerivesBy rules tokens ys (reverse (rs ++ r ∷ ss) ++ more))
      (append_assoc before (Nonterminal rule.left ∷ []) (xs ++ map Terminal after))
      (subst (λ (ns : List ℕ). DerivesBy rules tokens
      ((before ++ Nonterminal rule.left ∷ []) ++ (xs ++ map Terminal after)) ns)
      (around rs r ss more) three)
    where
      around : (rs : List ℕ) (r : ℕ) (ss more : List ℕ) →
          reverse ss ++ r ∷ (reverse rs ++ more) ≡ reverse (rs ++ r ∷ ss) ++ more
      around rs r ss more =
          sym (ap (λ (ns : List ℕ). ns ++ more)
          (reverse-append rs (r ∷ ss)
          ∙ ap (λ (ns : List ℕ). ns ++ reverse rs) (reverse-append (r ∷ []) ss))
          ∙ append_assoc (reverse ss ++ r ∷ []) (reverse rs) more
          ∙ append_assoc (reverse ss) (r ∷ []) (reverse rs ++ more))

  pub becomes_derives : {xs : List Symbol} {ts rs : List ℕ} → Becomes rules xs ts rs →
      DerivesBy rules ts xs (reverse rs)
  becomes_derives {xs} {ts} {rs} b =
      subst (λ (ns : List ℕ). DerivesBy rules ts xs ns) (append-nil (reverse rs))
      (subst (λ (ys : List Symbol). DerivesBy rules ts ys (reverse rs ++ [])) (append-nil xs)
      (becomes_by b ts [] [] [] (last (ap (map Terminal) (append-nil ts)))))

  pub rightmost : {tokens : List ℕ} {xs : List Symbol} → Derives rules xs (map Terminal tokens) →
      (by : List ℕ) × DerivesBy rules tokens xs by
  rightmost {tokens} {xs} d =
      let (ss, b) = derived d (terminals_become rules tokens) in
      (reverse ss, becomes_derives b)

-- symbols of a grammar become tokens if each nonterminal does
pub own_becomes : (grammar : Grammar) → AreProductive grammar → (xs : List Symbol) →
    All (IsSymbol grammar.terminals grammar.nonterminals) xs →
    (ts : List ℕ) × (rs : List ℕ) × Becomes grammar.rules.items xs ts rs
own_becomes grammar each [] own = ([], [], nothing)
own_becomes grammar each (Terminal t ∷ xs) own =
    let IsOwn = IsSymbol grammar.terminals grammar.nonterminals in
    let (ts, rs, b) = own_becomes grammar each xs (All-tail IsOwn (Terminal t) xs own) in
    (t ∷ ts, rs, terminal b)
own_becomes grammar each (Nonterminal a ∷ xs) own =
    let IsOwn = IsSymbol grammar.terminals grammar.nonterminals in
    let (us, d) = each a (All-head IsOwn (Nonterminal a) xs own) in
    let (by, r) = rightmost grammar.rules.items d in
    let (ts, rs, b) = own_becomes grammar each xs (All-tail IsOwn (Nonterminal a) xs own) in (
      us ++ ts,
      reverse by ++ rs,
      joined grammar.rules.items (derived_becomes grammar.rules.items r) b,
    )

pub derived_is_rightmost : DerivedIsRightmost
derived_is_rightmost rules tokens xs =
    (rightmost rules, (λ found. rightmost_derived rules tokens xs found.0 found.1))

pub sentences_have_parses : SentencesHaveParses
sentences_have_parses rules tokens = (
  (λ s.
      let (by, d) = rightmost rules s.derives in (
        reverse by,
        record {
          rule = s.rule;
          is = s.is;
          symbols = s.symbols;
          then_end = s.then_end;
          derives = subst (λ (rs : List ℕ). DerivesBy rules tokens s.symbols rs)
              (sym (reverse-reverse by)) d;
        },
      )),
  (λ found.
      let p = found.1 in record {
        rule = p.rule;
        is = p.is;
        symbols = p.symbols;
        then_end = p.then_end;
        derives = rightmost_derived rules tokens p.symbols (reverse found.0) p.derives;
      }),
)
