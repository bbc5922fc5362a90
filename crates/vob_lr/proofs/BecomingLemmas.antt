-- What a rightmost derivation derives, symbols become.
use Rattle.std.proofs.Common.{◌≡◌, ℕ, List, [], ◌∷◌, ◌++◌, map, reverse, refl, sym, ap, ◌∙◌, subst}
use Rattle.std.proofs.lemmas.List.{append-nil, append_assoc, reverse-append}
use Rattle.vob_lr.specs.Becoming.{Becomes}
use Rattle.vob_lr.specs.Becoming.Becomes.{nothing, terminal, by_rule}
use Rattle.vob_lr.specs.Derivations.{DerivesBy}
use Rattle.vob_lr.specs.Derivations.DerivesBy.{nothing as all_tokens, further}
use Rattle.vob_lr.specs.declared.grammar.Rule.{Rule}
use Rattle.vob_lr.specs.declared.grammar.Symbol.{Symbol}
use Rattle.vob_lr.specs.declared.grammar.Symbol.TheVariants.{Terminal, Nonterminal}

module _ (rules : List Rule) where
  pub terminals_become : (ts : List ℕ) → Becomes rules (map Terminal ts) ts []
  terminals_become [] = nothing
  terminals_become (t ∷ ts) = terminal (terminals_become ts)

  no_rules : {xs : List Symbol} {ts rs : List ℕ} → Becomes rules xs ts rs → (us : List ℕ) →
      xs ≡ map Terminal us → rs ≡ []
  no_rules nothing us h = refl
  no_rules (terminal b) [] h = absurd (cc)
  no_rules (terminal {xs = xs} b) (u ∷ us) h =
      let rest : xs ≡ map Terminal us = cc in no_rules b us rest
  no_rules (by_rule r rule ts us rs ss is b b') [] h = absurd (cc)
  no_rules (by_rule r rule ts us rs ss is b b') (v ∷ vs) h = absurd (cc)

  -- two parts, one behind the other
  pub record Parts (xs ys : List Symbol) (ts rs : List ℕ) : Type 0 where
    pub ts_of : List ℕ
    pub us_of : List ℕ
    pub rs_of : List ℕ
    pub ss_of : List ℕ
    pub one : Becomes rules xs ts_of rs_of
    pub other : Becomes rules ys us_of ss_of
    pub tokens : ts ≡ ts_of ++ us_of
    pub reduced : rs ≡ rs_of ++ ss_of

  pub parts : {zs : List Symbol} {ts rs : List ℕ} → Becomes rules zs ts rs → (xs ys : List Symbol) →
      zs ≡ xs ++ ys → Parts xs ys ts rs
  parts {zs} {ts} {rs} b [] ys h = record {
    ts_of = [];
    us_of = ts;
    rs_of = [];
    ss_of = rs;
    one = nothing;
    other = subst (λ (xs : List Symbol). Becomes rules xs ts rs) h b;
    tokens = refl;
    reduced = refl;
  }
  parts nothing (x ∷ xs) ys h = absurd (cc)
  parts (terminal {t = t} {xs = zs} {ts = ts} {rs = rs} b) (x ∷ xs) ys h =
      let rest : zs ≡ xs ++ ys = cc in
      let first : Terminal t ≡ x = cc in
      let p = parts b xs ys rest in record {
        ts_of = t ∷ p.ts_of;
        us_of = p.us_of;
        rs_of = p.rs_of;
        ss_of = p.ss_of;
        one = subst (λ (y : Symbol). Becomes rules (y ∷ xs) (t ∷ p.ts_of) p.rs_of) first
            (terminal p.one);
        other = p.other;
        tokens = ap (λ (us : List ℕ). t ∷ us) p.tokens;
        reduced = p.reduced;
      }
  parts (by_rule r rule {xs = zs} ts us rs ss is b b') (x ∷ xs) ys h =
      let rest : zs ≡ xs ++ ys = cc in
      let first : Nonterminal rule.left ≡ x = cc in
      let p = parts b' xs ys rest in record {
        ts_of = ts ++ p.ts_of;
        us_of = p.us_of;
        rs_of = rs ++ r ∷ p.rs_of;
        ss_of = p.ss_of;
        one = subst (λ (y : Symbol). Becomes rules (y ∷ xs) (ts ++ p.ts_of) (rs ++ r ∷ p.rs_of)) first
            (by_rule r rule ts p.ts_of rs p.rs_of is b p.one);
        other = p.other;
        tokens = ap (λ (vs : List ℕ). ts ++ vs) p.tokens ∙ sym (append_assoc ts p.ts_of p.us_of);
        reduced = ap (λ (vs : List ℕ). rs ++ r ∷ vs) p.reduced
            ∙ sym (append_assoc rs (r ∷ p.rs_of) p.ss_of);
      }

  pub joined : {xs ys : List Symbol} {ts us rs ss : List ℕ} → Becomes rules xs ts rs →
      Becomes rules ys us ss → Becomes rules (xs ++ ys) (ts ++ us) (rs ++ ss)
  joined nothing c = c
  joined (terminal b) c = terminal (joined b c)
  joined {ys = ys} {us = vs} {ss = ps} (by_rule r rule {xs = zs} ts us rs ss is b b') c =
      subst (λ (ws : List ℕ). Becomes rules (Nonterminal rule.left ∷ (zs ++ ys)) ws
      ((rs ++ r ∷ ss) ++ ps)) (sym (append_assoc ts us vs))
      (subst (λ (ws : List ℕ). Becomes rules (Nonterminal rule.left ∷ (zs ++ ys)) (ts ++ (us ++ vs)) ws)
      (sym (append_assoc rs (r ∷ ss) ps))
      (by_rule r rule ts (us ++ vs) rs (ss ++ ps) is b (joined b' c)))

  -- one rule more is the last
  pub derived_becomes : {tokens : List ℕ} {xs : List Symbol} {rs : List ℕ} →
      DerivesBy rules tokens xs rs → Becomes rules xs tokens (reverse rs)
  derived_becomes {tokens} (all_tokens h) =
      subst (λ (xs : List Symbol). Becomes rules xs tokens []) (sym h) (terminals_become tokens)
  derived_becomes {tokens} (further {xs = xs} {r = r} {rs = rs} {rule = rule} before after is h d) =
      let right = rule.right.items in
      let rest = map Terminal after in
      let p = parts (derived_becomes d) before (right ++ rest) refl in
      let q = parts p.other right rest refl in
      let none = no_rules q.other after refl in
      let whole = joined p.one (by_rule r rule q.ts_of q.us_of q.rs_of q.ss_of is q.one q.other) in
      let tokens_is = p.tokens ∙ ap (λ (us : List ℕ). p.ts_of ++ us) q.tokens in
      let reduced_is : p.rs_of ++ (q.rs_of ++ r ∷ q.ss_of) ≡ reverse (r ∷ rs) =
      ap (λ (ss : List ℕ). p.rs_of ++ (q.rs_of ++ r ∷ ss)) none
      ∙ sym (reverse-append (r ∷ []) rs
      ∙ ap (λ (ss : List ℕ). ss ++ r ∷ []) (p.reduced
      ∙ ap (λ (ss : List ℕ). p.rs_of ++ ss) (q.reduced
      ∙ ap (λ (ss : List ℕ). q.rs_of ++ ss) none ∙ append-nil q.rs_of))
      ∙ append_assoc p.rs_of q.rs_of (r ∷ [])) in
      subst (λ (ys : List Symbol). Becomes rules ys tokens (reverse (r ∷ rs))) (sym h)
      (subst (λ (ts : List ℕ). Becomes rules (before ++ Nonterminal rule.left ∷ rest) ts
      (reverse (r ∷ rs))) (sym tokens_is)
      (subst (λ (ss : List ℕ). Becomes rules (before ++ Nonterminal rule.left ∷ rest)
      (p.ts_of ++ (q.ts_of ++ q.us_of)) ss) reduced_is whole))
