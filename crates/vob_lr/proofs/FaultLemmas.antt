-- The rules of a grammar, and the first that isn't sound.
use Rattle.std.proofs.Common.{◌≡◌, ◌↔◌, ℕ, Result, Err, All, ap, subst}
use Rattle.vob_lr.specs.declared.grammar.Grammar.{Grammar}
use Rattle.vob_lr.specs.declared.grammar.GrammarError.{GrammarError}
use Rattle.vob_lr.specs.declared.grammar.GrammarError.TheVariants.{Memory, BadSymbol, NoRule}
use Rattle.vob_lr.specs.Faults.{IsRuleOf, IsBadRule, IsFault}
use Rattle.vob_flow.proofs.FirstLemmas.{all_at, one_first}

module _ (grammar : Grammar) where
  -- where all rules are sound none is the first that isn't
  pub no_bad_rule : All (IsRuleOf grammar) grammar.rules.items → (n : ℕ) → ¬ IsBadRule grammar n
  no_bad_rule all n h = h.bad (all_at (IsRuleOf grammar) grammar.rules.items all n h.rule h.is)

  pub refuses_rule : {T : Type 0} (fault : GrammarError) → IsFault grammar fault → (n : ℕ) →
      ◌≡◌ {A = Result T GrammarError} (Err fault) (Err (BadSymbol n)) ↔ IsBadRule grammar n
  refuses_rule Memory is n = absurd is
  refuses_rule (BadSymbol m) is n = (
    (λ e. let same : m ≡ n = cc in subst (IsBadRule grammar) same is),
    (λ h. ap (λ k. Err (BadSymbol k)) (one_first (IsRuleOf grammar) grammar.rules.items m n is.rule
        h.rule is.lower h.lower is.is h.is is.bad h.bad)),
  )
  refuses_rule NoRule is n = absurd is
