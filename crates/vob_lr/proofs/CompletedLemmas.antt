-- The rules that the items of a set complete, one item after another.
use Rattle.std.proofs.Common.{◌≡◌, ℕ, ◌+◌, ◌<◌, inl, inr, List, [], ◌∷◌, ◌++◌, get_or, length, subst}
use Rattle.std.specs.List.{AllPairs}
use Rattle.vob_lr.specs.Expansions.{IsByFirst}
use Rattle.vob_lr.specs.ItemSets.{HasComplete}
use Rattle.vob_lr.specs.Items.{Completes}
use Rattle.vob_lr.specs.Those.{AreThose}
use Rattle.vob_lr.specs.declared.grammar.Rule.{Rule}
use Rattle.vob_lr.proofs.ClosureLemmas.{by_first_all, by_first_more, by_first_none}
use Rattle.vob_lr.proofs.ItemLemmas.{complete_rises, one_completed}
use Rattle.vob_lr.proofs.TableLemmas.{AreInOrder-as, AreInOrder-more, AreInOrder-nothing}

module _ (rules : List Rule) (set : List ℕ) where
  -- item i completes rule r
  abbrev By : ℕ → ℕ → Type 0
  By i r = Completes rules r i

  pub completed_none : AreThose (IsByFirst (λ i r. Completes rules r i) set 0) []
  completed_none = AreInOrder-nothing (λ i j. i < j) (IsByFirst By set 0) (by_first_none By set)

  module _ (k : ℕ) (ns : List ℕ) (h : AreThose (IsByFirst (λ i r. Completes rules r i) set k) ns) where
    pub completed_with : AllPairs (λ i j. i < j) set → k < length set → (r : ℕ) →
        Completes rules r (get_or set k 0) →
        AreThose (IsByFirst (λ i r. Completes rules r i) set (k + 1)) (ns ++ r ∷ [])
    completed_with rise less r done =
        AreInOrder-more (λ i j. i < j) (IsByFirst By set k) (IsByFirst By set (k + 1)) ns r h
        (λ s own.
        complete_rises rules s r (get_or set own.0 0) (get_or set k 0) own.2 done (rise own.0 k 0 own.1 less))
        (λ s.
        let more = by_first_more By set k s in (
          (λ a. elim a [
            | inl old ↦ more.0 (inl old)
            | inr same ↦ more.0 (inr (subst (λ (n : ℕ). Completes rules n (get_or set k 0)) same done))
          ]),
          (λ own. elim (more.1 own) [
            | inl old ↦ inl old
            | inr here ↦ inr (one_completed rules r s (get_or set k 0) done here)
          ]),
        ))

    pub completed_without : ((r : ℕ) → ¬ Completes rules r (get_or set k 0)) →
        AreThose (IsByFirst (λ i r. Completes rules r i) set (k + 1)) ns
    completed_without not =
        AreInOrder-as (λ i j. i < j) (IsByFirst By set k) (IsByFirst By set (k + 1))
        (λ s.
        let more = by_first_more By set k s in (
          (λ old. more.0 (inl old)),
          (λ own. elim (more.1 own) [ inl old ↦ old | inr here ↦ absurd (not s here) ]),
        ))
        ns h

    pub completed_all : k ≡ length set → AreThose (HasComplete rules set) ns
    completed_all all =
        AreInOrder-as (λ i j. i < j) (IsByFirst By set k) (HasComplete rules set)
        (λ s.
        let whole = by_first_all By set k all s in (
          (λ own. let (i, there, done) = whole.0 own in (i, done, there)),
          (λ (i, done, there). whole.1 (i, there, done)),
        ))
        ns h
