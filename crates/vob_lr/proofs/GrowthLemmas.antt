-- A set that grows by one demand after another.
use Rattle.std.proofs.Common.{◌≡◌, ℕ, ◌+◌, ◌<◌, Bool, true, false, ◌||◌, List, length, get_or, take, refl, sym, ap, ◌∙◌, subst, arith}
use Rattle.std.specs.List.{All}
use Rattle.std.proofs.lemmas.Bool.{false≢true}
use Rattle.std.proofs.lemmas.List.Elements.{All-more}
use Rattle.vob.specs.Bits.{count_of}
use Rattle.vob_lr.specs.Passes.{AddsNull}

-- a demand in other words
pub AddsNull-as : (Meets Wants : List Bool → Type 0) {before after : List Bool} {grew : Bool} →
    ((s : List Bool) → Meets s → Wants s) → AddsNull Meets before after grew →
    AddsNull Wants before after grew
AddsNull-as Meets Wants {before} to h = record {
  same = h.same;
  met = λ e. to before (h.met e);
  more = h.more;
}

-- two demands, one after the other
pub AddsNull-both : (Meets Wants : List Bool → Type 0) (before mid after : List Bool)
    (grew flag : Bool) → AddsNull Meets before mid grew → AddsNull Wants mid after flag →
    AddsNull (λ s. Meets s × Wants s) before after (grew || flag)
AddsNull-both Meets Wants before mid after true true h g = record {
  same = λ e. absurd (false≢true (sym e));
  met = λ e. absurd (false≢true (sym e));
  more = λ _. omega (arith, h.more refl, g.more refl);
}
AddsNull-both Meets Wants before mid after true false h g = record {
  same = λ e. absurd (false≢true (sym e));
  met = λ e. absurd (false≢true (sym e));
  more = λ _. omega (arith, h.more refl, ap (count_of true) (g.same refl));
}
AddsNull-both Meets Wants before mid after false true h g = record {
  same = λ e. absurd (false≢true (sym e));
  met = λ e. absurd (false≢true (sym e));
  more = λ _. omega (arith, g.more refl, ap (count_of true) (h.same refl));
}
AddsNull-both Meets Wants before mid after false false h g = record {
  same = λ _. g.same refl ∙ h.same refl;
  met = λ _. (h.met refl, subst Wants (h.same refl) (g.met refl));
  more = λ e. absurd (false≢true e);
}

module _ {A : Type 0} (Meets : A → List Bool → Type 0) (xs : List A) where
  -- the demands of the first k of a list
  abbrev MeetsBelow : ℕ → List Bool → Type 0
  MeetsBelow k s = All (λ x. Meets x s) (take k xs)

  -- and of one more
  pub AddsNull-more : (k : ℕ) (x : A) (before mid after : List Bool) (grew flag : Bool) →
      k < length xs → x ≡ get_or xs k x →
      AddsNull (λ s. All (λ y. Meets y s) (take k xs)) before mid grew →
      AddsNull (Meets x) mid after flag →
      AddsNull (λ s. All (λ y. Meets y s) (take (k + 1) xs)) before after (grew || flag)
  AddsNull-more k x before mid after grew flag inside is h g =
      AddsNull-as (λ s. MeetsBelow k s × Meets x s) (MeetsBelow (k + 1))
      (λ s both. All-more (λ y. Meets y s) xs k x inside both.0
      (subst (λ y. Meets y s) is both.1))
      (AddsNull-both (MeetsBelow k) (Meets x) before mid after grew flag h g)
