-- Nine numbers are written, each as a call gave it.
use Rattle.std.proofs.Common.{◌≡◌, ◌∙◌, ℕ, List, [], ◌∷◌, length, slice_set, refl, sym, ap, subst, arith}
use Rattle.vob_lr.specs.Lookaheads.{Machine}
use Rattle.vob_lr.specs.declared.grammar.Grammar.{Grammar}
use Rattle.vob_arrays.specs.Arrays.{owned_view}
use Rattle.vob_c.specs.Tables.{HasSizes}
use Rattle.vob_c.proofs.tables.write_sizes.Goals as goal

-- nine numbers that are written over nine others
nine : (s : List ℕ) (a b d e f g h i j : ℕ) → length s ≡ 9 →
    slice_set (slice_set (slice_set (slice_set (slice_set (slice_set (slice_set (slice_set (slice_set s 0 a) 1 b)
    2 d) 3 e) 4 f) 5 g) 6 h) 7 i) 8 j ≡ a ∷ b ∷ d ∷ e ∷ f ∷ g ∷ h ∷ i ∷ j ∷ []
nine (_ ∷ _ ∷ _ ∷ _ ∷ _ ∷ _ ∷ _ ∷ _ ∷ _ ∷ []) a b d e f g h i j long = refl
nine s a b d e f g h i j long = absurd (omega (arith, long))

pub returns : goal.returns
returns c =
    let arrays = c.args.arrays.now in
    let own = c.grammar.ensures ∙ c.items.ensures ∙ ap (λ (m : Machine). m.grammar) c.lookaheads.ensures.machine in
    subst (HasSizes c.args.table.now (owned_view arrays))
    (sym (nine c.args.sizes.now arrays.terminals c.grammar.result.now.nonterminals c.saturating_sub.result
    c.len-2.result c.len-3.result c.len-4.result c.saturating_add-bytes.result c.bound_of-base.result.0
    c.bound_of-base.result.1 c.requires.long))
    (record {
      count = refl;
      terminals = refl;
      nonterminals = ap (λ (g : Grammar). g.nonterminals) own;
      states = omega (arith, c.saturating_sub.ensures, c.len.ensures, arrays.offsets.ok.0);
      entries = omega (arith, c.len-2.ensures, arrays.symbols.ok.0);
      rules = omega (arith, c.len-3.ensures, arrays.left.ok.0);
      right = omega (arith, c.len-4.ensures, arrays.right.ok.0, ap (λ (xs : List ℕ). length xs) c.requires.right);
      none = c.bound_of-base.ensures.none;
      one = c.bound_of-base.ensures.one;
    })
