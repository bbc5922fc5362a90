-- The trees of a parse, and why there are no others.
use Rattle.std.proofs.Common.{◌≡◌, ℕ, List, [], ◌∷◌, ◌++◌, reverse, slice_get, refl, sym, ap, ◌∙◌, subst}
use Rattle.std.proofs.lemmas.List.{append-nil, append_assoc, reverse-append, reverse-reverse}
use Rattle.std.proofs.lemmas.Option.{same_Some}
use Rattle.vob_lr.specs.Becoming.{Becomes}
use Rattle.vob_lr.specs.Becoming.Becomes.{nothing as no_symbols, terminal as one_terminal, by_rule as one_rule}
use Rattle.vob_lr.specs.Derivations.{DerivesBy}
use Rattle.vob_lr.specs.Trees.{AreTrees, ParsesHaveTrees, Trees, ParsesHaveOneTree, leaves, reductions}
use Rattle.vob_lr.specs.Trees.AreTrees.{nothing, terminal, by_rule}
use Rattle.vob_lr.specs.Trees.Trees.{none, leaf, node}
use Rattle.vob_lr.specs.declared.grammar.Rule.{Rule}
use Rattle.vob_lr.specs.declared.grammar.Symbol.{Symbol}
use Rattle.vob_lr.specs.declared.grammar.Symbol.TheVariants.{Terminal}
use Rattle.vob_lr.proofs.BecomingLemmas.{derived_becomes}
use Rattle.vob_lr.proofs.RightmostLemmas.{becomes_derives}

-- lists with a last element
pub last_same : {A : Type 0} (us vs : List A) (x y : A) → us ++ x ∷ [] ≡ vs ++ y ∷ [] →
    (us ≡ vs) × (x ≡ y)
last_same us vs x y same =
    let back : x ∷ reverse us ≡ y ∷ reverse vs =
    sym (reverse-append us (x ∷ [])) ∙ ap reverse same ∙ reverse-append vs (y ∷ []) in
    let first : x ≡ y = cc in
    let rest : reverse us ≡ reverse vs = cc in
    (sym (reverse-reverse us) ∙ ap reverse rest ∙ reverse-reverse vs, first)

module _ (rules : List Rule) where
  -- what symbols become is the leaves of trees
  record Found (xs : List Symbol) (ts rs : List ℕ) : Type 0 where
    trees : Trees
    are : AreTrees rules xs trees
    tokens : leaves trees ≡ ts
    reduced : reductions trees ≡ rs

  found : {xs : List Symbol} {ts rs : List ℕ} → Becomes rules xs ts rs → Found xs ts rs
  found no_symbols = record { trees = none; are = nothing; tokens = refl; reduced = refl }
  found (one_terminal {t = t} b) =
      let f = found b in record {
        trees = leaf t f.trees;
        are = terminal f.are;
        tokens = ap (λ (ts : List ℕ). t ∷ ts) f.tokens;
        reduced = f.reduced;
      }
  found (one_rule r rule ts us rs ss is b b') =
      let f = found b in
      let g = found b' in record {
        trees = node r f.trees g.trees;
        are = by_rule is f.are g.are;
        tokens = ap (λ (vs : List ℕ). vs ++ leaves g.trees) f.tokens
            ∙ ap (λ (vs : List ℕ). ts ++ vs) g.tokens;
        reduced = ap (λ (vs : List ℕ). vs ++ r ∷ reductions g.trees) f.reduced
            ∙ ap (λ (vs : List ℕ). rs ++ r ∷ vs) g.reduced;
      }

  -- rules with others before them, the last of which is r
  around : (us rs : List ℕ) (r : ℕ) (ss : List ℕ) → us ++ (rs ++ r ∷ ss) ≡ ((us ++ rs) ++ r ∷ []) ++ ss
  around us rs r ss = simp append_assoc

  -- from the last rule on, the rules say which trees there are
  pub one_forest : {xs : List Symbol} {f g : Trees} → AreTrees rules xs f → AreTrees rules xs g →
      (us vs : List ℕ) → us ++ reductions f ≡ vs ++ reductions g → (us ≡ vs) × (f ≡ g)
  one_forest nothing nothing us vs same = (sym (append-nil us) ∙ same ∙ append-nil vs, refl)
  one_forest (terminal {t = t} a) (terminal b) us vs same =
      let (lead, rest) = one_forest a b us vs same in
      (lead, ap (λ (f : Trees). leaf t f) rest)
  one_forest (by_rule {r} {rule} {below = below} {more = more} is a a')
      (by_rule {r = s} {rule = other} {below = below'} {more = more'} js b b') us vs same =
      let whole = sym (around us (reductions below) r (reductions more)) ∙ same
      ∙ around vs (reductions below') s (reductions more') in
      let (lead, rest) = one_forest a' b' _ _ whole in
      let (inner, last) = last_same (us ++ reductions below) (vs ++ reductions below') r s lead in
      let own = same_Some other rule (sym js ∙ ap (slice_get rules) (sym last) ∙ is) in
      let (front, first) = one_forest a
      (subst (λ (x : Rule). AreTrees rules x.right.items below') own b) us vs inner in (
        front,
        ap (λ (n : ℕ). node n below more) last ∙ ap (λ (f : Trees). node s f more) first
            ∙ ap (λ (f : Trees). node s below' f) rest,
      )

  -- trees are what their symbols become
  becoming : {xs : List Symbol} {f : Trees} → AreTrees rules xs f → Becomes rules xs (leaves f) (reductions f)
  becoming nothing = no_symbols
  becoming (terminal a) = one_terminal (becoming a)
  becoming (by_rule {r = r} {rule = rule} {below = below} {more = more} is a a') =
      one_rule r rule (leaves below) (leaves more) (reductions below) (reductions more) is (becoming a) (becoming a')

pub parses_have_trees : ParsesHaveTrees
parses_have_trees rules tokens parsed = (
  (λ p.
      let f = found rules (derived_becomes rules p.derives) in (
        f.trees,
        record {
          rule = p.rule;
          is = p.is;
          symbols = p.symbols;
          then_end = p.then_end;
          trees_of = f.are;
          tokens_of = f.tokens;
          reduced = f.reduced ∙ reverse-reverse parsed;
        },
      )),
  (λ (trees, own).
      record {
        rule = own.rule;
        is = own.is;
        symbols = own.symbols;
        then_end = own.then_end;
        derives = subst (λ (rs : List ℕ). DerivesBy rules tokens own.symbols (reverse rs)) own.reduced
            (subst (λ (ts : List ℕ). DerivesBy rules ts own.symbols (reverse (reductions trees)))
            own.tokens_of (becomes_derives rules (becoming rules own.trees_of)));
      }),
)

pub parses_have_one_tree : ParsesHaveOneTree
parses_have_one_tree rules tokens parsed trees others own other =
    let same = same_Some own.rule other.rule (sym own.is ∙ other.is) in
    let right = sym own.then_end ∙ ap (λ (x : Rule). x.right.items) same ∙ other.then_end in
    let xs = (last_same own.symbols other.symbols (Terminal 0) (Terminal 0) right).0 in
    (one_forest rules (subst (λ (ys : List Symbol). AreTrees rules ys trees) xs own.trees_of)
    other.trees_of [] [] (own.reduced ∙ sym other.reduced)).1
