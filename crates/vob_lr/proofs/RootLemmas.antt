-- Trees side by side: joined, divided, and the nodes that stand for them.
use Rattle.std.proofs.Common.{◌≡◌, ℕ, ◌+◌, ◌-◌, List, [], ◌∷◌, ◌++◌, drop, length, take, Some, refl, sym, ap, ◌∙◌, subst, arith}
use Rattle.std.proofs.lemmas.List.{append_assoc, drop_at, length-append, take_at}
use Rattle.vob_lr.specs.Replays.{start_of}
use Rattle.vob_lr.specs.TreeNodes.{Stand, below_of, inner, leaf_at, nodes_at, roots_of, width}
use Rattle.vob_lr.specs.TreeNodes.Stand.{nothing as no_roots, token, by_rule as rule_root}
use Rattle.vob_lr.specs.Trees.{AreTrees, Trees, leaves, reductions}
use Rattle.vob_lr.specs.Trees.AreTrees.{nothing, terminal, by_rule}
use Rattle.vob_lr.specs.Trees.Trees.{none, leaf, node}
use Rattle.vob_lr.specs.declared.grammar.Rule.{Rule}
use Rattle.vob_lr.specs.declared.grammar.Symbol.{Symbol}
use Rattle.vob_lr.specs.declared.grammar.Symbol.TheVariants.{Nonterminal, Terminal}
use Rattle.vob_lr.specs.declared.tree.Node.{Node}

pub before_end : (right xs : List Symbol) → right ≡ xs ++ Terminal 0 ∷ [] → take (length right - 1) right ≡ xs
before_end right xs e =
    let long = ap (λ (l : List Symbol). length l) e ∙ length-append xs (Terminal 0 ∷ []) in
    ap (λ (l : List Symbol). take (length right - 1) l) e
    ∙ take_at xs (Terminal 0 ∷ []) (length right - 1) (omega (arith, long))

-- ---- trees beside others

abbrev pub beside : Trees → Trees → Trees
beside none g = g
beside (leaf t more) g = leaf t (beside more g)
beside (node r below more) g = node r below (beside more g)

pub leaves-beside : (f g : Trees) → leaves (beside f g) ≡ leaves f ++ leaves g
leaves-beside none g = refl
leaves-beside (leaf t more) g = ap (λ (l : List ℕ). t ∷ l) (leaves-beside more g)
leaves-beside (node r below more) g =
    ap (λ (l : List ℕ). leaves below ++ l) (leaves-beside more g)
    ∙ sym (append_assoc (leaves below) (leaves more) (leaves g))

pub reductions-beside : (f g : Trees) → reductions (beside f g) ≡ reductions f ++ reductions g
reductions-beside none g = refl
reductions-beside (leaf t more) g = reductions-beside more g
reductions-beside (node r below more) g =
    ap (λ (l : List ℕ). reductions below ++ r ∷ l) (reductions-beside more g)
    ∙ sym (append_assoc (reductions below) (r ∷ reductions more) (reductions g))

pub inner-beside : (f g : Trees) → inner (beside f g) ≡ inner f + inner g
inner-beside none g = omega arith
inner-beside (leaf t more) g = inner-beside more g
inner-beside (node r below more) g = omega (arith, inner-beside more g)

-- ---- the nodes of trees

pub roots_same : (f : Trees) (first other at from : ℕ) → first ≡ other → at ≡ from →
    roots_of first at f ≡ roots_of other from f
roots_same f first other at from same place =
    ap (λ (n : ℕ). roots_of n at f) same ∙ ap (λ (n : ℕ). roots_of other n f) place

pub below_same : (f : Trees) (first other at from : ℕ) → first ≡ other → at ≡ from →
    below_of first at f ≡ below_of other from f
below_same f first other at from same place =
    ap (λ (n : ℕ). below_of n at f) same ∙ ap (λ (n : ℕ). below_of other n f) place

pub roots-beside : (first at : ℕ) (f g : Trees) →
    roots_of first at (beside f g) ≡ roots_of first at f ++ roots_of (first + inner f) (at + length (leaves f)) g
roots-beside first at none g = roots_same g _ _ _ _ (omega arith) (omega arith)
roots-beside first at (leaf t more) g =
    ap (λ (l : List Node). leaf_at at ∷ l)
    (roots-beside first (at + 1) more g ∙ ap (λ (l : List Node). roots_of first (at + 1) more ++ l)
    (roots_same g _ _ _ _ refl (omega arith)))
roots-beside first at (node r below more) g =
    let next = first + (inner below + width below) in
    let from = at + length (leaves below) in
    let long = length-append (leaves below) (leaves more) in
    let own : Node = record {
      rule = Some r;
      first = first + inner below;
      count = width below;
      from = at;
      to = from;
    } in
    ap (λ (l : List Node). own ∷ l)
    (roots-beside next from more g ∙ ap (λ (l : List Node). roots_of next from more ++ l)
    (roots_same g _ _ _ _ (omega arith) (omega (arith, long))))

pub below-beside : (first at : ℕ) (f g : Trees) →
    below_of first at (beside f g) ≡ below_of first at f ++ below_of (first + inner f) (at + length (leaves f)) g
below-beside first at none g = below_same g _ _ _ _ (omega arith) (omega arith)
below-beside first at (leaf t more) g =
    below-beside first (at + 1) more g ∙ ap (λ (l : List Node). below_of first (at + 1) more ++ l)
    (below_same g _ _ _ _ refl (omega arith))
below-beside first at (node r below more) g =
    let next = first + (inner below + width below) in
    let from = at + length (leaves below) in
    let long = length-append (leaves below) (leaves more) in
    let own = below_of first at below ++ roots_of first at below in
    ap (λ (l : List Node). own ++ l)
    (below-beside next from more g ∙ ap (λ (l : List Node). below_of next from more ++ l)
    (below_same g _ _ _ _ (omega arith) (omega (arith, long))))
    ∙ sym (append_assoc own (below_of next from more) _)

pub length-roots : (first at : ℕ) (f : Trees) → length (roots_of first at f) ≡ width f
length-roots first at none = refl
length-roots first at (leaf t more) = omega (arith, length-roots first (at + 1) more)
length-roots first at (node r below more) =
    omega (arith, length-roots (first + (inner below + width below)) (at + length (leaves below)) more)

pub length-below : (first at : ℕ) (f : Trees) → length (below_of first at f) ≡ inner f
length-below first at none = refl
length-below first at (leaf t more) = length-below first (at + 1) more
length-below first at (node r below more) =
    let next = first + (inner below + width below) in
    let from = at + length (leaves below) in
    omega (
      arith,
      length-below first at below,
      length-roots first at below,
      length-below next from more,
      length-append (below_of first at below) (roots_of first at below),
      length-append (below_of first at below ++ roots_of first at below) (below_of next from more),
    )

-- there is a node for each token and for each reduction
pub count_nodes : (f : Trees) → inner f + width f ≡ length (leaves f) + length (reductions f)
count_nodes none = refl
count_nodes (leaf t more) = omega (arith, count_nodes more)
count_nodes (node r below more) =
    omega (
      arith,
      count_nodes below,
      count_nodes more,
      length-append (leaves below) (leaves more),
      length-append (reductions below) (r ∷ reductions more),
    )

-- where trees begin
pub start : (first at : ℕ) (f : Trees) → start_of (roots_of first at f) (at + length (leaves f)) ≡ at
start first at none = omega arith
start first at (leaf t more) = refl
start first at (node r below more) = refl

-- in an array that has the nodes below them at their numbers, roots stand for their trees
pub stand_for : (nodes before after : List Node) (first at : ℕ) (f : Trees) →
    nodes ≡ before ++ (below_of first at f ++ after) → length before ≡ first → Stand nodes (roots_of first at f) at f
stand_for nodes before after first at none is long = no_roots
stand_for nodes before after first at (leaf t more) is long =
    token (stand_for nodes before after first (at + 1) more is long)
stand_for nodes before after first at (node r below more) is long =
    let next = first + (inner below + width below) in
    let from = at + length (leaves below) in
    let own = below_of first at below in
    let roots = roots_of first at below in
    let others = below_of next from more in
    let whole : nodes ≡ before ++ (own ++ (roots ++ (others ++ after))) =
    is ∙ ap (λ (l : List Node). before ++ l)
    (append_assoc (own ++ roots) others after ∙ append_assoc own roots (others ++ after)) in
    let left = sym (append_assoc before own (roots ++ (others ++ after))) in
    let count = length-append before own in
    let there : nodes_at nodes (first + inner below) (width below) ≡ roots =
    ap (λ (l : List Node). take (width below) (drop (first + inner below) l)) (whole ∙ left)
    ∙ ap (λ (l : List Node). take (width below) l)
    (drop_at (before ++ own) (roots ++ (others ++ after)) (first + inner below)
    (omega (arith, count, long, length-below first at below)))
    ∙ take_at roots (others ++ after) (width below) (length-roots first at below) in
    let behind : nodes ≡ (before ++ (own ++ roots)) ++ (others ++ after) =
    is ∙ ap (λ (l : List Node). before ++ l) (append_assoc (own ++ roots) others after)
    ∙ sym (append_assoc before (own ++ roots) (others ++ after)) in
    let far = length-append before (own ++ roots) in
    let both = length-append own roots in
    rule_root (ap (λ (l : List Node). length l) there ∙ length-roots first at below)
    (subst (λ (l : List Node). Stand nodes l at below) (sym there)
    (stand_for nodes before (roots ++ (others ++ after)) first at below whole long))
    (stand_for nodes (before ++ (own ++ roots)) after next from more behind
    (omega (arith, far, both, long, length-below first at below, length-roots first at below)))

-- ---- trees of symbols

module _ (rules : List Rule) where
  pub as_many : {xs : List Symbol} {f : Trees} → AreTrees rules xs f → width f ≡ length xs
  as_many nothing = refl
  as_many (terminal rest) = omega (arith, as_many rest)
  as_many (by_rule is below rest) = omega (arith, as_many rest)

  pub joined : {xs ys : List Symbol} {f g : Trees} → AreTrees rules xs f → AreTrees rules ys g →
      AreTrees rules (xs ++ ys) (beside f g)
  joined nothing b = b
  joined (terminal rest) b = terminal (joined rest b)
  joined (by_rule is below rest) b = by_rule is below (joined rest b)

  -- trees in two parts
  pub record Parts (xs ys : List Symbol) (f : Trees) : Type 0 where
    pub one : Trees
    pub other : Trees
    pub trees_are : f ≡ beside one other
    pub first : AreTrees rules xs one
    pub second : AreTrees rules ys other

  pub parts : (xs ys : List Symbol) {zs : List Symbol} {f : Trees} → AreTrees rules zs f → zs ≡ xs ++ ys →
      Parts xs ys f
  parts [] ys {f = f} b e = record {
    one = none;
    other = f;
    trees_are = refl;
    first = nothing;
    second = subst (λ (l : List Symbol). AreTrees rules l f) e b;
  }
  parts (x ∷ xs) ys nothing e = absurd (cc)
  parts (x ∷ xs) ys (terminal {t = t} rest) e =
      let p = parts xs ys rest (cc) in
      let head : Terminal t ≡ x = cc in
      record {
        one = leaf t p.one;
        other = p.other;
        trees_are = ap (λ (f : Trees). leaf t f) p.trees_are;
        first = subst (λ (y : Symbol). AreTrees rules (y ∷ xs) (leaf t p.one)) head (terminal p.first);
        second = p.second;
      }
  parts (x ∷ xs) ys (by_rule {r = r} {rule = rule} {below = below} is under rest) e =
      let p = parts xs ys rest (cc) in
      let head : Nonterminal rule.left ≡ x = cc in
      record {
        one = node r below p.one;
        other = p.other;
        trees_are = ap (λ (f : Trees). node r below f) p.trees_are;
        first = subst (λ (y : Symbol). AreTrees rules (y ∷ xs) (node r below p.one)) head (by_rule is under p.first);
        second = p.second;
      }
