-- Trees that nest as precedences say are read from their leaves in one way.
use Rattle.std.proofs.Common.{◌≡◌, ◌≢◌, ℕ, List, [], ◌∷◌, ◌++◌, None, Option, Some, refl, sym, ap, ◌∙◌, subst, ◌<◌, ◌≤◌, length, arith}
use Rattle.std.proofs.lemmas.List.{append-nil, append_assoc, length-append}
use Rattle.std.proofs.lemmas.Option.{same_Some}
use Rattle.vob_lr.specs.Edges.{BeginsLast, HasNode, IsOnLeftEdge, IsOnRightEdge}
use Rattle.vob_lr.specs.Nesting.{AreNested, HasLeftOperand, HasRightOperand, Replaces, RuleStays, ShiftStays}
use Rattle.vob_lr.specs.Edges.BeginsLast.{last as last_here, behind_leaf as last_past_leaf, behind_node as last_past_node}
use Rattle.vob_lr.specs.Edges.EndsFirst.{first}
use Rattle.vob_lr.specs.Edges.HasNode.{here, inside, behind_leaf, behind_node}
use Rattle.vob_lr.specs.Edges.IsOnLeftEdge.{here as left_here, inside as left_inside}
use Rattle.vob_lr.specs.Edges.IsOnRightEdge.{here as right_here, inside as right_inside, behind_leaf as right_past_leaf, behind_node as right_past_node}
use Rattle.vob_lr.specs.Operations.{AreDecisive, AreOperands, AreOperations, IsOperation, IsOperator, NestedTreesAreOne}
use Rattle.vob_lr.specs.Operations.AreOperands.{nothing as no_operands, token as one_token, enclosed as one_enclosed, last as one_last}
use Rattle.vob_lr.specs.Operations.IsOperation.{begins, goes_on}
use Rattle.vob_lr.specs.Trees.{AreTrees, Trees, leaves, reductions}
use Rattle.vob_lr.specs.Trees.AreTrees.{nothing as no_trees, terminal, by_rule}
use Rattle.vob_lr.specs.Trees.Trees.{none, leaf, node}
use Rattle.vob_lr.specs.declared.grammar.Rule.{Rule}
use Rattle.vob_lr.specs.declared.grammar.Symbol.{Symbol}
use Rattle.vob_lr.specs.declared.grammar.Symbol.TheVariants.{Terminal, Nonterminal}
use Rattle.vob_lr.specs.declared.precedence.Stays.{Stays}
use Rattle.vob_lr.specs.declared.precedence.Stays.TheVariants.{Shift, Rule as OneRule, Nothing, Both}

both_stay : (s : Stays) → ShiftStays s → RuleStays s → s ≡ Both
both_stay Shift shift rule = absurd rule
both_stay OneRule shift rule = absurd shift
both_stay Nothing shift rule = absurd rule
both_stay Both shift rule = refl

pub rule_alone : (s : Stays) → RuleStays s → s ≢ Both → s ≡ OneRule
rule_alone Shift stays other = absurd stays
rule_alone OneRule stays other = refl
rule_alone Nothing stays other = absurd stays
rule_alone Both stays other = absurd (other refl)

-- the first of some trees, with others behind it
abbrev before : Trees → Trees → Trees
before none g = g
before (leaf t more) g = leaf t g
before (node r below more) g = node r below g

module _ (rules : List Rule) (e : ℕ) (which : ℕ → ℕ → Stays) where
  -- behind an operand that is the last of rule r, or is enclosed, an operator goes on
  abbrev pub Takes : Option ℕ → ℕ → Type 0
  Takes None t = Unit {0}
  Takes (Some r) t = HasRightOperand rules r e × ShiftStays (which t r)

  -- no operator goes on
  abbrev pub Stops : Option ℕ → List ℕ → Type 0
  Stops None ts = (t : ℕ) (us : List ℕ) → ts ≡ t ∷ us → ¬ IsOperator rules e t
  Stops (Some r) ts = (t : ℕ) (us : List ℕ) → ts ≡ t ∷ us → IsOperator rules e t → RuleStays (which t r)

  -- what is read: an operand, what goes on behind a tree, or symbols of rule r
  pub data Task : Type 0 where
    operand : (c : Option ℕ) → Task
    more : (c : Option ℕ) (so_far : Trees) → Task
    symbols : (r : ℕ) (xs : List Symbol) → Task

  -- of tokens trees are read, and other tokens are left
  pub data Reads : Task → List ℕ → Trees → List ℕ → Type 0 where
    head : {c : Option ℕ} {r t : ℕ} {xs : List Symbol} {ts us vs : List ℕ} {f z : Trees} →
        Replaces rules r e (Terminal t ∷ xs) → Reads (symbols r xs) ts f us →
        Reads (more c (node r (leaf t f) none)) us z vs → Reads (operand c) (t ∷ ts) z vs
    stop : {c : Option ℕ} {z : Trees} {ts : List ℕ} → Stops c ts → Reads (more c z) ts z ts
    further : {c : Option ℕ} {r s t : ℕ} {xs : List Symbol} {ts us vs : List ℕ} {below f z : Trees} →
        Replaces rules r e (Nonterminal e ∷ Terminal t ∷ xs) → Takes c t → Reads (symbols r xs) ts f us →
        Reads (more c (node r (node s below (leaf t f)) none)) us z vs →
        Reads (more c (node s below none)) (t ∷ ts) z vs
    nothing : {r : ℕ} {ts : List ℕ} → Reads (symbols r []) ts none ts
    token : {r t u : ℕ} {xs : List Symbol} {ts us : List ℕ} {f : Trees} → t ≡ u →
        Reads (symbols r xs) ts f us → Reads (symbols r (Terminal t ∷ xs)) (u ∷ ts) (leaf u f) us
    enclosed : {r s t a : ℕ} {xs : List Symbol} {ts us vs : List ℕ} {below f : Trees} →
        ¬ IsOperator rules e t → Reads (operand None) ts (node s below none) (t ∷ us) →
        Reads (symbols r xs) us f vs →
        Reads (symbols r (Nonterminal a ∷ Terminal t ∷ xs)) ts (node s below (leaf t f)) vs
    last : {r a : ℕ} {ts us : List ℕ} {z : Trees} → Reads (operand (Some r)) ts z us →
        Reads (symbols r (Nonterminal a ∷ [])) ts z us

  one_right : (r : ℕ) (xs ys : List Symbol) → Replaces rules r e xs → Replaces rules r e ys → xs ≡ ys
  one_right r xs ys (one, at, left, right) (other, there, also, to) =
      sym right ∙ ap (λ (x : Rule). x.right.items) (same_Some one other (sym at ∙ there)) ∙ to

  -- ---- in one way

  module _ (ops : AreOperations rules e) (decisive : AreDecisive rules e which) where
    clash : (c : Option ℕ) (t : ℕ) (ts : List ℕ) → Takes c t → Stops c (t ∷ ts) → IsOperator rules e t → ⊥
    clash None t ts takes stops op = stops t ts refl op
    clash (Some r) t ts (right, shift) stops op =
        decisive r t right op (both_stay (which t r) shift (stops t ts refl op))

    reads_once : {k : Task} {ts us : List ℕ} {f : Trees} → Reads k ts f us → {vs : List ℕ} {g : Trees} →
        Reads k ts g vs → (f ≡ g) × (us ≡ vs)
    reads_once (head {c} {r} {t} {xs} {ts} {us} {f = f} own reads on)
        (head {r = s} {xs = ys} {us = us'} {vs = vs'} {f = f'} {z = z'} other reads' on') =
        let named = ops.first r s t xs ys own other in
        let own' = subst (λ (n : ℕ). Replaces rules n e (Terminal t ∷ ys)) (sym named) other in
        let whole = one_right r (Terminal t ∷ xs) (Terminal t ∷ ys) own own' in
        let rest : xs ≡ ys = cc in
        let task = ap (λ (n : ℕ). symbols n ys) (sym named) ∙ ap (symbols r) (sym rest) in
        let (below, left) = reads_once reads (subst (λ (k : Task). Reads k ts f' us') task reads') in
        let next = ap (λ (n : ℕ). more c (node n (leaf t f') none)) (sym named)
        ∙ ap (λ (g : Trees). more c (node r (leaf t g) none)) (sym below) in
        reads_once on (subst (λ (ws : List ℕ). Reads (more c (node r (leaf t f) none)) ws z' vs') (sym left)
        (subst (λ (k : Task). Reads k us' z' vs') next on'))
    reads_once (stop stops) (stop also) = (refl, refl)
    reads_once (stop {c} stops) (further {r = r} {t = t} {xs = xs} {ts = ts} own takes reads on) =
        absurd (clash c t ts takes stops (r, (xs, own)))
    reads_once (further {c} {r} {t = t} {xs = xs} {ts = ts} own takes reads on) (stop stops) =
        absurd (clash c t ts takes stops (r, (xs, own)))
    reads_once (further {c} {r} {s = p} {t} {xs} {ts} {us} {below = below} {f = f} own takes reads on)
        (further {r = s} {xs = ys} {us = us'} {vs = vs'} {f = f'} {z = z'} other also reads' on') =
        let named = ops.behind r s t (xs, own) (ys, other) in
        let own' = subst (λ (n : ℕ). Replaces rules n e (Nonterminal e ∷ Terminal t ∷ ys)) (sym named) other in
        let whole = one_right r (Nonterminal e ∷ Terminal t ∷ xs) (Nonterminal e ∷ Terminal t ∷ ys) own own' in
        let rest : xs ≡ ys = cc in
        let task = ap (λ (n : ℕ). symbols n ys) (sym named) ∙ ap (symbols r) (sym rest) in
        let (same, left) = reads_once reads (subst (λ (k : Task). Reads k ts f' us') task reads') in
        let next = ap (λ (n : ℕ). more c (node n (node p below (leaf t f')) none)) (sym named)
        ∙ ap (λ (g : Trees). more c (node r (node p below (leaf t g)) none)) (sym same) in
        reads_once on
        (subst (λ (ws : List ℕ). Reads (more c (node r (node p below (leaf t f)) none)) ws z' vs') (sym left)
        (subst (λ (k : Task). Reads k us' z' vs') next on'))
    reads_once nothing nothing = (refl, refl)
    reads_once (token {u = t} is reads) (token also reads') =
        let (same, left) = reads_once reads reads' in (ap (leaf t) same, left)
    reads_once (enclosed {r} {s} {t} {xs = xs} {us = us} {below = below} {f = f} not one reads)
        (enclosed {s = p} {us = us'} {vs = vs'} {below = below'} {f = f'} also other reads') =
        let (same, left) = reads_once one other in
        let rest : us ≡ us' = cc in
        let (behind, end) = reads_once reads
        (subst (λ (ws : List ℕ). Reads (symbols r xs) ws f' vs') (sym rest) reads') in (
          ap (λ (z : Trees). before z (leaf t f)) same ∙ ap (λ (g : Trees). node p below' (leaf t g)) behind,
          end,
        )
    reads_once (last one) (last other) = reads_once one other

  -- ---- trees that nest are read

  under : {f g : Trees} → ((r : ℕ) (below : Trees) → HasNode r below g → HasNode r below f) →
      AreNested rules which f → AreNested rules which g
  under sub nested = record {
    right = λ r s d t below there. nested.right r s d t below (sub r below there);
    left = λ r s d t below there. nested.left r s d t below (sub r below there);
  }

  -- a node alone is one before others
  alone : {r s : ℕ} {below trees more : Trees} → HasNode r below (node s trees none) →
      HasNode r below (node s trees more)
  alone here = here
  alone (inside h) = inside h
  alone (behind_node h) = elim h [ ]

  left_alone : {r s : ℕ} {trees more : Trees} → IsOnLeftEdge r (node s trees none) →
      IsOnLeftEdge r (node s trees more)
  left_alone left_here = left_here
  left_alone (left_inside h) = left_inside h

  -- what is known of a node by rule r above trees, behind which stand these tokens
  record IsOperand (c : Option ℕ) (r : ℕ) (below : Trees) (ts : List ℕ) : Type 0 where
    nested : AreNested rules which (node r below none)
    takes : (s t : ℕ) → IsOnLeftEdge s (node r below none) → HasLeftOperand rules s e t → Takes c t
    stops : (s : ℕ) → IsOnRightEdge s (node r below none) → HasRightOperand rules s e → Stops (Some s) ts

  -- and of the last trees below it
  record AreLast (r : ℕ) (xs : List Symbol) (f : Trees) (ts : List ℕ) : Type 0 where
    nested : AreNested rules which f
    front : List Symbol
    own : Replaces rules r e (front ++ xs)
    takes : HasRightOperand rules r e → (s t : ℕ) → BeginsLast s f → HasLeftOperand rules s e t →
        ShiftStays (which t r)
    stops : (s : ℕ) → IsOnRightEdge s f → HasRightOperand rules s e → Stops (Some s) ts
    ends : HasRightOperand rules r e → Stops (Some r) ts

  module _ (ops : AreOperations rules e) where
    -- all trees below a node
    all_below : {c : Option ℕ} {r : ℕ} {xs : List Symbol} {f : Trees} {ts : List ℕ} →
        Replaces rules r e xs → IsOperand c r f ts → AreLast r xs f ts
    all_below {r = r} {f = f} own h = record {
      nested = under (λ s below there. inside there) h.nested;
      front = [];
      own = own;
      takes = λ right s t first other. h.nested.right r s e t f here right other first;
      stops = λ s edge. h.stops s (right_inside edge);
      ends = h.stops r right_here;
    }

    -- those behind a leaf
    past_leaf : {r t : ℕ} {xs : List Symbol} {f : Trees} {ts : List ℕ} →
        AreLast r (Terminal t ∷ xs) (leaf t f) ts → AreLast r xs f ts
    past_leaf {r} {t} {xs} h = record {
      nested = under (λ s below there. behind_leaf there) h.nested;
      front = h.front ++ Terminal t ∷ [];
      own = subst (λ (ys : List Symbol). Replaces rules r e ys)
          (sym (append_assoc h.front (Terminal t ∷ []) xs)) h.own;
      takes = λ right s u first. h.takes right s u (last_past_leaf first);
      stops = λ s edge. h.stops s (right_past_leaf edge);
      ends = h.ends;
    }

    -- and those behind a node and a leaf
    past_node : {r s t : ℕ} {xs : List Symbol} {below f : Trees} {ts : List ℕ} →
        AreLast r (Nonterminal e ∷ Terminal t ∷ xs) (node s below (leaf t f)) ts → AreLast r xs f ts
    past_node {r} {s} {t} {xs} h = past_leaf record {
      nested = under (λ s below there. behind_node there) h.nested;
      front = h.front ++ Nonterminal e ∷ [];
      own = subst (λ (ys : List Symbol). Replaces rules r e ys)
          (sym (append_assoc h.front (Nonterminal e ∷ []) (Terminal t ∷ xs))) h.own;
      takes = λ right s u first. h.takes right s u (last_past_node first);
      stops = λ s edge. h.stops s (right_past_node edge);
      ends = h.ends;
    }

    mutual
      reads_node : {xs : List Symbol} {f : Trees} → IsOperation rules e xs → AreTrees rules xs f → (r : ℕ) →
          Replaces rules r e xs → (c : Option ℕ) (ts : List ℕ) → IsOperand c r f ts → (z : Trees)
          (us : List ℕ) → Reads (more c (node r f none)) ts z us → Reads (operand c) (leaves f ++ ts) z us
      reads_node (begins own) (terminal a) r is c ts h z us on =
          head is (reads_rest own a r ts (past_leaf (all_below is h))) on
      reads_node (goes_on own)
          (by_rule {r = s} {rule = rule} {below = below} at a (terminal {t = t} {xs = xs} {more = f} b)) r is c ts
          h z us on =
          let rest = reads_rest own b r ts (past_node (all_below is h)) in
          let one : Replaces rules s e rule.right.items = (rule, at, refl, refl) in
          let inner : IsOperand c s below (t ∷ (leaves f ++ ts)) = record {
            nested = under (λ p trees there. inside (alone there)) h.nested;
            takes = λ p u edge. h.takes p u (left_inside (left_alone edge));
            stops = λ p edge right u vs same op.
                let named : t ≡ u = cc in
                subst (λ (n : ℕ). RuleStays (which n p)) named
                (h.nested.left r p e t (node s below (leaf t f)) here (xs, is) right (first edge));
          } in
          subst (λ (ws : List ℕ). Reads (operand c) ws z us) (sym (append_assoc (leaves below) (t ∷ leaves f) ts))
          (reads_node (ops.each s rule.right.items one) a s one c (t ∷ (leaves f ++ ts)) inner z us
          (further is (h.takes r t left_here (xs, is)) rest on))

      reads_rest : {xs : List Symbol} {f : Trees} → AreOperands rules e xs → AreTrees rules xs f → (r : ℕ)
          (ts : List ℕ) → AreLast r xs f ts → Reads (symbols r xs) (leaves f ++ ts) f ts
      reads_rest no_operands no_trees r ts h = nothing
      reads_rest (one_token own) (terminal a) r ts h = token refl (reads_rest own a r ts (past_leaf h))
      reads_rest (one_enclosed other own)
          (by_rule {r = s} {rule = rule} {below = below} at a (terminal {t = t} {xs = xs} {more = f} b)) r ts h =
          let one : Replaces rules s e rule.right.items = (rule, at, refl, refl) in
          let vs = leaves f ++ ts in
          let ends : (u : ℕ) (us : List ℕ) → t ∷ vs ≡ u ∷ us → ¬ IsOperator rules e u =
          λ u us same op.
          let named : t ≡ u = cc in other (subst (λ (n : ℕ). IsOperator rules e n) (sym named) op) in
          let inner : IsOperand None s below (t ∷ vs) = record {
            nested = under (λ p trees there. alone there) h.nested;
            takes = λ p u edge own. tt;
            stops = λ p edge right u us same op. absurd (ends u us same op);
          } in
          subst (λ (ws : List ℕ). Reads (symbols r (Nonterminal e ∷ Terminal t ∷ xs)) ws
          (node s below (leaf t f)) ts) (sym (append_assoc (leaves below) (t ∷ leaves f) ts))
          (enclosed other (reads_node (ops.each s rule.right.items one) a s one None (t ∷ vs) inner
          (node s below none) (t ∷ vs) (stop ends)) (reads_rest own b r ts (past_node h)))
      reads_rest one_last (by_rule {r = s} {rule = rule} {below = below} at a no_trees) r ts h =
          let one : Replaces rules s e rule.right.items = (rule, at, refl, refl) in
          let right : HasRightOperand rules r e = (h.front, h.own) in
          let inner : IsOperand (Some r) s below ts = record {
            nested = h.nested;
            takes = λ p u edge own. (right, h.takes right p u (last_here edge) own);
            stops = h.stops;
          } in
          subst (λ (vs : List ℕ). Reads (symbols r (Nonterminal e ∷ [])) (vs ++ ts) (node s below none) ts)
          (sym (append-nil (leaves below)))
          (last (reads_node (ops.each s rule.right.items one) a s one (Some r) ts inner (node s below none) ts
          (stop (h.ends right))))

    -- ---- each node has a leaf of its own

    mutual
      fewer_below : {xs : List Symbol} {f : Trees} → IsOperation rules e xs → AreTrees rules xs f →
          length (reductions f) < length (leaves f)
      fewer_below (begins own) (terminal a) = omega (arith, fewer own a)
      fewer_below (goes_on own)
          (by_rule {r = s} {rule = rule} {below = below} at a (terminal {t = t} {more = f} b)) =
          omega (
            arith,
            fewer_below (ops.each s rule.right.items (rule, at, refl, refl)) a,
            fewer own b,
            length-append (reductions below) (s ∷ reductions f),
            length-append (leaves below) (t ∷ leaves f),
          )

      pub fewer : {xs : List Symbol} {f : Trees} → AreOperands rules e xs → AreTrees rules xs f →
          length (reductions f) ≤ length (leaves f)
      fewer no_operands no_trees = omega arith
      fewer (one_token own) (terminal a) = omega (arith, fewer own a)
      fewer (one_enclosed other own)
          (by_rule {r = s} {rule = rule} {below = below} at a (terminal {t = t} {more = f} b)) =
          omega (
            arith,
            fewer_below (ops.each s rule.right.items (rule, at, refl, refl)) a,
            fewer own b,
            length-append (reductions below) (s ∷ reductions f),
            length-append (leaves below) (t ∷ leaves f),
          )
      fewer one_last (by_rule {r = s} {rule = rule} {below = below} at a no_trees) =
          omega (
            arith,
            fewer_below (ops.each s rule.right.items (rule, at, refl, refl)) a,
            length-append (reductions below) (s ∷ []),
            length-append (leaves below) [],
          )

    -- all of an operand's leaves
    pub reads_all : {f : Trees} → AreTrees rules (Nonterminal e ∷ []) f → AreNested rules which f →
        Reads (operand None) (leaves f) f []
    reads_all (by_rule {r = r} {rule = rule} {below = below} at a no_trees) nested =
        let one : Replaces rules r e rule.right.items = (rule, at, refl, refl) in
        let whole : IsOperand None r below [] = record {
          nested = nested;
          takes = λ s t edge own. tt;
          stops = λ s edge right t us same op. absurd (cc);
        } in
        reads_node (ops.each r rule.right.items one) a r one None [] whole (node r below none) []
        (stop (λ t us same op. absurd (cc)))

pub nested_trees_are_one : NestedTreesAreOne
nested_trees_are_one rules e which ops decisive f g own other nested also same =
    (reads_once rules e which ops decisive (reads_all rules e which ops own nested)
    (subst (λ (ts : List ℕ). Reads rules e which (operand None) ts g []) (sym same)
    (reads_all rules e which ops other also))).0
