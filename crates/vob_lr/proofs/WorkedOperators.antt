-- How operators nest in a grammar of six rules, worked out by hand and then from the definitions. The
-- nonterminal 0 becomes 1 and the end, and 1 becomes 1 - 1, 1 * 1, - 1, ( 1 ) or a number. The
-- terminals are the end, -, *, (, ) and a number. Both operators group to the left, * binds more
-- tightly than -, and the prefix - more tightly than both.
use Rattle.std.proofs.Common.{◌≡◌, ◌≢◌, ◌==◌, if◌then◌else◌, arith, ◌⊎◌, ℕ, zero, suc, inl, inr, List, [], ◌∷◌, ◌++◌, None, Option, Some, slice_get, refl, sym, ap, ◌∙◌, subst}
use Rattle.std.proofs.lemmas.Option.{none-some, same_Some}
use Rattle.vob_lr.specs.Edges.{BeginsLast, EndsFirst, HasNode, IsOnRightEdge}
use Rattle.vob_lr.specs.Edges.BeginsLast.{last as last_here, behind_leaf as past_leaf, behind_node as past_node}
use Rattle.vob_lr.specs.Edges.EndsFirst.{first}
use Rattle.vob_lr.specs.Edges.HasNode.{here, inside, behind_leaf, behind_node}
use Rattle.vob_lr.specs.Edges.IsOnLeftEdge.{here as left_here, inside as left_inside}
use Rattle.vob_lr.specs.Edges.IsOnRightEdge.{here as right_here, inside as right_inside, behind_leaf as right_past_leaf, behind_node as right_past_node}
use Rattle.vob_lr.specs.Nesting.{AreNested, HasLeftOperand, HasRightOperand, IsByPrecedences, RuleStays, Replaces}
use Rattle.vob_lr.specs.Operations.{AreDecisive, AreOperations, IsOperation, IsOperator}
use Rattle.vob_lr.specs.OperatorTables.{IsOperatorGrammar}
use Rattle.vob_lr.specs.Operations.AreOperands.{nothing, enclosed, last}
use Rattle.vob_lr.specs.Operations.IsOperation.{begins, goes_on}
use Rattle.vob_lr.specs.Tables.{TableView, stays_at}
use Rattle.vob_lr.specs.Languages.{rules_of}
use Rattle.vob_lr.specs.Stops.{AcceptsBy}
use Rattle.vob_lr.specs.Trees.{AreTrees, AreTreesOf, Trees}
use Rattle.vob_lr.specs.Trees.AreTrees.{nothing as no_trees, terminal, by_rule}
use Rattle.vob_lr.proofs.FollowedLemmas.{accepted_are_nested}
use Rattle.vob_lr.specs.Trees.Trees.{none, leaf, node}
use Rattle.vob_lr.specs.declared.grammar.Rule.{Rule}
use Rattle.vob_lr.specs.declared.grammar.Symbol.{Symbol}
use Rattle.vob_lr.specs.declared.grammar.Symbol.TheVariants.{Terminal, Nonterminal}
use Rattle.vob_lr.specs.declared.precedence.Associativity.TheVariants.{Left}
use Rattle.vob_lr.specs.declared.precedence.Precedence.{Precedence}
use Rattle.vob_lr.specs.declared.precedence.Stays.{Stays}
use Rattle.vob_lr.specs.declared.precedence.Stays.TheVariants.{Both}

abbrev level : ℕ → Option Precedence
level n = Some (record { level = n; associativity = Left })

abbrev terminals : List (Option Precedence)
terminals = None ∷ level 1 ∷ level 2 ∷ []

abbrev precedences : List (Option Precedence)
precedences = None ∷ level 1 ∷ level 2 ∷ level 3 ∷ []

abbrev which : ℕ → ℕ → Stays
which t r = stays_at terminals precedences t r

abbrev right_0 : List Symbol
right_0 = Nonterminal 1 ∷ Terminal 0 ∷ []

abbrev right_1 : List Symbol
right_1 = Nonterminal 1 ∷ Terminal 1 ∷ Nonterminal 1 ∷ []

abbrev right_2 : List Symbol
right_2 = Nonterminal 1 ∷ Terminal 2 ∷ Nonterminal 1 ∷ []

abbrev right_3 : List Symbol
right_3 = Terminal 1 ∷ Nonterminal 1 ∷ []

abbrev right_4 : List Symbol
right_4 = Terminal 3 ∷ Nonterminal 1 ∷ Terminal 4 ∷ []

abbrev right_5 : List Symbol
right_5 = Terminal 5 ∷ []

-- a rule with these sides
record HasSides (rule : Rule) (left : ℕ) (right : List Symbol) : Type 0 where
  on_left : rule.left ≡ left
  on_right : rule.right.items ≡ right

items : (one rule : Rule) (right own : List Symbol) → one.right.items ≡ own → Some one ≡ Some rule →
    rule.right.items ≡ right → own ≡ right
items one rule right own is same to =
    sym is ∙ ap (λ (x : Rule). x.right.items) (same_Some one rule same) ∙ to

not_behind_4 : (more : List Symbol) → more ++ Nonterminal 1 ∷ [] ≡ right_4 → ⊥
not_behind_4 [] same = cc
not_behind_4 (x ∷ []) same = cc
not_behind_4 (x ∷ y ∷ []) same = cc
not_behind_4 (x ∷ y ∷ z ∷ []) same = cc
not_behind_4 (x ∷ y ∷ z ∷ w ∷ more) same = cc

not_behind_5 : (more : List Symbol) → more ++ Nonterminal 1 ∷ [] ≡ right_5 → ⊥
not_behind_5 [] same = cc
not_behind_5 (x ∷ []) same = cc
not_behind_5 (x ∷ y ∷ more) same = cc

-- the rules of the nonterminal 1
data IsOne : ℕ → List Symbol → Type 0 where
  minus : IsOne 1 right_1
  times : IsOne 2 right_2
  negative : IsOne 3 right_3
  parentheses : IsOne 4 right_4
  number : IsOne 5 right_5

-- by their first token, and by their operator
abbrev first_rule : ℕ → ℕ
first_rule t = if t == 1 then 3 else (if t == 3 then 4 else 5)

first_named : {r t : ℕ} {xs : List Symbol} → IsOne r (Terminal t ∷ xs) → r ≡ first_rule t
first_named negative = refl
first_named parentheses = refl
first_named number = refl

operator_named : {r t : ℕ} {xs : List Symbol} → IsOne r (Nonterminal 1 ∷ Terminal t ∷ xs) →
    (r ≡ t) × ((t ≡ 1) ⊎ (t ≡ 2))
operator_named minus = (refl, inl refl)
operator_named times = (refl, inr refl)

ends_with_operand : {r : ℕ} {xs : List Symbol} → IsOne r xs → (more : List Symbol) →
    xs ≡ more ++ Nonterminal 1 ∷ [] → (r ≡ 1) ⊎ ((r ≡ 2) ⊎ (r ≡ 3))
ends_with_operand minus more same = inl refl
ends_with_operand times more same = inr (inl refl)
ends_with_operand negative more same = inr (inr refl)
ends_with_operand parentheses more same = absurd (not_behind_4 more (sym same))
ends_with_operand number more same = absurd (not_behind_5 more (sym same))

wrong : (r t s u : ℕ) → r ≡ s → t ≡ u → (which u s ≡ Both → ⊥) → which t r ≡ Both → ⊥
wrong r t s u rule operator not same =
    not (sym (ap (λ (k : ℕ). which k r) operator ∙ ap (which u) rule) ∙ same)

-- precedences decide between each two
decided : (r t : ℕ) → (r ≡ 1) ⊎ ((r ≡ 2) ⊎ (r ≡ 3)) → (t ≡ 1) ⊎ (t ≡ 2) → which t r ≢ Both
decided r t (inl a) (inl one) same = wrong r t 1 1 a one (λ h. cc) same
decided r t (inl a) (inr two) same = wrong r t 1 2 a two (λ h. cc) same
decided r t (inr (inl a)) (inl one) same = wrong r t 2 1 a one (λ h. cc) same
decided r t (inr (inl a)) (inr two) same = wrong r t 2 2 a two (λ h. cc) same
decided r t (inr (inr a)) (inl one) same = wrong r t 3 1 a one (λ h. cc) same
decided r t (inr (inr a)) (inr two) same = wrong r t 3 2 a two (λ h. cc) same

module _ (a b c d f g : Rule) (a_is : HasSides a 0 right_0) (b_is : HasSides b 1 right_1)
    (c_is : HasSides c 1 right_2) (d_is : HasSides d 1 right_3) (f_is : HasSides f 1 right_4)
    (g_is : HasSides g 1 right_5) where
  abbrev rules : List Rule
  rules = a ∷ b ∷ c ∷ d ∷ f ∷ g ∷ []

  minus_is : Replaces rules 1 1 right_1
  minus_is = (b, refl, b_is.on_left, b_is.on_right)

  times_is : Replaces rules 2 1 right_2
  times_is = (c, refl, c_is.on_left, c_is.on_right)

  negative_is : Replaces rules 3 1 right_3
  negative_is = (d, refl, d_is.on_left, d_is.on_right)

  which_rule : (r : ℕ) (right : List Symbol) → Replaces rules r 1 right → IsOne r right
  which_rule zero right (rule, is, left, same) =
      let none : 0 ≡ 1 = sym a_is.on_left ∙ ap (λ (x : Rule). x.left) (same_Some a rule is) ∙ left in
      absurd (omega (arith, none))
  which_rule (suc zero) right (rule, is, left, same) =
      subst (λ (xs : List Symbol). IsOne 1 xs) (items b rule right right_1 b_is.on_right is same) minus
  which_rule (suc (suc zero)) right (rule, is, left, same) =
      subst (λ (xs : List Symbol). IsOne 2 xs) (items c rule right right_2 c_is.on_right is same) times
  which_rule (suc (suc (suc zero))) right (rule, is, left, same) =
      subst (λ (xs : List Symbol). IsOne 3 xs) (items d rule right right_3 d_is.on_right is same) negative
  which_rule (suc (suc (suc (suc zero)))) right (rule, is, left, same) =
      subst (λ (xs : List Symbol). IsOne 4 xs) (items f rule right right_4 f_is.on_right is same) parentheses
  which_rule (suc (suc (suc (suc (suc zero))))) right (rule, is, left, same) =
      subst (λ (xs : List Symbol). IsOne 5 xs) (items g rule right right_5 g_is.on_right is same) number
  which_rule (suc (suc (suc (suc (suc (suc k)))))) right (rule, is, left, same) = absurd (none-some rule is)

  -- ---- the rules are operations

  not_closed : ¬ IsOperator rules 1 4
  not_closed (r, (xs, own)) = elim (operator_named (which_rule r _ own)).1 [
    | inl one ↦ omega (arith, one)
    | inr two ↦ omega (arith, two)
  ]

  operation : {r : ℕ} {right : List Symbol} → IsOne r right → IsOperation rules 1 right
  operation minus = goes_on last
  operation times = goes_on last
  operation negative = begins last
  operation parentheses = begins (enclosed not_closed nothing)
  operation number = begins nothing

  operations : AreOperations rules 1
  operations = record {
    each = λ r right own. operation (which_rule r right own);
    first = λ r s t xs ys one other.
        first_named (which_rule r _ one) ∙ sym (first_named (which_rule s _ other));
    behind = λ r s t one other.
        (operator_named (which_rule r _ one.1)).0 ∙ sym (operator_named (which_rule s _ other.1)).0;
  }

  decisive : AreDecisive rules 1 which
  decisive r t right operator =
      decided r t (ends_with_operand (which_rule r _ right.1) right.0 refl)
      (operator_named (which_rule operator.0 _ operator.1.1)).1

  other_left : (r : ℕ) (rule : Rule) → slice_get rules r ≡ Some rule → r ≢ 0 → rule.left ≡ 1
  other_left zero rule is other = absurd (other refl)
  other_left (suc zero) rule is other = ap (λ (x : Rule). x.left) (sym (same_Some b rule is)) ∙ b_is.on_left
  other_left (suc (suc zero)) rule is other =
      ap (λ (x : Rule). x.left) (sym (same_Some c rule is)) ∙ c_is.on_left
  other_left (suc (suc (suc zero))) rule is other =
      ap (λ (x : Rule). x.left) (sym (same_Some d rule is)) ∙ d_is.on_left
  other_left (suc (suc (suc (suc zero)))) rule is other =
      ap (λ (x : Rule). x.left) (sym (same_Some f rule is)) ∙ f_is.on_left
  other_left (suc (suc (suc (suc (suc zero))))) rule is other =
      ap (λ (x : Rule). x.left) (sym (same_Some g rule is)) ∙ g_is.on_left
  other_left (suc (suc (suc (suc (suc (suc k)))))) rule is other = absurd (none-some rule is)

  not_ended : ¬ IsOperator rules 1 0
  not_ended (r, (xs, own)) = elim (operator_named (which_rule r _ own)).1 [
    | inl one ↦ omega (arith, one)
    | inr two ↦ omega (arith, two)
  ]

  of_operations : IsOperatorGrammar rules 1
  of_operations = record {
    start = 0;
    begins = (a, refl, a_is.on_left, a_is.on_right);
    start_is = λ same. omega (arith, same);
    others = other_left;
    operations = operations;
    no_end = not_ended;
  }

  -- ---- a - (b - c), (a - b) * c and - (a * b) don't nest so

  abbrev number_then : Trees → Trees
  number_then more = node 5 (leaf 5 none) more

  abbrev two : ℕ → Trees → Trees
  two r more = node r (number_then (leaf r (number_then none))) more

  one_minus : HasLeftOperand rules 1 1 1
  one_minus = (Nonterminal 1 ∷ [], minus_is)

  minus_to_the_right : ¬ AreNested rules which (node 1 (number_then (leaf 1 (two 1 none))) none)
  minus_to_the_right h =
      h.right 1 1 1 1 (number_then (leaf 1 (two 1 none))) here (Nonterminal 1 ∷ Terminal 1 ∷ [], minus_is)
      one_minus (past_node (past_leaf (last_here left_here)))

  difference_times : ¬ AreNested rules which (node 2 (two 1 (leaf 2 (number_then none))) none)
  difference_times h =
      h.left 2 1 1 2 (two 1 (leaf 2 (number_then none))) here (Nonterminal 1 ∷ [], times_is)
      (Nonterminal 1 ∷ Terminal 1 ∷ [], minus_is) (first right_here)

  negative_product : ¬ AreNested rules which (node 3 (leaf 1 (two 2 none)) none)
  negative_product h =
      h.right 3 2 1 2 (leaf 1 (two 2 none)) here (Terminal 1 ∷ [], negative_is) (Nonterminal 1 ∷ [], times_is)
      (past_leaf (last_here left_here))

  -- ---- a - b - c is parsed as (a - b) - c

  -- the difference of two numbers, minus a number
  abbrev outer : Trees
  outer = two 1 (leaf 1 (number_then none))

  abbrev inner : Trees
  inner = number_then (leaf 1 (number_then none))

  abbrev to_the_left : Trees
  to_the_left = node 1 outer none

  numbers : {r : ℕ} {below : Trees} → HasNode r below inner → r ≡ 5
  numbers here = refl
  numbers (inside (behind_leaf h)) = elim h [ ]
  numbers (behind_node (behind_leaf here)) = refl
  numbers (behind_node (behind_leaf (inside (behind_leaf h)))) = elim h [ ]
  numbers (behind_node (behind_leaf (behind_node h))) = elim h [ ]

  nodes : {r : ℕ} {below : Trees} → HasNode r below to_the_left →
      (r ≡ 5) ⊎ ((r ≡ 1) × ((below ≡ outer) ⊎ (below ≡ inner)))
  nodes here = inr (refl, inl refl)
  nodes (inside here) = inr (refl, inr refl)
  nodes (inside (inside h)) = inl (numbers h)
  nodes (inside (behind_node (behind_leaf h))) = inl (numbers (behind_node (behind_leaf h)))
  nodes (behind_node h) = elim h [ ]

  last_number : {s k : ℕ} {below : Trees} → BeginsLast s (node k below (leaf 1 (number_then none))) → s ≡ 5
  last_number (past_node (past_leaf (last_here left_here))) = refl
  last_number (past_node (past_leaf (last_here (left_inside h)))) = elim h [ ]
  last_number (past_node (past_leaf (past_node h))) = elim h [ ]

  number_ends : {s : ℕ} → IsOnRightEdge s (number_then none) → s ≡ 5
  number_ends right_here = refl
  number_ends (right_inside (right_past_leaf h)) = elim h [ ]
  number_ends (right_past_node h) = elim h [ ]

  difference_ends : {s : ℕ} → IsOnRightEdge s (two 1 none) → (s ≡ 1) ⊎ (s ≡ 5)
  difference_ends right_here = inl refl
  difference_ends (right_inside (right_past_node (right_past_leaf h))) = inr (number_ends h)
  difference_ends (right_past_node h) = elim h [ ]

  inner_ends : {s : ℕ} → EndsFirst s inner → s ≡ 5
  inner_ends (first h) = number_ends h

  outer_ends : {s : ℕ} → EndsFirst s outer → (s ≡ 1) ⊎ (s ≡ 5)
  outer_ends (first h) = difference_ends h

  no_left : (e t : ℕ) → HasLeftOperand rules 5 e t → ⊥
  no_left e t (more, (rule, is, left, same)) =
      let wrong = items g rule _ right_5 g_is.on_right is same in cc

  no_right : (e : ℕ) → HasRightOperand rules 5 e → ⊥
  no_right e (more, (rule, is, left, same)) =
      let named : 1 ≡ e = sym g_is.on_left ∙ ap (λ (x : Rule). x.left) (same_Some g rule is) ∙ left in
      not_behind_5 more (subst (λ (n : ℕ). more ++ Nonterminal n ∷ [] ≡ right_5) (sym named)
      (sym (items g rule _ right_5 g_is.on_right is same)))

  minus_behind : (e t : ℕ) → HasLeftOperand rules 1 e t → t ≡ 1
  minus_behind e t (more, (rule, is, left, same)) =
      let whole = items b rule _ right_1 b_is.on_right is same in cc

  nested_to_the_left : AreNested rules which to_the_left
  nested_to_the_left = record {
    right = λ r s e t below there right left begins. elim (nodes there) [
      | inl one ↦ absurd (no_right e (subst (λ (n : ℕ). HasRightOperand rules n e) one right))
      | inr both ↦
          let five : s ≡ 5 = elim both.1 [
            | inl same ↦ last_number (subst (λ (f : Trees). BeginsLast s f) same begins)
            | inr same ↦ last_number (subst (λ (f : Trees). BeginsLast s f) same begins)
          ] in
          absurd (no_left e t (subst (λ (n : ℕ). HasLeftOperand rules n e t) five left))
    ];
    left = λ r s e t below there left right ends. elim (nodes there) [
      | inl one ↦ absurd (no_left e t (subst (λ (n : ℕ). HasLeftOperand rules n e t) one left))
      | inr both ↦
          let minus = minus_behind e t (subst (λ (n : ℕ). HasLeftOperand rules n e t) both.0 left) in
          let ended : (s ≡ 1) ⊎ (s ≡ 5) = elim both.1 [
            | inl same ↦ outer_ends (subst (λ (f : Trees). EndsFirst s f) same ends)
            | inr same ↦ inr (inner_ends (subst (λ (f : Trees). EndsFirst s f) same ends))
          ] in
          elim ended [
            | inl one ↦
                subst (λ (n : ℕ). RuleStays (which n s)) (sym minus)
                (subst (λ (n : ℕ). RuleStays (which 1 n)) (sym one) tt)
            | inr five ↦ absurd (no_right e (subst (λ (n : ℕ). HasRightOperand rules n e) five right))
          ]
    ];
  }

  a_node : {r e : ℕ} {right xs : List Symbol} {below more : Trees} → Replaces rules r e right →
      AreTrees rules right below → AreTrees rules xs more → AreTrees rules (Nonterminal e ∷ xs) (node r below more)
  a_node {r} {e} {right} {xs} {below} {more} (rule, is, left, same) under beside =
      subst (λ (n : ℕ). AreTrees rules (Nonterminal n ∷ xs) (node r below more)) left
      (by_rule is (subst (λ (ys : List Symbol). AreTrees rules ys below) (sym same) under) beside)

  a_number : {xs : List Symbol} {more : Trees} → AreTrees rules xs more →
      AreTrees rules (Nonterminal 1 ∷ xs) (number_then more)
  a_number behind = a_node (g, refl, g_is.on_left, g_is.on_right) (terminal no_trees) behind

  trees_to_the_left : AreTreesOf rules (5 ∷ 1 ∷ 5 ∷ 1 ∷ 5 ∷ []) (5 ∷ 5 ∷ 1 ∷ 5 ∷ 1 ∷ []) to_the_left
  trees_to_the_left = record {
    rule = a;
    is = refl;
    symbols = Nonterminal 1 ∷ [];
    then_end = a_is.on_right;
    trees_of = a_node minus_is
        (a_node minus_is (a_number (terminal (a_number no_trees))) (terminal (a_number no_trees))) no_trees;
    tokens_of = refl;
    reduced = refl;
  }

  -- by any table of these rules and precedences
  parsed_to_the_left : (table : TableView) → rules ≡ rules_of table →
      IsByPrecedences table terminals precedences →
      AcceptsBy table (5 ∷ 1 ∷ 5 ∷ 1 ∷ 5 ∷ []) (5 ∷ 5 ∷ 1 ∷ 5 ∷ 1 ∷ [])
  parsed_to_the_left table own by =
      (accepted_are_nested table terminals precedences 1 (record {
        by = by;
        operations = subst (λ (rs : List Rule). IsOperatorGrammar rs 1) own of_operations;
        decisive = subst (λ (rs : List Rule). AreDecisive rs 1 which) own decisive;
      }) _ _).1 (
        to_the_left,
        (
          subst (λ (rs : List Rule). AreTreesOf rs (5 ∷ 1 ∷ 5 ∷ 1 ∷ 5 ∷ []) (5 ∷ 5 ∷ 1 ∷ 5 ∷ 1 ∷ []) to_the_left)
              own trees_to_the_left,
          subst (λ (rs : List Rule). AreNested rs which to_the_left) own nested_to_the_left,
        ),
      )
