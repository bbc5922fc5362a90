-- The nodes of a tree unfold one after another.
use Rattle.std.proofs.Common.{◌≡◌, ℕ, zero, suc, ◌+◌, ◌-◌, ◌<◌, ◌≤◌, None, List, [], ◌∷◌, ◌++◌, length, drop, get_or, reverse, refl, ap, sym, ◌∙◌, arith}
use Rattle.std.proofs.lemmas.List.{append_assoc, append-nil, drop_more, length-append, length-drop, length-take, reverse-append}
use Rattle.vob_lr.specs.TreeNodes.{nodes_at}
use Rattle.vob_lr.specs.declared.tree.Node.{Node}
use Rattle.vob_lr.specs.declared.tree.Tree.{Tree}
use Rattle.files_parse.specs.TreeLines.{AreLines, AreWithin, HasLines, IsUnfolding, Unfolds, on_level}
use Rattle.files_parse.specs.TreeLines.Unfolds.{done, next}

-- what a list of nodes has behind its end
abbrev pub no_node : Node
no_node = record { rule = None; first = 0; count = 0; from = 0; to = 0 }

-- ---- nodes on top of others

on_top : (before : List (Node × ℕ)) (own : Node × ℕ) → reverse (before ++ own ∷ []) ≡ own ∷ reverse before
on_top before own = reverse-append before (own ∷ [])

-- the nodes from one on are on top
pub top_more : (nodes : List Node) (level place : ℕ) (old now after : List (Node × ℕ)) → 0 < place →
    place ≤ length nodes → after ≡ now ++ (get_or nodes (place - 1) no_node, level) ∷ [] →
    reverse now ≡ on_level level (drop place nodes) ++ reverse old →
    reverse after ≡ on_level level (drop (place - 1) nodes) ++ reverse old
top_more nodes level zero old now after some fits more is = absurd (omega (arith, some))
top_more nodes level (suc k) old now after some fits more is =
    let same : suc k - 1 ≡ k = omega arith in
    let next_one : suc k ≡ k + 1 = omega arith in
    let less : k < length nodes = omega (arith, fits) in
    rw same
    (ap reverse (more ∙ ap (λ n. now ++ (get_or nodes n no_node, level) ∷ []) same)
    ∙ on_top now (get_or nodes k no_node, level) ∙ ap (λ l. (get_or nodes k no_node, level) ∷ l) is
    ∙ ap (λ n. (get_or nodes k no_node, level) ∷ (on_level level (drop n nodes) ++ reverse old)) next_one
    ∙ ap (λ l. on_level level l ++ reverse old) (sym (drop_more nodes k no_node less)))

-- all are
pub top_all : (nodes : List Node) (level place : ℕ) (old now : List (Node × ℕ)) → place ≤ 0 →
    reverse now ≡ on_level level (drop place nodes) ++ reverse old →
    reverse now ≡ on_level level nodes ++ reverse old
top_all nodes level zero old now past is = is
top_all nodes level (suc k) old now past is = absurd (omega (arith, past))

-- ---- one line more

within_more : (most : ℕ) (lines : List (Node × ℕ)) → AreWithin most lines → AreWithin (most + 1) lines
within_more most [] within = tt
within_more most (own ∷ lines) within = (omega (arith, within.0), within_more most lines within.1)

within_level : (most level : ℕ) (nodes : List Node) (lines : List (Node × ℕ)) → level ≤ most → AreWithin most lines →
    AreWithin most (on_level level nodes ++ lines)
within_level most level [] lines low within = within
within_level most level (node ∷ nodes) lines low within = (low, within_level most level nodes lines low within)

module _ {nodes : List Node} where
  unfold_next : {own : Node × ℕ} {open_nodes rest : List (Node × ℕ)} → Unfolds nodes (own ∷ open_nodes) rest →
      (after : List (Node × ℕ)) × (rest ≡ own ∷ after)
      × Unfolds nodes (on_level (own.1 + 1) (nodes_at nodes own.0.first own.0.count) ++ open_nodes) after
  unfold_next (next {lines = lines} unfolds) = (lines, refl, unfolds)

  unfold_none : {rest : List (Node × ℕ)} → Unfolds nodes [] rest → rest ≡ []
  unfold_none done = refl

  -- nodes unfold in one way
  pub unfold_one : {open_nodes lines others : List (Node × ℕ)} → Unfolds nodes open_nodes lines →
      Unfolds nodes open_nodes others → lines ≡ others
  unfold_one done other = sym (unfold_none other)
  unfold_one (next {node} {level} unfolds) other =
      let (after, is, more) = unfold_next other in
      ap (λ l. (node, level) ∷ l) (unfold_one unfolds more) ∙ sym is

module _ (tree : Tree) where
  abbrev nodes : List Node
  nodes = tree.nodes.items

  -- nothing has unfolded
  pub unfolds_first : (open_nodes lines : List (Node × ℕ)) → HasLines tree → lines ≡ [] →
      reverse open_nodes ≡ on_level 0 (drop tree.first nodes) ++ [] → IsUnfolding tree 0 open_nodes lines
  unfolds_first open_nodes lines (all, are, short) none is =
      let stack = is ∙ append-nil (on_level 0 (drop tree.first nodes)) in
      record {
        all = all;
        are = are;
        short = short;
        rest = all;
        unfolds = rw stack are;
        cut = ap (λ l. l ++ all) none;
        within = rw stack (rw (← append-nil (on_level 0 (drop tree.first nodes)))
            (within_level 0 0 (drop tree.first nodes) [] (omega arith) tt));
        count = ap length none;
      }

  -- a level is low enough to be followed by another
  pub level_low : (k : ℕ) (open_nodes lines before : List (Node × ℕ)) (own : Node × ℕ) →
      IsUnfolding tree k open_nodes lines → open_nodes ≡ before ++ own ∷ [] → own.1 ≤ k
  level_low k open_nodes lines before own is last =
      let within = rw (ap reverse last ∙ on_top before own) at is.within in within.0

  -- the next node has unfolded
  pub unfolds_more : (k : ℕ) (open_nodes lines before after grown : List (Node × ℕ)) (own : Node × ℕ) →
      IsUnfolding tree k open_nodes lines → open_nodes ≡ before ++ own ∷ [] →
      reverse after ≡ on_level (own.1 + 1) (nodes_at nodes own.0.first own.0.count) ++ reverse before →
      grown ≡ lines ++ own ∷ [] → IsUnfolding tree (k + 1) after grown
  unfolds_more k open_nodes lines before after grown own is last top more =
      let stack = ap reverse last ∙ on_top before own in
      let within = rw stack at is.within in
      let (rest, first, unfolds) = unfold_next (rw stack at is.unfolds) in
      record {
        all = is.all;
        are = is.are;
        short = is.short;
        rest = rest;
        unfolds = rw top unfolds;
        cut = ap (λ l. l ++ rest) more ∙ append_assoc lines (own ∷ []) rest ∙ ap (λ l. lines ++ l) (sym first) ∙ is.cut;
        within = rw top
            (within_level (k + 1) (own.1 + 1) (nodes_at nodes own.0.first own.0.count) (reverse before)
            (omega (arith, within.0)) (within_more k (reverse before) within.1));
        count = ap length more ∙ length-append lines (own ∷ []) ∙ ap (λ n. n + 1) is.count;
      }

  all_there : (k : ℕ) (open_nodes lines : List (Node × ℕ)) (is : IsUnfolding tree k open_nodes lines) →
      is.rest ≡ [] → AreLines tree lines
  all_there k open_nodes lines is none =
      rw (sym (append-nil lines) ∙ ap (λ l. lines ++ l) (sym none) ∙ is.cut) is.are

  -- no node is left
  pub unfolds_none : (k : ℕ) (open_nodes lines : List (Node × ℕ)) → IsUnfolding tree k open_nodes lines →
      open_nodes ≡ [] → AreLines tree lines
  unfolds_none k open_nodes lines is none =
      all_there k open_nodes lines is (unfold_none (rw (ap reverse none) at is.unfolds))

  no_more : (k n : ℕ) (rest : List (Node × ℕ)) → n ≤ k → k + length rest ≤ n → rest ≡ []
  no_more k n [] past fits = refl
  no_more k n (own ∷ rest) past fits = absurd (omega (arith, past, fits))

  -- as many lines are there as nodes
  pub unfolds_all : (k : ℕ) (open_nodes lines : List (Node × ℕ)) → IsUnfolding tree k open_nodes lines →
      length nodes ≤ k → AreLines tree lines
  unfolds_all k open_nodes lines is past =
      all_there k open_nodes lines is
      (no_more k (length nodes) is.rest past
      (omega (arith, is.short, is.count, ap length is.cut, length-append lines is.rest)))

-- the children of a node are among the nodes
pub children_inside : (nodes children : List Node) (first count most : ℕ) → children ≡ nodes_at nodes first count →
    first ≤ most → length nodes ≤ most → first + length children ≤ most
children_inside nodes children first count most are low fits =
    let all = ap length are ∙ length-take count (drop first nodes) in
    omega (arith, all, length-drop first nodes, low, fits)
