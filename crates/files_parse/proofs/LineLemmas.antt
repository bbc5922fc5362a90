-- The lines of the nodes of a tree are those of the trees that it stands for.
use Rattle.std.specs.Prelude.{slice_get}
use Rattle.std.specs.List.{flat_map}
use Rattle.std.proofs.Common.{Some, ◌≡◌, ℕ, zero, suc, ◌+◌, List, [], ◌∷◌, ◌++◌, length, drop, refl, ap, sym, ◌∙◌, arith}
use Rattle.std.proofs.Math.Seq.{drop-append_seam}
use Rattle.std.proofs.lemmas.List.{append_assoc, append-nil, drop-drop, length-append}
use Rattle.std.proofs.lemmas.List.Concat.{flat_map-append}
use Rattle.vob_lr.specs.TreeNodes.{IsTree, Stand, leaf_at}
use Rattle.vob_lr.specs.TreeNodes.Stand.{nothing, token, by_rule}
use Rattle.vob_lr.specs.Trees.{Trees, leaves, reductions}
use Rattle.vob_lr.specs.declared.tree.Node.{Node}
use Rattle.vob_lr.specs.declared.tree.Tree.{Tree}
use Rattle.files_grammar.specs.declared.file.GrammarFile.{GrammarFile}
use Rattle.files_text.specs.Words.{Token}
use Rattle.files_parse.specs.NodeNames.{token_name}
use Rattle.files_parse.specs.ParseFaults.{place_or}
use Rattle.files_parse.specs.TreeLines.{AreLines, HasLines, ListsLines, Unfolds, line_of_node, on_level}
use Rattle.files_parse.specs.TreeLines.Unfolds.{done, next}
use Rattle.files_parse.specs.TreeText.{ListsTree, indent, node_line, place_text, token_line, tree_text}
use Rattle.files_parse.proofs.UnfoldLemmas.{unfold_one}

first_left : (xs : List ℕ) (k x : ℕ) (rest : List ℕ) → drop k xs ≡ x ∷ rest → slice_get xs k ≡ Some x
first_left [] zero x rest is = absurd (cc)
first_left [] (suc k) x rest is = absurd (cc)
first_left (y ∷ xs) zero x rest is = let same : y ≡ x = cc in ap Some same
first_left (y ∷ xs) (suc k) x rest is = first_left xs k x rest is

rest_left : (xs : List ℕ) (k : ℕ) (ys rest : List ℕ) → drop k xs ≡ ys ++ rest → drop (k + length ys) xs ≡ rest
rest_left xs k ys rest is = sym (drop-drop (length ys) k xs) ∙ ap (drop (length ys)) is ∙ drop-append_seam ys rest

module _ (file : GrammarFile) (words : List Token) (tokens : List ℕ) (nodes : List Node) where
  abbrev text_of : List (Node × ℕ) → List ℕ
  text_of lines = flat_map (line_of_node file words tokens) lines

  -- the lines of nodes that stand for trees
  record HasLinesOf (roots : List Node) (level at : ℕ) (trees : Trees) : Type 0 where
    lines : List (Node × ℕ)
    unfolds : (open_nodes rest : List (Node × ℕ)) → Unfolds nodes open_nodes rest →
        Unfolds nodes (on_level level roots ++ open_nodes) (lines ++ rest)
    text : text_of lines ≡ tree_text file words level at trees
    count : length lines ≡ length (leaves trees) + length (reductions trees)

  stand_lines : {roots : List Node} {at : ℕ} {trees : Trees} (level : ℕ) (after : List ℕ) →
      Stand nodes roots at trees → drop at tokens ≡ leaves trees ++ after → HasLinesOf roots level at trees
  stand_lines level after nothing is = record {
    lines = [];
    unfolds = λ open_nodes rest unfolds. unfolds;
    text = refl;
    count = refl;
  }
  stand_lines level after (token {t} {at} {roots} {more} others) is =
      let left = rest_left tokens at (t ∷ []) (leaves more ++ after) is in
      let own = stand_lines level after others left in
      record {
        lines = (leaf_at at, level) ∷ own.lines;
        unfolds = λ open_nodes rest unfolds. next (own.unfolds open_nodes rest unfolds);
        text = ap (λ o. (indent level ++ token_name file.names o ++ place_text (place_or (slice_get words at) (0, 0)))
            ++ text_of own.lines) (first_left tokens at t (leaves more ++ after) is)
            ∙ ap (λ l. token_line file words level at t ++ l) own.text;
        count = omega (arith, own.count);
      }
  stand_lines level after (by_rule {r} {first} {count} {at} {roots} {below} {more} full under others) is =
      let whole = is ∙ append_assoc (leaves below) (leaves more) after in
      let left = rest_left tokens at (leaves below) (leaves more ++ after) whole in
      let a = stand_lines (level + 1) (leaves more ++ after) under whole in
      let b = stand_lines level after others left in
      record {
        lines = (
          record {
            rule = Some r;
            first = first;
            count = count;
            from = at;
            to = at + length (leaves below);
          },
          level,
        ) ∷ (a.lines ++ b.lines);
        unfolds = λ open_nodes rest unfolds. rw (append_assoc a.lines b.lines rest)
            (next (a.unfolds (on_level level roots ++ open_nodes) (b.lines ++ rest)
            (b.unfolds open_nodes rest unfolds)));
        text = ap (λ l. node_line file level r ++ l)
            (flat_map-append (line_of_node file words tokens) a.lines b.lines
            ∙ ap (λ l. l ++ text_of b.lines) a.text
            ∙ ap (λ l. tree_text file words (level + 1) at below ++ l) b.text);
        count = omega (
          arith,
          a.count,
          b.count,
          length-append a.lines b.lines,
          length-append (leaves below) (leaves more),
          length-append (reductions below) (r ∷ reductions more),
        );
      }

module _ (file : GrammarFile) (words : List Token) (tokens parsed : List ℕ) (tree : Tree)
    (is : IsTree file.grammar.rules.items tokens parsed tree) where
  abbrev roots : List Node
  roots = drop tree.first tree.nodes.items

  all_lines : HasLinesOf file words tokens tree.nodes.items roots 0 0 is.trees
  all_lines = stand_lines file words tokens tree.nodes.items 0 [] is.stand
      (sym is.are.tokens_of ∙ sym (append-nil (leaves is.trees)))

  are_lines : AreLines tree all_lines.lines
  are_lines = rw (← append-nil (on_level 0 roots), ← append-nil all_lines.lines) (all_lines.unfolds [] [] done)

  -- a tree's nodes have lines
  pub tree_has_lines : HasLines tree
  tree_has_lines = (
    all_lines.lines,
    are_lines,
    omega (arith, all_lines.count, is.count, ap length is.are.tokens_of, ap length is.are.reduced),
  )

  -- which are those of its parse
  pub tree_lists : (text : List ℕ) → ListsLines file words tokens tree text → ListsTree file words tokens parsed text
  tree_lists text (lines, are, text_is) = record {
    trees = is.trees;
    are_trees = is.are;
    lines = text_is ∙ ap (flat_map (line_of_node file words tokens)) (unfold_one are are_lines) ∙ all_lines.text;
  }
