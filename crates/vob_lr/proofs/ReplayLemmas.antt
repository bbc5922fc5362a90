-- A parser that is replayed makes trees.
use Rattle.std.proofs.Common.{◌≡◌, ℕ, ◌+◌, ◌<◌, ◌≤◌, List, [], ◌∷◌, ◌++◌, drop, length, take, get_or, Option, None, Some, slice_get, refl, sym, ap, ◌∙◌, subst, arith}
use Rattle.std.proofs.lemmas.List.{append_assoc, append-nil, drop_at, drop_more, length-append, length-drop, length-take-le, take_all, take_at, take_more}
use Rattle.std.proofs.lemmas.Option.{slice_get_within}
use Rattle.vob_lr.specs.Replays.{AreReplayed, CanReplay, IsJoined, IsRedone, IsReplayed, start_of}
use Rattle.vob_lr.specs.TreeNodes.{below_of, inner, leaf_at, roots_of, width}
use Rattle.vob_lr.specs.Trees.{AreTrees, Trees, leaves, reductions}
use Rattle.vob_lr.specs.Trees.AreTrees.{nothing, terminal, by_rule}
use Rattle.vob_lr.specs.Trees.Trees.{none, leaf, node}
use Rattle.vob_lr.specs.Unwinding.{Finishes}
use Rattle.vob_lr.specs.Unwinding.Finishes.{done, reads, reduces}
use Rattle.vob_lr.specs.declared.grammar.Rule.{Rule}
use Rattle.vob_lr.specs.declared.grammar.Symbol.{Symbol}
use Rattle.vob_lr.specs.declared.grammar.Symbol.TheVariants.{Nonterminal, Terminal}
use Rattle.vob_lr.specs.declared.tree.Forest.{Forest}
use Rattle.vob_lr.specs.declared.tree.Node.{Node}
use Rattle.vob_lr.specs.declared.tree.Tree.{Tree}
use Rattle.vob_lr.proofs.RootLemmas.{as_many, below-beside, beside, inner-beside, joined, leaves-beside, length-below, length-roots, parts, reductions-beside, roots-beside, start}

module _ (rules : List Rule) (goal : List Symbol) where
  -- a token is read next
  record ReadsNext (xs : List Symbol) (us : List ℕ) (moves : List (Option ℕ)) (left : List ℕ) : Type 0 where
    t : ℕ
    ts : List ℕ
    tokens_are : us ≡ t ∷ ts
    finishes : Finishes rules goal (xs ++ Terminal t ∷ []) ts moves left

  reads_next : {xs : List Symbol} {us : List ℕ} {ms : List (Option ℕ)} {left : List ℕ} (moves : List (Option ℕ)) →
      Finishes rules goal xs us ms left → ms ≡ None ∷ moves → ReadsNext xs us moves left
  reads_next moves (done is) e = absurd (cc)
  reads_next {xs = xs} {left = left} moves (reads {t = t} {ts = ts} {ms = ms} f) e = record {
    t = t;
    ts = ts;
    tokens_are = refl;
    finishes = subst (λ (l : List (Option ℕ)). Finishes rules goal (xs ++ Terminal t ∷ []) ts l left) (cc) f;
  }
  reads_next moves (reduces before is form f) e = absurd (cc)

  -- a rule reduces next
  record ReducesNext (xs : List Symbol) (us : List ℕ) (r : ℕ) (moves : List (Option ℕ)) (left : List ℕ) : Type 0 where
    rule : Rule
    before : List Symbol
    more : List ℕ
    is : slice_get rules r ≡ Some rule
    form : xs ≡ before ++ rule.right.items
    left_is : left ≡ r ∷ more
    finishes : Finishes rules goal (before ++ Nonterminal rule.left ∷ []) us moves more

  reduces_next : {xs : List Symbol} {us : List ℕ} {ms : List (Option ℕ)} {left : List ℕ} (r : ℕ)
      (moves : List (Option ℕ)) → Finishes rules goal xs us ms left → ms ≡ Some r ∷ moves →
      ReducesNext xs us r moves left
  reduces_next r moves (done is) e = absurd (cc)
  reduces_next r moves (reads f) e = absurd (cc)
  reduces_next {us = us} r moves (reduces {r = s} {rule = rule} {ms = ms} {rs = rs} before is form f) e =
      let same : s ≡ r = cc in
      let others : ms ≡ moves = cc in
      record {
        rule = rule;
        before = before;
        more = rs;
        is = subst (λ (n : ℕ). slice_get rules n ≡ Some rule) same is;
        form = form;
        left_is = ap (λ (n : ℕ). n ∷ rs) same;
        finishes = subst (λ (l : List (Option ℕ)). Finishes rules goal (before ++ Nonterminal rule.left ∷ []) us l rs)
            others f;
      }

-- the next token
record IsNext (tokens : List ℕ) (read t : ℕ) (ts : List ℕ) : Type 0 where
  inside : read < length tokens
  taken : take (read + 1) tokens ≡ take read tokens ++ t ∷ []
  rest : drop (read + 1) tokens ≡ ts

next_token : (tokens : List ℕ) (read t : ℕ) (ts : List ℕ) → read ≤ length tokens → drop read tokens ≡ t ∷ ts →
    IsNext tokens read t ts
next_token tokens read t ts within e =
    let long = ap (λ (l : List ℕ). length l) e in
    let count = length-drop read tokens in
    let inside : read < length tokens = omega (arith, long, count, within) in
    let more = drop_more tokens read 0 inside in
    let first : get_or tokens read 0 ≡ t = cc in
    record {
      inside = inside;
      taken = take_more tokens read 0 inside ∙ ap (λ (n : ℕ). take read tokens ++ n ∷ []) first;
      rest = cc;
    }

module _ (rules : List Rule) where
  pub room : (forest : Forest) (made : Option ℕ) → made ≡ None → CanReplay rules made forest →
      forest.read < 18446744073709551615
  room forest made is (tokens, parsed, goal, moves, p) =
      let n = reads_next rules goal moves p.finishes (ap (λ (m : Option ℕ). m ∷ moves) is) in
      let next = next_token tokens forest.read n.t n.ts p.inside n.tokens_are in
      omega (arith, next.inside, p.fits)

  pub redone_token : (forest new : Forest) (made : Option ℕ) → made ≡ None →
      new.nodes.items ≡ forest.nodes.items → new.roots.items ≡ forest.roots.items ++ leaf_at forest.read ∷ [] →
      new.read ≡ forest.read + 1 → IsRedone rules made forest new
  redone_token forest new made is nodes roots read tokens parsed goal moves p =
      let n = reads_next rules goal moves p.finishes (ap (λ (m : Option ℕ). m ∷ moves) is) in
      let next = next_token tokens forest.read n.t n.ts p.inside n.tokens_are in
      let last = leaf n.t none in
      let count = ap (λ (l : List ℕ). length l) p.tokens_of ∙ length-take-le forest.read tokens p.inside in
      let at : 0 + length (leaves p.trees) ≡ forest.read = omega (arith, count) in
      record {
        symbols = p.symbols ++ Terminal n.t ∷ [];
        trees = beside p.trees last;
        left = p.left;
        fits = p.fits;
        inside = omega (arith, next.inside, read);
        are = joined rules p.are (terminal nothing);
        tokens_of = leaves-beside p.trees last ∙ ap (λ (l : List ℕ). l ++ n.t ∷ []) p.tokens_of ∙ sym next.taken
            ∙ ap (λ (k : ℕ). take k tokens) (sym read);
        nodes = nodes ∙ p.nodes ∙ sym (append-nil (below_of 0 0 p.trees)) ∙ sym (below-beside 0 0 p.trees last);
        roots = roots ∙ ap (λ (l : List Node). l ++ leaf_at forest.read ∷ []) p.roots
            ∙ ap (λ (k : ℕ). roots_of 0 0 p.trees ++ leaf_at k ∷ []) (sym at) ∙ sym (roots-beside 0 0 p.trees last);
        finishes = rw (read, next.rest) n.finishes;
        all = ap (λ (l : List ℕ). l ++ p.left) (reductions-beside p.trees last ∙ append-nil (reductions p.trees))
            ∙ p.all;
      }

  -- the rule of the next move is there, and a root for each symbol of its right side
  pub record HasRoots (forest : Forest) (r : ℕ) : Type 0 where
    pub rule : Rule
    pub is : slice_get rules r ≡ Some rule
    pub there : r < length rules
    pub long : length rule.right.items ≤ length forest.roots.items

  pub has_roots : (forest : Forest) (made : Option ℕ) (r : ℕ) → made ≡ Some r → CanReplay rules made forest →
      HasRoots forest r
  has_roots forest made r is (tokens, parsed, goal, moves, p) =
      let n = reduces_next rules goal r moves p.finishes (ap (λ (m : Option ℕ). m ∷ moves) is) in
      let many = ap (λ (l : List Node). length l) p.roots ∙ length-roots 0 0 p.trees ∙ as_many rules p.are in
      let form = ap (λ (l : List Symbol). length l) n.form ∙ length-append n.before n.rule.right.items in
      record {
        rule = n.rule;
        is = n.is;
        there = slice_get_within rules r n.rule n.is;
        long = omega (arith, many, form);
      }

  -- what a join makes of trees: the newest become the children of a root
  joined_nodes : (forest new : Forest) (r count : ℕ) (one other : Trees) → IsJoined r count forest new →
      width other ≡ count → forest.read ≡ length (leaves (beside one other)) →
      forest.nodes.items ≡ below_of 0 0 (beside one other) → forest.roots.items ≡ roots_of 0 0 (beside one other) →
      (new.nodes.items ≡ below_of 0 0 (beside one (node r other none)))
      × (new.roots.items ≡ roots_of 0 0 (beside one (node r other none)))
  joined_nodes forest new r count one other j wide read nodes roots =
      let first = 0 + inner one in
      let at = 0 + length (leaves one) in
      let mine = roots_of 0 0 one in
      let own = roots_of first at other in
      let under = below_of first at other in
      let made = node r other none in
      let whole : forest.roots.items ≡ mine ++ own = roots ∙ roots-beside 0 0 one other in
      let long = ap (λ (l : List Node). length l) whole ∙ length-append mine own in
      let below : length mine ≡ j.below = omega (arith, long, j.long, wide, length-roots first at other) in
      let kept : take j.below forest.roots.items ≡ mine =
      ap (λ (l : List Node). take j.below l) whole ∙ take_at mine own j.below below in
      let cut : drop j.below forest.roots.items ≡ own =
      ap (λ (l : List Node). drop j.below l) whole ∙ drop_at mine own j.below below in
      let count_is = ap (λ (l : List Node). length l) nodes ∙ length-below 0 0 (beside one other)
      ∙ inner-beside one other in
      let to = read ∙ ap (λ (l : List ℕ). length l) (leaves-beside one other)
      ∙ length-append (leaves one) (leaves other) in
      let from : start_of own forest.read ≡ at =
      ap (λ (k : ℕ). start_of own k) (omega (arith, to)) ∙ start first at other in
      let numbered : length forest.nodes.items ≡ first + inner other = omega (arith, count_is) in
      let ends : forest.read ≡ at + length (leaves other) = omega (arith, to) in (
        j.nodes ∙ ap (λ (l : List Node). forest.nodes.items ++ l) cut
            ∙ ap (λ (l : List Node). l ++ own) (nodes ∙ below-beside 0 0 one other)
            ∙ append_assoc (below_of 0 0 one) under own
            ∙ ap (λ (l : List Node). below_of 0 0 one ++ l) (sym (append-nil (under ++ own)))
            ∙ sym (below-beside 0 0 one made),
        rw (j.roots, kept, cut, from, numbered, ends, sym wide) (sym (roots-beside 0 0 one made)),
      )

  pub redone_rule : (forest new : Forest) (made : Option ℕ) (r : ℕ) (rule : Rule) → made ≡ Some r →
      slice_get rules r ≡ Some rule → IsJoined r (length rule.right.items) forest new → IsRedone rules made forest new
  redone_rule forest new made r rule is there j tokens parsed goal moves p =
      let n = reduces_next rules goal r moves p.finishes (ap (λ (m : Option ℕ). m ∷ moves) is) in
      let same : n.rule ≡ rule = cc in
      let right = ap (λ (own : Rule). own.right.items) same in
      let q = parts rules n.before n.rule.right.items p.are n.form in
      let joint = node r q.other none in
      let under : AreTrees rules rule.right.items q.other =
      subst (λ (l : List Symbol). AreTrees rules l q.other) right q.second in
      let read = sym (ap (λ (l : List ℕ). length l) p.tokens_of ∙ length-take-le forest.read tokens p.inside)
      ∙ ap (λ (f : Trees). length (leaves f)) q.trees_are in
      let nodes = joined_nodes forest new r (length rule.right.items) q.one q.other j (as_many rules under) read
      (p.nodes ∙ ap (λ (f : Trees). below_of 0 0 f) q.trees_are)
      (p.roots ∙ ap (λ (f : Trees). roots_of 0 0 f) q.trees_are) in
      let rules_are : reductions (beside q.one joint) ≡ reductions p.trees ++ r ∷ [] =
      reductions-beside q.one joint ∙ sym (append_assoc (reductions q.one) (reductions q.other) (r ∷ []))
      ∙ ap (λ (l : List ℕ). l ++ r ∷ []) (sym (reductions-beside q.one q.other))
      ∙ ap (λ (f : Trees). reductions f ++ r ∷ []) (sym q.trees_are) in
      record {
        symbols = n.before ++ Nonterminal rule.left ∷ [];
        trees = beside q.one joint;
        left = n.more;
        fits = p.fits;
        inside = omega (arith, p.inside, j.read);
        are = joined rules q.first (by_rule there under nothing);
        tokens_of = leaves-beside q.one joint
            ∙ ap (λ (l : List ℕ). leaves q.one ++ l) (append-nil (leaves q.other))
            ∙ sym (leaves-beside q.one q.other) ∙ ap (λ (f : Trees). leaves f) (sym q.trees_are) ∙ p.tokens_of
            ∙ ap (λ (k : ℕ). take k tokens) (sym j.read);
        nodes = nodes.0;
        roots = nodes.1;
        finishes = rw (j.read, sym same) n.finishes;
        all = ap (λ (l : List ℕ). l ++ n.more) rules_are ∙ append_assoc (reductions p.trees) (r ∷ []) n.more
            ∙ ap (λ (l : List ℕ). reductions p.trees ++ l) (sym n.left_is) ∙ p.all;
      }

-- what replays from the beginning to the end is a tree
module _ (rules : List Rule) (tokens parsed : List ℕ) (goal : List Symbol) where
  pub begun : (forest : Forest) (moves : List (Option ℕ)) → length tokens ≤ 18446744073709551615 →
      forest.nodes.items ≡ [] → forest.roots.items ≡ [] → forest.read ≡ 0 →
      Finishes rules goal [] tokens moves parsed → IsReplayed rules tokens parsed goal forest moves
  begun forest moves fits nodes roots read f = record {
    symbols = [];
    trees = none;
    left = parsed;
    fits = fits;
    inside = omega (arith, read);
    are = nothing;
    tokens_of = ap (λ (k : ℕ). take k tokens) (sym read);
    nodes = nodes;
    roots = roots;
    finishes = rw read f;
    all = refl;
  }

  finished : {xs : List Symbol} {us : List ℕ} {ms : List (Option ℕ)} {left : List ℕ} →
      Finishes rules goal xs us ms left → ms ≡ [] → (xs ≡ goal) × (us ≡ []) × (left ≡ [])
  finished (done is) e = (is, refl, refl)
  finished (reads f) e = absurd (cc)
  finished (reduces before is form f) e = absurd (cc)

  pub ended : (forest : Forest) (moves : List (Option ℕ)) (tree : Tree) → moves ≡ [] →
      tree.nodes.items ≡ forest.nodes.items ++ forest.roots.items → tree.first ≡ length forest.nodes.items →
      IsReplayed rules tokens parsed goal forest moves → AreReplayed rules goal tokens parsed tree
  ended forest moves tree all_made nodes first p =
      let (symbols, no_tokens, no_rules) = finished p.finishes all_made in
      let count = length-drop forest.read tokens in
      let long = ap (λ (l : List ℕ). length l) no_tokens in
      let read : forest.read ≡ length tokens = omega (arith, count, long, p.inside) in
      record {
        trees = p.trees;
        are = subst (λ (l : List Symbol). AreTrees rules l p.trees) symbols p.are;
        tokens_of = p.tokens_of ∙ take_all forest.read tokens (omega (arith, read));
        reduced = sym (append-nil (reductions p.trees)) ∙ ap (λ (l : List ℕ). reductions p.trees ++ l) (sym no_rules)
            ∙ p.all;
        nodes = nodes ∙ ap (λ (l : List Node). l ++ forest.roots.items) p.nodes
            ∙ ap (λ (l : List Node). below_of 0 0 p.trees ++ l) p.roots;
        first = first ∙ ap (λ (l : List Node). length l) p.nodes ∙ length-below 0 0 p.trees;
      }
