-- A parser by a table grows the trees of its parse.
use Rattle.std.proofs.Common.{◌≡◌, ℕ, zero, suc, ◌<◌, ◌≤◌, List, [], ◌∷◌, ◌++◌, length, get_or, take, drop, reverse, Some, slice_get, refl, sym, ap, ◌∙◌, subst, arith}
use Rattle.std.proofs.lemmas.List.{append-nil, append_assoc, reverse-append, reverse-reverse, take_all}
use Rattle.std.proofs.lemmas.Option.{same_Some}
use Rattle.vob_lr.specs.Growing.{Grows}
use Rattle.vob_lr.specs.Growing.Grows.{nothing, shifts, reduces}
use Rattle.vob_lr.specs.Lookaheads.{HasMove, Machine}
use Rattle.vob_lr.specs.Parses.{Config, IsReached, IsReplaced, IsTaken, action_in, beginning, replaced, shifted, top}
use Rattle.vob_lr.specs.Parses.IsReached.{begins, then_steps}
use Rattle.vob_lr.specs.States.{AreStates}
use Rattle.vob_lr.specs.Stops.{AcceptsBy}
use Rattle.vob_lr.specs.Tables.{AreSound, TableView}
use Rattle.vob_lr.specs.Trees.{AreTrees, AreTreesOf, Trees, reductions}
use Rattle.vob_lr.specs.Trees.AreTrees.{nothing as no_trees, terminal, by_rule}
use Rattle.vob_lr.specs.Trees.Trees.{none, leaf, node}
use Rattle.vob_lr.specs.declared.grammar.Rule.{Rule}
use Rattle.vob_lr.specs.declared.grammar.Symbol.{Symbol}
use Rattle.vob_lr.specs.declared.grammar.Symbol.TheVariants.{Terminal, Nonterminal}
use Rattle.vob_lr.specs.declared.table.Action.{Action}
use Rattle.vob_lr.specs.declared.table.Action.TheVariants.{Accept, Reduce, Shift}
use Rattle.vob_lr.proofs.LinkLemmas.{AreLinked}
use Rattle.vob_lr.proofs.LinkLemmas.AreLinked.{bottom as one_state, above as one_link}
use Rattle.vob_lr.proofs.ParseLemmas.{accepted_is, reduced_end}
use Rattle.vob_lr.proofs.TreeLemmas.{last_same, one_forest}

-- trees, and others behind them
abbrev pub join : Trees → Trees → Trees
join none g = g
join (leaf t more) g = leaf t (join more g)
join (node r below more) g = node r below (join more g)

reductions-join : (f g : Trees) → reductions (join f g) ≡ reductions f ++ reductions g
reductions-join none g = refl
reductions-join (leaf t more) g = reductions-join more g
reductions-join (node r below more) g =
    ap (λ (rs : List ℕ). reductions below ++ r ∷ rs) (reductions-join more g)
    ∙ sym (append_assoc (reductions below) (r ∷ reductions more) (reductions g))

module _ (table : TableView) (tokens : List ℕ)
    (states : AreStates table.machine.grammar.rules.items table.machine.sets table.machine.moves)
    (sound : AreSound table.machine table.cells) where
  abbrev m : Machine
  m = table.machine

  abbrev rules : List Rule
  rules = table.machine.grammar.rules.items

  pub grows_on : {q p s n k l : ℕ} {xs ys : List Symbol} {f g : Trees} → Grows table tokens q xs f n k p →
      Grows table tokens p ys g k l s → Grows table tokens q (xs ++ ys) (join f g) n l s
  grows_on nothing h = h
  grows_on (shifts less at action g) h = shifts less at action (grows_on g h)
  grows_on (reduces is below action move g) h = reduces is below action move (grows_on g h)

  pub grown_trees : {q s n k : ℕ} {xs : List Symbol} {f : Trees} → Grows table tokens q xs f n k s →
      AreTrees rules xs f
  grown_trees nothing = no_trees
  grown_trees (shifts less at action g) = terminal (grown_trees g)
  grown_trees (reduces is below action move g) = by_rule is (grown_trees below) (grown_trees g)

  -- the states on the stack, each pushed by a symbol above which trees are grown
  data IsStack : List ℕ → List Symbol → Trees → ℕ → Type 0 where
    bottom : IsStack (0 ∷ []) [] none 0
    above : {p q n k : ℕ} {qs : List ℕ} {x : Symbol} {xs : List Symbol} {f g : Trees} →
        IsStack (q ∷ qs) xs f n → Grows table tokens q (x ∷ []) g n k p →
        IsStack (p ∷ q ∷ qs) (x ∷ xs) (join f g) k

  push : {p n k : ℕ} {qs : List ℕ} {x : Symbol} {xs : List Symbol} {f g : Trees} → IsStack qs xs f n →
      Grows table tokens (top qs) (x ∷ []) g n k p → IsStack (p ∷ qs) (x ∷ xs) (join f g) k
  push bottom g = above bottom g
  push (above stack own) g = above (above stack own) g

  pub moved : {q p n k : ℕ} {x : Symbol} {f : Trees} → Grows table tokens q (x ∷ []) f n k p →
      HasMove m.moves q x p
  moved {q} (shifts {p = p} {t = t} less at action nothing) = sound.shifts q t p action
  moved (reduces is below action move nothing) = move

  linked : {n : ℕ} {qs : List ℕ} {xs : List Symbol} {f : Trees} → IsStack qs xs f n →
      AreLinked m.moves qs xs
  linked bottom = one_state
  linked (above stack g) = one_link (moved g) (linked stack)

  newest_last : (x : Symbol) (xs : List Symbol) → reverse xs ++ x ∷ [] ≡ reverse (x ∷ xs)
  newest_last x xs = sym (reverse-append (x ∷ []) xs)

  -- all symbols on the stack
  all_grown : {n : ℕ} {qs : List ℕ} {xs : List Symbol} {f : Trees} → IsStack qs xs f n →
      Grows table tokens 0 (reverse xs) f 0 n (top qs)
  all_grown bottom = nothing
  all_grown (above {p = p} {k = k} {x = x} {xs = xs} {f = f} {g = g} stack own) =
      subst (λ (ys : List Symbol). Grows table tokens 0 ys (join f g) 0 k p) (newest_last x xs)
      (grows_on (all_grown stack) own)

  -- the newest d symbols, and the stack below them
  record Newest (qs : List ℕ) (xs : List Symbol) (f : Trees) (n d : ℕ) : Type 0 where
    older : Trees
    newer : Trees
    from : ℕ
    stack : IsStack (drop d qs) (drop d xs) older from
    grown : Grows table tokens (top (drop d qs)) (reverse (take d xs)) newer from n (top qs)
    parts : reductions f ≡ reductions older ++ reductions newer

  newest : {n : ℕ} {qs : List ℕ} {xs : List Symbol} {f : Trees} → IsStack qs xs f n → (d : ℕ) →
      d ≤ length xs → Newest qs xs f n d
  newest {n} {qs} {xs} {f} stack zero less = record {
    older = f;
    newer = none;
    from = n;
    stack = stack;
    grown = nothing;
    parts = sym (append-nil (reductions f));
  }
  newest bottom (suc d) less = absurd (omega (arith, less))
  newest (above {p = p} {q = q} {k = k} {qs = qs} {x = x} {xs = xs} {f = f} {g = g} stack own) (suc d) less =
      let h = newest stack d (omega (arith, less)) in record {
        older = h.older;
        newer = join h.newer g;
        from = h.from;
        stack = h.stack;
        grown = subst (λ (ys : List Symbol). Grows table tokens (top (drop d (q ∷ qs))) ys
            (join h.newer g) h.from k p) (newest_last x (take d xs)) (grows_on h.grown own);
        parts = reductions-join f g ∙ ap (λ (rs : List ℕ). rs ++ reductions g) h.parts
            ∙ append_assoc (reductions h.older) (reductions h.newer) (reductions g)
            ∙ ap (λ (rs : List ℕ). reductions h.older ++ rs) (sym (reductions-join h.newer g));
      }

  -- a parser has grown what it reduced by
  record IsGrown (c : Config) : Type 0 where
    symbols : List Symbol
    trees : Trees
    stack : IsStack c.states symbols trees c.read
    reduced : reverse (reductions trees) ≡ c.reduced

  grown_begins : IsGrown beginning
  grown_begins = record { symbols = []; trees = none; stack = bottom; reduced = refl }

  grown_shifts : (c : Config) (p : ℕ) → IsGrown c → action_in table tokens c ≡ Some (Shift p) →
      c.read < length tokens → IsGrown (shifted p c)
  grown_shifts c p h action low =
      let t = get_or tokens c.read 0 in record {
        symbols = Terminal t ∷ h.symbols;
        trees = join h.trees (leaf t none);
        stack = push h.stack (shifts low refl action nothing);
        reduced = ap reverse (reductions-join h.trees (leaf t none) ∙ append-nil (reductions h.trees))
            ∙ h.reduced;
      }

  grown_reduces : (c d : Config) (r : ℕ) → IsGrown c → action_in table tokens c ≡ Some (Reduce r) →
      IsReplaced m r c d → IsGrown d
  grown_reduces c d r h action to =
      let right = to.rule.right.items in
      let n = length right in
      let ends = reduced_end table tokens states sound c h.symbols (linked h.stack) r to.rule action to.is in
      let new = newest h.stack n ends.0 in
      let below = subst (λ (ys : List Symbol). Grows table tokens (top (drop n c.states)) ys new.newer
      new.from c.read (top c.states)) (ends.1 ∙ take_all n right (omega arith)) new.grown in
      let one = node r new.newer none in
      let last = r ∷ [] in
      let run : IsGrown (replaced r n to.state c) = record {
        symbols = Nonterminal to.rule.left ∷ drop n h.symbols;
        trees = join new.older one;
        stack = push new.stack (reduces to.is below action to.move nothing);
        reduced = ap reverse (reductions-join new.older one
            ∙ sym (append_assoc (reductions new.older) (reductions new.newer) last)
            ∙ ap (λ (rs : List ℕ). rs ++ last) (sym new.parts))
            ∙ reverse-append (reductions h.trees) last
            ∙ ap (λ (rs : List ℕ). r ∷ rs) h.reduced;
      } in
      subst (λ (e : Config). IsGrown e) (sym to.after) run

  grown_takes : (c d : Config) (a : Action) → IsGrown c → action_in table tokens c ≡ Some a →
      IsTaken m tokens c a d → IsGrown d
  grown_takes c d (Shift p) h action (low, is) =
      subst (λ (e : Config). IsGrown e) (sym is) (grown_shifts c p h action low)
  grown_takes c d (Reduce r) h action to = grown_reduces c d r h action to
  grown_takes c d Accept h action taken = absurd taken

  grown_reached : {c : Config} → IsReached table tokens c → IsGrown c
  grown_reached (begins is) = subst (λ (c : Config). IsGrown c) (sym is) grown_begins
  grown_reached (then_steps {c} {d} reached step) =
      grown_takes c d step.action (grown_reached reached) step.is step.taken

  -- where it accepts, it has grown the trees of the parse
  pub accepted_grows : (parsed : List ℕ) (trees : Trees) → AcceptsBy table tokens parsed →
      AreTreesOf rules tokens parsed trees →
      (xs : List Symbol) × (n : ℕ) × (s : ℕ) × Grows table tokens 0 xs trees 0 n s
  accepted_grows parsed trees a h =
      let c = a.config in
      let g = grown_reached a.reached in
      let grown = all_grown g.stack in
      let done = a.accepted.last.completes in
      let there = subst (λ (r : ℕ). slice_get rules r ≡ Some done.is.rule) done.rule done.is.is in
      let same = same_Some done.is.rule h.rule (sym there ∙ h.is) in
      let right = sym (accepted_is table tokens states sound c g.symbols (linked g.stack) a.accepted)
      ∙ ap (λ (x : Rule). x.right.items) same ∙ h.then_end in
      let xs = (last_same (reverse g.symbols) h.symbols (Terminal 0) (Terminal 0) right).0 in
      let by = sym (reverse-reverse (reductions g.trees)) ∙ ap reverse (g.reduced ∙ sym a.rules_of)
      ∙ reverse-reverse parsed ∙ sym h.reduced in
      let own = subst (λ (ys : List Symbol). AreTrees rules ys g.trees) xs (grown_trees grown) in
      let (_, forest) = one_forest rules own h.trees_of [] [] by in (
        reverse g.symbols,
        c.read,
        top c.states,
        subst (λ (f : Trees). Grows table tokens 0 (reverse g.symbols) f 0 c.read (top c.states)) forest
            grown,
      )
