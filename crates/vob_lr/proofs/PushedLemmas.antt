-- A parser by a table reaches what grows.
use Rattle.std.proofs.Common.{◌≡◌, ◌≤◌, add-one, ℕ, ◌+◌, ◌<◌, List, [], ◌∷◌, ◌++◌, length, get_or, drop, reverse, Some, refl, sym, ap, ◌∙◌, subst, arith, zero, suc, slice_get}
use Rattle.std.proofs.lemmas.List.{append-nil, get_or_past, reverse-append, append_assoc, length-append, length-drop}
use Rattle.std.proofs.lemmas.Option.{same_Some, get_or_from_slice_get, slice_get_within}
use Rattle.vob_lr.proofs.DotLemmas.{IsBefore, complete_of, drop_here}
use Rattle.std.proofs.Math.Seq.{drop-append_seam}
use Rattle.vob_lr.specs.Growing.{Grows}
use Rattle.vob_lr.specs.Growing.Grows.{nothing, shifts, reduces}
use Rattle.vob_lr.specs.Lookaheads.{HasMove}
use Rattle.vob_lr.specs.Parses.{Config, beginning, IsReached, IsReplaced, Steps, replaced, shifted, top}
use Rattle.vob_lr.specs.Parses.IsReached.{begins, then_steps}
use Rattle.vob_lr.specs.ItemSets.{HasItem}
use Rattle.vob_lr.specs.Stops.{AcceptsBy}
use Rattle.vob_lr.specs.declared.grammar.Rule.{Rule}
use Rattle.vob_lr.specs.Tables.{TableView, chosen_at}
use Rattle.vob_lr.specs.Trees.{Trees, reductions}
use Rattle.vob_lr.specs.declared.grammar.Symbol.{Symbol}
use Rattle.vob_lr.specs.declared.grammar.Symbol.TheVariants.{Terminal, Nonterminal}
use Rattle.vob_lr.specs.declared.table.Action.TheVariants.{Reduce, Shift}

-- the first of some tokens, or the end
abbrev pub first_ahead : List ℕ → ℕ
first_ahead ts = get_or ts 0 0

-- token n is t, and these are behind it
pub record IsToken (tokens : List ℕ) (n t : ℕ) (ts : List ℕ) : Type 0 where
  pub less : n < length tokens
  pub is : get_or tokens n 0 ≡ t
  pub rest : drop (n + 1) tokens ≡ ts

pub token_at : (tokens : List ℕ) (n t : ℕ) (ts : List ℕ) → drop n tokens ≡ t ∷ ts → IsToken tokens n t ts
token_at tokens n t ts left =
    let both = drop_here ℕ tokens n t ts left in record {
      less = slice_get_within tokens n t both.0;
      is = get_or_from_slice_get tokens n t 0 both.0;
      rest = subst (λ (k : ℕ). drop k tokens ≡ ts) (sym (add-one n)) both.1;
    }

-- all tokens are read
pub all_read : (ts : List ℕ) (n : ℕ) → drop n ts ≡ [] → length ts ≤ n
all_read ts n empty = omega (arith, ap length empty, length-drop n ts)

pub get_or-drop : (xs : List ℕ) (n : ℕ) → get_or xs n 0 ≡ get_or (drop n xs) 0 0
get_or-drop xs zero = refl
get_or-drop [] (suc n) = refl
get_or-drop (x ∷ xs) (suc n) = get_or-drop xs n

reverse_around : (rs : List ℕ) (r : ℕ) (ss more : List ℕ) →
    reverse ss ++ r ∷ (reverse rs ++ more) ≡ reverse (rs ++ r ∷ ss) ++ more
reverse_around rs r ss more =
    sym (ap (λ (ns : List ℕ). ns ++ more)
    (reverse-append rs (r ∷ ss) ∙ ap (λ (ns : List ℕ). ns ++ reverse rs) (reverse-append (r ∷ []) ss))
    ∙ append_assoc (reverse ss ++ r ∷ []) (reverse rs) more
    ∙ append_assoc (reverse ss) (r ∷ []) (reverse rs ++ more))

module _ (table : TableView) (tokens : List ℕ) where
  -- the parser has pushed as many states as there are symbols, and reduced by the rules of the trees
  pub record IsPushed (c : Config) (xs : List Symbol) (f : Trees) (k s : ℕ) : Type 0 where
    pub config : Config
    pub reached : IsReached table tokens config
    pub pushed : List ℕ
    pub states_of : config.states ≡ pushed ++ c.states
    pub many : length pushed ≡ length xs
    pub at_top : top config.states ≡ s
    pub read : config.read ≡ k
    pub reduced : config.reduced ≡ reverse (reductions f) ++ c.reduced

  pub pushed_of : {q s n k : ℕ} {xs : List Symbol} {f : Trees} → Grows table tokens q xs f n k s →
      (c : Config) → IsReached table tokens c → top c.states ≡ q → c.read ≡ n → IsPushed c xs f k s
  pushed_of nothing c reached at read = record {
    config = c;
    reached = reached;
    pushed = [];
    states_of = refl;
    many = refl;
    at_top = at;
    read = read;
    reduced = refl;
  }
  pushed_of (shifts {p = p} {n = n} {t = t} low is action g) c reached at read =
      let token : get_or tokens c.read 0 ≡ t = ap (λ (i : ℕ). get_or tokens i 0) read ∙ is in
      let step : Steps table tokens c (shifted p c) = record {
        action = Shift p;
        is = ap (λ (q : ℕ). chosen_at table.cells q (get_or tokens c.read 0)) at
            ∙ ap (chosen_at table.cells _) token ∙ action;
        taken = (omega (arith, low, read), refl);
      } in
      let on = pushed_of g (shifted p c) (then_steps reached step) refl (ap (λ (i : ℕ). i + 1) read) in record {
        config = on.config;
        reached = on.reached;
        pushed = on.pushed ++ p ∷ [];
        states_of = on.states_of ∙ sym (append_assoc on.pushed (p ∷ []) c.states);
        many = omega (arith, on.many, length-append on.pushed (p ∷ []));
        at_top = on.at_top;
        read = on.read;
        reduced = on.reduced;
      }
  pushed_of (reduces {q} {o} {p} {k = k} {r = r} {rule} {below = below} {more = more} is inner action move g) c
      reached at read =
      let gone = pushed_of inner c reached at read in
      let d = gone.config in
      let n = length rule.right.items in
      let left : drop n d.states ≡ c.states = ap (drop n) gone.states_of
      ∙ ap (λ (j : ℕ). drop j (gone.pushed ++ c.states)) (sym gone.many)
      ∙ drop-append_seam gone.pushed c.states in
      let to : IsReplaced table.machine r d (replaced r n p d) = record {
        rule = rule;
        is = is;
        state = p;
        move = subst (λ (z : ℕ). HasMove table.machine.moves z (Nonterminal rule.left) p)
            (sym (ap top left ∙ at)) move;
        after = refl;
      } in
      let step : Steps table tokens d (replaced r n p d) = record {
        action = Reduce r;
        is = ap (λ (i : ℕ). chosen_at table.cells (top d.states) (get_or tokens i 0)) gone.read
            ∙ ap (λ (z : ℕ). chosen_at table.cells z (get_or tokens k 0)) gone.at_top ∙ action;
        taken = to;
      } in
      let on = pushed_of g (replaced r n p d) (then_steps gone.reached step) refl gone.read in record {
        config = on.config;
        reached = on.reached;
        pushed = on.pushed ++ p ∷ [];
        states_of = on.states_of ∙ ap (λ (qs : List ℕ). on.pushed ++ p ∷ qs) left
            ∙ sym (append_assoc on.pushed (p ∷ []) c.states);
        many = omega (arith, on.many, length-append on.pushed (p ∷ []));
        at_top = on.at_top;
        read = on.read;
        reduced = on.reduced
            ∙ ap (λ (rs : List ℕ). reverse (reductions more) ++ r ∷ rs) gone.reduced
            ∙ reverse_around (reductions below) r (reductions more) c.reduced;
      }

  -- and accepts it, if all tokens are read and it stands before the end in rule 0
  pub accepted_of : (rule : Rule) → slice_get table.machine.grammar.rules.items 0 ≡ Some rule →
      (xs : List Symbol) → rule.right.items ≡ xs ++ Terminal 0 ∷ [] → {f : Trees} {k s : ℕ} →
      Grows table tokens 0 xs f 0 k s → drop k tokens ≡ [] → (p i : ℕ) →
      chosen_at table.cells s 0 ≡ Some (Shift p) → IsBefore table.machine.grammar.rules.items i 0 [] →
      HasItem table.machine.sets p i → AcceptsBy table tokens (reductions f)
  accepted_of rule is xs right {f} {k} {s} g left p i action dot there =
      let rules = table.machine.grammar.rules.items in
      let run = pushed_of g beginning (begins refl) refl refl in
      let d = run.config in
      let past : length tokens ≤ d.read = omega (arith, all_read tokens k left, run.read) in
      let token = get_or_past tokens d.read 0 past in
      let done = complete_of rules dot in
      let own = subst (λ (r : ℕ). slice_get rules r ≡ Some done.is.rule) done.rule done.is.is in
      let same = ap (λ (x : Rule). length x.right.items) (same_Some done.is.rule rule (sym own ∙ is)) in
      record {
        config = d;
        reached = run.reached;
        accepted = record {
          read = past;
          state = p;
          is = ap (λ (q : ℕ). chosen_at table.cells q (get_or tokens d.read 0)) run.at_top
              ∙ ap (λ (t : ℕ). chosen_at table.cells s t) token ∙ action;
          last = record {
            item = i;
            completes = done;
            there = there;
            whole = omega (
              arith,
              done.dot,
              same,
              ap length right,
              length-append xs (Terminal 0 ∷ []),
              run.many,
              ap length run.states_of,
              length-append run.pushed (0 ∷ []),
            );
          };
        };
        rules_of = sym (run.reduced ∙ append-nil (reverse (reductions f)));
      }
