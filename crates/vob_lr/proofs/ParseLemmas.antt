-- What a parser by a table keeps, step by step, and what the rules mean once it accepts.
use Rattle.std.proofs.Common.{◌≡◌, ℕ, ◌+◌, ◌-◌, ◌<◌, ◌≤◌, List, [], ◌∷◌, ◌++◌, length, get_or, take, drop, map, reverse, Some, slice_get, refl, sym, ap, ◌∙◌, subst, arith}
use Rattle.std.proofs.lemmas.List.{append-nil, append_assoc, drop_all, drop_more, get_or_past, length-drop, length-reverse, reverse-append, take-append-drop, take_all}
use Rattle.std.proofs.Math.Seq.{drop-append_seam}
use Rattle.std.proofs.lemmas.Option.{same_Some}
use Rattle.vob_lr.specs.Derivations.{DerivesBy, IsParse}
use Rattle.vob_lr.specs.Derivations.DerivesBy.{nothing, further}
use Rattle.vob_lr.specs.Lookaheads.{HasMove, Machine}
use Rattle.vob_lr.specs.Parses.{Config, IsAccepted, IsReached, IsReplaced, IsTaken, action_in, beginning, replaced, shifted, top}
use Rattle.vob_lr.specs.Parses.IsReached.{begins, then_steps}
use Rattle.vob_lr.specs.States.{AreStates}
use Rattle.vob_lr.specs.Stops.{CanReplace}
use Rattle.vob_lr.specs.Tables.{AreSound, TableView}
use Rattle.vob_lr.specs.declared.grammar.Rule.{Rule}
use Rattle.vob_lr.specs.declared.grammar.Symbol.{Symbol}
use Rattle.vob_lr.specs.declared.grammar.Symbol.TheVariants.{Terminal, Nonterminal}
use Rattle.vob_lr.specs.declared.table.Action.{Action}
use Rattle.vob_lr.specs.declared.table.Action.TheVariants.{Accept, Reduce, Shift}
use Rattle.vob_lr.proofs.LinkLemmas.{AreLinked, EndWith, dots_linked, linked_count, linked_drop, linked_push}
use Rattle.vob_lr.proofs.LinkLemmas.AreLinked.{bottom}
use Rattle.vob_lr.proofs.MemberLemmas.{ahead_inside}

-- the tokens that a parser hasn't read
abbrev unread : List ℕ → Config → List Symbol
unread tokens c = map Terminal (drop c.read tokens)

-- the states on the stack are linked by some symbols, which with the rest of the tokens derive all
-- tokens
pub record IsRun (m : Machine) (tokens : List ℕ) (c : Config) : Type 0 where
  pub symbols : List Symbol
  pub linked : AreLinked m.moves c.states symbols
  pub derives : DerivesBy m.grammar.rules.items tokens (reverse symbols ++ unread tokens c) c.reduced
  pub read : c.read ≤ length tokens

-- the newest of some symbols are before the others
reverse_parts : {A : Type 0} (n : ℕ) (xs : List A) →
    reverse xs ≡ reverse (drop n xs) ++ reverse (take n xs)
reverse_parts n xs = sym (ap reverse (take-append-drop n xs)) ∙ reverse-append (take n xs) (drop n xs)

-- the states that are left once the newest are
pub left_states : (xs : List ℕ) (count : ℕ) → count ≤ length xs →
    reverse (take (length xs - count) xs) ≡ drop count (reverse xs)
left_states xs count less =
    let n = length xs - count in
    let newest = reverse (drop n xs) in
    let long : length newest ≡ count =
    omega (arith, less, length-reverse (drop n xs), length-drop n xs) in
    sym (ap (drop count) (reverse_parts n xs)
    ∙ ap (λ (k : ℕ). drop k (newest ++ reverse (take n xs))) (sym long)
    ∙ drop-append_seam newest (reverse (take n xs)))

-- the newest symbol is before what is behind all
reverse_last : (x : Symbol) (xs rest : List Symbol) →
    reverse (x ∷ xs) ++ rest ≡ reverse xs ++ x ∷ rest
reverse_last x xs rest =
    ap (λ (zs : List Symbol). zs ++ rest) (reverse-append (x ∷ []) xs)
    ∙ append_assoc (reverse xs) (x ∷ []) rest

module _ (table : TableView) (tokens : List ℕ)
    (states : AreStates table.machine.grammar.rules.items table.machine.sets table.machine.moves)
    (sound : AreSound table.machine table.cells) where
  abbrev m : Machine
  m = table.machine

  abbrev rules : List Rule
  rules = table.machine.grammar.rules.items

  run_begins : IsRun m tokens beginning
  run_begins = record {
    symbols = [];
    linked = bottom;
    derives = nothing refl;
    read = omega arith;
  }

  run_shifts : (c : Config) (p : ℕ) → IsRun m tokens c → action_in table tokens c ≡ Some (Shift p) →
      c.read < length tokens → IsRun m tokens (shifted p c)
  run_shifts c p h action low =
      let t = get_or tokens c.read 0 in
      let move = sound.shifts (top c.states) t p action in
      let rest = map Terminal (drop (c.read + 1) tokens) in
      let same = reverse_last (Terminal t) h.symbols rest
      ∙ ap (λ (ts : List ℕ). reverse h.symbols ++ map Terminal ts)
      (sym (drop_more tokens c.read 0 low)) in record {
        symbols = Terminal t ∷ h.symbols;
        linked = linked_push m.moves h.linked (Terminal t) p move;
        derives = subst (λ (xs : List Symbol). DerivesBy rules tokens xs c.reduced) (sym same)
            h.derives;
        read = omega (arith, low);
      }

  -- the symbols of a rule by which the table reduces are the newest
  pub reduced_end : (c : Config) (symbols : List Symbol) → AreLinked m.moves c.states symbols → (r : ℕ)
      (rule : Rule) → action_in table tokens c ≡ Some (Reduce r) → slice_get rules r ≡ Some rule →
      EndWith symbols rule.right.items (length rule.right.items)
  reduced_end c symbols linked r rule action is =
      let (i, done, l) = sound.reduces (top c.states) (get_or tokens c.read 0) r action in
      let there = ahead_inside m states l in
      let ends = dots_linked m states linked i (length done.is.rule.right.items) done.item done.is
      there done.dot in
      let own = subst (λ (n : ℕ). slice_get rules n ≡ Some done.is.rule) done.rule done.is.is in
      let same = same_Some done.is.rule rule (sym own ∙ is) in
      subst (λ (x : Rule). EndWith symbols x.right.items (length x.right.items)) same ends

  run_reduces : (c d : Config) (r : ℕ) → IsRun m tokens c →
      action_in table tokens c ≡ Some (Reduce r) → IsReplaced m r c d → IsRun m tokens d
  run_reduces c d r h action to =
      let left = Nonterminal to.rule.left in
      let right = to.rule.right.items in
      let n = length right in
      let rest = unread tokens c in
      let ends = reduced_end c h.symbols h.linked r to.rule action to.is in
      let older = reverse (drop n h.symbols) in
      let whole = reverse_parts n h.symbols
      ∙ ap (λ (xs : List Symbol). older ++ xs) (ends.1 ∙ take_all n right (omega arith)) in
      let same = ap (λ (xs : List Symbol). xs ++ rest) whole ∙ append_assoc older right rest in
      let run : IsRun m tokens (replaced r n to.state c) = record {
        symbols = left ∷ drop n h.symbols;
        linked = linked_push m.moves (linked_drop m.moves h.linked n ends.0) left to.state to.move;
        derives = further older (drop c.read tokens) to.is
            (reverse_last left (drop n h.symbols) rest)
            (subst (λ (xs : List Symbol). DerivesBy rules tokens xs c.reduced) same h.derives);
        read = h.read;
      } in
      subst (λ (e : Config). IsRun m tokens e) (sym to.after) run

  run_takes : (c d : Config) (a : Action) → IsRun m tokens c → action_in table tokens c ≡ Some a →
      IsTaken m tokens c a d → IsRun m tokens d
  run_takes c d (Shift p) h action (low, is) =
      subst (λ (e : Config). IsRun m tokens e) (sym is) (run_shifts c p h action low)
  run_takes c d (Reduce r) h action to = run_reduces c d r h action to
  run_takes c d Accept h action taken = absurd taken

  pub run_reached : {c : Config} → IsReached table tokens c → IsRun m tokens c
  run_reached (begins is) = subst (λ (c : Config). IsRun m tokens c) (sym is) run_begins
  run_reached (then_steps {c} {d} reached step) =
      run_takes c d step.action (run_reached reached) step.is step.taken

  pub read_within : (c : Config) → IsReached table tokens c → c.read ≤ length tokens
  read_within c reached = (run_reached reached).read

  -- a rule by which the table reduces finds states enough
  pub reduce_fits : (c : Config) (r : ℕ) → IsReached table tokens c →
      action_in table tokens c ≡ Some (Reduce r) → CanReplace rules r c
  reduce_fits c r reached action =
      let h = run_reached reached in
      let (i, done, l) = sound.reduces (top c.states) (get_or tokens c.read 0) r action in
      let is = subst (λ (n : ℕ). slice_get rules n ≡ Some done.is.rule) done.rule done.is.is in
      let ends = reduced_end c h.symbols h.linked r done.is.rule action is in
      record {
        rule = done.is.rule;
        is = is;
        long = omega (arith, ends.0, linked_count m.moves h.linked);
      }

  -- all symbols are before the end in rule 0
  pub accepted_is : (c : Config) (symbols : List Symbol) → AreLinked m.moves c.states symbols →
      (a : IsAccepted table tokens c) →
      a.last.completes.is.rule.right.items ≡ reverse symbols ++ Terminal 0 ∷ []
  accepted_is c symbols links a =
      let done = a.last.completes in
      let right = done.is.rule.right.items in
      let last = get_or_past tokens c.read 0 a.read in
      let move = subst (λ (t : ℕ). HasMove m.moves (top c.states) (Terminal t) a.state) last
      (sound.shifts (top c.states) (get_or tokens c.read 0) a.state a.is) in
      let linked = linked_push m.moves links (Terminal 0) a.state move in
      let ends = dots_linked m states linked a.last.item done.item.dot done.item done.is a.last.there
      refl in
      let count = linked_count m.moves links in
      let all = take_all done.item.dot (Terminal 0 ∷ symbols) (omega (arith, count, a.last.whole)) in
      sym (take_all done.item.dot right (omega (arith, done.dot)))
      ∙ sym ends.1 ∙ ap reverse all ∙ reverse-append (Terminal 0 ∷ []) symbols

  pub parse_accepted : (c : Config) → IsReached table tokens c → IsAccepted table tokens c →
      (parsed : List ℕ) → reverse parsed ≡ c.reduced → IsParse rules tokens parsed
  parse_accepted c reached a parsed same =
      let h = run_reached reached in
      let done = a.last.completes in
      let none = ap (λ (ts : List ℕ). reverse h.symbols ++ map Terminal ts)
      (drop_all c.read tokens a.read) ∙ append-nil (reverse h.symbols) in record {
        rule = done.is.rule;
        is = subst (λ (n : ℕ). slice_get rules n ≡ Some done.is.rule) done.rule done.is.is;
        symbols = reverse h.symbols;
        then_end = accepted_is c h.symbols h.linked a;
        derives = subst (λ (rs : List ℕ). DerivesBy rules tokens (reverse h.symbols) rs) (sym same)
            (subst (λ (xs : List Symbol). DerivesBy rules tokens xs c.reduced) none h.derives);
      }
