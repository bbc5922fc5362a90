-- What a parser takes after tokens, and the list of it in a message.
use Rattle.std.specs.Prelude.{String, slice_index_or}
use Rattle.std.specs.String.{string_bytes}
use Rattle.std.specs.declared.alloc.Global.{Global}
use Rattle.std.proofs.Common.{◌≡◌, inl, inr, ℕ, ◌+◌, ◌-◌, ◌<◌, ◌≤◌, List, [], ◌∷◌, ◌++◌, length, drop, take, get_or, map, ap, sym, subst, ◌∙◌, arith}
use Rattle.std.proofs.lemmas.Bool.{cases_lt}
use Rattle.std.proofs.lemmas.List.{append_assoc, append-nil, drop_all, drop_more, get_or_append_left, length-append, length-drop, length-map, length-take-le, map-append, take-append-drop, take_all, take_more}
use Rattle.vob_lr.specs.Parses.{Config, IsReached, IsTaken, Steps}
use Rattle.vob_lr.specs.Parses.IsReached.{begins, then_steps}
use Rattle.vob_lr.specs.Tables.{TableView, chosen_at}
use Rattle.vob_lr.specs.Those.{AreThose}
use Rattle.vob_lr.specs.declared.table.Action.{Action}
use Rattle.vob_lr.specs.declared.table.Action.TheVariants.{Accept, Reduce, Shift}
use Rattle.files_grammar.proofs.OrderLemmas.{Below, below_with, below_without}
use Rattle.files_grammar.specs.declared.file.SymbolNames.{SymbolNames}
use Rattle.files_parse.specs.Fitting.{Fits, items_of, joined, others_of, separator, shown}
use Rattle.files_parse.specs.Stacks.{IsAdded}
use Rattle.files_parse.proofs.StackLemmas.{counts}

module _ (table : TableView) (xs ys : List ℕ) where
  abbrev all : List ℕ
  all = xs ++ ys

  -- a step before the first tokens end is one without the others
  step_before : (c d : Config) → c.read < length xs → Steps table all c d → Steps table xs c d
  step_before c d less step = record {
    action = step.action;
    is = ap (λ (t : ℕ). chosen_at table.cells (slice_index_or c.states 0 0) t)
        (sym (get_or_append_left xs ys 0 c.read less)) ∙ step.is;
    taken = by step.action step.taken;
  }
    where
      by : (a : Action) → IsTaken table.machine all c a d → IsTaken table.machine xs c a d
      by Accept taken = taken
      by (Shift p) taken = (less, taken.1)
      by (Reduce r) taken = taken

  reached_before : {c : Config} → IsReached table all c → c.read < length xs → IsReached table xs c
  reached_before (begins is) less = begins is
  reached_before {c = d} (then_steps {c = c} reached step) less =
      let low : c.read < length xs = omega (arith, less, (counts table all c d step).1) in
      then_steps (reached_before reached low) (step_before c d low step)

  -- and where more were read, these were
  pub reads_first : {c : Config} → IsReached table all c → length xs ≤ c.read → 0 < length xs →
      (d : Config) × IsReached table xs d × (d.read ≡ length xs)
  reads_first {c} (begins is) past some = absurd (omega (arith, past, some, ap (λ (d : Config). d.read) is))
  reads_first {c = d} (then_steps {c = c} reached step) past some = elim (cases_lt c.read (length xs)) [
    | inl low ↦
        let next = counts table all c d step in
        let own = then_steps (reached_before reached low) (step_before c d low step) in
        (d, own, omega (arith, past, low, one_read step.action step.taken))
    | inr high ↦ reads_first reached high some
  ]
    where
      one_read : (a : Action) → IsTaken table.machine all c a d → d.read ≤ c.read + 1
      one_read Accept taken = absurd taken
      one_read (Shift p) taken = omega (arith, ap (λ (e : Config). e.read) taken.1)
      one_read (Reduce r) taken = omega (arith, ap (λ (e : Config). e.read) taken.after)

-- after tokens that aren't all taken nothing fits
pub none_fits : (table : TableView) (tokens : List ℕ) (at : ℕ) → at < length tokens →
    ¬ Fits table (take at tokens) (get_or tokens at 0) → (t : ℕ) → ¬ Fits table tokens t
none_fits table tokens at less not t (c, reached, past) =
    let own = get_or tokens at 0 in
    let xs = take at tokens ++ own ∷ [] in
    let rest = drop (at + 1) tokens in
    let cut : tokens ++ t ∷ [] ≡ xs ++ (rest ++ t ∷ []) =
    ap (λ (l : List ℕ). l ++ t ∷ [])
    (sym (take-append-drop (at + 1) tokens) ∙ ap (λ (l : List ℕ). l ++ rest) (take_more tokens at 0 less))
    ∙ append_assoc xs rest (t ∷ []) in
    let long : length xs ≡ at + 1 =
    omega (arith, length-append (take at tokens) (own ∷ []), length-take-le at tokens (omega (arith, less))) in
    let (d, there, read) = reads_first table xs (rest ++ t ∷ [])
    (subst (λ (l : List ℕ). IsReached table l c) cut reached) (omega (arith, long, past, less)) (omega (arith, long)) in
    not (d, there, omega (arith, read, long, length-take-le at tokens (omega (arith, less))))

-- ---- the terminals that fit

module _ (P : ℕ → Type 0) where
  pub added : (k : ℕ) (old new : List ℕ) → AreThose (Below P k) old → IsAdded P k old new →
      AreThose (Below P (k + 1)) new
  added k old new are (inl (own, is)) = rw is (below_with P k old are own)
  added k old new are (inr (none, is)) = rw is (below_without P k old are none)

-- ---- items as a list

abbrev bytes : String Global → List ℕ
bytes item = string_bytes item

-- one item more
pub joins_more : (items : List (String Global)) (k : ℕ) (item : String Global) (old new : List ℕ) → k < length items →
    item ≡ get_or items k item → new ≡ (old ++ bytes item) ++ separator (length items - k - 1) →
    old ++ joined (map bytes (drop k items)) ≡ joined (map bytes items) →
    new ++ joined (map bytes (drop (k + 1) items)) ≡ joined (map bytes items)
joins_more items k item old new less at more is =
    let rest = drop (k + 1) items in
    let left : length (map bytes rest) ≡ length items - k - 1 =
    omega (arith, length-map rest bytes, length-drop (k + 1) items, less) in
    let tail = joined (map bytes rest) in
    let first : drop k items ≡ item ∷ rest =
    drop_more items k item less ∙ ap (λ (x : String Global). x ∷ rest) (sym at) in
    let own : new ++ tail ≡ old ++ (bytes item ++ separator (length (map bytes rest)) ++ tail) =
    ap (λ (l : List ℕ). l ++ tail) (more ∙ append_assoc old (bytes item) (separator (length items - k - 1)))
    ∙ append_assoc old (bytes item ++ separator (length items - k - 1)) tail
    ∙ ap (λ (n : ℕ). old ++ (bytes item ++ separator n ++ tail)) (sym left) in
    let whole : old ++ joined (bytes item ∷ map bytes rest) ≡ joined (map bytes items) =
    ap (λ (l : List (String Global)). old ++ joined (map bytes l)) (sym first) ∙ is in
    own ∙ whole

pub joins_all : (items : List (String Global)) (k : ℕ) (text : List ℕ) → length items ≤ k →
    text ++ joined (map bytes (drop k items)) ≡ joined (map bytes items) → text ≡ joined (map bytes items)
joins_all items k text past is =
    sym (append-nil text)
    ∙ ap (λ (l : List (String Global)). text ++ joined (map bytes l)) (sym (drop_all k items past)) ∙ is

module _ (names : SymbolNames) (ts : List ℕ) where
  -- all named items are there, and the number of the others
  pub items_others : (k : ℕ) (items after : List (String Global)) (last : String Global) → 5 < length ts → k ≡ 5 →
      map bytes items ≡ map (shown names) (take k ts) → after ≡ items ++ last ∷ [] →
      bytes last ∷ [] ≡ others_of (length ts - 5) → map bytes after ≡ items_of names ts
  items_others k items after last many five are more is =
      ap (map bytes) more ∙ map-append bytes items (last ∷ []) ∙ ap (λ (l : List (List ℕ)). l ++ bytes last ∷ []) are
      ∙ ap (λ (n : ℕ). map (shown names) (take n ts) ++ bytes last ∷ []) five
      ∙ ap (λ (l : List (List ℕ)). map (shown names) (take 5 ts) ++ l) is

  pub items_named : (k : ℕ) (items : List (String Global)) → length ts ≤ 5 → length ts ≤ k →
      map bytes items ≡ map (shown names) (take k ts) → map bytes items ≡ items_of names ts
  items_named k items few past are =
      let none : length ts - 5 ≡ 0 = omega (arith, few) in
      are ∙ ap (λ (l : List ℕ). map (shown names) l) (take_all k ts past ∙ sym (take_all 5 ts few))
      ∙ sym (append-nil (map (shown names) (take 5 ts)))
      ∙ ap (λ (n : ℕ). map (shown names) (take 5 ts) ++ others_of n) (sym none)
