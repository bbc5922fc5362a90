-- What becomes of a stack is what a parser does.
use Rattle.std.specs.Prelude.{slice_index_or}
use Rattle.std.proofs.Common.{Some, ◌≡◌, inl, inr, ℕ, ◌+◌, ◌<◌, ◌≤◌, List, [], ◌∷◌, ◌++◌, length, drop, refl, ap, sym, subst, ◌∙◌, arith}
use Rattle.std.proofs.lemmas.Bool.{cases_lt}
use Rattle.std.proofs.lemmas.List.{append_assoc, append-nil, get_or-append-add, length-append}
use Rattle.vob_lr.specs.Parses.{Config, IsReached, IsTaken, Steps, beginning, replaced, shifted, top}
use Rattle.vob_lr.specs.Parses.IsReached.{begins, then_steps}
use Rattle.vob_lr.specs.Stops.{IsSound, StepsAreOne}
use Rattle.vob_lr.specs.Tables.{TableView, chosen_at}
use Rattle.vob_lr.specs.declared.table.Action.{Action}
use Rattle.vob_lr.specs.declared.table.Action.TheVariants.{Accept, Reduce, Shift}
use Rattle.files_parse.specs.Fitting.{Fits, NeverEnds}
use Rattle.files_parse.specs.Stacks.{Becomes, HasRead, Leads, ReducesBy, Shifts, Stays}
use Rattle.files_parse.specs.Stacks.Leads.{here, further}
use Rattle.files_parse.specs.declared.parser.Outcome.TheVariants.{Endless, Refused, Taken}

module _ (table : TableView) (t : ℕ) where
  pub leads_on : {xs ys zs : List ℕ} {n m : ℕ} → Leads table t xs n ys → Leads table t ys m zs →
      Leads table t xs (n + m) zs
  leads_on {xs = xs} {ys = ys} {n = n} a here = subst (λ (k : ℕ). Leads table t xs k ys) (omega arith) a
  leads_on {xs = xs} {zs = zs} a (further b is by) =
      subst (λ (k : ℕ). Leads table t xs k zs) (omega arith) (further (leads_on a b) is by)

-- ---- a stack among configurations

module _ (table : TableView) (tokens : List ℕ) where
  -- a parser got to some states, and read nothing on the way
  pub record IsAt (c : Config) (n : ℕ) (xs : List ℕ) : Type 0 where
    pub d : Config
    pub reached : IsReached table tokens d
    pub read : d.read ≡ c.read
    pub states : d.states ≡ xs
    pub reduced : length d.reduced ≡ n + length c.reduced

  pub got_to : {t : ℕ} {xs : List ℕ} {n : ℕ} {ys : List ℕ} (c : Config) → IsReached table tokens c →
      slice_index_or tokens c.read 0 ≡ t → c.states ≡ xs → Leads table t xs n ys → IsAt c n ys
  got_to c reached ahead states here = record {
    d = c;
    reached = reached;
    read = refl;
    states = states;
    reduced = omega arith;
  }
  got_to {t} {xs} c reached ahead states (further {n} {r} {ys} {zs} leads is by) =
      let o = got_to c reached ahead states leads in
      let count = length by.rule.right.items in
      let d = replaced r count by.state o.d in
      let acts : chosen_at table.cells (top o.d.states) (slice_index_or tokens o.d.read 0) ≡ Some (Reduce r) =
      ap (λ (qs : List ℕ). chosen_at table.cells (top qs) (slice_index_or tokens o.d.read 0)) o.states
      ∙ ap (λ (k : ℕ). chosen_at table.cells (top ys) (slice_index_or tokens k 0)) o.read
      ∙ ap (λ (u : ℕ). chosen_at table.cells (top ys) u) ahead ∙ is in
      record {
        d = d;
        reached = then_steps o.reached (record {
          action = Reduce r;
          is = acts;
          taken = record {
            rule = by.rule;
            is = by.is;
            state = by.state;
            move = rw (o.states) by.move;
            after = refl;
          };
        });
        read = o.read;
        states = ap (λ (qs : List ℕ). by.state ∷ drop count qs) o.states ∙ sym by.after;
        reduced = omega (arith, o.reduced);
      }

  -- and shifts the terminal ahead
  pub record HasShifted (c : Config) (xs : List ℕ) : Type 0 where
    pub d : Config
    pub reached : IsReached table tokens d
    pub read : d.read ≡ c.read + 1
    pub states : d.states ≡ xs

  pub then_shifts : {t n : ℕ} {ys zs : List ℕ} (c : Config) → slice_index_or tokens c.read 0 ≡ t →
      c.read < length tokens → IsAt c n ys → Shifts table t ys zs → HasShifted c zs
  then_shifts {t} {n} {ys} {zs} c ahead inside o (p, is, after) =
      let acts : chosen_at table.cells (top o.d.states) (slice_index_or tokens o.d.read 0) ≡ Some (Shift p) =
      ap (λ (qs : List ℕ). chosen_at table.cells (top qs) (slice_index_or tokens o.d.read 0)) o.states
      ∙ ap (λ (k : ℕ). chosen_at table.cells (top ys) (slice_index_or tokens k 0)) o.read
      ∙ ap (λ (u : ℕ). chosen_at table.cells (top ys) u) ahead ∙ is in
      record {
        d = shifted p o.d;
        reached = then_steps o.reached (record {
          action = Shift p;
          is = acts;
          taken = (omega (arith, o.read, inside), refl);
        });
        read = ap (λ (k : ℕ). k + 1) o.read;
        states = ap (λ (qs : List ℕ). p ∷ qs) o.states ∙ sym after;
      }

module _ (table : TableView) where
  pub nothing_read : (states : List ℕ) → states ≡ 0 ∷ [] → HasRead table [] states
  nothing_read states is more = (beginning, begins refl, refl, sym is)

  next_ahead : (ts : List ℕ) (t k : ℕ) (more : List ℕ) → k ≡ length ts → slice_index_or (ts ++ t ∷ more) k 0 ≡ t
  next_ahead ts t k more is =
      ap (λ (n : ℕ). slice_index_or (ts ++ t ∷ more) n 0) (is ∙ omega arith) ∙ get_or-append-add ts (t ∷ more) 0 0

  -- one token more
  pub reads_more : (ts : List ℕ) (t : ℕ) (xs zs : List ℕ) → HasRead table ts xs → Becomes table t xs zs Taken →
      HasRead table (ts ++ t ∷ []) zs
  reads_more ts t xs zs has (n, ys, leads, shifts) more =
      let (c, reached, read, states) = has (t ∷ more) in
      let ahead = next_ahead ts t c.read more read in
      let inside : c.read < length (ts ++ t ∷ more) = omega (arith, read, length-append ts (t ∷ more)) in
      let at = got_to table (ts ++ t ∷ more) c reached ahead states leads in
      let s = then_shifts table (ts ++ t ∷ more) c ahead inside at shifts in (
        s.d,
        subst (λ (us : List ℕ). IsReached table us s.d) (sym (append_assoc ts (t ∷ []) more)) s.reached,
        omega (arith, s.read, read, length-append ts (t ∷ [])),
        s.states,
      )

  pub taken_fits : (ts : List ℕ) (t : ℕ) (xs zs : List ℕ) → HasRead table ts xs → Becomes table t xs zs Taken →
      Fits table ts t
  taken_fits ts t xs zs has taken =
      let (c, reached, read, states) = reads_more ts t xs zs has taken [] in (
        c,
        subst (λ (us : List ℕ). IsReached table us c) (append-nil (ts ++ t ∷ [])) reached,
        omega (arith, read, length-append ts (t ∷ [])),
      )

  -- reductions without end
  pub never_ends : (tokens before rest : List ℕ) (at t : ℕ) (xs zs : List ℕ) → before ++ rest ≡ tokens →
      length before ≡ at → slice_index_or tokens at 0 ≡ t → HasRead table before xs →
      Becomes table t xs zs Endless → NeverEnds table tokens at
  never_ends tokens before rest at t xs zs cut there ahead has endless k =
      let (c, reached, read, states) = has rest in
      let own = subst (λ (us : List ℕ). IsReached table us c) cut reached in
      let place : c.read ≡ at = read ∙ there in
      let (n, ys, more, leads) = endless k in
      let o = got_to table tokens c own (ap (λ (j : ℕ). slice_index_or tokens j 0) place ∙ ahead) states leads in
      (o.d, o.reached, o.read ∙ place, omega (arith, more, o.reduced))

-- ---- what doesn't fit

module _ (table : TableView) (tokens : List ℕ) where
  -- what a parser has read, and by how many rules it reduced
  abbrev pub count : Config → ℕ
  count c = c.read + length c.reduced

  taken_counts : (c d : Config) (a : Action) → IsTaken table.machine tokens c a d →
      (count d ≡ count c + 1) × (c.read ≤ d.read)
  taken_counts c d Accept taken = absurd taken
  taken_counts c d (Shift p) taken =
      let read = ap (λ (e : Config). e.read) taken.1 in
      let reduced = ap (λ (e : Config). length e.reduced) taken.1 in (omega (arith, read, reduced), omega (arith, read))
  taken_counts c d (Reduce r) taken =
      let read = ap (λ (e : Config). e.read) taken.after in
      let reduced = ap (λ (e : Config). length e.reduced) taken.after in
      (omega (arith, read, reduced), omega (arith, read))

  pub counts : (c d : Config) → Steps table tokens c d → (count d ≡ count c + 1) × (c.read ≤ d.read)
  counts c d step = taken_counts c d step.action step.taken

  pub none_counted : (c : Config) → c ≡ beginning → count c ≡ 0
  none_counted c is = ap count is

module _ (one : StepsAreOne) (table : TableView) (sound : IsSound table) (tokens : List ℕ) where
  -- a configuration on the way to another
  earlier : {d : Config} → IsReached table tokens d → (n : ℕ) → n ≤ count table tokens d →
      (c : Config) × IsReached table tokens c × (count table tokens c ≡ n) × (c.read ≤ d.read)
  earlier {d} (begins is) n less =
      let none = none_counted table tokens d is in (d, begins is, omega (arith, none, less), omega arith)
  earlier {d} (then_steps {c} reached step) n less =
      let own = counts table tokens c d step in
      elim (cases_lt n (count table tokens d)) [
        | inl low ↦
            let (e, there, is, read) = earlier reached n (omega (arith, low, own.0)) in
            (e, there, is, omega (arith, read, own.1))
        | inr past ↦ (d, then_steps reached step, omega (arith, less, past), omega arith)
      ]

  same : {c d : Config} → IsReached table tokens c → IsReached table tokens d →
      count table tokens c ≡ count table tokens d → c ≡ d
  same (begins a) (begins b) is = a ∙ sym b
  same {c} {d} (begins a) (then_steps {c = e} reached step) is =
      absurd (omega (arith, is, none_counted table tokens c a, (counts table tokens e d step).0))
  same {c} {d} (then_steps {c = e} reached step) (begins b) is =
      absurd (omega (arith, is, none_counted table tokens d b, (counts table tokens e c step).0))
  same {c} {d} (then_steps {c = e} reached step) (then_steps {c = f} other next) is =
      let before = same reached other
      (omega (arith, is, (counts table tokens e c step).0, (counts table tokens f d next).0)) in
      one table sound tokens f c d (subst (λ (x : Config). Steps table tokens x c) before step) next

  -- what is reached at least as early has read no more
  no_more : {c e : Config} → IsReached table tokens c → IsReached table tokens e →
      count table tokens e ≤ count table tokens c → e.read ≤ c.read
  no_more {c} {e} reached other less =
      let (d, there, is, read) = earlier reached (count table tokens e) less in
      let equal = ap (λ (x : Config). x.read) (same there other is) in
      omega (arith, read, equal)

  none_after : {c d : Config} → IsReached table tokens c → ((x : Config) → ¬ Steps table tokens c x) →
      IsReached table tokens d → ¬ (count table tokens d ≡ count table tokens c + 1)
  none_after {d = d} reached stuck (begins is) equal = omega (arith, equal, none_counted table tokens d is)
  none_after {c = c} {d = d} reached stuck (then_steps {c = e} other step) equal =
      let before = same other reached (omega (arith, equal, (counts table tokens e d step).0)) in
      stuck d (subst (λ (x : Config). Steps table tokens x d) before step)

  stuck_reads : {c e : Config} → IsReached table tokens c → ((x : Config) → ¬ Steps table tokens c x) →
      IsReached table tokens e → e.read ≤ c.read
  stuck_reads {c} {e} reached stuck other = elim (cases_lt (count table tokens c) (count table tokens e)) [
    | inl late ↦
        let (d, there, is, read) = earlier other (count table tokens c + 1) (omega (arith, late)) in
        absurd (none_after reached stuck there is)
    | inr early ↦ no_more reached other early
  ]

  -- no step leads on from states that stay
  no_step : {t : ℕ} {xs : List ℕ} (c : Config) → c.states ≡ xs → slice_index_or tokens c.read 0 ≡ t →
      Stays table t xs → (d : Config) → ¬ Steps table tokens c d
  no_step {t} {xs} c states ahead stays d step = by step.action step.is step.taken
    where
      acts : (a : Action) → chosen_at table.cells (top c.states) (slice_index_or tokens c.read 0) ≡ Some a →
          chosen_at table.cells (top xs) t ≡ Some a
      acts a is = subst (λ (qs : List ℕ). chosen_at table.cells (top qs) t ≡ Some a) states
          (subst (λ (u : ℕ). chosen_at table.cells (top c.states) u ≡ Some a) ahead is)

      by : (a : Action) → chosen_at table.cells (top c.states) (slice_index_or tokens c.read 0) ≡ Some a →
          IsTaken table.machine tokens c a d → ⊥
      by Accept is taken = taken
      by (Shift p) is taken = stays.no_shift p (acts (Shift p) is)
      by (Reduce r) is taken = stays.no_rule r d.states (acts (Reduce r) is) (subst
          (λ (qs : List ℕ). ReducesBy table r qs d.states) states (record {
            rule = taken.rule;
            is = taken.is;
            state = taken.state;
            move = taken.move;
            after = ap (λ (x : Config). x.states) taken.after;
          }))

module _ (one : StepsAreOne) (table : TableView) (sound : IsSound table) (ts : List ℕ) (t : ℕ) (xs zs : List ℕ)
    (has : HasRead table ts xs) where
  abbrev tokens : List ℕ
  tokens = ts ++ t ∷ []

  pub refused_not : Becomes table t xs zs Refused → ¬ Fits table ts t
  refused_not (n, ys, leads, stays) (e, other, past) =
      let (c, reached, read, states) = has (t ∷ []) in
      let ahead = next_ahead table ts t c.read [] read in
      let o = got_to table tokens c reached ahead states leads in
      let here_too = ap (λ (k : ℕ). slice_index_or tokens k 0) o.read ∙ ahead in
      let stuck = no_step one table sound tokens o.d o.states here_too stays in
      omega (arith, stuck_reads one table sound tokens o.reached stuck other, o.read, read, past)

  pub endless_not : Becomes table t xs zs Endless → ¬ Fits table ts t
  endless_not endless (e, other, past) =
      let (c, reached, read, states) = has (t ∷ []) in
      let ahead = next_ahead table ts t c.read [] read in
      let (n, ys, more, leads) = endless (e.read + length e.reduced) in
      let o = got_to table tokens c reached ahead states leads in
      let early = no_more one table sound tokens o.reached other (omega (arith, more, o.reduced)) in
      omega (arith, early, o.read, read, past)
