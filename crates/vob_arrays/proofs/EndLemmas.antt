-- A parser by a table takes one way, so it ends in one.
use Rattle.std.proofs.Common.{◌≡◌, ℕ, ◌+◌, ◌<◌, ◌≤◌, List, length, reverse, sym, ap, ◌∙◌, subst, inl, inr, arith}
use Rattle.std.proofs.lemmas.Bool.{cases_lt}
use Rattle.std.proofs.lemmas.List.{length-reverse, reverse-reverse}
use Rattle.std.proofs.lemmas.Option.{same_Some}
use Rattle.vob_lr.specs.Parses.{Config, IsAccepted, IsReached, IsTaken, Steps}
use Rattle.vob_lr.specs.Parses.IsReached.{begins, then_steps}
use Rattle.vob_lr.specs.Stops.{AcceptsBy, IsSound, IsTooLong, IsUnexpected, StepsAreOne}
use Rattle.vob_lr.specs.Tables.{TableView}
use Rattle.vob_lr.specs.declared.table.Action.{Action}
use Rattle.vob_lr.specs.declared.table.Action.TheVariants.{Accept, Reduce, Shift}

-- how many steps lead to a parser
abbrev steps_to : Config → ℕ
steps_to c = c.read + length c.reduced

-- a step is one, and takes no reduction back
taken_is : (table : TableView) (tokens : List ℕ) (c d : Config) (action : Action) →
    IsTaken table.machine tokens c action d →
    (steps_to d ≡ steps_to c + 1) × (length c.reduced ≤ length d.reduced)
taken_is table tokens c d (Shift p) (low, is) =
    let read = ap (λ (e : Config). e.read) is in
    let reduced = ap (λ (e : Config). length e.reduced) is in
    (omega (arith, read, reduced), omega (arith, reduced))
taken_is table tokens c d (Reduce r) to =
    let read = ap (λ (e : Config). e.read) to.after in
    let reduced = ap (λ (e : Config). length e.reduced) to.after in
    (omega (arith, read, reduced), omega (arith, reduced))
taken_is table tokens c d Accept taken = absurd taken

step_is : (table : TableView) (tokens : List ℕ) (c d : Config) → Steps table tokens c d →
    (steps_to d ≡ steps_to c + 1) × (length c.reduced ≤ length d.reduced)
step_is table tokens c d s = taken_is table tokens c d s.action s.taken

module _ (one : StepsAreOne) (table : TableView) (sound : IsSound table) (tokens : List ℕ) where
  -- as many steps lead to one parser
  one_reached : {c d : Config} → IsReached table tokens c → IsReached table tokens d →
      steps_to c ≡ steps_to d → c ≡ d
  one_reached (begins is) (begins also) same = is ∙ sym also
  one_reached (begins is) (then_steps {c = x} {d = d} reached step) same =
      absurd (omega (arith, same, ap steps_to is, (step_is table tokens x d step).0))
  one_reached (then_steps {c = x} {d = c} reached step) (begins is) same =
      absurd (omega (arith, same, ap steps_to is, (step_is table tokens x c step).0))
  one_reached (then_steps {c = x} {d = c} reached step) (then_steps {c = y} {d = d} other last) same =
      let count : steps_to x ≡ steps_to y =
      omega (arith, same, (step_is table tokens x c step).0, (step_is table tokens y d last).0) in
      let from = one_reached reached other count in
      one table sound tokens y c d (subst (λ (e : Config). Steps table tokens e c) from step) last

  -- a parser on the way to another, after so many steps: it has made no more reductions, and it steps on
  record IsBefore (d : Config) (k : ℕ) : Type 0 where
    at : Config
    reached : IsReached table tokens at
    count : steps_to at ≡ k
    fewer : length at.reduced ≤ length d.reduced
    next : k < steps_to d → (e : Config) × Steps table tokens at e

  before : {d : Config} → IsReached table tokens d → (k : ℕ) → k ≤ steps_to d → IsBefore d k
  before (begins {c = d} is) k less = record {
    at = d;
    reached = begins is;
    count = omega (arith, less, ap steps_to is);
    fewer = omega arith;
    next = λ more. absurd (omega (arith, more, ap steps_to is));
  }
  before (then_steps {c} {d} reached step) k less =
      let by = step_is table tokens c d step in
      elim (cases_lt k (steps_to c)) as (λ _. IsBefore d k) [
        | inl low ↦
            let b = before reached k (omega (arith, low)) in
            record {
              at = b.at;
              reached = b.reached;
              count = b.count;
              fewer = omega (arith, b.fewer, by.1);
              next = λ _. b.next low;
            }
        | inr high ↦ elim (cases_lt k (steps_to d)) as (λ _. IsBefore d k) [
          | inl low ↦ record {
            at = c;
            reached = reached;
            count = omega (arith, high, low, by.0);
            fewer = by.1;
            next = λ _. (d, step);
          }
          | inr last ↦ record {
            at = d;
            reached = then_steps reached step;
            count = omega (arith, last, less);
            fewer = omega arith;
            next = λ more. absurd (omega (arith, more, last));
          }
        ]
      ]

  -- a parser that takes no step is behind all others
  module _ (c : Config) (reached : IsReached table tokens c) (ends : (d : Config) → ¬ Steps table tokens c d) where
    last : (d : Config) → IsReached table tokens d → steps_to d ≤ steps_to c
    last d other = elim (cases_lt (steps_to c) (steps_to d)) as (λ _. steps_to d ≤ steps_to c) [
      | inl low ↦
          let b = before other (steps_to c) (omega (arith, low)) in
          let same = one_reached b.reached reached b.count in
          let (e, step) = b.next low in
          absurd (ends e (subst (λ (x : Config). Steps table tokens x e) same step))
      | inr high ↦ high
    ]

    fewer : (d : Config) → IsReached table tokens d → length d.reduced ≤ length c.reduced
    fewer d other =
        let b = before reached (steps_to d) (last d other) in
        let same = one_reached b.reached other b.count in
        omega (arith, b.fewer, ap (λ (x : Config). length x.reduced) same)

  -- one that accepts takes none
  accepted_ends : (c : Config) → IsAccepted table tokens c → (d : Config) → ¬ Steps table tokens c d
  accepted_ends c a d = λ s.
      let same = same_Some s.action (Shift a.state) (sym s.is ∙ a.is) in
      let (low, _) = subst (λ (x : Action). IsTaken table.machine tokens c x d) same s.taken in
      omega (arith, low, a.read)

  -- two that take none are one
  one_end : (c d : Config) → IsReached table tokens c → ((e : Config) → ¬ Steps table tokens c e) →
      IsReached table tokens d → ((e : Config) → ¬ Steps table tokens d e) → c ≡ d
  one_end c d reached ends other also =
      one_reached reached other (omega (arith, last c reached ends d other, last d other also c reached))

  pub ends : (rules : List ℕ) → AcceptsBy table tokens rules →
      ((others : List ℕ) → AcceptsBy table tokens others → others ≡ rules)
      × ((n : ℕ) → ¬ IsUnexpected table tokens n)
      × ((most : ℕ) → length rules ≤ most → ¬ IsTooLong table tokens most)
  ends rules a =
      let c = a.config in
      let none = accepted_ends c a.accepted in (
        (λ others b.
            let same = one_end b.config c b.reached (accepted_ends b.config b.accepted) a.reached none in
            sym (reverse-reverse others)
            ∙ ap reverse (b.rules_of ∙ ap (λ (x : Config). x.reduced) same ∙ sym a.rules_of)
            ∙ reverse-reverse rules),
        (λ n u.
            let same = one_end c u.config a.reached none u.reached u.no_step in
            u.not_accepted (subst (λ (x : Config). IsAccepted table tokens x) same a.accepted)),
        (λ most less t.
            let more = fewer c a.reached none t.config t.reached in
            let long = ap (λ (rs : List ℕ). length rs) a.rules_of in
            omega (arith, more, t.more, less, long, length-reverse rules)),
      )
