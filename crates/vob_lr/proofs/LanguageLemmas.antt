-- By the table of an LALR(1) grammar a parser accepts exactly the sentences, and errors are early.
use Rattle.std.proofs.Common.{◌≡◌, ℕ, ◌+◌, ◌<◌, ◌≤◌, List, ◌++◌, length, get_or, take, reverse, sym, ap, ◌∙◌, subst, arith, refl}
use Rattle.std.proofs.lemmas.List.{get_or-take, get_or_append_left, length-append, length-reverse, length-take, reverse-reverse}
use Rattle.vob_lr.specs.Derivations.{IsParse, IsSentence}
use Rattle.vob_lr.specs.Languages.{AcceptedAreSentences, ErrorsAreEarly, IsLalr, SentencesHaveOneParse, TooLongIsNoSentence, rules_of}
use Rattle.vob_lr.specs.Parses.{Config, IsReached, IsTaken, Steps}
use Rattle.vob_lr.specs.Parses.IsReached.{begins, then_steps}
use Rattle.vob_lr.specs.Stops.{AcceptsBy, IsUnexpected}
use Rattle.vob_lr.specs.Tables.{TableView, chosen_at}
use Rattle.vob_lr.specs.declared.table.Action.{Action}
use Rattle.vob_lr.specs.declared.table.Action.TheVariants.{Accept, Reduce, Shift}
use Rattle.vob_lr.proofs.BecomingLemmas.{derived_becomes}
use Rattle.vob_lr.proofs.CompleteLemmas.{becomes_accepted}
use Rattle.vob_lr.proofs.DoneLemmas.{AreDone-of}
use Rattle.vob_lr.proofs.FateLemmas.{accepts_once, never_longer, never_stuck}
use Rattle.vob_lr.proofs.ParseLemmas.{parse_accepted, read_within}
use Rattle.vob_lr.proofs.RightmostLemmas as rightmost

module _ (table : TableView) (h : IsLalr table) where
  -- the parser accepts by a parse of the tokens
  parse_found : (tokens parsed : List ℕ) → IsParse (rules_of table) tokens parsed →
      AcceptsBy table tokens parsed
  parse_found tokens parsed p =
      subst (λ (rs : List ℕ). AcceptsBy table tokens rs) (reverse-reverse parsed)
      (becomes_accepted table tokens h.sound.states (AreDone-of table h) p.rule p.is p.symbols p.then_end
      (reverse (reverse parsed)) (derived_becomes (rules_of table) p.derives))

  one_parse : (tokens parsed other : List ℕ) → IsParse (rules_of table) tokens parsed →
      IsParse (rules_of table) tokens other → parsed ≡ other
  one_parse tokens parsed other p q =
      let a = parse_found tokens parsed p in
      let b = parse_found tokens other q in
      let same = accepts_once table tokens h.sound.states a.reached a.accepted b.reached b.accepted in
      sym (reverse-reverse parsed)
      ∙ ap reverse (a.rules_of ∙ ap (λ (x : Config). x.reduced) same ∙ sym b.rules_of)
      ∙ reverse-reverse other

  pub accepts : (tokens : List ℕ) → IsSentence (rules_of table) tokens →
      (parsed : List ℕ) × AcceptsBy table tokens parsed
  accepts tokens s =
      let (parsed, p) = (rightmost.sentences_have_parses (rules_of table) tokens).0 s in
      (parsed, parse_found tokens parsed p)

  accepted : (tokens parsed : List ℕ) → AcceptsBy table tokens parsed → IsSentence (rules_of table) tokens
  accepted tokens parsed a =
      (rightmost.sentences_have_parses (rules_of table) tokens).1 (
        parsed,
        parse_accepted table tokens h.sound.states h.sound.actions a.config a.reached a.accepted
            parsed a.rules_of,
      )

  -- a sentence has no faulty token
  no_fault : (tokens : List ℕ) (n : ℕ) → IsUnexpected table tokens n → ¬ IsSentence (rules_of table) tokens
  no_fault tokens n stuck s =
      let (parsed, a) = accepts tokens s in
      never_stuck table tokens h.sound.states a.config a.reached a.accepted n stuck

-- a step reads one token at most
pub step_reads : (table : TableView) (ts : List ℕ) (c d : Config) (a : Action) → IsTaken table.machine ts c a d →
    (c.read ≤ d.read) × (d.read ≤ c.read + 1)
step_reads table ts c d Accept taken = absurd taken
step_reads table ts c d (Shift p) taken =
    let read = ap (λ (e : Config). e.read) taken.1 in (omega (arith, read), omega (arith, read))
step_reads table ts c d (Reduce r) taken =
    let read = ap (λ (e : Config). e.read) taken.after in (omega (arith, read), omega (arith, read))

-- ---- a parser sees no token behind the one that is ahead

module _ (table : TableView) (n : ℕ) (ts us : List ℕ) (low : n < length ts) (high : n < length us)
    (same : (k : ℕ) → k ≤ n → get_or ts k 0 ≡ get_or us k 0) where
  taken_same : (c d : Config) (a : Action) → c.read ≤ n → IsTaken table.machine ts c a d →
      IsTaken table.machine us c a d
  taken_same c d (Shift p) less taken = (omega (arith, less, high), taken.1)
  taken_same c d (Reduce r) less taken = taken
  taken_same c d Accept less taken = absurd taken

  pub step_same : (c d : Config) → c.read ≤ n → Steps table ts c d → Steps table us c d
  step_same c d less step = record {
    action = step.action;
    is = ap (λ (t : ℕ). chosen_at table.cells (get_or c.states 0 0) t) (sym (same c.read less)) ∙ step.is;
    taken = taken_same c d step.action less step.taken;
  }

  pub reached_same : {c : Config} → IsReached table ts c → c.read ≤ n → IsReached table us c
  reached_same (begins is) less = begins is
  reached_same (then_steps {c} {d} reached step) less =
      let before : c.read ≤ n = omega (arith, (step_reads table ts c d step.action step.taken).0, less) in
      then_steps (reached_same reached before) (step_same c d before step)

-- so it is stuck there whatever stands behind
stuck_same : (table : TableView) (n : ℕ) (ts us : List ℕ) → n < length ts → n < length us →
    ((k : ℕ) → k ≤ n → get_or ts k 0 ≡ get_or us k 0) → IsUnexpected table ts n →
    IsUnexpected table us n
stuck_same table n ts us low high same stuck = record {
  config = stuck.config;
  reached = reached_same table n ts us low high same stuck.reached (omega (arith, stuck.read));
  read = stuck.read;
  no_step = λ d step.
      stuck.no_step d (step_same table n us ts high low (λ k less. sym (same k less)) stuck.config d
      (omega (arith, stuck.read)) step);
  not_accepted = λ a. omega (arith, a.read, stuck.read, high);
}

begin_same : (ts more : List ℕ) (n k : ℕ) → n < length ts → k ≤ n →
    get_or ts k 0 ≡ get_or (take (n + 1) ts ++ more) k 0
begin_same ts more n k low less =
    let inside : k < length (take (n + 1) ts) = omega (arith, less, low, length-take (n + 1) ts) in
    sym (get_or_append_left (take (n + 1) ts) more 0 k inside ∙ get_or-take (n + 1) ts k 0 (omega (arith, less)))

pub accepted_are_sentences : AcceptedAreSentences
accepted_are_sentences table h tokens = (accepts table h tokens, (λ found. accepted table h tokens found.0 found.1))

pub sentences_have_one_parse : SentencesHaveOneParse
sentences_have_one_parse table h tokens parsed other p q = one_parse table h tokens parsed other p q

pub errors_are_early : ErrorsAreEarly
errors_are_early table h tokens n stuck = (
  omega (arith, read_within table tokens h.sound.states h.sound.actions stuck.config stuck.reached, stuck.read),
  no_fault table h tokens n stuck,
  (λ low more.
      let us = take (n + 1) tokens ++ more in
      let high : n < length us =
      omega (arith, low, length-take (n + 1) tokens, length-append (take (n + 1) tokens) more) in
      no_fault table h us n
      (stuck_same table n tokens us low high (λ k less. begin_same tokens more n k low less) stuck)),
)

pub too_long_is_no_sentence : TooLongIsNoSentence
too_long_is_no_sentence table h tokens (reductions, enough, long) s =
    let (parsed, p, short) = enough tokens refl s in
    let a = parse_found table h tokens parsed p in
    omega (
      arith,
      never_longer table tokens h.sound.states a.config a.reached a.accepted reductions long,
      ap length a.rules_of,
      length-reverse parsed,
      short,
    )
