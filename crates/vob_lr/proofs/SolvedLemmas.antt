-- The least sets that draw from others along edges.
use Rattle.std.proofs.Common.{◌≡◌, ◌↔◌, ℕ, ◌<◌, inl, inr, Bool, true, List, [], length, get_or, refl, arith}
use Rattle.std.specs.List.{Contains}
use Rattle.std.proofs.lemmas.Bool.{cases_lt}
use Rattle.std.proofs.lemmas.List.{get_or_past}
use Rattle.std.proofs.lemmas.List.Elements.{All-contains}
use Rattle.vob_flow.specs.Draws.{AreLeast, Comes}
use Rattle.vob_flow.specs.Draws.Comes.{starts_in, drawn}
use Rattle.vob_lr.specs.Equations.{AreFromSets, AreSolved, HasAt, Reaches, System}
use Rattle.vob_lr.specs.Equations.Reaches.{at_start, along}
use Rattle.vob_lr.specs.declared.grammar.Symbol.{Symbol}
use Rattle.vob_lr.specs.declared.grammar.Symbol.TheVariants.{Terminal, Nonterminal}

module _ (system : System) (next : List (List ℕ)) (from : AreFromSets system.starts system.edges)
    (count : length next ≡ length system.starts)
    (each : (n m : ℕ) → n < length system.starts →
    Contains (get_or next n []) m ↔ Contains system.edges (n, m)) where
  node_below : (n m : ℕ) → Contains (get_or next n []) m → n < length system.starts
  node_below n m there = elim (cases_lt n (length next)) [
    | inl low ↦ omega (arith, low, count)
    | inr past ↦
        let none = rw (get_or_past {X = List ℕ} next n [] past) at there in
        omega (arith, none.1)
  ]

  reached : {n t : ℕ} → Comes next (λ n v. true) system.starts n t → Reaches (HasAt system) t n
  reached (starts_in e) = at_start e
  reached (drawn {n} {v} {m} keeps within c) =
      along ((each n m (node_below n m within)).0 within) (reached c)

  pub AreSolved-least : (sets : List (List Bool)) →
      AreLeast next (λ n v. true) system.starts sets → AreSolved (HasAt system) sets
  AreSolved-least sets h = record {
    starts = λ n t e. (h.solution.meets n t).1 (inl e);
    draws = λ n m t within e.
        let below = All-contains (λ edge. edge.0 < length system.starts) system.edges (n, m) from within in
        let there = (each n m below).1 within in
        (h.solution.meets n t).1 (inr (refl, (there.0, m, there.1, there.2, e)));
    least = λ n t e. reached (h.least n t e);
  }

-- ---- the same, of what sets have in other words

module _ (Has Holds : ℕ → Symbol → Type 0) (e : (n : ℕ) (x : Symbol) → Has n x ↔ Holds n x) where
  reaches_as : {t n : ℕ} → Reaches Has t n → Reaches Holds t n
  reaches_as {t} {n} (at_start has) = at_start ((e n (Terminal t)).0 has)
  reaches_as {t} {n} (along {m = m} has r) = along ((e n (Nonterminal m)).0 has) (reaches_as r)

  pub AreSolved-as : (sets : List (List Bool)) → AreSolved Has sets → AreSolved Holds sets
  AreSolved-as sets h = record {
    starts = λ n t has. h.starts n t ((e n (Terminal t)).1 has);
    draws = λ n m t has. h.draws n m t ((e n (Nonterminal m)).1 has);
    least = λ n t there. reaches_as (h.least n t there);
  }
