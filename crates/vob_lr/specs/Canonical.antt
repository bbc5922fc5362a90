-- Canonical LR(1), by the symbols after which its items are valid. LALR(1) merges its states.
use Rattle.std.specs.Prelude.{◌≡◌, ◌↔◌, ℕ, ◌+◌, ◌<◌, List, [], ◌∷◌, ◌++◌, length, None, Option, Some}
use Rattle.vob_lr.specs.Faults.{IsWellFormed}
use Rattle.vob_lr.specs.Grammar.{BecomesEmpty, BeginsWith}
use Rattle.vob_lr.specs.ItemSets.{HasItem, Opens}
use Rattle.vob_lr.specs.Items.{HasNext}
use Rattle.vob_lr.specs.Languages.{AreProductive}
use Rattle.vob_lr.specs.Lookaheads.{HasMove, HasNextThen, LooksAhead, Machine}
use Rattle.vob_lr.specs.States.{AreStates}
use Rattle.vob_lr.specs.declared.grammar.Rule.{Rule}
use Rattle.vob_lr.specs.declared.grammar.Symbol.{Symbol}
use Rattle.vob_lr.specs.declared.state.Move.{Move}

-- item i is in canonical LR(1)'s state after some symbols, with a terminal ahead, or with nothing, as
-- item 0 is. An item with nonterminal a behind its dot gives the first items of a's rules what can
-- begin the symbols behind a, or what is ahead of itself if these can become empty. And an item keeps
-- what is ahead as its dot passes a symbol, which stands last then
pub data IsValid (rules : List Rule) : List Symbol → ℕ → Option ℕ → Type 0 where
  start : IsValid rules [] 0 None
  begins : {xs rest : List Symbol} {j a i t : ℕ} {ahead : Option ℕ} → IsValid rules xs j ahead →
      HasNextThen rules j a rest → BeginsWith rules t rest → Opens rules a i →
      IsValid rules xs i (Some t)
  passes : {xs rest : List Symbol} {j a i : ℕ} {ahead : Option ℕ} → IsValid rules xs j ahead →
      HasNextThen rules j a rest → BecomesEmpty rules rest → Opens rules a i →
      IsValid rules xs i ahead
  keeps : {xs ys : List Symbol} {j : ℕ} {x : Symbol} {ahead : Option ℕ} →
      IsValid rules xs j ahead → HasNext rules j x → ys ≡ xs ++ x ∷ [] →
      IsValid rules ys (j + 1) ahead

-- the states and moves of a grammar each of whose nonterminals derives some tokens
pub record IsProductive (m : Machine) : Type 0 where
  pub rules : IsWellFormed m.grammar
  pub states : AreStates m.grammar.rules.items m.sets m.moves
  pub each : AreProductive m.grammar

-- state q has the same items as canonical LR(1)'s state after some symbols, whatever is ahead there
abbrev pub HasSameItems : Machine → ℕ → List Symbol → Type 0
HasSameItems m q xs = (i : ℕ) →
    HasItem m.sets q i ↔ ((ahead : Option ℕ) × IsValid m.grammar.rules.items xs i ahead)

-- moves lead from state q to state p by some symbols
abbrev pub LeadsBy : List (List Move) → ℕ → List Symbol → ℕ → Type 0
LeadsBy moves q [] p = q ≡ p
LeadsBy moves q (x ∷ xs) p = (n : ℕ) × HasMove moves q x n × LeadsBy moves n xs p

-- the symbols that lead to a state are those after which canonical LR(1)'s state has its items
abbrev pub StatesAreMerged : Type 0
StatesAreMerged = (m : Machine) → IsProductive m → (q : ℕ) (xs : List Symbol) → q < length m.sets →
    LeadsBy m.moves 0 xs q ↔ HasSameItems m q xs

-- the lookaheads of a state's item are those of canonical LR(1)'s states with the same items
abbrev pub LookaheadsAreMerged : Type 0
LookaheadsAreMerged = (m : Machine) → IsProductive m → (q i t : ℕ) → LooksAhead m t q i
    ↔ ((xs : List Symbol) × HasSameItems m q xs × IsValid m.grammar.rules.items xs i (Some t))
