-- The entries of moves.
use Rattle.std.proofs.Common.{◌≡◌, ◌↔◌, ◌⊎◌, ℕ, ◌+◌, ◌*◌, ◌<◌, List, [], ◌∷◌, ◌++◌, length, take, get_or, sym, ap, ◌∙◌, subst, inl, inr, arith}
use Rattle.std.proofs.lemmas.List.{take_more}
use Rattle.std.proofs.lemmas.List.Elements.{Contains-append_left, Contains-append_right, Contains-append_cases}
use Rattle.vob_arrays.specs.Arrays.{IsMoveEntry}
use Rattle.vob_arrays.specs.Building.{Appends}
use Rattle.vob_arrays.specs.declared.build.Entry.{Entry}
use Rattle.vob_lr.specs.declared.state.Move.{Move}
use Rattle.vob_lr.specs.declared.grammar.Symbol.{Symbol}
use Rattle.vob_lr.specs.declared.grammar.Symbol.TheVariants.{Nonterminal}
use Rattle.vob_arrays.proofs.AppendLemmas.{appends_both, one_of}

-- a move of some and of others is one of all
moves_split : (terminals : ℕ) (ms ns : List Move) (x a : ℕ) →
    IsMoveEntry terminals (ms ++ ns) x a ↔ (IsMoveEntry terminals ms x a ⊎ IsMoveEntry terminals ns x a)
moves_split terminals ms ns x a = (
  (λ e. let move : Move = record { symbol = Nonterminal e.nonterminal; state = e.state } in
      elim (Contains-append_cases ms ns move e.move)
      as (λ _. IsMoveEntry terminals ms x a ⊎ IsMoveEntry terminals ns x a) [
        | inl own ↦ inl (record {
          nonterminal = e.nonterminal;
          state = e.state;
          symbol = e.symbol;
          move = own;
          action = e.action;
        })
        | inr own ↦ inr (record {
          nonterminal = e.nonterminal;
          state = e.state;
          symbol = e.symbol;
          move = own;
          action = e.action;
        })
      ]),
  (λ either. elim either as (λ _. IsMoveEntry terminals (ms ++ ns) x a) [
    | inl e ↦ record {
      nonterminal = e.nonterminal;
      state = e.state;
      symbol = e.symbol;
      move = Contains-append_left ms ns (record { symbol = Nonterminal e.nonterminal; state = e.state }) e.move;
      action = e.action;
    }
    | inr e ↦ record {
      nonterminal = e.nonterminal;
      state = e.state;
      symbol = e.symbol;
      move = Contains-append_right ms ns (record { symbol = Nonterminal e.nonterminal; state = e.state }) e.move;
      action = e.action;
    }
  ]),
)

-- the entries of one move more are appended
pub moves_more : (terminals : ℕ) (moves : List Move) (i : ℕ) (d : Move) → i < length moves →
    {xs ys zs : List Entry} → Appends (IsMoveEntry terminals (take i moves)) xs ys →
    Appends (IsMoveEntry terminals (get_or moves i d ∷ [])) ys zs →
    Appends (IsMoveEntry terminals (take (i + 1) moves)) xs zs
moves_more terminals moves i d low one other =
    let own = get_or moves i d in
    appends_both one other (subst (λ (ms : List Move). (x a : ℕ) → IsMoveEntry terminals ms x a
    ↔ (IsMoveEntry terminals (take i moves) x a ⊎ IsMoveEntry terminals (own ∷ []) x a))
    (sym (take_more moves i d low)) (moves_split terminals (take i moves) (own ∷ [])))

-- the entry of one move by a nonterminal
pub one_move : (terminals n : ℕ) (own : Move) (s b : ℕ) → own.symbol ≡ Nonterminal n → s ≡ terminals + n →
    b ≡ 4 * own.state → (x a : ℕ) → IsMoveEntry terminals (own ∷ []) x a ↔ ((x ≡ s) × (a ≡ b))
one_move terminals n own s b by symbol action x a = (
  (λ e.
      let there : Move = record { symbol = Nonterminal e.nonterminal; state = e.state } in
      let same = (one_of own there).0 e.move in
      let number : e.nonterminal ≡ n = cc (ap (λ (m : Move). m.symbol) same ∙ by) in
      let to = ap (λ (m : Move). m.state) same in
      (omega (arith, e.symbol, number, symbol), omega (arith, e.action, to, action))),
  (λ (is, also). record {
    nonterminal = n;
    state = own.state;
    symbol = is ∙ symbol;
    move = (one_of own (record { symbol = Nonterminal n; state = own.state })).1
        (ap (λ (y : Symbol). record { symbol = y; state = own.state }) (sym by));
    action = also ∙ action;
  }),
)
