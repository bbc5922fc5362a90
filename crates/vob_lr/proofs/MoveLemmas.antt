-- The move by a symbol among moves in the order of their symbols.
use Rattle.std.proofs.Common.{◌≡◌, ◌≢◌, ◌↔◌, ℕ, ◌+◌, ◌<◌, ◌≤◌, inl, inr, List, [], length, get_or, None, Some, Vec, sym, ap, ◌∙◌, subst, arith}
use Rattle.std.specs.List.{All, AllPairs, Contains}
use Rattle.std.proofs.lemmas.Bool.{cases_lt}
use Rattle.std.proofs.lemmas.List.{get_or-map}
use Rattle.std.proofs.lemmas.Option.{get_or_from_slice_get, none-some, same_Some, slice_get-get_or}
use Rattle.std.specs.declared.alloc.Global.{Global}
use Rattle.vob_lr.specs.Rounds.{rows_of}
use Rattle.vob_lr.specs.States.{Precedes}
use Rattle.vob_lr.specs.declared.grammar.Symbol.{Symbol}
use Rattle.vob_lr.specs.declared.grammar.Symbol.TheVariants.{Terminal, Nonterminal}
use Rattle.vob_lr.specs.declared.state.Move.{Move}

-- no symbol comes before itself
precedes_none : (x : Symbol) → Precedes x x → ⊥
precedes_none (Terminal t) less = omega (arith, less)
precedes_none (Nonterminal a) less = omega (arith, less)

precedes_trans : (x y z : Symbol) → Precedes x y → Precedes y z → Precedes x z
precedes_trans (Terminal t) (Terminal u) (Terminal v) low less = omega (arith, low, less)
precedes_trans (Terminal t) (Terminal u) (Nonterminal c) low less = tt
precedes_trans (Terminal t) (Nonterminal b) (Terminal v) low less = absurd less
precedes_trans (Terminal t) (Nonterminal b) (Nonterminal c) low less = tt
precedes_trans (Nonterminal a) (Terminal u) z low less = absurd low
precedes_trans (Nonterminal a) (Nonterminal b) (Terminal v) low less = absurd less
precedes_trans (Nonterminal a) (Nonterminal b) (Nonterminal c) low less = omega (arith, low, less)

precedes_else : (x y : Symbol) → x ≢ y → (¬ Precedes x y) → Precedes y x
precedes_else (Terminal t) (Terminal u) other not = elim (cases_lt u t) [
  | inl less ↦ less
  | inr past ↦ elim (cases_lt t u) [
    | inl less ↦ absurd (not less)
    | inr over ↦ let same : t ≡ u = omega (arith, past, over) in absurd (other (ap Terminal same))
  ]
]
precedes_else (Terminal t) (Nonterminal b) other not = absurd (not tt)
precedes_else (Nonterminal a) (Terminal u) other not = tt
precedes_else (Nonterminal a) (Nonterminal b) other not = elim (cases_lt b a) [
  | inl less ↦ less
  | inr past ↦ elim (cases_lt a b) [
    | inl less ↦ absurd (not less)
    | inr over ↦ let same : a ≡ b = omega (arith, past, over) in absurd (other (ap Nonterminal same))
  ]
]

abbrev move_to : Symbol → ℕ → Move
move_to x p = record { symbol = x; state = p }

-- a move at another default
at_default : (moves : List Move) (i : ℕ) (d e : Move) → i < length moves →
    get_or moves i d ≡ get_or moves i e
at_default moves i d e less =
    get_or_from_slice_get moves i (get_or moves i e) d (slice_get-get_or moves i e less)

-- a move that is found is the only one by its symbol
pub one_move : (moves : List Move) → AllPairs (λ one other. Precedes one.symbol other.symbol) moves →
    (x : Symbol) (i j : ℕ) (d : Move) → i < length moves → j < length moves →
    (get_or moves i d).symbol ≡ x → (get_or moves j d).symbol ≡ x → i ≡ j
one_move moves rise x i j d low less first other = elim (cases_lt i j) [
  | inl before ↦
      absurd (precedes_none x
      (subst (λ (y : Symbol). Precedes y x) first
      (subst (λ (y : Symbol). Precedes (get_or moves i d).symbol y) other (rise i j d before less))))
  | inr past ↦ elim (cases_lt j i) [
    | inl before ↦
        absurd (precedes_none x
        (subst (λ (y : Symbol). Precedes y x) other
        (subst (λ (y : Symbol). Precedes (get_or moves j d).symbol y) first (rise j i d before low))))
    | inr same ↦ omega (arith, past, same)
  ]
]

pub move_found : (moves : List Move) →
    AllPairs (λ one other. Precedes one.symbol other.symbol) moves → (x : Symbol) (k : ℕ)
    (d : Move) → k < length moves → (get_or moves k d).symbol ≡ x → (p : ℕ) →
    (Some (get_or moves k d).state ≡ Some p) ↔ Contains moves (record { symbol = x; state = p })
move_found moves rise x k d less named p =
    let found = get_or moves k d in (
      (λ e.
          let state = same_Some found.state p e in
          let whole : found ≡ move_to x p =
          ap (λ (y : Symbol). move_to y found.state) named ∙ ap (move_to x) state in
          (k, less, at_default moves k (move_to x p) d less ∙ whole)),
      (λ h.
          let (j, low, is) = h in
          let own = at_default moves j d (move_to x p) low ∙ is in
          let same = one_move moves rise x k j d less low named (ap (λ (m : Move). m.symbol) own) in
          let whole : found ≡ move_to x p = ap (λ (i : ℕ). get_or moves i d) same ∙ own in
          ap (λ (m : Move). Some m.state) whole),
    )

pub move_none : (moves : List Move) (x : Symbol) →
    All (λ move. move.symbol ≢ x) moves → (p : ℕ) →
    (None ≡ Some p) ↔ Contains moves (record { symbol = x; state = p })
move_none moves x none p = (
  (λ e. absurd (none-some p e)),
  (λ h. absurd (none h.0 (move_to x p) h.1 (ap (λ (m : Move). m.symbol) h.2))),
)

-- the moves of a state
pub row_read : (lists : List (Vec Move Global)) (q : ℕ) (row : Vec Move Global) →
    q < length lists → row ≡ get_or lists q row → row.items ≡ get_or (rows_of lists) q []
row_read lists q row less read =
    ap (λ (list : Vec Move Global). list.items) read
    ∙ sym (get_or-map (λ (list : Vec Move Global). list.items) lists q row [] less)

-- ---- a search by halves

-- moves below a place come before a symbol, and those from another on behind it
pub record IsHalved (moves : List Move) (x : Symbol) (start end : ℕ) : Type 0 where
  pub inside : end ≤ length moves
  pub below : (k : ℕ) (d : Move) → k < start → Precedes (get_or moves k d).symbol x
  pub above : (k : ℕ) (d : Move) → end ≤ k → k < length moves → Precedes x (get_or moves k d).symbol

module _ (moves : List Move) (x : Symbol) where
  pub IsHalved-whole : (end : ℕ) → end ≡ length moves → IsHalved moves x 0 end
  IsHalved-whole end all = record {
    inside = omega (arith, all);
    below = λ k d less. absurd (omega (arith, less));
    above = λ k d past less. absurd (omega (arith, past, less, all));
  }

  pub IsHalved-none : (start end : ℕ) → IsHalved moves x start end → end ≤ start →
      All (λ move. move.symbol ≢ x) moves
  IsHalved-none start end h none = λ k d less same. elim (cases_lt k start) [
    | inl low ↦ precedes_none x (subst (λ (y : Symbol). Precedes y x) same (h.below k d low))
    | inr past ↦
        precedes_none x
        (subst (λ (y : Symbol). Precedes x y) same (h.above k d (omega (arith, past, none)) less))
  ]

  module _ (rise : AllPairs (λ one other. Precedes one.symbol other.symbol) moves) (start end middle : ℕ)
      (h : IsHalved moves x start end) (less : middle < end) (e : Move) where
    abbrev found : Move
    found = get_or moves middle e

    reads : (d : Move) → get_or moves middle d ≡ found
    reads d = at_default moves middle d e (omega (arith, less, h.inside))

    pub IsHalved-up : Precedes (get_or moves middle e).symbol x → IsHalved moves x (middle + 1) end
    IsHalved-up before = record {
      inside = h.inside;
      below = λ k d under. elim (cases_lt k middle) [
        | inl apart ↦
            precedes_trans (get_or moves k d).symbol (get_or moves middle d).symbol x
            (rise k middle d apart (omega (arith, less, h.inside)))
            (subst (λ (m : Move). Precedes m.symbol x) (sym (reads d)) before)
        | inr past ↦
            let here : middle ≡ k = omega (arith, past, under) in
            subst (λ (n : ℕ). Precedes (get_or moves n d).symbol x) here
            (subst (λ (m : Move). Precedes m.symbol x) (sym (reads d)) before)
      ];
      above = h.above;
    }

    pub IsHalved-down : (get_or moves middle e).symbol ≢ x → (¬ Precedes (get_or moves middle e).symbol x) →
        IsHalved moves x start middle
    IsHalved-down other not =
        let behind = precedes_else found.symbol x other not in record {
          inside = omega (arith, less, h.inside);
          below = h.below;
          above = λ k d past inside. elim (cases_lt middle k) [
            | inl apart ↦
                precedes_trans x (get_or moves middle d).symbol (get_or moves k d).symbol
                (subst (λ (m : Move). Precedes x m.symbol) (sym (reads d)) behind)
                (rise middle k d apart inside)
            | inr over ↦
                let here : middle ≡ k = omega (arith, past, over) in
                subst (λ (n : ℕ). Precedes x (get_or moves n d).symbol) here
                (subst (λ (m : Move). Precedes x m.symbol) (sym (reads d)) behind)
          ];
        }
