-- Ways of any number of edges and paths of one or more, and whether there is one.
use Rattle.std.proofs.Common.{◌≡◌, ◌≢◌, ◌⊎◌, ℕ, zero, suc, ◌<◌, List, [], ◌∷◌, length, get_or, sym, ap, subst, arith, inl, inr}
use Rattle.std.specs.List.{Contains}
use Rattle.std.proofs.lemmas.Bool.{cases_eq, cases_lt}
use Rattle.std.proofs.lemmas.List.{get_or_past}
use Rattle.std.proofs.lemmas.List.Elements.{Contains-push, Contains-push_cases}
use Rattle.vob_rows.proofs.SparseLemmas.{cases_contains}
use Rattle.vob_flow.specs.Closure.{IsEdge, Leads}
use Rattle.vob_flow.specs.Closure.Leads.{by_edge, through}
use Rattle.vob_flow.specs.Components.{AreConnected}
use Rattle.vob_flow.specs.Reach.{HasWay}
use Rattle.vob_flow.specs.Reach.Reaches.{at_start, along}

-- ---- facts that hold or don't

pub cases_both : {A B : Type 0} → A ⊎ (¬ A) → B ⊎ (¬ B) → (A × B) ⊎ (¬ (A × B))
cases_both (inr none) b = inr (λ p. none p.0)
cases_both (inl a) (inl b) = inl (a, b)
cases_both (inl a) (inr none) = inr (λ p. none p.1)

pub cases_not : {A : Type 0} → A ⊎ (¬ A) → (¬ A) ⊎ (¬ (¬ A))
cases_not (inl a) = inr (λ none. none a)
cases_not (inr none) = inl none

cases_either : {A B : Type 0} → A ⊎ (¬ A) → B ⊎ (¬ B) → (A ⊎ B) ⊎ (¬ (A ⊎ B))
cases_either (inl a) b = inl (inl a)
cases_either (inr none) (inl b) = inl (inr b)
cases_either (inr none) (inr neither) = inr (λ either. elim either [ inl a ↦ none a | inr b ↦ neither b ])

-- one node alone
pub only : (n m : ℕ) → Contains (n ∷ []) m → n ≡ m
only n m within = elim (Contains-push_cases [] n m within) [
  | inl none ↦ absurd (omega (arith, none.1))
  | inr same ↦ same
]

module _ (next : List (List ℕ)) where
  -- ---- ways and paths

  leads_both : {n k m : ℕ} → Leads next n k → Leads next k m → Leads next n m
  leads_both (by_edge edge) rest = through edge rest
  leads_both (through edge more) rest = through edge (leads_both more rest)

  pub way_none : (n : ℕ) → HasWay next n n
  way_none n = at_start (Contains-push [] n)

  -- a way of no edges, or a path
  pub way_cases : (n : ℕ) → {m : ℕ} → HasWay next n m → (n ≡ m) ⊎ Leads next n m
  way_cases n {m} (at_start start) = inl (only n m start)
  way_cases n (along {n = k} {m = m} rest edge) = inr (elim (way_cases n rest) [
    | inl same ↦ by_edge (subst (λ x. IsEdge next x m) (sym same) edge)
    | inr leads ↦ leads_both leads (by_edge edge)
  ])

  edge_way : (n k : ℕ) → IsEdge next n k → {m : ℕ} → HasWay next k m → HasWay next n m
  edge_way n k edge {m} (at_start start) = subst (HasWay next n) (only k m start) (along (way_none n) edge)
  edge_way n k edge (along rest last) = along (edge_way n k edge rest) last

  pub leads_way : {n m : ℕ} → Leads next n m → HasWay next n m
  leads_way {n} (by_edge edge) = along (way_none n) edge
  leads_way {n} (through {k = k} edge rest) = edge_way n k edge (leads_way rest)

  pub way_apart : (n m : ℕ) → HasWay next n m → n ≢ m → Leads next n m
  way_apart n m way apart = elim (way_cases n way) [
    | inl same ↦ absurd (apart same)
    | inr leads ↦ leads
  ]

  pub leads_behind : (n k m : ℕ) → Leads next n k → HasWay next k m → Leads next n m
  leads_behind n k m leads way = elim (way_cases k way) [
    | inl same ↦ subst (Leads next n) same leads
    | inr more ↦ leads_both leads more
  ]

  pub leads_before : (n k m : ℕ) → HasWay next n k → Leads next k m → Leads next n m
  leads_before n k m way leads = elim (way_cases n way) [
    | inl same ↦ subst (λ x. Leads next x m) (sym same) leads
    | inr more ↦ leads_both more leads
  ]

  pub way_join : (n k m : ℕ) → HasWay next n k → HasWay next k m → HasWay next n m
  way_join n k m first last = elim (way_cases n first) [
    | inl same ↦ subst (λ x. HasWay next x m) (sym same) last
    | inr leads ↦ leads_way (leads_behind n k m leads last)
  ]

  -- only a node that is there has edges
  pub edge_from : (n m : ℕ) → IsEdge next n m → n < length next
  edge_from n m edge = elim (cases_lt n (length next)) [
    | inl less ↦ less
    | inr past ↦ absurd (omega (arith, ap length (get_or_past next n [] past), edge.1))
  ]

  pub leads_from : {n m : ℕ} → Leads next n m → n < length next
  leads_from {n} {m} (by_edge edge) = edge_from n m edge
  leads_from {n} (through {k = k} edge rest) = edge_from n k edge

  -- ---- nodes that lead to each other

  pub connected_self : (n : ℕ) → AreConnected next n n
  connected_self n = (way_none n, way_none n)

  pub connected_back : (n m : ℕ) → AreConnected next n m → AreConnected next m n
  connected_back n m c = (c.1, c.0)

  pub connected_join : (n k m : ℕ) → AreConnected next n k → AreConnected next k m → AreConnected next n m
  connected_join n k m c d = (way_join n k m c.0 d.0, way_join m k n d.1 c.1)

  pub connected_same : (n m : ℕ) → n ≡ m → AreConnected next n m
  connected_same n m same = subst (AreConnected next n) same (connected_self n)

  -- two nodes that are connected are on a cycle
  pub connected_cycle : (n m : ℕ) → AreConnected next n m → n ≢ m → Leads next n n
  connected_cycle n m c apart = leads_behind n m n (way_apart n m c.0 apart) c.1

  -- ---- whether there is a way

  -- a way whose inner nodes are below k
  abbrev IsVia : ℕ → ℕ → ℕ → Type 0
  IsVia zero n m = (n ≡ m) ⊎ IsEdge next n m
  IsVia (suc k) n m = IsVia k n m ⊎ (IsVia k n k × IsVia k k m)

  via_short : (k n m : ℕ) → (n ≡ m) ⊎ IsEdge next n m → IsVia k n m
  via_short zero n m short = short
  via_short (suc k) n m short = inl (via_short k n m short)

  via_way : (k n m : ℕ) → IsVia k n m → HasWay next n m
  via_way zero n m (inl same) = (connected_same n m same).0
  via_way zero n m (inr edge) = along (way_none n) edge
  via_way (suc k) n m (inl via) = via_way k n m via
  via_way (suc k) n m (inr both) = way_join n k m (via_way k n k both.0) (via_way k k m both.1)

  -- a way to node k, or from it, needs it nowhere else
  via_to : (k n : ℕ) → IsVia (suc k) n k → IsVia k n k
  via_to k n (inl via) = via
  via_to k n (inr both) = both.0

  via_from : (k m : ℕ) → IsVia (suc k) k m → IsVia k k m
  via_from k m (inl via) = via
  via_from k m (inr both) = both.1

  via_step : (k x n m : ℕ) → ((a b : ℕ) → IsVia k a x → IsVia k x b → IsVia k a b) →
      IsVia (suc k) n x → IsVia (suc k) x m → IsVia (suc k) n m
  via_step k x n m joins (inl first) (inl last) = inl (joins n m first last)
  via_step k x n m joins (inl first) (inr last) = inr (joins n k first last.0, last.1)
  via_step k x n m joins (inr first) (inl last) = inr (first.0, joins k m first.1 last)
  via_step k x n m joins (inr first) (inr last) = inr (first.0, last.1)

  via_join : (k x n m : ℕ) → x < k → IsVia k n x → IsVia k x m → IsVia k n m
  via_join zero x n m less first last = absurd (omega (arith, less))
  via_join (suc k) x n m less first last = elim (cases_eq x k) [
    | inl is ↦ inr (
      via_to k n (subst (IsVia (suc k) n) is first),
      via_from k m (subst (λ y. IsVia (suc k) y m) is last),
    )
    | inr apart ↦ via_step k x n m (λ a b. via_join k x a b (omega (arith, less, apart))) first last
  ]

  way_via : (n : ℕ) → {m : ℕ} → HasWay next n m → IsVia (length next) n m
  way_via n {m} (at_start start) = via_short (length next) n m (inl (only n m start))
  way_via n (along {n = k} {m = m} rest edge) = via_join (length next) k n m (edge_from k m edge) (way_via n rest)
      (via_short (length next) k m (inr edge))

  cases_via : (k n m : ℕ) → IsVia k n m ⊎ (¬ IsVia k n m)
  cases_via zero n m = cases_either (cases_eq n m) (cases_contains (get_or next n []) m)
  cases_via (suc k) n m = cases_either (cases_via k n m) (cases_both (cases_via k n k) (cases_via k k m))

  pub cases_way : (n m : ℕ) → HasWay next n m ⊎ (¬ HasWay next n m)
  cases_way n m = elim (cases_via (length next) n m) [
    | inl via ↦ inl (via_way (length next) n m via)
    | inr none ↦ inr (λ way. none (way_via n way))
  ]

  pub cases_connected : (n m : ℕ) → AreConnected next n m ⊎ (¬ AreConnected next n m)
  cases_connected n m = cases_both (cases_way n m) (cases_way m n)
