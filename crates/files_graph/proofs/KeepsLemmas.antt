-- A graph's reduction has the closure of the graph: chains of its edges lead along each path.
use Rattle.std.proofs.Common.{◌≡◌, ◌≢◌, ◌⊎◌, ℕ, zero, suc, ◌<◌, ◌≤◌, List, length, sym, subst, arith, inl, inr}
use Rattle.std.proofs.lemmas.Bool.{cases_eq, cases_lt}
use Rattle.vob_flow.specs.Closure.{Leads}
use Rattle.vob_flow.specs.Components.{AreConnected}
use Rattle.vob_flow.specs.Reach.{HasWay}
use Rattle.files_graph.specs.Reduction.{IsBack, IsReduced}
use Rattle.files_graph.specs.ReductionLaws.{AreReduced, LeadsBy, ReductionKeepsClosure}
use Rattle.files_graph.specs.ReductionLaws.LeadsBy.{by_edge, through}
use Rattle.files_graph.proofs.OrderLemmas.{IsFarther, IsLater, cases_farther, cases_later, farther_differs, farther_join, first_of, last_of, later_join}
use Rattle.files_graph.proofs.WayLemmas.{cases_both, cases_connected, connected_back, connected_cycle, connected_join, connected_same, leads_before, leads_behind, leads_from, leads_way, way_apart, way_join}

-- ---- chains

-- along an order a chain of neighbours leads to what comes later
module _ (Before Chain : ℕ → ℕ → Type 0) (decide : (n m : ℕ) → Before n m ⊎ (¬ Before n m))
    (join : (n k m : ℕ) → Before n k → Before k m → Before n m)
    (apart : (n m : ℕ) → Before n m → n ≢ m)
    (neighbours : (n m : ℕ) → Before n m → ((k : ℕ) → Before n k → ¬ Before k m) → Chain n m)
    (chains : (n k m : ℕ) → Chain n k → Chain k m → Chain n m) where
  chain : (high n m : ℕ) → Before n m → ((k : ℕ) → Before n k → Before k m → k < high) → Chain n m
  chain zero n m is below = neighbours n m is (λ k from to. omega (arith, below k from to))
  chain (suc high) n m is below = elim (cases_both (decide n high) (decide high m)) [
    | inl here ↦ chains n high m (chain high n high here.0 (λ k from to. before k from to here.1))
        (chain high high m here.1 (λ k from to. behind k here.0 from to))
    | inr none ↦ chain high n m is (λ k from to. omega (arith, below k from to, other k (from, to) none))
  ]
    where
      before : (k : ℕ) → Before n k → Before k high → Before high m → k < high
      before k from to rest = omega (arith, below k from (join k high m to rest), apart k high to)

      behind : (k : ℕ) → Before n high → Before high k → Before k m → k < high
      behind k first from to = omega (arith, below k (join n high k first from) to, apart high k from)

      other : (k : ℕ) → Before n k × Before k m → ¬ (Before n high × Before high m) → k ≢ high
      other k between none same = none (subst (λ x. Before n x × Before x m) same between)

-- ---- paths by some edges

module _ (edges : List (ℕ × ℕ)) where
  chains : (n k m : ℕ) → LeadsBy edges n k → LeadsBy edges k m → LeadsBy edges n m
  chains n k m (by_edge edge) rest = through edge rest
  chains n k m (through {k = x} edge more) rest = through edge (chains x k m more rest)

  -- a path or none before another, or behind it
  chain_before : (n k m : ℕ) → (n ≡ k) ⊎ LeadsBy edges n k → LeadsBy edges k m → LeadsBy edges n m
  chain_before n k m (inl same) rest = subst (λ x. LeadsBy edges x m) (sym same) rest
  chain_before n k m (inr path) rest = chains n k m path rest

  chain_behind : (n k m : ℕ) → LeadsBy edges n k → (k ≡ m) ⊎ LeadsBy edges k m → LeadsBy edges n m
  chain_behind n k m path (inl same) = subst (LeadsBy edges n) same path
  chain_behind n k m path (inr rest) = chains n k m path rest

module _ (next : List (List ℕ)) (edges : List (ℕ × ℕ)) (reduced : AreReduced next edges) where
  -- ---- the edges lead where the graph does

  reduced_leads : (n m : ℕ) → IsReduced next n m → Leads next n m
  reduced_leads n m (inl e) = way_apart next n m e.way (λ same. e.apart (connected_same next n m same))
  reduced_leads n m (inr (inl e)) = way_apart next n m e.together.0 (λ same. omega (arith, same, e.later))
  reduced_leads n m (inr (inr e)) = leads_behind next n n m e.cycle e.together.0

  sound : (n m : ℕ) → LeadsBy edges n m → Leads next n m
  sound n m (by_edge edge) = reduced_leads n m ((reduced n m).0 edge)
  sound n m (through {k = k} edge rest) = leads_behind next n k m (reduced_leads n k ((reduced n k).0 edge))
      (leads_way next (sound k m rest))

  -- ---- within a component

  -- two nodes with none between are joined by an edge
  next_edge : (n m : ℕ) → IsLater next n m → ((k : ℕ) → IsLater next n k → ¬ IsLater next k m) →
      LeadsBy edges n m
  next_edge n m is none = by_edge ((reduced n m).1 (inr (inl (record {
    together = is.together;
    later = is.later;
    none = λ k c above. elim (cases_lt k m) [
      | inr past ↦ past
      | inl less ↦ absurd (none k (record { together = c; later = above }) (record {
        together = connected_join next k n m (connected_back next n k c) is.together;
        later = less;
      }))
    ];
  }))))

  -- to a later node
  up : (n m : ℕ) → AreConnected next n m → n ≤ m → (n ≡ m) ⊎ LeadsBy edges n m
  up n m together most = elim (cases_eq n m) [
    | inl same ↦ inl same
    | inr apart ↦ inr (chain (IsLater next) (LeadsBy edges) (cases_later next) (later_join next)
        (λ a b is same. omega (arith, same, is.later)) next_edge (chains edges) m n m
        (record { together = together; later = omega (arith, most, apart) })
        (λ k from to. to.later))
  ]

  -- around a cycle
  around : (n m : ℕ) → AreConnected next n m → Leads next n n → LeadsBy edges n m
  around n m together cycle =
      let (low, low_is, first) = first_of next n in
      let (high, high_is, last) = last_of next n in
      let back : IsBack next high low = record {
        together = connected_join next high n low (connected_back next n high high_is) low_is;
        last = last;
        first = first;
        cycle = leads_behind next high n high (leads_before next high n n high_is.1 cycle) high_is.0;
      } in
      let from_low = connected_join next low n m (connected_back next n low low_is) together in
      chain_before edges n high m (up n high high_is (last n (connected_back next n high high_is)))
      (chain_behind edges high low m (by_edge ((reduced high low).1 (inr (inr back))))
      (up low m from_low (first m from_low)))

  -- ---- between components

  no_third : (n m : ℕ) → IsFarther next n m → ((k : ℕ) → IsFarther next n k → ¬ IsFarther next k m) →
      (k : ℕ) → HasWay next n k → HasWay next k m → AreConnected next n k ⊎ AreConnected next k m
  no_third n m far none k from to = elim (cases_connected next n k) [
    | inl with_n ↦ inl with_n
    | inr not_n ↦ elim (cases_connected next k m) [
      | inl with_m ↦ inr with_m
      | inr not_m ↦
          let (low, together, first) = first_of next k in
          absurd (none low (record {
            from_first = far.from_first;
            to_first = first;
            way = way_join next n k low from together.0;
            apart = λ c. not_n (connected_join next n low k c (connected_back next k low together));
          }) (record {
            from_first = first;
            to_first = far.to_first;
            way = way_join next low k m together.1 to;
            apart = λ c. not_m (connected_join next k low m together c);
          }))
    ]
  ]

  -- two components with none between are joined by an edge
  between_edge : (n m : ℕ) → IsFarther next n m → ((k : ℕ) → IsFarther next n k → ¬ IsFarther next k m) →
      LeadsBy edges n m
  between_edge n m far none = by_edge ((reduced n m).1 (inl (record {
    from_first = far.from_first;
    to_first = far.to_first;
    way = far.way;
    apart = far.apart;
    alone = no_third n m far none;
  })))

  farther : (n m : ℕ) → IsFarther next n m → LeadsBy edges n m
  farther n m far = chain (IsFarther next) (LeadsBy edges) (cases_farther next) (farther_join next)
      (farther_differs next) between_edge (chains edges) (length next) n m far
      (λ k from to. leads_from next (way_apart next k m to.way (farther_differs next k m to)))

  -- ---- along any path

  apart_leads : (n m : ℕ) → HasWay next n m → (¬ AreConnected next n m) → LeadsBy edges n m
  apart_leads n m way apart =
      let (n_low, n_is, n_first) = first_of next n in
      let (m_low, m_is, m_first) = first_of next m in
      let far : IsFarther next n_low m_low = record {
        from_first = n_first;
        to_first = m_first;
        way = way_join next n_low n m_low n_is.1 (way_join next n m m_low way m_is.0);
        apart = λ c. apart (connected_join next n n_low m n_is
            (connected_join next n_low m_low m c (connected_back next m m_low m_is)));
      } in
      let down : (n ≡ n_low) ⊎ LeadsBy edges n n_low = elim (cases_eq n n_low) [
        | inl same ↦ inl same
        | inr differ ↦ inr (around n n_low n_is (connected_cycle next n n_low n_is differ))
      ] in
      chain_before edges n n_low m down (chain_behind edges n_low m_low m (farther n_low m_low far)
      (up m_low m (connected_back next m m_low m_is) (m_first m (connected_back next m m_low m_is))))

  complete : (n m : ℕ) → Leads next n m → LeadsBy edges n m
  complete n m leads = elim (cases_connected next n m) [
    | inl together ↦ around n m together (leads_behind next n m n leads together.1)
    | inr apart ↦ apart_leads n m (leads_way next leads) apart
  ]

pub reduction_keeps : ReductionKeepsClosure
reduction_keeps next edges reduced n m = (sound next edges reduced n m, complete next edges reduced n m)
