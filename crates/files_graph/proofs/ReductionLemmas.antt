-- The edges between numbers and within them are those of a reduction.
use Rattle.std.proofs.Common.{◌≡◌, ◌≢◌, ◌↔◌, ◌⊎◌, ℕ, ◌<◌, ◌≤◌, List, length, refl, sym, ap, ◌∙◌, subst, arith, inl, inr}
use Rattle.std.specs.List.{Contains}
use Rattle.std.proofs.lemmas.Bool.{cases_eq, cases_lt}
use Rattle.vob_flow.specs.Closure.{IsEdge, Leads}
use Rattle.vob_flow.specs.Closure.Leads.{by_edge, through}
use Rattle.vob_flow.specs.Components.{AreConnected}
use Rattle.vob_flow.specs.Reach.{HasWay}
use Rattle.vob_flow.specs.Reach.Reaches.{at_start, along}
use Rattle.vob_rows.specs.Graph.{LeadToNodes}
use Rattle.files_graph.specs.Direct.{IsDirect, LeadsDown}
use Rattle.files_graph.specs.Parts.{AreFirsts, AreLasts, AreLinks, AreNumbered, IsLastOf, IsLinkOf, IsNextOf, JoinsFirsts, at}
use Rattle.files_graph.specs.Reduction.{IsBack, IsBetween, IsFirst, IsNext}
use Rattle.files_graph.proofs.DirectLemmas.{way_down}
use Rattle.files_graph.proofs.WayLemmas.{connected_cycle, edge_from, leads_from, leads_way, only, way_apart, way_join, way_none}

-- ---- ways and paths

-- the first edge of a way
first_step : (next : List (List ℕ)) (a : ℕ) → {b : ℕ} → HasWay next a b →
    (a ≡ b) ⊎ ((s : ℕ) × IsEdge next a s × HasWay next s b)
first_step next a {b} (at_start start) = inl (only a b start)
first_step next a (along {n = k} {m = b} rest edge) = elim (first_step next a rest) [
  | inl same ↦ inr (b, subst (λ x. IsEdge next x b) (sym same) edge, way_none next b)
  | inr step ↦ inr (step.0, step.1, along step.2 edge)
]

module _ (next : List (List ℕ)) (ends : LeadToNodes next (length next)) where
  edge_to : (n m : ℕ) → IsEdge next n m → m < length next
  edge_to n m edge = subst (λ x. x < length next) edge.2 (ends n (edge_from next n m edge) edge.0 m edge.1)

  way_to : (n : ℕ) → {m : ℕ} → HasWay next n m → (n ≡ m) ⊎ (m < length next)
  way_to n {m} (at_start start) = inl (only n m start)
  way_to n (along {n = k} {m = m} rest edge) = inr (edge_to k m edge)

  way_inside : (n : ℕ) → n < length next → {m : ℕ} → HasWay next n m → m < length next
  way_inside n less way = elim (way_to n way) [ inl same ↦ omega (arith, less, same) | inr there ↦ there ]

  way_from : (n m : ℕ) → HasWay next n m → n ≢ m → n < length next
  way_from n m way apart = leads_from next (way_apart next n m way apart)

  module _ (numbers : List ℕ) (h : AreNumbered next numbers) where
    pub link_inside : (n p q : ℕ) → IsLinkOf next numbers n p q → (p < length next) × (q < length next)
    link_inside n p q (m, e, n_is, m_is, apart) =
        (omega (arith, h.inside n (edge_from next n m e), n_is), omega (arith, h.inside m (edge_to n m e), m_is))

    -- ---- ways between numbers

    module _ (links : List (List ℕ)) (l : AreLinks next numbers links) where
      pub leads_down : LeadsDown links
      leads_down p q edge =
          let (n, (m, e, n_is, m_is, apart)) = (l p q).0 edge in
          let down = h.down n m (edge_from next n m e) (edge_to n m e) e (λ same. apart (sym n_is ∙ same ∙ m_is)) in
          omega (arith, down, n_is, m_is)

      pub direct_inside : (p q : ℕ) → IsDirect links p q → (p < length next) × (q < length next)
      direct_inside p q d =
          let (n, (m, e, n_is, m_is, apart)) = (l p q).0 d.edge in
          (omega (arith, h.inside n (edge_from next n m e), n_is), omega (arith, h.inside m (edge_to n m e), m_is))

      way_links : (n : ℕ) → {m : ℕ} → HasWay next n m → HasWay links (at numbers n) (at numbers m)
      way_links n {m} (at_start start) = subst (λ x. HasWay links (at numbers n) (at numbers x)) (only n m start)
          (way_none links (at numbers n))
      way_links n (along {n = k} {m = m} rest edge) = elim (cases_eq (at numbers k) (at numbers m)) [
        | inl same ↦ subst (HasWay links (at numbers n)) same (way_links n rest)
        | inr apart ↦ along (way_links n rest) ((l (at numbers k) (at numbers m)).1 (k, (m, edge, refl, refl, apart)))
      ]

      way_next : (n : ℕ) → n < length next → {q : ℕ} → HasWay links (at numbers n) q → (m : ℕ) →
          m < length next → at numbers m ≡ q → HasWay next n m
      way_next n less {q} (at_start start) m m_in is =
          ((h.same n m less m_in).0 (only (at numbers n) q start ∙ sym is)).0
      way_next n less (along {n = p} {m = q} rest edge) m m_in is =
          let (k, (o, e, k_is, o_is, apart)) = (l p q).0 edge in
          let to = way_next n less rest k (edge_from next k o e) k_is in
          way_join next n o m (along to e) ((h.same o m (edge_to k o e) m_in).0 (o_is ∙ sym is)).0

      module _ (firsts : List ℕ) (f : AreFirsts numbers 0 firsts) where
        first_in : (n : ℕ) → n < length next → at firsts (at numbers n) < length next
        first_in n less = omega (arith, f.low n (omega arith) (omega (arith, less, h.long)), less)

        first_same : (n : ℕ) → n < length next → at numbers (at firsts (at numbers n)) ≡ at numbers n
        first_same n less = f.same n (omega arith) (omega (arith, less, h.long))

        pub first_is : (n : ℕ) → n < length next → IsFirst next (at firsts (at numbers n))
        first_is n less m connected =
            let m_in = way_inside (at firsts (at numbers n)) (first_in n less) connected.0 in
            let same = (h.same _ m (first_in n less) m_in).1 connected in
            let low = f.low m (omega arith) (omega (arith, m_in, h.long)) in
            omega (arith, low, ap (at firsts) (sym (first_same n less) ∙ same))

        -- the first node of a component is the one that is found
        pub first_one : (a : ℕ) → a < length next → IsFirst next a → at firsts (at numbers a) ≡ a
        first_one a less is =
            let low = f.low a (omega arith) (omega (arith, less, h.long)) in
            let connected = (h.same a _ less (first_in a less)).0 (sym (first_same a less)) in
            omega (arith, low, is _ connected)

        between_direct : (p q : ℕ) → IsDirect links p q → IsBetween next (at firsts p) (at firsts q)
        between_direct p q d =
            let (n, (m, e, n_is, m_is, apart)) = (l p q).0 d.edge in
            let n_in = edge_from next n m e in
            let m_in = edge_to n m e in
            let a = at firsts (at numbers n) in
            let b = at firsts (at numbers m) in
            let a_is : at numbers a ≡ p = first_same n n_in ∙ n_is in
            let b_is : at numbers b ≡ q = first_same m m_in ∙ m_is in
            let a_in = first_in n n_in in
            let b_in = first_in m m_in in
            let to_n = ((h.same a n a_in n_in).0 (first_same n n_in)).0 in
            let from_m = ((h.same m b m_in b_in).0 (sym (first_same m m_in))).0 in
            let made : IsBetween next a b = record {
              from_first = first_is n n_in;
              to_first = first_is m m_in;
              way = way_join next a m b (along to_n e) from_m;
              apart = λ connected. apart (sym a_is ∙ (h.same a b a_in b_in).1 connected ∙ b_is);
              alone = λ k to from.
                  let k_in = way_inside a a_in to in
                  let down = subst (λ x. HasWay links x (at numbers k)) a_is (way_links a to) in
                  let rest = subst (HasWay links (at numbers k)) b_is (way_links k from) in
                  elim (first_step links p down) [
                    | inl same ↦ inl ((h.same a k a_in k_in).0 (a_is ∙ same))
                    | inr step ↦ elim (cases_eq step.0 q) [
                      | inl last ↦
                          let low = way_down links leads_down step.0 step.2 in
                          let high = way_down links leads_down (at numbers k) rest in
                          inr ((h.same k b k_in b_in).0 (omega (arith, low, high, last, b_is)))
                      | inr other ↦
                          let on = way_join links step.0 (at numbers k) q step.2 rest in
                          absurd (d.alone step.0 step.1 other on)
                    ]
                  ];
            } in
            subst (λ x. IsBetween next (at firsts x) (at firsts q)) n_is
            (subst (λ x. IsBetween next a (at firsts x)) m_is made)

        direct_between : (a b : ℕ) → IsBetween next a b →
            (p : ℕ) × (q : ℕ) × IsDirect links p q × (at firsts p ≡ a) × (at firsts q ≡ b)
        direct_between a b w =
            let differ : a ≢ b = λ e. w.apart (subst (AreConnected next a) e (way_none next a, way_none next a)) in
            let a_in = way_from a b w.way differ in
            let b_in = way_inside a a_in w.way in
            let p = at numbers a in
            let q = at numbers b in
            let numbers_apart : p ≢ q = λ e. w.apart ((h.same a b a_in b_in).0 e) in
            let through_third : (s : ℕ) → IsEdge links p s → s ≢ q → ¬ HasWay links s q =
            λ s edge other way.
            let (n, (k, e, n_is, k_is, off)) = (l p s).0 edge in
            let k_in = edge_to n k e in
            let to = way_next a a_in (along (way_none links p) edge) k k_in k_is in
            let from = way_next k k_in (subst (λ x. HasWay links x q) (sym k_is) way) b b_in refl in
            elim (w.alone k to from) [
              | inl near ↦ off ((h.same a k a_in k_in).1 near ∙ k_is)
              | inr far ↦ other (sym k_is ∙ (h.same k b k_in b_in).1 far)
            ] in (
              p,
              q,
              record {
                edge = elim (first_step links p (way_links a w.way)) [
                  | inl same ↦ absurd (numbers_apart same)
                  | inr step ↦ elim (cases_eq step.0 q) [
                    | inl last ↦ subst (IsEdge links p) last step.1
                    | inr other ↦ absurd (through_third step.0 step.1 other step.2)
                  ]
                ];
                alone = through_third;
              },
              first_one a a_in w.from_first,
              first_one b b_in w.to_first,
            )

        pub between_is : (direct : List (ℕ × ℕ)) → ((p q : ℕ) → Contains direct (p, q) ↔ IsDirect links p q) →
            (a b : ℕ) → JoinsFirsts direct firsts a b ↔ IsBetween next a b
        between_is direct each a b = (
          (λ j. rw (← j.3, ← j.4) (between_direct j.0 j.1 ((each j.0 j.1).0 j.2))),
          (λ w.
              let (p, q, d, a_is, b_is) = direct_between a b w in
              (p, q, (each p q).1 d, a_is, b_is)),
        )

    -- ---- edges within components

    pub next_is : (a b : ℕ) → IsNextOf numbers (length numbers) a b ↔ IsNext next a b
    next_is a b = (
      (λ n.
          let b_in : b < length next = omega (arith, n.inside, h.long) in
          let a_in : a < length next = omega (arith, n.later, b_in) in
          let together = (h.same a b a_in b_in).0 n.same in
          record {
            together = together;
            later = n.later;
            none = λ k connected above.
                let k_in = way_inside a a_in connected.0 in
                let same = sym ((h.same a k a_in k_in).1 connected) ∙ n.same in
                elim (cases_lt k b) [
                  | inl below ↦ absurd (n.none k above below same)
                  | inr most ↦ most
                ];
          }),
      (λ n.
          let differ : a ≢ b = λ e. omega (arith, n.later, e) in
          let a_in = way_from a b n.together.0 differ in
          let b_in = way_inside a a_in n.together.0 in
          record {
            inside = omega (arith, b_in, h.long);
            later = n.later;
            same = (h.same a b a_in b_in).1 n.together;
            none = λ x above below same.
                let x_in : x < length next = omega (arith, below, b_in) in
                let connected = (h.same a x a_in x_in).0 ((h.same a b a_in b_in).1 n.together ∙ sym same) in
                omega (arith, n.none x connected above, below);
          }),
    )

    module _ (links : List (List ℕ)) (l : AreLinks next numbers links) (firsts lasts : List ℕ)
        (f : AreFirsts numbers 0 firsts) (g : AreLasts numbers (length numbers) lasts) where
      pub back_is : (a b : ℕ) → IsLastOf next numbers firsts lasts (length numbers) a b ↔ IsBack next a b
      back_is a b = (
        (λ n.
            let a_in : a < length next = omega (arith, n.inside, h.long) in
            let b_in = subst (λ x. x < length next) n.first (first_in links l firsts f a a_in) in
            let same : at numbers a ≡ at numbers b =
            sym (first_same links l firsts f a a_in) ∙ ap (at numbers) n.first in
            let together = (h.same a b a_in b_in).0 same in
            record {
              together = together;
              last = λ m connected.
                  let m_in = way_inside a a_in connected.0 in
                  let own = (h.same a m a_in m_in).1 connected in
                  let high = g.high m (omega (arith, m_in, h.long)) in
                  omega (arith, high, ap (at lasts) own, n.last);
              first = subst (IsFirst next) n.first (first_is links l firsts f a a_in);
              cycle = elim n.cycle [
                | inl apart ↦ connected_cycle next a b together (λ is. apart (sym is))
                | inr edge ↦ by_edge edge
              ];
            }),
        (λ n.
            let a_in = leads_from next n.cycle in
            let b_in = way_inside a a_in n.together.0 in
            let same = (h.same a b a_in b_in).1 n.together in
            let last = at lasts (at numbers a) in
            let a_count : a < length numbers = omega (arith, a_in, h.long) in
            let last_in : last < length next = omega (arith, g.below a a_count, h.long) in
            let last_connected = (h.same a last a_in last_in).0 (sym (g.same a a_count)) in
            record {
              inside = a_count;
              last = omega (arith, n.last last last_connected, g.high a a_count);
              first = ap (at firsts) same ∙ first_one links l firsts f b b_in n.first;
              cycle = elim (cases_eq b a) [
                | inr apart ↦ inl apart
                | inl one ↦ inr (alone_edge n one)
              ];
            }),
      )
        where
          alone_edge : IsBack next a b → b ≡ a → IsEdge next a a
          alone_edge n one = loop n.cycle
            where
              loop : Leads next a a → IsEdge next a a
              loop (by_edge edge) = edge
              loop (through {k = k} edge rest) =
                  let connected : AreConnected next a k = (along (way_none next a) edge, leads_way next rest) in
                  let high = n.last k connected in
                  let low = subst (λ x. x ≤ k) one (n.first k (subst (λ x. AreConnected next x k) (sym one) connected)) in
                  subst (IsEdge next a) (omega (arith, high, low)) edge
