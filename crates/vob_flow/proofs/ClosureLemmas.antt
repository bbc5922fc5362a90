-- The closure of a graph, one component after another.
use Rattle.std.proofs.Common.{◌≡◌, ◌≢◌, ◌↔◌, ◌⊎◌, ℕ, ◌+◌, ◌<◌, Bool, false, List, [], ◌∷◌, ◌++◌, inl, inr, length, get_or, replicate, take, refl, sym, ap, ◌∙◌, subst, arith}
use Rattle.std.specs.List.{Contains}
use Rattle.std.proofs.lemmas.Bool.{cases_eq, cases_lt}
use Rattle.std.proofs.lemmas.List.{length-replicate, take_more}
use Rattle.std.proofs.lemmas.List.Elements.{Contains-append_left, Contains-push, Contains-push_cases}
use Rattle.vob.specs.Vobs.{AreOfLength}
use Rattle.vob.proofs.BitsLemmas.{row_inside}
use Rattle.vob_flow.specs.Changes.{EachGets, Gets}
use Rattle.vob_flow.specs.Closing.{AreDrawn, IsDrawnBy, IsLedTo}
use Rattle.vob_flow.specs.Closure.{IsClosure, IsEdge, Leads}
use Rattle.vob_flow.specs.Closure.Leads.{by_edge, through}
use Rattle.vob_flow.specs.Components.{AreComponents, IsAmong, component_of}
use Rattle.vob_flow.specs.declared.components.Components.{Components}
use Rattle.vob_flow.specs.Draws.{IsIn}
use Rattle.vob_flow.proofs.AnyLemmas.{edge_inside}
use Rattle.vob_flow.proofs.BlankLemmas.{blank, blank_long, blank_none}
use Rattle.vob_flow.proofs.ChangesLemmas.{Gets-as, Gets-more, Gets-none}
use Rattle.vob_flow.proofs.WayLemmas.{way_leads}

-- ---- what a set draws from other components

module _ (sets : List (List Bool)) (roots : List ℕ) (root : ℕ) (ends : List ℕ) where
  pub IsDrawnBy-none : Gets sets root (IsDrawnBy sets roots root (take 0 ends)) sets
  IsDrawnBy-none = Gets-none sets root _ (λ v drawn. omega (arith, drawn.1.1))

  module _ (k end : ℕ) (inside : k < length ends) (at : get_or ends k 0 ≡ end) (mid : List (List Bool))
      (h : Gets sets root (IsDrawnBy sets roots root (take k ends)) mid) where
    more : take (k + 1) ends ≡ take k ends ++ end ∷ []
    more = take_more ends k 0 inside ∙ ap (λ n. take k ends ++ n ∷ []) at

    -- an end in the same component
    pub IsDrawnBy-same : component_of roots end ≡ root →
        Gets sets root (IsDrawnBy sets roots root (take (k + 1) ends)) mid
    IsDrawnBy-same same = rw more (Gets-as _ h (λ v. (
      (λ drawn. (drawn.0, Contains-append_left (take k ends) (end ∷ []) drawn.0 drawn.1, drawn.2, drawn.3)),
      (λ drawn. elim (Contains-push_cases (take k ends) end drawn.0 drawn.1) [
        | inl before ↦ (drawn.0, before, drawn.2, drawn.3)
        | inr here ↦ absurd (drawn.2 (ap (component_of roots) (sym here) ∙ same))
      ]),
    )))

    -- and in another one
    pub IsDrawnBy-more : (other : ℕ) → component_of roots end ≡ other → other ≢ root →
        (after : List (List Bool)) → Gets mid root (IsIn mid other) after →
        Gets sets root (IsDrawnBy sets roots root (take (k + 1) ends)) after
    IsDrawnBy-more other is apart after g =
        let kept = h.others other apart in
        rw more (Gets-more _ h g (λ v. (
          (λ drawn. elim (Contains-push_cases (take k ends) end drawn.0 drawn.1) [
            | inl before ↦ inl (drawn.0, before, drawn.2, drawn.3)
            | inr here ↦ inr (rw kept (subst (λ n. IsIn sets n v)
                (ap (component_of roots) (sym here) ∙ is) drawn.3))
          ]),
          (λ either. elim either [
            | inl drawn ↦
                (drawn.0, Contains-append_left (take k ends) (end ∷ []) drawn.0 drawn.1, drawn.2, drawn.3)
            | inr new ↦ (
              end,
              Contains-push (take k ends) end,
              (λ e. apart (sym is ∙ e)),
              subst (λ n. IsIn sets n v) (sym is) (rw kept at new),
            )
          ]),
        )))

-- first the ends themselves
pub Gets-ends : (sets : List (List Bool)) (roots : List ℕ) (root : ℕ) (ends : List ℕ)
    (mid after : List (List Bool)) → Gets sets root (Contains ends) mid
    → Gets mid root (IsDrawnBy mid roots root ends) after
    → Gets sets root (λ v. Contains ends v ⊎ IsDrawnBy sets roots root ends v) after
Gets-ends sets roots root ends mid after g h = Gets-more _ g h (λ v. (
  (λ either. elim either [
    | inl within ↦ inl within
    | inr drawn ↦ inr (drawn.0, drawn.1, drawn.2, rw (g.others _ drawn.2) drawn.3)
  ]),
  (λ either. elim either [
    | inl within ↦ inl within
    | inr drawn ↦ inr (drawn.0, drawn.1, drawn.2, rw (g.others _ drawn.2) at drawn.3)
  ]),
))

-- ---- the sets at roots

-- a path begins at a node
starts_inside : (next : List (List ℕ)) → {n v : ℕ} → Leads next n v → n < length next
starts_inside next {n} {v} (by_edge edge) = edge_inside next n v edge
starts_inside next {n} {v} (through {k = m} edge rest) = edge_inside next n m edge

module _ (next : List (List ℕ)) (c : Components) (h : AreComponents next c)
    (inside : (n m : ℕ) → IsEdge next n m → (n < length next) × (m < length next)) where
  abbrev roots : List ℕ
  roots = c.roots.items

  abbrev nodes : List ℕ
  nodes = c.nodes.items

  -- a path leads to what the nodes of a component lead to, from each of them
  led_leads : (n m v : ℕ) → n < length next → component_of roots n ≡ component_of roots m →
      IsLedTo next roots m v → Leads next n v
  led_leads n m v n_in same led =
      let m_in = (inside m led.0 led.1).0 in
      way_leads next n m ((h.same n m n_in m_in).0 same).0 (elim led.2 [
        | inl here ↦ subst (Leads next m) here (by_edge led.1)
        | inr on ↦ through led.1 on.1
      ])

  -- and each path leads so, if all of them are among some
  leads_led : (x k : ℕ) → ((w : ℕ) → w < length next → component_of roots w ≡ x → IsAmong k nodes w) →
      {n v : ℕ} → Leads next n v → component_of roots n ≡ x →
      (m : ℕ) × IsAmong k nodes m × (component_of roots m ≡ x) × IsLedTo next roots m v
  leads_led x k all {n} {v} (by_edge edge) is = (n, all n (inside n v edge).0 is, is, (v, edge, inl refl))
  leads_led x k all {n} {v} (through {k = m} edge rest) is =
      elim (cases_eq (component_of roots m) (component_of roots n)) [
        | inl same ↦ leads_led x k all rest (same ∙ is)
        | inr other ↦ (n, all n (inside n m edge).0 is, is, (m, edge, inr (other, rest)))
      ]

  pub AreDrawn-none : (sets : List (List Bool)) → ((n m : ℕ) → ¬ IsIn sets n m) →
      AreDrawn next roots nodes 0 sets
  AreDrawn-none sets none x v =
      ((λ e. absurd (none x v e)), (λ led. absurd (omega (arith, led.1.1))))

  -- one node more
  module _ (k node : ℕ) (less : k < length nodes) (at : get_or nodes k 0 ≡ node)
      (sets after : List (List Bool)) (drawn : AreDrawn next roots nodes k sets)
      (g : Gets sets (component_of roots node)
      (λ v. Contains (get_or next node []) v
      ⊎ IsDrawnBy sets roots (component_of roots node) (get_or next node []) v) after) where
    abbrev IsLed : ℕ → ℕ → ℕ → Type 0
    IsLed i x v = (n : ℕ) × IsAmong i nodes n × (component_of roots n ≡ x) × IsLedTo next roots n v

    weaker : (x v : ℕ) → IsLed k x v → IsLed (k + 1) x v
    weaker x v led = (led.0, (led.1.0, omega (arith, led.1.1), led.1.2), led.2, led.3)

    -- what is at the root of another component, once an edge leads there
    other_is : (m : ℕ) → IsEdge next node m → component_of roots m ≢ component_of roots node → (v : ℕ) →
        IsIn sets (component_of roots m) v ↔ Leads next m v
    other_is m edge apart v = (
      (λ e. let led = (drawn (component_of roots m) v).0 e in
          led_leads m led.0 v (inside node m edge).1 (sym led.2) led.3),
      (λ leads. (drawn (component_of roots m) v).1 (leads_led (component_of roots m) k
          (λ w w_in same. h.earlier k m w less w_in (subst (λ n. IsEdge next n m) (sym at) edge)
          (λ e. apart (e ∙ ap (component_of roots) at)) same) leads refl)),
    )

    pub AreDrawn-more : AreDrawn next roots nodes (k + 1) after
    AreDrawn-more x v = elim (cases_eq x (component_of roots node)) [
      | inl here ↦ rw here (
        (λ e. elim ((g.here v).0 e) [
          | inl old ↦ weaker (component_of roots node) v ((drawn (component_of roots node) v).0 old)
          | inr new ↦ elim new [
            | inl edge ↦ (node, (k, omega arith, at), refl, (v, edge, inl refl))
            | inr far ↦ (
              node,
              (k, omega arith, at),
              refl,
              (far.0, far.1, inr (far.2, (other_is far.0 far.1 far.2 v).0 far.3)),
            )
          ]
        ]),
        (λ led. (g.here v).1 (elim (cases_lt led.1.0 k) [
          | inl old ↦ inl ((drawn (component_of roots node) v).1
              (led.0, (led.1.0, old, led.1.2), led.2, led.3))
          | inr past ↦
              let last : k ≡ led.1.0 = omega (arith, past, led.1.1) in
              let own : led.0 ≡ node = sym led.1.2 ∙ ap (λ i. get_or nodes i 0) (sym last) ∙ at in
              let to = subst (λ n. IsLedTo next roots n v) own led.3 in
              inr (elim to.2 [
                | inl same ↦ inl (subst (IsEdge next node) same to.1)
                | inr far ↦ inr (to.0, to.1, far.0, (other_is to.0 to.1 far.0 v).1 far.1)
              ])
        ])),
      )
      | inr apart ↦ (
        (λ e. weaker x v ((drawn x v).0 (rw (g.others x apart) at e))),
        (λ led. rw (g.others x apart) ((drawn x v).1 (elim (cases_lt led.1.0 k) [
          | inl old ↦ (led.0, (led.1.0, old, led.1.2), led.2, led.3)
          | inr past ↦
              let last : k ≡ led.1.0 = omega (arith, past, led.1.1) in
              let own : led.0 ≡ node = sym led.1.2 ∙ ap (λ i. get_or nodes i 0) (sym last) ∙ at in
              absurd (apart (sym led.2 ∙ ap (component_of roots) own))
        ]))),
      )
    ]

  -- ---- all sets

  pub IsClosure-spread : (sets after : List (List Bool)) → length sets ≡ length next →
      AreDrawn next roots nodes (length nodes) sets →
      EachGets sets (λ n. IsIn sets (component_of roots n)) after (length roots) →
      AreOfLength (length next) after → IsClosure next after
  IsClosure-spread sets after count drawn spread long = record {
    count = spread.shape.count ∙ count;
    long = long;
    each = λ n v. (
      (λ e.
          let less : n < length next = omega (arith, row_inside after n v e, spread.shape.count, count) in
          elim ((spread.below n v (omega (arith, less, h.count))).0 e) [
            | inl own ↦
                let led = (drawn n v).0 own in
                let m_in = (inside led.0 led.3.0 led.3.1).0 in
                led_leads n led.0 v less
                (subst (λ x. component_of roots x ≡ x) led.2 (h.root led.0 m_in) ∙ sym led.2) led.3
            | inr root ↦
                let led = (drawn (component_of roots n) v).0 root in
                led_leads n led.0 v less (sym led.2) led.3
          ]),
      (λ leads.
          let less = starts_inside next leads in
          (spread.below n v (omega (arith, less, h.count))).1 (inr ((drawn (component_of roots n) v).1
          (leads_led (component_of roots n) (length nodes) (λ w w_in same. h.whole w w_in) leads refl)))),
    );
  }

-- without a node
pub IsClosure-none : (next : List (List ℕ)) (sets : List (List Bool)) →
    sets ≡ blank (length next) (length next) → length next ≡ 0 → IsClosure next sets
IsClosure-none next sets is none = rw is record {
  count = length-replicate (length next) (replicate (length next) false);
  long = blank_long (length next) (length next);
  each = λ n v. (
    (λ e. absurd (blank_none (length next) (length next) n v e)),
    (λ leads. absurd (omega (arith, none, starts_inside next leads))),
  );
}
