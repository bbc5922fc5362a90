-- Components in numbers.
use Rattle.std.proofs.Common.{◌≡◌, ℕ, ◌<◌, List, length, refl, sym, ap, ◌∙◌, subst, arith, inl, inr}
use Rattle.vob_flow.specs.Closure.{IsEdge}
use Rattle.vob_flow.specs.Components.{AreComponents, component_of}
use Rattle.vob_flow.specs.declared.components.Components.{Components}
use Rattle.files_graph.specs.Parts.{AreNumbered, ArePlaces, AreTops, at}

module _ (next : List (List ℕ)) (c : Components) (places tops numbers : List ℕ) (h : AreComponents next c)
    (p : ArePlaces (length next) c.nodes.items places)
    (t : AreTops c.roots.items places (length c.roots.items) tops) (long : length numbers ≡ length next)
    (each : (n : ℕ) → n < length next → at numbers n ≡ at tops (component_of c.roots.items n)) where
  root : ℕ → ℕ
  root n = component_of c.roots.items n

  -- a number is the place of a node of the component
  holder : (n : ℕ) → n < length next →
      (m : ℕ) × (m < length next) × (component_of c.roots.items m ≡ component_of c.roots.items n)
      × (at numbers n ≡ at places m)
  holder n less = elim (t.some (component_of c.roots.items n)) [
    | inl none ↦
        let most = t.most n (omega (arith, less, h.count)) in
        (n, less, refl, omega (arith, each n less, none, most))
    | inr w ↦ (w.0, omega (arith, w.1, h.count), w.2, each n less ∙ w.3)
  ]

  one_place : (n m : ℕ) → n < length next → m < length next → at places n ≡ at places m → n ≡ m
  one_place n m n_in m_in same = sym (p.there n n_in) ∙ ap (at c.nodes.items) same ∙ p.there m m_in

  by_root : (n m : ℕ) → n < length next → m < length next →
      component_of c.roots.items n ≡ component_of c.roots.items m → at numbers n ≡ at numbers m
  by_root n m n_in m_in same = each n n_in ∙ ap (at tops) same ∙ sym (each m m_in)

  pub AreNumbered-tops : AreNumbered next numbers
  AreNumbered-tops = record {
    long = long;
    inside = λ n less.
        let (m, m_in, same, is) = holder n less in
        omega (arith, is, p.inside m m_in, h.as_many);
    same = λ n m n_in m_in. (
      (λ e.
          let (a, a_in, a_root, a_is) = holder n n_in in
          let (b, b_in, b_root, b_is) = holder m m_in in
          let one = one_place a b a_in b_in (sym a_is ∙ e ∙ b_is) in
          (h.same n m n_in m_in).0 (sym a_root ∙ ap (component_of c.roots.items) one ∙ b_root)),
      (λ connected. by_root n m n_in m_in ((h.same n m n_in m_in).1 connected)),
    );
    down = λ n m n_in m_in edge apart.
        let (b, b_in, b_root, b_is) = holder m m_in in
        let k = at places n in
        let here = p.there n n_in in
        let among = h.earlier k m b (p.inside n n_in) b_in (subst (λ x. IsEdge next x m) (sym here) edge)
        (λ e. apart (sym (by_root m n m_in n_in (e ∙ ap (component_of c.roots.items) here)))) b_root in
        let low = p.first b among.0 b_in (omega (arith, among.1, p.inside n n_in)) among.2 in
        let most = t.most n (omega (arith, n_in, h.count)) in
        omega (arith, b_is, low, among.1, most, each n n_in);
  }
