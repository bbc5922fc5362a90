-- No edges with the closure of a graph are fewer than its reduction: each edge of that has one of theirs
-- to itself.
use Rattle.std.proofs.Common.{◌≡◌, ◌⊎◌, ℕ, zero, suc, ◌<◌, ◌≤◌, List, [], ◌∷◌, length, refl, sym, ◌∙◌, subst, arith, inl, inr}
use Rattle.std.specs.List.{AllPairs, Contains}
use Rattle.vob_flow.specs.Closure.{Leads}
use Rattle.vob_flow.specs.Components.{AreConnected}
use Rattle.vob_flow.specs.Reach.{HasWay}
use Rattle.files_graph.specs.ClosureText.{IsBefore}
use Rattle.files_graph.specs.Reduction.{IsBack, IsBetween, IsFirst, IsNext, IsReduced}
use Rattle.files_graph.specs.ReductionLaws.{HaveClosure, LeadsBy, ReductionIsLeast}
use Rattle.files_graph.specs.ReductionLaws.LeadsBy.{by_edge, through}
use Rattle.files_graph.proofs.WayLemmas.{connected_back, connected_cycle, connected_join, connected_same, connected_self, leads_way, way_apart, way_join}

-- ---- a list with an element of another list for each of its own

module _ {X : Type 0} where
  at_head : (x : X) (xs : List X) → Contains (x ∷ xs) x
  at_head x xs = (0, omega arith, refl)

  behind_head : (x z : X) (xs : List X) → Contains xs z → Contains (x ∷ xs) z
  behind_head x z xs within = (suc within.0, omega (arith, within.1), within.2)

  head_cases : (x z : X) (xs : List X) → Contains (x ∷ xs) z → (x ≡ z) ⊎ Contains xs z
  head_cases x z xs (zero, less, is) = inl is
  head_cases x z xs (suc k, less, is) = inr (k, omega (arith, less), is)

  -- the rest of a list, without an element
  without : (xs : List X) (x : X) → Contains xs x →
      (rest : List X) × (length xs ≡ suc (length rest)) × ((z : X) → Contains xs z → (x ≡ z) ⊎ Contains rest z)
  without [] x within = absurd (omega (arith, within.1))
  without (y ∷ ys) x (zero, less, is) =
      (ys, refl, λ z within. subst (λ w. (w ≡ z) ⊎ Contains ys z) is (head_cases y z ys within))
  without (y ∷ ys) x (suc k, less, is) =
      let more = without ys x (k, omega (arith, less), is) in (
        y ∷ more.0,
        omega (arith, more.1),
        λ z within. elim (head_cases y z ys within) [
          | inl same ↦ inr (subst (Contains (y ∷ more.0)) same (at_head y more.0))
          | inr behind ↦ elim (more.2 z behind) [
            | inl same ↦ inl same
            | inr there ↦ inr (behind_head y z more.0 there)
          ]
        ],
      )

  pairs_head : (R : X → X → Type 0) (x z : X) (xs : List X) → AllPairs R (x ∷ xs) → Contains xs z → R x z
  pairs_head R x z xs pairs within =
      subst (R x) within.2 (pairs 0 (suc within.0) z (omega arith) (omega (arith, within.1)))

module _ {A B : Type 0} (Differ : A → A → Type 0) (Has : A → B → Type 0)
    (own : (x z : A) (y : B) → Differ x z → Has x y → Has z y → ⊥) where
  -- what another element has is not what the first one has
  has_other : (x z : A) (y : B) (ys rest : List B) → Differ x z → Has x y →
      ((w : B) → Contains ys w → (y ≡ w) ⊎ Contains rest w) →
      (w : B) × Contains ys w × Has z w → (w : B) × Contains rest w × Has z w
  has_other x z y ys rest differ has others (w, within, has_w) = elim (others w within) [
    | inl same ↦ absurd (own x z y differ has (subst (Has z) (sym same) has_w))
    | inr there ↦ (w, there, has_w)
  ]

  as_many : (xs : List A) (ys : List B) → AllPairs Differ xs →
      ((x : A) → Contains xs x → (y : B) × Contains ys y × Has x y) → length xs ≤ length ys
  as_many [] ys differ has = omega arith
  as_many (x ∷ xs) ys differ has =
      let (y, within, has_y) = has x (at_head x xs) in
      let (rest, long, others) = without ys y within in
      let fewer : length xs ≤ length rest = as_many xs rest
      (λ i j d less inside. differ (suc i) (suc j) d (omega (arith, less)) (omega (arith, inside)))
      (λ z there. has_other x z y ys rest (pairs_head Differ x z xs differ there) has_y others
      (has z (behind_head x z xs there))) in
      omega (arith, fewer, long)

-- ---- the edge that an edge of the reduction has to itself

-- it joins the same components
record IsAcross (next : List (List ℕ)) (edge other : ℕ × ℕ) : Type 0 where
  between : IsBetween next edge.0 edge.1
  from : AreConnected next edge.0 other.0
  to : AreConnected next edge.1 other.1

-- or it leaves the same node, and stays in its component
record IsInside (next : List (List ℕ)) (edge other : ℕ × ℕ) : Type 0 where
  inside : IsNext next edge.0 edge.1 ⊎ IsBack next edge.0 edge.1
  leaves : edge.0 ≡ other.0
  stays : AreConnected next edge.0 other.1

module _ (next : List (List ℕ)) where
  -- at most one edge leads from a node within its component
  one_inside : (n m k : ℕ) → IsNext next n m ⊎ IsBack next n m → IsNext next n k ⊎ IsBack next n k → m < k → ⊥
  one_inside n m k (inl e) (inl f) less = omega (arith, less, f.none m e.together e.later)
  one_inside n m k (inl e) (inr f) less = omega (arith, e.later, f.last m e.together)
  one_inside n m k (inr e) (inl f) less = omega (arith, f.later, e.last k f.together)
  one_inside n m k (inr e) (inr f) less = omega (
    arith,
    less,
    f.first m (connected_join next k n m (connected_back next n k f.together) e.together),
  )

  -- one first node of a component
  one_first : (n m x : ℕ) → IsFirst next n → IsFirst next m → AreConnected next n x → AreConnected next m x → n ≡ m
  one_first n m x n_first m_first n_to m_to = omega (
    arith,
    n_first m (connected_join next n x m n_to (connected_back next m x m_to)),
    m_first n (connected_join next m x n m_to (connected_back next n x n_to)),
  )

  own_across : (e f o : ℕ × ℕ) → IsBefore e f → IsAcross next e o → IsAcross next f o → ⊥
  own_across e f o before a b =
      let froms = one_first e.0 f.0 o.0 a.between.from_first b.between.from_first a.from b.from in
      let tos = one_first e.1 f.1 o.1 a.between.to_first b.between.to_first a.to b.to in
      elim before [ inl less ↦ omega (arith, less, froms) | inr less ↦ omega (arith, less.1, tos) ]

  own_inside : (e f o : ℕ × ℕ) → IsBefore e f → IsInside next e o → IsInside next f o → ⊥
  own_inside e f o before a b =
      let same : f.0 ≡ e.0 = b.leaves ∙ sym a.leaves in
      elim before [
        | inl less ↦ omega (arith, less, same)
        | inr less ↦ one_inside e.0 e.1 f.1 a.inside
            (subst (λ n. IsNext next n f.1 ⊎ IsBack next n f.1) same b.inside) less.1
      ]

  own_apart : (e f o : ℕ × ℕ) → IsAcross next e o → IsInside next f o → ⊥
  own_apart e f o a b =
      let stays = subst (λ n. AreConnected next n o.1) b.leaves b.stays in
      a.between.apart (connected_join next e.0 o.0 e.1 a.from
      (connected_join next o.0 o.1 e.1 stays (connected_back next e.1 o.1 a.to)))

  abbrev IsOwn : ℕ × ℕ → ℕ × ℕ → Type 0
  IsOwn edge other = IsAcross next edge other ⊎ IsInside next edge other

  own : (e f o : ℕ × ℕ) → IsBefore e f → IsOwn e o → IsOwn f o → ⊥
  own e f o before (inl a) (inl b) = own_across e f o before a b
  own e f o before (inl a) (inr b) = own_apart e f o a b
  own e f o before (inr a) (inl b) = own_apart f e o b a
  own e f o before (inr a) (inr b) = own_inside e f o before a b

module _ (next : List (List ℕ)) (others : List (ℕ × ℕ)) (closure : HaveClosure next others) where
  by_way : {n m : ℕ} → LeadsBy others n m → HasWay next n m
  by_way {n} {m} path = leads_way next ((closure n m).0 path)

  -- a path from one component to another, with none between, has an edge that joins them
  across : (n : ℕ) → {x m : ℕ} → LeadsBy others x m → IsBetween next n m → AreConnected next n x →
      (o : ℕ × ℕ) × Contains others o × AreConnected next n o.0 × AreConnected next m o.1
  across n (by_edge {n = x} {m = m} edge) b c = ((x, m), edge, c, connected_self next m)
  across n (through {n = x} {k = k} {m = m} edge rest) b c =
      elim (b.alone k (way_join next n x k c.0 (by_way (by_edge edge))) (by_way rest)) [
        | inl with_n ↦ across n rest b with_n
        | inr with_m ↦ ((x, k), edge, c, connected_back next k m with_m)
      ]

  -- a cycle has an edge from its node
  around : (n : ℕ) → {m : ℕ} → LeadsBy others n m → HasWay next m n →
      (k : ℕ) × Contains others (n, k) × AreConnected next n k
  around n (by_edge {m = m} edge) back = (m, edge, (by_way (by_edge edge), back))
  around n (through {k = k} {m = m} edge rest) back =
      (k, edge, (by_way (by_edge edge), way_join next k m n (by_way rest) back))

  has_across : (n m : ℕ) → IsBetween next n m →
      (o : ℕ × ℕ) × Contains others o × IsOwn next (n, m) o
  has_across n m b =
      let leads = way_apart next n m b.way (λ same. b.apart (connected_same next n m same)) in
      let (o, within, from, to) = across n ((closure n m).1 leads) b (connected_self next n) in
      (o, within, inl (record { between = b; from = from; to = to }))

  has_inside : (n m : ℕ) → IsNext next n m ⊎ IsBack next n m → Leads next n n →
      (o : ℕ × ℕ) × Contains others o × IsOwn next (n, m) o
  has_inside n m inside cycle =
      let (k, within, stays) = around n ((closure n n).1 cycle) (connected_self next n).0 in
      ((n, k), within, inr (record { inside = inside; leaves = refl; stays = stays }))

  has : (n m : ℕ) → IsReduced next n m → (o : ℕ × ℕ) × Contains others o × IsOwn next (n, m) o
  has n m (inl b) = has_across n m b
  has n m (inr (inl e)) = has_inside n m (inl e)
      (connected_cycle next n m e.together (λ same. omega (arith, e.later, same)))
  has n m (inr (inr e)) = has_inside n m (inr e) e.cycle

pub reduction_least : ReductionIsLeast
reduction_least next edges others reduced order closure =
    as_many IsBefore (IsOwn next) (own next) edges others order
    (λ e within. has next others closure e.0 e.1 ((reduced e.0 e.1).0 within))
