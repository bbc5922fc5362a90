-- Lists of edges that are appended to, one edge after another.
use Rattle.std.proofs.Common.{◌≡◌, ◌≢◌, ◌↔◌, ◌⊎◌, ℕ, ◌+◌, ◌<◌, ◌≤◌, List, [], ◌∷◌, ◌++◌, length, set, sym, ap, ◌∙◌, subst, arith, inl, inr}
use Rattle.std.specs.List.{Contains}
use Rattle.std.proofs.lemmas.Bool.{cases_eq, cases_lt}
use Rattle.std.proofs.lemmas.List.{get_or-set_same, get_or-set_other, length-set}
use Rattle.std.proofs.lemmas.List.Elements.{Contains-append_left, Contains-push, Contains-push_cases}
use Rattle.vob_flow.specs.Closure.{IsEdge}
use Rattle.files_graph.specs.Parts.{AreFirsts, AreLasts, IsLastOf, IsLinkTo, IsNextOf, JoinsFirsts, at}

module _ (old mid : List (ℕ × ℕ)) {P : ℕ → ℕ → Type 0}
    (h : (a b : ℕ) → Contains mid (a, b) ↔ (Contains old (a, b) ⊎ P a b)) where
  pub gain_push : (after : List (ℕ × ℕ)) (x y : ℕ) (Q : ℕ → ℕ → Type 0) → after ≡ mid ++ (x, y) ∷ [] →
      ((a b : ℕ) → Q a b ↔ (P a b ⊎ ((x ≡ a) × (y ≡ b)))) → (a b : ℕ) →
      Contains after (a, b) ↔ (Contains old (a, b) ⊎ Q a b)
  gain_push after x y Q push is a b = rw push (
    (λ there. elim (Contains-push_cases mid (x, y) (a, b) there) [
      | inl before ↦ elim ((h a b).0 before) [
        | inl older ↦ inl older
        | inr p ↦ inr ((is a b).1 (inl p))
      ]
      | inr same ↦ inr ((is a b).1 (inr (ap (λ e. e.0) same, ap (λ e. e.1) same)))
    ]),
    (λ either. elim either [
      | inl older ↦ Contains-append_left mid ((x, y) ∷ []) (a, b) ((h a b).1 (inl older))
      | inr q ↦ elim ((is a b).0 q) [
        | inl p ↦ Contains-append_left mid ((x, y) ∷ []) (a, b) ((h a b).1 (inr p))
        | inr same ↦ rw (sym same.0, sym same.1) (Contains-push mid (x, y))
      ]
    ]),
  )

  pub gain_same : (Q : ℕ → ℕ → Type 0) → ((a b : ℕ) → Q a b ↔ P a b) → (a b : ℕ) →
      Contains mid (a, b) ↔ (Contains old (a, b) ⊎ Q a b)
  gain_same Q is a b = (
    (λ there. elim ((h a b).0 there) [ inl older ↦ inl older | inr p ↦ inr ((is a b).1 p) ]),
    (λ either. (h a b).1 (elim either [ inl older ↦ inl older | inr q ↦ inr ((is a b).0 q) ])),
  )

-- ---- edges between numbers

module _ (numbers some : List ℕ) (x n : ℕ) where
  pub link_push : at numbers n ≢ at numbers x → (p q : ℕ) → IsLinkTo numbers (some ++ x ∷ []) n p q
      ↔ (IsLinkTo numbers some n p q ⊎ ((at numbers n ≡ p) × (at numbers x ≡ q)))
  link_push apart p q = (
    (λ link. elim (Contains-push_cases some x link.0 link.1) [
      | inl old ↦ inl (link.0, old, link.2, link.3, link.4)
      | inr same ↦ inr (link.2, ap (at numbers) same ∙ link.3)
    ]),
    (λ either. elim either [
      | inl old ↦ (old.0, Contains-append_left some (x ∷ []) old.0 old.1, old.2, old.3, old.4)
      | inr same ↦ (x, Contains-push some x, same.0, same.1, λ e. apart (same.0 ∙ e ∙ sym same.1))
    ]),
  )

  pub link_same : at numbers n ≡ at numbers x → (p q : ℕ) → IsLinkTo numbers (some ++ x ∷ []) n p q
      ↔ IsLinkTo numbers some n p q
  link_same equal p q = (
    (λ link. elim (Contains-push_cases some x link.0 link.1) [
      | inl old ↦ (link.0, old, link.2, link.3, link.4)
      | inr same ↦ absurd (link.4 (sym link.2 ∙ equal ∙ ap (at numbers) same ∙ link.3))
    ]),
    (λ old. (old.0, Contains-append_left some (x ∷ []) old.0 old.1, old.2, old.3, old.4)),
  )

pub join_push : (links : List (ℕ × ℕ)) (firsts : List ℕ) (p q a b : ℕ) →
    JoinsFirsts (links ++ (p, q) ∷ []) firsts a b
    ↔ (JoinsFirsts links firsts a b ⊎ ((at firsts p ≡ a) × (at firsts q ≡ b)))
join_push links firsts p q a b = (
  (λ j. elim (Contains-push_cases links (p, q) (j.0, j.1) j.2) [
    | inl old ↦ inl (j.0, j.1, old, j.3, j.4)
    | inr same ↦ inr (ap (λ e. at firsts e.0) same ∙ j.3, ap (λ e. at firsts e.1) same ∙ j.4)
  ]),
  (λ either. elim either [
    | inl old ↦ (old.0, old.1, Contains-append_left links ((p, q) ∷ []) (old.0, old.1) old.2, old.3, old.4)
    | inr same ↦ (p, q, Contains-push links (p, q), same.0, same.1)
  ]),
)

-- ---- the last nodes with each number

module _ (numbers lasts : List ℕ) (k : ℕ) (h : AreLasts numbers k lasts) (k_in : k < length numbers)
    (inside : (n : ℕ) → n < length numbers → at numbers n < length numbers) where
  after : List ℕ
  after = set lasts (at numbers k) k

  here : at after (at numbers k) ≡ k
  unfolding after
  here = get_or-set_same lasts (at numbers k) k 0 (omega (arith, inside k k_in, h.long))

  other : (p : ℕ) → p ≢ at numbers k → at after p ≡ at lasts p
  unfolding after
  other p apart = get_or-set_other lasts (at numbers k) p k 0 apart

  pub AreLasts-more : AreLasts numbers (k + 1) (set lasts (at numbers k) k)
  unfolding after
  AreLasts-more = record {
    long = length-set lasts (at numbers k) k ∙ h.long;
    high = λ n less. elim (cases_eq (at numbers n) (at numbers k)) [
      | inl same ↦ omega (arith, less, ap (at after) same, here)
      | inr apart ↦ omega (arith, h.high n (omega (arith, less, not_k n apart)), other (at numbers n) apart)
    ];
    below = λ n less. elim (cases_eq (at numbers n) (at numbers k)) [
      | inl same ↦ omega (arith, ap (at after) same, here)
      | inr apart ↦ omega (arith, h.below n (omega (arith, less, not_k n apart)), other (at numbers n) apart)
    ];
    same = λ n less. elim (cases_eq (at numbers n) (at numbers k)) [
      | inl same ↦ ap (at numbers) (ap (at after) same ∙ here) ∙ sym same
      | inr apart ↦ ap (at numbers) (other (at numbers n) apart) ∙ h.same n (omega (arith, less, not_k n apart))
    ];
  }
    where
      not_k : (n : ℕ) → at numbers n ≢ at numbers k → n ≢ k
      not_k n apart same = apart (ap (at numbers) same)

  module _ (firsts : List ℕ) (f : AreFirsts numbers 0 firsts) where
    next_old : (a b : ℕ) → IsNextOf numbers k a b → IsNextOf numbers (k + 1) a b
    next_old a b n = record {
      inside = omega (arith, n.inside);
      later = n.later;
      same = n.same;
      none = n.none;
    }

    next_was : (a b : ℕ) → b < k → IsNextOf numbers (k + 1) a b → IsNextOf numbers k a b
    next_was a b less n = record { inside = less; later = n.later; same = n.same; none = n.none }

    pub next_push : at firsts (at numbers k) ≢ k → (a b : ℕ) → IsNextOf numbers (k + 1) a b
        ↔ (IsNextOf numbers k a b ⊎ ((at lasts (at numbers k) ≡ a) × (k ≡ b)))
    next_push differs a b =
        let first = at firsts (at numbers k) in
        let low = f.low k (omega arith) k_in in
        let less : first < k = omega (arith, low, differs) in
        let number = f.same k (omega arith) k_in in
        let l = at lasts (at numbers k) in
        let l_less : l < k = omega (arith, h.below first less, ap (at lasts) number) in
        let l_same : at numbers l ≡ at numbers k = ap (λ p. at numbers (at lasts p)) (sym number)
        ∙ h.same first less ∙ number in (
          (λ n. elim (cases_lt b k) [
            | inl old ↦ inl (next_was a b old n)
            | inr past ↦
                let is : b ≡ k = omega (arith, past, n.inside) in
                let own : at numbers a ≡ at numbers k = n.same ∙ ap (at numbers) is in
                let a_less : a < k = omega (arith, n.later, is) in
                let high : a ≤ l = omega (arith, h.high a a_less, ap (at lasts) own) in
                inr (elim (cases_lt a l) [
                  | inl between ↦ absurd (n.none l between (omega (arith, l_less, is))
                      (l_same ∙ ap (at numbers) (sym is)))
                  | inr most ↦
                      let one : l ≡ a = omega (arith, most, high) in
                      (one, sym is)
                ])
          ]),
          (λ either. elim either [
            | inl old ↦ next_old a b old
            | inr same ↦
                let one : l ≡ a = same.0 in
                let two : k ≡ b = same.1 in
                record {
                  inside = omega (arith, two);
                  later = omega (arith, one, two, l_less);
                  same = ap (at numbers) (sym one) ∙ l_same ∙ ap (at numbers) two;
                  none = λ x above below e. omega (
                    arith,
                    above,
                    one,
                    h.high x (omega (arith, below, two)),
                    ap (at lasts) (e ∙ ap (at numbers) (sym two)),
                  );
                }
          ]),
        )

    pub next_same : at firsts (at numbers k) ≡ k → (a b : ℕ) → IsNextOf numbers (k + 1) a b ↔ IsNextOf numbers k a b
    next_same is a b = (
      (λ n. elim (cases_lt b k) [
        | inl old ↦ next_was a b old n
        | inr past ↦
            let last : b ≡ k = omega (arith, past, n.inside) in
            let low = f.low a (omega arith) (omega (arith, n.later, last, k_in)) in
            absurd (omega (
              arith,
              low,
              n.later,
              last,
              is,
              ap (at firsts) (n.same ∙ ap (at numbers) last),
            ))
      ]),
      next_old a b,
    )

-- ---- edges back to the first nodes

module _ (next : List (List ℕ)) (numbers firsts lasts : List ℕ) (k : ℕ) where
  back_old : (a b : ℕ) → IsLastOf next numbers firsts lasts k a b →
      IsLastOf next numbers firsts lasts (k + 1) a b
  back_old a b n = record {
    inside = omega (arith, n.inside);
    last = n.last;
    first = n.first;
    cycle = n.cycle;
  }

  back_was : (a b : ℕ) → a < k → IsLastOf next numbers firsts lasts (k + 1) a b →
      IsLastOf next numbers firsts lasts k a b
  back_was a b less n = record { inside = less; last = n.last; first = n.first; cycle = n.cycle }

  pub back_push : at lasts (at numbers k) ≡ k → ((at firsts (at numbers k) ≢ k) ⊎ IsEdge next k k) →
      (a b : ℕ) → IsLastOf next numbers firsts lasts (k + 1) a b
      ↔ (IsLastOf next numbers firsts lasts k a b ⊎ ((k ≡ a) × (at firsts (at numbers k) ≡ b)))
  back_push last cycle a b = (
    (λ n. elim (cases_lt a k) [
      | inl old ↦ inl (back_was a b old n)
      | inr past ↦
          let is : k ≡ a = omega (arith, past, n.inside) in
          inr (is, ap (λ x. at firsts (at numbers x)) is ∙ n.first)
    ]),
    (λ either. elim either [
      | inl old ↦ back_old a b old
      | inr same ↦
          let one : k ≡ a = same.0 in
          let two : at firsts (at numbers k) ≡ b = same.1 in
          record {
            inside = omega (arith, one);
            last = subst (λ x. at lasts (at numbers x) ≡ x) one last;
            first = subst (λ x. at firsts (at numbers x) ≡ b) one two;
            cycle = elim cycle [
              | inl apart ↦ inl (λ e. apart (two ∙ e ∙ sym one))
              | inr edge ↦ inr (subst (λ x. IsEdge next x x) one edge)
            ];
          }
    ]),
  )

  pub back_same : ¬ ((at lasts (at numbers k) ≡ k) × ((at firsts (at numbers k) ≢ k) ⊎ IsEdge next k k)) →
      (a b : ℕ) → IsLastOf next numbers firsts lasts (k + 1) a b ↔ IsLastOf next numbers firsts lasts k a b
  back_same none a b = (
    (λ n. elim (cases_lt a k) [
      | inl old ↦ back_was a b old n
      | inr past ↦
          let is : a ≡ k = omega (arith, past, n.inside) in
          absurd (none (
            subst (λ x. at lasts (at numbers x) ≡ x) is n.last,
            elim n.cycle [
              | inl apart ↦ inl (λ e. apart (sym n.first ∙ ap (λ x. at firsts (at numbers x)) is ∙ e ∙ sym is))
              | inr edge ↦ inr (subst (λ x. IsEdge next x x) is edge)
            ],
          ))
    ]),
    back_old a b,
  )
