-- The roots of components get numbers, the last one first.
use Rattle.std.proofs.Common.{◌≡◌, ◌≢◌, ◌⊎◌, ℕ, ◌+◌, ◌-◌, ◌<◌, ◌≤◌, List, length, get_or, set, replicate, sym, ap, ◌∙◌, subst, arith, inl, inr}
use Rattle.std.proofs.lemmas.Bool.{cases_eq}
use Rattle.std.proofs.lemmas.List.{get_or-replicate, get_or-set_other, get_or-set_same, get_or_default, length-replicate, length-set}
use Rattle.vob_flow.specs.Closure.{IsEdge}
use Rattle.vob_flow.specs.Components.{AreComponents, component_of}
use Rattle.vob_flow.specs.declared.components.Components.{Components}
use Rattle.vob_c.specs.Components.{AreNumbered, AreTurned, HaveNumbers, IsGiven, number_of, root_at}
use Rattle.vob_c.proofs.CoverLemmas.{Covers, covers_once}

module _ (lists : List (List ℕ)) (c : Components) (h : AreComponents lists c) where
  abbrev roots : List ℕ
  roots = c.roots.items

  abbrev nodes : List ℕ
  nodes = c.nodes.items

  abbrev size : ℕ
  size = length lists

  covered : Covers nodes size
  covered n less =
      let at = h.whole n less in
      (at.0, at.1, get_or_default nodes at.0 n 0 at.1 ∙ at.2)

  pub root_below : (n : ℕ) → n < size → component_of roots n < size
  root_below n less = h.root_inside n less

  pub root_at_below : (i : ℕ) → i < length nodes → root_at roots nodes i < size
  root_at_below i less = h.root_inside (get_or nodes i 0) (h.inside i less)

  pub no_numbers : (numbers : List ℕ) → numbers ≡ replicate size size
      → HaveNumbers lists roots nodes (length nodes) numbers 0
  no_numbers numbers none =
      let free : (r : ℕ) → r < size → number_of numbers r ≡ size =
      λ r less. ap (λ (ns : List ℕ). get_or ns r 0) none ∙ get_or-replicate size r size 0 less in
      record {
        long = ap length none ∙ length-replicate size size;
        few = omega arith;
        given = λ r less some. absurd (some (free r less));
        listed = λ i past less. absurd (omega (arith, past, less));
        used = λ j less. absurd (omega (arith, less));
        apart = λ r s less _ some _. absurd (some (free r less));
        rises = λ i m past less _ _ _. absurd (omega (arith, past, less));
      }

  -- ---- the node at place k has its turn

  module _ (k : ℕ) (there : k < length nodes) (numbers : List ℕ) (count : ℕ)
      (old : HaveNumbers lists roots nodes (k + 1) numbers count) where
    abbrev root : ℕ
    root = root_at roots nodes k

    pub root_inside : root < length numbers
    root_inside = omega (arith, root_at_below k there, old.long)

    pub count_small : count < length numbers
    count_small = omega (arith, old.few, old.long, h.as_many)

    -- an edge from it to another component leads to one without a number
    unseen : (m : ℕ) → m < size → IsEdge lists (get_or nodes k 0) m → component_of roots m ≢ root
        → number_of numbers (component_of roots m) ≡ size
    unseen m less edge apart = elim (cases_eq (number_of numbers (component_of roots m)) size) [
      | inl none ↦ none
      | inr some ↦
          let given = old.given (component_of roots m) (h.root_inside m less) some in
          let p = given.1.0 in
          let earlier = h.earlier k m (get_or nodes p 0) there (h.inside p given.1.2) edge apart given.1.3 in
          absurd (covers_once size nodes h.as_many covered earlier.0 p
          (omega (arith, earlier.1, given.1.1)) given.1.2 earlier.2)
    ]

    abbrev Rises : List ℕ → ℕ → ℕ → Type 0
    Rises after m i = IsEdge lists (get_or nodes i 0) m → component_of roots m ≢ root_at roots nodes i
        → (number_of after (component_of roots m) ≡ size)
        ⊎ (number_of after (root_at roots nodes i) < number_of after (component_of roots m))

    has_one : number_of numbers root ≢ size → HaveNumbers lists roots nodes k numbers count
    has_one some = record {
      long = old.long;
      few = omega (arith, old.few);
      given = λ r less numbered.
          let was = old.given r less numbered in
          (was.0, (was.1.0, omega (arith, was.1.1), was.1.2, was.1.3));
      listed = λ i past less. elim (cases_eq i k) [
        | inl here ↦ subst (λ j. number_of numbers (root_at roots nodes j) ≢ size) (sym here) some
        | inr other ↦ old.listed i (omega (arith, past, other)) less
      ];
      used = old.used;
      apart = old.apart;
      rises = λ i m past less inside. elim (cases_eq i k) [
        | inl here ↦ subst (Rises numbers m) (sym here)
            (λ edge apart. inl (unseen m inside edge apart))
        | inr other ↦ old.rises i m (omega (arith, past, other)) less inside
      ];
    }

    module _ (free : number_of numbers root ≡ size) where
      abbrev after : List ℕ
      after = set numbers root count

      at_root : number_of after root ≡ count
      at_root = get_or-set_same numbers root count 0 root_inside

      elsewhere : (r : ℕ) → r ≢ root → number_of after r ≡ number_of numbers r
      elsewhere r other = get_or-set_other numbers root r count 0 other

      -- a root that had a number isn't this one
      other_root : (r : ℕ) → number_of numbers r ≢ size → r ≢ root
      other_root r some same = some (ap (number_of numbers) same ∙ free)

      gets_one : HaveNumbers lists roots nodes k after (count + 1)
      gets_one = record {
        long = length-set numbers root count ∙ old.long;
        few = omega (arith, old.few);
        given = λ r less some. elim (cases_eq r root) [
          | inl here ↦ (
            omega (arith, ap (number_of after) here, at_root),
            (k, omega arith, there, sym here),
          )
          | inr other ↦
              let was = old.given r less (λ e. some (elsewhere r other ∙ e)) in (
                omega (arith, elsewhere r other, was.0),
                (was.1.0, omega (arith, was.1.1), was.1.2, was.1.3),
              )
        ];
        listed = λ i past less. elim (cases_eq (root_at roots nodes i) root) [
          | inl here ↦ λ e. omega (
            arith,
            ap (number_of after) here,
            at_root,
            e,
            count_small,
            old.long,
          )
          | inr other ↦ λ e. old.listed i
              (let apart : i ≢ k = λ same. other (ap (root_at roots nodes) same) in
              omega (arith, past, apart)) less (sym (elsewhere (root_at roots nodes i) other) ∙ e)
        ];
        used = λ j less. elim (cases_eq j count) [
          | inl here ↦ (root, root_at_below k there, at_root ∙ sym here)
          | inr other ↦
              let was = old.used j (omega (arith, less, other)) in (
                was.0,
                was.1,
                elsewhere was.0 (other_root was.0 (λ e.
                    omega (arith, e, was.2, less, count_small, old.long, other))) ∙ was.2,
              )
        ];
        apart = λ r s r_in s_in some same. elim (cases_eq r root) [
          | inl r_here ↦ elim (cases_eq s root) [
            | inl s_here ↦ r_here ∙ sym s_here
            | inr s_other ↦
                let is : number_of numbers s ≡ count =
                sym (elsewhere s s_other) ∙ sym same ∙ ap (number_of after) r_here ∙ at_root in
                absurd (omega (
                  arith,
                  is,
                  (old.given s s_in (λ e. omega (arith, e, is, count_small, old.long))).0,
                ))
          ]
          | inr r_other ↦ elim (cases_eq s root) [
            | inl s_here ↦
                let is : number_of numbers r ≡ count =
                sym (elsewhere r r_other) ∙ same ∙ ap (number_of after) s_here ∙ at_root in
                absurd (omega (
                  arith,
                  is,
                  (old.given r r_in (λ e. omega (arith, e, is, count_small, old.long))).0,
                ))
            | inr s_other ↦ old.apart r s r_in s_in (λ e. some (elsewhere r r_other ∙ e))
                (sym (elsewhere r r_other) ∙ same ∙ elsewhere s s_other)
          ]
        ];
        rises = λ i m past less inside. elim (cases_eq i k) [
          | inl here ↦ subst (Rises after m) (sym here) (λ edge apart.
              inl (elsewhere (component_of roots m) apart ∙ unseen m inside edge apart))
          | inr other ↦ λ edge apart.
              let on : k + 1 ≤ i = omega (arith, past, other) in
              let own = root_at roots nodes i in
              let kept = elsewhere own (other_root own (old.listed i on less)) in
              elim (cases_eq (component_of roots m) root) [
                | inl last ↦ inr (omega (
                  arith,
                  kept,
                  (old.given own (root_at_below i less) (old.listed i on less)).0,
                  ap (number_of after) last,
                  at_root,
                ))
                | inr apart_too ↦
                    let theirs = elsewhere (component_of roots m) apart_too in
                    elim (old.rises i m on less inside edge apart) [
                      | inl none ↦ inl (theirs ∙ none)
                      | inr rise ↦ inr (omega (arith, kept, theirs, rise))
                    ]
              ]
        ];
      }

    pub one_more : (after : List ℕ) (next : ℕ) → IsGiven numbers root count after next
        → HaveNumbers lists roots nodes k after next
    one_more after next done = elim (cases_eq (number_of numbers root) size) [
      | inl free ↦
          let made = done.given (free ∙ sym old.long) in
          subst (λ n. HaveNumbers lists roots nodes k after n) (sym made.1)
          (subst (λ (ns : List ℕ). HaveNumbers lists roots nodes k ns (count + 1)) (sym made.0)
          (gets_one free))
      | inr some ↦
          let made = done.kept (λ e. some (e ∙ old.long)) in
          subst (λ n. HaveNumbers lists roots nodes k after n) (sym made.1)
          (subst (λ (ns : List ℕ). HaveNumbers lists roots nodes k ns count) (sym made.0)
          (has_one some))
    ]

  -- ---- all have their numbers

  module _ (numbers : List ℕ) (count : ℕ) (all : HaveNumbers lists roots nodes 0 numbers count) where
    abbrev number : ℕ → ℕ
    number n = number_of numbers (component_of roots n)

    -- the place of a node
    at_place : (n : ℕ) → n < size → (i : ℕ) × (i < length nodes)
        × (component_of roots (get_or nodes i 0) ≡ component_of roots n)
    at_place n less =
        let at = h.whole n less in
        (at.0, at.1, ap (component_of roots) at.2)

    has_number : (n : ℕ) → n < size → number n ≢ size
    has_number n less none =
        let at = at_place n less in
        all.listed at.0 (omega arith) at.1 (ap (number_of numbers) at.2 ∙ none)

    pub number_below : (n : ℕ) → n < size → number n < count
    number_below n less =
        (all.given (component_of roots n) (h.root_inside n less) (has_number n less)).0

    module _ (component : List ℕ) (long : length component ≡ size)
        (turned : AreTurned roots numbers count component) where
      is : (n : ℕ) → n < size → component_of component n ≡ count - 1 - number n
      is n less = turned n (omega (arith, less, h.count))

      falls : (n m : ℕ) → n < size → m < size → IsEdge lists n m
          → component_of component m ≤ component_of component n
      falls n m n_in m_in edge = elim (cases_eq (component_of roots m) (component_of roots n)) [
        | inl same ↦ omega (arith, is n n_in, is m m_in, ap (number_of numbers) same)
        | inr apart ↦
            let at = h.whole n n_in in
            let own : root_at roots nodes at.0 ≡ component_of roots n = ap (component_of roots) at.2 in
            elim (all.rises at.0 m (omega arith) at.1 m_in
            (subst (λ x. IsEdge lists x m) (sym at.2) edge) (λ e. apart (e ∙ own))) [
              | inl none ↦ absurd (has_number m m_in none)
              | inr rise ↦ omega (
                arith,
                rise,
                ap (number_of numbers) own,
                is n n_in,
                is m m_in,
                number_below m m_in,
              )
            ]
      ]

      used_at : (k : ℕ) → k < count → (r i : ℕ) → i < length nodes → root_at roots nodes i ≡ r
          → number_of numbers r ≡ count - 1 - k
          → (n : ℕ) × (n < size) × (component_of component n ≡ k)
      used_at k less r i there own numbered = (
        get_or nodes i 0,
        h.inside i there,
        omega (arith, is (get_or nodes i 0) (h.inside i there), ap (number_of numbers) own, numbered, less),
      )

      used : (k : ℕ) → k < count → (n : ℕ) × (n < size) × (component_of component n ≡ k)
      used k less =
          let root = all.used (count - 1 - k) (omega (arith, less)) in
          let given = all.given root.0 root.1 (λ e. omega (arith, e, root.2, less, all.few, h.as_many)) in
          used_at k less root.0 given.1.0 given.1.2 given.1.3 root.2

      pub numbered : AreNumbered lists component count
      numbered = record {
        long = long;
        below = λ n less. omega (arith, is n less, number_below n less);
        used = used;
        same = λ n m n_in m_in. (
          (λ e. (h.same n m n_in m_in).0 (all.apart (component_of roots n) (component_of roots m)
              (h.root_inside n n_in) (h.root_inside m m_in) (has_number n n_in)
              (omega (arith, e, is n n_in, is m m_in, number_below n n_in, number_below m m_in)))),
          (λ joined. is n n_in
              ∙ ap (λ r. count - 1 - number_of numbers r) ((h.same n m n_in m_in).1 joined)
              ∙ sym (is m m_in)),
        );
        falls = falls;
      }
