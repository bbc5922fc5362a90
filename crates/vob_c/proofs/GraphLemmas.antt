-- The lists of a graph in two arrays, and the edges of its nodes.
use Rattle.std.proofs.Common.{◌≡◌, ◌≢◌, ℕ, zero, suc, ◌+◌, ◌-◌, ◌<◌, ◌≤◌, cond, List, [], ◌∷◌, ◌++◌, length, map, filter, get_or}
use Rattle.std.proofs.Common.{refl, sym, ap, ◌∙◌, arith, inl, inr, zero-add}
use Rattle.std.specs.List.{between}
use Rattle.std.proofs.lemmas.Bool.{cases_eq, eq-eqb, ne_eqb}
use Rattle.std.proofs.lemmas.List.{append-nil, ext_get_or, map-append}
use Rattle.std.proofs.lemmas.List.Elements.{filter-append}
use Rattle.std.proofs.lemmas.List.FromFn.{length-map-range_with_len, get_or-map-range_with_len}
use Rattle.vob_rows.specs.Ends.{lists_of}
use Rattle.vob_rows.specs.Graph.{ends_from, leads_from, lists_from}
use Rattle.vob_rows.proofs.EndsLemmas.{length-lists_of, list_is}
use Rattle.vob_c.specs.Graphs.{AreEdgesOf, AreOffsets}

module _ (nodes : ℕ) (offsets ends : List ℕ) (h : AreOffsets nodes offsets ends) where
  below : (d n : ℕ) → n + d ≡ nodes → get_or offsets n 0 ≤ length ends
  below zero n e =
      let last : n ≡ nodes = omega (arith, e) in
      omega (arith, ap (λ m. get_or offsets m 0) last, h.last)
  below (suc d) n e =
      omega (arith, h.rises n (omega (arith, e)), below d (n + 1) (omega (arith, e)))

  pub offset_inside : (n : ℕ) → n ≤ nodes → get_or offsets n 0 ≤ length ends
  offset_inside n few = below (nodes - n) n (omega (arith, few))

  pub lists_count : length (lists_of offsets ends) ≡ nodes
  lists_count = length-lists_of offsets ends ∙ omega (arith, h.count)

  pub list_here : (n : ℕ) → n < nodes → (start end : ℕ) → start ≡ get_or offsets n 0
      → end ≡ get_or offsets (n + 1) 0 → between start end ends ≡ get_or (lists_of offsets ends) n []
  list_here n less start end first last =
      ap (λ m. between m end ends) first ∙ ap (λ m. between (get_or offsets n 0) m ends) last
      ∙ sym (list_is offsets ends n (omega (arith, less, h.count)))

-- ---- the edges of a node

own_ends : (k : ℕ) (list : List ℕ) → ends_from (map (λ end. (k, end)) list) k ≡ list
own_ends k [] = refl
own_ends k (x ∷ xs) =
    let rest : List (ℕ × ℕ) = map (λ end. (k, end)) xs in
    ap (λ b. map (λ (y : ℕ × ℕ). y.1) (cond b ((k, x) ∷ filter (leads_from k) rest) (filter (leads_from k) rest)))
    (eq-eqb k k refl) ∙ ap (λ ys. x ∷ ys) (own_ends k xs)

no_ends : (k n : ℕ) → k ≢ n → (list : List ℕ) → ends_from (map (λ end. (k, end)) list) n ≡ []
no_ends k n apart [] = refl
no_ends k n apart (x ∷ xs) =
    let rest : List (ℕ × ℕ) = map (λ end. (k, end)) xs in
    ap (λ b. map (λ (y : ℕ × ℕ). y.1) (cond b ((k, x) ∷ filter (leads_from n) rest) (filter (leads_from n) rest)))
    (ne_eqb k n apart) ∙ no_ends k n apart xs

ends-append : (edges others : List (ℕ × ℕ)) (n : ℕ)
    → ends_from (edges ++ others) n ≡ ends_from edges n ++ ends_from others n
ends-append edges others n =
    ap (λ (es : List (ℕ × ℕ)). map (λ (y : ℕ × ℕ). y.1) es) (filter-append (leads_from n) edges others)
    ∙ map-append (λ (y : ℕ × ℕ). y.1) (filter (leads_from n) edges) (filter (leads_from n) others)

pub edges_none : (lists : List (List ℕ)) → AreEdgesOf lists 0 []
edges_none lists = record { own = λ n less. absurd (omega (arith, less)); none = λ n _. refl }

pub edges_more : (lists : List (List ℕ)) (k : ℕ) (edges after : List (ℕ × ℕ)) (list : List ℕ)
    → AreEdgesOf lists k edges → list ≡ get_or lists k []
    → after ≡ edges ++ map (λ end. (k, end)) list → AreEdgesOf lists (k + 1) after
edges_more lists k edges after list h is all =
    let pairs : List (ℕ × ℕ) = map (λ end. (k, end)) list in
    let parts : (n : ℕ) → ends_from after n ≡ ends_from edges n ++ ends_from pairs n =
    λ n. ap (λ (es : List (ℕ × ℕ)). ends_from es n) all ∙ ends-append edges pairs n in
    let others : (n : ℕ) → k ≢ n → ends_from after n ≡ ends_from edges n =
    λ n apart. parts n ∙ ap (λ ys. ends_from edges n ++ ys) (no_ends k n apart list)
    ∙ append-nil (ends_from edges n) in
    record {
      own = λ n less. elim (cases_eq n k) [
        | inl here ↦ ap (ends_from after) here ∙ parts k
            ∙ ap (λ ys. ys ++ ends_from pairs k) (h.none k (omega arith)) ∙ own_ends k list ∙ is
            ∙ ap (λ m. get_or lists m []) (sym here)
        | inr other ↦ others n (λ e. other (sym e)) ∙ h.own n (omega (arith, less, other))
      ];
      none = λ n past. others n (λ e. omega (arith, e, past)) ∙ h.none n (omega (arith, past));
    }

pub edges_all : (lists : List (List ℕ)) (nodes : ℕ) (edges : List (ℕ × ℕ)) → length lists ≡ nodes
    → AreEdgesOf lists nodes edges → lists_from nodes edges ≡ lists
edges_all lists nodes edges count h =
    let long : length (lists_from nodes edges) ≡ nodes =
    length-map-range_with_len (ends_from edges) 0 nodes in
    ext_get_or [] (lists_from nodes edges) lists (long ∙ sym count) (λ n below.
    let less : n < nodes = omega (arith, below, long) in
    get_or-map-range_with_len (ends_from edges) 0 nodes n n [] less (zero-add n) ∙ h.own n less)
