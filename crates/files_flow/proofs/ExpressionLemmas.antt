-- The expressions of nodes, and their numbers.
use Rattle.std.specs.Prelude.{◌↔◌, Contains, cond, filter, slice_get}
use Rattle.std.specs.List.{AllZip, fold, range_with_len}
use Rattle.std.proofs.lemmas.Grind.{common_steps}
use Rattle.std.proofs.lemmas.Option.{none-some, same_Some}
use Rattle.vob_block.specs.Packing.{item}
use Rattle.std.proofs.Common.{◌≡◌, ℕ, zero, suc, ◌+◌, ◌<◌, ◌≤◌, inl, inr, Bool, true, false, Some, List, [], ◌∷◌, ◌++◌, length, map, get_or, replicate, slice_index_or, arith, refl, sym, ap, subst, ◌∙◌}
use Rattle.std.proofs.lemmas.Bool.{cases_eq, cases_lt, true≢false}
use Rattle.std.proofs.lemmas.List.{get_or-replicate, get_or_past, length-map, length-replicate, map-append}
use Rattle.std.proofs.lemmas.List.FromFn.{get_or-map-range_with_len, length-map-range_with_len}
use Rattle.std.proofs.lemmas.List.Elements.{filter-append}
use Rattle.std.proofs.lemmas.List.Sums.{fold-append}
use Rattle.vob_flow.specs.declared.live.Flow.{Flow}
use Rattle.files_text.specs.Names.{names_in, with_name}
use Rattle.files_text.proofs.ListLemmas.{first_or_later, nothing}
use Rattle.files_flow.specs.Expressions.{AreTransposed, IsOwn, expressions_of, reads_any}
use Rattle.files_flow.specs.Problems.{IsAddedTo, next_of}
use Rattle.files_flow.proofs.NumberLemmas.{name_kept}

-- numbers that are added to lists, one list of them after another
module _ (count : ℕ) (lists : List (List ℕ)) where
  -- the first k lists were passed
  pub record AreTransposedBelow (k : ℕ) (after : List (List ℕ)) : Type 0 where
    pub many : length after ≡ count
    pub each : (n m : ℕ) → n < count →
        Contains (slice_index_or after n []) m ↔ ((m < k) × Contains (slice_index_or lists m []) n)

  pub transposed_none : (after : List (List ℕ)) → after ≡ replicate count [] → AreTransposedBelow 0 after
  transposed_none after are = record {
    many = ap length are ∙ length-replicate count [];
    each = λ n m less. rw (are, get_or-replicate {A = List ℕ} count n [] [] less) (
      (λ there. absurd (nothing m there)),
      (λ early. absurd (omega (arith, early.0))),
    );
  }

  pub transposed_more : (k : ℕ) (before after : List (List ℕ)) → AreTransposedBelow k before →
      IsAddedTo (slice_index_or lists k []) k before after → AreTransposedBelow (k + 1) after
  transposed_more k before after are added = record {
    many = added.count ∙ are.many;
    each = λ n m less.
        let last = added.each n m (omega (arith, less, are.many)) in
        let old = are.each n m less in (
          (λ there. elim (last.0 there) [
            | inl earlier ↦ let is = old.0 earlier in (omega (arith, is.0), is.1)
            | inr new ↦ (omega (arith, new.1), subst (λ j. Contains (slice_index_or lists j []) n) (sym new.1) new.0)
          ]),
          (λ is. elim (cases_eq m k) [
            | inl same ↦ last.1 (inr (subst (λ j. Contains (slice_index_or lists j []) n) same is.1, same))
            | inr other ↦ last.1 (inl (old.1 (omega (arith, is.0, other), is.1)))
          ]),
        );
  }

  pub transposed_all : (after : List (List ℕ)) (k : ℕ) → length lists ≤ k → AreTransposedBelow k after →
      AreTransposed count lists after
  transposed_all after k all are = record {
    many = are.many;
    each = λ n m less. (
      (λ there. ((are.each n m less).0 there).1),
      (λ there. (are.each n m less).1 (omega (arith, all, inside m n there), there)),
    );
  }
    where
      inside : (m n : ℕ) → Contains (slice_index_or lists m []) n → m < length lists
      inside m n there = elim (cases_lt m (length lists)) [
        | inl less ↦ less
        | inr past ↦ absurd (nothing n (subst (λ list. Contains list n) (get_or_past lists m [] past) there))
      ]

-- the nodes that come after those that were chosen
abbrev pub chosen_next : List Flow → List Bool → List (List ℕ)
chosen_next nodes chosen = map (λ m. cond (item chosen m) (next_of nodes m) []) (range_with_len 0 (length nodes))

module _ (nodes : List Flow) (chosen : List Bool) where
  pub chosen_at : (m : ℕ) → m < length nodes →
      slice_index_or (chosen_next nodes chosen) m [] ≡ cond (item chosen m) (next_of nodes m) []
  chosen_at m less = get_or-map-range_with_len (λ k. cond (item chosen k) (next_of nodes k) []) 0 (length nodes) m m [] less (omega arith)

  pub chosen_count : length (chosen_next nodes chosen) ≡ length nodes
  chosen_count = length-map-range_with_len (λ k. cond (item chosen k) (next_of nodes k) []) 0 (length nodes)

  chosen_past : (m : ℕ) → length nodes ≤ m → slice_index_or (chosen_next nodes chosen) m [] ≡ []
  chosen_past m past = get_or_past (chosen_next nodes chosen) m []
      (omega (arith, past, chosen_count))

  none_next : (m : ℕ) → length nodes ≤ m → next_of nodes m ≡ []
  none_next m past = get_or_past (map (λ node. node.next.items) nodes) m []
      (omega (arith, past, length-map nodes (λ (node : Flow). node.next.items)))

  pub chosen_each : (before : List (List ℕ)) → AreTransposed (length nodes) (chosen_next nodes chosen) before → (n m : ℕ) →
      n < length nodes → Contains (slice_index_or before n []) m ↔ (Contains (next_of nodes m) n × (item chosen m ≡ true))
  chosen_each before are n m less = elim (cases_lt m (length nodes)) [
    | inl inside ↦
        let at : Contains (slice_index_or (chosen_next nodes chosen) m []) n
        ↔ (Contains (next_of nodes m) n × (item chosen m ≡ true)) = rw (chosen_at m inside) (by (item chosen m) refl) in (
          (λ there. at.0 ((are.each n m less).0 there)),
          (λ both. (are.each n m less).1 (at.1 both)),
        )
    | inr past ↦ (
      (λ there. absurd (nothing n (subst (λ list. Contains list n) (chosen_past m past) ((are.each n m less).0 there)))),
      (λ both. absurd (nothing n (subst (λ list. Contains list n) (none_next m past) both.0))),
    )
  ]
    where
      by : (b : Bool) → item chosen m ≡ b → Contains (cond b (next_of nodes m) []) n ↔ (Contains (next_of nodes m) n × (b ≡ true))
      by true is = ((λ there. (there, refl)), (λ both. both.0))
      by false is = ((λ there. absurd (nothing n there)), (λ both. absurd (true≢false (sym both.1))))

-- pairs of two lists
module _ {X Y : Type 0} (R : X → Y → Type 0) where
  pub zip_push : (xs : List X) (ys : List Y) (x : X) (y : Y) → AllZip R xs ys → R x y →
      AllZip R (xs ++ x ∷ []) (ys ++ y ∷ [])
  zip_push [] [] x y all one = (one, tt)
  zip_push [] (z ∷ ys) x y all one = absurd all
  zip_push (z ∷ xs) [] x y all one = absurd all
  zip_push (z ∷ xs) (w ∷ ys) x y all one = (all.0, zip_push xs ys x y all.1 one)

  pub zip_at : (xs : List X) (ys : List Y) (k : ℕ) (x : X) (d : Y) → AllZip R xs ys → slice_get xs k ≡ Some x →
      R x (get_or ys k d)
  zip_at [] ys k x d all there = absurd (none-some x there)
  zip_at (z ∷ xs) [] k x d all there = absurd all
  zip_at (z ∷ xs) (w ∷ ys) zero x d all there = subst (λ v. R v w) (same_Some z x there) all.0
  zip_at (z ∷ xs) (w ∷ ys) (suc k) x d all there = zip_at xs ys k x d all.1 there

  pub zip_count : (xs : List X) (ys : List Y) → AllZip R xs ys → length xs ≡ length ys
  zip_count [] [] all = refl
  zip_count [] (z ∷ ys) all = absurd all
  zip_count (z ∷ xs) [] all = absurd all
  zip_count (z ∷ xs) (w ∷ ys) all = grind (arith, common_steps, zip_count xs ys all.1)

pub zip_each : {X Y : Type 0} (R : X → Y → Type 0) (Q : Y → Type 0) → ((x : X) (y : Y) → R x y → Q y) → (xs : List X)
    (ys : List Y) → AllZip R xs ys → (y : Y) → Contains ys y → Q y
zip_each R Q each [] [] all y there = absurd (nothing y there)
zip_each R Q each [] (z ∷ ys) all y there = absurd all
zip_each R Q each (x ∷ xs) [] all y there = absurd all
zip_each R Q each (x ∷ xs) (z ∷ ys) all y there = elim (first_or_later z ys y there) [
  | inl same ↦ subst Q same (each x z all.0)
  | inr later ↦ zip_each R Q each xs ys all.1 y later
]

pub zip_map : {X Y : Type 0} (R S : X → Y → Type 0) → ((x : X) (y : Y) → R x y → S x y) → (xs : List X) (ys : List Y) →
    AllZip R xs ys → AllZip S xs ys
zip_map R S each [] [] all = tt
zip_map R S each [] (y ∷ ys) all = absurd all
zip_map R S each (x ∷ xs) [] all = absurd all
zip_map R S each (x ∷ xs) (y ∷ ys) all = (each x y all.0, zip_map R S each xs ys all.1)

-- expressions with what one node more reads
pub expressions_more : (nodes : List Flow) (flow : Flow) → expressions_of (nodes ++ flow ∷ [])
    ≡ cond (reads_any flow.reads.items) (with_name (expressions_of nodes) flow.reads.items) (expressions_of nodes)
expressions_more nodes flow =
    let reads = λ (node : Flow). node.reads.items in
    ap (λ l. names_in (filter reads_any l)) (map-append reads nodes (flow ∷ []))
    ∙ ap names_in (filter-append reads_any (map reads nodes) (flow.reads.items ∷ []))
    ∙ fold-append with_name [] (filter reads_any (map reads nodes)) (filter reads_any (flow.reads.items ∷ []))
    ∙ by (reads_any flow.reads.items)
  where
    by : (b : Bool) → fold with_name (expressions_of nodes) (cond b (flow.reads.items ∷ []) [])
        ≡ cond b (with_name (expressions_of nodes) flow.reads.items) (expressions_of nodes)
    by true = refl
    by false = refl

-- a number stays that of its expression as more are added
pub own_kept : (old new : List (List ℕ)) (b : Bool) (added : List ℕ) → new ≡ cond b (with_name old added) old →
    (reads own : List ℕ) → IsOwn old reads own → IsOwn new reads own
own_kept old new b added is [] own was = was
own_kept old new b added is (v ∷ reads) own was =
    (was.0, ap (λ l. slice_get l was.0) is ∙ by b, was.2)
  where
    by : (c : Bool) → slice_get (cond c (with_name old added) old) was.0 ≡ Some (v ∷ reads)
    by true = name_kept old added was.0 (v ∷ reads) was.1
    by false = was.1
