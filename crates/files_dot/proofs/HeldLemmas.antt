-- Lists of names and of edges, one more at a time.
use Rattle.std.specs.Prelude.{slice_get}
use Rattle.std.specs.Borrow.{Bor}
use Rattle.std.proofs.Common.{◌≡◌, ◌<◌, ℕ, suc, ◌+◌, ◌-◌, Some, List, [], ◌∷◌, ◌++◌, drop, get_or, length, take, refl, sym, subst, ap, ◌∙◌, arith, length-drop}
use Rattle.std.proofs.lemmas.List.{drop-map, map-append, take-map, take_all, take_more}
use Rattle.files_dot.specs.Graphs.{AreNumbers}
use Rattle.files_dot.specs.Held.{edges_of, names_of}

pub edges_push : (edges : List (Bor (List ℕ) × Bor (List ℕ))) (edge : Bor (List ℕ) × Bor (List ℕ)) →
    edges_of (edges ++ edge ∷ []) ≡ edges_of edges ++ (edge.0.now, edge.1.now) ∷ []
edges_push edges edge = map-append (λ (e : Bor (List ℕ) × Bor (List ℕ)). (e.0.now, e.1.now)) edges (edge ∷ [])

pub names_behind : (n : ℕ) (names : List (Bor (List ℕ))) → names_of (drop n names) ≡ drop n (names_of names)
names_behind n names = sym (drop-map (λ (name : Bor (List ℕ)). name.now) n names)

-- one more edge by its numbers
pub numbers_push : (names : List (List ℕ)) (edges : List (List ℕ × List ℕ)) (pairs : List (ℕ × ℕ))
    (edge : List ℕ × List ℕ) (pair : ℕ × ℕ) → AreNumbers names edges pairs →
    slice_get names pair.0 ≡ Some edge.0 → slice_get names pair.1 ≡ Some edge.1 →
    AreNumbers names (edges ++ edge ∷ []) (pairs ++ pair ∷ [])
numbers_push names [] [] edge pair are from to = (from, to, tt)
numbers_push names [] (p ∷ pairs) edge pair are from to = absurd are
numbers_push names (e ∷ edges) [] edge pair are from to = absurd are
numbers_push names (e ∷ edges) (p ∷ pairs) edge pair are from to =
    (are.0, are.1, numbers_push names edges pairs edge pair are.2 from to)

module _ (names : List (List ℕ)) (edges : List (Bor (List ℕ) × Bor (List ℕ))) (i : ℕ)
    (d : Bor (List ℕ) × Bor (List ℕ)) (less : i < length edges) where
  pub numbers_step : (pairs all : List (ℕ × ℕ)) (from to : ℕ) → AreNumbers names (edges_of (take i edges)) pairs →
      slice_get names from ≡ Some (get_or edges i d).0.now → slice_get names to ≡ Some (get_or edges i d).1.now →
      all ≡ pairs ++ (from, to) ∷ [] → AreNumbers names (edges_of (take (i + 1) edges)) all
  numbers_step pairs all from to are one two is =
      let more : edges_of (take (i + 1) edges)
      ≡ edges_of (take i edges) ++ ((get_or edges i d).0.now, (get_or edges i d).1.now) ∷ [] =
      ap edges_of (take_more edges i d less) ∙ edges_push (take i edges) (get_or edges i d) in
      subst (AreNumbers names (edges_of (take (i + 1) edges))) (sym is)
      (subst (λ l. AreNumbers names l (pairs ++ (from, to) ∷ [])) (sym more)
      (numbers_push names (edges_of (take i edges)) pairs ((get_or edges i d).0.now, (get_or edges i d).1.now) (from, to)
      are one two))

pub names_length : (names : List (Bor (List ℕ))) → length (names_of names) ≡ length names
names_length [] = refl
names_length (name ∷ names) = ap suc (names_length names)

pub names_tail : (n : ℕ) (names : List (Bor (List ℕ))) →
    names_of (take (length names - n) (drop n names)) ≡ drop n (names_of names)
names_tail n names =
    ap names_of (take_all (length names - n) (drop n names) (omega (arith, length-drop n names))) ∙ names_behind n names

pub names_front : (n : ℕ) (names : List (Bor (List ℕ))) → names_of (take n names) ≡ take n (names_of names)
names_front n names = sym (take-map (λ (name : Bor (List ℕ)). name.now) n names)
