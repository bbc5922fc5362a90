-- The nodes of a graph that are reached, one turn after another.
use Rattle.std.specs.Prelude.{Option, Some, None, MatchOption, unwrap_or}
use Rattle.std.proofs.Common.{◌≡◌, ℕ, ◌+◌, ◌<◌, Bool, true, false, not, ◌||◌, List, [], ◌∷◌, ◌++◌, length, map, replicate}
use Rattle.std.proofs.Common.{refl, sym, ap, ◌∙◌, subst, arith, inl, inr}
use Rattle.std.proofs.lemmas.Bool.{and_parts, cases_eq, false≢true, not-true, or_cases, or_left, or_right}
use Rattle.std.proofs.lemmas.List.{map-id}
use Rattle.vob_block.specs.Packing.{item, bit_at, unpacking, IsCanonical}
use Rattle.vob_block.specs.Pointwise.{without}
use Rattle.vob_block.proofs.BoolLemmas.{has_too}
use Rattle.vob_block.proofs.PackingLemmas.{bit_at-is_item, length-unpacking, true_inside}
use Rattle.vob_store.specs.Combined.{combined_bit, HaveNone, IsFirstCombined}
use Rattle.vob.specs.Bits.{count_of, one_of, IsWritten}
use Rattle.vob.proofs.BitsLemmas.{item_false}
use Rattle.vob_matrix.specs.Matrix.{entry, IsEdge, IsPath}
use Rattle.vob_c.specs.Reached.{AreOnTheWay, AreReachedFrom, IsNextTurn, IsReachedFrom}
use Rattle.vob_c.proofs.FoundLemmas.{none_found}

-- ---- the next node, by the words

module _ (n : ℕ) (xs ys items : List ℕ) (g : IsCanonical n xs 64) (h : IsCanonical n ys 64)
    (same : items ≡ ys) where
  abbrev reached : List Bool
  reached = unpacking n xs 64

  abbrev turned : List Bool
  turned = unpacking n ys 64

  both : (i : ℕ) → combined_bit without 64 (map (λ x. x) xs) (map (λ x. x) items) i ≡ true
      → (item reached i ≡ true) × (item turned i ≡ false)
  both i on =
      let bit = sym (ap (λ zs. without (bit_at zs 64 i) (bit_at (map (λ x. x) items) 64 i)) (map-id xs)
      ∙ ap (λ zs. without (bit_at xs 64 i) (bit_at zs 64 i)) (map-id items ∙ same)
      ∙ ap (λ b. without b (bit_at ys 64 i)) (bit_at-is_item 64 (omega arith) n xs g i)
      ∙ ap (without (item reached i)) (bit_at-is_item 64 (omega arith) n ys h i)) ∙ on in
      let parts = and_parts (item reached i) (not (item turned i)) bit in
      (parts.0, not-true (item turned i) parts.1)

  pub turn_below : (i : ℕ) → combined_bit without 64 (map (λ x. x) xs) (map (λ x. x) items) i ≡ true
      → i < n
  turn_below i on = omega (arith, true_inside reached i (both i on).0, length-unpacking n xs 64)

  pub turn_found : (r : ℕ) (answer : Option ℕ) → r ≡ unwrap_or answer n
      → MatchOption answer (HaveNone without 64 0 (length xs) (map (λ x. x) xs) (map (λ x. x) items))
      (IsFirstCombined without 64 (map (λ x. x) xs) (map (λ x. x) items))
      → IsNextTurn n reached turned r
  turn_found r None is none = record {
    found = λ less. absurd (omega (arith, is, less));
    none = λ _ j on. has_too (item reached j) (item turned j)
        ((none_found n xs ys g h without refl items same true ((λ _. none), (λ _. refl))).0 refl j) on;
  }
  turn_found r (Some i) is first = record {
    found = λ _. subst (λ k. (item reached k ≡ true) × (item turned k ≡ false)) (sym is)
        (both i first.there);
    none = λ past. absurd (omega (arith, past, is, turn_below i first.there));
  }

-- ---- turns

-- a path and one edge more
longer : (rows : List (List Bool)) (i k j : ℕ) (through : List ℕ) → IsPath rows i through k
    → IsEdge rows k j → IsPath rows i (through ++ k ∷ []) j
longer rows i k j [] path edge = (path, edge)
longer rows i k j (x ∷ through) path edge = (path.0, longer rows x k j through path.1 edge)

module _ (rows : List (List Bool)) (from : List Bool) where
  further : (k j : ℕ) → IsReachedFrom rows from k → IsEdge rows k j → IsReachedFrom rows from j
  further k j (inl start) edge = inr (k, start, ([], edge))
  further k j (inr path) edge =
      inr (path.0, path.1, (path.2.0 ++ k ∷ [], longer rows path.0 k j path.2.0 path.2.1 edge))

  pub AreOnTheWay-start : (n : ℕ) → AreOnTheWay rows from from (replicate n false)
  AreOnTheWay-start n = record {
    kept = λ j on. on;
    sound = λ j on. inl on;
    led = λ j on. absurd (false≢true (sym (item_false n j) ∙ on));
  }

  module _ (reached turned : List Bool) (h : AreOnTheWay rows from reached turned) where
    pub AreOnTheWay-turn : (node : ℕ) → item reached node ≡ true → (after now : List Bool)
        → ((j : ℕ) → item after j ≡ (item reached j || entry rows node j))
        → IsWritten turned node true now → AreOnTheWay rows from after now
    AreOnTheWay-turn node on after now got written = record {
      kept = λ j start. got j ∙ or_left (item reached j) (entry rows node j) (h.kept j start);
      sound = λ j there. elim (or_cases (item reached j) (entry rows node j) (sym (got j) ∙ there)) [
        | inl old ↦ h.sound j old
        | inr edge ↦ further node j (h.sound node on) edge
      ];
      led = λ j there m edge. elim (cases_eq j node) [
        | inl here ↦ got m ∙ or_right (item reached m) (entry rows node m)
            (subst (λ k. IsEdge rows k m) here edge)
        | inr other ↦ got m ∙ or_left (item reached m) (entry rows node m)
            (h.led j (sym (written.others j other) ∙ there) m edge)
      ];
    }

    module _ (none : (j : ℕ) → item reached j ≡ true → item turned j ≡ true) where
      follow : (i : ℕ) (through : List ℕ) (j : ℕ) → item reached i ≡ true → IsPath rows i through j
          → item reached j ≡ true
      follow i [] j on path = h.led i (none i on) j path
      follow i (x ∷ through) j on path =
          follow x through j (h.led i (none i on) x path.0) path.1

      pub all_reached : AreReachedFrom rows from reached
      all_reached j = (
        h.sound j,
        (λ way. elim way [
          | inl start ↦ h.kept j start
          | inr path ↦ follow path.0 path.2.0 j (h.kept path.0 path.1) path.2.1
        ]),
      )

-- a turn more leaves a node less
pub fewer_left : (turned now : List Bool) (node : ℕ) → item turned node ≡ false
    → IsWritten turned node true now → count_of false now < count_of false turned
fewer_left turned now node off written =
    let counts : count_of false now + 1 ≡ count_of false turned + 0 =
    subst (λ b. count_of false now + one_of false b ≡ count_of false turned + one_of false true) off
    (written.count false) in
    omega (arith, counts)
