-- The passes that find what sets lack, as passes in which they lose it.
use Rattle.std.proofs.Common.{◌≡◌, ◌↔◌, ℕ, ◌+◌, ◌*◌, ◌<◌, ◌⊎◌, Bool, false, not, inl, inr}
use Rattle.std.proofs.Common.{List, [], length, get_or, map, sym, ap, ◌∙◌, subst, arith}
use Rattle.std.proofs.lemmas.Bool.{cases_Bool, cases_lt, false≢true, false_from_ne_true, not-true, not_from_false}
use Rattle.std.proofs.lemmas.List.{get_or_default, get_or_past, nil_from_length}
use Rattle.vob_block.specs.Packing.{item}
use Rattle.vob.specs.Vobs.{AreOfLength, total_count}
use Rattle.vob_rows.specs.Graph.{LeadToNodes}
use Rattle.vob_flow.specs.Changes.{EachBecomes, IsLacking, IsOut}
use Rattle.vob_flow.specs.Draws.{HaveShape, IsIn, IsTurn, TakePasses}
use Rattle.vob_flow.specs.Greatest.{HaveMost, IsInAll, IsLosingTurn, IsPassCount}
use Rattle.vob_flow.proofs.CountLemmas.{in_negated, negated, negated_shape, negated_whole, row_negated, same_sets, total_negated}
use Rattle.vob_flow.proofs.GreatestLemmas.{at_first, others_of}
use Rattle.vob_flow.proofs.PassLemmas.{shape_long}
use Rattle.vob_flow.proofs.TurnsLemmas.{ArePasses-map}
use Rattle.vob_flow.proofs.UnderwayLemmas.{HaveShape-trans}

module _ (places : ℕ) (next : List (List ℕ)) (mask : ℕ → ℕ → Bool) (starts lacking : List (List Bool))
    (count : length next ≡ length starts) (long : AreOfLength places starts)
    (inside : LeadToNodes next (length next))
    (first : EachBecomes starts (IsLacking mask starts) lacking (length starts)) where
  module _ (n : ℕ) (sets after : List (List Bool)) (fits : (length sets ≡ length starts)
      × AreOfLength places sets) (turn : IsTurn next (others_of starts) n sets after) where
    after_count : length after ≡ length starts
    after_count = turn.shape.count ∙ fits.0

    after_long : AreOfLength places after
    after_long = shape_long places sets after turn.shape fits.1

    module _ (v : ℕ) (node : n < length next) (small : v < places) where
      abbrev from : List ℕ
      from = get_or next n []

      out_of_after : IsIn (negated after) n v ↔ (item (get_or after n []) v ≡ false)
      out_of_after = in_negated places after after_long n v (omega (arith, node, count, after_count)) small

      out_of : (m : ℕ) → m < length next → IsIn (negated sets) m v ↔ (item (get_or sets m []) v ≡ false)
      out_of m low = in_negated places sets fits.1 m v (omega (arith, low, count, fits.0)) small

      in_all : item (get_or after n []) v ≡ false → item (get_or starts n []) v ≡ false
          → IsInAll (negated sets) (get_or next n []) v
      in_all none new k e low = (out_of (get_or from k e) (inside n node k e low)).1
          (false_from_ne_true _ (λ on. false≢true (sym none ∙ (turn.here v).1 (inr (
            not_from_false _ new,
            (k, get_or from k e, low, get_or_default from k _ e low, on),
          )))))

      loses : IsIn (negated after) n v → IsIn (negated sets) n v
          × (IsIn starts n v ⊎ IsInAll (negated sets) (get_or next n []) v)
      loses e =
          let none = out_of_after.0 e in (
            (out_of n node).1 (false_from_ne_true _ (λ on. false≢true (sym none ∙ (turn.here v).1 (inl on)))),
            elim (cases_Bool (item (get_or starts n []) v)) [
              | inl start ↦ inl start
              | inr new ↦ inr (in_all none new)
            ],
          )

      keeps : IsIn (negated sets) n v
          × (IsIn starts n v ⊎ IsInAll (negated sets) (get_or next n []) v) → IsIn (negated after) n v
      keeps both = out_of_after.1 (false_from_ne_true _ (λ on. elim ((turn.here v).0 on) [
        | inl old ↦ false≢true (sym ((out_of n node).0 both.0) ∙ old)
        | inr new ↦ elim both.1 [
          | inl start ↦ false≢true (sym (not-true _ new.0) ∙ start)
          | inr all ↦
              let some = new.1 in
              let is = get_or_default from some.0 some.1 some.1 some.2 ∙ some.3 in
              let there : IsIn (negated sets) some.1 v =
              subst (λ m. IsIn (negated sets) m v) is (all some.0 some.1 some.2) in
              false≢true (sym ((out_of some.1 (subst (λ m. m < length next) is
              (inside n node some.0 some.1 some.2))).0 there) ∙ some.4)
        ]
      ]))

    losing_turn : IsLosingTurn places next starts n (negated sets) (negated after)
    losing_turn = record {
      shape = record {
        count = (negated_shape after).count ∙ turn.shape.count ∙ sym (negated_shape sets).count;
        long = λ k. (negated_shape after).long k ∙ turn.shape.long k ∙ sym ((negated_shape sets).long k);
      };
      here = λ v node small. (loses v node small, keeps v node small);
      others = λ k other. elim (cases_lt k (length sets)) [
        | inl less ↦ row_negated after k (omega (arith, less, turn.shape.count))
            ∙ ap (λ (bits : List Bool). map not bits) (turn.others k other)
            ∙ sym (row_negated sets k less)
        | inr past ↦ get_or_past (negated after) k []
            (omega (arith, past, turn.shape.count, (negated_shape after).count))
            ∙ sym (get_or_past (negated sets) k [] (omega (arith, past, (negated_shape sets).count)))
      ];
    }

  first_long : AreOfLength places lacking
  first_long = shape_long places starts lacking first.shape long

  -- at first each set has the most that it can have
  most : HaveMost places next mask starts (negated lacking)
  most = record {
    shape = HaveShape-trans first.shape (negated_shape lacking);
    each = λ n v node small.
        let less : n < length starts = omega (arith, node, count) in
        let out = in_negated places lacking first_long n v (omega (arith, less, first.shape.count)) small in
        let lacks = at_first places next mask starts lacking long first n v less small in (
          (λ e. elim (cases_Bool (item (get_or starts n []) v)) [
            | inl start ↦ inl start
            | inr new ↦ elim (cases_Bool (mask n v)) [
              | inl keeps_it ↦ inr keeps_it
              | inr drops ↦ absurd (false≢true (sym (out.0 e) ∙ lacks.1 (new, drops)))
            ]
          ]),
          (λ either. out.1 (false_from_ne_true _ (λ lack. elim either [
            | inl start ↦ false≢true (sym (lacks.0 lack).0 ∙ start)
            | inr keeps_it ↦ false≢true (sym (lacks.0 lack).1 ∙ keeps_it)
          ]))),
        );
  }

  -- as many passes as places are lacked, and one more
  pub IsPassCount-lacking : (lacks sets : List (List Bool)) (passes : ℕ) →
      HaveShape lacking lacks → TakePasses next (others_of starts) lacking lacks passes →
      EachBecomes lacks (IsOut lacks) sets (length lacks) → IsPassCount places next mask starts sets passes
  IsPassCount-lacking lacks sets passes shape takes last =
      let all = total_negated places lacks (shape_long places lacking lacks shape first_long) in
      let same = shape.count ∙ first.shape.count in
      let fit = subst (λ n. total_count lacks + total_count (negated lacks) ≡ n * places) same all in
      rw (negated_whole lacks sets last) record {
        most = omega (arith, takes.most, fit);
        no_pass = λ none. nil_from_length starts
            (sym first.shape.count ∙ ap length (takes.no_pass none));
        count = λ some. record {
          most = negated lacking;
          are_most = most;
          passes_are = ArePasses-map negated (λ xs. (length xs ≡ length starts) × AreOfLength places xs)
              (λ n xs ys fits turn. (after_count n xs ys fits turn, after_long n xs ys fits turn))
              losing_turn (λ xs ys p q e. same_sets xs ys e) (first.shape.count, first_long)
              (negated_shape lacking).count (takes.count some);
        };
      }
