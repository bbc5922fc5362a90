-- The nodes that were reached, one after another.
use Rattle.std.proofs.Common.{◌≡◌, ℕ, ◌+◌, ◌<◌, ◌⊎◌, Bool, true, false, inl, inr}
use Rattle.std.proofs.Common.{List, [], ◌∷◌, ◌++◌, length, get_or, take, replicate, refl, sym, ap, ◌∙◌, subst, arith}
use Rattle.std.specs.List.{Contains}
use Rattle.std.proofs.lemmas.Bool.{cases_Bool, cases_eq, false≢true}
use Rattle.std.proofs.lemmas.List.{length-replicate, length_push, take_more}
use Rattle.std.proofs.lemmas.List.Elements.{Contains-append_left, Contains-push, Contains-push_cases}
use Rattle.vob_block.specs.Packing.{item}
use Rattle.vob_block.specs.Pointwise.{differ}
use Rattle.vob.specs.Bits.{IsWritten}
use Rattle.vob_block.proofs.PackingLemmas.{true_inside}
use Rattle.vob.proofs.BitsLemmas.{item_false}
use Rattle.vob_flow.specs.Closure.{IsEdge}
use Rattle.vob_flow.specs.Reach.{AreOnTheWay, AreReached, HaveEntered, Reaches}
use Rattle.vob_flow.specs.Reach.Reaches.{at_start, along}
use Rattle.vob_flow.proofs.OrderLemmas.{steps_seen, still_seen}

-- what the flag of a set bit says of it
pub was_off : (b : Bool) → differ b true ≡ true → b ≡ false
was_off true e = absurd (false≢true e)
was_off false e = refl

pub was_on : (b : Bool) → differ b true ≡ false → b ≡ true
was_on true e = refl
was_on false e = absurd (false≢true (sym e))

pub HaveEntered-none : (nodes : List ℕ) (reached : List Bool) (waiting : List ℕ) →
    HaveEntered (take 0 nodes) reached waiting reached waiting
HaveEntered-none nodes reached waiting = record {
  len = refl;
  kept = λ n e. e;
  given = λ n within. absurd (omega (arith, within.1));
  only = λ n e. inl e;
  new = λ n e. inl e;
  old = λ n waits. waits;
  there = λ n waits. inl waits;
  steps = omega arith;
}

module _ (nodes : List ℕ) (reached : List Bool) (waiting : List ℕ) (mid : List Bool)
    (waits : List ℕ) (k m : ℕ) (inside : k < length nodes) (at : get_or nodes k 0 ≡ m)
    (h : HaveEntered (take k nodes) reached waiting mid waits) where
  more : take (k + 1) nodes ≡ take k nodes ++ m ∷ []
  more = take_more nodes k 0 inside ∙ ap (λ n. take k nodes ++ n ∷ []) at

  with_more : (after : List Bool) (now : List ℕ) →
      HaveEntered (take k nodes ++ m ∷ []) reached waiting after now →
      HaveEntered (take (k + 1) nodes) reached waiting after now
  with_more after now entered =
      subst (λ (ns : List ℕ). HaveEntered ns reached waiting after now) (sym more) entered

  -- a node that was reached
  pub HaveEntered-old : item mid m ≡ true →
      HaveEntered (take (k + 1) nodes) reached waiting mid waits
  HaveEntered-old on = with_more mid waits record {
    len = h.len;
    kept = h.kept;
    given = λ n within. elim (Contains-push_cases (take k nodes) m n within) [
      | inl before ↦ h.given n before
      | inr same ↦ subst (λ j. item mid j ≡ true) same on
    ];
    only = λ n e. elim (h.only n e) [
      | inl old ↦ inl old
      | inr before ↦ inr (Contains-append_left (take k nodes) (m ∷ []) n before)
    ];
    new = h.new;
    old = h.old;
    there = h.there;
    steps = h.steps;
  }

  -- and one that wasn't, which waits now
  pub HaveEntered-new : (after : List Bool) → item mid m ≡ false → IsWritten mid m true after →
      HaveEntered (take (k + 1) nodes) reached waiting after (waits ++ m ∷ [])
  HaveEntered-new after off w =
      let before : (n : ℕ) → item after n ≡ true → (item mid n ≡ true) ⊎ (m ≡ n) =
      λ n e. elim (cases_eq n m) [
        | inl here ↦ inr (sym here)
        | inr other ↦ inl (sym (w.others n other) ∙ e)
      ] in
      with_more after (waits ++ m ∷ []) record {
        len = w.len ∙ h.len;
        kept = λ n e. still_seen m w n (h.kept n e);
        given = λ n within. elim (Contains-push_cases (take k nodes) m n within) [
          | inl old ↦ still_seen m w n (h.given n old)
          | inr same ↦ subst (λ j. item after j ≡ true) same w.there
        ];
        only = λ n e. elim (before n e) [
          | inl was ↦ elim (h.only n was) [
            | inl old ↦ inl old
            | inr given ↦ inr (Contains-append_left (take k nodes) (m ∷ []) n given)
          ]
          | inr same ↦ inr (subst (Contains (take k nodes ++ m ∷ [])) same
              (Contains-push (take k nodes) m))
        ];
        new = λ n e. elim (before n e) [
          | inl was ↦ elim (h.new n was) [
            | inl old ↦ inl old
            | inr waits_so ↦ inr (Contains-append_left waits (m ∷ []) n waits_so)
          ]
          | inr same ↦ inr (subst (Contains (waits ++ m ∷ [])) same (Contains-push waits m))
        ];
        old = λ n waits_so. Contains-append_left waits (m ∷ []) n (h.old n waits_so);
        there = λ n now. elim (Contains-push_cases waits m n now) [
          | inl was ↦ elim (h.there n was) [
            | inl old ↦ inl old
            | inr e ↦ inr (still_seen m w n e.0, e.1)
          ]
          | inr same ↦ inr (subst (λ j. (item after j ≡ true) × (item reached j ≡ false)) same (
            w.there,
            elim (cases_Bool (item reached m)) [
              | inl on ↦ absurd (false≢true (sym off ∙ h.kept m on))
              | inr unset ↦ unset
            ],
          ))
        ];
        steps = omega (arith, h.steps, steps_seen m off w, length_push waits m);
      }

-- ---- all of them

pub AreOnTheWay-start : (next : List (List ℕ)) (from : List ℕ) (after : List Bool)
    (waits : List ℕ) → HaveEntered from (replicate (length next) false) [] after waits →
    AreOnTheWay next from after waits
AreOnTheWay-start next from after waits h =
    let none : (n : ℕ) → item (replicate (length next) false) n ≡ true → ⊥ =
    λ n e. false≢true (sym (item_false (length next) n) ∙ e) in
    record {
      len = h.len ∙ length-replicate (length next) false;
      starts = h.given;
      reaches = λ n e. elim (h.only n e) [
        | inl old ↦ absurd (none n old)
        | inr start ↦ at_start start
      ];
      waits = λ n now. elim (h.there n now) [
        | inl old ↦ absurd (omega (arith, old.1))
        | inr e ↦ e.0
      ];
      done = λ n e. elim (h.new n e) [
        | inl old ↦ absurd (none n old)
        | inr waits_so ↦ inl waits_so
      ];
    }

pub AreOnTheWay-turn : (next : List (List ℕ)) (from : List ℕ) (reached : List Bool)
    (rest : List ℕ) (node : ℕ) (after : List Bool) (waits : List ℕ) →
    AreOnTheWay next from reached (rest ++ node ∷ []) →
    HaveEntered (get_or next node []) reached rest after waits → AreOnTheWay next from after waits
AreOnTheWay-turn next from reached rest node after waits h e = record {
  len = e.len ∙ h.len;
  starts = λ n start. e.kept n (h.starts n start);
  reaches = λ n on. elim (e.only n on) [
    | inl old ↦ h.reaches n old
    | inr edge ↦ along (h.reaches node (h.waits node (Contains-push rest node))) edge
  ];
  waits = λ n now. elim (e.there n now) [
    | inl old ↦ e.kept n (h.waits n (Contains-append_left rest (node ∷ []) n old))
    | inr on ↦ on.0
  ];
  done = λ n on. elim (e.new n on) [
    | inr now ↦ inl now
    | inl old ↦ elim (h.done n old) [
      | inr led ↦ inr (λ m edge. e.kept m (led m edge))
      | inl waits_so ↦ elim (Contains-push_cases rest node n waits_so) [
        | inl still ↦ inl (e.old n still)
        | inr same ↦ inr (λ m edge. e.given m (subst (λ j. IsEdge next j m) (sym same) edge))
      ]
    ]
  ];
}

module _ (next : List (List ℕ)) (from : List ℕ) (set : List Bool)
    (h : AreOnTheWay next from set []) where
  reached_in : {n : ℕ} → Reaches next from n → item set n ≡ true
  reached_in (at_start start) = h.starts _ start
  reached_in (along {n = n} {m = m} r edge) = elim (h.done n (reached_in r)) [
    | inl waits ↦ absurd (omega (arith, waits.1))
    | inr led ↦ led m edge
  ]

  pub AreReached-whole : AreReached next from set
  AreReached-whole = record {
    len = h.len;
    each = λ n. (h.reaches n, reached_in);
  }

-- a node that waits is there
pub waiting_inside : (next : List (List ℕ)) (from : List ℕ) (reached : List Bool) (waiting : List ℕ)
    (node : ℕ) → AreOnTheWay next from reached waiting → Contains waiting node → node < length next
waiting_inside next from reached waiting node h waits =
    omega (arith, true_inside reached node (h.waits node waits), h.len)
