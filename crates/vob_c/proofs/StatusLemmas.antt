-- Which status says what.
use Rattle.std.proofs.Common.{◌≡◌, ◌≢◌, ◌↔◌, ℕ, ◌<◌, IsTrue, ltb, arith, ltb-true, lt-ltb, inl, inr, refl}
use Rattle.vob_c.specs.Status.{Tells, TellsWords}

module _ {words canonical : Type 0} where
  pub tells_length : ¬ words → TellsWords 1 words canonical
  tells_length none = record {
    ok = ((λ e. absurd (omega (arith, e))), (λ both. absurd (none both.0)));
    length = ((λ _. none), (λ _. omega arith));
    not_canonical = ((λ e. absurd (omega (arith, e))), (λ both. absurd (none both.0)));
    known = inr (inl refl);
  }

  pub tells_not_canonical : words → ¬ canonical → TellsWords 4 words canonical
  tells_not_canonical many none = record {
    ok = ((λ e. absurd (omega (arith, e))), (λ both. absurd (none both.1)));
    length = ((λ e. absurd (omega (arith, e))), (λ other. absurd (other many)));
    not_canonical = ((λ _. (many, none)), (λ _. omega arith));
    known = inr (inr refl);
  }

  pub tells_ok : words → canonical → TellsWords 0 words canonical
  tells_ok many also = record {
    ok = ((λ _. (many, also)), (λ _. omega arith));
    length = ((λ e. absurd (omega (arith, e))), (λ other. absurd (other many)));
    not_canonical = ((λ e. absurd (omega (arith, e))), (λ both. absurd (both.1 also)));
    known = inl refl;
  }

  -- of what holds a range is tested last
  pub tells_range : {range : Type 0} → words → canonical → ¬ range → Tells 2 words canonical range
  tells_range many also none = record {
    ok = ((λ e. absurd (omega (arith, e))), (λ all. absurd (none all.2)));
    length = ((λ e. absurd (omega (arith, e))), (λ other. absurd (other many)));
    not_canonical = ((λ e. absurd (omega (arith, e))), (λ both. absurd (both.1 also)));
    out_of_range = ((λ _. (many, also, none)), (λ _. omega arith));
    known = inr (inr (inl refl));
  }

  pub tells_inside : {range : Type 0} {status : ℕ} → TellsWords status words canonical
      → (status ≡ 0 → range) → Tells status words canonical range
  tells_inside {range} {status} told inside = record {
    ok = (
      (λ e. let both = told.ok.0 e in (both.0, both.1, inside e)),
      (λ all. told.ok.1 (all.0, all.1)),
    );
    length = told.length;
    not_canonical = told.not_canonical;
    out_of_range = (
      (λ e. absurd (elim told.known [
        | inl zero_is ↦ omega (arith, e, zero_is)
        | inr more ↦ elim more [
          | inl one_is ↦ omega (arith, e, one_is)
          | inr four_is ↦ omega (arith, e, four_is)
        ]
      ])),
      (λ all. absurd (all.2 (inside (told.ok.1 (all.0, all.1))))),
    );
    known = elim told.known [
      | inl zero_is ↦ inl zero_is
      | inr more ↦ elim more [
        | inl one_is ↦ inr (inl one_is)
        | inr four_is ↦ inr (inr (inr four_is))
      ]
    ];
  }

  -- a range by a test of it
  pub tells_by : {range other : Type 0} {status : ℕ} → (range ↔ other)
      → Tells status words canonical range → Tells status words canonical other
  tells_by same told = record {
    ok = (
      (λ e. let all = told.ok.0 e in (all.0, all.1, same.0 all.2)),
      (λ all. told.ok.1 (all.0, all.1, same.1 all.2)),
    );
    length = told.length;
    not_canonical = told.not_canonical;
    out_of_range = (
      (λ e. let all = told.out_of_range.0 e in (all.0, all.1, (λ held. all.2 (same.1 held)))),
      (λ all. told.out_of_range.1 (all.0, all.1, (λ held. all.2 (same.0 held)))),
    );
    known = told.known;
  }

  pub tells_less : {i n status : ℕ} → Tells status words canonical (IsTrue (ltb i n))
      → Tells status words canonical (i < n)
  tells_less {i} {n} told = tells_by (ltb-true i n, lt-ltb i n) told

  pub tells_all : {range : Type 0} → words → canonical → range → Tells 0 words canonical range
  tells_all many also inside = tells_inside (tells_ok many also) (λ _. inside)

  -- one more test after those that failed
  pub tells_narrow : {range more : Type 0} {status : ℕ} → Tells status words canonical range
      → status ≢ 0 → (more → range) → Tells status words canonical more
  tells_narrow {range} {more} {status} told failed wider = record {
    ok = (
      (λ e. absurd (failed e)),
      (λ all. absurd (failed (told.ok.1 (all.0, all.1, wider all.2)))),
    );
    length = told.length;
    not_canonical = told.not_canonical;
    out_of_range = (
      (λ e. let all = told.out_of_range.0 e in (all.0, all.1, (λ held. all.2 (wider held)))),
      (λ all. elim told.known [
        | inl zero_is ↦ absurd (failed zero_is)
        | inr more ↦ elim more [
          | inl one_is ↦ absurd (told.length.0 one_is all.0)
          | inr rest ↦ elim rest [
            | inl two_is ↦ two_is
            | inr four_is ↦ absurd ((told.not_canonical.0 four_is).1 all.1)
          ]
        ]
      ]),
    );
    known = told.known;
  }
