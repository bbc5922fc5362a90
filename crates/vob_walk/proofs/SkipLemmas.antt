-- A scan of one block, one that goes on after another, and which blocks its steps read.
use Rattle.std.proofs.Common.{◌≡◌, ◌≢◌, ℕ, ◌+◌, ◌-◌, ◌<◌, ◌≤◌, true, false, List, map, get_or}
use Rattle.std.proofs.Common.{is_some, Option, Some, None, refl, sym, ap, ◌∙◌, subst, arith, inl}
use Rattle.std.proofs.Common.{inr}
use Rattle.std.proofs.lemmas.Bool.{cases_lt, false≢true}
use Rattle.vob_block.specs.Reading.{Reading}
use Rattle.vob_walk.specs.declared.walk.End.{End}
use Rattle.vob_walk.specs.declared.walk.End.TheVariants.{Front, Back}
use Rattle.vob_walk.specs.Skip.{from_end, side_start, side_end, Steps, Scans}

-- ---- steps, of which step i reads block `at i`

module _ {X : Type 0} (number : X → ℕ) (skip : X) (at : ℕ → ℕ) where
  abbrev steps : Reading X → Reading X → ℕ → ℕ → Option (ℕ × ℕ × X) → Type 0
  steps = Steps number skip at

  abbrev block_of : List X → ℕ → ℕ
  block_of items i = get_or (map number items) (at i) 0

  -- one block read
  read_at : (items : List X) {i k : ℕ} {block : X} → k ≡ at i
      → number block ≡ get_or (map number items) k 0 → number block ≡ block_of items i
  read_at items here read = read ∙ ap (λ n. get_or (map number items) n 0) here

  module _ {x y : Reading X} {i k : ℕ} {block : X} (here : k ≡ at i)
      (read : number block ≡ get_or (map number x.items) k 0)
      (reads : y.reads ≡ x.reads + 1) (items : y.items ≡ x.items) where
    pub Steps-skipped : number block ≡ number skip → steps x y i (i + 1) None
    Steps-skipped same = record {
      found = λ j from below.
          let own : j ≡ i = omega arith in
          ap (block_of x.items) own ∙ sym (read_at x.items here read) ∙ same;
      reads = omega arith;
      items = items;
    }

    pub Steps-other : number block ≢ number skip → steps x y i (i + 1) (Some (i, k, block))
    Steps-other differs = record {
      found = (
        record {
          from = omega arith;
          below = omega arith;
          same = read_at x.items here read;
          other = differs;
        },
        here,
        λ j from below. absurd (omega arith),
      );
      reads = omega arith;
      items = items;
    }

  -- none read
  pub Steps-start : (x : Reading X) (m n : ℕ) → m ≡ n → steps x x m n None
  Steps-start x m n same = record {
    found = λ k from below. absurd (omega arith);
    reads = ap (λ i. x.reads + i) same;
    items = refl;
  }

  -- after steps that found none a scan goes on; what it found is what is found up to the end
  pub Steps-on : {x y z : Reading X} {first found : Option (ℕ × ℕ × X)} (a m c b : ℕ) → a ≤ m
      → m ≤ c → c ≤ b → is_some first ≡ false → is_some found ≡ true → steps x y a m first
      → steps y z m c found → steps x z a b found
  Steps-on {first = None} {found = Some p} a m c b low some high nothing there h k = record {
    found = (
      record {
        from = omega arith;
        below = omega arith;
        same = k.found.0.same ∙ ap (λ l. block_of l p.0) h.items;
        other = k.found.0.other;
      },
      k.found.1,
      λ i from below. elim (cases_lt i m) [
        | inl before ↦ h.found i from before
        | inr behind ↦ ap (λ l. block_of l i) (sym h.items) ∙ k.found.2 i behind below
      ],
    );
    reads = omega arith;
    items = k.items ∙ h.items;
  }
  Steps-on {first = None} {found = None} a m c b low some high nothing there h k =
      absurd (false≢true there)
  Steps-on {first = Some p} {found = found} a m c b low some high nothing there h k =
      absurd (false≢true (sym nothing))

  -- and if none was found after them either, that is a scan of them all
  pub Steps-past : {x y z : Reading X} {first found : Option (ℕ × ℕ × X)} (a m b : ℕ) {end : ℕ}
      → a ≤ m → m ≤ b → end ≡ b → is_some first ≡ false → is_some found ≡ false → steps x y a m first
      → steps y z m b found → steps x z a end None
  Steps-past {first = None} {found = None} a m b low high same nothing no_other h k = record {
    found = λ i from below. elim (cases_lt i m) [
      | inl before ↦ h.found i from before
      | inr behind ↦ ap (λ l. block_of l i) (sym h.items) ∙ k.found i behind (omega arith)
    ];
    reads = omega arith;
    items = k.items ∙ h.items;
  }
  Steps-past {first = None} {found = Some p} a m b low high same nothing no_other h k =
      absurd (false≢true (sym no_other))
  Steps-past {first = Some p} {found = found} a m b low high same nothing no_other h k =
      absurd (false≢true (sym nothing))

  -- so it is all that a scan up to there found
  pub Steps-after : {x y z : Reading X} {first found : Option (ℕ × ℕ × X)} (a m b : ℕ) → a ≤ m
      → m ≤ b → is_some first ≡ false → steps x y a m first → steps y z m b found → steps x z a b found
  Steps-after {found = None} a m b low high nothing h k =
      Steps-past a m b low high refl nothing refl h k
  Steps-after {found = Some p} a m b low high nothing h k =
      Steps-on a m b b low high (omega arith) nothing refl h k

-- ---- the blocks that steps from an end read

-- block k is that of a step
step_of : (side : End) (a b k : ℕ) → a ≤ k → k < b
    → (i : ℕ) × (i < b - a) × (from_end side a b i ≡ k)
unfolding from_end
step_of Front a b k low high = (k - a, omega arith, omega arith)
step_of Back a b k low high = (b - 1 - k, omega arith, omega arith)

-- so are those at the side of the block of a step, each of one before
before_step : (side : End) (a b i k : ℕ) → i < b - a → side_start side a (from_end side a b i) ≤ k
    → k < side_end side b (from_end side a b i) → (j : ℕ) × (j < i) × (from_end side a b j ≡ k)
unfolding from_end
before_step Front a b i k inside low high = (k - a, omega arith, omega arith)
before_step Back a b i k inside low high = (b - 1 - k, omega arith, omega arith)

at_step : (side : End) (a b i : ℕ) → i < b - a
    → (a ≤ from_end side a b i) × (from_end side a b i < b)
    × (side_end side b (from_end side a b i) + 1 - side_start side a (from_end side a b i) ≡ i + 1)
unfolding from_end
at_step Front a b i inside = (omega arith, omega arith, omega arith)
at_step Back a b i inside = (omega arith, omega arith, omega arith)

module _ {X : Type 0} {number : X → ℕ} {skip : X} {x y : Reading X} (side : End) (a b : ℕ) where
  pub Scans-none : Steps number skip (from_end side a b) x y 0 (b - a) None
      → Scans side number skip x y a b None
  Scans-none h = record {
    found = λ k low high.
        let step = step_of side a b k low high in
        ap (λ j. get_or (map number x.items) j 0) (sym step.2)
        ∙ h.found step.0 (omega arith) step.1;
    reads = omega arith;
    items = h.items;
  }

  pub Scans-some : (i k : ℕ) (block : X)
      → Steps number skip (from_end side a b) x y 0 (b - a) (Some (i, k, block))
      → Scans side number skip x y a b (Some (k, block))
  Scans-some i k block h =
      let inside = h.found.0.below in
      let here = at_step side a b i inside in
      subst (λ (n : ℕ). Scans side number skip x y a b (Some (n, block))) (sym h.found.1) (record {
        found = (
          record {
            from = here.0;
            below = here.1;
            same = h.found.0.same;
            other = h.found.0.other;
          },
          λ j low high.
              let step = before_step side a b i j inside low high in
              ap (λ n. get_or (map number x.items) n 0) (sym step.2)
              ∙ h.found.2 step.0 (omega arith) step.1,
        );
        reads = omega arith;
        items = h.items;
      })

-- none was found where nothing that is found is what was found
pub none_found : {A : Type 0} (found : Option A) → ((p : A) → found ≡ Some p → ⊥) → found ≡ None
none_found None nothing = refl
none_found (Some p) nothing = absurd (nothing p refl)
