-- The cells of a state, of which those with an action are kept.
use Rattle.std.proofs.Common.{◌≡◌, ℕ, ◌+◌, ◌<◌, ◌≤◌, inl, inr, List, [], ◌∷◌, ◌++◌, length, get_or, None, Option, Some, false, slice_get, refl, sym, ap, ◌∙◌, subst, arith}
use Rattle.std.specs.List.{All, AllPairs, Contains}
use Rattle.std.specs.Option.{is_some}
use Rattle.std.proofs.lemmas.Bool.{cases_lt, false≢true}
use Rattle.std.proofs.lemmas.List.{get_or_append_left, get_or_default, get_or_past, get_or_push, length_push}
use Rattle.std.proofs.lemmas.List.Elements.{All-push, Contains-push_cases}
use Rattle.std.proofs.lemmas.List.FromFn.{fill_by_all, get_or-map-range_with_len, length-map-range_with_len, map-range_with_len_more}
use Rattle.std.proofs.lemmas.List.Quantifiers.{all_pairs_push}
use Rattle.std.proofs.lemmas.Option.{get_or_from_slice_get, slice_get-get_or, slice_get_past, slice_get_within}
use Rattle.vob_lr.specs.Kept.{Acts, AreKept, Equals, IsPushed, Keeps, cells_below}
use Rattle.vob_lr.specs.Nodes.{place_of}
use Rattle.vob_lr.specs.Tables.{chosen}
use Rattle.vob_lr.specs.declared.table.Cell.{Cell}
use Rattle.vob_lr.proofs.SetLemmas.{place_append, place_inside, place_is, place_past}

chosen_none : (shift : Option ℕ) (reduces : List ℕ) → is_some (chosen shift reduces) ≡ false →
    (shift ≡ None) × (reduces ≡ [])
chosen_none None [] none = (refl, refl)
chosen_none None (r ∷ rules) none = absurd (false≢true (sym none))
chosen_none (Some p) rules none = absurd (false≢true (sym none))

-- ---- equal cells

pub Keeps-found : (kept : List Cell) (cell : Cell) (place : ℕ) (own : Cell) → slice_get kept place ≡ Some own →
    Equals cell own → Keeps kept cell kept place
Keeps-found kept cell place own is same = record {
  long = omega arith;
  stays = λ k d less. refl;
  inside = slice_get_within kept place own is;
  there = λ d. subst (λ (c : Cell). Equals cell c) (sym (get_or_from_slice_get kept place own d is)) same;
  differ = λ h. h;
  act = λ own h. h;
}

pub Keeps-pushed : (kept : List Cell) (cell : Cell) (place : ℕ) → place ≡ length kept →
    All (λ own. ¬ Equals cell own) kept → Keeps kept cell (kept ++ cell ∷ []) place
Keeps-pushed kept cell place at none = record {
  long = omega (arith, length_push kept cell);
  stays = λ k d less. get_or_append_left kept (cell ∷ []) d k less;
  inside = omega (arith, at, length_push kept cell);
  there = λ d. subst (λ (c : Cell). Equals cell c) (sym (get_or_push kept cell d place (sym at))) (refl, refl);
  differ = λ h. all_pairs_push (λ earlier later. ¬ Equals later earlier) kept cell h none;
  act = λ own h. All-push Acts kept cell h own;
}

-- ---- the cells of a row

module _ (n : ℕ) (terminals places : List ℕ) (kept : List Cell) (nothing : Cell) where
  abbrev cells : List Cell
  cells = cells_below n terminals places kept nothing

  abbrev at : ℕ → Cell
  at t = get_or kept (get_or places (place_of terminals t) (length kept)) nothing

  cells_long : length cells ≡ n
  cells_long = length-map-range_with_len at 0 n

  cells_at : (t : ℕ) (d : Cell) → t < n → get_or cells t d ≡ at t
  cells_at t d less = get_or-map-range_with_len at 0 n t t d less (omega arith)

  cells_read : (t : ℕ) → t < n → slice_get cells t ≡ Some (at t)
  cells_read t less =
      let low : t < length cells = omega (arith, less, cells_long) in
      slice_get-get_or cells t nothing low ∙ ap Some (cells_at t nothing less)

  pub cells_past : (t : ℕ) → n ≤ t → slice_get (cells_below n terminals places kept nothing) t ≡ None
  cells_past t past = slice_get_past cells t (omega (arith, past, cells_long))

  -- one cell more
  cells_more : (after wider : List ℕ) (more : List Cell) → ((t : ℕ) → t < n →
      get_or more (get_or wider (place_of after t) (length more)) nothing ≡ at t) → (own : Cell) →
      get_or more (get_or wider (place_of after n) (length more)) nothing ≡ own →
      cells_below (n + 1) after wider more nothing ≡ cells ++ own ∷ []
  cells_more after wider more same own is =
      let f = λ (t : ℕ). get_or more (get_or wider (place_of after t) (length more)) nothing in
      let all = fill_by_all f cells n nothing cells_long
      (λ k less. cells_at k nothing less ∙ sym (same k less)) in
      map-range_with_len_more f 0 n n (omega arith)
      ∙ ap (λ (cs : List Cell). cs ++ f n ∷ []) (sym all)
      ∙ ap (λ (c : Cell). cells ++ c ∷ []) is

  module _ (h : AreKept n terminals places kept nothing) where
    -- a terminal that isn't there has a cell that holds nothing
    at_none : (t : ℕ) → (¬ Contains terminals t) → at t ≡ nothing
    at_none t none =
        let past = get_or_past places (place_of terminals t) (length kept)
        (omega (arith, place_past terminals t none, h.long)) in
        ap (λ k. get_or kept k nothing) past ∙ get_or_past kept (length kept) nothing (omega arith)

    -- and one that is there has a place
    pub kept_inside : (place : ℕ) → place < length places → (d : ℕ) → get_or places place d < length kept
    kept_inside place less d = h.inside place d less

    pub place_there : (t place : ℕ) → Contains terminals t → place ≡ place_of terminals t → place < length places
    place_there t place there at = omega (arith, place_inside terminals t there, h.long, at)

    pub kept_read : (t place : ℕ) → t < n → Contains terminals t → place ≡ place_of terminals t → (d : ℕ)
        (cell : Cell) → cell ≡ get_or kept (get_or places place d) cell →
        slice_get (cells_below n terminals places kept nothing) t ≡ Some cell
    kept_read t place less there is d cell read =
        let low = place_there t place there is in
        let k = ap (λ p. get_or places p (length kept)) (sym is) ∙ get_or_default places place (length kept) d low in
        cells_read t less ∙ ap Some
        (ap (λ p. get_or kept p nothing) k
        ∙ get_or_default kept (get_or places place d) nothing cell (kept_inside place low d) ∙ sym read)

    pub nothing_read : (t : ℕ) → t < n → (¬ Contains terminals t) →
        slice_get (cells_below n terminals places kept nothing) t ≡ Some nothing
    nothing_read t less none = cells_read t less ∙ ap Some (at_none t none)

    not_last : ¬ Contains terminals n
    not_last (k, less, is) = omega (arith, h.below k n less, is)

    -- a cell without an action isn't kept
    pub AreKept-without : AreKept (n + 1) terminals places kept nothing
    AreKept-without = record {
      rise = h.rise;
      below = λ k d less. omega (arith, h.below k d less);
      long = h.long;
      inside = h.inside;
      differ = h.differ;
      act = h.act;
      no_shift = h.no_shift;
      no_reduces = h.no_reduces;
    }

    pub IsPushed-without : (cell : Cell) → is_some (chosen cell.shift cell.reduces.items) ≡ false →
        IsPushed (cells_below n terminals places kept nothing) cell
        (cells_below (n + 1) terminals places kept nothing)
    IsPushed-without cell none =
        let (shift, reduces) = chosen_none cell.shift cell.reduces.items none in (
          nothing,
          (h.no_shift ∙ sym shift, h.no_reduces ∙ sym reduces),
          cells_more terminals places kept (λ t less. refl) nothing (at_none n not_last),
        )

    -- another is, with its terminal
    module _ (cell : Cell) (more : List Cell) (place : ℕ) (k : Keeps kept cell more place) where
      abbrev after : List ℕ
      after = terminals ++ n ∷ []

      abbrev wider : List ℕ
      wider = places ++ place ∷ []

      rises : AllPairs (λ t u. t < u) after
      rises = all_pairs_push (λ t u. t < u) terminals n h.rise (λ k d less. h.below k d less)

      pub AreKept-with : Acts cell →
          AreKept (n + 1) (terminals ++ n ∷ []) (places ++ place ∷ []) more nothing
      AreKept-with own = record {
        rise = rises;
        below = All-push (λ t. t < n + 1) terminals n (λ k d less. omega (arith, h.below k d less)) (omega arith);
        long = omega (arith, h.long, length_push terminals n, length_push places place);
        inside = All-push (λ p. p < length more) places place
            (λ i d less. omega (arith, h.inside i d less, k.long)) k.inside;
        differ = k.differ h.differ;
        act = k.act own h.act;
        no_shift = h.no_shift;
        no_reduces = h.no_reduces;
      }

      not_pushed : (t : ℕ) → t < n → (¬ Contains terminals t) → ¬ Contains after t
      not_pushed t less none there = elim (Contains-push_cases terminals n t there) [
        | inl old ↦ none old
        | inr same ↦ omega (arith, same, less)
      ]

      old_stays : (t : ℕ) → t < n → get_or more (get_or wider (place_of after t) (length more)) nothing ≡ at t
      old_stays t less = elim (cases_lt (place_of terminals t) (length terminals)) [
        | inl low ↦
            let p = place_of terminals t in
            let there : p < length places = omega (arith, low, h.long) in
            let same = ap (λ q. get_or wider q (length more)) (place_append terminals (n ∷ []) t low)
            ∙ get_or_append_left places (place ∷ []) (length more) p there
            ∙ get_or_default places p (length more) (length kept) there in
            ap (λ q. get_or more q nothing) same
            ∙ k.stays (get_or places p (length kept)) nothing (kept_inside p there (length kept))
        | inr past ↦
            let none : ¬ Contains terminals t = λ there. omega (arith, place_inside terminals t there, past) in
            let over = place_past after t (not_pushed t less none) in
            ap (λ q. get_or more q nothing) (get_or_past wider (place_of after t) (length more)
            (omega (arith, over, h.long, length_push terminals n, length_push places place)))
            ∙ get_or_past more (length more) nothing (omega arith) ∙ sym (at_none t none)
      ]

      last_is : get_or more (get_or wider (place_of after n) (length more)) nothing ≡ get_or more place nothing
      last_is =
          let low : length terminals < length after = omega (arith, length_push terminals n) in
          let here = place_is after n (length terminals) rises low
          (get_or_push terminals n 0 (length terminals) refl) in
          ap (λ q. get_or more q nothing)
          (get_or_push places place (length more) (place_of after n) (omega (arith, here, h.long)))

      pub IsPushed-with :
          IsPushed (cells_below n terminals places kept nothing) cell
          (cells_below (n + 1) (terminals ++ n ∷ []) (places ++ place ∷ []) more nothing)
      IsPushed-with =
          (get_or more place nothing, k.there nothing, cells_more after wider more old_stays (get_or more place nothing) last_is)
