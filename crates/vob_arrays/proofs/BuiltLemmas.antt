-- Entries that are built state by state, and the arrays that are made of them.
use Rattle.std.proofs.Common.{◌≡◌, ◌↔◌, ℕ, ◌+◌, ◌-◌, ◌<◌, ◌≤◌, List, [], ◌∷◌, ◌++◌, length, get_or, map, slice_get, Some, refl, sym, ap, ◌∙◌, subst, inl, inr, arith, length-append}
use Rattle.std.specs.List.{Contains}
use Rattle.std.specs.Option.{option_map}
use Rattle.std.proofs.lemmas.Bool.{cases_lt}
use Rattle.std.proofs.lemmas.List.{get_or_append_left, get_or-append-add, get_or_past, length-map}
use Rattle.std.proofs.lemmas.Option.{get_or_from_slice_get, same_Some, slice_get-get_or, slice_get-map, slice_get_within}
use Rattle.std.proofs.Math.Seq.{get_or-append_seam}
use Rattle.vob_lr.specs.Stops.{IsSound}
use Rattle.vob_lr.specs.Tables.{TableView}
use Rattle.vob_arrays.specs.Arrays.{HasEntry, IsEntry, IsTableOf}
use Rattle.vob_arrays.specs.Views.{TableArrays}
use Rattle.vob_arrays.specs.Building.{Appends, AreBuilt, StandsAt}
use Rattle.vob_arrays.specs.declared.build.Entry.{Entry}
use Rattle.vob_arrays.proofs.EntryLemmas.{no_entry}

abbrev entry : ℕ → ℕ → Entry
entry x a = record { symbol = x; action = a }

-- ---- one state more

-- the offsets stay
offset_left : (offsets : List ℕ) (end k : ℕ) → k < length offsets →
    get_or (offsets ++ end ∷ []) k 0 ≡ get_or offsets k 0
offset_left offsets end k low = get_or_append_left offsets (end ∷ []) 0 k low

-- and one is added
offset_last : (offsets : List ℕ) (end n : ℕ) → length offsets ≡ n →
    get_or (offsets ++ end ∷ []) n 0 ≡ end
offset_last offsets end n long =
    ap (λ (k : ℕ). get_or (offsets ++ end ∷ []) k 0) (sym long) ∙ get_or-append_seam offsets end [] 0

-- what stands before others is where it was
entry_left : (es row : List Entry) (k : ℕ) (e : Entry) → k < length es →
    slice_get (es ++ row) k ≡ slice_get es k
entry_left es row k e low =
    slice_get-get_or (es ++ row) k e (omega (arith, low, length-append es row))
    ∙ ap Some (get_or_append_left es row e k low) ∙ sym (slice_get-get_or es k e low)

module _ {P : ℕ → ℕ → ℕ → Type 0} (n : ℕ) (offsets : List ℕ) (before after : List Entry)
    (built : AreBuilt P n offsets before) (more : Appends (P n) before after) where
  abbrev offsets' : List ℕ
  offsets' = offsets ++ length after ∷ []

  long : length after ≡ length before + length more.row
  long = ap length more.is ∙ length-append before more.row

  stands_before : (q x a : ℕ) → q < n →
      StandsAt offsets' after q x a ↔ StandsAt offsets before q x a
  stands_before q x a low =
      let from = offset_left offsets (length after) q (omega (arith, low, built.count)) in
      let below = offset_left offsets (length after) (q + 1) (omega (arith, low, built.count)) in
      let inside = built.inside (q + 1) (omega (arith, low, built.count)) in (
        (λ s. record {
          place = s.place;
          from = omega (arith, from, s.from);
          below = omega (arith, below, s.below);
          is = sym (entry_left before more.row s.place (entry x a) (omega (arith, below, inside, s.below)))
              ∙ ap (λ (es : List Entry). slice_get es s.place) (sym more.is) ∙ s.is;
        }),
        (λ s. record {
          place = s.place;
          from = omega (arith, from, s.from);
          below = omega (arith, below, s.below);
          is = ap (λ (es : List Entry). slice_get es s.place) more.is
              ∙ entry_left before more.row s.place (entry x a) (omega (arith, inside, s.below)) ∙ s.is;
        }),
      )

  stands_last : (x a : ℕ) → StandsAt offsets' after n x a ↔ Contains more.row (entry x a)
  stands_last x a =
      let from = offset_left offsets (length after) n (omega (arith, built.count)) in
      let below = offset_last offsets (length after) (n + 1) built.count in (
        (λ s.
            let k = s.place - length before in
            let at : length before + k ≡ s.place = omega (arith, from, s.from, built.last) in (
              k,
              omega (arith, at, below, s.below, long),
              sym (get_or-append-add before more.row k (entry x a))
                  ∙ ap (λ (i : ℕ). get_or (before ++ more.row) i (entry x a)) at
                  ∙ ap (λ (es : List Entry). get_or es s.place (entry x a)) (sym more.is)
                  ∙ get_or_from_slice_get after s.place (entry x a) (entry x a) s.is,
            )),
        (λ (k, low, is). record {
          place = length before + k;
          from = omega (arith, from, built.last);
          below = omega (arith, below, low, long);
          is = slice_get-get_or after (length before + k) (entry x a) (omega (arith, low, long))
              ∙ ap Some (ap (λ (es : List Entry). get_or es (length before + k) (entry x a)) more.is
              ∙ get_or-append-add before more.row k (entry x a) ∙ is);
        }),
      )

  built_inside : (k : ℕ) → k < length offsets' → get_or offsets' k 0 ≤ length after
  built_inside k low = elim (cases_lt k (length offsets)) as (λ _. get_or offsets' k 0 ≤ length after) [
    | inl old ↦
        omega (arith, offset_left offsets (length after) k old, built.inside k old, long)
    | inr new ↦
        let last : length offsets ≡ k = omega (arith, new, low, length-append offsets (length after ∷ [])) in
        omega (arith, offset_last offsets (length after) k last)
  ]

  built_each : (q x a : ℕ) → q < n + 1 → StandsAt offsets' after q x a ↔ P q x a
  built_each q x a low = elim (cases_lt q n) as (λ _. StandsAt offsets' after q x a ↔ P q x a) [
    | inl old ↦
        let same = stands_before q x a old in
        let is = built.each q x a old in
        ((λ s. is.0 (same.0 s)), (λ p. same.1 (is.1 p)))
    | inr new ↦
        let last : n ≡ q = omega (arith, new, low) in
        let same = stands_last x a in
        let is = more.each x a in
        subst (λ (m : ℕ). StandsAt offsets' after m x a ↔ P m x a) last
        ((λ s. is.0 (same.0 s)), (λ p. same.1 (is.1 p)))
  ]

  pub built_more : AreBuilt P (n + 1) offsets' after
  built_more = record {
    count = omega (arith, built.count, length-append offsets (length after ∷ []));
    last = offset_last offsets (length after) (n + 1) built.count;
    inside = built_inside;
    each = built_each;
  }

-- ---- no state

pub built_none : {P : ℕ → ℕ → ℕ → Type 0} → AreBuilt P 0 (0 ∷ []) []
built_none = record {
  count = refl;
  last = refl;
  inside = λ k low. let zero : k ≡ 0 = omega (arith, low) in
      let is = ap {B = ℕ} (λ (i : ℕ). get_or (0 ∷ []) i 0) zero in omega (arith, is);
  each = λ q x a low. absurd (omega (arith, low));
}

-- ---- the arrays

-- an entry has a symbol and an action
entry_is : (e : Entry) (x a : ℕ) → e.symbol ≡ x → e.action ≡ a → e ≡ entry x a
entry_is e x a symbol action =
    ap (λ (n : ℕ). entry n e.action) symbol ∙ ap (entry x) action

-- and stands where both do
entry_at : (es : List Entry) (k x a : ℕ) → slice_get (map (λ e. e.symbol) es) k ≡ Some x →
    slice_get (map (λ e. e.action) es) k ≡ Some a → slice_get es k ≡ Some (entry x a)
entry_at es k x a symbol action =
    let low = slice_get_within (map (λ e. e.symbol) es) k x symbol in
    let e = get_or es k (entry x a) in
    let is = slice_get-get_or es k (entry x a) (omega (arith, low, length-map es (λ (e : Entry). e.symbol))) in
    let own = same_Some e.symbol x
    (sym (slice_get-map (λ (e : Entry). e.symbol) es k ∙ ap (option_map (λ (e : Entry). e.symbol)) is) ∙ symbol) in
    let done = same_Some e.action a
    (sym (slice_get-map (λ (e : Entry). e.action) es k ∙ ap (option_map (λ (e : Entry). e.action)) is) ∙ action) in
    is ∙ ap Some (entry_is e x a own done)

pub entries_are : {P : ℕ → ℕ → ℕ → Type 0} (n : ℕ) (offsets : List ℕ) (es : List Entry) →
    AreBuilt P n offsets es → ((q x a : ℕ) → n ≤ q → ¬ P q x a) → (arrays : TableArrays) →
    arrays.offsets ≡ offsets → arrays.symbols ≡ map (λ e. e.symbol) es →
    arrays.actions ≡ map (λ e. e.action) es → (q x a : ℕ) → HasEntry arrays q x a ↔ P q x a
entries_are {P} n offsets es built none arrays own symbols actions q x a = (
  (λ e.
      elim (cases_lt q n) as (λ _. P q x a) [
        | inl low ↦ (built.each q x a low).0 (record {
          place = e.place;
          from = omega (arith, e.from, ap (λ (xs : List ℕ). get_or xs q 0) own);
          below = omega (arith, e.below, ap (λ (xs : List ℕ). get_or xs (q + 1) 0) own);
          is = entry_at es e.place x a
              (ap (λ (xs : List ℕ). slice_get xs e.place) (sym symbols) ∙ e.symbol)
              (ap (λ (xs : List ℕ). slice_get xs e.place) (sym actions) ∙ e.action);
        })
        | inr past ↦ absurd (omega (
          arith,
          e.below,
          ap (λ (xs : List ℕ). get_or xs (q + 1) 0) own,
          get_or_past offsets (q + 1) 0 (omega (arith, past, built.count)),
        ))
      ]),
  (λ p. elim (cases_lt q n) as (λ _. HasEntry arrays q x a) [
    | inl low ↦
        let s = (built.each q x a low).1 p in
        record {
          place = s.place;
          from = omega (arith, s.from, ap (λ (xs : List ℕ). get_or xs q 0) own);
          below = omega (arith, s.below, ap (λ (xs : List ℕ). get_or xs (q + 1) 0) own);
          symbol = ap (λ (xs : List ℕ). slice_get xs s.place) symbols
              ∙ slice_get-map (λ (e : Entry). e.symbol) es s.place
              ∙ ap (option_map (λ (e : Entry). e.symbol)) s.is;
          action = ap (λ (xs : List ℕ). slice_get xs s.place) actions
              ∙ slice_get-map (λ (e : Entry). e.action) es s.place
              ∙ ap (option_map (λ (e : Entry). e.action)) s.is;
        }
    | inr past ↦ absurd (none q x a past p)
  ]),
)

-- entries that are built of all states of a sound table, and its rules
pub built_table : (table : TableView) → IsSound table → (offsets : List ℕ) (es : List Entry) →
    AreBuilt (IsEntry table) (length table.machine.sets) offsets es → (arrays : TableArrays) →
    arrays.terminals ≡ table.machine.grammar.terminals → arrays.offsets ≡ offsets →
    arrays.symbols ≡ map (λ e. e.symbol) es → arrays.actions ≡ map (λ e. e.action) es →
    arrays.left ≡ map (λ rule. table.machine.grammar.terminals + rule.left) table.machine.grammar.rules.items →
    arrays.lengths ≡ map (λ rule. length rule.right.items) table.machine.grammar.rules.items →
    IsTableOf table arrays
built_table table sound offsets es built arrays terminals own symbols actions left lengths =
    let n = length table.machine.sets in
    let all = ap (λ (xs : List ℕ). length xs) symbols ∙ length-map es (λ (e : Entry). e.symbol) in
    let also = ap (λ (xs : List ℕ). length xs) actions ∙ length-map es (λ (e : Entry). e.action) in
    record {
      sound = sound;
      terminals = terminals;
      states = ap (λ (xs : List ℕ). length xs) own ∙ built.count;
      last = ap (λ (xs : List ℕ). get_or xs n 0) own ∙ built.last ∙ sym all;
      long = also ∙ sym all;
      entries = entries_are n offsets es built (no_entry table sound) arrays own symbols actions;
      left = left;
      lengths = lengths;
    }
