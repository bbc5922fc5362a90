-- The turns of a pass, one after another.
use Rattle.std.proofs.Common.{◌≡◌, ◌↔◌, ◌⊎◌, ℕ, zero, suc, ◌+◌, ◌*◌, ◌^◌, ◌-◌, ◌<◌, ◌≤◌, ◌||◌, Bool, true, false, inl, inr}
use Rattle.std.proofs.Common.{List, [], length, get_or, refl, sym, ap, subst, ◌∙◌, arith}
use Rattle.std.proofs.Common.{mul-le-mul_left}
use Rattle.std.proofs.lemmas.Bool.{cases_eq, cases_lt, false≢true, false_from_ne_true}
use Rattle.std.proofs.lemmas.List.{get_or_default}
use Rattle.vob_block.specs.Packing.{item}
use Rattle.vob.specs.Bits.{IsWritten}
use Rattle.vob.specs.Vobs.{AreOfLength, total_count}
use Rattle.vob.proofs.VobsLemmas.{of_length_at, total_count_at_most}
use Rattle.vob_flow.specs.Draws.{HaveShape, IsTurn}
use Rattle.vob_flow.specs.Turns.{IsOrder, TakeTurns}
use Rattle.vob_flow.specs.Turns.TakeTurns.{no_turn, one_more}
use Rattle.vob_flow.specs.Gains.{HadLook, HasGained}
use Rattle.vob_flow.specs.Passes.{AreMore, AreUnderway, HadTurns}
use Rattle.vob_flow.specs.Schedules.{ArePlaces, place_of}
use Rattle.vob_flow.proofs.ScheduleLemmas.{place_apart}
use Rattle.vob_flow.proofs.GrowLemmas.{grew_either, grew_neither, neither}
use Rattle.vob_flow.proofs.UnderwayLemmas.{HaveShape-refl, HaveShape-trans, AreUnderway-look, IsTurn-look, IsTurn-skipped}

-- ---- as many sets, as long as before

pub AreMore-refl : (sets : List (List Bool)) → AreMore sets sets
AreMore-refl sets = record { shape = HaveShape-refl sets; total = omega arith }

pub AreMore-trans : {sets mid after : List (List Bool)} → AreMore sets mid → AreMore mid after →
    AreMore sets after
AreMore-trans a b = record {
  shape = HaveShape-trans a.shape b.shape;
  total = omega (arith, a.total, b.total);
}

total_le : (grew : Bool) (sets after : List (List Bool)) → (grew ≡ false → after ≡ sets) →
    (grew ≡ true → total_count sets < total_count after) → total_count sets ≤ total_count after
total_le true sets after same more = omega (arith, more refl)
total_le false sets after same more = omega (arith, ap total_count (same refl))

AreMore-gained : {sets after : List (List Bool)} {n : ℕ} {P : ℕ → Type 0} {grew : Bool} →
    HasGained sets n P after grew → AreMore sets after
AreMore-gained {sets} {after} {n} {P} {grew} d = record {
  shape = d.shape;
  total = total_le grew sets after d.same d.more;
}

-- of one length still
pub shape_long : (places : ℕ) (starts sets : List (List Bool)) → HaveShape starts sets →
    AreOfLength places starts → AreOfLength places sets
shape_long places starts sets h long k d less =
    ap length (get_or_default sets k d [] less) ∙ h.long k
    ∙ of_length_at places starts k [] long (omega (arith, less, h.count))

-- ---- how many passes there are

-- at most as many bits are true as there are places
pub few_true : (places : ℕ) (starts : List (List Bool)) {sets : List (List Bool)}
    → AreMore starts sets → AreOfLength places starts → total_count sets ≤ length starts * places
few_true places starts more long = rw (← more.shape.count)
    (total_count_at_most places _ (shape_long _ _ _ more.shape long))

pub product_fits : (n places : ℕ) → n < 2 ^ 64 → places < 2 ^ 64 → n * places + 1 < 2 ^ 128
product_fits n places few small =
    let at_most : n ≤ 2 ^ 64 - 1 = omega arith in
    omega (arith, mul-le-mul_left places at_most)

-- ---- turns

-- a bit that was set, and the others
pub written_true : {bits after : List Bool} (n p : ℕ) → IsWritten bits n true after →
    (item after p ≡ true) ↔ ((item bits p ≡ true) ⊎ (n ≡ p))
written_true {bits} {after} n p w = elim (cases_eq p n) [
  | inl here ↦ ((λ e. inr (sym here)), (λ a. ap (item after) here ∙ w.there))
  | inr other ↦ (
    (λ e. inl (sym (w.others p other) ∙ e)),
    (λ a. elim a [
      | inl old ↦ w.others p other ∙ old
      | inr same ↦ absurd (other (sym same))
    ]),
  )
]

module _ {next : List (List ℕ)} {mask : ℕ → ℕ → Bool} {order places : List ℕ}
    {sets mid : List (List Bool)} {pending pending_mid : List Bool} {a : Bool} {i : ℕ}
    (one : IsOrder (length next) order) (at_places : ArePlaces (length next) order places)
    (h : HadTurns (place_of places) order next mask sets pending mid pending_mid a i) where
  -- one set more was looked at
  pub HadTurns-look : {after : List (List Bool)} {pending' : List Bool} {b : Bool} →
      HadLook next mask order places mid pending_mid i after pending' b →
      HadTurns (place_of places) order next mask sets pending after pending' (a || b) (i + 1)
  HadTurns-look {after} {pending'} {b} l = record {
    sets_more = AreMore-trans h.sets_more (AreMore-gained l.drawn);
    len = l.len ∙ h.len;
    underway = λ starts u.
        AreUnderway-look (h.underway starts u) l.drawn pending' (place_apart one at_places i) l.kept l.users;
    turns = λ starts u. one_more (h.turns starts u) (IsTurn-look l.drawn);
    more = grew_either a b h.more h.same l.drawn.more l.drawn.same;
    same = grew_neither a b h.same l.drawn.same;
    quiet = λ none p low. false_from_ne_true (item pending' p) (λ on.
        let both = neither a b none in
        let own = l.quiet both.1 p on in
        let below : p < i = omega (arith, low, own.0) in
        false≢true (sym (h.quiet both.0 p below) ∙ own.1));
  }

  -- some that don't wait were not
  skipped : (starts : List (List Bool)) →
      AreUnderway (place_of places) next mask starts sets pending → (d : ℕ) → i + d ≤ length order →
      ((p : ℕ) → i ≤ p → p < i + d → item pending_mid p ≡ false) →
      TakeTurns (IsTurn next mask) order sets (i + d) mid
  skipped starts u zero fits off =
      let same : i ≡ i + 0 = omega arith in
      subst (λ k. TakeTurns (IsTurn next mask) order sets k mid) same (h.turns starts u)
  skipped starts u (suc d) fits off =
      let before = skipped starts u d (omega (arith, fits)) (λ p past low. off p past (omega (arith, low))) in
      let place = at_places.named (i + d) (omega (arith, fits)) in
      let quiet = ap (item pending_mid) place ∙ off (i + d) (omega arith) (omega arith) in
      let same : i + d + 1 ≡ i + suc d = omega arith in
      subst (λ k. TakeTurns (IsTurn next mask) order sets k mid) same
      (one_more before (IsTurn-skipped (get_or order (i + d) 0) (h.underway starts u) quiet))

  pub HadTurns-skipped : (j : ℕ) → i ≤ j → j ≤ length order →
      ((p : ℕ) → i ≤ p → p < j → item pending_mid p ≡ false) →
      HadTurns (place_of places) order next mask sets pending mid pending_mid a j
  HadTurns-skipped j past fits off =
      let same : i + (j - i) ≡ j = omega (arith, past) in
      record {
        sets_more = h.sets_more;
        len = h.len;
        underway = h.underway;
        turns = λ starts u. subst (λ k. TakeTurns (IsTurn next mask) order sets k mid) same
            (skipped starts u (j - i) (omega (arith, fits, same))
            (λ p above low. off p above (omega (arith, low, same))));
        more = h.more;
        same = h.same;
        quiet = λ none p low. elim (cases_lt p i) [
          | inl below ↦ h.quiet none p below
          | inr above ↦ off p (omega (arith, above)) low
        ];
      }

pub HadTurns-start : (place : ℕ → ℕ) (order : List ℕ) (next : List (List ℕ)) (mask : ℕ → ℕ → Bool)
    (sets : List (List Bool)) (pending : List Bool) →
    HadTurns place order next mask sets pending sets pending false 0
HadTurns-start place order next mask sets pending = record {
  sets_more = AreMore-refl sets;
  len = refl;
  underway = λ starts u. u;
  turns = λ starts u. no_turn;
  more = λ up. absurd (false≢true up);
  same = λ none. refl;
  quiet = λ none p low. absurd (omega (arith, low));
}
