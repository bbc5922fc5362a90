-- An end more is missing.
use Rattle.std.proofs.Common.{◌≡◌, ◌∙◌, ◌++◌, ◌∷◌, ◌≤◌, ℕ, List, [], true, get_or, length, take, refl, sym, ap, subst, arith, inl, inr}
use Rattle.std.specs.List.{Contains}
use Rattle.std.proofs.lemmas.Bool.{false≢true}
use Rattle.std.proofs.lemmas.List.{take_all, take_more}
use Rattle.std.proofs.lemmas.List.Elements.{Contains-push_cases}
use Rattle.vob_block.specs.Packing.{item}
use Rattle.vob.specs.Bits.{count_of}
use Rattle.vob.proofs.BitsLemmas.{count_at_most, counts_add_up}
use Rattle.files_graph.proofs.DirectLemmas.{count_more, count_zero, missing_more, was_off}
use Rattle.files_graph.proofs.direct.want.Goals as goal
use Rattle.files_graph.proofs.direct.want.Goals.{then-set, else-set}

pub loop-end-init : goal.loop-end-init
loop-end-init c =
    let clear = c.requires.clear in
    record {
      seen = refl;
      found = refl;
      followed = refl;
      missing_long = refl;
      missing = λ t. (
        (λ on. absurd (false≢true (sym (clear.none t) ∙ on))),
        (λ there. absurd (omega (arith, there.1))),
      );
      left = clear.left ∙ sym (count_zero _ clear.none);
      lowest = λ t there. absurd (omega (arith, there.1));
    }

pub overflow_add-search : goal.overflow_add-search
overflow_add-search c =
    let h = c.loop-end.invariant in
    let w = c.set.ensures.written in
    let off = was_off _ (sym c.set.ensures.differs ∙ c.if-set.true) in
    let more = count_more _ _ _ w off in
    omega (
      arith,
      h.left,
      more,
      count_at_most true c.set.new.self.bits,
      w.len,
      c.len-count.ensures.len,
      c.len-count.ensures.within,
    )

pub loop-end-preserved : goal.loop-end-preserved
loop-end-preserved c =
    let h = c.loop-end.invariant in
    let ends = c.args.ends.now in
    let k = c.loop-end.end-index in
    let e = get_or ends k 0 in
    let w = c.set.ensures.written in
    let all = take_more ends k 0 c.loop-end-test.true in
    let missing = missing_more _ _ (take k ends) e w h.missing in
    let lowest : (t : ℕ) → Contains (take k ends ++ e ∷ []) t → c.min-lowest.result ≤ t =
    λ t there. elim (Contains-push_cases (take k ends) e t there) [
      | inl old ↦ omega (arith, h.lowest t old, c.min-lowest.ensures)
      | inr same ↦ omega (arith, same, c.min-lowest.ensures)
    ] in
    elim c.if-set.branch [
      | then-set b ↦ rw (b.search-is, all) record {
        seen = h.seen;
        found = h.found;
        followed = h.followed;
        missing_long = w.len ∙ h.missing_long;
        missing = missing;
        left =
            let more = count_more _ _ _ w (was_off _ (sym c.set.ensures.differs ∙ b.if-set.true)) in
            omega (arith, h.left, more);
        lowest = lowest;
      }
      | else-set b ↦ rw (b.search-is, all) record {
        seen = h.seen;
        found = h.found;
        followed = h.followed;
        missing_long = w.len ∙ h.missing_long;
        missing = missing;
        left = h.left ∙ ap (count_of true) (sym (c.set.ensures.same b.if-set.false));
        lowest = lowest;
      }
    ]

pub returns-clause-search : goal.returns-clause-search
returns-clause-search c =
    let h = c.loop-end.invariant in
    let clear = c.requires.clear in
    let none : length c.loop-end.search.found.items ≡ 0 = ap length (h.found ∙ clear.found) in
    let seen = c.args.search.now.seen.bits in
    record {
      seen_long = ap length h.seen;
      missing_long = h.missing_long ∙ clear.missing_long;
      listed = λ j less. absurd (omega (arith, less, none));
      whole = λ x on. absurd (false≢true (sym (clear.unseen x) ∙ ap (λ bits. item bits x) (sym h.seen) ∙ on));
      steps = rw h.seen (omega (arith, none, counts_add_up seen, count_zero seen clear.unseen));
      left_is = h.left;
      within = omega (arith, h.followed, clear.followed);
    }

pub returns-clause-from : goal.returns-clause-from
returns-clause-from c = λ links.
    let h = c.loop-end.invariant in
    let clear = c.requires.clear in
    let all = take_all c.loop-end.end-index c.args.ends.now (omega (arith, c.loop-end-test.false)) in
    record {
      sound = λ x on. absurd (false≢true (sym (clear.unseen x) ∙ ap (λ bits. item bits x) (sym h.seen) ∙ on));
      wanted = λ t. (
        (λ on. (rw all at ((h.missing t).0 on), ap (λ bits. item bits t) h.seen ∙ clear.unseen t)),
        (λ both. (h.missing t).1 (subst (λ (xs : List ℕ). Contains xs t) (sym all) both.0)),
      );
      closed = λ j y less. absurd (omega (arith, less, h.followed, clear.followed));
    }

pub returns-clause-lowest : goal.returns-clause-lowest
returns-clause-lowest c = λ t there.
    let all = take_all c.loop-end.end-index c.args.ends.now (omega (arith, c.loop-end-test.false)) in
    c.loop-end.invariant.lowest t (subst (λ (xs : List ℕ). Contains xs t) (sym all) there)
