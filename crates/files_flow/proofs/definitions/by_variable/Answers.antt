-- One definition more.
use Rattle.std.proofs.Common.{◌≡◌, ◌∙◌, ℕ, ap, arith, drop, length, map}
use Rattle.std.proofs.lemmas.List.{length-map, take_at}
use Rattle.std.proofs.lemmas.Option.{slice_get-get_or, slice_get-map}
use Rattle.std.specs.Option.{option_map}
use Rattle.files_flow.proofs.DefinitionLemmas.{grouped_all, grouped_more, grouped_none}
use Rattle.files_flow.proofs.definitions.by_variable.Goals as goal

pub loop-number-init : goal.loop-number-init
loop-number-init c = grouped_none _ _ _ c.in_ok-lists.ensures

pub loop-number-preserved : goal.loop-number-preserved
loop-number-preserved c =
    let made = c.args.definitions.now in
    let number = c.loop-number.number in
    let after = c.add_to.new.lists in
    let key = λ (one : ℕ × ℕ). one.1 in
    let read = slice_get-map key made number
    ∙ ap (option_map key) (slice_get-get_or made number (0, 0) c.loop-number-test.true) in
    rw (take_at after (drop (length after) c.loop-number.lists.items) c.loop-number.lists.len
    (c.add_to.auto.lists ∙ c.deref_mut.ensures.len))
    (grouped_more _ _ number _ _ _ read c.loop-number.invariant
    (rw c.deref_mut.ensures.value at c.in_ok-add_to.ensures))

pub returns : goal.returns
returns c =
    let made = c.args.definitions.now in
    let all : c.loop-number.number ≡ length (map (λ (one : ℕ × ℕ). one.1) made) =
    omega (arith, c.loop-number-test.false, c.loop-number.auto.number-end, length-map made (λ (one : ℕ × ℕ). one.1)) in
    grouped_all _ _ _ (rw all at c.loop-number.invariant)
