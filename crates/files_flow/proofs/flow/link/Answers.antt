-- One name more has its number.
use Rattle.std.specs.Prelude.{slice_get}
use Rattle.std.proofs.Common.{◌≡◌, ◌∙◌, ◌++◌, ◌∷◌, [], ◌<◌, Some, ap, arith, drop, inr, length, map, rules, suc, sym, take}
use Rattle.std.proofs.lemmas.List.{map-append, take_at, take_more}
use Rattle.std.proofs.lemmas.Option.{slice_get-get_or, slice_get-map}
use Rattle.std.proofs.lemmas.Result.{err_from_is_err_and}
use Rattle.std.specs.Option.{option_map}
use Rattle.files_flow.specs.Nodes.{Mention, mention_of}
use Rattle.files_flow.proofs.NumberLemmas.{all_at, cut_at}
use Rattle.files_flow.proofs.flow.link.Goals as goal

pub add_use-requires : goal.add_use-requires
add_use-requires c =
    let uses = c.args.read.uses.items in
    let number = c.loop-number.number in
    let less : number < length uses = search rules in
    let at : slice_get uses number ≡ Some c.index.result.now =
    slice_get-get_or uses number c.index.result.now less ∙ ap Some (sym c.index.ensures) in
    let inside = all_at (λ (m : Mention). m.node < length c.args.read.names) (map mention_of uses) number
    (mention_of c.index.result.now) (slice_get-map mention_of uses number ∙ ap (option_map mention_of) at) c.requires.1 in
    omega (arith, inside, c.loop-number.invariant.flows.count, ap length c.deref_mut.ensures.value)

pub returns-in_err-add_use-clause-err : goal.returns-in_err-add_use-clause-err
returns-in_err-add_use-clause-err c =
    let p = err_from_is_err_and c.from_residual-in_err-add_use.result c.from_residual-in_err-add_use.ensures.1 in
    let uses = c.args.read.uses.items in
    let number = c.loop-number.number in
    let less : number < length uses = search rules in
    let at : slice_get uses number ≡ Some c.index.result.now =
    slice_get-get_or uses number c.index.result.now less ∙ ap Some (sym c.index.ensures) in
    rw (p.1, p.2)
    (inr (
      map mention_of (take number uses),
      mention_of c.index.result.now,
      map mention_of (drop (suc number) uses),
      cut_at mention_of uses number c.index.result.now at,
      c.loop-number.invariant.found,
      c.in_err-add_use.ensures.err,
    ))

pub loop-number-preserved : goal.loop-number-preserved
loop-number-preserved c =
    let uses = c.args.read.uses.items in
    let number = c.loop-number.number in
    let after = c.add_use.new.nodes in
    let less : number < length uses = search rules in
    let more = ap (map mention_of) (take_more uses number c.index.result.now less
    ∙ ap (λ y. take number uses ++ y ∷ []) (sym c.index.ensures))
    ∙ map-append mention_of (take number uses) (c.index.result.now ∷ []) in
    rw (
      take_at after (drop (length after) c.loop-number.nodes.items) c.loop-number.nodes.len
          (c.add_use.auto.nodes ∙ c.deref_mut.ensures.len),
      more,
    )
    (c.in_ok-add_use.ensures.ok (map mention_of (take number uses)) c.requires.0
    (rw c.deref_mut.ensures.value c.loop-number.invariant))
