-- The sets at roots are spread over their components.
use Rattle.std.proofs.Common.{◌<◌, ◌∙◌, ℕ, length, sym, ap, subst, arith}
use Rattle.std.proofs.lemmas.List.{get_or_default, length-replicate}
use Rattle.vob_flow.proofs.ClosureLemmas.{IsClosure-none, IsClosure-spread}
use Rattle.vob_flow.proofs.WayLemmas.{edge_joins}
use Rattle.vob_flow.proofs.closing.closure.Goals as goal

pub returns-then-count-eq0-clause-closure : goal.returns-then-count-eq0-clause-closure
returns-then-count-eq0-clause-closure c =
    let count = c.nodes-count.ensures.count in
    IsClosure-none _ _ (rw count at c.in_ok-sets.ensures.rows) (sym count ∙ c.if-count-eq0.true)

pub spread-requires-clause-inside : goal.spread-requires-clause-inside
spread-requires-clause-inside c =
    let roots = c.in_ok-parts.parts.roots.items in
    let h = c.in_ok-parts.ensures in
    rw c.deref.ensures.value (λ k d less. subst (λ (n : ℕ). n < length roots)
    (get_or_default roots k 0 d less)
    (omega (arith, h.root_inside k (omega (arith, less, h.count)), h.count)))

pub returns-clause-closure : goal.returns-clause-closure
returns-clause-closure c =
    let n = length c.args.next.now in
    let columns = c.columns-columns.ensures.columns ∙ c.spread.ensures.columns
    ∙ c.close_roots.ensures.columns ∙ c.in_ok-sets.ensures.columns ∙ c.nodes-count.ensures.count in
    let count = c.close_roots.ensures.count ∙ ap length c.in_ok-sets.ensures.rows ∙ length-replicate _ _
    ∙ c.nodes-count.ensures.count in
    IsClosure-spread c.args.next.now c.in_ok-parts.parts c.in_ok-parts.ensures
    (edge_joins c.args.next.now (rw c.nodes-count.ensures.count at c.nodes-count.ensures.inside)) _ _ count
    c.close_roots.ensures.drawn (rw c.deref.ensures.value at c.spread.ensures.spread)
    (rw columns at c.columns-columns.ensures.long)
