-- The columns of a block are among those of its row.
use Rattle.std.specs.Prelude.{All}
use Rattle.std.proofs.Common.{◌≡◌, ◌<◌, ◌∙◌, ℕ, Vec, Global, [], length, map, get_or, ap, sym, subst, arith}
use Rattle.std.proofs.lemmas.List.{get_or-map, length-map, take_all}
use Rattle.vob_rows.specs.Sparse.{kept_members}
use Rattle.vob_rows.proofs.SparseLemmas.{all_kept}
use Rattle.vob_rows.proofs.sparse.SparseRows.members.Goals as goal
use Rattle.vob_rows.proofs.sparse.SparseRows.members.Goals.{After-deref-from-items}

row_items : (c : After-deref-from-items) →
    get_or c.args.self.now.rows c.args.i [] ≡ kept_members c.deref-from-items.result.now
row_items c =
    let kept = c.self.inside.kept.items in
    let f = λ (row : Vec (ℕ × ℕ) Global). kept_members row.items in
    let inside : c.args.i < length kept =
    omega (arith, c.requires, ap (λ m. length m.rows) c.self.view_is, length-map kept f) in
    ap (λ m. get_or m.rows c.args.i []) (sym c.self.view_is)
    ∙ get_or-map f kept c.args.i c.index.result.now [] inside ∙ ap f (sym c.index.ensures)
    ∙ ap kept_members (sym c.deref-from-items.ensures.value)

pub push_members-requires : goal.push_members-requires
push_members-requires c =
    let P = λ (j : ℕ). j < c.self.inside.columns in
    let items = row_items (goal.at.push_members-requires c).After-deref-from-items in
    let own = c.self.invariant c.args.i [] (omega (arith, c.requires, ap (λ m. length m.rows) c.self.view_is)) in
    let below = subst (All P) (ap (λ m. get_or m.rows c.args.i []) c.self.view_is ∙ items) own in
    let block = all_kept P c.deref-from-items.result.now c.loop-from.from-index (0, 0) c.loop-from-test.true below in
    λ k d less. omega (arith, block k d less, c.columns-columns.ensures, ap (λ m. m.columns) c.self.view_is)

pub returns : goal.returns
returns c = c.loop-from.invariant
    ∙ ap kept_members (take_all c.loop-from.from-index c.deref-from-items.result.now (omega (arith, c.loop-from-test.false)))
    ∙ sym (row_items (goal.at.returns c).After-deref-from-items)
