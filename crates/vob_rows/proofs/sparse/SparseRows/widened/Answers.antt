-- One row more is wider.
use Rattle.std.specs.Prelude.{All}
use Rattle.std.proofs.Common.{◌≡◌, ◌+◌, ◌<◌, ◌++◌, ◌∙◌, ℕ, Vec, Global, [], length, map, get_or, ap, refl, sym, subst, arith}
use Rattle.std.proofs.lemmas.List.{get_or-map, length-map, map-set}
use Rattle.vob_rows.specs.Sparse.{kept_members, members}
use Rattle.vob_rows.proofs.SparseLemmas.{AreWider, wider_all, wider_inside, wider_more, wider_none}
use Rattle.vob_rows.proofs.sparse.SparseRows.widened.Goals as goal
use Rattle.vob_rows.proofs.sparse.SparseRows.widened.Goals.{After-loop-i}

pub loop-i-init : goal.loop-i-init
loop-i-init c = wider_none _ _ _ _

pub loop-i-preserved : goal.loop-i-preserved
loop-i-preserved c =
    let f = λ (row : Vec (ℕ × ℕ) Global). kept_members row.items in
    let kept = c.loop-i.kept.items in
    let i = c.loop-i.i in
    let numbers = c.args.numbers.now in
    let others = c.args.others.now.rows in
    let from = c.self.inside.columns in
    let before = map f c.self.inside.kept.items in
    let n = get_or numbers i 0 in
    let inside : All (λ n. n < length before) numbers = λ k d low. omega (
      arith,
      c.requires.inside k d low,
      ap (λ m. length m.rows) c.self.view_is,
    ) in
    let low : n < length kept =
    omega (arith, inside i 0 c.loop-i-test.true, c.loop-i.invariant.count, length-map kept f) in
    let row : f c.keep_blocks.new.kept ≡ get_or (map f kept) n [] ++ map (◌+◌ from) (members (get_or others i [])) =
    c.in_ok-keep_blocks.ensures
    ∙ ap (λ l. l ++ map (◌+◌ from) (members c.row.result)) (ap f c.index_mut.ensures.value
    ∙ sym (get_or-map f kept n c.index_mut.result.now [] low))
    ∙ ap (λ bits. get_or (map f kept) n [] ++ map (◌+◌ from) (members bits)) c.row.ensures.bits in
    subst (AreWider from numbers others (i + 1) before) (sym (map-set f kept n c.keep_blocks.new.kept))
    (wider_more from numbers others i before (map f kept) (f c.keep_blocks.new.kept) c.loop-i-test.true c.requires.rise
    inside c.loop-i.invariant row)

-- all rows are wider
wider : (c : After-loop-i) → AreWider c.self.inside.columns c.args.numbers.now c.args.others.now.rows (length c.args.numbers.now)
    (map (λ (row : Vec (ℕ × ℕ) Global). kept_members row.items) c.self.inside.kept.items)
    (map (λ row. kept_members row.items) c.loop-i.kept.items)
wider c =
    let all : c.loop-i.i ≡ length c.args.numbers.now = omega (arith, c.loop-i-test.false, c.loop-i.auto.i-end) in
    subst (λ k. AreWider c.self.inside.columns c.args.numbers.now c.args.others.now.rows k
    (map (λ (row : Vec (ℕ × ℕ) Global). kept_members row.items) c.self.inside.kept.items)
    (map (λ row. kept_members row.items) c.loop-i.kept.items)) all c.loop-i.invariant

pub invariant_of-result : goal.invariant_of-result
invariant_of-result c =
    let f = λ (row : Vec (ℕ × ℕ) Global). kept_members row.items in
    let from = c.self.inside.columns in
    let total : from + c.columns.result ≡ c.in-Some.total = sym c.in-Some.ensures.1 in
    subst (λ n. All (λ row. All (λ j. j < n) row) (map f c.loop-i.kept.items)) total
    (wider_inside from c.args.numbers.now c.args.others.now.rows from c.columns.result _ _ refl c.columns.ensures.long
    c.requires.enough (wider (goal.at.invariant_of-result c).After-loop-i) c.self.invariant)

pub returns : goal.returns
returns c =
    let h = wider (goal.at.returns c).After-loop-i in
    rw (← c.self.view_is) record {
      columns = c.in-Some.ensures.1 ∙ ap (λ n. c.self.inside.columns + n) c.columns.ensures.columns;
      count = h.count;
      each = λ i n less is. h.low i n less is;
      others_stay = λ n none. wider_all _ _ _ n _ _ h none;
    }
