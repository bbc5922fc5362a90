-- The words are blank at first, and each row has its turn.
use Rattle.std.proofs.Common.{◌≡◌, ◌*◌, ◌∙◌, List, Bool, false, replicate, ap, subst, sym, arith}
use Rattle.vob_block.specs.Packing.{need}
use Rattle.vob_c.specs.Linking.{AreRowsLinked}
use Rattle.vob_c.specs.Rows.{rows_in}
use Rattle.vob_c.proofs.LinkingLemmas.{AreRowsLinked-more, AreRowsLinked-start, blank_in, blank_words, no_product, no_words, product_in}
use Rattle.vob_c.proofs.products.multiply.Goals as goal

pub loop-i-init : goal.loop-i-init
loop-i-init c =
    let rows = c.args.sizes.rows in
    let inner = c.args.sizes.inner in
    let columns = c.args.sizes.columns in
    let blank = replicate rows (replicate columns false) in
    let by = rows_in rows inner c.args.first.now in
    let others = rows_in inner columns c.args.second.now in
    let is : c.clear.new.words ≡ replicate (rows * need columns 64) 0 =
    c.clear.ensures ∙ ap (λ n. replicate n 0) c.requires.made in
    record {
      canonical = blank_words rows columns c.clear.new.words is;
      linked = subst (λ (t : List (List Bool)). AreRowsLinked blank by others inner 0 t)
          (sym (blank_in rows columns c.clear.new.words is)) (AreRowsLinked-start blank by others inner);
    }

pub loop-i-preserved : goal.loop-i-preserved
loop-i-preserved c = record {
  canonical = c.link_row.ensures.canonical;
  linked = AreRowsLinked-more _ _ _ _ _ _ _ c.loop-i.invariant.linked c.link_row.ensures.linked;
}

pub returns-clause-product : goal.returns-clause-product
returns-clause-product c =
    let rows = c.args.sizes.rows in
    let inner = c.args.sizes.inner in
    let columns = c.args.sizes.columns in
    let all : c.loop-i.i ≡ rows = omega (arith, c.loop-i.auto.i-end) in
    product_in rows inner columns c.args.first.now c.args.second.now c.loop-i.made
    (subst (λ n. AreRowsLinked (replicate rows (replicate columns false))
    (rows_in rows inner c.args.first.now) (rows_in inner columns c.args.second.now) inner n
    (rows_in rows columns c.loop-i.made)) all c.loop-i.invariant.linked)

pub returns-then-made-eq0-clause-canonical : goal.returns-then-made-eq0-clause-canonical
returns-then-made-eq0-clause-canonical c = no_words c.args.sizes.rows c.args.sizes.columns
    c.args.made.now (sym c.requires.made ∙ c.if-made-eq0.true) c.requires.made

pub returns-then-made-eq0-clause-product : goal.returns-then-made-eq0-clause-product
returns-then-made-eq0-clause-product c = no_product c.args.sizes.rows c.args.sizes.columns
    c.args.made.now (sym c.requires.made ∙ c.if-made-eq0.true) c.args.sizes.inner c.args.first.now
    c.args.second.now
