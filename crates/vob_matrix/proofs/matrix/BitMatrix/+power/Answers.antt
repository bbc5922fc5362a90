-- A power of a sum is the product of two.
use Rattle.std.proofs.Common.{◌≡◌, ◌+◌, ◌/◌, refl, sym, arith}
use Rattle.vob_matrix.proofs.ProductLemmas.{IsPower-one, IsPower-product}
use Rattle.vob_matrix.proofs.matrix.BitMatrix.+power.Goals as goal

pub returns-then-n-eq0-2 : goal.returns-then-n-eq0-2
returns-then-n-eq0-2 t c =
    let half = c.args.n / 2 in
    let whole : c.args.n ≡ half + half = omega arith in
    record {
      power = IsPower-product _ _ _ _ half half _ whole c.in_ok-half.ensures.power
          c.in_ok-half.ensures.power c.in_ok-square.ensures.product;
    }

pub returns : goal.returns
returns t c =
    let matrix = c.args.self.now in
    let half = c.args.n / 2 in
    let whole : c.args.n ≡ half + half + 1 = omega arith in
    let square = IsPower-product matrix _ _ _ half half (half + half) refl c.in_ok-half.ensures.power
    c.in_ok-half.ensures.power c.in_ok-square.ensures.product in
    let columns = c.columns-columns.ensures in
    record {
      power = IsPower-product matrix _ matrix _ (half + half) 1 _ whole square
          (IsPower-one matrix c.requires.square (rw columns.columns at columns.long)) c.in_ok-made.ensures.product;
    }
