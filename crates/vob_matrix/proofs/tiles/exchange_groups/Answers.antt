-- Both words of a pair are written, from what both held.
use Rattle.std.proofs.Common.{◌≡◌, refl, subst, arith}
use Rattle.vob_matrix.specs.Tiles.{AreExchanged}
use Rattle.vob_matrix.proofs.TileLemmas.{AreExchanged-start, AreExchanged-more}
use Rattle.vob_matrix.proofs.tiles.exchange_groups.Goals as goal

pub loop-c-init : goal.loop-c-init
loop-c-init c = λ pairs whole has. AreExchanged-start c.args.group pairs c.args.first _

pub loop-c-preserved : goal.loop-c-preserved
loop-c-preserved c = λ pairs whole has.
    AreExchanged-more c.args.group pairs c.args.first c.loop-c.c c.args.words.now c.loop-c.words _
    _ _ _ c.loop-c-test.true (omega arith) refl (omega arith)
    (c.loop-c.invariant pairs whole has) (c.join_first.ensures pairs whole has)
    (c.join_second.ensures pairs whole has)

pub returns : goal.returns
returns c = λ pairs whole has.
    let all : c.loop-c.c ≡ c.args.group = omega arith in
    subst (λ n. AreExchanged c.args.group pairs c.args.first n c.args.words.now c.loop-c.words) all
    (c.loop-c.invariant pairs whole has)
