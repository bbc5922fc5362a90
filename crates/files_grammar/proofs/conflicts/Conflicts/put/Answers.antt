-- The line of the next conflict is written.
use Rattle.std.proofs.Common.{arith, refl}
use Rattle.std.proofs.lemmas.List.{drop_more, drop_all}
use Rattle.files_grammar.proofs.TextLemmas.{texts_all, texts_more, texts_none}
use Rattle.files_grammar.proofs.conflicts.Conflicts.put.Goals as goal

pub loop-place-init : goal.loop-place-init
loop-place-init g c = texts_all _ _ _ _ refl

pub put-requires : goal.put-requires
put-requires g c = rw c.index.ensures (c.requires c.loop-place.place c.index.result.now (omega arith))

pub loop-place-preserved : goal.loop-place-preserved
loop-place-preserved g c =
    texts_more _ _ _ _ _ _ _ _
    (drop_more c.args.self.now.choices.items c.loop-place.place c.index.result.now (omega arith))
    c.loop-place.invariant (rw (← c.index.ensures) c.in_ok-put.ensures)

pub returns : goal.returns
returns g c =
    texts_none _ _ _ _ _ (drop_all c.loop-place.place c.args.self.now.choices.items (omega arith))
    c.loop-place.invariant
