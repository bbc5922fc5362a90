-- The bytes that are left are still to be written.
use Rattle.std.proofs.Common.{drop}
use Rattle.files_text.proofs.PrintedLemmas.{AppendsItems}
use Rattle.files_forms.specs.Forms.{escaped}
use Rattle.files_forms.proofs.dot.put_all_escaped.Given as goal

abbrev pub invariant-loop-byte : goal.invariant-loop-byte
invariant-loop-byte g l =
    AppendsItems escaped (g.W.Write.contents l.fn.output) (g.W.Write.contents l.output) l.name
    (drop l.byte-index l.name)
