-- The names before the next are there.
use Rattle.std.proofs.Common.{take}
use Rattle.files_forms.specs.Forms.{AreJson}
use Rattle.files_forms.proofs.json.names_json.Given as goal

abbrev pub invariant-loop-number : goal.invariant-loop-number
invariant-loop-number l = AreJson (take l.number l.names) l.texts.items
