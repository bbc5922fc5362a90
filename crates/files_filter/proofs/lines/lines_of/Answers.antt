-- The lines are objects if there are keys.
use Rattle.std.specs.Prelude.{IfOk, map}
use Rattle.std.specs.List.{flat_map}
use Rattle.std.specs.String.{string_bytes}
use Rattle.std.proofs.Common.{◌≡◌, subst}
use Rattle.files_filter.specs.Layouts.{object_line, picked}
use Rattle.files_filter.specs.Written.{cells_of}
use Rattle.files_filter.proofs.lines.lines_of.Goals as goal

pub returns-in-Some-clause-ok : goal.returns-in-Some-clause-ok
returns-in-Some-clause-ok c =
    rw (c.in-Some.is) (subst (λ keys. IfOk c.objects_of.result (λ text. text.items ≡ flat_map (λ number.
    object_line (map (λ key. string_bytes key) keys) (picked c.args.layout.now.places (cells_of c.args.rows.now number)))
    c.args.numbers.now)) c.deref.ensures.value c.objects_of.ensures.ok)
