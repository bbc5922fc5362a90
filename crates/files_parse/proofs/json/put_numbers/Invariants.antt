-- The numbers that are left are still to be written.
use Rattle.std.proofs.Common.{◌+◌, ◌-◌, ◌++◌}
use Rattle.std.specs.Fmt.{decimal}
use Rattle.std.specs.List.{range_with_len}
use Rattle.files_text.proofs.PrintedLemmas.{AppendsItems}
use Rattle.files_parse.specs.JsonText.{between}
use Rattle.files_parse.proofs.json.put_numbers.Given as goal

abbrev pub invariant-loop-number : goal.invariant-loop-number
invariant-loop-number g l =
    AppendsItems (λ number. between l.text l.first number ++ decimal number) (g.W.Write.contents l.fn.output)
    (g.W.Write.contents l.output) (range_with_len l.first l.count)
    (range_with_len l.number (l.first + l.count - l.number))
