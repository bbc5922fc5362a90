-- What is listed stands between what comes before and behind it.
use Rattle.std.proofs.Common.{refl}
use Rattle.files_text.proofs.PrintedLemmas.{Appends-both}
use Rattle.files_flow.proofs.dot.list_framed.Goals as goal

pub returns-clause-ok : goal.returns-clause-ok
returns-clause-ok g c =
    let (body, appended, lists) = c.in_ok-list_lines.ensures.ok in (
      _,
      Appends-both _ _ _ _ _ (Appends-both _ _ _ _ _ c.in_ok-put_either.ensures appended)
          c.in_ok-put_either-2.ensures,
      (body, lists, refl),
    )
