-- A text waits behind what does, or alone once that is written.
use Rattle.std.proofs.Common.{[], refl}
use Rattle.vob_lines.proofs.WrittenLemmas.{but_all, but_waits, puts_failed}
use Rattle.vob_lines.proofs.piece.add.Goals as goal

-- both fit
pub returns-then-text-room : goal.returns-then-text-room
returns-then-text-room g c = rw c.push.ensures (but_all _ _)

pub returns-in_err-write_out : goal.returns-in_err-write_out
returns-in_err-write_out g c =
    puts_failed _ _ [] c.args.piece.now c.args.text.now c.from_residual.result _ _ refl
    c.from_residual.ensures.0 c.in_err-write_out.ensures.puts

-- nothing else waits
pub returns : goal.returns
returns g c =
    rw (c.push-2.ensures, c.in_ok-write_out.ensures.none)
    (but_waits _ _ c.args.piece.now c.args.text.now [] c.in_ok-write_out.ensures.puts)
