-- The line feed stands behind the number, and what waits at the end is written too.
use Rattle.std.proofs.Common.{refl, codes, [], ◌∷◌, ◌++◌}
use Rattle.std.specs.Fmt.{decimal}
use Rattle.vob_lines.specs.Texts.{line_of}
use Rattle.vob_lines.proofs.WrittenLemmas.{but_next, puts_failed, puts_bad, puts_last}
use Rattle.vob_lines.proofs.session.write_bad_line.Goals as goal

pub returns-in_err-add_named : goal.returns-in_err-add_named
returns-in_err-add_named g c =
    puts_failed _ _ [] (codes "bad line " ++ decimal c.args.line) (10 ∷ []) c.from_residual.result
    (line_of (codes "bad line " ++ decimal c.args.line)) _ refl c.from_residual.ensures.0
    (rw c.new-piece.ensures at c.in_err-add_named.ensures)

pub returns-in_err-add : goal.returns-in_err-add
returns-in_err-add g c =
    let part = c.in_err-add.ensures in
    puts_bad _ _ _ _ _ c.from_residual-in_err-add.ensures.0 (
      part.0,
      but_next _ _ [] (codes "bad line " ++ decimal c.args.line) (10 ∷ []) _
          (line_of (codes "bad line " ++ decimal c.args.line)) _ part.0 refl
          (rw c.new-piece.ensures at c.in_ok-add_named.ensures) part.1,
    )

pub returns : goal.returns
returns g c =
    puts_last c.write_out.result _ _ _ _ _
    (but_next _ _ [] (codes "bad line " ++ decimal c.args.line) (10 ∷ []) _
    (line_of (codes "bad line " ++ decimal c.args.line)) _ _ refl
    (rw c.new-piece.ensures at c.in_ok-add_named.ensures) c.in_ok-add.ensures)
    c.write_out.ensures.puts
