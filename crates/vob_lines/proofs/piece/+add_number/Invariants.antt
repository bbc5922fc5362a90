use Rattle.vob_lines.proofs.piece.+add_number.Given as goal

abbrev pub decreases-add_number : goal.decreases-add_number
decreases-add_number g l = l.n
