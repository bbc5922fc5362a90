use Rattle.vob_flow.proofs.lists.solve_sides.Goals as goal
