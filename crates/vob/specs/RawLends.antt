-- A vector of blocks as the logic holds it, for the clause on the blocks that raw storage lends.
use Rattle.std.specs.Borrow.{RattleType}
use Rattle.std.specs.contracts.alloc.Global as global
use Rattle.std.specs.contracts.vec.Vec as vec
use Rattle.std.specs.contracts.impls.GlobalAllocator.TheImpl.{ghosts}

abbrev pub blocks_row : RattleType → RattleType
blocks_row T = vec.the_row T global.the_row ghosts
