-- So many items of the walk are written, and the others are left.
use Rattle.vob_c.proofs.IndicesLemmas.{IsWriting}
use Rattle.vob_c.proofs.indices.write_set.Given as goal

abbrev pub invariant-loop-k : goal.invariant-loop-k
invariant-loop-k l = record {
  writing : IsWriting l.fn.walk.rest l.fn.out l.k l.walk.rest l.out;
}
