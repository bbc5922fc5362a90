-- A walk over the blocks of a Vob is one over its bits.
use Rattle.std.specs.declared.ops.Bound.{Bound}
use Rattle.std.specs.declared.ops.Bound.TheVariants.{Included, Excluded}
use Rattle.std.proofs.Common.{◌≡◌, ℕ, ◌<◌, ◌≤◌, Bool, List, length, sym, ap, subst, arith}
use Rattle.vob_block.specs.Packing.{packing, unpacking}
use Rattle.vob_block.proofs.PackingLemmas.{packing_is}
use Rattle.vob_walk.specs.Matches.{ForSomeRange}
use Rattle.vob_walk.specs.Walk.{Walk, IsFresh, IsWhole}
use Rattle.vob_walk.proofs.MatchesLemmas.{length-matches-le}

module _ (w : ℕ) (wide : 0 < w) (bits : List Bool) {n : ℕ} {xs : List ℕ}
    (blocks : xs ≡ packing bits w) (long : n ≡ length bits) {value : Bool} {walk : Walk}
    (unread : walk.reads ≡ 0) where
  pub fresh : {low high : Bound ℕ} → IsWhole walk (unpacking n xs w) value low high w
      → IsFresh walk bits value low high w
  fresh {low} {high} whole = record {
    whole = subst (λ bs. IsWhole walk bs value low high w)
        (packing_is w wide bits n xs blocks (sym long)).bits whole;
    reads = unread;
  }

  pub fresh_some : ForSomeRange n (λ low high. IsWhole walk (unpacking n xs w) value low high w)
      → ForSomeRange (length bits) (λ low high. IsFresh walk bits value low high w)
  fresh_some (start, stop, order, inside, whole) =
      (start, stop, order, omega (arith, inside, long), fresh whole)

  pub few_left : ForSomeRange n (λ low high. IsWhole walk (unpacking n xs w) value low high w)
      → length walk.rest ≤ length bits
  few_left (start, stop, order, inside, whole) =
      let few = length-matches-le bits (Included start) (Excluded stop) value in
      omega (arith, ap length (fresh whole).whole.rest, few)
