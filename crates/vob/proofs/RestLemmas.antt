-- What a walk over bits has left, from its first to its last.
use Rattle.std.specs.List.{range_with_len}
use Rattle.std.specs.Iterator.{YieldsFirst, YieldsLast}
use Rattle.std.specs.Iterator.Runs.{YieldsInOrder, YieldsInReverse}
use Rattle.std.proofs.iter.runs.Sources.{from_front, from_back, as_is, as_is_back}
use Rattle.std.proofs.Common.{◌≡◌, ℕ, suc, ◌+◌, ◌-◌, ◌<◌, ◌≤◌, List, [], ◌∷◌, ◌++◌, length, map, ap, ◌∙◌, arith}
use Rattle.std.proofs.lemmas.List.FromFn.{length-map-range_with_len, map-range_with_len_more}
use Rattle.vob_block.specs.Packing.{bit_at, unpacking}
use Rattle.vob.specs.Rest.{bits_between}

pub length-bits_between : (from to : ℕ) (xs : List ℕ) (w : ℕ) → length (bits_between from to xs w)
    ≡ to - from
unfolding bits_between
length-bits_between from to xs w = length-map-range_with_len (bit_at xs w) from (to - from)

pub bits_between-nothing : (from to : ℕ) (xs : List ℕ) (w : ℕ) → to ≤ from
    → bits_between from to xs w ≡ []
unfolding bits_between
bits_between-nothing from to xs w h =
    let none : to - from ≡ 0 = omega arith in
    ap (λ n. map (bit_at xs w) (range_with_len from n)) none

-- the whole is what the blocks unpack to
pub bits_between-whole : (n : ℕ) (xs : List ℕ) (w : ℕ) → bits_between 0 n xs w ≡ unpacking n xs w
unfolding bits_between unpacking
bits_between-whole n xs w =
    let all : n - 0 ≡ n = omega arith in
    ap (λ m. map (bit_at xs w) (range_with_len 0 m)) all

pub bits_between-first : (from to : ℕ) (xs : List ℕ) (w : ℕ) → from < to
    → bits_between from to xs w ≡ bit_at xs w from ∷ bits_between (from + 1) to xs w
unfolding bits_between
bits_between-first from to xs w h =
    let more : to - from ≡ suc (to - (from + 1)) = omega arith in
    ap (λ n. map (bit_at xs w) (range_with_len from n)) more

pub bits_between-last : (from to : ℕ) (xs : List ℕ) (w : ℕ) → from < to
    → bits_between from to xs w ≡ bits_between from (to - 1) xs w ++ bit_at xs w (to - 1) ∷ []
unfolding bits_between
bits_between-last from to xs w h =
    let more : to - from ≡ to - 1 - from + 1 = omega arith in
    ap (λ n. map (bit_at xs w) (range_with_len from n)) more
    ∙ map-range_with_len_more (bit_at xs w) from (to - 1 - from) (to - 1) (omega arith)

-- a walk that is seen as the list of what is left gives that list, from the front and from the back
pub rest_runs : {X : Type 0} → YieldsInOrder (YieldsFirst {A = X} (λ rest. rest)) (λ rest. rest)
rest_runs {X} p s = as_is p p.from (from_front (YieldsFirst {A = X} (λ rest. rest)) (λ x. x)
    (λ rest. rest) (λ s t h. ap length h.0) (λ s x t h. h) p s)

pub rest_runs_back : {X : Type 0} → YieldsInReverse (YieldsLast {A = X} (λ rest. rest))
    (λ rest. rest)
rest_runs_back {X} p s = as_is_back p p.from (from_back (YieldsLast {A = X} (λ rest. rest))
    (λ x. x) (λ rest. rest) (λ s t h. ap length h.0) (λ s x t h. h) p s)
