-- Blocks filled up with bits of one value, at the numbers of some items.
use Rattle.std.proofs.Common.{◌≡◌, ℕ, ◌+◌, ◌-◌, ◌*◌, ◌^◌, ◌<◌, ◌≤◌, Bool, true, false, cond, List}
use Rattle.std.proofs.Common.{◌++◌, length, map, take, drop, replicate, sym, ap, ◌∙◌, arith}
use Rattle.std.proofs.Common.{add-mul}
use Rattle.std.proofs.lemmas.Bool.{cond-true}
use Rattle.std.proofs.lemmas.List.{length-append, length-replicate, map-append, append_assoc, replicate-append-replicate, take_all, take_at}
use Rattle.std.proofs.Math.Nat.{mul-mod_left}
use Rattle.vob_block.specs.Packing.{need, unpacking, IsCanonical, Stores}
use Rattle.vob_block.proofs.NeedLemmas.{need_enough}
use Rattle.vob_block.proofs.PackingLemmas.{length-unpacking}
use Rattle.vob_store.specs.Joining.{HaveRoom, IsJoined}
use Rattle.vob_store.proofs.AppendLemmas.{Stores-behind}
use Rattle.vob_store.proofs.CutLemmas.{unpacking-first}
use Rattle.vob_store.proofs.RoomLemmas.{need-mul}
use Rattle.vob_store.proofs.SplatLemmas.{Stores-splat}

-- the items of a vector, of which a slice was changed, after a resize that isn't refused
pub resized_is : {X : Type 0} (changed old ys : List X) (splat : X) (t len : ℕ) (done : Bool)
    → length changed ≡ len → len ≤ t → done ≡ true
    → ys ≡ cond done (take t (take len (changed ++ drop (length changed) old)) ++ replicate
    (t - len) splat) (take len (changed ++ drop (length changed) old))
    → ys ≡ changed ++ replicate (t - len) splat
resized_is changed old ys splat t len done long longer ok is =
    rw (take_at changed (drop (length changed) old) len long) at is
    ∙ cond-true done (take t changed ++ replicate (t - len) splat) changed ok
    ∙ ap (λ xs. xs ++ replicate (t - len) splat) (take_all t changed (omega (arith, long)))

-- blocks of one bit behind n bits and that bit in all places that are left
pub Stores-filled_up : {X : Type 0} (number : X → ℕ) (w : ℕ) → 0 < w → (n k t : ℕ)
    (before : List Bool) (xs : List X) (v : Bool) (splat : X) → n ≤ k * w → k ≤ t
    → Stores w (k * w) (map number xs) (before ++ replicate (k * w - n) v)
    → number splat ≡ cond v (2 ^ w - 1) 0
    → Stores w (t * w) (map number (xs ++ replicate (t - k) splat))
    (before ++ replicate (t * w - n) v)
Stores-filled_up number w wide n k t before xs v splat enough longer stored its =
    let both = Stores-behind _ wide _ _ stored.canonical _ _ _ (mul-mod_left k w)
    (Stores-splat number w wide (t - k) v splat its) in
    let all : k + (t - k) ≡ t = omega arith in
    let sum : k * w + (t - k) * w ≡ t * w = sym (add-mul k (t - k) w) ∙ ap (λ m. m * w) all in
    let rest : k * w - n + (t - k) * w ≡ t * w - n = omega (arith, sum) in
    rw map-append (rw (sum, stored.bits, append_assoc, replicate-append-replicate, rest) at both)

-- the first m bits of blocks that are filled up
pub unpacking-filled : (w n k m : ℕ) (before : List Bool) (ys : List ℕ) (v : Bool)
    → length before ≡ n → Stores w (k * w) ys (before ++ replicate (k * w - n) v) → n ≤ m
    → m ≤ k * w → unpacking m ys w ≡ before ++ replicate (m - n) v
unpacking-filled w n k m before ys v long stored more fewer =
    let all : m - n + (k * w - m) ≡ k * w - n = omega arith in
    unpacking-first stored fewer
    ∙ ap (λ bits. take m (before ++ bits)) (ap (λ q. replicate q v) (sym all)
    ∙ sym (replicate-append-replicate (m - n) (k * w - m) v))
    ∙ ap (take m) (sym (append_assoc before (replicate (m - n) v) (replicate (k * w - m) v)))
    ∙ take_at (before ++ replicate (m - n) v) (replicate (k * w - m) v) m
    (length-append before (replicate (m - n) v)
    ∙ omega (arith, long, length-replicate (m - n) v))

-- blocks filled up with false bits have room, and what is joined to them is joined to the first n
module _ (w : ℕ) (wide : 0 < w) (n m : ℕ) (xs ys others : List ℕ) (k : ℕ)
    (count : k ≡ need (n + m) w)
    (stored : Stores w (k * w) ys (unpacking n xs w ++ replicate (k * w - n) false)) where
  pub HaveRoom-filled : IsCanonical m others w → HaveRoom w n m ys others
  HaveRoom-filled other = record {
    count = stored.canonical.count ∙ need-mul w wide k ∙ count;
    other = other;
  }

  pub IsJoined-filled : (after : List ℕ) → IsJoined w n m ys others after
      → IsJoined w n m xs others after
  IsJoined-filled after joined =
      let enough = need_enough w wide (n + m) in
      let room : need (n + m) w * w ≡ k * w = ap (λ q. q * w) (sym count) in
      let same : unpacking n ys w ≡ unpacking n xs w = unpacking-first stored
      (omega (arith, enough, room)) ∙ take_at (unpacking n xs w) (replicate (k * w - n) false) n
      (length-unpacking n xs w) in
      record {
        canonical = joined.canonical;
        bits = joined.bits ∙ ap (λ b. b ++ unpacking m others w) same;
      }
