-- Each byte of the word is eight of its places.
use Rattle.std.proofs.Common.{rules, ◌≡◌, ◌+◌, ◌*◌, ◌/◌, ◌%◌, ◌<◌, ℕ, List, get_or, refl, sym, ap, subst, ◌∙◌, arith}
use Rattle.std.specs.Int.{w64, from_le_bytes}
use Rattle.std.proofs.lemmas.List.{length-set}
use Rattle.std.proofs.lemmas.Nat.{from_le_bytes-to_le_bytes_8}
use Rattle.vob_block.specs.Places.{place}
use Rattle.vob_store.proofs.LowBytesLemmas.{low_places}
use Rattle.vob_store.proofs.WordLemmas.{bytes_small}
use Rattle.vob_c.proofs.BytesLemmas.{byte_place, stored_more}
use Rattle.vob_c.proofs.bytes.store_word.Goals as goal

pub loop-j-init : goal.loop-j-init
loop-j-init c = record { long = refl; each = λ before i less. before i (omega (arith, less)) }

pub loop-j-preserved : goal.loop-j-preserved
loop-j-preserved c =
    let words = c.args.words.now in
    let x = get_or words c.args.at 0 in
    let eight = c.to_le_bytes-eight.result in
    let k = 8 * c.args.at + c.loop-j.j in
    let h = c.loop-j.invariant in
    let small = λ (i : ℕ). subst (λ (bs : List ℕ). get_or bs i 0 < 256)
    (sym c.to_le_bytes-eight.ensures) (bytes_small 8 0 x i) in
    let back : x ≡ from_le_bytes w64 eight = sym (ap (from_le_bytes w64) c.to_le_bytes-eight.ensures
    ∙ from_le_bytes-to_le_bytes_8 x (search rules)) in
    let word : c.args.at ≡ k / 8 = omega (arith, c.loop-j-test.true) in
    let unit : k % 8 ≡ c.loop-j.j = omega (arith, c.loop-j-test.true) in
    let low = λ (p : ℕ) (few : p < 8). sym (ap (λ q. place p (get_or eight q 0)) unit)
    ∙ byte_place words eight k x (ap (λ q. get_or words q 0) word) (low_places eight small x back) p few in
    let next : 8 * (k + 1) ≡ 8 * (8 * c.args.at + (c.loop-j.j + 1)) = omega arith in
    record {
      long = length-set c.loop-j.bytes k c.turned.result ∙ h.long;
      each = λ before i less. stored_more c.args.most_first words c.loop-j.bytes k
          (get_or eight c.loop-j.j 0) c.turned.result low c.turned.ensures
          (omega (arith, h.long, c.requires.bytes, c.loop-j-test.true)) (h.each before) i
          (omega (arith, less, next));
    }

pub returns-clause-each : goal.returns-clause-each
returns-clause-each c = λ before i less.
    c.loop-j.invariant.each before i (omega (arith, less, c.loop-j-test.false))
