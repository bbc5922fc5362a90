-- The digits, or a dash, stand behind the word.
use Rattle.std.proofs.Common.{refl, codes, ◌≡◌, ◌<◌, [], ◌∷◌, Bool, List, length, map, arith}
use Rattle.std.proofs.lemmas.Bool.Decides.{nat_tests}
use Rattle.std.proofs.lemmas.List.{nil_from_length}
use Rattle.vob_lines.specs.Spelling.{digit, digits}
use Rattle.vob_lines.proofs.WrittenLemmas.{puts_next, puts_failed}
use Rattle.vob_lines.proofs.text.add_bit_list.Goals as goal

digits-some : (bits : List Bool) → 0 < length bits → digits bits ≡ map digit bits
digits-some [] some = absurd (omega arith)
digits-some (bit ∷ bits) some = refl

pub returns-in_err-add : goal.returns-in_err-add
returns-in_err-add g c =
    puts_failed _ _ c.args.piece.now (codes "bits ") (digits c.args.bits.now)
    c.from_residual.result _ _ refl c.from_residual.ensures.0 c.in_err-add.ensures

-- there are none
pub returns-then-is_empty : goal.returns-then-is_empty
returns-then-is_empty g c =
    let none : c.args.bits.now ≡ [] = nil_from_length _ (grind (arith, nat_tests)) in
    rw none
    (puts_next _ _ c.args.piece.now (codes "bits ") (codes "-") c.add-then-is_empty.result _ _ _
    c.in_ok-add.ensures c.add-then-is_empty.ensures)

pub returns : goal.returns
returns g c =
    let some : 0 < length c.args.bits.now = grind (arith, nat_tests) in
    rw (digits-some c.args.bits.now some)
    (puts_next _ _ c.args.piece.now (codes "bits ") (map digit c.args.bits.now) c.add_digits.result
    _ _ _ c.in_ok-add.ensures c.add_digits.ensures)
