-- All blocks from the first on are combined, and what changed is gathered from nothing.
use Rattle.std.proofs.Common.{◌-◌, length, map, ap, sym, ◌∙◌, arith}
use Rattle.std.proofs.lemmas.List.{length-map}
use Rattle.vob_block.proofs.KernelLemmas.{IsCombined-taken}
use Rattle.vob_block.proofs.kernel.Kernel.combine_into.Goals as goal

pub returns : goal.returns
returns g c =
    let number = g.Self.BitBlock.number in
    let own = c.args.own.now in
    let all = c.combine_from in
    let none = g.met.Self.BitBlock.zero_number_law in
    let zero = ap number c.ZERO-2.ensures ∙ none in
    let test = g.met.Self.BitBlock.equal_law all.result c.ZERO-2.result in
    record {
      combined = rw c.ne.ensures (IsCombined-taken g.Self.BitBlock.BITS g.C.Combine.of_bits
          (map number c.args.other.now.items) (map number own) (map number all.new.own)
          (length own - 0) (number c.ZERO.result) (number all.result) all.ensures.taken
          (ap number c.ZERO.ensures ∙ none)
          (omega (arith, length-map own number)) (g.Self.PartialEq.eq all.result c.ZERO-2.result)
          ((λ e. test.0 e ∙ zero), (λ e. test.1 (e ∙ sym zero))));
      read = record {
        items = all.ensures.items;
        reads = omega (arith, all.ensures.reads, c.requires);
      };
    }
