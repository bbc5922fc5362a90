-- An end more was found, or is lower, or was found before.
use Rattle.std.proofs.Common.{◌≡◌, ◌∙◌, ◌≤◌, ℕ, List, true, get_or, sym, subst, arith, inl, inr}
use Rattle.std.specs.List.{Contains}
use Rattle.std.proofs.lemmas.Bool.{cases_lt}
use Rattle.std.proofs.lemmas.List.{get_or_default}
use Rattle.std.proofs.lemmas.List.Elements.{Contains-get_or}
use Rattle.vob_block.specs.Packing.{item}
use Rattle.vob_flow.specs.Reach.Reaches.{along}
use Rattle.files_graph.proofs.DirectLemmas.{HasFoundMore-both, HasFoundMore-found, HasFoundMore-none, IsFrom-found, IsSearch-found}
use Rattle.files_graph.proofs.direct.find_ends.Goals as goal
use Rattle.files_graph.proofs.direct.find_ends.Goals.{then-end-lowest+then-not-get_unchecked+in_ok-find, else-end-lowest, else-end-lowest-via-then-end-lowest+else-not-get_unchecked, else-end-lowest-via-else-end-lowest}

pub loop-end-init : goal.loop-end-init
loop-end-init c = record {
  search = c.requires.search;
  more = HasFoundMore-none _;
  from = λ ends starts on h. h;
  given = λ j less. absurd (omega (arith, less));
}

pub loop-end-preserved : goal.loop-end-preserved
loop-end-preserved c =
    let h = c.loop-end.invariant in
    let links = c.args.links.now in
    let ends = c.next-ends.result.now in
    let k = c.loop-end.end-index in
    let e = get_or ends k 0 in
    let old = c.loop-end.search in
    let edge = subst (λ (xs : List ℕ). Contains xs e) c.next-ends.ensures.ends
    (Contains-get_or ends k 0 c.loop-end-test.true) in
    elim c.if-end-lowest.branch [
      | then-end-lowest+then-not-get_unchecked+in_ok-find w ↦
          let f = w.in_ok-find.ensures in
          let new = w.find.new.search in
          let off = sym w.get_unchecked.ensures.item ∙ w.if-not-get_unchecked.true in
          let more = HasFoundMore-found old new e f in
          rw w.search-is record {
            search = IsSearch-found old new e f _ h.search off;
            more = HasFoundMore-both _ old new h.more more;
            from = λ xs starts on g.
                let before = h.from xs starts on g in
                let p = before.sound c.args.node (h.more.kept c.args.node on) in
                IsFrom-found old new e f links xs starts starts c.args.lowest h.search.within (λ s there. there)
                (p.0, p.1, along p.2 edge) before;
            given = λ j less above. elim (cases_lt j k) [
              | inl early ↦ more.kept _ (h.given j early above)
              | inr past ↦
                  let here : k ≡ j = omega (arith, less, past) in
                  subst (λ i. item new.seen.bits (get_or ends i 0) ≡ true) here f.seen.there
            ];
          }
      | else-end-lowest w ↦ rw w.search-is record {
        search = h.search;
        more = h.more;
        from = h.from;
        given = λ j less above. elim (cases_lt j k) [
          | inl early ↦ h.given j early above
          | inr past ↦
              let here : k ≡ j = omega (arith, less, past) in
              elim w.else-end-lowest.branch [
                | else-end-lowest-via-then-end-lowest+else-not-get_unchecked v ↦
                    subst (λ i. item old.seen.bits (get_or ends i 0) ≡ true) here
                    (sym v.get_unchecked.ensures.item ∙ v.if-not-get_unchecked.false)
                | else-end-lowest-via-else-end-lowest v ↦
                    let low = subst (λ i. c.args.lowest ≤ get_or ends i 0) (sym here) above in
                    absurd (omega (arith, low, v.if-end-lowest.false))
              ]
        ];
      }
    ]

pub returns-clause-given : goal.returns-clause-given
returns-clause-given c = λ y edge above.
    let ends = c.next-ends.result.now in
    let p = subst (λ (xs : List ℕ). Contains xs y) (sym c.next-ends.ensures.ends) edge in
    let is = get_or_default ends p.0 0 y p.1 ∙ p.2 in
    subst (λ m. item c.loop-end.search.seen.bits m ≡ true) is (c.loop-end.invariant.given p.0
    (omega (arith, p.1, c.loop-end-test.false)) (omega (arith, is, above)))
