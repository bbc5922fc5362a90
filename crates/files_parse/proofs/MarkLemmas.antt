-- Two states that are on top again lead on without end.
use Rattle.std.proofs.Common.{Option, None, Some, ◌≡◌, ◌⊎◌, inl, inr, ℕ, zero, suc, ◌+◌, ◌<◌, ◌≤◌, List, [], ◌∷◌, ◌++◌, length, drop, refl, ap, sym, subst, ◌∙◌, arith}
use Rattle.std.proofs.lemmas.List.{drop-append-le, length-append, length-drop}
use Rattle.vob_lr.specs.Parses.{top}
use Rattle.vob_lr.specs.Tables.{TableView, chosen_at}
use Rattle.vob_lr.specs.declared.table.Action.TheVariants.{Reduce}
use Rattle.files_parse.specs.Marks.{HasMark, IsGoingOn, IsSince, MayKeep, Repeats}
use Rattle.files_parse.specs.Stacks.{Becomes, IsStep, Leads, ReducesBy}
use Rattle.files_parse.specs.Stacks.Leads.{here, further}
use Rattle.files_parse.specs.declared.parser.Mark.{Mark}
use Rattle.files_parse.specs.declared.parser.Outcome.TheVariants.{Endless}
use Rattle.files_parse.specs.declared.parser.Step.TheVariants.{Reduced}
use Rattle.files_parse.proofs.StackLemmas.{leads_on}

same_top : (above : List ℕ) (b : ℕ) (rest other : List ℕ) → top (above ++ b ∷ rest) ≡ top (above ++ b ∷ other)
same_top [] b rest other = refl
same_top (x ∷ above) b rest other = refl

-- states that are on top of two are on top of them again
again : (above : List ℕ) (a b : ℕ) (rest more other : List ℕ) → 0 < length above →
    above ++ b ∷ rest ≡ a ∷ b ∷ more → (later : List ℕ) × (above ++ b ∷ other ≡ a ∷ b ∷ later)
again [] a b rest more other some is = absurd (omega (arith, some))
again (x ∷ []) a b rest more other some is =
    let first : x ≡ a = cc in (other, ap (λ (n : ℕ). n ∷ b ∷ other) first)
again (x ∷ y ∷ above) a b rest more other some is =
    let first : x ≡ a = cc in
    let second : y ≡ b = cc in (
      above ++ b ∷ other,
      ap (λ (n : ℕ). n ∷ y ∷ (above ++ b ∷ other)) first
          ∙ ap (λ (n : ℕ). a ∷ n ∷ (above ++ b ∷ other)) second,
    )

module _ (table : TableView) (t : ℕ) where
  -- a rule that leaves nothing below leads on from others too
  lifted : (r b : ℕ) (xs above rest ys : List ℕ) (by : ReducesBy table r xs ys) → xs ≡ above ++ b ∷ rest →
      length by.rule.right.items ≤ length above → (other : List ℕ) →
      ReducesBy table r (above ++ b ∷ other) ((by.state ∷ drop (length by.rule.right.items) above) ++ b ∷ other)
  lifted r b xs above rest ys by cut fits other =
      let count = length by.rule.right.items in
      let left = drop-append-le count above (b ∷ other) fits in
      let mine = drop-append-le count above (b ∷ rest) fits in
      let shown : top (drop count xs) ≡ top (drop count (above ++ b ∷ other)) =
      ap (λ (l : List ℕ). top (drop count l)) cut ∙ ap top mine ∙ same_top (drop count above) b rest other
      ∙ sym (ap top left) in
      record {
        rule = by.rule;
        is = by.is;
        state = by.state;
        move = rw (← shown) by.move;
        after = ap (λ (l : List ℕ). by.state ∷ l) (sym left);
      }

  -- nothing is marked yet, or just now
  pub marks_now : (n : ℕ) (first xs : List ℕ) (now : Option Mark) → Leads table t first n xs → HasMark xs now →
      IsGoingOn table t first xs now
  marks_now n first xs None leads has = (n, leads)
  marks_now n first xs (Some mark) leads (rest, is, depth) = record {
    n = n;
    rest = rest;
    before = subst (λ (l : List ℕ). Leads table t first n l) is leads;
    depth = depth;
    k = 0;
    above = mark.state ∷ [];
    cut = is;
    leads = λ other. here;
  }

  pub has_led : (first xs : List ℕ) (mark : Option Mark) → IsGoingOn table t first xs mark →
      (n : ℕ) × Leads table t first n xs
  has_led first xs None is = is
  has_led first xs (Some mark) is = (
    is.n + is.k,
    subst (λ (l : List ℕ). Leads table t first (is.n + is.k) l) (sym is.cut)
        (leads_on table t is.before (is.leads is.rest)),
  )

  -- a step further, above two marked states
  record Kept (first ys : List ℕ) (mark : Mark) : Type 0 where
    since : IsSince table t first ys mark
    some : 0 < since.k
    above : 0 < length since.above

  kept : (first xs ys : List ℕ) (mark now : Mark) → IsSince table t first xs mark → IsStep table t xs ys Reduced →
      HasMark ys (Some now) → mark.depth ≤ now.depth → Kept first ys mark
  kept first xs ys mark now s (r, is, by) (rest, top_is, depth) deep =
      let b = mark.below in
      let count = length by.rule.right.items in
      let left = ap (λ (l : List ℕ). length l) (sym by.after ∙ top_is) in
      let whole = length-drop count xs in
      let long = ap (λ (l : List ℕ). length l) s.cut ∙ length-append s.above (b ∷ s.rest) in
      let fits : count ≤ length s.above = omega (arith, left, whole, long, depth, s.depth, deep) in
      let acts = subst (λ (l : List ℕ). chosen_at table.cells (top l) t ≡ Some (Reduce r)) s.cut is in
      record {
        since = record {
          n = s.n;
          rest = s.rest;
          before = s.before;
          depth = s.depth;
          k = s.k + 1;
          above = by.state ∷ drop count s.above;
          cut = by.after ∙ ap (λ (l : List ℕ). by.state ∷ drop count l) s.cut
              ∙ ap (λ (l : List ℕ). by.state ∷ l) (drop-append-le count s.above (b ∷ s.rest) fits);
          leads = λ other. further (s.leads other)
              (ap (λ (q : ℕ). chosen_at table.cells q t) (same_top s.above b other s.rest) ∙ acts)
              (lifted r b xs s.above s.rest ys by s.cut fits other);
        };
        some = omega arith;
        above = omega arith;
      }

  -- one more reduction
  pub goes_on : (first xs ys : List ℕ) (mark now result : Option Mark) → IsGoingOn table t first xs mark →
      IsStep table t xs ys Reduced → HasMark ys now → (result ≡ now) ⊎ MayKeep mark now result →
      IsGoingOn table t first ys result
  goes_on first xs ys mark now result going (r, is, by) has (inl same) =
      let (n, leads) = has_led first xs mark going in
      rw same (marks_now (n + 1) first ys now (further leads is by) has)
  goes_on first xs ys None now result going step has (inr keeps) = absurd keeps
  goes_on first xs ys (Some mark) None result going step has (inr keeps) = absurd keeps
  goes_on first xs ys (Some mark) (Some now) result going step has (inr (same, deep)) =
      rw same ((kept first xs ys mark now going step has deep).since)

  module _ (a b k : ℕ) (some : 0 < k)
      (round : (other : List ℕ) → (later : List ℕ) × Leads table t (a ∷ b ∷ other) k (a ∷ b ∷ later)) where
    rounds : (j : ℕ) (other : List ℕ) →
        (n : ℕ) × (later : List ℕ) × (j ≤ n) × Leads table t (a ∷ b ∷ other) n (a ∷ b ∷ later)
    rounds zero other = (0, other, omega arith, here)
    rounds (suc j) other =
        let (next, leads) = round other in
        let (n, later, more, others) = rounds j next in
        (k + n, later, omega (arith, more, some), leads_on table t leads others)

  -- two states are on top again
  pub endless : (first xs ys zs : List ℕ) (mark now : Option Mark) → IsGoingOn table t first xs mark →
      IsStep table t xs ys Reduced → HasMark ys now → Repeats mark now → Becomes table t first zs Endless
  endless first xs ys zs None now going step has repeats k = absurd repeats
  endless first xs ys zs (Some mark) None going step has repeats k = absurd repeats
  endless first xs ys zs (Some mark) (Some now) going step has (state, below, deep) j =
      let q = kept first xs ys mark now going step has deep in
      let s = q.since in
      let a = mark.state in
      let b = mark.below in
      let (more, top_is, depth) = has in
      let on_top : s.above ++ b ∷ s.rest ≡ a ∷ b ∷ more =
      sym s.cut ∙ top_is ∙ ap (λ (n : ℕ). n ∷ now.below ∷ more) state ∙ ap (λ (n : ℕ). a ∷ n ∷ more) below in
      let round : (other : List ℕ) → (later : List ℕ) × Leads table t (a ∷ b ∷ other) s.k (a ∷ b ∷ later) =
      λ other.
      let (later, is) = again s.above a b s.rest more other q.above on_top in
      (later, subst (λ (l : List ℕ). Leads table t (a ∷ b ∷ other) s.k l) is (s.leads other)) in
      let (n, later, past, leads) = rounds a b s.k q.some round j s.rest in
      (s.n + n, a ∷ b ∷ later, omega (arith, past), leads_on table t s.before leads)
