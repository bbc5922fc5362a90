-- The nodes that a node leads to are those that its next nodes reach.
use Rattle.std.specs.Prelude.{◌↔◌}
use Rattle.std.proofs.Common.{◌≡◌, ℕ, Bool, true, List, [], slice_index_or}
use Rattle.vob_block.specs.Packing.{item}
use Rattle.vob_flow.specs.Closure.{IsEdge, Leads}
use Rattle.vob_flow.specs.Closure.Leads.{by_edge, through}
use Rattle.vob_flow.specs.Reach.{AreReached, Reaches}
use Rattle.vob_flow.specs.Reach.Reaches.{at_start, along}

module _ (next : List (List ℕ)) where
  leads_on : {n k m : ℕ} → Leads next n k → IsEdge next k m → Leads next n m
  leads_on (by_edge e) last = through e (by_edge last)
  leads_on (through e rest) last = through e (leads_on rest last)

  module _ (node : ℕ) where
    reach_leads : {n : ℕ} → Reaches next (slice_index_or next node []) n → Leads next node n
    reach_leads (at_start first) = by_edge first
    reach_leads (along before e) = leads_on (reach_leads before) e

    reach_on : {k n : ℕ} → Reaches next (slice_index_or next node []) k → Leads next k n →
        Reaches next (slice_index_or next node []) n
    reach_on before (by_edge e) = along before e
    reach_on before (through e rest) = reach_on (along before e) rest

    leads_reach : {n : ℕ} → Leads next node n → Reaches next (slice_index_or next node []) n
    leads_reach (by_edge e) = at_start e
    leads_reach (through e rest) = reach_on (at_start e) rest

    pub reached_from : (from : List ℕ) (set : List Bool) → slice_index_or next node [] ≡ from →
        AreReached next from set → (n : ℕ) → (item set n ≡ true) ↔ Leads next node n
    reached_from from set same reached n =
        let is = rw (← same) at reached in (
          (λ there. reach_leads ((is.each n).0 there)),
          (λ leads. (is.each n).1 (leads_reach leads)),
        )
