-- packets that are sent, each under a number of its own, are all heard at an end of their way, or the flow has a label there

use Rattle.std.proofs.Common.{ℕ, zero, suc, List, ◌∷◌, ◌⊎◌, inl, inr, subst}
use Rattle.world_model.specs.Words.{Addr, Policy, Mark, FlowId, next_mark, onward, default_home, default_payload, Topology, World}
use Rattle.world_model.specs.World.{opened}
use Rattle.world_model.specs.network_model.declared.link.LinkEnd.{LinkEnd}
use Rattle.world_model.specs.network_model.declared.event.Event.{Event}
use Rattle.calm_model.specs.Ways.{one_hop}
use Rattle.law_live_ease.specs.law_live_hearing.Law.{world_at, Hears}
use Rattle.law_live_ease.proofs.law_live_hearing.Going.{after_all}
use Rattle.law_live_ease.proofs.law_live_journeys.Counting.{Item, Items, Ascending}
use Rattle.law_live_cut_through.proofs.FirstHops.{HoldsIn, IsHeardAt}
use Rattle.law_live_cut_through.proofs.FirstWays.{Passes, MayGo, flow_on, may_go_on}

module _ (policy : Policy) (topology : Topology) (past events : List Event) (destination : Addr) where
  -- *Journeys* of packets of a flow, with ascending numbers
  pub record Journey (flow : FlowId) (ends : List LinkEnd) : Type 0 where
    pub mark : Mark
    pub packet : List ℕ
    pub may : MayGo flow packet destination ends
    pub passes : Passes policy topology past events flow mark packet ends

  abbrev pub Journeys : (flow : FlowId) → List LinkEnd → (least n : ℕ) → Type 0
  Journeys flow ends = Ascending (Journey flow ends) (λ j. j.mark.packet)

  module _ (flow : FlowId) (far : LinkEnd) (ends : List LinkEnd) where
    abbrev Has : Type 0
    Has = HoldsIn policy topology past events far (one_hop flow)

    abbrev Heard : (least n : ℕ) → Type 0
    Heard least n = Items topology far (one_hop flow) (world_at policy topology past) events least n

    first_end : (j : Journey flow (far ∷ ends)) → IsHeardAt policy topology past events far (next_mark j.mark) (onward j.packet)
        → Item topology far (one_hop flow) (world_at policy topology past) events
    first_end j h = record {
      mark = next_mark j.mark;
      packet = onward j.packet;
      front = h.front;
      rest = h.rest;
      are = h.are;
      hears = subst (λ (v : World). Hears topology v far.node (default_home far.port).channel (next_mark j.mark) (default_payload (onward j.packet)))
          (after_all topology (opened policy topology) past h.front) h.hears;
      holds = h.holds;
      of_flow = flow_on flow j.packet destination far ends j.may;
    }

    others : Journey flow (far ∷ ends) → Journey (one_hop flow) ends
    others j = record {
      mark = next_mark j.mark;
      packet = onward j.packet;
      may = may_go_on flow j.packet destination far ends j.may;
      passes = j.passes.1;
    }

    -- *All are heard* at the first end, or the flow has a label there
    pub first_ends : (n : ℕ) (least : ℕ) → Journeys flow (far ∷ ends) least n → Heard least n ⊎ Has
    unfolding first_end
    first_ends zero least js = inl tt
    first_ends (suc n) least (j, less, more) = by j.passes.0 (first_ends n j.mark.packet more)
      where
        by : IsHeardAt policy topology past events far (next_mark j.mark) (onward j.packet) ⊎ Has → Heard j.mark.packet n ⊎ Has → Heard least (suc n) ⊎ Has
        by (inr has) rest = inr has
        by (inl heard) (inr has) = inr has
        by (inl heard) (inl items) = inl (first_end j heard, less, items)

    pub other_ends : (n : ℕ) (least : ℕ) → Journeys flow (far ∷ ends) least n → Journeys (one_hop flow) ends least n
    unfolding others
    other_ends zero least js = tt
    other_ends (suc n) least (j, less, more) = (others j, less, other_ends n j.mark.packet more)
