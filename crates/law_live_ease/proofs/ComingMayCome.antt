-- so all may come that a carry brings such a node

use Rattle.std.proofs.Common.{◌≡◌, inl, inr, ℕ, true, List, [], ◌∷◌, Some, refl, sym, ◌∙◌, ap, subst}
use Rattle.world_model.specs.Words.{Policy, NodeId, Up, Addr, Cell, payload_of, default_payload, ifmp_packet_of, default_home, ifmp_of, nothing_taken, with_reassembly, Linked, ForGsmp, ForDefault, ForLabel, Topology, World, Site, queue_at, next}
use Rattle.world_model.specs.Cells.{Taker}
use Rattle.world_model.specs.ifmp_wire.Message.{octets_of as ifmp_octets}
use Rattle.world_model.specs.network_model.declared.link.LinkEnd.{LinkEnd}
use Rattle.world_model.specs.network_model.declared.event.Event.{Event}
use Rattle.world_model.specs.network_model.declared.event.Event.TheVariants.{Carry}
use Rattle.law_live_journeys.specs.law_port_facts.ordered_lists.Ordered.{Every}
use Rattle.law_live_journeys.proofs.law_run_facts.Takers.{default_of}
use Rattle.law_live_journeys.specs.law_live_hearing.Law.{world_at, acting}
use Rattle.law_live_journeys.specs.law_live_orders.Law.{is_last_on, coming}
use Rattle.law_live_journeys.specs.law_live_orders.Messages.{HoldsNone, StayMade, IsFirst}
use Rattle.law_live_journeys.proofs.law_live_orders.Coming.{first_messages_are_heard}
use Rattle.law_live_journeys.proofs.law_live_control_links.Runs.{runs_are_steady}
use Rattle.law_live_journeys.specs.law_live_going.Law.{IsWritten}
use Rattle.law_live_journeys.specs.law_live_unsaid.Carries.{EndsFrame}
use Rattle.law_live_journeys.proofs.law_live_peace.Carries.{all_stay}
use Rattle.law_live_journeys.specs.law_live_asking.Frames.{HoldsMessage, MayWork, MayCome}
use Rattle.law_live_journeys.specs.law_live_asking.Carries.{EndsWhatMayCome}
use Rattle.law_live_journeys.proofs.law_live_asking.Still.{taker_there}
use Rattle.law_live_journeys.proofs.law_live_brought.Whole.{is_last, whole_is, one_payload}
use Rattle.law_live_journeys.proofs.law_live_brought.Made.{WasMade, last_made}
use Rattle.law_live_journeys.proofs.law_live_brought.Moment.{both_true}
use Rattle.law_live_ease.specs.Law.{IsBindingLink}
use Rattle.law_live_ease.specs.Coming.{CarriesMayCome}
use Rattle.law_live_ease.proofs.ComingSteps.{one_linked}
use Rattle.law_live_ease.proofs.ComingNode.{Brought, IsThere, EndAt, w, link, is_topology, counted, end_of_link}
use Rattle.law_live_ease.proofs.ComingTold.{gsmp_may_come}
use Rattle.law_live_ease.proofs.ComingMessages.{holds_message, refused_or_packet}
use Rattle.law_live_ease.proofs.ComingHears.{HearsSo, may_work, b, q_now, found_now, hears_other, hears_message}

module _ {policy : Policy} {topology : Topology} {before : List Event} {node : NodeId} {site : Site} (m : Brought policy topology before node site)
    (cell : Cell) (cells : List Cell) (queue : queue_at (w m) (Up node) ≡ cell ∷ cells) where
  abbrev v : World
  v = next topology (w m) (Carry (Up node))

  -- *What ends a frame* is its last cell, and the payload is what was made under that cell's mark
  module _ (taker : Taker) (payload : List ℕ) (ends : EndsFrame (w m) node site cell taker payload) where
    ends_last : cell.header.last ≡ true
    ends_last = is_last topology (w m) node site m.found cell cells queue payload ends.whole

    was : WasMade (w m) cell
    was = last_made policy topology before m.world node m.within (link m) cell cells queue ends_last

    same_payload : was.payload ≡ payload
    same_payload = one_payload was.payload payload
        (sym (whole_is topology (w m) node site m.found cell cells queue ends_last was.payload was.is (counted m) (m.calm.unlost cell cells queue) taker ends.takes) ∙ ends.whole)

    made : payload_of (w m).notes.frames cell.mark ≡ Some payload
    made = was.is ∙ ap (λ (p : List ℕ). Some p) same_payload

  -- *On a default channel*
  module _ (q : Linked) (payload : List ℕ) (ends : EndsFrame (w m) node site cell (ForDefault q) payload) where
    pub own : IsThere m q
    own = taker_there site.controller cell.header.channel (ForDefault q) ends.takes

    abbrev e : EndAt m q
    e = end_of_link m q own

    abbrev here : LinkEnd
    here = record { node = node; port = q.setup.port }

    abbrev link_is : IsBindingLink topology (w m) here e.far
    link_is = e.binding

    abbrev from : Addr
    from = link_is.ends.bind.far_shows.site.controller.address

    on : is_last_on (default_home q.setup.port).channel cell ≡ true
    on = both_true cell.header.last _ (ends_last (ForDefault q) payload ends) (default_of site.controller cell.header.channel q ends.takes)

    stay : StayMade (w m).notes.frames v.notes.frames (coming (w m) e.far here)
    stay = all_stay (w m).notes.frames v.notes.frames (coming (w m) e.far here) (runs_are_steady policy topology before (Carry (Up node)) m.comes m.world node).1.stays

    none_heard : HoldsNone (w m).notes.frames cell.mark → HearsSo (b m q own) (q_now m q own) payload
    none_heard none = hears_other m q own payload (refused_or_packet payload
        (ap ifmp_of (one_payload payload none.payload (sym (made (ForDefault q) payload ends) ∙ none.made)) ∙ none.no_message))

    first_heard : IsFirst from (w m) v e.far here cell.mark link_is.ends.far_said → HearsSo (b m q own) (q_now m q own) payload
    first_heard first = hears_message m q own payload first.message first.rest first.are
        (subst (λ (address : Addr). HoldsMessage payload address first.message) (sym link_is.ends.bind.far_shows.address)
        (subst (λ (p : List ℕ). HoldsMessage p from first.message) (one_payload (default_payload (ifmp_packet_of from (ifmp_octets first.message))) payload (sym first.says ∙ made (ForDefault q) payload ends))
        (holds_message from first.message link_is.ends.far_low written.range written.fits)))
      where
        written : IsWritten first.message
        written = (subst (Every IsWritten) first.are link_is.ends.far_written).0

    pub hears_so : HearsSo (b m q own) (q_now m q own) payload
    hears_so = elim (first_messages_are_heard topology (w m) e.far here cell cells from link_is.ends.far_said (is_topology m) link_is.back queue on link_is.ends.back stay) [
      | inl first ↦ first_heard first
      | inr passed ↦ none_heard passed.holds_none
    ]

    default_may_come : MayCome (b m q own) (ForDefault q) payload
    default_may_come linked there = subst (λ (l : Linked). MayWork (b m q own) l payload) (one_linked (q_now m q own) linked (sym (found_now m q own) ∙ there))
        (may_work (b m q own) (q_now m q own) payload (found_now m q own) hears_so)

  cell_may_come : (taker : Taker) (payload : List ℕ) → EndsFrame (w m) node site cell taker payload → MayCome (with_reassembly (acting (w m) site) taker nothing_taken) taker payload
  cell_may_come ForGsmp payload ends = gsmp_may_come m cell cells payload queue ends
  cell_may_come (ForDefault q) payload ends = default_may_come q payload ends
  cell_may_come (ForLabel q label) payload ends = tt

pub may_come : {policy : Policy} {topology : Topology} {before : List Event} {node : NodeId} {site : Site} (m : Brought policy topology before node site) (q : List Cell)
    → queue_at (w m) (Up node) ≡ q → EndsWhatMayCome (w m) node site q
may_come m [] queue = tt
may_come m (cell ∷ cells) queue = cell_may_come m cell cells queue

pub carries_may_come : CarriesMayCome
carries_may_come policy topology before node site comes world binds calm within found = record {
  known = (binds.steady node site found).known;
  number_left = calm.room.numbers node site found;
  may_come = may_come m (queue_at (world_at policy topology before) (Up node)) refl;
  unlost = calm.entries;
}
  where
    m : Brought policy topology before node site
    m = record { comes = comes; world = world; binds = binds; calm = calm; within = within; found = found }
