-- one link of a network in peace, from carry to carry

use Rattle.std.proofs.Common.{◌≡◌, ◌<◌, ◌^◌, List, [], ◌∷◌, ◌++◌, Option, Some, refl, sym, ◌∙◌, ap, subst}
use Rattle.std.specs.Option.{option_map_or}
use Rattle.world_model.specs.Words.{NodeId, Addr, Mark, Frame, Policy, Place, Topology, World, Site, site_at, next, CountsAsItsFrame, IsNode, IsTopology, past_of}
use Rattle.world_model.specs.Topology.{peer_of}
use Rattle.world_model.specs.World.{opened}
use Rattle.world_model.specs.ifmp_wire.declared.message.Message.{Message}
use Rattle.world_model.specs.network_model.declared.link.LinkEnd.{LinkEnd}
use Rattle.world_model.specs.network_model.declared.event.Event.{Event}
use Rattle.world_model.specs.network_model.declared.event.Event.TheVariants.{Carry}
use Rattle.law_live_peace.proofs.law_causes.Shown.{IsPeer, peer_back}
use Rattle.law_live_peace.specs.law_run_facts.law_world_views.Between.{IsWorld}
use Rattle.law_live_peace.specs.law_run_facts.law_world_views.Kept.{Comes}
use Rattle.law_live_peace.specs.law_run_facts.Nodes.{HasSite}
use Rattle.law_live_peace.specs.law_run_facts.Steps.{HasFront}
use Rattle.law_live_peace.specs.law_run_facts.law_world_views.law_shown_cells.Seen.{Extends}
use Rattle.law_live_peace.proofs.law_run_facts.Rooms.{runs_keep_nodes}
use Rattle.law_live_peace.proofs.law_run_facts.Steps.{after_one, runs_have_fronts}
use Rattle.law_live_peace.proofs.law_control_places.Chains.{chains_are_their_frames}
use Rattle.law_live_peace.specs.law_live_rests.Law.{address_at}
use Rattle.law_live_peace.specs.law_live_hearing.Law.{world_at}
use Rattle.law_live_peace.specs.law_live_orders.Law.{IsOpenWay}
use Rattle.law_live_peace.specs.law_live_orders.Messages.{AreSaid, none, says, passed}
use Rattle.law_live_peace.specs.law_live_orders.Slots.{IsUnlost}
use Rattle.law_live_peace.specs.law_live_going.Law.{IsCalmCarry}
use Rattle.law_live_peace.proofs.law_live_control_links.Runs.{runs_are_steady}
use Rattle.law_live_peace.specs.law_live_ways.Links.{ComesNone, IsPeaceful}
use Rattle.law_live_peace.proofs.law_live_ways.Links.{carries_keep_ways}
use Rattle.law_live_peace.specs.Law.{IsInPeace}
use Rattle.law_live_peace.proofs.Carries.{carries_are_calm}
use Rattle.law_live_peace.proofs.Runs.{keeps_address}
use Rattle.law_live_peace.proofs.Others.{others_unanswered, labels_hold}
use Rattle.law_live_peace.proofs.Going.{Stands, turned, unanswered, stands_behind}
use Rattle.law_live_calm_nodes.specs.Networks.{IsCarryOfPeace}

-- *A link goes on*: its ends agree, with what is on its way between them, and both ways are open
pub record LinkGoes (topology : Topology) (v : World) (one far : LinkEnd) : Type 0 where
  pub address : Addr
  pub far_address : Addr
  pub low : address.0 < 2 ^ 32
  pub far_low : far_address.0 < 2 ^ 32
  pub stands : Stands address far_address v one far
  pub there : IsOpenWay topology v one far
  pub back : IsOpenWay topology v far one

-- the address of a node is its controller's
pub address_is : (v : World) (node : NodeId) (site : Site) → site_at v node ≡ Some site → address_at v node ≡ site.controller.address
address_is v node site found = ap (λ (o : Option Site). option_map_or (λ (s : Site). s.controller.address) o (record { 0 = 0 })) found

-- where nothing is on its way, nothing is said
pub none_said : (address : Addr) (frames : List Frame) (marks : List Mark) (said : List Message) → AreSaid address frames marks said → marks ≡ [] → said ≡ []
none_said address frames marks said none e = refl
none_said address frames marks said (says mark message is later) e = absurd (cc e)
none_said address frames marks said (passed mark holds_none later) e = absurd (cc e)

module _ (policy : Policy) (topology : Topology) (past : List Event) (place : Place) (comes : Comes policy topology past (Carry place)) (world : IsWorld (past_of policy topology past)) where
  abbrev x : World
  x = world_at policy topology past

  is : IsTopology topology
  is = comes.run.topology_is

  before : HasFront policy topology past (Carry place)
  before = runs_have_fronts policy topology past (Carry place) comes

  counts : CountsAsItsFrame x (Carry place)
  counts = chains_are_their_frames policy topology past (Carry place) comes.tame

  behind_is : world_at policy topology (past ++ Carry place ∷ []) ≡ next topology x (Carry place)
  behind_is = after_one topology (opened policy topology) past (Carry place)

  peaceful : (node : NodeId) → IsNode topology node → ComesNone x node → IsPeaceful x node
  peaceful node inside none_comes = (let there : HasSite x node = runs_keep_nodes policy topology past before.run node inside in
      record { site = there.site; found = there.is; shapes = world.shapes node there.site there.is; none = none_comes })

  -- a node goes by its address still
  still_goes : (node : NodeId) (address : Addr) → IsNode topology node → (site : Site) → site_at x node ≡ Some site → site.controller.address ≡ address → address_at (next topology x (Carry place)) node ≡ address
  still_goes node address inside site found own = ap (λ (v : World). address_at v node) (sym behind_is)
      ∙ (keeps_address policy topology comes.addresses past (past ++ Carry place ∷ []) before.run comes.run node inside site found ∙ own)

  module _ (one far : LinkEnd) (linked : peer_of topology one.node one.port ≡ Some far) (h : LinkGoes topology x one far) (unlost : IsUnlost topology x place)
      (comes_so : IsCarryOfPeace topology x place) (none_comes : ComesNone x one.node) (far_none : ComesNone x far.node) where
    peer : IsPeer topology one far
    peer = peer_back topology is one far linked

    far_peer : IsPeer topology far one
    far_peer = peer_back topology is far one peer.back

    abbrev s : Stands h.address h.far_address x one far
    s = h.stands

    extends : Extends x.notes.frames (next topology x (Carry place)).notes.frames
    extends = (runs_are_steady policy topology past (Carry place) comes world one.node).1.stays

    in_peace : IsInPeace topology x one far place
    in_peace = record {
      unlost = unlost;
      others = λ none_here none_there. (comes_so.others one far linked none_here, comes_so.others far one peer.back none_there);
      unanswered = unanswered topology is far one h.far_address h.address h.far_low x place (turned h.address h.far_address x one far s) h.back counts unlost extends
          (λ none_here. others_unanswered x one place counts none_here (comes_so.others one far linked none_here) (labels_hold policy topology past place comes world one far_peer.node));
      far_unanswered = unanswered topology is one far h.address h.far_address h.low x place s h.there counts unlost extends
          (λ none_here. others_unanswered x far place counts none_here (comes_so.others far one peer.back none_here) (labels_hold policy topology past place comes world far peer.node));
    }

    calm : IsCalmCarry topology x one far h.address h.far_address place
    calm = subst (λ (a : Addr). IsCalmCarry topology x one far a h.far_address place) (address_is x one.node s.agree.shows.site s.agree.shows.there ∙ s.own)
        (subst (λ (a : Addr). IsCalmCarry topology x one far (address_at x one.node) a place) (address_is x far.node s.agree.far_shows.site s.agree.far_shows.there ∙ s.far_own)
        (carries_are_calm policy topology past one far place comes world h.there h.back in_peace))

    pub goes_on : LinkGoes topology (next topology x (Carry place)) one far
    goes_on = record {
      address = h.address;
      far_address = h.far_address;
      low = h.low;
      far_low = h.far_low;
      stands = stands_behind topology is one far h.address h.far_address h.low h.far_low (λ same. peer.apart (sym same)) x place calm s
          (still_goes one.node h.address far_peer.node s.agree.shows.site s.agree.shows.there s.own)
          (still_goes far.node h.far_address peer.node s.agree.far_shows.site s.agree.far_shows.there s.far_own);
      there = carries_keep_ways topology x one far place is h.there (peaceful one.node far_peer.node none_comes) (peaceful far.node peer.node far_none) counts;
      back = carries_keep_ways topology x far one place is h.back (peaceful far.node peer.node far_none) (peaceful one.node far_peer.node none_comes) counts;
    }
