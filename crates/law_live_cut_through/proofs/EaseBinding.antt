-- a network at ease binds: nothing stands at its desks, and nothing is on its way between the ends of its links

use Rattle.std.proofs.Common.{◌≡◌, ◌<◌, ◌^◌, List, [], Some, sym, subst}
use Rattle.world_model.specs.Words.{NodeId, Policy, Addr, Mark, Topology, World, Site, site_at, IsNode, IsTopology, IsRun}
use Rattle.world_model.specs.Topology.{peer_of}
use Rattle.world_model.specs.network_model.declared.link.LinkEnd.{LinkEnd}
use Rattle.world_model.specs.network_model.declared.event.Event.{Event}
use Rattle.law_live_ease.proofs.law_causes.Shown.{IsPeer, peer_back}
use Rattle.law_live_ease.specs.law_run_facts.ordered_lists.Ordered.{Every}
use Rattle.law_live_ease.specs.law_run_facts.law_world_views.Fronts.{HasAddresses}
use Rattle.law_live_ease.specs.law_live_worlds.Law.{AgreeIn}
use Rattle.law_live_ease.specs.law_live_hearing.Law.{world_at}
use Rattle.law_live_ease.proofs.law_live_hearing.Places.{down_empty}
use Rattle.law_live_ease.specs.law_live_orders.Messages.{AreSaid, none, AreComing}
use Rattle.law_live_ease.specs.law_live_control.Calm.{IsCalmCell}
use Rattle.law_live_ease.specs.law_live_ways.Links.{ComesNone}
use Rattle.law_live_ease.specs.law_live_ways.Deleting.{DeletesNone}
use Rattle.law_live_ease.specs.law_live_bound.Worlds.{BindIn}
use Rattle.law_live_ease.proofs.law_live_bound.Worlds.{agreeing_worlds_bind}
use Rattle.law_live_ease.proofs.law_live_desks.Events.{resting_desks_are_empty}
use Rattle.law_live_ease.proofs.law_live_peace.Runs.{low, none_coming}
use Rattle.law_live_ease.specs.law_live_lasting.Law.{IsLastingPeace}
use Rattle.law_live_ease.specs.law_live_calm_nodes.Networks.{IsNetworkInPeace}
use Rattle.law_live_ease.specs.Law.{IsAtEase, IsBindingLink, Binds}
use Rattle.law_live_cut_through.specs.Ease.{EaseBinds}

module _ (policy : Policy) (topology : Topology) (events : List Event) (run : IsRun policy topology events) (addresses : HasAddresses topology)
    (ease : IsAtEase topology (world_at policy topology events)) where
  abbrev w : World
  w = world_at policy topology events

  abbrev lasting : IsLastingPeace topology w
  lasting = ease.peace.lasting

  abbrev p : IsNetworkInPeace topology w
  p = lasting.peace

  is : IsTopology topology
  is = run.topology_is

  -- *Nothing is on its way* from one end to the other
  nothing_comes : (address : Addr) (one far : LinkEnd) → peer_of topology one.node one.port ≡ Some far → AreComing address w one far []
  nothing_comes address one far linked = subst (λ (marks : List Mark). AreSaid address w.notes.frames marks []) (sym (none_coming policy topology events is one far linked p.empty)) none

  address_low : (node : NodeId) (site : Site) → site_at w node ≡ Some site → site.controller.address.0 < 2 ^ 32
  address_low = low policy topology addresses events run

  -- *Each link*
  module _ (one far : LinkEnd) (linked : peer_of topology one.node one.port ≡ Some far) where
    peer : IsPeer topology one far
    peer = peer_back topology is one far linked

    abbrev agree : AgreeIn w one far [] []
    agree = (p.links one far linked).agree

    bind : BindIn w one far [] []
    bind = agreeing_worlds_bind w one far [] [] agree

    link_binds : IsBindingLink topology w one far
    link_binds = record {
      ends = record {
        said = [];
        far_said = [];
        bind = bind;
        there = nothing_comes bind.shows.site.controller.address one far linked;
        back = nothing_comes bind.far_shows.site.controller.address far one peer.back;
        written = tt;
        far_written = tt;
        low = address_low one.node bind.shows.site bind.shows.there;
        far_low = address_low far.node bind.far_shows.site bind.far_shows.there;
      };
      there = (p.links one far linked).is_open;
      back = (p.links far one peer.back).is_open;
    }

    near : IsNode topology one.node
    near = (peer_back topology is far one peer.back).node

    none_deletes : ComesNone w one.node
    none_deletes = subst (Every (IsCalmCell DeletesNone w.notes.frames)) (sym (down_empty policy topology is events one.node near p.empty)) tt

  binds : Binds topology w
  binds = record {
    nodes = λ node inside. record { calm = p.met node inside; mirrored = ease.peace.mirrored node inside };
    desks = λ node inside. resting_desks_are_empty.begins w node (lasting.nothing_stands node inside);
    steady = ease.steady;
    links = link_binds;
    none = none_deletes;
  }

pub ease_binds : EaseBinds
ease_binds policy topology events run addresses tame ease = binds policy topology events run addresses ease
