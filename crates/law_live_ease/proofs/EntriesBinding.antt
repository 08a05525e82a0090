-- a network that binds does so behind each packet that enters

use Rattle.std.proofs.Common.{◌≡◌, ℕ, List, Some, sym, subst}
use Rattle.world_model.specs.Words.{Policy, NodeId, Topology, World, Site, site_at, next, IsTopology, past_of}
use Rattle.world_model.specs.Topology.{peer_of}
use Rattle.world_model.specs.network_model.declared.link.LinkEnd.{LinkEnd}
use Rattle.world_model.specs.network_model.declared.event.Event.{Event}
use Rattle.world_model.specs.network_model.declared.event.Event.TheVariants.{Inject}
use Rattle.law_live_journeys.specs.law_run_facts.law_world_views.Between.{IsWorld, setups_of}
use Rattle.law_live_journeys.specs.law_run_facts.law_world_views.Kept.{Comes}
use Rattle.law_live_journeys.proofs.law_run_facts.Nodes.{runs_have_nodes}
use Rattle.law_live_journeys.proofs.law_run_facts.Steps.{runs_have_fronts}
use Rattle.law_live_journeys.specs.law_run_facts.law_shown_cells.Seen.{Extends}
use Rattle.law_live_journeys.specs.law_live_hearing.Law.{world_at}
use Rattle.law_live_journeys.specs.law_live_orders.Law.{coming}
use Rattle.law_live_journeys.specs.law_live_control.Calm.{HasLinks}
use Rattle.law_live_journeys.specs.law_live_control_links.Law.{IsTrueEvent}
use Rattle.law_live_journeys.proofs.law_live_control_links.Runs.{runs_are_steady}
use Rattle.law_live_journeys.specs.law_live_ways.Links.{ComesNone}
use Rattle.law_live_journeys.proofs.law_live_ways.Ways.{ways_stay_open}
use Rattle.law_live_journeys.proofs.law_live_desks.Events.{injects_keep_desks}
use Rattle.law_live_journeys.specs.law_live_unsaid.Law.{SendsByLabels}
use Rattle.law_live_journeys.proofs.law_live_unsaid.Unanswered.{sound_sends_by_labels}
use Rattle.law_live_journeys.proofs.law_live_peace.Carries.{all_stay}
use Rattle.law_live_journeys.specs.law_live_binding_beats.Law.{BindByQueues}
use Rattle.law_live_journeys.specs.law_live_binding_beats.Beats.{IsBindingEntry}
use Rattle.law_live_journeys.proofs.law_live_binding_beats.Sending.{entry_binds}
use Rattle.law_live_journeys.specs.law_live_mirrored_worlds.Law.{IsCalmlyMirrored}
use Rattle.law_live_ease.specs.Law.{IsSteadyNode, IsBindingLink, Binds}
use Rattle.law_live_ease.specs.Entries.{EntriesBindOn}
use Rattle.law_live_ease.proofs.EntriesEntering.{HasMore, has_more, WasThere, was_there}
use Rattle.law_live_ease.proofs.EntriesNodes.{calm_on, mirrored_on, none_on, steady_on}

module _ (policy : Policy) (topology : Topology) (before : List Event) (node : NodeId) (octets : List ℕ) (comes : Comes policy topology before (Inject node octets))
    (world : IsWorld (past_of policy topology before)) (b : Binds topology (world_at policy topology before)) where
  abbrev w : World
  w = world_at policy topology before

  abbrev v : World
  v = next topology w (Inject node octets)

  is : IsTopology topology
  is = comes.run.topology_is

  true_event : IsTrueEvent topology w (Inject node octets)
  true_event = (runs_are_steady policy topology before (Inject node octets) comes world node).1

  stays : Extends w.notes.frames v.notes.frames
  stays = true_event.stays

  links : (here : NodeId) (site : Site) → site_at w here ≡ Some site → HasLinks site.controller
  links here site found = (runs_are_steady policy topology before (Inject node octets) comes world here).0.links site found

  more : (here : NodeId) (site : Site) → site_at w here ≡ Some site → HasMore site (site_at v here)
  more here site found = has_more topology w node octets links here site found

  -- *Each node*
  node_on : (here : NodeId) → IsCalmlyMirrored w here → IsCalmlyMirrored v here
  node_on here m = record {
    calm = calm_on w v stays here m.calm (more here m.calm.site m.calm.found);
    mirrored = mirrored_on w v stays here m.mirrored (more here m.mirrored.by.site m.mirrored.by.found);
  }

  steady_behind : (here : NodeId) (now : Site) → site_at v here ≡ Some now → IsSteadyNode now
  steady_behind here now found = by (was_there topology w node octets links here now found)
    where
      by : WasThere w here now → IsSteadyNode now
      by was = subst IsSteadyNode (sym was.is) (steady_on was.site was.put (b.steady here was.site was.found))

  -- *Each link*
  labels : (here : NodeId) (site : Site) → site_at w here ≡ Some site → SendsByLabels site.controller
  labels here site found = sound_sends_by_labels (setups_of site.controller) site.controller
      (runs_have_nodes policy topology before comes.addresses (runs_have_fronts policy topology before (Inject node octets) comes).run here site found).conduct.sound

  link_on : (one far : LinkEnd) → IsBindingLink topology w one far → IsBindingLink topology v one far
  link_on one far l = record {
    ends = entry_binds topology w node octets is one far l.ends entry;
    there = ways_stay_open topology w one far (Inject node octets) is l.there tt;
    back = ways_stay_open topology w far one (Inject node octets) is l.back tt;
  }
    where
      entry : IsBindingEntry topology l.ends node octets
      entry = record {
        ways = record {
          there = l.there;
          back = l.back;
          stays = all_stay w.notes.frames v.notes.frames (coming w one far) stays;
          far_stays = all_stay w.notes.frames v.notes.frames (coming w far one) stays;
        };
        labels = labels one.node l.ends.bind.shows.site l.ends.bind.shows.there;
        far_labels = labels far.node l.ends.bind.far_shows.site l.ends.bind.far_shows.there;
      }

  none_behind : (one far : LinkEnd) → peer_of topology one.node one.port ≡ Some far → ComesNone v one.node
  none_behind one far linked = (let ends : BindByQueues w one far = (b.links one far linked).ends in
      none_on w v stays one.node ends.bind.shows.site ends.bind.shows.there (more one.node ends.bind.shows.site ends.bind.shows.there) (b.none one far linked))

  binds : Binds topology v
  binds = record {
    nodes = λ here within. node_on here (b.nodes here within);
    desks = λ here within. injects_keep_desks topology w here node octets true_event (b.desks here within);
    steady = steady_behind;
    links = λ one far linked. link_on one far (b.links one far linked);
    none = none_behind;
  }

pub entries_bind_on : EntriesBindOn
entries_bind_on policy topology before node octets comes world b calm = binds policy topology before node octets comes world b
