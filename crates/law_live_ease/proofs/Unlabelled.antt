-- an unlabelled network of a run is at ease

use Rattle.std.proofs.Common.{◌≡◌, List, [], Option, Some, ◌∙◌, ap}
use Rattle.std.specs.Option.{option_map, option_map_or}
use Rattle.world_model.specs.Words.{NodeId, Down, standing_at, Controller, Policy, Topology, World, Site, site_at, queue_at, IsShaped, IsNode, IsRun, past_of}
use Rattle.world_model.specs.network_model.declared.event.Event.{Event}
use Rattle.law_live_journeys.specs.law_run_facts.law_world_views.Between.{IsWorld}
use Rattle.law_live_journeys.specs.law_run_facts.law_world_views.Fronts.{HasAddresses}
use Rattle.law_live_journeys.specs.law_run_facts.Nodes.{IsNodeOfRun, HasSite}
use Rattle.law_live_journeys.proofs.law_run_facts.Nodes.{runs_have_nodes}
use Rattle.law_live_journeys.proofs.law_run_facts.Rooms.{runs_keep_nodes}
use Rattle.law_live_journeys.proofs.law_packet_worlds.Nets.{world_net}
use Rattle.law_live_journeys.specs.law_true_runs.Runs.{HoldsInRuns, IsWhole}
use Rattle.law_live_journeys.specs.law_live_hearing.Law.{world_at}
use Rattle.law_live_journeys.proofs.law_live_hearing.Places.{down_empty, up_empty}
use Rattle.law_live_journeys.specs.law_live_control_links.Law.{IsCalmLink}
use Rattle.law_live_journeys.proofs.law_live_control_links.Events.{links_rest_calm}
use Rattle.law_live_ease.specs.Law.{IsAtEase}
use Rattle.calm_model.specs.Unlabelled.{IsUnlabelledNode, IsUnlabelled}
use Rattle.law_live_ease.specs.Unlabelled.{UnlabelledNetworksAreAtEase}
use Rattle.law_live_ease.proofs.UnlabelledNodes.{mirrored, steady}
use Rattle.law_live_ease.proofs.UnlabelledLinks.{in_peace}

module _ (policy : Policy) (topology : Topology) (events : List Event) (run : IsRun policy topology events) (addresses : HasAddresses topology) (world : IsWorld (past_of policy topology events))
    (fresh : IsUnlabelled topology (world_at policy topology events)) where
  abbrev w : World
  w = world_at policy topology events

  nodes : (node : NodeId) (site : Site) → site_at w node ≡ Some site → IsNodeOfRun policy (past_of policy topology events) node site
  nodes = runs_have_nodes policy topology events addresses run

  shaped : IsShaped w
  shaped = (world_net policy topology events nodes (runs_keep_nodes policy topology events run)).shaped

  -- *At each node* controller and switch have met, and nothing waits between them
  module _ (node : NodeId) (within : IsNode topology node) where
    there : HasSite w node
    there = runs_keep_nodes policy topology events run node within

    fresh_node : IsUnlabelledNode there.site
    fresh_node = fresh.nodes node there.site there.is

    down : queue_at w (Down node) ≡ []
    down = down_empty policy topology run.topology_is events node within fresh.empty

    calm : IsCalmLink w node
    calm = links_rest_calm w node (record {
      site = there.site;
      found = there.is;
      met = fresh_node.met;
      controller_fits = (world.ready node there.site there.is).side.own;
      switch_fits = (world.ready node there.site there.is).switch_side.own;
      down = down;
      up = up_empty policy topology run.topology_is events node within fresh.empty;
    })

    none_stands : standing_at w node ≡ []
    none_stands = ap (λ (o : Option Site). option_map_or (λ (c : Controller). c.desk.standing) (option_map (λ (s : Site). s.controller) o) []) there.is ∙ fresh_node.nothing_stands

  pub at_ease : IsAtEase topology w
  at_ease = record {
    peace = record {
      lasting = record {
        peace = record {
          empty = fresh.empty;
          shaped = shaped;
          met = calm;
          heard = λ node site found. (fresh.nodes node site found).heard;
          links = in_peace policy (past_of policy topology events) run.topology_is nodes world fresh shaped;
        };
        nothing_stands = none_stands;
        heard = λ node within site found. (fresh.nodes node site found).switch_heard;
      };
      mirrored = λ node within. (let s = there node within in
          mirrored policy (past_of policy topology events) node s.site s.is (nodes node s.site s.is) (fresh_node node within) (world.shapes node s.site s.is) (down node within));
    };
    steady = λ node site found. steady policy (past_of policy topology events) node site found (nodes node site found) (fresh.nodes node site found) (world.ports_up node site found);
  }

pub unlabelled_networks_are_at_ease : HoldsInRuns IsWhole → UnlabelledNetworksAreAtEase
unlabelled_networks_are_at_ease whole policy topology events run addresses tame fresh = at_ease policy topology events run addresses (whole policy topology events run addresses tame).world fresh
