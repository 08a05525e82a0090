-- the three parts: shapes, ports that are up, and the lines of inputs

use Rattle.std.proofs.Common.{◌≡◌, List, [], ◌∷◌, ◌++◌, Option, Some, refl, sym, ◌∙◌, ap, subst}
use Rattle.std.specs.Prelude.{Contains}
use Rattle.std.specs.FinMap.{get}
use Rattle.std.specs.Option.{option_map, option_map_or}
use Rattle.law_branch_shapes.specs.world_model.Words.{NodeId, PortNo, Place, Down, Up, Out, Cell, queue_of, control_port, Policy, Controller, default_channel, Topology, World, Site, site_at, queue_in, next, put_away, Past, past_of, IsTame, on_channel, gsmp_to_switch, gsmp_to_controller}
use Rattle.law_branch_shapes.specs.world_model.network_model.declared.event.Event.{Event}
use Rattle.law_branch_shapes.specs.world_model.network_model.declared.event.Event.TheVariants.{Inject, Carry, Lose, Tick, TickSwitch, Restart, RestartSwitch, Forge, Route}
use Rattle.law_branch_shapes.specs.Events.{HasOwnShapes}
use Rattle.law_branch_shapes.proofs.Sites.{numbers_same, events_keep}
use Rattle.law_input_events.specs.Coming.{CanCarry, IsOrdinary, IsRunning, HasLines}
use Rattle.law_input_events.proofs.Events.{event_lines}
use Rattle.law_frame_readings.specs.Reading.{MarksAreRead}
use Rattle.law_frame_readings.specs.law_world_views.Made.{AreMade}
use Rattle.law_frame_readings.specs.law_world_views.Ready.{IsReadySite}
use Rattle.law_frame_readings.specs.law_world_views.Between.{EachSite, setups_of, HasShapes, HasPortsUp, IsWorld, HasAllShapes, HasAllPortsUp, HasAllInputs, HasAllMade}
use Rattle.law_frame_readings.specs.law_world_views.Kept.{Comes, behind, Keeps}
use Rattle.law_run_facts.specs.Nodes.{RunsHaveNodes, IsNodeOfRun}
use Rattle.law_run_facts.specs.Steps.{EventsAreSteps, RunsHaveFronts}
use Rattle.law_running_worlds.specs.Running.{EventsAreOrdinary}
use Rattle.law_running_worlds.proofs.Sites.{goes_by_links, tells_ports, leads_away}
use Rattle.law_running_worlds.specs.Mode.{AreUp}
use Rattle.law_running_worlds.proofs.Acts.{IsFirm, AllLeft}
use Rattle.law_running_worlds.proofs.InputEvents.{event_left}
use Rattle.law_running_worlds.proofs.InputKept.{shaped, told_up, met_of, emptying_of, listed, down_old, up_old, left_before}

-- *With the records of earlier events put away* it is the same event
still_runs : (w : World) → IsRunning w → IsRunning (put_away w)
still_runs w r = record { sites = r.sites; said = r.said; answered = r.answered; unmade = r.unmade; left = r.left; unsent = r.unsent }

still_carries : (topology : Topology) (w : World) (place : Place) → CanCarry topology w place → CanCarry topology (put_away w) place
still_carries topology w (Down node) can = can
still_carries topology w (Up node) can = can
still_carries topology w (Out node port) can = can

pub still_ordinary : (topology : Topology) (w : World) (event : Event) → IsOrdinary topology w event → IsOrdinary topology (put_away w) event
still_ordinary topology w (Inject node octets) ok = tt
still_ordinary topology w (Carry place) ok = still_carries topology w place ok
still_ordinary topology w (Lose place) ok = ok
still_ordinary topology w (Tick node) ok = tt
still_ordinary topology w (TickSwitch node) ok = tt
still_ordinary topology w (Restart node) ok = tt
still_ordinary topology w (RestartSwitch node) ok = tt
still_ordinary topology w (Forge place channel payload) ok = ok
still_ordinary topology w (Route node change) ok = tt

-- *A site* before an event
firm_of : (policy : Policy) (past : Past) (node : NodeId) (site : Site) → IsNodeOfRun policy past node site → IsReadySite site → HasShapes past.now node site → IsFirm site
firm_of policy past node site n ready shapes = record {
  links = n.ports.links;
  sound = n.conduct.sound;
  order = n.conduct.order;
  matched = n.conduct.matched;
  rows = ready.rows;
  by_links = goes_by_links past node site.controller n.ports n.conduct.routes;
  queues = n.is_node.queues;
  tells = tells_ports past node site.controller n.ports site.switch.ports n.is_node.switch_ports ready.ports;
  same_ports = n.is_node.switch_ports;
  away = λ input. leads_away (setups_of site.controller) n.ports.links input (get site.switch.crossbar.branches input) (λ output e. shapes.branches input output e);
}

module _ (nodes : RunsHaveNodes) (fronts : RunsHaveFronts) (steps : EventsAreSteps) (running : EventsAreOrdinary) (read : MarksAreRead) (made : Keeps HasAllMade) where
  module _ (policy : Policy) (topology : Topology) (before : List Event) (event : Event) (comes : Comes policy topology before event) (world : IsWorld (past_of policy topology before)) where
    abbrev past : Past
    past = past_of policy topology before

    abbrev v : World
    v = put_away past.now

    abbrev u : World
    u = next topology past.now event

    now_is : (behind policy topology before event).now ≡ u
    now_is = (steps policy topology before event).now

    tame : IsTame u.notes.records
    tame = subst (λ (x : World). IsTame x.notes.records) now_is (fronts policy topology before event comes).new_tame

    made_now : AreMade u.notes.frames
    made_now = subst (λ (x : World). AreMade x.notes.frames) now_is (made policy topology before event comes world)

    runs : IsRunning v
    runs = still_runs past.now (running policy topology before event comes world).0

    ordinary : IsOrdinary topology v event
    ordinary = still_ordinary topology past.now event (running policy topology before event comes world).1

    firm : EachSite v (λ node site. IsFirm site)
    firm node site found = firm_of policy past node site (nodes policy topology before comes.addresses (fronts policy topology before event comes).run node site found) (world.ready node site found) (world.shapes node site found)

    all_left : AllLeft v.notes.frames v.numbers.controls u
    all_left = event_left topology v runs firm
        (record { frames = refl; controls = refl; left = λ node site found. left_before past.now node site found world.numbers (world.shapes node site found) (world.ports_up node site found) })
        (λ node site cell found here among. down_old past.now node site found world.numbers (world.shapes node site found) (world.ports_up node site found) cell here among)
        (λ node site cell found here among. up_old past.now node site found world.numbers (world.shapes node site found) (world.ports_up node site found) cell here among) event ordinary

    -- *Shapes*
    own : EachSite u (λ node site. HasOwnShapes site)
    own = events_keep policy topology before event comes.run.topology_is world.shapes tame

    down_now : (node : NodeId) (site : Site) → site_at u node ≡ Some site → gsmp_to_switch u node ≡ site.switch.reassembly.chain ++ on_channel default_channel site.controller.queue
    down_now node site found = ap (λ (o : Option Site). option_map_or (λ (x : Site). x.switch.reassembly.chain) o [] ++ on_channel default_channel (option_map_or (λ (x : Site). queue_in x (Down node)) o [])) found

    up_now : (node : NodeId) (site : Site) → site_at u node ≡ Some site → gsmp_to_controller u node ≡ site.controller.reassembly.chain ++ on_channel default_channel (queue_of site.switch.crossbar control_port)
    up_now node site found = ap (λ (o : Option Site). option_map_or (λ (c : Controller). c.reassembly.chain) (option_map (λ (x : Site). x.controller) o) [] ++ on_channel default_channel (option_map_or (λ (x : Site). queue_in x (Up node)) o [])) found

    pub shapes_now : EachSite u (HasShapes u)
    shapes_now node site found = record {
      branches = (own node site found).switch.branches;
      standing = (own node site found).standing;
      copies = λ s cell among copy. shaped read v.notes.frames u.notes.frames v.numbers.controls made_now (all_left node site found).to_switch.same u.numbers.controls (setups_of site.controller) site (all_left node site found) s cell
          (subst (λ (q : List Cell). Contains q cell) (down_now node site found) among) copy;
      ports = (own node site found).switch.ports ∙ ap (λ (rest : List PortNo). control_port ∷ rest) (numbers_same site.controller.ports);
    }

    -- *Ports that are up*
    pub ports_now : EachSite u (HasPortsUp u)
    ports_now node site found = record {
      up = (all_left node site found).up;
      told = λ cell code number rows among under. subst (AreUp rows) (sym (listed site.controller))
          (told_up read v.notes.frames u.notes.frames v.numbers.controls made_now (all_left node site found).to_switch.same u.numbers.controls (setups_of site.controller) site (all_left node site found) cell code number rows
          (subst (λ (q : List Cell). Contains q cell) (up_now node site found) among) under);
      met = met_of site.controller (all_left node site found).knows;
      emptying = emptying_of site.controller (all_left node site found).knows;
    }

    -- *The lines of inputs*
    pub inputs_now : HasLines u
    inputs_now = event_lines topology v runs event ordinary world.inputs

  pub shapes_kept : Keeps HasAllShapes
  shapes_kept policy topology before event comes world = subst (λ (x : World). EachSite x (HasShapes x)) (sym (now_is policy topology before event comes world)) (shapes_now policy topology before event comes world)

  pub ports_kept : Keeps HasAllPortsUp
  ports_kept policy topology before event comes world = subst (λ (x : World). EachSite x (HasPortsUp x)) (sym (now_is policy topology before event comes world)) (ports_now policy topology before event comes world)

  pub inputs_kept : Keeps HasAllInputs
  inputs_kept policy topology before event comes world = subst HasLines (sym (now_is policy topology before event comes world)) (inputs_now policy topology before event comes world)
