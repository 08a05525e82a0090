-- the nodes of a network that binds, behind a calm carry

use Rattle.std.proofs.Common.{◌≡◌, true, ℕ, ◌<◌, ◌*◌, List, [], ◌∷◌, ◌++◌, drop, map, Some, refl, sym, ◌∙◌, ap, subst}
use Rattle.std.specs.Option.{option_map}
use Rattle.world_model.specs.Words.{Policy, NodeId, Place, Down, Up, Out, PortRow, session_of, Switch, Setup, setup_of, Topology, Node, ranges_of, timers_of, World, Site, site_at, next, world_after, CountsAsItsFrame, IsNode, IsTopology, IsRun, past_of}
use Rattle.world_model.specs.World.{opened}
use Rattle.world_model.specs.network_model.declared.event.Event.{Event}
use Rattle.world_model.specs.network_model.declared.event.Event.TheVariants.{Carry}
use Rattle.world_model.specs.switch_model.declared.port.PortState.{PortState}
use Rattle.law_live_journeys.specs.law_running_worlds.ordered_lists.Ordered.{Every}
use Rattle.law_live_journeys.proofs.law_control_places.Chains.{chains_are_their_frames}
use Rattle.law_live_journeys.specs.law_running_worlds.law_world_views.Between.{setups_of, IsWorld}
use Rattle.law_live_journeys.specs.law_running_worlds.law_world_views.Kept.{Comes}
use Rattle.law_live_journeys.specs.law_running_worlds.law_run_facts.Nodes.{IsNodeOfRun, HasSite}
use Rattle.law_live_journeys.proofs.law_running_worlds.law_run_facts.Nodes.{runs_have_nodes}
use Rattle.law_live_journeys.proofs.law_running_worlds.law_run_facts.Rooms.{runs_keep_nodes}
use Rattle.law_live_journeys.proofs.law_running_worlds.law_run_facts.Steps.{after_one, runs_have_fronts}
use Rattle.law_live_journeys.proofs.law_packet_worlds.Nets.{world_net}
use Rattle.law_live_journeys.specs.law_true_runs.Runs.{HoldsInRuns, IsWhole}
use Rattle.law_live_journeys.specs.law_live_hearing.Law.{world_at}
use Rattle.law_live_journeys.specs.law_live_orders.Slots.{IsUnlost}
use Rattle.law_live_journeys.specs.law_live_control_links.Law.{IsCalmLink, IsSteady, IsTrueEvent, CarriesOutNext}
use Rattle.law_live_journeys.proofs.law_live_control_links.Runs.{runs_are_steady}
use Rattle.law_live_journeys.specs.law_live_desks.Law.{AreOnTheirWay, RequestsAreRead, AnswerIsRead}
use Rattle.law_live_journeys.proofs.law_live_desks.Runs.{runs_are_read}
use Rattle.law_live_journeys.proofs.law_live_desks.Events.{carries_keep_desks}
use Rattle.law_live_journeys.specs.law_live_mirrors.Fit.{IsKnown}
use Rattle.law_live_journeys.specs.law_live_mirrored_worlds.Law.{IsCalmlyMirrored, CarriesOut}
use Rattle.law_live_journeys.specs.law_live_mirrored_worlds.Law as mirrored
use Rattle.law_live_journeys.proofs.law_live_mirrored_worlds.Events.{same_node}
use Rattle.law_live_journeys.proofs.law_live_mirrored_worlds.Stretches.{stretches_carry_out}
use Rattle.law_live_journeys.specs.law_live_asking.Carries.{IsCalmArrival}
use Rattle.law_live_journeys.proofs.law_live_asking.Runs.{carries_ask}
use Rattle.law_live_ease.specs.Law.{AreTied, IsSteadyNode, Binds, IsCalmEvent}
use Rattle.law_live_ease.specs.Coming.{CarriesMayCome, CarriesKeepTies}
use Rattle.law_live_ease.specs.Nodes.{NodesGoOn, NodesBindOn}
use Rattle.law_live_ease.proofs.NodesCarries.{IsLeftSo, carry_so}
use Rattle.law_live_ease.proofs.NodesPorts.{Ports, ports_of, ports_stay}
use Rattle.law_live_ease.proofs.NodesWaiting.{none_waits}

-- one event alone
first_event : (x y : Event) (xs ys : List Event) → x ∷ xs ≡ y ∷ ys → x ≡ y
first_event x y xs ys e = cc e

none_later : (front rest : List Event) (event : Event) → [] ≡ front ++ event ∷ rest → ⊥
none_later [] rest event e = absurd (cc e)
none_later (x ∷ front) rest event e = absurd (cc e)

-- *A switch is known still* that has the same ports
known_still : (setups more : List Setup) (rows new : List PortRow) (s t : Switch) → more ≡ setups → new ≡ rows → t.ports ≡ s.ports → t.vpis ≡ s.vpis → IsKnown setups rows s → IsKnown more new t
known_still setups more rows new s t same_setups same_rows ports vpis k = subst (λ (x : List Setup). IsKnown x new t) (sym same_setups) (subst (λ (x : List PortRow). IsKnown setups x t) (sym same_rows) (record {
  numbers = ap (λ (x : List PortState). map (λ (state : PortState). state.number) x) ports ∙ k.numbers;
  links = k.links;
  up = subst (Every (λ (state : PortState). state.is_up ≡ true)) (sym ports) k.up;
  sessions = subst (Every (λ (state : PortState). session_of rows state.number ≡ state.session)) (sym ports) k.sessions;
  paths = subst (λ (n : ℕ). Every (λ (setup : Setup). setup.greatest < 1024 * n) setups) (sym vpis) k.paths;
}))

one_ports : (x y : Ports) → Some x ≡ Some y → x ≡ y
one_ports x y e = cc e

one_node : (x y : Node) → Some x ≡ Some y → x ≡ y
one_node x y e = cc e

module _ (whole : HoldsInRuns IsWhole) (may : CarriesMayCome) (ties : CarriesKeepTies) (policy : Policy) (topology : Topology) (before : List Event) (place : Place) (comes : Comes policy topology before (Carry place))
    (world : IsWorld (past_of policy topology before)) (b : Binds topology (world_at policy topology before)) (c : IsCalmEvent topology (world_at policy topology before) (Carry place)) where
  abbrev w : World
  w = world_at policy topology before

  abbrev v : World
  v = next topology w (Carry place)

  abbrev later : List Event
  later = before ++ Carry place ∷ []

  is : IsTopology topology
  is = comes.run.topology_is

  behind_is : world_at policy topology later ≡ v
  behind_is = after_one topology (opened policy topology) before (Carry place)

  counts : CountsAsItsFrame w (Carry place)
  counts = chains_are_their_frames policy topology before (Carry place) comes.tame

  begun : IsRun policy topology before
  begun = (runs_have_fronts policy topology before (Carry place) comes).run

  world_behind : IsWorld (past_of policy topology later)
  world_behind = (whole policy topology later comes.run comes.addresses comes.tame).world

  steady_at : (node : NodeId) → IsSteady topology w node × IsTrueEvent topology w (Carry place)
  steady_at node = runs_are_steady policy topology before (Carry place) comes world node

  of_run : (node : NodeId) (site : Site) → site_at w node ≡ Some site → IsNodeOfRun policy (past_of policy topology before) node site
  of_run node site found = runs_have_nodes policy topology before comes.addresses begun node site found

  -- *What comes next* is carried out
  at_once : (node : NodeId) → IsNode topology node → CarriesOut w node
  at_once node within = stretches_carry_out topology w node [] (b.nodes node within) (λ front rest event e. absurd (none_later front rest event e)) [] [] refl

  carried_out : (node : NodeId) → IsNode topology node → CarriesOutNext w node
  carried_out node within = (at_once node within).next_one

  -- *What a carry brings a node* may come
  arrival : (node : NodeId) (site : Site) → IsNode topology node → site_at w node ≡ Some site → place ≡ Up node → IsCalmArrival topology w node site
  arrival node site within found own = may policy topology before node site (subst (λ (p : Place). Comes policy topology before (Carry p)) own comes) world b
      (subst (λ (p : Place). IsCalmEvent topology w (Carry p)) own c) within found

  module _ (node : NodeId) (within : IsNode topology node) where
    abbrev link : IsCalmLink w node
    link = (b.nodes node within).calm

    -- so it is mirrored
    brought : place ≡ Up node → mirrored.AsksSome topology w node (Carry (Up node))
    brought own = carries_ask policy topology before node link.site (subst (λ (p : Place). Comes policy topology before (Carry p)) own comes) world link.found (arrival node link.site within link.found own)

    goes_here : (p : Place) → place ≡ p → mirrored.GoesOn topology w node (Carry p)
    goes_here (Down here) own = λ same. record {
      counts = subst (λ (q : Place). CountsAsItsFrame w (Carry q)) own counts;
      unlost = subst (IsUnlost topology w) own c.unlost;
    }
    goes_here (Out here port) own = tt
    goes_here (Up here) own = λ same. subst (λ (n : NodeId). place ≡ Up n → mirrored.AsksSome topology w n (Carry (Up n))) (same_node node here same) brought own

    calm_event : mirrored.IsCalmEvent topology w node (Carry place)
    calm_event = record { steady = (steady_at node).0; true_event = (steady_at node).1; unspent = c.unspent node; goes_on = goes_here place refl }

    only_event : (front rest : List Event) (event : Event) → Carry place ∷ [] ≡ front ++ event ∷ rest → mirrored.IsCalmEvent topology (world_after topology w front) node event
    only_event [] rest event e = subst (mirrored.IsCalmEvent topology w node) (first_event (Carry place) event [] rest e) calm_event
    only_event (x ∷ front) rest event e = absurd (none_later front rest event (ap (drop 1) e))

    node_behind : IsCalmlyMirrored v node
    node_behind = (stretches_carry_out topology w node (Carry place ∷ []) (b.nodes node within) only_event (Carry place ∷ []) [] refl).stays

    -- *What stands at its desk* is on its way
    read_at : RequestsAreRead w node × AnswerIsRead w node
    read_at = runs_are_read policy topology before comes.addresses begun world node

    read_behind : RequestsAreRead v node
    read_behind = subst (λ (u : World). RequestsAreRead u node) behind_is (runs_are_read policy topology later comes.addresses comes.run world_behind node).0

    desk_behind : AreOnTheirWay v node
    desk_behind = carries_keep_desks topology w node place link (steady_at node).0 (record {
      of_network = (runs_have_fronts policy topology before (Carry place) comes).can.meant;
      shaped = (world_net policy topology before (runs_have_nodes policy topology before comes.addresses begun) (runs_keep_nodes policy topology before begun)).shaped;
      true_event = (steady_at node).1;
      counts = counts;
      loses_nothing = c.entries;
      unlost = c.unlost;
      carries_out = carried_out node within;
      answer_is_read = read_at.1;
      requests_are_read = read_behind;
    }) (b.desks node within)

    -- *It goes steadily*
    module _ (site now : Site) (was : site_at w node ≡ Some site) (found : site_at v node ≡ Some now) where
      n : IsNodeOfRun policy (past_of policy topology before) node site
      n = of_run node site was

      m : IsNodeOfRun policy (past_of policy topology later) node now
      m = runs_have_nodes policy topology later comes.addresses comes.run node now (ap (λ (u : World). site_at u node) behind_is ∙ found)

      same_setups : setups_of now.controller ≡ setups_of site.controller
      same_setups = m.is_node.setups ∙ (ap (λ (x : Node). map (setup_of node x.address (timers_of topology) policy) (ranges_of topology node x)) (one_node m.is_node.there n.is_node.there (sym m.is_node.is ∙ n.is_node.is)) ∙ sym n.is_node.setups)

      same_ports : ◌≡◌ {A = Ports} (ports_of now) (ports_of site)
      same_ports = one_ports (ports_of now) (ports_of site) (sym (ap (option_map ports_of) found) ∙ (ports_stay topology w node place is (b.nodes node within).mirrored counts c.unlost ∙ ap (option_map ports_of) was))

      tied : place ≡ Up node → AreTied now.controller
      tied own = ties policy topology before node site now (subst (λ (p : Place). Comes policy topology before (Carry p)) own comes) world b (subst (λ (p : Place). IsCalmEvent topology w (Carry p)) own c) within was
          (subst (λ (p : Place). site_at (next topology w (Carry p)) node ≡ Some now) own found)

      goes_steadily : IsSteadyNode site → IsSteadyNode now
      goes_steadily s = (let left : IsLeftSo site now = carry_so topology w node site now was s.ties place (λ own. (arrival node site within was own).may_come) tied found in record {
        known = known_still (setups_of site.controller) (setups_of now.controller) site.controller.desk.rows now.controller.desk.rows site.switch now.switch same_setups left.rows
            (ap (λ (x : Ports). x.0) same_ports) (ap (λ (x : Ports). x.1) same_ports) s.known;
        none_waits = none_waits policy topology node before place site.controller now.controller (ap (option_map (λ (x : Site). x.controller)) was) (ap (option_map (λ (x : Site). x.controller)) found) s.none_waits;
        ties = left.ties;
      })

  steady_behind : (node : NodeId) (now : Site) → site_at v node ≡ Some now → IsSteadyNode now
  steady_behind node now found =
      let within : IsNode topology node = (runs_have_nodes policy topology later comes.addresses comes.run node now (ap (λ (u : World). site_at u node) behind_is ∙ found)).is_node.number in
      let there : HasSite w node = runs_keep_nodes policy topology before begun node within in
      goes_steadily node within there.site now there.is found (b.steady node there.site there.is)

  nodes_go_on : NodesGoOn topology w place
  nodes_go_on = record { carried_out = carried_out; nodes = node_behind; desks = desk_behind; steady = steady_behind }

pub nodes_bind_on : HoldsInRuns IsWhole → CarriesMayCome → CarriesKeepTies → NodesBindOn
nodes_bind_on whole may ties policy topology before place comes world b c = nodes_go_on whole may ties policy topology before place comes world b c
