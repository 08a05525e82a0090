-- each event leaves joins one hop apart

use Rattle.std.proofs.Common.{◌≡◌, ℕ, suc, ◌<◌, Bool, true, false, List, [], ◌∷◌, ◌++◌, Option, None, Some, refl, sym, ◌∙◌, ap, subst, arith, inl, inr, if◌then◌else◌}
use Rattle.std.specs.Prelude.{Contains, is_some, flat_map, nat_eq}
use Rattle.std.specs.Option.{option_map, option_map_or, option_and_then}
use Rattle.world_model.specs.Words.{Channel, End, NodeId, PortNo, Down, Up, is_label_channel, is_label_number, label_channel_of, label_number_of, number_of_channel, State, Clearing, SynSent, SynRcvd, Estab, is_estab, ticked, Cell, FlowId, flow_destination, best, RouteChange, Via, Record, Bind, at, queue_of, Standing, Done, answered, control_port, Policy, label_end, Label, label_number, Grant, grant_label, Session, labels_of, Controller, Linked, port_key, linked_at, inputs_at, tries_join, ForGsmp, taker_of, same_channel, default_channel, change_comes, is_clearing, Topology, World, Site, site_at, controller_acts, queue_at, queue_in, table_in, next, put_away, grants_at, requests_chain_at, on_channel, gsmp_under, Past, past_of, last_bound, ByBranch, ByRequest, User, Uses, connected, copied, StandsForLast, IsTame, sends_again, ticks_port}
use Rattle.world_model.proofs.net_types.Labels.{number_of_channel-label_channel_of}
use Rattle.world_model.specs.gsmp_wire.declared.message.Message.{Message}
use Rattle.world_model.specs.ipv4_forward.declared.table.Route.{Route as TableRoute}
use Rattle.law_frame_readings.specs.ordered_lists.Ordered.{Every}
use Rattle.world_model.specs.port_model.Grants as grants
use Rattle.law_frame_readings.specs.law_port_facts.Port.{IsPort, IsLabel, IsLabelEnd}
use Rattle.law_frame_readings.proofs.law_port_facts.Keyed.{at_every, at_key}
use Rattle.law_frame_readings.proofs.law_port_facts.Rules.{and_first}
use Rattle.world_model.specs.Controller.{Acted}
use Rattle.world_model.specs.Cells.{cell_comes}
use Rattle.world_model.specs.Ticks.{ticks}
use Rattle.law_frame_readings.specs.law_controller_facts.Sound.{IsShutLinked}
use Rattle.law_frame_readings.proofs.law_controller_facts.Moves.{found_port}
use Rattle.law_run_facts.specs.law_controller.Match.{lent_in, lent_at, joined_in}
use Rattle.law_run_facts.proofs.law_controller_bindings.Flows.{next_destination}
use Rattle.law_run_facts.proofs.law_controller_bindings.Lasts.{some_same}
use Rattle.law_label_line.specs.Cells.{Downstream, Upstream}
use Rattle.law_lasting_joins.proofs.Tries.{mid_ports, tries_ends}
use Rattle.law_lasting_joins.specs.law_quiet_controllers.Quiet.{Enters, here, later}
use Rattle.law_lasting_joins.specs.law_quiet_controllers.Law.{TickEnters, before_joins}
use Rattle.world_model.specs.network_model.declared.event.Event.{Event}
use Rattle.world_model.specs.network_model.declared.event.Event.TheVariants.{Inject, Carry, Lose, Tick, TickSwitch, Restart, RestartSwitch, Forge, Route}
use Rattle.world_model.specs.network_model.declared.link.LinkEnd.{LinkEnd}
use Rattle.world_model.specs.Topology.{peer_of}
use Rattle.world_model.specs.Users.{request_stands}
use Rattle.law_running_worlds.proofs.law_causes.Shown.{peer_back}
use Rattle.law_frame_readings.specs.law_port_views.Link.{LinkLabel}
use Rattle.law_frame_readings.specs.law_world_views.Shown.{acting, end_of, way_of}
use Rattle.law_frame_readings.specs.law_world_views.Pairs.{Pairs, by_branch, by_desk, by_copy, IsLike, IsJoin}
use Rattle.law_frame_readings.specs.law_world_views.Between.{IsWorld, IsLinkLabel, setups_of}
use Rattle.law_frame_readings.specs.law_world_views.Kept.{Comes, behind, BindsUnusedAt}
use Rattle.law_frame_readings.specs.Reading.{FramesAreRead}
use Rattle.law_running_worlds.specs.Running.{TameEventsAreTrue}
use Rattle.law_run_facts.specs.Nodes.{IsNodeOfRun}
use Rattle.law_run_facts.proofs.Nodes.{runs_have_nodes}
use Rattle.law_run_facts.proofs.Steps.{events_are_steps, runs_have_fronts}
use Rattle.law_pairs.specs.Events.{EntersAt}
use Rattle.law_pairs.proofs.SitePairs.{in_left, in_right, in_either, of_filter}
use Rattle.law_pairs.specs.Past.{RunsMakeNoPairs}
use Rattle.law_pairs.specs.Settles.{Settles}
use Rattle.law_pairs.specs.Asked.{AnswersSettle}
use Rattle.law_unused_labels.proofs.Seen.{every_contained}
use Rattle.law_port_words.specs.Words.{Terms, IsNoted, IsSteadily}
use Rattle.law_told_worlds.specs.Before.{end_at, IsWiringAt, quiet_terms, any_label, is_bound_to, no_label}
use Rattle.law_told_worlds.specs.Bound.{BindsAreWired}
use Rattle.law_told_worlds.proofs.Start.{start, started}
use Rattle.law_told_worlds.proofs.Bound.{ticks_so}
use Rattle.law_told_worlds.specs.Hops.{RunsLeadOn}
use Rattle.law_told_worlds.proofs.Routing.{IsLent, changes_keep}
use Rattle.law_told_worlds.proofs.Entering.{IsHop, mid_steady, enters_hop}
use Rattle.law_told_worlds.proofs.Tables.{cell_routed}
use Rattle.law_told_worlds.proofs.Answering.{Kept, stays}
use Rattle.law_packet_worlds.proofs.Bound.{bound_stays, none_own}
use Rattle.law_told_worlds.proofs.Worlds.{stays_routed}
use Rattle.law_run_facts.proofs.law_actor_pace.Paces.{Paces, paces_then, paces_fold, at_port_paces}
use Rattle.law_run_facts.proofs.law_actor_pace.Controllers.{steps_paces, sends_again_paces}
use Rattle.world_model.specs.Gsmp.{steps}
use Rattle.world_model.specs.Controller.{ports_of}
use Rattle.world_model.specs.port_model.Ticks as port_ticks

node_is : (m n : NodeId) → m.0 ≡ n.0 → m ≡ n
node_is m n e = ap (λ (k : ℕ). record { 0 = k }) e

-- *The number of a label's channel*
numbered_same : (channel : Channel) (n : ℕ) → label_number_of channel ≡ Some n → number_of_channel channel ≡ n
numbered_same channel n e = by (is_label_channel channel) e
  where
    by : (b : Bool) → (if b then Some (number_of_channel channel) else None) ≡ Some n → number_of_channel channel ≡ n
    by true k = some_same (number_of_channel channel) n k
    by false k = absurd (cc k)

numbered : (n : ℕ) → is_label_number n ≡ true → label_number_of (label_channel_of n) ≡ Some n
numbered n is = ap (λ (b : Bool). if b then Some (number_of_channel (label_channel_of n)) else None) is ∙ ap (λ (k : ℕ). Some k) (number_of_channel-label_channel_of n)

-- an input that is joined is one of those tried
enters_end : (P : End → Type 0) (input output : End) (inputs : List End) (a : Acted) → Every P inputs → Enters input output a inputs → P input
enters_end P input output _ a all (here _ inputs join e out) = all.0
enters_end P input output _ a all (later _ tried inputs rest) = enters_end P input output inputs (tries_join a tried) all.1 rest

at_among : {A : Type 0} (key : A → ℕ) (k : ℕ) (xs : List A) (x : A) → at key k xs ≡ Some x → Contains xs x
at_among key k [] x e = absurd (cc e)
at_among {A} key k (y ∷ xs) x e = by (nat_eq (key y) k) (λ f. at_among key k xs x f) e
  where
    by : (b : Bool) → (at key k xs ≡ Some x → Contains xs x) → (if b then Some y else at key k xs) ≡ Some x → Contains (y ∷ xs) x
    by true rest f = (0, omega arith, some_same y x f)
    by false rest f = (let r = rest f in (suc r.0, omega (arith, r.1), r.2))

no_estab : (state : State) → is_clearing state ≡ true → is_estab state ≡ true → ⊥
no_estab Clearing c e = cc e
no_estab SynSent c e = cc c
no_estab SynRcvd c e = cc c
no_estab Estab c e = cc c

module _ (read : FramesAreRead) (chains : TameEventsAreTrue) (old : RunsMakeNoPairs) (settle : AnswersSettle) (wired : BindsAreWired) (policy : Policy) (topology : Topology) (before : List Event) (event : Event)
    (comes : Comes policy topology before event) (world : IsWorld (past_of policy topology before)) (unused : BindsUnusedAt policy topology before event) (link : LinkLabel) (of : IsLinkLabel topology link) where
  abbrev past : Past
  past = past_of policy topology before

  abbrev after : Past
  after = behind policy topology before event

  abbrev w : World
  w = past.now

  abbrev up : NodeId
  up = link.node Upstream

  abbrev port : PortNo
  port = link.port Upstream

  abbrev output : End
  output = label_end port link.label

  abbrev far : LinkEnd
  far = end_of Downstream link

  then_is : after.now ≡ next topology w event
  then_is = (events_are_steps policy topology before event).now

  tame : IsTame (next topology w event).notes.records
  tame = subst (λ (x : World). IsTame x.notes.records) then_is (runs_have_fronts policy topology before event comes).new_tame

  of_run : (node : NodeId) (site : Site) → site_at w node ≡ Some site → IsNodeOfRun policy past node site
  of_run node site found = runs_have_nodes policy topology before comes.addresses (runs_have_fronts policy topology before event comes).run node site found

  on : 0 < port.0
  on = (let peer = peer_back topology comes.run.topology_is (end_of Upstream link) far of.way.downstream in omega (arith, peer.own.0))

  last_same : (end : LinkEnd) (label : ℕ) → ((flow : FlowId) → Contains after.now.notes.records (Bind end.node end.port label flow) → ⊥) → last_bound after.records end label ≡ last_bound past.records end label
  last_same end label never = ap (λ (rs : List Record). last_bound rs end label) (events_are_steps policy topology before event).records ∙ bound_stays past.records after.now.notes.records end label
      (none_own after.now.notes.records end label (λ item flow there is. never flow (subst (Contains after.now.notes.records) is there)))

  module _ (input : End) (above : 0 < input.port.0) where
    -- *A pair that was before* uses the label
    uses : Pairs w up input output → (user : User) × Uses w (way_of link) link.label user
    uses (by_branch e) = (ByBranch input, connected input above e)
    uses (by_desk s has leads) = (ByRequest input, request_stands input s above has leads)
    uses (by_copy s cell has copy leads) = (
      ByRequest input,
      copied input s cell above (in_either cell (requests_chain_at w up) (on_channel default_channel (queue_at w (Down up))) has
          (λ k. in_left cell (requests_chain_at w up) (queue_at w (Down up)) k)
          (λ k. in_right cell (requests_chain_at w up) (queue_at w (Down up)) (of_filter (λ c. same_channel c.header.channel default_channel) cell (queue_at w (Down up)) k).0)) copy leads,
    )

    module _ (pair : Pairs w up input output) where
      s : StandsForLast past (way_of link) link.label (ByBranch input)
      s = world.hops link of input above pair

      output_same : last_bound after.records far link.label ≡ last_bound past.records far link.label
      output_same = last_same far link.label (λ flow has. (let user = uses pair in unused (way_of link) link.label flow has of.way user.0 user.1))

      -- *Its grant* is lent, once the switch is met
      joined : (site : Site) → site_at w up ≡ Some site → site.controller.has_met ≡ true → IsJoin site.controller input output
      joined site found met = world.joins up site found met input output above on pair

      lent_of : (site : Site) (i : End) → IsJoin site.controller i output → lent_at site.controller.ports port.0 link.label ≡ Some i
      lent_of site i j = subst (λ (n : ℕ). lent_at site.controller.ports port.0 n ≡ Some i) (number_of_channel-label_channel_of link.label)
          (ap (option_and_then (λ (x : Linked). lent_in x.port.grants (number_of_channel output.channel))) j.found ∙ (ap (option_and_then (λ (g : Grant). grants.lent_input g.state)) j.granted ∙ j.lent))

      -- no label is bound anew that is joined
      unwired : (flow : FlowId) → IsWiringAt w (end_at up input.port) s.stands.label flow → ⊥
      unwired flow wiring = by_site (site_at w up) refl wiring.is_open
        where
          n : ℕ
          n = s.stands.label

          number_is : number_of_channel input.channel ≡ n
          number_is = numbered_same input.channel n s.stands.numbered

          by_met : (site : Site) (found : site_at w up ≡ Some site) (linked : Linked) → linked_at site.controller input.port ≡ Some linked → linked.port.session ≡ Some wiring.session → (b : Bool) → site.controller.has_met ≡ b → ⊥
          by_met site found linked at_port session false unmet =
              let shut : IsShutLinked linked = at_every port_key IsShutLinked input.port.0 site.controller.ports linked ((of_run up site found).conduct.sound.unmet unmet) at_port in
              cc (sym shut.session ∙ session)
          by_met site found linked at_port session true met =
              let run = of_run up site found in
              let port_is : IsPort (setups_of site.controller) linked.setup linked.port = found_port (setups_of site.controller) (acting w site) linked input.port (record { ports = run.conduct.sound.ports; shaped = run.conduct.sound.requests }) at_port in
              let labels : labels_of linked.port ≡ wiring.session.labels = ap (λ (o : Option Session). option_map_or (λ (x : Session). x.labels) o []) session in
              let held : at label_number n (labels_of linked.port) ≡ Some wiring.label = ap (at label_number n) labels ∙ wiring.is_held in
              let label_is : IsLabel (setups_of site.controller) linked.setup wiring.label = at_every label_number (IsLabel (setups_of site.controller) linked.setup) n (labels_of linked.port) wiring.label port_is.labels held in
              let lent = lent_of site input (joined site found met) in
              elim (run.conduct.matched.joined port.0 link.label input lent) [
                | inl clearing ↦ no_estab linked.port.adjacency.state (sym (ap (λ (o : Option Linked). option_map_or (λ (x : Linked). is_clearing x.port.adjacency.state) o false) at_port) ∙ clearing) (sym port_is.session ∙ ap is_some session)
                | inr joined_is ↦ cc (sym (ap (option_and_then (λ (x : Linked). joined_in (labels_of x.port) (number_of_channel input.channel))) at_port
                    ∙ (ap (joined_in (labels_of linked.port)) number_is ∙ (ap (option_and_then (λ (l : Label). l.join)) held ∙ label_is.unjoined wiring.wiring))) ∙ joined_is)
              ]

          by_linked : (site : Site) → site_at w up ≡ Some site → (o : Option Linked) → linked_at site.controller input.port ≡ o → option_and_then (λ (x : Linked). x.port.session) o ≡ Some wiring.session → ⊥
          by_linked site found None e f = cc f
          by_linked site found (Some linked) e f = by_met site found linked e f site.controller.has_met refl

          by_site : (o : Option Site) → site_at w up ≡ o → option_and_then (λ (x : Linked). x.port.session) (option_and_then (λ (c : Controller). linked_at c input.port) (option_map (λ (x : Site). x.controller) o)) ≡ Some wiring.session → ⊥
          by_site None e f = cc f
          by_site (Some site) e f = by_linked site e (linked_at site.controller input.port) refl f

      input_same : last_bound after.records (end_at up input.port) s.stands.label ≡ last_bound past.records (end_at up input.port) s.stands.label
      input_same = last_same (end_at up input.port) s.stands.label (λ flow has. unwired flow (wired policy topology before event comes world up input.port s.stands.label flow has))

      -- *The route* of the joined flow
      there : flow_destination s.flow ≡ flow_destination s.stands.joined
      there = next_destination s.stands.joined s.flow s.stands.onward

      -- the frame that a cell ends settles what may be joined
      on_cell : IsLike after.now link → (node : NodeId) → event ≡ Carry (Up node) → node.0 ≡ up.0 → (site : Site) → site_at w node ≡ Some site → (cell : Cell) (cells : List Cell) → queue_at w (Up node) ≡ cell ∷ cells
          → best site.controller.table (flow_destination s.flow) ≡ Some (Via port) → best (cell_comes (acting (put_away w) site) cell).controller.table (flow_destination s.flow) ≡ Some (Via port)
      on_cell like node is same site found cell cells queue route =
          cell_routed port.0 link.label (flow_destination s.flow) port (acting (put_away w) site) cell
          (stays policy topology before comes.run.topology_is world node site found (of_run node site found) read
          (chains policy topology before (Carry (Up node)) (subst (λ (e : Event). IsTame (next topology w e).notes.records) is tame)) cell cells queue port link.label s.flow far
          (subst (λ (n : NodeId). peer_of topology n port ≡ Some far) (sym (node_is node up same)) of.way.downstream) s.bound
          (λ taker last message x said done. kept taker last message x said done)) route
        where
          front : queue_of site.switch.crossbar control_port ≡ cell ∷ cells
          front = subst (λ (o : Option Site). option_map_or (λ (x : Site). queue_in x (Up node)) o [] ≡ cell ∷ cells) found queue

          settled : taker_of site.controller cell.header.channel ≡ Some ForGsmp → cell.header.last ≡ true → (message : Message) (x : Standing) → gsmp_under w.notes.frames cell.mark ≡ Some message → answered site.controller.desk message ≡ Done x
              → Settles link (IsLike after.now link) site.controller x
          settled taker last message x said done = subst (λ (e : Event). Settles link (IsLike (behind policy topology before e).now link) site.controller x) (sym is)
              (settle policy topology before node (subst (Comes policy topology before) is comes) world link of same site cell cells found front taker last message x said done)

          kept : taker_of site.controller cell.header.channel ≡ Some ForGsmp → cell.header.last ≡ true → (message : Message) (x : Standing) → gsmp_under w.notes.frames cell.mark ≡ Some message → answered site.controller.desk message ≡ Done x
              → Kept policy topology before comes.run.topology_is world node site found (of_run node site found) read
              (chains policy topology before (Carry (Up node)) (subst (λ (e : Event). IsTame (next topology w e).notes.records) is tame)) cell cells queue port link.label s.flow far
              (subst (λ (n : NodeId). peer_of topology n port ≡ Some far) (sym (node_is node up same)) of.way.downstream) s.bound x
          kept taker last message x said done = (let k = settled taker last message x said done in record {
            joined = λ met. (let j = k.joined met like in (j.input, lent_of site j.input j.join, j.unled));
            emptied = λ unmet deletes none. k.emptied unmet deletes none like;
          })

      on_change : (node : NodeId) (change : RouteChange) → event ≡ Route node change → node.0 ≡ up.0 → (site : Site) → site_at w node ≡ Some site
          → best site.controller.table (flow_destination s.flow) ≡ Some (Via port) → best (change_comes (acting (put_away w) site) change).controller.table (flow_destination s.flow) ≡ Some (Via port)
      on_change node change is same site found route =
          changes_keep port.0 link.label (flow_destination s.flow) port (record (acting (put_away w) site) { controller = record site.controller { waiting = site.controller.waiting ++ change ∷ [] } })
          (λ met. lent met) route
        where
          at_up : site_at w up ≡ Some site
          at_up = subst (λ (n : NodeId). site_at w n ≡ Some site) (node_is node up same) found

          lent : site.controller.has_met ≡ true → IsLent site.controller.ports port.0 link.label (flow_destination s.flow)
          lent met =
              let j : IsJoin site.controller input output = joined site at_up met in
              let granted : at grant_label link.label j.linked.port.grants ≡ Some j.grant = subst (λ (n : ℕ). at grant_label n j.linked.port.grants ≡ Some j.grant) (number_of_channel-label_channel_of link.label) j.granted in
              let flows : last_bound past.records far link.label ≡ Some j.grant.flow = (world.users link of).grants j.grant (among at_up j granted) (label_of j granted) in
              record {
                linked = j.linked;
                found = j.found;
                grant = j.grant;
                granted = granted;
                input = input;
                lent = j.lent;
                is = ap flow_destination (some_same j.grant.flow s.flow (sym flows ∙ s.bound));
              }
            where
              label_of : (j : IsJoin site.controller input output) → at grant_label link.label j.linked.port.grants ≡ Some j.grant → j.grant.label ≡ link.label
              label_of j granted = at_key grant_label link.label j.linked.port.grants j.grant granted

              among : (found : site_at w up ≡ Some site) (j : IsJoin site.controller input output) → at grant_label link.label j.linked.port.grants ≡ Some j.grant → Contains (grants_at w (end_of Upstream link)) j.grant
              among seen j granted = subst (λ (o : Option Linked). Contains (option_map_or (λ (x : Linked). x.port.grants) o []) j.grant)
                  (sym (ap (λ (o : Option Site). option_and_then (λ (c : Controller). linked_at c port) (option_map (λ (x : Site). x.controller) o)) seen ∙ j.found))
                  (at_among grant_label link.label j.linked.port.grants j.grant granted)

      pub stands_still : Pairs after.now up input output → StandsForLast after (way_of link) link.label (ByBranch input)
      stands_still now = record {
        flow = s.flow;
        bound = output_same ∙ s.bound;
        stands = record {
          label = s.stands.label;
          numbered = s.stands.numbered;
          joined = s.stands.joined;
          bound = input_same ∙ s.stands.bound;
          routed = subst (λ (x : World). best (table_in up x) (flow_destination s.stands.joined) ≡ Some (Via port)) (sym then_is)
              (subst (λ d. best (table_in up (next topology w event)) d ≡ Some (Via port)) there
              (stays_routed (flow_destination s.flow) port up topology w event tame
              (on_cell (record { input = input; above = above; pair = now })) on_change
              (subst (λ d. best (table_in up w) d ≡ Some (Via port)) (sym there) s.stands.routed)));
          onward = s.stands.onward;
        };
      }

    -- *A join that a tick enters*
    module _ (is : event ≡ Tick up) (site : Site) (found : site_at w up ≡ Some site) (enters : TickEnters (acting (put_away w) site) input output) where
      run : IsNodeOfRun policy past up site
      run = of_run up site found

      abbrev a : Acted
      a = started policy topology before comes.run.topology_is world up site found run

      abbrev quiet : Terms
      quiet = quiet_terms past up site.controller.address

      quiet_start : IsSteadily quiet a
      quiet_start = start policy topology before comes.run.topology_is world up site found run (any_label past up site.controller.address) (is_bound_to past up site.controller.address) (is_bound_to past up site.controller.address) (no_label past up site.controller.address)
          (λ p label flow h. tt) (λ p label flow h. h)

      abbrev mid : Acted
      mid = before_joins a

      hop : IsHop quiet mid.controller.table input output
      hop = enters_hop quiet (λ p instance h. h) input output (flat_map inputs_at mid.controller.ports) mid (mid_steady quiet (λ p instance h. h) (λ p label flow h. h) a quiet_start) enters.enters

      mid_pace : Paces 0 a mid
      mid_pace =
          let stepped : Acted = steps a (ticked a.controller.adjacency) in
          let again : Acted = sends_again stepped in
          paces_then 0 a again mid (paces_then 0 a stepped again (steps_paces 0 a (ticked a.controller.adjacency)) (sends_again_paces 0 stepped))
          (paces_fold 0 ticks_port (λ b p. at_port_paces 0 b p port_ticks.ticks) (ports_of again.controller) again)

      records_are : after.now.notes.records ≡ (ticks a).notes.records
      records_are = ap (λ (x : World). x.notes.records) then_is ∙ (ap (λ (e : Event). (next topology w e).notes.records) is
          ∙ subst (λ (o : Option Site). (controller_acts (put_away w) o ticks).notes.records ≡ (ticks a).notes.records) (sym found) refl)

      none_bound : (end : LinkEnd) (label : ℕ) (flow : FlowId) → Contains after.now.notes.records (Bind end.node end.port label flow) → ⊥
      none_bound end label flow has = (every_contained (IsNoted quiet) (ticks a).notes.records (Bind end.node end.port label flow) (ticks_so policy topology before comes.run.topology_is world up site found run).records
          (subst (λ (rs : List Record). Contains rs (Bind end.node end.port label flow)) records_are has)).1

      port_is : port ≡ hop.port
      port_is = ap (λ (x : End). x.port) hop.is

      label_is : link.label ≡ hop.label
      label_is = sym (number_of_channel-label_channel_of link.label) ∙ (ap (λ (x : End). number_of_channel x.channel) hop.is ∙ number_of_channel-label_channel_of hop.label)

      input_end : IsLabelEnd (setups_of site.controller) input
      input_end = enters_end (IsLabelEnd (setups_of site.controller)) input output (flat_map inputs_at mid.controller.ports) mid
          (tries_ends (setups_of site.controller) 0 0 (λ (e : End). Unit {0}) mid (mid_ports (setups_of site.controller) 0 0 (λ (e : End). Unit {0}) a (record { ports = run.conduct.sound.ports; shaped = run.conduct.sound.requests }))) enters.enters

      input_numbered : label_number_of input.channel ≡ Some (number_of_channel input.channel)
      input_numbered = subst (λ (x : End). label_number_of x.channel ≡ Some (number_of_channel x.channel)) (sym input_end.is)
          (numbered input_end.number (and_first (is_label_number input_end.number) _ input_end.in_range) ∙ ap (λ (n : ℕ). Some n) (sym (number_of_channel-label_channel_of input_end.number)))

      route : best (table_in up w) (flow_destination hop.flow) ≡ Some (Via port)
      route = subst (λ (o : Option Site). best (option_map_or (λ (x : Site). x.controller.table) o []) (flow_destination hop.flow) ≡ Some (Via port)) (sym found)
          (ap (λ (table : List TableRoute). best table (flow_destination hop.flow)) (sym mid_pace.table) ∙ (hop.route ∙ ap (λ (p : PortNo). Some (Via p)) (sym port_is)))

      no_carry : (node : NodeId) → event ≡ Carry (Up node) → ⊥
      no_carry node e = cc (sym is ∙ e)

      no_route : (node : NodeId) (change : RouteChange) → event ≡ Route node change → ⊥
      no_route node change e = cc (sym is ∙ e)

      pub stands_newly : StandsForLast after (way_of link) link.label (ByBranch input)
      stands_newly = record {
        flow = hop.next;
        bound = last_same far link.label (none_bound far link.label) ∙ (ap (last_bound past.records far) label_is ∙ hop.granted far (ap (peer_of topology up) (sym port_is) ∙ of.way.downstream));
        stands = record {
          label = number_of_channel input.channel;
          numbered = input_numbered;
          joined = hop.flow;
          bound = last_same (end_at up input.port) (number_of_channel input.channel) (none_bound (end_at up input.port) (number_of_channel input.channel)) ∙ hop.held.0;
          routed = subst (λ (x : World). best (table_in up x) (flow_destination hop.flow) ≡ Some (Via port)) (sym then_is)
              (stays_routed (flow_destination hop.flow) port up topology w event tame
              (λ node e same other found_other cell cells queue r. absurd (no_carry node e)) (λ node change e same other found_other r. absurd (no_route node change e)) route);
          onward = hop.next_is;
        };
      }

    entered : Pairs after.now up input output → (e : Event) → event ≡ e → EntersAt (put_away w) e up input output → StandsForLast after (way_of link) link.label (ByBranch input)
    entered now (Tick node) is (same, k) = stands_newly (is ∙ ap Tick (node_is node up same)) k.site (subst (λ (n : NodeId). site_at w n ≡ Some k.site) (node_is node up same) k.found) k.enters
    entered now (Inject node octets) is none = absurd none
    entered now (Carry place) is none = absurd none
    entered now (Lose place) is none = absurd none
    entered now (TickSwitch node) is none = absurd none
    entered now (Restart node) is none = absurd none
    entered now (RestartSwitch node) is none = absurd none
    entered now (Forge place channel payload) is none = absurd none
    entered now (Route node change) is none = absurd none

    pub stands_behind : Pairs after.now up input output → StandsForLast after (way_of link) link.label (ByBranch input)
    stands_behind now = elim (old policy topology before event comes world up input output above on now) [
      | inl pair ↦ stands_still pair now
      | inr k ↦ entered now event refl k
    ]

pub runs_lead_on : FramesAreRead → TameEventsAreTrue → RunsMakeNoPairs → AnswersSettle → BindsAreWired → RunsLeadOn
runs_lead_on read chains old settle wired policy topology before event comes world unused link of input above pair =
    stands_behind read chains old settle wired policy topology before event comes world unused link of input above pair
