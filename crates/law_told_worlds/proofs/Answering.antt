-- what is joined to a label stays so until changes of routes are taken, where a cell comes to a controller

use Rattle.std.proofs.Common.{◌≡◌, ℕ, Bool, true, false, List, ◌∷◌, Option, Some, Ok, refl, sym, ◌∙◌, ap, subst}
use Rattle.std.specs.Prelude.{nat_lt}
use Rattle.std.specs.Option.{option_and_then}
use Rattle.world_model.specs.Words.{End, NodeId, PortNo, Up, Mark, Cell, FlowId, flow_destination, payload_of, is_frame, tested, tested_by, payload_in, Standing, leads_home, Done, answered, after_answer, Policy, home_of, Controller, with_desk, is_deleting, has_emptied, ForGsmp, ForDefault, ForLabel, taker_of, Topology, IsTopology, Site, site_at, queue_at, gsmp_of, gsmp_under, Past, past_of, last_bound}
use Rattle.world_model.specs.gsmp_wire.declared.message.Message.{Message}
use Rattle.world_model.specs.gsmp_wire.Fields.{decoded as gsmp_decoded}
use Rattle.world_model.specs.frame_model.Frame.{octets_of}
use Rattle.world_model.specs.frame_model.Reassembly.{taken}
use Rattle.world_model.specs.Controller.{Acted, free_slots}
use Rattle.law_frame_readings.specs.law_controller_facts.Sound.{IsSound}
use Rattle.law_frame_readings.proofs.law_controller_facts.Moves.{moves_to, further, gathering, answering}
use Rattle.law_frame_readings.proofs.law_controller_facts.Laws.{has_ports, moves_sound}
use Rattle.law_run_facts.specs.law_controller.Match.{lent_at}
use Rattle.law_lasting_joins.proofs.Lent.{Keeps}
use Rattle.law_run_facts.proofs.law_controller_bindings.Lasts.{tested_grows, some_same}
use Rattle.law_frame_readings.proofs.law_shown_cells.Tested.{last_is}
use Rattle.law_run_facts.proofs.Taking.{tested_frames}
use Rattle.law_running_worlds.proofs.law_input_steps.SwitchCells.{frame_is}
use Rattle.world_model.specs.network_model.declared.link.LinkEnd.{LinkEnd}
use Rattle.world_model.specs.network_model.declared.event.Event.{Event}
use Rattle.world_model.specs.network_model.declared.event.Event.TheVariants.{Carry}
use Rattle.world_model.specs.Topology.{peer_of}
use Rattle.world_model.specs.Ways.{ok_of}
use Rattle.law_frame_readings.specs.law_world_views.Between.{IsWorld}
use Rattle.law_frame_readings.specs.law_world_views.Ready.{setups_of}
use Rattle.law_frame_readings.specs.Reading.{FramesAreRead}
use Rattle.law_run_facts.specs.Nodes.{IsNodeOfRun}
use Rattle.law_running_worlds.specs.Running.{ChainsAreTrue}
use Rattle.law_running_worlds.proofs.MadeTame.{IsWhole, whole_chain}
use Rattle.law_port_words.specs.Words.{Terms, IsSteadily}
use Rattle.law_port_words.proofs.Sending.{grows_h}
use Rattle.law_port_words.proofs.Events.{IsHeeded, gathered_by, gathered_h}
use Rattle.law_lasting_joins.proofs.Keeping.{Releasing, answered_keeps}
use Rattle.law_lasting_joins.proofs.Ending.{answered_ends}
use Rattle.law_told_worlds.specs.Before.{terms}
use Rattle.law_told_worlds.proofs.Start.{start, started}
use Rattle.law_told_worlds.proofs.Heeds.{heeded}
use Rattle.law_told_worlds.proofs.Routing.{IsLent}
use Rattle.law_told_worlds.proofs.Steady.{any, answered_h, lent_flow}
use Rattle.law_told_worlds.proofs.Tables.{now, before_changes, CellStays}

abbrev every : PortNo → ℕ → FlowId → Type 0
every port label flow = Unit {0}

module _ (policy : Policy) (topology : Topology) (before : List Event) (is_topology : IsTopology topology) (world : IsWorld (past_of policy topology before))
    (node : NodeId) (site : Site) (found : site_at (past_of policy topology before).now node ≡ Some site) (run : IsNodeOfRun policy (past_of policy topology before) node site)
    (read : FramesAreRead) (chains : ChainsAreTrue (past_of policy topology before).now (Carry (Up node))) (cell : Cell) (cells : List Cell) (queue : queue_at (past_of policy topology before).now (Up node) ≡ cell ∷ cells) where
  abbrev past : Past
  past = past_of policy topology before

  abbrev pub a : Acted
  a = started policy topology before is_topology world node site found run

  abbrev t : Terms
  t = terms past node site.controller.address every every every every

  a_h : IsSteadily t a
  a_h = start policy topology before is_topology world node site found run every every every every (λ port label flow h. tt) (λ port label flow h. tt)

  heeds : IsHeeded t a cell
  heeds = heeded policy topology before is_topology world node site found run read chains cell cells queue every every every every

  frame : (payload : List ℕ) (first : Cell) (rest : List Cell) → taker_of site.controller cell.header.channel ≡ Some ForGsmp
      → (taken a.notes (nat_lt 0 (free_slots site.controller)) site.controller.reassembly cell).ended ≡ first ∷ rest → payload_in (octets_of (first ∷ rest)) ≡ Some payload
      → (payload_of past.now.notes.frames cell.mark ≡ Some payload) × (cell.header.last ≡ true)
  frame payload first rest taker_is ended passes =
      let whole : IsWhole (nat_lt 0 (free_slots site.controller)) site.controller.reassembly cell (first ∷ rest) =
      whole_chain a.notes (nat_lt 0 (free_slots site.controller)) site.controller.reassembly cell first rest ended in (
        frame_is past.now.notes.frames cell.mark payload (subst (λ (m : Mark). is_frame past.now.notes.frames m payload ≡ true) (last_is site.controller.reassembly.chain cell)
            (chains.at_controller node site ForGsmp cell cells refl queue found taker_is whole.is_ended payload (ap (λ (cs : List Cell). payload_in (octets_of cs)) (sym whole.whole) ∙ passes))),
        whole.is_ended.last,
      )

  module _ (port : PortNo) (m : ℕ) (flow : FlowId) (far : LinkEnd) (peer : peer_of topology node port ≡ Some far) (bound : last_bound past.records far m ≡ Some flow) where
    -- what is so of a request that is answered
    pub record Kept (s : Standing) : Type 0 where
      pub joined : site.controller.has_met ≡ true → (input : End) × (lent_at site.controller.ports port.0 m ≡ Some input) × (leads_home input (home_of input) s.request ≡ false)
      pub emptied : site.controller.has_met ≡ false → is_deleting s.request ≡ true → has_emptied (record site.controller { desk = after_answer site.controller.desk (Done s) }) ≡ true → ⊥

    one : (other : FlowId) → t.granted port m other → other ≡ flow
    one other granted = some_same other flow (sym (granted far peer) ∙ bound)

    gsmp_stays : (first : Cell) (rest : List Cell) (payload : List ℕ) → taker_of site.controller cell.header.channel ≡ Some ForGsmp
        → (taken a.notes (nat_lt 0 (free_slots site.controller)) site.controller.reassembly cell).ended ≡ first ∷ rest → payload_in (octets_of (first ∷ rest)) ≡ Some payload
        → ((message : Message) (s : Standing) → gsmp_under past.now.notes.frames cell.mark ≡ Some message → answered site.controller.desk message ≡ Done s → Kept s)
        → (message : Message) (s : Standing) → gsmp_decoded payload ≡ Ok message → answered site.controller.desk message ≡ Done s
        → (b : Acted) → b.controller ≡ (gathered_by t a cell heeds ForGsmp).controller → IsSteadily t b
        → (before_changes 0 m (flow_destination flow) port b s).controller.has_met ≡ true → IsLent (before_changes 0 m (flow_destination flow) port b s).controller.ports port.0 m (flow_destination flow)
    gsmp_stays first rest payload taker_is ended passes kept message s reads done b same b_h met = by site.controller.has_met refl
      where
        k : Kept s
        k = kept message s (ap (option_and_then gsmp_of) (frame payload first rest taker_is ended passes).0 ∙ ap ok_of reads) done

        g : Acted
        g = record a { controller = record site.controller { reassembly = (taken a.notes (nat_lt 0 (free_slots site.controller)) site.controller.reassembly cell).reassembly } }

        sound_then : IsSound (setups_of site.controller) (with_desk g (after_answer g.controller.desk (Done s))).controller
        sound_then = moves_sound (setups_of site.controller) a (with_desk g (after_answer g.controller.desk (Done s)))
            (further (moves_to (gathering a (taken a.notes (nat_lt 0 (free_slots site.controller)) site.controller.reassembly cell).reassembly)) (moves_to (answering g (Done s)))) run.conduct.sound

        now_b : Acted
        now_b = now 0 m (flow_destination flow) port b s

        now_sound : IsSound (setups_of site.controller) now_b.controller
        now_sound = subst (λ (c : Controller). IsSound (setups_of site.controller) (record c { desk = after_answer c.desk (Done s) })) (sym same) sound_then

        now_ports : now_b.controller.ports ≡ site.controller.ports
        now_ports = ap (λ (c : Controller). c.ports) same

        now_met : now_b.controller.has_met ≡ site.controller.has_met
        now_met = ap (λ (c : Controller). c.has_met) same

        now_h : IsSteadily t now_b
        now_h = record { address = b_h.address; ports = b_h.ports; cells = b_h.cells; records = b_h.records; frames = b_h.frames }

        by : (x : Bool) → site.controller.has_met ≡ x → IsLent (before_changes 0 m (flow_destination flow) port b s).controller.ports port.0 m (flow_destination flow)
        by true is =
            let j = k.joined is in
            let input : End = j.0 in
            let releasing : Releasing (setups_of site.controller) port.0 m (λ (e : End). e ≡ input) s.request = (λ e home same_end. absurd (cc (sym home ∙ (ap (λ (x : End). leads_home x (home_of x) s.request) same_end ∙ j.2)))) in
            let keeps : Keeps (setups_of site.controller) port.0 m (λ (e : End). e ≡ input) now_b (before_changes 0 m (flow_destination flow) port b s) =
            answered_keeps (setups_of site.controller) port.0 m (λ (e : End). e ≡ input) now_b s.request releasing (now_met ∙ is) (has_ports (setups_of site.controller) now_b now_sound) in
            lent_flow (record t { own = any }) (before_changes 0 m (flow_destination flow) port b s) port m input flow
            (answered_h t (λ p instance own. own) (λ p label f h. tt) (λ p label f h. tt) now_b s.request now_h) one
            (keeps.lent met input refl (ap (λ ports. lent_at ports port.0 m) now_ports ∙ j.1))
        by false is =
            let ends = answered_ends (setups_of site.controller) now_b s.request now_sound (now_met ∙ is) met in
            absurd (k.emptied is ends.0 (sym (ap (λ (c : Controller). has_emptied (record c { desk = after_answer c.desk (Done s) })) same) ∙ ends.1))

    pub stays : (taker_of site.controller cell.header.channel ≡ Some ForGsmp → cell.header.last ≡ true → (message : Message) (s : Standing) → gsmp_under past.now.notes.frames cell.mark ≡ Some message → answered site.controller.desk message ≡ Done s → Kept s)
        → CellStays port.0 m (flow_destination flow) port a cell
    stays kept (ForDefault linked) first rest payload taker_is ended passes = tt
    stays kept (ForLabel linked label) first rest payload taker_is ended passes = tt
    stays kept ForGsmp first rest payload taker_is ended passes = λ message s reads done met.
        gsmp_stays first rest payload taker_is ended passes (kept taker_is (frame payload first rest taker_is ended passes).1) message s reads done b refl b_h met
      where
        g : Acted
        g = gathered_by t a cell heeds ForGsmp

        b : Acted
        b = record g { notes = (tested_by g.notes (first ∷ rest) (Some payload)).notes }

        b_h : IsSteadily t b
        b_h = subst (λ (x : Option (List ℕ)). IsSteadily t (record g { notes = (tested_by g.notes (first ∷ rest) x).notes })) passes
            (grows_h t {Here = λ node. ⊥} g (tested g.notes (first ∷ rest)).notes (tested_frames g.notes (first ∷ rest)) (tested_grows g.notes (first ∷ rest)) (gathered_h t a cell heeds ForGsmp taker_is a_h))
