-- what is asked of a network and of an event, so that no pair is made, is so in every run before the first forged frame

use Rattle.std.proofs.Common.{◌≡◌, ◌≢◌, ℕ, ◌≤◌, Bool, true, false, List, [], ◌∷◌, ◌++◌, Option, None, Some, refl, sym, ◌∙◌, ap, subst, arith, Contains, if◌then◌else◌}
use Rattle.std.specs.Prelude.{◌==◌, nat_lt}
use Rattle.std.specs.Option.{option_map_or, option_and_then}
use Rattle.std.proofs.lemmas.Bool.Decides.{nat_tests}
use Rattle.world_model.specs.Words.{NodeId, Place, Down, Up, Out, Cell, payload_of, last_mark, payload_in, Reassembly, queue_of, control_port, Policy, Linked, default_channel, ForGsmp, ForDefault, ForLabel, same_channel, taker_of, reassembly_of, taker_at, label_taker, port_on, on_link, is_control, Topology, World, Site, site_at, queue_in, queue_at, put_away, next, Past, past_of, gsmp_of}
use Rattle.world_model.specs.gsmp_wire.declared.message.Message.{Message}
use Rattle.world_model.specs.gsmp_wire.declared.message.Message.TheVariants as messages
use Rattle.world_model.specs.frame_model.Frame.{octets_of}
use Rattle.world_model.specs.frame_model.Reassembly.{taken}
use Rattle.world_model.specs.Switch as switches
use Rattle.world_model.specs.Controller as controllers
use Rattle.world_model.specs.Cells.{Taker}
use Rattle.world_model.specs.network_model.declared.event.Event.{Event}
use Rattle.world_model.specs.network_model.declared.event.Event.TheVariants.{Inject, Carry, Lose, Tick, TickSwitch, Restart, RestartSwitch, Forge, Route}
use Rattle.world_model.specs.network_model.declared.link.LinkEnd.{LinkEnd}
use Rattle.world_model.specs.Topology.{peer_of}
use Rattle.world_model.specs.Ways.{ok_of}
use Rattle.law_running_worlds.specs.law_input_steps.Hearing.{PassesTrue}
use Rattle.law_running_worlds.proofs.law_input_premises.Reading.{are_read}
use Rattle.law_running_worlds.specs.law_input_events.Coming.{IsRunning, IsOrdinary, IsFar, IsFromSwitch, CanCarry}
use Rattle.law_frame_readings.specs.Reading.{MarksAreRead}
use Rattle.law_run_facts.specs.Nodes.{RunsHaveNodes, IsNodeOfRun}
use Rattle.law_run_facts.specs.Steps.{EventsAreSteps, RunsHaveFronts}
use Rattle.law_running_worlds.specs.Running.{EventsAreOrdinary}
use Rattle.law_running_worlds.proofs.Sites.{goes_by_links}
use Rattle.law_frame_readings.specs.law_world_views.Made.{AreMade}
use Rattle.law_frame_readings.specs.law_world_views.Between.{EachSite, IsWorld, HasAllMade, setups_of}
use Rattle.law_frame_readings.specs.law_world_views.Kept.{Comes, Keeps, behind}
use Rattle.law_lasting_joins.specs.law_quiet_controllers.Heard.{RowsAreRead, IsHeard}
use Rattle.law_pairs.specs.Events.{IsAtDesk, IsHonest, CarriesHonestly, PacketsAskNothing, HasOldPairs, EventsMakeNoPairs}
use Rattle.law_pairs.specs.Past.{RunsMakeNoPairs}
use Rattle.law_running_worlds.proofs.MadeTame.{IsWhole, whole_chain}
use Rattle.law_frame_readings.proofs.law_shown_cells.Tested.{frame_is, last_is}

-- *A chain that passes* is the frame of the cell's mark
true_payload : (frames : _) (r : Reassembly) (cell : Cell) (ended : List Cell) (payload : List ℕ) → ended ≡ r.chain ++ cell ∷ [] → PassesTrue frames (r.chain ++ cell ∷ []) → payload_in (octets_of ended) ≡ Some payload → payload_of frames cell.mark ≡ Some payload
true_payload frames r cell ended payload whole passes is =
    ap (payload_of frames) (sym (last_is r.chain cell)) ∙ frame_is frames (last_mark (r.chain ++ cell ∷ [])) payload (passes payload (ap (λ (cells : List Cell). payload_in (octets_of cells)) (sym whole) ∙ is))

three_of : (n : ℕ) → (n == 3) ≡ true → n ≡ 3
three_of n e = grind (arith, nat_tests)

pub not_both : (b : Bool) → b ≡ true → b ≡ false → ⊥
not_both true t f = cc f
not_both false t f = cc t

module _ (nodes : RunsHaveNodes) (fronts : RunsHaveFronts) (steps : EventsAreSteps) (running : EventsAreOrdinary) (read : MarksAreRead) (made : Keeps HasAllMade) where
  module _ (policy : Policy) (topology : Topology) (before : List Event) (event : Event) (comes : Comes policy topology before event) (world : IsWorld (past_of policy topology before)) where
    abbrev pub past : Past
    past = past_of policy topology before

    abbrev pub w : World
    w = past.now

    pub of_run : (node : NodeId) (site : Site) → site_at w node ≡ Some site → IsNodeOfRun policy past node site
    of_run node site found = nodes policy topology before comes.addresses (fronts policy topology before event comes).run node site found

    pub at_desk : EachSite w IsAtDesk
    at_desk node site found =
        let n : IsNodeOfRun policy past node site = of_run node site found in
        record {
          numbered = n.is_node.own;
          ports = n.conduct.sound.ports;
          shaped = n.conduct.sound.requests;
          below = n.conduct.sound.desk.below;
          room = n.conduct.sound.desk.room;
          reads = are_read (setups_of site.controller) n.ports.links site.controller.desk.rows (world.ready node site found).rows;
          reads_none = are_read (setups_of site.controller) n.ports.links [] tt;
          by_links = goes_by_links past node site.controller n.ports n.conduct.routes;
        }

    runs : IsRunning w
    runs = (running policy topology before event comes world).0

    -- *What comes to a controller*
    rows_read : (node : NodeId) (site : Site) → site_at w node ≡ Some site → (m : Message) → IsFromSwitch site.controller m → RowsAreRead (setups_of site.controller) m
    rows_read node site found (messages.AllPorts result code number rows) from = λ three. are_read (setups_of site.controller) (of_run node site found).ports.links rows (from (three_of result three)).0
    rows_read node site found (messages.Adjacency g) from = tt
    rows_read node site found (messages.Branch kind r c n session ip i op o br pr) from = tt
    rows_read node site found (messages.Move r c n session ip i op o tp t br pr) from = tt
    rows_read node site found (messages.Port r c n p session f) from = tt

    head_waits : (node : NodeId) (site : Site) (cell : Cell) (cells : List Cell) → site_at w node ≡ Some site → queue_at w (Up node) ≡ cell ∷ cells → Contains (queue_of site.switch.crossbar control_port) cell
    head_waits node site cell cells found is = subst (λ (xs : List Cell). Contains xs cell) (sym is ∙ ap (λ (o : Option Site). option_map_or (λ (x : Site). queue_in x (Up node)) o []) found) (0, omega arith, refl)

    heard_now : (node : NodeId) (site : Site) (cell : Cell) (cells : List Cell) → site_at w node ≡ Some site → queue_at w (Up node) ≡ cell ∷ cells → CanCarry topology w (Up node)
        → (taker : Taker) (first : Cell) (rest : List Cell) (payload : List ℕ) → taker_of site.controller cell.header.channel ≡ Some taker
        → (taken (put_away w).notes (nat_lt 0 (controllers.free_slots site.controller)) (reassembly_of site.controller taker) cell).ended ≡ first ∷ rest → payload_in (octets_of (first ∷ rest)) ≡ Some payload
        → IsHeard (setups_of site.controller) cell.mark taker payload
    heard_now node site cell cells found is can taker first rest payload taken_by ended passes = by (same_channel cell.header.channel default_channel) refl taker taken_by ended
      where
        some_taker : (x y : Taker) → Some x ≡ Some y → x ≡ y
        some_taker x y e = cc e

        at_link : (o : Option Linked) (t : Taker) → taker_at o (on_link cell.header.channel) ≡ Some t → IsHeard (setups_of site.controller) cell.mark t payload → IsHeard (setups_of site.controller) cell.mark t payload
        at_link o t e h = h

        gsmp : (r : Reassembly) → r ≡ site.controller.reassembly → same_channel cell.header.channel default_channel ≡ true → (taken (put_away w).notes (nat_lt 0 (controllers.free_slots site.controller)) r cell).ended ≡ first ∷ rest → IsHeard (setups_of site.controller) cell.mark ForGsmp payload
        gsmp r same here e m said =
            let h : IsWhole (nat_lt 0 (controllers.free_slots site.controller)) r cell (first ∷ rest) = whole_chain (put_away w).notes (nat_lt 0 (controllers.free_slots site.controller)) r cell first rest e in
            let k : IsWhole (nat_lt 0 (controllers.free_slots site.controller)) site.controller.reassembly cell (first ∷ rest) = subst (λ (x : Reassembly). IsWhole (nat_lt 0 (controllers.free_slots site.controller)) x cell (first ∷ rest)) same h in
            let frame : payload_of w.notes.frames cell.mark ≡ Some payload = true_payload w.notes.frames site.controller.reassembly cell (first ∷ rest) payload k.whole ((can cell cells site is found).1 here k.is_ended) passes in
            rows_read node site found m (runs.answered node site found cell m (head_waits node site cell cells found is) here
            (ap (option_and_then gsmp_of) frame ∙ ap ok_of said))

        away : same_channel cell.header.channel default_channel ≡ false → (r : Reassembly) → (taken (put_away w).notes (nat_lt 0 (controllers.free_slots site.controller)) r cell).ended ≡ first ∷ rest → is_control cell.mark ≡ false → cell.mark.packet ≢ 0
        away other r e plain = ((can cell cells site is found).0 other (whole_chain (put_away w).notes (nat_lt 0 (controllers.free_slots site.controller)) r cell first rest e).is_ended.last plain).0

        by : (b : Bool) → same_channel cell.header.channel default_channel ≡ b → (t : Taker) → taker_of site.controller cell.header.channel ≡ Some t
            → (taken (put_away w).notes (nat_lt 0 (controllers.free_slots site.controller)) (reassembly_of site.controller t) cell).ended ≡ first ∷ rest → IsHeard (setups_of site.controller) cell.mark t payload
        by true here ForGsmp t e = gsmp site.controller.reassembly refl here e
        by true here (ForDefault linked) t e = absurd (cc (sym (ap (λ (x : Bool). if x then Some ForGsmp else taker_at (controllers.linked_at site.controller (port_on cell.header.channel)) (on_link cell.header.channel)) here) ∙ t))
        by true here (ForLabel linked label) t e = absurd (cc (sym (ap (λ (x : Bool). if x then Some ForGsmp else taker_at (controllers.linked_at site.controller (port_on cell.header.channel)) (on_link cell.header.channel)) here) ∙ t))
        by false other ForGsmp t e = absurd (never (controllers.linked_at site.controller (port_on cell.header.channel)) (sym (ap (λ (x : Bool). if x then Some ForGsmp else taker_at (controllers.linked_at site.controller (port_on cell.header.channel)) (on_link cell.header.channel)) other) ∙ t))
          where
            no_label : (linked : Linked) (o : Option _) → label_taker linked o ≡ Some ForGsmp → ⊥
            no_label linked None k = cc k
            no_label linked (Some label) k = test _ k
              where
                test : (b : Bool) → (if b then Some (ForLabel linked label) else None) ≡ Some ForGsmp → ⊥
                test true l = cc l
                test false l = cc l

            never : (o : Option Linked) → taker_at o (on_link cell.header.channel) ≡ Some ForGsmp → ⊥
            never None k = cc k
            never (Some linked) k = test (same_channel (on_link cell.header.channel) default_channel) _ k
              where
                test : (b : Bool) (o : Option _) → (if b then Some (ForDefault linked) else label_taker linked o) ≡ Some ForGsmp → ⊥
                test true o l = cc l
                test false o l = no_label linked o l
        by false other (ForDefault linked) t e = λ plain. away other (reassembly_of site.controller (ForDefault linked)) e plain
        by false other (ForLabel linked label) t e = λ plain. away other (reassembly_of site.controller (ForLabel linked label)) e plain

    carries : (place : Place) → CanCarry topology w place → CarriesHonestly topology (put_away w) place
    carries (Down node) can = λ site cell cells found is here first rest payload ended passes.
        (let k : IsWhole (nat_lt 0 (switches.free_slots site.switch)) site.switch.reassembly cell (first ∷ rest) = whole_chain (put_away w).notes (nat_lt 0 (switches.free_slots site.switch)) site.switch.reassembly cell first rest ended in
        true_payload w.notes.frames site.switch.reassembly cell (first ∷ rest) payload k.whole (can cell cells site is found here k.is_ended) passes)
    carries (Up node) can = λ site cell cells found is. record {
      by_links = (at_desk node site found).by_links;
      heard = heard_now node site cell cells found is can;
    }
    carries (Out node port) can = λ far is. by far (peer_of topology node port) is can.1
      where
        by : (far : LinkEnd) (o : Option LinkEnd) → o ≡ Some far → IsFar o → 1 ≤ far.port.0
        by far None e k = absurd (cc e)
        by far (Some end) e k = (let same : end ≡ far = cc e in subst (λ (x : LinkEnd). 1 ≤ x.port.0) same k)

    honest : (e : Event) → IsOrdinary topology w e → IsHonest topology (put_away w) e
    honest (Inject node octets) ok = tt
    honest (Carry place) ok = carries place ok
    honest (Lose place) ok = tt
    honest (Tick node) ok = tt
    honest (TickSwitch node) ok = tt
    honest (Restart node) ok = tt
    honest (RestartSwitch node) ok = tt
    honest (Forge place channel payload) ok = ok
    honest (Route node change) ok = tt

    nothing_asked : PacketsAskNothing (next topology w event)
    nothing_asked mark other = read.no_copy (next topology w event).notes.frames mark
        (subst (λ (x : World). AreMade x.notes.frames) ((steps policy topology before event).now) (made policy topology before event comes world)) other

    pub old_pairs : EventsMakeNoPairs → HasOldPairs w event (behind policy topology before event).now
    old_pairs law = subst (λ (v : World). HasOldPairs w event v) (sym ((steps policy topology before event).now))
        (law topology w event at_desk world.numbers (honest event (running policy topology before event comes world).1) nothing_asked)

  pub runs_make_none : EventsMakeNoPairs → RunsMakeNoPairs
  runs_make_none law policy topology before event comes world = old_pairs policy topology before event comes world law
