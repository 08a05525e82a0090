-- each event leaves each site so

use Rattle.std.proofs.Common.{◌≡◌, ℕ, ◌+◌, ◌<◌, ◌≤◌, Bool, true, false, List, [], ◌∷◌, ◌++◌, Option, None, Some, refl, sym, ◌∙◌, ap, subst, arith, Contains, inl, inr}
use Rattle.std.specs.Prelude.{nat_lt, ◌==◌, ◌&&◌}
use Rattle.std.specs.Option.{option_and_then}
use Rattle.std.proofs.lemmas.Bool.Decides.{nat_tests}
use Rattle.world_model.specs.Words.{Channel, End, NodeId, PortNo, Place, Down, Up, Out, Mark, is_label_number, number_of_channel, GivenOut, protocol_of, Cell, Frame, Refusal, payload_of, Journal, payload_in, last_mark, at, Setup, label_end, home_of, control_end, Grant, Standing, control_port, Controller, default_channel, ForGsmp, ForDefault, ForLabel, same_channel, taker_of, reassembly_of, with_reassembly, inject_refusal, injected, grant_by, control_protocol, node_restarts, change_comes, Topology, World, Site, site_key, site_at, controller_acts, switch_acts, place_node, queue_in, queue_at, with_queue_in, with_queue_of, with_queue, injects_by, arrives_at, carries_head, loses_head, gsmp_of, copy_of, copy_under, requests_chain_at, answers_chain_at, leads}
use Rattle.world_model.proofs.net_types.Labels.{number_of_channel-label_channel_of}
use Rattle.world_model.specs.frame_model.Frame.{octets_of}
use Rattle.world_model.specs.frame_model.Reassembly.{taken}
use Rattle.law_fed_worlds.proofs.law_port_facts.Keyed.{at_key}
use Rattle.world_model.specs.Switch as switches
use Rattle.world_model.specs.Switch.{free_slots}
use Rattle.world_model.specs.Conduct as conduct
use Rattle.world_model.specs.Controller as controllers
use Rattle.world_model.specs.Controller.{Acted}
use Rattle.world_model.specs.Cells as controller_cells
use Rattle.world_model.specs.Cells.{Taker}
use Rattle.world_model.specs.Ticks as controller_ticks
use Rattle.law_fed_worlds.proofs.law_controller_facts.Moves.{HasPorts, Moves}
use Rattle.law_fed_worlds.proofs.law_controller_facts.Performing.{node_restarts_goes}
use Rattle.law_fed_worlds.proofs.law_controller_facts.Joining.{change_comes_goes}
use Rattle.law_fed_worlds.proofs.law_controller_facts.Events.{routes_goes, cell_comes_goes, controller_ticks_goes}
use Rattle.law_packet_worlds.proofs.Walk.{node_restarts_kept, change_comes_kept, ticks_kept}
use Rattle.law_running_worlds.specs.law_frame_readings.Reading.{Holds, sent, told as was_told}
use Rattle.law_running_worlds.proofs.law_frame_readings.Reading.{read_default}
use Rattle.law_running_worlds.proofs.law_frame_readings.Packets.{is_heard}
use Rattle.world_model.specs.network_model.declared.event.Event.{Event}
use Rattle.world_model.specs.network_model.declared.event.Event.TheVariants.{Inject, Carry, Lose, Tick, TickSwitch, Restart, RestartSwitch, Forge, Route}
use Rattle.world_model.specs.network_model.declared.link.LinkEnd.{LinkEnd}
use Rattle.world_model.specs.Topology.{peer_of}
use Rattle.world_model.specs.World.{at_controller, at_switch}
use Rattle.world_model.specs.Step.{acts}
use Rattle.law_fed_worlds.specs.law_world_views.Ready.{setups_of}
use Rattle.law_fed_worlds.specs.law_world_views.Shown.{acting}
use Rattle.law_fed_worlds.specs.law_world_views.Pairs.{Pairs}
use Rattle.law_fed_worlds.specs.law_world_views.Tied.{waiting_on}
use Rattle.law_running_worlds.proofs.MadeCells as made_cells
use Rattle.law_pairs.proofs.SitePairs.{first_of, in_left, in_either, to_pairs, put_there, gathered_by, waiting_by}
use Rattle.law_fed_worlds.proofs.law_controller_facts.Nodes.{moves_node}
use Rattle.law_pairs.proofs.Branches.{IsLed, cell_led, tick_led, restart_led}
use Rattle.law_pairs.proofs.Acts.{HasMarks, Sited, put_sited, marks_less, marks_sited, is_zero}
use Rattle.law_pairs.proofs.Events.{one_more}
use Rattle.law_passed_cells.proofs.Sending.{Any, IsAsked, IsSent, IsCounted, Reads, P, begins_sent, kept, routes_sent, cell_sent}
use Rattle.law_passed_cells.proofs.Grants.{IsClear, control_apart, leads_elsewhere, taken_clear}
use Rattle.law_passed_cells.proofs.Sites.{SitePassed, Joined, AsksNothing, asked_before, stays, controller_passed, May, IsGood, contained, Led, begins_led, switch_passed, loses}

-- *An output* of a pair is the channel of a label
pub record IsLabelled (output : End) : Type 0 where
  pub number : ℕ
  pub is : output ≡ label_end output.port number
  pub number_is : is_label_number number ≡ true

-- channels away from it
abbrev Away : End → Channel → Type 0
Away output channel = same_channel channel (home_of output).channel ≡ false

abbrev Every_channel : Channel → Type 0
Every_channel channel = Unit {0}

away_control : (output : End) → IsLabelled output → (channel : Channel) → channel.vci ≡ 15 → Away output channel
away_control output l channel vci = subst (λ (e : End). same_channel channel (home_of e).channel ≡ false) (sym l.is) (control_apart channel output.port l.number l.number_is vci)

away_grants : (c : Controller) (output : End) (l : IsLabelled output) → IsClear c output.port.0 l.number
    → (q : PortNo) (packet : List ℕ) (grant : Grant) → grant_by c q packet ≡ Some grant → Away output (control_end q grant.label).channel
away_grants c output l clear q packet grant e = subst (λ (x : End). same_channel (control_end q grant.label).channel (home_of x).channel ≡ false) (sym l.is) (leads_elsewhere c output.port l.number l.number_is clear q packet grant e)

labelled_number : (output : End) (l : IsLabelled output) → number_of_channel output.channel ≡ l.number
labelled_number output l = ap (λ (e : End). number_of_channel e.channel) l.is ∙ number_of_channel-label_channel_of l.number

-- what is read of a frame that was made
pub reads_of : (setups : List Setup) (taker : Taker) (cells : List Cell) → made_cells.Ends setups taker cells → Reads taker cells
reads_of setups taker [] ends = tt
reads_of setups ForGsmp (first ∷ cells) ends = λ payload ok. tt
reads_of setups (ForLabel linked label) (first ∷ cells) ends = λ payload ok packet e. ((ends payload ok).1 packet e).0
reads_of setups (ForDefault linked) (first ∷ cells) ends = λ payload ok packet e other. by (last_mark (first ∷ cells)) payload packet other (read_default (last_mark (first ∷ cells)) payload packet (ends payload ok).0 e)
  where
    by : (mark : Mark) (payload packet : List ℕ) → (protocol_of packet == control_protocol) ≡ false → Holds mark payload packet → IsCounted mark
    by mark payload packet other (sent counted fit filled) = counted
    by mark payload packet other (was_told item t same) = absurd (cc (sym other ∙ (ap (λ (p : List ℕ). protocol_of p == control_protocol) same ∙ (is_heard mark payload item t).control)))

-- *An actor acts* in a network
module _ (x : World) (marks : Sited (HasMarks x.numbers.controls) x.sites) (passed : Sited (SitePassed x.notes.frames) x.sites) where
  -- at a site that was found
  controller_here : (node : NodeId) (act : Acted → Acted) (site : Site) → site_at x node ≡ Some site → (act (acting x site)).controller.node ≡ site.controller.node
      → IsSent Every_channel x.numbers.controls x.notes.frames site.controller.queue (act (acting x site))
      → ((input output : End) → 0 < input.port.0 → 0 < output.port.0 → Pairs (at_controller x node act) node input output → Joined output site.controller.queue (act (acting x site)).controller.queue)
      → AsksNothing (at_controller x node act).notes.frames → Sited (SitePassed (at_controller x node act).notes.frames) (at_controller x node act).sites
  controller_here node act site found same s = subst (λ (o : Option Site). ((input output : End) → 0 < input.port.0 → 0 < output.port.0 → Pairs (controller_acts x o act) node input output → Joined output site.controller.queue (act (acting x site)).controller.queue)
      → AsksNothing (controller_acts x o act).notes.frames → Sited (SitePassed (controller_acts x o act).notes.frames) (controller_acts x o act).sites) (sym found)
      (λ joined nothing. put_sited (SitePassed b.notes.frames) after x.sites
      (controller_passed x.numbers.controls x.notes.frames b.notes.frames nothing s.asks site b.controller
      (λ input output above on pair. joined input output above on (to_pairs y node after there input output pair)) (gsmp nothing) (marks node.0 site found) (passed node.0 site found))
      (λ k other found_there. stays x.numbers.controls x.notes.frames b.notes.frames nothing s.asks other (marks k other found_there) (passed k other found_there)))
    where
      b : Acted
      b = act (acting x site)

      after : Site
      after = record site { controller = b.controller }

      y : World
      y = controller_acts x (Some site) act

      there : site_at y node ≡ Some after
      there = put_there x.sites node.0 site after found same

      gsmp : AsksNothing b.notes.frames → (cell : Cell) (st : Standing) → Contains b.controller.queue cell → copy_under b.notes.frames cell.mark ≡ Some st → same_channel cell.header.channel default_channel ≡ true
      gsmp nothing cell st k copy = in_either cell site.controller.queue s.new (subst (λ (xs : List Cell). Contains xs cell) s.is k)
          (λ l. (passed node.0 site found).asked cell st l (asked_before x.numbers.controls x.notes.frames b.notes.frames nothing s.asks cell st ((marks node.0 site found).queues cell l) copy))
          (λ r. elim (is_zero cell.mark.packet) [
            | inl none ↦ (contained (IsAsked b.numbers.controls b.notes.frames) s.new cell s.asked r none).1 st copy
            | inr counted ↦ absurd (cc (sym (nothing cell.mark counted) ∙ copy))
          ])

  switch_here : (node : NodeId) (act : switches.ActedSwitch → switches.ActedSwitch) (site : Site) → site_at x node ≡ Some site
      → Led x.numbers.controls x.notes.frames site (act (record { switch = site.switch; notes = x.notes; numbers = x.numbers }))
      → AsksNothing (at_switch x node act).notes.frames → Sited (SitePassed (at_switch x node act).notes.frames) (at_switch x node act).sites
  switch_here node act site found led = subst (λ (o : Option Site). AsksNothing (switch_acts x o act).notes.frames → Sited (SitePassed (switch_acts x o act).notes.frames) (switch_acts x o act).sites) (sym found)
      (λ nothing. (let b : switches.ActedSwitch = act (record { switch = site.switch; notes = x.notes; numbers = x.numbers }) in
      put_sited (SitePassed b.notes.frames) (record site { switch = b.switch }) x.sites
      (switch_passed x.numbers.controls x.notes.frames site b nothing led (marks node.0 site found) (passed node.0 site found))
      (λ k other there. stays x.numbers.controls x.notes.frames b.notes.frames nothing led.asks other (marks k other there) (passed k other there))))

  switch_sited : (node : NodeId) (act : switches.ActedSwitch → switches.ActedSwitch)
      → ((M : End → End → Type 0) (G : Cell → Type 0) (controls : ℕ) (frames : List Frame) (b : switches.ActedSwitch) → IsLed M G controls frames b → IsLed M G controls frames (act b))
      → AsksNothing (at_switch x node act).notes.frames → Sited (SitePassed (at_switch x node act).notes.frames) (at_switch x node act).sites
  switch_sited node act keeps nothing = by (site_at x node) refl
    where
      by : (o : Option Site) → site_at x node ≡ o → Sited (SitePassed (at_switch x node act).notes.frames) (at_switch x node act).sites
      by None found = subst (λ (o : Option Site). Sited (SitePassed (switch_acts x o act).notes.frames) (switch_acts x o act).sites) (sym found) passed
      by (Some site) found = switch_here node act site found
          (keeps (May site) (IsGood x.numbers.controls x.notes.frames site) x.numbers.controls x.notes.frames (record { switch = site.switch; notes = x.notes; numbers = x.numbers })
          (begins_led x.numbers.controls x.notes.frames site (record { switch = site.switch; notes = x.notes; numbers = x.numbers }) refl refl refl (marks node.0 site found) (passed node.0 site found))) nothing

-- *What is asked of an event*
abbrev pub IsFair : Topology → World → Event → Type 0
IsFair topology w (Carry (Down node)) = (site : Site) (cell : Cell) (cells : List Cell) → site_at w node ≡ Some site → queue_at w (Down node) ≡ cell ∷ cells
    → conduct.is_gsmp control_port cell.header.channel ≡ true → (first : Cell) (rest : List Cell) (payload : List ℕ)
    → (taken w.notes (nat_lt 0 (free_slots site.switch)) site.switch.reassembly cell).ended ≡ first ∷ rest → payload_in (octets_of (first ∷ rest)) ≡ Some payload
    → payload_of w.notes.frames cell.mark ≡ Some payload
IsFair topology w (Carry (Up node)) = (site : Site) (cell : Cell) (cells : List Cell) → site_at w node ≡ Some site → queue_at w (Up node) ≡ cell ∷ cells
    → (taker : Taker) → taker_of site.controller cell.header.channel ≡ Some taker → Reads taker (taken w.notes (nat_lt 0 (controllers.free_slots site.controller)) (reassembly_of site.controller taker) cell).ended
IsFair topology w (Carry (Out node port)) = (far : LinkEnd) → peer_of topology node port ≡ Some far → 1 ≤ far.port.0
IsFair topology w (Forge place channel payload) = ⊥
IsFair topology w event = Unit {0}

-- events that may send packets at a node
abbrev pub SendsAt : Event → NodeId → Type 0
SendsAt (Inject at_node octets) node = at_node ≡ node
SendsAt (Carry (Up at_node)) node = at_node ≡ node
SendsAt event node = ⊥

-- *A network*, and an event
module _ (topology : Topology) (w : World)
    (ports : (node : NodeId) (site : Site) → site_at w node ≡ Some site → HasPorts (setups_of site.controller) (acting w site))
    (chains : (node : NodeId) (cell : Cell) → Contains (requests_chain_at w node ++ answers_chain_at w node) cell → cell.mark.packet ≡ 0 → cell.mark.frame ≤ w.numbers.controls)
    (waits : (place : Place) (cell : Cell) → Contains (queue_at w place) cell → cell.mark.packet ≡ 0 → cell.mark.frame ≤ w.numbers.controls)
    (passed : Sited (SitePassed w.notes.frames) w.sites) where
  abbrev Good : World → Type 0
  Good v = Sited (SitePassed v.notes.frames) v.sites

  found_own : (k : ℕ) (site : Site) → at site_key k w.sites ≡ Some site → site_at w site.controller.node ≡ Some site
  found_own k site found = subst (λ (n : ℕ). at site_key n w.sites ≡ Some site) (sym (at_key site_key k w.sites site found)) found

  marked : Sited (HasMarks w.numbers.controls) w.sites
  marked k site found = record {
    chains = λ cell there. chains site.controller.node cell (in_left cell (requests_chain_at w site.controller.node) (answers_chain_at w site.controller.node)
        (subst (λ (xs : List Cell). Contains xs cell) (sym (ap gathered_by (found_own k site found))) there));
    queues = λ cell there. waits (Down site.controller.node) cell (subst (λ (xs : List Cell). Contains xs cell) (sym (ap (waiting_by (Down site.controller.node)) (found_own k site found))) there);
  }

  -- the pairs behind it
  abbrev pub AreLabelled : World → Type 0
  AreLabelled v = (node : NodeId) (input output : End) → 0 < input.port.0 → 0 < output.port.0 → Pairs v node input output → IsLabelled output

  abbrev pub AreClear : World → NodeId → Type 0
  AreClear v node = (input output : End) → 0 < input.port.0 → 0 < output.port.0 → Pairs v node input output → (site : Site) → site_at w node ≡ Some site
      → IsClear site.controller output.port.0 (number_of_channel output.channel)

  -- *A controller acts*, and sends no packet
  quiet_good : (node : NodeId) (act : Acted → Acted) → ((site : Site) → site_at w node ≡ Some site → Moves (setups_of site.controller) (acting w site) (act (acting w site)))
      → ((G : Channel → Type 0) (control : (channel : Channel) → channel.vci ≡ 15 → G channel) (controls : ℕ) (frames : List Frame) (queue : List Cell) (a : Acted) → P G control controls frames queue a → P G control controls frames queue (act a))
      → AreLabelled (at_controller w node act) → AsksNothing (at_controller w node act).notes.frames → Good (at_controller w node act)
  quiet_good node act moves walk labelled nothing = by (site_at w node) refl
    where
      by : (o : Option Site) → site_at w node ≡ o → Good (at_controller w node act)
      by None found = subst (λ (o : Option Site). Good (controller_acts w o act)) (sym found) passed
      by (Some site) found = controller_here w marked passed node act site found
          (moves_node (setups_of site.controller) site.controller.node (acting w site) (act (acting w site)) (moves site found) refl)
          (walk Every_channel (λ c e. tt) w.numbers.controls w.notes.frames site.controller.queue (acting w site) (begins_sent Every_channel (λ c e. tt) w.numbers.controls w.notes.frames site.controller.queue (acting w site) refl refl refl))
          (λ input output above on pair. joined output (labelled node input output above on pair)) nothing
        where
          joined : (output : End) → IsLabelled output → Joined output site.controller.queue (act (acting w site)).controller.queue
          joined output l = (let s = walk (Away output) (away_control output l) w.numbers.controls w.notes.frames site.controller.queue (acting w site)
              (begins_sent (Away output) (away_control output l) w.numbers.controls w.notes.frames site.controller.queue (acting w site) refl refl refl) in
              record { new = s.new; is = s.is; elsewhere = s.good })

  -- *A packet enters*
  inject_good : (node : NodeId) (octets : List ℕ) (r : Option Refusal) → AreLabelled (injects_by (record w { sent = w.sent + 1 }) node octets r) → AreClear (injects_by (record w { sent = w.sent + 1 }) node octets r) node
      → AsksNothing (injects_by (record w { sent = w.sent + 1 }) node octets r).notes.frames → Good (injects_by (record w { sent = w.sent + 1 }) node octets r)
  inject_good node octets (Some name) labelled clear nothing = passed
  inject_good node octets None labelled clear nothing = by (site_at w node) refl
    where
      u : World
      u = record w { sent = w.sent + 1 }

      came : Mark
      came = record { packet = w.sent + 1; frame = 0 }

      act : Acted → Acted
      act a = injected a (w.sent + 1) octets

      by : (o : Option Site) → site_at w node ≡ o → Good (at_controller u node act)
      by None found = subst (λ (o : Option Site). Good (controller_acts u o act)) (sym found) passed
      by (Some site) found = controller_here u marked passed node act site found
          (moves_node (setups_of site.controller) site.controller.node (acting w site) (act (acting w site)) (routes_goes (setups_of site.controller) (acting w site) came octets) refl)
          (routes_sent Every_channel (λ c e. tt) w.numbers.controls w.notes.frames site.controller.queue (acting w site) came octets (λ q packet grant e. tt) (one_more w.sent)
          (begins_sent Every_channel (λ c e. tt) w.numbers.controls w.notes.frames site.controller.queue (acting w site) refl refl refl))
          (λ input output above on pair. joined output (labelled node input output above on pair) (clear input output above on pair site found)) nothing
        where
          joined : (output : End) → IsLabelled output → IsClear site.controller output.port.0 (number_of_channel output.channel) → Joined output site.controller.queue (act (acting w site)).controller.queue
          joined output l c = (let s = routes_sent (Away output) (away_control output l) w.numbers.controls w.notes.frames site.controller.queue (acting w site) came octets
              (away_grants site.controller output l (subst (IsClear site.controller output.port.0) (labelled_number output l) c)) (one_more w.sent)
              (begins_sent (Away output) (away_control output l) w.numbers.controls w.notes.frames site.controller.queue (acting w site) refl refl refl) in
              record { new = s.new; is = s.is; elsewhere = s.good })

  -- *Queues*
  empty_queue : (place : Place) (cell : Cell) (cells : List Cell) → queue_at w place ≡ cell ∷ cells → site_at w (place_node place) ≡ None → ⊥
  empty_queue place cell cells is found = cc (sym (ap (waiting_by place) found) ∙ is)

  head_is : (place : Place) (cell : Cell) (cells : List Cell) (site : Site) → queue_at w place ≡ cell ∷ cells → site_at w (place_node place) ≡ Some site → queue_in site place ≡ cell ∷ cells
  head_is place cell cells site is found = sym (ap (waiting_by place) found) ∙ is

  -- a cell comes to a switch from its controller
  down_good : (node : NodeId) (cell : Cell) (cells : List Cell) → queue_at w (Down node) ≡ cell ∷ cells → IsFair topology w (Carry (Down node))
      → (o : Option Site) → site_at w node ≡ o → AsksNothing (at_switch (with_queue_of w (Down node) cells o) node (λ a. conduct.cell_comes a control_port cell)).notes.frames
      → Good (at_switch (with_queue_of w (Down node) cells o) node (λ a. conduct.cell_comes a control_port cell))
  down_good node cell cells is fair None found nothing = absurd (empty_queue (Down node) cell cells is found)
  down_good node cell cells is fair (Some site) found nothing =
      switch_here v marks good node (λ a. conduct.cell_comes a control_port cell) mid there
      (cell_led (May mid) (IsGood w.numbers.controls w.notes.frames mid) w.numbers.controls w.notes.frames (record { switch = mid.switch; notes = w.notes; numbers = w.numbers }) control_port cell
      (λ g. (
        comes,
        λ first rest payload e passes copy asked input output led above on. may copy input output
            (ap (λ (o : Option (List ℕ)). option_and_then copy_of (option_and_then gsmp_of o)) (fair site cell cells found is g first rest payload e passes) ∙ asked) led above on,
      ))
      (begins_led w.numbers.controls w.notes.frames mid (record { switch = mid.switch; notes = w.notes; numbers = w.numbers }) refl refl refl (marks node.0 mid there) (good node.0 mid there))) nothing
    where
      mid : Site
      mid = with_queue_in site (Down node) cells

      v : World
      v = with_queue_of w (Down node) cells (Some site)

      there : site_at v node ≡ Some mid
      there = put_there w.sites node.0 site mid found refl

      head : site.controller.queue ≡ cell ∷ cells
      head = head_is (Down node) cell cells site is found

      good : Good v
      good = put_sited (SitePassed w.notes.frames) mid w.sites (loses w.notes.frames site (Down node) cell cells head (passed node.0 site found)) passed

      marks : Sited (HasMarks w.numbers.controls) v.sites
      marks = put_sited (HasMarks w.numbers.controls) mid w.sites (marks_less w.numbers.controls site (Down node) cell cells head (marked node.0 site found)) marked

      may : (s : Standing) (input output : End) → copy_under w.notes.frames cell.mark ≡ Some s → leads s.request ≡ Some (input, output) → 0 < input.port.0 → 0 < output.port.0 → waiting_on output cells ≡ []
      may s input output copy e above on = (passed node.0 site found).behind input output s [] cells cell above on head copy e

      comes : IsGood w.numbers.controls w.notes.frames mid cell
      comes = record {
        low = (marked node.0 site found).queues cell (subst (λ (xs : List Cell). Contains xs cell) (sym head) (first_of cell cells));
        asks = λ s input output copy e above on. may s input output copy e above on;
      }

  -- a cell comes to a controller
  up_good : (node : NodeId) (cell : Cell) (cells : List Cell) → queue_at w (Up node) ≡ cell ∷ cells → IsFair topology w (Carry (Up node))
      → (o : Option Site) → site_at w node ≡ o → AreLabelled (at_controller (with_queue_of w (Up node) cells o) node (λ a. controller_cells.cell_comes a cell))
      → AreClear (at_controller (with_queue_of w (Up node) cells o) node (λ a. controller_cells.cell_comes a cell)) node
      → AsksNothing (at_controller (with_queue_of w (Up node) cells o) node (λ a. controller_cells.cell_comes a cell)).notes.frames
      → Good (at_controller (with_queue_of w (Up node) cells o) node (λ a. controller_cells.cell_comes a cell))
  up_good node cell cells is fair None found labelled clear nothing = absurd (empty_queue (Up node) cell cells is found)
  up_good node cell cells is fair (Some site) found labelled clear nothing =
      controller_here v marks good node act mid there
      (moves_node (setups_of site.controller) site.controller.node (acting w site) (act (acting w site)) (cell_comes_goes (setups_of site.controller) (acting w site) cell (ports node site found)) refl)
      (cell_sent Every_channel (λ c e. tt) w.numbers.controls w.notes.frames site.controller.queue (acting w site) cell (fair site cell cells found is) (λ taker t e q packet grant k. tt)
      (begins_sent Every_channel (λ c e. tt) w.numbers.controls w.notes.frames site.controller.queue (acting w site) refl refl refl))
      (λ input output above on pair. joined output (labelled node input output above on pair) (clear input output above on pair site found)) nothing
    where
      act : Acted → Acted
      act a = controller_cells.cell_comes a cell

      mid : Site
      mid = with_queue_in site (Up node) cells

      v : World
      v = with_queue_of w (Up node) cells (Some site)

      there : site_at v node ≡ Some mid
      there = put_there w.sites node.0 site mid found refl

      good : Good v
      good = put_sited (SitePassed w.notes.frames) mid w.sites (loses w.notes.frames site (Up node) cell cells (head_is (Up node) cell cells site is found) (passed node.0 site found)) passed

      marks : Sited (HasMarks w.numbers.controls) v.sites
      marks = put_sited (HasMarks w.numbers.controls) mid w.sites (marks_less w.numbers.controls site (Up node) cell cells (head_is (Up node) cell cells site is found) (marked node.0 site found)) marked

      joined : (output : End) → IsLabelled output → IsClear site.controller output.port.0 (number_of_channel output.channel) → Joined output site.controller.queue (act (acting w site)).controller.queue
      joined output l c =
          let clear_here : IsClear site.controller output.port.0 l.number = subst (IsClear site.controller output.port.0) (labelled_number output l) c in
          let s = cell_sent (Away output) (away_control output l) w.numbers.controls w.notes.frames site.controller.queue (acting w site) cell (fair site cell cells found is)
          (λ taker t e. away_grants (with_reassembly (record (acting w site) { notes = t.notes }) taker t.reassembly).controller output l
          (taken_clear (acting w site) output.port.0 l.number clear_here cell.header.channel taker t.notes t.reassembly e))
          (begins_sent (Away output) (away_control output l) w.numbers.controls w.notes.frames site.controller.queue (acting w site) refl refl refl) in
          record { new = s.new; is = s.is; elsewhere = s.good }

  -- what a queue that lost its head leaves
  less_frames : (place : Place) (cells : List Cell) → ((with_queue w place cells).notes ≡ w.notes) × ((with_queue w place cells).numbers ≡ w.numbers)
  less_frames place cells = by (site_at w (place_node place))
    where
      by : (o : Option Site) → ((with_queue_of w place cells o).notes ≡ w.notes) × ((with_queue_of w place cells o).numbers ≡ w.numbers)
      by None = (refl, refl)
      by (Some site) = (refl, refl)

  less_sited : (place : Place) (cell : Cell) (cells : List Cell) → queue_at w place ≡ cell ∷ cells → Sited (SitePassed w.notes.frames) (with_queue w place cells).sites
  less_sited place cell cells is = by (site_at w (place_node place)) refl
    where
      by : (o : Option Site) → site_at w (place_node place) ≡ o → Sited (SitePassed w.notes.frames) (with_queue_of w place cells o).sites
      by None found = passed
      by (Some site) found = put_sited (SitePassed w.notes.frames) (with_queue_in site place cells) w.sites
          (loses w.notes.frames site place cell cells (head_is place cell cells site is found) (passed (place_node place).0 site found)) passed

  less_good : (place : Place) (cell : Cell) (cells : List Cell) → queue_at w place ≡ cell ∷ cells → Good (with_queue w place cells)
  less_good place cell cells is = subst (λ (n : Journal). Sited (SitePassed n.frames) (with_queue w place cells).sites) (sym (less_frames place cells).0) (less_sited place cell cells is)

  less_marked : (place : Place) (cell : Cell) (cells : List Cell) → queue_at w place ≡ cell ∷ cells → Sited (HasMarks (with_queue w place cells).numbers.controls) (with_queue w place cells).sites
  less_marked place cell cells is = subst (λ (n : GivenOut). Sited (HasMarks n.controls) (with_queue w place cells).sites) (sym (less_frames place cells).1) (marks_sited w.numbers.controls w place cell cells is marked)

  off_control : (n : ℕ) (b : Bool) → 1 ≤ n → ((n == 0) && b) ≡ true → ⊥
  off_control n b some e = never (n == 0) b (not_zero n some) e
    where
      not_zero : (n : ℕ) → 1 ≤ n → (n == 0) ≡ false
      not_zero n some = grind (arith, nat_tests)

      never : (a b : Bool) → a ≡ false → (a && b) ≡ true → ⊥
      never true b f e = cc f
      never false b f e = cc e

  out_good : (place : Place) (cell : Cell) (cells : List Cell) → queue_at w place ≡ cell ∷ cells → (o : Option LinkEnd) → ((far : LinkEnd) → o ≡ Some far → 1 ≤ far.port.0)
      → AsksNothing (arrives_at (with_queue w place cells) cell o).notes.frames → Good (arrives_at (with_queue w place cells) cell o)
  out_good place cell cells is None far nothing = less_good place cell cells is
  out_good place cell cells is (Some end) far nothing = switch_sited (with_queue w place cells) (less_marked place cell cells is) (less_good place cell cells is) end.node (λ a. conduct.cell_comes a end.port cell)
      (λ M G controls frames b h. cell_led M G controls frames b end.port cell (λ g. absurd (off_control end.port.0 _ (far end refl) g)) h) nothing

  carried : (place : Place) (cells : List Cell) → queue_at w place ≡ cells → IsFair topology w (Carry place) → AreLabelled (carries_head topology w place cells)
      → ((node : NodeId) → SendsAt (Carry place) node → AreClear (carries_head topology w place cells) node) → AsksNothing (carries_head topology w place cells).notes.frames → Good (carries_head topology w place cells)
  carried place [] is fair labelled clear nothing = passed
  carried (Down node) (cell ∷ cells) is fair labelled clear nothing = down_good node cell cells is fair (site_at w node) refl nothing
  carried (Up node) (cell ∷ cells) is fair labelled clear nothing = up_good node cell cells is fair (site_at w node) refl labelled (clear node refl) nothing
  carried (Out node port) (cell ∷ cells) is fair labelled clear nothing = out_good (Out node port) cell cells is (peer_of topology node port) fair nothing

  lost : (place : Place) (cells : List Cell) → queue_at w place ≡ cells → Good (loses_head w place cells)
  lost place [] is = passed
  lost place (cell ∷ cells) is = less_good place cell cells is

  -- *Each event*
  pub acts_good : (event : Event) → IsFair topology w event → AreLabelled (acts topology w event) → ((node : NodeId) → SendsAt event node → AreClear (acts topology w event) node)
      → AsksNothing (acts topology w event).notes.frames → Good (acts topology w event)
  acts_good (Inject node octets) fair labelled clear nothing = inject_good node octets (inject_refusal octets) labelled (clear node refl) nothing
  acts_good (Carry place) fair labelled clear nothing = carried place (queue_at w place) refl fair labelled clear nothing
  acts_good (Lose place) fair labelled clear nothing = lost place (queue_at w place) refl
  acts_good (Tick node) fair labelled clear nothing = quiet_good node controller_ticks.ticks (λ site found. controller_ticks_goes (setups_of site.controller) (acting w site) (ports node site found))
      (λ G control controls frames queue a h. ticks_kept Any (λ item f b. tt) (P G control controls frames queue) (kept G control controls frames queue) (λ n p l flow. tt) a h) labelled nothing
  acts_good (TickSwitch node) fair labelled clear nothing = switch_sited w marked passed node conduct.tick_comes (λ M G controls frames b h. tick_led M G controls frames b h) nothing
  acts_good (Restart node) fair labelled clear nothing = quiet_good node node_restarts (λ site found. node_restarts_goes (setups_of site.controller) (acting w site) (ports node site found))
      (λ G control controls frames queue a h. node_restarts_kept Any (λ item f b. tt) (P G control controls frames queue) (kept G control controls frames queue) a h) labelled nothing
  acts_good (RestartSwitch node) fair labelled clear nothing = switch_sited w marked passed node conduct.restarted (λ M G controls frames b h. restart_led M G controls frames b h) nothing
  acts_good (Forge place channel payload) fair labelled clear nothing = absurd fair
  acts_good (Route node change) fair labelled clear nothing = quiet_good node (λ a. change_comes a change) (λ site found. change_comes_goes (setups_of site.controller) (acting w site) change (ports node site found))
      (λ G control controls frames queue a h. change_comes_kept Any (λ item f b. tt) (P G control controls frames queue) (kept G control controls frames queue) a change h) labelled nothing
