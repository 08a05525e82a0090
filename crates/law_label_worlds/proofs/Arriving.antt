-- a cell comes to a controller from its switch, in a network between events: what is asked of it holds

use Rattle.std.proofs.Common.{◌≡◌, ℕ, ◌≤◌, ◌<◌, ◌+◌, ◌*◌, ◌/◌, Bool, true, false, List, [], ◌∷◌, ◌++◌, length, Option, None, Some, Result, Ok, Err, refl, sym, ◌∙◌, ap, subst, arith, if◌then◌else◌}
use Rattle.std.specs.Prelude.{◌^◌, ◌==◌, drop}
use Rattle.std.proofs.lemmas.Bool.Decides.{nat_tests}
use Rattle.std.specs.Option.{option_and_then}
use Rattle.std.proofs.lemmas.List.{length-map}
use Rattle.world_model.specs.Words.{NodeId, PortNo, Up, Channel, Mark, Addr, label_number_of, is_label_number, Cell, protocol_of, source_of, PacketFault, EncapsFault, default_unwrapped, unwrapped, Frame, Record, Bad, Encaps, Packet, Ifmp, encaps_refusal, packet_refusal, ifmp_refusal, payload_of, at, put, Standing, queue_of, control_port, Setup, Label, label_at, Grant, counts, used, hears, Controller, Linked, port_key, linked_at, with_linked, chains_with, default_channel, begins, forwards_packet, control_protocol, gsmp_holds, ForGsmp, ForDefault, ForLabel, port_on, on_link, same_channel, label_taker, taker_at, taker_of, reassembly_of, label_holds, ifmp_holds, counted_at, packet_holds, default_holds, frame_holds, IsPlace, Site, site_at, gsmp_of, gsmp_under, Past, put_away}
use Rattle.world_model.proofs.net_types.Labels.{number_of_channel-label_channel_of}
use Rattle.world_model.specs.ipv4_packet.Packet.{first_fault}
use Rattle.world_model.specs.ifmp_wire.declared.message.Message.{Message as IfmpMessage}
use Rattle.world_model.specs.ifmp_wire.declared.reader.Fault.{Fault as IfmpFault}
use Rattle.world_model.specs.ifmp_wire.Fields.{decoded as ifmp_decoded}
use Rattle.world_model.specs.gsmp_wire.declared.fault.Fault.{Fault as GsmpFault}
use Rattle.world_model.specs.gsmp_wire.declared.message.Message.{Message as GsmpMessage}
use Rattle.world_model.specs.gsmp_wire.Fields.{decoded as gsmp_decoded}
use Rattle.law_label_events.specs.ordered_lists.Ordered.{Every}
use Rattle.law_label_events.specs.law_port_facts.Port.{IsPort, IsGrant}
use Rattle.law_label_events.proofs.law_port_facts.Keyed.{on_each, at_key, at_every, at_put_same}
use Rattle.law_label_events.proofs.law_port_facts.Rules.{and_first}
use Rattle.law_label_events.proofs.law_port_facts.Hearings.{hears_goes}
use Rattle.law_label_events.proofs.law_port_facts.Instances.{goes_gave}
use Rattle.law_label_events.specs.law_label_line.Cells.{Role, Downstream, Upstream}
use Rattle.law_label_events.specs.law_label_line.Line.{Line}
use Rattle.world_model.specs.port_model.Grants as grants
use Rattle.world_model.specs.Controller.{Acted, note}
use Rattle.world_model.specs.Cells.{Taker, cell_comes}
use Rattle.law_label_events.specs.law_controller_facts.Sound.{IsSound, linked_setup}
use Rattle.law_label_events.proofs.law_controller_facts.Moves.{gathering, chaining, moves_to, found_at_own}
use Rattle.law_label_events.proofs.law_controller_facts.Laws.{has_ports}
use Rattle.law_label_events.proofs.law_controller_facts.Lifetimes.{decoded_lives}
use Rattle.law_label_events.proofs.law_controller_facts.Drawn.{routes_calm}
use Rattle.law_run_facts.specs.law_controller_bindings.Bindings.{HasBoundLabels}
use Rattle.law_run_facts.specs.law_controller.Match.{lent_in, lent_at}
use Rattle.law_label_events.specs.law_port_views.Link.{LinkLabel}
use Rattle.law_label_events.specs.law_shown_cells.Label.{OnControl, channel_at}
use Rattle.law_label_events.proofs.law_shown_cells.Frames.{same_is}
use Rattle.law_label_events.specs.law_controller_views.Ends as views
use Rattle.law_label_events.specs.law_controller_views.Ends.{EndGoes, EndLeads}
use Rattle.law_label_events.specs.law_controller_views.Lifted.{IsProper, IsLifted, Growing}
use Rattle.law_label_events.proofs.law_controller_views.Parts.{end_then, quiet_leads}
use Rattle.law_label_events.proofs.law_controller_views.Works.{port_is, quiet_note}
use Rattle.law_label_events.proofs.law_controller_views.AtPort.{at_port_leads}
use Rattle.law_label_events.specs.law_arrival_views.Packets.{IsFree, of_control, of_packet, IsPlain, HasLabelGrants}
use Rattle.law_label_events.specs.law_arrival_views.Cells.{PassesByRight, EndsFrame, IsDefault, unchained, ended_at, CanCome, ended_by}
use Rattle.law_label_events.proofs.law_arrival_views.Routes.{routes_lead}
use Rattle.law_label_events.proofs.law_arrival_views.Others.{default_on_link, port_of_default}
use Rattle.law_label_events.specs.law_controller_views.Ready.{IsReady, FitsLink}
use Rattle.law_label_events.proofs.law_controller_lifts.Lifts.{can_hear, counts_lifted, used_lifted}
use Rattle.law_label_events.proofs.law_controller_lifts.Kept.{same_ports, put_goes}
use Rattle.law_label_events.proofs.law_controller_lifts.Unspent.{Unspent, unspent_closed}
use Rattle.law_label_events.proofs.law_controller_lifts.Ready.{Fits, fits_closed, Readies, moves_ready}
use Rattle.law_label_events.proofs.law_controller_lifts.Holding.{routes_ready}
use Rattle.world_model.specs.Ways.{ok_of}
use Rattle.law_label_events.specs.law_world_views.Made.{IsFit}
use Rattle.law_label_events.specs.law_world_views.Ready.{setups_of}
use Rattle.law_label_events.specs.law_world_views.Shown.{acting}
use Rattle.law_label_events.specs.law_world_views.Between.{IsWorld}
use Rattle.law_running_worlds.proofs.law_frame_readings.Packets.{is_forwarded}
use Rattle.law_running_worlds.specs.law_frame_readings.Reading.{IsForwarded}
use Rattle.law_label_events.specs.Acts.{Arrives}
use Rattle.law_pairs.specs.Settles.{StaysJoined, Settles, SettlesAt}
use Rattle.law_label_worlds.proofs.Answered.{Settled, gsmp_leads}
use Rattle.law_label_worlds.proofs.Growing.{frame_grows, cell_grows}
use Rattle.law_label_worlds.proofs.Frames.{plain_packet, Hearable, label_is, IsDefaultTaker, default_is, free, hearable, forwarded_fit, label_fit}
use Rattle.law_running_worlds.proofs.Rules.{packet_fits}

-- *Any controller* that is ready: what it does with a whole frame
module _ (setups : List Setup) (link : LinkLabel) (proper : IsProper link) (fit : FitsLink link) (like : Type 0) (role : Role) where
  abbrev Leads : Acted → Acted → Type 0
  Leads a b = EndLeads link like role a [] b []

  label_grants : (c : Controller) → IsSound setups c → HasLabelGrants c
  label_grants c sound port linked found = all linked.port.grants (at_every port_key (λ (x : Linked). IsPort setups x.setup x.port) port.0 c.ports linked sound.ports.each found).grants
    where
      all : (gs : List Grant) → Every (IsGrant setups linked.setup) gs → Every (λ (grant : Grant). is_label_number grant.label ≡ true) gs
      all [] h = tt
      all (g ∷ gs) h = (and_first (is_label_number g.label) _ h.0.in_range, all gs h.1)

  routed_small : (a : Acted) (mark : Mark) (packet : List ℕ) → a.numbers.instances < 2 ^ 32 → (forwards_packet a mark packet).numbers.instances < 2 ^ 32
  routed_small a mark packet small = omega (arith, (routes_calm a mark packet).same, small)

  routed_leads : (a : Acted) (mark : Mark) (packet : List ℕ) → IsReady setups a.controller → IsFree a mark → IsPlain packet → Leads a (forwards_packet a mark packet)
  routed_leads a mark packet ready free plain = routes_lead link proper like role a mark packet free (label_grants a.controller ready.sound) plain

  label_leads : (a : Acted) (linked : Linked) (label : Label) (mark : Mark) (r : Result (List ℕ) EncapsFault) → IsReady setups a.controller → a.numbers.instances < 2 ^ 32
      → IsFree a mark → ((packet : List ℕ) → r ≡ Ok packet → IsPlain packet) → Leads a (label_holds a linked label mark r)
  label_leads a linked label mark (Err fault) ready small free plain = quiet_leads link like role a (label_holds a linked label mark (Err fault)) [] (quiet_note link proper like role a (Bad a.controller.node Encaps (encaps_refusal fault)))
  label_leads a linked label mark (Ok packet) ready small free plain =
      let b : Acted = forwards_packet a mark packet in
      end_then link like role a b (label_holds a linked label mark (Ok packet)) [] [] [] (routed_leads a mark packet ready free (plain packet refl))
      (at_port_leads link proper like role b linked.setup.port (λ setup desk w. used w label.number)
      (used_lifted setups b ((routes_ready setups a mark packet).ready (routed_small a mark packet small) ready) link proper fit like role linked.setup.port label.number))

  -- a packet that is sent on, and counted at the port on whose default channel it came
  forward_leads : (a : Acted) (q : PortNo) (mark : Mark) (packet : List ℕ) → IsReady setups a.controller → a.numbers.instances < 2 ^ 32 → IsFree a mark → IsPlain packet → IsFit packet
      → Leads a (counted_at (forwards_packet a mark packet) q packet)
  forward_leads a q mark packet ready small free plain is_fit =
      let b : Acted = forwards_packet a mark packet in
      end_then link like role a b (counted_at b q packet) [] [] [] (routed_leads a mark packet ready free plain)
      (at_port_leads link proper like role b q (λ setup desk w. counts setup desk w packet)
      (counts_lifted setups b ((routes_ready setups a mark packet).ready (routed_small a mark packet small) ready) link proper fit like role q packet (packet_fits packet is_fit)))

  -- a default channel of another port
  other_hears : (a : Acted) (q : PortNo) (source : Addr) (octets : List ℕ) (message : IfmpMessage) → ifmp_decoded octets ≡ Ok message → (q ≡ link.port role → ⊥)
      → IsLifted link like role a q (λ setup desk w. hears setup desk w source message)
  other_hears a q source octets message read other = record {
    drawn = λ linked found. (let same = goes_gave a.numbers.instances linked.setup a.controller.desk (begins a linked) (hears linked.setup a.controller.desk (begins a linked) source message)
        (hears_goes linked.setup a.controller.desk (begins a linked) source message refl (decoded_lives octets message read)) refl in omega (arith, same));
    reads = λ linked found same. absurd (other same);
    leads = λ linked found same queued. absurd (other same);
  }

  noted_leads : (a : Acted) (item : Record) → Leads a (note a item)
  noted_leads a item = quiet_leads link like role a (note a item) [] (quiet_note link proper like role a item)

  default_leads : (a : Acted) (q : PortNo) (mark : Mark) (payload : List ℕ) → (q ≡ link.port role → ⊥) → IsReady setups a.controller → a.numbers.instances < 2 ^ 32 → IsFree a mark
      → ((packet : List ℕ) → default_unwrapped payload ≡ Ok packet → (protocol_of packet == control_protocol) ≡ false → IsFit packet) → Leads a (default_holds a q mark (default_unwrapped payload))
  default_leads a q mark payload other ready small free is_fit = by (default_unwrapped payload) refl
    where
      by_message : (packet : List ℕ) (r : Result IfmpMessage IfmpFault) → ifmp_decoded (drop 20 packet) ≡ r → Leads a (ifmp_holds a q packet r)
      by_message packet (Err fault) is = noted_leads a (Bad a.controller.node Ifmp (ifmp_refusal fault))
      by_message packet (Ok message) is = at_port_leads link proper like role a q (λ setup desk w. hears setup desk w (source_of packet) message) (other_hears a q (source_of packet) (drop 20 packet) message is other)

      by_packet : (packet : List ℕ) → default_unwrapped payload ≡ Ok packet → (o : Option PacketFault) → first_fault packet ≡ o → Leads a (packet_holds a q mark packet o)
      by_packet packet is (Some fault) whole = noted_leads a (Bad a.controller.node Packet (packet_refusal fault))
      by_packet packet is None whole = on_each (Leads a) (protocol_of packet == control_protocol) (ifmp_holds a q packet (ifmp_decoded (drop 20 packet))) (counted_at (forwards_packet a mark packet) q packet)
          (λ t. by_message packet (ifmp_decoded (drop 20 packet)) refl)
          (λ t. forward_leads a q mark packet ready small free (plain_packet packet whole t) (is_fit packet is t))

      by : (r : Result (List ℕ) EncapsFault) → default_unwrapped payload ≡ r → Leads a (default_holds a q mark r)
      by (Err fault) is = noted_leads a (Bad a.controller.node Encaps (encaps_refusal fault))
      by (Ok packet) is = by_packet packet is (first_fault packet) refl

-- *The chain of a channel has ended*
module _ (setups : List Setup) where
  abbrev TakerFound : Acted → Taker → Type 0
  TakerFound a ForGsmp = Unit {0}
  TakerFound a (ForDefault linked) = (q : PortNo) × (linked_at a.controller q ≡ Some linked)
  TakerFound a (ForLabel linked label) = (q : PortNo) × (linked_at a.controller q ≡ Some linked)

  chained_ready : (a : Acted) (q : PortNo) (linked after : Linked) → linked_at a.controller q ≡ Some linked → after.setup ≡ linked.setup → after.port ≡ linked.port → a.numbers.instances < 2 ^ 32
      → IsReady setups a.controller → IsReady setups (with_linked a after).controller
  chained_ready a q linked after found setup port small ready =
      let r : Readies setups a (with_linked a after) = moves_ready setups a (with_linked a after) (λ h. moves_to (chaining a linked after (found_at_own setups a linked q found) setup port))
      (put_goes Unspent unspent_closed a linked after q found setup port) (put_goes Fits fits_closed a linked after q found setup port) in
      r.ready small ready

  ended_ready : (a : Acted) (taker : Taker) → TakerFound a taker → a.numbers.instances < 2 ^ 32 → IsReady setups a.controller → IsReady setups (ended_by a taker).controller
  ended_ready a ForGsmp found small ready =
      let r : Readies setups a (ended_by a ForGsmp) = moves_ready setups a (ended_by a ForGsmp) (λ h. moves_to (gathering a (record a.controller.reassembly { chain = [] })))
      (same_ports Unspent unspent_closed a (ended_by a ForGsmp) refl refl) (same_ports Fits fits_closed a (ended_by a ForGsmp) refl refl) in
      r.ready small ready
  ended_ready a (ForDefault linked) found small ready = chained_ready a found.0 linked (record linked { reassembly = record linked.reassembly { chain = [] } }) found.1 refl refl small ready
  ended_ready a (ForLabel linked label) found small ready = chained_ready a found.0 linked
      (record linked { chains = chains_with linked.chains label.number (record (reassembly_of a.controller (ForLabel linked label)) { chain = [] }) }) found.1 refl refl small ready

ended_free : (a : Acted) (taker : Taker) (mark : Mark) → IsFree a mark → IsFree (ended_by a taker) mark
ended_free a ForGsmp mark (of_control is) = of_control is
ended_free a ForGsmp mark (of_packet n e) = of_packet n e
ended_free a (ForDefault linked) mark (of_control is) = of_control is
ended_free a (ForDefault linked) mark (of_packet n e) = of_packet n e
ended_free a (ForLabel linked label) mark (of_control is) = of_control is
ended_free a (ForLabel linked label) mark (of_packet n e) = of_packet n e

ended_small : (a : Acted) (taker : Taker) (n : ℕ) → a.numbers.instances + n < 2 ^ 32 → (ended_by a taker).numbers.instances + n < 2 ^ 32
ended_small a ForGsmp n small = small
ended_small a (ForDefault linked) n small = small
ended_small a (ForLabel linked label) n small = small

-- the end that hands the label out says nothing of joins
down_ends : (link : LinkLabel) (like more : Type 0) (frames : List Frame) (instances : ℕ) (c : Controller) (line : Line) → views.End link like Downstream frames instances c [] line → views.End link more Downstream frames instances c [] line
down_ends link like more frames instances c line e = record {
  linked = e.linked;
  found = e.found;
  port = e.port;
  address = e.address;
  port_address = e.port_address;
  queued = e.queued;
  queue = e.queue;
  shown = e.shown;
  taken = e.taken;
}

down_leads : (link : LinkLabel) (like : Type 0) (a b : Acted) → EndLeads link ⊥ Downstream a [] b [] → EndLeads link like Downstream a [] b []
down_leads link like a b f unmade line e =
    let g : EndGoes link ⊥ Downstream a b [] line = f unmade line (down_ends link like ⊥ a.notes.frames a.numbers.instances a.controller line e) in
    record { moves = g.moves; after = g.after; is = g.is; end = down_ends link ⊥ like b.notes.frames b.numbers.instances b.controller g.after g.end; rest = g.rest; grows = g.grows }

-- *Channels of the control link*: a port's default channel
default_channel_on : (channel : Channel) (q p : PortNo) → q.0 ≡ p.0 → port_on channel ≡ q → same_channel (on_link channel) default_channel ≡ true → channel ≡ channel_at (OnControl p) default_channel
default_channel_on c q p same is e = λ i. record { vpi = vpi i; vci = vci i }
  where
    number : c.vpi / 16 ≡ p.0
    number = ap (λ (z : PortNo). z.0) is ∙ same

    link_is : on_link c ≡ default_channel
    link_is = same_is (on_link c) default_channel e

    vpi : c.vpi ≡ 16 * p.0 + 0
    vpi = omega (arith, number, ap (λ (z : Channel). z.vpi) link_is)

    vci : c.vci ≡ 15
    vci = ap (λ (z : Channel). z.vci) link_is

not_gsmp : (c : Channel) (p : PortNo) → 0 < p.0 → c ≡ channel_at (OnControl p) default_channel → same_channel c default_channel ≡ false
not_gsmp c p above is =
    let vpi : c.vpi ≡ 16 * p.0 + 0 = ap (λ (z : Channel). z.vpi) is in
    let some : 0 < c.vpi = omega (arith, vpi, above) in
    grind (arith, nat_tests, some)

default_taker : (c : Controller) (channel : Channel) (p : PortNo) (linked : Linked) → 0 < p.0 → channel ≡ channel_at (OnControl p) default_channel → linked_at c p ≡ Some linked → taker_of c channel ≡ Some (ForDefault linked)
default_taker c channel p linked above is found =
    ap (λ (b : Bool). if b then Some ForGsmp else taker_at (linked_at c (port_on channel)) (on_link channel)) (not_gsmp channel p above is)
    ∙ (ap (λ (o : Option Linked). taker_at o (on_link channel)) (ap (λ (q : PortNo). linked_at c q) (port_is (port_on channel) p (port_of_default channel p is)) ∙ found)
    ∙ ap (λ (b : Bool). if b then Some (ForDefault linked) else label_taker linked (option_and_then (label_at linked.port) (label_number_of (on_link channel)))) (default_on_link channel p is))

-- *In a network*
module _ (past : Past) (world : IsWorld past) (node : NodeId) (site : Site) (cell : Cell) (cells : List Cell) (found : site_at past.now node ≡ Some site)
    (front : queue_of site.switch.crossbar control_port ≡ cell ∷ cells) (place : IsPlace past.topology (Up node))
    (few : length (setups_of site.controller) ≤ 8) (left : past.now.numbers.instances + 20 < 2 ^ 32) (bound : HasBoundLabels node past.records (acting past.now site))
    (passes : (taker : Taker) → taker_of site.controller cell.header.channel ≡ Some taker → EndsFrame (acting (put_away past.now) site) (reassembly_of site.controller taker) cell
    → PassesByRight (acting (put_away past.now) site) ((reassembly_of site.controller taker).chain ++ cell ∷ [])) where
  abbrev a : Acted
  a = acting (put_away past.now) site

  abbrev setups : List Setup
  setups = setups_of site.controller

  ready : IsReady setups site.controller
  ready = (world.ready node site found).controller

  small : past.now.numbers.instances < 2 ^ 32
  small = omega (arith, left)

  few_ports : length site.controller.ports ≤ 8
  few_ports = omega (arith, length-map site.controller.ports linked_setup, few)

  taker_found : (taker : Taker) → taker_of site.controller cell.header.channel ≡ Some taker → TakerFound setups a taker
  taker_found ForGsmp is = tt
  taker_found (ForDefault linked) is = (port_on cell.header.channel, (default_is site.controller cell.header.channel linked is).found)
  taker_found (ForLabel linked label) is = (port_on cell.header.channel, (label_is site.controller cell.header.channel linked label is).found)

  freed : (taker : Taker) → cell.header.last ≡ true → IsFree (ended_by a taker) cell.mark
  freed taker last = ended_free a taker cell.mark (free past world node site cell cells found front place last)

  under : (payload : List ℕ) (message : GsmpMessage) → payload_of past.now.notes.frames cell.mark ≡ Some payload → gsmp_decoded payload ≡ Ok message → gsmp_under past.now.notes.frames cell.mark ≡ Some message
  under payload message made read = ap (option_and_then gsmp_of) made ∙ ap (λ (r : Result GsmpMessage GsmpFault). ok_of r) read

  grows : Growing a (cell_comes a cell)
  grows = cell_grows a cell passes (λ taker is whole payload. frame_grows setups (ended_by a taker) taker cell.mark payload (freed taker whole.last)
      (has_ports setups (ended_by a taker) (ended_ready setups a taker (taker_found taker is) small ready).sound))

  module _ (link : LinkLabel) (proper : IsProper link) (fit : FitsLink link) (like : Type 0) where
    -- an answer, where joins to the label are settled
    lent_of : (s : Standing) (j : StaysJoined link site.controller s) → lent_at site.controller.ports (link.port Upstream).0 link.label ≡ Some j.input
    lent_of s j = ap (option_and_then (λ (x : Linked). lent_in x.port.grants link.label)) j.join.found
        ∙ (ap (λ (n : ℕ). lent_in j.join.linked.port.grants n) (sym (number_of_channel-label_channel_of link.label))
        ∙ (ap (option_and_then (λ (g : Grant). grants.lent_input g.state)) j.join.granted ∙ j.join.lent))

    settled_up : (s : Standing) → Settles link like site.controller s → Settled setups link proper fit like Upstream (ended_by a ForGsmp) s
    settled_up s k = record {
      tied = λ met l. (let j : StaysJoined link site.controller s = k.joined met l in record { input = j.input; lent = lent_of s j; unled = j.unled });
      emptied = k.emptied;
    }

    settled_down : (s : Standing) → Settled setups link proper fit ⊥ Downstream (ended_by a ForGsmp) s
    settled_down s = record { tied = λ met l. absurd l; emptied = λ unmet deleting none l. l }

    gsmp_part : (role : Role) → (node.0 ≡ (link.node Upstream).0 → SettlesAt link like past.now.notes.frames site.controller cell) → node.0 ≡ (link.node role).0
        → taker_of site.controller cell.header.channel ≡ Some ForGsmp → cell.header.last ≡ true → (payload : List ℕ)
        → payload_of past.now.notes.frames cell.mark ≡ Some payload → EndLeads link like role (ended_by a ForGsmp) [] (gsmp_holds (ended_by a ForGsmp) (gsmp_decoded payload)) []
    gsmp_part Downstream settles here taker last payload made = down_leads link like (ended_by a ForGsmp) (gsmp_holds (ended_by a ForGsmp) (gsmp_decoded payload))
        (gsmp_leads setups link proper fit ⊥ Downstream (ended_by a ForGsmp) (gsmp_decoded payload) (ended_ready setups a ForGsmp tt small ready) few_ports left (λ message s read answers. settled_down s))
    gsmp_part Upstream settles here taker last payload made = gsmp_leads setups link proper fit like Upstream (ended_by a ForGsmp) (gsmp_decoded payload) (ended_ready setups a ForGsmp tt small ready) few_ports left
        (λ message s read answers. settled_up s (settles here taker last message s (under payload message made read) answers))

    -- the default channel of the link's port
    own_part : (role : Role) (linked : Linked) → linked_at site.controller (link.port role) ≡ Some linked → IsDefault link role cell → EndsFrame a linked.reassembly cell → CanCome link like role a linked cell
    own_part role linked here is whole =
        let taker : taker_of site.controller cell.header.channel ≡ Some (ForDefault linked) = default_taker site.controller cell.header.channel (link.port role) linked (proper.above role) is here in
        let still : IsReady setups (ended_at a linked).controller = ended_ready setups a (ForDefault linked) (link.port role, here) small ready in
        record {
          passes = passes (ForDefault linked) taker whole;
          hears = λ payload packet message made t. (let h : Hearable packet message = hearable past world node site cell cells found front place payload packet message made t in
              can_hear setups (ended_at a linked) still link proper fit like role (link.port role) (unchained linked) (source_of packet) message found_after h.source h.range h.fits);
          forwards = λ payload packet made unwrapped_is faultless other. forward_leads setups link proper fit like role (ended_at a linked) linked.setup.port cell.mark packet still small
              (freed (ForDefault linked) whole.last) (plain_packet packet faultless other) (forwarded_fit past world node site cell cells found front place payload packet made unwrapped_is other);
        }
      where
        found_after : linked_at (ended_at a linked).controller (link.port role) ≡ Some (unchained linked)
        found_after =
            let key : port_key linked ≡ (link.port role).0 = at_key port_key (link.port role).0 site.controller.ports linked here in
            subst (λ (n : ℕ). at port_key n (put port_key (unchained linked) site.controller.ports) ≡ Some (unchained linked)) key
            (at_put_same port_key (unchained linked) site.controller.ports linked (subst (λ (n : ℕ). at port_key n site.controller.ports ≡ Some linked) (sym key) here))

    other_port : (role : Role) (linked : Linked) → taker_of site.controller cell.header.channel ≡ Some (ForDefault linked) → (IsDefault link role cell → ⊥) → linked.setup.port ≡ link.port role → ⊥
    other_port role linked is not_own same =
        let t : IsDefaultTaker site.controller cell.header.channel linked = default_is site.controller cell.header.channel linked is in
        not_own (default_channel_on cell.header.channel (port_on cell.header.channel) (link.port role)
        (sym (at_key port_key (port_on cell.header.channel).0 site.controller.ports linked t.found) ∙ ap (λ (p : PortNo). p.0) same) refl t.own)

    holds_part : (role : Role) → (node.0 ≡ (link.node Upstream).0 → SettlesAt link like past.now.notes.frames site.controller cell) → node.0 ≡ (link.node role).0
        → (taker : Taker) (payload : List ℕ) → taker_of site.controller cell.header.channel ≡ Some taker → (IsDefault link role cell → ⊥) → EndsFrame a (reassembly_of site.controller taker) cell
        → payload_of past.now.notes.frames cell.mark ≡ Some payload → EndLeads link like role (ended_by a taker) [] (frame_holds (ended_by a taker) taker cell.mark payload) []
    holds_part role settles here ForGsmp payload is not_own whole made = gsmp_part role settles here is whole.last payload made
    holds_part role settles here (ForDefault linked) payload is not_own whole made = default_leads setups link proper fit like role (ended_by a (ForDefault linked)) linked.setup.port cell.mark payload
        (other_port role linked is not_own) (ended_ready setups a (ForDefault linked) (taker_found (ForDefault linked) is) small ready) small (freed (ForDefault linked) whole.last)
        (λ packet unwrapped_is other. forwarded_fit past world node site cell cells found front place payload packet made unwrapped_is other)
    holds_part role settles here (ForLabel linked label) payload is not_own whole made = label_leads setups link proper fit like role (ended_by a (ForLabel linked label)) linked label cell.mark (unwrapped label.flow payload)
        (ended_ready setups a (ForLabel linked label) (taker_found (ForLabel linked label) is) small ready) small (freed (ForLabel linked label) whole.last)
        (λ packet unwrapped_is. (let f : IsForwarded packet = is_forwarded packet (label_fit past world node site cell cells found front place bound linked label payload packet
        (label_is site.controller cell.header.channel linked label is) made unwrapped_is) in plain_packet packet f.whole f.other))

    -- *All of it*
    pub arrives : (node.0 ≡ (link.node Upstream).0 → SettlesAt link like past.now.notes.frames site.controller cell) → Arrives link like (put_away past.now) node site cell
    arrives settles = record {
      grows = grows;
      can = λ role here. record {
        own = λ linked found_linked is whole. own_part role linked found_linked is whole;
        passes = passes;
        holds = λ taker payload is not_own whole made. holds_part role settles here taker payload is not_own whole made;
      };
    }
