-- no request fails while what comes up is first messages alone

use Rattle.std.proofs.Common.{◌≡◌, ◌≢◌, ℕ, zero, ◌≤◌, Bool, true, List, ◌∷◌, Option, None, Some, Ok, inr, refl, sym, ◌∙◌, ap, subst, arith, if◌then◌else◌}
use Rattle.std.specs.Prelude.{◌&&◌, ◌==◌, Contains, find, slice_index}
use Rattle.world_model.specs.Words.{NodeId, PortNo, Down, Up, Out, Addr, Mark, Cell, payload_of, Desk, Standing, Head, Failed, answered, default_channel, same_channel, port_on, Policy, Topology, World, Site, site_at, queue_at, IsNode, Past, past_of, frames_of}
use Rattle.world_model.specs.port_model.DeskAnswers.{answered_with, is_of_type, outcome}
use Rattle.world_model.specs.gsmp_wire.declared.message.Message.{Message}
use Rattle.world_model.specs.gsmp_wire.declared.message.Message.TheVariants.{Branch, AllPorts}
use Rattle.world_model.specs.gsmp_wire.Layout.{octets_of}
use Rattle.world_model.specs.gsmp_wire.Fields.{decoded}
use Rattle.world_model.specs.ifmp_wire.declared.message.Message.{Message as IfmpMessage}
use Rattle.world_model.specs.network_model.declared.link.LinkEnd.{LinkEnd}
use Rattle.world_model.specs.network_model.declared.event.Event.{Event}
use Rattle.world_model.specs.network_model.declared.event.Event.TheVariants.{Inject, Carry, Lose, Tick, TickSwitch, Restart, RestartSwitch, Forge, Route}
use Rattle.law_link_parties.proofs.law_link_met.law_port_facts.Keyed.{by_eq}
use Rattle.law_link_parties.specs.law_run_facts.ordered_lists.Ordered.{Every}
use Rattle.law_link_parties.specs.law_run_facts.law_world_views.law_controller_views.Lifted.{payload_by}
use Rattle.law_link_parties.specs.law_run_facts.law_world_views.Marks.{Heading, heading_at, own_end, Means, early, control, local, plain, labelled}
use Rattle.law_link_parties.specs.law_link_met.law_frame_readings.Reading.{IsSaidAs}
use Rattle.law_link_parties.proofs.law_link_met.law_frame_readings.Reading.{read_said}
use Rattle.law_link_parties.specs.law_live_rested.law_true_runs.Runs.{IsWhole}
use Rattle.law_ownership.specs.Places.{IsPlaced, of_gsmp, of_link}
use Rattle.live_model.specs.Peace.{FailsNone}
use Rattle.law_link_parties.proofs.law_link_met.law_live_tables.law_live_carries.law_world_pace.Ports.{linked_port}
use Rattle.law_live_ease.specs.law_live_control.Calm.{IsOfCalm, IsCalmCell}
use Rattle.law_link_parties.specs.law_live_hearing.Law.{world_at}
use Rattle.law_link_parties.proofs.law_live_hearing.Sites.{queue_of_site}
use Rattle.law_live_begun.specs.First.{Start, rows_of, IsFirstUp, greets_controller, tells_ports, succeeds, IsFirstNode, IsFirstWorld}
use Rattle.law_live_begun.specs.Codec.{GreetingsAreRead}
use Rattle.law_live_begun.specs.Worlds.{IsQuietRun}

-- *A first message* tells no failure
tells : (message : Message) (head : Head) (s : Standing) (code : ℕ) → ((x : Standing) → outcome message head (Some x) ≢ Failed s code) → (standing : List Standing)
    → answered_with standing message (Some head) ≢ Failed s code
tells message head s code some standing = by (find (λ (x : Standing). x.number == head.number && is_of_type message x.request) standing)
  where
    by : (o : Option Standing) → outcome message head o ≢ Failed s code
    by None e = absurd (cc e)
    by (Some x) e = some x e

never_fails : (start : Start) (desk : Desk) (message : Message) → IsFirstUp start message → (s : Standing) (code : ℕ) → answered desk message ≢ Failed s code
never_fails start desk _ (greets_controller greeting) s code e = absurd (cc e)
never_fails start desk _ (tells_ports number low) s code e =
    tells (AllPorts 3 0 number (rows_of start)) (record { result = 3; code = 0; number = number }) s code (λ x f. absurd (cc f)) desk.standing e
never_fails start desk _ (succeeds kind by number session input_port input output_port output branches priority) s code e =
    tells (Branch kind 3 by number session input_port input output_port output branches priority) (record { result = 3; code = by; number = number }) s code (λ x f. absurd (cc f)) desk.standing e

-- *A message of a port* isn't one of GSMP
apart : (source : Addr) (message : IfmpMessage) (other : Message) → payload_by source message ≡ octets_of other → ⊥
apart source message other e = omega (arith, ap (λ (octets : List ℕ). slice_index octets 6) e)

one_payload : (o : Option (List ℕ)) (x y : List ℕ) → o ≡ Some x → o ≡ Some y → x ≡ y
one_payload o x y e f = (let same : Some x ≡ Some y = sym e ∙ f in cc same)

-- what goes to a link's end under a control mark is one
of_port : (past : Past) (to : Heading) (last : Bool) (mark : Mark) (payload : List ℕ) (message : Message) → to.end ≢ None → mark.packet ≡ 0 → payload_of (frames_of past) mark ≡ Some payload
    → payload ≡ octets_of message → Means past to last mark → ⊥
of_port past to last mark payload message there none made filled (early d part packet) = packet none
of_port past to last mark payload message there none made filled (control d packet source said told) =
    apart source said message (one_payload (payload_of (frames_of past) mark) (payload_by source said) payload told made ∙ filled)
of_port past to last mark payload message there none made filled (local d end packet) = there end
of_port past to last mark payload message there none made filled (plain d l far end packet told come newest) = absurd (omega (arith, none, come.counted))
of_port past to last mark payload message there none made filled (labelled d far end flow bound other packet told carries come newest) = absurd (omega (arith, none, come.counted))

has_end : (node : NodeId) (port : PortNo) → 1 ≤ port.0 → own_end node port ≢ None
has_end node port above = by_eq port.0 0 (λ zero t. absurd (omega (arith, zero, above)))
    (λ other t. subst (λ (b : Bool). by b ≢ None) (sym t) (λ e. absurd (cc e)))
  where
    end : LinkEnd
    end = record { node = node; port = port }

    by : Bool → Option LinkEnd
    by b = if b then None else Some end

module _ (read : GreetingsAreRead) (policy : Policy) (topology : Topology) (events : List Event) (quiet : IsQuietRun policy topology events) (whole : IsWhole (past_of policy topology events))
    (first : IsFirstWorld topology (world_at policy topology events)) (node : NodeId) (within : IsNode topology node) where
  abbrev w : World
  w = world_at policy topology events

  module _ (site : Site) (cell : Cell) (cells : List Cell) (payload : List ℕ) (message : Message) (found : site_at w node ≡ Some site) (queue : queue_at w (Up node) ≡ cell ∷ cells)
      (made : payload_of w.notes.frames cell.mark ≡ Some payload) (is : decoded payload ≡ Ok message) where
    first_node : IsFirstNode topology w.notes.frames node site
    first_node = first.nodes node site found

    said : IsSaidAs cell.mark payload message
    said = read_said cell.mark payload message (whole.world.made cell.mark payload made) is

    among : Contains (queue_at w (Up node)) cell
    among = subst (λ (q : List Cell). Contains q cell) (sym queue) (zero, omega arith, refl)

    calm_cell : IsCalmCell (IsFirstUp first_node.start) w.notes.frames cell
    calm_cell = (subst (Every (IsCalmCell (IsFirstUp first_node.start) w.notes.frames)) (sym (queue_of_site w node site (Up node) found) ∙ queue) first_node.is.up).0

    on_gsmp : same_channel cell.header.channel default_channel ≡ true → IsFirstUp first_node.start message
    on_gsmp on =
        let k : IsOfCalm (IsFirstUp first_node.start) w.notes.frames cell = calm_cell on in
        read.up first_node.start k.message message first_node.is.fits k.calm
        (ap decoded (one_payload (payload_of w.notes.frames cell.mark) (octets_of k.message) payload k.made made) ∙ is)

    by_place : IsPlaced (past_of policy topology events) node cell → IsFirstUp first_node.start message
    by_place (of_gsmp on other under) = on_gsmp on
    by_place (of_link linked) = absurd (of_port (past_of policy topology events) (heading_at topology (Up node) cell.header.channel) cell.header.last cell.mark payload message
        (has_end node (port_on cell.header.channel) (linked_port topology node (port_on cell.header.channel) quiet.run.topology_is linked).0) said.control made said.filled
        (whole.world.meanings (Up node) cell within among))

    is_first : IsFirstUp first_node.start message
    is_first = by_place (whole.places node within cell (inr among) said.control)

    none_fails : (s : Standing) (code : ℕ) → answered site.controller.desk message ≢ Failed s code
    none_fails s code = never_fails first_node.start site.controller.desk message is_first s code

  pub fails_none : (event : Event) → FailsNone w node event
  fails_none (Carry (Up here)) = λ same site cell cells payload message s code found queue made is. none_fails site cell cells payload message found queue made is s code
  fails_none (Carry (Down here)) = tt
  fails_none (Carry (Out here port)) = tt
  fails_none (Inject here octets) = tt
  fails_none (Lose place) = tt
  fails_none (Tick here) = tt
  fails_none (TickSwitch here) = tt
  fails_none (Restart here) = tt
  fails_none (RestartSwitch here) = tt
  fails_none (Forge place channel payload) = tt
  fails_none (Route here change) = tt
