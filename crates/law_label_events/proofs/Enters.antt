-- a packet enters the network at a node

use Rattle.std.proofs.Common.{◌≡◌, ◌≢◌, ℕ, ◌≤◌, ◌+◌, Bool, true, false, List, length, Option, None, Some, refl, sym, ◌∙◌, ap, subst, arith, if◌then◌else◌}
use Rattle.std.specs.Prelude.{◌==◌, nat_lt}
use Rattle.std.proofs.lemmas.Bool.Decides.{nat_tests}
use Rattle.world_model.specs.Words.{NodeId, PortNo, Mark, Channel, next_control, with_control, protocol_of, PacketFault, onward, hop_of, Hop, Here, On, default_payload, Refusal, ControlProtocol, Refused, Journal, payload_of, next_mark, Grant, default_home, sends_control, is_control, sends_next, goes_by, grant_by, forwards_packet, control_protocol, refused_by, inject_refusal, injected, World, Site, site_at, injects_by, injects}
use Rattle.world_model.specs.ipv4_packet.Packet.{first_fault}
use Rattle.world_model.specs.ipv4_packet.declared.validate.PacketFault.TheVariants.{Short}
use Rattle.world_model.specs.ipv4_forward.declared.outcome.Hop.TheVariants.{NoRoute, Expired}
use Rattle.law_controller_lifts.proofs.law_port_facts.Keyed.{on_both}
use Rattle.law_controller_lifts.specs.law_label_line.Line.{Line}
use Rattle.world_model.specs.Controller.{Acted}
use Rattle.world_model.specs.Sending.{sends}
use Rattle.world_model.specs.Packets.{forwarded}
use Rattle.world_model.specs.Step.{note}
use Rattle.law_controller_lifts.specs.law_port_views.Link.{LinkLabel}
use Rattle.law_controller_lifts.proofs.law_shown_cells.Made.{extends_made, unmade_packet}
use Rattle.law_controller_lifts.specs.law_controller_views.Lifted.{IsProper, Growing}
use Rattle.law_controller_lifts.proofs.law_controller_views.Growing.{grow_same, sends_grow}
use Rattle.law_controller_lifts.proofs.law_controller_views.Sends.{sent_cases}
use Rattle.law_controller_lifts.proofs.Ways.{SameNode}
use Rattle.law_world_views.specs.Shown.{WorldShows, WorldGoes, AreApart, acting}
use Rattle.law_world_views.proofs.Sites.{goes_self, controller_goes}
use Rattle.law_controller_lifts.specs.law_arrival_views.Packets.{IsFree, of_control, of_packet, IsPlain, HasLabelGrants}
use Rattle.law_controller_lifts.proofs.law_arrival_views.Routes.{routes_lead}

-- *Forwarding* makes frames, and leaves the node
same_next : (a : Acted) (came : Mark) (channel : Channel) (payload : List ℕ) → SameNode a (sends_next a came channel payload)
same_next a came channel payload = on_both (SameNode a) (is_control came) (sends_control a channel payload) (sends a channel (next_mark came) payload)
    (sent_cases (SameNode a) (record a { numbers = with_control a.numbers }) channel (next_control a.numbers) payload refl refl)
    (sent_cases (SameNode a) a channel (next_mark came) payload refl refl)

same_by : (a : Acted) (came : Mark) (port : PortNo) (packet : List ℕ) (o : Option Grant) → SameNode a (goes_by a came port packet o)
same_by a came port packet None = same_next a came (default_home port).channel (default_payload packet)
same_by a came port packet (Some grant) = same_next a came _ _

same_forwarded : (a : Acted) (came : Mark) (packet : List ℕ) (hop : Hop) → SameNode a (forwarded a came packet hop)
same_forwarded a came packet Here = refl
same_forwarded a came packet NoRoute = refl
same_forwarded a came packet Expired = refl
same_forwarded a came packet (On port) = same_by a came port (onward packet) (grant_by a.controller port (onward packet))

pub same_routes : (a : Acted) (came : Mark) (packet : List ℕ) → SameNode a (forwards_packet a came packet)
same_routes a came packet = same_forwarded a came packet (hop_of a.controller.table packet)

packet_grows : (a : Acted) (channel : Channel) (mark : Mark) (payload : List ℕ) → mark.packet ≢ 0 → payload_of a.notes.frames mark ≡ None → Growing a (sends a channel mark payload)
packet_grows a channel mark payload packet free = sent_cases (Growing a) a channel mark payload
    (λ u. record { extends = extends_made a.notes.frames mark payload free; instances = omega arith; unmade = λ v. unmade_packet a.numbers.controls mark.packet mark.frame a.notes.frames payload packet v })
    (λ u. record { extends = extends_made a.notes.frames mark payload free; instances = omega arith; unmade = λ v. unmade_packet a.numbers.controls mark.packet mark.frame a.notes.frames payload packet v })

next_grows : (a : Acted) (came : Mark) (channel : Channel) (payload : List ℕ) → IsFree a came → Growing a (sends_next a came channel payload)
next_grows a came channel payload (of_control is) = subst (λ (b : Bool). Growing a (if b then sends_control a channel payload else sends a channel (next_mark came) payload)) (sym is) (sends_grow a channel payload)
next_grows a came channel payload (of_packet packet free) = on_both (Growing a) (is_control came) (sends_control a channel payload) (sends a channel (next_mark came) payload)
    (sends_grow a channel payload) (packet_grows a channel (next_mark came) payload packet free)

by_grows : (a : Acted) (came : Mark) (port : PortNo) (packet : List ℕ) (o : Option Grant) → IsFree a came → Growing a (goes_by a came port packet o)
by_grows a came port packet None free = next_grows a came (default_home port).channel (default_payload packet) free
by_grows a came port packet (Some grant) free = next_grows a came _ _ free

forwarded_grows : (a : Acted) (came : Mark) (packet : List ℕ) (hop : Hop) → IsFree a came → Growing a (forwarded a came packet hop)
forwarded_grows a came packet Here free = grow_same a (forwarded a came packet Here) refl (omega arith) refl
forwarded_grows a came packet NoRoute free = grow_same a (forwarded a came packet NoRoute) refl (omega arith) refl
forwarded_grows a came packet Expired free = grow_same a (forwarded a came packet Expired) refl (omega arith) refl
forwarded_grows a came packet (On port) free = by_grows a came port (onward packet) (grant_by a.controller port (onward packet)) free

pub routes_grow : (a : Acted) (came : Mark) (packet : List ℕ) → IsFree a came → Growing a (forwards_packet a came packet)
routes_grow a came packet free = forwarded_grows a came packet (hop_of a.controller.table packet) free

-- *A packet that isn't refused* has a header, and is no message of IFMP
pub first_passed : (b : Bool) (fault : PacketFault) (rest : Option PacketFault) → (if b then Some fault else rest) ≡ None → b ≡ false
first_passed true fault rest e = absurd (cc e)
first_passed false fault rest e = refl

not_refused : (b : Bool) (refusal : Refusal) → (if b then Some refusal else None) ≡ None → b ≡ false
not_refused true refusal e = absurd (cc e)
not_refused false refusal e = refl

pub long_by : (n : ℕ) → nat_lt n 20 ≡ false → 20 ≤ n
long_by n e = grind (arith, nat_tests)

plain_by : (octets : List ℕ) (o : Option PacketFault) → first_fault octets ≡ o → refused_by octets o ≡ None → IsPlain octets
plain_by octets (Some fault) is none = absurd (cc none)
plain_by octets None is none = record {
  long = long_by (length octets) (first_passed (nat_lt (length octets) 20) Short _ is);
  protocol = not_refused (protocol_of octets == control_protocol) ControlProtocol none;
}

module _ (link : LinkLabel) (proper : IsProper link) (like : Type 0) (apart : AreApart link) (w : World) (line : Line) (s : WorldShows link like w line) where
  enters_by : (node : NodeId) (octets : List ℕ) (o : Option Refusal) → inject_refusal octets ≡ o → payload_of w.notes.frames (record { packet = w.sent + 1; frame = 1 }) ≡ None
      → ((site : Site) → site_at w node ≡ Some site → HasLabelGrants site.controller) → WorldGoes link like (injects_by (record w { sent = w.sent + 1 }) node octets o) line
  enters_by node octets (Some name) is free grants = goes_self link like (note (record w { sent = w.sent + 1 }) (Refused node (w.sent + 1) name)) line (record { end = s.end; found = s.found; net = s.net })
  enters_by node octets None is free grants =
      let came : Mark = record { packet = w.sent + 1; frame = 0 } in
      let fresh : (a : Acted) → a.notes ≡ w.notes → IsFree a came = λ a e. of_packet (λ z. absurd (omega (arith, z))) (ap (λ (j : Journal). payload_of j.frames (record { packet = w.sent + 1; frame = 1 })) e ∙ free) in
      controller_goes link like (record w { sent = w.sent + 1 }) line node (λ a. injected a (w.sent + 1) octets) apart
      (λ site found. same_routes (acting w site) came octets)
      (λ site found. routes_grow (acting w site) came octets (fresh (acting w site) refl))
      (λ role site found same. routes_lead link proper like role (acting w site) came octets (fresh (acting w site) refl) (grants site found) (plain_by octets (first_fault octets) refl is))
      (record { end = s.end; found = s.found; net = s.net })

  pub enters_goes : (node : NodeId) (octets : List ℕ) → payload_of w.notes.frames (record { packet = w.sent + 1; frame = 1 }) ≡ None
      → ((site : Site) → site_at w node ≡ Some site → HasLabelGrants site.controller) → WorldGoes link like (injects w node octets) line
  enters_goes node octets free grants = enters_by node octets (inject_refusal octets) refl free grants
