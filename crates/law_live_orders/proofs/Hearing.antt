-- a message that comes is heard by the port whose default channel it comes on

use Rattle.std.proofs.Common.{◌≡◌, ℕ, ◌≤◌, ◌==◌, ◌&&◌, Bool, true, false, List, drop, Option, Some, sym, ◌∙◌, ap, subst, arith, if◌then◌else◌}
use Rattle.std.proofs.lemmas.Bool.Decides.{nat_tests}
use Rattle.world_model.specs.Words.{PortNo, Up, Channel, default_payload, ifmp_packet_of, nothing_taken, default_channel, default_home, same_channel, port_on, on_link, Controller, Linked, port_key, linked_at, at, taker_of, ForGsmp, ForDefault, with_reassembly, Site, queue_at, with_queue_in}
use Rattle.world_model.specs.ifmp_wire.Message.{octets_of as ifmp_octets}
use Rattle.world_model.specs.Controller.{Acted}
use Rattle.world_model.specs.Cells.{Taker, taker_at, frame_holds}
use Rattle.law_causes.proofs.Ends.{parts_of_control}
use Rattle.law_live_hearing.specs.Law.{Hears, acting}
use Rattle.law_live_hearing.proofs.Hearing.{controller_hears}
use Rattle.law_live_messages.proofs.Told.{ports_hear}
use Rattle.law_live_orders.specs.Hearing.{PortsHearMessages}
use Rattle.law_live_orders.proofs.Marks.{channel_is}
use Rattle.law_live_orders.proofs.Switches.{first, second}

-- *Who takes the cells* of a default channel
not_zero : (n : ℕ) → 1 ≤ n → (n == 0) ≡ false
not_zero n some = grind (arith, nat_tests, some)

default_taker : (c : Controller) (port : PortNo) (linked : Linked) → 1 ≤ port.0 → linked_at c port ≡ Some linked → taker_of c (default_home port).channel ≡ Some (ForDefault linked)
default_taker c port linked some found =
    let home : Channel = (default_home port).channel in
    let parts : ((port_on home).0 ≡ port.0) × (on_link home ≡ default_channel) = parts_of_control port default_channel (omega arith) in
    ap (λ (b : Bool). if (b && true) then Some ForGsmp else taker_at (linked_at c (port_on home)) (on_link home)) (not_zero home.vpi (omega (arith, some)))
    ∙ (ap (λ (k : ℕ). taker_at (at port_key k c.ports) (on_link home)) parts.0
    ∙ (ap (λ (o : Option Linked). taker_at o (on_link home)) found
    ∙ ap (λ (link : Channel). taker_at (Some linked) link) parts.1))

one_site : (a b : Site) → Some a ≡ Some b → a ≡ b
one_site a b e = cc

one_taker : (a b : Taker) → Some a ≡ Some b → a ≡ b
one_taker a b e = cc

pub ports_hear_messages : PortsHearMessages
ports_hear_messages topology w far site linked cell cells address message port found of_port queue last said low range fits counts unlost =
    let home : Channel = (default_home far.port).channel in
    let payload : List ℕ = default_payload (ifmp_packet_of address (ifmp_octets message)) in
    let h : Hears topology w far.node cell.header.channel cell.mark payload =
    controller_hears topology w far.node site found cell cells queue (first cell.header.last (same_channel cell.header.channel home) last) payload said counts unlost in
    let on : cell.header.channel ≡ home = channel_is cell.header.channel home (second cell.header.last (same_channel cell.header.channel home) last) in
    let there : linked_at h.site.controller far.port ≡ Some linked =
    subst (λ (s : Site). linked_at s.controller far.port ≡ Some linked) (one_site site h.site (sym found ∙ h.found)) of_port in
    let taker : h.taker ≡ ForDefault linked =
    one_taker h.taker (ForDefault linked) (sym h.takes ∙ (ap (taker_of h.site.controller) on ∙ default_taker h.site.controller far.port linked port.0 there)) in
    let before : Acted = with_reassembly (acting w h.site) (ForDefault linked) nothing_taken in
    record {
      site = h.site;
      there = h.found;
      linked = linked;
      of_port = there;
      acts = h.acts
          ∙ (ap (λ (t : Taker). Some (record (with_queue_in h.site (Up far.node) (drop 1 (queue_at w (Up far.node)))) {
            controller = (frame_holds (with_reassembly (acting w h.site) t nothing_taken) t cell.mark payload).controller;
          })) taker
          ∙ ap (λ (a : Acted). Some (record (with_queue_in h.site (Up far.node) (drop 1 (queue_at w (Up far.node)))) { controller = a.controller }))
          (ports_hear before linked cell.mark address message low range fits));
    }
