-- a message that one of two ends in agreement hears of the other is answered by nothing

use Rattle.std.proofs.Common.{◌≡◌, ℕ, ◌≤◌, ◌<◌, ◌^◌, ◌==◌, ◌&&◌, Bool, true, false, List, ◌∷◌, Option, Some, refl, sym, ◌∙◌, ap, subst, arith, if◌then◌else◌}
use Rattle.std.proofs.lemmas.Bool.Decides.{nat_tests}
use Rattle.world_model.specs.Words.{PortNo, Up, Channel, Cell, InRange, FitsMessage, has_entry, default_payload, ifmp_packet_of, nothing_taken, default_channel, default_home, same_channel, port_on, on_link, Controller, Linked, port_key, linked_at, at, taker_of, ForGsmp, ForDefault, with_reassembly, Topology, World, Site, site_at, queue_at, next, CountsAsItsFrame}
use Rattle.world_model.specs.ifmp_wire.declared.message.Message.{Message}
use Rattle.world_model.specs.ifmp_wire.Message.{octets_of as ifmp_octets}
use Rattle.world_model.specs.Controller.{Acted}
use Rattle.world_model.specs.Cells.{Taker, taker_at}
use Rattle.world_model.specs.network_model.declared.link.LinkEnd.{LinkEnd}
use Rattle.world_model.specs.network_model.declared.event.Event.TheVariants.{Carry}
use Rattle.world_model.proofs.Lists.{at_key, at_put_same}
use Rattle.law_causes.proofs.Ends.{parts_of_control}
use Rattle.law_live_links.specs.Law.{HearsOn}
use Rattle.law_live_links.proofs.Resting.{swapped}
use Rattle.law_live_links.proofs.Hearing.{hearing_keeps_agreement}
use Rattle.law_live_worlds.specs.Law.{end_of, AgreeIn}
use Rattle.law_live_hearing.specs.Law.{Hears, acting}
use Rattle.law_live_hearing.proofs.Hearing.{controller_hears}
use Rattle.law_live_orders.specs.Messages.{Says}
use Rattle.law_live_orders.proofs.Marks.{channel_is}
use Rattle.law_live_unsaid.specs.Law.{IsUnanswered}
use Rattle.law_live_unsaid.specs.Carries.{EndsFrame}
use Rattle.law_live_unsaid.proofs.Unanswered.{peace_is_unanswered}

-- *Who takes the cells* of a default channel
not_zero : (n : ℕ) → 1 ≤ n → (n == 0) ≡ false
not_zero n some = grind (arith, nat_tests, some)

default_taker : (c : Controller) (port : PortNo) (linked : Linked) → 1 ≤ port.0 → linked_at c port ≡ Some linked → taker_of c (default_home port).channel ≡ Some (ForDefault linked)
default_taker c port linked some found =
    let home : Channel = (default_home port).channel in
    let parts : ((port_on home).0 ≡ port.0) × (on_link home ≡ default_channel) = parts_of_control port default_channel (omega arith) in
    ap (λ (b : Bool). if (b && true) then Some ForGsmp else taker_at (linked_at c (port_on home)) (on_link home)) (not_zero home.vpi (omega (arith, some)))
    ∙ (ap (λ (k : ℕ). taker_at (at port_key k c.ports) (on_link home)) parts.0
    ∙ (ap (λ (o : Option Linked). taker_at o (on_link home)) found
    ∙ ap (λ (link : Channel). taker_at (Some linked) link) parts.1))

one_site : (a b : Site) → Some a ≡ Some b → a ≡ b
one_site a b e = cc

one_taker : (a b : Taker) → Some a ≡ Some b → a ≡ b
one_taker a b e = cc

one_payload : (x y : List ℕ) → Some x ≡ Some y → x ≡ y
one_payload x y e = cc

module _ (topology : Topology) (w : World) (one far : LinkEnd) (message : Message) (said far_said : List Message) (agree : AgreeIn w one far (message ∷ said) far_said)
    (some : 1 ≤ far.port.0) (low : agree.shows.site.controller.address.0 < 2 ^ 32) (range : InRange message) (fits : FitsMessage message)
    (cell : Cell) (cells : List Cell) (queue : queue_at w (Up far.node) ≡ cell ∷ cells) (last : cell.header.last ≡ true)
    (on : same_channel cell.header.channel (default_home far.port).channel ≡ true)
    (says : Says agree.shows.site.controller.address w.notes.frames cell.mark message) (counts : CountsAsItsFrame w (Carry (Up far.node)))
    (unlost : has_entry (next topology w (Carry (Up far.node))).notes.entries cell.mark ≡ false) where
  abbrev payload : List ℕ
  payload = default_payload (ifmp_packet_of agree.shows.site.controller.address (ifmp_octets message))

  abbrev site : Site
  site = agree.far_shows.site

  abbrev q : Linked
  q = agree.far_linked

  abbrev a : Acted
  a = with_reassembly (acting w site) (ForDefault q) nothing_taken

  abbrev q_now : Linked
  q_now = record q { reassembly = nothing_taken }

  own_key : port_key q ≡ far.port.0
  own_key = at_key port_key far.port.0 site.controller.ports q agree.far_shows.of_port

  found_now : linked_at a.controller q.setup.port ≡ Some q_now
  found_now = at_put_same port_key q_now site.controller.ports q (ap (λ k. at port_key k site.controller.ports) own_key ∙ agree.far_shows.of_port)

  hears_on : HearsOn a.controller.desk a.numbers.instances (end_of q far_said) (end_of agree.linked (message ∷ said)) message said
  hears_on = hearing_keeps_agreement a.controller.desk a.numbers.instances (end_of q far_said) (end_of agree.linked (message ∷ said)) message said (swapped agree.agreed) refl

  quiet : IsUnanswered q.setup.port a (ForDefault q) payload
  quiet = peace_is_unanswered a q q_now (end_of q far_said) (end_of agree.linked (message ∷ said)) agree.shows.site.controller.address message said
      (record { there = found_now; setup = refl; port = refl }) agree.shows.address low range fits hears_on

  quiet_there : IsUnanswered far.port a (ForDefault q) payload
  quiet_there = λ same. quiet refl

  pub unanswered_message : (there : Site) (taker : Taker) (read : List ℕ) → site_at w far.node ≡ Some there → EndsFrame w far.node there cell taker read
      → IsUnanswered far.port (with_reassembly (acting w there) taker nothing_taken) taker read
  unanswered_message there taker read found ends =
      let h : Hears topology w far.node cell.header.channel cell.mark payload = controller_hears topology w far.node there found cell cells queue last payload says counts unlost in
      let same : site ≡ there = one_site site there (sym agree.far_shows.there ∙ found) in
      let takes : taker_of site.controller cell.header.channel ≡ Some (ForDefault q) =
      ap (taker_of site.controller) (channel_is cell.header.channel (default_home far.port).channel on) ∙ default_taker site.controller far.port q some agree.far_shows.of_port in
      let is_taker : ForDefault q ≡ taker = one_taker (ForDefault q) taker (sym takes ∙ (ap (λ (s : Site). taker_of s.controller cell.header.channel) same ∙ ends.takes)) in
      subst (λ (s : Site). IsUnanswered far.port (with_reassembly (acting w s) taker nothing_taken) taker read) same
      (subst (λ (t : Taker). IsUnanswered far.port (with_reassembly (acting w site) t nothing_taken) t read) is_taker
      (subst (λ (x : List ℕ). IsUnanswered far.port a (ForDefault q) x) (one_payload payload read (sym h.whole ∙ ends.whole)) quiet_there))
