-- a packet that is brought to a controller under a label is sent on, where nothing is entered by that, or delivered

use Rattle.std.proofs.Common.{◌≡◌, ℕ, ◌≤◌, ◌<◌, ◌==◌, ◌&&◌, ◌/◌, ◌%◌, Bool, true, false, List, Option, None, Some, Result, Ok, refl, sym, ◌∙◌, ap, subst, arith, if◌then◌else◌}
use Rattle.std.specs.Option.{option_and_then}
use Rattle.std.proofs.lemmas.Bool.Decides.{nat_tests}
use Rattle.world_model.specs.Words.{PortNo, Up, Channel, Mark, FlowId, EncapsFault, unwrapped, has_entry, payload_of, at, nothing_taken, control_end, label_channel_of, label_number_of, is_label_number, same_channel, port_on, on_link, Label, is_bound, label_at, label_taker, Controller, Linked, port_key, linked_at, chains_with, taker_of, ForGsmp, ForDefault, ForLabel, with_reassembly, forwards_packet, used, at_port, label_holds, frame_holds, Topology, World, next}
use Rattle.world_model.specs.Controller.{Acted}
use Rattle.world_model.specs.Cells.{Taker, taker_at, cell_comes}
use Rattle.world_model.specs.network_model.declared.link.LinkEnd.{LinkEnd}
use Rattle.world_model.specs.network_model.declared.event.Event.TheVariants.{Carry}
use Rattle.world_model.proofs.Lists.{at_key}
use Rattle.world_model.proofs.net_types.Labels.{label_number_of-label_channel_of}
use Rattle.law_live_ease.proofs.law_causes.Ends.{parts_of_control}
use Rattle.law_live_ease.proofs.law_packet_worlds.Hops.{opens}
use Rattle.law_live_ease.specs.law_live_hearing.Law.{acting}
use Rattle.law_live_ease.proofs.law_live_orders.Marks.{channel_is}
use Rattle.law_live_ease.proofs.law_live_orders.Switches.{first, second}
use Rattle.law_live_ease.proofs.law_live_journeys.Acting.{acts}
use Rattle.law_live_cut_through.specs.Under.{IsBroughtUnder, LabelledAreDelivered, LabelledForward, LabelledGoUnder}
use Rattle.law_live_cut_through.proofs.UnderGrowing.{Follows, follows_used}
use Rattle.law_live_cut_through.proofs.UnderCarrying.{routed, granted, delivered}

-- *Who takes the cells* of a label's channel
fields : (number : ℕ) → is_label_number number ≡ true → (number / 1024 < 16) × (32 ≤ number % 1024)
fields number e = (grind (arith, nat_tests), grind (arith, nat_tests))

not_default : (vpi vci : ℕ) → 32 ≤ vci → (vpi == 0 && vci == 15) ≡ false
not_default vpi vci low =
    let other : (vci == 15) ≡ false = grind (arith, nat_tests, low) in
    ap (λ (b : Bool). vpi == 0 && b) other ∙ never (vpi == 0)
  where
    never : (b : Bool) → (b && false) ≡ false
    never true = refl
    never false = refl

label_takes : (c : Controller) (port : PortNo) (number : ℕ) (linked : Linked) (label : Label) → 1 ≤ port.0 → is_label_number number ≡ true → linked_at c port ≡ Some linked
    → label_at linked.port number ≡ Some label → is_bound label.state ≡ true → taker_of c (control_end port number).channel ≡ Some (ForLabel linked label)
label_takes c port number linked label some numbered found is bound =
    let home : Channel = (control_end port number).channel in
    let link : Channel = label_channel_of number in
    let low : (number / 1024 < 16) × (32 ≤ number % 1024) = fields number numbered in
    let parts : ((port_on home).0 ≡ port.0) × (on_link home ≡ link) = parts_of_control port link low.0 in
    ap (λ (b : Bool). if b then Some ForGsmp else taker_at (linked_at c (port_on home)) (on_link home)) (not_default home.vpi home.vci low.1)
    ∙ (ap (λ (k : ℕ). taker_at (at port_key k c.ports) (on_link home)) parts.0
    ∙ (ap (λ (p : Option Linked). taker_at p (on_link home)) found
    ∙ (ap (λ (x : Channel). taker_at (Some linked) x) parts.1
    ∙ (ap (λ (b : Bool). if b then Some (ForDefault linked) else label_taker linked (option_and_then (label_at linked.port) (label_number_of link))) (not_default link.vpi link.vci low.1)
    ∙ (ap (λ (o : Option ℕ). label_taker linked (option_and_then (label_at linked.port) o)) (label_number_of-label_channel_of number numbered)
    ∙ (ap (label_taker linked) is
    ∙ ap (λ (b : Bool). if b then Some (ForLabel linked label) else None) bound))))))

module _ (topology : Topology) (w : World) (far : LinkEnd) (number : ℕ) (mark : Mark) (flow : FlowId) (packet : List ℕ) (b : IsBroughtUnder topology w far number mark flow packet) where
  abbrev home : Channel
  home = (control_end far.port number).channel

  abbrev c : Controller
  c = b.site.controller

  abbrev t : Taker
  t = ForLabel b.linked b.label

  on : b.cell.header.channel ≡ home
  on = channel_is b.cell.header.channel home (second b.cell.header.last (same_channel b.cell.header.channel home) b.last)

  is_last : b.cell.header.last ≡ true
  is_last = first b.cell.header.last (same_channel b.cell.header.channel home) b.last

  made_so : payload_of w.notes.frames b.cell.mark ≡ Some b.payload
  made_so = ap (payload_of w.notes.frames) b.own ∙ b.made

  unlost : has_entry (next topology w (Carry (Up far.node))).notes.entries b.cell.mark ≡ false
  unlost = ap (has_entry (next topology w (Carry (Up far.node))).notes.entries) b.own ∙ b.unlost

  -- the port without the chain
  abbrev pub emptied : Linked
  emptied = record b.linked { chains = chains_with b.linked.chains b.label.number nothing_taken }

  abbrev heard : Acted
  heard = with_reassembly (acting w b.site) t nothing_taken

  abbrev pub behind : Acted
  behind = at_port (forwards_packet heard mark packet) b.linked.setup.port (λ setup desk w. used w b.label.number)

  is_packet : unwrapped b.label.flow b.payload ≡ Ok packet
  is_packet = ap (λ (f : FlowId). unwrapped f b.payload) b.of_flow ∙ opens flow packet b.payload b.carries

  pub acted : cell_comes (acting w b.site) b.cell ≡ behind
  acted = acts topology w far.node b.site b.there b.cell b.cells b.queue is_last b.payload made_so b.counts unlost t
      (ap (taker_of c) on ∙ label_takes c far.port number b.linked b.label b.link.0 b.numbered b.of_port b.held b.bound)
      ∙ (ap (λ (m : Mark). frame_holds heard t m b.payload) b.own ∙ ap (λ (r : Result (List ℕ) EncapsFault). label_holds heard b.linked b.label mark r) is_packet)

  pub found_by_key : at port_key (port_key emptied) c.ports ≡ Some b.linked
  found_by_key = subst (λ (n : ℕ). at port_key n c.ports ≡ Some b.linked) (sym (at_key port_key far.port.0 c.ports b.linked b.of_port)) b.of_port

  pub follows : Follows (forwards_packet heard mark packet) behind
  follows = follows_used (forwards_packet heard mark packet) b.linked.setup.port b.label.number

pub labelled_are_delivered : LabelledAreDelivered
labelled_are_delivered topology w far number mark flow packet b here =
    delivered topology w far.node b.site b.there b.cell b.cells b.queue (emptied topology w far number mark flow packet b) b.linked (found_by_key topology w far number mark flow packet b) refl
    mark packet (behind topology w far number mark flow packet b) (acted topology w far number mark flow packet b) (follows topology w far number mark flow packet b) here

pub labelled_forward : LabelledForward
labelled_forward topology w far number port mark flow packet b some route none =
    let g = routed topology w far.node b.site b.there b.cell b.cells b.queue (emptied topology w far number mark flow packet b) b.linked (found_by_key topology w far number mark flow packet b) refl
    mark packet (behind topology w far number mark flow packet b) (acted topology w far number mark flow packet b) (follows topology w far number mark flow packet b) some none port route in
    record { put = g.put; made = g.made }

pub labelled_go_under : LabelledGoUnder
labelled_go_under topology w far number port mark flow packet grant b some is none =
    let g = granted topology w far.node b.site b.there b.cell b.cells b.queue (emptied topology w far number mark flow packet b) b.linked (found_by_key topology w far number mark flow packet b) refl
    mark packet (behind topology w far number mark flow packet b) (acted topology w far number mark flow packet b) (follows topology w far number mark flow packet b) some none port grant is in
    record { put = g.put; made = g.made }
