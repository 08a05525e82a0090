-- a packet is counted, and a message heard, by a port that binds

use Rattle.std.proofs.Common.{◌≡◌, ℕ, Bool, List, ◌++◌, append-nil, drop, refl, sym, ◌∙◌, ap, subst, if◌then◌else◌}
use Rattle.world_model.specs.Words.{PortNo, Mark, next_control, with_control, at, Work, counts, hears, Linked, port_key, begins, forwards_packet, ForDefault, counted_at, ifmp_holds, packet_holds, default_holds, frame_holds}
use Rattle.world_model.specs.ifmp_wire.Fields.{decoded as ifmp_decoded}
use Rattle.world_model.specs.ifmp_wire.declared.message.Message.{Message}
use Rattle.world_model.specs.Controller.{Acted}
use Rattle.law_rule_walks.proofs.Cells.{Forwards, routes_kept}
use Rattle.law_live_links.specs.Law.{EndOfLink}
use Rattle.law_live_ports.proofs.Joining.{SameRest, sent_rest}
use Rattle.law_live_worlds.specs.Law.{end_of}
use Rattle.law_live_others.specs.Law.{IsUp}
use Rattle.law_live_others.proofs.Holding.{SameWork, forwards_same}
use Rattle.law_live_bindings.specs.Law.{label_branch, grant_branch, AskAtMost, BindOn, TakesInRange}
use Rattle.law_live_bindings.proofs.Counting.{counting_keeps_binding}
use Rattle.law_live_bindings.proofs.Hearing.{hearing_keeps_binding}
use Rattle.law_live_bound.specs.Law.{BindsAt, HoldsPacket, PacketsKeepBinding, MessagesKeepBinding}
use Rattle.law_live_bound.proofs.Ports.{asks_act, asks_say_none, rule_binds}

-- *A packet that is sent on* leaves the node its address
pub same_address : (a : Acted) → Forwards (λ (b : Acted). b.controller.address ≡ a.controller.address)
same_address a = record {
  sending = λ b channel mark payload h. (let rest : SameRest b.controller _ = sent_rest b channel mark payload in rest.address ∙ h);
  sending_control = λ b channel payload h. (let rest : SameRest b.controller _ = sent_rest (record b { numbers = with_control b.numbers }) channel (next_control b.numbers) payload in rest.address ∙ h);
  ending = λ b item is h. h;
}

-- *A packet* in a frame of the default channel is sent on, and then counted
pub counted_whole : (a : Acted) (q : Linked) (mark : Mark) (payload packet : List ℕ) → HoldsPacket payload packet
    → frame_holds a (ForDefault q) mark payload ≡ counted_at (forwards_packet a mark packet) q.setup.port packet
counted_whole a q mark payload packet holds =
    ap (default_holds a q.setup.port mark) holds.is
    ∙ (ap (packet_holds a q.setup.port mark packet) holds.whole
    ∙ ap (λ (b : Bool). if b then ifmp_holds a q.setup.port packet (ifmp_decoded (drop 20 packet)) else counted_at (forwards_packet a mark packet) q.setup.port packet) holds.no_message)

module _ (a : Acted) (port : PortNo) (mark : Mark) (packet : List ℕ) (said : List Message) (other : EndOfLink) (bind : BindsAt a port said other) where
  abbrev sent : Acted
  sent = forwards_packet a mark packet

  same : SameWork a sent
  same = forwards_same a mark packet

  abbrev one : EndOfLink
  one = end_of bind.linked said

  abbrev w : Work
  w = counts bind.linked.setup sent.controller.desk (begins sent bind.linked) packet

  counted_binds : TakesInRange one other.setup → IsUp (counted_at sent port packet) → BindsAt (counted_at sent port packet) port said other
  counted_binds range up =
      let on : BindOn one other w (AskAtMost (label_branch bind.linked.setup)) = counting_keeps_binding sent.controller.desk sent.numbers.instances one other packet bind.binding range in
      rule_binds sent port (λ setup desk v. counts setup desk v packet) bind.linked (ap (at port_key port.0) same.ports ∙ bind.of_port)
      said said other other bind.binding refl (bind.address ∙ sym (routes_kept (same_address a) a mark packet refl))
      (asks_act (label_branch bind.linked.setup) w.actions on.acts)
      (ap (λ messages. said ++ messages) (asks_say_none (label_branch bind.linked.setup) w.actions on.acts) ∙ append-nil said) on.binding up

pub packets_keep_binding : PacketsKeepBinding
packets_keep_binding a q mark payload packet said other bind holds range up =
    subst (λ (b : Acted). IsUp b → BindsAt b q.setup.port said other) (sym (counted_whole a q mark payload packet holds))
    (counted_binds a q.setup.port mark packet said other bind range) up

-- *A message*
pub messages_keep_binding : MessagesKeepBinding
messages_keep_binding a port message said rest other bind first room up =
    let one : EndOfLink = end_of bind.linked said in
    let w : Work = hears bind.linked.setup a.controller.desk (begins a bind.linked) other.port.adjacency.own.address message in
    let on : BindOn one (record other { said = rest }) w (AskAtMost (grant_branch bind.linked.setup)) =
    hearing_keeps_binding a.controller.desk a.numbers.instances one other message rest bind.binding first room in
    rule_binds a port (λ setup desk v. hears setup desk v other.port.adjacency.own.address message) bind.linked bind.of_port
    said said other (record other { said = rest }) bind.binding refl bind.address
    (asks_act (grant_branch bind.linked.setup) w.actions on.acts)
    (ap (λ messages. said ++ messages) (asks_say_none (grant_branch bind.linked.setup) w.actions on.acts) ∙ append-nil said) on.binding up
