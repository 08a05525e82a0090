-- a packet is counted, and a message heard, by a port in touch

use Rattle.std.proofs.Common.{◌≡◌, ℕ, List, [], ◌++◌, append-nil, Option, None, Some, refl, sym, ◌∙◌, ap, subst}
use Rattle.std.specs.Prelude.{◌&&◌}
use Rattle.world_model.specs.Words.{PortNo, Mark, FlowId, packet_flow, at, Desk, Setup, Label, label_for, lowest_spare, counted_once, packets_in, Session, Work, has_room, with_session, wires, counts_flow, counts_by, counts, hears, port_key, forwards_packet, counted_at}
use Rattle.world_model.specs.ifmp_wire.declared.message.Message.{Message}
use Rattle.world_model.specs.Controller.{Acted}
use Rattle.law_rule_walks.proofs.Cells.{routes_kept}
use Rattle.law_port_facts.proofs.Keyed.{on_both}
use Rattle.law_live_nodes.specs.Law.{told_by}
use Rattle.law_live_links.specs.Law.{EndOfLink, working}
use Rattle.law_live_worlds.specs.Law.{end_of}
use Rattle.law_live_others.specs.Law.{IsUp}
use Rattle.law_live_others.proofs.Holding.{SameWork, forwards_same}
use Rattle.law_live_bindings.specs.Law.{TakesInRange}
use Rattle.law_live_bound.proofs.Frames.{same_address, counted_whole}
use Rattle.law_live_touch.proofs.Steps.{hearing_keeps_touch, counting_keeps_touch}
use Rattle.law_live_touching.specs.Law.{TouchesAt, answers_to, PacketsKeepTouch, MessagesKeepTouch}
use Rattle.law_live_touching.proofs.Ports.{work_touches}

-- *A packet that is counted* makes a port say nothing
module _ (setup : Setup) (desk : Desk) (instances : ℕ) (one : EndOfLink) where
  abbrev w : Work
  w = working instances one

  wires_silent : (s : Session) (flow : FlowId) (o : Option ℕ) → told_by (wires setup (with_session w (λ old. s)) flow o).actions ≡ []
  wires_silent s flow None = refl
  wires_silent s flow (Some number) = refl

  flow_silent : (s : Session) (flow : FlowId) (o : Option Label) → told_by (counts_flow setup desk w s flow o).actions ≡ []
  flow_silent s flow (Some label) = refl
  flow_silent s flow None =
      let counting : Session = record s { counted = counted_once s.counted flow } in
      let v : Work = with_session w (λ old. counting) in
      on_both (λ (u : Work). told_by u.actions ≡ []) (setup.policy.offers flow (packets_in counting.counted flow) && has_room desk v)
      (wires setup v flow (lowest_spare setup s.least s.greatest s.labels)) v
      (wires_silent counting flow (lowest_spare setup s.least s.greatest s.labels)) refl

  pub counting_silent : (packet : List ℕ) → told_by (counts setup desk w packet).actions ≡ []
  counting_silent packet = by one.port.session (packet_flow packet)
    where
      by : (o : Option Session) (flow : Option FlowId) → told_by (counts_by setup desk w o flow).actions ≡ []
      by None flow = refl
      by (Some s) None = refl
      by (Some s) (Some flow) = flow_silent s flow (label_for s.labels flow)

module _ (a : Acted) (port : PortNo) (mark : Mark) (packet : List ℕ) (said : List Message) (other : EndOfLink) (touches : TouchesAt a port said other) where
  abbrev sent : Acted
  sent = forwards_packet a mark packet

  same : SameWork a sent
  same = forwards_same a mark packet

  counted_touches : TakesInRange (end_of touches.linked said) other.setup → IsUp (counted_at sent port packet) → TouchesAt (counted_at sent port packet) port said other
  counted_touches range up =
      work_touches sent port (λ setup desk v. counts setup desk v packet) touches.linked (ap (at port_key port.0) same.ports ∙ touches.of_port)
      said said other other touches.touch refl (touches.address ∙ sym (routes_kept (same_address a) a mark packet refl))
      (ap (λ messages. said ++ messages) (counting_silent touches.linked.setup sent.controller.desk sent.numbers.instances (end_of touches.linked said) packet) ∙ append-nil said)
      (counting_keeps_touch sent.controller.desk sent.numbers.instances (end_of touches.linked said) other packet touches.touch range) up

pub packets_keep_touch : PacketsKeepTouch
packets_keep_touch a q mark payload packet said other touches holds range up =
    subst (λ (b : Acted). IsUp b → TouchesAt b q.setup.port said other) (sym (counted_whole a q mark payload packet holds))
    (counted_touches a q.setup.port mark packet said other touches range) up

-- *A message*
pub messages_keep_touch : MessagesKeepTouch
messages_keep_touch a port message said rest other touches first room left up =
    let one : EndOfLink = end_of touches.linked said in
    work_touches a port (λ setup desk v. hears setup desk v other.port.adjacency.own.address message) touches.linked touches.of_port
    said (said ++ answers_to a one other message) other (record other { said = rest }) touches.touch refl touches.address refl
    (hearing_keeps_touch a.controller.desk a.numbers.instances one other message rest touches.touch first room left) up
