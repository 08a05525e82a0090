-- each rule of a port says what is in range and fits, and its numbers aren't spent behind it, or its reset is asked

use Rattle.std.proofs.Common.{◌≡◌, ℕ, ◌<◌, Bool, true, false, List, Option, None, Some, refl, sym, ◌∙◌, ap, subst, arith, if◌then◌else◌}
use Rattle.std.specs.Prelude.{◌^◌, ◌==◌, ◌&&◌, not}
use Rattle.std.specs.Option.{option_or}
use Rattle.law_branch_shapes.specs.world_model.Words.{PortNo, Addr, End, tos_of, ttl_of, protocol_of, source_of, destination_of, FlowId, FlowKind, shows_ports, flow_of, FitsFields, InRange, FitsMessage, Request, at, Desk, Ask, Setup, Label, Offered, label_for, lowest_spare, counted_once, packets_in, Grant, ByController, grant_label, Session, Work, halts, with_session, with_new_label, label_at, has_room, is_spent, halts_if_spent, hears, packet_flow, wires, counts_in, used_label, counts_flow, counts_by, counts, used, joins_label, parted, lent, given_back, Linked, linked_at, begins, at_port}
use Rattle.law_frame_readings.specs.octet_fields.Fields.{u16_at}
use Rattle.law_frame_readings.proofs.octet_fields.FieldLemmas.{AreOctets, u16_at-fits, u32_at-fits}
use Rattle.law_branch_shapes.specs.world_model.ipv4_packet.declared.flow.FlowId.TheVariants as flows
use Rattle.law_branch_shapes.specs.world_model.ipv4_packet.declared.flow.FlowKind.TheVariants.{One, Two}
use Rattle.law_branch_shapes.specs.world_model.ifmp_wire.declared.message.Message.{Message}
use Rattle.law_frame_readings.specs.ordered_lists.Ordered.{Every}
use Rattle.law_branch_shapes.specs.world_model.port_model.Answers.{done}
use Rattle.law_branch_shapes.specs.world_model.port_model.Joins.{joined}
use Rattle.law_branch_shapes.specs.world_model.port_model.Ticks.{ticks}
use Rattle.law_frame_readings.specs.law_port_facts.Port.{IsLabelEnd, IsSayable}
use Rattle.law_frame_readings.proofs.law_port_facts.Keyed.{on_both}
use Rattle.law_frame_readings.proofs.law_port_facts.Rules.{counts_goes, used_goes, done_goes}
use Rattle.law_frame_readings.proofs.law_port_facts.Hearings.{hears_goes, ticks_goes}
use Rattle.law_frame_readings.proofs.law_port_views.Recalling.{room_acts}
use Rattle.law_frame_readings.proofs.law_port_views.Refreshing.{room_ticks}
use Rattle.law_frame_readings.proofs.law_port_widths.Keeping.{closes_fit, found_grant}
use Rattle.law_frame_readings.proofs.law_port_widths.Rules.{hears_fit, counts_fit, used_fit, done_fit, ticks_fit, joined_fit, parted_fit, lent_fit, given_back_fit}
use Rattle.law_frame_readings.specs.law_label_steps.Follows.{IsUnspent}
use Rattle.law_frame_readings.proofs.law_label_steps.Follow.{unspent_session, unspent_label}
use Rattle.law_frame_readings.proofs.law_label_steps.Unspent.{hears_unspent, used_unspent, done_unspent}
use Rattle.law_branch_shapes.specs.world_model.Controller.{Acted}
use Rattle.law_frame_readings.proofs.law_controller_facts.Flows.{says_in_range}
use Rattle.law_frame_readings.proofs.law_controller_facts.Moves.{by_rule, by_closing, by_parting, by_joining, by_lending, by_giving_back, HasPorts, found_port}
use Rattle.law_frame_readings.proofs.law_controller_lifts.Lifts.{heard_any}
use Rattle.law_frame_readings.proofs.law_controller_lifts.Halted.{HasReset, goes_asked}
use Rattle.law_frame_readings.specs.law_world_views.Made.{IsFit}
use Rattle.law_running_worlds.proofs.Walk.{Loose, To, fits_at, begins_fit, begins_work}
use Rattle.law_running_worlds.proofs.Performed.{IsFree, at_port_loose, at_port_to}

-- *A packet's flow* has its fields' widths
guarded : (b : Bool) (flow found : FlowId) → FitsFields flow → ◌≡◌ {A = Option FlowId} (if b then Some flow else None) (Some found) → FitsFields found
guarded true flow found fits e = (let same : flow ≡ found = cc in subst FitsFields same fits)
guarded false flow found fits e = absurd (cc e)

pub flow_fits : (kind : FlowKind) (packet : List ℕ) → AreOctets packet → (flow : FlowId) → flow_of kind packet ≡ Some flow → FitsFields flow
flow_fits One packet small flow e = guarded (not (ttl_of packet == 0) && shows_ports packet)
    (flows.One (tos_of packet) (ttl_of packet) (protocol_of packet) (source_of packet) (destination_of packet) (u16_at packet 20) (u16_at packet 22)) flow
    (omega (arith, small 1), omega (arith, small 8), omega (arith, small 9), u32_at-fits packet 12 small, u32_at-fits packet 16 small, u16_at-fits packet 20 small, u16_at-fits packet 22 small) e
flow_fits Two packet small flow e = guarded (not (ttl_of packet == 0)) (flows.Two (ttl_of packet) (source_of packet) (destination_of packet)) flow
    (omega (arith, small 8), u32_at-fits packet 12 small, u32_at-fits packet 16 small) e

pub packet_fits : (packet : List ℕ) → IsFit packet → (flow : FlowId) → packet_flow packet ≡ Some flow → FitsFields flow
packet_fits packet fit flow e = by (flow_of One packet) refl e
  where
    by : (o : Option FlowId) → flow_of One packet ≡ o → option_or o (flow_of Two packet) ≡ Some flow → FitsFields flow
    by None is e = flow_fits Two packet (λ i. fit.octets i) flow e
    by (Some found) is e = flow_fits One packet (λ i. fit.octets i) flow (is ∙ e)

-- *Counting* spends no number
wires_unspent : (setup : Setup) (w : Work) (flow : FlowId) (o : Option ℕ) → IsUnspent w → IsUnspent (wires setup w flow o)
wires_unspent setup w flow None n = n
wires_unspent setup w flow (Some number) n = room_acts (with_new_label w _) (Ask _ false) (unspent_session w _ (λ z e. refl) n)

counts_in_unspent : (setup : Setup) (desk : Desk) (w : Work) (flow : FlowId) (s held : Session) → w.port.session ≡ Some held → s.number ≡ held.number → IsUnspent w → IsUnspent (counts_in setup desk w flow s)
counts_in_unspent setup desk w flow s held opened same n =
    let v : Work = with_session w (λ old. s) in
    let kept : IsUnspent v = unspent_session w (λ old. s) (λ z e. same ∙ ap (λ (x : Session). x.number) (one held z (sym opened ∙ e))) n in
    on_both IsUnspent (setup.policy.offers flow (packets_in s.counted flow) && has_room desk v) (wires setup v flow (lowest_spare setup s.least s.greatest s.labels)) v
    (wires_unspent setup v flow (lowest_spare setup s.least s.greatest s.labels) kept) kept
  where
    one : (x y : Session) → ◌≡◌ {A = Option Session} (Some x) (Some y) → x ≡ y
    one x y e = cc

counts_flow_unspent : (setup : Setup) (desk : Desk) (w : Work) (s : Session) (flow : FlowId) (o : Option Label) → w.port.session ≡ Some s → IsUnspent w → IsUnspent (counts_flow setup desk w s flow o)
counts_flow_unspent setup desk w s flow (Some label) opened n = unspent_label w (record label { idle = 0 }) n
counts_flow_unspent setup desk w s flow None opened n = counts_in_unspent setup desk w flow (record s { counted = counted_once s.counted flow }) s opened refl n

counts_unspent : (setup : Setup) (desk : Desk) (w : Work) (packet : List ℕ) → IsUnspent w → IsUnspent (counts setup desk w packet)
counts_unspent setup desk w packet n = by w.port.session refl (packet_flow packet)
  where
    by : (o : Option Session) → w.port.session ≡ o → (flow : Option FlowId) → IsUnspent (counts_by setup desk w o flow)
    by None is flow = n
    by (Some s) is None = n
    by (Some s) is (Some flow) = counts_flow_unspent setup desk w s flow (label_for s.labels flow) is n

module _ (setups : List Setup) where
  begun_asked : (a : Acted) (linked : Linked) → HasReset (begins a linked)
  begun_asked a linked = record { asked = λ e. absurd (cc e) }

  -- *Messages*, ticks, and what the switch has done
  pub hears_to : (a : Acted) (q : PortNo) (source : Addr) (message : Message) → HasPorts setups a → source.0 < 2 ^ 32 → InRange message → FitsMessage message
      → To setups a (at_port a q (λ setup desk w. hears setup desk w source message))
  hears_to a q source message h small range fits = at_port_to setups a q (λ setup desk w. hears setup desk w source message) h
      (λ linked found. record {
        worked = by_rule (hears linked.setup a.controller.desk (begins a linked) source message) (hears_goes linked.setup a.controller.desk (begins a linked) source message refl (heard_any message range));
        says = λ base c. record {
          fits = hears_fit linked.setup a.controller.desk (fits_at setups a q linked c found).0 (begins a linked) source message small fits (begins_fit setups a q linked c found);
          says = says_in_range.hears setups linked.setup a.controller.desk (begins a linked) source message (begins_work setups a q linked base found) range;
        };
      })
      (λ linked found free. record {
        unspent = hears_unspent linked.setup a.controller.desk (begins a linked) source message (λ live. free);
        asked = goes_asked linked.setup a.controller.desk (begins a linked) (hears linked.setup a.controller.desk (begins a linked) source message)
            (hears_goes linked.setup a.controller.desk (begins a linked) source message refl (heard_any message range)) (begun_asked a linked);
      })

  pub ticks_to : (a : Acted) (q : PortNo) → HasPorts setups a → To setups a (at_port a q ticks)
  ticks_to a q h = at_port_to setups a q ticks h
      (λ linked found. record {
        worked = by_rule (ticks linked.setup a.controller.desk (begins a linked)) (ticks_goes linked.setup a.controller.desk (begins a linked) refl);
        says = λ base c. record {
          fits = ticks_fit linked.setup a.controller.desk (fits_at setups a q linked c found).0 (begins a linked) (begins_fit setups a q linked c found);
          says = says_in_range.ticks setups linked.setup a.controller.desk (begins a linked) (begins_work setups a q linked base found);
        };
      })
      (λ linked found free. record {
        unspent = room_ticks linked.setup a.controller.desk (begins a linked) (λ live. free);
        asked = goes_asked linked.setup a.controller.desk (begins a linked) (ticks linked.setup a.controller.desk (begins a linked)) (ticks_goes linked.setup a.controller.desk (begins a linked) refl) (begun_asked a linked);
      })

  pub done_to : (a : Acted) (q : PortNo) (request : Request) → HasPorts setups a → To setups a (at_port a q (λ setup desk w. done setup w request))
  done_to a q request h = at_port_to setups a q (λ setup desk w. done setup w request) h
      (λ linked found. record {
        worked = by_rule (done linked.setup (begins a linked) request) (done_goes linked.setup a.controller.desk (begins a linked) request (λ t. tt));
        says = λ base c. record {
          fits = done_fit linked.setup (fits_at setups a q linked c found).0 (begins a linked) request (begins_fit setups a q linked c found);
          says = says_in_range.done setups linked.setup (begins a linked) request (begins_work setups a q linked base found);
        };
      })
      (λ linked found free. record {
        unspent = done_unspent linked.setup (begins a linked) request (λ live. free);
        asked = goes_asked linked.setup a.controller.desk (begins a linked) (done linked.setup (begins a linked) request) (done_goes linked.setup a.controller.desk (begins a linked) request (λ t. tt)) (begun_asked a linked);
      })

  -- *Packets*: one is counted, and one came under a label
  pub counts_to : (a : Acted) (q : PortNo) (packet : List ℕ) → HasPorts setups a → IsFit packet → To setups a (at_port a q (λ setup desk w. counts setup desk w packet))
  counts_to a q packet h fit = at_port_to setups a q (λ setup desk w. counts setup desk w packet) h
      (λ linked found. record {
        worked = by_rule (counts linked.setup a.controller.desk (begins a linked) packet) (counts_goes linked.setup a.controller.desk (begins a linked) packet (found_port setups a linked q h found).ascend);
        says = λ base c. record {
          fits = counts_fit linked.setup a.controller.desk (fits_at setups a q linked c found).0 (begins a linked) packet (packet_fits packet fit) (begins_fit setups a q linked c found);
          says = says_in_range.counts setups linked.setup a.controller.desk (begins a linked) packet (begins_work setups a q linked base found);
        };
      })
      (λ linked found free. record {
        unspent = counts_unspent linked.setup a.controller.desk (begins a linked) packet (λ live. free);
        asked = goes_asked linked.setup a.controller.desk (begins a linked) (counts linked.setup a.controller.desk (begins a linked) packet)
            (counts_goes linked.setup a.controller.desk (begins a linked) packet (found_port setups a linked q h found).ascend) (begun_asked a linked);
      })

  used_says : (a : Acted) (linked : Linked) (o : Option Label) → Every IsSayable (used_label (begins a linked) o).actions
  used_says a linked None = tt
  used_says a linked (Some label) = tt

  pub used_to : (a : Acted) (q : PortNo) (number : ℕ) → HasPorts setups a → To setups a (at_port a q (λ setup desk w. used w number))
  used_to a q number h = at_port_to setups a q (λ setup desk w. used w number) h
      (λ linked found. record {
        worked = by_rule (used (begins a linked) number) (used_goes linked.setup a.controller.desk (begins a linked) number);
        says = λ base c. record { fits = used_fit (begins a linked) number (begins_fit setups a q linked c found); says = used_says a linked (label_at linked.port number) };
      })
      (λ linked found free. record {
        unspent = used_unspent (begins a linked) number (λ live. free);
        asked = goes_asked linked.setup a.controller.desk (begins a linked) (used (begins a linked) number) (used_goes linked.setup a.controller.desk (begins a linked) number) (begun_asked a linked);
      })

  -- *Joins*
  join_says : (a : Acted) (linked : Linked) (join : Option End) (o : Option Label) → Every IsSayable (joins_label (begins a linked) join o).actions
  join_says a linked join None = tt
  join_says a linked join (Some label) = tt

  join_free : (a : Acted) (linked : Linked) (join : Option End) (o : Option Label) → is_spent linked.port.session ≡ false → IsFree setups (joins_label (begins a linked) join o)
  join_free a linked join None free = record { unspent = λ live. free; asked = begun_asked a linked }
  join_free a linked join (Some label) free = record { unspent = unspent_label (begins a linked) (record label { join = join }) (λ live. free); asked = record { asked = λ e. absurd (cc e) } }

  pub joined_to : (a : Acted) (q : PortNo) (number : ℕ) (output : End) → HasPorts setups a → IsLabelEnd setups output
      → ((linked : Linked) (label : Label) → linked_at a.controller q ≡ Some linked → label_at linked.port number ≡ Some label → label.state ≡ Offered)
      → To setups a (at_port a q (λ setup desk w. joined w number output))
  joined_to a q number output h end offered = at_port_to setups a q (λ setup desk w. joined w number output) h
      (λ linked found. record {
        worked = by_joining number output end (λ label is. offered linked label found is);
        says = λ base c. record { fits = joined_fit (begins a linked) number output (begins_fit setups a q linked c found); says = join_says a linked (Some output) (label_at linked.port number) };
      })
      (λ linked found free. join_free a linked (Some output) (label_at linked.port number) free)

  pub parted_to : (a : Acted) (q : PortNo) (number : ℕ) → HasPorts setups a → To setups a (at_port a q (λ setup desk w. parted w number))
  parted_to a q number h = at_port_to setups a q (λ setup desk w. parted w number) h
      (λ linked found. record {
        worked = by_parting number;
        says = λ base c. record { fits = parted_fit (begins a linked) number (begins_fit setups a q linked c found); says = join_says a linked None (label_at linked.port number) };
      })
      (λ linked found free. join_free a linked None (label_at linked.port number) free)

  pub lent_to : (a : Acted) (q : PortNo) (grant : Grant) (input : End) → HasPorts setups a → IsLabelEnd setups input → grant.state ≡ ByController
      → ((linked : Linked) → linked_at a.controller q ≡ Some linked → at grant_label grant.label linked.port.grants ≡ Some grant) → To setups a (at_port a q (λ setup desk w. lent w grant input))
  lent_to a q grant input h end sending granted = at_port_to setups a q (λ setup desk w. lent w grant input) h
      (λ linked found. record {
        worked = by_lending grant input (granted linked found) sending end;
        says = λ base c. record {
          fits = lent_fit (begins a linked) grant input (found_grant (begins a linked) grant.label grant (granted linked found) (begins_fit setups a q linked c found)) (begins_fit setups a q linked c found);
          says = tt;
        };
      })
      (λ linked found free. record { unspent = λ live. free; asked = record { asked = λ e. absurd (cc e) } })

  -- a grant is given back: the port's numbers may be spent until all joins of an answer are released
  pub given_back_loose : (a : Acted) (q : PortNo) (grant : Grant) → HasPorts setups a
      → ((linked : Linked) → linked_at a.controller q ≡ Some linked → at grant_label grant.label linked.port.grants ≡ Some grant) → Loose setups a (at_port a q (λ setup desk w. given_back w grant))
  given_back_loose a q grant h granted = at_port_loose setups a q (λ setup desk w. given_back w grant) h
      (λ linked found. record {
        worked = by_giving_back grant (granted linked found);
        says = λ base c. record {
          fits = given_back_fit (begins a linked) grant (found_grant (begins a linked) grant.label grant (granted linked found) (begins_fit setups a q linked c found)) (begins_fit setups a q linked c found);
          says = says_in_range.given_back setups linked.setup (begins a linked) grant (granted linked found) (begins_work setups a q linked base found);
        };
      })

  -- and then it is reset
  closes_says : (a : Acted) (linked : Linked) → Every IsSayable (halts_if_spent (begins a linked)).actions
  closes_says a linked = on_both (λ (w : Work). Every IsSayable w.actions) (is_spent linked.port.session) (halts (begins a linked)) (begins a linked) (tt, tt) tt

  pub closes_loose : (a : Acted) (q : PortNo) → HasPorts setups a → Loose setups a (at_port a q (λ setup desk w. halts_if_spent w))
  closes_loose a q h = at_port_loose setups a q (λ setup desk w. halts_if_spent w) h
      (λ linked found. record { worked = by_closing; says = λ base c. record { fits = closes_fit (begins a linked) (begins_fit setups a q linked c found); says = closes_says a linked } })
