-- frames of labels and of default channels at which a port works plainly

use Rattle.std.proofs.Common.{◌≡◌, ℕ, ◌≤◌, Bool, true, false, List, [], Option, None, Some, Result, Ok, Err, refl, sym, ◌∙◌, ap, subst, drop, if◌then◌else◌}
use Rattle.std.specs.Prelude.{◌==◌, max}
use Rattle.std.specs.Option.{option_map, option_map_or}
use Rattle.world_model.specs.Words.{PortNo, End, Mark, Record, PacketFault, EncapsFault, control_protocol, protocol_of, source_of, default_unwrapped, unwrapped, number_of_channel, label_number_of, at, put, Label, label_number, label_at, Grant, grant_label, Session, Work, used, used_label, with_label, counts, hears, Linked, port_key, linked_at, begins, Rule, at_port, ForDefault, ForLabel, forwards_packet, label_holds, ifmp_holds, counted_at, packet_holds, default_holds, frame_holds}
use Rattle.world_model.specs.Controller.{Acted, note}
use Rattle.world_model.specs.ipv4_packet.Packet.{first_fault}
use Rattle.world_model.specs.ifmp_wire.Fields.{decoded as ifmp_decoded}
use Rattle.world_model.specs.ifmp_wire.declared.message.Message.{Message}
use Rattle.world_model.specs.ifmp_wire.declared.reader.Fault.{Fault}
use Rattle.world_model.specs.port_model.Port.{Port}
use Rattle.law_live_lasting.specs.law_port_facts.ordered_lists.Ordered.{Every}
use Rattle.law_live_lasting.proofs.law_port_facts.Keyed.{at_key}
use Rattle.law_live_labels.specs.Law.{left, accepted}
use Rattle.law_live_labels.proofs.Agreed.{grants_are_refreshed}
use Rattle.law_live_greetings.proofs.Heard.{ports_hear_acks}
use Rattle.law_live_lasting.specs.law_live_control.Calm.{HasLinks}
use Rattle.law_live_lasting.proofs.law_live_others.Holding.{SameWork, forwards_same}
use Rattle.law_live_numbers.specs.Law.{work_told, work_as, work_by, work_at}
use Rattle.law_live_mirrors.specs.Mirrors.{led_by, other_end}
use Rattle.law_live_mirrors.specs.Standing.{LeadAlike}
use Rattle.law_live_mirrors.specs.Asking.{IsPlain, WorksPlainly}
use Rattle.law_live_mirrors.proofs.Ports.{leads_by, is_out, put_alike, relabelled, regranted}
use Rattle.law_live_mirrors.proofs.Counting.{led_so, by_session}
use Rattle.law_live_asking.specs.Frames.{PlainFramesAskNone, LabelFramesAskNone, AcksWorkPlainly, RefreshesWorkPlainly}
use Rattle.law_live_asking.proofs.Still.{Still, still_same, still_then, still_asks, put_like, AllLinks, rule_still, forwards_still}

-- *A port that does nothing* works plainly
pub begins_plainly : (a : Acted) (linked : Linked) → linked_at a.controller linked.setup.port ≡ Some linked → WorksPlainly a linked (begins a linked)
begins_plainly a linked there = record { plain = tt; alike = put_like a.controller.ports linked (record linked { port = linked.port }) there refl }

-- one that is put with the same grants, and leads its labels alike
pub leaves_plainly : (a : Acted) (linked : Linked) (w : Work) → linked_at a.controller linked.setup.port ≡ Some linked → w.actions ≡ [] → w.port.grants ≡ linked.port.grants
    → ((input : End) → leads_by input w.port ≡ leads_by input linked.port) → WorksPlainly a linked w
leaves_plainly a linked w there none grants labels = record {
  plain = subst (Every IsPlain) (sym none) tt;
  alike = λ input. put_alike a.controller.ports linked there w.port input (λ same is. labels input)
      (λ same. ap (λ (gs : List Grant). is_out gs (label_number_of (other_end input).channel)) grants);
}

-- *A label is used*
module _ (b : Acted) (linked : Linked) (there : linked_at b.controller linked.setup.port ≡ Some linked) (number : ℕ) where
  module _ (label : Label) (found : label_at linked.port number ≡ Some label) where
    abbrev idled : Label
    idled = record label { idle = 0 }

    used_leads : (input : End) → leads_by input (with_label (begins b linked) idled).port ≡ leads_by input linked.port
    used_leads input = by linked.port.session refl
      where
        by : (o : Option Session) → linked.port.session ≡ o → leads_by input (with_label (begins b linked) idled).port ≡ leads_by input linked.port
        by None is = subst (λ (o : Option Session). led_by input (at label_number (number_of_channel input.channel)
            (option_map_or (λ (x : Session). x.labels) (option_map (λ (x : Session). record x { labels = put label_number idled x.labels }) o) []))
            ≡ led_by input (at label_number (number_of_channel input.channel) (option_map_or (λ (x : Session). x.labels) o []))) (sym is) refl
        by (Some s) is = by_session linked.port s is input (λ (x : Session). record x { labels = put label_number idled x.labels })
            (relabelled input label idled s.labels (number_of_channel input.channel) own (λ same. led_so input idled label label.state refl))
          where
            held : at label_number number s.labels ≡ Some label
            held = sym (ap (λ (o : Option Session). at label_number number (option_map_or (λ (x : Session). x.labels) o [])) is) ∙ found

            own : at label_number label.number s.labels ≡ Some label
            own = subst (λ n. at label_number n s.labels ≡ Some label) (sym (at_key label_number number s.labels label held)) held

  pub used_plainly : WorksPlainly b linked (used (begins b linked) number)
  used_plainly = by (label_at linked.port number) refl
    where
      by : (o : Option Label) → label_at linked.port number ≡ o → WorksPlainly b linked (used_label (begins b linked) o)
      by None found = begins_plainly b linked there
      by (Some label) found = leaves_plainly b linked (with_label (begins b linked) (idled label found)) there refl refl (used_leads label found)

-- *Behind a packet that is sent on* a port works as before it
pub plainly_moved : (a b : Acted) → SameWork a b → (linked : Linked) (rule : Rule) → WorksPlainly a linked (rule linked.setup a.controller.desk (begins a linked))
    → WorksPlainly b linked (rule linked.setup b.controller.desk (begins b linked))
plainly_moved a b same linked rule is = record {
  plain = subst (λ (x : Work). Every IsPlain x.actions) (sym moved) is.plain;
  alike = λ input. subst (λ (x : Work). LeadAlike b.controller.ports (put port_key (record linked { port = x.port }) b.controller.ports) input) (sym moved)
      (subst (λ (ports : List Linked). LeadAlike ports (put port_key (record linked { port = w.port }) ports) input) (sym same.ports) (is.alike input));
}
  where
    w : Work
    w = rule linked.setup a.controller.desk (begins a linked)

    moved : rule linked.setup b.controller.desk (begins b linked) ≡ w
    moved = λ i. rule linked.setup (same.desk i) (record { port = linked.port; actions = []; halted = false; instances = same.instances i })

pub there_before : (a b : Acted) → SameWork a b → (port : PortNo) (linked : Linked) → linked_at b.controller port ≡ Some linked → linked_at a.controller port ≡ Some linked
there_before a b same port linked found = sym (ap (λ (ports : List Linked). at port_key port.0 ports) same.ports) ∙ found

pub links_behind : (a b : Acted) → SameWork a b → AllLinks a.controller → AllLinks b.controller
links_behind a b same links = subst (Every (λ (linked : Linked). 1 ≤ linked.setup.port.0)) (sym same.ports) links

own_place : (b : Acted) (port : PortNo) (linked : Linked) → linked_at b.controller port ≡ Some linked → linked_at b.controller linked.setup.port ≡ Some linked
own_place b port linked found = subst (λ n. at port_key n b.controller.ports ≡ Some linked) (sym (at_key port_key port.0 b.controller.ports linked found)) found

module _ (a : Acted) (links : HasLinks a.controller) (mark : Mark) where
  noted : (item : Record) → Still a.controller (note a item).controller
  noted item = still_same a.controller a.controller refl refl refl

  -- *A packet is sent on*, and its port works plainly behind that
  sent_then : (packet : List ℕ) (port : PortNo) (rule : Rule) → ((linked : Linked) → linked_at (forwards_packet a mark packet).controller port ≡ Some linked
      → WorksPlainly (forwards_packet a mark packet) linked (rule linked.setup (forwards_packet a mark packet).controller.desk (begins (forwards_packet a mark packet) linked)))
      → Still a.controller (at_port (forwards_packet a mark packet) port rule).controller
  sent_then packet port rule plain = (let b : Acted = forwards_packet a mark packet in
      still_then a.controller b.controller (at_port b port rule).controller (forwards_still a mark packet links)
      (rule_still b port rule (links_behind a b (forwards_same a mark packet) links.ports) plain))

  -- *On the channel of a label*
  label_still : (linked : Linked) (label : Label) (r : Result (List ℕ) EncapsFault) → Still a.controller (label_holds a linked label mark r).controller
  label_still linked label (Err fault) = still_same a.controller (label_holds a linked label mark (Err fault)).controller refl refl refl
  label_still linked label (Ok packet) = sent_then packet linked.setup.port (λ setup desk w. used w label.number)
      (λ l found. used_plainly (forwards_packet a mark packet) l (own_place (forwards_packet a mark packet) linked.setup.port l found) label.number)

  -- *On a default channel*
  module _ (port : PortNo) where
    abbrev pub Plainly : (Linked → Work) → Type 0
    Plainly work = (linked : Linked) → linked_at a.controller port ≡ Some linked → WorksPlainly a linked (work linked)

    told_still : (packet : List ℕ) (r : Result Message Fault) → Plainly (λ linked. work_told a linked packet r) → Still a.controller (ifmp_holds a port packet r).controller
    told_still packet (Err fault) plain = still_same a.controller (ifmp_holds a port packet (Err fault)).controller refl refl refl
    told_still packet (Ok message) plain = rule_still a port (λ setup desk w. hears setup desk w (source_of packet) message) links.ports plain

    counted_still : (packet : List ℕ) → Plainly (λ linked. counts linked.setup a.controller.desk (begins a linked) packet) → Still a.controller (counted_at (forwards_packet a mark packet) port packet).controller
    counted_still packet plain = sent_then packet port (λ setup desk w. counts setup desk w packet)
        (λ l found. plainly_moved a (forwards_packet a mark packet) (forwards_same a mark packet) l (λ setup desk w. counts setup desk w packet)
        (plain l (there_before a (forwards_packet a mark packet) (forwards_same a mark packet) port l found)))

    packet_still : (packet : List ℕ) (o : Option PacketFault) → Plainly (λ linked. work_by a linked packet o) → Still a.controller (packet_holds a port mark packet o).controller
    packet_still packet (Some fault) plain = still_same a.controller (packet_holds a port mark packet (Some fault)).controller refl refl refl
    packet_still packet None plain = by (protocol_of packet == control_protocol) plain
      where
        by : (b : Bool) → Plainly (λ linked. work_as a linked packet b)
            → Still a.controller (if b then ifmp_holds a port packet (ifmp_decoded (drop 20 packet)) else counted_at (forwards_packet a mark packet) port packet).controller
        by true plain = told_still packet (ifmp_decoded (drop 20 packet)) plain
        by false plain = counted_still packet plain

    pub default_still : (r : Result (List ℕ) EncapsFault) → Plainly (λ linked. work_at a linked r) → Still a.controller (default_holds a port mark r).controller
    default_still (Err fault) plain = still_same a.controller (default_holds a port mark (Err fault)).controller refl refl refl
    default_still (Ok packet) plain = packet_still packet (first_fault packet) plain

pub label_frames_ask_none : LabelFramesAskNone
label_frames_ask_none a q label mark payload links = still_asks a (frame_holds a (ForLabel q label) mark payload) (label_still a links mark q label (unwrapped label.flow payload))

one_linked : (x y : Linked) → Some x ≡ Some y → x ≡ y
one_linked x y e = cc e

pub plain_frames_ask_none : PlainFramesAskNone
plain_frames_ask_none a q linked mark payload links found plain = still_asks a (frame_holds a (ForDefault q) mark payload)
    (default_still a links mark q.setup.port (default_unwrapped payload)
    (λ l there. subst (λ (x : Linked). WorksPlainly a x (work_at a x (default_unwrapped payload))) (one_linked linked l (sym found ∙ there)) plain))

-- *Messages in peace*: the session has the same labels
same_labels : (port : Port) (s : Session) (input : End) → port.session ≡ Some s → led_by input (at label_number (number_of_channel input.channel) s.labels) ≡ leads_by input port
same_labels port s input is_open = sym (ap (λ (o : Option Session). led_by input (at label_number (number_of_channel input.channel) (option_map_or (λ (x : Session). x.labels) o []))) is_open)

pub acks_work_plainly : AcksWorkPlainly
acks_work_plainly a linked s other next there is_open met waits = subst (WorksPlainly a linked)
    (sym (ports_hear_acks linked.setup a.controller.desk (begins a linked) s other next refl is_open met waits))
    (leaves_plainly a linked known there refl refl (λ input. same_labels linked.port s input is_open))
  where
    known : Work
    known = record (begins a linked) {
      port = record linked.port { adjacency = record linked.port.adjacency { silence = 0 }; session = Some (record s { known = max s.known next }) };
    }

pub refreshes_work_plainly : RefreshesWorkPlainly
refreshes_work_plainly a linked s source sender peer number lifetime grant there taken held stays = subst (WorksPlainly a linked)
    (sym (grants_are_refreshed linked.setup a.controller.desk (begins a linked) s source sender peer number lifetime grant taken held stays))
    (record {
      plain = tt;
      alike = λ input. put_alike a.controller.ports linked there lasting.port input (λ same is. same_labels linked.port s input taken.working.is_open)
          (λ same. regranted grant (record grant { lifetime = lifetime }) linked.port.grants (label_number_of (other_end input).channel) held (λ own. refl));
    })
  where
    lasting : Work
    lasting = left (begins a linked) (accepted (begins a linked) s number (put grant_label (record grant { lifetime = lifetime }) linked.port.grants)) []
