-- which frames may come to a controller reads no note

use Rattle.std.proofs.Common.{◌≡◌, ℕ, Bool, true, false, List, Option, None, Some, Result, Ok, Err, refl, subst, drop}
use Rattle.std.specs.Prelude.{◌==◌}
use Rattle.world_model.specs.Words.{End, Journal, GivenOut, PacketFault, EncapsFault, control_protocol, protocol_of, default_unwrapped, put, Work, Controller, Linked, port_key, nothing_taken, ForGsmp, ForDefault, ForLabel, with_reassembly}
use Rattle.world_model.specs.Cells.{Taker}
use Rattle.world_model.specs.Controller.{Acted}
use Rattle.world_model.specs.ipv4_packet.Packet.{first_fault}
use Rattle.world_model.specs.ifmp_wire.Fields.{decoded as ifmp_decoded}
use Rattle.world_model.specs.ifmp_wire.declared.message.Message.{Message as IfmpMessage}
use Rattle.world_model.specs.ifmp_wire.declared.reader.Fault.{Fault as IfmpFault}
use Rattle.world_model.specs.gsmp_wire.declared.fault.Fault.{Fault}
use Rattle.world_model.specs.gsmp_wire.declared.message.Message.{Message}
use Rattle.world_model.specs.gsmp_wire.Fields.{decoded}
use Rattle.law_live_lasting.specs.law_port_facts.ordered_lists.Ordered.{Every}
use Rattle.law_live_numbers.specs.Law.{work_told, work_as, work_by, work_at}
use Rattle.law_live_mirrors.specs.Standing.{LeadAlike}
use Rattle.law_live_mirrors.specs.Asking.{IsPlain, WorksPlainly}
use Rattle.law_live_asking.specs.Frames.{IsPlainMessage, greets, answers_none, offers, starts, joins, IsPlainTold, MayWork, plainly, counts, grants, MayCome}

module _ (c : Controller) (numbers : GivenOut) (notes others : Journal) where
  abbrev here : Acted
  here = record { controller = c; notes = notes; numbers = numbers }

  abbrev there : Acted
  there = record { controller = c; notes = others; numbers = numbers }

  -- *What a port does* at a frame
  module _ (linked : Linked) where
    told_same : (packet : List ℕ) (r : Result IfmpMessage IfmpFault) → work_told here linked packet r ≡ work_told there linked packet r
    told_same packet (Err fault) = refl
    told_same packet (Ok message) = refl

    as_same : (packet : List ℕ) (b : Bool) → work_as here linked packet b ≡ work_as there linked packet b
    as_same packet true = told_same packet (ifmp_decoded (drop 20 packet))
    as_same packet false = refl

    by_same : (packet : List ℕ) (o : Option PacketFault) → work_by here linked packet o ≡ work_by there linked packet o
    by_same packet (Some fault) = refl
    by_same packet None = as_same packet (protocol_of packet == control_protocol)

    work_same : (r : Result (List ℕ) EncapsFault) → work_at here linked r ≡ work_at there linked r
    work_same (Err fault) = refl
    work_same (Ok packet) = by_same packet (first_fault packet)

    plain_same : (w v : Work) → w ≡ v → WorksPlainly here linked w → WorksPlainly there linked v
    plain_same w v same is = record {
      plain = subst (λ (x : Work). Every IsPlain x.actions) same is.plain;
      alike = λ (input : End). subst (λ (x : Work). LeadAlike c.ports (put port_key (record linked { port = x.port }) c.ports) input) same (is.alike input);
    }

    may_work : (payload : List ℕ) → MayWork here linked payload → MayWork there linked payload
    may_work payload (plainly is) = plainly (plain_same (work_at here linked (default_unwrapped payload)) (work_at there linked (default_unwrapped payload)) (work_same (default_unwrapped payload)) is)
    may_work payload (counts packet holds may) = counts packet holds (record {
      can = record { up = may.can.up; number_left = may.can.number_left };
      of_link = may.of_link;
      there = may.there;
      ascend = may.ascend;
      free = may.free;
    })
    may_work payload (grants g) = grants (record {
      session = g.session;
      source = g.source;
      sender = g.sender;
      peer = g.peer;
      number = g.number;
      label = g.label;
      lifetime = g.lifetime;
      flow = g.flow;
      holds = g.holds;
      takes = record { can = record { up = g.takes.can.up; number_left = g.takes.can.number_left }; there = g.takes.there; taken = g.takes.taken };
      spare = g.spare;
      few = g.few;
      room = g.room;
      free = g.free;
    })

  -- *What the switch says*
  may_say : (message : Message) → IsPlainMessage here message → IsPlainMessage there message
  may_say message (greets switch met) = greets switch met
  may_say message (answers_none own head is_answer is) = answers_none own head is_answer is
  may_say message (offers own s linked session label h found wired unjoined asks) =
      offers own s linked session label (record { up = h.up; answers = h.answers; alone = h.alone; none_waits = h.none_waits; unspent = h.unspent }) found wired unjoined asks
  may_say message (starts own s linked session grant h found working in_range held idle asks) =
      starts own s linked session grant (record { up = h.up; answers = h.answers; alone = h.alone; none_waits = h.none_waits; unspent = h.unspent }) found working in_range held idle asks
  may_say message (joins own s input from output h labels leads link asks) =
      joins own s input from output (record { up = h.up; answers = h.answers; alone = h.alone; none_waits = h.none_waits; unspent = h.unspent }) labels leads link asks

  may_tell : (r : Result Message Fault) → IsPlainTold here r → IsPlainTold there r
  may_tell (Err fault) is = tt
  may_tell (Ok message) is = may_say message is

pub may_come_by : (a : Acted) (notes : Journal) (taker : Taker) (payload : List ℕ) → MayCome (with_reassembly a taker nothing_taken) taker payload
    → MayCome (with_reassembly (record a { notes = notes }) taker nothing_taken) taker payload
may_come_by a notes ForGsmp payload may = may_tell (with_reassembly a ForGsmp nothing_taken).controller a.numbers a.notes notes (decoded payload) may
may_come_by a notes (ForDefault q) payload may = λ linked found. may_work (with_reassembly a (ForDefault q) nothing_taken).controller a.numbers a.notes notes linked payload (may linked found)
may_come_by a notes (ForLabel q label) payload may = tt
