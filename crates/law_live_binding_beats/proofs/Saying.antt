-- what a port that binds asks at a packet and at a message is no message

use Rattle.std.proofs.Common.{ℕ, Bool, List, [], ◌∷◌, refl, sym, ◌∙◌, ap, subst}
use Rattle.world_model.specs.Words.{Addr, Request, Action, default_payload, ifmp_packet_of, counts, hears, Linked, begins}
use Rattle.world_model.specs.ifmp_wire.Message.{octets_of as ifmp_octets}
use Rattle.law_live_asking.specs.law_port_facts.ordered_lists.Ordered.{Every}
use Rattle.law_live_asking.specs.law_frame_readings.Reading.{IsToldAs, IsHeardAs}
use Rattle.law_live_asking.proofs.law_frame_readings.Packets.{is_heard}
use Rattle.law_live_asking.proofs.law_frame_readings.law_wire.Packets.{unwrapped_again}
use Rattle.law_live_asking.specs.law_live_worlds.Law.{end_of}
use Rattle.law_live_asking.specs.law_live_numbers.Law.{work_told, work_as, work_by, work_at}
use Rattle.law_live_asking.specs.law_live_unsaid.Law.{IsHushed}
use Rattle.law_live_bindings.specs.Law.{AskAtMost, none as asks_none, some, label_branch, grant_branch}
use Rattle.law_live_bindings.proofs.Counting.{counting_keeps_binding}
use Rattle.law_live_bindings.proofs.Hearing.{hearing_keeps_binding}
use Rattle.law_live_binding_beats.specs.Saying.{CountedPacketsAreUnanswered, HeardMessagesAreUnanswered}
use Rattle.law_live_binding_beats.proofs.Shown.{one_linked}

-- *At most one branch* is neither a message nor a reset
asks_hushed : (branch : (number : ℕ) → Request) (actions : List Action) → AskAtMost branch actions → Every IsHushed actions
asks_hushed branch [] asks_none = tt
asks_hushed branch (action ∷ actions) (some number) = (tt, tt)

pub counted_are_unanswered : CountedPacketsAreUnanswered
counted_are_unanswered a q payload packet said other bind holds range same linked found =
    subst (Every IsHushed) (sym
    (ap (λ r. (work_at a linked r).actions) holds.is
    ∙ (ap (λ o. (work_by a linked packet o).actions) holds.whole
    ∙ (ap (λ (b : Bool). (work_as a linked packet b).actions) holds.no_message
    ∙ ap (λ (l : Linked). (counts l.setup a.controller.desk (begins a l) packet).actions) (one_linked linked bind.linked (sym found ∙ bind.of_port))))))
    (asks_hushed (label_branch bind.linked.setup) (counts bind.linked.setup a.controller.desk (begins a bind.linked) packet).actions
    (counting_keeps_binding a.controller.desk a.numbers.instances (end_of bind.linked said) other packet bind.binding range).acts)

pub heard_are_unanswered : HeardMessagesAreUnanswered
heard_are_unanswered a q source message rest said other bind first goes_by low range fits room same linked found =
    subst (Every IsHushed) (sym
    (ap (λ r. (work_at a linked r).actions) (unwrapped_again packet)
    ∙ (ap (λ o. (work_by a linked packet o).actions) heard.whole
    ∙ (ap (λ (b : Bool). (work_as a linked packet b).actions) heard.control
    ∙ (ap (λ r. (work_told a linked packet r).actions) heard.message
    ∙ (ap (λ (from : Addr). (hears linked.setup a.controller.desk (begins a linked) from message).actions) (heard.source ∙ sym goes_by)
    ∙ ap (λ (l : Linked). (hears l.setup a.controller.desk (begins a l) other.port.adjacency.own.address message).actions) (one_linked linked bind.linked (sym found ∙ bind.of_port))))))))
    (asks_hushed (grant_branch bind.linked.setup) (hears bind.linked.setup a.controller.desk (begins a bind.linked) other.port.adjacency.own.address message).actions
    (hearing_keeps_binding a.controller.desk a.numbers.instances (end_of bind.linked said) other message rest bind.binding first room).acts)
  where
    packet : List ℕ
    packet = ifmp_packet_of source (ifmp_octets message)

    told : IsToldAs (record { packet = 0; frame = 0 }) (default_payload packet) (record { source = source; message = message })
    told = record { control = refl; source = low; in_range = range; fits = fits; filled = refl }

    heard : IsHeardAs packet (record { source = source; message = message })
    heard = is_heard (record { packet = 0; frame = 0 }) (default_payload packet) (record { source = source; message = message }) told
