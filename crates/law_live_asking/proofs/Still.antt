-- what leaves the ports as they lead, and the desk as it is, asks nothing

use Rattle.std.proofs.Common.{◌≡◌, ℕ, ◌≤◌, Bool, true, false, List, [], ◌∷◌, Option, None, Some, refl, sym, ◌∙◌, ap, subst, fold, if◌then◌else◌}
use Rattle.std.specs.Prelude.{◌&&◌, ◌==◌}
use Rattle.std.specs.Option.{option_and_then, option_map_or}
use Rattle.world_model.specs.Words.{PortNo, End, Channel, Mark, number_of_channel, label_number_of, at, put, is_estab, Action, Say, Ask, Note, Work, Grant, grant_on, Label, label_at, is_bound, Reassembly, chains_with, Controller, Linked, port_key, linked_at, begins, with_work, performs_in_estab, Rule, works, works_as, at_port, says_ifmp, default_channel, default_home, default_payload, ifmp_packet_of, forwards_packet, same_channel, ForGsmp, ForDefault, ForLabel, taker_of, taker_at, label_taker, port_on, on_link, with_reassembly}
use Rattle.world_model.specs.Cells.{Taker}
use Rattle.world_model.specs.Controller.{Acted, note}
use Rattle.world_model.specs.ifmp_wire.Message.{octets_of as ifmp_octets}
use Rattle.world_model.specs.port_model.Port.{Port}
use Rattle.world_model.specs.port_model.declared.action.Action.TheVariants as actions
use Rattle.law_live_lasting.specs.law_port_facts.ordered_lists.Ordered.{Every}
use Rattle.law_live_lasting.proofs.law_port_facts.Keyed.{on_both, by_eq, at_key, at_every, at_put_same, at_put_other}
use Rattle.law_live_lasting.specs.law_live_control.Calm.{HasLinks}
use Rattle.law_live_lasting.proofs.law_live_orders.Hops.{home_not_gsmp}
use Rattle.law_live_lasting.proofs.law_live_others.Holding.{SameWork, forwards_same}
use Rattle.law_live_mirrors.specs.Mirrors.{led_by, is_led_out, other_end}
use Rattle.law_live_mirrors.specs.Standing.{LeadAlike}
use Rattle.law_live_mirrors.specs.Asking.{IsPlain, WorksPlainly}
use Rattle.law_live_mirrors.proofs.Ports.{leads_by, is_out, put_ports, alike_itself, alike_then, alike_by}
use Rattle.law_live_mirrors.proofs.Nodes.{Worked, works_plain, turn_none}
use Rattle.law_live_lasting.proofs.law_live_mirrored_worlds.Events.{steps_keep}
use Rattle.law_live_asking.specs.Law.{PutsNone, AsksNone}
use Rattle.law_live_asking.proofs.Puts.{puts_same, puts_then, control_none, forwards_sent}

-- *Still* it leads its inputs alike, with the same desk, and puts nothing
pub record Still (a b : Controller) : Type 0 where
  pub alike : (input : End) → LeadAlike a.ports b.ports input
  pub desk : b.desk ≡ a.desk
  pub puts : PutsNone a b

pub still_same : (a b : Controller) → b.ports ≡ a.ports → b.desk ≡ a.desk → b.queue ≡ a.queue → Still a b
still_same a b ports desk queue = record { alike = λ input. alike_by a.ports a.ports b.ports input ports (alike_itself a.ports input); desk = desk; puts = puts_same a b queue }

pub still_then : (a b c : Controller) → Still a b → Still b c → Still a c
still_then a b c p q = record { alike = λ input. alike_then a.ports b.ports c.ports input (p.alike input) (q.alike input); desk = q.desk ∙ p.desk; puts = puts_then a b c p.puts q.puts }

-- so it asks nothing
pub still_asks : (a b : Acted) → Still a.controller b.controller → AsksNone a.controller b.controller
still_asks a b s = record { keeps = steps_keep.asks a b [] (turn_none a b b.controller.ports refl s.desk s.alike); puts = s.puts }

pub none_then : (a b c : Controller) → AsksNone a b → AsksNone b c → AsksNone a c
none_then a b c p q = record { keeps = steps_keep.both a b c [] [] p.keeps q.keeps; puts = puts_then a b c p.puts q.puts }

-- *A port is put* that has the same labels and grants
module _ (ports : List Linked) (linked new : Linked) (there : at port_key (port_key new) ports ≡ Some linked) where
  there_now : at port_key (port_key new) (put port_key new ports) ≡ Some new
  there_now = at_put_same port_key new ports linked there

  told_alike : {B : Type 0} (told : Option Linked → B) → told (Some new) ≡ told (Some linked) → (k : ℕ) → told (at port_key k (put port_key new ports)) ≡ told (at port_key k ports)
  told_alike told same k = by_eq k (port_key new)
      (λ e t. ap told (subst (λ n. at port_key n (put port_key new ports) ≡ Some new) (sym e) there_now)
      ∙ (same ∙ sym (ap told (subst (λ n. at port_key n ports ≡ Some linked) (sym e) there))))
      (λ differ t. ap told (at_put_other port_key new k ports (λ e. differ (sym e))))

  pub put_like : new.port ≡ linked.port → (input : End) → LeadAlike ports (put port_key new ports) input
  put_like same input = record {
    label = λ is. told_alike (λ (o : Option Linked). led_by input (option_and_then (λ (l : Linked). label_at l.port (number_of_channel input.channel)) o)) (ap (leads_by input) same) input.port.0;
    grant = told_alike (λ (o : Option Linked). (input.port.0 == 0) && option_map_or (λ (grant : Grant). is_led_out grant.state)
        (option_and_then (λ (l : Linked). grant_on l.port.grants (label_number_of (other_end input).channel)) o) false)
        (ap (λ (p : Port). (input.port.0 == 0) && is_out p.grants (label_number_of (other_end input).channel)) same) (other_end input).port.0;
  }

-- *Who takes a cell* is one of its ports, if it isn't for GSMP
abbrev pub IsThere : Controller → Taker → Type 0
IsThere c ForGsmp = Unit {0}
IsThere c (ForDefault linked) = linked_at c linked.setup.port ≡ Some linked
IsThere c (ForLabel linked label) = linked_at c linked.setup.port ≡ Some linked

some_taker : (x y : Taker) → Some x ≡ Some y → x ≡ y
some_taker x y e = cc e

pub taker_there : (c : Controller) (channel : Channel) (taker : Taker) → taker_of c channel ≡ Some taker → IsThere c taker
taker_there c channel taker e = by_gsmp (same_channel channel default_channel) e
  where
    of_label : (linked : Linked) (o : Option Label) → linked_at c linked.setup.port ≡ Some linked → label_taker linked o ≡ Some taker → IsThere c taker
    of_label linked None own e = absurd (cc e)
    of_label linked (Some label) own e = by (is_bound label.state) e
      where
        by : (b : Bool) → (if b then Some (ForLabel linked label) else None) ≡ Some taker → IsThere c taker
        by true e = subst (IsThere c) (some_taker (ForLabel linked label) taker e) own
        by false e = absurd (cc e)

    by_default : (linked : Linked) (b : Bool) → linked_at c linked.setup.port ≡ Some linked
        → (if b then Some (ForDefault linked) else label_taker linked (option_and_then (label_at linked.port) (label_number_of (on_link channel)))) ≡ Some taker → IsThere c taker
    by_default linked true own e = subst (IsThere c) (some_taker (ForDefault linked) taker e) own
    by_default linked false own e = of_label linked (option_and_then (label_at linked.port) (label_number_of (on_link channel))) own e

    by_port : (o : Option Linked) → linked_at c (port_on channel) ≡ o → taker_at o (on_link channel) ≡ Some taker → IsThere c taker
    by_port None found e = absurd (cc e)
    by_port (Some linked) found e = by_default linked (same_channel (on_link channel) default_channel)
        (subst (λ n. at port_key n c.ports ≡ Some linked) (sym (at_key port_key (port_on channel).0 c.ports linked found)) found) e

    by_gsmp : (b : Bool) → (if b then Some ForGsmp else taker_at (linked_at c (port_on channel)) (on_link channel)) ≡ Some taker → IsThere c taker
    by_gsmp true e = subst (IsThere c) (some_taker ForGsmp taker e) tt
    by_gsmp false e = by_port (linked_at c (port_on channel)) refl e

-- *Its chain* is another
pub gathered_still : (a : Acted) (taker : Taker) (r : Reassembly) → IsThere a.controller taker → Still a.controller (with_reassembly a taker r).controller
gathered_still a ForGsmp r there = still_same a.controller (with_reassembly a ForGsmp r).controller refl refl refl
gathered_still a (ForDefault linked) r there = record {
  alike = put_like a.controller.ports linked (record linked { reassembly = r }) there refl;
  desk = refl;
  puts = puts_same a.controller (with_reassembly a (ForDefault linked) r).controller refl;
}
gathered_still a (ForLabel linked label) r there = record {
  alike = put_like a.controller.ports linked (record linked { chains = chains_with linked.chains label.number r }) there refl;
  desk = refl;
  puts = puts_same a.controller (with_reassembly a (ForLabel linked label) r).controller refl;
}

-- *A packet is sent on*
pub forwards_still : (a : Acted) (came : Mark) (packet : List ℕ) → HasLinks a.controller → Still a.controller (forwards_packet a came packet).controller
forwards_still a came packet links = by (forwards_same a came packet)
  where
    by : SameWork a (forwards_packet a came packet) → Still a.controller (forwards_packet a came packet).controller
    by same = record {
      alike = λ input. alike_by a.controller.ports a.controller.ports (forwards_packet a came packet).controller.ports input same.ports (alike_itself a.controller.ports input);
      desk = same.desk;
      puts = (forwards_sent a came links packet).puts;
    }

-- *What a port says*, or has noted
plain_puts : (port : PortNo) → 1 ≤ port.0 → (a : Acted) (action : Action) → IsPlain action → PutsNone a.controller (performs_in_estab port a action).controller
plain_puts port link a (Say message) plain = on_both (λ (b : Acted). PutsNone a.controller b.controller) (is_estab a.controller.adjacency.state) (says_ifmp port a message) a
    (control_none a (default_home port).channel (default_payload (ifmp_packet_of a.controller.address (ifmp_octets message))) (home_not_gsmp port link)) (puts_same a.controller a.controller refl)
plain_puts port link a (Note item) plain = on_both (λ (b : Acted). PutsNone a.controller b.controller) (is_estab a.controller.adjacency.state) (note a item) a
    (puts_same a.controller a.controller refl) (puts_same a.controller a.controller refl)
plain_puts port link a (Ask request needed) plain = absurd plain
plain_puts port link a (actions.CutChain label) plain = absurd plain
plain_puts port link a (actions.TakeBack input output) plain = absurd plain
plain_puts port link a (actions.Withdraw input) plain = absurd plain
plain_puts port link a actions.Reset plain = absurd plain

plain_all : (port : PortNo) → 1 ≤ port.0 → (done : List Action) (a : Acted) → Every IsPlain done → PutsNone a.controller (fold (performs_in_estab port) a done).controller
plain_all port link [] a plain = puts_same a.controller a.controller refl
plain_all port link (action ∷ done) a plain =
    let b : Acted = performs_in_estab port a action in
    puts_then a.controller b.controller (fold (performs_in_estab port) b done).controller (plain_puts port link a action plain.0) (plain_all port link done b plain.1)

pub works_puts : (a : Acted) (linked : Linked) (w : Work) → 1 ≤ linked.setup.port.0 → Every IsPlain w.actions → PutsNone a.controller (works_as a linked w).controller
works_puts a linked w link plain = puts_then a.controller (with_work a linked w).controller (works_as a linked w).controller
    (puts_same a.controller (with_work a linked w).controller refl) (plain_all linked.setup.port link w.actions (with_work a linked w) plain)

-- *A port works plainly*
works_still : (a : Acted) (linked : Linked) (w : Work) → 1 ≤ linked.setup.port.0 → WorksPlainly a linked w → Still a.controller (works_as a linked w).controller
works_still a linked w link is = by (works_plain a linked w is.plain)
  where
    by : Worked a (works_as a linked w) linked w.port [] → Still a.controller (works_as a linked w).controller
    by worked = record {
      alike = λ input. alike_by a.controller.ports (put_ports a.controller.ports linked w.port) (works_as a linked w).controller.ports input worked.ports (is.alike input);
      desk = worked.desk;
      puts = works_puts a linked w link is.plain;
    }

abbrev pub AllLinks : Controller → Type 0
AllLinks c = Every (λ (linked : Linked). 1 ≤ linked.setup.port.0) c.ports

pub rule_still : (a : Acted) (port : PortNo) (rule : Rule) → AllLinks a.controller
    → ((linked : Linked) → linked_at a.controller port ≡ Some linked → WorksPlainly a linked (rule linked.setup a.controller.desk (begins a linked)))
    → Still a.controller (at_port a port rule).controller
rule_still a port rule links plain = by (linked_at a.controller port) refl
  where
    by : (o : Option Linked) → linked_at a.controller port ≡ o → Still a.controller (works a rule o).controller
    by None found = still_same a.controller a.controller refl refl refl
    by (Some linked) found = works_still a linked (rule linked.setup a.controller.desk (begins a linked))
        (at_every port_key (λ (l : Linked). 1 ≤ l.setup.port.0) port.0 a.controller.ports linked links found) (plain linked found)
