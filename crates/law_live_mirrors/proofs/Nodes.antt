-- what a port at work, what it says and what is asked leave of a controller

use Rattle.std.proofs.Common.{◌≡◌, ℕ, ◌<◌, Bool, true, false, List, [], ◌∷◌, ◌++◌, append-nil, length, fold, Some, refl, sym, ◌∙◌, ap, subst, arith, if◌then◌else◌}
use Rattle.std.specs.Prelude.{◌==◌, nat_le}
use Rattle.std.proofs.lemmas.Bool.Decides.{nat_tests}
use Rattle.world_model.specs.Words.{PortNo, End, Channel, Mark, next_control, with_control, frame_cells, made, noted, Loss, PoolFull, is_estab, Request, Action, Say, Ask, Note, last_transaction, Desk, Standing, Work, Linked, linked_at, with_desk, begins, with_work, performs_in_estab, Rule, works, works_as, at_port, node_resets, asks, asks_next, sends_request, sends_control, says_ifmp, default_channel, default_home, default_payload, ifmp_packet_of}
use Rattle.world_model.specs.Controller.{Acted, Controller, free_slots, note}
use Rattle.world_model.specs.Sending.{with_cells, sends}
use Rattle.world_model.specs.frame_model.Sending.{Sender}
use Rattle.world_model.specs.gsmp_wire.Layout.{octets_of as gsmp_octets}
use Rattle.world_model.specs.ifmp_wire.Message.{octets_of as ifmp_octets}
use Rattle.world_model.specs.port_model.Desk.{asked, message_at}
use Rattle.world_model.specs.port_model.Port.{Port}
use Rattle.world_model.specs.port_model.declared.action.Action.TheVariants as actions
use Rattle.law_port_facts.specs.ordered_lists.Ordered.{Every}
use Rattle.law_port_facts.proofs.Keyed.{on_both}
use Rattle.law_input_steps.specs.Asking.{IsAsked, concerns}
use Rattle.law_live_mirrors.specs.Mirrors.{Mirrors}
use Rattle.law_live_mirrors.specs.Standing.{LeadAlike, MayAsk}
use Rattle.law_live_mirrors.specs.Asking.{AsksMirrored, IsPlain, PlainWorkKeepsMirrors, CanAsk}
use Rattle.law_live_mirrors.proofs.Desks.{asking_keeps_mirrors, like_ports_mirror}
use Rattle.law_live_mirrors.proofs.Ports.{put_ports}

-- *A controller with the same ports and desk*, in the same state with its switch
pub record SameNode (a b : Acted) : Type 0 where
  pub ports : b.controller.ports ≡ a.controller.ports
  pub desk : b.controller.desk ≡ a.controller.desk
  pub adjacency : b.controller.adjacency ≡ a.controller.adjacency
  pub waiting : b.controller.waiting ≡ a.controller.waiting

pub same_itself : (a : Acted) → SameNode a a
same_itself a = record { ports = refl; desk = refl; adjacency = refl; waiting = refl }

pub same_then : (a b c : Acted) → SameNode a b → SameNode b c → SameNode a c
same_then a b c p q = record { ports = q.ports ∙ p.ports; desk = q.desk ∙ p.desk; adjacency = q.adjacency ∙ p.adjacency; waiting = q.waiting ∙ p.waiting }

-- *Frames are sent*
sent_same : (a : Acted) (channel : Channel) (mark : Mark) (payload : List ℕ) → SameNode a (sends a channel mark payload)
sent_same a channel mark payload = on_both (λ (s : Sender Controller). SameNode a (record a { controller = s.queues; notes = s.notes })) (nat_le (length (frame_cells channel mark payload)) (free_slots a.controller))
    (record { queues = with_cells a.controller (frame_cells channel mark payload); notes = made a.notes mark payload })
    (record { queues = a.controller; notes = noted (made a.notes mark payload) (Loss mark PoolFull) })
    (record { ports = refl; desk = refl; adjacency = refl; waiting = refl }) (record { ports = refl; desk = refl; adjacency = refl; waiting = refl })

pub control_same : (a : Acted) (channel : Channel) (payload : List ℕ) → SameNode a (sends_control a channel payload)
control_same a channel payload = by (sent_same (record a { numbers = with_control a.numbers }) channel (next_control a.numbers) payload)
  where
    by : SameNode (record a { numbers = with_control a.numbers }) (sends_control a channel payload) → SameNode a (sends_control a channel payload)
    by s = record { ports = s.ports; desk = s.desk; adjacency = s.adjacency; waiting = s.waiting }

-- *What a port says, or has noted*
plain_same : (port : PortNo) (a : Acted) (action : Action) → IsPlain action → SameNode a (performs_in_estab port a action)
plain_same port a (Say message) plain = on_both (SameNode a) (is_estab a.controller.adjacency.state) (says_ifmp port a message) a
    (control_same a (default_home port).channel (default_payload (ifmp_packet_of a.controller.address (ifmp_octets message)))) (same_itself a)
plain_same port a (Note item) plain = on_both (SameNode a) (is_estab a.controller.adjacency.state) (note a item) a (record { ports = refl; desk = refl; adjacency = refl; waiting = refl }) (same_itself a)
plain_same port a (Ask request needed) plain = absurd plain
plain_same port a (actions.CutChain label) plain = absurd plain
plain_same port a (actions.TakeBack input output) plain = absurd plain
plain_same port a (actions.Withdraw input) plain = absurd plain
plain_same port a actions.Reset plain = absurd plain

plain_all : (port : PortNo) (done : List Action) (a : Acted) → Every IsPlain done → SameNode a (fold (performs_in_estab port) a done)
plain_all port [] a plain = same_itself a
plain_all port (action ∷ done) a plain = same_then a (performs_in_estab port a action) (fold (performs_in_estab port) (performs_in_estab port a action) done)
    (plain_same port a action plain.0) (plain_all port done (performs_in_estab port a action) plain.1)

-- *A request is asked*
pub asks_same : (a : Acted) (request : Request) → CanAsk a → SameNode (with_desk a (asked a.controller.desk request)) (asks a request)
asks_same a request can = subst (SameNode with_it) (sym whole) (control_same with_it default_channel (gsmp_octets (message_at with_it.controller.desk standing)))
  where
    below : (n last : ℕ) → n < last → (n == last) ≡ false
    below n last less = grind (arith, nat_tests)

    with_it : Acted
    with_it = with_desk a (asked a.controller.desk request)

    standing : Standing
    standing = record { number = a.controller.desk.next; request = request }

    whole : asks a request ≡ sends_request with_it standing
    whole = ap (λ (t : Bool). if t then (if a.controller.desk.next == last_transaction then node_resets a else asks_next a request) else a) can.up
        ∙ ap (λ (t : Bool). if t then node_resets a else asks_next a request) (below a.controller.desk.next last_transaction can.number_left)

-- *A port has worked*: it is put back, and these requests were asked
pub record Worked (a after : Acted) (linked : Linked) (q : Port) (requests : List Request) : Type 0 where
  pub ports : after.controller.ports ≡ put_ports a.controller.ports linked q
  pub desk : after.controller.desk ≡ fold asked a.controller.desk requests
  pub adjacency : after.controller.adjacency ≡ a.controller.adjacency
  pub waiting : after.controller.waiting ≡ a.controller.waiting

pub works_plain : (a : Acted) (linked : Linked) (w : Work) → Every IsPlain w.actions → Worked a (works_as a linked w) linked w.port []
works_plain a linked w plain = by (plain_all linked.setup.port w.actions (with_work a linked w) plain)
  where
    by : SameNode (with_work a linked w) (works_as a linked w) → Worked a (works_as a linked w) linked w.port []
    by s = record { ports = s.ports; desk = s.desk; adjacency = s.adjacency; waiting = s.waiting }

pub works_ask : (a : Acted) (linked : Linked) (w : Work) (request : Request) (needed : Bool) → CanAsk a → w.actions ≡ Ask request needed ∷ [] → Worked a (works_as a linked w) linked w.port (request ∷ [])
works_ask a linked w request needed can is = by (asks_same begun request (record { up = can.up; number_left = can.number_left }))
  where
    begun : Acted
    begun = with_work a linked w

    whole : works_as a linked w ≡ asks begun request
    whole = ap (λ (done : List Action). fold (performs_in_estab linked.setup.port) begun done) is ∙ ap (λ (t : Bool). if t then asks begun request else begun) can.up

    by : SameNode (with_desk begun (asked begun.controller.desk request)) (asks begun request) → Worked a (works_as a linked w) linked w.port (request ∷ [])
    by s = record {
      ports = ap (λ (x : Acted). x.controller.ports) whole ∙ s.ports;
      desk = ap (λ (x : Acted). x.controller.desk) whole ∙ s.desk;
      adjacency = ap (λ (x : Acted). x.controller.adjacency) whole ∙ s.adjacency;
      waiting = ap (λ (x : Acted). x.controller.waiting) whole ∙ s.waiting;
    }

-- *So its inputs are mirrored*
pub turn_none : (a after : Acted) (ports : List Linked) → after.controller.ports ≡ ports → after.controller.desk ≡ a.controller.desk
    → ((input : End) → LeadAlike a.controller.ports ports input) → AsksMirrored a after []
turn_none a after ports same desk alike = record {
  desk = desk;
  mirrors = λ branches way input h. subst (λ (on_way : List Request). Mirrors after.controller.ports after.controller.desk branches on_way input) (sym (append-nil way))
      (subst (λ (x : List Linked). Mirrors x after.controller.desk branches way input) (sym same)
      (subst (λ (d : Desk). Mirrors ports d branches way input) (sym desk)
      (like_ports_mirror a.controller.ports ports a.controller.desk branches way input (alike input) h)));
}

pub turn_asks : (a after : Acted) (ports : List Linked) (request : Request) → after.controller.ports ≡ ports → after.controller.desk ≡ asked a.controller.desk request → IsAsked request
    → ((input : End) → concerns input request ≡ true → MayAsk a.controller.ports a.controller.desk request input)
    → ((input : End) → concerns input request ≡ false → LeadAlike a.controller.ports ports input) → AsksMirrored a after (request ∷ [])
turn_asks a after ports request same desk shape may alike = record {
  desk = desk;
  mirrors = λ branches way input h. subst (λ (x : List Linked). Mirrors x after.controller.desk branches (way ++ request ∷ []) input) (sym same)
      (subst (λ (d : Desk). Mirrors ports d branches (way ++ request ∷ []) input) (sym desk)
      (asking_keeps_mirrors a.controller.ports ports a.controller.desk branches way request input shape (may input) (alike input) h));
}

pub at_port_is : (a : Acted) (port : PortNo) (rule : Rule) (linked : Linked) → linked_at a.controller port ≡ Some linked
    → at_port a port rule ≡ works_as a linked (rule linked.setup a.controller.desk (begins a linked))
at_port_is a port rule linked found = ap (works a rule) found

pub plain_work_keeps_mirrors : PlainWorkKeepsMirrors
plain_work_keeps_mirrors a linked rule found is = subst (λ (x : Acted). AsksMirrored a x []) (sym (at_port_is a linked.setup.port rule linked found)) (by (works_plain a linked w is.plain))
  where
    w : Work
    w = rule linked.setup a.controller.desk (begins a linked)

    by : Worked a (works_as a linked w) linked w.port [] → AsksMirrored a (works_as a linked w) []
    by worked = turn_none a (works_as a linked w) (put_ports a.controller.ports linked w.port) worked.ports worked.desk is.alike
