-- ports at peace tick, one after another

use Rattle.std.proofs.Common.{◌≡◌, ◌≢◌, ℕ, zero, suc, ◌<◌, ◌+◌, Bool, true, false, List, [], ◌∷◌, ◌++◌, append_assoc, length, take, Option, None, Some, refl, sym, ◌∙◌, ap, subst, arith, if◌then◌else◌, map, fold}
use Rattle.std.specs.Prelude.{nat_le, nat_lt}
use Rattle.std.specs.Option.{option_map_or}
use Rattle.std.proofs.lemmas.Bool.Decides.{nat_tests}
use Rattle.world_model.specs.Words.{PortNo, Instance, Channel, Mark, Ack, Estab, State, Party, Says, Resets, Side, Step, Send, said, followed_tick, tick_reply, ticked, greeting_of, is_estab, Action, Ask, CutChain, Note, Say, TakeBack, Withdraw, Setup, Label, redirect, own_instance, Session, Work, begins, at, put, default_channel, default_home, frame_cells, made, noted, Loss, PoolFull, next_control, with_control, ifmp_packet_of, default_payload, Controller, Linked, linked_at, port_key, with_linked, says_ifmp, sends_again, sends_request, sent_again, performs_in_estab, works, works_as, tries_joins, ticks_port, ticks_ports}
use Rattle.world_model.specs.port_model.declared.action.Action.TheVariants.{Reset}
use Rattle.world_model.specs.adjacency_table.Side.{counted}
use Rattle.world_model.specs.adjacency_table.Table.{silence_limit}
use Rattle.world_model.specs.gsmp_wire.Layout.{octets_of as gsmp_octets}
use Rattle.world_model.specs.gsmp_wire.declared.message.Message.TheVariants.{Adjacency}
use Rattle.world_model.specs.ifmp_wire.Message.{octets_of as ifmp_octets}
use Rattle.world_model.specs.ifmp_wire.declared.message.Message.{Message}
use Rattle.world_model.specs.port_model.Desk.{Desk, Standing}
use Rattle.world_model.specs.port_model.Saying.{peer_instance}
use Rattle.world_model.specs.port_model.Ticks as port_rules
use Rattle.world_model.specs.frame_model.Sending.{Sender}
use Rattle.world_model.specs.Controller.{Acted, free_slots}
use Rattle.world_model.specs.Sending.{with_cells, sends}
use Rattle.world_model.specs.Ticks.{ticks, ticks_with}
use Rattle.law_port_facts.specs.ordered_lists.Ordered.{Every, InOrder}
use Rattle.law_port_facts.proofs.Keyed.{on_both}
use Rattle.law_live_ticks.specs.Law.{IsAtPeace, is_due, redirects, next_port, ticked_on}
use Rattle.law_live_ticks.proofs.Places.{at_place, put_place, one_before}
use Rattle.law_live_ticks.proofs.Ticking.{ports_tick_on}
use Rattle.law_live_nodes.specs.Law.{idle_work, IsPortAtPeace, IsNodeAtPeace, ticked_port, told_by, messages_of, port_ticks, greeted, NodesTickOn}

-- *What is sent* changes no port, nothing at the desk, and not the adjacency with the switch
pub record SameRest (before after : Controller) : Type 0 where
  pub ports : after.ports ≡ before.ports
  pub desk : after.desk ≡ before.desk
  pub adjacency : after.adjacency ≡ before.adjacency

sent_rest : (a : Acted) (channel : Channel) (mark : Mark) (payload : List ℕ) → SameRest a.controller (sends a channel mark payload).controller
sent_rest a channel mark payload = on_both (λ (s : Sender Controller). SameRest a.controller s.queues) (nat_le (length (frame_cells channel mark payload)) (free_slots a.controller))
    (record { queues = with_cells a.controller (frame_cells channel mark payload); notes = made a.notes mark payload })
    (record { queues = a.controller; notes = noted (made a.notes mark payload) (Loss mark PoolFull) })
    (record { ports = refl; desk = refl; adjacency = refl }) (record { ports = refl; desk = refl; adjacency = refl })

said_rest : (a : Acted) (port : PortNo) (message : Message) → SameRest a.controller (says_ifmp port a message).controller
said_rest a port message = sent_rest (record a { numbers = with_control a.numbers }) (default_home port).channel (next_control a.numbers)
    (default_payload (ifmp_packet_of a.controller.address (ifmp_octets message)))

all_said : (port : PortNo) (messages : List Message) (a : Acted) → SameRest a.controller (fold (says_ifmp port) a messages).controller
all_said port [] a = record { ports = refl; desk = refl; adjacency = refl }
all_said port (message ∷ messages) a =
    let one = said_rest a port message in
    let rest = all_said port messages (says_ifmp port a message) in
    record { ports = rest.ports ∙ one.ports; desk = rest.desk ∙ one.desk; adjacency = rest.adjacency ∙ one.adjacency }

-- *Actions that only say*
abbrev pub OnlySays : Action → Type 0
OnlySays (Say message) = Unit {0}
OnlySays action = ⊥

says_only : (port : PortNo) (actions : List Action) (a : Acted) → Every OnlySays actions → is_estab a.controller.adjacency.state ≡ true
    → fold (performs_in_estab port) a actions ≡ fold (says_ifmp port) a (told_by actions)
says_only port [] a only up = refl
says_only port (Say message ∷ actions) a only up =
    ap (λ (b : Bool). fold (performs_in_estab port) (if b then says_ifmp port a message else a) actions) up
    ∙ says_only port actions (says_ifmp port a message) only.1 (ap (λ (side : Side Party). is_estab side.state) (said_rest a port message).adjacency ∙ up)
says_only port (Ask request needed ∷ actions) a only up = absurd only.0
says_only port (Note item ∷ actions) a only up = absurd only.0
says_only port (CutChain label ∷ actions) a only up = absurd only.0
says_only port (TakeBack input output ∷ actions) a only up = absurd only.0
says_only port (Withdraw input ∷ actions) a only up = absurd only.0
says_only port (Reset ∷ actions) a only up = absurd only.0

redirects_say : (setup : Setup) (own peer : Instance) (number : ℕ) (labels : List Label) → Every OnlySays (redirects setup own peer number labels)
redirects_say setup own peer number [] = tt
redirects_say setup own peer number (label ∷ labels) = on_both (Every OnlySays) (is_due setup label)
    (Say (redirect setup label own peer number) ∷ redirects setup own peer (number + 1) labels) (redirects setup own peer number labels)
    (tt, redirects_say setup own peer (number + 1) labels) (redirects_say setup own peer number labels)

-- *One port*
module _ (a : Acted) (linked : Linked) (is : IsPortAtPeace linked) (found : linked_at a.controller linked.setup.port ≡ Some linked)
    (up : is_estab a.controller.adjacency.state ≡ true) where
  abbrev beginning : Work
  beginning = begins a linked

  peace : IsAtPeace linked.setup beginning is.session
  peace = record {
    going = refl;
    up = is.peace.up;
    heard = is.peace.heard;
    is_open = is.peace.is_open;
    labels = is.peace.labels;
    labels_apart = is.peace.labels_apart;
    grants = is.peace.grants;
    grants_apart = is.peace.grants_apart;
    numbers = is.peace.numbers;
  }

  abbrev left_port : Linked
  left_port = record linked { port = next_port linked.setup beginning is.session }

  abbrev said_actions : List Action
  said_actions = (ticked_on linked.setup beginning is.session).actions

  one_port : ticks_port a linked.setup.port ≡ port_ticks a linked
  one_port = ap (works a port_rules.ticks) found
      ∙ (ap (works_as a linked) (ports_tick_on linked.setup a.controller.desk beginning is.session peace)
      ∙ (says_only linked.setup.port said_actions (with_linked a left_port) (tt, redirects_say linked.setup (own_instance linked.port.adjacency) (peer_instance linked.port.adjacency) is.session.number is.session.labels) up
      ∙ ap (λ (o : Option Session). fold (says_ifmp linked.setup.port)
      (with_linked a (option_map_or (λ (s : Session). record linked { port = next_port linked.setup (idle_work linked) s }) o linked))
      (option_map_or (λ (s : Session). told_by (ticked_on linked.setup (idle_work linked) s).actions) o [])) (sym is.peace.is_open)))

-- its number stays
ticked_key : (linked : Linked) → port_key (ticked_port linked) ≡ port_key linked
ticked_key linked = by linked.port.session
  where
    by : (o : Option Session) → port_key (option_map_or (λ (s : Session). record linked { port = next_port linked.setup (idle_work linked) s }) o linked) ≡ port_key linked
    by None = refl
    by (Some s) = refl

-- *All ports*
abbrev AreApart : List Linked → List Linked → Type 0
AreApart before after = Every (λ (x : Linked). Every (λ (b : Linked). port_key b ≢ port_key x) before) after

more_apart : (before : List Linked) (linked : Linked) (after : List Linked) → AreApart before after → Every (λ (x : Linked). port_key linked < port_key x) after
    → AreApart (before ++ ticked_port linked ∷ []) after
more_apart before linked [] apart behind = tt
more_apart before linked (x ∷ after) apart behind =
    (one_before port_key before linked (ticked_port linked) (port_key x) (below (port_key linked) (port_key x) behind.0) apart.0 (ticked_key linked), more_apart before linked after apart.1 behind.1)
  where
    below : (m n : ℕ) → m < n → m ≢ n
    below m n less same = omega (arith, less, same)

all_ports : (before after : List Linked) (a : Acted) → a.controller.ports ≡ before ++ after → AreApart before after
    → InOrder (λ (x y : Linked). port_key x < port_key y) after → Every IsPortAtPeace after → is_estab a.controller.adjacency.state ≡ true
    → fold ticks_port a (map (λ (linked : Linked). linked.setup.port) after) ≡ fold port_ticks a after
all_ports before [] a ports apart order peace up = refl
all_ports before (linked ∷ after) a ports apart order peace up =
    ap (λ (b : Acted). fold ticks_port b (map (λ (linked : Linked). linked.setup.port) after))
    (one_port a linked peace.0 (ap (at port_key (port_key linked)) ports ∙ at_place port_key before linked after apart.0) up)
    ∙ all_ports (before ++ ticked_port linked ∷ []) after (port_ticks a linked)
    (rest.ports ∙ (ap (put port_key (ticked_port linked)) ports
    ∙ (put_place port_key before linked (ticked_port linked) after (sym (ticked_key linked)) (subst (λ k. Every (λ (b : Linked). port_key b ≢ k) before) (sym (ticked_key linked)) apart.0)
    ∙ sym (append_assoc before (ticked_port linked ∷ []) after))))
    (more_apart before linked after apart.1 order.0) order.1 peace.1 (ap (λ (side : Side Party). is_estab side.state) rest.adjacency ∙ up)
  where
    rest : SameRest (with_linked a (ticked_port linked)).controller (port_ticks a linked).controller
    rest = all_said linked.setup.port (messages_of linked) (with_linked a (ticked_port linked))

-- *The adjacency with the switch*
ticked_up : (side : Side Party) → side.state ≡ Estab → side.silence < silence_limit
    → ticked side ≡ record { side = record side { silence = side.silence + 1 }; answer = Send (said side Ack) }
ticked_up side up heard =
    ap (followed_tick side) (ap (λ (st : State). tick_reply st (counted st side.silence)) up ∙ ap (λ (b : Bool). if b then Resets else Says Ack) (short side.silence silence_limit heard))
    ∙ ap (λ (st : State). let step : Step Party = record { side = record side { silence = counted st side.silence }; answer = Send (said side Ack) } in step) up
  where
    short : (n limit : ℕ) → n < limit → nat_lt limit (n + 1) ≡ false
    short n limit low = grind (arith, nat_tests)

none_taken : (n : ℕ) (none : List Standing) → none ≡ [] → take n none ≡ []
none_taken zero none is = refl
none_taken (suc n) none is = ap (take (suc n)) is

module _ (a : Acted) (is : IsNodeAtPeace a) where
  abbrev calm : Acted
  calm = record a { controller = record a.controller { adjacency = record a.controller.adjacency { silence = a.controller.adjacency.silence + 1 } } }

  abbrev now : Acted
  now = greeted a

  rest : SameRest calm.controller now.controller
  rest = sent_rest (record calm { numbers = with_control calm.numbers }) default_channel (next_control calm.numbers) (gsmp_octets (Adjacency (greeting_of (said a.controller.adjacency Ack))))

  up : is_estab now.controller.adjacency.state ≡ true
  up = ap (λ (side : Side Party). is_estab side.state) rest.adjacency ∙ ap is_estab is.up

  asks_nothing : sends_again now ≡ now
  asks_nothing = ap (λ (b : Bool). if b then fold sends_request now (sent_again now.controller.desk) else now) up
      ∙ (ap (λ (desk : Desk). fold sends_request now (sent_again desk)) rest.desk
      ∙ ap (fold sends_request now) (none_taken 32 a.controller.desk.standing is.nothing_asked))

  none_before : (ports : List Linked) → AreApart [] ports
  none_before [] = tt
  none_before (linked ∷ ports) = (tt, none_before ports)

  nodes_tick : ticks a ≡ tries_joins (fold port_ticks now a.controller.ports)
  nodes_tick = ap (ticks_with a) (ticked_up a.controller.adjacency is.up is.heard)
      ∙ (ap (λ (b : Acted). tries_joins (ticks_ports b)) asks_nothing
      ∙ (ap (λ (ports : List Linked). tries_joins (fold ticks_port now (map (λ (linked : Linked). linked.setup.port) ports))) rest.ports
      ∙ ap tries_joins (all_ports [] a.controller.ports now rest.ports (none_before a.controller.ports) is.ports_apart is.ports up)))

pub nodes_tick_on : NodesTickOn
nodes_tick_on a is = nodes_tick a is
