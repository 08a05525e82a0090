-- a frame that a tick sends stands among what the tick puts

use Rattle.std.proofs.Common.{◌≡◌, ℕ, ◌+◌, Bool, true, List, [], ◌∷◌, ◌++◌, append_assoc, length, Option, Some, refl, sym, ◌∙◌, ap, subst, if◌then◌else◌, fold}
use Rattle.std.specs.Prelude.{drop, flat_map, nat_le}
use Rattle.std.specs.Option.{option_map_or}
use Rattle.std.proofs.Math.Seq.{drop-append_seam}
use Rattle.world_model.specs.Words.{NodeId, PortNo, Channel, Mark, Down, Cell, Ack, said, greeting_of, Loss, PoolFull, noted, made, frame_cells, next_control, with_control, default_channel, default_home, default_payload, ifmp_packet_of, Controller, Linked, inputs_at, label_on, tries_join, tries_joins, with_linked, says_ifmp, Topology, World, Site, site_key, site_at, at, put, controller_acts, queue_in, queue_at, put_away, next}
use Rattle.world_model.specs.frame_model.Sending.{Sender}
use Rattle.world_model.specs.gsmp_wire.Layout.{octets_of as gsmp_octets}
use Rattle.world_model.specs.gsmp_wire.declared.message.Message.TheVariants.{Adjacency}
use Rattle.world_model.specs.ifmp_wire.Message.{octets_of as ifmp_octets}
use Rattle.world_model.specs.ifmp_wire.declared.message.Message.{Message}
use Rattle.world_model.specs.Controller.{Acted, free_slots}
use Rattle.world_model.specs.Sending.{with_cells, sends}
use Rattle.world_model.specs.Ticks.{ticks}
use Rattle.world_model.specs.network_model.declared.event.Event.TheVariants.{Tick}
use Rattle.world_model.proofs.Lists.{at_key, at_put_same}
use Rattle.law_passing.proofs.Rules.{Adds, itself, adds_then, adds_fold, same, sends_control_adds, says_gsmp_adds}
use Rattle.law_passing.proofs.Controllers.{tries_label_adds, ticks_adds}
use Rattle.law_live_nodes.specs.Law.{IsNodeAtPeace, ticked_port, messages_of, port_ticks, greeted}
use Rattle.law_live_nodes.proofs.Ports.{nodes_tick_on}
use Rattle.law_live_saying.specs.Law.{Puts, ticking, IsToSay, saying, frame_said, MessagesArePut, greeting_said, GreetingsArePut}

fold_both : {A B : Type 0} (f : B → A → B) (xs ys : List A) (b : B) → fold f b (xs ++ ys) ≡ fold f (fold f b xs) ys
fold_both f [] ys b = refl
fold_both f (x ∷ xs) ys b = fold_both f xs ys (f b x)

-- *A frame is sent* where there are slots for it
sent : (b : Acted) (channel : Channel) (mark : Mark) (payload : List ℕ) → nat_le (length (frame_cells channel mark payload)) (free_slots b.controller) ≡ true
    → (sends b channel mark payload).controller.queue ≡ b.controller.queue ++ frame_cells channel mark payload
sent b channel mark payload room =
    let with_all : Sender Controller = record { queues = with_cells b.controller (frame_cells channel mark payload); notes = made b.notes mark payload } in
    let without : Sender Controller = record { queues = b.controller; notes = noted (made b.notes mark payload) (Loss mark PoolFull) } in
    ap (λ (t : Bool). (if t then with_all else without).queues.queue) room

-- *Rules that only add*
says_adds : (port : PortNo) (b : Acted) (message : Message) → Adds b (says_ifmp port b message)
says_adds port b message = sends_control_adds b (default_home port).channel (default_payload (ifmp_packet_of b.controller.address (ifmp_octets message)))

all_said : (port : PortNo) (messages : List Message) (b : Acted) → Adds b (fold (says_ifmp port) b messages)
all_said port messages b = adds_fold (says_ifmp port) (says_adds port) messages b

port_adds : (b : Acted) (linked : Linked) → Adds b (port_ticks b linked)
port_adds b linked = adds_then b (with_linked b (ticked_port linked)) (port_ticks b linked) (same b (with_linked b (ticked_port linked)) refl refl)
    (all_said linked.setup.port (messages_of linked) (with_linked b (ticked_port linked)))

ports_add : (ports : List Linked) (b : Acted) → Adds b (fold port_ticks b ports)
ports_add ports b = adds_fold port_ticks port_adds ports b

joins_add : (b : Acted) → Adds b (tries_joins b)
joins_add b = adds_fold tries_join (λ c input. tries_label_adds c input (label_on c.controller input)) (flat_map inputs_at b.controller.ports) b

abbrev calm : Acted → Acted
calm a = record a { controller = record a.controller { adjacency = record a.controller.adjacency { silence = a.controller.adjacency.silence + 1 } } }

greeted_adds : (a : Acted) → Adds a (greeted a)
greeted_adds a = adds_then a (calm a) (greeted a) (same a (calm a) refl refl) (says_gsmp_adds (calm a) (Adjacency (greeting_of (said a.controller.adjacency Ack))))

-- *A node ticks*
module _ (topology : Topology) (w : World) (node : NodeId) (site : Site) (found : site_at w node ≡ Some site) where
  abbrev a : Acted
  a = ticking w site

  abbrev new : Site
  new = record site { controller = (ticks a).controller }

  key : site_key new ≡ node.0
  key = ap (λ (n : NodeId). n.0) (ticks_adds a).node ∙ at_key site_key node.0 w.sites site found

  ticked : site_at (next topology w (Tick node)) node ≡ Some new
  ticked = ap (λ (o : Option Site). at site_key node.0 (controller_acts (put_away w) o ticks).sites) found
      ∙ subst (λ (n : ℕ). at site_key n (put site_key new w.sites) ≡ Some new) key
      (at_put_same site_key new w.sites site (subst (λ (n : ℕ). at site_key n w.sites ≡ Some site) (sym key) found))

  queue_then : queue_at (next topology w (Tick node)) (Down node) ≡ (ticks a).controller.queue
  queue_then = ap (λ (o : Option Site). option_map_or (λ s. queue_in s (Down node)) o []) ticked

  queue_now : queue_at w (Down node) ≡ site.controller.queue
  queue_now = ap (λ (o : Option Site). option_map_or (λ s. queue_in s (Down node)) o []) found

  -- what is added between what was and what comes later is put
  puts : (cells : List Cell) (s t : Acted) → Adds a s → t.controller.queue ≡ s.controller.queue ++ cells → Adds t (ticks a) → Puts topology w (Tick node) (Down node) cells
  puts cells s t earlier is later = record {
    front = earlier.queue.more;
    after = later.queue.more;
    is = ap (λ (q : List Cell). drop (length (queue_at w (Down node))) q) whole ∙ drop-append_seam (queue_at w (Down node)) (earlier.queue.more ++ (cells ++ later.queue.more));
  }
    where
      whole : queue_at (next topology w (Tick node)) (Down node) ≡ queue_at w (Down node) ++ (earlier.queue.more ++ (cells ++ later.queue.more))
      whole = queue_then ∙ (later.queue.is ∙ (ap (λ (q : List Cell). q ++ later.queue.more) (is ∙ ap (λ (q : List Cell). q ++ cells) earlier.queue.is)
          ∙ (append_assoc (site.controller.queue ++ earlier.queue.more) cells later.queue.more
          ∙ (append_assoc site.controller.queue earlier.queue.more (cells ++ later.queue.more)
          ∙ ap (λ (q : List Cell). q ++ (earlier.queue.more ++ (cells ++ later.queue.more))) (sym queue_now)))))

  module _ (peace : IsNodeAtPeace a) where
    -- *The greeting*
    greeting_put : nat_le (length (greeting_said a)) (free_slots site.controller) ≡ true → Puts topology w (Tick node) (Down node) (greeting_said a)
    greeting_put room = puts (greeting_said a) a (greeted a) (itself a)
        (sent (record (calm a) { numbers = with_control a.numbers }) default_channel (next_control a.numbers) (gsmp_octets (Adjacency (greeting_of (said a.controller.adjacency Ack)))) room)
        (subst (Adds (greeted a)) (sym (nodes_tick_on a peace))
        (adds_then (greeted a) (fold port_ticks (greeted a) site.controller.ports) (tries_joins (fold port_ticks (greeted a) site.controller.ports))
        (ports_add site.controller.ports (greeted a)) (joins_add (fold port_ticks (greeted a) site.controller.ports))))

    -- *A message*
    module _ (linked : Linked) (message : Message) (m : IsToSay a linked message) where
      abbrev port : PortNo
      port = linked.setup.port

      abbrev before_it : Acted
      before_it = fold port_ticks (greeted a) m.before

      abbrev says_it : Acted
      says_it = saying a linked m.before m.first

      abbrev said_it : Acted
      said_it = says_ifmp port says_it message

      abbrev port_done : Acted
      port_done = fold (says_ifmp port) said_it m.rest

      abbrev all_done : Acted
      all_done = fold port_ticks port_done m.after

      one_port : port_ticks before_it linked ≡ port_done
      one_port = ap (fold (says_ifmp port) (with_linked before_it (ticked_port linked))) m.messages
          ∙ fold_both (says_ifmp port) m.first (message ∷ m.rest) (with_linked before_it (ticked_port linked))

      whole_tick : ticks a ≡ tries_joins all_done
      whole_tick = nodes_tick_on a peace ∙ ap (λ (b : Acted). tries_joins b)
          (ap (fold port_ticks (greeted a)) m.ports ∙ (fold_both port_ticks m.before (linked ∷ m.after) (greeted a) ∙ ap (λ (b : Acted). fold port_ticks b m.after) one_port))

      said_before : Adds a says_it
      said_before = adds_then a before_it says_it (adds_then a (greeted a) before_it (greeted_adds a) (ports_add m.before (greeted a)))
          (adds_then before_it (with_linked before_it (ticked_port linked)) says_it (same before_it (with_linked before_it (ticked_port linked)) refl refl)
          (all_said port m.first (with_linked before_it (ticked_port linked))))

      said_later : Adds said_it (ticks a)
      said_later = subst (Adds said_it) (sym whole_tick)
          (adds_then said_it all_done (tries_joins all_done) (adds_then said_it port_done all_done (all_said port m.rest said_it) (ports_add m.after port_done)) (joins_add all_done))

      message_put : nat_le (length (frame_said says_it port message)) (free_slots says_it.controller) ≡ true → Puts topology w (Tick node) (Down node) (frame_said says_it port message)
      message_put room = puts (frame_said says_it port message) says_it said_it said_before
          (sent (record says_it { numbers = with_control says_it.numbers }) (default_home port).channel (next_control says_it.numbers)
          (default_payload (ifmp_packet_of says_it.controller.address (ifmp_octets message))) room) said_later

pub messages_are_put : MessagesArePut
messages_are_put topology w node site linked message found peace is room = message_put topology w node site found peace linked message is room

pub greetings_are_put : GreetingsArePut
greetings_are_put topology w node site found peace room = greeting_put topology w node site found peace room
