-- what a controller asks, and what a port at work has asked: it has a shape, and Delete All waits until all ports are
-- told to be up

use Rattle.std.proofs.Common.{◌≡◌, ◌≢◌, ℕ, ◌+◌, ◌<◌, ◌≤◌, true, false, not, List, [], ◌∷◌, ◌++◌, map, filter, length, fold, Option, None, Some, refl, sym, ◌∙◌, subst, arith, if◌then◌else◌}
use Rattle.std.specs.Prelude.{◌==◌, nat_le}
use Rattle.std.proofs.lemmas.Bool.Decides.{nat_tests}
use Rattle.law_branch_shapes.specs.world_model.Words.{Channel, End, PortNo, Mark, next_control, with_control, is_estab, Cell, IsLinkPort, default_payload, ifmp_packet_of, Request, MoveBranch, Frame, PoolFull, Loss, noted, frame_cells, made, Desk, Standing, is_led_home, last_transaction, withdraws, Action, Say, Ask, Note, CutChain, TakeBack, Withdraw, Setup, home_of, Work, resets, Controller, Linked, linked_at, with_desk, default_channel, default_home, sends_control, says_gsmp, asks_next, asks, takes_back, begins, with_work, resets_gsmp, port_restarts, node_resets, does, does_in_estab, resets_of, performs, performs_in_estab, Rule, works, works_as, at_port}
use Rattle.law_branch_shapes.specs.world_model.ifmp_wire.Message.{octets_of as ifmp_octets}
use Rattle.law_branch_shapes.specs.world_model.gsmp_wire.Layout.{octets_of as gsmp_octets}
use Rattle.law_branch_shapes.specs.world_model.gsmp_wire.declared.message.Message.{Message}
use Rattle.law_frame_readings.specs.ordered_lists.Ordered.{Every}
use Rattle.law_frame_readings.proofs.ordered_lists.Every.{every_join}
use Rattle.law_frame_readings.proofs.ordered_lists.Parts.{part_filtered, every_part}
use Rattle.law_branch_shapes.specs.world_model.frame_model.Sending.{Sender}
use Rattle.law_branch_shapes.specs.world_model.port_model.Desk.{asked, message_at}
use Rattle.law_branch_shapes.specs.world_model.port_model.declared.action.Action.TheVariants as actions
use Rattle.law_frame_readings.specs.law_port_facts.Port.{setup_port, IsAction, IsShaped, parts_label}
use Rattle.law_frame_readings.proofs.law_port_facts.Keyed.{on_both, on_each, at_every}
use Rattle.law_frame_readings.proofs.law_port_facts.Joins.{resets_kept}
use Rattle.law_branch_shapes.specs.world_model.Controller.{Acted, free_slots, ports_of}
use Rattle.law_branch_shapes.specs.world_model.Sending.{with_cells, sends}
use Rattle.law_frame_readings.proofs.law_controller_facts.Moves.{Moves, HasPorts, Found, Worked, by_reset, placing, moves_to, moves_ports, found_setup, found_at_own, begun, worked_kept}
use Rattle.law_frame_readings.proofs.law_controller_facts.Performing.{does_in_estab_goes, performs_in_estab_goes}
use Rattle.law_input_events.proofs.law_input_steps.Resets.{IsStill, still_fold, restarts_still, cuts_still, note_still}
use Rattle.law_input_events.specs.law_input_premises.Read.{AreRead}
use Rattle.law_running_worlds.specs.Mode.{AreUp}
use Rattle.law_running_worlds.specs.New.{AsksShaped, SinceThen}
use Rattle.law_running_worlds.specs.Fine.{IsFine, Allows}
use Rattle.law_running_worlds.specs.Mode.{Mode, Told, Untold, IsMildStanding, Knows}
use Rattle.law_running_worlds.proofs.Cells.{since_made, since_said, since_elsewhere, since_packet}
use Rattle.law_running_worlds.proofs.Greetings.{request_asks}
use Rattle.law_input_events.proofs.Packets.{home_apart}

abbrev pub AllowsAction : Mode → Action → Type 0
AllowsAction m (Ask request needed) = Allows m request
AllowsAction Told actions.Reset = Unit {0}
AllowsAction Untold actions.Reset = ⊥
AllowsAction m action = Unit {0}

pub told_allows : (xs : List Action) → Every (AllowsAction Told) xs
told_allows [] = tt
told_allows (Say message ∷ xs) = (tt, told_allows xs)
told_allows (Ask request needed ∷ xs) = (tt, told_allows xs)
told_allows (Note item ∷ xs) = (tt, told_allows xs)
told_allows (CutChain label ∷ xs) = (tt, told_allows xs)
told_allows (TakeBack input output ∷ xs) = (tt, told_allows xs)
told_allows (Withdraw input ∷ xs) = (tt, told_allows xs)
told_allows (actions.Reset ∷ xs) = (tt, told_allows xs)

pub room_left : (n : ℕ) → n ≤ last_transaction → (n == last_transaction) ≡ false → n < last_transaction
room_left n le e = grind (arith, nat_tests)

module _ (setups : List Setup) (links : Every (λ (setup : Setup). IsLinkPort setup.port) setups) (Old : Cell → Type 0) (Gathered : Cell → Type 0) (began : List Frame) (marks : ℕ) where
  abbrev pub setup_ports : List PortNo
  setup_ports = map (λ (setup : Setup). setup.port) setups

  abbrev pub Queued : Acted → Type 0
  Queued a = SinceThen Old (AsksShaped setups) began marks a.controller.queue a.notes.frames a.numbers.controls

  -- *What is so of it while it acts*
  abbrev pub Fine : Mode → Acted → Type 0
  Fine = IsFine setups Old Gathered began marks

  knows_same : (m : Mode) (c d : Controller) → d.desk ≡ c.desk → d.has_met ≡ c.has_met → Knows setups m c → Knows setups m d
  knows_same Told c d desk met k = subst (λ (x : Desk). AreUp x.rows setup_ports) (sym desk) k
  knows_same Untold c d desk met k = (met ∙ k.0, subst (λ (x : Desk). Every IsMildStanding x.standing) (sym desk) k.1)

  same_queue : (a b : Acted) → b.controller.queue ≡ a.controller.queue → b.notes.frames ≡ a.notes.frames → b.numbers.controls ≡ a.numbers.controls → Queued a → Queued b
  same_queue a b queue frames controls h =
      let Since : List Cell → List Frame → ℕ → Type 0 = SinceThen Old (AsksShaped setups) began marks in
      subst (λ (n : ℕ). Since b.controller.queue b.notes.frames n) (sym controls)
      (subst (λ (f : List Frame). Since b.controller.queue f a.numbers.controls) (sym frames)
      (subst (λ (q : List Cell). Since q a.notes.frames a.numbers.controls) (sym queue) h))

  pub still_fine : (m : Mode) (a b : Acted) → IsStill a b → Fine m a → Fine m b
  still_fine m a b s h = record {
    queue = same_queue a b s.queue s.frames s.controls h.queue;
    gathered = subst (λ r. Every Gathered r.chain) (sym s.gathered) h.gathered;
    reads = subst (λ (d : Desk). AreRead setups d.rows) (sym s.desk) h.reads;
    room = subst (λ (d : Desk). d.next ≤ last_transaction) (sym s.desk) h.room;
    knows = knows_same m a.controller b.controller s.desk s.met h.knows;
  }

  -- *A node reset*
  reset_knows : (m : Mode) (a : Acted) → Knows setups m a.controller → Knows setups m (resets_gsmp a).controller
  reset_knows Told a k = k
  reset_knows Untold a k = (refl, tt)

  pub node_fine : (m : Mode) (a : Acted) → Fine m a → Fine m (node_resets a)
  node_fine m a h = still_fine m (resets_gsmp a) (node_resets a) (still_fold port_restarts (λ b port. restarts_still b (linked_at b.controller port)) (ports_of a.controller) (resets_gsmp a))
      (record { queue = h.queue; gathered = h.gathered; reads = h.reads; room = h.room; knows = reset_knows m a h.knows })

  -- *What is sent*
  sent_knows : (m : Mode) (c : Controller) (cells : List Cell) → Knows setups m c → Knows setups m (with_cells c cells)
  sent_knows Told c cells k = k
  sent_knows Untold c cells k = k

  sent_fine : (m : Mode) (a : Acted) (channel : Channel) (payload : List ℕ) → (SinceThen Old (AsksShaped setups) began marks (a.controller.queue ++ frame_cells channel (next_control a.numbers) payload)
      (made a.notes (next_control a.numbers) payload).frames (a.numbers.controls + 1)) → Fine m a → Fine m (sends_control a channel payload)
  sent_fine m a channel payload queued h =
      let b : Acted = record a { numbers = with_control a.numbers } in
      let mark : Mark = next_control a.numbers in
      on_both (λ (s : Sender Controller). Fine m (record b { controller = s.queues; notes = s.notes })) (nat_le (length (frame_cells channel mark payload)) (free_slots b.controller))
      (record { queues = with_cells b.controller (frame_cells channel mark payload); notes = made b.notes mark payload })
      (record { queues = b.controller; notes = noted (made b.notes mark payload) (Loss mark PoolFull) })
      (record { queue = queued; gathered = h.gathered; reads = h.reads; room = h.room; knows = sent_knows m a.controller (frame_cells channel mark payload) h.knows })
      (record { queue = since_made Old (AsksShaped setups) began marks a.controller.queue a.notes.frames a.numbers.controls payload h.queue; gathered = h.gathered; reads = h.reads; room = h.room; knows = h.knows })

  pub says_fine : (m : Mode) (a : Acted) (message : Message) → AsksShaped setups (gsmp_octets message) → Fine m a → Fine m (says_gsmp a message)
  says_fine m a message good h = sent_fine m a default_channel (gsmp_octets message)
      (since_said Old (AsksShaped setups) began marks a.controller.queue a.notes.frames a.numbers.controls (gsmp_octets message) good h.queue) h

  pub elsewhere_fine : (m : Mode) (a : Acted) (channel : Channel) (payload : List ℕ) → channel ≢ default_channel → Fine m a → Fine m (sends_control a channel payload)
  elsewhere_fine m a channel payload apart h = sent_fine m a channel payload
      (since_elsewhere Old (AsksShaped setups) began marks a.controller.queue channel (next_control a.numbers) payload (made a.notes (next_control a.numbers) payload).frames (a.numbers.controls + 1) apart
      (since_made Old (AsksShaped setups) began marks a.controller.queue a.notes.frames a.numbers.controls payload h.queue)) h

  pub packet_fine : (m : Mode) (a : Acted) (channel : Channel) (mark : Mark) (payload : List ℕ) → channel ≢ default_channel → mark.packet ≢ 0 → Fine m a → Fine m (sends a channel mark payload)
  packet_fine m a channel mark payload apart packet h =
      let now : SinceThen Old (AsksShaped setups) began marks a.controller.queue (made a.notes mark payload).frames a.numbers.controls =
      since_packet Old (AsksShaped setups) began marks a.controller.queue a.notes.frames a.numbers.controls mark payload packet h.queue in
      on_both (λ (s : Sender Controller). Fine m (record a { controller = s.queues; notes = s.notes })) (nat_le (length (frame_cells channel mark payload)) (free_slots a.controller))
      (record { queues = with_cells a.controller (frame_cells channel mark payload); notes = made a.notes mark payload })
      (record { queues = a.controller; notes = noted (made a.notes mark payload) (Loss mark PoolFull) })
      (record { queue = since_elsewhere Old (AsksShaped setups) began marks a.controller.queue channel mark payload (made a.notes mark payload).frames a.numbers.controls apart now; gathered = h.gathered; reads = h.reads; room = h.room; knows = sent_knows m a.controller (frame_cells channel mark payload) h.knows })
      (record { queue = now; gathered = h.gathered; reads = h.reads; room = h.room; knows = h.knows })

  -- *Asking*
  asked_knows : (m : Mode) (a : Acted) (request : Request) → Allows m request → Knows setups m a.controller → Knows setups m (with_desk a (asked a.controller.desk request)).controller
  asked_knows Told a request may k = k
  asked_knows Untold a request may k = (
    k.0,
    every_join IsMildStanding (filter (λ (s : Standing). not (withdraws request s.request)) a.controller.desk.standing) (record { number = a.controller.desk.next; request = request } ∷ [])
        (every_part IsMildStanding (part_filtered (λ (s : Standing). not (withdraws request s.request)) a.controller.desk.standing) k.1) (may, tt),
  )

  more : (n : ℕ) → n < last_transaction → n + 1 ≤ last_transaction
  more n less = omega (arith, less)

  pub request_fine : (m : Mode) (a : Acted) (s : Standing) → s.number < last_transaction → IsShaped setups s.request → Fine m a → Fine m (says_gsmp a (message_at a.controller.desk s))
  request_fine m a s less shaped h = says_fine m a (message_at a.controller.desk s) (request_asks setups a.controller.desk.rows s.number s.request (h.reads s.number s.request less shaped) shaped) h

  next_fine : (m : Mode) (a : Acted) (request : Request) → IsShaped setups request → Allows m request → (a.controller.desk.next == last_transaction) ≡ false → Fine m a → Fine m (asks_next a request)
  next_fine m a request shaped may room h =
      let less : a.controller.desk.next < last_transaction = room_left a.controller.desk.next h.room room in
      request_fine m (with_desk a (asked a.controller.desk request)) (record { number = a.controller.desk.next; request = request }) less shaped
      (record { queue = h.queue; gathered = h.gathered; reads = h.reads; room = more a.controller.desk.next less; knows = asked_knows m a request may h.knows })

  pub asks_where_fine : (m : Mode) (a : Acted) (request : Request) → (is_estab a.controller.adjacency.state ≡ true → (a.controller.desk.next == last_transaction) ≡ false → IsShaped setups request) → Allows m request → Fine m a → Fine m (asks a request)
  asks_where_fine m a request shaped may h = on_each (Fine m) (is_estab a.controller.adjacency.state) (if a.controller.desk.next == last_transaction then node_resets a else asks_next a request) a
      (λ estab. on_each (Fine m) (a.controller.desk.next == last_transaction) (node_resets a) (asks_next a request) (λ spent. node_fine m a h) (λ room. next_fine m a request (shaped estab room) may room h)) (λ closed. h)

  pub asks_fine : (m : Mode) (a : Acted) (request : Request) → IsShaped setups request → Allows m request → Fine m a → Fine m (asks a request)
  asks_fine m a request shaped may h = asks_where_fine m a request (λ estab room. shaped) may h

  pub moves_allowed : (m : Mode) (input from to : End) → Allows m (MoveBranch input from to)
  moves_allowed Told input from to = tt
  moves_allowed Untold input from to = tt

  pub takes_back_fine : (m : Mode) (a : Acted) (input output : End) → IsShaped setups (MoveBranch input output (home_of input)) → Fine m a → Fine m (takes_back a input output)
  takes_back_fine m a input output shaped h = on_both (Fine m) (is_led_home a.controller.desk input (home_of input)) a (asks a (MoveBranch input output (home_of input))) h
      (asks_fine m a (MoveBranch input output (home_of input)) shaped (moves_allowed m input output (home_of input)) h)

  -- *Folds*, while the ports are kept
  pub fine_fold : {A : Type 0} (m : Mode) (Q : A → Type 0) (f : Acted → A → Acted) → ((a : Acted) (x : A) → HasPorts setups a → Q x → Moves setups a (f a x)) → ((a : Acted) (x : A) → HasPorts setups a → Q x → Fine m a → Fine m (f a x))
      → (xs : List A) → Every Q xs → (a : Acted) → HasPorts setups a → Fine m a → Fine m (fold f a xs)
  fine_fold m Q f goes each [] all a has h = h
  fine_fold m Q f goes each (x ∷ xs) all a has h = fine_fold m Q f goes each xs all.1 (f a x) (moves_ports setups (goes a x has all.0) has) (each a x has all.0 h)

  -- *One action*
  does_knows : (m : Mode) (a : Acted) (input : End) → Fine m a → Fine m (does (record { 0 = 0 }) a (Withdraw input))
  does_knows Told a input h = record { queue = h.queue; gathered = h.gathered; reads = h.reads; room = h.room; knows = h.knows }
  does_knows Untold a input h = record { queue = h.queue; gathered = h.gathered; reads = h.reads; room = h.room; knows = (h.knows.0, every_part IsMildStanding (part_filtered _ a.controller.desk.standing) h.knows.1) }

  does_fine : (m : Mode) (port : PortNo) → 1 ≤ port.0 → (a : Acted) (x : Action) → IsAction setups x → AllowsAction m x → Fine m a → Fine m (does port a x)
  does_fine m port above a (Say message) fits may h = elsewhere_fine m a (default_home port).channel (default_payload (ifmp_packet_of a.controller.address (ifmp_octets message))) (home_apart port above) h
  does_fine m port above a (Ask request needed) fits may h = asks_fine m a request fits.0 may h
  does_fine m port above a (Note item) fits may h = still_fine m a (does port a (Note item)) (note_still a item) h
  does_fine m port above a (CutChain label) fits may h = still_fine m a (does port a (CutChain label)) (cuts_still a label (linked_at a.controller port)) h
  does_fine m port above a (TakeBack input output) fits may h = takes_back_fine m a input output (parts_label input output fits.0 fits.1) h
  does_fine m port above a (Withdraw input) fits may h = does_knows m a input h
  does_fine m port above a actions.Reset fits may h = h

  in_estab_fine : (m : Mode) (port : PortNo) → 1 ≤ port.0 → (a : Acted) (x : Action) → IsAction setups x → AllowsAction m x → Fine m a → Fine m (does_in_estab port a x)
  in_estab_fine m port above a x fits may h = on_both (Fine m) (is_estab a.controller.adjacency.state) (does port a x) a (does_fine m port above a x fits may h) h

  -- *A port is reset*
  pub found_above : (a : Acted) (linked : Linked) → HasPorts setups a → Found setups a linked → 1 ≤ linked.setup.port.0
  found_above a linked has found = (at_every setup_port (λ (s : Setup). IsLinkPort s.port) linked.setup.port.0 setups linked.setup links (found_setup setups a linked linked.setup.port has found)).0

  placed : (m : Mode) (a : Acted) (linked : Linked) (w : Work) → Fine m a → Fine m (with_work a linked w)
  placed Told a linked w h = record { queue = h.queue; gathered = h.gathered; reads = h.reads; room = h.room; knows = h.knows }
  placed Untold a linked w h = record { queue = h.queue; gathered = h.gathered; reads = h.reads; room = h.room; knows = h.knows }

  abbrev Both : Mode → Action → Type 0
  Both m x = IsAction setups x × AllowsAction m x

  both_each : (m : Mode) (xs : List Action) → Every (IsAction setups) xs → Every (AllowsAction m) xs → Every (Both m) xs
  both_each m [] h k = tt
  both_each m (x ∷ xs) h k = ((h.0, k.0), both_each m xs h.1 k.1)

  resets_fine : (a : Acted) (port : PortNo) (o : Option Linked) → linked_at a.controller port ≡ o → HasPorts setups a → Fine Told a → Fine Told (resets_of a o)
  resets_fine a port None found has h = h
  resets_fine a port (Some linked) found has h =
      let own : Found setups a linked = found_at_own setups a linked port found in
      let w : Work = resets linked.setup (begins a linked) in
      fine_fold Told (Both Told) (does_in_estab linked.setup.port) (λ b x kb fits. does_in_estab_goes setups linked.setup.port b x kb fits.0)
      (λ b x kb fits k. in_estab_fine Told linked.setup.port (found_above a linked has own) b x fits.0 fits.1 k) w.actions
      (both_each Told w.actions (resets_kept setups linked.setup (found_setup setups a linked linked.setup.port has own) (begins a linked) (begun setups a linked port has found)).actions (told_allows w.actions))
      (with_work a linked w) (moves_ports setups (moves_to (placing a linked w own by_reset)) has) (placed Told a linked w h)

  performs_fine : (m : Mode) (port : PortNo) → 1 ≤ port.0 → (a : Acted) (x : Action) → HasPorts setups a → IsAction setups x → AllowsAction m x → Fine m a → Fine m (performs port a x)
  performs_fine m port above a (Say message) has fits may h = does_fine m port above a (Say message) fits may h
  performs_fine m port above a (Ask request needed) has fits may h = does_fine m port above a (Ask request needed) fits may h
  performs_fine m port above a (Note item) has fits may h = does_fine m port above a (Note item) fits may h
  performs_fine m port above a (CutChain label) has fits may h = does_fine m port above a (CutChain label) fits may h
  performs_fine m port above a (TakeBack input output) has fits may h = does_fine m port above a (TakeBack input output) fits may h
  performs_fine m port above a (Withdraw input) has fits may h = does_fine m port above a (Withdraw input) fits may h
  performs_fine Told port above a actions.Reset has fits may h = resets_fine a port (linked_at a.controller port) refl has h
  performs_fine Untold port above a actions.Reset has fits may h = absurd may

  -- *A rule of a port*
  pub works_fine : (m : Mode) (a : Acted) (linked : Linked) (w : Work) → HasPorts setups a → Found setups a linked → Worked setups linked.setup a.controller.desk (begins a linked) w → Every (AllowsAction m) w.actions
      → Fine m a → Fine m (works_as a linked w)
  works_fine m a linked w has found worked may h = fine_fold m (Both m) (performs_in_estab linked.setup.port) (λ b x kb fits. performs_in_estab_goes setups linked.setup.port b x kb fits.0)
      (λ b x kb fits k. on_both (Fine m) (is_estab b.controller.adjacency.state) (performs linked.setup.port b x) b (performs_fine m linked.setup.port (found_above a linked has found) b x kb fits.0 fits.1 k) k) w.actions
      (both_each m w.actions (worked_kept setups linked.setup a.controller.desk (found_setup setups a linked linked.setup.port has found) (begins a linked) w worked (begun setups a linked linked.setup.port has found)).actions may)
      (with_work a linked w) (moves_ports setups (moves_to (placing a linked w found worked)) has) (placed m a linked w h)

  pub at_port_fine : (m : Mode) (a : Acted) (port : PortNo) (rule : Rule) → HasPorts setups a
      → ((linked : Linked) → linked_at a.controller port ≡ Some linked → Worked setups linked.setup a.controller.desk (begins a linked) (rule linked.setup a.controller.desk (begins a linked)))
      → ((linked : Linked) → linked_at a.controller port ≡ Some linked → Every (AllowsAction m) (rule linked.setup a.controller.desk (begins a linked)).actions)
      → Fine m a → Fine m (at_port a port rule)
  at_port_fine m a port rule has worked may h = by_found (linked_at a.controller port) refl
    where
      by_found : (o : Option Linked) → linked_at a.controller port ≡ o → Fine m (works a rule o)
      by_found None found = h
      by_found (Some linked) found = works_fine m a linked (rule linked.setup a.controller.desk (begins a linked)) has (found_at_own setups a linked port found) (worked linked found) (may linked found) h

  -- one that asks nothing
  pub quiet_fine : (m : Mode) (a : Acted) (port : PortNo) (rule : Rule) → ((linked : Linked) → (rule linked.setup a.controller.desk (begins a linked)).actions ≡ []) → Fine m a → Fine m (at_port a port rule)
  quiet_fine m a port rule none h = by_found (linked_at a.controller port)
    where
      by_found : (o : Option Linked) → Fine m (works a rule o)
      by_found None = h
      by_found (Some linked) = (let w : Work = rule linked.setup a.controller.desk (begins a linked) in
          subst (λ (xs : List Action). Fine m (fold (performs_in_estab linked.setup.port) (with_work a linked w) xs)) (sym (none linked)) (placed m a linked w h))
