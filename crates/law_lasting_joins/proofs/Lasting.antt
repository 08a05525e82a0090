-- what each event leaves of a grant that is lent, while the switch stays met

use Rattle.std.proofs.Common.{◌≡◌, ℕ, true, List, [], ◌∷◌, ◌++◌, drop, Option, None, Some, Result, Ok, Err, refl, sym, ◌∙◌, ap, subst, fold}
use Rattle.std.specs.Prelude.{◌==◌, not, map}
use Rattle.law_controller.specs.world_model.Words.{Channel, End, PortNo, Mark, Greeting, Party, next_control, with_control, Answer, Quiet, Send, Open, Step, is_estab, gsmp_answer, gsmp_received, protocol_of, source_of, PacketFault, hop_of, onward, RouteChange, Hop, Here, On, EncapsFault, default_unwrapped, unwrapped, Request, MoveBranch, Standing, empty_desk, sent_again, Answered, Unknown, Done, Ports, Failed, answered, after_answer, without_request, Setup, home_of, Label, counts, used, hears, Linked, linked_at, with_desk, sends_control, says_gsmp, sends_request, asks, begins, node_resets, Rule, at_port, releases, meets, up_ports, empties, causes, clears, takes_answer, answer_comes, gsmp_holds, changed_joins, takes_join_back, begins_change, takes_change, may_take, takes_each, takes_changes, change_comes, is_control, sends_next, goes_by, grant_by, forwards_packet, control_protocol, ForGsmp, ForDefault, ForLabel, label_holds, ifmp_holds, counted_at, packet_holds, default_holds, frame_holds, sends_again, ticks_port, ticks_ports}
use Rattle.law_controller.specs.world_model.adjacency_table.declared.message.Answer.TheVariants.{Reset}
use Rattle.law_controller.specs.world_model.ipv4_packet.Packet.{first_fault}
use Rattle.law_controller.specs.world_model.ipv4_forward.declared.outcome.Hop.TheVariants.{NoRoute, Expired}
use Rattle.law_controller.specs.world_model.ifmp_wire.declared.message.Message.{Message as IfmpMessage}
use Rattle.law_controller.specs.world_model.ifmp_wire.declared.reader.Fault.{Fault as IfmpFault}
use Rattle.law_controller.specs.world_model.ifmp_wire.Fields.{decoded as ifmp_decoded}
use Rattle.law_controller.specs.world_model.gsmp_wire.declared.fault.Fault.{Fault}
use Rattle.law_controller.specs.world_model.gsmp_wire.declared.message.Message.{Message}
use Rattle.law_controller.specs.world_model.gsmp_wire.declared.message.Message.TheVariants as messages
use Rattle.law_controller.specs.world_model.gsmp_wire.declared.request.Request.TheVariants.{DeleteAll, AllPorts}
use Rattle.law_controller.specs.world_model.gsmp_wire.Fields.{decoded as gsmp_decoded}
use Rattle.law_controller.specs.world_model.port_model.Ticks as port_ticks
use Rattle.law_controller.specs.law_port_facts.Port.{Lives, IsShaped, AnyChannel}
use Rattle.law_controller.proofs.law_port_facts.Keyed.{on_both}
use Rattle.law_controller.proofs.law_port_facts.Rules.{used_goes, counts_goes}
use Rattle.law_controller.proofs.law_port_facts.Hearings.{hears_goes, ticks_goes}
use Rattle.law_controller.proofs.law_port_facts.Steps.{GoesOn, Goes}
use Rattle.law_controller.specs.world_model.Controller.{Acted, note, ports_of}
use Rattle.law_controller.specs.world_model.Sending.{sends}
use Rattle.law_controller.specs.world_model.Joins.{Join, output_joined}
use Rattle.law_controller.specs.world_model.Meeting.{takes_success}
use Rattle.law_controller.specs.world_model.Gsmp.{answers, steps, message_comes}
use Rattle.law_controller.specs.world_model.Packets.{forwarded}
use Rattle.law_controller.specs.world_model.Cells.{Taker}
use Rattle.law_controller.proofs.law_controller_facts.Lifetimes.{decoded_lives}
use Rattle.law_controller.proofs.law_controller_facts.Moves.{HasPorts, Found, by_rule, found_setup, found_at_own, found_port, begun, moves_ports}
use Rattle.law_controller.proofs.law_controller_facts.Joining.{every_filter}
use Rattle.law_controller.proofs.law_controller_facts.Events.{routes_goes, ticks_port_goes}
use Rattle.law_controller.specs.Match.{lent_at}
use Rattle.law_controller.proofs.Pairing.{SamePairs, same_pairs, goes_pairs}
use Rattle.law_lasting_joins.proofs.Keeping.{Releasing, answered_keeps}
use Rattle.law_lasting_joins.proofs.Lent.{sent_cases, Keeps, node_keeps, asks_keep, worked_keeps}

module _ (setups : List Setup) (q m : ℕ) (Unled : End → Type 0) where
  abbrev K : Acted → Acted → Type 0
  K a b = Keeps setups q m Unled a b

  -- *It lasts*
  pub record Lasts (a b : Acted) : Type 0 where
    pub met : b.controller.has_met ≡ true → a.controller.has_met ≡ true
    pub lent : b.controller.has_met ≡ true → (input : End) → Unled input → lent_at a.controller.ports q m ≡ Some input → lent_at b.controller.ports q m ≡ Some input

  pub of_keeps : (a b : Acted) → K a b → Lasts a b
  of_keeps a b k = record { met = k.met; lent = k.lent }

  pub lasts_self : (a : Acted) → Lasts a a
  lasts_self a = record { met = λ e. e; lent = λ e input u h. h }

  pub lasts_on : (a b c : Acted) → Lasts a b → Lasts b c → Lasts a c
  lasts_on a b c f g = record { met = λ e. f.met (g.met e); lent = λ e input u h. g.lent e input u (f.lent (g.met e) input u h) }

  pub lasts_fold : {A : Type 0} (f : Acted → A → Acted) → ((a : Acted) (x : A) → Lasts a (f a x)) → (xs : List A) (a : Acted) → Lasts a (fold f a xs)
  lasts_fold f each [] a = lasts_self a
  lasts_fold f each (x ∷ xs) a = lasts_on a (f a x) (fold f (f a x) xs) (each a x) (lasts_fold f each xs (f a x))

  pub same_lasts : (a b : Acted) → b.controller.has_met ≡ a.controller.has_met → b.controller.ports ≡ a.controller.ports → Lasts a b
  same_lasts a b met ports = record { met = λ e. sym met ∙ e; lent = λ e input u h. ap (λ (xs : List Linked). lent_at xs q m) ports ∙ h }

  pub note_lasts : (a : Acted) (item : _) → Lasts a (note a item)
  note_lasts a item = same_lasts a (note a item) refl refl

  pub sends_last : (a : Acted) (channel : Channel) (mark : Mark) (payload : List ℕ) → Lasts a (sends a channel mark payload)
  sends_last a channel mark payload = sent_cases (Lasts a) a channel mark payload (same_lasts a _ refl refl) (same_lasts a _ refl refl)

  control_lasts : (a : Acted) (channel : Channel) (payload : List ℕ) → Lasts a (sends_control a channel payload)
  control_lasts a channel payload = sent_cases (Lasts a) (record a { numbers = with_control a.numbers }) channel (next_control a.numbers) payload (same_lasts a _ refl refl) (same_lasts a _ refl refl)

  pub asks_last : (a : Acted) (request : Request) → Lasts a (asks a request)
  asks_last a request = of_keeps a (asks a request) (asks_keep setups q m Unled a request)

  -- *A rule of a port*
  rule_lasts : (a : Acted) (port : PortNo) (rule : Rule) → HasPorts setups a
      → ((linked : Linked) → linked_at a.controller port ≡ Some linked → GoesOn AnyChannel ⊥ linked.setup a.controller.desk (begins a linked) (rule linked.setup a.controller.desk (begins a linked)))
      → ((linked : Linked) → linked_at a.controller port ≡ Some linked → Goes linked.setup a.controller.desk (begins a linked) (rule linked.setup a.controller.desk (begins a linked)))
      → Lasts a (at_port a port rule)
  rule_lasts a port rule h goes also = of_keeps a (at_port a port rule) (worked_keeps setups q m Unled a port rule h (λ linked found. by_rule _ (also linked found))
      (λ linked found. (let own : Found setups a linked = found_at_own setups a linked port found in
      let same : SamePairs linked.port (rule linked.setup a.controller.desk (begins a linked)).port = goes_pairs linked.port setups linked.setup (found_setup setups a linked linked.setup.port h own) a.controller.desk
      (begins a linked) (rule linked.setup a.controller.desk (begins a linked)) (goes linked found) (begun setups a linked linked.setup.port h own) (same_pairs linked.port) in
      same.lends m)))

  -- *Packets*
  next_lasts : (a : Acted) (came : Mark) (channel : Channel) (payload : List ℕ) → Lasts a (sends_next a came channel payload)
  next_lasts a came channel payload = on_both (Lasts a) (is_control came) (sends_control a channel payload) _ (control_lasts a channel payload) (sends_last a channel _ payload)

  goes_last : (a : Acted) (came : Mark) (port : PortNo) (packet : List ℕ) (o : Option _) → Lasts a (goes_by a came port packet o)
  goes_last a came port packet None = next_lasts a came _ _
  goes_last a came port packet (Some grant) = next_lasts a came _ _

  forwarded_lasts : (a : Acted) (came : Mark) (packet : List ℕ) (hop : Hop) → Lasts a (forwarded a came packet hop)
  forwarded_lasts a came packet Here = note_lasts a _
  forwarded_lasts a came packet NoRoute = note_lasts a _
  forwarded_lasts a came packet Expired = note_lasts a _
  forwarded_lasts a came packet (On port) = goes_last a came port (onward packet) (grant_by a.controller port (onward packet))

  pub routes_last : (a : Acted) (came : Mark) (packet : List ℕ) → Lasts a (forwards_packet a came packet)
  routes_last a came packet = forwarded_lasts a came packet (hop_of a.controller.table packet)

  -- *Changes of routes*
  back_lasts : (a : Acted) (join : Join) → Lasts a (takes_join_back a join)
  back_lasts a join = on_both (Lasts a) _ a (asks a (MoveBranch join.input (output_joined join) (home_of join.input))) (lasts_self a) (asks_last a (MoveBranch join.input (output_joined join) (home_of join.input)))

  begins_last : (a : Acted) (change : RouteChange) → Lasts a (begins_change a change)
  begins_last a change = (let begun : Acted = record a { controller = record a.controller { is_begun = true } } in
      on_both (Lasts a) a.controller.is_begun a (fold takes_join_back begun (changed_joins a.controller change)) (lasts_self a)
      (lasts_on a begun (fold takes_join_back begun (changed_joins a.controller change)) (same_lasts a begun refl refl) (lasts_fold takes_join_back back_lasts (changed_joins a.controller change) begun)))

  each_lasts : (changes : List RouteChange) (a : Acted) → Lasts a (takes_each a changes)
  each_lasts [] a = lasts_self a
  each_lasts (change ∷ rest) a =
      let begun : Acted = begins_change a change in
      let taken : Acted = takes_change begun change rest in
      on_both (Lasts a) (may_take begun.controller change) (takes_each taken rest) begun
      (lasts_on a begun (takes_each taken rest) (begins_last a change) (lasts_on begun taken (takes_each taken rest) (same_lasts begun taken refl refl) (each_lasts rest taken))) (begins_last a change)

  pub changes_last : (a : Acted) → Lasts a (takes_changes a)
  changes_last a = on_both (Lasts a) a.controller.has_met (takes_each a a.controller.waiting) a (each_lasts a.controller.waiting a) (lasts_self a)

  pub change_lasts : (a : Acted) (change : RouteChange) → Lasts a (change_comes a change)
  change_lasts a change = (let waits : Acted = record a { controller = record a.controller { waiting = a.controller.waiting ++ change ∷ [] } } in
      lasts_on a waits (change_comes a change) (same_lasts a waits refl refl) (changes_last waits))

  -- *The adjacency with the switch*
  meets_last : (a : Acted) → Lasts a (meets a)
  meets_last a = lasts_on a (with_desk a empty_desk) (meets a) (same_lasts a (with_desk a empty_desk) refl refl) (asks_last (with_desk a empty_desk) AllPorts)

  answers_last : (a : Acted) (answer : Answer Greeting Party) → Lasts a (answers a answer)
  answers_last a Quiet = lasts_self a
  answers_last a (Send greeting) = control_lasts a _ _
  answers_last a (Open None own) = meets_last a
  answers_last a (Open (Some greeting) own) = (let b : Acted = says_gsmp a (messages.Adjacency greeting) in lasts_on a b (meets b) (control_lasts a _ _) (meets_last b))
  answers_last a Reset = of_keeps a (node_resets a) (node_keeps setups q m Unled a)

  pub steps_last : (a : Acted) (step : Step Party) → Lasts a (steps a step)
  steps_last a step = (let b : Acted = record a { controller = record a.controller { adjacency = step.side } } in
      lasts_on a b (steps a step) (same_lasts a b refl refl) (answers_last b (gsmp_answer step.answer)))

  -- *Ticks*, before joins
  pub again_lasts : (a : Acted) → Lasts a (sends_again a)
  again_lasts a = on_both (Lasts a) (is_estab a.controller.adjacency.state) (fold sends_request a (sent_again a.controller.desk)) a (lasts_fold sends_request (λ b s. control_lasts b _ _) (sent_again a.controller.desk) a) (lasts_self a)

  port_lasts : (a : Acted) (port : PortNo) → HasPorts setups a → Lasts a (ticks_port a port)
  port_lasts a port h = rule_lasts a port port_ticks.ticks h (λ linked found. ticks_goes linked.setup a.controller.desk (begins a linked) refl) (λ linked found. ticks_goes linked.setup a.controller.desk (begins a linked) refl)

  each_port : (ports : List PortNo) (a : Acted) → HasPorts setups a → Lasts a (fold ticks_port a ports)
  each_port [] a h = lasts_self a
  each_port (port ∷ ports) a h = lasts_on a (ticks_port a port) (fold ticks_port (ticks_port a port) ports) (port_lasts a port h) (each_port ports (ticks_port a port) (moves_ports setups (ticks_port_goes setups a port h) h))

  pub ports_last : (a : Acted) → HasPorts setups a → Lasts a (ticks_ports a)
  ports_last a h = each_port (ports_of a.controller) a h

  -- *Frames* of a link
  pub label_lasts : (a : Acted) (linked : Linked) (label : Label) (mark : Mark) (r : Result (List ℕ) EncapsFault) → HasPorts setups a → Lasts a (label_holds a linked label mark r)
  label_lasts a linked label mark (Err fault) h = note_lasts a _
  label_lasts a linked label mark (Ok packet) h = (let b : Acted = forwards_packet a mark packet in lasts_on a b (label_holds a linked label mark (Ok packet)) (routes_last a mark packet)
      (rule_lasts b linked.setup.port (λ setup desk w. used w label.number) (moves_ports setups (routes_goes setups a mark packet) h) (λ other found. used_goes other.setup b.controller.desk (begins b other) label.number) (λ other found. used_goes other.setup b.controller.desk (begins b other) label.number)))

  ifmp_lasts : (a : Acted) (port : PortNo) (packet : List ℕ) (r : Result IfmpMessage IfmpFault) → ((message : IfmpMessage) → r ≡ Ok message → Lives message) → HasPorts setups a → Lasts a (ifmp_holds a port packet r)
  ifmp_lasts a port packet (Err fault) lives h = note_lasts a _
  ifmp_lasts a port packet (Ok message) lives h = rule_lasts a port (λ setup desk w. hears setup desk w (source_of packet) message) h
      (λ linked found. hears_goes linked.setup a.controller.desk (begins a linked) (source_of packet) message refl (lives message refl))
      (λ linked found. hears_goes linked.setup a.controller.desk (begins a linked) (source_of packet) message refl (lives message refl))

  counted_lasts : (a : Acted) (port : PortNo) (packet : List ℕ) → HasPorts setups a → Lasts a (counted_at a port packet)
  counted_lasts a port packet h = rule_lasts a port (λ setup desk w. counts setup desk w packet) h
      (λ linked found. counts_goes linked.setup a.controller.desk (begins a linked) packet (found_port setups a linked port h found).ascend)
      (λ linked found. counts_goes linked.setup a.controller.desk (begins a linked) packet (found_port setups a linked port h found).ascend)

  packet_lasts : (a : Acted) (port : PortNo) (mark : Mark) (packet : List ℕ) (o : Option PacketFault) → HasPorts setups a → Lasts a (packet_holds a port mark packet o)
  packet_lasts a port mark packet (Some fault) h = note_lasts a _
  packet_lasts a port mark packet None h = (let b : Acted = forwards_packet a mark packet in
      on_both (Lasts a) (protocol_of packet == control_protocol) (ifmp_holds a port packet (ifmp_decoded (drop 20 packet))) (counted_at b port packet)
      (ifmp_lasts a port packet (ifmp_decoded (drop 20 packet)) (decoded_lives (drop 20 packet)) h)
      (lasts_on a b (counted_at b port packet) (routes_last a mark packet) (counted_lasts b port packet (moves_ports setups (routes_goes setups a mark packet) h))))

  pub default_lasts : (a : Acted) (port : PortNo) (mark : Mark) (r : Result (List ℕ) EncapsFault) → HasPorts setups a → Lasts a (default_holds a port mark r)
  default_lasts a port mark (Err fault) h = note_lasts a _
  default_lasts a port mark (Ok packet) h = packet_lasts a port mark packet (first_fault packet) h

  -- *Answers of the switch*
  pub empties_last : (a : Acted) → Lasts a (empties a)
  empties_last a = lasts_fold asks asks_last (map DeleteAll (record { 0 = 0 } ∷ up_ports a.controller)) a

  -- a success, while the switch is met
  done_lasts : (a : Acted) (request : Request) → Releasing setups q m Unled request → a.controller.has_met ≡ true → HasPorts setups a → Lasts a (takes_success a request)
  done_lasts a request led met h =
      let before : Acted = clears (causes (releases a request) request) in
      lasts_on a before (takes_success a request) (of_keeps a before (answered_keeps setups q m Unled a request led met h)) (changes_last before)

  -- what an answer is to
  done_shaped : (a : Acted) (message : Message) (s : Standing) → HasPorts setups a → answered a.controller.desk message ≡ Done s → a.controller.has_met ≡ true
      → Releasing setups q m Unled s.request → Lasts a (answer_comes a message)
  done_shaped a message s h is met led = subst (λ (x : Answered). Lasts a (takes_answer a x)) (sym is)
      (lasts_on a b (takes_success b s.request) (same_lasts a b refl refl) (done_lasts b s.request led met (record { ports = h.ports; shaped = every_filter (λ (x : Standing). IsShaped setups x.request) (λ (x : Standing). not (x.number == s.number)) a.controller.desk.standing h.shaped })))
    where
      b : Acted
      b = with_desk a (without_request a.controller.desk s)

  pub answer_lasts : (a : Acted) (message : Message) → HasPorts setups a → a.controller.has_met ≡ true
      → ((s : Standing) → answered a.controller.desk message ≡ Done s → Releasing setups q m Unled s.request) → Lasts a (answer_comes a message)
  answer_lasts a message h met led = by (answered a.controller.desk message) refl
    where
      by : (x : Answered) → answered a.controller.desk message ≡ x → Lasts a (answer_comes a message)
      by Unknown is = subst (λ (x : Answered). Lasts a (takes_answer a x)) (sym is) (same_lasts a (with_desk a a.controller.desk) refl refl)
      by (Done s) is = done_shaped a message s h is met (led s is)
      by (Ports s rows) is = subst (λ (x : Answered). Lasts a (takes_answer a x)) (sym is) (lasts_on a (with_desk a (after_answer a.controller.desk (Ports s rows))) _ (same_lasts a _ refl refl) (empties_last (with_desk a (after_answer a.controller.desk (Ports s rows)))))
      by (Failed s code) is = subst (λ (x : Answered). Lasts a (takes_answer a x)) (sym is) (lasts_on a (with_desk a (after_answer a.controller.desk (Failed s code))) _ (same_lasts a _ refl refl)
          (of_keeps _ _ (node_keeps setups q m Unled (with_desk a (after_answer a.controller.desk (Failed s code))))))

  told_lasts : (a : Acted) (message : Message) → HasPorts setups a → a.controller.has_met ≡ true
      → ((s : Standing) → answered a.controller.desk message ≡ Done s → Releasing setups q m Unled s.request) → Lasts a (message_comes a message)
  told_lasts a (messages.Adjacency greeting) h met led = steps_last a (gsmp_received a.controller.adjacency greeting)
  told_lasts a (messages.Branch kind result code number session input_port input output_port output branches priority) h met led =
      answer_lasts a (messages.Branch kind result code number session input_port input output_port output branches priority) h met led
  told_lasts a (messages.Move result code number session input_port input output_port output target_port target branches priority) h met led =
      answer_lasts a (messages.Move result code number session input_port input output_port output target_port target branches priority) h met led
  told_lasts a (messages.Port result code number port session function) h met led = answer_lasts a (messages.Port result code number port session function) h met led
  told_lasts a (messages.AllPorts result code number rows) h met led = answer_lasts a (messages.AllPorts result code number rows) h met led

  gsmp_lasts : (a : Acted) (r : Result Message Fault) → HasPorts setups a → a.controller.has_met ≡ true
      → ((message : Message) (s : Standing) → r ≡ Ok message → answered a.controller.desk message ≡ Done s → Releasing setups q m Unled s.request) → Lasts a (gsmp_holds a r)
  gsmp_lasts a (Ok message) h met led = told_lasts a message h met (λ s is. led message s refl is)
  gsmp_lasts a (Err fault) h met led = note_lasts a _

  -- by who takes the cells of the channel: at a success of the switch the inputs that it releases aren't among these
  abbrev pub Frees : Acted → Taker → (payload : List ℕ) → Type 0
  Frees a ForGsmp payload = (message : Message) (s : Standing) → gsmp_decoded payload ≡ Ok message → answered a.controller.desk message ≡ Done s → Releasing setups q m Unled s.request
  Frees a (ForDefault linked) payload = Unit {0}
  Frees a (ForLabel linked label) payload = Unit {0}

  pub frame_lasts : (a : Acted) (taker : Taker) (mark : Mark) (payload : List ℕ) → HasPorts setups a → a.controller.has_met ≡ true → Frees a taker payload → Lasts a (frame_holds a taker mark payload)
  frame_lasts a ForGsmp mark payload h met frees = gsmp_lasts a (gsmp_decoded payload) h met frees
  frame_lasts a (ForDefault linked) mark payload h met frees = default_lasts a linked.setup.port mark (default_unwrapped payload) h
  frame_lasts a (ForLabel linked label) mark payload h met frees = label_lasts a linked label mark (unwrapped label.flow payload) h
