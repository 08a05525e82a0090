-- what a controller sends, asks, and does for its ports leaves one of these ports so, where that says no greeting itself

use Rattle.std.proofs.Common.{◌≡◌, ℕ, ◌+◌, ◌≤◌, ◌<◌, ◌==◌, ◌&&◌, Bool, true, false, List, [], ◌∷◌, ◌++◌, append_assoc, append-nil, length, map, flat_map, Option, None, Some, refl, sym, ◌∙◌, ap, subst, arith, fold, if◌then◌else◌}
use Rattle.std.specs.Prelude.{nat_le}
use Rattle.std.proofs.lemmas.List.Concat.{flat_map-cons}
use Rattle.world_model.specs.Words.{PortNo, Channel, Mark, Cell, Frame, Entry, Record, Journal, End, Loss, Cut, PoolFull, noted, noted_all, losses_of, distinct, marks_of, frame_cells, made, same_channel, next_control, with_control, nothing_taken, Party, Side, is_estab, at, put, Request, MoveBranch, is_led_home, last_transaction, Action, Label, Grant, GrantState, Idle, ByController, ByInput, Leaving, Session, home_of, Setup, Work, resets, restarts, closing, withdrawing, taking_back, Controller, Linked, linked_at, port_key, with_desk, default_channel, default_home, default_payload, ifmp_packet_of, chain_of, chains_with, says_gsmp, says_ifmp, sends_control, begins, with_work, closes_by, cuts_of, cuts_label, port_restarts_of, port_restarts, resets_gsmp, node_resets, asks, asks_next, takes_back, withdraws_input, does, does_in_estab, resets_of, resets_as, resets_port, performs, performs_in_estab, Rule, at_port, works, works_as}
use Rattle.world_model.specs.ifmp_wire.declared.message.Message.{Message}
use Rattle.world_model.specs.ifmp_wire.Message.{octets_of as ifmp_octets}
use Rattle.world_model.specs.gsmp_wire.declared.message.Message.{Message as GsmpMessage}
use Rattle.world_model.specs.gsmp_wire.Layout.{octets_of as gsmp_octets}
use Rattle.world_model.specs.frame_model.Sending.{Sender}
use Rattle.world_model.specs.port_model.Desk.{Standing, asked, message_at}
use Rattle.world_model.specs.port_model.Resets.{withdrawing_of, withdrawing_in, taking_back_in}
use Rattle.world_model.specs.port_model.declared.action.Action.TheVariants as actions
use Rattle.world_model.specs.Controller.{Acted, free_slots, note, ports_of}
use Rattle.world_model.specs.Sending.{with_cells, sends}
use Rattle.world_model.proofs.Lists.{by_eq}
use Rattle.law_live_waking_links.specs.law_port_facts.ordered_lists.Ordered.{Every}
use Rattle.law_live_waking_links.proofs.law_port_facts.ordered_lists.Every.{every_join}
use Rattle.law_live_waking_links.proofs.law_port_facts.Keyed.{on_both, map_put}
use Rattle.law_live_waking_links.proofs.law_shown_cells.Frames.{IsOf, IsCut, frame_is_cut}
use Rattle.law_live_waking_links.proofs.law_shown_cells.Made.{made_is}
use Rattle.law_live_waking_links.specs.law_live_orders.Law.{last_marks}
use Rattle.law_live_waking_links.specs.law_live_orders.Messages.{AreSaid, none, says}
use Rattle.law_live_waking_links.proofs.law_live_orders.Marks.{channel_self, marks_join, marks_here, marks_there}
use Rattle.law_live_sending.proofs.Going.{IsGiven, Goes, goes_noting, goes_same, goes_itself, goes_then, goes_sent, goes_elsewhere}
use Rattle.law_live_tables.proofs.Plain.{IsOther, IsPlain, side_same}
use Rattle.law_live_tables.proofs.Plain as plain
use Rattle.law_live_tables.proofs.Leaving.{Change, same, anew, IsUp, home, gsmp_apart, other_apart, Does, Leaves, leaves_then, quietly, leaves_same, leaves_itself, leaves_down, leaves_each, leaves_put, own_place}

both_true : (p q : Bool) → p ≡ true → q ≡ true → (p && q) ≡ true
both_true true q e h = h
both_true false q e h = e

first_false : (p q : Bool) → p ≡ false → (p && q) ≡ false
first_false true q e = absurd (cc e)
first_false false q e = refl

-- *A frame* has one last cell
early_none : (channel : Channel) (mark : Mark) (cells : List Cell) → Every (IsOf channel mark false) cells → last_marks channel cells ≡ []
early_none channel mark [] each = refl
early_none channel mark (cell ∷ cells) each =
    marks_there channel cell cells (first_false cell.header.last (same_channel cell.header.channel channel) each.0.1) ∙ early_none channel mark cells each.1

frame_has_one : (channel : Channel) (mark : Mark) (payload : List ℕ) → last_marks channel (frame_cells channel mark payload) ≡ mark ∷ []
frame_has_one channel mark payload =
    let c : IsCut channel mark (frame_cells channel mark payload) = frame_is_cut channel mark payload in
    ap (last_marks channel) c.whole
    ∙ (marks_join channel c.front (c.final ∷ [])
    ∙ (ap (λ (ms : List Mark). ms ++ last_marks channel (c.final ∷ [])) (early_none channel mark c.front c.early)
    ∙ (marks_here channel c.final [] (both_true c.final.header.last (same_channel c.final.header.channel channel) c.last.1
    (ap (λ (x : Channel). same_channel x channel) c.last.0 ∙ channel_self channel))
    ∙ ap (λ (m : Mark). m ∷ []) c.last.2)))

-- *Notes* add losses to the ledger
record Noted (before after : Journal) : Type 0 where
  entries : List Entry
  grown : after.entries ≡ before.entries ++ entries
  frames : after.frames ≡ before.frames

noted_grown : (items : List Record) (notes : Journal) → Noted notes (noted_all notes items)
noted_grown [] notes = record { entries = []; grown = sym (append-nil notes.entries); frames = refl }
noted_grown (item ∷ items) notes =
    let rest : Noted (noted notes item) (noted_all (noted notes item) items) = noted_grown items (noted notes item) in
    record {
      entries = losses_of (item ∷ []) ++ rest.entries;
      grown = rest.grown ∙ append_assoc notes.entries (losses_of (item ∷ [])) rest.entries;
      frames = rest.frames;
    }

-- *Sending* leaves the ports, the session with the switch and the instances
record SameRest (a b : Acted) : Type 0 where
  ports : b.controller.ports ≡ a.controller.ports
  adjacency : b.controller.adjacency ≡ a.controller.adjacency
  instances : b.numbers.instances ≡ a.numbers.instances

sent_rest : (a : Acted) (channel : Channel) (mark : Mark) (payload : List ℕ) → SameRest a (sends a channel mark payload)
sent_rest a channel mark payload = on_both (λ (s : Sender Controller). SameRest a (record a { controller = s.queues; notes = s.notes })) (nat_le (length (frame_cells channel mark payload)) (free_slots a.controller))
    (record { queues = with_cells a.controller (frame_cells channel mark payload); notes = made a.notes mark payload })
    (record { queues = a.controller; notes = noted (made a.notes mark payload) (Loss mark PoolFull) })
    (record { ports = refl; adjacency = refl; instances = refl }) (record { ports = refl; adjacency = refl; instances = refl })

control_rest : (a : Acted) (channel : Channel) (payload : List ℕ) → SameRest a (sends_control a channel payload)
control_rest a channel payload = (let r = sent_rest (record a { numbers = with_control a.numbers }) channel (next_control a.numbers) payload in
    record { ports = r.ports; adjacency = r.adjacency; instances = r.instances })

-- *A node reset* leaves the node down
closes_side : (q : PortNo) (a : Acted) (action : Action) → (closes_by q a action).controller.adjacency ≡ a.controller.adjacency
closes_side q a (actions.Say message) = refl
closes_side q a (actions.Ask request needed) = refl
closes_side q a (actions.Note item) = refl
closes_side q a (actions.CutChain label) = by (linked_at a.controller q)
  where
    by : (o : Option Linked) → (cuts_of a label o).controller.adjacency ≡ a.controller.adjacency
    by None = refl
    by (Some linked) = refl
closes_side q a (actions.TakeBack input output) = refl
closes_side q a (actions.Withdraw input) = refl
closes_side q a actions.Reset = refl

side_fold : {X : Type 0} (f : Acted → X → Acted) → ((a : Acted) (x : X) → (f a x).controller.adjacency ≡ a.controller.adjacency) → (xs : List X) (a : Acted) → (fold f a xs).controller.adjacency ≡ a.controller.adjacency
side_fold f each [] a = refl
side_fold f each (x ∷ xs) a = side_fold f each xs (f a x) ∙ each a x

restarts_side : (a : Acted) (q : PortNo) → (port_restarts a q).controller.adjacency ≡ a.controller.adjacency
restarts_side a q = by (linked_at a.controller q)
  where
    by : (o : Option Linked) → (port_restarts_of a o).controller.adjacency ≡ a.controller.adjacency
    by None = refl
    by (Some linked) =
        let w : Work = restarts linked.setup (begins a linked) in
        side_fold (closes_by linked.setup.port) (closes_side linked.setup.port) w.actions (with_work a linked w)

pub node_down : (a : Acted) → IsUp (node_resets a) → ⊥
node_down a up = absurd (cc (sym (ap (λ (s : Side Party). is_estab s.state) (side_fold port_restarts restarts_side (ports_of a.controller) (resets_gsmp a))) ∙ up))

-- and its ports those that they are
put_ports : (a : Acted) (q : PortNo) (linked new : Linked) → linked_at a.controller q ≡ Some linked → new.setup ≡ linked.setup
    → map (λ (l : Linked). l.setup.port) (put port_key new a.controller.ports) ≡ ports_of a.controller
put_ports a q linked new found setup = map_put port_key (λ (l : Linked). l.setup.port) new a.controller.ports linked
    (ap (λ (s : Setup). at port_key s.port.0 a.controller.ports) setup ∙ own_place a q linked found) (ap (λ (s : Setup). s.port) setup)

closes_ports : (q : PortNo) (a : Acted) (action : Action) → ports_of (closes_by q a action).controller ≡ ports_of a.controller
closes_ports q a (actions.Say message) = refl
closes_ports q a (actions.Ask request needed) = refl
closes_ports q a (actions.Note item) = refl
closes_ports q a (actions.CutChain label) = by (linked_at a.controller q) refl
  where
    by : (o : Option Linked) → linked_at a.controller q ≡ o → ports_of (cuts_of a label o).controller ≡ ports_of a.controller
    by None found = refl
    by (Some linked) found = put_ports a q linked (record linked { chains = chains_with linked.chains label nothing_taken }) found refl
closes_ports q a (actions.TakeBack input output) = refl
closes_ports q a (actions.Withdraw input) = refl
closes_ports q a actions.Reset = refl

ports_fold : {X : Type 0} (f : Acted → X → Acted) → ((a : Acted) (x : X) → ports_of (f a x).controller ≡ ports_of a.controller) → (xs : List X) (a : Acted) → ports_of (fold f a xs).controller ≡ ports_of a.controller
ports_fold f each [] a = refl
ports_fold f each (x ∷ xs) a = ports_fold f each xs (f a x) ∙ each a x

restarts_ports : (a : Acted) (q : PortNo) → ports_of (port_restarts a q).controller ≡ ports_of a.controller
restarts_ports a q = by (linked_at a.controller q) refl
  where
    by : (o : Option Linked) → linked_at a.controller q ≡ o → ports_of (port_restarts_of a o).controller ≡ ports_of a.controller
    by None found = refl
    by (Some linked) found =
        let w : Work = restarts linked.setup (begins a linked) in
        ports_fold (closes_by linked.setup.port) (closes_ports linked.setup.port) w.actions (with_work a linked w)
        ∙ put_ports a q linked (record linked { port = w.port }) found refl

node_ports : (a : Acted) → ports_of (node_resets a).controller ≡ ports_of a.controller
node_ports a = ports_fold port_restarts restarts_ports (ports_of a.controller) (resets_gsmp a)

-- *What a reset of a port asks* says no greeting
cuts_plain : (labels : List Label) → Every IsPlain (map (λ (label : Label). actions.CutChain label.number) labels)
cuts_plain [] = tt
cuts_plain (label ∷ labels) = (tt, cuts_plain labels)

closing_plain : (setup : Setup) (o : Option Session) → Every IsPlain (closing setup o)
closing_plain setup None = tt
closing_plain setup (Some s) = (tt, cuts_plain s.labels)

each_plain : (f : Grant → List Action) → ((grant : Grant) → Every IsPlain (f grant)) → (grants : List Grant) → Every IsPlain (flat_map f grants)
each_plain f each [] = tt
each_plain f each (grant ∷ grants) = subst (Every IsPlain) (sym (flat_map-cons f grant grants)) (every_join IsPlain (f grant) (flat_map f grants) (each grant) (each_plain f each grants))

withdrawing_plain : (setup : Setup) (label : ℕ) (state : GrantState) → Every IsPlain (withdrawing_in setup label state)
withdrawing_plain setup label Idle = (tt, tt)
withdrawing_plain setup label ByController = (tt, tt)
withdrawing_plain setup label (ByInput input) = tt
withdrawing_plain setup label (Leaving input owed) = tt

taking_plain : (setup : Setup) (grant : Grant) (state : GrantState) → Every IsPlain (taking_back_in setup grant state)
taking_plain setup grant Idle = tt
taking_plain setup grant ByController = tt
taking_plain setup grant (ByInput input) = (tt, tt)
taking_plain setup grant (Leaving input owed) = tt

reset_plain : (setup : Setup) (a : Acted) (linked : Linked) → Every IsPlain (resets setup (begins a linked)).actions
reset_plain setup a linked = every_join IsPlain (closing setup linked.port.session) _ (closing_plain setup linked.port.session)
    (every_join IsPlain (withdrawing setup linked.port.grants) _ (each_plain (withdrawing_of setup) (λ grant. withdrawing_plain setup grant.label grant.state) linked.port.grants)
    (every_join IsPlain (flat_map (taking_back setup) linked.port.grants) _ (each_plain (taking_back setup) (λ grant. taking_plain setup grant grant.state) linked.port.grants) (tt, tt)))

module _ (port : PortNo) (some : 1 ≤ port.0) where
  abbrev On : Acted → Acted → Type 0
  On a b = Leaves port some a b

  abbrev Nothing : Acted → Acted → Type 0
  Nothing a b = Goes (home port some) a b []

  then_nothing : (a b c : Acted) → Nothing a b → Nothing b c → Nothing a c
  then_nothing a b c p q = goes_then (home port some) a b c [] [] p q

  -- *Messages*: of GSMP, of another port, and of the port itself
  told_goes : (a : Acted) (message : GsmpMessage) → Nothing a (says_gsmp a message)
  told_goes a message = goes_elsewhere (home port some) a default_channel (gsmp_octets message) (gsmp_apart port some)

  pub told_leaves : (a : Acted) (message : GsmpMessage) → Leaves port some a (says_gsmp a message)
  told_leaves a message = (let r = control_rest a default_channel (gsmp_octets message) in quietly port some a (says_gsmp a message) (told_goes a message) r.ports r.adjacency r.instances)

  says_own : (a : Acted) (message : Message) → Goes (home port some) a (says_ifmp port a message) (message ∷ [])
  says_own a message =
      let mark : Mark = next_control a.numbers in
      let payload : List ℕ = default_payload (ifmp_packet_of a.controller.address (ifmp_octets message)) in
      let frames : List Frame = a.notes.frames ++ record { mark = mark; payload = payload } ∷ [] in
      let marks : last_marks (home port some) (frame_cells (home port some) mark payload) ≡ mark ∷ [] = frame_has_one (home port some) mark payload in
      goes_sent (home port some) a (home port some) payload (message ∷ [])
      (subst (λ (ms : List Mark). AreSaid a.controller.address frames ms (message ∷ [])) (sym marks) (says mark message (made_is a.notes.frames mark payload) none))
      (subst (Every (IsGiven (a.numbers.controls + 1))) (sym marks) ((refl, itself (a.numbers.controls + 1)), tt))
    where
      itself : (n : ℕ) → n ≤ n
      itself n = omega arith

  -- of the port itself, whatever it is
  pub says_does : (a : Acted) (q : PortNo) (message : Message) → q.0 ≡ port.0 → Does port some Change a (says_ifmp q a message) (message ∷ [])
  says_does a q message e =
      let r = control_rest a (default_home q).channel (default_payload (ifmp_packet_of a.controller.address (ifmp_octets message))) in
      record {
        goes = λ up. subst (λ (n : ℕ). Goes (home port some) a (says_ifmp (record { 0 = n }) a message) (message ∷ [])) (sym e) (says_own a message);
        up = λ up. ap (λ (s : Side Party). is_estab s.state) (sym r.adjacency) ∙ up;
        given = λ up. low a.numbers.instances (says_ifmp q a message).numbers.instances r.instances;
        ports = ap (map (λ (linked : Linked). linked.setup.port)) r.ports;
        left = λ up linked found. record { now = linked; is = ap (at port_key port.0) r.ports ∙ found; setup = refl; side = same };
      }
    where
      low : (m n : ℕ) → n ≡ m → m ≤ n
      low m n e = omega (arith, e)

  says_leaves : (a : Acted) (q : PortNo) (message : Message) → (q.0 ≡ port.0 → IsOther message) → On a (says_ifmp q a message)
  says_leaves a q message other = by_eq q.0 port.0
      (λ e t. record { messages = message ∷ []; others = (other e, tt); does = says_does a q message e })
      (λ apart t. (let r = control_rest a (default_home q).channel (default_payload (ifmp_packet_of a.controller.address (ifmp_octets message))) in
      quietly port some a (says_ifmp q a message)
      (goes_elsewhere (home port some) a (default_home q).channel (default_payload (ifmp_packet_of a.controller.address (ifmp_octets message))) (other_apart port some q apart))
      r.ports r.adjacency r.instances))

  -- *Notes and chains*
  pub note_leaves : (a : Acted) (item : Record) → Leaves port some a (note a item)
  note_leaves a item = quietly port some a (note a item) (goes_noting (home port some) a (note a item) (losses_of (item ∷ [])) refl refl refl refl refl) refl refl refl

  cuts_go : (a : Acted) (label : ℕ) (o : Option Linked) → Nothing a (cuts_of a label o)
  cuts_go a label None = goes_itself (home port some) a
  cuts_go a label (Some linked) =
      let n : Noted a.notes (noted_all a.notes (map (λ mark. Loss mark Cut) (distinct (marks_of (chain_of linked.chains label).chain)))) =
      noted_grown (map (λ mark. Loss mark Cut) (distinct (marks_of (chain_of linked.chains label).chain))) a.notes in
      goes_noting (home port some) a (cuts_of a label (Some linked)) n.entries n.grown n.frames refl refl refl

  low_itself : (n : ℕ) → n ≤ n
  low_itself n = omega arith

  cuts_leaves : (q : PortNo) (a : Acted) (label : ℕ) → On a (cuts_label q a label)
  cuts_leaves q a label = by (linked_at a.controller q) refl
    where
      by : (o : Option Linked) → linked_at a.controller q ≡ o → On a (cuts_of a label o)
      by None found = leaves_itself port some a
      by (Some linked) found = leaves_put port some a (cuts_of a label (Some linked)) linked (record linked { chains = chains_with linked.chains label nothing_taken }) (own_place a q linked found) refl
          (λ e. same) refl refl (low_itself a.numbers.instances) (cuts_go a label (Some linked))

  -- *A node reset*
  pub node_leaves : (a : Acted) → Leaves port some a (node_resets a)
  node_leaves a = leaves_down port some a (node_resets a) (node_ports a) (node_down a)

  -- *What is asked*
  next_leaves : (a : Acted) (request : Request) → On a (asks_next a request)
  next_leaves a request =
      let d : Acted = with_desk a (asked a.controller.desk request) in
      let s : Standing = record { number = a.controller.desk.next; request = request } in
      leaves_then port some a d (asks_next a request) (leaves_same port some a d refl refl refl refl refl refl refl refl) (told_leaves d (message_at d.controller.desk s))

  pub asks_leaves : (a : Acted) (request : Request) → Leaves port some a (asks a request)
  asks_leaves a request = on_both (On a) (is_estab a.controller.adjacency.state) (if a.controller.desk.next == last_transaction then node_resets a else asks_next a request) a
      (on_both (On a) (a.controller.desk.next == last_transaction) (node_resets a) (asks_next a request) (node_leaves a) (next_leaves a request))
      (leaves_itself port some a)

  pub back_leaves : (a : Acted) (input output : End) → Leaves port some a (takes_back a input output)
  back_leaves a input output = on_both (On a) (is_led_home a.controller.desk input (home_of input)) a (asks a (MoveBranch input output (home_of input)))
      (leaves_itself port some a) (asks_leaves a (MoveBranch input output (home_of input)))

  -- *What a port asks*: where it is the port itself, no greeting
  abbrev MayAsk : PortNo → Action → Type 0
  MayAsk q action = q.0 ≡ port.0 → IsPlain action

  does_leaves : (q : PortNo) (a : Acted) (action : Action) → MayAsk q action → On a (does q a action)
  does_leaves q a (actions.Say message) may = says_leaves a q message may
  does_leaves q a (actions.Ask request needed) may = asks_leaves a request
  does_leaves q a (actions.Note item) may = note_leaves a item
  does_leaves q a (actions.CutChain label) may = cuts_leaves q a label
  does_leaves q a (actions.TakeBack input output) may = back_leaves a input output
  does_leaves q a (actions.Withdraw input) may = leaves_same port some a (withdraws_input a input) refl refl refl refl refl refl refl refl
  does_leaves q a actions.Reset may = leaves_itself port some a

  does_in_leaves : (q : PortNo) (a : Acted) (action : Action) → MayAsk q action → On a (does_in_estab q a action)
  does_in_leaves q a action may = on_both (On a) (is_estab a.controller.adjacency.state) (does q a action) a (does_leaves q a action may) (leaves_itself port some a)

  -- *A port that worked* is put back
  pub work_leaves : (a : Acted) (linked : Linked) (w : Work) → at port_key (port_key linked) a.controller.ports ≡ Some linked → a.numbers.instances ≤ w.instances
      → (port_key linked ≡ port.0 → Change a.numbers.instances linked.port.adjacency w.port.adjacency) → Leaves port some a (with_work a linked w)
  work_leaves a linked w own given turned = leaves_put port some a (with_work a linked w) linked (record linked { port = w.port }) own refl turned refl refl given
      (goes_same (home port some) a (with_work a linked w) refl refl refl refl refl)

  -- *A port is reset*
  pub after_reset : (a : Acted) (linked : Linked) → Leaves port some (with_work a linked (resets linked.setup (begins a linked))) (resets_as a linked (resets linked.setup (begins a linked)))
  after_reset a linked =
      let w : Work = resets linked.setup (begins a linked) in
      leaves_each port some IsPlain (does_in_estab linked.setup.port) (λ b action is. does_in_leaves linked.setup.port b action (λ e. is)) w.actions (reset_plain linked.setup a linked) (with_work a linked w)

  one_more : (n : ℕ) → n < n + 1
  one_more n = omega arith

  upper : (n : ℕ) → n ≤ n + 1
  upper n = omega arith

  pub resets_leaves : (q : PortNo) (a : Acted) → Leaves port some a (resets_port a q)
  resets_leaves q a = by (linked_at a.controller q) refl
    where
      by : (o : Option Linked) → linked_at a.controller q ≡ o → On a (resets_of a o)
      by None found = leaves_itself port some a
      by (Some linked) found =
          let w : Work = resets linked.setup (begins a linked) in
          leaves_then port some a (with_work a linked w) (resets_as a linked w)
          (work_leaves a linked w (own_place a q linked found) (upper a.numbers.instances)
          (λ e. anew (record { instance = record { 0 = a.numbers.instances + 1 }; address = linked.setup.address }) (one_more a.numbers.instances)))
          (after_reset a linked)

  performs_leaves : (q : PortNo) (a : Acted) (action : Action) → MayAsk q action → On a (performs q a action)
  performs_leaves q a (actions.Say message) may = does_leaves q a (actions.Say message) may
  performs_leaves q a (actions.Ask request needed) may = does_leaves q a (actions.Ask request needed) may
  performs_leaves q a (actions.Note item) may = does_leaves q a (actions.Note item) may
  performs_leaves q a (actions.CutChain label) may = does_leaves q a (actions.CutChain label) may
  performs_leaves q a (actions.TakeBack input output) may = does_leaves q a (actions.TakeBack input output) may
  performs_leaves q a (actions.Withdraw input) may = does_leaves q a (actions.Withdraw input) may
  performs_leaves q a actions.Reset may = resets_leaves q a

  performs_in_leaves : (q : PortNo) (a : Acted) (action : Action) → MayAsk q action → On a (performs_in_estab q a action)
  performs_in_leaves q a action may = on_both (On a) (is_estab a.controller.adjacency.state) (performs q a action) a (performs_leaves q a action may) (leaves_itself port some a)

  pub acts_leave : (q : PortNo) (asked : List Action) → (q.0 ≡ port.0 → Every IsPlain asked) → (a : Acted) → Leaves port some a (fold (performs_in_estab q) a asked)
  acts_leave q [] may a = leaves_itself port some a
  acts_leave q (action ∷ asked) may a = leaves_then port some a (performs_in_estab q a action) (fold (performs_in_estab q) (performs_in_estab q a action) asked)
      (performs_in_leaves q a action (λ e. (may e).0)) (acts_leave q asked (λ e. (may e).1) (performs_in_estab q a action))

  -- whatever it asks, the node was up before
  performs_up : (q : PortNo) (a : Acted) (action : Action) → IsUp (performs q a action) → IsUp a
  performs_up q a (actions.Say message) up = ap (λ (s : Side Party). is_estab s.state)
      (sym (control_rest a (default_home q).channel (default_payload (ifmp_packet_of a.controller.address (ifmp_octets message)))).adjacency) ∙ up
  performs_up q a (actions.Ask request needed) up = (performs_leaves q a (actions.Ask request needed) (λ e. tt)).does.up up
  performs_up q a (actions.Note item) up = (performs_leaves q a (actions.Note item) (λ e. tt)).does.up up
  performs_up q a (actions.CutChain label) up = (performs_leaves q a (actions.CutChain label) (λ e. tt)).does.up up
  performs_up q a (actions.TakeBack input output) up = (performs_leaves q a (actions.TakeBack input output) (λ e. tt)).does.up up
  performs_up q a (actions.Withdraw input) up = (performs_leaves q a (actions.Withdraw input) (λ e. tt)).does.up up
  performs_up q a actions.Reset up = (resets_leaves q a).does.up up

  acts_up : (q : PortNo) (asked : List Action) (a : Acted) → IsUp (fold (performs_in_estab q) a asked) → IsUp a
  acts_up q [] a up = up
  acts_up q (action ∷ asked) a up = on_both (λ (b : Acted). IsUp b → IsUp a) (is_estab a.controller.adjacency.state) (performs q a action) a (performs_up q a action) (λ is. is)
      (acts_up q asked (performs_in_estab q a action) up)

  pub rule_up : (a : Acted) (q : PortNo) (rule : Rule) → IsUp (at_port a q rule) → IsUp a
  rule_up a q rule = by (linked_at a.controller q)
    where
      by : (o : Option Linked) → IsUp (works a rule o) → IsUp a
      by None up = up
      by (Some linked) up = acts_up linked.setup.port (rule linked.setup a.controller.desk (begins a linked)).actions (with_work a linked (rule linked.setup a.controller.desk (begins a linked))) up

  -- *A rule* of a port, by which no instance is given back, and which is a plain one at the port itself
  pub record IsPlainAt (q : Linked) (a : Acted) (w : Work) : Type 0 where
    pub given : a.numbers.instances ≤ w.instances
    pub own : port_key q ≡ port.0 → plain.Goes ⊥ (begins a q) w

  -- a plain one is so
  pub plain_at : (q : Linked) (a : Acted) (w : Work) → plain.Goes ⊥ (begins a q) w → IsPlainAt q a w
  plain_at q a w g = record { given = low a.numbers.instances w.instances g.instances; own = λ e. g }
    where
      low : (m n : ℕ) → n ≡ m → m ≤ n
      low m n e = omega (arith, e)

  pub rule_leaves : (a : Acted) (q : PortNo) (rule : Rule) → ((linked : Linked) → linked_at a.controller q ≡ Some linked → IsPlainAt linked a (rule linked.setup a.controller.desk (begins a linked)))
      → Leaves port some a (at_port a q rule)
  rule_leaves a q rule is = by (linked_at a.controller q) refl
    where
      by : (o : Option Linked) → linked_at a.controller q ≡ o → On a (works a rule o)
      by None found = leaves_itself port some a
      by (Some linked) found =
          let w : Work = rule linked.setup a.controller.desk (begins a linked) in
          let p : IsPlainAt linked a w = is linked found in
          leaves_then port some a (with_work a linked w) (works_as a linked w)
          (work_leaves a linked w (own_place a q linked found) p.given
          (λ e. subst (Change a.numbers.instances linked.port.adjacency) (sym (side_same linked.port.adjacency w.port.adjacency (p.own e).side)) same))
          (acts_leave linked.setup.port w.actions (λ e. subst (Every IsPlain) (sym (p.own e).actions) (p.own e).plain) (with_work a linked w))
