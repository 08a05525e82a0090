-- a tick of a controller at peace: what it sends on the default channel of one port

use Rattle.std.proofs.Common.{◌≡◌, ◌≢◌, ℕ, ◌+◌, ◌*◌, ◌≤◌, ◌<◌, ◌==◌, ◌&&◌, Bool, true, false, List, [], ◌∷◌, ◌++◌, append_assoc, append-nil, nat_eq, Option, None, Some, flat_map, refl, sym, ◌∙◌, ap, subst, arith, if◌then◌else◌, fold, map}
use Rattle.world_model.specs.Words.{PortNo, Ack, Mark, Channel, End, Cell, Frame, Entry, Record, Journal, Loss, Cut, noted, losses_of, frame_cells, same_channel, next_control, number_of_channel, default_channel, default_home, default_payload, ifmp_packet_of, said, greeting_of, is_estab, Request, MoveBranch, home_of, last_transaction, Label, Action, Say, Ask, Note, CutChain, TakeBack, Withdraw, Work, restarts, begins, with_work, closes_by, port_restarts_as, port_restarts_of, port_restarts, resets_gsmp, node_resets, cuts_of, chain_of, Rule, works, performs_in_estab, at_port, asks, asks_next, with_desk, Linked, port_key, linked_at, at, with_linked, says_ifmp, lent, joins, join_for, may_join, enters_grant, enters_label, inputs_at, label_on, label_at, tries_label, tries_join, tries_joins, distinct, marks_of, noted_all}
use Rattle.world_model.specs.ifmp_wire.declared.message.Message.{Message}
use Rattle.world_model.specs.ifmp_wire.Message.{octets_of as ifmp_octets}
use Rattle.world_model.specs.gsmp_wire.Layout.{octets_of as gsmp_octets}
use Rattle.world_model.specs.gsmp_wire.declared.message.Message.TheVariants.{Adjacency}
use Rattle.world_model.specs.port_model.declared.action.Action.TheVariants.{Reset}
use Rattle.world_model.specs.port_model.Desk.{asked, message_at}
use Rattle.world_model.specs.port_model.Joins.{joined, joins_label}
use Rattle.world_model.specs.Controller.{Acted, note, ports_of}
use Rattle.world_model.specs.Joins.{Join, output_joined}
use Rattle.world_model.proofs.Lists.{by_eq}
use Rattle.law_passing.specs.ordered_lists.Ordered.{Every, InOrder}
use Rattle.law_live_nodes.specs.Law.{ticked_port, messages_of, port_ticks, greeted}
use Rattle.law_live_orders.specs.Law.{last_marks}
use Rattle.law_live_orders.specs.Messages.{AreSaid, none, says}
use Rattle.law_live_orders.proofs.Marks.{channel_self, marks_join, marks_here, marks_there}
use Rattle.law_shown_cells.proofs.Frames.{IsOf, IsCut, frame_is_cut}
use Rattle.law_shown_cells.proofs.Made.{made_is}
use Rattle.law_live_sending.proofs.Going.{IsGiven, Goes, goes_noting, goes_same, goes_itself, goes_then, goes_as, goes_fold, goes_sent, goes_elsewhere}

on_both : {A : Type 0} (P : A → Type 0) (b : Bool) (x y : A) → P x → P y → P (if b then x else y)
on_both P true x y p q = p
on_both P false x y p q = q

both_true : (p q : Bool) → p ≡ true → q ≡ true → (p && q) ≡ true
both_true true q e h = h
both_true false q e h = e

first_false : (p q : Bool) → p ≡ false → (p && q) ≡ false
first_false true q e = absurd (cc e)
first_false false q e = refl

-- *A frame* has one last cell
early_none : (channel : Channel) (mark : Mark) (cells : List Cell) → Every (IsOf channel mark false) cells → last_marks channel cells ≡ []
early_none channel mark [] each = refl
early_none channel mark (cell ∷ cells) each =
    marks_there channel cell cells (first_false cell.header.last (same_channel cell.header.channel channel) each.0.1) ∙ early_none channel mark cells each.1

pub frame_has_one : (channel : Channel) (mark : Mark) (payload : List ℕ) → last_marks channel (frame_cells channel mark payload) ≡ mark ∷ []
frame_has_one channel mark payload =
    let c : IsCut channel mark (frame_cells channel mark payload) = frame_is_cut channel mark payload in
    ap (last_marks channel) c.whole
    ∙ (marks_join channel c.front (c.final ∷ [])
    ∙ (ap (λ (ms : List Mark). ms ++ last_marks channel (c.final ∷ [])) (early_none channel mark c.front c.early)
    ∙ (marks_here channel c.final [] (both_true c.final.header.last (same_channel c.final.header.channel channel) c.last.1
    (ap (λ (x : Channel). same_channel x channel) c.last.0 ∙ channel_self channel))
    ∙ ap (λ (m : Mark). m ∷ []) c.last.2)))

-- *Notes* add losses to the ledger
record Noted (before after : Journal) : Type 0 where
  entries : List Entry
  grown : after.entries ≡ before.entries ++ entries
  frames : after.frames ≡ before.frames

noted_grown : (items : List Record) (notes : Journal) → Noted notes (noted_all notes items)
noted_grown [] notes = record { entries = []; grown = sym (append-nil notes.entries); frames = refl }
noted_grown (item ∷ items) notes =
    let rest : Noted (noted notes item) (noted_all (noted notes item) items) = noted_grown items (noted notes item) in
    record {
      entries = losses_of (item ∷ []) ++ rest.entries;
      grown = rest.grown ∙ append_assoc notes.entries (losses_of (item ∷ [])) rest.entries;
      frames = rest.frames;
    }

module _ (port : PortNo) (some : 1 ≤ port.0) where
  abbrev home : Channel
  home = (default_home port).channel

  gsmp_apart : same_channel default_channel home ≡ false
  gsmp_apart = by_eq 0 home.vpi (λ same t. absurd (omega (arith, some, same))) (λ differs t. ap (λ (b : Bool). b && true) t)

  other_apart : (other : PortNo) → other.0 ≢ port.0 → same_channel (default_home other).channel home ≡ false
  other_apart other apart = by_eq (default_home other).channel.vpi home.vpi (λ same t. absurd (apart (less other.0 port.0 same))) (λ differs t. ap (λ (b : Bool). b && true) t)
    where
      less : (m n : ℕ) → 16 * m + 0 ≡ 16 * n + 0 → m ≡ n
      less m n e = omega (arith, e)

  abbrev Nothing : Acted → Acted → Type 0
  Nothing a b = Goes home a b []

  then_nothing : (a b c : Acted) → Nothing a b → Nothing b c → Nothing a c
  then_nothing a b c p q = goes_then home a b c [] [] p q

  -- *What a port says*
  says_own : (a : Acted) (message : Message) → Goes home a (says_ifmp port a message) (message ∷ [])
  says_own a message =
      let mark : Mark = next_control a.numbers in
      let payload : List ℕ = default_payload (ifmp_packet_of a.controller.address (ifmp_octets message)) in
      let frames : List Frame = a.notes.frames ++ record { mark = mark; payload = payload } ∷ [] in
      let marks : last_marks home (frame_cells home mark payload) ≡ mark ∷ [] = frame_has_one home mark payload in
      goes_sent home a home payload (message ∷ [])
      (subst (λ (ms : List Mark). AreSaid a.controller.address frames ms (message ∷ [])) (sym marks) (says mark message (made_is a.notes.frames mark payload) none))
      (subst (Every (IsGiven (a.numbers.controls + 1))) (sym marks) ((refl, itself (a.numbers.controls + 1)), tt))
    where
      itself : (n : ℕ) → n ≤ n
      itself n = omega arith

  all_own : (messages : List Message) (a : Acted) → Goes home a (fold (says_ifmp port) a messages) messages
  all_own [] a = goes_itself home a
  all_own (message ∷ messages) a = goes_then home a (says_ifmp port a message) (fold (says_ifmp port) (says_ifmp port a message) messages) (message ∷ []) messages
      (says_own a message) (all_own messages (says_ifmp port a message))

  all_other : (other : PortNo) → other.0 ≢ port.0 → (messages : List Message) (a : Acted) → Nothing a (fold (says_ifmp other) a messages)
  all_other other apart messages a = goes_fold home (says_ifmp other)
      (λ b message. goes_elsewhere home b (default_home other).channel (default_payload (ifmp_packet_of b.controller.address (ifmp_octets message))) (other_apart other apart)) messages a

  abbrev own : Linked → List Message
  own linked = if nat_eq (port_key linked) port.0 then messages_of linked else []

  abbrev own_all : List Linked → List Message
  own_all [] = []
  own_all (linked ∷ ports) = own linked ++ own_all ports

  port_goes : (a : Acted) (linked : Linked) → Goes home a (port_ticks a linked) (own linked)
  port_goes a linked = by_eq (port_key linked) port.0
      (λ same t. goes_as home a (port_ticks a linked) (messages_of linked) (own linked) (sym (ap (λ (b : Bool). if b then messages_of linked else []) t))
      (goes_then home a b (port_ticks a linked) [] (messages_of linked) ticks
      (subst (λ (n : ℕ). Goes home b (fold (says_ifmp (record { 0 = n })) b (messages_of linked)) (messages_of linked)) (sym same) (all_own (messages_of linked) b))))
      (λ apart t. goes_as home a (port_ticks a linked) [] (own linked) (sym (ap (λ (b : Bool). if b then messages_of linked else []) t))
      (then_nothing a b (port_ticks a linked) ticks (all_other linked.setup.port apart (messages_of linked) b)))
    where
      b : Acted
      b = with_linked a (ticked_port linked)

      ticks : Nothing a (with_linked a (ticked_port linked))
      ticks = goes_same home a (with_linked a (ticked_port linked)) refl refl refl refl refl

  ports_go : (ports : List Linked) (a : Acted) → Goes home a (fold port_ticks a ports) (own_all ports)
  ports_go [] a = goes_itself home a
  ports_go (linked ∷ ports) a = goes_then home a (port_ticks a linked) (fold port_ticks (port_ticks a linked) ports) (own linked) (own_all ports)
      (port_goes a linked) (ports_go ports (port_ticks a linked))

  -- of the ports one is it
  none_own : (least : ℕ) (ports : List Linked) → port.0 ≤ least → Every (λ (y : Linked). least < port_key y) ports → own_all ports ≡ []
  none_own least [] low above = refl
  none_own least (y ∷ ports) low above = by_eq (port_key y) port.0
      (λ same t. absurd (omega (arith, low, above.0, same)))
      (λ differs t. ap (λ (b : Bool). (if b then messages_of y else []) ++ own_all ports) t ∙ none_own least ports low above.1)

  own_is : (linked : Linked) (ports : List Linked) → at port_key port.0 ports ≡ Some linked → InOrder (λ (x y : Linked). port_key x < port_key y) ports → own_all ports ≡ messages_of linked
  own_is linked [] found order = absurd (cc found)
  own_is linked (x ∷ ports) found order = by_eq (port_key x) port.0
      (λ same t. ap (λ (b : Bool). (if b then messages_of x else []) ++ own_all ports) t
      ∙ (ap (λ (ms : List Message). messages_of x ++ ms) (none_own (port_key x) ports (least same) order.0)
      ∙ (append-nil (messages_of x) ∙ ap messages_of (one x linked (ap (λ (b : Bool). if b then Some x else at port_key port.0 ports) (sym t) ∙ found)))))
      (λ differs t. ap (λ (b : Bool). (if b then messages_of x else []) ++ own_all ports) t
      ∙ own_is linked ports (ap (λ (b : Bool). if b then Some x else at port_key port.0 ports) (sym t) ∙ found) order.1)
    where
      one : (a b : Linked) → Some a ≡ Some b → a ≡ b
      one a b e = cc

      least : port_key x ≡ port.0 → port.0 ≤ port_key x
      least same = omega (arith, same)

  -- *The switch is greeted*
  abbrev calm : Acted → Acted
  calm a = record a { controller = record a.controller { adjacency = record a.controller.adjacency { silence = a.controller.adjacency.silence + 1 } } }

  greeted_goes : (a : Acted) → Nothing a (greeted a)
  greeted_goes a = then_nothing a (calm a) (greeted a) (goes_same home a (calm a) refl refl refl refl refl)
      (goes_elsewhere home (calm a) default_channel (gsmp_octets (Adjacency (greeting_of (said a.controller.adjacency Ack)))) gsmp_apart)

  -- *A node reset* says nothing
  cuts_go : (a : Acted) (label : ℕ) (o : Option Linked) → Nothing a (cuts_of a label o)
  cuts_go a label None = goes_itself home a
  cuts_go a label (Some linked) =
      let n : Noted a.notes (noted_all a.notes (map (λ mark. Loss mark Cut) (distinct (marks_of (chain_of linked.chains label).chain)))) =
      noted_grown (map (λ mark. Loss mark Cut) (distinct (marks_of (chain_of linked.chains label).chain))) a.notes in
      goes_noting home a (cuts_of a label (Some linked)) n.entries n.grown n.frames refl refl refl

  closes_goes : (own : PortNo) (a : Acted) (action : Action) → Nothing a (closes_by own a action)
  closes_goes own a (Say message) = goes_itself home a
  closes_goes own a (Ask request needed) = goes_itself home a
  closes_goes own a (Note item) = goes_noting home a (note a item) (losses_of (item ∷ [])) refl refl refl refl refl
  closes_goes own a (CutChain label) = cuts_go a label (linked_at a.controller own)
  closes_goes own a (TakeBack input output) = goes_itself home a
  closes_goes own a (Withdraw input) = goes_itself home a
  closes_goes own a Reset = goes_itself home a

  restarts_go : (a : Acted) (o : Option Linked) → Nothing a (port_restarts_of a o)
  restarts_go a None = goes_itself home a
  restarts_go a (Some linked) =
      let w : Work = restarts linked.setup (begins a linked) in
      then_nothing a (with_work a linked w) (port_restarts_as a linked w) (goes_same home a (with_work a linked w) refl refl refl refl refl)
      (goes_fold home (closes_by linked.setup.port) (closes_goes linked.setup.port) w.actions (with_work a linked w))

  resets_go : (a : Acted) → Nothing a (node_resets a)
  resets_go a = then_nothing a (resets_gsmp a) (node_resets a) (goes_same home a (resets_gsmp a) refl refl refl refl refl)
      (goes_fold home port_restarts (λ b own. restarts_go b (linked_at b.controller own)) (ports_of a.controller) (resets_gsmp a))

  -- *Joins* are asked of the switch
  asks_go : (a : Acted) (request : Request) → Nothing a (asks a request)
  asks_go a request = on_both (Nothing a) (is_estab a.controller.adjacency.state) (if a.controller.desk.next == last_transaction then node_resets a else asks_next a request) a
      (on_both (Nothing a) (a.controller.desk.next == last_transaction) (node_resets a) (asks_next a request) (resets_go a) next) (goes_itself home a)
    where
      entered : Acted
      entered = with_desk a (asked a.controller.desk request)

      next : Nothing a (asks_next a request)
      next = then_nothing a entered (asks_next a request) (goes_same home a entered refl refl refl refl refl)
          (goes_elsewhere home entered default_channel (gsmp_octets (message_at entered.controller.desk (record { number = a.controller.desk.next; request = request }))) gsmp_apart)

  quiet_goes : (a : Acted) (at_port_of : PortNo) (rule : Rule) → ((linked : Linked) → (rule linked.setup a.controller.desk (begins a linked)).actions ≡ []) → Nothing a (at_port a at_port_of rule)
  quiet_goes a own rule quiet = by (linked_at a.controller own)
    where
      by : (o : Option Linked) → Nothing a (works a rule o)
      by None = goes_itself home a
      by (Some linked) =
          let w : Work = rule linked.setup a.controller.desk (begins a linked) in
          subst (λ (actions : List Action). Nothing a (fold (performs_in_estab linked.setup.port) (with_work a linked w) actions)) (sym (quiet linked))
          (goes_same home a (with_work a linked w) refl refl refl refl refl)

  joins_go : (a : Acted) (o : Option Join) → Nothing a (joins a o)
  joins_go a None = goes_itself home a
  joins_go a (Some join) =
      let granted : Acted = enters_grant a join in
      let labelled : Acted = enters_label granted join in
      then_nothing a granted (joins a (Some join)) (quiet_goes a join.port (λ setup desk w. lent w join.grant join.input) (λ linked. refl))
      (then_nothing granted labelled (joins a (Some join))
      (quiet_goes granted join.input.port (λ setup desk w. joined w (number_of_channel join.input.channel) (output_joined join)) (λ linked. labels granted linked join (label_at linked.port (number_of_channel join.input.channel))))
      (asks_go labelled (MoveBranch join.input (home_of join.input) (output_joined join))))
    where
      labels : (b : Acted) (linked : Linked) (join : Join) (o : Option Label) → (joins_label (begins b linked) (Some (output_joined join)) o).actions ≡ []
      labels b linked join None = refl
      labels b linked join (Some label) = refl

  label_goes : (a : Acted) (input : End) (o : Option Label) → Nothing a (tries_label a input o)
  label_goes a input None = goes_itself home a
  label_goes a input (Some label) = on_both (Nothing a) (may_join a.controller input label) (joins a (join_for a.controller input label.flow)) a
      (joins_go a (join_for a.controller input label.flow)) (goes_itself home a)

  joins_tried : (a : Acted) → Nothing a (tries_joins a)
  joins_tried a = goes_fold home tries_join (λ b input. label_goes b input (label_on b.controller input)) (flat_map inputs_at a.controller.ports) a

  -- *The whole*
  pub tick_goes : (a : Acted) (linked : Linked) → at port_key port.0 a.controller.ports ≡ Some linked → InOrder (λ (x y : Linked). port_key x < port_key y) a.controller.ports
      → Goes home a (tries_joins (fold port_ticks (greeted a) a.controller.ports)) (messages_of linked)
  tick_goes a linked found order =
      let ticked : Acted = fold port_ticks (greeted a) a.controller.ports in
      goes_as home a (tries_joins ticked) (own_all a.controller.ports ++ []) (messages_of linked) (append-nil (own_all a.controller.ports) ∙ own_is linked a.controller.ports found order)
      (goes_then home a ticked (tries_joins ticked) (own_all a.controller.ports) []
      (goes_then home a (greeted a) ticked [] (own_all a.controller.ports) (greeted_goes a) (ports_go a.controller.ports (greeted a)))
      (joins_tried ticked))
