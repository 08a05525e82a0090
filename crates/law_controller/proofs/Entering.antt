-- joins that are taken back, tried and entered, and changes of routes, keep requests and joins in order

use Rattle.std.proofs.Common.{◌≡◌, ℕ, Bool, true, false, List, [], length, Option, None, Some, refl, sym, ◌∙◌, ap, subst, if◌then◌else◌}
use Rattle.std.specs.Prelude.{◌==◌, is_some, nat_le}
use Rattle.std.specs.Option.{option_map_or, option_and_then}
use Rattle.law_controller_facts.specs.world_model.Words.{PortNo, End, number_of_channel, Channel, Mark, next_control, with_control, Loss, PoolFull, noted, frame_cells, made, is_estab, Request, MoveBranch, same_end, at, put, Desk, all_on, last_transaction, is_led_home, Setup, home_of, label_end, Label, Offered, label_number, Grant, GrantState, ByController, ByInput, grant_label, Session, Work, label_at, labels_of, joins_label, Controller, Linked, port_key, linked_at, with_desk, default_channel, asks_next, asks, takes_back, begins, node_resets, works, works_as, enters_grant, enters_label, joins, label_on}
use Rattle.law_controller_facts.proofs.world_model.net_types.Labels.{label_channel_of-number_of_channel}
use Rattle.law_controller_facts.specs.world_model.gsmp_wire.Layout.{octets_of as gsmp_octets}
use Rattle.law_controller_facts.specs.world_model.frame_model.Sending.{Sender}
use Rattle.law_controller_facts.specs.world_model.port_model.Desk.{asked, message_at}
use Rattle.law_controller_facts.specs.world_model.port_model.Grants as grants
use Rattle.law_controller_facts.specs.world_model.port_model.Joins as port_joins
use Rattle.law_controller_facts.specs.law_port_facts.Port.{IsLabelEnd, joins_label as joins_label_shape}
use Rattle.law_controller_facts.proofs.law_port_facts.Keyed.{on_both, on_each, at_key, put_every, at_put_same}
use Rattle.law_controller_facts.specs.world_model.Controller.{Acted, free_slots}
use Rattle.law_controller_facts.specs.world_model.Sending.{with_cells, sends}
use Rattle.law_controller_facts.specs.world_model.Joins.{Join, output_joined}
use Rattle.law_controller_facts.proofs.Moves.{Worked, by_joining, by_lending, Found, HasPorts, found_at_own, found_port}
use Rattle.law_controller_facts.proofs.Joining.{IsJoin, image_is}
use Rattle.law_controller_facts.proofs.Conditions.{of_label}
use Rattle.law_controller_facts.proofs.Entering.{granted_end, OnPort, on_port, lends_labels}
use Rattle.law_controller_facts.proofs.Laws.{has_ports}
use Rattle.law_controller.specs.Order.{lends, lends_at, is_lent, IsLentTo}
use Rattle.law_controller.proofs.Lists.{any_at, any_put_leads}
use Rattle.law_controller.proofs.Asked.{same_end_itself}
use Rattle.law_controller.proofs.Ordering.{of_input, to_free, same_number}
use Rattle.law_controller.proofs.Holding.{Holds, placed_holds, joined_at, node_closed, lent_met, none_deleting}
use Rattle.law_controller.proofs.Performing.{asks_holds}
use Rattle.law_controller.proofs.Releasing.{session_every}

pub both_not : (b : Bool) → b ≡ true → b ≡ false → ⊥
both_not b t f = absurd (cc (sym t ∙ f))

module _ (setups : List Setup) where
  -- *What asking leaves as it is*, while the side is in Estab: every port, and whether the switch is met
  pub record Keeps (a b : Acted) : Type 0 where
    pub ports : is_estab b.controller.adjacency.state ≡ true → b.controller.ports ≡ a.controller.ports
    pub before : is_estab b.controller.adjacency.state ≡ true → is_estab a.controller.adjacency.state ≡ true

  sent_ports : (b : Acted) (channel : Channel) (mark : Mark) (payload : List ℕ) → (sends b channel mark payload).controller.ports ≡ b.controller.ports
  sent_ports b channel mark payload = on_both (λ (x : Sender Controller). x.queues.ports ≡ b.controller.ports) (nat_le (length (frame_cells channel mark payload)) (free_slots b.controller))
      (record { queues = with_cells b.controller (frame_cells channel mark payload); notes = made b.notes mark payload })
      (record { queues = b.controller; notes = noted (made b.notes mark payload) (Loss mark PoolFull) }) refl refl

  asks_keeps : (a : Acted) (request : Request) → Keeps a (asks a request)
  asks_keeps a request = on_each (Keeps a) (is_estab a.controller.adjacency.state) (if a.controller.desk.next == last_transaction then node_resets a else asks_next a request) a
      (λ estab. on_both (Keeps a) (a.controller.desk.next == last_transaction) (node_resets a) (asks_next a request)
      (record { ports = λ e. absurd (both_not (is_estab (node_resets a).controller.adjacency.state) e (node_closed setups a)); before = λ e. estab })
      (record { ports = λ e. asked_ports; before = λ e. estab }))
      (λ closed. record { ports = λ e. refl; before = λ e. e })
    where
      asked_ports : (asks_next a request).controller.ports ≡ a.controller.ports
      asked_ports = sent_ports (record (with_desk a (asked a.controller.desk request)) { numbers = with_control a.numbers }) default_channel (next_control a.numbers)
          (gsmp_octets (message_at (asked a.controller.desk request) (record { number = a.controller.desk.next; request = request })))

  pub takes_back_keeps : (a : Acted) (input output : End) → Keeps a (takes_back a input output)
  takes_back_keeps a input output = on_both (Keeps a) (is_led_home a.controller.desk input (home_of input)) a (asks a (MoveBranch input output (home_of input)))
      (record { ports = λ e. refl; before = λ e. e }) (asks_keeps a (MoveBranch input output (home_of input)))

  pub join_lent : (a : Acted) (join : Join) → IsJoin setups a join → is_lent a.controller.ports join.input ≡ true
  join_lent a join is = any_at (lends_at join.input) port_key join.port.0 a.controller.ports is.linked is.found
      (any_at (lends join.input) grant_label join.grant.label is.linked.port.grants join.grant is.granted (ap (λ (o : Option End). option_map_or (same_end join.input) o false) is.input ∙ same_end_itself join.input))

  -- *A join is entered*
  -- the port of a label that is held is in Estab
  pub record IsHeldAt (a : Acted) (input : End) : Type 0 where
    pub linked : Linked
    pub found : linked_at a.controller input.port ≡ Some linked
    pub estab : is_estab linked.port.adjacency.state ≡ true

  pub held_at : (a : Acted) (input : End) (label : Label) → label_on a.controller input ≡ Some label → Holds setups a → IsHeldAt a input
  held_at a input label on h = by_found (linked_at a.controller input.port) refl on
    where
      by_session : (linked : Linked) → linked_at a.controller input.port ≡ Some linked → (o : Option Session) → linked.port.session ≡ o
          → at label_number (number_of_channel input.channel) (option_map_or (λ (s : Session). s.labels) o []) ≡ Some label → IsHeldAt a input
      by_session linked found None is e = absurd (cc e)
      by_session linked found (Some s) is e = record { linked = linked; found = found; estab = sym (found_port setups a linked input.port (has_ports setups a h.sound) found).session ∙ ap is_some is }

      by_found : (o : Option Linked) → linked_at a.controller input.port ≡ o → option_and_then (λ (linked : Linked). label_at linked.port (number_of_channel input.channel)) o ≡ Some label → IsHeldAt a input
      by_found None found e = absurd (cc e)
      by_found (Some linked) found e = by_session linked found linked.port.session refl e

  -- the grant is lent
  pub record IsLentNow (a b : Acted) (input : End) : Type 0 where
    pub holds : Holds setups b
    pub lent : is_lent b.controller.ports input ≡ true
    pub desk : b.controller.desk ≡ a.controller.desk

  lends_grant : (a : Acted) (linked : Linked) (grant : Grant) (input : End) → IsLabelEnd setups input → Found setups a linked → at grant_label grant.label linked.port.grants ≡ Some grant → grant.state ≡ ByController → Holds setups a
      → IsLentNow a (works_as a linked (port_joins.lent (begins a linked) grant input)) input
  lends_grant a linked grant input end found granted sending h =
      let w : Work = port_joins.lent (begins a linked) grant input in
      let after : Linked = record linked { port = w.port } in
      let new : Grant = record grant { state = ByInput input } in
      record {
        holds = placed_holds setups a linked w found (by_lending grant input granted sending end)
            (λ other is. any_put_leads (lends other) grant_label new linked.port.grants grant granted
            (λ l. absurd (both_not (lends other grant) l (ap (λ (s : GrantState). option_map_or (same_end other) (grants.lent_input s) false) sending))) is)
            (joined_at setups a linked found h) (λ e. e) h;
        lent = any_at (lends_at input) port_key (port_key after) (put port_key after a.controller.ports) after (at_put_same port_key after a.controller.ports linked found)
            (any_at (lends input) grant_label grant.label (put grant_label new linked.port.grants) new (at_put_same grant_label new linked.port.grants grant granted) (same_end_itself input));
        desk = refl;
      }

  pub lent_at_port : (a : Acted) (linked : Linked) (grant : Grant) (input : End) → IsLabelEnd setups input → Found setups a linked → at grant_label grant.label linked.port.grants ≡ Some grant → grant.state ≡ ByController → Holds setups a
      → IsLentNow a (enters_grant a (record { input = input; port = linked.setup.port; grant = grant })) input
  lent_at_port a linked grant input end found granted sending h = subst (λ (o : Option Linked). IsLentNow a (works a (λ setup desk w. port_joins.lent w grant input) o) input) (sym found)
      (lends_grant a linked grant input end found granted sending h)

  -- the label is joined
  joins_found : (a : Acted) (linked : Linked) (input output : End) (o : Option Label) → linked_at a.controller input.port ≡ Some linked → IsLabelEnd setups input
      → label_at linked.port (number_of_channel input.channel) ≡ o
      → Worked setups linked.setup a.controller.desk (begins a linked) (joins_label (begins a linked) (Some output) o) → is_lent a.controller.ports input ≡ true → Holds setups a
      → IsLentNow a (works_as a linked (joins_label (begins a linked) (Some output) o)) input
  joins_found a linked input output None found end at_label worked lent h = (let own : Found setups a linked = found_at_own setups a linked input.port found in
      record {
        holds = placed_holds setups a linked (begins a linked) own worked (λ other is. is) (joined_at setups a linked own h) (λ e. e) h;
        lent = any_put_leads (lends_at input) port_key (record linked { port = linked.port }) a.controller.ports linked own (λ l. l) lent;
        desk = refl;
      })
  joins_found a linked input output (Some label) found end at_label worked lent h =
      let own : Found setups a linked = found_at_own setups a linked input.port found in
      let joined : Label = record label { join = Some output } in
      let port : linked.setup.port ≡ input.port = same_number linked.setup.port input.port (at_key port_key input.port.0 a.controller.ports linked found) in
      let number : label.number ≡ number_of_channel input.channel = at_key label_number (number_of_channel input.channel) (labels_of linked.port) label at_label in
      let end_is : label_end linked.setup.port label.number ≡ input = ap (λ (n : ℕ). label_end linked.setup.port n) number ∙ ap (λ (p : PortNo). label_end p (number_of_channel input.channel)) port
      ∙ ap (λ c. record input { channel = c }) (label_channel_of-number_of_channel input.channel (of_label setups input end)) in
      record {
        holds = placed_holds setups a linked (joins_label (begins a linked) (Some output) (Some label)) own worked (λ other is. is)
            (session_every (IsLentTo a.controller.ports linked) linked.port (λ s. record s { labels = put label_number joined s.labels })
            (λ s is held. put_every label_number (IsLentTo a.controller.ports linked) joined s.labels (λ out e. ap (is_lent a.controller.ports) end_is ∙ lent) held) (joined_at setups a linked own h)) (λ e. e) h;
        lent = any_put_leads (lends_at input) port_key (record linked { port = (joins_label (begins a linked) (Some output) (Some label)).port }) a.controller.ports linked own (λ l. l) lent;
        desk = refl;
      }

  pub enters_label_lent : (a : Acted) (join : Join) → IsLabelEnd setups join.input → IsLabelEnd setups (output_joined join)
      → ((x : Linked) → linked_at a.controller join.input.port ≡ Some x → (held : Label) → label_at x.port (number_of_channel join.input.channel) ≡ Some held → held.state ≡ Offered)
      → is_lent a.controller.ports join.input ≡ true → Holds setups a → IsLentNow a (enters_label a join) join.input
  enters_label_lent a join end out offered lent h = by_found (linked_at a.controller join.input.port) refl
    where
      by_found : (o : Option Linked) → linked_at a.controller join.input.port ≡ o
          → IsLentNow a (works a (λ setup desk w. port_joins.joined w (number_of_channel join.input.channel) (output_joined join)) o) join.input
      by_found None found = record { holds = h; lent = lent; desk = refl }
      by_found (Some x) found = joins_found a x join.input (output_joined join) (label_at x.port (number_of_channel join.input.channel)) found end refl
          (by_joining (number_of_channel join.input.channel) (output_joined join) out (offered x found)) lent h

  pub joins_holds : (a : Acted) (input : End) (label : Label) (linked : Linked) (grant : Grant) → IsLabelEnd setups input → label_on a.controller input ≡ Some label → label.state ≡ Offered
      → Found setups a linked → at grant_label grant.label linked.port.grants ≡ Some grant → grant.state ≡ ByController → Holds setups a
      → Holds setups (joins a (Some (record { input = input; port = linked.setup.port; grant = grant })))
  joins_holds a input label linked grant end on offered found granted sending h =
      let join : Join = record { input = input; port = linked.setup.port; grant = grant } in
      let has : HasPorts setups a = has_ports setups a h.sound in
      let out : IsLabelEnd setups (output_joined join) = granted_end setups a linked grant has found granted in
      let held : IsHeldAt a input = held_at a input label on h in
      let before : OnPort a.controller.ports input label = on_port a.controller input label on in
      let lends : Acted = enters_grant a join in
      let first : IsLentNow a lends input = lent_at_port a linked grant input end found granted sending h in
      let second : IsLentNow lends (enters_label lends join) input = enters_label_lent lends join end out
      (λ x there held_label held_is. (let labels : labels_of x.port ≡ before.labels = image_is (λ (y : Linked). labels_of y.port) (linked_at lends.controller input.port) x before.labels (lends_labels setups a join input.port.0 ∙ before.there) there in
      let both : Some held_label ≡ Some label = sym held_is ∙ ap (at label_number (number_of_channel input.channel)) labels ∙ before.found in
      let same : held_label ≡ label = cc in
      ap (λ (y : Label). y.state) same ∙ offered)) first.lent first.holds in
      let last : Acted = enters_label lends join in
      asks_holds setups last (MoveBranch input (home_of input) (output_joined join)) (joins_label_shape input (output_joined join) end out)
      (λ estab. of_input (MoveBranch input (home_of input) (output_joined join)) input refl (lent_met setups last input second.lent second.holds)
      (λ apart. ap (λ (d : Desk). all_on d input.port) (second.desk ∙ first.desk) ∙ none_deleting setups a held.linked input.port held.found held.estab h) (to_free second.lent) second.lent) second.holds
