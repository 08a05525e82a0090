-- asking, resets, and what a port at work has asked, are made of the moves of a controller

use Rattle.std.proofs.Common.{◌≡◌, ℕ, true, List, [], ◌∷◌, Option, None, Some, refl, sym, subst, if◌then◌else◌, map, fold}
use Rattle.std.specs.Prelude.{◌==◌, is_some}
use Rattle.claims_model.specs.world_model.Words.{PortNo, End, is_estab, Request, MoveBranch, cut, nothing_taken, ifmp_packet_of, default_payload, at, Standing, is_led_home, last_transaction, Action, Say, Ask, Note, CutChain, TakeBack, Withdraw, Setup, home_of, Work, resets, restarts, Linked, linked_at, with_desk, chain_of, chains_with, default_channel, default_home, says_gsmp, says_ifmp, sends_request, asks_next, asks, takes_back, cuts_of, cuts_label, cuts_default_of, cuts_default, cuts_gsmp, begins, with_work, closes_by, port_restarts_of, port_restarts, resets_gsmp, node_resets, node_restarts, does, does_in_estab, resets_of, resets_port, performs, performs_in_estab, Rule, works_as, works, at_port}
use Rattle.claims_model.specs.world_model.gsmp_wire.Layout.{octets_of as gsmp_octets}
use Rattle.claims_model.specs.world_model.gsmp_wire.declared.message.Message.{Message as GsmpMessage}
use Rattle.claims_model.specs.world_model.ifmp_wire.declared.message.Message.{Message as IfmpMessage}
use Rattle.claims_model.specs.world_model.ifmp_wire.Message.{octets_of as ifmp_octets}
use Rattle.law_port_facts.specs.ordered_lists.Ordered.{Every}
use Rattle.claims_model.specs.world_model.port_model.Desk.{asked, message_at}
use Rattle.claims_model.specs.world_model.port_model.declared.action.Action.TheVariants.{Reset}
use Rattle.law_port_facts.specs.Port.{setup_port, IsLinked, IsShaped, parts_label, IsAction}
use Rattle.law_port_facts.proofs.Keyed.{on_both, on_each, each_key_found}
use Rattle.law_port_facts.proofs.Joins.{resets_kept, restarts_kept}
use Rattle.claims_model.specs.world_model.Controller.{Acted, ports_of}
use Rattle.law_controller_facts.specs.Sound.{linked_setup}
use Rattle.law_controller_facts.proofs.Moves.{Worked, by_reset, by_restart, Found, noting, taking_notes, sending_control, asking, withdrawing, placing, gathering, chaining, Moves, stays, moves_to, further, HasPorts, found_setup, found_at_own, begun, moves_fold, goes_on, worked_kept, Fine, rests, goes_to, and_on, fine_moves, fine_ports, fine_fold, reset_ports, resets_node}

module _ (setups : List Setup) where
  abbrev pub To : Acted → Acted → Type 0
  To = Moves setups

  pub says_gsmp_goes : (a : Acted) (message : GsmpMessage) → To a (says_gsmp a message)
  says_gsmp_goes a message = moves_to (sending_control a default_channel (gsmp_octets message))

  pub says_ifmp_goes : (port : PortNo) (a : Acted) (message : IfmpMessage) → To a (says_ifmp port a message)
  says_ifmp_goes port a message = moves_to (sending_control a (default_home port).channel (default_payload (ifmp_packet_of a.controller.address (ifmp_octets message))))

  -- *The ports by their numbers*
  abbrev pub Any : PortNo → Type 0
  Any port = Unit {0}

  pub any_ports : (ports : List PortNo) → Every Any ports
  any_ports [] = tt
  any_ports (port ∷ ports) = (tt, any_ports ports)

  -- each is linked
  pub ports_linked : (a : Acted) → HasPorts setups a → Every (IsLinked setups) (ports_of a.controller)
  ports_linked a h = by_setups a.controller.ports (subst (λ (s : List Setup). Every (λ (x : Setup). is_some (at setup_port x.port.0 setups) ≡ true) s) (sym h.ports.same) (each_key_found setup_port setups))
    where
      by_setups : (ports : List Linked) → Every (λ (x : Setup). is_some (at setup_port x.port.0 setups) ≡ true) (map linked_setup ports) → Every (IsLinked setups) (map (λ (linked : Linked). linked.setup.port) ports)
      by_setups [] e = tt
      by_setups (linked ∷ ports) e = (e.0, by_setups ports e.1)

  -- *A chain is cut*
  cuts_of_fine : (a : Acted) (label : ℕ) (port : PortNo) (o : Option Linked) → linked_at a.controller port ≡ o → Fine setups a (cuts_of a label o)
  cuts_of_fine a label port None found = rests a
  cuts_of_fine a label port (Some linked) found =
      let noted : Acted = record a { notes = cut a.notes (chain_of linked.chains label) } in
      and_on (goes_to (taking_notes a (cut a.notes (chain_of linked.chains label))))
      (goes_to (chaining noted linked (record linked { chains = chains_with linked.chains label nothing_taken }) (found_at_own setups a linked port found) refl refl))

  cuts_label_fine : (port : PortNo) (a : Acted) (label : ℕ) → Fine setups a (cuts_label port a label)
  cuts_label_fine port a label = cuts_of_fine a label port (linked_at a.controller port) refl

  pub cuts_label_goes : (port : PortNo) (a : Acted) (label : ℕ) → To a (cuts_label port a label)
  cuts_label_goes port a label = fine_moves setups (cuts_label_fine port a label)

  cuts_default_of_goes : (a : Acted) (port : PortNo) (o : Option Linked) → linked_at a.controller port ≡ o → To a (cuts_default_of a o)
  cuts_default_of_goes a port None found = stays a
  cuts_default_of_goes a port (Some linked) found =
      let noted : Acted = record a { notes = cut a.notes linked.reassembly } in
      further (moves_to (taking_notes a (cut a.notes linked.reassembly)))
      (moves_to (chaining noted linked (record linked { reassembly = nothing_taken }) (found_at_own setups a linked port found) refl refl))

  pub cuts_default_goes : (a : Acted) (port : PortNo) → To a (cuts_default a port)
  cuts_default_goes a port = cuts_default_of_goes a port (linked_at a.controller port) refl

  -- *Node reset*
  closes_by_fine : (port : PortNo) (a : Acted) (action : Action) → Fine setups a (closes_by port a action)
  closes_by_fine port a (Say message) = rests a
  closes_by_fine port a (Ask request needed) = rests a
  closes_by_fine port a (Note item) = goes_to (noting a item)
  closes_by_fine port a (CutChain label) = cuts_label_fine port a label
  closes_by_fine port a (TakeBack input output) = rests a
  closes_by_fine port a (Withdraw input) = rests a
  closes_by_fine port a Reset = rests a

  pub port_restarts_of_fine : (a : Acted) (port : PortNo) (o : Option Linked) → HasPorts setups a → linked_at a.controller port ≡ o → Fine setups a (port_restarts_of a o)
  port_restarts_of_fine a port None h found = rests a
  port_restarts_of_fine a port (Some linked) h found =
      let w : Work = restarts linked.setup (begins a linked) in
      let put_back : Fine setups a (with_work a linked w) = goes_to (placing a linked w (found_at_own setups a linked port found) by_restart) in
      and_on put_back (fine_fold setups (IsAction setups) (closes_by linked.setup.port) (λ b action kb fits. closes_by_fine linked.setup.port b action) w.actions
      (restarts_kept setups linked.setup (found_setup setups a linked linked.setup.port h (found_at_own setups a linked port found)) (begins a linked) (begun setups a linked port h found)).actions
      (with_work a linked w) (fine_ports setups put_back h))

  pub node_resets_goes : (a : Acted) → HasPorts setups a → To a (node_resets a)
  node_resets_goes a h = resets_node a (fine_fold setups Any port_restarts (λ b port kb any. port_restarts_of_fine b port (linked_at b.controller port) kb refl) (ports_of a.controller) (any_ports (ports_of a.controller)) (resets_gsmp a) (reset_ports setups a h))

  pub node_restarts_goes : (a : Acted) → HasPorts setups a → To a (node_restarts a)
  node_restarts_goes a h =
      let fresh : Acted = node_resets a in
      goes_on setups h (node_resets_goes a h)
      (λ k. goes_on setups k (further (moves_to (taking_notes fresh (cut fresh.notes fresh.controller.reassembly)))
      (moves_to (gathering (record fresh { notes = cut fresh.notes fresh.controller.reassembly }) nothing_taken)))
      (λ l. moves_fold setups Any cuts_default (λ b port kb any. cuts_default_goes b port) (ports_of a.controller) (any_ports (ports_of a.controller)) (cuts_gsmp fresh) l))

  -- *Asking*
  pub sends_request_goes : (a : Acted) (s : Standing) → To a (sends_request a s)
  sends_request_goes a s = says_gsmp_goes a (message_at a.controller.desk s)

  pub asks_goes : (a : Acted) (request : Request) → HasPorts setups a → IsShaped setups request → To a (asks a request)
  asks_goes a request h shaped = on_each (To a) (is_estab a.controller.adjacency.state) (if a.controller.desk.next == last_transaction then node_resets a else asks_next a request) a
      (λ estab. on_each (To a) (a.controller.desk.next == last_transaction) (node_resets a) (asks_next a request)
      (λ spent. node_resets_goes a h)
      (λ room. further (moves_to (asking a request estab room shaped))
      (sends_request_goes (with_desk a (asked a.controller.desk request)) (record { number = a.controller.desk.next; request = request }))))
      (λ t. stays a)

  pub asks_each : (requests : List Request) → Every (IsShaped setups) requests → (a : Acted) → HasPorts setups a → To a (fold asks a requests)
  asks_each requests all a h = moves_fold setups (IsShaped setups) asks (λ b request k shaped. asks_goes b request k shaped) requests all a h

  pub takes_back_goes : (a : Acted) (input output : End) → HasPorts setups a → IsShaped setups (MoveBranch input output (home_of input)) → To a (takes_back a input output)
  takes_back_goes a input output h shaped = on_both (To a) (is_led_home a.controller.desk input (home_of input)) a (asks a (MoveBranch input output (home_of input)))
      (stays a) (asks_goes a (MoveBranch input output (home_of input)) h shaped)

  -- *One action*
  does_goes : (port : PortNo) (a : Acted) (action : Action) → HasPorts setups a → IsAction setups action → To a (does port a action)
  does_goes port a (Say message) h fits = says_ifmp_goes port a message
  does_goes port a (Ask request needed) h fits = asks_goes a request h fits.0
  does_goes port a (Note item) h fits = moves_to (noting a item)
  does_goes port a (CutChain label) h fits = cuts_label_goes port a label
  does_goes port a (TakeBack input output) h fits = takes_back_goes a input output h (parts_label input output fits.0 fits.1)
  does_goes port a (Withdraw input) h fits = moves_to (withdrawing a input)
  does_goes port a Reset h fits = stays a

  pub does_in_estab_goes : (port : PortNo) (a : Acted) (action : Action) → HasPorts setups a → IsAction setups action → To a (does_in_estab port a action)
  does_in_estab_goes port a action h fits = on_both (To a) (is_estab a.controller.adjacency.state) (does port a action) a (does_goes port a action h fits) (stays a)

  -- *Port reset*
  pub resets_of_goes : (a : Acted) (port : PortNo) (o : Option Linked) → HasPorts setups a → linked_at a.controller port ≡ o → To a (resets_of a o)
  resets_of_goes a port None h found = stays a
  resets_of_goes a port (Some linked) h found =
      let w : Work = resets linked.setup (begins a linked) in
      goes_on setups h (moves_to (placing a linked w (found_at_own setups a linked port found) by_reset))
      (λ k. moves_fold setups (IsAction setups) (does_in_estab linked.setup.port) (λ b action kb fits. does_in_estab_goes linked.setup.port b action kb fits) w.actions
      (resets_kept setups linked.setup (found_setup setups a linked linked.setup.port h (found_at_own setups a linked port found)) (begins a linked) (begun setups a linked port h found)).actions (with_work a linked w) k)

  pub resets_port_goes : (a : Acted) (port : PortNo) → HasPorts setups a → To a (resets_port a port)
  resets_port_goes a port h = resets_of_goes a port (linked_at a.controller port) h refl

  -- *Each action*
  performs_goes : (port : PortNo) (a : Acted) (action : Action) → HasPorts setups a → IsAction setups action → To a (performs port a action)
  performs_goes port a (Say message) h fits = does_goes port a (Say message) h fits
  performs_goes port a (Ask request needed) h fits = does_goes port a (Ask request needed) h fits
  performs_goes port a (Note item) h fits = does_goes port a (Note item) h fits
  performs_goes port a (CutChain label) h fits = does_goes port a (CutChain label) h fits
  performs_goes port a (TakeBack input output) h fits = does_goes port a (TakeBack input output) h fits
  performs_goes port a (Withdraw input) h fits = does_goes port a (Withdraw input) h fits
  performs_goes port a Reset h fits = resets_port_goes a port h

  pub performs_in_estab_goes : (port : PortNo) (a : Acted) (action : Action) → HasPorts setups a → IsAction setups action → To a (performs_in_estab port a action)
  performs_in_estab_goes port a action h fits = on_both (To a) (is_estab a.controller.adjacency.state) (performs port a action) a (performs_goes port a action h fits) (stays a)

  -- *A rule of a port*
  pub works_as_goes : (a : Acted) (linked : Linked) (w : Work) → HasPorts setups a → Found setups a linked → Worked setups linked.setup a.controller.desk (begins a linked) w → To a (works_as a linked w)
  works_as_goes a linked w h found worked =
      goes_on setups h (moves_to (placing a linked w found worked))
      (λ k. moves_fold setups (IsAction setups) (performs_in_estab linked.setup.port) (λ b action kb fits. performs_in_estab_goes linked.setup.port b action kb fits) w.actions
      (worked_kept setups linked.setup a.controller.desk (found_setup setups a linked linked.setup.port h found) (begins a linked) w worked (begun setups a linked linked.setup.port h found)).actions (with_work a linked w) k)

  pub at_port_goes : (a : Acted) (port : PortNo) (rule : Rule) → HasPorts setups a
      → ((linked : Linked) → linked_at a.controller port ≡ Some linked → Worked setups linked.setup a.controller.desk (begins a linked) (rule linked.setup a.controller.desk (begins a linked)))
      → To a (at_port a port rule)
  at_port_goes a port rule h worked = by_found (linked_at a.controller port) refl
    where
      by_found : (o : Option Linked) → linked_at a.controller port ≡ o → To a (works a rule o)
      by_found None found = stays a
      by_found (Some linked) found = works_as_goes a linked (rule linked.setup a.controller.desk (begins a linked)) h (found_at_own setups a linked port found) (worked linked found)
