-- where a lifetime is set, the grant is there and has just that left of it

use Rattle.std.proofs.Common.{◌≡◌, ◌≢◌, ℕ, Bool, true, false, List, [], ◌∷◌, ◌++◌, length, Option, None, Some, refl, sym, ◌∙◌, ap, subst, arith, if◌then◌else◌}
use Rattle.std.specs.Prelude.{not, ◌==◌, nat_eq, nat_lt, nat_le, drop, is_some}
use Rattle.std.specs.Option.{option_and_then}
use Rattle.std.proofs.lemmas.Bool.Decides.{nat_tests}
use Rattle.law_controller.specs.world_model.Words.{Addr, PortNo, Channel, Mark, label_number_of, next_control, with_control, PacketFault, Cell, is_estab, FlowId, same_flow, Redirect, tested, last_mark, frame_cells, made, noted, Loss, PoolFull, Request, AddBranch, at, put, Desk, most_asked, last_transaction, Ask, Setup, is_in_range, control_end, label_end, Grant, Idle, grant_label, is_leaving, most_grants, Acceptance, New, Refreshed, IsLeaving, GrantsFull, acceptance_beside, acceptance_of, acceptance, Work, with_grant, Session, expects, accepts, grants_label, is_from_peer, is_due, hears, Controller, Linked, port_key, linked_at, with_linked, with_desk, default_channel, asks_next, asks, begins, with_work, node_resets, performs, performs_in_estab, works, works_as, at_port, forwards_packet, ForDefault, port_on, taker_of, ifmp_holds, counted_at, packet_holds, default_holds, takes_cell}
use Rattle.law_controller.specs.world_model.ipv4_packet.Packet.{first_fault}
use Rattle.law_controller.specs.world_model.ifmp_wire.declared.message.Message.{Message}
use Rattle.law_controller.specs.world_model.ifmp_wire.Fields.{decoded}
use Rattle.law_controller.specs.world_model.frame_model.Reassembly.{Taken, taken}
use Rattle.law_controller.specs.world_model.frame_model.Sending.{Sender}
use Rattle.law_controller.specs.world_model.gsmp_wire.Layout.{octets_of as gsmp_octets}
use Rattle.law_controller.specs.ordered_lists.Ordered.{Every, InOrder}
use Rattle.law_controller.proofs.ordered_lists.Every.{every_map}
use Rattle.law_controller.specs.world_model.port_model.Desk.{asked, message_at}
use Rattle.law_controller.specs.world_model.port_model.Grants.{OutOfRange, Taken as TakenBy}
use Rattle.law_controller.specs.world_model.port_model.Redirection.{redirected}
use Rattle.law_controller.proofs.law_port_facts.Keyed.{on_both, on_each, at_key, at_put_same, put_order, every_more}
use Rattle.law_controller.specs.world_model.Controller.{Acted, free_slots}
use Rattle.law_controller.specs.world_model.Sending.{with_cells, sends}
use Rattle.law_controller.specs.world_model.Cells.{Taker, opened_frame, ends_frame, cell_comes}
use Rattle.law_controller.specs.law_controller_facts.Inputs.{Input, CellComes, takes_input}
use Rattle.law_controller.specs.law_controller_facts.Sound.{IsSound}
use Rattle.law_controller.proofs.law_controller_facts.Moves.{found_port}
use Rattle.law_controller.proofs.law_controller_facts.Laws.{has_ports}
use Rattle.law_controller.proofs.Holding.{node_closed}
use Rattle.law_lifetimes.specs.Expiry.{payload_ended, Hears, Accepts, anew, again, Sets}
use Rattle.law_lifetimes.specs.Expiry.{has_switch, grant_at}
use Rattle.law_lifetimes.specs.Expiry.{HasLeft, IsReset}
use Rattle.law_lifetimes.proofs.Performing.{performs_fits, fold_fits}
use Rattle.law_lifetimes.proofs.Events.{taker_belongs, put_there}
use Rattle.law_lifetimes.proofs.Ticking.{put_apart, Short, AnyQueue, KShort, kept_short, FitsShort, other_short, ports_apart}
use Rattle.law_lifetimes.proofs.Standing.{UpOrNew, performed_up, in_session, stood, reset_by}
use Rattle.law_controller.proofs.law_port_facts.Rules.{and_second}

-- what isn't found isn't there
none_there : {A : Type 0} (key : A → ℕ) (k : ℕ) (xs : List A) → at key k xs ≡ None → Every (λ x. key x ≢ k) xs
none_there key k [] e = tt
none_there {A} key k (x ∷ xs) e = elim (nat_eq (key x) k) as (λ t. nat_eq (key x) k ≡ t → (if t then Some x else at key k xs) ≡ None → Every (λ y. key y ≢ k) (x ∷ xs)) [
  | true ↦ λ t h. absurd (cc h)
  | false ↦ λ t h. ((λ same. differ t same), none_there key k xs h)
] refl e
  where
    differ : nat_eq (key x) k ≡ false → key x ≡ k → ⊥
    differ t same = grind (arith, nat_tests)

-- *A new grant* is of a label that had none
fresh_label : (setup : Setup) (grants : List Grant) (flow : FlowId) (o : Option ℕ) (label : ℕ) → acceptance_of setup grants flow o ≡ New label → at grant_label label grants ≡ None
fresh_label setup grants flow None label e = absurd (cc e)
fresh_label setup grants flow (Some number) label e = on_both (λ (a : Acceptance). a ≡ New label → at grant_label label grants ≡ None) (is_in_range setup number) (acceptance_beside grants number flow (at grant_label number grants)) OutOfRange
    (beside (at grant_label number grants) refl) (λ e. absurd (cc e)) e
  where
    beside : (o : Option Grant) → at grant_label number grants ≡ o → acceptance_beside grants number flow o ≡ New label → at grant_label label grants ≡ None
    beside None found e = on_both (λ (a : Acceptance). a ≡ New label → at grant_label label grants ≡ None) (nat_lt (length grants) most_grants) (New number) GrantsFull
        (λ e. (let same : number ≡ label = cc in subst (λ k. at grant_label k grants ≡ None) same found)) (λ e. absurd (cc e)) e
    beside (Some grant) found e = on_both (λ (a : Acceptance). a ≡ New label → at grant_label label grants ≡ None) (not (same_flow grant.flow flow)) TakenBy (if is_leaving grant.state then IsLeaving else Refreshed grant)
        (λ e. absurd (cc e)) (on_both (λ (a : Acceptance). a ≡ New label → at grant_label label grants ≡ None) (is_leaving grant.state) IsLeaving (Refreshed grant) (λ e. absurd (cc e)) (λ e. absurd (cc e))) e

-- *A grant that is refreshed* is there, and isn't leaving
record IsRefreshed (grants : List Grant) (grant : Grant) : Type 0 where
  found : at grant_label grant.label grants ≡ Some grant
  live : is_leaving grant.state ≡ false

refreshed_there : (setup : Setup) (grants : List Grant) (flow : FlowId) (o : Option ℕ) (grant : Grant) → acceptance_of setup grants flow o ≡ Refreshed grant → IsRefreshed grants grant
refreshed_there setup grants flow None grant e = absurd (cc e)
refreshed_there setup grants flow (Some number) grant e = on_both (λ (a : Acceptance). a ≡ Refreshed grant → IsRefreshed grants grant) (is_in_range setup number) (acceptance_beside grants number flow (at grant_label number grants)) OutOfRange
    (beside (at grant_label number grants) refl) (λ e. absurd (cc e)) e
  where
    beside : (o : Option Grant) → at grant_label number grants ≡ o → acceptance_beside grants number flow o ≡ Refreshed grant → IsRefreshed grants grant
    beside None found e = on_both (λ (a : Acceptance). a ≡ Refreshed grant → IsRefreshed grants grant) (nat_lt (length grants) most_grants) (New number) GrantsFull (λ e. absurd (cc e)) (λ e. absurd (cc e)) e
    beside (Some old) found e = on_both (λ (a : Acceptance). a ≡ Refreshed grant → IsRefreshed grants grant) (not (same_flow old.flow flow)) TakenBy (if is_leaving old.state then IsLeaving else Refreshed old)
        (λ e. absurd (cc e)) (on_each (λ (a : Acceptance). a ≡ Refreshed grant → IsRefreshed grants grant) (is_leaving old.state) IsLeaving (Refreshed old) (λ leaving e. absurd (cc e))
        (λ live e. (let same : old ≡ grant = cc in subst (IsRefreshed grants) same
        (record { found = subst (λ k. at grant_label k grants ≡ Some old) (sym (at_key grant_label number grants old found)) found; live = live })))) e

-- what comes behind the others is found where none of them is
at_behind : {A : Type 0} (key : A → ℕ) (k : ℕ) (xs : List A) (y : A) → key y ≡ k → at key k xs ≡ None → at key k (xs ++ y ∷ []) ≡ Some y
at_behind key k [] y is e = ap (λ b. if b then Some y else None) own
  where
    own : nat_eq (key y) k ≡ true
    own = grind (arith, nat_tests)
at_behind {A} key k (x ∷ xs) y is e = elim (nat_eq (key x) k) as (λ t. (if t then Some x else at key k xs) ≡ None → (if t then Some x else at key k (xs ++ y ∷ [])) ≡ Some y) [
  | true ↦ λ h. absurd (cc h)
  | false ↦ λ h. at_behind key k xs y is h
] e

-- *A request is asked*: while the side with the switch is in Estab, the ports stay
sent_ports : (a : Acted) (channel : Channel) (mark : Mark) (payload : List ℕ) → (sends a channel mark payload).controller.ports ≡ a.controller.ports
sent_ports a channel mark payload = on_both (λ (s : Sender Controller). s.queues.ports ≡ a.controller.ports) (nat_le (length (frame_cells channel mark payload)) (free_slots a.controller))
    (record { queues = with_cells a.controller (frame_cells channel mark payload); notes = made a.notes mark payload })
    (record { queues = a.controller; notes = noted (made a.notes mark payload) (Loss mark PoolFull) }) refl refl

module _ (setups : List Setup) (Q : List Linked → Type 0) where
  abbrev InEstab : Acted → Type 0
  InEstab a = is_estab a.controller.adjacency.state ≡ true → Q a.controller.ports

  next_ports : (a : Acted) (request : Request) → (asks_next a request).controller.ports ≡ a.controller.ports
  next_ports a request = (let entered : Acted = with_desk a (asked a.controller.desk request) in
      sent_ports (record entered { numbers = with_control a.numbers }) default_channel (next_control a.numbers) (gsmp_octets (message_at entered.controller.desk (record { number = a.controller.desk.next; request = request }))))

  asks_in_estab : (a : Acted) (request : Request) → InEstab a → InEstab (asks a request)
  asks_in_estab a request h = on_each InEstab (is_estab a.controller.adjacency.state) (if a.controller.desk.next == last_transaction then node_resets a else asks_next a request) a
      (λ estab. on_both InEstab (a.controller.desk.next == last_transaction) (node_resets a) (asks_next a request) (λ up. absurd (cc (sym up ∙ node_closed setups a)))
      (λ up. subst Q (sym (next_ports a request)) (h estab))) (λ closed. h)

  ask_in_estab : (port : PortNo) (a : Acted) (request : Request) (needed : Bool) → InEstab a → InEstab (performs_in_estab port a (Ask request needed))
  ask_in_estab port a request needed h = on_both InEstab (is_estab a.controller.adjacency.state) (asks a request) a (asks_in_estab a request h) h

-- *A port hears a message*, and nothing else becomes of the cell
module _ (a : Acted) (cell : Cell) (linked : Linked) where
  abbrev pub after_taking : Taken
  after_taking = taken a.notes (nat_lt 0 (free_slots a.controller)) linked.reassembly cell

  abbrev pub gathered : Linked
  gathered = record linked { reassembly = after_taking.reassembly }

  abbrev pub listening : Acted
  listening = record (with_linked (record a { notes = after_taking.notes }) gathered) { notes = (tested after_taking.notes after_taking.ended).notes }

  pub heard_goes : (P : Acted → Type 0) (source : Addr) (message : Message) → Hears a (CellComes cell) linked source message → P (at_port listening linked.setup.port (λ setup desk w. hears setup desk w source message)) → P (cell_comes a cell)
  heard_goes P source message heard p = subst (λ (o : Option Taker). P (takes_cell a cell o)) (sym taker) (by_ended after_taking.ended refl)
    where
      same_cell : cell ≡ heard.cell
      same_cell = (let e : CellComes cell ≡ CellComes heard.cell = heard.comes in cc)

      taker : taker_of a.controller cell.header.channel ≡ Some (ForDefault linked)
      taker = subst (λ (c : Cell). taker_of a.controller c.header.channel ≡ Some (ForDefault linked)) (sym same_cell) heard.channel

      frame : payload_ended after_taking.notes after_taking.ended ≡ Some heard.payload
      frame = subst (λ (c : Cell). payload_ended (taken a.notes (nat_lt 0 (free_slots a.controller)) linked.reassembly c).notes (taken a.notes (nat_lt 0 (free_slots a.controller)) linked.reassembly c).ended ≡ Some heard.payload) (sym same_cell) heard.frame

      b : Acted
      b = with_linked (record a { notes = after_taking.notes }) gathered

      at_message : P (ifmp_holds listening linked.setup.port heard.packet (decoded (drop 20 heard.packet)))
      at_message = subst (λ r. P (ifmp_holds listening linked.setup.port heard.packet r)) (sym heard.says)
          (subst (λ (s : Addr). P (at_port listening linked.setup.port (λ setup desk w. hears setup desk w s message))) (sym heard.from) p)

      at_packet : P (packet_holds listening linked.setup.port (last_mark after_taking.ended) heard.packet (first_fault heard.packet))
      at_packet = subst (λ (o : Option PacketFault). P (packet_holds listening linked.setup.port (last_mark after_taking.ended) heard.packet o)) (sym heard.sound)
          (subst (λ t. P (if t then ifmp_holds listening linked.setup.port heard.packet (decoded (drop 20 heard.packet)) else counted_at (forwards_packet listening (last_mark after_taking.ended) heard.packet) linked.setup.port heard.packet)) (sym heard.control) at_message)

      at_payload : P (opened_frame listening (ForDefault linked) (last_mark after_taking.ended) (Some heard.payload))
      at_payload = subst (λ r. P (default_holds listening linked.setup.port (last_mark after_taking.ended) r)) (sym heard.unwrapped) at_packet

      by_ended : (ended : List Cell) → after_taking.ended ≡ ended → P (ends_frame b (ForDefault linked) ended)
      by_ended [] e = absurd (cc (sym (ap (payload_ended after_taking.notes) e) ∙ frame))
      by_ended (first ∷ rest) e =
          subst (λ (o : Option (List ℕ)). P (opened_frame (record b { notes = (tested after_taking.notes (first ∷ rest)).notes }) (ForDefault linked) (last_mark (first ∷ rest)) o))
          (sym (subst (λ (cells : List Cell). payload_ended after_taking.notes cells ≡ Some heard.payload) e frame))
          (subst (λ (cells : List Cell). P (opened_frame (record b { notes = (tested after_taking.notes cells).notes }) (ForDefault linked) (last_mark cells) (Some heard.payload))) e at_payload)

-- *A REDIRECT is accepted*
module _ (port : PortNo) (label lifetime : ℕ) (x : Linked) (here : x.setup.port.0 ≡ port.0) (apart : InOrder (λ (g : Grant) (k : Grant). g.label ≢ k.label) x.port.grants) (desk : Desk) (instances number : ℕ) (channel : Channel) (flow : FlowId) where
  abbrev begun : Work
  begun = record { port = x.port; actions = []; halted = false; instances = instances }

  accepted_short : (c : Controller) → c.desk ≡ desk → (a : Acceptance) → acceptance x.setup x.port.grants channel flow ≡ a → Accepts c label a → KShort port label lifetime x.setup (redirected x.setup desk (expects begun number) channel flow lifetime a).port
  accepted_short c same (New new) e (anew room) =
      subst (λ b. KShort port label lifetime x.setup (if b then grants_label x.setup (expects begun number) label flow lifetime else expects begun number).port)
      (sym (subst (λ (d : Desk). nat_lt (length d.standing) most_asked ≡ true) same room))
      (every_more (Short port.0 label lifetime x.setup.port.0) x.port.grants (record { label = label; flow = flow; lifetime = lifetime; state = Idle })
      (every_map (λ (g : Grant). grant_label g ≢ label) (Short port.0 label lifetime x.setup.port.0) x.port.grants (λ g other t is live. absurd (other is)) (none_there grant_label label x.port.grants (fresh_label x.setup x.port.grants flow (label_number_of channel) label e)))
      (λ t is live. omega arith))
  accepted_short c same OutOfRange e none = elim none [ ]
  accepted_short c same TakenBy e none = elim none [ ]
  accepted_short c same IsLeaving e none = elim none [ ]
  accepted_short c same GrantsFull e none = elim none [ ]
  accepted_short c same (Refreshed old) e (again grant is) =
      put_apart grant_label (Short port.0 label lifetime x.setup.port.0) (record grant { lifetime = lifetime }) x.port.grants apart (λ t own live. omega arith) (λ z other t own live. absurd (other (own ∙ sym is)))

module _ (setups : List Setup) (port : PortNo) (label lifetime : ℕ) where
  module _ (a : Acted) (input : Input) (s : IsSound setups a.controller) (sets : Sets a input port label lifetime) where
    abbrev linked : Linked
    linked = sets.linked

    abbrev cell : Cell
    cell = sets.heard.cell

    abbrev message : Message
    message = Redirect sets.sender sets.peer sets.number lifetime sets.channel sets.flow

    here : linked.setup.port.0 ≡ port.0
    here = ap (λ (p : PortNo). p.0) sets.here

    found : linked_at a.controller (port_on cell.header.channel) ≡ Some linked
    found = taker_belongs a.controller cell.header.channel (ForDefault linked) sets.heard.channel

    abbrev c : Acted
    c = listening a cell linked

    abbrev x : Linked
    x = gathered a cell linked

    there : linked_at c.controller linked.setup.port ≡ Some x
    there = put_there (record a { notes = (after_taking a cell linked).notes }) (port_on cell.header.channel) linked x found refl

    abbrev w : Work
    w = hears x.setup c.controller.desk (begins c x) sets.source message

    apart : InOrder (λ (y : Linked) (z : Linked). port_key y ≢ port_key z) c.controller.ports
    apart = put_order port_key (λ m n. m ≢ n) x a.controller.ports (ports_apart port label setups lifetime a s)

    short : KShort port label lifetime x.setup w.port
    short = subst (λ b. KShort port label lifetime x.setup (if b then redirected x.setup c.controller.desk (expects (begins c x) sets.number) sets.channel sets.flow lifetime (acceptance x.setup x.port.grants sets.channel sets.flow) else begins c x).port) (sym sets.due)
        (accepted_short port label lifetime x here (found_port setups a linked (port_on cell.header.channel) (has_ports setups a s) found).apart c.controller.desk c.numbers.instances sets.number sets.channel sets.flow a.controller refl
        (acceptance x.setup x.port.grants sets.channel sets.flow) refl sets.accepted)

    placed : FitsShort port label lifetime (with_work c x w)
    placed = record { ports = put_apart port_key (λ (y : Linked). KShort port label lifetime y.setup y.port) (record x { port = w.port }) c.controller.ports apart short (λ z other. other_short port label lifetime z (λ e. other (e ∙ sym here))); queue = tt }

    worked : FitsShort port label lifetime (works_as c x w)
    worked = fold_fits (KShort port label lifetime) AnyQueue (kept_short port label lifetime) (performs_in_estab x.setup.port)
        (λ b action l. on_both (FitsShort port label lifetime) (is_estab b.controller.adjacency.state) (performs x.setup.port b action) b (performs_fits (KShort port label lifetime) AnyQueue (kept_short port label lifetime) x.setup.port b action l) l) w.actions (with_work c x w) placed

    by_cell : FitsShort port label lifetime (cell_comes a cell)
    by_cell = heard_goes a cell linked (FitsShort port label lifetime) sets.source message (subst (λ (i : Input). Hears a i linked sets.source message) sets.heard.comes sets.heard)
        (subst (λ (o : Option Linked). FitsShort port label lifetime (works c (λ setup desk w. hears setup desk w sets.source message) o)) (sym there) worked)

    -- *It is accepted*: a new grant is made, and its branch is asked; or one that is there is refreshed, and nothing is
    -- asked
    abbrev anew_work : Work
    anew_work = grants_label x.setup (expects (begins c x) sets.number) label sets.flow lifetime

    abbrev again_work : Grant → Work
    again_work grant = with_grant (accepts (expects (begins c x) sets.number)) (record grant { lifetime = lifetime })

    abbrev branch : Request
    branch = AddBranch (control_end x.setup.port label) (label_end x.setup.port label)

    module _ (P : Acted → Type 0) (made : acceptance_of x.setup x.port.grants sets.flow (label_number_of sets.channel) ≡ New label → P (performs_in_estab x.setup.port (with_work c x anew_work) (Ask branch false)))
        (kept : (grant : Grant) → grant.label ≡ label → acceptance_of x.setup x.port.grants sets.flow (label_number_of sets.channel) ≡ Refreshed grant → P (with_work c x (again_work grant))) where
      accepted_goes : (r : Acceptance) → acceptance x.setup x.port.grants sets.channel sets.flow ≡ r → Accepts a.controller label r
          → P (works_as c x (redirected x.setup c.controller.desk (expects (begins c x) sets.number) sets.channel sets.flow lifetime r))
      accepted_goes (New new) e (anew room) = subst (λ b. P (works_as c x (if b then anew_work else expects (begins c x) sets.number))) (sym room) (made e)
      accepted_goes OutOfRange e none = elim none [ ]
      accepted_goes TakenBy e none = elim none [ ]
      accepted_goes IsLeaving e none = elim none [ ]
      accepted_goes GrantsFull e none = elim none [ ]
      accepted_goes (Refreshed old) e (again grant is) = kept grant is e

      taken_goes : P (works_as c x w)
      taken_goes = subst (λ b. P (works_as c x (if b then redirected x.setup c.controller.desk (expects (begins c x) sets.number) sets.channel sets.flow lifetime (acceptance x.setup x.port.grants sets.channel sets.flow) else begins c x))) (sym sets.due)
          (accepted_goes (acceptance x.setup x.port.grants sets.channel sets.flow) refl sets.accepted)

      set_goes : P (cell_comes a cell)
      set_goes = heard_goes a cell linked P sets.source message (subst (λ (i : Input). Hears a i linked sets.source message) sets.heard.comes sets.heard)
          (subst (λ (o : Option Linked). P (works c (λ setup desk w. hears setup desk w sets.source message) o)) (sym there) taken_goes)

    -- *The grant is there* afterwards, while the side with the switch is in Estab
    abbrev IsGranted : List Linked → Type 0
    IsGranted ports = HasLeft (option_and_then (λ (y : Linked). at grant_label label y.port.grants) (at port_key port.0 ports)) lifetime

    placed_there : (v : Work) → at port_key port.0 (with_work c x v).controller.ports ≡ Some (record x { port = v.port })
    placed_there v = subst (λ k. at port_key k (with_work c x v).controller.ports ≡ Some (record x { port = v.port })) here
        (put_there (record c { numbers = record c.numbers { instances = v.instances } }) linked.setup.port x (record x { port = v.port }) there refl)

    placed_granted : (v : Work) → HasLeft (at grant_label label v.port.grants) lifetime → InEstab setups IsGranted (with_work c x v)
    placed_granted v h estab = subst (λ (o : Option Linked). HasLeft (option_and_then (λ (y : Linked). at grant_label label y.port.grants) o) lifetime) (sym (placed_there v)) h

    made_granted : acceptance_of x.setup x.port.grants sets.flow (label_number_of sets.channel) ≡ New label → InEstab setups IsGranted (performs_in_estab x.setup.port (with_work c x anew_work) (Ask branch false))
    made_granted e =
        let fresh : Grant = record { label = label; flow = sets.flow; lifetime = lifetime; state = Idle } in
        ask_in_estab setups IsGranted x.setup.port (with_work c x anew_work) branch false
        (placed_granted anew_work (record { grant = fresh; there = at_behind grant_label label x.port.grants fresh refl (fresh_label x.setup x.port.grants sets.flow (label_number_of sets.channel) label e); live = refl; left = refl }))

    kept_granted : (grant : Grant) → grant.label ≡ label → acceptance_of x.setup x.port.grants sets.flow (label_number_of sets.channel) ≡ Refreshed grant → InEstab setups IsGranted (with_work c x (again_work grant))
    kept_granted grant is e =
        let old : IsRefreshed x.port.grants grant = refreshed_there x.setup x.port.grants sets.flow (label_number_of sets.channel) grant e in
        let after : Grant = record grant { lifetime = lifetime } in
        placed_granted (again_work grant)
        (record { grant = after; there = subst (λ k. at grant_label k (put grant_label after x.port.grants) ≡ Some after) is (at_put_same grant_label after x.port.grants grant old.found); live = old.live; left = refl })

    granted_by_cell : InEstab setups IsGranted (cell_comes a cell)
    granted_by_cell = set_goes (InEstab setups IsGranted) made_granted kept_granted

    -- *The session stands*, or the node was reset
    up : has_switch a.controller ≡ true
    up = in_session setups a (port_on cell.header.channel) linked s found (of_due linked.port.session (and_second (is_from_peer linked.port.adjacency sets.source sets.sender sets.peer) (is_due linked.port.session sets.number) sets.due))
      where
        of_due : (o : Option Session) → is_due o sets.number ≡ true → is_some o ≡ true
        of_due None e = absurd (cc e)
        of_due (Some session) e = refl

    up_by_cell : UpOrNew a.numbers.instances (cell_comes a cell)
    up_by_cell = set_goes (UpOrNew a.numbers.instances) (λ e. performed_up a.numbers.instances x.setup (with_work c x anew_work) (Ask branch false) (stood a up)) (λ grant is e. stood a up)

  pub set_granted : (a : Acted) (input : Input) → IsSound setups a.controller → Sets a input port label lifetime → has_switch (takes_input a input).controller ≡ true → HasLeft (grant_at (takes_input a input).controller port label) lifetime
  set_granted a input s sets = subst (λ (i : Input). InEstab setups (IsGranted a input s sets) (takes_input a i)) (sym sets.heard.comes) (granted_by_cell a input s sets)

  pub set_resets : (a : Acted) (input : Input) → IsSound setups a.controller → Sets a input port label lifetime → has_switch (takes_input a input).controller ≡ false → IsReset a (takes_input a input)
  set_resets a input s sets = reset_by a (takes_input a input) (subst (λ (i : Input). UpOrNew a.numbers.instances (takes_input a i)) (sym sets.heard.comes) (up_by_cell a input s sets))

  -- *Where it is set*, it has at most that left
  pub set_short : (a : Acted) (input : Input) → IsSound setups a.controller → Sets a input port label lifetime → FitsShort port label lifetime (takes_input a input)
  set_short a input s sets = subst (λ (i : Input). FitsShort port label lifetime (takes_input a i)) (sym sets.heard.comes) (by_cell a input s sets)
