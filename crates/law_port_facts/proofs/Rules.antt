-- each rule of a port is made of its steps: counting, hearing, reclaiming, answers

use Rattle.std.proofs.Common.{◌≡◌, ℕ, ◌≤◌, ◌<◌, Bool, true, false, List, [], ◌∷◌, length, Option, None, Some, refl, sym, ◌∙◌, ap, subst, arith, if◌then◌else◌, map, fold}
use Rattle.std.specs.Prelude.{IsTrue, not, ◌+◌, ◌-◌, ◌==◌, ◌&&◌, nat_lt, max, min}
use Rattle.std.specs.Option.{option_map, option_map_or, option_or}
use Rattle.std.specs.List.{range_with_len}
use Rattle.std.proofs.lemmas.Bool.Decides.{nat_tests}
use Rattle.port_model.specs.Words.{Addr, Channel, End, Hello, Peer, label_channel_of, label_number_of, ifmp_received, heard_from, FlowId, FlowKind, IsFlow, has_ports, shows_ports, flow_of, same_flow, tos_of, ttl_of, protocol_of, source_of, destination_of, Request, AddBranch, MoveBranch, DeleteTree, VerifyTree, PortManagement, Bind, at, Desk, Setup, is_in_range, is_between, label_numbers, label_end, Label, LabelState, Wiring, Offered, Recalled, Wired, label_number, is_bound, serves, is_spare, lowest_spare, label_for, Grant, GrantState, Idle, ByController, ByInput, Leaving, grant_label, grant_on, is_leaving, most_grants, Acceptance, New, Refreshed, IsLeaving, GrantsFull, acceptance_of, acceptance_beside, counted_once, packets_in, Session, Work, with_session, with_label, with_grant, without_grant, label_at, labels_of, known_of, has_room, Unnumbered, tells, redirect, reclaim, reclaim_ack, label_range, error, last_number, unwires, quits_label, quits_in, quits_found, quits, is_good, learns, packet_flow, wires, offers, counts_in, used_label, counts_flow, counts_by, counts, used, accepts, grants_label, reclaims_in, reclaims, unjoins, recalls, recalls_in, recalls_offered, reclaimed_in, reclaimed, acknowledged_in, acknowledged, narrowed, is_outside, recalls_outside, ranged, error_comes, label_by, bound_in, bound, freed_in, freed, started_in, started}
use Rattle.port_model.specs.adjacency_table.Side as sides
use Rattle.port_model.specs.ipv4_packet.declared.flow.FlowId.TheVariants.{One, Two}
use Rattle.port_model.specs.ipv4_packet.declared.flow.FlowKind.TheVariants.{One as ConnectionKind, Two as HostsKind}
use Rattle.port_model.specs.octet_fields.Fields.{u16_at}
use Rattle.port_model.specs.gsmp_wire.declared.request.Request.TheVariants.{DeleteAll, AllPorts}
use Rattle.ordered_lists.specs.Ordered.{InOrder}
use Rattle.port_model.specs.declared.action.Action.TheVariants.{Note, CutChain}
use Rattle.port_model.specs.Grants.{lent_input, OutOfRange, Taken}
use Rattle.port_model.specs.Port.{Port, with_action}
use Rattle.port_model.specs.Saying.{says}
use Rattle.port_model.specs.Adjacency.{steps, greeted}
use Rattle.port_model.specs.Redirection.{redirected}
use Rattle.port_model.specs.Answers.{done}
use Rattle.law_port_facts.specs.Port.{IsBefore}
use Rattle.law_port_facts.proofs.Keyed.{on_both, on_each, find_at}
use Rattle.law_port_facts.proofs.Steps.{hears, KeepsLabel, of_label, of_grant, in_session, was_live, telling, closing, noting, turning, minding, relabelling, wiring, binding, quitting, unwiring, freeing, accepting, granting, regranting, starting, ending, taking_back, HeldFlow, IsTold, offering, recalling, acknowledging, narrowing, refusing, GoesOn, stays, steps_to, further}
use Rattle.law_port_facts.proofs.Found.{find_passes, find_every, filter_passes, by_number, by_label, Held, still_held, still_flow, said_held, Granted, still_granted, acts_port}

-- a test of two, both of which pass
pub and_first : (a b : Bool) → (a && b) ≡ true → a ≡ true
and_first true b e = refl
and_first false b e = absurd (cc e)

pub and_second : (a b : Bool) → (a && b) ≡ true → b ≡ true
and_second true b e = e
and_second false b e = absurd (cc e)

-- *Flows*
and_both : (a b : Bool) → (a && b) ≡ true → (a ≡ true) × (b ≡ true)
and_both a b e = (and_first a b e, and_second a b e)

number_same : (m n : ℕ) → (m == n) ≡ true → m ≡ n
number_same m n e = grind (arith, nat_tests)

-- a flow that is the same as one that packets can have is one
pub same_alive : (flow other : FlowId) → same_flow flow other ≡ true → IsFlow other → IsFlow flow
same_alive (One tos ttl protocol source destination source_port destination_port) (One tos2 ttl2 protocol2 source2 destination2 source_port2 destination_port2) e alive =
    let first = and_first (tos == tos2 && (ttl == ttl2 && protocol == protocol2)) _ e in
    let both = and_both (ttl == ttl2) (protocol == protocol2) (and_second (tos == tos2) (ttl == ttl2 && protocol == protocol2) first) in
    (subst (λ n. 0 < n) (sym (number_same ttl ttl2 both.0)) alive.0, subst (λ n. IsTrue (has_ports n)) (sym (number_same protocol protocol2 both.1)) alive.1)
same_alive (Two ttl source destination) (Two ttl2 source2 destination2) e alive =
    subst (λ n. 0 < n) (sym (number_same ttl ttl2 (and_first (ttl == ttl2) (source.0 == source2.0 && destination.0 == destination2.0) e))) alive
same_alive (One tos ttl protocol source destination source_port destination_port) (Two ttl2 source2 destination2) e alive = absurd (cc e)
same_alive (Two ttl source destination) (One tos2 ttl2 protocol2 source2 destination2 source_port2 destination_port2) e alive = absurd (cc e)

-- the flow of a packet is one
above_zero : (n : ℕ) → not (n == 0) ≡ true → 0 < n
above_zero n e = grind (arith, nat_tests)

kind_alive : (kind : FlowKind) (packet : List ℕ) (flow : FlowId) → flow_of kind packet ≡ Some flow → IsFlow flow
kind_alive ConnectionKind packet flow e = on_each (λ (o : Option FlowId). o ≡ Some flow → IsFlow flow) (not (ttl_of packet == 0) && shows_ports packet) _ None
    (λ t is. (let both = and_both (not (ttl_of packet == 0)) (shows_ports packet) t in
    let same : One (tos_of packet) (ttl_of packet) (protocol_of packet) (source_of packet) (destination_of packet) (u16_at packet 20) (u16_at packet 22) ≡ flow = cc in
    subst IsFlow same (above_zero (ttl_of packet) both.0, and_first (has_ports (protocol_of packet)) _ both.1)))
    (λ t is. absurd (cc is)) e
kind_alive HostsKind packet flow e = on_each (λ (o : Option FlowId). o ≡ Some flow → IsFlow flow) (not (ttl_of packet == 0)) _ None
    (λ t is. (let same : Two (ttl_of packet) (source_of packet) (destination_of packet) ≡ flow = cc in subst IsFlow same (above_zero (ttl_of packet) t)))
    (λ t is. absurd (cc is)) e

pub packet_alive : (packet : List ℕ) (flow : FlowId) → packet_flow packet ≡ Some flow → IsFlow flow
packet_alive packet flow e = either (flow_of ConnectionKind packet) (λ is. kind_alive ConnectionKind packet flow is) e
  where
    either : (a : Option FlowId) → (a ≡ Some flow → IsFlow flow) → option_or a (flow_of HostsKind packet) ≡ Some flow → IsFlow flow
    either None first is = kind_alive HostsKind packet flow is
    either (Some f) first is = first is

reclaimed_held : (w : Work) (held label : Label) → label_at w.port label.number ≡ Some held → held.join ≡ label.join
    → Held (reclaims w label).port label.number label.join
reclaimed_held w held label found same = by_session w.port.session
  where
    by_session : (o : Option Session) → Held (reclaims_in w label o).port label.number label.join
    by_session None = record { label = held; found = found; same = same }
    by_session (Some s) =
        let after : Label = record label { state = Recalled (min last_number s.number) false } in
        said_held (with_label w after) (reclaim label) label.number label.join (still_held w held after found same)

pub same_label : (label : Label) → KeepsLabel label label
same_label label = record { number = refl; flow = refl; join = refl; bound = refl; wiring = λ e. e; wired = λ e. e }

-- Delete Tree alone frees a label
abbrev pub IsTree : Request → Type 0
IsTree (DeleteTree input) = Unit {0}
IsTree request = ⊥

module _ {Heard : Channel → Type 0} {Frees : Type 0} (setup : Setup) (desk : Desk) where
  pub goes_fold : {A : Type 0} (f : Work → A → Work) → ((w : Work) (x : A) → GoesOn Heard Frees setup desk w (f w x)) → (xs : List A) (w : Work) → GoesOn Heard Frees setup desk w (fold f w xs)
  goes_fold f each [] w = stays w
  goes_fold f each (x ∷ xs) w = further (each w x) (goes_fold f each xs (f w x))

  -- *What is said*
  pub says_goes : (w : Work) (message : Unnumbered) → IsTold Heard setup w.port message → GoesOn Heard Frees setup desk w (says w message)
  says_goes w message told = further (steps_to (telling w message told)) (steps_to (closing (tells w message)))

  -- *The labels of the port*
  pub unwires_goes : (w : Work) (number : ℕ) (label : Label) → label_at w.port number ≡ Some label → GoesOn Heard Frees setup desk w (unwires setup desk w number)
  unwires_goes w number label found = steps_to (unwiring w number label found)

  pub quits_label_goes : (w : Work) (label : Label) (last : ℕ) → label_at w.port label.number ≡ Some label → label.state ≡ Recalled last true
      → GoesOn Heard Frees setup desk w (quits_label setup desk w label)
  quits_label_goes w label last found is =
      let wired : Label = record label { state = Wired } in
      let next : Work = with_label w wired in
      let held : Held next.port label.number label.join = still_held w label wired found refl in
      further (steps_to (quitting w label last found is)) (steps_to (unwiring (with_action next (CutChain label.number)) label.number held.label
      (subst (λ (port : Port). label_at port label.number ≡ Some held.label) (sym (acts_port next (CutChain label.number))) held.found)))

  quits_in_goes : (w : Work) (label : Label) (state : LabelState) → label_at w.port label.number ≡ Some label → label.state ≡ state
      → GoesOn Heard Frees setup desk w (quits_in setup desk w label state)
  quits_in_goes w label Wiring found is = stays w
  quits_in_goes w label Offered found is = stays w
  quits_in_goes w label (Recalled last true) found is = on_both (GoesOn Heard Frees setup desk w) (nat_lt last (known_of w.port)) (quits_label setup desk w label) w
      (quits_label_goes w label last found is) (stays w)
  quits_in_goes w label (Recalled last false) found is = stays w
  quits_in_goes w label Wired found is = stays w

  quits_found_goes : (w : Work) (number : ℕ) (o : Option Label) → label_at w.port number ≡ o → GoesOn Heard Frees setup desk w (quits_found setup desk w o)
  quits_found_goes w number None found = stays w
  quits_found_goes w number (Some label) found = quits_in_goes w label label.state (by_number w.port number label found) refl

  pub quits_goes : (w : Work) (number : ℕ) → GoesOn Heard Frees setup desk w (quits setup desk w number)
  quits_goes w number = quits_found_goes w number (label_at w.port number) refl

  -- it is recalled: the label that is found may have been counted on meanwhile
  pub reclaims_goes : (w : Work) (held label : Label) → label_at w.port label.number ≡ Some held → KeepsLabel held label → is_bound label.state ≡ true
      → GoesOn Heard Frees setup desk w (reclaims w label)
  reclaims_goes w held label found keeps bound = by_session w.port.session
    where
      by_session : (o : Option Session) → GoesOn Heard Frees setup desk w (reclaims_in w label o)
      by_session None = stays w
      by_session (Some s) =
          let after : Label = record label { state = Recalled (min last_number s.number) false } in
          further (steps_to (relabelling w held after found (record {
            number = keeps.number;
            flow = keeps.flow;
            join = keeps.join;
            bound = sym bound ∙ keeps.bound;
            wiring = λ e. absurd (cc e);
            wired = λ e. absurd (cc e);
          }))) (says_goes (with_label w after) (reclaim label) (recalling label (still_flow w held after found (sym keeps.flow))))

  pub recalls_goes : (w : Work) (held label : Label) → label_at w.port label.number ≡ Some held → KeepsLabel held label → is_bound label.state ≡ true
      → GoesOn Heard Frees setup desk w (recalls setup w label)
  recalls_goes w held label found keeps bound = further (reclaims_goes w held label found keeps bound)
      (unjoined (reclaims w label) label.number label.join (reclaimed_held w held label found (sym keeps.join)))
    where
      unjoined : (w : Work) (number : ℕ) (join : Option End) → Held w.port number join → GoesOn Heard Frees setup desk w (unjoins setup w number join)
      unjoined w number None h = stays w
      unjoined w number (Some output) h = steps_to (taking_back w (label_end setup.port number) output (of_label number h.label output h.found h.same))

  recalls_in_goes : (w : Work) (label : Label) (state : LabelState) → label_at w.port label.number ≡ Some label → label.state ≡ state
      → GoesOn Heard Frees setup desk w (recalls_in setup w label state)
  recalls_in_goes w label Wiring found is = stays w
  recalls_in_goes w label Offered found is = recalls_goes w label label found (same_label label) (ap is_bound is)
  recalls_in_goes w label (Recalled last acknowledged) found is = stays w
  recalls_in_goes w label Wired found is = stays w

  pub recalls_offered_goes : (w : Work) (number : ℕ) (o : Option Label) → label_at w.port number ≡ o → GoesOn Heard Frees setup desk w (recalls_offered setup w o)
  recalls_offered_goes w number None found = stays w
  recalls_offered_goes w number (Some label) found = recalls_in_goes w label label.state (by_number w.port number label found) refl

  -- *Reclaim Ack*
  acknowledged_in_goes : (w : Work) (label : Label) (state : LabelState) → label_at w.port label.number ≡ Some label → label.state ≡ state
      → GoesOn Heard Frees setup desk w (acknowledged_in setup desk w label state)
  acknowledged_in_goes w label Wiring found is = stays w
  acknowledged_in_goes w label Offered found is = stays w
  acknowledged_in_goes w label (Recalled last acknowledged) found is =
      let after : Label = record label { state = Recalled last true } in
      further (steps_to (relabelling w label after found (record {
        number = refl;
        flow = refl;
        join = refl;
        bound = sym (ap is_bound is);
        wiring = λ e. absurd (cc e);
        wired = λ e. absurd (cc e);
      }))) (quits_goes (with_label w after) label.number)
  acknowledged_in_goes w label Wired found is = stays w

  pub acknowledged_goes : (w : Work) (flow : FlowId) (number : ℕ) (o : Option Label) → label_at w.port number ≡ o → GoesOn Heard Frees setup desk w (acknowledged setup desk w flow o)
  acknowledged_goes w flow number None found = stays w
  acknowledged_goes w flow number (Some label) found = on_both (GoesOn Heard Frees setup desk w) (same_flow label.flow flow) (acknowledged_in setup desk w label label.state) w
      (acknowledged_in_goes w label label.state (by_number w.port number label found) refl) (stays w)

  -- *Label Range*, *Error*
  recalls_outside_goes : (w : Work) (number : ℕ) → GoesOn Heard Frees setup desk w (recalls_outside setup w number)
  recalls_outside_goes w number = on_both (GoesOn Heard Frees setup desk w) (is_outside w.port.session number) (recalls_offered setup w (label_at w.port number)) w
      (recalls_offered_goes w number (label_at w.port number) refl) (stays w)

  pub ranged_goes : (w : Work) (least greatest : Channel) → GoesOn Heard Frees setup desk w (ranged setup w least greatest)
  ranged_goes w least greatest =
      let next : Work = with_session w (narrowed least greatest) in
      further (steps_to (minding w (narrowed least greatest) (λ s e. record { labels = refl; number = refl })))
      (goes_fold (recalls_outside setup) recalls_outside_goes (map label_number (labels_of next.port)) next)

  pub error_comes_goes : (w : Work) (code number : ℕ) (o : Option Label) → label_at w.port number ≡ o → GoesOn Heard Frees setup desk w (error_comes setup w code o)
  error_comes_goes w code number o found = on_both (GoesOn Heard Frees setup desk w) (code == 2) w (recalls_offered setup w o) (stays w) (recalls_offered_goes w number o found)

  -- *Good ACK*
  pub learns_goes : (w : Work) (next : ℕ) → GoesOn Heard Frees setup desk w (learns setup desk w next)
  learns_goes w next =
      let told : Work = with_session w (λ s. record s { known = max s.known next }) in
      further (steps_to (minding w (λ s. record s { known = max s.known next }) (λ s e. record { labels = refl; number = refl })))
      (goes_fold (quits setup desk) quits_goes (map label_number (labels_of told.port)) told)

  pub greeted_goes : (w : Work) (source : Addr) (hello : Hello) → w.halted ≡ false → GoesOn Heard Frees setup desk w (greeted setup desk w source hello)
  greeted_goes w source hello live =
      let step : sides.Step Peer = ifmp_received w.port.adjacency source hello in
      let next : Work = steps setup w step in
      let turns : GoesOn Heard Frees setup desk w next = steps_to (turning w step live (hears source hello)) in
      on_both (GoesOn Heard Frees setup desk w) (is_good w.port.adjacency step.side (heard_from source hello)) (learns setup desk next hello.next) next
      (further turns (learns_goes next hello.next)) turns

  -- *Counting*
  used_label_goes : (w : Work) (number : ℕ) (o : Option Label) → label_at w.port number ≡ o → GoesOn Heard Frees setup desk w (used_label w o)
  used_label_goes w number None found = stays w
  used_label_goes w number (Some label) found = steps_to (relabelling w label (record label { idle = 0 }) (by_number w.port number label found)
      (record { number = refl; flow = refl; join = refl; bound = refl; wiring = λ e. e; wired = λ e. e }))

  pub used_goes : (w : Work) (number : ℕ) → GoesOn Heard Frees setup desk w (used w number)
  used_goes w number = used_label_goes w number (label_at w.port number) refl

  wires_goes : (w : Work) (s : Session) (labels : List Label) (flow : FlowId) (o : Option ℕ) (least greatest : Channel) → IsFlow flow → w.port.session ≡ Some s → labels ≡ s.labels
      → lowest_spare setup least greatest labels ≡ o → has_room desk w ≡ true → GoesOn Heard Frees setup desk w (wires setup w flow o)
  wires_goes w s labels flow None least greatest alive live same found room = stays w
  wires_goes w s labels flow (Some number) least greatest alive live same found room =
      let passes = find_passes (λ n. is_between least greatest (label_channel_of n) && is_spare labels n) (label_numbers setup) number found in
      steps_to (wiring w s flow number live
      (subst (λ (ls : List Label). is_spare ls number ≡ true) same (and_second (is_between least greatest (label_channel_of number)) (is_spare labels number) passes))
      (find_every (λ n. is_in_range setup n ≡ true) (λ n. is_between least greatest (label_channel_of n) && is_spare labels n) (label_numbers setup) number (filter_passes (is_in_range setup) (range_with_len setup.least (setup.greatest + 1 - setup.least))) found)
      room alive)

  offers_goes : (w : Work) (s held : Session) (flow : FlowId) → IsFlow flow → w.port.session ≡ Some held → s.labels ≡ held.labels → GoesOn Heard Frees setup desk w (offers setup desk w s flow)
  offers_goes w s held flow alive live same = on_each (GoesOn Heard Frees setup desk w) (setup.policy.offers flow (packets_in s.counted flow) && has_room desk w)
      (wires setup w flow (lowest_spare setup s.least s.greatest s.labels)) w
      (λ t. wires_goes w held s.labels flow (lowest_spare setup s.least s.greatest s.labels) s.least s.greatest alive live same refl (and_second (setup.policy.offers flow (packets_in s.counted flow)) (has_room desk w) t))
      (λ t. stays w)

  counts_in_goes : (w : Work) (flow : FlowId) (s held : Session) → IsFlow flow → w.port.session ≡ Some held → s.labels ≡ held.labels → s.number ≡ held.number → GoesOn Heard Frees setup desk w (counts_in setup desk w flow s)
  counts_in_goes w flow s held alive live same number =
      further (steps_to (minding w (λ old. s) (λ old e. record { labels = same ∙ held_same old e; number = number ∙ number_same old e })))
      (minded w.halted refl)
    where
      held_same : (old : Session) → w.port.session ≡ Some old → held.labels ≡ old.labels
      held_same old e = (let both : Some held ≡ Some old = sym live ∙ e in let is : held ≡ old = cc in ap (λ (x : Session). x.labels) is)

      number_same : (old : Session) → w.port.session ≡ Some old → held.number ≡ old.number
      number_same old e = (let both : Some held ≡ Some old = sym live ∙ e in let is : held ≡ old = cc in ap (λ (x : Session). x.number) is)

      minded : (b : Bool) → w.halted ≡ b → GoesOn Heard Frees setup desk (with_session w (λ old. s)) (offers setup desk (with_session w (λ old. s)) s flow)
      minded true h = offers_goes (with_session w (λ old. s)) s held flow alive
          (ap (λ (b : Bool). (if b then w else record w { port = record w.port { session = option_map (λ (old : Session). s) w.port.session } }).port.session) h ∙ live) same
      minded false h = offers_goes (with_session w (λ old. s)) s s flow alive
          (ap (λ (b : Bool). (if b then w else record w { port = record w.port { session = option_map (λ (old : Session). s) w.port.session } }).port.session) h ∙ ap (option_map (λ (old : Session). s)) live) refl

  counts_flow_goes : (w : Work) (s : Session) (flow : FlowId) (o : Option Label) → IsFlow flow → w.port.session ≡ Some s → InOrder IsBefore s.labels → label_for s.labels flow ≡ o
      → GoesOn Heard Frees setup desk w (counts_flow setup desk w s flow o)
  counts_flow_goes w s flow (Some label) alive live ascend found = used_label_goes w label.number (Some label)
      (ap (λ (o : Option Session). at label_number label.number (option_map_or (λ (x : Session). x.labels) o [])) live
      ∙ find_at label_number (λ (l : Label). serves l.state && same_flow l.flow flow) s.labels label ascend found)
  counts_flow_goes w s flow None alive live ascend found = counts_in_goes w flow (record s { counted = counted_once s.counted flow }) s alive live refl refl

  counts_by_goes : (w : Work) (o : Option Session) (flow : Option FlowId) → ((f : FlowId) → flow ≡ Some f → IsFlow f) → w.port.session ≡ o → InOrder IsBefore (option_map_or (λ (s : Session). s.labels) o []) → GoesOn Heard Frees setup desk w (counts_by setup desk w o flow)
  counts_by_goes w None flow alive live ascend = stays w
  counts_by_goes w (Some s) None alive live ascend = stays w
  counts_by_goes w (Some s) (Some flow) alive live ascend = counts_flow_goes w s flow (label_for s.labels flow) (alive flow refl) live ascend refl

  pub counts_goes : (w : Work) (packet : List ℕ) → InOrder IsBefore (labels_of w.port) → GoesOn Heard Frees setup desk w (counts setup desk w packet)
  counts_goes w packet ascend = counts_by_goes w w.port.session (packet_flow packet) (λ flow e. packet_alive packet flow e) refl ascend

  -- *Answers*
  bound_in_goes : (w : Work) (label : Label) (state : LabelState) → label_at w.port label.number ≡ Some label → label.state ≡ state → GoesOn Heard Frees setup desk w (bound_in setup w label state)
  bound_in_goes w label Wiring found is = further (steps_to (binding w label found is)) (says_goes (with_action (with_label w (record label { state = Offered })) (Note (Bind setup.node setup.port label.number label.flow))) (redirect setup label)
      (offering label (subst (λ (port : Port). HeldFlow port label.number label.flow) (sym (acts_port (with_label w (record label { state = Offered })) (Note (Bind setup.node setup.port label.number label.flow))))
      (still_flow w label (record label { state = Offered }) found refl))))
  bound_in_goes w label Offered found is = stays w
  bound_in_goes w label (Recalled last acknowledged) found is = stays w
  bound_in_goes w label Wired found is = stays w

  freed_in_goes : (w : Work) (label : Label) (state : LabelState) → Frees → label_at w.port label.number ≡ Some label → label.state ≡ state → GoesOn Heard Frees setup desk w (freed_in setup w label state)
  freed_in_goes w label Wiring frees found is = stays w
  freed_in_goes w label Offered frees found is = stays w
  freed_in_goes w label (Recalled last acknowledged) frees found is = stays w
  freed_in_goes w label Wired frees found is = steps_to (freeing w label found is frees)

  bound_goes : (w : Work) (number : Option ℕ) → GoesOn Heard Frees setup desk w (bound setup w (label_by w.port number))
  bound_goes w None = stays w
  bound_goes w (Some number) = by_label_found (label_at w.port number) refl
    where
      by_label_found : (o : Option Label) → label_at w.port number ≡ o → GoesOn Heard Frees setup desk w (bound setup w o)
      by_label_found None found = stays w
      by_label_found (Some label) found = bound_in_goes w label label.state (by_number w.port number label found) refl

  freed_goes : (w : Work) (number : Option ℕ) → Frees → GoesOn Heard Frees setup desk w (freed setup w (label_by w.port number))
  freed_goes w None frees = stays w
  freed_goes w (Some number) frees = by_label_found (label_at w.port number) refl
    where
      by_label_found : (o : Option Label) → label_at w.port number ≡ o → GoesOn Heard Frees setup desk w (freed setup w o)
      by_label_found None found = stays w
      by_label_found (Some label) found = freed_in_goes w label label.state frees (by_number w.port number label found) refl

  started_in_goes : (w : Work) (grant : Grant) (state : GrantState) → at grant_label grant.label w.port.grants ≡ Some grant → grant.state ≡ state → GoesOn Heard Frees setup desk w (started_in w grant state)
  started_in_goes w grant Idle found is = steps_to (starting w grant found is)
  started_in_goes w grant ByController found is = stays w
  started_in_goes w grant (ByInput input) found is = stays w
  started_in_goes w grant (Leaving input owed) found is = stays w

  started_goes : (w : Work) (number : Option ℕ) → GoesOn Heard Frees setup desk w (started w (grant_on w.port.grants number))
  started_goes w None = stays w
  started_goes w (Some number) = by_grant_found (at grant_label number w.port.grants) refl
    where
      by_grant_found : (o : Option Grant) → at grant_label number w.port.grants ≡ o → GoesOn Heard Frees setup desk w (started w o)
      by_grant_found None found = stays w
      by_grant_found (Some grant) found = started_in_goes w grant grant.state (by_label w.port.grants number grant found) refl

  pub done_goes : (w : Work) (request : Request) → (IsTree request → Frees) → GoesOn Heard Frees setup desk w (done setup w request)
  done_goes w (AddBranch input output) frees = on_both (GoesOn Heard Frees setup desk w) (input.port.0 == 0) (started w (grant_on w.port.grants (label_number_of output.channel))) (bound setup w (label_by w.port (label_number_of input.channel)))
      (started_goes w (label_number_of output.channel)) (bound_goes w (label_number_of input.channel))
  done_goes w (MoveBranch input from to) frees = on_both (GoesOn Heard Frees setup desk w) (to.port.0 == 0) w _ (stays w) (steps_to (noting w input to))
  done_goes w (DeleteTree input) frees = freed_goes w (label_number_of input.channel) (frees tt)
  done_goes w (VerifyTree input) frees = stays w
  done_goes w (DeleteAll port) frees = stays w
  done_goes w (PortManagement port function) frees = stays w
  done_goes w AllPorts frees = stays w

  -- *Reclaim*
  reclaimed_in_goes : (w : Work) (s : Session) (channel : Channel) (grant : Grant) (state : GrantState) → Heard channel → IsFlow grant.flow → w.port.session ≡ Some s
      → at grant_label grant.label w.port.grants ≡ Some grant → grant.state ≡ state → GoesOn Heard Frees setup desk w (reclaimed_in setup w channel grant state)
  reclaimed_in_goes w s channel grant Idle names alive live found is = further (steps_to (ending w grant found (ap lent_input is)))
      (says_goes (without_grant w grant.label) (reclaim_ack channel grant.flow) (acknowledging channel grant.flow names alive))
  reclaimed_in_goes w s channel grant ByController names alive live found is = further (steps_to (ending w grant found (ap lent_input is)))
      (says_goes (without_grant w grant.label) (reclaim_ack channel grant.flow) (acknowledging channel grant.flow names alive))
  reclaimed_in_goes w s channel grant (ByInput input) names alive live found is =
      let after : Grant = record grant { state = Leaving input true } in
      let still : Granted (with_grant w after).port.grants grant.label (Some input) = still_granted w grant after found (ap lent_input is) in
      further (steps_to (regranting w grant after found (record { label = refl; flow = refl; input = sym (ap lent_input is); lives = λ e. absurd (cc e) }) (in_session s live)))
      (steps_to (taking_back (with_grant w after) input (label_end setup.port grant.label) (of_grant grant.label still.grant input still.found still.same)))
  reclaimed_in_goes w s channel grant (Leaving input owed) names alive live found is =
      steps_to (regranting w grant (record grant { state = Leaving input true }) found (record { label = refl; flow = refl; input = sym (ap lent_input is); lives = λ e. absurd (cc e) }) (in_session s live))

  pub reclaimed_goes : (w : Work) (s : Session) (channel : Channel) (flow : FlowId) (number : Option ℕ) → Heard channel → IsFlow flow → w.port.session ≡ Some s
      → GoesOn Heard Frees setup desk w (reclaimed setup w channel flow (grant_on w.port.grants number))
  reclaimed_goes w s channel flow None names alive live = says_goes w (reclaim_ack channel flow) (acknowledging channel flow names alive)
  reclaimed_goes w s channel flow (Some number) names alive live = by_grant_found (at grant_label number w.port.grants) refl
    where
      by_grant_found : (o : Option Grant) → at grant_label number w.port.grants ≡ o → GoesOn Heard Frees setup desk w (reclaimed setup w channel flow o)
      by_grant_found None found = says_goes w (reclaim_ack channel flow) (acknowledging channel flow names alive)
      by_grant_found (Some grant) found = on_each (GoesOn Heard Frees setup desk w) (same_flow grant.flow flow) (reclaimed_in setup w channel grant grant.state) (says w (error 4 channel))
          (λ same. reclaimed_in_goes w s channel grant grant.state names (same_alive grant.flow flow same alive) live (by_label w.port.grants number grant found) refl)
          (λ other. says_goes w (error 4 channel) (refusing 4 channel (omega arith) (omega arith) names))

  -- *Redirect*
  module _ (w : Work) (s : Session) (channel : Channel) (flow : FlowId) (lifetime : ℕ) (live : w.port.session ≡ Some s) (lives : 1 ≤ lifetime) (names : Heard channel) (alive : IsFlow flow) where
    redirected_beside : (label : ℕ) (o : Option Grant) → is_in_range setup label ≡ true → at grant_label label w.port.grants ≡ o
        → GoesOn Heard Frees setup desk w (redirected setup desk w channel flow lifetime (acceptance_beside w.port.grants label flow o))
    redirected_beside label None inside found = on_each (λ (a : Acceptance). GoesOn Heard Frees setup desk w (redirected setup desk w channel flow lifetime a)) (nat_lt (length w.port.grants) most_grants) (New label) GrantsFull
        (λ few. on_each (GoesOn Heard Frees setup desk w) (has_room desk w) (grants_label setup w label flow lifetime) w
        (λ room. steps_to (granting w s label flow lifetime live inside found (grind (arith, nat_tests)) lives room alive)) (λ t. stays w))
        (λ full. says_goes w (error 3 channel) (refusing 3 channel (omega arith) (omega arith) names))
    redirected_beside label (Some grant) inside found = on_both (λ (a : Acceptance). GoesOn Heard Frees setup desk w (redirected setup desk w channel flow lifetime a)) (not (same_flow grant.flow flow)) Taken (if is_leaving grant.state then IsLeaving else Refreshed grant)
        (says_goes w (error 1 channel) (refusing 1 channel (omega arith) (omega arith) names))
        (on_each (λ (a : Acceptance). GoesOn Heard Frees setup desk w (redirected setup desk w channel flow lifetime a)) (is_leaving grant.state) IsLeaving (Refreshed grant)
        (λ t. says_goes w (error 2 channel) (refusing 2 channel (omega arith) (omega arith) names))
        (λ t. further (steps_to (accepting w)) (steps_to (regranting (accepts w) grant (record grant { lifetime = lifetime }) (by_label w.port.grants label grant found)
        (record { label = refl; flow = refl; input = refl; lives = λ e. (e, λ h. lives) }) (was_live t)))))

    pub redirected_goes : (number : Option ℕ) → GoesOn Heard Frees setup desk w (redirected setup desk w channel flow lifetime (acceptance_of setup w.port.grants flow number))
    redirected_goes None = says_goes w (label_range setup) narrowing
    redirected_goes (Some label) = on_each (λ (a : Acceptance). GoesOn Heard Frees setup desk w (redirected setup desk w channel flow lifetime a)) (is_in_range setup label) (acceptance_beside w.port.grants label flow (at grant_label label w.port.grants)) OutOfRange
        (λ inside. redirected_beside label (at grant_label label w.port.grants) inside refl) (λ outside. says_goes w (label_range setup) narrowing)
