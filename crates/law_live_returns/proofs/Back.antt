-- each step of a label's way back, of a port that is taken to its parts

use Rattle.std.proofs.Common.{◌≡◌, ℕ, ◌<◌, ◌≤◌, ◌+◌, Bool, true, false, not, List, [], ◌∷◌, ◌++◌, append-nil, length, None, Some, refl, sym, ◌∙◌, ap, arith, if◌then◌else◌, fold}
use Rattle.std.specs.Prelude.{nat_lt, min, max, ◌||◌}
use Rattle.std.proofs.lemmas.Bool.Decides.{nat_tests}
use Rattle.port_model.specs.Words.{Addr, Instance, Channel, label_channel_of, label_number_of, is_label_number, FlowId, same_flow, DeleteTree, Free, LabelRange, Reclaim, ReclaimAck, Redirect, Peer, Side, at, Desk, on_input, Setup, is_between, is_in_range, label_end, Label, Offered, Recalled, Wired, Grant, grant_label, Session, Work, has_room, most_asked, desk_with, label_at, with_label, Unnumbered, last_number, own_instance, label_range, narrowed, reclaim, reclaim_ack, halts_if_spent, halts, spent_number, takes, expects, learns, quits_found, quits_in, quits_label, unwires, reclaimed, acknowledged, acknowledged_in, recalls_in, recalls_offered, unjoins, ranged, freed, freed_in, label_by, acceptance, acceptance_of, acceptance_beside, hears}
use Rattle.port_model.specs.link_model.ipv4_packet.declared.flow.FlowId.TheVariants.{One, Two}
use Rattle.port_model.specs.declared.action.Action.{Action}
use Rattle.port_model.specs.declared.action.Action.TheVariants.{Ask, CutChain, Note, Say}
use Rattle.port_model.specs.Answers.{done}
use Rattle.port_model.specs.Grants.{OutOfRange, grant_on}
use Rattle.port_model.specs.Port.{Port, with_action}
use Rattle.port_model.specs.Redirection.{redirected}
use Rattle.port_model.specs.Saying.{peer_instance, says, with_number}
use Rattle.law_live_labels.specs.Law.{IsWorking, left}
use Rattle.law_live_labels.proofs.Agreed.{at_work, same}
use Rattle.law_live_returns.specs.Law.{IsHeard, heard_port, RangesAreTold, LabelsAreRecalled, ReclaimsAreAcknowledged, AcksAreKept, LabelsAreQuit, LabelsAreFreed}

-- a label is known by its channel
by_channel : (n : ℕ) → is_label_number n ≡ true → label_number_of (label_channel_of n) ≡ Some n
by_channel n is = grind (arith, nat_tests)

-- a flow is the same as itself
same_itself : (f : FlowId) → same_flow f f ≡ true
same_itself (One tos ttl protocol source destination from to) =
    rw (same tos, same ttl, same protocol, same source.0, same destination.0, same from, same to) refl
same_itself (Two ttl source destination) = rw (same ttl, same source.0, same destination.0) refl

-- *A numbered message* is said while numbers are left
module _ (side : Side Peer) (redirects instances : ℕ) (s : Session) (grants : List Grant) (actions : List Action) (message : Unnumbered) (low : s.number < last_number) where
  abbrev before_it : Work
  before_it = at_work side redirects instances s grants actions

  abbrev told_now : Action
  told_now = Say (message (own_instance side) (peer_instance side) s.number)

  abbrev after_it : Work
  after_it = at_work side redirects instances (record s { number = s.number + 1 }) grants (actions ++ told_now ∷ [])

  says_it : says before_it message ≡ after_it
  says_it = ap (λ (b : Bool). halts_if_spent (if b then with_action (with_number (s.number + 1) before_it) told_now else with_number spent_number before_it)) (below s.number last_number low)
      ∙ ap (λ (b : Bool). if b then halts after_it else after_it) (unspent s.number last_number low)
    where
      below : (n m : ℕ) → n < m → nat_lt n m ≡ true
      below n m h = grind (arith, nat_tests)

      unspent : (n m : ℕ) → n < m → nat_lt m (n + 1) ≡ false
      unspent n m h = grind (arith, nat_tests)

module _ (setup : Setup) (w : Work) (s : Session) (working : IsWorking setup w s) where
  -- the port with this session in its parts; and what is left of it with its own halt
  abbrev with_this : Session → Work
  with_this session = at_work w.port.adjacency w.port.redirects w.instances session w.port.grants w.actions

  parts : w ≡ with_this s
  parts = λ i. record {
    port = record { adjacency = w.port.adjacency; session = working.is_open i; grants = w.port.grants; redirects = w.port.redirects };
    actions = w.actions;
    halted = working.going i;
    instances = w.instances;
  }

  whole : (port : Port) (more : List Action) → (let v : Work = record { port = port; actions = w.actions ++ more; halted = false; instances = w.instances } in v) ≡ left w port more
  whole port more = λ i. record { port = port; actions = w.actions ++ more; halted = sym working.going i; instances = w.instances }

  -- a session that holds one label alone
  module _ (label : Label) (alone : s.labels ≡ label ∷ []) where
    abbrev one : Session
    one = record s { labels = label ∷ [] }

    is_one : s ≡ one
    is_one = λ i. record s { labels = alone i }

    parts_one : w ≡ with_this one
    parts_one = parts ∙ ap with_this is_one

  -- *A message comes*
  module _ (desk : Desk) (source : Addr) (sender peer : Instance) (number : ℕ) (h : IsHeard setup w s source sender peer number) where
    abbrev heard_side : Side Peer
    heard_side = record w.port.adjacency { silence = 0 }

    abbrev hearing : Session → List Action → Work
    hearing session actions = at_work heard_side w.port.redirects w.instances session w.port.grants actions

    abbrev expecting : Session
    expecting = record s { expected = number + 1 }

    takes_it : takes (with_this s).port source sender peer number ≡ true
    takes_it = ap (λ (v : Work). takes v.port source sender peer number) (sym parts) ∙ h.taken

    range_told : (label lifetime : ℕ) (flow : FlowId) → is_label_number label ≡ true → is_in_range setup label ≡ false
        → hears setup desk w source (Redirect sender peer number lifetime (label_channel_of label) flow)
        ≡ left w (heard_port w (record s { expected = number + 1; number = s.number + 1 })) (Say (label_range setup (own_instance w.port.adjacency) (peer_instance w.port.adjacency) s.number) ∷ [])
    range_told label lifetime flow is outside = ap (λ (v : Work). hears setup desk v source (Redirect sender peer number lifetime (label_channel_of label) flow)) parts
        ∙ ap (λ (b : Bool). if b then redirected setup desk (expects (with_this s) number) (label_channel_of label) flow lifetime (acceptance setup w.port.grants (label_channel_of label) flow) else with_this s) takes_it
        ∙ ap (λ o. redirected setup desk (hearing expecting w.actions) (label_channel_of label) flow lifetime (acceptance_of setup w.port.grants flow o)) (by_channel label is)
        ∙ ap (λ (b : Bool). redirected setup desk (hearing expecting w.actions) (label_channel_of label) flow lifetime (if b then acceptance_beside w.port.grants label flow (at grant_label label w.port.grants) else OutOfRange)) outside
        ∙ says_it heard_side w.port.redirects w.instances expecting w.port.grants w.actions (label_range setup) h.number_left
        ∙ whole (heard_port w (record s { expected = number + 1; number = s.number + 1 })) (Say (label_range setup (own_instance w.port.adjacency) (peer_instance w.port.adjacency) s.number) ∷ [])

    reclaim_acknowledged : (label : ℕ) (flow : FlowId) → is_label_number label ≡ true → at grant_label label w.port.grants ≡ None
        → hears setup desk w source (Reclaim sender peer number (label_channel_of label) flow)
        ≡ left w (heard_port w (record s { expected = number + 1; number = s.number + 1 })) (Say (reclaim_ack (label_channel_of label) flow (own_instance w.port.adjacency) (peer_instance w.port.adjacency) s.number) ∷ [])
    reclaim_acknowledged label flow is none = ap (λ (v : Work). hears setup desk v source (Reclaim sender peer number (label_channel_of label) flow)) parts
        ∙ ap (λ (b : Bool). if b then reclaimed setup (expects (with_this s) number) (label_channel_of label) flow (grant_on w.port.grants (label_number_of (label_channel_of label))) else with_this s) takes_it
        ∙ ap (λ o. reclaimed setup (hearing expecting w.actions) (label_channel_of label) flow (grant_on w.port.grants o)) (by_channel label is)
        ∙ ap (reclaimed setup (hearing expecting w.actions) (label_channel_of label) flow) none
        ∙ says_it heard_side w.port.redirects w.instances expecting w.port.grants w.actions (reclaim_ack (label_channel_of label) flow) h.number_left
        ∙ whole (heard_port w (record s { expected = number + 1; number = s.number + 1 })) (Say (reclaim_ack (label_channel_of label) flow (own_instance w.port.adjacency) (peer_instance w.port.adjacency) s.number) ∷ [])

    module _ (label : Label) (alone : s.labels ≡ label ∷ []) where
      abbrev one_expecting : Session
      one_expecting = record s { expected = number + 1; labels = label ∷ [] }

      takes_one : takes (with_this (one label alone)).port source sender peer number ≡ true
      takes_one = ap (λ (v : Work). takes v.port source sender peer number) (sym (parts_one label alone)) ∙ h.taken

      abbrev narrow_at : (least greatest : Channel) → Work
      narrow_at least greatest = hearing (record (narrowed least greatest s) { expected = number + 1; labels = label ∷ [] }) w.actions

      abbrev kept_at : (last : ℕ) → Work
      kept_at last = hearing (record s { expected = number + 1; labels = record label { state = Recalled last true } ∷ [] }) w.actions

      recalled : (least greatest : Channel) → label.state ≡ Offered → label.join ≡ None
          → is_between (narrowed least greatest s).least (narrowed least greatest s).greatest (label_channel_of label.number) ≡ false
          → hears setup desk w source (LabelRange sender peer number least greatest)
          ≡ left w (heard_port w (record (narrowed least greatest s) { expected = number + 1; number = s.number + 1; labels = record label { state = Recalled s.number false } ∷ [] }))
          (Say (reclaim label (own_instance w.port.adjacency) (peer_instance w.port.adjacency) s.number) ∷ [])
      recalled least greatest offered unjoined outside = ap (λ (v : Work). hears setup desk v source (LabelRange sender peer number least greatest)) (parts_one label alone)
          ∙ ap (λ (b : Bool). if b then ranged setup (expects (with_this (one label alone)) number) least greatest else with_this (one label alone)) takes_one
          ∙ ap (λ (b : Bool). if not b then recalls_offered setup (narrow_at least greatest) (label_at (narrow_at least greatest).port label.number) else (narrow_at least greatest)) outside
          ∙ ap (λ (b : Bool). recalls_offered setup (narrow_at least greatest) (if b then Some label else None)) (same label.number)
          ∙ ap (recalls_in setup (narrow_at least greatest) label) offered
          ∙ ap (unjoins setup (says (with_label (narrow_at least greatest) (record label { state = Recalled (min last_number s.number) false })) (reclaim label)) label.number) unjoined
          ∙ ap (λ (n : ℕ). says (with_label (narrow_at least greatest) (record label { state = Recalled n false })) (reclaim label)) (lower s.number last_number h.number_left)
          ∙ ap (λ (b : Bool). says (hearing (record (narrowed least greatest s) { expected = number + 1; labels = if b then record label { state = Recalled s.number false } ∷ [] else label ∷ [] }) w.actions) (reclaim label)) (same label.number)
          ∙ says_it heard_side w.port.redirects w.instances (record (narrowed least greatest s) { expected = number + 1; labels = record label { state = Recalled s.number false } ∷ [] }) w.port.grants w.actions (reclaim label) h.number_left
          ∙ whole (heard_port w (record (narrowed least greatest s) { expected = number + 1; number = s.number + 1; labels = record label { state = Recalled s.number false } ∷ [] }))
          (Say (reclaim label (own_instance w.port.adjacency) (peer_instance w.port.adjacency) s.number) ∷ [])
        where
          lower : (n m : ℕ) → n < m → min m n ≡ n
          lower n m h = omega (arith, h)

      ack_kept : (last : ℕ) → is_label_number label.number ≡ true → label.state ≡ Recalled last false → s.known ≤ last
          → hears setup desk w source (ReclaimAck sender peer number (label_channel_of label.number) label.flow)
          ≡ left w (heard_port w (record s { expected = number + 1; labels = record label { state = Recalled last true } ∷ [] })) []
      ack_kept last is recalled_so unpassed = ap (λ (v : Work). hears setup desk v source (ReclaimAck sender peer number (label_channel_of label.number) label.flow)) (parts_one label alone)
          ∙ ap (λ (b : Bool). if b then acknowledged setup desk (expects (with_this (one label alone)) number) label.flow (label_by (with_this (one label alone)).port (label_number_of (label_channel_of label.number))) else with_this (one label alone)) takes_one
          ∙ ap (λ o. acknowledged setup desk (hearing one_expecting w.actions) label.flow (label_by (with_this (one label alone)).port o)) (by_channel label.number is)
          ∙ ap (λ (b : Bool). acknowledged setup desk (hearing one_expecting w.actions) label.flow (if b then Some label else None)) (same label.number)
          ∙ ap (λ (b : Bool). if b then acknowledged_in setup desk (hearing one_expecting w.actions) label label.state else hearing one_expecting w.actions) (same_itself label.flow)
          ∙ ap (acknowledged_in setup desk (hearing one_expecting w.actions) label) recalled_so
          ∙ ap (λ (b : Bool). quits_found setup desk (hearing (record s { expected = number + 1; labels = if b then record label { state = Recalled last true } ∷ [] else label ∷ [] }) w.actions)
          (label_at (hearing (record s { expected = number + 1; labels = if b then record label { state = Recalled last true } ∷ [] else label ∷ [] }) w.actions).port label.number)) (same label.number)
          ∙ ap (λ (b : Bool). quits_found setup desk (kept_at last) (if b then Some (record label { state = Recalled last true }) else None)) (same label.number)
          ∙ ap (λ (b : Bool). if b then quits_label setup desk (kept_at last) (record label { state = Recalled last true }) else (kept_at last)) (not_above last s.known unpassed)
          ∙ ap (λ actions. hearing (record s { expected = number + 1; labels = record label { state = Recalled last true } ∷ [] }) actions) (sym (append-nil w.actions))
          ∙ whole (heard_port w (record s { expected = number + 1; labels = record label { state = Recalled last true } ∷ [] })) []
        where
          not_above : (n m : ℕ) → m ≤ n → nat_lt n m ≡ false
          not_above n m h = grind (arith, nat_tests)

  -- *The label is quit*
  module _ (desk : Desk) (last next : ℕ) (label : Label) (empty : w.actions ≡ []) (alone : s.labels ≡ label ∷ []) (returned : label.state ≡ Recalled last true)
      (passed : last < max s.known next) (free : on_input desk (label_end setup.port label.number) ≡ false) (room : has_room desk w ≡ true) where
    abbrev quitting : Label → List Action → Work
    quitting held actions = at_work w.port.adjacency w.port.redirects w.instances (record s { known = max s.known next; labels = held ∷ [] }) w.port.grants actions

    abbrev wired : Label
    wired = record label { state = Wired }

    abbrev tree : Action
    tree = Ask (DeleteTree (label_end setup.port label.number)) false

    idle_parts : w ≡ at_work w.port.adjacency w.port.redirects w.instances (one label alone) w.port.grants []
    idle_parts = parts_one label alone ∙ ap (λ actions. at_work w.port.adjacency w.port.redirects w.instances (one label alone) w.port.grants actions) empty

    room_left : has_room desk (quitting wired (CutChain label.number ∷ [])) ≡ true
    room_left = sym (ap (λ actions. nat_lt (length (fold desk_with desk actions).standing) most_asked) empty) ∙ room

    quit : learns setup desk w next
        ≡ left w (record w.port { session = Some (record s { known = max s.known next; labels = wired ∷ [] }) }) (CutChain label.number ∷ tree ∷ [])
    quit = ap (λ (v : Work). learns setup desk v next) idle_parts
        ∙ ap (λ (b : Bool). quits_found setup desk (quitting label []) (if b then Some label else None)) (same label.number)
        ∙ ap (quits_in setup desk (quitting label []) label) returned
        ∙ ap (λ (b : Bool). if b then quits_label setup desk (quitting label []) label else quitting label []) (above last (max s.known next) passed)
        ∙ ap (λ (b : Bool). unwires setup desk (with_action (at_work w.port.adjacency w.port.redirects w.instances (record s { known = max s.known next; labels = if b then wired ∷ [] else label ∷ [] }) w.port.grants []) (CutChain label.number)) label.number) (same label.number)
        ∙ ap (λ (b : Bool). if b || has_room desk (quitting wired (CutChain label.number ∷ [])) then with_action (quitting wired (CutChain label.number ∷ [])) (Ask (DeleteTree (label_end setup.port label.number)) b) else quitting wired (CutChain label.number ∷ [])) free
        ∙ ap (λ (b : Bool). if b then quitting wired (CutChain label.number ∷ tree ∷ []) else quitting wired (CutChain label.number ∷ [])) room_left
        ∙ ap (λ actions. quitting wired (actions ++ CutChain label.number ∷ tree ∷ [])) (sym empty)
        ∙ whole (record w.port { session = Some (record s { known = max s.known next; labels = wired ∷ [] }) }) (CutChain label.number ∷ tree ∷ [])
      where
        above : (n m : ℕ) → n < m → nat_lt n m ≡ true
        above n m h = grind (arith, nat_tests)

  -- *It is freed*
  freed_now : (label : Label) → is_label_number label.number ≡ true → s.labels ≡ label ∷ [] → label.state ≡ Wired
      → done setup w (DeleteTree (label_end setup.port label.number))
      ≡ left w (record w.port { session = Some (record s { labels = [] }) }) (Note (Free setup.node setup.port label.number) ∷ [])
  freed_now label is alone quit_so = ap (λ (v : Work). done setup v (DeleteTree (label_end setup.port label.number))) (parts_one label alone)
      ∙ ap (λ o. freed setup (with_this (one label alone)) (label_by (with_this (one label alone)).port o)) (by_channel label.number is)
      ∙ ap (λ (b : Bool). freed setup (with_this (one label alone)) (if b then Some label else None)) (same label.number)
      ∙ ap (freed_in setup (with_this (one label alone)) label) quit_so
      ∙ ap (λ (b : Bool). with_action (with_this (record s { labels = if b then [] else label ∷ [] })) (Note (Free setup.node setup.port label.number))) (same label.number)
      ∙ whole (record w.port { session = Some (record s { labels = [] }) }) (Note (Free setup.node setup.port label.number) ∷ [])

pub ranges_are_told : RangesAreTold
ranges_are_told setup desk w s source sender peer number label lifetime flow h is outside =
    range_told setup w s h.working desk source sender peer number h label lifetime flow is outside

pub labels_are_recalled : LabelsAreRecalled
labels_are_recalled setup desk w s source sender peer number least greatest label h alone offered unjoined outside =
    recalled setup w s h.working desk source sender peer number h label alone least greatest offered unjoined outside

pub reclaims_are_acknowledged : ReclaimsAreAcknowledged
reclaims_are_acknowledged setup desk w s source sender peer number label flow h is none =
    reclaim_acknowledged setup w s h.working desk source sender peer number h label flow is none

pub acks_are_kept : AcksAreKept
acks_are_kept setup desk w s source sender peer number last label h is alone recalled_so unpassed =
    ack_kept setup w s h.working desk source sender peer number h label alone last is recalled_so unpassed

pub labels_are_quit : LabelsAreQuit
labels_are_quit setup desk w s last next label working empty alone returned passed free room =
    quit setup w s working desk last next label empty alone returned passed free room

pub labels_are_freed : LabelsAreFreed
labels_are_freed setup w s label working is alone quit_so = freed_now setup w s working label is alone quit_so
