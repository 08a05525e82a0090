-- beside what the table answers a port says no greeting, whatever rule it follows, and its side stays, but that it hears its peer

use Rattle.std.proofs.Common.{◌≡◌, ℕ, Bool, true, false, List, [], ◌∷◌, ◌++◌, map, fold, Option, None, Some, refl, sym, ap, ◌∙◌, append_assoc, append-nil}
use Rattle.std.specs.Prelude.{◌+◌, ◌==◌, ◌-◌, ◌||◌, ◌&&◌, is_none, max, min, nat_le, nat_lt}
use Rattle.std.specs.Option.{option_map}
use Rattle.world_model.specs.Words.{Addr, Channel, Instance, Peer, Side, End, Request, AddBranch, MoveBranch, DeleteTree, VerifyTree, PortManagement, Redirect, Reclaim, ReclaimAck, LabelRange, Error, FlowId, same_flow, label_channel_of, label_number_of, number_of_channel, at, put, without, entered, key_le, Desk, on_input, Setup, label_end, control_end, Acceptance, New, Refreshed, IsLeaving, GrantsFull, acceptance, Grant, GrantState, Idle, ByController, ByInput, Leaving, grant_label, grant_on, Label, LabelState, Wiring, Offered, Recalled, Wired, label_number, label_by, Session, Work, halts, with_session, with_label, with_new_label, without_label, with_grants, with_grant, without_grant, label_at, labels_of, known_of, desk_after, has_room, hears, learns, quits, quits_found, quits_in, quits_label, Unnumbered, last_number, spent_number, own_instance, is_spent, tells_in, tells, redirect, reclaim, reclaim_ack, label_range, error, unwires, halts_if_spent, takes, expects, accepts, grants_label, reclaims_in, reclaims, unjoins, recalls, recalls_in, recalls_offered, reclaimed_in, reclaimed, acknowledged_in, acknowledged, narrowed, is_outside, recalls_outside, ranged, error_comes, counts, counts_by, counts_flow, packet_flow, packets_in, counted_once, lowest_spare, label_for, wires, used, used_label, parted, joins_label, lent, given_back, given_back_in, bound, bound_in, freed, freed_in, started, started_in}
use Rattle.world_model.specs.ifmp_wire.declared.message.Message.{Message}
use Rattle.world_model.specs.ifmp_wire.declared.message.Message.TheVariants.{Adjacency}
use Rattle.world_model.specs.gsmp_wire.declared.request.Request.TheVariants.{DeleteAll, AllPorts}
use Rattle.world_model.specs.link_model.declared.record.Record.TheVariants as records
use Rattle.world_model.specs.port_model.declared.action.Action.{Action}
use Rattle.world_model.specs.port_model.declared.action.Action.TheVariants as actions
use Rattle.world_model.specs.port_model.Port.{with_action}
use Rattle.world_model.specs.port_model.Saying.{says, peer_instance, with_number}
use Rattle.world_model.specs.port_model.Grants.{OutOfRange, Taken}
use Rattle.world_model.specs.port_model.Redirection.{redirected}
use Rattle.world_model.specs.port_model.Counts.{window_moved}
use Rattle.world_model.specs.port_model.Joins.{joined, ended}
use Rattle.world_model.specs.port_model.Answers.{done}
use Rattle.world_model.specs.port_model.Ticks.{expires, ages_in, ages_found, ages, refreshes, one_older, one_idler, idles, ticks_in, ticks_found, ticks_label, asks_for_ack, nudges, moves_windows, ticks_session, ticks_next}
use Rattle.law_live_waking_links.specs.law_port_facts.ordered_lists.Ordered.{Every}
use Rattle.law_live_waking_links.proofs.law_port_facts.Keyed.{on_both, every_more}

-- *Another message* than a greeting, and an action that says none
abbrev pub IsOther : Message → Type 0
IsOther (Adjacency hello) = ⊥
IsOther message = Unit {0}

abbrev pub IsPlain : Action → Type 0
IsPlain (actions.Say message) = IsOther message
IsPlain action = Unit {0}

-- *A side stays*, or hears its peer where it may
pub data SideStays (May : Type 0) (side : Side Peer) : Side Peer → Type 0 where
  stays : SideStays May side side
  hears_else : May → SideStays May side (record side { silence = 0 })

pub record Goes (May : Type 0) (v w : Work) : Type 0 where
  pub side : SideStays May v.port.adjacency w.port.adjacency
  pub later : List Action
  pub actions : w.actions ≡ v.actions ++ later
  pub plain : Every IsPlain later
  pub instances : w.instances ≡ v.instances

heard_on : {May : Type 0} (may : May) (first side : Side Peer) → SideStays May first side → SideStays May first (record side { silence = 0 })
heard_on may first _ stays = hears_else may
heard_on may first _ (hears_else was) = hears_else may

-- where it may not, it is the same
pub side_same : (first side : Side Peer) → SideStays ⊥ first side → side ≡ first
side_same first _ stays = refl
side_same first _ (hears_else never) = absurd never

-- a message that a port says under its own number
abbrev IsPlainly : Unnumbered → Type 0
IsPlainly message = (own peer : Instance) (number : ℕ) → IsOther (message own peer number)

module _ (May : Type 0) (v : Work) where
  abbrev On : Work → Type 0
  On w = Goes May v w

  pub begins : Goes May v v
  begins = record { side = stays; later = []; actions = sym (append-nil v.actions); plain = tt; instances = refl }

  acts : (w : Work) (action : Action) → IsPlain action → On w → On (with_action w action)
  acts w action is h = on_both On w.halted w (record w { actions = w.actions ++ action ∷ [] }) h (record {
    side = h.side;
    later = h.later ++ action ∷ [];
    actions = ap (λ (xs : List Action). xs ++ action ∷ []) h.actions ∙ append_assoc v.actions h.later (action ∷ []);
    plain = every_more IsPlain h.later action h.plain is;
    instances = h.instances;
  })

  halting : (w : Work) → On w → On (halts w)
  halting w h =
      let k : On (with_action w actions.Reset) = acts w actions.Reset tt h in
      record { side = k.side; later = k.later; actions = k.actions; plain = k.plain; instances = k.instances }

  in_session : (w : Work) (change : Session → Session) → On w → On (with_session w change)
  in_session w change h = on_both On w.halted w (record w { port = record w.port { session = option_map change w.port.session } }) h
      (record { side = h.side; later = h.later; actions = h.actions; plain = h.plain; instances = h.instances })

  labelled : (w : Work) (label : Label) → On w → On (with_label w label)
  labelled w label h = in_session w (λ s. record s { labels = put label_number label s.labels }) h

  granted : (w : Work) (grants : List Grant) → On w → On (with_grants w grants)
  granted w grants h = on_both On w.halted w (record w { port = record w.port { grants = grants } }) h
      (record { side = h.side; later = h.later; actions = h.actions; plain = h.plain; instances = h.instances })

  with_one : (w : Work) (grant : Grant) → On w → On (with_grant w grant)
  with_one w grant h = granted w (put grant_label grant w.port.grants) h

  without_one : (w : Work) (label : ℕ) → On w → On (without_grant w label)
  without_one w label h = granted w (without grant_label label w.port.grants) h

  accepting : (w : Work) → On w → On (accepts w)
  accepting w h = record { side = h.side; later = h.later; actions = h.actions; plain = h.plain; instances = h.instances }

  each : {A : Type 0} (f : Work → A → Work) → ((w : Work) (x : A) → On w → On (f w x)) → (xs : List A) (w : Work) → On w → On (fold f w xs)
  each f keeps [] w h = h
  each f keeps (x ∷ xs) w h = each f keeps xs (f w x) (keeps w x h)

  -- *What is said*
  telling : (w : Work) (message : Unnumbered) → IsPlainly message → On w → On (tells w message)
  telling w message plainly h = by w.port.session
    where
      by : (o : Option Session) → On (tells_in w message o)
      by None = h
      by (Some s) =
          let said : Action = actions.Say (message (own_instance w.port.adjacency) (peer_instance w.port.adjacency) s.number) in
          on_both On (nat_lt s.number last_number) (with_action (with_number (s.number + 1) w) said) (with_number spent_number w)
          (acts (with_number (s.number + 1) w) said (plainly (own_instance w.port.adjacency) (peer_instance w.port.adjacency) s.number) (in_session w (λ session. record session { number = s.number + 1 }) h))
          (in_session w (λ session. record session { number = spent_number }) h)

  closes : (w : Work) → On w → On (halts_if_spent w)
  closes w h = on_both On (is_spent w.port.session) (halts w) w (halting w h) h

  saying : (w : Work) (message : Unnumbered) → IsPlainly message → On w → On (says w message)
  saying w message plainly h = closes (tells w message) (telling w message plainly h)

  using_label : (w : Work) (o : Option Label) → On w → On (used_label w o)
  using_label w None h = h
  using_label w (Some label) h = labelled w (record label { idle = 0 }) h

  joining_label : (w : Work) (join : Option End) (o : Option Label) → On w → On (joins_label w join o)
  joining_label w join None h = h
  joining_label w join (Some label) h = labelled w (record label { join = join }) h

  module _ (setup : Setup) (desk : Desk) where
    unwiring : (w : Work) (number : ℕ) → On w → On (unwires setup desk w number)
    unwiring w number h =
        let takes_place : Bool = on_input (desk_after desk w) (label_end setup.port number) in
        let asking : Action = actions.Ask (DeleteTree (label_end setup.port number)) takes_place in
        on_both On (takes_place || has_room desk w) (with_action w asking) w (acts w asking tt h) h

    reclaiming : (w : Work) (label : Label) → On w → On (reclaims w label)
    reclaiming w label h = by w.port.session
      where
        by : (o : Option Session) → On (reclaims_in w label o)
        by None = h
        by (Some s) =
            let again : Label = record label { state = Recalled (min last_number s.number) false } in
            saying (with_label w again) (reclaim label) (λ own peer number. tt) (labelled w again h)

    unjoining : (w : Work) (number : ℕ) (join : Option End) → On w → On (unjoins setup w number join)
    unjoining w number None h = h
    unjoining w number (Some output) h = acts w (actions.TakeBack (label_end setup.port number) output) tt h

    recalling : (w : Work) (label : Label) → On w → On (recalls setup w label)
    recalling w label h = unjoining (reclaims w label) label.number label.join (reclaiming w label h)

    recalling_in : (w : Work) (label : Label) (state : LabelState) → On w → On (recalls_in setup w label state)
    recalling_in w label Offered h = recalling w label h
    recalling_in w label Wiring h = h
    recalling_in w label (Recalled last acknowledged) h = h
    recalling_in w label Wired h = h

    recalling_offered : (w : Work) (o : Option Label) → On w → On (recalls_offered setup w o)
    recalling_offered w None h = h
    recalling_offered w (Some label) h = recalling_in w label label.state h

    -- *The rest of a tick*
    expiring : (w : Work) (grant : Grant) (state : GrantState) → On w → On (expires setup w grant state)
    expiring w grant Idle h = without_one w grant.label h
    expiring w grant ByController h = without_one w grant.label h
    expiring w grant (ByInput input) h =
        let leaving : Grant = record grant { lifetime = 0; state = Leaving input false } in
        acts (with_grant w leaving) (actions.TakeBack input (label_end setup.port grant.label)) tt (with_one w leaving h)
    expiring w grant (Leaving input owed) h = without_one w grant.label h

    abbrev older_grant : Grant → Grant
    older_grant grant = record grant { lifetime = grant.lifetime - 1 }

    ageing_in : (w : Work) (grant : Grant) (state : GrantState) → On w → On (ages_in setup w grant state)
    ageing_in w grant Idle h = on_both On (grant.lifetime == 1) (expires setup w grant Idle) (with_grant w (older_grant grant)) (expiring w grant Idle h) (with_one w (older_grant grant) h)
    ageing_in w grant ByController h = on_both On (grant.lifetime == 1) (expires setup w grant ByController) (with_grant w (older_grant grant)) (expiring w grant ByController h) (with_one w (older_grant grant) h)
    ageing_in w grant (ByInput input) h = on_both On (grant.lifetime == 1) (expires setup w grant (ByInput input)) (with_grant w (older_grant grant)) (expiring w grant (ByInput input) h) (with_one w (older_grant grant) h)
    ageing_in w grant (Leaving input owed) h = h

    ageing : (w : Work) (label : ℕ) → On w → On (ages setup w label)
    ageing w label h = by (at grant_label label w.port.grants)
      where
        by : (o : Option Grant) → On (ages_found setup w o)
        by None = h
        by (Some grant) = ageing_in w grant grant.state h

    refreshing : (w : Work) (label : Label) → On w → On (refreshes setup w label)
    refreshing w label h = on_both On (nat_le setup.timers.refresh label.ticks) (says (with_label w (record label { ticks = 0 })) (redirect setup label)) (with_label w label)
        (saying (with_label w (record label { ticks = 0 })) (redirect setup label) (λ own peer number. tt) (labelled w (record label { ticks = 0 }) h)) (labelled w label h)

    idling : (w : Work) (label : Label) → On w → On (idles setup w label)
    idling w label h = on_both On (setup.policy.keeps label.flow label.idle) (refreshes setup w (one_older label)) (recalls setup w label)
        (refreshing w (one_older label) h) (recalling w label h)

    ticking_in : (w : Work) (label : Label) (state : LabelState) → On w → On (ticks_in setup desk w label state)
    ticking_in w label Wiring h = h
    ticking_in w label Offered h = on_both On (is_none label.join) (idles setup w (one_idler label)) (refreshes setup w (one_older label))
        (idling w (one_idler label) h) (refreshing w (one_older label) h)
    ticking_in w label (Recalled last true) h = h
    ticking_in w label (Recalled last false) h = reclaiming w label h
    ticking_in w label Wired h = on_both On (on_input (desk_after desk w) (label_end setup.port label.number)) w (unwires setup desk w label.number)
        h (unwiring w label.number h)

    ticking_label : (w : Work) (number : ℕ) → On w → On (ticks_label setup desk w number)
    ticking_label w number h = by (label_at w.port number)
      where
        by : (o : Option Label) → On (ticks_found setup desk w o)
        by None = h
        by (Some label) = ticking_in w label label.state h

    nudging : (w : Work) → On w → On (nudges setup w)
    nudging w h = on_both On (asks_for_ack w.port.session) (says w (label_range setup)) w (saying w (label_range setup) (λ own peer number. tt) h) h

    moving : (w : Work) → On w → On (moves_windows setup w)
    moving w h = in_session w (λ s. record s { counted = window_moved setup.timers.window s.counted }) h

    pub ticking_on : (w : Work) → Goes May v w → Goes May v (ticks_next setup desk w)
    ticking_on w h = by w.port.session
      where
        by : (o : Option Session) → On (ticks_session setup desk w o)
        by None = h
        by (Some s) =
            let aged : Work = fold (ages setup) w (map grant_label w.port.grants) in
            let ticked_labels : Work = fold (ticks_label setup desk) aged (map label_number (labels_of aged.port)) in
            moving (nudges setup ticked_labels) (nudging ticked_labels
            (each (ticks_label setup desk) ticking_label (map label_number (labels_of aged.port)) aged
            (each (ages setup) ageing (map grant_label w.port.grants) w h)))

    -- *An ACK*
    quitting : (w : Work) (label : Label) → On w → On (quits_label setup desk w label)
    quitting w label h =
        let quit : Work = with_label w (record label { state = Wired }) in
        unwiring (with_action quit (actions.CutChain label.number)) label.number (acts quit (actions.CutChain label.number) tt (labelled w (record label { state = Wired }) h))

    quitting_in : (w : Work) (label : Label) (state : LabelState) → On w → On (quits_in setup desk w label state)
    quitting_in w label Wiring h = h
    quitting_in w label Offered h = h
    quitting_in w label (Recalled last true) h = on_both On (nat_lt last (known_of w.port)) (quits_label setup desk w label) w (quitting w label h) h
    quitting_in w label (Recalled last false) h = h
    quitting_in w label Wired h = h

    quitting_each : (w : Work) (number : ℕ) → On w → On (quits setup desk w number)
    quitting_each w number h = by (label_at w.port number)
      where
        by : (o : Option Label) → On (quits_found setup desk w o)
        by None = h
        by (Some label) = quitting_in w label label.state h

    pub learning : (w : Work) (next : ℕ) → Goes May v w → Goes May v (learns setup desk w next)
    learning w next h =
        let told : Work = with_session w (λ s. record s { known = max s.known next }) in
        each (quits setup desk) quitting_each (map label_number (labels_of told.port)) told (in_session w (λ s. record s { known = max s.known next }) h)

    -- *A message* that is no greeting
    expecting : May → (w : Work) (number : ℕ) → On w → On (expects w number)
    expecting may w number h =
        let next : Work = with_session w (λ s. record s { expected = number + 1 }) in
        let k : On next = in_session w (λ s. record s { expected = number + 1 }) h in
        record { side = heard_on may v.port.adjacency next.port.adjacency k.side; later = k.later; actions = k.actions; plain = k.plain; instances = k.instances }

    redirecting : (w : Work) (channel : Channel) (flow : FlowId) (lifetime : ℕ) (a : Acceptance) → On w → On (redirected setup desk w channel flow lifetime a)
    redirecting w channel flow lifetime (New label) h =
        let grants : List Grant = w.port.grants ++ record { label = label; flow = flow; lifetime = lifetime; state = Idle } ∷ [] in
        on_both On (has_room desk w) (grants_label setup w label flow lifetime) w
        (acts (with_grants (accepts w) grants) (actions.Ask (AddBranch (control_end setup.port label) (label_end setup.port label)) false) tt
        (granted (accepts w) grants (accepting w h))) h
    redirecting w channel flow lifetime (Refreshed grant) h = with_one (accepts w) (record grant { lifetime = lifetime }) (accepting w h)
    redirecting w channel flow lifetime OutOfRange h = saying w (label_range setup) (λ own peer number. tt) h
    redirecting w channel flow lifetime Taken h = saying w (error 1 channel) (λ own peer number. tt) h
    redirecting w channel flow lifetime IsLeaving h = saying w (error 2 channel) (λ own peer number. tt) h
    redirecting w channel flow lifetime GrantsFull h = saying w (error 3 channel) (λ own peer number. tt) h

    giving_up : (w : Work) (channel : Channel) (grant : Grant) (state : GrantState) → On w → On (reclaimed_in setup w channel grant state)
    giving_up w channel grant Idle h = saying (without_grant w grant.label) (reclaim_ack channel grant.flow) (λ own peer number. tt) (without_one w grant.label h)
    giving_up w channel grant ByController h = saying (without_grant w grant.label) (reclaim_ack channel grant.flow) (λ own peer number. tt) (without_one w grant.label h)
    giving_up w channel grant (ByInput input) h =
        let leaving : Grant = record grant { state = Leaving input true } in
        acts (with_grant w leaving) (actions.TakeBack input (label_end setup.port grant.label)) tt (with_one w leaving h)
    giving_up w channel grant (Leaving input owed) h = with_one w (record grant { state = Leaving input true }) h

    being_reclaimed : (w : Work) (channel : Channel) (flow : FlowId) (o : Option Grant) → On w → On (reclaimed setup w channel flow o)
    being_reclaimed w channel flow None h = saying w (reclaim_ack channel flow) (λ own peer number. tt) h
    being_reclaimed w channel flow (Some grant) h = on_both On (same_flow grant.flow flow) (reclaimed_in setup w channel grant grant.state) (says w (error 4 channel))
        (giving_up w channel grant grant.state h) (saying w (error 4 channel) (λ own peer number. tt) h)

    acknowledging_in : (w : Work) (label : Label) (state : LabelState) → On w → On (acknowledged_in setup desk w label state)
    acknowledging_in w label (Recalled last acknowledged) h = quitting_each (with_label w (record label { state = Recalled last true })) label.number (labelled w (record label { state = Recalled last true }) h)
    acknowledging_in w label Wiring h = h
    acknowledging_in w label Offered h = h
    acknowledging_in w label Wired h = h

    acknowledging : (w : Work) (flow : FlowId) (o : Option Label) → On w → On (acknowledged setup desk w flow o)
    acknowledging w flow None h = h
    acknowledging w flow (Some label) h = on_both On (same_flow label.flow flow) (acknowledged_in setup desk w label label.state) w (acknowledging_in w label label.state h) h

    recalling_outside : (w : Work) (number : ℕ) → On w → On (recalls_outside setup w number)
    recalling_outside w number h = on_both On (is_outside w.port.session number) (recalls_offered setup w (label_at w.port number)) w (recalling_offered w (label_at w.port number) h) h

    ranging : (w : Work) (least greatest : Channel) → On w → On (ranged setup w least greatest)
    ranging w least greatest h =
        let next : Work = with_session w (narrowed least greatest) in
        each (recalls_outside setup) recalling_outside (map label_number (labels_of next.port)) next (in_session w (narrowed least greatest) h)

    refusing : (w : Work) (code : ℕ) (o : Option Label) → On w → On (error_comes setup w code o)
    refusing w code o h = on_both On (code == 2) w (recalls_offered setup w o) h (recalling_offered w o h)

    pub hearing_other : May → (w : Work) (source : Addr) (message : Message) → IsOther message → Goes May v w → Goes May v (hears setup desk w source message)
    hearing_other may w source (Adjacency hello) other h = absurd other
    hearing_other may w source (Redirect sender peer number lifetime channel flow) other h = on_both On (takes w.port source sender peer number)
        (redirected setup desk (expects w number) channel flow lifetime (acceptance setup w.port.grants channel flow)) w
        (redirecting (expects w number) channel flow lifetime (acceptance setup w.port.grants channel flow) (expecting may w number h)) h
    hearing_other may w source (Reclaim sender peer number channel flow) other h = on_both On (takes w.port source sender peer number)
        (reclaimed setup (expects w number) channel flow (grant_on w.port.grants (label_number_of channel))) w
        (being_reclaimed (expects w number) channel flow (grant_on w.port.grants (label_number_of channel)) (expecting may w number h)) h
    hearing_other may w source (ReclaimAck sender peer number channel flow) other h = on_both On (takes w.port source sender peer number)
        (acknowledged setup desk (expects w number) flow (label_by w.port (label_number_of channel))) w
        (acknowledging (expects w number) flow (label_by w.port (label_number_of channel)) (expecting may w number h)) h
    hearing_other may w source (LabelRange sender peer number least greatest) other h = on_both On (takes w.port source sender peer number)
        (ranged setup (expects w number) least greatest) w (ranging (expects w number) least greatest (expecting may w number h)) h
    hearing_other may w source (Error sender peer number code channel) other h = on_both On (takes w.port source sender peer number)
        (error_comes setup (expects w number) code (label_by w.port (label_number_of channel))) w
        (refusing (expects w number) code (label_by w.port (label_number_of channel)) (expecting may w number h)) h

    -- *A packet* is counted
    wiring : (w : Work) (flow : FlowId) (o : Option ℕ) → On w → On (wires setup w flow o)
    wiring w flow None h = h
    wiring w flow (Some number) h =
        let label : Label = record { number = number; state = Wiring; flow = flow; idle = 0; ticks = 0; join = None } in
        acts (with_new_label w label) (actions.Ask (AddBranch (label_end setup.port number) (control_end setup.port number)) false) tt
        (in_session w (λ s. record s { labels = entered (key_le label_number) label s.labels }) h)

    pub counting : (w : Work) (packet : List ℕ) → Goes May v w → Goes May v (counts setup desk w packet)
    counting w packet h = by_session w.port.session (packet_flow packet)
      where
        by_label : (s : Session) (flow : FlowId) (o : Option Label) → On (counts_flow setup desk w s flow o)
        by_label s flow (Some label) = using_label w (Some label) h
        by_label s flow None =
            let next : Session = record s { counted = counted_once s.counted flow } in
            let held : Work = with_session w (λ old. next) in
            on_both On (setup.policy.offers flow (packets_in next.counted flow) && has_room desk held) (wires setup held flow (lowest_spare setup next.least next.greatest next.labels)) held
            (wiring held flow (lowest_spare setup next.least next.greatest next.labels) (in_session w (λ old. next) h)) (in_session w (λ old. next) h)

        by_session : (o : Option Session) (flow : Option FlowId) → On (counts_by setup desk w o flow)
        by_session None flow = h
        by_session (Some s) None = h
        by_session (Some s) (Some flow) = by_label s flow (label_for s.labels flow)

    -- *A success* of the switch
    binding : (w : Work) (label : Label) (state : LabelState) → On w → On (bound_in setup w label state)
    binding w label Wiring h =
        let offered : Work = with_label w (record label { state = Offered }) in
        let note : Action = actions.Note (records.Bind setup.node setup.port label.number label.flow) in
        saying (with_action offered note) (redirect setup label) (λ own peer number. tt) (acts offered note tt (labelled w (record label { state = Offered }) h))
    binding w label Offered h = h
    binding w label (Recalled last acknowledged) h = h
    binding w label Wired h = h

    freeing : (w : Work) (label : Label) (state : LabelState) → On w → On (freed_in setup w label state)
    freeing w label Wired h = acts (without_label w label.number) (actions.Note (records.Free setup.node setup.port label.number)) tt
        (in_session w (λ s. record s { labels = without label_number label.number s.labels }) h)
    freeing w label Wiring h = h
    freeing w label Offered h = h
    freeing w label (Recalled last acknowledged) h = h

    starting : (w : Work) (grant : Grant) (state : GrantState) → On w → On (started_in w grant state)
    starting w grant Idle h = with_one w (record grant { state = ByController }) h
    starting w grant ByController h = h
    starting w grant (ByInput input) h = h
    starting w grant (Leaving input owed) h = h

    bound_so : (w : Work) (o : Option Label) → On w → On (bound setup w o)
    bound_so w None h = h
    bound_so w (Some label) h = binding w label label.state h

    freed_so : (w : Work) (o : Option Label) → On w → On (freed setup w o)
    freed_so w None h = h
    freed_so w (Some label) h = freeing w label label.state h

    started_so : (w : Work) (o : Option Grant) → On w → On (started w o)
    started_so w None h = h
    started_so w (Some grant) h = starting w grant grant.state h

    pub doing : (w : Work) (request : Request) → Goes May v w → Goes May v (done setup w request)
    doing w (AddBranch input output) h = on_both On (input.port.0 == 0) (started w (grant_on w.port.grants (label_number_of output.channel))) (bound setup w (label_by w.port (label_number_of input.channel)))
        (started_so w (grant_on w.port.grants (label_number_of output.channel)) h) (bound_so w (label_by w.port (label_number_of input.channel)) h)
    doing w (MoveBranch input from to) h = on_both On (to.port.0 == 0) w
        (with_action w (actions.Note (records.Join setup.node setup.port (number_of_channel input.channel) to.port (number_of_channel to.channel)))) h
        (acts w (actions.Note (records.Join setup.node setup.port (number_of_channel input.channel) to.port (number_of_channel to.channel))) tt h)
    doing w (DeleteTree input) h = freed_so w (label_by w.port (label_number_of input.channel)) h
    doing w (VerifyTree input) h = h
    doing w (DeleteAll port) h = h
    doing w (PortManagement port function) h = h
    doing w AllPorts h = h

  -- *Use, joins and their ends*
  pub using : (w : Work) (number : ℕ) → Goes May v w → Goes May v (used w number)
  using w number h = using_label w (label_at w.port number) h

  pub parting : (w : Work) (number : ℕ) → Goes May v w → Goes May v (parted w number)
  parting w number h = joining_label w None (label_at w.port number) h

  pub joining : (w : Work) (number : ℕ) (output : End) → Goes May v w → Goes May v (joined w number output)
  joining w number output h = joining_label w (Some output) (label_at w.port number) h

  pub lending : (w : Work) (grant : Grant) (input : End) → Goes May v w → Goes May v (lent w grant input)
  lending w grant input h = with_one w (record grant { state = ByInput input }) h

  ending : (w : Work) (grant : Grant) (owed : Bool) → On w → On (ended w grant owed)
  ending w grant true h = telling (without_grant w grant.label) (reclaim_ack (label_channel_of grant.label) grant.flow) (λ own peer number. tt) (without_one w grant.label h)
  ending w grant false h = without_one w grant.label h

  pub giving_back : (w : Work) (grant : Grant) → Goes May v w → Goes May v (given_back w grant)
  giving_back w grant h = by grant.state
    where
      by : (state : GrantState) → On (given_back_in w grant state)
      by Idle = h
      by ByController = h
      by (ByInput input) = with_one w (record grant { state = ByController }) h
      by (Leaving input owed) = ending w grant owed h

  pub closing_spent : (w : Work) → Goes May v w → Goes May v (halts_if_spent w)
  closing_spent w h = closes w h
