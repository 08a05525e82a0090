-- most rules of a port change none of its grants, and lead no input away from the control link

use Rattle.std.proofs.Common.{◌≡◌, ℕ, Bool, true, false, List, [], ◌∷◌, ◌++◌, Option, None, Some, map, fold}
use Rattle.std.specs.Prelude.{◌+◌, ◌&&◌, ◌||◌, ◌==◌, nat_lt, nat_le, min, max, is_none}
use Rattle.std.specs.Option.{option_map, option_map_or}
use Rattle.law_controller.specs.world_model.Words.{Addr, Channel, End, Instance, Hello, Peer, number_of_channel, Answer, Quiet, Send, Open, heard_from, ifmp_answer, ifmp_received, FlowId, same_flow, Request, AddBranch, DeleteTree, Opened, Bind, Free, put, without, entered, key_le, Desk, on_input, Action, Say, Ask, Note, CutChain, TakeBack, Withdraw, Setup, label_end, control_end, Label, LabelState, Wiring, Offered, Recalled, Wired, label_number, label_for, lowest_spare, Grant, counted_once, packets_in, Session, Work, halts, with_session, with_label, with_new_label, without_label, label_at, labels_of, known_of, desk_after, has_room, Unnumbered, last_number, own_instance, spent_number, greets, tells_in, tells, is_spent, halts_if_spent, redirect, reclaim, label_range, first_session, opens, unwires, quits_label, quits_in, quits_found, quits, is_good, learns, packet_flow, wires, used_label, counts_flow, counts_by, counts, used, reclaims_in, reclaims, unjoins, recalls, recalls_in, recalls_offered, acknowledged_in, acknowledged, narrowed, is_outside, recalls_outside, ranged, error_comes, bound_in, bound, freed_in, freed, joined_to, joins_label, parted, refreshes, one_older, one_idler, idles, ticks_in, ticks_found, ticks_label, asks_for_ack, nudges, moves_windows}
use Rattle.law_controller.specs.world_model.adjacency_table.declared.message.Answer.TheVariants.{Reset}
use Rattle.law_controller.specs.world_model.adjacency_table.Side as sides
use Rattle.law_controller.specs.world_model.gsmp_wire.declared.request.Request.TheVariants.{DeleteAll}
use Rattle.law_controller.specs.world_model.ifmp_wire.declared.message.Message.TheVariants.{Adjacency}
use Rattle.law_controller.specs.world_model.link_model.declared.record.Record.TheVariants.{Join}
use Rattle.law_controller.specs.world_model.port_model.declared.action.Action.TheVariants as actions
use Rattle.law_controller.specs.world_model.port_model.Counts.{window_moved}
use Rattle.law_controller.specs.world_model.port_model.Port.{with_action}
use Rattle.law_controller.specs.world_model.port_model.Saying.{peer_instance, says}
use Rattle.law_controller.specs.world_model.port_model.Adjacency.{answers, steps, greeted}
use Rattle.law_controller.specs.world_model.port_model.Joins.{joined}
use Rattle.law_controller.proofs.law_port_facts.Keyed.{on_both}

-- a request that leads an input to the control link, if anywhere
abbrev pub LeadsBack : Request → Type 0
LeadsBack (DeleteTree input) = Unit {0}
LeadsBack (DeleteAll port) = Unit {0}
LeadsBack request = ⊥

-- *What a port asks* that leads no input away from the control link
abbrev pub IsTame : Action → Type 0
IsTame (Ask request needed) = LeadsBack request
IsTame (Withdraw input) = input.port.0 ≡ 0
IsTame action = Unit {0}

module _ (grants : List Grant) (L : List Action → Type 0) (more : (actions : List Action) (action : Action) → IsTame action → L actions → L (actions ++ action ∷ [])) where
  -- the grants are still these, and of what was asked so far and this it holds what holds of each such list
  pub record Calm (w : Work) : Type 0 where
    pub same : w.port.grants ≡ grants
    pub asked : L w.actions

  pub acts_calm : (w : Work) (action : Action) → IsTame action → Calm w → Calm (with_action w action)
  acts_calm w action tame h = on_both Calm w.halted w (record w { actions = w.actions ++ action ∷ [] }) h
      (record { same = h.same; asked = more w.actions action tame h.asked })

  halts_calm : (w : Work) → Calm w → Calm (halts w)
  halts_calm w h = (let k : Calm (with_action w actions.Reset) = acts_calm w actions.Reset tt h in record { same = k.same; asked = k.asked })

  session_calm : (w : Work) (change : Session → Session) → Calm w → Calm (with_session w change)
  session_calm w change h = on_both Calm w.halted w (record w { port = record w.port { session = option_map change w.port.session } }) h (record { same = h.same; asked = h.asked })

  label_calm : (w : Work) (label : Label) → Calm w → Calm (with_label w label)
  label_calm w label h = session_calm w (λ s. record s { labels = put label_number label s.labels }) h

  -- *What is said*
  pub tells_calm : (w : Work) (message : Unnumbered) → Calm w → Calm (tells w message)
  tells_calm w message h = told w.port.session
    where
      told : (o : Option Session) → Calm (tells_in w message o)
      told None = h
      told (Some s) =
          let next : Work = with_session w (λ session. record session { number = s.number + 1 }) in
          on_both Calm (nat_lt s.number last_number) (with_action next (Say (message (own_instance w.port.adjacency) (peer_instance w.port.adjacency) s.number))) (with_session w (λ session. record session { number = spent_number }))
          (acts_calm next (Say (message (own_instance w.port.adjacency) (peer_instance w.port.adjacency) s.number)) tt (session_calm w (λ session. record session { number = s.number + 1 }) h))
          (session_calm w (λ session. record session { number = spent_number }) h)

  pub closes_calm : (w : Work) → Calm w → Calm (halts_if_spent w)
  closes_calm w h = on_both Calm (is_spent w.port.session) (halts w) w (halts_calm w h) h

  pub says_calm : (w : Work) (message : Unnumbered) → Calm w → Calm (says w message)
  says_calm w message h = closes_calm (tells w message) (tells_calm w message h)

  greets_calm : (w : Work) (hello : Hello) → Calm w → Calm (greets w hello)
  greets_calm w hello h = acts_calm w (Say (Adjacency hello)) tt h

  -- *The adjacency*
  opens_calm : (setup : Setup) (w : Work) → Calm w → Calm (opens setup w)
  opens_calm setup w h = acts_calm (record w { port = record w.port { session = Some (first_session setup) } }) (Note (Opened setup.node setup.port)) tt (record { same = h.same; asked = h.asked })

  answers_calm : (setup : Setup) (w : Work) (answer : Answer Hello Instance) → Calm w → Calm (answers setup w answer)
  answers_calm setup w Quiet h = h
  answers_calm setup w (Send hello) h = greets_calm w hello h
  answers_calm setup w (Open None own) h = opens_calm setup w h
  answers_calm setup w (Open (Some hello) own) h = opens_calm setup (greets w hello) (greets_calm w hello h)
  answers_calm setup w Reset h = halts_calm w h

  pub steps_calm : (setup : Setup) (w : Work) (step : sides.Step Peer) → Calm w → Calm (steps setup w step)
  steps_calm setup w step h = answers_calm setup (record w { port = record w.port { adjacency = step.side } })
      (ifmp_answer (option_map_or (λ s. s.expected) w.port.session 1) step.answer) (record { same = h.same; asked = h.asked })

  pub fold_calm : {A : Type 0} (f : Work → A → Work) → ((w : Work) (x : A) → Calm w → Calm (f w x)) → (xs : List A) (w : Work) → Calm w → Calm (fold f w xs)
  fold_calm f each [] w h = h
  fold_calm f each (x ∷ xs) w h = fold_calm f each xs (f w x) (each w x h)

  module _ (setup : Setup) (desk : Desk) where
    unwires_calm : (w : Work) (number : ℕ) → Calm w → Calm (unwires setup desk w number)
    unwires_calm w number h =
        let input : End = label_end setup.port number in
        let takes_place : Bool = on_input (desk_after desk w) input in
        on_both Calm (takes_place || has_room desk w) (with_action w (Ask (DeleteTree input) takes_place)) w (acts_calm w (Ask (DeleteTree input) takes_place) tt h) h

    quits_label_calm : (w : Work) (label : Label) → Calm w → Calm (quits_label setup desk w label)
    quits_label_calm w label h =
        let wired : Work = with_label w (record label { state = Wired }) in
        unwires_calm (with_action wired (CutChain label.number)) label.number (acts_calm wired (CutChain label.number) tt (label_calm w (record label { state = Wired }) h))

    quits_in_calm : (w : Work) (label : Label) (state : LabelState) → Calm w → Calm (quits_in setup desk w label state)
    quits_in_calm w label (Recalled last true) h = on_both Calm (nat_lt last (known_of w.port)) (quits_label setup desk w label) w (quits_label_calm w label h) h
    quits_in_calm w label (Recalled last false) h = h
    quits_in_calm w label Wiring h = h
    quits_in_calm w label Offered h = h
    quits_in_calm w label Wired h = h

    quits_found_calm : (w : Work) (o : Option Label) → Calm w → Calm (quits_found setup desk w o)
    quits_found_calm w None h = h
    quits_found_calm w (Some label) h = quits_in_calm w label label.state h

    quits_calm : (w : Work) (number : ℕ) → Calm w → Calm (quits setup desk w number)
    quits_calm w number h = quits_found_calm w (label_at w.port number) h

    learns_calm : (w : Work) (next : ℕ) → Calm w → Calm (learns setup desk w next)
    learns_calm w next h =
        let told : Work = with_session w (λ s. record s { known = max s.known next }) in
        fold_calm (quits setup desk) quits_calm (map label_number (labels_of told.port)) told (session_calm w (λ s. record s { known = max s.known next }) h)

    pub greeted_calm : (w : Work) (source : Addr) (hello : Hello) → Calm w → Calm (greeted setup desk w source hello)
    greeted_calm w source hello h =
        let step : sides.Step Peer = ifmp_received w.port.adjacency source hello in
        let next : Work = steps setup w step in
        let k : Calm next = steps_calm setup w step h in
        on_both Calm (is_good w.port.adjacency step.side (heard_from source hello)) (learns setup desk next hello.next) next (learns_calm next hello.next k) k

    -- *Recalling*
    reclaims_calm : (w : Work) (label : Label) → Calm w → Calm (reclaims w label)
    reclaims_calm w label h = by_session w.port.session
      where
        by_session : (o : Option Session) → Calm (reclaims_in w label o)
        by_session None = h
        by_session (Some s) = says_calm (with_label w (record label { state = Recalled (min last_number s.number) false })) (reclaim label) (label_calm w (record label { state = Recalled (min last_number s.number) false }) h)

    unjoins_calm : (w : Work) (number : ℕ) (o : Option End) → Calm w → Calm (unjoins setup w number o)
    unjoins_calm w number None h = h
    unjoins_calm w number (Some output) h = acts_calm w (TakeBack (label_end setup.port number) output) tt h

    recalls_calm : (w : Work) (label : Label) → Calm w → Calm (recalls setup w label)
    recalls_calm w label h = unjoins_calm (reclaims w label) label.number label.join (reclaims_calm w label h)

    recalls_in_calm : (w : Work) (label : Label) (state : LabelState) → Calm w → Calm (recalls_in setup w label state)
    recalls_in_calm w label Offered h = recalls_calm w label h
    recalls_in_calm w label Wiring h = h
    recalls_in_calm w label (Recalled last acknowledged) h = h
    recalls_in_calm w label Wired h = h

    recalls_offered_calm : (w : Work) (o : Option Label) → Calm w → Calm (recalls_offered setup w o)
    recalls_offered_calm w None h = h
    recalls_offered_calm w (Some label) h = recalls_in_calm w label label.state h

    recalls_outside_calm : (w : Work) (number : ℕ) → Calm w → Calm (recalls_outside setup w number)
    recalls_outside_calm w number h = on_both Calm (is_outside w.port.session number) (recalls_offered setup w (label_at w.port number)) w (recalls_offered_calm w (label_at w.port number) h) h

    pub ranged_calm : (w : Work) (least greatest : Channel) → Calm w → Calm (ranged setup w least greatest)
    ranged_calm w least greatest h =
        let next : Work = with_session w (narrowed least greatest) in
        fold_calm (recalls_outside setup) recalls_outside_calm (map label_number (labels_of next.port)) next (session_calm w (narrowed least greatest) h)

    pub error_calm : (w : Work) (code : ℕ) (o : Option Label) → Calm w → Calm (error_comes setup w code o)
    error_calm w code o h = on_both Calm (code == 2) w (recalls_offered setup w o) h (recalls_offered_calm w o h)

    acknowledged_in_calm : (w : Work) (label : Label) (state : LabelState) → Calm w → Calm (acknowledged_in setup desk w label state)
    acknowledged_in_calm w label (Recalled last acknowledged) h = quits_calm (with_label w (record label { state = Recalled last true })) label.number (label_calm w (record label { state = Recalled last true }) h)
    acknowledged_in_calm w label Wiring h = h
    acknowledged_in_calm w label Offered h = h
    acknowledged_in_calm w label Wired h = h

    pub acknowledged_calm : (w : Work) (flow : FlowId) (o : Option Label) → Calm w → Calm (acknowledged setup desk w flow o)
    acknowledged_calm w flow None h = h
    acknowledged_calm w flow (Some label) h = on_both Calm (same_flow label.flow flow) (acknowledged_in setup desk w label label.state) w (acknowledged_in_calm w label label.state h) h

    -- *Answers*
    bound_in_calm : (w : Work) (label : Label) (state : LabelState) → Calm w → Calm (bound_in setup w label state)
    bound_in_calm w label Wiring h =
        let offered : Work = with_label w (record label { state = Offered }) in
        says_calm (with_action offered (Note (Bind setup.node setup.port label.number label.flow))) (redirect setup label)
        (acts_calm offered (Note (Bind setup.node setup.port label.number label.flow)) tt (label_calm w (record label { state = Offered }) h))
    bound_in_calm w label Offered h = h
    bound_in_calm w label (Recalled last acknowledged) h = h
    bound_in_calm w label Wired h = h

    pub bound_calm : (w : Work) (o : Option Label) → Calm w → Calm (bound setup w o)
    bound_calm w None h = h
    bound_calm w (Some label) h = bound_in_calm w label label.state h

    freed_in_calm : (w : Work) (label : Label) (state : LabelState) → Calm w → Calm (freed_in setup w label state)
    freed_in_calm w label Wired h = acts_calm (without_label w label.number) (Note (Free setup.node setup.port label.number)) tt (session_calm w (λ s. record s { labels = without label_number label.number s.labels }) h)
    freed_in_calm w label Wiring h = h
    freed_in_calm w label Offered h = h
    freed_in_calm w label (Recalled last acknowledged) h = h

    pub freed_calm : (w : Work) (o : Option Label) → Calm w → Calm (freed setup w o)
    freed_calm w None h = h
    freed_calm w (Some label) h = freed_in_calm w label label.state h

    pub joined_to_calm : (w : Work) (input output : End) → Calm w → Calm (joined_to setup w input output)
    joined_to_calm w input output h =
        let item : Action = Note (Join setup.node setup.port (number_of_channel input.channel) output.port (number_of_channel output.channel)) in
        on_both Calm (output.port.0 == 0) w (with_action w item) h (acts_calm w item tt h)

    -- *Tick*
    refreshes_calm : (w : Work) (label : Label) → Calm w → Calm (refreshes setup w label)
    refreshes_calm w label h = on_both Calm (nat_le setup.timers.refresh label.ticks) (says (with_label w (record label { ticks = 0 })) (redirect setup label)) (with_label w label)
        (says_calm (with_label w (record label { ticks = 0 })) (redirect setup label) (label_calm w (record label { ticks = 0 }) h)) (label_calm w label h)

    idles_calm : (w : Work) (label : Label) → Calm w → Calm (idles setup w label)
    idles_calm w label h = on_both Calm (setup.policy.keeps label.flow label.idle) (refreshes setup w (one_older label)) (recalls setup w label) (refreshes_calm w (one_older label) h) (recalls_calm w label h)

    ticks_in_calm : (w : Work) (label : Label) (state : LabelState) → Calm w → Calm (ticks_in setup desk w label state)
    ticks_in_calm w label Wired h = on_both Calm (on_input (desk_after desk w) (label_end setup.port label.number)) w (unwires setup desk w label.number) h (unwires_calm w label.number h)
    ticks_in_calm w label (Recalled last false) h = reclaims_calm w label h
    ticks_in_calm w label (Recalled last true) h = h
    ticks_in_calm w label Offered h = on_both Calm (is_none label.join) (idles setup w (one_idler label)) (refreshes setup w (one_older label)) (idles_calm w (one_idler label) h) (refreshes_calm w (one_older label) h)
    ticks_in_calm w label Wiring h = h

    ticks_found_calm : (w : Work) (o : Option Label) → Calm w → Calm (ticks_found setup desk w o)
    ticks_found_calm w None h = h
    ticks_found_calm w (Some label) h = ticks_in_calm w label label.state h

    pub ticks_label_calm : (w : Work) (number : ℕ) → Calm w → Calm (ticks_label setup desk w number)
    ticks_label_calm w number h = ticks_found_calm w (label_at w.port number) h

    nudges_calm : (w : Work) → Calm w → Calm (nudges setup w)
    nudges_calm w h = on_both Calm (asks_for_ack w.port.session) (says w (label_range setup)) w (says_calm w (label_range setup) h) h

    -- a tick's part behind the lifetimes
    pub rest_calm : (w : Work) → Calm w → Calm (moves_windows setup (nudges setup (fold (ticks_label setup desk) w (map label_number (labels_of w.port)))))
    rest_calm w h =
        let labelled : Work = fold (ticks_label setup desk) w (map label_number (labels_of w.port)) in
        session_calm (nudges setup labelled) (λ s. record s { counted = window_moved setup.timers.window s.counted })
        (nudges_calm labelled (fold_calm (ticks_label setup desk) ticks_label_calm (map label_number (labels_of w.port)) w h))

  -- *Joins* at the label's port, and a label that is in use
  joins_label_calm : (w : Work) (join : Option End) (o : Option Label) → Calm w → Calm (joins_label w join o)
  joins_label_calm w join None h = h
  joins_label_calm w join (Some label) h = label_calm w (record label { join = join }) h

  pub joined_calm : (w : Work) (number : ℕ) (output : End) → Calm w → Calm (joined w number output)
  joined_calm w number output h = joins_label_calm w (Some output) (label_at w.port number) h

  pub parted_calm : (w : Work) (number : ℕ) → Calm w → Calm (parted w number)
  parted_calm w number h = joins_label_calm w None (label_at w.port number) h

  used_label_calm : (w : Work) (o : Option Label) → Calm w → Calm (used_label w o)
  used_label_calm w None h = h
  used_label_calm w (Some label) h = label_calm w (record label { idle = 0 }) h

  pub used_calm : (w : Work) (number : ℕ) → Calm w → Calm (used w number)
  used_calm w number h = used_label_calm w (label_at w.port number) h

  -- *Counting* changes no grant, though it may ask for a branch
  abbrev pub Keeps : Work → Type 0
  Keeps w = w.port.grants ≡ grants

  session_keeps : (w : Work) (change : Session → Session) → Keeps w → Keeps (with_session w change)
  session_keeps w change h = on_both Keeps w.halted w (record w { port = record w.port { session = option_map change w.port.session } }) h h

  wires_keeps : (setup : Setup) (w : Work) (flow : FlowId) (o : Option ℕ) → Keeps w → Keeps (wires setup w flow o)
  wires_keeps setup w flow None h = h
  wires_keeps setup w flow (Some number) h =
      let label : Label = record { number = number; state = Wiring; flow = flow; idle = 0; ticks = 0; join = None } in
      let taken : Work = with_new_label w label in
      let ask : Action = Ask (AddBranch (label_end setup.port number) (control_end setup.port number)) false in
      let k : Keeps taken = session_keeps w (λ s. record s { labels = entered (key_le label_number) label s.labels }) h in
      on_both Keeps taken.halted taken (record taken { actions = taken.actions ++ ask ∷ [] }) k k

  counts_flow_keeps : (setup : Setup) (desk : Desk) (w : Work) (s : Session) (flow : FlowId) (o : Option Label) → Keeps w → Keeps (counts_flow setup desk w s flow o)
  counts_flow_keeps setup desk w s flow (Some label) h = session_keeps w (λ t. record t { labels = put label_number (record label { idle = 0 }) t.labels }) h
  counts_flow_keeps setup desk w s flow None h =
      let now : Session = record s { counted = counted_once s.counted flow } in
      let counted : Work = with_session w (λ old. now) in
      let k : Keeps counted = session_keeps w (λ old. now) h in
      on_both Keeps (setup.policy.offers flow (packets_in now.counted flow) && has_room desk counted) (wires setup counted flow (lowest_spare setup now.least now.greatest now.labels)) counted
      (wires_keeps setup counted flow (lowest_spare setup now.least now.greatest now.labels) k) k

  counts_by_keeps : (setup : Setup) (desk : Desk) (w : Work) (o : Option Session) (flow : Option FlowId) → Keeps w → Keeps (counts_by setup desk w o flow)
  counts_by_keeps setup desk w None flow h = h
  counts_by_keeps setup desk w (Some s) None h = h
  counts_by_keeps setup desk w (Some s) (Some flow) h = counts_flow_keeps setup desk w s flow (label_for s.labels flow) h

  pub counts_keeps : (setup : Setup) (desk : Desk) (w : Work) (packet : List ℕ) → Keeps w → Keeps (counts setup desk w packet)
  counts_keeps setup desk w packet h = counts_by_keeps setup desk w w.port.session (packet_flow packet) h
