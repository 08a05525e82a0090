-- a port does what the table answers first, and no later rule of a tick or of a hearing touches its side

use Rattle.std.proofs.Common.{◌≡◌, ℕ, Bool, true, false, List, [], ◌∷◌, ◌++◌, map, fold, Option, None, Some, refl, sym, subst, ap, ◌∙◌, append_assoc, append-nil}
use Rattle.std.specs.Prelude.{◌+◌, ◌==◌, ◌-◌, ◌||◌, is_none, max, min, nat_le, nat_lt}
use Rattle.std.specs.Option.{option_map, option_map_or}
use Rattle.world_model.specs.Words.{Peer, Said, Answer, Quiet, Send, Open, Side, Step, ticked, ifmp_received, heard_from, End, DeleteTree, at, put, without, Desk, on_input, Setup, label_end, Grant, GrantState, Idle, ByController, ByInput, Leaving, grant_label, Label, LabelState, Wiring, Offered, Recalled, Wired, label_number, is_good, Session, Work, halts, with_session, with_label, with_grants, with_grant, without_grant, label_at, labels_of, known_of, desk_after, has_room, hears, learns, quits, quits_found, quits_in, quits_label, Unnumbered, last_number, spent_number, own_instance, is_spent, tells_in, tells, redirect, reclaim, label_range, unwires}
use Rattle.world_model.specs.adjacency_table.declared.message.Answer.TheVariants.{Reset}
use Rattle.world_model.specs.ifmp_wire.declared.message.Message.TheVariants.{Adjacency}
use Rattle.world_model.specs.port_model.declared.action.Action.{Action}
use Rattle.world_model.specs.port_model.declared.action.Action.TheVariants as actions
use Rattle.world_model.specs.port_model.Port.{Port, with_action}
use Rattle.world_model.specs.port_model.Saying.{says, peer_instance, with_number}
use Rattle.world_model.specs.port_model.Adjacency.{steps}
use Rattle.world_model.specs.port_model.Reclaiming.{reclaims_in, reclaims, unjoins, recalls}
use Rattle.world_model.specs.port_model.Counts.{window_moved}
use Rattle.world_model.specs.port_model.Ticks.{expires, ages_in, ages_found, ages, refreshes, one_older, one_idler, idles, ticks_in, ticks_found, ticks_label, asks_for_ack, nudges, moves_windows, ticks_session, ticks_next, ticks}
use Rattle.law_port_facts.proofs.Keyed.{on_both}
use Rattle.law_live_turns.specs.Law.{done_by, HasDone, PortsTick, PortsHear}

-- *A port goes on* with its side as it is, and asks more
record GoesOn (v w : Work) : Type 0 where
  side : w.port.adjacency ≡ v.port.adjacency
  later : List Action
  actions : w.actions ≡ v.actions ++ later

module _ (v : Work) where
  abbrev On : Work → Type 0
  On w = GoesOn v w

  begins : On v
  begins = record { side = refl; later = []; actions = sym (append-nil v.actions) }

  acts : (w : Work) (action : Action) → On w → On (with_action w action)
  acts w action h = on_both On w.halted w (record w { actions = w.actions ++ action ∷ [] }) h (record {
    side = h.side;
    later = h.later ++ action ∷ [];
    actions = ap (λ (xs : List Action). xs ++ action ∷ []) h.actions ∙ append_assoc v.actions h.later (action ∷ []);
  })

  halting : (w : Work) → On w → On (halts w)
  halting w h =
      let k : On (with_action w actions.Reset) = acts w actions.Reset h in
      record { side = k.side; later = k.later; actions = k.actions }

  in_session : (w : Work) (change : Session → Session) → On w → On (with_session w change)
  in_session w change h = on_both On w.halted w (record w { port = record w.port { session = option_map change w.port.session } }) h
      (record { side = h.side; later = h.later; actions = h.actions })

  labelled : (w : Work) (label : Label) → On w → On (with_label w label)
  labelled w label h = in_session w (λ s. record s { labels = put label_number label s.labels }) h

  granted : (w : Work) (grants : List Grant) → On w → On (with_grants w grants)
  granted w grants h = on_both On w.halted w (record w { port = record w.port { grants = grants } }) h
      (record { side = h.side; later = h.later; actions = h.actions })

  each : {A : Type 0} (f : Work → A → Work) → ((w : Work) (x : A) → On w → On (f w x)) → (xs : List A) (w : Work) → On w → On (fold f w xs)
  each f keeps [] w h = h
  each f keeps (x ∷ xs) w h = each f keeps xs (f w x) (keeps w x h)

  -- *What is said*
  telling : (w : Work) (message : Unnumbered) → On w → On (tells w message)
  telling w message h = by w.port.session
    where
      by : (o : Option Session) → On (tells_in w message o)
      by None = h
      by (Some s) =
          let said : Action = actions.Say (message (own_instance w.port.adjacency) (peer_instance w.port.adjacency) s.number) in
          on_both On (nat_lt s.number last_number) (with_action (with_number (s.number + 1) w) said) (with_number spent_number w)
          (acts (with_number (s.number + 1) w) said (in_session w (λ session. record session { number = s.number + 1 }) h))
          (in_session w (λ session. record session { number = spent_number }) h)

  saying : (w : Work) (message : Unnumbered) → On w → On (says w message)
  saying w message h = on_both On (is_spent (tells w message).port.session) (halts (tells w message)) (tells w message) (halting (tells w message) (telling w message h)) (telling w message h)

  module _ (setup : Setup) (desk : Desk) where
    unwiring : (w : Work) (number : ℕ) → On w → On (unwires setup desk w number)
    unwiring w number h =
        let takes_place : Bool = on_input (desk_after desk w) (label_end setup.port number) in
        let asking : Action = actions.Ask (DeleteTree (label_end setup.port number)) takes_place in
        on_both On (takes_place || has_room desk w) (with_action w asking) w (acts w asking h) h

    reclaiming : (w : Work) (label : Label) → On w → On (reclaims w label)
    reclaiming w label h = by w.port.session
      where
        by : (o : Option Session) → On (reclaims_in w label o)
        by None = h
        by (Some s) =
            let again : Label = record label { state = Recalled (min last_number s.number) false } in
            saying (with_label w again) (reclaim label) (labelled w again h)

    unjoining : (w : Work) (number : ℕ) (join : Option End) → On w → On (unjoins setup w number join)
    unjoining w number None h = h
    unjoining w number (Some output) h = acts w (actions.TakeBack (label_end setup.port number) output) h

    recalling : (w : Work) (label : Label) → On w → On (recalls setup w label)
    recalling w label h = unjoining (reclaims w label) label.number label.join (reclaiming w label h)

    -- *The rest of a tick*
    without_one : (w : Work) (label : ℕ) → On w → On (without_grant w label)
    without_one w label h = granted w (without grant_label label w.port.grants) h

    with_one : (w : Work) (grant : Grant) → On w → On (with_grant w grant)
    with_one w grant h = granted w (put grant_label grant w.port.grants) h

    expiring : (w : Work) (grant : Grant) (state : GrantState) → On w → On (expires setup w grant state)
    expiring w grant Idle h = without_one w grant.label h
    expiring w grant ByController h = without_one w grant.label h
    expiring w grant (ByInput input) h =
        let leaving : Grant = record grant { lifetime = 0; state = Leaving input false } in
        acts (with_grant w leaving) (actions.TakeBack input (label_end setup.port grant.label)) (with_one w leaving h)
    expiring w grant (Leaving input owed) h = without_one w grant.label h

    abbrev older_grant : Grant → Grant
    older_grant grant = record grant { lifetime = grant.lifetime - 1 }

    ageing_in : (w : Work) (grant : Grant) (state : GrantState) → On w → On (ages_in setup w grant state)
    ageing_in w grant Idle h = on_both On (grant.lifetime == 1) (expires setup w grant Idle) (with_grant w (older_grant grant)) (expiring w grant Idle h) (with_one w (older_grant grant) h)
    ageing_in w grant ByController h = on_both On (grant.lifetime == 1) (expires setup w grant ByController) (with_grant w (older_grant grant)) (expiring w grant ByController h) (with_one w (older_grant grant) h)
    ageing_in w grant (ByInput input) h = on_both On (grant.lifetime == 1) (expires setup w grant (ByInput input)) (with_grant w (older_grant grant)) (expiring w grant (ByInput input) h) (with_one w (older_grant grant) h)
    ageing_in w grant (Leaving input owed) h = h

    ageing : (w : Work) (label : ℕ) → On w → On (ages setup w label)
    ageing w label h = by (at grant_label label w.port.grants)
      where
        by : (o : Option Grant) → On (ages_found setup w o)
        by None = h
        by (Some grant) = ageing_in w grant grant.state h

    refreshing : (w : Work) (label : Label) → On w → On (refreshes setup w label)
    refreshing w label h = on_both On (nat_le setup.timers.refresh label.ticks) (says (with_label w (record label { ticks = 0 })) (redirect setup label)) (with_label w label)
        (saying (with_label w (record label { ticks = 0 })) (redirect setup label) (labelled w (record label { ticks = 0 }) h)) (labelled w label h)

    idling : (w : Work) (label : Label) → On w → On (idles setup w label)
    idling w label h = on_both On (setup.policy.keeps label.flow label.idle) (refreshes setup w (one_older label)) (recalls setup w label)
        (refreshing w (one_older label) h) (recalling w label h)

    ticking_in : (w : Work) (label : Label) (state : LabelState) → On w → On (ticks_in setup desk w label state)
    ticking_in w label Wiring h = h
    ticking_in w label Offered h = on_both On (is_none label.join) (idles setup w (one_idler label)) (refreshes setup w (one_older label))
        (idling w (one_idler label) h) (refreshing w (one_older label) h)
    ticking_in w label (Recalled last true) h = h
    ticking_in w label (Recalled last false) h = reclaiming w label h
    ticking_in w label Wired h = on_both On (on_input (desk_after desk w) (label_end setup.port label.number)) w (unwires setup desk w label.number)
        h (unwiring w label.number h)

    ticking_label : (w : Work) (number : ℕ) → On w → On (ticks_label setup desk w number)
    ticking_label w number h = by (label_at w.port number)
      where
        by : (o : Option Label) → On (ticks_found setup desk w o)
        by None = h
        by (Some label) = ticking_in w label label.state h

    nudging : (w : Work) → On w → On (nudges setup w)
    nudging w h = on_both On (asks_for_ack w.port.session) (says w (label_range setup)) w (saying w (label_range setup) h) h

    moving : (w : Work) → On w → On (moves_windows setup w)
    moving w h = in_session w (λ s. record s { counted = window_moved setup.timers.window s.counted }) h

    ticking_on : (w : Work) → On w → On (ticks_next setup desk w)
    ticking_on w h = by w.port.session
      where
        by : (o : Option Session) → On (ticks_session setup desk w o)
        by None = h
        by (Some s) =
            let aged : Work = fold (ages setup) w (map grant_label w.port.grants) in
            let ticked_labels : Work = fold (ticks_label setup desk) aged (map label_number (labels_of aged.port)) in
            moving (nudges setup ticked_labels) (nudging ticked_labels
            (each (ticks_label setup desk) ticking_label (map label_number (labels_of aged.port)) aged
            (each (ages setup) ageing (map grant_label w.port.grants) w h)))

    -- *An ACK*
    quitting : (w : Work) (label : Label) → On w → On (quits_label setup desk w label)
    quitting w label h =
        let quit : Work = with_label w (record label { state = Wired }) in
        unwiring (with_action quit (actions.CutChain label.number)) label.number (acts quit (actions.CutChain label.number) (labelled w (record label { state = Wired }) h))

    quitting_in : (w : Work) (label : Label) (state : LabelState) → On w → On (quits_in setup desk w label state)
    quitting_in w label Wiring h = h
    quitting_in w label Offered h = h
    quitting_in w label (Recalled last true) h = on_both On (nat_lt last (known_of w.port)) (quits_label setup desk w label) w (quitting w label h) h
    quitting_in w label (Recalled last false) h = h
    quitting_in w label Wired h = h

    quitting_each : (w : Work) (number : ℕ) → On w → On (quits setup desk w number)
    quitting_each w number h = by (label_at w.port number)
      where
        by : (o : Option Label) → On (quits_found setup desk w o)
        by None = h
        by (Some label) = quitting_in w label label.state h

    learning : (w : Work) (next : ℕ) → On w → On (learns setup desk w next)
    learning w next h =
        let told : Work = with_session w (λ s. record s { known = max s.known next }) in
        each (quits setup desk) quitting_each (map label_number (labels_of told.port)) told (in_session w (λ s. record s { known = max s.known next }) h)

-- *The table's answer* is done
module _ (setup : Setup) where
  abbrev expected_by : Work → ℕ
  expected_by w = option_map_or (λ s. s.expected) w.port.session 1

  abbrev going : Port → List Action → (instances : ℕ) → Work
  going port before instances = record { port = port; actions = before; halted = false; instances = instances }

  done_going : (port : Port) (before : List Action) (instances : ℕ) (side : Side Peer) (answer : Answer (Said Peer) Peer)
      → HasDone setup (going port before instances) (steps setup (going port before instances) (record { side = side; answer = answer })) (record { side = side; answer = answer })
  done_going port before instances side Quiet = record { side = refl; later = []; actions = sym (append-nil before) }
  done_going port before instances side (Send m) = record { side = refl; later = []; actions = refl }
  done_going port before instances side (Open None own) = record { side = refl; later = []; actions = refl }
  done_going port before instances side (Open (Some m) own) = record { side = refl; later = []; actions = append_assoc before (_ ∷ []) (_ ∷ []) }
  done_going port before instances side Reset = record { side = refl; later = []; actions = refl }

  done : (w : Work) (step : Step Peer) → w.halted ≡ false → HasDone setup w (steps setup w step) step
  done w step live = subst (λ (x : Work). HasDone setup x (steps setup x step) step)
      (λ i. record { port = w.port; actions = w.actions; halted = sym live i; instances = w.instances })
      (done_going w.port w.actions w.instances step.side step.answer)

  done_before : (w u after : Work) (step : Step Peer) → HasDone setup w u step → GoesOn u after → HasDone setup w after step
  done_before w u after step d g =
      let now : List Action = done_by setup (expected_by w) step.answer in
      record {
        side = g.side ∙ d.side;
        later = d.later ++ g.later;
        actions = g.actions ∙ (ap (λ (xs : List Action). xs ++ g.later) d.actions ∙ (append_assoc w.actions (now ++ d.later) g.later
            ∙ ap (λ (xs : List Action). w.actions ++ xs) (append_assoc now d.later g.later)));
      }

pub ports_tick : PortsTick
ports_tick setup desk w live =
    let u : Work = steps setup w (ticked w.port.adjacency) in
    done_before setup w u (ticks setup desk w) (ticked w.port.adjacency) (done setup w (ticked w.port.adjacency) live) (ticking_on u setup desk u (begins u))

pub ports_hear : PortsHear
ports_hear setup desk w source hello live =
    let step : Step Peer = ifmp_received w.port.adjacency source hello in
    let u : Work = steps setup w step in
    done_before setup w u (hears setup desk w source (Adjacency hello)) step (done setup w step live)
    (on_both (λ (x : Work). GoesOn u x) (is_good w.port.adjacency step.side (heard_from source hello)) (learns setup desk u hello.next) u
    (learning u setup desk u hello.next (begins u)) (begins u))
