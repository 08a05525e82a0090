-- each rule of a port says and keeps what is so of its labels, its grants and its side of the adjacency

use Rattle.std.proofs.Common.{◌≡◌, ◌≢◌, ℕ, Bool, true, false, Option, None, Some, refl, if◌then◌else◌, map, fold}
use Rattle.std.specs.Prelude.{◌⊎◌, ◌-◌, ◌==◌, ◌||◌, nat_lt, nat_le, max, min, is_none}
use Rattle.law_controller_bindings.specs.world_model.Words.{Addr, Channel, End, Instance, Hello, Peer, label_channel_of, ticked, heard_from, ifmp_received, FlowId, DeleteTree, at, Desk, on_input, Ask, CutChain, TakeBack, Setup, label_end, Label, LabelState, Wiring, Offered, Recalled, Wired, label_number, Grant, GrantState, Idle, ByController, ByInput, Leaving, grant_label, Session, Work, with_session, with_label, with_grant, without_grant, label_at, labels_of, known_of, desk_after, has_room, last_number, redirect, reclaim, reclaim_ack, label_range, error, unwires, quits_label, quits_in, quits_found, quits, is_good, learns, used_label, used, reclaims_in, reclaims, unjoins, recalls, recalls_in, recalls_offered, acknowledged, narrowed, is_outside, recalls_outside, ranged, joins_label, parted, lent, given_back_in, given_back, expires, ages_in, ages_found, ages, refreshes, one_older, one_idler, idles, ticks_in, ticks_found, ticks_label, asks_for_ack, nudges, ticks_session}
use Rattle.law_controller_bindings.specs.world_model.adjacency_table.Side as sides
use Rattle.law_controller_bindings.specs.world_model.port_model.Counts.{window_moved}
use Rattle.law_controller_bindings.specs.world_model.port_model.Port.{with_action}
use Rattle.law_controller_bindings.specs.world_model.port_model.Saying.{says}
use Rattle.law_controller_bindings.specs.world_model.port_model.Adjacency.{steps, greeted}
use Rattle.law_controller_bindings.specs.world_model.port_model.Joins.{joined}
use Rattle.law_controller_bindings.specs.world_model.port_model.Ticks.{ticks}
use Rattle.law_controller_bindings.proofs.law_port_facts.Keyed.{on_both}
use Rattle.law_world_views.specs.Tied.{is_rstack}
use Rattle.law_port_words.specs.Words.{Terms, StandsAs, Stands, IsGranted, IsWord}
use Rattle.law_port_words.proofs.Voices.{Voiced, acts_v, kept_v, label_v, found_v, grant_v, gone_v, granted_v, tells_v, says_v, fold_v, steps_v}
use Rattle.law_port_words.proofs.Turning.{received_turns, ticked_turns}

module _ (t : Terms) (setup : Setup) (speaks : (instance : ℕ) → t.own setup.port instance → t.told setup.port instance) where
  abbrev V : Work → Type 0
  V w = Voiced t setup w

  -- *What is said* beside REDIRECTs and Errors needs its own instance alone
  pub reclaims_word : (label : Label) (own peer : Instance) (n : ℕ) → t.told setup.port own.0 → IsWord t setup.port (reclaim label own peer n)
  reclaims_word label own peer n o = record { own = λ e. o; held = tt }

  pub acks_word : (channel : Channel) (flow : FlowId) (own peer : Instance) (n : ℕ) → t.told setup.port own.0 → IsWord t setup.port (reclaim_ack channel flow own peer n)
  acks_word channel flow own peer n o = record { own = λ e. o; held = tt }

  pub range_word : (own peer : Instance) (n : ℕ) → t.told setup.port own.0 → IsWord t setup.port (label_range setup own peer n)
  range_word own peer n o = record { own = λ e. o; held = tt }

  pub error_word : (code : ℕ) (channel : Channel) → t.refused code ⊎ ((code ≢ 1) × (code ≢ 4)) → (own peer : Instance) (n : ℕ) → t.told setup.port own.0 → IsWord t setup.port (error code channel own peer n)
  error_word code channel fair own peer n o = record { own = λ e. o; held = fair }

  -- *Quitting*
  module _ (desk : Desk) where
    unwires_v : (w : Work) (number : ℕ) → V w → V (unwires setup desk w number)
    unwires_v w number h =
        let input : End = label_end setup.port number in
        let takes_place : Bool = on_input (desk_after desk w) input in
        on_both V (takes_place || has_room desk w) (with_action w (Ask (DeleteTree input) takes_place)) w (acts_v t setup speaks w (Ask (DeleteTree input) takes_place) tt h) h

    quits_label_v : (w : Work) (label : Label) → t.held setup.port label.number label.flow → V w → V (quits_label setup desk w label)
    quits_label_v w label held h =
        let wired : Work = with_label w (record label { state = Wired }) in
        unwires_v (with_action wired (CutChain label.number)) label.number (acts_v t setup speaks wired (CutChain label.number) tt (label_v t setup speaks w (record label { state = Wired }) held h))

    quits_in_v : (w : Work) (label : Label) (state : LabelState) → StandsAs t setup.port label.number label.flow state → V w → V (quits_in setup desk w label state)
    quits_in_v w label (Recalled last true) held h = on_both V (nat_lt last (known_of w.port)) (quits_label setup desk w label) w (quits_label_v w label held h) h
    quits_in_v w label (Recalled last false) held h = h
    quits_in_v w label Wiring held h = h
    quits_in_v w label Offered held h = h
    quits_in_v w label Wired held h = h

    pub quits_v : (w : Work) (number : ℕ) → V w → V (quits setup desk w number)
    quits_v w number h = by (label_at w.port number) refl
      where
        by : (o : Option Label) → label_at w.port number ≡ o → V (quits_found setup desk w o)
        by None found = h
        by (Some label) found = quits_in_v w label label.state (found_v t setup speaks w number label found h) h

    pub learns_v : (w : Work) (next : ℕ) → V w → V (learns setup desk w next)
    learns_v w next h =
        let told : Work = with_session w (λ s. record s { known = max s.known next }) in
        fold_v t setup speaks (quits setup desk) quits_v (map label_number (labels_of told.port)) told (kept_v t setup speaks w (λ s. record s { known = max s.known next }) (λ s. refl) h)

    pub greeted_v : (w : Work) (source : Addr) (hello : Hello) → (is_rstack hello.kind ≡ false → t.known setup.port hello.sender.0) → V w → V (greeted setup desk w source hello)
    greeted_v w source hello knows h =
        let step : sides.Step Peer = ifmp_received w.port.adjacency source hello in
        let next : Work = steps setup w step in
        let k : V next = steps_v t setup speaks w step (received_turns t setup.port w.port.adjacency source hello knows) h in
        on_both V (is_good w.port.adjacency step.side (heard_from source hello)) (learns setup desk next hello.next) next (learns_v next hello.next k) k

  -- *Recalling*
  reclaims_v : (w : Work) (label : Label) → t.held setup.port label.number label.flow → V w → V (reclaims w label)
  reclaims_v w label held h = by w.port.session
    where
      by : (o : Option Session) → V (reclaims_in w label o)
      by None = h
      by (Some s) = says_v t setup speaks (with_label w (record label { state = Recalled (min last_number s.number) false })) (reclaim label) (reclaims_word label)
          (label_v t setup speaks w (record label { state = Recalled (min last_number s.number) false }) held h)

  unjoins_v : (w : Work) (number : ℕ) (o : Option End) → V w → V (unjoins setup w number o)
  unjoins_v w number None h = h
  unjoins_v w number (Some output) h = acts_v t setup speaks w (TakeBack (label_end setup.port number) output) tt h

  recalls_v : (w : Work) (label : Label) → t.held setup.port label.number label.flow → V w → V (recalls setup w label)
  recalls_v w label held h = unjoins_v (reclaims w label) label.number label.join (reclaims_v w label held h)

  recalls_in_v : (w : Work) (label : Label) (state : LabelState) → StandsAs t setup.port label.number label.flow state → V w → V (recalls_in setup w label state)
  recalls_in_v w label Offered held h = recalls_v w label held h
  recalls_in_v w label Wiring held h = h
  recalls_in_v w label (Recalled last acknowledged) held h = h
  recalls_in_v w label Wired held h = h

  pub recalls_offered_v : (w : Work) (number : ℕ) (o : Option Label) → label_at w.port number ≡ o → V w → V (recalls_offered setup w o)
  recalls_offered_v w number None found h = h
  recalls_offered_v w number (Some label) found h = recalls_in_v w label label.state (found_v t setup speaks w number label found h) h

  recalls_outside_v : (w : Work) (number : ℕ) → V w → V (recalls_outside setup w number)
  recalls_outside_v w number h = on_both V (is_outside w.port.session number) (recalls_offered setup w (label_at w.port number)) w (recalls_offered_v w number (label_at w.port number) refl h) h

  pub ranged_v : (w : Work) (least greatest : Channel) → V w → V (ranged setup w least greatest)
  ranged_v w least greatest h =
      let next : Work = with_session w (narrowed least greatest) in
      fold_v t setup speaks (recalls_outside setup) recalls_outside_v (map label_number (labels_of next.port)) next (kept_v t setup speaks w (narrowed least greatest) (λ s. refl) h)

  -- *Lifetimes*
  expires_v : (w : Work) (grant : Grant) (state : GrantState) → IsGranted t setup.port grant → V w → V (expires setup w grant state)
  expires_v w grant (ByInput input) g h =
      let gone : Grant = record grant { lifetime = 0; state = Leaving input false } in
      acts_v t setup speaks (with_grant w gone) (TakeBack input (label_end setup.port grant.label)) tt (grant_v t setup speaks w gone g h)
  expires_v w grant Idle g h = gone_v t setup speaks w grant.label h
  expires_v w grant ByController g h = gone_v t setup speaks w grant.label h
  expires_v w grant (Leaving input owed) g h = gone_v t setup speaks w grant.label h

  shortened_v : (w : Work) (grant : Grant) (state : GrantState) → IsGranted t setup.port grant → V w → V (if grant.lifetime == 1 then expires setup w grant state else with_grant w (record grant { lifetime = grant.lifetime - 1 }))
  shortened_v w grant state g h = on_both V (grant.lifetime == 1) (expires setup w grant state) (with_grant w (record grant { lifetime = grant.lifetime - 1 })) (expires_v w grant state g h)
      (grant_v t setup speaks w (record grant { lifetime = grant.lifetime - 1 }) g h)

  ages_in_v : (w : Work) (grant : Grant) (state : GrantState) → IsGranted t setup.port grant → V w → V (ages_in setup w grant state)
  ages_in_v w grant (Leaving input owed) g h = h
  ages_in_v w grant Idle g h = shortened_v w grant Idle g h
  ages_in_v w grant ByController g h = shortened_v w grant ByController g h
  ages_in_v w grant (ByInput input) g h = shortened_v w grant (ByInput input) g h

  ages_v : (w : Work) (number : ℕ) → V w → V (ages setup w number)
  ages_v w number h = by (at grant_label number w.port.grants) refl
    where
      by : (o : Option Grant) → at grant_label number w.port.grants ≡ o → V (ages_found setup w o)
      by None found = h
      by (Some grant) found = ages_in_v w grant grant.state (granted_v t setup speaks w number grant found h) h

  -- *Tick*: a label that is offered is one that may be
  module _ (offers : (number : ℕ) (flow : FlowId) → t.held setup.port number flow → t.offered setup.port number flow) where
    refreshes_v : (w : Work) (label : Label) → Stands t setup.port label → t.held setup.port label.number label.flow → V w → V (refreshes setup w label)
    refreshes_v w label stands held h = on_both V (nat_le setup.timers.refresh label.ticks) (says (with_label w (record label { ticks = 0 })) (redirect setup label)) (with_label w label)
        (says_v t setup speaks (with_label w (record label { ticks = 0 })) (redirect setup label)
        (λ own peer n o. record { own = λ e. o; held = record { number = label.number; is = refl; offered = offers label.number label.flow held } })
        (label_v t setup speaks w (record label { ticks = 0 }) stands h)) (label_v t setup speaks w label stands h)

    idles_v : (w : Work) (label : Label) → Stands t setup.port label → t.held setup.port label.number label.flow → V w → V (idles setup w label)
    idles_v w label stands held h = on_both V (setup.policy.keeps label.flow label.idle) (refreshes setup w (one_older label)) (recalls setup w label) (refreshes_v w (one_older label) stands held h) (recalls_v w label held h)

    ticks_in_v : (desk : Desk) (w : Work) (label : Label) (state : LabelState) → Stands t setup.port label → StandsAs t setup.port label.number label.flow state → V w → V (ticks_in setup desk w label state)
    ticks_in_v desk w label Wired stands held h = on_both V (on_input (desk_after desk w) (label_end setup.port label.number)) w (unwires setup desk w label.number) h (unwires_v desk w label.number h)
    ticks_in_v desk w label (Recalled last false) stands held h = reclaims_v w label held h
    ticks_in_v desk w label (Recalled last true) stands held h = h
    ticks_in_v desk w label Offered stands held h = on_both V (is_none label.join) (idles setup w (one_idler label)) (refreshes setup w (one_older label)) (idles_v w (one_idler label) stands held h) (refreshes_v w (one_older label) stands held h)
    ticks_in_v desk w label Wiring stands held h = h

    ticks_label_v : (desk : Desk) (w : Work) (number : ℕ) → V w → V (ticks_label setup desk w number)
    ticks_label_v desk w number h = by (label_at w.port number) refl
      where
        by : (o : Option Label) → label_at w.port number ≡ o → V (ticks_found setup desk w o)
        by None found = h
        by (Some label) found = (let stands : Stands t setup.port label = found_v t setup speaks w number label found h in ticks_in_v desk w label label.state stands stands h)

    nudges_v : (w : Work) → V w → V (nudges setup w)
    nudges_v w h = on_both V (asks_for_ack w.port.session) (says w (label_range setup)) w (says_v t setup speaks w (label_range setup) range_word h) h

    ticks_session_v : (desk : Desk) (w : Work) (o : Option Session) → V w → V (ticks_session setup desk w o)
    ticks_session_v desk w None h = h
    ticks_session_v desk w (Some s) h =
        let aged : Work = fold (ages setup) w (map grant_label w.port.grants) in
        let labelled : Work = fold (ticks_label setup desk) aged (map label_number (labels_of aged.port)) in
        kept_v t setup speaks (nudges setup labelled) (λ s. record s { counted = window_moved setup.timers.window s.counted }) (λ s. refl)
        (nudges_v labelled (fold_v t setup speaks (ticks_label setup desk) (ticks_label_v desk) (map label_number (labels_of aged.port)) aged
        (fold_v t setup speaks (ages setup) ages_v (map grant_label w.port.grants) w h)))

    pub ticks_v : (desk : Desk) (w : Work) → V w → V (ticks setup desk w)
    ticks_v desk w h = (let stepped : Work = steps setup w (ticked w.port.adjacency) in
        ticks_session_v desk stepped stepped.port.session (steps_v t setup speaks w (ticked w.port.adjacency) (ticked_turns t setup.port w.port.adjacency) h))

  -- *Joins*, and labels in use
  joins_label_v : (w : Work) (join : Option End) (number : ℕ) (o : Option Label) → label_at w.port number ≡ o → V w → V (joins_label w join o)
  joins_label_v w join number None found h = h
  joins_label_v w join number (Some label) found h = label_v t setup speaks w (record label { join = join }) (found_v t setup speaks w number label found h) h

  pub joined_v : (w : Work) (number : ℕ) (output : End) → V w → V (joined w number output)
  joined_v w number output h = joins_label_v w (Some output) number (label_at w.port number) refl h

  pub parted_v : (w : Work) (number : ℕ) → V w → V (parted w number)
  parted_v w number h = joins_label_v w None number (label_at w.port number) refl h

  pub lent_v : (w : Work) (grant : Grant) (input : End) → IsGranted t setup.port grant → V w → V (lent w grant input)
  lent_v w grant input g h = grant_v t setup speaks w (record grant { state = ByInput input }) g h

  pub given_back_v : (w : Work) (grant : Grant) → IsGranted t setup.port grant → V w → V (given_back w grant)
  given_back_v w grant g h = by grant.state
    where
      by : (state : GrantState) → V (given_back_in w grant state)
      by Idle = h
      by ByController = h
      by (ByInput input) = grant_v t setup speaks w (record grant { state = ByController }) g h
      by (Leaving input true) = tells_v t setup speaks (without_grant w grant.label) (reclaim_ack (label_channel_of grant.label) grant.flow) (acks_word (label_channel_of grant.label) grant.flow) (gone_v t setup speaks w grant.label h)
      by (Leaving input false) = gone_v t setup speaks w grant.label h

  pub used_label_v : (w : Work) (number : ℕ) (o : Option Label) → label_at w.port number ≡ o → V w → V (used_label w o)
  used_label_v w number None found h = h
  used_label_v w number (Some label) found h = label_v t setup speaks w (record label { idle = 0 }) (found_v t setup speaks w number label found h) h

  pub used_v : (w : Work) (number : ℕ) → V w → V (used w number)
  used_v w number h = used_label_v w number (label_at w.port number) refl h
