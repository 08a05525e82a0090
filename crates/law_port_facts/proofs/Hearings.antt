-- a message that a port hears, and a tick, are made of its steps

use Rattle.std.proofs.Common.{◌≡◌, ℕ, true, false, List, Option, None, Some, refl, sym, ◌∙◌, ap, subst, arith, if◌then◌else◌, map, fold}
use Rattle.std.specs.Prelude.{◌+◌, ◌-◌, ◌==◌, nat_le, is_none}
use Rattle.std.specs.Option.{option_map}
use Rattle.std.proofs.lemmas.Bool.Decides.{nat_tests}
use Rattle.port_model.specs.Words.{Addr, Instance, Channel, label_number_of, ticked, FlowId, Redirect, Reclaim, ReclaimAck, LabelRange, Error, at, Desk, on_input, Setup, label_end, Label, LabelState, Wiring, Offered, Recalled, Wired, label_number, is_bound, Grant, GrantState, Idle, ByController, ByInput, Leaving, grant_label, grant_on, is_leaving, acceptance, Session, Work, with_session, with_label, with_grant, label_at, labels_of, desk_after, redirect, label_range, unwires, is_from_peer, is_due, takes, expects, recalls, reclaimed, acknowledged, error_comes, label_by, hears, expires, ages_in, ages_found, ages, refreshes, one_older, one_idler, idles, ticks_in, ticks_found, ticks_label, asks_for_ack, nudges, ticks_session}
use Rattle.port_model.specs.ifmp_wire.declared.message.Message.{Message}
use Rattle.port_model.specs.ifmp_wire.declared.message.Message.TheVariants.{Adjacency}
use Rattle.law_port_facts.specs.Port.{IsHeard}
use Rattle.port_model.specs.Grants.{lent_input}
use Rattle.port_model.specs.Counts.{window_moved}
use Rattle.port_model.specs.Saying.{says}
use Rattle.port_model.specs.Adjacency.{steps}
use Rattle.port_model.specs.Redirection.{redirected}
use Rattle.port_model.specs.Ticks.{ticks}
use Rattle.law_port_facts.proofs.Keyed.{on_both, on_each}
use Rattle.law_port_facts.proofs.Steps.{IsTurn, KeepsSession, KeepsLabel, KeepsGrant, of_grant, in_session, was_live, heard, minding, relabelling, regranting, ending, taking_back, turning, offering, narrowing, GoesOn, stays, steps_to, further}
use Rattle.law_port_facts.proofs.Steps as steps_of
use Rattle.law_port_facts.proofs.Found.{by_number, by_label, still_flow, Granted, still_granted, session_grants, session_labels}
use Rattle.law_port_facts.proofs.Rules.{and_second, goes_fold, says_goes, unwires_goes, reclaims_goes, recalls_goes, same_label, acknowledged_goes, ranged_goes, error_comes_goes, greeted_goes, reclaimed_goes, redirected_goes}

-- what is due is due in a session
record InSession (o : Option Session) : Type 0 where
  session : Session
  is : o ≡ Some session

due_in_session : (o : Option Session) (number : ℕ) → is_due o number ≡ true → InSession o
due_in_session None number t = absurd (cc t)
due_in_session (Some s) number t = record { session = s; is = refl }

expects_session : (w : Work) (number : ℕ) → InSession w.port.session → InSession (expects w number).port.session
expects_session w number i = on_both (λ (v : Work). InSession v.port.session) w.halted w
    (record w { port = record w.port { session = option_map (λ (s : Session). record s { expected = number + 1 }) w.port.session } })
    i (record { session = record i.session { expected = number + 1 }; is = ap (option_map (λ (s : Session). record s { expected = number + 1 })) i.is })

-- the labels stay
expects_label : (w : Work) (number : ℕ) (label : Option ℕ) → label_by (expects w number).port label ≡ label_by w.port label
expects_label w number None = refl
expects_label w number (Some label) = ap (at label_number label) (session_labels w (λ s. record s { expected = number + 1 }) (λ s. refl))

module _ {Heard : Channel → Type 0} {Frees : Type 0} (setup : Setup) (desk : Desk) where
  pub expects_goes : (w : Work) (number : ℕ) → GoesOn Heard Frees setup desk w (expects w number)
  expects_goes w number = further (steps_to (minding w (λ s. record s { expected = number + 1 }) (λ s e. record { labels = refl; number = refl })))
      (steps_to (heard (with_session w (λ s. record s { expected = number + 1 }))))

  -- a message that is taken, and else nothing
  taken_goes : (w v : Work) (source : Addr) (sender peer : Instance) (number : ℕ) → (InSession w.port.session → GoesOn Heard Frees setup desk (expects w number) v)
      → GoesOn Heard Frees setup desk w (if takes w.port source sender peer number then v else w)
  taken_goes w v source sender peer number goes = on_each (GoesOn Heard Frees setup desk w) (takes w.port source sender peer number) v w
      (λ t. further (expects_goes w number) (goes (due_in_session w.port.session number (and_second (is_from_peer w.port.adjacency source sender peer) (is_due w.port.session number) t))))
      (λ t. stays w)

  acknowledged_by : (w : Work) (flow : FlowId) (number : Option ℕ) → GoesOn Heard Frees setup desk w (acknowledged setup desk w flow (label_by w.port number))
  acknowledged_by w flow None = stays w
  acknowledged_by w flow (Some number) = acknowledged_goes setup desk w flow number (label_at w.port number) refl

  error_by : (w : Work) (code : ℕ) (number : Option ℕ) → GoesOn Heard Frees setup desk w (error_comes setup w code (label_by w.port number))
  error_by w code None = on_both (GoesOn Heard Frees setup desk w) (code == 2) w w (stays w) (stays w)
  error_by w code (Some number) = error_comes_goes setup desk w code number (label_at w.port number) refl

  pub hears_goes : (w : Work) (source : Addr) (message : Message) → w.halted ≡ false → IsHeard Heard message → GoesOn Heard Frees setup desk w (hears setup desk w source message)
  hears_goes w source (Adjacency hello) live fits = greeted_goes setup desk w source hello live
  hears_goes w source (Redirect sender peer number lifetime channel flow) live fits = taken_goes w _ source sender peer number
      (λ i. (let next : Work = expects w number in let j : InSession next.port.session = expects_session w number i in
      subst (λ (gs : List Grant). GoesOn Heard Frees setup desk next (redirected setup desk next channel flow lifetime (acceptance setup gs channel flow)))
      (session_grants w (λ s. record s { expected = number + 1 }))
      (redirected_goes setup desk next j.session channel flow lifetime j.is fits.0 fits.1 fits.2 (label_number_of channel))))
  hears_goes w source (Reclaim sender peer number channel flow) live fits = taken_goes w _ source sender peer number
      (λ i. (let next : Work = expects w number in let j : InSession next.port.session = expects_session w number i in
      subst (λ (gs : List Grant). GoesOn Heard Frees setup desk next (reclaimed setup next channel flow (grant_on gs (label_number_of channel))))
      (session_grants w (λ s. record s { expected = number + 1 }))
      (reclaimed_goes setup desk next j.session channel flow (label_number_of channel) fits.0 fits.1 j.is)))
  hears_goes w source (ReclaimAck sender peer number channel flow) live fits = taken_goes w _ source sender peer number
      (λ i. subst (λ (o : Option Label). GoesOn Heard Frees setup desk (expects w number) (acknowledged setup desk (expects w number) flow o))
      (expects_label w number (label_number_of channel)) (acknowledged_by (expects w number) flow (label_number_of channel)))
  hears_goes w source (LabelRange sender peer number least greatest) live fits = taken_goes w _ source sender peer number (λ i. ranged_goes setup desk (expects w number) least greatest)
  hears_goes w source (Error sender peer number code channel) live fits = taken_goes w _ source sender peer number
      (λ i. subst (λ (o : Option Label). GoesOn Heard Frees setup desk (expects w number) (error_comes setup (expects w number) code o))
      (expects_label w number (label_number_of channel)) (error_by (expects w number) code (label_number_of channel)))

  -- *Lifetimes*
  -- one that isn't leaving loses one tick, or is at its end
  aged : (w : Work) (grant : Grant) (state : GrantState) → at grant_label grant.label w.port.grants ≡ Some grant → grant.state ≡ state → is_leaving state ≡ false
      → GoesOn Heard Frees setup desk w (expires setup w grant state) → GoesOn Heard Frees setup desk w (if grant.lifetime == 1 then expires setup w grant state else with_grant w (record grant { lifetime = grant.lifetime - 1 }))
  aged w grant state found is lasting ends = on_each (GoesOn Heard Frees setup desk w) (grant.lifetime == 1) (expires setup w grant state) (with_grant w (record grant { lifetime = grant.lifetime - 1 }))
      (λ t. ends)
      (λ t. steps_to (regranting w grant (record grant { lifetime = grant.lifetime - 1 }) found
      (record { label = refl; flow = refl; input = refl; lives = λ e. (e, λ h. grind (arith, nat_tests)) }) (was_live (ap is_leaving is ∙ lasting))))

  expires_in_goes : (w : Work) (grant : Grant) (state : GrantState) → at grant_label grant.label w.port.grants ≡ Some grant → grant.state ≡ state → GoesOn Heard Frees setup desk w (ages_in setup w grant state)
  expires_in_goes w grant Idle found is = aged w grant Idle found is refl (steps_to (ending w grant found (ap lent_input is)))
  expires_in_goes w grant ByController found is = aged w grant ByController found is refl (steps_to (ending w grant found (ap lent_input is)))
  expires_in_goes w grant (ByInput input) found is =
      let after : Grant = record grant { lifetime = 0; state = Leaving input false } in
      let still : Granted (with_grant w after).port.grants grant.label (Some input) = still_granted w grant after found (ap lent_input is) in
      aged w grant (ByInput input) found is refl
      (further (steps_to (regranting w grant after found (record { label = refl; flow = refl; input = sym (ap lent_input is); lives = λ e. absurd (cc e) }) (was_live (ap is_leaving is))))
      (steps_to (taking_back (with_grant w after) input (label_end setup.port grant.label) (of_grant grant.label still.grant input still.found still.same))))
  expires_in_goes w grant (Leaving input owed) found is = stays w

  ages_found_goes : (w : Work) (label : ℕ) (o : Option Grant) → at grant_label label w.port.grants ≡ o → GoesOn Heard Frees setup desk w (ages_found setup w o)
  ages_found_goes w label None found = stays w
  ages_found_goes w label (Some grant) found = expires_in_goes w grant grant.state (by_label w.port.grants label grant found) refl

  pub ages_goes : (w : Work) (label : ℕ) → GoesOn Heard Frees setup desk w (ages setup w label)
  ages_goes w label = ages_found_goes w label (at grant_label label w.port.grants) refl

  -- *Labels*
  refreshes_goes : (w : Work) (held label : Label) → label_at w.port label.number ≡ Some held → KeepsLabel held label → GoesOn Heard Frees setup desk w (refreshes setup w label)
  refreshes_goes w held label found keeps = on_both (GoesOn Heard Frees setup desk w) (nat_le setup.timers.refresh label.ticks) (says (with_label w (record label { ticks = 0 })) (redirect setup label)) (with_label w label)
      (further (steps_to (relabelling w held (record label { ticks = 0 }) found (record { number = keeps.number; flow = keeps.flow; join = keeps.join; bound = keeps.bound; wiring = keeps.wiring; wired = keeps.wired })))
      (says_goes setup desk (with_label w (record label { ticks = 0 })) (redirect setup label) (offering label (still_flow w held (record label { ticks = 0 }) found (sym keeps.flow)))))
      (steps_to (relabelling w held label found keeps))

  idles_goes : (w : Work) (held label : Label) → label_at w.port label.number ≡ Some held → KeepsLabel held label → is_bound label.state ≡ true → GoesOn Heard Frees setup desk w (idles setup w label)
  idles_goes w held label found keeps bound = on_both (GoesOn Heard Frees setup desk w) (setup.policy.keeps label.flow label.idle) (refreshes setup w (one_older label)) (recalls setup w label)
      (refreshes_goes w held (one_older label) found (record { number = keeps.number; flow = keeps.flow; join = keeps.join; bound = keeps.bound; wiring = keeps.wiring; wired = keeps.wired }))
      (recalls_goes setup desk w held label found keeps bound)

  ticks_in_goes : (w : Work) (label : Label) (state : LabelState) → label_at w.port label.number ≡ Some label → label.state ≡ state → GoesOn Heard Frees setup desk w (ticks_in setup desk w label state)
  ticks_in_goes w label Wiring found is = stays w
  ticks_in_goes w label Offered found is = on_both (GoesOn Heard Frees setup desk w) (is_none label.join) (idles setup w (one_idler label)) (refreshes setup w (one_older label))
      (idles_goes w label (one_idler label) found (record { number = refl; flow = refl; join = refl; bound = refl; wiring = λ e. e; wired = λ e. e }) (ap is_bound is))
      (refreshes_goes w label (one_older label) found (record { number = refl; flow = refl; join = refl; bound = refl; wiring = λ e. e; wired = λ e. e }))
  ticks_in_goes w label (Recalled last true) found is = stays w
  ticks_in_goes w label (Recalled last false) found is = reclaims_goes setup desk w label label found (same_label label) (ap is_bound is)
  ticks_in_goes w label Wired found is = on_both (GoesOn Heard Frees setup desk w) (on_input (desk_after desk w) (label_end setup.port label.number)) w (unwires setup desk w label.number)
      (stays w) (unwires_goes setup desk w label.number label found)

  ticks_found_goes : (w : Work) (number : ℕ) (o : Option Label) → label_at w.port number ≡ o → GoesOn Heard Frees setup desk w (ticks_found setup desk w o)
  ticks_found_goes w number None found = stays w
  ticks_found_goes w number (Some label) found = ticks_in_goes w label label.state (by_number w.port number label found) refl

  pub ticks_label_goes : (w : Work) (number : ℕ) → GoesOn Heard Frees setup desk w (ticks_label setup desk w number)
  ticks_label_goes w number = ticks_found_goes w number (label_at w.port number) refl

  nudges_goes : (w : Work) → GoesOn Heard Frees setup desk w (nudges setup w)
  nudges_goes w = on_both (GoesOn Heard Frees setup desk w) (asks_for_ack w.port.session) (says w (label_range setup)) w (says_goes setup desk w (label_range setup) narrowing) (stays w)

  ticks_session_goes : (w : Work) (o : Option Session) → GoesOn Heard Frees setup desk w (ticks_session setup desk w o)
  ticks_session_goes w None = stays w
  ticks_session_goes w (Some s) =
      let aged : Work = fold (ages setup) w (map grant_label w.port.grants) in
      let labelled : Work = fold (ticks_label setup desk) aged (map label_number (labels_of aged.port)) in
      further (goes_fold setup desk (ages setup) ages_goes (map grant_label w.port.grants) w)
      (further (goes_fold setup desk (ticks_label setup desk) ticks_label_goes (map label_number (labels_of aged.port)) aged)
      (further (nudges_goes labelled)
      (steps_to (minding (nudges setup labelled) (λ s. record s { counted = window_moved setup.timers.window s.counted }) (λ s e. record { labels = refl; number = refl })))))

  pub ticks_goes : (w : Work) → w.halted ≡ false → GoesOn Heard Frees setup desk w (ticks setup desk w)
  ticks_goes w live = further (steps_to (turning w (ticked w.port.adjacency) live steps_of.ages))
      (ticks_session_goes (steps setup w (ticked w.port.adjacency)) (steps setup w (ticked w.port.adjacency)).port.session)
