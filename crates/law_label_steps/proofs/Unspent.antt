-- *The numbers* of a port that isn't to be reset stay unspent behind each message that it hears, a label in use, what
-- the switch has done, and resets

use Rattle.std.proofs.Common.{ℕ, true, false, List, [], ◌∷◌, ◌++◌, Option, None, Some, refl, map}
use Rattle.std.specs.Prelude.{max, nat_lt, ◌==◌}
use Rattle.law_port_views.specs.port_model.Words.{Addr, Hello, Channel, label_number_of, number_of_channel, ifmp_received, heard_from, FlowId, same_flow, Request, AddBranch, MoveBranch, DeleteTree, VerifyTree, PortManagement, Bind, Free, Redirect, Reclaim, ReclaimAck, LabelRange, Error, Desk, put, Setup, label_end, Label, LabelState, Wiring, Offered, Recalled, Wired, label_number, Grant, GrantState, Idle, ByController, ByInput, Leaving, Acceptance, New, Refreshed, IsLeaving, GrantsFull, acceptance, grant_on, grant_label, Work, with_session, with_label, without_label, with_grants, with_grant, without_grant, label_at, labels_of, known_of, has_room, redirect, reclaim_ack, label_range, error, quits_label, quits_in, quits_found, quits, is_good, learns, takes, expects, accepts, grants_label, recalls_offered, reclaimed_in, reclaimed, acknowledged_in, acknowledged, narrowed, recalls_outside, ranged, error_comes, label_by, hears, used_label, used, bound_in, bound, freed_in, freed, started_in, started, resets, restarts}
use Rattle.law_port_views.specs.port_model.gsmp_wire.declared.request.Request.TheVariants.{DeleteAll, AllPorts}
use Rattle.law_port_views.specs.port_model.link_model.declared.record.Record.TheVariants.{Join}
use Rattle.law_port_views.specs.port_model.ifmp_wire.declared.message.Message.{Message}
use Rattle.law_port_views.specs.port_model.ifmp_wire.declared.message.Message.TheVariants.{Adjacency}
use Rattle.law_port_views.proofs.law_port_facts.Keyed.{on_both}
use Rattle.law_port_views.specs.port_model.declared.action.Action.TheVariants.{CutChain, Note, TakeBack}
use Rattle.law_port_views.specs.port_model.Grants.{OutOfRange, Taken}
use Rattle.law_port_views.specs.port_model.Port.{with_action}
use Rattle.law_port_views.specs.port_model.Saying.{says}
use Rattle.law_port_views.specs.port_model.Adjacency.{steps, greeted}
use Rattle.law_port_views.specs.port_model.Redirection.{redirected}
use Rattle.law_port_views.specs.port_model.Answers.{done}
use Rattle.law_port_views.proofs.Recalling.{room_acts, room_session, room_grants, room_says, room_expects}
use Rattle.law_port_views.proofs.Recalls.{room_recalls, room_outside}
use Rattle.law_port_views.proofs.Ticking.{room_steps}
use Rattle.law_port_views.proofs.Refreshing.{room_unwires, room_fold}
use Rattle.law_label_steps.specs.Follows.{IsUnspent}
use Rattle.law_label_steps.proofs.Follow.{unspent_label}

-- *A label is in use*
used_found : (w : Work) (o : Option Label) → IsUnspent w → IsUnspent (used_label w o)
used_found w None n = n
used_found w (Some x) n = unspent_label w (record x { idle = 0 }) n

pub used_unspent : (w : Work) (number : ℕ) → IsUnspent w → IsUnspent (used w number)
used_unspent w number n = used_found w (label_at w.port number) n

module _ (setup : Setup) (desk : Desk) where
  -- *Quits*, and a good ACK
  quits_label_unspent : (w : Work) (x : Label) → IsUnspent w → IsUnspent (quits_label setup desk w x)
  quits_label_unspent w x n = room_unwires setup desk (with_action (with_label w (record x { state = Wired })) (CutChain x.number)) x.number
      (room_acts (with_label w (record x { state = Wired })) (CutChain x.number) (unspent_label w (record x { state = Wired }) n))

  quits_in_unspent : (w : Work) (x : Label) (state : LabelState) → IsUnspent w → IsUnspent (quits_in setup desk w x state)
  quits_in_unspent w x Wiring n = n
  quits_in_unspent w x Offered n = n
  quits_in_unspent w x (Recalled last true) n = on_both IsUnspent (nat_lt last (known_of w.port)) (quits_label setup desk w x) w (quits_label_unspent w x n) n
  quits_in_unspent w x (Recalled last false) n = n
  quits_in_unspent w x Wired n = n

  quits_found_unspent : (w : Work) (o : Option Label) → IsUnspent w → IsUnspent (quits_found setup desk w o)
  quits_found_unspent w None n = n
  quits_found_unspent w (Some x) n = quits_in_unspent w x x.state n

  learns_unspent : (w : Work) (next : ℕ) → IsUnspent w → IsUnspent (learns setup desk w next)
  learns_unspent w next n =
      let told : Work = with_session w (λ s. record s { known = max s.known next }) in
      room_fold (quits setup desk) (λ v number m. quits_found_unspent v (label_at v.port number) m) (map label_number (labels_of told.port)) told
      (room_session w (λ s. record s { known = max s.known next }) (λ z. refl) n)

  greeted_unspent : (w : Work) (source : Addr) (hello : Hello) → IsUnspent w → IsUnspent (greeted setup desk w source hello)
  greeted_unspent w source hello n =
      let step = ifmp_received w.port.adjacency source hello in
      let next : Work = steps setup w step in
      let kept : IsUnspent next = room_steps setup w step n in
      on_both IsUnspent (is_good w.port.adjacency step.side (heard_from source hello)) (learns setup desk next hello.next) next (learns_unspent next hello.next kept) kept

  -- *Redirect*
  redirected_unspent : (w : Work) (channel : Channel) (flow : FlowId) (lifetime : ℕ) (a : Acceptance) → IsUnspent w → IsUnspent (redirected setup desk w channel flow lifetime a)
  redirected_unspent w channel flow lifetime (New label) n =
      let grants : List Grant = w.port.grants ++ record { label = label; flow = flow; lifetime = lifetime; state = Idle } ∷ [] in
      on_both IsUnspent (has_room desk w) (grants_label setup w label flow lifetime) w
      (room_acts (with_grants (accepts w) grants) _ (room_grants (accepts w) grants n)) n
  redirected_unspent w channel flow lifetime (Refreshed grant) n = room_grants (accepts w) (put grant_label (record grant { lifetime = lifetime }) w.port.grants) n
  redirected_unspent w channel flow lifetime OutOfRange n = room_says w (label_range setup)
  redirected_unspent w channel flow lifetime Taken n = room_says w (error 1 channel)
  redirected_unspent w channel flow lifetime IsLeaving n = room_says w (error 2 channel)
  redirected_unspent w channel flow lifetime GrantsFull n = room_says w (error 3 channel)

  -- *Reclaim*
  reclaimed_in_unspent : (w : Work) (channel : Channel) (grant : Grant) (state : GrantState) → IsUnspent w → IsUnspent (reclaimed_in setup w channel grant state)
  reclaimed_in_unspent w channel grant Idle n = room_says (without_grant w grant.label) (reclaim_ack channel grant.flow)
  reclaimed_in_unspent w channel grant ByController n = room_says (without_grant w grant.label) (reclaim_ack channel grant.flow)
  reclaimed_in_unspent w channel grant (ByInput input) n =
      let leaving : Grant = record grant { state = Leaving input true } in
      room_acts (with_grant w leaving) (TakeBack input (label_end setup.port grant.label)) (room_grants w (put grant_label leaving w.port.grants) n)
  reclaimed_in_unspent w channel grant (Leaving input owed) n = room_grants w (put grant_label (record grant { state = Leaving input true }) w.port.grants) n

  reclaimed_unspent : (w : Work) (channel : Channel) (flow : FlowId) (o : Option Grant) → IsUnspent w → IsUnspent (reclaimed setup w channel flow o)
  reclaimed_unspent w channel flow None n = room_says w (reclaim_ack channel flow)
  reclaimed_unspent w channel flow (Some grant) n = on_both IsUnspent (same_flow grant.flow flow) (reclaimed_in setup w channel grant grant.state) (says w (error 4 channel))
      (reclaimed_in_unspent w channel grant grant.state n) (room_says w (error 4 channel))

  -- *Reclaim Ack*
  acknowledged_in_unspent : (w : Work) (x : Label) (state : LabelState) → IsUnspent w → IsUnspent (acknowledged_in setup desk w x state)
  acknowledged_in_unspent w x Wiring n = n
  acknowledged_in_unspent w x Offered n = n
  acknowledged_in_unspent w x (Recalled last acknowledged) n =
      let next : Work = with_label w (record x { state = Recalled last true }) in
      quits_found_unspent next (label_at next.port x.number) (unspent_label w (record x { state = Recalled last true }) n)
  acknowledged_in_unspent w x Wired n = n

  acknowledged_unspent : (w : Work) (flow : FlowId) (o : Option Label) → IsUnspent w → IsUnspent (acknowledged setup desk w flow o)
  acknowledged_unspent w flow None n = n
  acknowledged_unspent w flow (Some x) n = on_both IsUnspent (same_flow x.flow flow) (acknowledged_in setup desk w x x.state) w (acknowledged_in_unspent w x x.state n) n

  -- *Label Range*
  ranged_unspent : (w : Work) (least greatest : Channel) → IsUnspent w → IsUnspent (ranged setup w least greatest)
  ranged_unspent w least greatest n =
      let next : Work = with_session w (narrowed least greatest) in
      room_fold (recalls_outside setup) (room_outside setup) (map label_number (labels_of next.port)) next (room_session w (narrowed least greatest) (λ z. refl) n)

  -- *A message is heard*
  pub hears_unspent : (w : Work) (source : Addr) (message : Message) → IsUnspent w → IsUnspent (hears setup desk w source message)
  hears_unspent w source (Adjacency hello) n = greeted_unspent w source hello n
  hears_unspent w source (Redirect sender peer number lifetime channel flow) n = on_both IsUnspent (takes w.port source sender peer number)
      (redirected setup desk (expects w number) channel flow lifetime (acceptance setup w.port.grants channel flow)) w
      (redirected_unspent (expects w number) channel flow lifetime (acceptance setup w.port.grants channel flow) (room_expects w number n)) n
  hears_unspent w source (Reclaim sender peer number channel flow) n = on_both IsUnspent (takes w.port source sender peer number)
      (reclaimed setup (expects w number) channel flow (grant_on w.port.grants (label_number_of channel))) w
      (reclaimed_unspent (expects w number) channel flow (grant_on w.port.grants (label_number_of channel)) (room_expects w number n)) n
  hears_unspent w source (ReclaimAck sender peer number channel flow) n = on_both IsUnspent (takes w.port source sender peer number)
      (acknowledged setup desk (expects w number) flow (label_by w.port (label_number_of channel))) w
      (acknowledged_unspent (expects w number) flow (label_by w.port (label_number_of channel)) (room_expects w number n)) n
  hears_unspent w source (LabelRange sender peer number least greatest) n = on_both IsUnspent (takes w.port source sender peer number)
      (ranged setup (expects w number) least greatest) w (ranged_unspent (expects w number) least greatest (room_expects w number n)) n
  hears_unspent w source (Error sender peer number code channel) n = on_both IsUnspent (takes w.port source sender peer number)
      (error_comes setup (expects w number) code (label_by w.port (label_number_of channel))) w
      (on_both IsUnspent (code == 2) (expects w number) (recalls_offered setup (expects w number) (label_by w.port (label_number_of channel)))
      (room_expects w number n) (room_recalls setup (expects w number) (label_by w.port (label_number_of channel)) (room_expects w number n))) n

module _ (setup : Setup) where
  -- *The switch has done what the port asked*
  bound_unspent : (w : Work) (x : Label) (state : LabelState) → IsUnspent w → IsUnspent (bound_in setup w x state)
  bound_unspent w x Wiring n = room_says (with_action (with_label w (record x { state = Offered })) (Note (Bind setup.node setup.port x.number x.flow))) (redirect setup x)
  bound_unspent w x Offered n = n
  bound_unspent w x (Recalled last acknowledged) n = n
  bound_unspent w x Wired n = n

  bound_found : (w : Work) (o : Option Label) → IsUnspent w → IsUnspent (bound setup w o)
  bound_found w None n = n
  bound_found w (Some x) n = bound_unspent w x x.state n

  freed_unspent : (w : Work) (x : Label) (state : LabelState) → IsUnspent w → IsUnspent (freed_in setup w x state)
  freed_unspent w x Wiring n = n
  freed_unspent w x Offered n = n
  freed_unspent w x (Recalled last acknowledged) n = n
  freed_unspent w x Wired n = room_acts (without_label w x.number) (Note (Free setup.node setup.port x.number)) (room_session w _ (λ z. refl) n)

  freed_found : (w : Work) (o : Option Label) → IsUnspent w → IsUnspent (freed setup w o)
  freed_found w None n = n
  freed_found w (Some x) n = freed_unspent w x x.state n

  started_unspent : (w : Work) (grant : Grant) (state : GrantState) → IsUnspent w → IsUnspent (started_in w grant state)
  started_unspent w grant Idle n = room_grants w (put grant_label (record grant { state = ByController }) w.port.grants) n
  started_unspent w grant ByController n = n
  started_unspent w grant (ByInput input) n = n
  started_unspent w grant (Leaving input owed) n = n

  started_found : (w : Work) (o : Option Grant) → IsUnspent w → IsUnspent (started w o)
  started_found w None n = n
  started_found w (Some grant) n = started_unspent w grant grant.state n

  pub done_unspent : (w : Work) (request : Request) → IsUnspent w → IsUnspent (done setup w request)
  done_unspent w (AddBranch input output) n = on_both IsUnspent (input.port.0 == 0) (started w (grant_on w.port.grants (label_number_of output.channel)))
      (bound setup w (label_by w.port (label_number_of input.channel)))
      (started_found w (grant_on w.port.grants (label_number_of output.channel)) n) (bound_found w (label_by w.port (label_number_of input.channel)) n)
  done_unspent w (MoveBranch input from to) n = on_both IsUnspent (to.port.0 == 0) w
      (with_action w (Note (Join setup.node setup.port (number_of_channel input.channel) to.port (number_of_channel to.channel)))) n
      (room_acts w (Note (Join setup.node setup.port (number_of_channel input.channel) to.port (number_of_channel to.channel))) n)
  done_unspent w (DeleteTree input) n = freed_found w (label_by w.port (label_number_of input.channel)) n
  done_unspent w (VerifyTree input) n = n
  done_unspent w (DeleteAll port) n = n
  done_unspent w (PortManagement port function) n = n
  done_unspent w AllPorts n = n

-- a port that is reset, or restarts with its node, has no session
pub resets_unspent : (setup : Setup) (w : Work) → IsUnspent (resets setup w)
resets_unspent setup w = λ live. refl

pub restarts_unspent : (setup : Setup) (w : Work) → IsUnspent (restarts setup w)
restarts_unspent setup w = λ live. refl
