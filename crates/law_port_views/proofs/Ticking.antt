-- a tick of a port: its adjacency's, and lifetimes of grants

use Rattle.std.proofs.Common.{◌≡◌, ℕ, Bool, true, false, List, Option, None, Some, refl, sym, ◌∙◌, ap, subst}
use Rattle.std.specs.Prelude.{◌-◌, ◌==◌}
use Rattle.law_port_facts.specs.port_model.Words.{Instance, Peer, Hello, End, Answer, Quiet, Send, Open, Reply, Silent, Says, Resets, tick_reply, Side, Step, ticked, router, side_of, tick_by, Opened, at, Setup, label_end, Grant, GrantState, Idle, ByController, ByInput, Leaving, grant_label, Work, halts, with_grants, with_grant, without_grant, greets, first_session, expires, ages_in, ages_found, ages}
use Rattle.law_port_facts.specs.port_model.adjacency_table.declared.message.Answer.TheVariants.{Reset}
use Rattle.law_port_facts.specs.port_model.adjacency_table.Side.{counted}
use Rattle.law_port_facts.proofs.port_model.adjacency_table.EndsLemmas.{ticked_by_instances}
use Rattle.law_port_facts.specs.port_model.ifmp_wire.declared.message.Message.TheVariants.{Adjacency}
use Rattle.law_port_facts.proofs.Keyed.{on_both, by_eq, at_key}
use Rattle.law_label_line.specs.Cells.{Role, Downstream, Upstream, Cell}
use Rattle.law_label_line.specs.Line as states
use Rattle.law_label_line.specs.Line.{Line}
use Rattle.law_label_line.specs.Downstream as down
use Rattle.law_label_line.specs.Upstream as up
use Rattle.law_label_line.specs.Moves as moves
use Rattle.law_port_facts.specs.port_model.declared.action.Action.TheVariants.{Say, Note, TakeBack}
use Rattle.law_port_facts.specs.port_model.Port.{with_action}
use Rattle.law_port_facts.specs.port_model.Adjacency.{answers, steps}
use Rattle.law_port_views.specs.Link.{LinkLabel}
use Rattle.law_port_views.specs.Flows.{flow_number}
use Rattle.law_port_views.specs.Shown.{expected_number, grant_in, granted, IsLent, Shown}
use Rattle.law_port_views.specs.Reaching.{Reaches, Leads}
use Rattle.law_port_views.proofs.Reach.{stays, by_move, begins_by, leads_on, leads_if}
use Rattle.law_port_views.proofs.Says.{acts_quiet, halts_shown}
use Rattle.law_port_views.proofs.Live.{idle_grants}
use Rattle.law_port_views.proofs.Grants.{grants_down, own_grant, other_grant, own_ended, other_ended}
use Rattle.law_port_views.proofs.Greets.{replies_down, replies_up}
use Rattle.law_port_views.proofs.Hearing.{sided_down, sided_up}
use Rattle.law_port_views.proofs.Granting.{some_shown}
use Rattle.law_port_views.proofs.Recalling.{HasRoom, room_acts, room_grants}

-- *Numbers aren't spent* by what the table answers
room_answers : (setup : Setup) (w : Work) (a : Answer Hello Instance) → HasRoom w → HasRoom (answers setup w a)
room_answers setup w Quiet room = room
room_answers setup w (Send hello) room = room_acts w (Say (Adjacency hello)) room
room_answers setup w (Open None own) room =
    room_acts (record w { port = record w.port { session = Some (first_session setup) } }) (Note (Opened setup.node setup.port)) (λ live. refl)
room_answers setup w (Open (Some hello) own) room =
    let v : Work = greets w hello in
    room_acts (record v { port = record v.port { session = Some (first_session setup) } }) (Note (Opened setup.node setup.port)) (λ live. refl)
room_answers setup w Reset room = λ live. absurd (cc live)

pub room_steps : (setup : Setup) (w : Work) (s : Step Peer) → HasRoom w → HasRoom (steps setup w s)
room_steps setup w s room = room_answers setup (record w { port = record w.port { adjacency = s.side } }) _ room

module _ (link : LinkLabel) (like : Type 0) (queued : List Cell) where
  -- *The adjacency's tick*
  tick_down : (setup : Setup) (w : Work) (line : Line) (reply : Reply) → tick_reply line.downstream.state (counted line.downstream.state w.port.adjacency.silence) ≡ reply
      → Shown Downstream link like queued w line
      → Reaches Downstream link like queued (steps setup w (tick_by (router (link.address Downstream)) (router (link.address Upstream)) line.downstream w.port.adjacency.silence reply)) line
  tick_down setup w line Silent e h =
      let a : Side Peer = side_of (router (link.address Downstream)) (router (link.address Upstream)) line.downstream (counted line.downstream.state w.port.adjacency.silence) in
      stays Downstream link like queued (record w { port = record w.port { adjacency = a } }) line (sided_down link like queued w line a refl h)
  tick_down setup w line (Says kind) e h =
      let a : Side Peer = side_of (router (link.address Downstream)) (router (link.address Upstream)) line.downstream (counted line.downstream.state w.port.adjacency.silence) in
      let t : Work = record w { port = record w.port { adjacency = a } } in
      begins_by Downstream link like queued
      (steps setup w (tick_by (router (link.address Downstream)) (router (link.address Upstream)) line.downstream w.port.adjacency.silence (Says kind)))
      line (down.replies_downstream line (Says kind) 0 0) line (moves.Tick Downstream (counted line.downstream.state w.port.adjacency.silence) 0)
      (ap (λ (r : Reply). down.ticks_downstream line r 0) e)
      (replies_down link like queued t line (expected_number w.port.session) 0 0 (Says kind) line refl refl (sided_down link like queued w line a refl h))
  tick_down setup w line Resets e h =
      let a : Side Peer = side_of (router (link.address Downstream)) (router (link.address Upstream)) line.downstream w.port.adjacency.silence in
      let t : Work = record w { port = record w.port { adjacency = a } } in
      stays Downstream link like queued (halts t) line (halts_shown link like queued Downstream t line (sided_down link like queued w line a refl h))

  tick_up : (setup : Setup) (w : Work) (line : Line) (reply : Reply) → tick_reply line.upstream.state (counted line.upstream.state w.port.adjacency.silence) ≡ reply
      → Shown Upstream link like queued w line
      → Reaches Upstream link like queued (steps setup w (tick_by (router (link.address Upstream)) (router (link.address Downstream)) line.upstream w.port.adjacency.silence reply)) line
  tick_up setup w line Silent e h =
      let a : Side Peer = side_of (router (link.address Upstream)) (router (link.address Downstream)) line.upstream (counted line.upstream.state w.port.adjacency.silence) in
      stays Upstream link like queued (record w { port = record w.port { adjacency = a } }) line (sided_up link like queued w line a refl h)
  tick_up setup w line (Says kind) e h =
      let a : Side Peer = side_of (router (link.address Upstream)) (router (link.address Downstream)) line.upstream (counted line.upstream.state w.port.adjacency.silence) in
      let t : Work = record w { port = record w.port { adjacency = a } } in
      begins_by Upstream link like queued
      (steps setup w (tick_by (router (link.address Upstream)) (router (link.address Downstream)) line.upstream w.port.adjacency.silence (Says kind)))
      line (up.replies_upstream line (Says kind) 0 0) line (moves.Tick Upstream (counted line.upstream.state w.port.adjacency.silence) 0)
      (ap (λ (r : Reply). up.ticks_upstream line r 0) e)
      (replies_up link like queued t line (expected_number w.port.session) 0 0 (Says kind) line refl (sym h.expected) refl (sided_up link like queued w line a refl h))
  tick_up setup w line Resets e h =
      let a : Side Peer = side_of (router (link.address Upstream)) (router (link.address Downstream)) line.upstream w.port.adjacency.silence in
      let t : Work = record w { port = record w.port { adjacency = a } } in
      stays Upstream link like queued (halts t) line (halts_shown link like queued Upstream t line (sided_up link like queued w line a refl h))

  pub tick_leads : (role : Role) (setup : Setup) (w : Work) → Leads role link like queued w (steps setup w (ticked w.port.adjacency))
  tick_leads Downstream setup w line h =
      subst (λ (s : Step Peer). Reaches Downstream link like queued (steps setup w s) line)
      (sym (ap ticked h.side ∙ ticked_by_instances (router (link.address Downstream)) (router (link.address Upstream)) line.downstream w.port.adjacency.silence))
      (tick_down setup w line (tick_reply line.downstream.state (counted line.downstream.state w.port.adjacency.silence)) refl h)
  tick_leads Upstream setup w line h =
      subst (λ (s : Step Peer). Reaches Upstream link like queued (steps setup w s) line)
      (sym (ap ticked h.side ∙ ticked_by_instances (router (link.address Upstream)) (router (link.address Downstream)) line.upstream w.port.adjacency.silence))
      (tick_up setup w line (tick_reply line.upstream.state (counted line.upstream.state w.port.adjacency.silence)) refl h)

  -- *Lifetimes*
  at_it : (w : Work) (g : Grant) → at grant_label g.label w.port.grants ≡ Some g → g.label ≡ link.label → at grant_label link.label w.port.grants ≡ Some g
  at_it w g found e = subst (λ (n : ℕ). at grant_label n w.port.grants ≡ Some g) e found

  younger_up : (w : Work) (g : Grant) (lifetime : ℕ) (b : Bool) → w.halted ≡ b → at grant_label g.label w.port.grants ≡ Some g
      → Leads Upstream link like queued w (with_grant w (record g { lifetime = lifetime }))
  younger_up w g lifetime true halted found =
      λ line h. subst (λ (v : Work). Reaches Upstream link like queued v line) (sym (idle_grants w _ halted)) (stays Upstream link like queued w line h)
  younger_up w g lifetime false live found = λ line h. stays Upstream link like queued (with_grant w (record g { lifetime = lifetime })) line
      (by_eq g.label link.label
      (λ e t. own_grant link like queued w g (record g { lifetime = lifetime }) line line.grant live (at_it w g found e) e (some_shown link like queued w line g (at_it w g found e) h) h.lent h)
      (λ apart t. other_grant link like queued w (record g { lifetime = lifetime }) line apart h))

  -- one that isn't lent ends
  ends_up : (w : Work) (g : Grant) (b : Bool) → w.halted ≡ b → at grant_label g.label w.port.grants ≡ Some g
      → ((line : Line) → line.grant ≡ granted g → up.expired line line.grant ≡ record line { grant = states.NoGrant }) → (IsLent (granted g) → ⊥)
      → Leads Upstream link like queued w (without_grant w g.label)
  ends_up w g true halted found move unlent =
      λ line h. subst (λ (v : Work). Reaches Upstream link like queued v line) (sym (idle_grants w _ halted)) (stays Upstream link like queued w line h)
  ends_up w g false live found move unlent = by_eq g.label link.label
      (λ e t line h.
      let is : line.grant ≡ granted g = some_shown link like queued w line g (at_it w g found e) h in
      by_move Upstream link like queued (without_grant w g.label) line (record line { grant = states.NoGrant }) moves.Expire (move line is)
      (own_ended link like queued w g.label line live e (λ l. unlent (subst (λ (k : states.Grant). IsLent k) is (h.lent l))) h) refl)
      (λ apart t line h. stays Upstream link like queued (without_grant w g.label) line (other_ended link like queued w g.label line apart h))

  -- one that is lent is leaving
  leaves_up : (w : Work) (g : Grant) (input : End) (b : Bool) → w.halted ≡ b → at grant_label g.label w.port.grants ≡ Some g → g.state ≡ ByInput input
      → Leads Upstream link like queued w (with_grant w (record g { lifetime = 0; state = Leaving input false }))
  leaves_up w g input true halted found state =
      λ line h. subst (λ (v : Work). Reaches Upstream link like queued v line) (sym (idle_grants w _ halted)) (stays Upstream link like queued w line h)
  leaves_up w g input false live found state = by_eq g.label link.label
      (λ e t line h. by_move Upstream link like queued (with_grant w (record g { lifetime = 0; state = Leaving input false })) line
      (record line { grant = states.Leaving (flow_number g.flow) false }) moves.Expire
      (ap (up.expired line) (some_shown link like queued w line g (at_it w g found e) h ∙ ap (grant_in (flow_number g.flow)) state))
      (own_grant link like queued w g (record g { lifetime = 0; state = Leaving input false }) line (states.Leaving (flow_number g.flow) false) live (at_it w g found e) e refl (λ l. tt) h) refl)
      (λ apart t line h. stays Upstream link like queued (with_grant w (record g { lifetime = 0; state = Leaving input false })) line
      (other_grant link like queued w (record g { lifetime = 0; state = Leaving input false }) line apart h))

  takes_back : (role : Role) (setup : Setup) (w : Work) (input output : End) → Leads role link like queued w (with_action w (TakeBack input output))
  takes_back role setup w input output = λ line h. stays role link like queued (with_action w (TakeBack input output)) line
      (acts_quiet link like queued role w (TakeBack input output) line (record { none = refl; own = tt }) h)

  ages_state : (setup : Setup) (w : Work) (g : Grant) (state : GrantState) → at grant_label g.label w.port.grants ≡ Some g → g.state ≡ state
      → Leads Upstream link like queued w (ages_in setup w g state)
  ages_state setup w g Idle found e = leads_if Upstream link like queued w (expires setup w g Idle) (with_grant w (record g { lifetime = g.lifetime - 1 })) (g.lifetime == 1)
      (λ t. ends_up w g w.halted refl found (λ line is. ap (up.expired line) (is ∙ ap (grant_in (flow_number g.flow)) e)) (subst (λ (z : GrantState). IsLent (grant_in (flow_number g.flow) z) → ⊥) (sym e) (λ l. l)))
      (λ f. younger_up w g (g.lifetime - 1) w.halted refl found)
  ages_state setup w g ByController found e = leads_if Upstream link like queued w (expires setup w g ByController) (with_grant w (record g { lifetime = g.lifetime - 1 })) (g.lifetime == 1)
      (λ t. ends_up w g w.halted refl found (λ line is. ap (up.expired line) (is ∙ ap (grant_in (flow_number g.flow)) e)) (subst (λ (z : GrantState). IsLent (grant_in (flow_number g.flow) z) → ⊥) (sym e) (λ l. l)))
      (λ f. younger_up w g (g.lifetime - 1) w.halted refl found)
  ages_state setup w g (ByInput input) found e =
      let v : Work = with_grant w (record g { lifetime = 0; state = Leaving input false }) in
      leads_if Upstream link like queued w (expires setup w g (ByInput input)) (with_grant w (record g { lifetime = g.lifetime - 1 })) (g.lifetime == 1)
      (λ t. leads_on Upstream link like queued w v (expires setup w g (ByInput input)) (leaves_up w g input w.halted refl found e)
      (takes_back Upstream setup v input (label_end setup.port g.label)))
      (λ f. younger_up w g (g.lifetime - 1) w.halted refl found)
  ages_state setup w g (Leaving input owed) found e = λ line h. stays Upstream link like queued w line h

  ages_up : (setup : Setup) (w : Work) (n : ℕ) (o : Option Grant) → at grant_label n w.port.grants ≡ o → Leads Upstream link like queued w (ages_found setup w o)
  ages_up setup w n None found = λ line h. stays Upstream link like queued w line h
  ages_up setup w n (Some g) found =
      ages_state setup w g g.state (subst (λ (j : ℕ). at grant_label j w.port.grants ≡ Some g) (sym (at_key grant_label n w.port.grants g found)) found) refl

  -- the end that hands the label out has nothing of grants
  pub regrants : (w : Work) (grants : List Grant) → Leads Downstream link like queued w (with_grants w grants)
  regrants w grants = λ line h. stays Downstream link like queued (with_grants w grants) line (grants_down link like queued w grants line h)

  ages_down : (setup : Setup) (w : Work) (g : Grant) (state : GrantState) → Leads Downstream link like queued w (ages_in setup w g state)
  ages_down setup w g Idle = leads_if Downstream link like queued w (expires setup w g Idle) (with_grant w (record g { lifetime = g.lifetime - 1 })) (g.lifetime == 1)
      (λ t. regrants w _) (λ f. regrants w _)
  ages_down setup w g ByController = leads_if Downstream link like queued w (expires setup w g ByController) (with_grant w (record g { lifetime = g.lifetime - 1 })) (g.lifetime == 1)
      (λ t. regrants w _) (λ f. regrants w _)
  ages_down setup w g (ByInput input) =
      let v : Work = with_grant w (record g { lifetime = 0; state = Leaving input false }) in
      leads_if Downstream link like queued w (expires setup w g (ByInput input)) (with_grant w (record g { lifetime = g.lifetime - 1 })) (g.lifetime == 1)
      (λ t. leads_on Downstream link like queued w v (expires setup w g (ByInput input)) (regrants w _) (takes_back Downstream setup v input (label_end setup.port g.label)))
      (λ f. regrants w _)
  ages_down setup w g (Leaving input owed) = λ line h. stays Downstream link like queued w line h

  ages_on : (setup : Setup) (w : Work) (o : Option Grant) → Leads Downstream link like queued w (ages_found setup w o)
  ages_on setup w None = λ line h. stays Downstream link like queued w line h
  ages_on setup w (Some g) = ages_down setup w g g.state

  pub ages_lead : (role : Role) (setup : Setup) (w : Work) (n : ℕ) → Leads role link like queued w (ages setup w n)
  ages_lead Downstream setup w n = ages_on setup w (at grant_label n w.port.grants)
  ages_lead Upstream setup w n = ages_up setup w n (at grant_label n w.port.grants) refl

-- *Numbers aren't spent* by lifetimes
room_ages_in : (setup : Setup) (w : Work) (g : Grant) (state : GrantState) → HasRoom w → HasRoom (ages_in setup w g state)
room_ages_in setup w g Idle room = on_both HasRoom (g.lifetime == 1) (expires setup w g Idle) (with_grant w (record g { lifetime = g.lifetime - 1 })) (room_grants w _ room) (room_grants w _ room)
room_ages_in setup w g ByController room = on_both HasRoom (g.lifetime == 1) (expires setup w g ByController) (with_grant w (record g { lifetime = g.lifetime - 1 })) (room_grants w _ room) (room_grants w _ room)
room_ages_in setup w g (ByInput input) room = on_both HasRoom (g.lifetime == 1) (expires setup w g (ByInput input)) (with_grant w (record g { lifetime = g.lifetime - 1 }))
    (room_acts (with_grant w (record g { lifetime = 0; state = Leaving input false })) (TakeBack input (label_end setup.port g.label)) (room_grants w _ room)) (room_grants w _ room)
room_ages_in setup w g (Leaving input owed) room = room

room_ages_found : (setup : Setup) (w : Work) (o : Option Grant) → HasRoom w → HasRoom (ages_found setup w o)
room_ages_found setup w None room = room
room_ages_found setup w (Some g) room = room_ages_in setup w g g.state room

pub room_ages : (setup : Setup) (w : Work) (n : ℕ) → HasRoom w → HasRoom (ages setup w n)
room_ages setup w n room = room_ages_found setup w (at grant_label n w.port.grants) room
