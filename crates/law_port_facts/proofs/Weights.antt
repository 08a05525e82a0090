-- how many control marks what a port asks may draw: one for a message, a request or a join that is taken back, and
-- 257 for a reset, which it asks once at most

use Rattle.std.proofs.Common.{◌≡◌, ℕ, ◌≤◌, ◌+◌, ◌*◌, Bool, true, false, List, [], ◌∷◌, ◌++◌, length, Option, None, Some, refl, ap, arith, if◌then◌else◌, fold}
use Rattle.std.specs.Prelude.{nat_lt, nat_le, ◌==◌, ◌&&◌, ◌||◌, ◌-◌, is_none, min}
use Rattle.std.specs.Option.{option_map, option_map_or}
use Rattle.port_model.specs.Words.{Channel, End, Peer, label_number_of, number_of_channel, Said, Answer, Quiet, Send, Open, ticked, hello_of, ifmp_answer, FlowId, same_flow, Request, AddBranch, MoveBranch, DeleteTree, VerifyTree, PortManagement, Bind, Free, Opened, at, put, without, entered, key_le, Desk, on_input, Setup, label_end, control_end, Label, LabelState, Wiring, Offered, Recalled, Wired, label_number, label_for, lowest_spare, Grant, GrantState, Idle, ByController, ByInput, Leaving, grant_label, grant_on, Acceptance, New, Refreshed, IsLeaving, GrantsFull, counted_once, packets_in, Session, Work, halts, with_session, with_label, without_label, with_new_label, with_grants, with_grant, without_grant, label_at, known_of, desk_after, has_room, Unnumbered, last_number, own_instance, greets, tells_in, tells, is_spent, halts_if_spent, redirect, reclaim, reclaim_ack, label_range, error, spent_number, first_session, opens, unwires, quits_label, quits_in, quits_found, quits, packet_flow, wires, offers, used_label, counts_flow, counts_by, counts, used, accepts, grants_label, reclaims_in, reclaims, unjoins, recalls, recalls_in, recalls_offered, reclaimed_in, reclaimed, acknowledged_in, acknowledged, is_outside, recalls_outside, label_by, bound_in, bound, freed_in, freed, started_in, started, expires, ages_in, ages_found, ages, refreshes, one_older, one_idler, idles, ticks_in, ticks_found, ticks_label}
use Rattle.port_model.specs.adjacency_table.declared.message.Answer.TheVariants.{Reset}
use Rattle.port_model.specs.adjacency_table.Side as sides
use Rattle.port_model.specs.ifmp_wire.declared.message.Message.TheVariants.{Adjacency}
use Rattle.port_model.specs.gsmp_wire.declared.request.Request.TheVariants.{DeleteAll, AllPorts}
use Rattle.port_model.specs.link_model.declared.record.Record.TheVariants.{Join}
use Rattle.port_model.specs.declared.action.Action.{Action}
use Rattle.port_model.specs.declared.action.Action.TheVariants as actions
use Rattle.port_model.specs.declared.action.Action.TheVariants.{Say, Ask, Note, CutChain, TakeBack, Withdraw}
use Rattle.port_model.specs.Grants.{OutOfRange, Taken}
use Rattle.port_model.specs.Port.{with_action}
use Rattle.port_model.specs.Saying.{peer_instance, says}
use Rattle.port_model.specs.Adjacency.{answers, steps}
use Rattle.port_model.specs.Redirection.{redirected}
use Rattle.port_model.specs.Answers.{done}
use Rattle.law_port_facts.proofs.Keyed.{on_both, on_each}

abbrev pub weight : Action → ℕ
weight (Say message) = 1
weight (Ask request needed) = 1
weight (Note item) = 0
weight (CutChain label) = 0
weight (TakeBack input output) = 1
weight (Withdraw input) = 0
weight actions.Reset = 257

abbrev pub weigh : List Action → ℕ
weigh [] = 0
weigh (action ∷ rest) = weight action + weigh rest

pub weigh_more : (xs : List Action) (action : Action) → weigh (xs ++ action ∷ []) ≡ weigh xs + weight action
weigh_more [] action = omega arith
weigh_more (x ∷ xs) action = omega (arith, weigh_more xs action)

pub weigh_join : (xs ys : List Action) → weigh (xs ++ ys) ≡ weigh xs + weigh ys
weigh_join [] ys = omega arith
weigh_join (x ∷ xs) ys = omega (arith, weigh_join xs ys)

-- with the reset that may still be asked
abbrev pub still : Bool → ℕ
still true = 0
still false = 257

pub record Costs (count : ℕ) (w v : Work) : Type 0 where
  pub cost : weigh v.actions + still v.halted ≤ (weigh w.actions + still w.halted) + count

pub costs_none : (w : Work) → Costs 0 w w
costs_none w = record { cost = omega arith }

pub alike : (w v : Work) → v.actions ≡ w.actions → v.halted ≡ w.halted → Costs 0 w v
alike w v same halted = record { cost = omega (arith, ap weigh same, ap still halted) }

pub at_most : (j k : ℕ) (w v : Work) → j ≤ k → Costs j w v → Costs k w v
at_most j k w v le c = record { cost = omega (arith, c.cost, le) }

pub one_after : (j k : ℕ) (u v w : Work) → Costs j u v → Costs k v w → Costs (j + k) u w
one_after j k u v w c d = record { cost = omega (arith, c.cost, d.cost) }

pub after_none : (k : ℕ) (u v w : Work) → Costs 0 u v → Costs k v w → Costs k u w
after_none k u v w c d = record { cost = omega (arith, c.cost, d.cost) }

pub none_after : (k : ℕ) (u v w : Work) → Costs k u v → Costs 0 v w → Costs k u w
none_after k u v w c d = record { cost = omega (arith, c.cost, d.cost) }

pub costs_fold : {A : Type 0} (count : ℕ) (f : Work → A → Work) → ((w : Work) (x : A) → Costs count w (f w x)) → (xs : List A) (w : Work) → Costs (count * length xs) w (fold f w xs)
costs_fold count f each [] w = at_most 0 (count * 0) w w (omega arith) (costs_none w)
costs_fold count f each (x ∷ xs) w = at_most (count + count * length xs) (count * length (x ∷ xs)) w (fold f (f w x) xs) (omega arith) (one_after count (count * length xs) w (f w x) (fold f (f w x) xs) (each w x) (costs_fold count f each xs (f w x)))

-- *The smallest steps*
acts_cost : (w : Work) (action : Action) → Costs (weight action) w (with_action w action)
acts_cost w action = on_both (Costs (weight action) w) w.halted w (record w { actions = w.actions ++ action ∷ [] }) (record { cost = omega arith }) (record { cost = omega (arith, weigh_more w.actions action) })

halts_cost : (w : Work) → Costs 0 w (halts w)
halts_cost w = record {
  cost = on_each (λ (v : Work). weigh v.actions + 0 ≤ (weigh w.actions + still w.halted) + 0) w.halted w (record w { actions = w.actions ++ actions.Reset ∷ [] })
      (λ t. omega arith) (λ f. omega (arith, weigh_more w.actions actions.Reset, ap still f));
}

pub session_cost : (w : Work) (change : Session → Session) → Costs 0 w (with_session w change)
session_cost w change = on_both (Costs 0 w) w.halted w (record w { port = record w.port { session = option_map change w.port.session } }) (costs_none w) (alike w (record w { port = record w.port { session = option_map change w.port.session } }) refl refl)

grants_cost : (w : Work) (grants : List Grant) → Costs 0 w (with_grants w grants)
grants_cost w grants = on_both (Costs 0 w) w.halted w (record w { port = record w.port { grants = grants } }) (costs_none w) (alike w (record w { port = record w.port { grants = grants } }) refl refl)

pub label_cost : (w : Work) (label : Label) → Costs 0 w (with_label w label)
label_cost w label = session_cost w (λ s. record s { labels = put label_number label s.labels })

pub grant_cost : (w : Work) (grant : Grant) → Costs 0 w (with_grant w grant)
grant_cost w grant = grants_cost w (put grant_label grant w.port.grants)

pub gone_grant_cost : (w : Work) (label : ℕ) → Costs 0 w (without_grant w label)
gone_grant_cost w label = grants_cost w (without grant_label label w.port.grants)

-- *What is said*
pub tells_cost : (w : Work) (message : Unnumbered) → Costs 1 w (tells w message)
tells_cost w message = told w.port.session
  where
    told : (o : Option Session) → Costs 1 w (tells_in w message o)
    told None = at_most 0 1 w w (omega arith) (costs_none w)
    told (Some s) =
        let next : Work = with_session w (λ session. record session { number = s.number + 1 }) in
        let spent : Work = with_session w (λ session. record session { number = spent_number }) in
        let said : Action = Say (message (own_instance w.port.adjacency) (peer_instance w.port.adjacency) s.number) in
        on_both (Costs 1 w) (nat_lt s.number last_number) (with_action next said) spent (after_none 1 w next (with_action next said) (session_cost w (λ session. record session { number = s.number + 1 })) (acts_cost next said)) (at_most 0 1 w spent (omega arith) (session_cost w (λ session. record session { number = spent_number })))

pub closes_cost : (w : Work) → Costs 0 w (halts_if_spent w)
closes_cost w = on_both (Costs 0 w) (is_spent w.port.session) (halts w) w (halts_cost w) (costs_none w)

pub says_cost : (w : Work) (message : Unnumbered) → Costs 1 w (says w message)
says_cost w message = none_after 1 w (tells w message) (says w message) (tells_cost w message) (closes_cost (tells w message))

-- *The adjacency*
opens_cost : (setup : Setup) (w : Work) → Costs 0 w (opens setup w)
opens_cost setup w =
    let fresh : Work = record w { port = record w.port { session = Some (first_session setup) } } in
    after_none 0 w fresh (opens setup w) (alike w fresh refl refl) (acts_cost fresh (Note (Opened setup.node setup.port)))

answers_cost : (setup : Setup) (w : Work) (next : ℕ) (answer : Answer (Said Peer) Peer) → Costs 1 w (answers setup w (ifmp_answer next answer))
answers_cost setup w next Quiet = at_most 0 1 w w (omega arith) (costs_none w)
answers_cost setup w next (Send message) = acts_cost w (Say (Adjacency (hello_of next message)))
answers_cost setup w next (Open None own) = at_most 0 1 w (opens setup w) (omega arith) (opens_cost setup w)
answers_cost setup w next (Open (Some message) own) = none_after 1 w (greets w (hello_of next message)) (opens setup (greets w (hello_of next message))) (acts_cost w (Say (Adjacency (hello_of next message)))) (opens_cost setup (greets w (hello_of next message)))
answers_cost setup w next Reset = at_most 0 1 w (halts w) (omega arith) (halts_cost w)

pub steps_cost : (setup : Setup) (w : Work) (step : sides.Step Peer) → Costs 1 w (steps setup w step)
steps_cost setup w step =
    let turned : Work = record w { port = record w.port { adjacency = step.side } } in
    after_none 1 w turned (steps setup w step) (alike w turned refl refl) (answers_cost setup turned (option_map_or (λ (s : Session). s.expected) w.port.session 1) step.answer)

module _ (setup : Setup) (desk : Desk) where
  -- *Labels*
  unwires_cost : (w : Work) (number : ℕ) → Costs 1 w (unwires setup desk w number)
  unwires_cost w number =
      let input : End = label_end setup.port number in
      on_both (Costs 1 w) (on_input (desk_after desk w) input || has_room desk w) (with_action w (Ask (DeleteTree input) (on_input (desk_after desk w) input))) w
      (acts_cost w (Ask (DeleteTree input) (on_input (desk_after desk w) input))) (at_most 0 1 w w (omega arith) (costs_none w))

  pub nothing : (k : ℕ) (w : Work) → Costs k w w
  nothing k w = at_most 0 k w w (omega arith) (costs_none w)

  quits_label_cost : (w : Work) (label : Label) → Costs 1 w (quits_label setup desk w label)
  quits_label_cost w label =
      let next : Work = with_label w (record label { state = Wired }) in
      let cut : Work = with_action next (CutChain label.number) in
      after_none 1 w cut (quits_label setup desk w label) (after_none 0 w next cut (label_cost w (record label { state = Wired })) (acts_cost next (CutChain label.number))) (unwires_cost cut label.number)

  quits_in_cost : (w : Work) (label : Label) (state : LabelState) → Costs 1 w (quits_in setup desk w label state)
  quits_in_cost w label Wiring = nothing 1 w
  quits_in_cost w label Offered = nothing 1 w
  quits_in_cost w label (Recalled last true) = on_both (Costs 1 w) (nat_lt last (known_of w.port)) (quits_label setup desk w label) w (quits_label_cost w label) (nothing 1 w)
  quits_in_cost w label (Recalled last false) = nothing 1 w
  quits_in_cost w label Wired = nothing 1 w

  quits_found_cost : (w : Work) (o : Option Label) → Costs 1 w (quits_found setup desk w o)
  quits_found_cost w None = nothing 1 w
  quits_found_cost w (Some label) = quits_in_cost w label label.state

  pub quits_cost : (w : Work) (number : ℕ) → Costs 1 w (quits setup desk w number)
  quits_cost w number = quits_found_cost w (label_at w.port number)

  reclaims_cost : (w : Work) (label : Label) → Costs 1 w (reclaims w label)
  reclaims_cost w label = by_session w.port.session
    where
      by_session : (o : Option Session) → Costs 1 w (reclaims_in w label o)
      by_session None = nothing 1 w
      by_session (Some s) = after_none 1 w (with_label w (record label { state = Recalled (min last_number s.number) false })) (reclaims_in w label (Some s)) (label_cost w (record label { state = Recalled (min last_number s.number) false }))
          (says_cost (with_label w (record label { state = Recalled (min last_number s.number) false })) (reclaim label))

  unjoins_cost : (w : Work) (number : ℕ) (join : Option End) → Costs 1 w (unjoins setup w number join)
  unjoins_cost w number None = nothing 1 w
  unjoins_cost w number (Some output) = acts_cost w (TakeBack (label_end setup.port number) output)

  recalls_cost : (w : Work) (label : Label) → Costs 2 w (recalls setup w label)
  recalls_cost w label = at_most (1 + 1) 2 w (recalls setup w label) (omega arith) (one_after 1 1 w (reclaims w label) (recalls setup w label) (reclaims_cost w label) (unjoins_cost (reclaims w label) label.number label.join))

  recalls_in_cost : (w : Work) (label : Label) (state : LabelState) → Costs 2 w (recalls_in setup w label state)
  recalls_in_cost w label Wiring = nothing 2 w
  recalls_in_cost w label Offered = recalls_cost w label
  recalls_in_cost w label (Recalled last acknowledged) = nothing 2 w
  recalls_in_cost w label Wired = nothing 2 w

  pub recalls_offered_cost : (w : Work) (o : Option Label) → Costs 2 w (recalls_offered setup w o)
  recalls_offered_cost w None = nothing 2 w
  recalls_offered_cost w (Some label) = recalls_in_cost w label label.state

  acknowledged_in_cost : (w : Work) (label : Label) (state : LabelState) → Costs 1 w (acknowledged_in setup desk w label state)
  acknowledged_in_cost w label Wiring = nothing 1 w
  acknowledged_in_cost w label Offered = nothing 1 w
  acknowledged_in_cost w label (Recalled last acknowledged) = after_none 1 w (with_label w (record label { state = Recalled last true })) (acknowledged_in setup desk w label (Recalled last acknowledged))
      (label_cost w (record label { state = Recalled last true })) (quits_cost (with_label w (record label { state = Recalled last true })) label.number)
  acknowledged_in_cost w label Wired = nothing 1 w

  pub acknowledged_cost : (w : Work) (flow : FlowId) (o : Option Label) → Costs 1 w (acknowledged setup desk w flow o)
  acknowledged_cost w flow None = nothing 1 w
  acknowledged_cost w flow (Some label) = on_both (Costs 1 w) (same_flow label.flow flow) (acknowledged_in setup desk w label label.state) w (acknowledged_in_cost w label label.state) (nothing 1 w)

  pub recalls_outside_cost : (w : Work) (number : ℕ) → Costs 2 w (recalls_outside setup w number)
  recalls_outside_cost w number = on_both (Costs 2 w) (is_outside w.port.session number) (recalls_offered setup w (label_at w.port number)) w (recalls_offered_cost w (label_at w.port number)) (nothing 2 w)

  -- *Redirect* and *Reclaim*
  pub redirected_cost : (w : Work) (channel : Channel) (flow : FlowId) (lifetime : ℕ) (a : Acceptance) → Costs 1 w (redirected setup desk w channel flow lifetime a)
  redirected_cost w channel flow lifetime (New label) =
      let grants : List Grant = w.port.grants ++ record { label = label; flow = flow; lifetime = lifetime; state = Idle } ∷ [] in
      let granted : Work = with_grants (accepts w) grants in
      on_both (Costs 1 w) (has_room desk w) (grants_label setup w label flow lifetime) w
      (after_none 1 w granted (grants_label setup w label flow lifetime) (after_none 0 w (accepts w) granted (alike w (accepts w) refl refl) (grants_cost (accepts w) grants))
      (acts_cost granted (Ask (AddBranch (control_end setup.port label) (label_end setup.port label)) false))) (nothing 1 w)
  redirected_cost w channel flow lifetime (Refreshed grant) = at_most 0 1 w (with_grant (accepts w) (record grant { lifetime = lifetime })) (omega arith)
      (after_none 0 w (accepts w) (with_grant (accepts w) (record grant { lifetime = lifetime })) (alike w (accepts w) refl refl) (grant_cost (accepts w) (record grant { lifetime = lifetime })))
  redirected_cost w channel flow lifetime OutOfRange = says_cost w (label_range setup)
  redirected_cost w channel flow lifetime Taken = says_cost w (error 1 channel)
  redirected_cost w channel flow lifetime IsLeaving = says_cost w (error 2 channel)
  redirected_cost w channel flow lifetime GrantsFull = says_cost w (error 3 channel)

  reclaimed_in_cost : (w : Work) (channel : Channel) (grant : Grant) (state : GrantState) → Costs 1 w (reclaimed_in setup w channel grant state)
  reclaimed_in_cost w channel grant Idle = after_none 1 w (without_grant w grant.label) (reclaimed_in setup w channel grant Idle) (gone_grant_cost w grant.label) (says_cost (without_grant w grant.label) (reclaim_ack channel grant.flow))
  reclaimed_in_cost w channel grant ByController = after_none 1 w (without_grant w grant.label) (reclaimed_in setup w channel grant ByController) (gone_grant_cost w grant.label) (says_cost (without_grant w grant.label) (reclaim_ack channel grant.flow))
  reclaimed_in_cost w channel grant (ByInput input) =
      let after : Work = with_grant w (record grant { state = Leaving input true }) in
      after_none 1 w after (reclaimed_in setup w channel grant (ByInput input)) (grant_cost w (record grant { state = Leaving input true })) (acts_cost after (TakeBack input (label_end setup.port grant.label)))
  reclaimed_in_cost w channel grant (Leaving input owed) = at_most 0 1 w (with_grant w (record grant { state = Leaving input true })) (omega arith) (grant_cost w (record grant { state = Leaving input true }))

  pub reclaimed_cost : (w : Work) (channel : Channel) (flow : FlowId) (o : Option Grant) → Costs 1 w (reclaimed setup w channel flow o)
  reclaimed_cost w channel flow None = says_cost w (reclaim_ack channel flow)
  reclaimed_cost w channel flow (Some grant) = on_both (Costs 1 w) (same_flow grant.flow flow) (reclaimed_in setup w channel grant grant.state) (says w (error 4 channel)) (reclaimed_in_cost w channel grant grant.state) (says_cost w (error 4 channel))

  -- *A packet* and *an answer*
  used_label_cost : (w : Work) (o : Option Label) → Costs 1 w (used_label w o)
  used_label_cost w None = nothing 1 w
  used_label_cost w (Some label) = at_most 0 1 w (with_label w (record label { idle = 0 })) (omega arith) (label_cost w (record label { idle = 0 }))

  wires_cost : (w : Work) (flow : FlowId) (o : Option ℕ) → Costs 1 w (wires setup w flow o)
  wires_cost w flow None = nothing 1 w
  wires_cost w flow (Some number) =
      let label : Label = record { number = number; state = Wiring; flow = flow; idle = 0; ticks = 0; join = None } in
      let taken : Work = with_new_label w label in
      after_none 1 w taken (wires setup w flow (Some number)) (session_cost w (λ s. record s { labels = entered (key_le label_number) label s.labels })) (acts_cost taken (Ask (AddBranch (label_end setup.port number) (control_end setup.port number)) false))

  offers_cost : (w : Work) (s : Session) (flow : FlowId) → Costs 1 w (offers setup desk w s flow)
  offers_cost w s flow = on_both (Costs 1 w) (setup.policy.offers flow (packets_in s.counted flow) && has_room desk w) (wires setup w flow (lowest_spare setup s.least s.greatest s.labels)) w
      (wires_cost w flow (lowest_spare setup s.least s.greatest s.labels)) (nothing 1 w)

  counts_flow_cost : (w : Work) (s : Session) (flow : FlowId) (o : Option Label) → Costs 1 w (counts_flow setup desk w s flow o)
  counts_flow_cost w s flow (Some label) = used_label_cost w (Some label)
  counts_flow_cost w s flow None =
      let counted : Session = record s { counted = counted_once s.counted flow } in
      after_none 1 w (with_session w (λ old. counted)) (counts_flow setup desk w s flow None) (session_cost w (λ old. counted)) (offers_cost (with_session w (λ old. counted)) counted flow)

  counts_by_cost : (w : Work) (o : Option Session) (flow : Option FlowId) → Costs 1 w (counts_by setup desk w o flow)
  counts_by_cost w None flow = nothing 1 w
  counts_by_cost w (Some s) None = nothing 1 w
  counts_by_cost w (Some s) (Some flow) = counts_flow_cost w s flow (label_for s.labels flow)

  pub counts_cost : (w : Work) (packet : List ℕ) → Costs 1 w (counts setup desk w packet)
  counts_cost w packet = counts_by_cost w w.port.session (packet_flow packet)

  pub used_cost : (w : Work) (number : ℕ) → Costs 1 w (used w number)
  used_cost w number = used_label_cost w (label_at w.port number)

  bound_in_cost : (w : Work) (label : Label) (state : LabelState) → Costs 1 w (bound_in setup w label state)
  bound_in_cost w label Wiring =
      let offered : Work = with_label w (record label { state = Offered }) in
      let bind : Work = with_action offered (Note (Bind setup.node setup.port label.number label.flow)) in
      after_none 1 w bind (bound_in setup w label Wiring) (after_none 0 w offered bind (label_cost w (record label { state = Offered })) (acts_cost offered (Note (Bind setup.node setup.port label.number label.flow)))) (says_cost bind (redirect setup label))
  bound_in_cost w label Offered = nothing 1 w
  bound_in_cost w label (Recalled last acknowledged) = nothing 1 w
  bound_in_cost w label Wired = nothing 1 w

  bound_cost : (w : Work) (o : Option Label) → Costs 1 w (bound setup w o)
  bound_cost w None = nothing 1 w
  bound_cost w (Some label) = bound_in_cost w label label.state

  freed_in_cost : (w : Work) (label : Label) (state : LabelState) → Costs 1 w (freed_in setup w label state)
  freed_in_cost w label Wiring = nothing 1 w
  freed_in_cost w label Offered = nothing 1 w
  freed_in_cost w label (Recalled last acknowledged) = nothing 1 w
  freed_in_cost w label Wired = at_most 0 1 w (freed_in setup w label Wired) (omega arith)
      (after_none 0 w (without_label w label.number) (freed_in setup w label Wired) (session_cost w (λ s. record s { labels = without label_number label.number s.labels })) (acts_cost (without_label w label.number) (Note (Free setup.node setup.port label.number))))

  freed_cost : (w : Work) (o : Option Label) → Costs 1 w (freed setup w o)
  freed_cost w None = nothing 1 w
  freed_cost w (Some label) = freed_in_cost w label label.state

  started_in_cost : (w : Work) (grant : Grant) (state : GrantState) → Costs 1 w (started_in w grant state)
  started_in_cost w grant Idle = at_most 0 1 w (with_grant w (record grant { state = ByController })) (omega arith) (grant_cost w (record grant { state = ByController }))
  started_in_cost w grant ByController = nothing 1 w
  started_in_cost w grant (ByInput input) = nothing 1 w
  started_in_cost w grant (Leaving input owed) = nothing 1 w

  started_cost : (w : Work) (o : Option Grant) → Costs 1 w (started w o)
  started_cost w None = nothing 1 w
  started_cost w (Some grant) = started_in_cost w grant grant.state

  pub done_cost : (w : Work) (request : Request) → Costs 1 w (done setup w request)
  done_cost w (AddBranch input output) = on_both (Costs 1 w) (input.port.0 == 0) (started w (grant_on w.port.grants (label_number_of output.channel))) (bound setup w (label_by w.port (label_number_of input.channel)))
      (started_cost w (grant_on w.port.grants (label_number_of output.channel))) (bound_cost w (label_by w.port (label_number_of input.channel)))
  done_cost w (MoveBranch input from to) = on_both (Costs 1 w) (to.port.0 == 0) w (with_action w (Note (Join setup.node setup.port (number_of_channel input.channel) to.port (number_of_channel to.channel)))) (nothing 1 w)
      (at_most 0 1 w (with_action w (Note (Join setup.node setup.port (number_of_channel input.channel) to.port (number_of_channel to.channel)))) (omega arith) (acts_cost w (Note (Join setup.node setup.port (number_of_channel input.channel) to.port (number_of_channel to.channel)))))
  done_cost w (DeleteTree input) = freed_cost w (label_by w.port (label_number_of input.channel))
  done_cost w (VerifyTree input) = nothing 1 w
  done_cost w (DeleteAll port) = nothing 1 w
  done_cost w (PortManagement port function) = nothing 1 w
  done_cost w AllPorts = nothing 1 w

  -- *Lifetimes and labels at a tick*
  expires_cost : (w : Work) (grant : Grant) (state : GrantState) → Costs 1 w (expires setup w grant state)
  expires_cost w grant Idle = at_most 0 1 w (without_grant w grant.label) (omega arith) (gone_grant_cost w grant.label)
  expires_cost w grant ByController = at_most 0 1 w (without_grant w grant.label) (omega arith) (gone_grant_cost w grant.label)
  expires_cost w grant (ByInput input) =
      let after : Work = with_grant w (record grant { lifetime = 0; state = Leaving input false }) in
      after_none 1 w after (expires setup w grant (ByInput input)) (grant_cost w (record grant { lifetime = 0; state = Leaving input false })) (acts_cost after (TakeBack input (label_end setup.port grant.label)))
  expires_cost w grant (Leaving input owed) = at_most 0 1 w (without_grant w grant.label) (omega arith) (gone_grant_cost w grant.label)

  aged_cost : (w : Work) (grant : Grant) (state : GrantState) → Costs 1 w (if grant.lifetime == 1 then expires setup w grant state else with_grant w (record grant { lifetime = grant.lifetime - 1 }))
  aged_cost w grant state = on_both (Costs 1 w) (grant.lifetime == 1) (expires setup w grant state) (with_grant w (record grant { lifetime = grant.lifetime - 1 })) (expires_cost w grant state)
      (at_most 0 1 w (with_grant w (record grant { lifetime = grant.lifetime - 1 })) (omega arith) (grant_cost w (record grant { lifetime = grant.lifetime - 1 })))

  ages_in_cost : (w : Work) (grant : Grant) (state : GrantState) → Costs 1 w (ages_in setup w grant state)
  ages_in_cost w grant Idle = aged_cost w grant Idle
  ages_in_cost w grant ByController = aged_cost w grant ByController
  ages_in_cost w grant (ByInput input) = aged_cost w grant (ByInput input)
  ages_in_cost w grant (Leaving input owed) = nothing 1 w

  ages_found_cost : (w : Work) (o : Option Grant) → Costs 1 w (ages_found setup w o)
  ages_found_cost w None = nothing 1 w
  ages_found_cost w (Some grant) = ages_in_cost w grant grant.state

  pub ages_cost : (w : Work) (label : ℕ) → Costs 1 w (ages setup w label)
  ages_cost w label = ages_found_cost w (at grant_label label w.port.grants)

  refreshes_cost : (w : Work) (label : Label) → Costs 2 w (refreshes setup w label)
  refreshes_cost w label = on_both (Costs 2 w) (nat_le setup.timers.refresh label.ticks) (says (with_label w (record label { ticks = 0 })) (redirect setup label)) (with_label w label)
      (at_most 1 2 w (says (with_label w (record label { ticks = 0 })) (redirect setup label)) (omega arith) (after_none 1 w (with_label w (record label { ticks = 0 })) (says (with_label w (record label { ticks = 0 })) (redirect setup label)) (label_cost w (record label { ticks = 0 })) (says_cost (with_label w (record label { ticks = 0 })) (redirect setup label))))
      (at_most 0 2 w (with_label w label) (omega arith) (label_cost w label))

  ticks_in_cost : (w : Work) (label : Label) (state : LabelState) → Costs 2 w (ticks_in setup desk w label state)
  ticks_in_cost w label Wiring = nothing 2 w
  ticks_in_cost w label Offered = on_both (Costs 2 w) (is_none label.join) (idles setup w (one_idler label)) (refreshes setup w (one_older label))
      (on_both (Costs 2 w) (setup.policy.keeps (one_idler label).flow (one_idler label).idle) (refreshes setup w (one_older (one_idler label))) (recalls setup w (one_idler label)) (refreshes_cost w (one_older (one_idler label))) (recalls_cost w (one_idler label)))
      (refreshes_cost w (one_older label))
  ticks_in_cost w label (Recalled last true) = nothing 2 w
  ticks_in_cost w label (Recalled last false) = at_most 1 2 w (reclaims w label) (omega arith) (reclaims_cost w label)
  ticks_in_cost w label Wired = on_both (Costs 2 w) (on_input (desk_after desk w) (label_end setup.port label.number)) w (unwires setup desk w label.number) (nothing 2 w) (at_most 1 2 w (unwires setup desk w label.number) (omega arith) (unwires_cost w label.number))

  ticks_found_cost : (w : Work) (o : Option Label) → Costs 2 w (ticks_found setup desk w o)
  ticks_found_cost w None = nothing 2 w
  ticks_found_cost w (Some label) = ticks_in_cost w label label.state

  pub ticks_label_cost : (w : Work) (number : ℕ) → Costs 2 w (ticks_label setup desk w number)
  ticks_label_cost w number = ticks_found_cost w (label_at w.port number)
