-- What a few changes of a port at work keep, each of its rules keeps

use Rattle.std.proofs.Common.{◌≡◌, ℕ, ◌≤◌, ◌+◌, arith, refl, List, [], ◌∷◌, ◌++◌, map, flat_map, Option, None, Some, Bool, true, false, sym, subst, append_assoc, append-nil}
use Rattle.std.specs.Prelude.{nat_lt, ◌&&◌, ◌||◌}
use Rattle.std.specs.Option.{option_map, option_map_or}
use Rattle.std.proofs.lemmas.List.Concat.{flat_map-cons}
use Rattle.world_model.specs.port_model.Resets.{next_side}
use Rattle.world_model.specs.Words.{PortNo, End, Hello, Peer, Instance, label_channel_of, number_of_channel, Answer, Quiet, Send, Open, ifmp_answer, FlowId, AddBranch, DeleteTree, Record, Opened, Closed, Bind, Free, put, without, entered, key_le, Desk, on_input, Action, Say, Ask, Note, CutChain, TakeBack, Setup, label_end, control_end, Label, Wiring, Offered, Wired, label_number, label_for, lowest_spare, Grant, GrantState, Idle, ByController, ByInput, Leaving, grant_label, packets_in, counted_once, Session, Work, halts, with_session, with_label, with_new_label, without_label, with_grants, with_grant, without_grant, label_at, desk_after, has_room, Unnumbered, last_number, spent_number, own_instance, greets, tells_in, tells, is_spent, halts_if_spent, reclaim_ack, first_session, opens, unwires, wires, used_label, used, counts_flow, counts_by, counts, packet_flow, accepts, joins_label, parted, lent, given_back_in, given_back, left_of, closing, withdrawing_in, withdrawing_of, withdrawing, taking_back_in, taking_back, resets, restarts}
use Rattle.world_model.specs.adjacency_table.declared.message.Answer.TheVariants.{Reset}
use Rattle.world_model.specs.adjacency_table.Side as sides
use Rattle.world_model.specs.ifmp_wire.declared.message.Message.TheVariants.{Adjacency}
use Rattle.world_model.specs.gsmp_wire.declared.request.Request.TheVariants.{DeleteAll}
use Rattle.world_model.specs.link_model.declared.record.Record.TheVariants.{Join}
use Rattle.law_port_facts.specs.ordered_lists.Ordered.{Every}
use Rattle.law_port_facts.proofs.ordered_lists.Every.{every_join}
use Rattle.world_model.specs.port_model.declared.action.Action.TheVariants as actions
use Rattle.world_model.specs.port_model.Port.{with_action}
use Rattle.world_model.specs.port_model.Saying.{peer_instance, with_number}
use Rattle.world_model.specs.port_model.Adjacency.{answers, steps}
use Rattle.world_model.specs.port_model.Joins.{joined, ended}
use Rattle.law_port_facts.proofs.Keyed.{on_both, on_each, every_more}
use Rattle.law_port_facts.proofs.Steps.{IsTurn, Step, greeting, telling, closing as closes_now, noting, turning, heard as is_heard, minding, relabelling, wiring, binding, quitting, unwiring, freeing, accepting, granting, regranting, starting, ending, taking_back as takes_back, Goes, goes_keeps}

-- *What a port asks its controller to note*; that a label is bound only where labels may be bound
pub data IsNoted (Binds : Type 0) (setup : Setup) : Record → Type 0 where
  is_opened : IsNoted Binds setup (Opened setup.node setup.port)
  is_closed : IsNoted Binds setup (Closed setup.node setup.port)
  is_bound : Binds → (label : ℕ) (flow : FlowId) → IsNoted Binds setup (Bind setup.node setup.port label flow)
  is_freed : (label : ℕ) → IsNoted Binds setup (Free setup.node setup.port label)
  is_joined : (label : ℕ) (to_port : PortNo) (to_label : ℕ) → IsNoted Binds setup (Join setup.node setup.port label to_port to_label)

-- and what it asks: all but other notes
abbrev pub IsAsked : Type 0 → Setup → Action → Type 0
IsAsked Binds setup (Note item) = IsNoted Binds setup item
IsAsked Binds setup action = Unit {0}

-- *The rules of a port*, but its resets: what it hears, what the switch has done and a tick are any number of smallest
-- steps, of which one binds a label
pub data Rule (Binds : Type 0) (setup : Setup) (desk : Desk) (w : Work) : Work → Type 0 where
  by_steps : Binds → (v : Work) → Goes setup desk w v → Rule Binds setup desk w v
  by_using : (number : ℕ) → Rule Binds setup desk w (used w number)
  by_counting : (packet : List ℕ) → Rule Binds setup desk w (counts setup desk w packet)
  by_closing : Rule Binds setup desk w (halts_if_spent w)
  by_parting : (number : ℕ) → Rule Binds setup desk w (parted w number)
  by_joining : (number : ℕ) (output : End) → Rule Binds setup desk w (joined w number output)
  by_lending : (grant : Grant) (input : End) → Rule Binds setup desk w (lent w grant input)
  by_giving_back : (grant : Grant) → Rule Binds setup desk w (given_back w grant)

-- and with them
pub data Worked (Binds : Type 0) (setup : Setup) (desk : Desk) (w : Work) : Work → Type 0 where
  by_rule : (v : Work) → Rule Binds setup desk w v → Worked Binds setup desk w v
  by_reset : Worked Binds setup desk w (resets setup w)
  by_restart : Worked Binds setup desk w (restarts setup w)

-- but for its reset, which it asks at once with doing nothing more
abbrev pub is_reset : Action → Bool
is_reset actions.Reset = true
is_reset action = false

-- *What a few changes keep* of a port at work
pub record Keeps (Binds : Type 0) (setup : Setup) (P : Work → Type 0) : Type 0 where
  -- it asks one thing more, or to be reset
  pub asked : (w : Work) (action : Action) → IsAsked Binds setup action → is_reset action ≡ false → P w → P (record w { actions = w.actions ++ action ∷ [] })
  pub halting : (w : Work) → w.halted ≡ false → P w → P (record w { actions = w.actions ++ actions.Reset ∷ []; halted = true })
  -- its side of the adjacency hears or ages, and a message was taken from its peer
  pub turned : (w : Work) (step : sides.Step Peer) → w.halted ≡ false → IsTurn w.port.adjacency step → P w → P (record w { port = record w.port { adjacency = step.side } })
  pub heard : (w : Work) → P w → P (record w { port = record w.port { adjacency = record w.port.adjacency { silence = 0 } } })
  -- its session, its grants, and one REDIRECT more
  pub session : (w : Work) (o : Option Session) → P w → P (record w { port = record w.port { session = o } })
  pub granted : (w : Work) (grants : List Grant) → P w → P (record w { port = record w.port { grants = grants } })
  pub accepted : (w : Work) → P w → P (accepts w)

-- and its side of the adjacency begins anew
abbrev pub anew : Setup → Work → Work
anew setup w = record w { port = record w.port { adjacency = next_side setup w.instances }; instances = w.instances + 1 }

module _ {Binds : Type 0} {setup : Setup} {P : Work → Type 0} (k : Keeps Binds setup P) where
  -- *Changes*
  acts_kept : (w : Work) (action : Action) → IsAsked Binds setup action → is_reset action ≡ false → P w → P (with_action w action)
  acts_kept w action is other h = on_both P w.halted w (record w { actions = w.actions ++ action ∷ [] }) h (k.asked w action is other h)

  halts_kept : (w : Work) → P w → P (halts w)
  halts_kept w h = on_each (λ (v : Work). P (record v { halted = true })) w.halted w (record w { actions = w.actions ++ actions.Reset ∷ [] })
      (λ was. subst (λ (b : Bool). P (record w { halted = b })) was h) (λ live. k.halting w live h)

  session_kept : (w : Work) (change : Session → Session) → P w → P (with_session w change)
  session_kept w change h = on_both P w.halted w (record w { port = record w.port { session = option_map change w.port.session } }) h (k.session w (option_map change w.port.session) h)

  grants_kept : (w : Work) (grants : List Grant) → P w → P (with_grants w grants)
  grants_kept w grants h = on_both P w.halted w (record w { port = record w.port { grants = grants } }) h (k.granted w grants h)

  label_kept : (w : Work) (label : Label) → P w → P (with_label w label)
  label_kept w label h = session_kept w (λ s. record s { labels = put label_number label s.labels }) h

  grant_kept : (w : Work) (grant : Grant) → P w → P (with_grant w grant)
  grant_kept w grant h = grants_kept w (put grant_label grant w.port.grants) h

  gone_kept : (w : Work) (label : ℕ) → P w → P (without_grant w label)
  gone_kept w label h = grants_kept w (without grant_label label w.port.grants) h

  -- *What is said*
  tells_kept : (w : Work) (message : Unnumbered) → P w → P (tells w message)
  tells_kept w message h = by_session w.port.session
    where
      by_session : (o : Option Session) → P (tells_in w message o)
      by_session None = h
      by_session (Some s) =
          let said : Action = Say (message (own_instance w.port.adjacency) (peer_instance w.port.adjacency) s.number) in
          on_both P (nat_lt s.number last_number) (with_action (with_number (s.number + 1) w) said) (with_number spent_number w)
          (acts_kept (with_number (s.number + 1) w) said tt refl (session_kept w (λ session. record session { number = s.number + 1 }) h)) (session_kept w (λ session. record session { number = spent_number }) h)

  closes_kept : (w : Work) → P w → P (halts_if_spent w)
  closes_kept w h = on_both P (is_spent w.port.session) (halts w) w (halts_kept w h) h

  -- *The adjacency and the session*
  opens_kept : (w : Work) → P w → P (opens setup w)
  opens_kept w h = acts_kept (record w { port = record w.port { session = Some (first_session setup) } }) (Note (Opened setup.node setup.port)) is_opened refl (k.session w (Some (first_session setup)) h)

  answers_kept : (w : Work) (answer : Answer Hello Instance) → P w → P (answers setup w answer)
  answers_kept w Quiet h = h
  answers_kept w (Send hello) h = acts_kept w (Say (Adjacency hello)) tt refl h
  answers_kept w (Open None own) h = opens_kept w h
  answers_kept w (Open (Some hello) own) h = opens_kept (greets w hello) (acts_kept w (Say (Adjacency hello)) tt refl h)
  answers_kept w Reset h = halts_kept w h

  steps_kept : (w : Work) (step : sides.Step Peer) → w.halted ≡ false → IsTurn w.port.adjacency step → P w → P (steps setup w step)
  steps_kept w step live turn h = answers_kept (record w { port = record w.port { adjacency = step.side } }) (ifmp_answer (option_map_or (λ (s : Session). s.expected) w.port.session 1) step.answer) (k.turned w step live turn h)

  -- *Labels*
  wires_kept : (w : Work) (flow : FlowId) (o : Option ℕ) → P w → P (wires setup w flow o)
  wires_kept w flow None h = h
  wires_kept w flow (Some number) h =
      let label : Label = record { number = number; state = Wiring; flow = flow; idle = 0; ticks = 0; join = None } in
      acts_kept (with_new_label w label) (Ask (AddBranch (label_end setup.port number) (control_end setup.port number)) false) tt refl
      (session_kept w (λ s. record s { labels = entered (key_le label_number) label s.labels }) h)

  unwires_kept : (desk : Desk) (w : Work) (number : ℕ) → P w → P (unwires setup desk w number)
  unwires_kept desk w number h =
      let request : Action = Ask (DeleteTree (label_end setup.port number)) (on_input (desk_after desk w) (label_end setup.port number)) in
      on_both P (on_input (desk_after desk w) (label_end setup.port number) || has_room desk w) (with_action w request) w (acts_kept w request tt refl h) h

  used_kept : (w : Work) (o : Option Label) → P w → P (used_label w o)
  used_kept w None h = h
  used_kept w (Some label) h = label_kept w (record label { idle = 0 }) h

  counts_kept : (desk : Desk) (w : Work) (packet : List ℕ) → P w → P (counts setup desk w packet)
  counts_kept desk w packet h = by_session w.port.session (packet_flow packet)
    where
      by_label : (s : Session) (flow : FlowId) (o : Option Label) → P (counts_flow setup desk w s flow o)
      by_label s flow (Some label) = used_kept w (Some label) h
      by_label s flow None =
          let next : Session = record s { counted = counted_once s.counted flow } in
          let held : Work = with_session w (λ old. next) in
          on_both P (setup.policy.offers flow (packets_in next.counted flow) && has_room desk held) (wires setup held flow (lowest_spare setup next.least next.greatest next.labels)) held
          (wires_kept held flow (lowest_spare setup next.least next.greatest next.labels) (session_kept w (λ old. next) h)) (session_kept w (λ old. next) h)

      by_session : (o : Option Session) (flow : Option FlowId) → P (counts_by setup desk w o flow)
      by_session None flow = h
      by_session (Some s) None = h
      by_session (Some s) (Some flow) = by_label s flow (label_for s.labels flow)

  -- *Each smallest step*, and any number of them
  step_kept : Binds → (desk : Desk) (v w : Work) → Step setup desk v w → P v → P w
  step_kept binds desk v _ (greeting _ hello) h = acts_kept v (Say (Adjacency hello)) tt refl h
  step_kept binds desk v _ (telling _ message told) h = tells_kept v message h
  step_kept binds desk v _ (closes_now _) h = closes_kept v h
  step_kept binds desk v _ (noting _ input output) h = acts_kept v (Note (Join setup.node setup.port (number_of_channel input.channel) output.port (number_of_channel output.channel))) (is_joined (number_of_channel input.channel) output.port (number_of_channel output.channel)) refl h
  step_kept binds desk v _ (turning _ step live turn) h = steps_kept v step live turn h
  step_kept binds desk v _ (is_heard _) h = k.heard v h
  step_kept binds desk v _ (minding _ change keeps) h = session_kept v change h
  step_kept binds desk v _ (relabelling _ before after found keeps) h = label_kept v after h
  step_kept binds desk v _ (wiring _ s flow number session spare range room alive) h = wires_kept v flow (Some number) h
  step_kept binds desk v _ (binding _ label found is) h = acts_kept (with_label v (record label { state = Offered })) (Note (Bind setup.node setup.port label.number label.flow)) (is_bound binds label.number label.flow) refl (label_kept v (record label { state = Offered }) h)
  step_kept binds desk v _ (quitting _ label last found is) h = acts_kept (with_label v (record label { state = Wired })) (CutChain label.number) tt refl (label_kept v (record label { state = Wired }) h)
  step_kept binds desk v _ (unwiring _ number label found) h = unwires_kept desk v number h
  step_kept binds desk v _ (freeing _ label found is frees) h = acts_kept (without_label v label.number) (Note (Free setup.node setup.port label.number)) (is_freed label.number) refl (session_kept v (λ s. record s { labels = without label_number label.number s.labels }) h)
  step_kept binds desk v _ (accepting _) h = k.accepted v h
  step_kept binds desk v _ (granting _ s label flow lifetime session range none few lives room alive) h =
      let grants : List Grant = v.port.grants ++ record { label = label; flow = flow; lifetime = lifetime; state = Idle } ∷ [] in
      acts_kept (with_grants (accepts v) grants) (Ask (AddBranch (control_end setup.port label) (label_end setup.port label)) false) tt refl (grants_kept (accepts v) grants (k.accepted v h))
  step_kept binds desk v _ (regranting _ before after found keeps may) h = grant_kept v after h
  step_kept binds desk v _ (starting _ grant found is) h = grant_kept v (record grant { state = ByController }) h
  step_kept binds desk v _ (ending _ grant found is) h = gone_kept v grant.label h
  step_kept binds desk v _ (takes_back _ input output joined) h = acts_kept v (TakeBack input output) tt refl h

  -- *Joins*
  joins_label_kept : (w : Work) (join : Option End) (o : Option Label) → P w → P (joins_label w join o)
  joins_label_kept w join None h = h
  joins_label_kept w join (Some label) h = label_kept w (record label { join = join }) h

  ended_kept : (w : Work) (grant : Grant) (owed : Bool) → P w → P (ended w grant owed)
  ended_kept w grant true h = tells_kept (without_grant w grant.label) (reclaim_ack (label_channel_of grant.label) grant.flow) (gone_kept w grant.label h)
  ended_kept w grant false h = gone_kept w grant.label h

  given_back_kept : (w : Work) (grant : Grant) (state : GrantState) → P w → P (given_back_in w grant state)
  given_back_kept w grant Idle h = h
  given_back_kept w grant ByController h = h
  given_back_kept w grant (ByInput input) h = grant_kept w (record grant { state = ByController }) h
  given_back_kept w grant (Leaving input owed) h = ended_kept w grant owed h

  -- *Each rule*
  pub rule_kept : {desk : Desk} {w v : Work} → Rule Binds setup desk w v → P w → P v
  rule_kept {desk} {w = u} (by_steps binds v goes) h = goes_keeps setup desk P (step_kept binds desk) goes h
  rule_kept {w = u} (by_using number) h = used_kept u (label_at u.port number) h
  rule_kept {desk} {w = u} (by_counting packet) h = counts_kept desk u packet h
  rule_kept {w = u} by_closing h = closes_kept u h
  rule_kept {w = u} (by_parting number) h = joins_label_kept u None (label_at u.port number) h
  rule_kept {w = u} (by_joining number output) h = joins_label_kept u (Some output) (label_at u.port number) h
  rule_kept {w = u} (by_lending grant input) h = grant_kept u (record grant { state = ByInput input }) h
  rule_kept {w = u} (by_giving_back grant) h = given_back_kept u grant grant.state h

  -- *Several things are asked*
  abbrev Asked : Action → Type 0
  Asked action = IsAsked Binds setup action × (is_reset action ≡ false)

  asks_kept : (xs : List Action) → Every Asked xs → (w : Work) → P w → P (record w { actions = w.actions ++ xs })
  asks_kept [] all w h = subst (λ (ys : List Action). P (record w { actions = ys })) (sym (append-nil w.actions)) h
  asks_kept (x ∷ xs) all w h = subst (λ (ys : List Action). P (record w { actions = ys })) (append_assoc w.actions (x ∷ []) xs)
      (asks_kept xs all.1 (record w { actions = w.actions ++ x ∷ [] }) (k.asked w x all.0.0 all.0.1 h))

  -- *Resets*
  cuts_asked : (labels : List Label) → Every Asked (map (λ (label : Label). CutChain label.number) labels)
  cuts_asked [] = tt
  cuts_asked (label ∷ labels) = ((tt, refl), cuts_asked labels)

  closing_asked : (o : Option Session) → Every Asked (closing setup o)
  closing_asked None = tt
  closing_asked (Some s) = ((is_closed, refl), cuts_asked s.labels)

  each_asked : (f : Grant → List Action) → ((grant : Grant) → Every Asked (f grant)) → (grants : List Grant) → Every Asked (flat_map f grants)
  each_asked f each [] = tt
  each_asked f each (grant ∷ grants) = subst (Every Asked) (sym (flat_map-cons f grant grants)) (every_join Asked (f grant) (flat_map f grants) (each grant) (each_asked f each grants))

  withdrawing_asked : (label : ℕ) (state : GrantState) → Every Asked (withdrawing_in setup label state)
  withdrawing_asked label Idle = ((tt, refl), tt)
  withdrawing_asked label ByController = ((tt, refl), tt)
  withdrawing_asked label (ByInput input) = tt
  withdrawing_asked label (Leaving input owed) = tt

  taking_asked : (grant : Grant) (state : GrantState) → Every Asked (taking_back_in setup grant state)
  taking_asked grant Idle = tt
  taking_asked grant ByController = tt
  taking_asked grant (ByInput input) = ((tt, refl), tt)
  taking_asked grant (Leaving input owed) = tt

  reset_asked : (o : Option Session) (grants : List Grant) → Every Asked (closing setup o ++ (withdrawing setup grants ++ (flat_map (taking_back setup) grants ++ Ask (DeleteAll setup.port) true ∷ [])))
  reset_asked o grants = every_join Asked (closing setup o) _ (closing_asked o)
      (every_join Asked (withdrawing setup grants) _ (each_asked (withdrawing_of setup) (λ grant. withdrawing_asked grant.label grant.state) grants)
      (every_join Asked (flat_map (taking_back setup) grants) _ (each_asked (taking_back setup) (λ grant. taking_asked grant grant.state) grants) ((tt, refl), tt)))

  -- *Each rule and reset*, where a new side keeps it too
  module _ (begins : (w : Work) → P w → P (anew setup w)) where
    left_kept : (w : Work) (grants : List Grant) → P w → P (record (anew setup w) { port = record (anew setup w).port { session = None; grants = grants } })
    left_kept w grants h = k.granted (record (anew setup w) { port = record (anew setup w).port { session = None } }) grants (k.session (anew setup w) None (begins w h))

    pub worked_kept : {desk : Desk} {w v : Work} → Worked Binds setup desk w v → P w → P v
    worked_kept (by_rule v rule) h = rule_kept rule h
    worked_kept {w = u} by_reset h = asks_kept _ (reset_asked u.port.session u.port.grants) (record (anew setup u) { port = record (anew setup u).port { session = None; grants = flat_map left_of u.port.grants } }) (left_kept u (flat_map left_of u.port.grants) h)
    worked_kept {w = u} by_restart h = asks_kept (closing setup u.port.session) (closing_asked u.port.session) (record (anew setup u) { port = record (anew setup u).port { session = None; grants = [] } }) (left_kept u [] h)

-- *What a port asks* is one of these
abbrev pub AsksOnly : Type 0 → Setup → Work → Type 0
AsksOnly Binds setup w = Every (IsAsked Binds setup) w.actions

pub asks_only : (Binds : Type 0) (setup : Setup) → Keeps Binds setup (AsksOnly Binds setup)
asks_only Binds setup = record {
  asked = λ w action is other h. every_more (IsAsked Binds setup) w.actions action h is;
  halting = λ w live h. every_more (IsAsked Binds setup) w.actions actions.Reset h tt;
  turned = λ w step live turn h. h;
  heard = λ w h. h;
  session = λ w o h. h;
  granted = λ w grants h. h;
  accepted = λ w h. h;
}

-- *What a port draws*: it gives no instance back
abbrev pub Draws : ℕ → Work → Type 0
Draws least w = least ≤ w.instances

pub draws : {Binds : Type 0} (setup : Setup) (least : ℕ) → Keeps Binds setup (Draws least)
draws setup least = record {
  asked = λ w action is other h. h;
  halting = λ w live h. h;
  turned = λ w step live turn h. h;
  heard = λ w h. h;
  session = λ w o h. h;
  granted = λ w grants h. h;
  accepted = λ w h. h;
}

pub draws_more : (least n : ℕ) → least ≤ n → least ≤ n + 1
draws_more least n h = omega (arith, h)
