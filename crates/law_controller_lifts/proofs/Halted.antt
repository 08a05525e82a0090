-- a port that is halted has asked to be reset

use Rattle.std.proofs.Common.{◌≡◌, ℕ, ◌≤◌, ◌+◌, true, false, List, [], ◌∷◌, ◌++◌, Option, None, Some, refl, sym, ◌∙◌, ap, arith}
use Rattle.std.specs.Prelude.{nat_lt, ◌||◌}
use Rattle.std.specs.Option.{option_map, option_map_or}
use Rattle.law_arrival_views.specs.world_model.Words.{End, Peer, Said, Answer, Quiet, Send, Open, hello_of, ifmp_answer, AddBranch, DeleteTree, Bind, Free, Opened, number_of_channel, put, without, entered, key_le, Desk, on_input, Action, Say, Ask, Note, CutChain, TakeBack, Setup, label_end, control_end, Label, Wiring, Offered, Wired, label_number, Grant, Idle, ByController, grant_label, Session, Work, halts, with_session, with_label, without_label, with_new_label, with_grants, desk_after, has_room, Unnumbered, last_number, own_instance, greets, tells_in, tells, is_spent, halts_if_spent, spent_number, first_session, opens, accepts}
use Rattle.law_arrival_views.specs.world_model.adjacency_table.declared.message.Answer.TheVariants.{Reset}
use Rattle.law_arrival_views.specs.world_model.ifmp_wire.declared.message.Message.TheVariants.{Adjacency}
use Rattle.law_arrival_views.specs.world_model.link_model.declared.record.Record.TheVariants.{Join}
use Rattle.law_arrival_views.specs.world_model.port_model.declared.action.Action.TheVariants as actions
use Rattle.law_arrival_views.specs.world_model.port_model.Port.{with_action}
use Rattle.law_arrival_views.specs.world_model.port_model.Saying.{peer_instance}
use Rattle.law_arrival_views.specs.world_model.port_model.Adjacency.{answers}
use Rattle.law_label_steps.proofs.law_port_facts.Keyed.{on_both, on_each}
use Rattle.law_label_steps.proofs.law_port_facts.Halting.{resets_among, resets_more}
use Rattle.law_label_steps.proofs.law_port_facts.Steps.{Step, greeting, telling, closing, noting, turning, heard, minding, relabelling, wiring, binding, quitting, unwiring, freeing, accepting, granting, regranting, starting, ending, taking_back, Goes, goes_keeps}

pub record HasReset (w : Work) : Type 0 where
  pub asked : w.halted ≡ true → 1 ≤ resets_among w.actions

alike : (w v : Work) → v.halted ≡ w.halted → v.actions ≡ w.actions → HasReset w → HasReset v
alike w v halted same h = record { asked = λ e. omega (arith, ap resets_among same, h.asked (sym halted ∙ e)) }

acts_asked : (w : Work) (action : Action) → HasReset w → HasReset (with_action w action)
acts_asked w action h = on_each HasReset w.halted w (record w { actions = w.actions ++ action ∷ [] }) (λ t. h) (λ f. record { asked = λ e. absurd (cc (f, e)) })

halts_asked : (w : Work) → HasReset w → HasReset (halts w)
halts_asked w h = record {
  asked = λ e. on_each (λ (v : Work). 1 ≤ resets_among v.actions) w.halted w (record w { actions = w.actions ++ actions.Reset ∷ [] }) (λ t. h.asked t)
      (λ f. omega (arith, resets_more w.actions actions.Reset));
}

session_asked : (w : Work) (change : Session → Session) → HasReset w → HasReset (with_session w change)
session_asked w change h = on_both HasReset w.halted w (record w { port = record w.port { session = option_map change w.port.session } }) h
    (alike w (record w { port = record w.port { session = option_map change w.port.session } }) refl refl h)

grants_asked : (w : Work) (grants : List Grant) → HasReset w → HasReset (with_grants w grants)
grants_asked w grants h = on_both HasReset w.halted w (record w { port = record w.port { grants = grants } }) h (alike w (record w { port = record w.port { grants = grants } }) refl refl h)

label_asked : (w : Work) (label : Label) → HasReset w → HasReset (with_label w label)
label_asked w label h = session_asked w (λ s. record s { labels = put label_number label s.labels }) h

tells_asked : (w : Work) (message : Unnumbered) → HasReset w → HasReset (tells w message)
tells_asked w message h = told w.port.session
  where
    told : (o : Option Session) → HasReset (tells_in w message o)
    told None = h
    told (Some s) =
        let next : Work = with_session w (λ session. record session { number = s.number + 1 }) in
        let spent : Work = with_session w (λ session. record session { number = spent_number }) in
        let said : Action = Say (message (own_instance w.port.adjacency) (peer_instance w.port.adjacency) s.number) in
        on_both HasReset (nat_lt s.number last_number) (with_action next said) spent (acts_asked next said (session_asked w (λ session. record session { number = s.number + 1 }) h))
        (session_asked w (λ session. record session { number = spent_number }) h)

pub closes_asked : (w : Work) → HasReset w → HasReset (halts_if_spent w)
closes_asked w h = on_both HasReset (is_spent w.port.session) (halts w) w (halts_asked w h) h

opens_asked : (setup : Setup) (w : Work) → HasReset w → HasReset (opens setup w)
opens_asked setup w h = acts_asked (record w { port = record w.port { session = Some (first_session setup) } }) (Note (Opened setup.node setup.port))
    (alike w (record w { port = record w.port { session = Some (first_session setup) } }) refl refl h)

answers_asked : (setup : Setup) (w : Work) (next : ℕ) (answer : Answer (Said Peer) Peer) → HasReset w → HasReset (answers setup w (ifmp_answer next answer))
answers_asked setup w next Quiet h = h
answers_asked setup w next (Send message) h = acts_asked w (Say (Adjacency (hello_of next message))) h
answers_asked setup w next (Open None own) h = opens_asked setup w h
answers_asked setup w next (Open (Some message) own) h = opens_asked setup (greets w (hello_of next message)) (acts_asked w (Say (Adjacency (hello_of next message))) h)
answers_asked setup w next Reset h = halts_asked w h

step_asked : (setup : Setup) (desk : Desk) (v w : Work) → Step setup desk v w → HasReset v → HasReset w
step_asked setup desk v w (greeting u hello) h = acts_asked u (Say (Adjacency hello)) h
step_asked setup desk v w (telling u message told) h = tells_asked u message h
step_asked setup desk v w (closing u) h = closes_asked u h
step_asked setup desk v w (noting u input output) h = acts_asked u (Note (Join setup.node setup.port (number_of_channel input.channel) output.port (number_of_channel output.channel))) h
step_asked setup desk v w (turning u step live turn) h =
    answers_asked setup (record u { port = record u.port { adjacency = step.side } }) (option_map_or (λ (s : Session). s.expected) u.port.session 1) step.answer (alike u (record u { port = record u.port { adjacency = step.side } }) refl refl h)
step_asked setup desk v w (heard u) h = alike u (record u { port = record u.port { adjacency = record u.port.adjacency { silence = 0 } } }) refl refl h
step_asked setup desk v w (minding u change keeps) h = session_asked u change h
step_asked setup desk v w (relabelling u before after found keeps) h = label_asked u after h
step_asked setup desk v w (wiring u s flow number session spare inside room alive) h =
    let label : Label = record { number = number; state = Wiring; flow = flow; idle = 0; ticks = 0; join = None } in
    acts_asked (with_new_label u label) (Ask (AddBranch (label_end setup.port number) (control_end setup.port number)) false)
    (session_asked u (λ s. record s { labels = entered (key_le label_number) label s.labels }) h)
step_asked setup desk v w (binding u label found is) h = acts_asked (with_label u (record label { state = Offered })) (Note (Bind setup.node setup.port label.number label.flow)) (label_asked u (record label { state = Offered }) h)
step_asked setup desk v w (quitting u label last found is) h = acts_asked (with_label u (record label { state = Wired })) (CutChain label.number) (label_asked u (record label { state = Wired }) h)
step_asked setup desk v w (unwiring u number label found) h =
    let input : End = label_end setup.port number in
    on_both HasReset (on_input (desk_after desk u) input || has_room desk u) (with_action u (Ask (DeleteTree input) (on_input (desk_after desk u) input))) u
    (acts_asked u (Ask (DeleteTree input) (on_input (desk_after desk u) input)) h) h
step_asked setup desk v w (freeing u label found is frees) h = acts_asked (without_label u label.number) (Note (Free setup.node setup.port label.number)) (session_asked u (λ s. record s { labels = without label_number label.number s.labels }) h)
step_asked setup desk v w (accepting u) h = alike u (accepts u) refl refl h
step_asked setup desk v w (granting u s label flow lifetime session inside none few lives room alive) h =
    let grants : List Grant = u.port.grants ++ record { label = label; flow = flow; lifetime = lifetime; state = Idle } ∷ [] in
    acts_asked (with_grants (accepts u) grants) (Ask (AddBranch (control_end setup.port label) (label_end setup.port label)) false) (grants_asked (accepts u) grants (alike u (accepts u) refl refl h))
step_asked setup desk v w (regranting u before after found keeps owes) h = grants_asked u (put grant_label after u.port.grants) h
step_asked setup desk v w (starting u grant found is) h = grants_asked u (put grant_label (record grant { state = ByController }) u.port.grants) h
step_asked setup desk v w (ending u grant found none) h = grants_asked u (without grant_label grant.label u.port.grants) h
step_asked setup desk v w (taking_back u input output joined) h = acts_asked u (TakeBack input output) h

pub goes_asked : (setup : Setup) (desk : Desk) (v w : Work) → Goes setup desk v w → HasReset v → HasReset w
goes_asked setup desk v w goes h = goes_keeps setup desk HasReset (step_asked setup desk) goes h
