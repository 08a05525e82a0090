-- a port that is shut stays shut, whatever is done by its rules: in Clearing, without a session and without grants

use Rattle.std.proofs.Common.{◌≡◌, ℕ, [], Option, None, Some, refl, sym, ◌∙◌, ap, subst}
use Rattle.std.specs.Prelude.{flat_map}
use Rattle.std.specs.Option.{option_map, option_map_or}
use Rattle.port_model.specs.Words.{End, Peer, State, Clearing, SynSent, SynRcvd, Estab, Heard, Quiet, Side, received, ticked, same_peer, heard_from, ifmp_answer, number_of_channel, at, put, Desk, Setup, Label, label_number, Grant, grant_label, Session, Work, with_session, label_at, labels_of, Unnumbered, tells_in, tells, halts_if_spent, joins_label, parted, left_of, resets, restarts}
use Rattle.port_model.specs.adjacency_table.Side as sides
use Rattle.port_model.specs.ifmp_wire.declared.message.Message.TheVariants.{Adjacency}
use Rattle.port_model.specs.link_model.declared.record.Record.TheVariants.{Join}
use Rattle.port_model.specs.declared.action.Action.{Action}
use Rattle.port_model.specs.declared.action.Action.TheVariants.{Say, Note, TakeBack}
use Rattle.port_model.specs.Port.{Port, with_action}
use Rattle.port_model.specs.Adjacency.{answers, steps}
use Rattle.port_model.specs.Joins.{joined}
use Rattle.law_port_facts.specs.Port.{IsShut}
use Rattle.law_port_facts.proofs.Keyed.{on_both}
use Rattle.law_port_facts.proofs.Found.{acts_port, closes_port}
use Rattle.law_port_facts.proofs.Steps.{IsTurn, hears, ages, Step, greeting, telling, closing, noting, turning, heard, minding, relabelling, wiring, binding, quitting, unwiring, freeing, accepting, granting, regranting, starting, ending, taking_back, Goes, goes_keeps}

-- another port that is the same
same_shut : (before after : Port) → after ≡ before → IsShut before → IsShut after
same_shut before after e h = subst IsShut (sym e) h

no_session : (port : Port) (s : Session) → IsShut port → port.session ≡ Some s → ⊥
no_session port s h e = none_some (sym h.session ∙ e)
  where
    none_some : None ≡ Some s → ⊥
    none_some e = absurd (cc e)

no_labels : (port : Port) → IsShut port → labels_of port ≡ []
no_labels port h = ap (λ (o : Option Session). option_map_or (λ (s : Session). s.labels) o []) h.session

no_label : (port : Port) (number : ℕ) (label : Label) → IsShut port → label_at port number ≡ Some label → ⊥
no_label port number label h e = none_some (sym (ap (at label_number number) (no_labels port h)) ∙ e)
  where
    none_some : None ≡ Some label → ⊥
    none_some e = absurd (cc e)

pub no_grant : (port : Port) (label : ℕ) (grant : Grant) → IsShut port → at grant_label label port.grants ≡ Some grant → ⊥
no_grant port label grant h e = none_some (sym (ap (at grant_label label) h.grants) ∙ e)
  where
    none_some : None ≡ Some grant → ⊥
    none_some e = absurd (cc e)

-- a session of a shut port that is changed is none
session_shut : (w : Work) (change : Session → Session) → IsShut w.port → IsShut (with_session w change).port
session_shut w change h = on_both (λ (v : Work). IsShut v.port) w.halted w (record w { port = record w.port { session = option_map change w.port.session } }) h
    (record { clearing = h.clearing; session = ap (option_map change) h.session; grants = h.grants })

acts_shut : (w : Work) (action : Action) → IsShut w.port → IsShut (with_action w action).port
acts_shut w action h = same_shut w.port (with_action w action).port (acts_port w action) h

tells_shut : (w : Work) (message : Unnumbered) → IsShut w.port → IsShut (tells w message).port
tells_shut w message h = subst (λ (o : Option Session). IsShut (tells_in w message o).port) (sym h.session) h

-- *The adjacency*: it stays in Clearing, and answers nothing
pub record IsQuiet (step : sides.Step Peer) : Type 0 where
  pub state : step.side.state ≡ Clearing
  pub answer : step.answer ≡ Quiet

quiet_hears : (own : Peer) (stored : Option Peer) (silence : ℕ) (state : State) (m : Heard Peer) → state ≡ Clearing → IsQuiet (received same_peer (record { state = state; own = own; stored = stored; silence = silence }) m)
quiet_hears own stored silence Clearing m e = record { state = refl; answer = refl }
quiet_hears own stored silence SynSent m e = absurd (cc e)
quiet_hears own stored silence SynRcvd m e = absurd (cc e)
quiet_hears own stored silence Estab m e = absurd (cc e)

quiet_ages : (own : Peer) (stored : Option Peer) (silence : ℕ) (state : State) → state ≡ Clearing → IsQuiet (ticked (record { state = state; own = own; stored = stored; silence = silence }))
quiet_ages own stored silence Clearing e = record { state = refl; answer = refl }
quiet_ages own stored silence SynSent e = absurd (cc e)
quiet_ages own stored silence SynRcvd e = absurd (cc e)
quiet_ages own stored silence Estab e = absurd (cc e)

pub quiet_turn : (side : Side Peer) (step : sides.Step Peer) → IsTurn side step → side.state ≡ Clearing → IsQuiet step
quiet_turn side step (hears source hello) e = quiet_hears side.own side.stored side.silence side.state (heard_from source hello) e
quiet_turn side step ages e = quiet_ages side.own side.stored side.silence side.state e

steps_shut : (setup : Setup) (w : Work) (step : sides.Step Peer) → IsQuiet step → IsShut w.port → IsShut (steps setup w step).port
steps_shut setup w step q h =
    let turned : Work = record w { port = record w.port { adjacency = step.side } } in
    let shut : IsShut turned.port = record { clearing = q.state; session = h.session; grants = h.grants } in
    subst (λ answer. IsShut (answers setup turned (ifmp_answer (option_map_or (λ (s : Session). s.expected) w.port.session 1) answer)).port) (sym q.answer) shut

-- *Each step*
step_shut : (setup : Setup) (desk : Desk) (v w : Work) → Step setup desk v w → IsShut v.port → IsShut w.port
step_shut setup desk v w (greeting u hello) h = acts_shut u (Say (Adjacency hello)) h
step_shut setup desk v w (telling u message told) h = tells_shut u message h
step_shut setup desk v w (closing u) h = same_shut u.port (halts_if_spent u).port (closes_port u) h
step_shut setup desk v w (noting u input output) h = acts_shut u (Note (Join setup.node setup.port (number_of_channel input.channel) output.port (number_of_channel output.channel))) h
step_shut setup desk v w (turning u step live turn) h = steps_shut setup u step (quiet_turn u.port.adjacency step turn h.clearing) h
step_shut setup desk v w (heard u) h = record { clearing = h.clearing; session = h.session; grants = h.grants }
step_shut setup desk v w (minding u change keeps) h = session_shut u change h
step_shut setup desk v w (relabelling u before after found keeps) h = absurd (no_label u.port after.number before h found)
step_shut setup desk v w (wiring u s flow number session spare inside room alive) h = absurd (no_session u.port s h session)
step_shut setup desk v w (binding u label found is) h = absurd (no_label u.port label.number label h found)
step_shut setup desk v w (quitting u label last found is) h = absurd (no_label u.port label.number label h found)
step_shut setup desk v w (unwiring u number label found) h = absurd (no_label u.port number label h found)
step_shut setup desk v w (freeing u label found is frees) h = absurd (no_label u.port label.number label h found)
step_shut setup desk v w (accepting u) h = record { clearing = h.clearing; session = h.session; grants = h.grants }
step_shut setup desk v w (granting u s label flow lifetime session inside none few lives room alive) h = absurd (no_session u.port s h session)
step_shut setup desk v w (regranting u before after found keeps owes) h = absurd (no_grant u.port after.label before h found)
step_shut setup desk v w (starting u grant found is) h = absurd (no_grant u.port grant.label grant h found)
step_shut setup desk v w (ending u grant found none) h = absurd (no_grant u.port grant.label grant h found)
step_shut setup desk v w (taking_back u input output joined) h = acts_shut u (TakeBack input output) h

pub goes_shut : (setup : Setup) (desk : Desk) (v w : Work) → Goes setup desk v w → IsShut v.port → IsShut w.port
goes_shut setup desk v w goes h = goes_keeps setup desk (λ (u : Work). IsShut u.port) (step_shut setup desk) goes h

pub closes_shut : (w : Work) → IsShut w.port → IsShut (halts_if_spent w).port
closes_shut w h = same_shut w.port (halts_if_spent w).port (closes_port w) h

-- *Resets, and joins*
pub resets_shut : (setup : Setup) (w : Work) → IsShut w.port → IsShut (resets setup w).port
resets_shut setup w h = record { clearing = refl; session = refl; grants = ap (flat_map left_of) h.grants }

pub restarts_shut : (setup : Setup) (w : Work) → IsShut (restarts setup w).port
restarts_shut setup w = record { clearing = refl; session = refl; grants = refl }

joins_label_shut : (w : Work) (join : Option End) (o : Option Label) → IsShut w.port → IsShut (joins_label w join o).port
joins_label_shut w join None h = h
joins_label_shut w join (Some label) h = session_shut w (λ s. record s { labels = put label_number (record label { join = join }) s.labels }) h

pub parted_shut : (w : Work) (number : ℕ) → IsShut w.port → IsShut (parted w number).port
parted_shut w number h = joins_label_shut w None (label_at w.port number) h

pub joined_shut : (w : Work) (number : ℕ) (output : End) → IsShut w.port → IsShut (joined w number output).port
joined_shut w number output h = joins_label_shut w (Some output) (label_at w.port number) h
