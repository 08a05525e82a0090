-- a rule of a port draws no instance, and a reset draws one

use Rattle.std.proofs.Common.{◌≡◌, ℕ, ◌+◌, true, false, List, [], ◌∷◌, ◌++◌, Option, None, Some}
use Rattle.std.specs.Prelude.{nat_lt, ◌||◌}
use Rattle.std.specs.Option.{option_map, option_map_or}
use Rattle.port_model.specs.Words.{End, Peer, Said, Answer, Quiet, Send, Open, hello_of, ifmp_answer, AddBranch, DeleteTree, Bind, Free, Opened, number_of_channel, label_channel_of, put, without, entered, key_le, Desk, on_input, Setup, label_end, control_end, Label, Wiring, Offered, Wired, label_number, Grant, GrantState, Idle, ByController, ByInput, Leaving, grant_label, Session, Work, halts, with_session, with_label, without_label, with_new_label, with_grants, with_grant, without_grant, label_at, desk_after, has_room, Unnumbered, last_number, own_instance, greets, tells_in, tells, is_spent, halts_if_spent, reclaim_ack, spent_number, first_session, opens, accepts, joins_label, parted, lent, given_back_in, given_back}
use Rattle.port_model.specs.adjacency_table.declared.message.Answer.TheVariants.{Reset}
use Rattle.port_model.specs.ifmp_wire.declared.message.Message.TheVariants.{Adjacency}
use Rattle.port_model.specs.link_model.declared.record.Record.TheVariants.{Join}
use Rattle.port_model.specs.declared.action.Action.{Action}
use Rattle.port_model.specs.declared.action.Action.TheVariants as actions
use Rattle.port_model.specs.declared.action.Action.TheVariants.{Say, Ask, Note, CutChain, TakeBack}
use Rattle.port_model.specs.Port.{with_action}
use Rattle.port_model.specs.Saying.{peer_instance}
use Rattle.port_model.specs.Adjacency.{answers}
use Rattle.port_model.specs.Joins.{joined}
use Rattle.law_port_facts.proofs.Keyed.{on_both}
use Rattle.law_port_facts.proofs.Steps.{Step, greeting, telling, closing, noting, turning, heard, minding, relabelling, wiring, binding, quitting, unwiring, freeing, accepting, granting, regranting, starting, ending, taking_back, Goes, goes_keeps}

module _ (n : ℕ) where
  -- so many are given out
  abbrev pub Gave : Work → Type 0
  Gave w = w.instances ≡ n

  acts_gave : (w : Work) (action : Action) → Gave w → Gave (with_action w action)
  acts_gave w action h = on_both Gave w.halted w (record w { actions = w.actions ++ action ∷ [] }) h h

  session_gave : (w : Work) (change : Session → Session) → Gave w → Gave (with_session w change)
  session_gave w change h = on_both Gave w.halted w (record w { port = record w.port { session = option_map change w.port.session } }) h h

  grants_gave : (w : Work) (grants : List Grant) → Gave w → Gave (with_grants w grants)
  grants_gave w grants h = on_both Gave w.halted w (record w { port = record w.port { grants = grants } }) h h

  label_gave : (w : Work) (label : Label) → Gave w → Gave (with_label w label)
  label_gave w label h = session_gave w (λ s. record s { labels = put label_number label s.labels }) h

  grant_gave : (w : Work) (grant : Grant) → Gave w → Gave (with_grant w grant)
  grant_gave w grant h = grants_gave w (put grant_label grant w.port.grants) h

  tells_gave : (w : Work) (message : Unnumbered) → Gave w → Gave (tells w message)
  tells_gave w message h = told w.port.session
    where
      told : (o : Option Session) → Gave (tells_in w message o)
      told None = h
      told (Some s) =
          let next : Work = with_session w (λ session. record session { number = s.number + 1 }) in
          let spent : Work = with_session w (λ session. record session { number = spent_number }) in
          let said : Action = Say (message (own_instance w.port.adjacency) (peer_instance w.port.adjacency) s.number) in
          on_both Gave (nat_lt s.number last_number) (with_action next said) spent (acts_gave next said (session_gave w (λ session. record session { number = s.number + 1 }) h)) (session_gave w (λ session. record session { number = spent_number }) h)

  pub closes_gave : (w : Work) → Gave w → Gave (halts_if_spent w)
  closes_gave w h = on_both Gave (is_spent w.port.session) (halts w) w (acts_gave w actions.Reset h) h

  opens_gave : (setup : Setup) (w : Work) → Gave w → Gave (opens setup w)
  opens_gave setup w h = acts_gave (record w { port = record w.port { session = Some (first_session setup) } }) (Note (Opened setup.node setup.port)) h

  answers_gave : (setup : Setup) (w : Work) (next : ℕ) (answer : Answer (Said Peer) Peer) → Gave w → Gave (answers setup w (ifmp_answer next answer))
  answers_gave setup w next Quiet h = h
  answers_gave setup w next (Send message) h = acts_gave w (Say (Adjacency (hello_of next message))) h
  answers_gave setup w next (Open None own) h = opens_gave setup w h
  answers_gave setup w next (Open (Some message) own) h = opens_gave setup (greets w (hello_of next message)) (acts_gave w (Say (Adjacency (hello_of next message))) h)
  answers_gave setup w next Reset h = acts_gave w actions.Reset h

  step_gave : (setup : Setup) (desk : Desk) (v w : Work) → Step setup desk v w → Gave v → Gave w
  step_gave setup desk v w (greeting u hello) h = acts_gave u (Say (Adjacency hello)) h
  step_gave setup desk v w (telling u message told) h = tells_gave u message h
  step_gave setup desk v w (closing u) h = closes_gave u h
  step_gave setup desk v w (noting u input output) h = acts_gave u (Note (Join setup.node setup.port (number_of_channel input.channel) output.port (number_of_channel output.channel))) h
  step_gave setup desk v w (turning u step live turn) h =
      answers_gave setup (record u { port = record u.port { adjacency = step.side } }) (option_map_or (λ (s : Session). s.expected) u.port.session 1) step.answer h
  step_gave setup desk v w (heard u) h = h
  step_gave setup desk v w (minding u change keeps) h = session_gave u change h
  step_gave setup desk v w (relabelling u before after found keeps) h = label_gave u after h
  step_gave setup desk v w (wiring u s flow number session spare inside room alive) h =
      let label : Label = record { number = number; state = Wiring; flow = flow; idle = 0; ticks = 0; join = None } in
      acts_gave (with_new_label u label) (Ask (AddBranch (label_end setup.port number) (control_end setup.port number)) false)
      (session_gave u (λ s. record s { labels = entered (key_le label_number) label s.labels }) h)
  step_gave setup desk v w (binding u label found is) h = acts_gave (with_label u (record label { state = Offered })) (Note (Bind setup.node setup.port label.number label.flow)) (label_gave u (record label { state = Offered }) h)
  step_gave setup desk v w (quitting u label last found is) h = acts_gave (with_label u (record label { state = Wired })) (CutChain label.number) (label_gave u (record label { state = Wired }) h)
  step_gave setup desk v w (unwiring u number label found) h =
      let input : End = label_end setup.port number in
      on_both Gave (on_input (desk_after desk u) input || has_room desk u) (with_action u (Ask (DeleteTree input) (on_input (desk_after desk u) input))) u
      (acts_gave u (Ask (DeleteTree input) (on_input (desk_after desk u) input)) h) h
  step_gave setup desk v w (freeing u label found is frees) h = acts_gave (without_label u label.number) (Note (Free setup.node setup.port label.number)) (session_gave u (λ s. record s { labels = without label_number label.number s.labels }) h)
  step_gave setup desk v w (accepting u) h = h
  step_gave setup desk v w (granting u s label flow lifetime session inside none few lives room alive) h =
      let grants : List Grant = u.port.grants ++ record { label = label; flow = flow; lifetime = lifetime; state = Idle } ∷ [] in
      acts_gave (with_grants (accepts u) grants) (Ask (AddBranch (control_end setup.port label) (label_end setup.port label)) false) (grants_gave (accepts u) grants h)
  step_gave setup desk v w (regranting u before after found keeps owes) h = grant_gave u after h
  step_gave setup desk v w (starting u grant found is) h = grant_gave u (record grant { state = ByController }) h
  step_gave setup desk v w (ending u grant found none) h = grants_gave u (without grant_label grant.label u.port.grants) h
  step_gave setup desk v w (taking_back u input output joined) h = acts_gave u (TakeBack input output) h

  pub goes_gave : (setup : Setup) (desk : Desk) (v w : Work) → Goes setup desk v w → Gave v → Gave w
  goes_gave setup desk v w goes h = goes_keeps setup desk Gave (step_gave setup desk) goes h

  -- *Joins*
  joins_label_gave : (w : Work) (join : Option End) (o : Option Label) → Gave w → Gave (joins_label w join o)
  joins_label_gave w join None h = h
  joins_label_gave w join (Some label) h = label_gave w (record label { join = join }) h

  pub parted_gave : (w : Work) (number : ℕ) → Gave w → Gave (parted w number)
  parted_gave w number h = joins_label_gave w None (label_at w.port number) h

  pub joined_gave : (w : Work) (number : ℕ) (output : End) → Gave w → Gave (joined w number output)
  joined_gave w number output h = joins_label_gave w (Some output) (label_at w.port number) h

  pub lent_gave : (w : Work) (grant : Grant) (input : End) → Gave w → Gave (lent w grant input)
  lent_gave w grant input h = grant_gave w (record grant { state = ByInput input }) h

  given_back_in_gave : (w : Work) (grant : Grant) (state : GrantState) → Gave w → Gave (given_back_in w grant state)
  given_back_in_gave w grant Idle h = h
  given_back_in_gave w grant ByController h = h
  given_back_in_gave w grant (ByInput input) h = grant_gave w (record grant { state = ByController }) h
  given_back_in_gave w grant (Leaving input true) h = tells_gave (without_grant w grant.label) (reclaim_ack (label_channel_of grant.label) grant.flow) (grants_gave w (without grant_label grant.label w.port.grants) h)
  given_back_in_gave w grant (Leaving input false) h = grants_gave w (without grant_label grant.label w.port.grants) h

  pub given_back_gave : (w : Work) (grant : Grant) → Gave w → Gave (given_back w grant)
  given_back_gave w grant h = given_back_in_gave w grant grant.state h
