-- a rule of a port asks to be reset once at most, and what joins and releases are to it never does

use Rattle.std.proofs.Common.{◌≡◌, ℕ, ◌≤◌, ◌+◌, true, false, List, [], ◌∷◌, ◌++◌, Option, None, Some, refl, sym, ◌∙◌, ap, arith}
use Rattle.std.specs.Prelude.{nat_lt, ◌||◌}
use Rattle.std.specs.Option.{option_map, option_map_or}
use Rattle.port_model.specs.Words.{End, Peer, Said, Answer, Quiet, Send, Open, hello_of, ifmp_answer, AddBranch, DeleteTree, Bind, Free, Opened, number_of_channel, label_channel_of, put, without, entered, key_le, Desk, on_input, Setup, label_end, control_end, Label, Wiring, Offered, Wired, label_number, Grant, GrantState, Idle, ByController, ByInput, Leaving, grant_label, Session, Work, halts, with_session, with_label, without_label, with_new_label, with_grants, with_grant, without_grant, label_at, desk_after, has_room, Unnumbered, last_number, own_instance, greets, tells_in, tells, is_spent, halts_if_spent, reclaim_ack, spent_number, first_session, opens, accepts, joins_label, parted, lent, given_back_in, given_back}
use Rattle.port_model.specs.adjacency_table.declared.message.Answer.TheVariants.{Reset}
use Rattle.port_model.specs.ifmp_wire.declared.message.Message.TheVariants.{Adjacency}
use Rattle.port_model.specs.link_model.declared.record.Record.TheVariants.{Join}
use Rattle.port_model.specs.declared.action.Action.{Action}
use Rattle.port_model.specs.declared.action.Action.TheVariants as actions
use Rattle.port_model.specs.declared.action.Action.TheVariants.{Say, Ask, Note, CutChain, TakeBack}
use Rattle.port_model.specs.Port.{with_action}
use Rattle.port_model.specs.Saying.{peer_instance}
use Rattle.port_model.specs.Adjacency.{answers}
use Rattle.port_model.specs.Joins.{joined}
use Rattle.law_port_facts.proofs.Keyed.{on_both, on_each}
use Rattle.law_port_facts.proofs.Steps.{Step, greeting, telling, closing, noting, turning, heard, minding, relabelling, wiring, binding, quitting, unwiring, freeing, accepting, granting, regranting, starting, ending, taking_back, Goes, goes_keeps}

-- how often a port asks to be reset
abbrev pub resets_among : List Action → ℕ
resets_among [] = 0
resets_among (actions.Reset ∷ rest) = 1 + resets_among rest
resets_among (action ∷ rest) = resets_among rest

pub resets_one : (action : Action) (rest : List Action) → resets_among (action ∷ rest) ≡ resets_among (action ∷ []) + resets_among rest
resets_one (Say message) rest = omega arith
resets_one (Ask request needed) rest = omega arith
resets_one (Note item) rest = omega arith
resets_one (CutChain label) rest = omega arith
resets_one (TakeBack input output) rest = omega arith
resets_one (actions.Withdraw input) rest = omega arith
resets_one actions.Reset rest = omega arith

pub resets_more : (xs : List Action) (action : Action) → resets_among (xs ++ action ∷ []) ≡ resets_among xs + resets_among (action ∷ [])
resets_more [] action = omega arith
resets_more (x ∷ xs) action = omega (arith, resets_one x (xs ++ action ∷ []), resets_one x xs, resets_more xs action)

-- not before it is halted, and once at most
pub record EndsOnce (w : Work) : Type 0 where
  pub before : w.halted ≡ false → resets_among w.actions ≡ 0
  pub most : resets_among w.actions ≤ 1

alike : (w v : Work) → v.halted ≡ w.halted → v.actions ≡ w.actions → EndsOnce w → EndsOnce v
alike w v halted same h = record {
  before = λ e. ap resets_among same ∙ h.before (sym halted ∙ e);
  most = omega (arith, ap resets_among same, h.most);
}

acts_once : (w : Work) (action : Action) → resets_among (action ∷ []) ≡ 0 → EndsOnce w → EndsOnce (with_action w action)
acts_once w action none h = on_both EndsOnce w.halted w (record w { actions = w.actions ++ action ∷ [] }) h (record {
  before = λ e. omega (arith, resets_more w.actions action, h.before e, none);
  most = omega (arith, resets_more w.actions action, none, h.most);
})

halts_once : (w : Work) → EndsOnce w → EndsOnce (halts w)
halts_once w h = record {
  before = λ e. absurd (cc e);
  most = on_each (λ (v : Work). resets_among v.actions ≤ 1) w.halted w (record w { actions = w.actions ++ actions.Reset ∷ [] }) (λ t. h.most)
      (λ f. omega (arith, resets_more w.actions actions.Reset, h.before f));
}

session_once : (w : Work) (change : Session → Session) → EndsOnce w → EndsOnce (with_session w change)
session_once w change h = on_both EndsOnce w.halted w (record w { port = record w.port { session = option_map change w.port.session } }) h
    (alike w (record w { port = record w.port { session = option_map change w.port.session } }) refl refl h)

grants_once : (w : Work) (grants : List Grant) → EndsOnce w → EndsOnce (with_grants w grants)
grants_once w grants h = on_both EndsOnce w.halted w (record w { port = record w.port { grants = grants } }) h (alike w (record w { port = record w.port { grants = grants } }) refl refl h)

label_once : (w : Work) (label : Label) → EndsOnce w → EndsOnce (with_label w label)
label_once w label h = session_once w (λ s. record s { labels = put label_number label s.labels }) h

grant_once : (w : Work) (grant : Grant) → EndsOnce w → EndsOnce (with_grant w grant)
grant_once w grant h = grants_once w (put grant_label grant w.port.grants) h

tells_once : (w : Work) (message : Unnumbered) → EndsOnce w → EndsOnce (tells w message)
tells_once w message h = told w.port.session
  where
    told : (o : Option Session) → EndsOnce (tells_in w message o)
    told None = h
    told (Some s) =
        let next : Work = with_session w (λ session. record session { number = s.number + 1 }) in
        let spent : Work = with_session w (λ session. record session { number = spent_number }) in
        let said : Action = Say (message (own_instance w.port.adjacency) (peer_instance w.port.adjacency) s.number) in
        on_both EndsOnce (nat_lt s.number last_number) (with_action next said) spent (acts_once next said refl (session_once w (λ session. record session { number = s.number + 1 }) h)) (session_once w (λ session. record session { number = spent_number }) h)

pub closes_once : (w : Work) → EndsOnce w → EndsOnce (halts_if_spent w)
closes_once w h = on_both EndsOnce (is_spent w.port.session) (halts w) w (halts_once w h) h

opens_once : (setup : Setup) (w : Work) → EndsOnce w → EndsOnce (opens setup w)
opens_once setup w h = acts_once (record w { port = record w.port { session = Some (first_session setup) } }) (Note (Opened setup.node setup.port)) refl
    (alike w (record w { port = record w.port { session = Some (first_session setup) } }) refl refl h)

answers_once : (setup : Setup) (w : Work) (next : ℕ) (answer : Answer (Said Peer) Peer) → EndsOnce w → EndsOnce (answers setup w (ifmp_answer next answer))
answers_once setup w next Quiet h = h
answers_once setup w next (Send message) h = acts_once w (Say (Adjacency (hello_of next message))) refl h
answers_once setup w next (Open None own) h = opens_once setup w h
answers_once setup w next (Open (Some message) own) h = opens_once setup (greets w (hello_of next message)) (acts_once w (Say (Adjacency (hello_of next message))) refl h)
answers_once setup w next Reset h = halts_once w h

step_once : (setup : Setup) (desk : Desk) (v w : Work) → Step setup desk v w → EndsOnce v → EndsOnce w
step_once setup desk v w (greeting u hello) h = acts_once u (Say (Adjacency hello)) refl h
step_once setup desk v w (telling u message told) h = tells_once u message h
step_once setup desk v w (closing u) h = closes_once u h
step_once setup desk v w (noting u input output) h = acts_once u (Note (Join setup.node setup.port (number_of_channel input.channel) output.port (number_of_channel output.channel))) refl h
step_once setup desk v w (turning u step live turn) h =
    answers_once setup (record u { port = record u.port { adjacency = step.side } }) (option_map_or (λ (s : Session). s.expected) u.port.session 1) step.answer (alike u (record u { port = record u.port { adjacency = step.side } }) refl refl h)
step_once setup desk v w (heard u) h = alike u (record u { port = record u.port { adjacency = record u.port.adjacency { silence = 0 } } }) refl refl h
step_once setup desk v w (minding u change keeps) h = session_once u change h
step_once setup desk v w (relabelling u before after found keeps) h = label_once u after h
step_once setup desk v w (wiring u s flow number session spare inside room alive) h =
    let label : Label = record { number = number; state = Wiring; flow = flow; idle = 0; ticks = 0; join = None } in
    acts_once (with_new_label u label) (Ask (AddBranch (label_end setup.port number) (control_end setup.port number)) false) refl
    (session_once u (λ s. record s { labels = entered (key_le label_number) label s.labels }) h)
step_once setup desk v w (binding u label found is) h = acts_once (with_label u (record label { state = Offered })) (Note (Bind setup.node setup.port label.number label.flow)) refl (label_once u (record label { state = Offered }) h)
step_once setup desk v w (quitting u label last found is) h = acts_once (with_label u (record label { state = Wired })) (CutChain label.number) refl (label_once u (record label { state = Wired }) h)
step_once setup desk v w (unwiring u number label found) h =
    let input : End = label_end setup.port number in
    on_both EndsOnce (on_input (desk_after desk u) input || has_room desk u) (with_action u (Ask (DeleteTree input) (on_input (desk_after desk u) input))) u
    (acts_once u (Ask (DeleteTree input) (on_input (desk_after desk u) input)) refl h) h
step_once setup desk v w (freeing u label found is frees) h = acts_once (without_label u label.number) (Note (Free setup.node setup.port label.number)) refl (session_once u (λ s. record s { labels = without label_number label.number s.labels }) h)
step_once setup desk v w (accepting u) h = alike u (accepts u) refl refl h
step_once setup desk v w (granting u s label flow lifetime session inside none few lives room alive) h =
    let grants : List Grant = u.port.grants ++ record { label = label; flow = flow; lifetime = lifetime; state = Idle } ∷ [] in
    acts_once (with_grants (accepts u) grants) (Ask (AddBranch (control_end setup.port label) (label_end setup.port label)) false) refl (grants_once (accepts u) grants (alike u (accepts u) refl refl h))
step_once setup desk v w (regranting u before after found keeps owes) h = grant_once u after h
step_once setup desk v w (starting u grant found is) h = grant_once u (record grant { state = ByController }) h
step_once setup desk v w (ending u grant found none) h = grants_once u (without grant_label grant.label u.port.grants) h
step_once setup desk v w (taking_back u input output joined) h = acts_once u (TakeBack input output) refl h

pub goes_once : (setup : Setup) (desk : Desk) (v w : Work) → Goes setup desk v w → EndsOnce v → EndsOnce w
goes_once setup desk v w goes h = goes_keeps setup desk EndsOnce (step_once setup desk) goes h

-- *Joins*: it isn't asked at all
abbrev pub NoReset : Work → Type 0
NoReset w = resets_among w.actions ≡ 0

acts_none : (w : Work) (action : Action) → resets_among (action ∷ []) ≡ 0 → NoReset w → NoReset (with_action w action)
acts_none w action none h = on_both NoReset w.halted w (record w { actions = w.actions ++ action ∷ [] }) h (omega (arith, resets_more w.actions action, none, h))

session_none : (w : Work) (change : Session → Session) → NoReset w → NoReset (with_session w change)
session_none w change h = on_both NoReset w.halted w (record w { port = record w.port { session = option_map change w.port.session } }) h h

grants_none : (w : Work) (grants : List Grant) → NoReset w → NoReset (with_grants w grants)
grants_none w grants h = on_both NoReset w.halted w (record w { port = record w.port { grants = grants } }) h h

tells_none : (w : Work) (message : Unnumbered) → NoReset w → NoReset (tells w message)
tells_none w message h = told w.port.session
  where
    told : (o : Option Session) → NoReset (tells_in w message o)
    told None = h
    told (Some s) =
        let next : Work = with_session w (λ session. record session { number = s.number + 1 }) in
        let spent : Work = with_session w (λ session. record session { number = spent_number }) in
        let said : Action = Say (message (own_instance w.port.adjacency) (peer_instance w.port.adjacency) s.number) in
        on_both NoReset (nat_lt s.number last_number) (with_action next said) spent (acts_none next said refl (session_none w (λ session. record session { number = s.number + 1 }) h)) (session_none w (λ session. record session { number = spent_number }) h)

joins_label_none : (w : Work) (join : Option End) (o : Option Label) → NoReset w → NoReset (joins_label w join o)
joins_label_none w join None h = h
joins_label_none w join (Some label) h = session_none w (λ s. record s { labels = put label_number (record label { join = join }) s.labels }) h

pub parted_none : (w : Work) (number : ℕ) → NoReset w → NoReset (parted w number)
parted_none w number h = joins_label_none w None (label_at w.port number) h

pub joined_none : (w : Work) (number : ℕ) (output : End) → NoReset w → NoReset (joined w number output)
joined_none w number output h = joins_label_none w (Some output) (label_at w.port number) h

pub lent_none : (w : Work) (grant : Grant) (input : End) → NoReset w → NoReset (lent w grant input)
lent_none w grant input h = grants_none w (put grant_label (record grant { state = ByInput input }) w.port.grants) h

given_back_in_none : (w : Work) (grant : Grant) (state : GrantState) → NoReset w → NoReset (given_back_in w grant state)
given_back_in_none w grant Idle h = h
given_back_in_none w grant ByController h = h
given_back_in_none w grant (ByInput input) h = grants_none w (put grant_label (record grant { state = ByController }) w.port.grants) h
given_back_in_none w grant (Leaving input true) h = tells_none (without_grant w grant.label) (reclaim_ack (label_channel_of grant.label) grant.flow) (grants_none w (without grant_label grant.label w.port.grants) h)
given_back_in_none w grant (Leaving input false) h = grants_none w (without grant_label grant.label w.port.grants) h

pub given_back_none : (w : Work) (grant : Grant) → NoReset w → NoReset (given_back w grant)
given_back_none w grant h = given_back_in_none w grant grant.state h
