-- what a port says is in the range of IFMP's messages, and its flows are flows that packets can have

use Rattle.std.proofs.Common.{◌≡◌, ℕ, ◌≤◌, ◌<◌, true, false, List, [], ◌∷◌, ◌++◌, Option, None, Some, refl, sym, ◌∙◌, ap, subst, arith}
use Rattle.std.specs.Prelude.{◌+◌, ◌^◌, ◌&&◌, ◌||◌, nat_lt, nat_le, flat_map}
use Rattle.std.specs.Option.{option_map, option_map_or}
use Rattle.std.proofs.lemmas.Bool.Decides.{nat_tests}
use Rattle.port_model.specs.Words.{Channel, End, Instance, Peer, number_of_channel, label_channel_of, is_label_number, Said, Answer, Quiet, Send, Open, hello_of, ifmp_answer, IsFlow, AddBranch, DeleteTree, InRange, Bind, Free, Opened, at, put, without, entered, key_le, Desk, on_input, Setup, is_in_range, label_end, control_end, Label, Wiring, Offered, Wired, label_number, Grant, GrantState, Idle, ByController, ByInput, Leaving, grant_label, Session, Work, halts, with_session, with_label, with_new_label, without_label, with_grants, without_grant, labels_of, label_at, desk_after, has_room, Unnumbered, last_number, spent_number, own_instance, is_spent, tells_in, tells, halts_if_spent, reclaim_ack, first_session, accepts, joins_label, lent, given_back_in, given_back, left_in, left_of, resets}
use Rattle.port_model.specs.adjacency_table.declared.message.Answer.TheVariants.{Reset}
use Rattle.port_model.specs.ifmp_wire.declared.message.Message.TheVariants.{Adjacency}
use Rattle.port_model.specs.ifmp_wire.Message as wire
use Rattle.port_model.specs.link_model.declared.record.Record.TheVariants.{Join}
use Rattle.ordered_lists.specs.Ordered.{Every}
use Rattle.ordered_lists.proofs.Every.{every_join}
use Rattle.port_model.specs.declared.action.Action.{Action}
use Rattle.port_model.specs.declared.action.Action.TheVariants as actions
use Rattle.port_model.specs.declared.action.Action.TheVariants.{Say, Ask, Note, CutChain, TakeBack}
use Rattle.port_model.specs.Port.{Port, with_action}
use Rattle.port_model.specs.Saying.{peer_instance}
use Rattle.port_model.specs.Adjacency.{answers}
use Rattle.port_model.specs.Joins.{joined}
use Rattle.law_port_facts.specs.Port.{setup_port, IsLabel, IsWork, AnyChannel, HasFlows, IsSayable, IsRanged}
use Rattle.law_port_facts.proofs.Keyed.{on_both, at_every, at_key, put_every, without_every, entered_every, every_more}
use Rattle.law_port_facts.proofs.Steps.{IsTold, offering, recalling, acknowledging, narrowing, refusing, HeldFlow, StepOn, GoesOn, Step, Goes, greeting, telling, closing, noting, turning, heard, minding, relabelling, wiring, binding, quitting, unwiring, freeing, accepting, granting, regranting, starting, ending, taking_back, goes_on_keeps}
use Rattle.law_port_facts.proofs.Rules.{and_first}
use Rattle.law_port_facts.proofs.Kept.{found_label, found_grant, step_kept}

-- *Steps of a port that heard of some channels* are steps
any_told : (Heard : Channel → Type 0) (setup : Setup) (port : Port) (message : Unnumbered) → IsTold Heard setup port message → IsTold AnyChannel setup port message
any_told Heard setup port message (offering label held) = offering label held
any_told Heard setup port message (recalling label held) = recalling label held
any_told Heard setup port message (acknowledging channel flow names alive) = acknowledging channel flow tt alive
any_told Heard setup port message narrowing = narrowing
any_told Heard setup port message (refusing code channel least most names) = refusing code channel least most tt

pub any_step : (Heard : Channel → Type 0) (Frees : Type 0) (setup : Setup) (desk : Desk) (v w : Work) → StepOn Heard Frees setup desk v w → Step setup desk v w
any_step Heard Frees setup desk v w (greeting u hello) = greeting u hello
any_step Heard Frees setup desk v w (telling u message told) = telling u message (any_told Heard setup u.port message told)
any_step Heard Frees setup desk v w (closing u) = closing u
any_step Heard Frees setup desk v w (noting u input output) = noting u input output
any_step Heard Frees setup desk v w (turning u step live turn) = turning u step live turn
any_step Heard Frees setup desk v w (heard u) = heard u
any_step Heard Frees setup desk v w (minding u change keeps) = minding u change keeps
any_step Heard Frees setup desk v w (relabelling u before after found keeps) = relabelling u before after found keeps
any_step Heard Frees setup desk v w (wiring u s flow number session spare inside room alive) = wiring u s flow number session spare inside room alive
any_step Heard Frees setup desk v w (binding u label found is) = binding u label found is
any_step Heard Frees setup desk v w (quitting u label last found is) = quitting u label last found is
any_step Heard Frees setup desk v w (unwiring u number label found) = unwiring u number label found
any_step Heard Frees setup desk v w (freeing u label found is frees) = freeing u label found is tt
any_step Heard Frees setup desk v w (accepting u) = accepting u
any_step Heard Frees setup desk v w (granting u s label flow lifetime session inside none few lives room alive) = granting u s label flow lifetime session inside none few lives room alive
any_step Heard Frees setup desk v w (regranting u before after found keeps owes) = regranting u before after found keeps owes
any_step Heard Frees setup desk v w (starting u grant found is) = starting u grant found is
any_step Heard Frees setup desk v w (ending u grant found none) = ending u grant found none
any_step Heard Frees setup desk v w (taking_back u input output joined) = taking_back u input output joined

-- *Flows*
abbrev IsAlive : Label → Type 0
IsAlive label = IsFlow label.flow

abbrev IsAliveGrant : Grant → Type 0
IsAliveGrant grant = IsFlow grant.flow

session_flows : (w : Work) (change : Session → Session) → ((s : Session) → w.port.session ≡ Some s → Every IsAlive s.labels → Every IsAlive (change s).labels) → HasFlows w.port → HasFlows (with_session w change).port
session_flows w change keeps h = on_both (λ (v : Work). HasFlows v.port) w.halted w (record w { port = record w.port { session = option_map change w.port.session } }) h
    (record { labels = held w.port.session refl h.labels; grants = h.grants })
  where
    held : (o : Option Session) → w.port.session ≡ o → Every IsAlive (labels_of w.port) → Every IsAlive (option_map_or (λ (s : Session). s.labels) (option_map change o) [])
    held None is hs = tt
    held (Some s) is hs = keeps s is (subst (λ (o : Option Session). Every IsAlive (option_map_or (λ (s : Session). s.labels) o [])) is hs)

label_flows : (w : Work) (label : Label) → IsFlow label.flow → HasFlows w.port → HasFlows (with_label w label).port
label_flows w label alive h = session_flows w (λ s. record s { labels = put label_number label s.labels }) (λ s e held. put_every label_number IsAlive label s.labels alive held) h

grants_flows : (w : Work) (gs : List Grant) → Every IsAliveGrant gs → HasFlows w.port → HasFlows (with_grants w gs).port
grants_flows w gs all h = on_both (λ (v : Work). HasFlows v.port) w.halted w (record w { port = record w.port { grants = gs } }) h (record { labels = h.labels; grants = all })

acts_flows : (w : Work) (action : Action) → HasFlows w.port → HasFlows (with_action w action).port
acts_flows w action h = on_both (λ (v : Work). HasFlows v.port) w.halted w (record w { actions = w.actions ++ action ∷ [] }) h h

tells_flows : (w : Work) (message : Unnumbered) → HasFlows w.port → HasFlows (tells w message).port
tells_flows w message h = told w.port.session
  where
    told : (o : Option Session) → HasFlows (tells_in w message o).port
    told None = h
    told (Some s) =
        let next : Work = with_session w (λ session. record session { number = s.number + 1 }) in
        let spent : Work = with_session w (λ session. record session { number = spent_number }) in
        let said : Action = Say (message (own_instance w.port.adjacency) (peer_instance w.port.adjacency) s.number) in
        on_both (λ (v : Work). HasFlows v.port) (nat_lt s.number last_number) (with_action next said) spent (acts_flows next said (session_flows w (λ session. record session { number = s.number + 1 }) (λ s e held. held) h))
        (session_flows w (λ session. record session { number = spent_number }) (λ s e held. held) h)

closes_flows : (w : Work) → HasFlows w.port → HasFlows (halts_if_spent w).port
closes_flows w h = on_both (λ (v : Work). HasFlows v.port) (is_spent w.port.session) (halts w) w (acts_flows w actions.Reset h) h

answers_flows : (setup : Setup) (w : Work) (answer : Answer (Said Peer) Peer) (next : ℕ) → HasFlows w.port → HasFlows (answers setup w (ifmp_answer next answer)).port
answers_flows setup w Quiet next h = h
answers_flows setup w (Send message) next h = acts_flows w (Say (Adjacency (hello_of next message))) h
answers_flows setup w (Open None own) next h = acts_flows (record w { port = record w.port { session = Some (first_session setup) } }) (Note (Opened setup.node setup.port)) (record { labels = tt; grants = h.grants })
answers_flows setup w (Open (Some message) own) next h =
    let said : Work = with_action w (Say (Adjacency (hello_of next message))) in
    let k : HasFlows said.port = acts_flows w (Say (Adjacency (hello_of next message))) h in
    acts_flows (record said { port = record said.port { session = Some (first_session setup) } }) (Note (Opened setup.node setup.port)) (record { labels = tt; grants = k.grants })
answers_flows setup w Reset next h = acts_flows w actions.Reset h

found_alive : (w : Work) (number : ℕ) (label : Label) → label_at w.port number ≡ Some label → HasFlows w.port → IsFlow label.flow
found_alive w number label found h = at_every label_number IsAlive number (labels_of w.port) label h.labels found

found_alive_grant : (w : Work) (label : ℕ) (grant : Grant) → at grant_label label w.port.grants ≡ Some grant → HasFlows w.port → IsFlow grant.flow
found_alive_grant w label grant found h = at_every grant_label IsAliveGrant label w.port.grants grant h.grants found

pub step_flows : (setup : Setup) (desk : Desk) (v w : Work) → Step setup desk v w → HasFlows v.port → HasFlows w.port
step_flows setup desk v w (greeting u hello) h = acts_flows u (Say (Adjacency hello)) h
step_flows setup desk v w (telling u message told) h = tells_flows u message h
step_flows setup desk v w (closing u) h = closes_flows u h
step_flows setup desk v w (noting u input output) h = acts_flows u (Note (Join setup.node setup.port (number_of_channel input.channel) output.port (number_of_channel output.channel))) h
step_flows setup desk v w (turning u step live turn) h = answers_flows setup (record u { port = record u.port { adjacency = step.side } }) step.answer (option_map_or (λ (s : Session). s.expected) u.port.session 1) (record { labels = h.labels; grants = h.grants })
step_flows setup desk v w (heard u) h = record { labels = h.labels; grants = h.grants }
step_flows setup desk v w (minding u change keeps) h = session_flows u change (λ s e held. subst (Every IsAlive) (sym (keeps s e).labels) held) h
step_flows setup desk v w (relabelling u before after found keeps) h = label_flows u after (subst IsFlow (sym keeps.flow) (found_alive u after.number before found h)) h
step_flows setup desk v w (wiring u s flow number session spare inside room alive) h =
    let label : Label = record { number = number; state = Wiring; flow = flow; idle = 0; ticks = 0; join = None } in
    acts_flows (with_new_label u label) (Ask (AddBranch (label_end setup.port number) (control_end setup.port number)) false)
    (session_flows u (λ s. record s { labels = entered (key_le label_number) label s.labels }) (λ s e held. entered_every label_number IsAlive (key_le label_number) label s.labels alive held) h)
step_flows setup desk v w (binding u label found is) h = acts_flows (with_label u (record label { state = Offered })) (Note (Bind setup.node setup.port label.number label.flow)) (label_flows u (record label { state = Offered }) (found_alive u label.number label found h) h)
step_flows setup desk v w (quitting u label last found is) h = acts_flows (with_label u (record label { state = Wired })) (CutChain label.number) (label_flows u (record label { state = Wired }) (found_alive u label.number label found h) h)
step_flows setup desk v w (unwiring u number label found) h =
    let input : End = label_end setup.port number in
    on_both (λ (x : Work). HasFlows x.port) (on_input (desk_after desk u) input || has_room desk u) (with_action u (Ask (DeleteTree input) (on_input (desk_after desk u) input))) u
    (acts_flows u (Ask (DeleteTree input) (on_input (desk_after desk u) input)) h) h
step_flows setup desk v w (freeing u label found is frees) h = acts_flows (without_label u label.number) (Note (Free setup.node setup.port label.number))
    (session_flows u (λ s. record s { labels = without label_number label.number s.labels }) (λ s e held. without_every label_number IsAlive label.number s.labels held) h)
step_flows setup desk v w (accepting u) h = record { labels = h.labels; grants = h.grants }
step_flows setup desk v w (granting u s label flow lifetime session inside none few lives room alive) h =
    let grant : Grant = record { label = label; flow = flow; lifetime = lifetime; state = Idle } in
    acts_flows (with_grants (accepts u) (u.port.grants ++ grant ∷ [])) (Ask (AddBranch (control_end setup.port label) (label_end setup.port label)) false)
    (grants_flows (accepts u) (u.port.grants ++ grant ∷ []) (every_more IsAliveGrant u.port.grants grant h.grants alive) (record { labels = h.labels; grants = h.grants }))
step_flows setup desk v w (regranting u before after found keeps owes) h = grants_flows u (put grant_label after u.port.grants)
    (put_every grant_label IsAliveGrant after u.port.grants (subst IsFlow (sym keeps.flow) (found_alive_grant u after.label before found h)) h.grants) h
step_flows setup desk v w (starting u grant found is) h = grants_flows u (put grant_label (record grant { state = ByController }) u.port.grants)
    (put_every grant_label IsAliveGrant (record grant { state = ByController }) u.port.grants (found_alive_grant u grant.label grant found h) h.grants) h
step_flows setup desk v w (ending u grant found none) h = grants_flows u (without grant_label grant.label u.port.grants) (without_every grant_label IsAliveGrant grant.label u.port.grants h.grants) h
step_flows setup desk v w (taking_back u input output joined) h = acts_flows u (TakeBack input output) h

pub goes_flows : (setup : Setup) (desk : Desk) (v w : Work) → Goes setup desk v w → HasFlows v.port → HasFlows w.port
goes_flows setup desk v w goes h = goes_on_keeps AnyChannel (Unit {0}) setup desk (λ (x : Work). HasFlows x.port) (step_flows setup desk) goes h

-- *Joins and resets*
pub parted_flows : (w : Work) (join : Option End) (number : ℕ) (o : Option Label) → label_at w.port number ≡ o → HasFlows w.port → HasFlows (joins_label w join o).port
parted_flows w join number None found h = h
parted_flows w join number (Some label) found h = label_flows w (record label { join = join }) (found_alive w number label found h) h

pub lent_flows : (w : Work) (grant : Grant) (input : End) → at grant_label grant.label w.port.grants ≡ Some grant → HasFlows w.port → HasFlows (lent w grant input).port
lent_flows w grant input found h = grants_flows w (put grant_label (record grant { state = ByInput input }) w.port.grants)
    (put_every grant_label IsAliveGrant (record grant { state = ByInput input }) w.port.grants (found_alive_grant w grant.label grant found h) h.grants) h

given_back_in_flows : (w : Work) (grant : Grant) (state : GrantState) → at grant_label grant.label w.port.grants ≡ Some grant → HasFlows w.port → HasFlows (given_back_in w grant state).port
given_back_in_flows w grant Idle found h = h
given_back_in_flows w grant ByController found h = h
given_back_in_flows w grant (ByInput input) found h = grants_flows w (put grant_label (record grant { state = ByController }) w.port.grants)
    (put_every grant_label IsAliveGrant (record grant { state = ByController }) w.port.grants (found_alive_grant w grant.label grant found h) h.grants) h
given_back_in_flows w grant (Leaving input true) found h = tells_flows (without_grant w grant.label) (reclaim_ack (label_channel_of grant.label) grant.flow)
    (grants_flows w (without grant_label grant.label w.port.grants) (without_every grant_label IsAliveGrant grant.label w.port.grants h.grants) h)
given_back_in_flows w grant (Leaving input false) found h = grants_flows w (without grant_label grant.label w.port.grants) (without_every grant_label IsAliveGrant grant.label w.port.grants h.grants) h

pub given_back_flows : (w : Work) (grant : Grant) → at grant_label grant.label w.port.grants ≡ Some grant → HasFlows w.port → HasFlows (given_back w grant).port
given_back_flows w grant found h = given_back_in_flows w grant grant.state found h

left_in_flows : (grant : Grant) (state : GrantState) → IsFlow grant.flow → Every IsAliveGrant (left_in grant state)
left_in_flows grant Idle alive = tt
left_in_flows grant ByController alive = tt
left_in_flows grant (ByInput input) alive = (alive, tt)
left_in_flows grant (Leaving input owed) alive = (alive, tt)

left_flows : (gs : List Grant) → Every IsAliveGrant gs → Every IsAliveGrant (flat_map left_of gs)
left_flows [] h = tt
left_flows (grant ∷ gs) h = every_join IsAliveGrant (left_of grant) (flat_map left_of gs) (left_in_flows grant grant.state h.0) (left_flows gs h.1)

pub resets_flows : (setup : Setup) (w : Work) → HasFlows w.port → HasFlows (resets setup w).port
resets_flows setup w h = record { labels = tt; grants = left_flows w.port.grants h.grants }

pub closes_flows_of : (w : Work) → HasFlows w.port → HasFlows (halts_if_spent w).port
closes_flows_of w h = closes_flows w h

-- *What is said*
module _ (setups : List Setup) (setup : Setup) (linked : at setup_port setup.port.0 setups ≡ Some setup) (ranged : IsRanged setup) (Heard : Channel → Type 0) (names : (channel : Channel) → Heard channel → channel.vpi < 2 ^ 8) where
  in_vpi : (n : ℕ) → is_label_number n ≡ true → (label_channel_of n).vpi < 2 ^ 8
  in_vpi n e = grind (arith, nat_tests)

  label_vpi : (n : ℕ) → is_in_range setup n ≡ true → (label_channel_of n).vpi < 2 ^ 8
  label_vpi n e = in_vpi n (and_first (is_label_number n) (nat_le setup.least n && nat_le n setup.greatest) e)

  range_order : (m n : ℕ) → m ≤ n → wire.label_number (label_channel_of m) ≤ wire.label_number (label_channel_of n)
  range_order m n e = omega (arith, e)

  held_label : (w : Work) (label : Label) → HeldFlow w.port label.number label.flow → IsWork setups setup w → HasFlows w.port → ((label_channel_of label.number).vpi < 2 ^ 8) × IsFlow label.flow
  held_label w label held k h =
      let fits : IsLabel setups setup held.held = found_label setups setup linked w label.number held.held held.found k in
      (label_vpi label.number (ap (is_in_range setup) (sym (at_key label_number label.number (labels_of w.port) held.held held.found)) ∙ fits.in_range), subst IsFlow held.same (found_alive w label.number held.held held.found h))

  told_in_range : (w : Work) (message : Unnumbered) → IsTold Heard setup w.port message → IsWork setups setup w → HasFlows w.port → (own peer : Instance) (number : ℕ) → InRange (message own peer number)
  told_in_range w message (offering label held) k h own peer number = (let f = held_label w label held k h in (omega (arith, ranged.lifetime), f.0, f.1))
  told_in_range w message (recalling label held) k h own peer number = held_label w label held k h
  told_in_range w message (acknowledging channel flow name alive) k h own peer number = (names channel name, alive)
  told_in_range w message narrowing k h own peer number = (in_vpi setup.least ranged.least, in_vpi setup.greatest ranged.greatest, range_order setup.least setup.greatest ranged.order)
  told_in_range w message (refusing code channel least most name) k h own peer number = (least, most, names channel name)

  abbrev IsSaid : Work → Type 0
  IsSaid w = Every IsSayable w.actions

  acts_said : (w : Work) (action : Action) → IsSayable action → IsSaid w → IsSaid (with_action w action)
  acts_said w action may h = on_both IsSaid w.halted w (record w { actions = w.actions ++ action ∷ [] }) h (every_more IsSayable w.actions action h may)

  session_said : (w : Work) (change : Session → Session) → IsSaid w → IsSaid (with_session w change)
  session_said w change h = on_both IsSaid w.halted w (record w { port = record w.port { session = option_map change w.port.session } }) h h

  grants_said : (w : Work) (gs : List Grant) → IsSaid w → IsSaid (with_grants w gs)
  grants_said w gs h = on_both IsSaid w.halted w (record w { port = record w.port { grants = gs } }) h h

  tells_said : (w : Work) (message : Unnumbered) → ((own peer : Instance) (number : ℕ) → InRange (message own peer number)) → IsSaid w → IsSaid (tells w message)
  tells_said w message inside h = told w.port.session
    where
      told : (o : Option Session) → IsSaid (tells_in w message o)
      told None = h
      told (Some s) =
          let next : Work = with_session w (λ session. record session { number = s.number + 1 }) in
          let spent : Work = with_session w (λ session. record session { number = spent_number }) in
          let said : Action = Say (message (own_instance w.port.adjacency) (peer_instance w.port.adjacency) s.number) in
          on_both IsSaid (nat_lt s.number last_number) (with_action next said) spent (acts_said next said (inside (own_instance w.port.adjacency) (peer_instance w.port.adjacency) s.number) (session_said w (λ session. record session { number = s.number + 1 }) h))
          (session_said w (λ session. record session { number = spent_number }) h)

  answers_said : (w : Work) (answer : Answer (Said Peer) Peer) (next : ℕ) → IsSaid w → IsSaid (answers setup w (ifmp_answer next answer))
  answers_said w Quiet next h = h
  answers_said w (Send message) next h = acts_said w (Say (Adjacency (hello_of next message))) tt h
  answers_said w (Open None own) next h = acts_said (record w { port = record w.port { session = Some (first_session setup) } }) (Note (Opened setup.node setup.port)) tt h
  answers_said w (Open (Some message) own) next h =
      let said : Work = with_action w (Say (Adjacency (hello_of next message))) in
      acts_said (record said { port = record said.port { session = Some (first_session setup) } }) (Note (Opened setup.node setup.port)) tt (acts_said w (Say (Adjacency (hello_of next message))) tt h)
  answers_said w Reset next h = acts_said w actions.Reset tt h

  step_said : (desk : Desk) (v w : Work) → StepOn Heard (Unit {0}) setup desk v w → IsWork setups setup v → HasFlows v.port → IsSaid v → IsSaid w
  step_said desk v w (greeting u hello) k f h = acts_said u (Say (Adjacency hello)) tt h
  step_said desk v w (telling u message told) k f h = tells_said u message (told_in_range u message told k f) h
  step_said desk v w (closing u) k f h = on_both IsSaid (is_spent u.port.session) (halts u) u (acts_said u actions.Reset tt h) h
  step_said desk v w (noting u input output) k f h = acts_said u (Note (Join setup.node setup.port (number_of_channel input.channel) output.port (number_of_channel output.channel))) tt h
  step_said desk v w (turning u step live turn) k f h = answers_said (record u { port = record u.port { adjacency = step.side } }) step.answer (option_map_or (λ (s : Session). s.expected) u.port.session 1) h
  step_said desk v w (heard u) k f h = h
  step_said desk v w (minding u change keeps) k f h = session_said u change h
  step_said desk v w (relabelling u before after found keeps) k f h = session_said u (λ s. record s { labels = put label_number after s.labels }) h
  step_said desk v w (wiring u s flow number session spare inside room alive) k f h =
      let label : Label = record { number = number; state = Wiring; flow = flow; idle = 0; ticks = 0; join = None } in
      acts_said (with_new_label u label) (Ask (AddBranch (label_end setup.port number) (control_end setup.port number)) false) tt (session_said u (λ s. record s { labels = entered (key_le label_number) label s.labels }) h)
  step_said desk v w (binding u label found is) k f h = acts_said (with_label u (record label { state = Offered })) (Note (Bind setup.node setup.port label.number label.flow)) tt
      (session_said u (λ s. record s { labels = put label_number (record label { state = Offered }) s.labels }) h)
  step_said desk v w (quitting u label last found is) k f h = acts_said (with_label u (record label { state = Wired })) (CutChain label.number) tt
      (session_said u (λ s. record s { labels = put label_number (record label { state = Wired }) s.labels }) h)
  step_said desk v w (unwiring u number label found) k f h =
      let input : End = label_end setup.port number in
      on_both IsSaid (on_input (desk_after desk u) input || has_room desk u) (with_action u (Ask (DeleteTree input) (on_input (desk_after desk u) input))) u
      (acts_said u (Ask (DeleteTree input) (on_input (desk_after desk u) input)) tt h) h
  step_said desk v w (freeing u label found is frees) k f h = acts_said (without_label u label.number) (Note (Free setup.node setup.port label.number)) tt (session_said u (λ s. record s { labels = without label_number label.number s.labels }) h)
  step_said desk v w (accepting u) k f h = h
  step_said desk v w (granting u s label flow lifetime session inside none few lives room alive) k f h =
      let gs : List Grant = u.port.grants ++ record { label = label; flow = flow; lifetime = lifetime; state = Idle } ∷ [] in
      acts_said (with_grants (accepts u) gs) (Ask (AddBranch (control_end setup.port label) (label_end setup.port label)) false) tt (grants_said (accepts u) gs h)
  step_said desk v w (regranting u before after found keeps owes) k f h = grants_said u (put grant_label after u.port.grants) h
  step_said desk v w (starting u grant found is) k f h = grants_said u (put grant_label (record grant { state = ByController }) u.port.grants) h
  step_said desk v w (ending u grant found none) k f h = grants_said u (without grant_label grant.label u.port.grants) h
  step_said desk v w (taking_back u input output joined) k f h = acts_said u (TakeBack input output) tt h

  record Saying (w : Work) : Type 0 where
    kept : IsWork setups setup w
    flows : HasFlows w.port
    said : IsSaid w

  pub goes_said : (desk : Desk) (v w : Work) → GoesOn Heard (Unit {0}) setup desk v w → IsWork setups setup v → HasFlows v.port → IsSaid v → IsSaid w
  goes_said desk v w goes k f h = (let all : Saying w = goes_on_keeps Heard (Unit {0}) setup desk Saying
      (λ x y step s. (let any : Step setup desk x y = any_step Heard (Unit {0}) setup desk x y step in
      record { kept = step_kept setups setup linked desk x y any s.kept; flows = step_flows setup desk x y any s.flows; said = step_said desk x y step s.kept s.flows s.said }))
      goes (record { kept = k; flows = f; said = h }) in all.said)

  -- a grant that is given back
  given_back_in_said : (w : Work) (grant : Grant) (state : GrantState) → at grant_label grant.label w.port.grants ≡ Some grant → IsWork setups setup w → HasFlows w.port → IsSaid w → IsSaid (given_back_in w grant state)
  given_back_in_said w grant Idle found k f h = h
  given_back_in_said w grant ByController found k f h = h
  given_back_in_said w grant (ByInput input) found k f h = grants_said w (put grant_label (record grant { state = ByController }) w.port.grants) h
  given_back_in_said w grant (Leaving input true) found k f h = tells_said (without_grant w grant.label) (reclaim_ack (label_channel_of grant.label) grant.flow)
      (λ own peer number. (label_vpi grant.label (found_grant setups setup linked w grant.label grant found k).in_range, found_alive_grant w grant.label grant found f)) (grants_said w (without grant_label grant.label w.port.grants) h)
  given_back_in_said w grant (Leaving input false) found k f h = grants_said w (without grant_label grant.label w.port.grants) h

  pub given_back_said : (w : Work) (grant : Grant) → at grant_label grant.label w.port.grants ≡ Some grant → IsWork setups setup w → HasFlows w.port → IsSaid w → IsSaid (given_back w grant)
  given_back_said w grant found k f h = given_back_in_said w grant grant.state found k f h
