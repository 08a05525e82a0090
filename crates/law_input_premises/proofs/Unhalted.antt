-- a port that asks for its own reset isn't in Clearing, and a rule of a port withdraws nothing

use Rattle.std.proofs.Common.{◌≡◌, ℕ, Bool, true, false, List, [], ◌∷◌, ◌++◌, Option, None, Some, refl, sym, ◌∙◌, ap, subst, if◌then◌else◌, is_some}
use Rattle.std.specs.Prelude.{◌+◌, ◌||◌, nat_lt}
use Rattle.std.specs.Option.{option_map, option_map_or}
use Rattle.law_controller.specs.world_model.Words.{Peer, End, number_of_channel, State, Clearing, Said, Answer, Quiet, Send, Open, Side, IsSide, is_estab, ifmp_answer, hello_of, heard_from, same_peer, AddBranch, DeleteTree, Bind, Free, Opened, at, put, without, entered, key_le, Desk, on_input, Action, Say, Ask, Note, CutChain, TakeBack, Withdraw, Setup, label_end, control_end, Label, Wiring, Offered, Wired, label_number, Grant, Idle, ByController, grant_label, Session, Work, halts, with_session, with_label, with_new_label, without_label, with_grants, desk_after, has_room, Unnumbered, last_number, spent_number, own_instance, is_spent, tells_in, tells, halts_if_spent, first_session, opens, accepts}
use Rattle.law_controller.specs.world_model.adjacency_table.declared.message.Answer.TheVariants.{Reset}
use Rattle.law_controller.specs.world_model.adjacency_table.Side as sides
use Rattle.law_controller.specs.world_model.ifmp_wire.declared.message.Message.TheVariants.{Adjacency}
use Rattle.law_controller.specs.world_model.link_model.declared.record.Record.TheVariants.{Join}
use Rattle.law_controller.specs.ordered_lists.Ordered.{Every}
use Rattle.law_controller.proofs.ordered_lists.Every.{every_join}
use Rattle.law_controller.specs.world_model.port_model.declared.action.Action.TheVariants as actions
use Rattle.law_controller.specs.world_model.port_model.Port.{with_action}
use Rattle.law_controller.specs.world_model.port_model.Saying.{peer_instance}
use Rattle.law_controller.specs.world_model.port_model.Adjacency.{answers}
use Rattle.law_controller.specs.law_port_facts.Port.{setup_port, IsPort, IsWork}
use Rattle.law_controller.proofs.law_port_facts.Keyed.{on_both}
use Rattle.law_controller.proofs.law_port_facts.Kept.{step_kept}
use Rattle.law_controller.proofs.law_port_facts.Steps as steps_of
use Rattle.law_controller.proofs.law_port_facts.Steps.{IsTurn, hears, ages, Step, greeting, telling, closing, noting, turning, heard, minding, relabelling, wiring, binding, quitting, unwiring, freeing, accepting, granting, regranting, starting, ending, Goes, goes_keeps}
use Rattle.law_controller.proofs.law_port_facts.Shut.{quiet_turn}
use Rattle.law_controller.proofs.law_port_facts.Turns.{IsTurned, received_turns, ticked_turns}

-- *No withdrawal*
abbrev pub WithdrawsNone : Action → Type 0
WithdrawsNone (Withdraw input) = ⊥
WithdrawsNone action = Unit {0}

pub record IsUnhalted (w : Work) : Type 0 where
  pub apart : w.halted ≡ true → w.port.adjacency.state ≡ Clearing → ⊥
  pub keeps : Every WithdrawsNone w.actions

alike : (w v : Work) → v.halted ≡ w.halted → v.port.adjacency.state ≡ w.port.adjacency.state → v.actions ≡ w.actions → IsUnhalted w → IsUnhalted v
alike w v halted state same h = record { apart = λ e c. h.apart (sym halted ∙ e) (sym state ∙ c); keeps = subst (Every WithdrawsNone) (sym same) h.keeps }

acts_unhalted : (w : Work) (action : Action) → WithdrawsNone action → IsUnhalted w → IsUnhalted (with_action w action)
acts_unhalted w action none h = on_both IsUnhalted w.halted w (record w { actions = w.actions ++ action ∷ [] }) h
    (record { apart = h.apart; keeps = every_join WithdrawsNone w.actions (action ∷ []) h.keeps (none, tt) })

halts_unhalted : (w : Work) → (w.port.adjacency.state ≡ Clearing → ⊥) → IsUnhalted w → IsUnhalted (halts w)
halts_unhalted w apart h = on_both (λ (v : Work). IsUnhalted (record v { halted = true })) w.halted w (record w { actions = w.actions ++ actions.Reset ∷ [] })
    (record { apart = λ e. apart; keeps = h.keeps }) (record { apart = λ e. apart; keeps = every_join WithdrawsNone w.actions (actions.Reset ∷ []) h.keeps (tt, tt) })

session_unhalted : (w : Work) (change : Session → Session) → IsUnhalted w → IsUnhalted (with_session w change)
session_unhalted w change h = on_both IsUnhalted w.halted w (record w { port = record w.port { session = option_map change w.port.session } }) h (record { apart = h.apart; keeps = h.keeps })

grants_unhalted : (w : Work) (grants : List Grant) → IsUnhalted w → IsUnhalted (with_grants w grants)
grants_unhalted w grants h = on_both IsUnhalted w.halted w (record w { port = record w.port { grants = grants } }) h (record { apart = h.apart; keeps = h.keeps })

tells_unhalted : (w : Work) (message : Unnumbered) → IsUnhalted w → IsUnhalted (tells w message)
tells_unhalted w message h = told w.port.session
  where
    told : (o : Option Session) → IsUnhalted (tells_in w message o)
    told None = h
    told (Some s) =
        let next : Work = with_session w (λ session. record session { number = s.number + 1 }) in
        let spent : Work = with_session w (λ session. record session { number = spent_number }) in
        let said : Action = Say (message (own_instance w.port.adjacency) (peer_instance w.port.adjacency) s.number) in
        on_both IsUnhalted (nat_lt s.number last_number) (with_action next said) spent
        (acts_unhalted next said tt (session_unhalted w (λ session. record session { number = s.number + 1 }) h)) (session_unhalted w (λ session. record session { number = spent_number }) h)

-- a session is there in Estab alone
no_session : (o : Option Session) (state : State) → is_some o ≡ is_estab state → is_spent o ≡ true → state ≡ Clearing → ⊥
no_session None state same spent clearing = absurd (cc spent)
no_session (Some s) state same spent clearing = absurd (cc (same ∙ ap is_estab clearing))

closes_unhalted : (setups : List Setup) (setup : Setup) (w : Work) → IsPort setups setup w.port → IsUnhalted w → IsUnhalted (halts_if_spent w)
closes_unhalted setups setup w port h = by_test (is_spent w.port.session) refl
  where
    by_test : (b : Bool) → is_spent w.port.session ≡ b → IsUnhalted (if b then halts w else w)
    by_test true spent = halts_unhalted w (no_session w.port.session w.port.adjacency.state port.session spent) h
    by_test false left = h

-- *The side*: one in Clearing answers nothing
turned : (side : Side Peer) (step : sides.Step Peer) → IsSide side → IsTurn side step → IsTurned side step
turned side step h (hears source hello) = received_turns side (heard_from source hello) same_peer h
turned side step h ages = ticked_turns side h

module _ (setup : Setup) (w : Work) (live : w.halted ≡ false) (side : Side Peer) (next : ℕ) (keeps : Every WithdrawsNone w.actions) where
  abbrev now : Work
  now = record w { port = record w.port { adjacency = side } }

  stays_live : IsUnhalted now
  stays_live = record { apart = λ e. absurd (cc (sym e ∙ live)); keeps = keeps }

  opens_unhalted : (v : Work) → IsUnhalted v → IsUnhalted (opens setup v)
  opens_unhalted v h = acts_unhalted (record v { port = record v.port { session = Some (first_session setup) } }) (Note (Opened setup.node setup.port)) tt (record { apart = h.apart; keeps = h.keeps })

  answered : (answer : Answer (Said Peer) Peer) → (side.state ≡ Clearing → answer ≡ Quiet) → IsUnhalted (answers setup now (ifmp_answer next answer))
  answered Quiet quiet = stays_live
  answered (Send message) quiet = acts_unhalted now (Say (Adjacency (hello_of next message))) tt stays_live
  answered (Open None own) quiet = opens_unhalted now stays_live
  answered (Open (Some message) own) quiet = opens_unhalted (with_action now (Say (Adjacency (hello_of next message)))) (acts_unhalted now (Say (Adjacency (hello_of next message))) tt stays_live)
  answered Reset quiet = halts_unhalted now (λ clearing. absurd (cc (quiet clearing))) stays_live

-- *Each step*
module _ (setups : List Setup) (setup : Setup) (linked : at setup_port setup.port.0 setups ≡ Some setup) (desk : Desk) where
  step_unhalted : (v w : Work) → Step setup desk v w → IsWork setups setup v → IsUnhalted v → IsUnhalted w
  step_unhalted v w (greeting u hello) k h = acts_unhalted u (Say (Adjacency hello)) tt h
  step_unhalted v w (telling u message told) k h = tells_unhalted u message h
  step_unhalted v w (closing u) k h = closes_unhalted setups setup u k.port h
  step_unhalted v w (noting u input output) k h = acts_unhalted u (Note (Join setup.node setup.port (number_of_channel input.channel) output.port (number_of_channel output.channel))) tt h
  step_unhalted v w (turning u step live turn) k h =
      answered setup u live step.side (option_map_or (λ (s : Session). s.expected) u.port.session 1) h.keeps step.answer
      (λ clearing. (quiet_turn u.port.adjacency step turn ((turned u.port.adjacency step k.port.side turn).again clearing)).answer)
  step_unhalted v w (heard u) k h = record { apart = h.apart; keeps = h.keeps }
  step_unhalted v w (minding u change keeps) k h = session_unhalted u change h
  step_unhalted v w (relabelling u before after found keeps) k h = session_unhalted u (λ s. record s { labels = put label_number after s.labels }) h
  step_unhalted v w (wiring u s flow number session spare inside room alive) k h =
      let label : Label = record { number = number; state = Wiring; flow = flow; idle = 0; ticks = 0; join = None } in
      acts_unhalted (with_new_label u label) (Ask (AddBranch (label_end setup.port number) (control_end setup.port number)) false) tt
      (session_unhalted u (λ s. record s { labels = entered (key_le label_number) label s.labels }) h)
  step_unhalted v w (binding u label found is) k h = acts_unhalted (with_label u (record label { state = Offered })) (Note (Bind setup.node setup.port label.number label.flow)) tt
      (session_unhalted u (λ s. record s { labels = put label_number (record label { state = Offered }) s.labels }) h)
  step_unhalted v w (quitting u label last found is) k h = acts_unhalted (with_label u (record label { state = Wired })) (CutChain label.number) tt
      (session_unhalted u (λ s. record s { labels = put label_number (record label { state = Wired }) s.labels }) h)
  step_unhalted v w (unwiring u number label found) k h =
      let input : End = label_end setup.port number in
      on_both IsUnhalted (on_input (desk_after desk u) input || has_room desk u) (with_action u (Ask (DeleteTree input) (on_input (desk_after desk u) input))) u
      (acts_unhalted u (Ask (DeleteTree input) (on_input (desk_after desk u) input)) tt h) h
  step_unhalted v w (freeing u label found is frees) k h = acts_unhalted (without_label u label.number) (Note (Free setup.node setup.port label.number)) tt
      (session_unhalted u (λ s. record s { labels = without label_number label.number s.labels }) h)
  step_unhalted v w (accepting u) k h = record { apart = h.apart; keeps = h.keeps }
  step_unhalted v w (granting u s label flow lifetime session inside none few lives room alive) k h =
      let grants : List Grant = u.port.grants ++ record { label = label; flow = flow; lifetime = lifetime; state = Idle } ∷ [] in
      acts_unhalted (with_grants (accepts u) grants) (Ask (AddBranch (control_end setup.port label) (label_end setup.port label)) false) tt
      (grants_unhalted (accepts u) grants (record { apart = h.apart; keeps = h.keeps }))
  step_unhalted v w (regranting u before after found keeps owes) k h = grants_unhalted u (put grant_label after u.port.grants) h
  step_unhalted v w (starting u grant found is) k h = grants_unhalted u (put grant_label (record grant { state = ByController }) u.port.grants) h
  step_unhalted v w (ending u grant found none) k h = grants_unhalted u (without grant_label grant.label u.port.grants) h
  step_unhalted v w (steps_of.taking_back u input output joined) k h = acts_unhalted u (TakeBack input output) tt h

  record Both (w : Work) : Type 0 where
    kept : IsWork setups setup w
    unhalted : IsUnhalted w

  -- and every rule
  pub goes_unhalted : (v w : Work) → Goes setup desk v w → IsWork setups setup v → IsUnhalted v → IsUnhalted w
  goes_unhalted v w goes k h = (let both : Both w = goes_keeps setup desk Both
      (λ x y step b. record { kept = step_kept setups setup linked desk x y step b.kept; unhalted = step_unhalted x y step b.kept b.unhalted }) goes (record { kept = k; unhalted = h }) in both.unhalted)
