-- what a reset of a port asks has its reasons, and a port that is shut asks for none

use Rattle.std.proofs.Common.{◌≡◌, ℕ, Bool, true, false, List, [], ◌∷◌, ◌++◌, Option, None, Some, refl, sym, ◌∙◌, ap, subst, if◌then◌else◌, map}
use Rattle.std.specs.Prelude.{◌+◌, ◌||◌, nat_lt, flat_map}
use Rattle.std.specs.List.{list_any}
use Rattle.std.specs.Option.{option_map, option_map_or}
use Rattle.law_controller_facts.specs.world_model.Words.{PortNo, End, Peer, number_of_channel, Said, Answer, is_estab, ifmp_answer, same_end, AddBranch, DeleteTree, Bind, Free, put, without, entered, key_le, Desk, on_input, Action, Say, Ask, Note, CutChain, TakeBack, Setup, label_end, control_end, Label, Wiring, Offered, Wired, label_number, Grant, GrantState, Idle, ByController, ByInput, Leaving, grant_label, Session, Work, halts, with_session, with_label, with_new_label, without_label, with_grants, desk_with, desk_after, has_room, Unnumbered, last_number, spent_number, own_instance, is_spent, tells_in, tells, accepts, closing, left_in, left_of, taking_back_in, taking_back, withdrawing_in, withdrawing_of, withdrawing, resets}
use Rattle.law_controller_facts.specs.world_model.adjacency_table.Side as sides
use Rattle.law_controller_facts.specs.world_model.ifmp_wire.declared.message.Message.TheVariants.{Adjacency}
use Rattle.law_controller_facts.specs.world_model.link_model.declared.record.Record.TheVariants.{Join}
use Rattle.law_controller_facts.specs.ordered_lists.Ordered.{Every}
use Rattle.law_controller_facts.proofs.ordered_lists.Every.{every_join}
use Rattle.law_controller_facts.specs.world_model.port_model.Grants as grants
use Rattle.law_controller_facts.specs.world_model.port_model.Port.{Port, with_action}
use Rattle.law_controller_facts.specs.world_model.port_model.Saying.{peer_instance}
use Rattle.law_controller_facts.specs.world_model.port_model.Adjacency.{answers, steps}
use Rattle.law_controller_facts.specs.law_port_facts.Port.{IsLabel, IsPort, IsShut, IsSayable}
use Rattle.law_controller_facts.proofs.law_port_facts.Keyed.{on_both}
use Rattle.law_controller_facts.proofs.law_port_facts.Steps as steps_of
use Rattle.law_controller_facts.proofs.law_port_facts.Steps.{Step, greeting, telling, noting, turning, heard, minding, relabelling, wiring, binding, quitting, unwiring, freeing, accepting, granting, regranting, starting, ending, Goes, goes_keeps, steps_to}
use Rattle.law_controller_facts.proofs.law_port_facts.Shut.{IsQuiet, quiet_turn, goes_shut}
use Rattle.law_controller.specs.Order.{lends}
use Rattle.law_controller.proofs.Asked.{same_end_itself, MayAct, MayActs, IsNoReset, AsksNoBranch, stays_last}

module _ (setup : Setup) (Lent : End → Type 0) (Emptied : PortNo → Type 0) where
  -- what may be done whatever stands, and asks for no reset and no branch
  pub record MayAlways (action : Action) : Type 0 where
    pub may : (d : Desk) → MayAct setup Lent Emptied d action
    pub goes_on : IsNoReset setup Lent Emptied action
    pub no_branch : AsksNoBranch setup Lent Emptied action
    pub sayable : IsSayable action

  pub may_each : (xs : List Action) (d : Desk) → Every MayAlways xs → MayActs setup Lent Emptied d xs
  may_each [] d h = tt
  may_each (x ∷ xs) d h = (h.0.may d, stays_last setup Lent Emptied x xs h.0.goes_on, may_each xs (desk_with d x) h.1)

  pub closing_may : (setups : List Setup) (o : Option Session) → Every (IsLabel setups setup) (option_map_or (λ (s : Session). s.labels) o []) → Every MayAlways (closing setup o)
  closing_may setups None h = tt
  closing_may setups (Some s) h = (record { may = λ d. tt; goes_on = tt; no_branch = tt; sayable = tt }, cuts s.labels h)
    where
      cuts : (labels : List Label) → Every (IsLabel setups setup) labels → Every MayAlways (map (λ (label : Label). CutChain label.number) labels)
      cuts [] h = tt
      cuts (label ∷ labels) h = (record { may = λ d. h.0.in_range; goes_on = tt; no_branch = tt; sayable = tt }, cuts labels h.1)

  withdrawing_in_may : (label : ℕ) (state : GrantState) → Every MayAlways (withdrawing_in setup label state)
  withdrawing_in_may label Idle = (record { may = λ d. tt; goes_on = tt; no_branch = tt; sayable = tt }, tt)
  withdrawing_in_may label ByController = (record { may = λ d. tt; goes_on = tt; no_branch = tt; sayable = tt }, tt)
  withdrawing_in_may label (ByInput input) = tt
  withdrawing_in_may label (Leaving input owed) = tt

  withdrawing_may : (gs : List Grant) → Every MayAlways (withdrawing setup gs)
  withdrawing_may [] = tt
  withdrawing_may (grant ∷ gs) = every_join MayAlways (withdrawing_of setup grant) (withdrawing setup gs) (withdrawing_in_may grant.label grant.state) (withdrawing_may gs)

  taking_in_may : (grant : Grant) (state : GrantState) → ((input : End) → grants.lent_input state ≡ Some input → Lent input) → Every MayAlways (taking_back_in setup grant state)
  taking_in_may grant Idle lent = tt
  taking_in_may grant ByController lent = tt
  taking_in_may grant (ByInput input) lent = (record { may = λ d. lent input refl; goes_on = tt; no_branch = tt; sayable = tt }, tt)
  taking_in_may grant (Leaving input owed) lent = tt

  taking_may : (gs : List Grant) → ((input : End) → list_any (lends input) gs ≡ true → Lent input) → Every MayAlways (flat_map (taking_back setup) gs)
  taking_may [] lent = tt
  taking_may (grant ∷ gs) lent = every_join MayAlways (taking_back setup grant) (flat_map (taking_back setup) gs)
      (taking_in_may grant grant.state (λ input is. lent input (first (lends input grant) (list_any (lends input) gs) (ap (λ (o : Option End). option_map_or (same_end input) o false) is ∙ same_end_itself input))))
      (taking_may gs (λ input some. lent input (second (lends input grant) (list_any (lends input) gs) some)))
    where
      first : (a b : Bool) → a ≡ true → (a || b) ≡ true
      first a b e = ap (λ t. t || b) e

      second : (a b : Bool) → b ≡ true → (a || b) ≡ true
      second true b e = refl
      second false b e = e

  -- *A reset*
  pub resets_may : (setups : List Setup) (port : Port) (instances : ℕ) → IsPort setups setup port → ((input : End) → list_any (lends input) port.grants ≡ true → Lent input) → Emptied setup.port
      → Every MayAlways (resets setup (record { port = port; actions = []; halted = false; instances = instances })).actions
  resets_may setups port instances fits lent emptied = every_join MayAlways (closing setup port.session) _ (closing_may setups port.session fits.labels)
      (every_join MayAlways (withdrawing setup port.grants) _ (withdrawing_may port.grants)
      (every_join MayAlways (flat_map (taking_back setup) port.grants) _ (taking_may port.grants lent) (record { may = λ d. emptied; goes_on = tt; no_branch = tt; sayable = tt }, tt)))

  -- *A port that is shut* asks for none
  abbrev pub IsSilent : Work → Type 0
  IsSilent w = Every (IsNoReset setup Lent Emptied) w.actions

  pub acts_silent : (w : Work) (action : Action) → IsNoReset setup Lent Emptied action → IsSilent w → IsSilent (with_action w action)
  acts_silent w action other h = on_both IsSilent w.halted w (record w { actions = w.actions ++ action ∷ [] }) h (every_join (IsNoReset setup Lent Emptied) w.actions (action ∷ []) h (other, tt))

  pub session_silent : (w : Work) (change : Session → Session) → IsSilent w → IsSilent (with_session w change)
  session_silent w change h = on_both IsSilent w.halted w (record w { port = record w.port { session = option_map change w.port.session } }) h h

  pub grants_silent : (w : Work) (gs : List Grant) → IsSilent w → IsSilent (with_grants w gs)
  grants_silent w gs h = on_both IsSilent w.halted w (record w { port = record w.port { grants = gs } }) h h

  pub tells_silent : (w : Work) (message : Unnumbered) → IsSilent w → IsSilent (tells w message)
  tells_silent w message h = told w.port.session
    where
      told : (o : Option Session) → IsSilent (tells_in w message o)
      told None = h
      told (Some s) =
          let next : Work = with_session w (λ session. record session { number = s.number + 1 }) in
          let spent : Work = with_session w (λ session. record session { number = spent_number }) in
          let said : Action = Say (message (own_instance w.port.adjacency) (peer_instance w.port.adjacency) s.number) in
          on_both IsSilent (nat_lt s.number last_number) (with_action next said) spent (acts_silent next said tt (session_silent w (λ session. record session { number = s.number + 1 }) h)) (session_silent w (λ session. record session { number = spent_number }) h)

  turned_silent : (w : Work) (step : sides.Step Peer) → IsQuiet step → IsSilent w → IsSilent (steps setup w step)
  turned_silent w step q h = subst (λ (answer : Answer (Said Peer) Peer). IsSilent (answers setup (record w { port = record w.port { adjacency = step.side } }) (ifmp_answer (option_map_or (λ (s : Session). s.expected) w.port.session 1) answer))) (sym q.answer) h

  step_silent : (desk : Desk) (v w : Work) → Step setup desk v w → IsShut v.port → IsSilent v → IsSilent w
  step_silent desk v w (greeting u hello) k h = acts_silent u (Say (Adjacency hello)) tt h
  step_silent desk v w (telling u message told) k h = tells_silent u message h
  step_silent desk v w (steps_of.closing u) k h = subst (λ (o : Option Session). IsSilent (if is_spent o then halts u else u)) (sym k.session) h
  step_silent desk v w (noting u input output) k h = acts_silent u (Note (Join setup.node setup.port (number_of_channel input.channel) output.port (number_of_channel output.channel))) tt h
  step_silent desk v w (turning u step live turn) k h = turned_silent u step (quiet_turn u.port.adjacency step turn k.clearing) h
  step_silent desk v w (heard u) k h = h
  step_silent desk v w (minding u change keeps) k h = session_silent u change h
  step_silent desk v w (relabelling u before after found keeps) k h = session_silent u (λ s. record s { labels = put label_number after s.labels }) h
  step_silent desk v w (wiring u s flow number session spare inside room alive) k h =
      let label : Label = record { number = number; state = Wiring; flow = flow; idle = 0; ticks = 0; join = None } in
      acts_silent (with_new_label u label) (Ask (AddBranch (label_end setup.port number) (control_end setup.port number)) false) tt (session_silent u (λ s. record s { labels = entered (key_le label_number) label s.labels }) h)
  step_silent desk v w (binding u label found is) k h = acts_silent (with_label u (record label { state = Offered })) (Note (Bind setup.node setup.port label.number label.flow)) tt
      (session_silent u (λ s. record s { labels = put label_number (record label { state = Offered }) s.labels }) h)
  step_silent desk v w (quitting u label last found is) k h = acts_silent (with_label u (record label { state = Wired })) (CutChain label.number) tt
      (session_silent u (λ s. record s { labels = put label_number (record label { state = Wired }) s.labels }) h)
  step_silent desk v w (unwiring u number label found) k h =
      let input : End = label_end setup.port number in
      on_both IsSilent (on_input (desk_after desk u) input || has_room desk u) (with_action u (Ask (DeleteTree input) (on_input (desk_after desk u) input))) u
      (acts_silent u (Ask (DeleteTree input) (on_input (desk_after desk u) input)) tt h) h
  step_silent desk v w (freeing u label found is frees) k h = acts_silent (without_label u label.number) (Note (Free setup.node setup.port label.number)) tt (session_silent u (λ s. record s { labels = without label_number label.number s.labels }) h)
  step_silent desk v w (accepting u) k h = h
  step_silent desk v w (granting u s label flow lifetime session inside none few lives room alive) k h =
      let gs : List Grant = u.port.grants ++ record { label = label; flow = flow; lifetime = lifetime; state = Idle } ∷ [] in
      acts_silent (with_grants (accepts u) gs) (Ask (AddBranch (control_end setup.port label) (label_end setup.port label)) false) tt (grants_silent (accepts u) gs h)
  step_silent desk v w (regranting u before after found keeps owes) k h = grants_silent u (put grant_label after u.port.grants) h
  step_silent desk v w (starting u grant found is) k h = grants_silent u (put grant_label (record grant { state = ByController }) u.port.grants) h
  step_silent desk v w (ending u grant found none) k h = grants_silent u (without grant_label grant.label u.port.grants) h
  step_silent desk v w (steps_of.taking_back u input output joined) k h = acts_silent u (TakeBack input output) tt h

  record ShutSilent (w : Work) : Type 0 where
    shut : IsShut w.port
    silent : IsSilent w

  pub goes_silent : (desk : Desk) (v w : Work) → Goes setup desk v w → IsShut v.port → IsSilent v → IsSilent w
  goes_silent desk v w goes k h = (let both : ShutSilent w = goes_keeps setup desk ShutSilent
      (λ x y step b. record { shut = goes_shut setup desk x y (steps_to step) b.shut; silent = step_silent desk x y step b.shut b.silent }) goes (record { shut = k; silent = h }) in both.silent)

-- *What is left of the grants* is lent to the inputs that it was
pub left_lends : (input : End) (gs : List Grant) → list_any (lends input) (flat_map left_of gs) ≡ list_any (lends input) gs
left_lends input [] = refl
left_lends input (grant ∷ gs) = left_one grant grant.state refl (left_lends input gs)
  where
    left_one : (grant : Grant) (state : GrantState) → grant.state ≡ state → list_any (lends input) (flat_map left_of gs) ≡ list_any (lends input) gs
        → list_any (lends input) (left_in grant state ++ flat_map left_of gs) ≡ (lends input grant || list_any (lends input) gs)
    left_one grant Idle is rest = rest ∙ ap (λ (s : GrantState). option_map_or (same_end input) (grants.lent_input s) false || list_any (lends input) gs) (sym is)
    left_one grant ByController is rest = rest ∙ ap (λ (s : GrantState). option_map_or (same_end input) (grants.lent_input s) false || list_any (lends input) gs) (sym is)
    left_one grant (ByInput given) is rest = ap (λ t. same_end input given || t) rest ∙ ap (λ (s : GrantState). option_map_or (same_end input) (grants.lent_input s) false || list_any (lends input) gs) (sym is)
    left_one grant (Leaving given owed) is rest = ap (λ t. same_end input given || t) rest ∙ ap (λ (s : GrantState). option_map_or (same_end input) (grants.lent_input s) false || list_any (lends input) gs) (sym is)
