-- what a change of its session, and an action, make of a port at work that hasn't asked to be reset

use Rattle.std.proofs.Common.{◌≡◌, Bool, false, List, [], ◌∷◌, ◌++◌, Some, ◌∙◌, ap, if◌then◌else◌}
use Rattle.std.specs.Option.{option_map}
use Rattle.port_model.specs.Words.{Session, Work, with_session}
use Rattle.port_model.specs.Port.{with_action}
use Rattle.port_model.specs.declared.action.Action.{Action}

module _ (w : Work) (going : w.halted ≡ false) where
  module _ (change : Session → Session) where
    changed_now : Work
    changed_now = record w { port = record w.port { session = option_map change w.port.session } }

    pub changed_going : (with_session w change).halted ≡ false
    changed_going = ap (λ (b : Bool). (if b then w else record w { port = record w.port { session = option_map change w.port.session } }).halted) going ∙ going

    pub changed_actions : (with_session w change).actions ≡ w.actions
    changed_actions = ap (λ (b : Bool). (if b then w else record w { port = record w.port { session = option_map change w.port.session } }).actions) going

    pub changed_session : (s : Session) → w.port.session ≡ Some s → (with_session w change).port.session ≡ Some (change s)
    changed_session s is_open =
        ap (λ (b : Bool). (if b then w else record w { port = record w.port { session = option_map change w.port.session } }).port.session) going
        ∙ ap (option_map change) is_open

  module _ (action : Action) where
    pub acts_going : (with_action w action).halted ≡ false
    acts_going = ap (λ (b : Bool). (if b then w else record w { actions = w.actions ++ action ∷ [] }).halted) going ∙ going

    pub acts_more : (with_action w action).actions ≡ w.actions ++ action ∷ []
    acts_more = ap (λ (b : Bool). (if b then w else record w { actions = w.actions ++ action ∷ [] }).actions) going

  -- *In this session*, with these actions
  abbrev pub in_session : Session → List Action → Work
  in_session s actions = record w { port = record w.port { session = Some s }; actions = actions }

  pub open_in : (s : Session) → w.port.session ≡ Some s → w ≡ in_session s w.actions
  open_in s is_open = λ i. record w { port = record w.port { session = is_open i } }

  pub changes_in : (s : Session) (actions : List Action) (change : Session → Session) → with_session (in_session s actions) change ≡ in_session (change s) actions
  changes_in s actions change = ap (λ (b : Bool). if b then in_session s actions else in_session (change s) actions) going

  pub acts_in : (s : Session) (actions : List Action) (action : Action) → with_action (in_session s actions) action ≡ in_session s (actions ++ action ∷ [])
  acts_in s actions action = ap (λ (b : Bool). if b then in_session s actions else in_session s (actions ++ action ∷ [])) going
