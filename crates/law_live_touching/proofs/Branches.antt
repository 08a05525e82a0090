-- the branch of a label, or of a grant, is made, or that of a label that was quit is deleted

use Rattle.std.proofs.Common.{◌≡◌, ℕ, ◌≤◌, ◌<◌, List, [], ◌∷◌, ◌++◌, append-nil, Option, None, Some, refl, sym, ◌∙◌, ap, subst, arith, fold}
use Rattle.world_model.specs.Words.{PortNo, Side, Peer, End, Request, label_end, control_end, last_number, at, label_number_of, Done, after_answer, Setup, Label, LabelState, Wiring, Offered, Recalled, Wired, label_number, label_at, Grant, GrantState, Idle, ByController, ByInput, Leaving, grant_on, Session, Work, redirect, started, started_in, port_key, with_desk, at_port, releases_input, releases, resets_spent, causes_in_estab}
use Rattle.world_model.specs.Controller.{Acted, ports_of}
use Rattle.world_model.specs.Gsmp.{message_comes}
use Rattle.world_model.specs.gsmp_wire.declared.message.Message.{Message as GsmpMessage}
use Rattle.world_model.specs.ifmp_wire.declared.message.Message.{Message}
use Rattle.world_model.specs.port_model.Answers.{done, freed, freed_in}
use Rattle.world_model.specs.port_model.Hearing.{label_by}
use Rattle.world_model.specs.port_model.Saying.{peer_instance}
use Rattle.law_port_facts.proofs.Keyed.{at_key}
use Rattle.law_live_labels.proofs.Agreed.{at_work, labels_are_offered}
use Rattle.law_live_nodes.specs.Law.{told_by}
use Rattle.law_live_links.specs.Law.{EndOfLink, number_of, working}
use Rattle.law_live_links.proofs.Resting.{end_in, by_session}
use Rattle.law_live_worlds.specs.Law.{end_of}
use Rattle.law_live_others.specs.Law.{IsUp}
use Rattle.law_live_bindings.specs.Law.{label_branch, grant_branch, told_of}
use Rattle.law_live_recalls.specs.Law.{label_tree}
use Rattle.law_live_bound.specs.Law.{IsSuccess}
use Rattle.law_live_bound.proofs.Successes.{told_success, told_label, releases_none}
use Rattle.law_live_touch.specs.Touch.{AreInTouch}
use Rattle.law_live_touch.proofs.Ends.{in_its_range}
use Rattle.law_live_touch.proofs.Steps.{offers_keep_touch, starts_keep_touch, frees_keep_touch}
use Rattle.law_live_touching.specs.Law.{TouchesAt, LabelBranchesKeepTouch, GrantBranchesKeepTouch, LabelTreesKeepTouch}
use Rattle.law_live_touching.proofs.Successes.{Does, success_touches}

-- *A label's branch*: its REDIRECT is said
module _ (instances : ℕ) (other : EndOfLink) (label : Label) (wiring : label.state ≡ Wiring) where
  offer_told : (setup : Setup) (side : Side Peer) (tally : ℕ) (s : Session) (grants : List Grant) (said : List Message) → AreInTouch (end_in setup side tally s grants said) other
      → at label_number label.number s.labels ≡ Some label → s.number < last_number
      → told_by (done setup (working instances (end_in setup side tally s grants said)) (label_branch setup label.number)).actions ≡ told_of (end_in setup side tally s grants said) other label ∷ []
  offer_told setup side tally s grants said t held left =
      ap (λ (w : Work). told_by w.actions) (labels_are_offered (record setup { least = other.setup.least; greatest = other.setup.greatest }) (at_work side tally instances s grants []) s label (record {
        working = record { of_link = t.one_end.of_link; going = refl; is_open = refl };
        in_range = in_its_range setup side tally s grants said other t label held;
        held = held;
        wiring = wiring;
        number_left = left;
      }))
      ∙ ap (λ stored. redirect setup label side.own.instance (peer_instance (record side { stored = stored })) s.number ∷ []) t.met.one_knows

  pub offer_does : (one : EndOfLink) → AreInTouch one other → label_at one.port label.number ≡ Some label → number_of one.port < last_number
      → Does one other (label_branch one.setup label.number) (told_of one other label ∷ []) instances
  offer_does one touch held left = record {
    on = offers_keep_touch instances one other label touch held wiring left;
    tells = by_session (λ (x : EndOfLink). AreInTouch x other → label_at x.port label.number ≡ Some label → number_of x.port < last_number
        → told_by (done x.setup (working instances x) (label_branch x.setup label.number)).actions ≡ told_of x other label ∷ [])
        offer_told one touch.one_end.in_session touch held left;
  }

-- *A grant's*, and that of a label that was quit: nothing is said
start_silent : (instances : ℕ) (one : EndOfLink) (o : Option Grant) → told_by (started (working instances one) o).actions ≡ []
start_silent instances one None = refl
start_silent instances one (Some grant) = in_state grant.state
  where
    in_state : (state : GrantState) → told_by (started_in (working instances one) grant state).actions ≡ []
    in_state Idle = refl
    in_state ByController = refl
    in_state (ByInput input) = refl
    in_state (Leaving input owed) = refl

pub start_does : (instances : ℕ) (one other : EndOfLink) (number : ℕ) → AreInTouch one other → Does one other (grant_branch one.setup number) [] instances
start_does instances one other number touch = record {
  on = starts_keep_touch instances one other number touch;
  tells = start_silent instances one (grant_on one.port.grants (label_number_of (label_end one.setup.port number).channel));
}

free_silent : (instances : ℕ) (one : EndOfLink) (o : Option Label) → told_by (freed one.setup (working instances one) o).actions ≡ []
free_silent instances one None = refl
free_silent instances one (Some label) = in_state label.state
  where
    in_state : (state : LabelState) → told_by (freed_in one.setup (working instances one) label state).actions ≡ []
    in_state Wiring = refl
    in_state Offered = refl
    in_state (Recalled last acknowledged) = refl
    in_state Wired = refl

pub free_does : (instances : ℕ) (one other : EndOfLink) (label : Label) → AreInTouch one other → label_at one.port label.number ≡ Some label → label.state ≡ Wired
    → Does one other (label_tree one.setup label.number) [] instances
free_does instances one other label touch held quit = record {
  on = frees_keep_touch instances one other label touch held quit;
  tells = free_silent instances one (label_by one.port (label_number_of (label_end one.setup.port label.number).channel));
}

-- *Behind the desk*
abbrev behind : (a : Acted) (message : GsmpMessage) (request : Request) → IsSuccess a message request → Acted
behind a message request success = with_desk a (after_answer a.controller.desk (Done success.standing))

told_touches : (a : Acted) (port : PortNo) (message : GsmpMessage) (request : Request) (success : IsSuccess a message request) (messages said : List Message) (other : EndOfLink)
    (touches : TouchesAt a port said other) → number_of touches.linked.port ≤ last_number
    → releases (behind a message request success) request ≡ fold resets_spent (behind a message request success) (ports_of a.controller)
    → ((r : Acted) → causes_in_estab r request ≡ at_port r port (λ s desk v. done s v request))
    → ((instances : ℕ) → Does (end_of touches.linked said) other request messages instances)
    → IsUp (message_comes a message) → TouchesAt (message_comes a message) port (said ++ messages) other
told_touches a port message request success messages said other touches low released tells does up =
    subst (λ (b : Acted). IsUp b → TouchesAt b port (said ++ messages) other) (sym (told_success a message request success))
    (success_touches (behind a message request success) port request messages said other
    (record { linked = touches.linked; of_port = touches.of_port; address = touches.address; touch = touches.touch }) low released tells does) up

-- the port goes by its own number
own_port : (a : Acted) (port : PortNo) (said : List Message) (other : EndOfLink) (touches : TouchesAt a port said other) → touches.linked.setup.port ≡ port
own_port a port said other touches = λ i. record { 0 = at_key port_key port.0 a.controller.ports touches.linked touches.of_port i }

pub label_branches_keep_touch : LabelBranchesKeepTouch
label_branches_keep_touch a port message label said other touches success held wiring left up =
    let setup : Setup = touches.linked.setup in
    let request : Request = label_branch setup label.number in
    told_touches a port message request success (told_of (end_of touches.linked said) other label ∷ []) said other touches (omega (arith, left))
    (releases_none port (label_end setup.port label.number) (control_end setup.port label.number) (behind a message request success))
    (λ r. told_label r port touches.linked label.number (at_key port_key port.0 a.controller.ports touches.linked touches.of_port) touches.touch.one_end.of_link)
    (λ instances. offer_does instances other label wiring (end_of touches.linked said) touches.touch held left) up

pub grant_branches_keep_touch : GrantBranchesKeepTouch
grant_branches_keep_touch a port message number said other touches success low up =
    let setup : Setup = touches.linked.setup in
    let request : Request = grant_branch setup number in
    subst (λ (messages : List Message). TouchesAt (message_comes a message) port messages other) (append-nil said)
    (told_touches a port message request success [] said other touches low
    (releases_none port (control_end setup.port number) (label_end setup.port number) (behind a message request success))
    (λ r. ap (λ (q : PortNo). at_port r q (λ s desk v. done s v request)) (own_port a port said other touches))
    (λ instances. start_does instances (end_of touches.linked said) other number touches.touch) up)

pub label_trees_keep_touch : LabelTreesKeepTouch
label_trees_keep_touch a port message label said other touches success none held quit low up =
    let setup : Setup = touches.linked.setup in
    let request : Request = label_tree setup label.number in
    let b : Acted = behind a message request success in
    subst (λ (messages : List Message). TouchesAt (message_comes a message) port messages other) (append-nil said)
    (told_touches a port message request success [] said other touches low
    (ap (λ (inputs : List End). fold resets_spent (fold releases_input b inputs) (ports_of (fold releases_input b inputs).controller)) none)
    (λ r. ap (λ (q : PortNo). at_port r q (λ s desk v. done s v request)) (own_port a port said other touches))
    (λ instances. free_does instances (end_of touches.linked said) other label touches.touch held quit) up)
