-- the switch's success of a label's branch, or of a grant's, at a port that binds

use Rattle.std.proofs.Common.{◌≡◌, ℕ, ◌≤◌, ◌<◌, Bool, true, false, true≢false, List, [], ◌∷◌, ◌++◌, Option, None, Some, refl, sym, ◌∙◌, ap, subst, arith, if◌then◌else◌, fold, filter, map, length}
use Rattle.std.specs.Prelude.{◌==◌, ◌&&◌, nat_lt}
use Rattle.std.specs.Option.{option_map_or}
use Rattle.std.proofs.lemmas.Bool.Decides.{nat_tests}
use Rattle.world_model.specs.Words.{PortNo, Peer, Side, End, Action, Note, Say, Record, Request, AddBranch, RouteChange, label_end, control_end, is_estab, is_clearing, is_spent, last_number, at, label_number_of, Done, answered, after_answer, Setup, home_of, Label, Wiring, label_number, labels_of, label_at, Grant, GrantState, Idle, ByController, ByInput, Leaving, grant_label, grant_on, Session, Work, halts, halts_if_spent, started, started_in, redirect, Linked, linked_at, port_key, with_linked, with_desk, begins, at_port, joins_of, releases_input, releases, resets_spent, causes_in_estab, causes, tells_port, may_clear, awaits_nothing, clears_of, clears_port, clears, changed_joins, takes_join_back, begins_change, takes_change, may_take, takes_each, takes_changes, takes_answer}
use Rattle.world_model.specs.Controller.{Acted, ports_of}
use Rattle.world_model.specs.Gsmp.{message_comes}
use Rattle.world_model.specs.Joins.{Join, output_joined}
use Rattle.world_model.specs.Meeting.{takes_success}
use Rattle.world_model.specs.gsmp_wire.declared.message.Message.{Message as GsmpMessage}
use Rattle.world_model.specs.gsmp_wire.declared.message.Message.TheVariants as messages
use Rattle.world_model.specs.ifmp_wire.declared.message.Message.{Message}
use Rattle.world_model.specs.port_model.Answers.{done}
use Rattle.world_model.specs.port_model.Messages.{is_up}
use Rattle.world_model.specs.port_model.Port.{Port}
use Rattle.world_model.specs.port_model.Requests.{leads_home}
use Rattle.world_model.specs.port_model.Resets.{cleared}
use Rattle.law_port_facts.specs.ordered_lists.Ordered.{Every}
use Rattle.law_port_facts.proofs.Keyed.{on_both, on_each, at_key}
use Rattle.law_live_nodes.specs.Law.{told_by}
use Rattle.law_live_links.specs.Law.{EndOfLink, number_of, working}
use Rattle.law_live_links.proofs.Resting.{by_session}
use Rattle.law_live_unseen.specs.Law.{SeenLabel, seen_label, AreAlike}
use Rattle.law_live_unseen.proofs.Alike.{FoundAlike, like_found, label_key}
use Rattle.law_live_unseen.proofs.Rules.{grants_are_started_unseen}
use Rattle.law_live_ports.proofs.Keeping.{alike_itself}
use Rattle.law_live_worlds.specs.Law.{end_of}
use Rattle.law_live_others.specs.Law.{IsAlikeAt, IsUp}
use Rattle.law_live_others.proofs.Leaving.{Terms, Leaves, leaves_same, leaves_then, leaves_fold, leaves_put}
use Rattle.law_live_others.proofs.Settling.{anyhow}
use Rattle.law_live_others.proofs.Working.{IsAct, IsUnseen, own_place, back_leaves, rule_leaves}
use Rattle.law_live_bindings.specs.Law.{AreBinding, BindOn, label_branch, grant_branch, told_of}
use Rattle.law_live_bindings.proofs.Offering.{offer_made, offers_keep_binding}
use Rattle.law_live_bound.specs.Law.{BindsAt, IsSuccess, LabelBranchesKeepBinding, GrantBranchesKeepBinding}
use Rattle.law_live_bound.proofs.Ports.{alike_binds, rule_binds}

-- *A port whose numbers aren't spent* isn't reset where joins were released
abbrev pub unspent : PortNo → Terms
unspent port = record {
  port = port;
  is = λ p. number_of p ≤ last_number;
  has = λ ports. Unit {0};
  stays = λ one next alike is. subst (λ n. n ≤ last_number) (sym alike.number) is;
  placed = λ new ports has. tt;
}

spent_unseen : (p : Port) (instances : ℕ) → number_of p ≤ last_number → IsUnseen p (halts_if_spent (record { port = p; actions = []; halted = false; instances = instances }))
spent_unseen p instances low = subst (λ (b : Bool). IsUnseen p (if b then halts w else w)) (sym (by p.session low)) (record { alike = alike_itself p; acts = tt })
  where
    w : Work
    w = record { port = p; actions = []; halted = false; instances = instances }

    by : (o : Option Session) → option_map_or (λ (s : Session). s.number) o 0 ≤ last_number → is_spent o ≡ false
    by None low = refl
    by (Some s) low = below s.number last_number low
      where
        below : (n last : ℕ) → n ≤ last → nat_lt last n ≡ false
        below n last low = grind (arith, nat_tests)

spent_leaves : (port : PortNo) (a : Acted) (q : PortNo) → Leaves (unspent port) a (resets_spent a q)
spent_leaves port a q = rule_leaves (unspent port) a q (λ setup desk v. halts_if_spent v) (λ l found key is. spent_unseen l.port a.numbers.instances is)

-- *A new branch* releases no input
none_released : (input output : End) (inputs : List End) → filter (λ (x : End). leads_home x (home_of x) (AddBranch input output)) inputs ≡ []
none_released input output [] = refl
none_released input output (x ∷ inputs) = none_released input output inputs

module _ (port : PortNo) (input output : End) (a : Acted) where
  abbrev pub spent_reset : Acted
  spent_reset = fold resets_spent a (ports_of a.controller)

  pub releases_none : releases a (AddBranch input output) ≡ spent_reset
  releases_none = ap (λ (inputs : List End). fold resets_spent (fold releases_input a inputs) (ports_of (fold releases_input a inputs).controller)) (none_released input output (map (λ (join : Join). join.input) (joins_of a.controller)))

  pub spent_left : Leaves (unspent port) a spent_reset
  spent_left = leaves_fold (unspent port) resets_spent (spent_leaves port) (ports_of a.controller) a

-- *A port that isn't in Clearing* isn't cleared, and changes of routes take joins back
abbrev clear : PortNo → Terms
clear port = record {
  port = port;
  is = λ p. is_clearing p.adjacency.state ≡ false;
  has = λ ports. Unit {0};
  stays = λ one next alike is. ap (λ (side : Side Peer). is_clearing side.state) alike.adjacency ∙ is;
  placed = λ new ports has. tt;
}

module _ (port : PortNo) where
  abbrev t : Terms
  t = clear port

  clear_leaves : (a : Acted) (q : PortNo) → Leaves t a (clears_port a q)
  clear_leaves a q = by (linked_at a.controller q) refl
    where
      first : (x y z : Bool) → ((x && y) && z) ≡ true → x ≡ true
      first true y z e = refl
      first false y z e = absurd (cc e)

      by : (o : Option Linked) → linked_at a.controller q ≡ o → Leaves t a (clears_of a o)
      by None found = leaves_same t a a refl refl refl
      by (Some linked) found = on_each (Leaves t a) (may_clear a.controller linked) (with_linked a (record linked { port = cleared linked.port })) a
          (λ may. leaves_put t a (with_linked a (record linked { port = cleared linked.port })) linked (record linked { port = cleared linked.port }) (own_place a q linked found) refl
          (λ same is. absurd (cc (sym (first (is_clearing linked.port.adjacency.state) (length linked.port.grants == 0)
          ((a.controller.has_met && is_up a.controller.desk.rows linked.setup.port) && awaits_nothing a.controller linked.setup.port) may) ∙ is))) refl refl refl)
          (λ no. leaves_same t a a refl refl refl)

  begins_leaves : (a : Acted) (change : RouteChange) → Leaves t a (begins_change a change)
  begins_leaves a change =
      let begun : Acted = record a { controller = record a.controller { is_begun = true } } in
      on_both (Leaves t a) a.controller.is_begun a (fold takes_join_back begun (changed_joins a.controller change)) (leaves_same t a a refl refl refl)
      (leaves_then t a begun (fold takes_join_back begun (changed_joins a.controller change)) (leaves_same t a begun refl refl refl)
      (leaves_fold t takes_join_back (λ b join. back_leaves t b join.input (output_joined join)) (changed_joins a.controller change) begun))

  each_leaves : (changes : List RouteChange) (a : Acted) → Leaves t a (takes_each a changes)
  each_leaves [] a = leaves_same t a a refl refl refl
  each_leaves (change ∷ later) a =
      let begun : Acted = begins_change a change in
      on_both (Leaves t a) (may_take begun.controller change) (takes_each (takes_change begun change later) later) begun
      (leaves_then t a begun (takes_each (takes_change begun change later) later) (begins_leaves a change)
      (leaves_then t begun (takes_change begun change later) (takes_each (takes_change begun change later) later) (leaves_same t begun (takes_change begun change later) refl refl refl)
      (each_leaves later (takes_change begun change later))))
      (begins_leaves a change)

  changes_leaves : (a : Acted) → Leaves t a (takes_changes a)
  changes_leaves a = on_both (Leaves t a) a.controller.has_met (takes_each a a.controller.waiting) a (each_leaves a.controller.waiting a) (leaves_same t a a refl refl refl)

  -- *What comes behind* what an answer causes
  pub behind_leaves : (a : Acted) → Leaves t a (takes_changes (clears a))
  behind_leaves a = leaves_then t a (clears a) (takes_changes (clears a)) (leaves_fold t clears_port clear_leaves (ports_of a.controller) a) (changes_leaves (clears a))

  pub bound_behind : (a : Acted) (said : List Message) (other : EndOfLink) → BindsAt a port said other → IsUp (takes_changes (clears a)) → BindsAt (takes_changes (clears a)) port said other
  bound_behind a said other bind up =
      let left : Leaves t a (takes_changes (clears a)) = behind_leaves a in
      alike_binds bind.linked (takes_changes (clears a)) port said other bind.binding (bind.address ∙ sym left.address)
      (left.left up tt bind.linked bind.of_port (ap is_clearing bind.binding.met.one_is_up))

-- *What a success is told as*
pub told_success : (a : Acted) (message : GsmpMessage) (request : Request) (success : IsSuccess a message request)
    → message_comes a message ≡ takes_success (with_desk a (after_answer a.controller.desk (Done success.standing))) request
told_success a message request success = by message success.is
    ∙ ap (takes_success (with_desk a (after_answer a.controller.desk (Done success.standing)))) success.of_request
  where
    by : (m : GsmpMessage) → answered a.controller.desk m ≡ Done success.standing → message_comes a m ≡ takes_answer a (Done success.standing)
    by (messages.Adjacency greeting) e = absurd (cc e)
    by (messages.Branch kind result code number session input_port input output_port output branches priority) e = ap (takes_answer a) e
    by (messages.Move result code number session input_port input output_port output target_port target branches priority) e = ap (takes_answer a) e
    by (messages.Port result code number port_named session function) e = ap (takes_answer a) e
    by (messages.AllPorts result code number rows) e = ap (takes_answer a) e

-- *A success of Add Branch*, by what it makes the port do in Estab, behind the desk
module _ (a : Acted) (port : PortNo) (input output : End) (said said_then : List Message) (other : EndOfLink) (bind : BindsAt a port said other)
    (low : number_of bind.linked.port ≤ last_number) where
  abbrev request : Request
  request = AddBranch input output

  abbrev ready : Acted
  ready = spent_reset port input output a

  spent_first : Leaves (unspent port) a ready
  spent_first = spent_left port input output a

  -- in which it goes on
  abbrev GoesOn : Type 0
  GoesOn = IsUp (causes_in_estab ready request) → (left : IsAlikeAt bind.linked (linked_at ready.controller port)) → ready.controller.address ≡ a.controller.address
      → BindsAt (causes_in_estab ready request) port said_then other

  pub success_binds : GoesOn → IsUp (takes_success a request) → BindsAt (takes_success a request) port said_then other
  success_binds on up = subst (λ (r : Acted). IsUp (takes_changes (clears (causes r request))) → BindsAt (takes_changes (clears (causes r request))) port said_then other)
      (sym (releases_none port input output a)) last up
    where
      in_estab : (b : Bool) → is_estab ready.controller.adjacency.state ≡ b → IsUp (if b then causes_in_estab ready request else ready)
          → IsUp ready → BindsAt (if b then causes_in_estab ready request else ready) port said_then other
      in_estab true e caused_up ready_up = on caused_up (spent_first.left ready_up tt bind.linked bind.of_port low) spent_first.address
      in_estab false e caused_up ready_up = absurd (true≢false (sym ready_up ∙ e))

      was_up : (b : Bool) → is_estab ready.controller.adjacency.state ≡ b → IsUp (if b then causes_in_estab ready request else ready) → IsUp ready
      was_up true e caused_up = e
      was_up false e caused_up = caused_up

      last : IsUp (takes_changes (clears (causes ready request))) → BindsAt (takes_changes (clears (causes ready request))) port said_then other
      last last_up =
          let caused_up : IsUp (causes ready request) = (behind_leaves port (causes ready request)).up last_up in
          bound_behind port (causes ready request) said_then other
          (in_estab (is_estab ready.controller.adjacency.state) refl caused_up (was_up (is_estab ready.controller.adjacency.state) refl caused_up)) last_up

-- *The branch of a grant*
module _ (p : Port) (instances : ℕ) where
  abbrev w : Work
  w = record { port = p; actions = []; halted = false; instances = instances }

  abbrev idle_end : Setup → EndOfLink
  idle_end setup = record { setup = setup; port = p; said = [] }

  starts_unseen : (setup : Setup) (number : Option ℕ) → IsUnseen p (started w (grant_on p.grants number))
  starts_unseen setup None = record { alike = alike_itself p; acts = tt }
  starts_unseen setup (Some number) = record { alike = grants_are_started_unseen instances (idle_end setup) number; acts = by (at grant_label number p.grants) }
    where
      in_state : (grant : Grant) (state : GrantState) → Every IsAct (started_in w grant state).actions
      in_state grant Idle = tt
      in_state grant ByController = tt
      in_state grant (ByInput input) = tt
      in_state grant (Leaving input owed) = tt

      by : (o : Option Grant) → Every IsAct (started w o).actions
      by None = tt
      by (Some grant) = in_state grant grant.state

pub grant_branches_keep_binding : GrantBranchesKeepBinding
grant_branches_keep_binding a port message number said other bind success low up =
    subst (λ (b : Acted). IsUp b → BindsAt b port said other) (sym (told_success a message request success))
    (success_binds behind port input output said said other bind_then low goes_on) up
  where
    setup : Setup
    setup = bind.linked.setup

    input : End
    input = control_end setup.port number

    output : End
    output = label_end setup.port number

    request : Request
    request = grant_branch setup number

    behind : Acted
    behind = with_desk a (after_answer a.controller.desk (Done success.standing))

    bind_then : BindsAt behind port said other
    bind_then = record { linked = bind.linked; of_port = bind.of_port; address = bind.address; binding = bind.binding }

    r : Acted
    r = spent_reset port input output behind

    starts : Leaves (anyhow port) r (causes_in_estab r request)
    starts = rule_leaves (anyhow port) r setup.port (λ s desk v. done s v request) (λ l found key is. starts_unseen l.port r.numbers.instances l.setup (label_number_of output.channel))

    goes_on : IsUp (causes_in_estab r request) → (left : IsAlikeAt bind.linked (linked_at r.controller port)) → r.controller.address ≡ a.controller.address
        → BindsAt (causes_in_estab r request) port said other
    goes_on now left address =
        let here : BindsAt r port said other = alike_binds bind.linked r port said other bind.binding (bind.address ∙ sym address) left in
        alike_binds here.linked (causes_in_estab r request) port said other here.binding (here.address ∙ sym starts.address) (starts.left now tt here.linked here.of_port tt)

-- *The branch of a label*: what it asks is that its REDIRECT is said, and that it is bound is noted
pub offer_every : (P : Action → Type 0) → ((item : Record) → P (Note item)) → ((message : Message) → P (Say message)) → (instances : ℕ) (one other : EndOfLink) (label : Label)
    → AreBinding one other → label_at one.port label.number ≡ Some label → label.state ≡ Wiring → number_of one.port < last_number
    → Every P (done one.setup (working instances one) (label_branch one.setup label.number)).actions
offer_every P notes tells instances one other label binding held wiring left =
    by_session (λ (x : EndOfLink). AreBinding x other → label_at x.port label.number ≡ Some label → number_of x.port < last_number
    → Every P (done x.setup (working instances x) (label_branch x.setup label.number)).actions)
    (λ setup side tally s grants said b h l. subst (λ (v : Work). Every P v.actions) (sym (offer_made instances setup side tally s grants said other b label h wiring l)) (notes _, (tells _, tt)))
    one binding.one_end.in_session binding held left

-- *A port left alike* has such a label still
module _ (linked now : Linked) (setup : now.setup ≡ linked.setup) (alike : AreAlike linked.port now.port) (label : Label) (held : label_at linked.port label.number ≡ Some label) where
  pub still : FoundAlike seen_label label_number label.number (labels_of now.port) label
  still = like_found seen_label label_number label_key (λ x. refl) label.number (labels_of linked.port) (labels_of now.port) label alike.labels held

  same_number : still.found.number ≡ label.number
  same_number = ap (λ (s : SeenLabel). s.number) still.same

  pub still_held : label_at now.port still.found.number ≡ Some still.found
  still_held = ap (λ n. label_at now.port n) same_number ∙ still.there

  pub same_state : still.found.state ≡ label.state
  same_state = ap (λ (s : SeenLabel). s.state) still.same

  pub same_branch : label_branch now.setup still.found.number ≡ label_branch linked.setup label.number
  same_branch = λ i. label_branch (setup i) (same_number i)

  pub same_message : (said : List Message) (other : EndOfLink) → told_of (end_of now said) other still.found ≡ told_of (end_of linked said) other label
  same_message said other =
      λ i. redirect (setup i) (record label { number = same_number i; flow = (still.same i).flow }) (alike.adjacency i).own.instance other.port.adjacency.own.instance (alike.number i)

module _ (r : Acted) (port : PortNo) (said : List Message) (other : EndOfLink) (bind : BindsAt r port said other) (label : Label)
    (held : label_at bind.linked.port label.number ≡ Some label) (wiring : label.state ≡ Wiring) (left : number_of bind.linked.port < last_number) where
  abbrev one : EndOfLink
  one = end_of bind.linked said

  abbrev tells : Request → Acted
  tells request = at_port r port (λ setup desk v. done setup v request)

  offer_binds : IsUp (tells (label_branch bind.linked.setup label.number)) → BindsAt (tells (label_branch bind.linked.setup label.number)) port (said ++ told_of one other label ∷ []) other
  offer_binds up =
      let w : Work = done bind.linked.setup (begins r bind.linked) (label_branch bind.linked.setup label.number) in
      let on : BindOn one other w (λ actions. told_by actions ≡ told_of one other label ∷ []) = offers_keep_binding r.numbers.instances one other label bind.binding held wiring left in
      rule_binds r port (λ setup desk v. done setup v (label_branch bind.linked.setup label.number)) bind.linked bind.of_port
      said (said ++ told_of one other label ∷ []) other other bind.binding refl bind.address
      (offer_every IsAct (λ item. tt) (λ message. tt) r.numbers.instances one other label bind.binding held wiring left)
      (ap (λ messages. said ++ messages) on.acts) on.binding up

-- it is told to the port
pub told_label : (r : Acted) (port : PortNo) (linked : Linked) (number : ℕ) → port_key linked ≡ port.0 → (linked.setup.port.0 == 0) ≡ false
    → causes_in_estab r (label_branch linked.setup number) ≡ at_port r port (λ s desk v. done s v (label_branch linked.setup number))
told_label r port linked number key of_link =
    ap (λ (b : Bool). tells_port r (label_branch linked.setup number) (Some (if b then (control_end linked.setup.port number).port else linked.setup.port))) of_link
    ∙ ap (λ (p : PortNo). at_port r p (λ s desk v. done s v (label_branch linked.setup number))) own_port
  where
    own_port : linked.setup.port ≡ port
    own_port = λ i. record { 0 = key i }

pub label_branches_keep_binding : LabelBranchesKeepBinding
label_branches_keep_binding a port message label said other bind success held wiring left up =
    subst (λ (b : Acted). IsUp b → BindsAt b port said_then other) (sym (told_success a message request success))
    (success_binds behind port input output said said_then other bind_then (omega (arith, left)) goes_on) up
  where
    setup : Setup
    setup = bind.linked.setup

    input : End
    input = label_end setup.port label.number

    output : End
    output = control_end setup.port label.number

    request : Request
    request = label_branch setup label.number

    said_then : List Message
    said_then = said ++ told_of (end_of bind.linked said) other label ∷ []

    behind : Acted
    behind = with_desk a (after_answer a.controller.desk (Done success.standing))

    bind_then : BindsAt behind port said other
    bind_then = record { linked = bind.linked; of_port = bind.of_port; address = bind.address; binding = bind.binding }

    r : Acted
    r = spent_reset port input output behind

    goes_on : IsUp (causes_in_estab r request) → (now : IsAlikeAt bind.linked (linked_at r.controller port)) → r.controller.address ≡ a.controller.address
        → BindsAt (causes_in_estab r request) port said_then other
    goes_on caused_up now address = subst (λ (b : Acted). IsUp b → BindsAt b port said_then other)
        (sym (told_label r port bind.linked label.number (at_key port_key port.0 a.controller.ports bind.linked bind.of_port) bind.binding.one_end.of_link)) told caused_up
      where
        here : BindsAt r port said other
        here = alike_binds bind.linked r port said other bind.binding (bind.address ∙ sym address) now

        found : Label
        found = (still bind.linked now.after now.setup now.alike label held).found

        offered : IsUp (at_port r port (λ s desk v. done s v (label_branch now.after.setup found.number)))
            → BindsAt (at_port r port (λ s desk v. done s v (label_branch now.after.setup found.number))) port (said ++ told_of (end_of now.after said) other found ∷ []) other
        offered = offer_binds r port said other here found (still_held bind.linked now.after now.setup now.alike label held)
            (same_state bind.linked now.after now.setup now.alike label held ∙ wiring) (subst (λ n. n < last_number) (sym now.alike.number) left)

        told : IsUp (at_port r port (λ s desk v. done s v request)) → BindsAt (at_port r port (λ s desk v. done s v request)) port said_then other
        told = subst (λ (q : Request). IsUp (at_port r port (λ s desk v. done s v q)) → BindsAt (at_port r port (λ s desk v. done s v q)) port said_then other)
            (same_branch bind.linked now.after now.setup now.alike label held)
            (subst (λ (m : Message). IsUp (at_port r port (λ s desk v. done s v (label_branch now.after.setup found.number)))
            → BindsAt (at_port r port (λ s desk v. done s v (label_branch now.after.setup found.number))) port (said ++ m ∷ []) other)
            (same_message bind.linked now.after now.setup now.alike label held said other) offered)
