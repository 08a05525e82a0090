-- what the switch says of a request of its own leaves a port in touch

use Rattle.std.proofs.Common.{◌≡◌, ℕ, ◌≤◌, Bool, true, false, true≢false, List, [], ◌∷◌, ◌++◌, Option, None, Some, refl, sym, ◌∙◌, ap, subst, arith, if◌then◌else◌, fold, length}
use Rattle.std.specs.Prelude.{◌==◌, ◌&&◌, nat_lt}
use Rattle.std.specs.Option.{option_map_or}
use Rattle.std.proofs.lemmas.Bool.Decides.{nat_tests}
use Rattle.world_model.specs.Words.{PortNo, Addr, Request, RouteChange, is_estab, is_clearing, is_spent, last_number, Setup, Session, halts, halts_if_spent, Linked, linked_at, with_linked, begins, at_port, releases, resets_spent, causes_in_estab, causes, may_clear, awaits_nothing, clears_of, clears_port, clears, changed_joins, takes_join_back, begins_change, takes_change, may_take, takes_each, takes_changes}
use Rattle.world_model.specs.Controller.{Acted, ports_of}
use Rattle.world_model.specs.Joins.{output_joined}
use Rattle.world_model.specs.Meeting.{takes_success}
use Rattle.world_model.specs.ifmp_wire.declared.message.Message.{Message}
use Rattle.world_model.specs.port_model.Answers.{done}
use Rattle.world_model.specs.port_model.Messages.{is_up}
use Rattle.world_model.specs.port_model.Port.{Port}
use Rattle.world_model.specs.port_model.Resets.{cleared}
use Rattle.law_port_facts.proofs.Keyed.{on_both, on_each}
use Rattle.law_live_nodes.specs.Law.{told_by}
use Rattle.law_live_links.specs.Law.{EndOfLink, number_of, working}
use Rattle.law_live_worlds.specs.Law.{end_of}
use Rattle.law_live_others.specs.Law.{IsUp}
use Rattle.law_live_others.proofs.Working.{own_place}
use Rattle.law_live_touch.specs.Law.{TouchOn}
use Rattle.law_live_touching.specs.Law.{TouchesAt}
use Rattle.law_live_touching.proofs.Staying.{Has, Keeps, keeps_same, keeps_then, keeps_fold, keeps_put, back_keeps, LeavesSame, rule_keeps}
use Rattle.law_live_touching.proofs.Ports.{kept_touches, work_touches}

-- *A port as it is*, which isn't in Clearing, and whose numbers aren't spent
module _ (port : PortNo) (setup : Setup) (p : Port) (address : Addr) where
  abbrev Stays : Acted → Acted → Type 0
  Stays = Keeps port setup p address

  -- it isn't reset where joins were released
  module _ (low : number_of p ≤ last_number) where
    unspent : (o : Option Session) → option_map_or (λ (s : Session). s.number) o 0 ≤ last_number → is_spent o ≡ false
    unspent None low_then = refl
    unspent (Some s) low_then = below s.number last_number low_then
      where
        below : (n last : ℕ) → n ≤ last → nat_lt last n ≡ false
        below n last least = grind (arith, nat_tests)

    spent_keeps : (a : Acted) (q : PortNo) → Stays a (resets_spent a q)
    spent_keeps a q = rule_keeps port setup p address a q (λ s desk v. halts_if_spent v) own
      where
        own : (linked : Linked) → linked_at a.controller q ≡ Some linked → linked.port ≡ p → LeavesSame port setup p address (halts_if_spent (begins a linked))
        own linked found is = subst (LeavesSame port setup p address) (sym still) (record { same_port = is; acts = tt })
          where
            none : is_spent linked.port.session ≡ false
            none = unspent linked.port.session (subst (λ (x : Port). number_of x ≤ last_number) (sym is) low)

            still : halts_if_spent (begins a linked) ≡ begins a linked
            still = ap (λ (b : Bool). if b then halts (begins a linked) else begins a linked) none

    pub spent_stays : (a : Acted) → Stays a (fold resets_spent a (ports_of a.controller))
    spent_stays a = keeps_fold port setup p address resets_spent spent_keeps (ports_of a.controller) a

  -- it isn't cleared, and changes of routes take joins back
  module _ (clear : is_clearing p.adjacency.state ≡ false) where
    clear_keeps : (a : Acted) (q : PortNo) → Stays a (clears_port a q)
    clear_keeps a q = by (linked_at a.controller q) refl
      where
        first : (x y z : Bool) → ((x && y) && z) ≡ true → x ≡ true
        first true y z e = refl
        first false y z e = absurd (cc e)

        by : (o : Option Linked) → linked_at a.controller q ≡ o → Stays a (clears_of a o)
        by None found = keeps_same port setup p address a a refl refl refl
        by (Some linked) found = on_each (Stays a) (may_clear a.controller linked) (with_linked a (record linked { port = cleared linked.port })) a
            (λ may. keeps_put port setup p address a (with_linked a (record linked { port = cleared linked.port })) linked (record linked { port = cleared linked.port }) (own_place a q linked found) refl
            (λ e is. absurd (true≢false (sym (first (is_clearing linked.port.adjacency.state) (length linked.port.grants == 0)
            ((a.controller.has_met && is_up a.controller.desk.rows linked.setup.port) && awaits_nothing a.controller linked.setup.port) may)
            ∙ (ap (λ (x : Port). is_clearing x.adjacency.state) is ∙ clear)))) refl refl refl)
            (λ no. keeps_same port setup p address a a refl refl refl)

    begins_keeps : (a : Acted) (change : RouteChange) → Stays a (begins_change a change)
    begins_keeps a change =
        let begun : Acted = record a { controller = record a.controller { is_begun = true } } in
        on_both (Stays a) a.controller.is_begun a (fold takes_join_back begun (changed_joins a.controller change)) (keeps_same port setup p address a a refl refl refl)
        (keeps_then port setup p address a begun (fold takes_join_back begun (changed_joins a.controller change)) (keeps_same port setup p address a begun refl refl refl)
        (keeps_fold port setup p address takes_join_back (λ b join. back_keeps port setup p address b join.input (output_joined join)) (changed_joins a.controller change) begun))

    each_keeps : (changes : List RouteChange) (a : Acted) → Stays a (takes_each a changes)
    each_keeps [] a = keeps_same port setup p address a a refl refl refl
    each_keeps (change ∷ later) a =
        let begun : Acted = begins_change a change in
        on_both (Stays a) (may_take begun.controller change) (takes_each (takes_change begun change later) later) begun
        (keeps_then port setup p address a begun (takes_each (takes_change begun change later) later) (begins_keeps a change)
        (keeps_then port setup p address begun (takes_change begun change later) (takes_each (takes_change begun change later) later)
        (keeps_same port setup p address begun (takes_change begun change later) refl refl refl) (each_keeps later (takes_change begun change later))))
        (begins_keeps a change)

    pub behind_keeps : (a : Acted) → Stays a (takes_changes (clears a))
    behind_keeps a = keeps_then port setup p address a (clears a) (takes_changes (clears a)) (keeps_fold port setup p address clears_port clear_keeps (ports_of a.controller) a)
        (on_both (Stays (clears a)) (clears a).controller.has_met (takes_each (clears a) (clears a).controller.waiting) (clears a)
        (each_keeps (clears a).controller.waiting (clears a)) (keeps_same port setup p address (clears a) (clears a) refl refl refl))

-- *A port in touch*, as it is
pub as_it_is : (a : Acted) (port : PortNo) (said : List Message) (other : EndOfLink) (t : TouchesAt a port said other)
    → Has port t.linked.setup t.linked.port t.linked.port.adjacency.own.address a
as_it_is a port said other t = record { linked = t.linked; of_port = t.of_port; setup_is = refl; port_is = refl; address_is = sym t.address }

pub touches_behind : (a : Acted) (port : PortNo) (said : List Message) (other : EndOfLink) → TouchesAt a port said other → IsUp (takes_changes (clears a))
    → TouchesAt (takes_changes (clears a)) port said other
touches_behind a port said other t up =
    let kept : Keeps port t.linked.setup t.linked.port t.linked.port.adjacency.own.address a (takes_changes (clears a)) =
    behind_keeps port t.linked.setup t.linked.port t.linked.port.adjacency.own.address (ap is_clearing t.touch.met.one_is_up) a in
    kept_touches (takes_changes (clears a)) port t.linked said other t.touch (kept.has up (as_it_is a port said other t))

-- *What a success makes of its port*, which says this
pub record Does (one other : EndOfLink) (request : Request) (messages : List Message) (instances : ℕ) : Type 0 where
  pub on : TouchOn one other (done one.setup (working instances one) request)
  pub tells : told_by (done one.setup (working instances one) request).actions ≡ messages

-- *A success* of a request that releases no input, and is told to the port
module _ (a : Acted) (port : PortNo) (request : Request) (messages said : List Message) (other : EndOfLink) (touches : TouchesAt a port said other)
    (low : number_of touches.linked.port ≤ last_number) (released : releases a request ≡ fold resets_spent a (ports_of a.controller))
    (tells : (r : Acted) → causes_in_estab r request ≡ at_port r port (λ s desk v. done s v request))
    (does : (instances : ℕ) → Does (end_of touches.linked said) other request messages instances) where
  abbrev ready : Acted
  ready = fold resets_spent a (ports_of a.controller)

  abbrev ItHas : Acted → Type 0
  ItHas = Has port touches.linked.setup touches.linked.port touches.linked.port.adjacency.own.address

  spent_first : Keeps port touches.linked.setup touches.linked.port touches.linked.port.adjacency.own.address a ready
  spent_first = spent_stays port touches.linked.setup touches.linked.port touches.linked.port.adjacency.own.address low a

  told_touches : ItHas ready → IsUp (causes_in_estab ready request) → TouchesAt (causes_in_estab ready request) port (said ++ messages) other
  told_touches has up = subst (λ (b : Acted). IsUp b → TouchesAt b port (said ++ messages) other) (sym (tells ready)) told up
    where
      here : TouchesAt ready port said other
      here = kept_touches ready port touches.linked said other touches.touch has

      its : Does (end_of has.linked said) other request messages ready.numbers.instances
      its = subst (λ (e : EndOfLink). Does e other request messages ready.numbers.instances) (λ i. record { setup = sym has.setup_is i; port = sym has.port_is i; said = said }) (does ready.numbers.instances)

      told : IsUp (at_port ready port (λ s desk v. done s v request)) → TouchesAt (at_port ready port (λ s desk v. done s v request)) port (said ++ messages) other
      told = work_touches ready port (λ s desk v. done s v request) has.linked has.of_port said (said ++ messages) other other here.touch refl here.address
          (ap (λ more. said ++ more) its.tells) its.on

  pub success_touches : IsUp (takes_success a request) → TouchesAt (takes_success a request) port (said ++ messages) other
  success_touches up = subst (λ (r : Acted). IsUp (takes_changes (clears (causes r request))) → TouchesAt (takes_changes (clears (causes r request))) port (said ++ messages) other)
      (sym released) last up
    where
      in_estab : (b : Bool) → is_estab ready.controller.adjacency.state ≡ b → IsUp (if b then causes_in_estab ready request else ready)
          → TouchesAt (if b then causes_in_estab ready request else ready) port (said ++ messages) other
      in_estab true e caused_up = told_touches (spent_first.has e (as_it_is a port said other touches)) caused_up
      in_estab false e caused_up = absurd (true≢false (sym caused_up ∙ e))

      -- the node was up behind what the answer caused
      was_up : IsUp (takes_changes (clears (causes ready request))) → IsUp (causes ready request)
      was_up last_up = (behind_keeps port touches.linked.setup touches.linked.port touches.linked.port.adjacency.own.address (ap is_clearing touches.touch.met.one_is_up) (causes ready request)).up last_up

      last : IsUp (takes_changes (clears (causes ready request))) → TouchesAt (takes_changes (clears (causes ready request))) port (said ++ messages) other
      last last_up = touches_behind (causes ready request) port (said ++ messages) other (in_estab (is_estab ready.controller.adjacency.state) refl (was_up last_up)) last_up
