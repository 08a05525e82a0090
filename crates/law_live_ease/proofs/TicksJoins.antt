-- what a controller at peace asks in its tick are joins; the records that it has of its switch, and the changes of routes that wait,
-- stay as they were, and each grant is used still

use Rattle.std.proofs.Common.{◌≡◌, ◌≢◌, ℕ, ◌≤◌, not, List, [], ◌∷◌, length, fold, filter, Option, None, Some, refl, sym, ◌∙◌, ap, subst, arith}
use Rattle.std.specs.Prelude.{flat_map}
use Rattle.std.specs.Option.{option_map, option_map_or}
use Rattle.world_model.specs.Words.{PortNo, End, home_of, label_end, withdraws, at, IsLinkPort, Request, MoveBranch, Desk, Standing, Setup, Grant, Idle, ByInput, grant_label, Controller, Linked, linked_at, port_key, inputs_at, tries_join}
use Rattle.world_model.specs.port_model.Desk.{asked}
use Rattle.world_model.specs.Controller.{Acted}
use Rattle.world_model.specs.Ticks.{ticks}
use Rattle.law_live_journeys.specs.law_run_facts.ordered_lists.Ordered.{Every}
use Rattle.law_live_journeys.proofs.law_run_facts.ordered_lists.Every.{every_map2, every_mapped, every_join}
use Rattle.law_live_journeys.specs.law_run_facts.law_port_facts.Port.{setup_port, IsLabelEnd, IsShaped, asks_ports, empties_control, empties_port, opens_input, opens_output, leads_label, leads_grant, joins_label, parts_label, frees_label}
use Rattle.law_live_journeys.proofs.law_run_facts.law_port_facts.Keyed.{by_eq, at_every, put_every}
use Rattle.law_live_journeys.proofs.law_run_facts.law_controller_facts.Joining.{every_filter}
use Rattle.law_live_journeys.specs.law_live_nodes.Law.{IsPortAtPeace, IsNodeAtPeace, ticked_port}
use Rattle.law_live_journeys.proofs.law_live_nodes.Ports.{nodes_tick_on}
use Rattle.law_live_journeys.specs.law_live_mirrored_ticks.Law.{MayTick}
use Rattle.law_live_journeys.proofs.law_live_joining.Turns.{Entered, Turned, passed, joins_one}
use Rattle.law_live_journeys.proofs.law_live_joining.Trying.{HasTurns, turns_then, its_turn}
use Rattle.law_live_journeys.proofs.law_live_joining.Aging.{port_grants, at_ticked}
use Rattle.law_live_journeys.proofs.law_live_joining.Ticking.{t, rest, left, has_turns}
use Rattle.law_live_journeys.specs.law_live_answers.Law.{IsJoin}

-- *A move* of an input that leads to the control link
pub record IsMove (request : Request) : Type 0 where
  pub input : End
  pub to : End
  pub is : request ≡ MoveBranch input (home_of input) to

abbrev pub AreMoves : List Standing → Type 0
AreMoves standing = Every (λ (s : Standing). IsMove s.request) standing

-- *Grants are used*: none is new
abbrev pub IsUsed : Grant → Type 0
IsUsed grant = grant.state ≢ Idle

abbrev pub grants_at : Controller → PortNo → List Grant
grants_at c port = option_map_or (λ (linked : Linked). linked.port.grants) (linked_at c port) []

abbrev pub AreUsed : Controller → Type 0
AreUsed c = (port : PortNo) → Every IsUsed (grants_at c port)

-- *Moves alone are asked*, and grants stay used
pub record AsksMoves (before after : Controller) : Type 0 where
  pub rows : after.desk.rows ≡ before.desk.rows
  pub waiting : after.waiting ≡ before.waiting
  pub moves : AreMoves before.desk.standing → AreMoves after.desk.standing
  pub used : AreUsed before → AreUsed after

moves_none : (c : Controller) → AsksMoves c c
moves_none c = record { rows = refl; waiting = refl; moves = λ h. h; used = λ h. h }

moves_then : (a b c : Controller) → AsksMoves a b → AsksMoves b c → AsksMoves a c
moves_then a b c p q = record { rows = q.rows ∙ p.rows; waiting = q.waiting ∙ p.waiting; moves = λ h. q.moves (p.moves h); used = λ h. q.used (p.used h) }

asked_moves : (desk : Desk) (request : Request) → IsMove request → AreMoves desk.standing → AreMoves (asked desk request).standing
asked_moves desk request is h =
    let s : Standing = record { number = desk.next; request = request } in
    every_join (λ (x : Standing). IsMove x.request) (filter (λ (x : Standing). not (withdraws request x.request)) desk.standing) (s ∷ [])
    (every_filter (λ (x : Standing). IsMove x.request) (λ (x : Standing). not (withdraws request x.request)) desk.standing h) (is, tt)

-- *A join is entered*: its grant is lent to its input
module _ (a b : Acted) (input : End) (e : Entered a b input) where
  abbrev lent : Grant
  lent = record e.comes.grant { state = ByInput input }

  entered_used : AreUsed a.controller → AreUsed b.controller
  entered_used h port = by_eq port.0 (port_key e.comes.g)
      (λ same d. subst (Every IsUsed) (sym (e.entered.own_grants port same)) (put_every grant_label IsUsed lent (grants_at a.controller port) (λ idle. cc idle) (h port)))
      (λ apart d. subst (Every IsUsed) (sym (e.entered.other_grants port apart)) (h port))

  entered_moves : AsksMoves a.controller b.controller
  entered_moves =
      let to : End = label_end e.comes.g.setup.port e.comes.grant.label in
      record {
        rows = ap (λ (d : Desk). d.rows) e.entered.desk;
        waiting = e.entered.waiting;
        moves = λ h. subst (λ (d : Desk). AreMoves d.standing) (sym e.entered.desk)
            (asked_moves a.controller.desk (MoveBranch input (home_of input) to) (record { input = input; to = to; is = refl }) h);
        used = entered_used;
      }

-- *All joins are tried*
turn_moves : (a b : Acted) (input : End) → Turned a input b → AsksMoves a.controller b.controller
turn_moves a b input (passed never) = moves_none a.controller
turn_moves a b input (joins_one b2 e) = entered_moves a b2 input e

tries_move : (inputs : List End) (a : Acted) → HasTurns a (length inputs) → AsksMoves a.controller (fold tries_join a inputs).controller
tries_move [] a has = moves_none a.controller
tries_move (input ∷ inputs) a has =
    let b : Acted = tries_join a input in
    moves_then a.controller b.controller (fold tries_join b inputs).controller (turn_moves a b input (its_turn a input (length inputs) has))
    (tries_move inputs b (turns_then a input (length inputs) has))

-- *A tick at peace*: the switch is greeted, ports tick, and joins are tried
ticked_used : (linked : Linked) → IsPortAtPeace linked → Every IsUsed linked.port.grants → Every IsUsed (ticked_port linked).port.grants
ticked_used linked is h = subst (Every IsUsed) (sym (port_grants linked is)) (every_mapped _ IsUsed linked.port.grants h)

module _ (a : Acted) (may : MayTick a) where
  abbrev is : IsNodeAtPeace a
  is = may.peace

  abbrev ticked : Acted
  ticked = t a is may.joins

  ports_used : AreUsed a.controller → AreUsed ticked.controller
  ports_used h port = subst (λ (o : Option Linked). Every IsUsed (option_map_or (λ (l : Linked). l.port.grants) o []))
      (sym (ap (at port_key port.0) (left a is may.joins).ports ∙ at_ticked port.0 a.controller.ports is.ports)) (by (at port_key port.0 a.controller.ports) refl (h port))
    where
      by : (o : Option Linked) → at port_key port.0 a.controller.ports ≡ o → Every IsUsed (option_map_or (λ (l : Linked). l.port.grants) o [])
          → Every IsUsed (option_map_or (λ (l : Linked). l.port.grants) (option_map ticked_port o) [])
      by None there used = tt
      by (Some linked) there used = ticked_used linked (at_every port_key IsPortAtPeace port.0 a.controller.ports linked is.ports there) used

  ports_tick : AsksMoves a.controller ticked.controller
  ports_tick =
      let desk : ticked.controller.desk ≡ a.controller.desk = (left a is may.joins).desk ∙ (rest a is may.joins).desk in
      record {
        rows = ap (λ (d : Desk). d.rows) desk;
        waiting = (left a is may.joins).waiting ∙ (rest a is may.joins).waiting;
        moves = subst (λ (d : Desk). AreMoves d.standing) (sym desk);
        used = ports_used;
      }

  pub tick_moves : AsksMoves a.controller (ticks a).controller
  tick_moves = subst (λ (b : Acted). AsksMoves a.controller b.controller) (sym (nodes_tick_on a is))
      (moves_then a.controller ticked.controller (fold tries_join ticked (flat_map inputs_at ticked.controller.ports)).controller
      ports_tick (tries_move (flat_map inputs_at ticked.controller.ports) ticked (has_turns a is may.joins)))

-- *By its shape* a move leads to a link: it is a join
module _ (setups : List Setup) (links : Every (λ (setup : Setup). IsLinkPort setup.port) setups) where
  of_link : (end : End) → IsLabelEnd setups end → end.port.0 ≢ 0
  of_link end is none = not_zero is.setup.port.0 (at_every setup_port (λ (setup : Setup). IsLinkPort setup.port) is.setup.port.0 setups is.setup links is.linked).0
      (ap (λ (e : End). e.port.0) (sym is.is) ∙ none)
    where
      not_zero : (k : ℕ) → 1 ≤ k → k ≡ 0 → ⊥
      not_zero k some zero = absurd (omega (arith, some, zero))

  from_home : (input output to i to2 : End) → MoveBranch input output to ≡ MoveBranch i (home_of i) to2 → output ≡ home_of i
  from_home input output to i to2 e = cc

  shaped_joins : (request : Request) → IsShaped setups request → IsMove request → IsJoin request
  shaped_joins _ asks_ports m = absurd (cc m.is)
  shaped_joins _ (empties_control port zero) m = absurd (cc m.is)
  shaped_joins _ (empties_port port linked) m = absurd (cc m.is)
  shaped_joins _ (opens_input end default) m = absurd (cc m.is)
  shaped_joins _ (opens_output end default) m = absurd (cc m.is)
  shaped_joins _ (leads_label end label) m = absurd (cc m.is)
  shaped_joins _ (leads_grant end label) m = absurd (cc m.is)
  shaped_joins _ (joins_label input output from to) m = record { input = input; from = home_of input; to = output; is = refl; to_link = of_link output to }
  shaped_joins _ (parts_label input output from to) m = absurd (of_link output to (ap (λ (e : End). e.port.0) (from_home input output (home_of input) m.input m.to m.is)))
  shaped_joins _ (frees_label end label) m = absurd (cc m.is)

  pub moves_are_joins : (standing : List Standing) → Every (λ (s : Standing). IsShaped setups s.request) standing → AreMoves standing
      → Every (λ (s : Standing). IsJoin s.request) standing
  moves_are_joins standing shaped moves = every_map2 (λ (s : Standing). IsShaped setups s.request) (λ (s : Standing). IsMove s.request) (λ (s : Standing). IsJoin s.request)
      standing (λ s shape move. shaped_joins s.request shape move) shaped moves
