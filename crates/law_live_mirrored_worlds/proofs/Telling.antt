-- what the tick of a controller at peace sends to its switch

use Rattle.std.proofs.Common.{◌≡◌, ◌≢◌, ℕ, zero, suc, ◌≤◌, ◌==◌, ◌||◌, Bool, true, false, true≢false, not, List, [], ◌∷◌, ◌++◌, filter, fold, flat_map, Option, None, Some, length, ◌+◌, refl, sym, ◌∙◌, ap, subst, arith, if◌then◌else◌}
use Rattle.std.specs.Prelude.{◌&&◌, is_none, nat_lt}
use Rattle.std.specs.List.{list_any}
use Rattle.std.specs.Option.{option_map}
use Rattle.world_model.specs.Words.{PortNo, End, FlowId, Ack, said, greeting_of, is_estab, flow_destination, next_hop_of, best, number_of_channel, default_home, default_payload, ifmp_packet_of, on_input, is_on, withdraws, Request, MoveBranch, home_of, last_transaction, most_asked, Desk, Standing, Label, label_at, Grant, grant_for, Action, Work, begins, with_work, node_resets, Rule, works, performs_in_estab, at_port, asks, asks_next, Controller, Linked, linked_at, with_linked, says_ifmp, lent, is_offered, route_stays, may_join, joins, join_for, join_by, join_through, port_by, enters_grant, enters_label, inputs_at, label_on, tries_label, tries_join, tries_joins}
use Rattle.world_model.specs.ifmp_wire.Message.{octets_of as ifmp_octets}
use Rattle.world_model.specs.port_model.Desk.{asked}
use Rattle.world_model.specs.port_model.Joins.{joined, joins_label}
use Rattle.world_model.specs.Controller.{Acted}
use Rattle.world_model.specs.Joins.{Join, output_joined}
use Rattle.world_model.specs.Ticks.{ticks}
use Rattle.law_port_facts.specs.ordered_lists.Ordered.{Every}
use Rattle.law_port_facts.proofs.Keyed.{on_both, on_each}
use Rattle.law_controller.proofs.Holding.{node_closed}
use Rattle.law_live_nodes.specs.Law.{IsNodeAtPeace, ticked_port, messages_of, port_ticks, greeted}
use Rattle.law_live_nodes.proofs.Ports.{nodes_tick_on}
use Rattle.law_live_orders.proofs.Hops.{home_not_gsmp}
use Rattle.law_live_orders.proofs.Switches.{first, second}
use Rattle.law_live_mirrored_worlds.proofs.Sending.{Goes, goes_quiet, goes_itself, goes_then, goes_fold, goes_elsewhere, goes_greeting, goes_asking}

-- *The switch is greeted*
abbrev calm : Acted → Acted
calm a = record a { controller = record a.controller { adjacency = record a.controller.adjacency { silence = a.controller.adjacency.silence + 1 } } }

greeted_goes : (a : Acted) → Goes a (greeted a)
greeted_goes a = goes_then a (calm a) (greeted a) (goes_quiet a (calm a) refl refl refl refl refl refl) (goes_greeting (calm a) (greeting_of (said a.controller.adjacency Ack)))

-- *Ports tick*
port_goes : (a : Acted) (linked : Linked) → 1 ≤ linked.setup.port.0 → Goes a (port_ticks a linked)
port_goes a linked link = goes_then a b (port_ticks a linked) (goes_quiet a b refl refl refl refl refl refl)
    (goes_fold (says_ifmp linked.setup.port) (λ c message. goes_elsewhere c (default_home linked.setup.port).channel (default_payload (ifmp_packet_of c.controller.address (ifmp_octets message)))
    (home_not_gsmp linked.setup.port link)) (messages_of linked) b)
  where
    b : Acted
    b = with_linked a (ticked_port linked)

ports_go : (ports : List Linked) (a : Acted) → Every (λ (linked : Linked). linked.setup.port.0 ≢ 0) ports → Goes a (fold port_ticks a ports)
ports_go [] a links = goes_itself a
ports_go (linked ∷ ports) a links = goes_then a (port_ticks a linked) (fold port_ticks (port_ticks a linked) ports) (port_goes a linked (some linked.setup.port.0 links.0)) (ports_go ports (port_ticks a linked) links.1)
  where
    some : (n : ℕ) → n ≢ 0 → 1 ≤ n
    some zero apart = absurd (apart refl)
    some (suc n) apart = omega arith

-- *A request is asked* that withdraws none
none_on : {A : Type 0} (test : A → Bool) (xs : List A) → list_any test xs ≡ false → filter (λ (x : A). not (test x)) xs ≡ xs
none_on test [] e = refl
none_on {A} test (x ∷ xs) e = elim (test x) as (λ t. (t || list_any test xs) ≡ false → (if not t then x ∷ filter (λ (y : A). not (test y)) xs else filter (λ (y : A). not (test y)) xs) ≡ x ∷ xs) [
  | true ↦ λ some. absurd (true≢false some)
  | false ↦ λ rest. ap (λ (ys : List A). x ∷ ys) (none_on test xs rest)
] e

abbrev WithdrawsNone : Desk → Request → Type 0
WithdrawsNone desk request = filter (λ (s : Standing). not (withdraws request s.request)) desk.standing ≡ desk.standing

asks_go : (a : Acted) (request : Request) → WithdrawsNone a.controller.desk request → Goes a (asks a request)
asks_go a request whole = on_both (Goes a) (is_estab a.controller.adjacency.state) (if a.controller.desk.next == last_transaction then node_resets a else asks_next a request) a
    (on_both (Goes a) (a.controller.desk.next == last_transaction) (node_resets a) (asks_next a request)
    (record { up = λ e. absurd (true≢false (sym e ∙ node_closed [] a)); moves = λ e. absurd (true≢false (sym e ∙ node_closed [] a)) })
    (goes_asking a (asked a.controller.desk request) new refl (ap (λ (standing : List Standing). standing ++ new ∷ []) whole) refl)) (goes_itself a)
  where
    new : Standing
    new = record { number = a.controller.desk.next; request = request }

-- *A rule* that does nothing but at its port
record Rests (a b : Acted) : Type 0 where
  goes : Goes a b
  desk : b.controller.desk ≡ a.controller.desk

rule_rests : (a : Acted) (port : PortNo) (rule : Rule) → ((linked : Linked) → (rule linked.setup a.controller.desk (begins a linked)).actions ≡ []) → Rests a (at_port a port rule)
rule_rests a port rule quiet = by (linked_at a.controller port)
  where
    by : (o : Option Linked) → Rests a (works a rule o)
    by None = record { goes = goes_itself a; desk = refl }
    by (Some linked) =
        let w : Work = rule linked.setup a.controller.desk (begins a linked) in
        subst (λ (actions : List Action). Rests a (fold (performs_in_estab linked.setup.port) (with_work a linked w) actions)) (sym (quiet linked))
        (record { goes = goes_quiet a (with_work a linked w) refl refl refl refl refl refl; desk = refl })

-- *Joins are tried*
joins_go : (a : Acted) (o : Option Join) → ((join : Join) → o ≡ Some join → WithdrawsNone a.controller.desk (MoveBranch join.input (home_of join.input) (output_joined join))) → Goes a (joins a o)
joins_go a None whole = goes_itself a
joins_go a (Some join) whole =
    let granted : Acted = enters_grant a join in
    let labelled : Acted = enters_label granted join in
    let lends : Rests a granted = rule_rests a join.port (λ setup desk w. lent w join.grant join.input) (λ linked. refl) in
    let leads : Rests granted labelled = rule_rests granted join.input.port (λ setup desk w. joined w (number_of_channel join.input.channel) (output_joined join))
    (λ linked. labels granted linked (label_at linked.port (number_of_channel join.input.channel))) in
    goes_then a granted (joins a (Some join)) lends.goes (goes_then granted labelled (joins a (Some join)) leads.goes
    (asks_go labelled (MoveBranch join.input (home_of join.input) (output_joined join))
    (subst (λ (desk : Desk). WithdrawsNone desk (MoveBranch join.input (home_of join.input) (output_joined join))) (sym (leads.desk ∙ lends.desk)) (whole join refl))))
  where
    labels : (b : Acted) (linked : Linked) (o : Option Label) → (joins_label (begins b linked) (Some (output_joined join)) o).actions ≡ []
    labels b linked None = refl
    labels b linked (Some label) = refl

module _ (c : Controller) (input : End) (join : Join) where
  one_join : (j : Join) → Some j ≡ Some join → j ≡ join
  one_join j e = cc

  of_grant : (linked : Linked) (o : Option Grant) → option_map (λ (grant : Grant). let j : Join = record { input = input; port = linked.setup.port; grant = grant } in j) o ≡ Some join → join.input ≡ input
  of_grant linked None e = absurd (cc e)
  of_grant linked (Some grant) e = ap (λ (j : Join). j.input) (sym (one_join (record { input = input; port = linked.setup.port; grant = grant }) e))

  of_linked : (next : FlowId) (o : Option Linked) → join_through input next o ≡ Some join → join.input ≡ input
  of_linked next None e = absurd (cc e)
  of_linked next (Some linked) e = of_grant linked (grant_for linked.port.grants next) e

  own_input : (o : Option PortNo) (next : Option FlowId) → join_by c input o next ≡ Some join → join.input ≡ input
  own_input None next e = absurd (cc e)
  own_input (Some port) None e = absurd (cc e)
  own_input (Some port) (Some next) e = of_linked next (linked_at c port) e

off : (c : Controller) (input : End) (label : Label) → may_join c input label ≡ true → on_input c.desk input ≡ false
off c input label may = by (on_input c.desk input) (first (not (on_input c.desk input)) (nat_lt (length c.desk.standing) most_asked && route_stays c (flow_destination label.flow))
    (second (is_offered label.state && is_none label.join) (not (on_input c.desk input) && (nat_lt (length c.desk.standing) most_asked && route_stays c (flow_destination label.flow))) may))
  where
    by : (b : Bool) → not b ≡ true → b ≡ false
    by true e = absurd (true≢false (sym e))
    by false e = refl

label_goes : (a : Acted) (input : End) (o : Option Label) → Goes a (tries_label a input o)
label_goes a input None = goes_itself a
label_goes a input (Some label) = on_each (Goes a) (may_join a.controller input label) (joins a (join_for a.controller input label.flow)) a
    (λ may. joins_go a (join_for a.controller input label.flow) (λ join is. subst (λ (own : End). WithdrawsNone a.controller.desk (MoveBranch own (home_of own) (output_joined join)))
    (sym (own_input a.controller input join (port_by (best a.controller.table (flow_destination label.flow))) (next_hop_of label.flow) is))
    (none_on (λ (s : Standing). is_on input s.request) a.controller.desk.standing (off a.controller input label may)))) (λ may_not. goes_itself a)

joins_tried : (a : Acted) → Goes a (tries_joins a)
joins_tried a = goes_fold tries_join (λ b input. label_goes b input (label_on b.controller input)) (flat_map inputs_at a.controller.ports) a

-- *Behind the greeting* of its switch
pub greeted_goes_on : (a : Acted) → IsNodeAtPeace a → Every (λ (linked : Linked). linked.setup.port.0 ≢ 0) a.controller.ports → Goes (greeted a) (ticks a)
greeted_goes_on a peace links = subst (Goes (greeted a)) (sym (nodes_tick_on a peace)) (goes_then (greeted a) ticked (tries_joins ticked) (ports_go a.controller.ports (greeted a) links) (joins_tried ticked))
  where
    ticked : Acted
    ticked = fold port_ticks (greeted a) a.controller.ports

-- *The whole*
pub tick_goes : (a : Acted) → IsNodeAtPeace a → Every (λ (linked : Linked). linked.setup.port.0 ≢ 0) a.controller.ports → Goes a (ticks a)
tick_goes a peace links = goes_then a (greeted a) (ticks a) (greeted_goes a) (greeted_goes_on a peace links)
