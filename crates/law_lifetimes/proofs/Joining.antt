-- joins, answers of the switch and changes of routes set no lifetime

use Rattle.std.proofs.Common.{◌≡◌, ℕ, true, false, List, [], ◌∷◌, ◌++◌, Option, None, Some, refl, sym, ◌∙◌, subst, if◌then◌else◌, map, fold}
use Rattle.std.specs.Prelude.{◌&&◌, flat_map}
use Rattle.std.specs.Option.{option_map, option_map_or, option_or}
use Rattle.law_controller.specs.world_model.Words.{PortNo, Channel, End, Mark, number_of_channel, Cell, is_estab, best, RouteChange, FlowId, flow_of, next_hop_of, flow_destination, same_flow, Request, AddBranch, MoveBranch, DeleteTree, VerifyTree, PortManagement, Part, frame_cells, same_end, empty_desk, Answered, Unknown, Done, Ports, Failed, answered, after_answer, Setup, home_of, Label, Grant, GrantState, Idle, ByController, ByInput, Leaving, is_by_controller, is_leaving, grant_for, grant_of_kind, grant_matching, halts_if_spent, Linked, port_key, linked_at, with_linked, with_desk, default_end, default_home, asks, begins, at_port, join_to, joins_at, end_le, joins_of, join_of, parts, releases_join, releases_input, released_inputs, resets_spent, releases, port_by, join_through, join_by, join_for, may_join, enters_grant, enters_label, joins, tries_label, label_on, tries_join, inputs_at, tries_joins, meets, up_ports, empties, default_branches, ends_meeting, has_emptied, tells_port, behind_delete_all, causes_in_estab, causes, may_clear, clears_of, clears_port, clears, answers_desk, answer_comes, changed_joins, takes_join_back, begins_change, takes_change, may_take, takes_each, takes_changes, change_comes}
use Rattle.law_controller.specs.world_model.ipv4_packet.declared.flow.FlowKind.TheVariants.{One, Two}
use Rattle.law_controller.specs.world_model.gsmp_wire.declared.request.Request.TheVariants.{DeleteAll, AllPorts}
use Rattle.law_controller.specs.world_model.gsmp_wire.declared.message.Message.{Message}
use Rattle.law_controller.specs.ordered_lists.Ordered.{Every}
use Rattle.law_controller.specs.world_model.port_model.Grants.{lent_input}
use Rattle.law_controller.specs.world_model.port_model.Port.{Port}
use Rattle.law_controller.specs.world_model.port_model.Joins as port_joins
use Rattle.law_controller.specs.world_model.port_model.Answers as port_answers
use Rattle.law_controller.specs.world_model.port_model.Resets.{cleared}
use Rattle.law_controller.proofs.law_port_facts.Keyed.{on_both, at_key}
use Rattle.law_controller.proofs.law_port_facts.Found.{find_every, find_passes}
use Rattle.law_controller.proofs.law_port_facts.Rules.{and_first}
use Rattle.law_controller.specs.world_model.Controller.{Acted, ports_of, note}
use Rattle.law_controller.specs.world_model.Joins.{Join, output_joined}
use Rattle.law_controller.specs.world_model.Meeting.{request_port, takes_success}
use Rattle.law_controller.proofs.law_controller_facts.Joining.{every_flat_map, every_filter_map, every_in_order}
use Rattle.law_lifetimes.proofs.Grants.{IsFate, lent_all, given_back_all, joined_all, parted_all, closes_all, done_all, resets_all, restarts_all}
use Rattle.law_lifetimes.proofs.Performing.{IsKept, Fits as FitsIn, found_fits, fold_fits, placed_fits, node_fits, asks_fits, takes_back_fits, at_port_fits}

pub by_controller_lives : (state : GrantState) → is_by_controller state ≡ true → is_leaving state ≡ false
by_controller_lives ByController e = refl
by_controller_lives Idle e = absurd (cc e)
by_controller_lives (ByInput input) e = absurd (cc e)
by_controller_lives (Leaving input owed) e = absurd (cc e)

-- *The grant for a flow or a packet* is one of the port's under which the controller sends
pub record IsUsed (P : Grant → Type 0) (grant : Grant) : Type 0 where
  pub there : P grant
  pub used : is_by_controller grant.state ≡ true

grant_for_used : (P : Grant → Type 0) (grants : List Grant) (flow : FlowId) (grant : Grant) → Every P grants → grant_for grants flow ≡ Some grant → IsUsed P grant
grant_for_used P grants flow grant all e = record {
  there = find_every P (λ (g : Grant). is_by_controller g.state && same_flow g.flow flow) grants grant all e;
  used = and_first (is_by_controller grant.state) (same_flow grant.flow flow) (find_passes (λ (g : Grant). is_by_controller g.state && same_flow g.flow flow) grants grant e);
}

kind_used : (P : Grant → Type 0) (grants : List Grant) (grant : Grant) → Every P grants → (o : Option FlowId) → option_map_or (grant_for grants) o None ≡ Some grant → IsUsed P grant
kind_used P grants grant all None e = absurd (cc e)
kind_used P grants grant all (Some flow) e = grant_for_used P grants flow grant all e

pub matching_used : (P : Grant → Type 0) (grants : List Grant) (packet : List ℕ) (grant : Grant) → Every P grants → grant_matching grants packet ≡ Some grant → IsUsed P grant
matching_used P grants packet grant all e = by_first (grant_of_kind grants One packet) refl e
  where
    by_first : (o : Option Grant) → grant_of_kind grants One packet ≡ o → option_or o (grant_of_kind grants Two packet) ≡ Some grant → IsUsed P grant
    by_first None is e = kind_used P grants grant all (flow_of Two packet) e
    by_first (Some g) is e = kind_used P grants grant all (flow_of One packet) (is ∙ e)

module _ (port label : ℕ) (G : ℕ → Grant → Type 0) (Q : List Cell → Type 0) (fate : IsFate port label G)
    (control : (queue : List Cell) (channel : Channel) (mark : Mark) (payload : List ℕ) → channel.vci ≡ 15 → Q queue → Q (queue ++ frame_cells channel mark payload)) where
  -- every grant of each port has its fate
  abbrev pub K : Setup → Port → Type 0
  K setup p = Every (G setup.port.0) p.grants

  pub kept : IsKept K Q
  kept = record {
    resets = λ setup w h. resets_all port label G fate setup.port.0 setup w h;
    restarts = λ setup w. restarts_all port label G fate setup.port.0 setup w;
    control = control;
  }

  abbrev pub Fits : Acted → Type 0
  Fits a = FitsIn K Q kept a

  -- *Joins*
  abbrev pub IsJoin : Join → Type 0
  IsJoin join = G join.port.0 join.grant

  pub joins_fit : (a : Acted) → Fits a → Every IsJoin (joins_of a.controller)
  joins_fit a h = every_in_order IsJoin (λ (x : Join) (y : Join). end_le x.input y.input) (flat_map joins_at a.controller.ports)
      (every_flat_map (λ (x : Linked). K x.setup x.port) IsJoin joins_at joins_here a.controller.ports h.ports)
    where
      made : (x : Linked) (grant : Grant) → G x.setup.port.0 grant → (join : Join) (o : Option End) → option_map (λ input. record { input = input; port = x.setup.port; grant = grant }) o ≡ Some join → IsJoin join
      made x grant g join None e = absurd (cc e)
      made x grant g join (Some input) e =
          let lent : Join = record { input = input; port = x.setup.port; grant = grant } in
          let both : Some lent ≡ Some join = e in
          let same : lent ≡ join = cc in
          subst IsJoin same g

      joins_here : (x : Linked) → K x.setup x.port → Every IsJoin (joins_at x)
      joins_here x k = every_filter_map (G x.setup.port.0) IsJoin (join_to x.setup.port) (λ grant g join e. made x grant g join (lent_input grant.state) e) x.port.grants k

  -- a grant of a port is one of the port that is found there
  there : (a : Acted) (at_port : PortNo) (linked : Linked) (grant : Grant) → linked_at a.controller at_port ≡ Some linked → G at_port.0 grant → G linked.setup.port.0 grant
  there a at_port linked grant found g = subst (λ n. G n grant) (sym (at_key port_key at_port.0 a.controller.ports linked found)) g

  parts_fits : (a : Acted) (input : End) → Fits a → Fits (parts a input)
  parts_fits a input h = at_port_fits K Q kept (note a (Part a.controller.node input.port (number_of_channel input.channel))) input.port (λ setup desk w. port_joins.parted w (number_of_channel input.channel))
      (λ linked found k. parted_all port label G fate linked.setup.port.0 (begins (note a (Part a.controller.node input.port (number_of_channel input.channel))) linked) (number_of_channel input.channel) k) (record { ports = h.ports; queue = h.queue })

  releases_join_fits : (a : Acted) (o : Option Join) → ((join : Join) → o ≡ Some join → IsJoin join) → Fits a → Fits (releases_join a o)
  releases_join_fits a None is h = h
  releases_join_fits a (Some join) is h = at_port_fits K Q kept (parts a join.input) join.port (λ setup desk w. port_joins.given_back w join.grant)
      (λ linked found k. given_back_all port label G fate linked.setup.port.0 (begins (parts a join.input) linked) join.grant (there (parts a join.input) join.port linked join.grant found (is join refl)) k) (parts_fits a join.input h)

  releases_input_fits : (a : Acted) (input : End) → Fits a → Fits (releases_input a input)
  releases_input_fits a input h = releases_join_fits a (join_of a.controller input) (λ join e. find_every IsJoin (λ (join : Join). same_end join.input input) (joins_of a.controller) join (joins_fit a h) e) h

  resets_spent_fits : (a : Acted) (at_port : PortNo) → Fits a → Fits (resets_spent a at_port)
  resets_spent_fits a at_port h = at_port_fits K Q kept a at_port (λ setup desk w. halts_if_spent w) (λ linked found k. closes_all port label G fate linked.setup.port.0 (begins a linked) k) h

  releases_fits : (a : Acted) (request : Request) → Fits a → Fits (releases a request)
  releases_fits a request h =
      let released : Acted = fold releases_input a (released_inputs a.controller request) in
      fold_fits K Q kept resets_spent resets_spent_fits (ports_of released.controller) released (fold_fits K Q kept releases_input releases_input_fits (released_inputs a.controller request) a h)

  -- *Joining*
  joins_one : (a : Acted) (join : Join) → IsJoin join → is_by_controller join.grant.state ≡ true → Fits a → Fits (joins a (Some join))
  joins_one a join is used h =
      let lends : Acted = enters_grant a join in
      asks_fits K Q kept (enters_label lends join) (MoveBranch join.input (home_of join.input) (output_joined join))
      (at_port_fits K Q kept lends join.input.port (λ setup desk w. port_joins.joined w (number_of_channel join.input.channel) (output_joined join))
      (λ linked found k. joined_all port label G fate linked.setup.port.0 (begins lends linked) (number_of_channel join.input.channel) (output_joined join) k)
      (at_port_fits K Q kept a join.port (λ setup desk w. port_joins.lent w join.grant join.input)
      (λ linked found k. lent_all port label G fate linked.setup.port.0 (begins a linked) join.grant join.input (by_controller_lives join.grant.state used) (there a join.port linked join.grant found is) k) h))

  joins_by : (a : Acted) (input : End) (o : Option PortNo) (next : Option FlowId) → Fits a → Fits (joins a (join_by a.controller input o next))
  joins_by a input None next h = h
  joins_by a input (Some at_port) None h = h
  joins_by a input (Some at_port) (Some next) h = by_found (linked_at a.controller at_port) refl
    where
      by_grant : (linked : Linked) → K linked.setup linked.port → (o : Option Grant) → grant_for linked.port.grants next ≡ o → Fits (joins a (option_map (λ grant. record { input = input; port = linked.setup.port; grant = grant }) o))
      by_grant linked k None e = h
      by_grant linked k (Some grant) e =
          let used : IsUsed (G linked.setup.port.0) grant = grant_for_used (G linked.setup.port.0) linked.port.grants next grant k e in
          joins_one a (record { input = input; port = linked.setup.port; grant = grant }) used.there used.used h

      by_found : (o : Option Linked) → linked_at a.controller at_port ≡ o → Fits (joins a (join_through input next o))
      by_found None found = h
      by_found (Some linked) found = by_grant linked (found_fits K Q kept a at_port linked found h) (grant_for linked.port.grants next) refl

  tries_label_fits : (a : Acted) (input : End) (o : Option Label) → Fits a → Fits (tries_label a input o)
  tries_label_fits a input None h = h
  tries_label_fits a input (Some held) h = on_both Fits (may_join a.controller input held) (joins a (join_for a.controller input held.flow)) a
      (joins_by a input (port_by (best a.controller.table (flow_destination held.flow))) (next_hop_of held.flow) h) h

  pub tries_joins_fits : (a : Acted) → Fits a → Fits (tries_joins a)
  tries_joins_fits a h = fold_fits K Q kept tries_join (λ b input k. tries_label_fits b input (label_on b.controller input) k) (flat_map inputs_at a.controller.ports) a h

  -- *Changes of routes*
  begins_change_fits : (a : Acted) (change : RouteChange) → Fits a → Fits (begins_change a change)
  begins_change_fits a change h =
      let begun : Acted = record a { controller = record a.controller { is_begun = true } } in
      on_both Fits a.controller.is_begun a (fold takes_join_back begun (changed_joins a.controller change)) h
      (fold_fits K Q kept takes_join_back (λ b join k. takes_back_fits K Q kept b join.input (output_joined join) k) (changed_joins a.controller change) begun (record { ports = h.ports; queue = h.queue }))

  takes_each_fits : (changes : List RouteChange) (a : Acted) → Fits a → Fits (takes_each a changes)
  takes_each_fits [] a h = h
  takes_each_fits (change ∷ later) a h =
      let begun : Acted = begins_change a change in
      let k : Fits begun = begins_change_fits a change h in
      on_both Fits (may_take begun.controller change) (takes_each (takes_change begun change later) later) begun
      (takes_each_fits later (takes_change begun change later) (record { ports = k.ports; queue = k.queue })) k

  takes_changes_fits : (a : Acted) → Fits a → Fits (takes_changes a)
  takes_changes_fits a h = on_both Fits a.controller.has_met (takes_each a a.controller.waiting) a (takes_each_fits a.controller.waiting a h) h

  pub change_comes_fits : (a : Acted) (change : RouteChange) → Fits a → Fits (change_comes a change)
  change_comes_fits a change h = takes_changes_fits (record a { controller = record a.controller { waiting = a.controller.waiting ++ change ∷ [] } }) (record { ports = h.ports; queue = h.queue })

  -- *Meeting the switch*
  pub meets_fits : (a : Acted) → Fits a → Fits (meets a)
  meets_fits a h = asks_fits K Q kept (with_desk a empty_desk) AllPorts (record { ports = h.ports; queue = h.queue })

  empties_fits : (a : Acted) → Fits a → Fits (empties a)
  empties_fits a h = fold_fits K Q kept asks (asks_fits K Q kept) (map DeleteAll (record { 0 = 0 } ∷ up_ports a.controller)) a h

  ends_meeting_fits : (a : Acted) → Fits a → Fits (ends_meeting a)
  ends_meeting_fits a h = fold_fits K Q kept asks (asks_fits K Q kept) (flat_map default_branches (up_ports a.controller)) (record a { controller = record a.controller { has_met = true } }) (record { ports = h.ports; queue = h.queue })

  tells_port_fits : (a : Acted) (request : Request) (o : Option PortNo) → Fits a → Fits (tells_port a request o)
  tells_port_fits a request None h = h
  tells_port_fits a request (Some at_port) h = at_port_fits K Q kept a at_port (λ setup desk w. port_answers.done setup w request) (λ linked found k. done_all port label G fate linked.setup.port.0 linked.setup (begins a linked) request k) h

  behind_fits : (a : Acted) (at_port : PortNo) → Fits a → Fits (behind_delete_all a at_port)
  behind_fits a at_port h = on_both Fits a.controller.has_met (asks a (AddBranch (default_end at_port) (default_home at_port))) (if has_emptied a.controller then ends_meeting a else a)
      (asks_fits K Q kept a (AddBranch (default_end at_port) (default_home at_port)) h) (on_both Fits (has_emptied a.controller) (ends_meeting a) a (ends_meeting_fits a h) h)

  causes_in_fits : (a : Acted) (request : Request) → Fits a → Fits (causes_in_estab a request)
  causes_in_fits a (DeleteAll at_port) h = behind_fits a at_port h
  causes_in_fits a (AddBranch input output) h = tells_port_fits a (AddBranch input output) (request_port (AddBranch input output)) h
  causes_in_fits a (MoveBranch input from to) h = tells_port_fits a (MoveBranch input from to) (request_port (MoveBranch input from to)) h
  causes_in_fits a (DeleteTree input) h = tells_port_fits a (DeleteTree input) (request_port (DeleteTree input)) h
  causes_in_fits a (VerifyTree input) h = tells_port_fits a (VerifyTree input) (request_port (VerifyTree input)) h
  causes_in_fits a (PortManagement at_port function) h = tells_port_fits a (PortManagement at_port function) (request_port (PortManagement at_port function)) h
  causes_in_fits a AllPorts h = h

  causes_fits : (a : Acted) (request : Request) → Fits a → Fits (causes a request)
  causes_fits a request h = on_both Fits (is_estab a.controller.adjacency.state) (causes_in_estab a request) a (causes_in_fits a request h) h

  clears_of_fits : (a : Acted) (o : Option Linked) → ((linked : Linked) → o ≡ Some linked → K linked.setup linked.port) → Fits a → Fits (clears_of a o)
  clears_of_fits a None there h = h
  clears_of_fits a (Some linked) there h = on_both Fits (may_clear a.controller linked) (with_linked a (record linked { port = cleared linked.port })) a (placed_fits K Q kept a (record linked { port = cleared linked.port }) (there linked refl) h) h

  clears_fits : (a : Acted) → Fits a → Fits (clears a)
  clears_fits a h = fold_fits K Q kept clears_port (λ b at_port k. clears_of_fits b (linked_at b.controller at_port) (λ linked found. found_fits K Q kept b at_port linked found k) k) (ports_of a.controller) a h

  done_fits : (a : Acted) (request : Request) → Fits a → Fits (takes_success a request)
  done_fits a request h = takes_changes_fits (clears (causes (releases a request) request)) (clears_fits (causes (releases a request) request) (causes_fits (releases a request) request (releases_fits a request h)))

  -- *An answer*
  desk_fits : (a : Acted) (answer : Answered) → Fits a → Fits (answers_desk a answer)
  desk_fits a Unknown h = h
  desk_fits a (Done s) h = done_fits a s.request h
  desk_fits a (Ports s rows) h = empties_fits a h
  desk_fits a (Failed s code) h = node_fits K Q kept a h

  pub answer_comes_fits : (a : Acted) (message : Message) → Fits a → Fits (answer_comes a message)
  answer_comes_fits a message h = (let answer : Answered = answered a.controller.desk message in
      desk_fits (with_desk a (after_answer a.controller.desk answer)) answer (record { ports = h.ports; queue = h.queue }))
