-- joins, answers of the switch and changes of routes

use Rattle.std.proofs.Common.{◌≡◌, ℕ, Bool, true, false, List, [], ◌∷◌, ◌++◌, Option, None, Some, refl, sym, subst, if◌then◌else◌, map, fold}
use Rattle.std.specs.Prelude.{◌&&◌, flat_map}
use Rattle.std.specs.Option.{option_map}
use Rattle.law_controller_bindings.specs.world_model.Words.{PortNo, End, number_of_channel, is_estab, best, RouteChange, FlowId, next_hop_of, flow_destination, same_flow, Request, AddBranch, MoveBranch, DeleteTree, VerifyTree, PortManagement, Part, same_end, empty_desk, home_of, Label, Grant, is_by_controller, grant_for, halts_if_spent, Linked, port_key, linked_at, with_linked, with_desk, default_end, default_home, asks, begins, at_port, join_to, joins_at, end_le, joins_of, join_of, parts, releases_join, releases_input, released_inputs, resets_spent, releases, port_by, join_through, join_by, join_for, may_join, enters_grant, enters_label, joins, tries_label, label_on, tries_join, inputs_at, tries_joins, meets, up_ports, empties, default_branches, ends_meeting, has_emptied, tells_port, behind_delete_all, causes_in_estab, causes, may_clear, clears_of, clears_port, changed_joins, takes_join_back, begins_change, takes_change, may_take, takes_each, takes_changes, change_comes, State, Clearing, SynSent, SynRcvd, Estab, Routes, changed, Session, is_clearing, awaits_nothing}
use Rattle.law_controller_bindings.specs.world_model.gsmp_wire.declared.request.Request.TheVariants.{DeleteAll, AllPorts}
use Rattle.law_controller_bindings.specs.ordered_lists.Ordered.{Every}
use Rattle.law_controller_bindings.specs.world_model.port_model.Grants.{lent_input}
use Rattle.law_controller_bindings.specs.world_model.port_model.Joins as port_joins
use Rattle.law_controller_bindings.specs.world_model.port_model.Answers as port_answers
use Rattle.law_controller_bindings.specs.world_model.port_model.Resets.{cleared}
use Rattle.law_controller_bindings.proofs.law_port_facts.Keyed.{on_both, at_key}
use Rattle.law_controller_bindings.proofs.law_port_facts.Found.{find_every}
use Rattle.law_controller_bindings.specs.world_model.Controller.{Acted, ports_of, note}
use Rattle.law_controller_bindings.specs.world_model.Joins.{Join, output_joined}
use Rattle.law_controller_bindings.specs.world_model.Meeting.{request_port}
use Rattle.law_controller_bindings.proofs.law_controller_facts.Joining.{every_flat_map, every_filter_map, every_in_order}
use Rattle.std.specs.Prelude.{◌+◌, ◌==◌, length}
use Rattle.law_controller_bindings.specs.world_model.port_model.Messages.{is_up}
use Rattle.law_controller_bindings.proofs.law_port_facts.Keyed.{on_each}
use Rattle.law_port_words.specs.Words.{Terms, IsGranted, IsSteady, IsSteadyAt, IsSteadily}
use Rattle.law_port_words.proofs.Voices.{closes_v}
use Rattle.law_port_words.proofs.Rules.{parted_v, joined_v, lent_v, given_back_v}
use Rattle.law_port_words.proofs.Hearing.{BindsAny, done_v, cleared_steady}
use Rattle.law_port_words.proofs.Sending.{note_h, put_h, found_h, fold_h}
use Rattle.law_port_words.proofs.Performing.{asks_h, takes_back_h, at_port_h}
use Rattle.law_controller_bindings.proofs.law_controller.Ordering.{same_number}

-- the grant for a flow is one of the port's
pub grant_for_there : (P : Grant → Type 0) (grants : List Grant) (flow : FlowId) (grant : Grant) → Every P grants → grant_for grants flow ≡ Some grant → P grant
grant_for_there P grants flow grant all e = find_every P (λ (g : Grant). is_by_controller g.state && same_flow g.flow flow) grants grant all e

-- *A controller some of whose ports were cleared*
pub data Clears (a : Acted) : Acted → Type 0 where
  unclear : Clears a a
  cleared_on : (b : Acted) (port : PortNo) → Clears a b → Clears a (clears_port b port)

clears_on : (a : Acted) (port : PortNo) (b : Acted) → Clears (clears_port a port) b → Clears a b
clears_on a port b c = by b c
  where
    by : (b : Acted) → Clears (clears_port a port) b → Clears a b
    by b unclear = cleared_on a port unclear
    by b (cleared_on d q e) = cleared_on d q (by d e)

module _ (t : Terms) where
  abbrev H : Acted → Type 0
  H a = IsSteadily t a

  -- *Changes of routes*
  begins_change_h : (a : Acted) (change : RouteChange) → H a → H (begins_change a change)
  begins_change_h a change h =
      let begun : Acted = record a { controller = record a.controller { is_begun = true } } in
      on_both H a.controller.is_begun a (fold takes_join_back begun (changed_joins a.controller change)) h
      (fold_h t takes_join_back (λ b join k. takes_back_h t b join.input (output_joined join) k) (changed_joins a.controller change) begun (record { address = h.address; ports = h.ports; cells = h.cells; records = h.records; frames = h.frames }))

  changed_h : (a : Acted) (change : RouteChange) (later : List RouteChange) → H a → H (takes_change a change later)
  changed_h a change later h =
      let taken : Acted = record a {
        controller = record a.controller { table = changed a.controller.table change; waiting = later; is_begun = false; changes = a.controller.changes + 1 };
      } in
      note_h t taken (Routes a.controller.node (a.controller.changes + 1)) tt (record { address = h.address; ports = h.ports; cells = h.cells; records = h.records; frames = h.frames })

  takes_each_h : (changes : List RouteChange) (a : Acted) → H a → H (takes_each a changes)
  takes_each_h [] a h = h
  takes_each_h (change ∷ later) a h =
      let begun : Acted = begins_change a change in
      let k : H begun = begins_change_h a change h in
      on_both H (may_take begun.controller change) (takes_each (takes_change begun change later) later) begun
      (takes_each_h later (takes_change begun change later) (changed_h begun change later k)) k

  pub takes_changes_h : (a : Acted) → H a → H (takes_changes a)
  takes_changes_h a h = on_both H a.controller.has_met (takes_each a a.controller.waiting) a (takes_each_h a.controller.waiting a h) h

  pub change_comes_h : (a : Acted) (change : RouteChange) → H a → H (change_comes a change)
  change_comes_h a change h = takes_changes_h (record a { controller = record a.controller { waiting = a.controller.waiting ++ change ∷ [] } }) (record { address = h.address; ports = h.ports; cells = h.cells; records = h.records; frames = h.frames })

  -- *Meeting the switch*
  pub meets_h : (a : Acted) → H a → H (meets a)
  meets_h a h = asks_h t (with_desk a empty_desk) AllPorts (record { address = h.address; ports = h.ports; cells = h.cells; records = h.records; frames = h.frames })

  pub empties_h : (a : Acted) → H a → H (empties a)
  empties_h a h = fold_h t asks (asks_h t) (map DeleteAll (record { 0 = 0 } ∷ up_ports a.controller)) a h

  ends_meeting_h : (a : Acted) → H a → H (ends_meeting a)
  ends_meeting_h a h = fold_h t asks (asks_h t) (flat_map default_branches (up_ports a.controller)) (record a { controller = record a.controller { has_met = true } }) (record { address = h.address; ports = h.ports; cells = h.cells; records = h.records; frames = h.frames })

  behind_h : (a : Acted) (at_port : PortNo) → H a → H (behind_delete_all a at_port)
  behind_h a at_port h = on_both H a.controller.has_met (asks a (AddBranch (default_end at_port) (default_home at_port))) (if has_emptied a.controller then ends_meeting a else a)
      (asks_h t a (AddBranch (default_end at_port) (default_home at_port)) h) (on_both H (has_emptied a.controller) (ends_meeting a) a (ends_meeting_h a h) h)

  -- *Clearing*: a port that may be cleared is one that may have its instance outside Clearing then
  clears_of_h : (a : Acted) (o : Option Linked) → ((linked : Linked) → o ≡ Some linked → IsSteadyAt t linked)
      → ((linked : Linked) → o ≡ Some linked → may_clear a.controller linked ≡ true → t.own linked.setup.port linked.port.adjacency.own.instance.0) → H a → H (clears_of a o)
  clears_of_h a None there owns h = h
  clears_of_h a (Some linked) there owns h = on_each H (may_clear a.controller linked) (with_linked a (record linked { port = cleared linked.port })) a
      (λ may. put_h t a (record linked { port = cleared linked.port }) (cleared_steady t linked.setup linked.port (owns linked refl may) (there linked refl).0 (unheard linked (there linked refl).0 may), (there linked refl).1) h) (λ no. h)
    where
      first : (x y z : Bool) → ((x && y) && z) ≡ true → x ≡ true
      first true y z e = refl
      first false y z e = absurd (cc e)

      clearing : (state : State) → is_clearing state ≡ true → state ≡ Clearing
      clearing Clearing e = refl
      clearing SynSent e = absurd (cc e)
      clearing SynRcvd e = absurd (cc e)
      clearing Estab e = absurd (cc e)

      unheard : (linked : Linked) → IsSteady t linked.setup linked.port → may_clear a.controller linked ≡ true → linked.port.session ≡ None
      unheard linked k may = by linked.port.session refl
        where
          by : (o : Option Session) → linked.port.session ≡ o → linked.port.session ≡ None
          by None is = is
          by (Some s) is = absurd (k.lives s is (clearing linked.port.adjacency.state (first (is_clearing linked.port.adjacency.state) (length linked.port.grants == 0) ((a.controller.has_met && is_up a.controller.desk.rows linked.setup.port) && awaits_nothing a.controller linked.setup.port) may)))

  pub clears_h : (ports : List PortNo) (a : Acted) → ((b : Acted) (port : PortNo) (linked : Linked) → Clears a b → linked_at b.controller port ≡ Some linked → may_clear b.controller linked ≡ true → t.own linked.setup.port linked.port.adjacency.own.instance.0)
      → H a → H (fold clears_port a ports)
  clears_h [] a owns h = h
  clears_h (port ∷ ports) a owns h = clears_h ports (clears_port a port) (λ b q linked on found may. owns b q linked (clears_on a port b on) found may)
      (clears_of_h a (linked_at a.controller port) (λ linked found. found_h t a port linked found h) (λ linked found may. owns a port linked unclear found may) h)

module _ (t : Terms) (speaks : (port : PortNo) (instance : ℕ) → t.own port instance → t.told port instance) where
  -- *Joins*
  abbrev pub IsJoin : Join → Type 0
  IsJoin join = IsGranted t join.port join.grant

  pub joins_there : (a : Acted) → (IsSteadily t) a → Every IsJoin (joins_of a.controller)
  joins_there a h = every_in_order IsJoin (λ (x : Join) (y : Join). end_le x.input y.input) (flat_map joins_at a.controller.ports)
      (every_flat_map (IsSteadyAt t) IsJoin joins_at joins_here a.controller.ports h.ports)
    where
      made : (x : Linked) (grant : Grant) → IsGranted t x.setup.port grant → (join : Join) (o : Option End) → option_map (λ input. record { input = input; port = x.setup.port; grant = grant }) o ≡ Some join → IsJoin join
      made x grant g join None e = absurd (cc e)
      made x grant g join (Some input) e =
          let lent : Join = record { input = input; port = x.setup.port; grant = grant } in
          let both : Some lent ≡ Some join = e in
          let same : lent ≡ join = cc in
          subst IsJoin same g

      joins_here : (x : Linked) → IsSteadyAt t x → Every IsJoin (joins_at x)
      joins_here x k = every_filter_map (IsGranted t x.setup.port) IsJoin (join_to x.setup.port) (λ grant g join e. made x grant g join (lent_input grant.state) e) x.port.grants k.0.grants

  -- a grant of a port is one of the port that is found there
  there : (a : Acted) (at_port : PortNo) (linked : Linked) (grant : Grant) → linked_at a.controller at_port ≡ Some linked → IsGranted t at_port grant → IsGranted t linked.setup.port grant
  there a at_port linked grant found g = subst (λ (p : PortNo). IsGranted t p grant) (same_number at_port linked.setup.port (sym (at_key port_key at_port.0 a.controller.ports linked found))) g

  parts_h : (a : Acted) (input : End) → (IsSteadily t) a → (IsSteadily t) (parts a input)
  parts_h a input h = at_port_h t (note a (Part a.controller.node input.port (number_of_channel input.channel))) input.port (λ setup desk w. port_joins.parted w (number_of_channel input.channel))
      (λ linked found v. parted_v t linked.setup (speaks linked.setup.port) (begins (note a (Part a.controller.node input.port (number_of_channel input.channel))) linked) (number_of_channel input.channel) v) (note_h t a (Part a.controller.node input.port (number_of_channel input.channel)) tt h)

  releases_join_h : (a : Acted) (o : Option Join) → ((join : Join) → o ≡ Some join → IsJoin join) → (IsSteadily t) a → (IsSteadily t) (releases_join a o)
  releases_join_h a None is h = h
  releases_join_h a (Some join) is h = at_port_h t (parts a join.input) join.port (λ setup desk w. port_joins.given_back w join.grant)
      (λ linked found v. given_back_v t linked.setup (speaks linked.setup.port) (begins (parts a join.input) linked) join.grant (there (parts a join.input) join.port linked join.grant found (is join refl)) v) (parts_h a join.input h)

  releases_input_h : (a : Acted) (input : End) → (IsSteadily t) a → (IsSteadily t) (releases_input a input)
  releases_input_h a input h = releases_join_h a (join_of a.controller input) (λ join e. find_every IsJoin (λ (join : Join). same_end join.input input) (joins_of a.controller) join (joins_there a h) e) h

  resets_spent_h : (a : Acted) (at_port : PortNo) → (IsSteadily t) a → (IsSteadily t) (resets_spent a at_port)
  resets_spent_h a at_port h = at_port_h t a at_port (λ setup desk w. halts_if_spent w) (λ linked found v. closes_v t linked.setup (speaks linked.setup.port) (begins a linked) v) h

  pub releases_h : (a : Acted) (request : Request) → (IsSteadily t) a → (IsSteadily t) (releases a request)
  releases_h a request h =
      let released : Acted = fold releases_input a (released_inputs a.controller request) in
      fold_h t resets_spent resets_spent_h (ports_of released.controller) released (fold_h t releases_input releases_input_h (released_inputs a.controller request) a h)

  -- *Joining*
  joins_one : (a : Acted) (join : Join) → IsJoin join → (IsSteadily t) a → (IsSteadily t) (joins a (Some join))
  joins_one a join is h =
      let lends : Acted = enters_grant a join in
      asks_h t (enters_label lends join) (MoveBranch join.input (home_of join.input) (output_joined join))
      (at_port_h t lends join.input.port (λ setup desk w. port_joins.joined w (number_of_channel join.input.channel) (output_joined join))
      (λ linked found v. joined_v t linked.setup (speaks linked.setup.port) (begins lends linked) (number_of_channel join.input.channel) (output_joined join) v)
      (at_port_h t a join.port (λ setup desk w. port_joins.lent w join.grant join.input)
      (λ linked found v. lent_v t linked.setup (speaks linked.setup.port) (begins a linked) join.grant join.input (there a join.port linked join.grant found is) v) h))

  joins_by : (a : Acted) (input : End) (o : Option PortNo) (next : Option FlowId) → (IsSteadily t) a → (IsSteadily t) (joins a (join_by a.controller input o next))
  joins_by a input None next h = h
  joins_by a input (Some at_port) None h = h
  joins_by a input (Some at_port) (Some next) h = by_found (linked_at a.controller at_port) refl
    where
      by_grant : (linked : Linked) → IsSteadyAt t linked → (o : Option Grant) → grant_for linked.port.grants next ≡ o → (IsSteadily t) (joins a (option_map (λ grant. record { input = input; port = linked.setup.port; grant = grant }) o))
      by_grant linked k None e = h
      by_grant linked k (Some grant) e =
          joins_one a (record { input = input; port = linked.setup.port; grant = grant }) (grant_for_there (IsGranted t linked.setup.port) linked.port.grants next grant k.0.grants e) h

      by_found : (o : Option Linked) → linked_at a.controller at_port ≡ o → (IsSteadily t) (joins a (join_through input next o))
      by_found None found = h
      by_found (Some linked) found = by_grant linked (found_h t a at_port linked found h) (grant_for linked.port.grants next) refl

  pub tries_label_h : (a : Acted) (input : End) (o : Option Label) → (IsSteadily t) a → (IsSteadily t) (tries_label a input o)
  tries_label_h a input None h = h
  tries_label_h a input (Some held) h = on_both (IsSteadily t) (may_join a.controller input held) (joins a (join_for a.controller input held.flow)) a
      (joins_by a input (port_by (best a.controller.table (flow_destination held.flow))) (next_hop_of held.flow) h) h

  pub tries_joins_h : (a : Acted) → (IsSteadily t) a → (IsSteadily t) (tries_joins a)
  tries_joins_h a h = fold_h t tries_join (λ b input k. tries_label_h b input (label_on b.controller input) k) (flat_map inputs_at a.controller.ports) a h

  tells_port_h : (a : Acted) (request : Request) (o : Option PortNo) → BindsAny request → (IsSteadily t) a → (IsSteadily t) (tells_port a request o)
  tells_port_h a request None home h = h
  tells_port_h a request (Some at_port) home h = at_port_h t a at_port (λ setup desk w. port_answers.done setup w request) (λ linked found v. done_v t linked.setup (speaks linked.setup.port) (begins a linked) request home v) h

  causes_in_h : (a : Acted) (request : Request) → BindsAny request → (IsSteadily t) a → (IsSteadily t) (causes_in_estab a request)
  causes_in_h a (DeleteAll at_port) home h = behind_h t a at_port h
  causes_in_h a (AddBranch input output) home h = tells_port_h a (AddBranch input output) (request_port (AddBranch input output)) home h
  causes_in_h a (MoveBranch input from to) home h = tells_port_h a (MoveBranch input from to) (request_port (MoveBranch input from to)) home h
  causes_in_h a (DeleteTree input) home h = tells_port_h a (DeleteTree input) (request_port (DeleteTree input)) home h
  causes_in_h a (VerifyTree input) home h = tells_port_h a (VerifyTree input) (request_port (VerifyTree input)) home h
  causes_in_h a (PortManagement at_port function) home h = tells_port_h a (PortManagement at_port function) (request_port (PortManagement at_port function)) home h
  causes_in_h a AllPorts home h = h

  pub causes_h : (a : Acted) (request : Request) → BindsAny request → (IsSteadily t) a → (IsSteadily t) (causes a request)
  causes_h a request home h = on_both (IsSteadily t) (is_estab a.controller.adjacency.state) (causes_in_estab a request) a (causes_in_h a request home h) h
