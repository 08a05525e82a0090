-- joins, their releases, changes of routes, and meeting the switch

use Rattle.std.proofs.Common.{◌≡◌, ℕ, Bool, true, false, not, List, [], ◌∷◌, ◌++◌, map, filter, fold, Option, None, Some, refl, ◌∙◌, ap, subst, arith, inr, length, flat_map, if◌then◌else◌}
use Rattle.std.specs.Prelude.{◌==◌, nat_le}
use Rattle.law_branch_shapes.specs.world_model.Words.{Channel, End, Mark, next_control, with_control, PortNo, number_of_channel, is_estab, Cell, IsLinkPort, same_end, Request, AddBranch, MoveBranch, DeleteTree, VerifyTree, PortManagement, RouteChange, Frame, Part, Loss, PoolFull, noted, frame_cells, made, Desk, Standing, last_transaction, empty_desk, withdraws, Setup, home_of, Label, halts_if_spent, Controller, Linked, linked_at, with_desk, with_linked, default_channel, default_end, default_home, asks, begins, join_of, joins_of, parts, releases_join, releases_input, released_inputs, resets_spent, releases, enters_grant, enters_label, joins, join_for, may_join, tries_label, label_on, tries_join, inputs_at, tries_joins, meets, up_ports, empties, default_branches, ends_meeting, has_emptied, port_of_input, tells_port, behind_delete_all, causes_in_estab, causes, may_clear, clears_of, clears_port, clears, changed_joins, is_changed, takes_join_back, begins_change, takes_change, may_take, takes_each, takes_changes, change_comes}
use Rattle.law_branch_shapes.specs.world_model.gsmp_wire.declared.request.Request.TheVariants.{DeleteAll, AllPorts}
use Rattle.law_branch_shapes.specs.world_model.frame_model.Sending.{Sender}
use Rattle.law_branch_shapes.specs.world_model.gsmp_wire.Layout.{octets_of as gsmp_octets}
use Rattle.law_frame_readings.specs.ordered_lists.Ordered.{Every}
use Rattle.law_frame_readings.proofs.ordered_lists.Every.{every_map, every_right}
use Rattle.law_branch_shapes.specs.world_model.port_model.Desk.{asked, message_at}
use Rattle.law_branch_shapes.specs.world_model.port_model.Messages.{is_up}
use Rattle.law_branch_shapes.specs.world_model.port_model.Joins as port_joins
use Rattle.law_branch_shapes.specs.world_model.port_model.Answers as port_answers
use Rattle.law_branch_shapes.specs.world_model.port_model.Resets.{cleared}
use Rattle.law_frame_readings.specs.law_port_facts.Port.{IsDefaultEnd, IsLabelEnd, IsLinked, IsPort, IsShaped, asks_ports, empties_control, empties_port, opens_input, opens_output, parts_label}
use Rattle.law_frame_readings.proofs.law_port_facts.Keyed.{on_both, on_each}
use Rattle.law_frame_readings.proofs.law_port_facts.Found.{find_every}
use Rattle.law_frame_readings.proofs.law_port_facts.Rules.{done_goes}
use Rattle.law_branch_shapes.specs.world_model.Controller.{Acted, free_slots, ports_of, note}
use Rattle.law_branch_shapes.specs.world_model.Sending.{with_cells, sends}
use Rattle.law_branch_shapes.specs.world_model.Joins.{Join, output_joined}
use Rattle.law_frame_readings.proofs.law_controller_facts.Moves.{HasPorts, Found, by_rule, by_giving_back, by_closing, moves_ports, moves_to, ending_meeting, routing, IsShapedStanding}
use Rattle.law_frame_readings.proofs.law_controller_facts.Performing.{Any, any_ports, asks_goes, takes_back_goes, ports_linked}
use Rattle.law_frame_readings.proofs.law_controller_facts.Joining.{IsJoin, joins_are, join_input, join_output, parts_grants, granted_there, parts_goes, releases_input_goes, resets_spent_goes, releases_goes, AnyEnd, any_ends, begins_change_goes, takes_change_goes, every_filter, every_flat_map, each_there}
use Rattle.law_frame_readings.proofs.law_controller_facts.Entering.{tries_join_goes, inputs_of_port}
use Rattle.law_frame_readings.proofs.law_controller_facts.Events.{clears_goes, causes_goes}
use Rattle.law_input_events.proofs.law_input_steps.Resets.{note_still}
use Rattle.law_input_events.specs.law_input_premises.Read.{AreRead}
use Rattle.law_input_events.proofs.law_input_premises.Asking.{asks_is}
use Rattle.law_input_events.proofs.law_input_premises.Releasing.{parted_asks}
use Rattle.law_input_events.proofs.law_input_premises.Finishing.{emptied_end}
use Rattle.law_running_worlds.specs.Mode.{Mode, Told, Untold}
use Rattle.law_running_worlds.specs.Fine.{Allows}
use Rattle.law_running_worlds.proofs.Asking.{Fine, told_allows, still_fine, asks_where_fine, asks_fine, moves_allowed, takes_back_fine, at_port_fine, quiet_fine, fine_fold}

module _ (setups : List Setup) (links : Every (λ (setup : Setup). IsLinkPort setup.port) setups) (Old : Cell → Type 0) (Gathered : Cell → Type 0) (began : List Frame) (marks : ℕ) where
  abbrev pub Well : Mode → Acted → Type 0
  Well = Fine setups links Old Gathered began marks

  -- *Several requests*
  asks_each : (m : Mode) (requests : List Request) → Every (λ (r : Request). IsShaped setups r × Allows m r) requests → (a : Acted) → HasPorts setups a → Well m a → Well m (fold asks a requests)
  asks_each m requests all a has h = fine_fold setups links Old Gathered began marks m (λ (r : Request). IsShaped setups r × Allows m r) asks (λ b r kb both. asks_goes setups b r kb both.0)
      (λ b r kb both k. asks_fine setups links Old Gathered began marks m b r both.0 both.1 k) requests all a has h

  -- *Releases*, once all ports are told to be up
  parts_well : (m : Mode) (a : Acted) (input : End) → Well m a → Well m (parts a input)
  parts_well m a input h =
      let n : ℕ = number_of_channel input.channel in
      quiet_fine setups links Old Gathered began marks m (note a (Part a.controller.node input.port n)) input.port (λ setup desk w. port_joins.parted w n) (λ linked. parted_asks (begins (note a (Part a.controller.node input.port n)) linked) None _)
      (still_fine setups links Old Gathered began marks m a (note a (Part a.controller.node input.port n)) (note_still a (Part a.controller.node input.port n)) h)

  release_well : (a : Acted) (o : Option Join) → ((join : Join) → o ≡ Some join → IsJoin setups a join) → HasPorts setups a → Well Told a → Well Told (releases_join a o)
  release_well a None is has h = h
  release_well a (Some join) is has h = at_port_fine setups links Old Gathered began marks Told (parts a join.input) join.port (λ setup desk w. port_joins.given_back w join.grant) (moves_ports setups (parts_goes setups a join.input has) has)
      (λ linked found. by_giving_back join.grant (granted_there setups a (parts a join.input) join linked (is join refl) (parts_grants setups a join.input join.port.0 has) found)) (λ linked found. told_allows _) (parts_well Told a join.input h)

  pub releases_well : (a : Acted) (request : Request) → HasPorts setups a → Well Told a → Well Told (releases a request)
  releases_well a request has h =
      let inputs : List End = released_inputs a.controller request in
      let released : Acted = fold releases_input a inputs in
      fine_fold setups links Old Gathered began marks Told (Any setups) resets_spent (λ b port kb any. resets_spent_goes setups b port kb)
      (λ b port kb any k. at_port_fine setups links Old Gathered began marks Told b port (λ setup desk w. halts_if_spent w) kb (λ linked found. by_closing) (λ linked found. told_allows _) k)
      (ports_of released.controller) (any_ports setups (ports_of released.controller)) released (released_has inputs a has)
      (fine_fold setups links Old Gathered began marks Told (AnyEnd setups) releases_input (λ b input kb any. releases_input_goes setups b input kb)
      (λ b input kb any k. release_well b (join_of b.controller input) (λ join e. find_every (IsJoin setups b) (λ (join : Join). same_end join.input input) (joins_of b.controller) join (joins_are setups b kb) e) kb k)
      inputs (any_ends setups inputs) a has h)
    where
      released_has : (inputs : List End) (b : Acted) → HasPorts setups b → HasPorts setups (fold releases_input b inputs)
      released_has [] b k = k
      released_has (input ∷ inputs) b k = released_has inputs (releases_input b input) (moves_ports setups (releases_input_goes setups b input k) k)

  -- *A join* that is entered
  lent_well : (m : Mode) (a : Acted) (join : Join) → Well m a → Well m (enters_grant a join)
  lent_well m a join h = quiet_fine setups links Old Gathered began marks m a join.port (λ setup desk w. port_joins.lent w join.grant join.input) (λ linked. refl) h

  joined_well : (m : Mode) (a : Acted) (join : Join) → Well m a → Well m (enters_label a join)
  joined_well m a join h = quiet_fine setups links Old Gathered began marks m a join.input.port (λ setup desk w. port_joins.joined w (number_of_channel join.input.channel) (output_joined join))
      (λ linked. parted_asks (begins a linked) (Some (output_joined join)) _) h

  sent_desk : (a : Acted) (channel : Channel) (mark : Mark) (payload : List ℕ) → (sends a channel mark payload).controller.desk ≡ a.controller.desk
  sent_desk a channel mark payload = on_both (λ (s : Sender Controller). s.queues.desk ≡ a.controller.desk) (nat_le (length (frame_cells channel mark payload)) (free_slots a.controller))
      (record { queues = with_cells a.controller (frame_cells channel mark payload); notes = made a.notes mark payload })
      (record { queues = a.controller; notes = noted (made a.notes mark payload) (Loss mark PoolFull) }) refl refl

  -- a request that was asked has a shape, since what stands has
  shaped_behind : (b : Acted) (request : Request) → HasPorts setups (asks b request) → is_estab b.controller.adjacency.state ≡ true → (b.controller.desk.next == last_transaction) ≡ false → IsShaped setups request
  shaped_behind b request has estab room =
      let s : Standing = record { number = b.controller.desk.next; request = request } in
      let next : Acted = with_desk b (asked b.controller.desk request) in
      let same : (asks b request).controller.desk ≡ asked b.controller.desk request = ap (λ (c : Acted). c.controller.desk) (asks_is b request estab room)
      ∙ sent_desk (record next { numbers = with_control next.numbers }) default_channel (next_control next.numbers) (gsmp_octets (message_at next.controller.desk s)) in
      (every_right (IsShapedStanding setups) (filter (λ (x : Standing). not (withdraws request x.request)) b.controller.desk.standing) (s ∷ [])
      (subst (λ (d : Desk). Every (IsShapedStanding setups) d.standing) same has.shaped)).0

  entered_well : (m : Mode) (a : Acted) (o : Option Join) → HasPorts setups (joins a o) → Well m a → Well m (joins a o)
  entered_well m a None has h = h
  entered_well m a (Some join) has h =
      let b : Acted = enters_label (enters_grant a join) join in
      let request : Request = MoveBranch join.input (home_of join.input) (output_joined join) in
      asks_where_fine setups links Old Gathered began marks m b request (shaped_behind b request has) (moves_allowed setups links Old Gathered began marks m join.input (home_of join.input) (output_joined join))
      (joined_well m (enters_grant a join) join (lent_well m a join h))

  tried_well : (m : Mode) (a : Acted) (input : End) → HasPorts setups a → IsLabelEnd setups input → Well m a → Well m (tries_join a input)
  tried_well m a input has end h = by_label (label_on a.controller input) (moves_ports setups (tries_join_goes setups a input has end) has)
    where
      by_label : (o : Option Label) → HasPorts setups (tries_label a input o) → Well m (tries_label a input o)
      by_label None behind = h
      by_label (Some label) behind = by_test (may_join a.controller input label) behind
        where
          by_test : (t : Bool) → HasPorts setups (if t then joins a (join_for a.controller input label.flow) else a) → Well m (if t then joins a (join_for a.controller input label.flow) else a)
          by_test true k = entered_well m a (join_for a.controller input label.flow) k h
          by_test false k = h

  pub tries_joins_well : (m : Mode) (a : Acted) → HasPorts setups a → Well m a → Well m (tries_joins a)
  tries_joins_well m a has h = fine_fold setups links Old Gathered began marks m (IsLabelEnd setups) tries_join (λ b input k end. tries_join_goes setups b input k end) (λ b input k end w. tried_well m b input k end w)
      (flat_map inputs_at a.controller.ports)
      (every_flat_map (λ (linked : Linked). Found setups a linked × IsPort setups linked.setup linked.port) (IsLabelEnd setups) inputs_at (λ linked p. inputs_of_port setups a linked has p.0 p.1) a.controller.ports (each_there setups a has)) a has h

  -- *Changes of routes*
  abbrev HasEnds : Join → Type 0
  HasEnds join = IsLabelEnd setups join.input × IsLabelEnd setups (output_joined join)

  begins_well : (m : Mode) (a : Acted) (change : RouteChange) → HasPorts setups a → Well m a → Well m (begins_change a change)
  begins_well m a change has h =
      let begun : Acted = record a { controller = record a.controller { is_begun = true } } in
      on_both (Well m) a.controller.is_begun a (fold takes_join_back begun (changed_joins a.controller change)) h
      (fine_fold setups links Old Gathered began marks m HasEnds takes_join_back (λ b join kb ends. takes_back_goes setups b join.input (output_joined join) kb (parts_label join.input (output_joined join) ends.0 ends.1))
      (λ b join kb ends k. takes_back_fine setups links Old Gathered began marks m b join.input (output_joined join) (parts_label join.input (output_joined join) ends.0 ends.1) k) (changed_joins a.controller change)
      (every_filter HasEnds (is_changed a.controller.table change) (joins_of a.controller)
      (every_map (IsJoin setups a) HasEnds (joins_of a.controller) (λ join is. (join_input setups a join has is, join_output setups a join has is)) (joins_are setups a has)))
      begun (moves_ports setups (moves_to (routing a a.controller.table a.controller.waiting true a.controller.changes)) has)
      (still_fine setups links Old Gathered began marks m a begun (record { adjacency = refl; desk = refl; met = refl; gathered = refl; queue = refl; frames = refl; controls = refl; instances = omega arith }) h))

  taken_well : (m : Mode) (a : Acted) (change : RouteChange) (later : List RouteChange) → Well m a → Well m (takes_change a change later)
  taken_well m a change later h = still_fine setups links Old Gathered began marks m a (takes_change a change later)
      (record { adjacency = refl; desk = refl; met = refl; gathered = refl; queue = refl; frames = refl; controls = refl; instances = omega arith }) h

  takes_each_well : (m : Mode) (changes : List RouteChange) (a : Acted) → HasPorts setups a → Well m a → Well m (takes_each a changes)
  takes_each_well m [] a has h = h
  takes_each_well m (change ∷ later) a has h =
      let begun : Acted = begins_change a change in
      let k : HasPorts setups begun = moves_ports setups (begins_change_goes setups a change has) has in
      let w : Well m begun = begins_well m a change has h in
      on_both (Well m) (may_take begun.controller change) (takes_each (takes_change begun change later) later) begun
      (takes_each_well m later (takes_change begun change later) (moves_ports setups (takes_change_goes setups begun change later) k) (taken_well m begun change later w)) w

  pub takes_changes_well : (m : Mode) (a : Acted) → HasPorts setups a → Well m a → Well m (takes_changes a)
  takes_changes_well m a has h = on_both (Well m) a.controller.has_met (takes_each a a.controller.waiting) a (takes_each_well m a.controller.waiting a has h) h

  pub change_well : (m : Mode) (a : Acted) (change : RouteChange) → HasPorts setups a → Well m a → Well m (change_comes a change)
  change_well m a change has h =
      let waits : Acted = record a { controller = record a.controller { waiting = a.controller.waiting ++ change ∷ [] } } in
      takes_changes_well m waits (moves_ports setups (moves_to (routing a a.controller.table (a.controller.waiting ++ change ∷ []) a.controller.is_begun a.controller.changes)) has)
      (still_fine setups links Old Gathered began marks m a waits (record { adjacency = refl; desk = refl; met = refl; gathered = refl; queue = refl; frames = refl; controls = refl; instances = omega arith }) h)

  -- *Meeting the switch*
  pub meets_well : (m : Mode) (a : Acted) → AreRead setups [] → a.controller.has_met ≡ false → Well m a → Well Untold (meets a)
  meets_well m a none unmet h = asks_fine setups links Old Gathered began marks Untold (with_desk a empty_desk) AllPorts asks_ports tt
      (record { queue = h.queue; gathered = h.gathered; reads = none; room = omega arith; knows = (unmet, tt) })

  linked_ups : (a : Acted) → HasPorts setups a → Every (IsLinked setups) (up_ports a.controller)
  linked_ups a has = every_filter (IsLinked setups) (is_up a.controller.desk.rows) (ports_of a.controller) (ports_linked setups a has)

  pub empties_well : (a : Acted) → HasPorts setups a → Well Told a → Well Told (empties a)
  empties_well a has h = asks_each Told (map DeleteAll (record { 0 = 0 } ∷ up_ports a.controller)) ((empties_control (record { 0 = 0 }) refl, tt), shapes (up_ports a.controller) (linked_ups a has)) a has h
    where
      shapes : (ports : List PortNo) → Every (IsLinked setups) ports → Every (λ (r : Request). IsShaped setups r × Allows Told r) (map DeleteAll ports)
      shapes [] e = tt
      shapes (port ∷ ports) e = ((empties_port port e.0, tt), shapes ports e.1)

  default_of : (port : PortNo) → IsLinked setups port → IsDefaultEnd setups (default_end port)
  default_of port linked = record { port = inr linked; vpi = refl; vci = refl }

  ends_well : (a : Acted) → HasPorts setups a → is_estab a.controller.adjacency.state ≡ true → Well Told a → Well Told (ends_meeting a)
  ends_well a has estab h =
      let met : Acted = record a { controller = record a.controller { has_met = true } } in
      asks_each Told (flat_map default_branches (up_ports a.controller)) (shapes (up_ports a.controller) (linked_ups a has)) met (moves_ports setups (moves_to (ending_meeting a estab)) has)
      (record { queue = h.queue; gathered = h.gathered; reads = h.reads; room = h.room; knows = h.knows })
    where
      shapes : (ports : List PortNo) → Every (IsLinked setups) ports → Every (λ (r : Request). IsShaped setups r × Allows Told r) (flat_map default_branches ports)
      shapes [] e = tt
      shapes (port ∷ ports) e = ((opens_input (default_end port) (default_of port e.0), tt), ((opens_output (default_end port) (default_of port e.0), tt), shapes ports e.1))

  -- *What a success causes*
  tells_well : (a : Acted) (request : Request) (port : PortNo) → HasPorts setups a → Well Told a → Well Told (tells_port a request (Some port))
  tells_well a request port has h = at_port_fine setups links Old Gathered began marks Told a port (λ setup desk w. port_answers.done setup w request) has
      (λ linked found. by_rule (port_answers.done linked.setup (begins a linked) request) (done_goes linked.setup a.controller.desk (begins a linked) request (λ t. tt))) (λ linked found. told_allows _) h

  behind_well : (a : Acted) (port : PortNo) → HasPorts setups a → IsShaped setups (DeleteAll port) → is_estab a.controller.adjacency.state ≡ true → Well Told a → Well Told (behind_delete_all a port)
  behind_well a port has shaped estab h = on_both (Well Told) a.controller.has_met (asks a (AddBranch (default_end port) (default_home port))) (if has_emptied a.controller then ends_meeting a else a)
      (asks_fine setups links Old Gathered began marks Told a (AddBranch (default_end port) (default_home port)) (opens_input (default_end port) (emptied_end setups port shaped)) tt h)
      (on_both (Well Told) (has_emptied a.controller) (ends_meeting a) a (ends_well a has estab h) h)

  caused_well : (a : Acted) (request : Request) → HasPorts setups a → IsShaped setups request → is_estab a.controller.adjacency.state ≡ true → Well Told a → Well Told (causes_in_estab a request)
  caused_well a (AddBranch input output) has shaped estab h = tells_well a (AddBranch input output) (port_of_input input output) has h
  caused_well a (MoveBranch input from to) has shaped estab h = tells_well a (MoveBranch input from to) (port_of_input input to) has h
  caused_well a (DeleteTree input) has shaped estab h = tells_well a (DeleteTree input) input.port has h
  caused_well a (VerifyTree input) has shaped estab h = tells_well a (VerifyTree input) input.port has h
  caused_well a (DeleteAll port) has shaped estab h = behind_well a port has shaped estab h
  caused_well a (PortManagement port function) has shaped estab h = tells_well a (PortManagement port function) port has h
  caused_well a AllPorts has shaped estab h = h

  cleared_well : (a : Acted) (o : Option Linked) → Well Told a → Well Told (clears_of a o)
  cleared_well a None h = h
  cleared_well a (Some linked) h = on_both (Well Told) (may_clear a.controller linked) (with_linked a (record linked { port = cleared linked.port })) a
      (record { queue = h.queue; gathered = h.gathered; reads = h.reads; room = h.room; knows = h.knows }) h

  clears_well : (ports : List PortNo) (a : Acted) → Well Told a → Well Told (fold clears_port a ports)
  clears_well [] a h = h
  clears_well (port ∷ ports) a h = clears_well ports (clears_port a port) (cleared_well a (linked_at a.controller port) h)

  pub done_well : (a : Acted) (request : Request) → HasPorts setups a → IsShaped setups request → Well Told a → Well Told (takes_changes (clears (causes (releases a request) request)))
  done_well a request has shaped h =
      let released : Acted = releases a request in
      let caused : Acted = causes released request in
      let k : HasPorts setups released = moves_ports setups (releases_goes setups a request has) has in
      let l : HasPorts setups caused = moves_ports setups (causes_goes setups released request k shaped) k in
      let w : Well Told released = releases_well a request has h in
      let v : Well Told caused = on_each (Well Told) (is_estab released.controller.adjacency.state) (causes_in_estab released request) released (λ estab. caused_well released request k shaped estab w) (λ closed. w) in
      takes_changes_well Told (clears caused) (moves_ports setups (clears_goes setups caused l) l) (clears_well (ports_of caused.controller) caused v)
