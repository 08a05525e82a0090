-- a cell of the GSMP channel comes to a controller: frames are made and numbers given out

use Rattle.std.proofs.Common.{◌≡◌, ℕ, ◌≤◌, Bool, true, List, [], ◌∷◌, fold, flat_map, map, Option, None, Some, Result, Ok, Err, refl, sym, subst, arith, if◌then◌else◌}
use Rattle.std.specs.Prelude.{nat_lt}
use Rattle.law_input_premises.specs.world_model.Words.{PortNo, number_of_channel, gsmp_received, is_estab, Cell, Request, AddBranch, MoveBranch, DeleteTree, VerifyTree, PortManagement, Part, Bad, Gsmp, gsmp_refusal, payload_in, last_mark, tested_by, Answered, Unknown, Done, Ports, Failed, answered, after_answer, Setup, halts_if_spent, Linked, linked_at, with_linked, with_desk, default_channel, default_end, default_home, asks, same_channel, ForGsmp, takes_cell, taker_at, port_on, on_link, gsmp_holds, join_of, parts, releases_join, releases_input, released_inputs, resets_spent, releases, up_ports, default_branches, ends_meeting, has_emptied, tells_port, causes_in_estab, causes, may_clear, clears_of, clears_port, clears, answers_desk, answer_comes, begins}
use Rattle.law_input_premises.specs.world_model.gsmp_wire.Fields.{decoded}
use Rattle.law_input_premises.specs.world_model.gsmp_wire.declared.fault.Fault.{Fault}
use Rattle.law_input_premises.specs.world_model.gsmp_wire.declared.message.Message.{Message}
use Rattle.law_input_premises.specs.world_model.gsmp_wire.declared.message.Message.TheVariants as messages
use Rattle.law_input_premises.specs.world_model.gsmp_wire.declared.request.Request.TheVariants.{DeleteAll, AllPorts}
use Rattle.law_input_premises.specs.world_model.frame_model.Frame.{octets_of}
use Rattle.law_input_premises.specs.world_model.frame_model.Reassembly.{Taken, taken}
use Rattle.law_input_premises.specs.world_model.port_model.Joins as port_joins
use Rattle.law_input_premises.specs.world_model.port_model.Answers as port_answers
use Rattle.law_input_premises.specs.world_model.port_model.Resets.{cleared}
use Rattle.law_input_premises.proofs.law_port_facts.Instances.{parted_gave, given_back_gave}
use Rattle.law_input_premises.proofs.law_port_facts.Keyed.{on_both}
use Rattle.law_input_premises.proofs.law_port_facts.Rules.{done_goes}
use Rattle.law_input_premises.proofs.law_port_facts.Steps.{steps_to}
use Rattle.law_input_premises.proofs.law_port_facts.Steps as steps_of
use Rattle.law_input_premises.specs.world_model.Controller.{Acted, free_slots, ports_of, note}
use Rattle.law_input_premises.specs.world_model.Cells.{after_test, ends_frame, after_cell, cell_comes}
use Rattle.law_input_premises.specs.world_model.Gsmp.{message_comes}
use Rattle.law_input_premises.specs.world_model.Joins.{Join}
use Rattle.law_input_premises.specs.world_model.Meeting.{request_port, takes_success}
use Rattle.law_world_views.specs.law_controller_views.Lifted.{Growing}
use Rattle.law_world_views.proofs.law_controller_views.Growing.{grow_self, grow_on, grow_fold, node_resets_grow, asks_grow, at_port_grow}
use Rattle.law_input_premises.proofs.law_input_steps.Resets.{note_still}
use Rattle.law_input_premises.proofs.law_shown_cells.Tested.{taken_frames, tested_frames}
use Rattle.law_input_events.proofs.Growing.{still_grows, changed, rule_grows, steps_grow, takes_changes_grow}

same_number : (m n : ℕ) → n ≡ m → m ≤ n
same_number m n e = omega (arith, e)

module _ (setups : List Setup) where
  -- *A success*
  release_grows : (a : Acted) (o : Option Join) → Growing a (releases_join a o)
  release_grows a None = grow_self a
  release_grows a (Some join) =
      let n : ℕ = number_of_channel join.input.channel in
      let b : Acted = note a (Part a.controller.node join.input.port n) in
      let c : Acted = parts a join.input in
      grow_on a b (releases_join a (Some join)) (still_grows a b (note_still a (Part a.controller.node join.input.port n)))
      (grow_on b c (releases_join a (Some join)) (at_port_grow b join.input.port (λ setup desk w. port_joins.parted w n)
      (λ linked found. same_number b.numbers.instances (port_joins.parted (begins b linked) n).instances (parted_gave b.numbers.instances (begins b linked) n refl)))
      (at_port_grow c join.port (λ setup desk w. port_joins.given_back w join.grant)
      (λ linked found. same_number c.numbers.instances (port_joins.given_back (begins c linked) join.grant).instances (given_back_gave c.numbers.instances (begins c linked) join.grant refl))))

  releases_grow : (a : Acted) (request : Request) → Growing a (releases a request)
  releases_grow a request =
      let b : Acted = fold releases_input a (released_inputs a.controller request) in
      grow_on a b (releases a request) (grow_fold releases_input (λ c i. release_grows c (join_of c.controller i)) (released_inputs a.controller request) a)
      (grow_fold resets_spent (λ c port. rule_grows setups c port (λ setup desk w. halts_if_spent w) (λ linked found. steps_to (steps_of.closing (begins c linked)))) (ports_of b.controller) b)

  ends_grow : (a : Acted) → Growing a (ends_meeting a)
  ends_grow a = (let b : Acted = record a { controller = record a.controller { has_met = true } } in
      grow_on a b (ends_meeting a) (changed a b refl refl) (grow_fold asks asks_grow (flat_map default_branches (up_ports a.controller)) b))

  tells_grow : (a : Acted) (request : Request) (o : Option PortNo) → Growing a (tells_port a request o)
  tells_grow a request None = grow_self a
  tells_grow a request (Some port) = rule_grows setups a port (λ setup desk w. port_answers.done setup w request) (λ linked found. done_goes linked.setup a.controller.desk (begins a linked) request (λ t. tt))

  cause_grows : (a : Acted) (request : Request) → Growing a (causes_in_estab a request)
  cause_grows a (DeleteAll port) = on_both (Growing a) a.controller.has_met (asks a (AddBranch (default_end port) (default_home port))) (if has_emptied a.controller then ends_meeting a else a)
      (asks_grow a (AddBranch (default_end port) (default_home port))) (on_both (Growing a) (has_emptied a.controller) (ends_meeting a) a (ends_grow a) (grow_self a))
  cause_grows a (AddBranch i o) = tells_grow a (AddBranch i o) (request_port (AddBranch i o))
  cause_grows a (MoveBranch i from to) = tells_grow a (MoveBranch i from to) (request_port (MoveBranch i from to))
  cause_grows a (DeleteTree i) = tells_grow a (DeleteTree i) (request_port (DeleteTree i))
  cause_grows a (VerifyTree i) = tells_grow a (VerifyTree i) (request_port (VerifyTree i))
  cause_grows a (PortManagement port function) = tells_grow a (PortManagement port function) (request_port (PortManagement port function))
  cause_grows a AllPorts = grow_self a

  causes_grow : (a : Acted) (request : Request) → Growing a (causes a request)
  causes_grow a request = on_both (Growing a) (is_estab a.controller.adjacency.state) (causes_in_estab a request) a (cause_grows a request) (grow_self a)

  clear_grows : (a : Acted) (o : Option Linked) → Growing a (clears_of a o)
  clear_grows a None = grow_self a
  clear_grows a (Some linked) = on_both (Growing a) (may_clear a.controller linked) (with_linked a (record linked { port = cleared linked.port })) a
      (changed a (with_linked a (record linked { port = cleared linked.port })) refl refl) (grow_self a)

  clears_grow : (a : Acted) → Growing a (clears a)
  clears_grow a = grow_fold clears_port (λ b port. clear_grows b (linked_at b.controller port)) (ports_of a.controller) a

  done_grows : (a : Acted) (request : Request) → Growing a (takes_success a request)
  done_grows a request =
      let b : Acted = releases a request in
      let c : Acted = causes b request in
      let d : Acted = clears c in
      grow_on a b (takes_success a request) (releases_grow a request) (grow_on b c (takes_success a request) (causes_grow b request) (grow_on c d (takes_success a request) (clears_grow c) (takes_changes_grow d)))

  -- *Answers*
  desk_grows : (a : Acted) (answer : Answered) → Growing a (answers_desk a answer)
  desk_grows a Unknown = grow_self a
  desk_grows a (Done s) = done_grows a s.request
  desk_grows a (Ports s rows) = grow_fold asks asks_grow (map DeleteAll (record { 0 = 0 } ∷ up_ports a.controller)) a
  desk_grows a (Failed s code) = node_resets_grow a

  answer_grows : (a : Acted) (m : Message) → Growing a (answer_comes a m)
  answer_grows a m =
      let o : Answered = answered a.controller.desk m in
      let b : Acted = with_desk a (after_answer a.controller.desk o) in
      grow_on a b (answer_comes a m) (changed a b refl refl) (desk_grows b o)

  told_grows : (a : Acted) (m : Message) → Growing a (message_comes a m)
  told_grows a (messages.Adjacency g) = steps_grow a (gsmp_received a.controller.adjacency g)
  told_grows a (messages.Branch kind r c n s ip i op o br pr) = answer_grows a (messages.Branch kind r c n s ip i op o br pr)
  told_grows a (messages.Move r c n s ip i op o tp t br pr) = answer_grows a (messages.Move r c n s ip i op o tp t br pr)
  told_grows a (messages.Port r c n p s f) = answer_grows a (messages.Port r c n p s f)
  told_grows a (messages.AllPorts r c n rows) = answer_grows a (messages.AllPorts r c n rows)

  holds_grow : (a : Acted) (r : Result Message Fault) → Growing a (gsmp_holds a r)
  holds_grow a (Ok m) = told_grows a m
  holds_grow a (Err fault) = still_grows a (gsmp_holds a (Err fault)) (note_still a (Bad a.controller.node Gsmp (gsmp_refusal fault)))

  -- *Cells*
  tested_grows : (a : Acted) (cells : List Cell) (o : Option (List ℕ)) → Growing a (after_test a ForGsmp (last_mark cells) (tested_by a.notes cells o))
  tested_grows a cells None = changed a (after_test a ForGsmp (last_mark cells) (tested_by a.notes cells None)) (tested_frames a.notes cells None) refl
  tested_grows a cells (Some payload) =
      let b : Acted = record a { notes = (tested_by a.notes cells (Some payload)).notes } in
      grow_on a b (gsmp_holds b (decoded payload)) (changed a b (tested_frames a.notes cells (Some payload)) refl) (holds_grow b (decoded payload))

  frame_grows : (a : Acted) (cells : List Cell) → Growing a (ends_frame a ForGsmp cells)
  frame_grows a [] = grow_self a
  frame_grows a (cell ∷ cells) = tested_grows a (cell ∷ cells) (payload_in (octets_of (cell ∷ cells)))

  pub gsmp_cell_grows : (a : Acted) (cell : Cell) → same_channel cell.header.channel default_channel ≡ true → Growing a (cell_comes a cell)
  gsmp_cell_grows a cell here =
      let t : Taken = taken a.notes (nat_lt 0 (free_slots a.controller)) a.controller.reassembly cell in
      let b : Acted = record a { controller = record a.controller { reassembly = t.reassembly }; notes = t.notes } in
      subst (λ (u : Bool). Growing a (takes_cell a cell (if u then Some ForGsmp else taker_at (linked_at a.controller (port_on cell.header.channel)) (on_link cell.header.channel)))) (sym here)
      (grow_on a b (after_cell a ForGsmp t) (changed a b (taken_frames a.notes (nat_lt 0 (free_slots a.controller)) a.controller.reassembly cell) refl) (frame_grows b t.ended))
