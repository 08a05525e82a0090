-- whatever a controller does since an event began, what stands at its desk was there before, or its frame stands in its queue: each of
-- its rules keeps that, and what frames make of packets

use Rattle.std.proofs.Common.{ℕ, ◌+◌, ◌≤◌, Bool, true, List, [], ◌∷◌, ◌++◌, length, map, filter, flat_map, fold, Option, None, Some, sym, subst, arith, if◌then◌else◌}
use Rattle.std.specs.Prelude.{◌==◌, nat_le, not}
use Rattle.world_model.specs.Words.{PortNo, End, Channel, Mark, Party, Cell, Frame, Loss, PoolFull, Part, Routes, Record, GivenOut, RouteChange, Said, Answer, Quiet, Send, Open, greeting_of, gsmp_answer, ticked, number_of_channel, next_control, with_control, noted, frame_cells, made, Request, AddBranch, MoveBranch, DeleteTree, VerifyTree, PortManagement, Desk, Standing, is_estab, is_led_home, is_on, withdraws, last_transaction, empty_desk, sent_again, Answered, Unknown, Done, Ports, Failed, Action, home_of, Work, halts_if_spent, resets, restarts, Controller, Linked, linked_at, with_linked, with_desk, chain_of, default_channel, default_end, default_home, sends_control, says_gsmp, sends_request, asks_next, asks, takes_back, cuts_of, cuts_label, begins, with_work, closes_by, port_restarts_of, port_restarts, resets_gsmp, node_resets, does, does_in_estab, resets_of, resets_port, performs, performs_in_estab, works, at_port, join_of, parts, releases_join, releases_input, released_inputs, resets_spent, releases, tries_joins, changed_joins, takes_join_back, begins_change, takes_change, may_take, takes_each, takes_changes, meets, up_ports, default_branches, ends_meeting, has_emptied, tells_port, behind_delete_all, causes_in_estab, causes, may_clear, clears_of, clears_port, clears, sends_again, ticks_port, ticks_ports, ticks_by, ifmp_packet_of, default_payload}
use Rattle.world_model.specs.ifmp_wire.Message.{octets_of as ifmp_octets}
use Rattle.world_model.specs.gsmp_wire.declared.message.Message.TheVariants as messages
use Rattle.world_model.specs.gsmp_wire.declared.request.Request.TheVariants.{DeleteAll, AllPorts}
use Rattle.world_model.specs.gsmp_wire.Layout.{octets_of}
use Rattle.world_model.specs.frame_model.Sending.{Sender}
use Rattle.world_model.specs.port_model.Desk.{asked, message_at}
use Rattle.world_model.specs.port_model.declared.action.Action.TheVariants as actions
use Rattle.world_model.specs.port_model.Answers as port_answers
use Rattle.world_model.specs.port_model.Joins as port_joins
use Rattle.world_model.specs.port_model.Resets.{cleared}
use Rattle.world_model.specs.port_model.Ticks as port_ticks
use Rattle.world_model.specs.adjacency_table.declared.message.Answer.TheVariants.{Reset}
use Rattle.world_model.specs.adjacency_table.Side as sides
use Rattle.world_model.specs.Controller.{Acted, free_slots, ports_of, note}
use Rattle.world_model.specs.Performing.{Rule}
use Rattle.world_model.specs.Sending.{with_cells, sends}
use Rattle.world_model.specs.Joins.{Join, output_joined}
use Rattle.world_model.specs.Meeting.{request_port, takes_success, answers_desk}
use Rattle.world_model.specs.Gsmp.{answers, steps}
use Rattle.world_model.specs.Ticks.{ticks}
use Rattle.law_port_facts.specs.ordered_lists.Ordered.{Every}
use Rattle.law_port_facts.proofs.ordered_lists.Every.{every_join}
use Rattle.law_port_facts.proofs.ordered_lists.Parts.{part_filtered, every_part}
use Rattle.law_port_facts.proofs.Keyed.{on_both}
use Rattle.law_shown_cells.proofs.Tested.{cut_frames}
use Rattle.law_causes.proofs.Rules as rules
use Rattle.law_live_control.proofs.Since.{with_frame}
use Rattle.law_live_desks.proofs.Standing.{IsThere, StaySame, same_control, there_now, Each, each_more, Kept, EachOf, kept_on, kept_lost}
use Rattle.law_live_desks.proofs.Ledger.{one_longer, noted_more, cut_more}

module _ (Old : Standing → Type 0) (entries : ℕ) where
  abbrev pub Goes : Acted → Type 0
  Goes a = Kept Old entries a

  all_kept : {X : Type 0} (f : Acted → X → Acted) → ((a : Acted) (x : X) → Goes a → Goes (f a x)) → (xs : List X) (a : Acted) → Goes a → Goes (fold f a xs)
  all_kept f each xs a h = rules.fold_kept Goes f each xs a h

  -- *A record is noted*, and fewer stand
  pub noted_kept : (a : Acted) (item : Record) → Goes a → Goes (note a item)
  noted_kept a item h = kept_on Old entries a (note a item) (noted_more (length a.notes.entries) a.notes item (omega arith)) (λ each. each) h

  fewer_kept : (a : Acted) (test : Standing → Bool) → Goes a → Goes (with_desk a (record a.controller.desk { standing = filter test a.controller.desk.standing }))
  fewer_kept a test h = kept_on Old entries a _ (omega arith) (λ each. every_part (IsThere Old a.controller.desk.rows a.controller.queue a.notes.frames a.numbers.controls) (part_filtered test a.controller.desk.standing) each) h

  -- *A frame is sent*
  pub sent_kept : (a : Acted) (numbers : GivenOut) (channel : Channel) (mark : Mark) (payload : List ℕ) → a.numbers.controls ≤ numbers.controls
      → StaySame a.notes.frames (with_frame a.notes.frames mark payload) a.numbers.controls → Goes a → Goes (sends (record a { numbers = numbers }) channel mark payload)
  sent_kept a numbers channel mark payload le same h = on_both (λ (s : Sender Controller). Goes (record a { controller = s.queues; notes = s.notes; numbers = numbers }))
      (nat_le (length (frame_cells channel mark payload)) (free_slots a.controller))
      (record { queues = with_cells a.controller (frame_cells channel mark payload); notes = made a.notes mark payload })
      (record { queues = a.controller; notes = noted (made a.notes mark payload) (Loss mark PoolFull) })
      (kept_on Old entries a _ (omega arith) (λ each. each_more Old a.controller.desk a.controller.queue (frame_cells channel mark payload) a.notes.frames (with_frame a.notes.frames mark payload) a.numbers.controls numbers.controls le same each) h)
      (kept_lost Old entries a _ (one_longer a.notes.entries (record { mark = mark; cause = PoolFull })) h)

  pub control_kept : (a : Acted) (channel : Channel) (payload : List ℕ) → Goes a → Goes (sends_control a channel payload)
  control_kept a channel payload h = sent_kept a (with_control a.numbers) channel (next_control a.numbers) payload (omega arith) (same_control a.notes.frames a.numbers.controls payload) h

  -- *A chain is cut*
  cut_kept : (port : PortNo) (a : Acted) (label : ℕ) → Goes a → Goes (cuts_label port a label)
  cut_kept port a label h = by (linked_at a.controller port)
    where
      by : (o : Option Linked) → Goes (cuts_of a label o)
      by None = h
      by (Some linked) = kept_on Old entries a _ (cut_more (length a.notes.entries) a.notes (chain_of linked.chains label) (omega arith))
          (λ each. subst (λ (frames : List Frame). Each Old a.controller.desk a.controller.queue frames a.numbers.controls) (sym (cut_frames a.notes (chain_of linked.chains label))) each) h

  -- *The node is reset*: nothing stands
  closes_kept : (port : PortNo) (a : Acted) (action : Action) → Goes a → Goes (closes_by port a action)
  closes_kept port a (actions.Say message) h = h
  closes_kept port a (actions.Ask request needed) h = h
  closes_kept port a (actions.Note item) h = noted_kept a item h
  closes_kept port a (actions.CutChain label) h = cut_kept port a label h
  closes_kept port a (actions.TakeBack input output) h = h
  closes_kept port a (actions.Withdraw input) h = h
  closes_kept port a actions.Reset h = h

  restarts_kept : (a : Acted) (port : PortNo) → Goes a → Goes (port_restarts a port)
  restarts_kept a port h = by (linked_at a.controller port)
    where
      by : (o : Option Linked) → Goes (port_restarts_of a o)
      by None = h
      by (Some linked) =
          let w : Work = restarts linked.setup (begins a linked) in
          all_kept (closes_by linked.setup.port) (closes_kept linked.setup.port) w.actions (with_work a linked w) (record { grown = h.grown; each = h.each })

  pub reset_kept : (a : Acted) → Goes a → Goes (node_resets a)
  reset_kept a h = all_kept port_restarts restarts_kept (ports_of a.controller) (resets_gsmp a) (record { grown = h.grown; each = λ e. tt })

  -- *A request is asked*: it stands, and its frame is sent
  next_kept : (a : Acted) (request : Request) → Goes a → Goes (asks_next a request)
  next_kept a request h = on_both (λ (x : Sender Controller). Goes (record a { controller = x.queues; notes = x.notes; numbers = with_control a.numbers }))
      (nat_le (length cells) (free_slots b.controller))
      (record { queues = with_cells b.controller cells; notes = made a.notes mark octets })
      (record { queues = b.controller; notes = noted (made a.notes mark octets) (Loss mark PoolFull) })
      (kept_on Old entries a _ (omega arith) each_now h)
      (kept_lost Old entries a _ (one_longer a.notes.entries (record { mark = mark; cause = PoolFull })) h)
    where
      desk : Desk
      desk = a.controller.desk

      b : Acted
      b = with_desk a (asked desk request)

      s : Standing
      s = record { number = desk.next; request = request }

      octets : List ℕ
      octets = octets_of (message_at (asked desk request) s)

      mark : Mark
      mark = next_control a.numbers

      cells : List Cell
      cells = frame_cells default_channel mark octets

      left : Standing → Bool
      left other = not (withdraws request other.request)

      IsNow : Standing → Type 0
      IsNow other = IsThere Old desk.rows (a.controller.queue ++ cells) (with_frame a.notes.frames mark octets) (a.numbers.controls + 1) other

      each_now : EachOf Old entries a → Every IsNow (filter left desk.standing ++ s ∷ [])
      each_now each = every_join IsNow (filter left desk.standing) (s ∷ [])
          (every_part IsNow (part_filtered left desk.standing) (each_more Old desk a.controller.queue cells a.notes.frames (with_frame a.notes.frames mark octets) a.numbers.controls (a.numbers.controls + 1) (omega arith)
          (same_control a.notes.frames a.numbers.controls octets) each)) (there_now Old desk.rows a.controller.queue a.notes.frames a.numbers.controls s, tt)

  pub asks_kept : (a : Acted) (request : Request) → Goes a → Goes (asks a request)
  asks_kept a request h = on_both Goes (is_estab a.controller.adjacency.state) (if a.controller.desk.next == last_transaction then node_resets a else asks_next a request) a
      (on_both Goes (a.controller.desk.next == last_transaction) (node_resets a) (asks_next a request) (reset_kept a h) (next_kept a request h)) h

  asks_each_kept : (requests : List Request) (a : Acted) → Goes a → Goes (fold asks a requests)
  asks_each_kept requests a h = all_kept asks asks_kept requests a h

  takes_back_kept : (a : Acted) (input output : End) → Goes a → Goes (takes_back a input output)
  takes_back_kept a input output h = on_both Goes (is_led_home a.controller.desk input (home_of input)) a (asks a (MoveBranch input output (home_of input))) h (asks_kept a (MoveBranch input output (home_of input)) h)

  -- *What a port asked* is done
  does_kept : (port : PortNo) (a : Acted) (action : Action) → Goes a → Goes (does port a action)
  does_kept port a (actions.Say message) h = control_kept a (default_home port).channel (default_payload (ifmp_packet_of a.controller.address (ifmp_octets message))) h
  does_kept port a (actions.Ask request needed) h = asks_kept a request h
  does_kept port a (actions.Note item) h = noted_kept a item h
  does_kept port a (actions.CutChain label) h = cut_kept port a label h
  does_kept port a (actions.TakeBack input output) h = takes_back_kept a input output h
  does_kept port a (actions.Withdraw input) h = fewer_kept a (λ (s : Standing). not (is_on input s.request)) h
  does_kept port a actions.Reset h = h

  does_in_kept : (port : PortNo) (a : Acted) (action : Action) → Goes a → Goes (does_in_estab port a action)
  does_in_kept port a action h = on_both Goes (is_estab a.controller.adjacency.state) (does port a action) a (does_kept port a action h) h

  resets_kept : (a : Acted) (port : PortNo) → Goes a → Goes (resets_port a port)
  resets_kept a port h = by (linked_at a.controller port)
    where
      by : (o : Option Linked) → Goes (resets_of a o)
      by None = h
      by (Some linked) =
          let w : Work = resets linked.setup (begins a linked) in
          all_kept (does_in_estab linked.setup.port) (does_in_kept linked.setup.port) w.actions (with_work a linked w) (record { grown = h.grown; each = h.each })

  performs_kept : (port : PortNo) (a : Acted) (action : Action) → Goes a → Goes (performs port a action)
  performs_kept port a (actions.Say message) h = does_kept port a (actions.Say message) h
  performs_kept port a (actions.Ask request needed) h = does_kept port a (actions.Ask request needed) h
  performs_kept port a (actions.Note item) h = does_kept port a (actions.Note item) h
  performs_kept port a (actions.CutChain label) h = does_kept port a (actions.CutChain label) h
  performs_kept port a (actions.TakeBack input output) h = does_kept port a (actions.TakeBack input output) h
  performs_kept port a (actions.Withdraw input) h = does_kept port a (actions.Withdraw input) h
  performs_kept port a actions.Reset h = resets_kept a port h

  performs_in_kept : (port : PortNo) (a : Acted) (action : Action) → Goes a → Goes (performs_in_estab port a action)
  performs_in_kept port a action h = on_both Goes (is_estab a.controller.adjacency.state) (performs port a action) a (performs_kept port a action h) h

  -- *Any rule* at a port
  pub rule_kept : (a : Acted) (port : PortNo) (rule : Rule) → Goes a → Goes (at_port a port rule)
  rule_kept a port rule h = by (linked_at a.controller port)
    where
      by : (o : Option Linked) → Goes (works a rule o)
      by None = h
      by (Some linked) =
          let w : Work = rule linked.setup a.controller.desk (begins a linked) in
          all_kept (performs_in_estab linked.setup.port) (performs_in_kept linked.setup.port) w.actions (with_work a linked w) (record { grown = h.grown; each = h.each })

  -- *Joins* are released, and tried
  releases_join_kept : (a : Acted) (o : Option Join) → Goes a → Goes (releases_join a o)
  releases_join_kept a None h = h
  releases_join_kept a (Some join) h =
      let parting : Acted = note a (Part a.controller.node join.input.port (number_of_channel join.input.channel)) in
      rule_kept (parts a join.input) join.port (λ setup desk w. port_joins.given_back w join.grant)
      (rule_kept parting join.input.port (λ setup desk w. port_joins.parted w (number_of_channel join.input.channel)) (noted_kept a _ h))

  releases_kept : (a : Acted) (request : Request) → Goes a → Goes (releases a request)
  releases_kept a request h =
      let released : Acted = fold releases_input a (released_inputs a.controller request) in
      all_kept resets_spent (λ b port k. rule_kept b port (λ setup desk w. halts_if_spent w) k) (ports_of released.controller) released
      (all_kept releases_input (λ b input k. releases_join_kept b (join_of b.controller input) k) (released_inputs a.controller request) a h)

  tries_joins_kept : (a : Acted) → Goes a → Goes (tries_joins a)
  tries_joins_kept a h = rules.tries_joins_kept Goes asks_kept (λ b join k. rule_kept b join.port (λ setup desk w. port_joins.lent w join.grant join.input) k)
      (λ b join k. rule_kept b join.input.port (λ setup desk w. port_joins.joined w (number_of_channel join.input.channel) (output_joined join)) k) a h

  -- *Changes of routes*
  begins_change_kept : (a : Acted) (change : RouteChange) → Goes a → Goes (begins_change a change)
  begins_change_kept a change h =
      let begun : Acted = record a { controller = record a.controller { is_begun = true } } in
      on_both Goes a.controller.is_begun a (fold takes_join_back begun (changed_joins a.controller change)) h
      (all_kept takes_join_back (λ b join k. takes_back_kept b join.input (output_joined join) k) (changed_joins a.controller change) begun (record { grown = h.grown; each = h.each }))

  takes_each_kept : (changes : List RouteChange) (a : Acted) → Goes a → Goes (takes_each a changes)
  takes_each_kept [] a h = h
  takes_each_kept (change ∷ later) a h =
      let begun : Acted = begins_change a change in
      let k : Goes begun = begins_change_kept a change h in
      on_both Goes (may_take begun.controller change) (takes_each (takes_change begun change later) later) begun
      (takes_each_kept later (takes_change begun change later) (kept_on Old entries begun (takes_change begun change later) (noted_more (length begun.notes.entries) begun.notes (Routes begun.controller.node (begun.controller.changes + 1)) (omega arith)) (λ each. each) k)) k

  takes_changes_kept : (a : Acted) → Goes a → Goes (takes_changes a)
  takes_changes_kept a h = on_both Goes a.controller.has_met (takes_each a a.controller.waiting) a (takes_each_kept a.controller.waiting a h) h

  -- *What a success causes*
  ends_meeting_kept : (a : Acted) → Goes a → Goes (ends_meeting a)
  ends_meeting_kept a h = asks_each_kept (flat_map default_branches (up_ports a.controller)) (record a { controller = record a.controller { has_met = true } }) (record { grown = h.grown; each = h.each })

  behind_kept : (a : Acted) (port : PortNo) → Goes a → Goes (behind_delete_all a port)
  behind_kept a port h = on_both Goes a.controller.has_met (asks a (AddBranch (default_end port) (default_home port))) (if has_emptied a.controller then ends_meeting a else a)
      (asks_kept a (AddBranch (default_end port) (default_home port)) h)
      (on_both Goes (has_emptied a.controller) (ends_meeting a) a (ends_meeting_kept a h) h)

  tells_kept : (a : Acted) (request : Request) (o : Option PortNo) → Goes a → Goes (tells_port a request o)
  tells_kept a request None h = h
  tells_kept a request (Some port) h = rule_kept a port (λ setup desk w. port_answers.done setup w request) h

  causes_in_kept : (a : Acted) (request : Request) → Goes a → Goes (causes_in_estab a request)
  causes_in_kept a (DeleteAll port) h = behind_kept a port h
  causes_in_kept a (AddBranch input output) h = tells_kept a (AddBranch input output) (request_port (AddBranch input output)) h
  causes_in_kept a (MoveBranch input from to) h = tells_kept a (MoveBranch input from to) (request_port (MoveBranch input from to)) h
  causes_in_kept a (DeleteTree input) h = tells_kept a (DeleteTree input) (request_port (DeleteTree input)) h
  causes_in_kept a (VerifyTree input) h = tells_kept a (VerifyTree input) (request_port (VerifyTree input)) h
  causes_in_kept a (PortManagement port function) h = tells_kept a (PortManagement port function) (request_port (PortManagement port function)) h
  causes_in_kept a AllPorts h = h

  clears_port_kept : (a : Acted) (port : PortNo) → Goes a → Goes (clears_port a port)
  clears_port_kept a port h = by (linked_at a.controller port)
    where
      by : (o : Option Linked) → Goes (clears_of a o)
      by None = h
      by (Some linked) = on_both Goes (may_clear a.controller linked) (with_linked a (record linked { port = cleared linked.port })) a (record { grown = h.grown; each = h.each }) h

  success_kept : (a : Acted) (request : Request) → Goes a → Goes (takes_success a request)
  success_kept a request h =
      let released : Acted = releases a request in
      let caused : Acted = causes released request in
      let k : Goes released = releases_kept a request h in
      takes_changes_kept (clears caused) (all_kept clears_port clears_port_kept (ports_of caused.controller) caused
      (on_both Goes (is_estab released.controller.adjacency.state) (causes_in_estab released request) released (causes_in_kept released request k) k))

  -- *An answer*, once the desk has taken it
  pub answer_kept : (a : Acted) (answer : Answered) → Goes a → Goes (answers_desk a answer)
  answer_kept a Unknown h = h
  answer_kept a (Done s) h = success_kept a s.request h
  answer_kept a (Ports s rows) h = asks_each_kept (map DeleteAll (record { 0 = 0 } ∷ up_ports a.controller)) a h
  answer_kept a (Failed s code) h = reset_kept a h

  -- *The adjacency with the switch*
  meets_kept : (a : Acted) → Goes a → Goes (meets a)
  meets_kept a h = asks_kept (with_desk a empty_desk) AllPorts (record { grown = h.grown; each = λ e. tt })

  answers_kept : (a : Acted) (answer : Answer (Said Party) Party) → Goes a → Goes (answers a (gsmp_answer answer))
  answers_kept a Quiet h = h
  answers_kept a (Send said) h = control_kept a default_channel (octets_of (messages.Adjacency (greeting_of said))) h
  answers_kept a (Open None own) h = meets_kept a h
  answers_kept a (Open (Some said) own) h = meets_kept (says_gsmp a (messages.Adjacency (greeting_of said))) (control_kept a default_channel (octets_of (messages.Adjacency (greeting_of said))) h)
  answers_kept a Reset h = reset_kept a h

  pub steps_kept : (a : Acted) (step : sides.Step Party) → Goes a → Goes (steps a step)
  steps_kept a step h = answers_kept (record a { controller = record a.controller { adjacency = step.side } }) step.answer (record { grown = h.grown; each = h.each })

  -- *A tick*
  again_kept : (a : Acted) → Goes a → Goes (sends_again a)
  again_kept a h = on_both Goes (is_estab a.controller.adjacency.state) (fold sends_request a (sent_again a.controller.desk)) a
      (all_kept sends_request (λ b s k. control_kept b default_channel (octets_of (message_at b.controller.desk s)) k) (sent_again a.controller.desk) a h) h

  pub ports_kept : (a : Acted) → Goes a → Goes (tries_joins (ticks_ports a))
  ports_kept a h = tries_joins_kept (ticks_ports a) (all_kept ticks_port (λ b port k. rule_kept b port port_ticks.ticks k) (ports_of a.controller) a h)

  rest_kept : (a : Acted) (step : sides.Step Party) → Goes a → Goes (tries_joins (ticks_ports (sends_again (steps a step))))
  rest_kept a step h = ports_kept (sends_again (steps a step)) (again_kept (steps a step) (steps_kept a step h))

  ticks_by_kept : (a : Acted) (step : sides.Step Party) (answer : Answer (Said Party) Party) → Goes a → Goes (ticks_by a step answer)
  ticks_by_kept a step Quiet h = rest_kept a step h
  ticks_by_kept a step (Send said) h = rest_kept a step h
  ticks_by_kept a step (Open said own) h = rest_kept a step h
  ticks_by_kept a step Reset h = reset_kept a h

  pub ticks_kept : (a : Acted) → Goes a → Goes (ticks a)
  ticks_kept a h = ticks_by_kept a (ticked a.controller.adjacency) (ticked a.controller.adjacency).answer h
