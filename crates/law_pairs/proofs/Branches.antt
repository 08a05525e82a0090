-- what a switch does: a branch leads where one led before it, or where a request that it takes asks

use Rattle.std.proofs.Common.{◌≡◌, ℕ, zero, suc, ◌+◌, ◌≤◌, Bool, true, false, List, [], ◌∷◌, ◌++◌, length, Option, None, Some, Result, Ok, Err, refl, sym, ◌∙◌, ap, subst, arith, inl, inr, if◌then◌else◌}
use Rattle.std.specs.Prelude.{◌==◌, ◌&&◌, not, nat_le, nat_lt}
use Rattle.std.specs.Option.{option_map, option_and_then}
use Rattle.std.specs.FinMap.{get, insert, remove, keys}
use Rattle.law_causes.specs.world_model.Words.{End, PortNo, Mark, Greeting, Party, next_control, with_control, Answer, Quiet, Send, Open, Step, is_estab, ticked, gsmp_answer, gsmp_received, Cell, Move, Request, AddBranch, MoveBranch, DeleteTree, VerifyTree, PortManagement, Frame, Loss, PoolFull, Journal, noted, made, last_mark, payload_in, tested_by, frame_cells, Reassembly, marks_of, broken, most_cells, passed_over, without_slot, too_long, Routed, Branches, Crossbar, same_end, new_branch, cut_by_move, unfinished_after, routed, switched_on, Standing, Switch, control_port, gsmp_channel, Changed, noted_cut, added_by, added, moved_by, moved_to, ended_by, all_ended, inputs_on, branches_after, asked_in, is_request, failure_of, handled_by, handled_asked, handled, replied, requested, frame_read, gsmp_cell, switched_cell, is_gsmp, tick_comes, restarted, gsmp_of, copy_by, copy_of, leads}
use Rattle.law_causes.specs.world_model.adjacency_table.declared.message.Answer.TheVariants.{Reset}
use Rattle.law_causes.specs.world_model.gsmp_wire.declared.fault.Fault.{Fault}
use Rattle.law_causes.specs.world_model.gsmp_wire.declared.message.Message.{Message}
use Rattle.law_causes.specs.world_model.gsmp_wire.declared.message.Message.TheVariants.{Adjacency, Branch as BranchMessage, Port, AllPorts as AllPortsMessage}
use Rattle.law_causes.specs.world_model.gsmp_wire.declared.request.Request.TheVariants.{DeleteAll, AllPorts}
use Rattle.law_causes.specs.world_model.gsmp_wire.Layout.{octets_of as message_octets}
use Rattle.law_causes.specs.world_model.gsmp_wire.Fields.{decoded}
use Rattle.law_causes.specs.world_model.frame_model.Frame.{octets_of, passed_test}
use Rattle.law_causes.specs.world_model.frame_model.Sending.{Sender}
use Rattle.law_causes.specs.world_model.frame_model.Reassembly.{Taken, taken, cell_joined}
use Rattle.law_world_views.specs.ordered_lists.Ordered.{Every}
use Rattle.law_world_views.proofs.ordered_lists.Every.{every_join}
use Rattle.law_causes.specs.world_model.crossbar_model.declared.branch.Branch.{Branch}
use Rattle.law_causes.specs.world_model.crossbar_model.declared.routed.Routed.TheVariants as routes
use Rattle.law_causes.specs.world_model.crossbar_model.Crossbar.{output_of, input_of}
use Rattle.law_causes.specs.world_model.switch_model.declared.request.Asked.{Asked}
use Rattle.law_causes.specs.world_model.gsmp_wire.declared.failure.Failure.{Failure}
use Rattle.law_causes.specs.world_model.Switch.{ActedSwitch, free_slots}
use Rattle.law_causes.specs.world_model.Requests.{branch_ended, deleted_all}
use Rattle.law_causes.specs.world_model.Conduct.{with_cells, says, answers, steps, message_heard, after_test, ends_frame, cell_routed as passed_cell, cell_comes}
use Rattle.law_world_views.proofs.law_port_facts.Keyed.{on_both}
use Rattle.law_causes.proofs.Maps.{same_input, insert_here, insert_away, remove_here, remove_away}
use Rattle.law_causes.specs.world_model.Ways.{ok_of as heard}
use Rattle.law_quiet_controllers.specs.Quiet.{AskTheSame}
use Rattle.law_quiet_controllers.proofs.Asking.{cut_frames as chain_cut_frames}
use Rattle.law_quiet_controllers.proofs.Events.{broken_frames, taken_frames, passed_frames}
use Rattle.law_quiet_controllers.proofs.Sending.{made_asks}

-- *What a request says of itself*: under its number it is a copy
copy_is : (m : Message) (asked : Asked) → is_request m ≡ true → asked_in m ≡ Some asked → (number : ℕ) × (copy_of m ≡ Some (record { number = number; request = asked.request }))
copy_is (Adjacency greeting) asked r e = absurd (cc e)
copy_is (BranchMessage kind result code number session input_port input output_port output branches priority) asked r e = (number, λ i. if r i then copy_by (Some (record { result = result; code = code; number = number })) (e i) else None)
copy_is (Move result code number session input_port input output_port output target_port target branches priority) asked r e = (number, λ i. if r i then copy_by (Some (record { result = result; code = code; number = number })) (e i) else None)
copy_is (Port result code number port session function) asked r e = (number, λ i. if r i then copy_by (Some (record { result = result; code = code; number = number })) (e i) else None)
copy_is (AllPortsMessage result code number rows) asked r e = (number, λ i. if r i then copy_by (Some (record { result = result; code = code; number = number })) (e i) else None)

-- *No frame is made* by a request
noted_frames : (notes : Journal) (o : Option Mark) → (noted_cut notes o).frames ≡ notes.frames
noted_frames notes None = refl
noted_frames notes (Some mark) = refl

ended_frames : (c : Changed) (input : End) (o : Option Branch) → (ended_by c input o).notes.frames ≡ c.notes.frames
ended_frames c input None = refl
ended_frames c input (Some b) = noted_frames c.notes b.unfinished

all_frames : (inputs : List End) (c : Changed) → (all_ended c inputs).notes.frames ≡ c.notes.frames
all_frames [] c = refl
all_frames (input ∷ inputs) c = all_frames inputs (branch_ended c input) ∙ ended_frames c input (get c.branches input)

moved_frames : (c : Changed) (input to : End) (o : Option Branch) → (moved_by c input to o).notes.frames ≡ c.notes.frames
moved_frames c input to None = refl
moved_frames c input to (Some b) = noted_frames c.notes (cut_by_move b to)

after_frames : (c : Changed) (request : Request) → (branches_after c request).notes.frames ≡ c.notes.frames
after_frames c (AddBranch input output) = refl
after_frames c (MoveBranch input from to) = moved_frames c input to (get c.branches input)
after_frames c (DeleteTree input) = ended_frames c input (get c.branches input)
after_frames c (VerifyTree input) = refl
after_frames c (DeleteAll port) = all_frames (inputs_on c.branches port) c
after_frames c (PortManagement port function) = on_both (λ (z : Changed). z.notes.frames ≡ c.notes.frames) (function == 2) (deleted_all c port) c (all_frames (inputs_on c.branches port) c) refl
after_frames c AllPorts = refl

-- *Branches* that lead where they may
module _ (May : End → End → Type 0) where
  abbrev pub AreLed : Branches → Type 0
  AreLed m = (input output : End) → output_of m input ≡ Some output → May input output

  put_led : (m : Branches) (input : End) (b : Branch) → May input b.output → AreLed m → AreLed (insert m input b)
  put_led m input b may h e output found = elim (same_input e input) [
    | inl same ↦ (let both : Some b.output ≡ Some output = sym (ap (option_map (λ (x : Branch). x.output)) (ap (get (insert m input b)) same ∙ insert_here m input b)) ∙ found in
        let at : b.output ≡ output = cc both in
        subst (λ (x : End). May x output) (sym same) (subst (May input) at may))
    | inr d ↦ h e output (sym (ap (option_map (λ (x : Branch). x.output)) (insert_away m input e b d)) ∙ found)
  ]

  removed_led : (m : Branches) (input : End) → AreLed m → AreLed (remove m input)
  removed_led m input h e output found = elim (same_input e input) [
    | inl same ↦ absurd (cc (sym (ap (option_map (λ (x : Branch). x.output)) (ap (get (remove m input)) same ∙ remove_here m input)) ∙ found))
    | inr d ↦ h e output (sym (ap (option_map (λ (x : Branch). x.output)) (remove_away m input e d)) ∙ found)
  ]

  ended_one : (c : Changed) (input : End) → AreLed c.branches → AreLed (branch_ended c input).branches
  ended_one c input h = by (get c.branches input)
    where
      by : (o : Option Branch) → AreLed (ended_by c input o).branches
      by None = h
      by (Some b) = removed_led c.branches input h

  ended_all : (inputs : List End) (c : Changed) → AreLed c.branches → AreLed (all_ended c inputs).branches
  ended_all [] c h = h
  ended_all (input ∷ inputs) c h = ended_all inputs (branch_ended c input) (ended_one c input h)

  added_one : (m : Branches) (input output : End) → May input output → AreLed m → AreLed (added m input output)
  added_one m input output may h = by (get m input)
    where
      by : (o : Option Branch) → AreLed (added_by m input output o)
      by None = put_led m input (new_branch output) may h
      by (Some b) = h

  moved_one : (c : Changed) (input to : End) → May input to → AreLed c.branches → AreLed (moved_to c input to).branches
  moved_one c input to may h = by (get c.branches input)
    where
      by_same : (t : Bool) → AreLed (if t then c.branches else insert c.branches input (new_branch to))
      by_same true = h
      by_same false = put_led c.branches input (new_branch to) may h

      by : (o : Option Branch) → AreLed (moved_by c input to o).branches
      by None = h
      by (Some b) = by_same (same_end b.output to)

  -- *A request* leads where it asks
  abbrev pub Leads : Request → Type 0
  Leads request = (input output : End) → leads request ≡ Some (input, output) → May input output

  request_led : (request : Request) → Leads request → (c : Changed) → AreLed c.branches → AreLed (branches_after c request).branches
  request_led (AddBranch input output) may c h = added_one c.branches input output (may input output refl) h
  request_led (MoveBranch input from to) may c h = moved_one c input to (may input to refl) h
  request_led (DeleteTree input) may c h = ended_one c input h
  request_led (VerifyTree input) may c h = h
  request_led (DeleteAll port) may c h = ended_all (inputs_on c.branches port) c h
  request_led (PortManagement port function) may c h = on_both (λ (z : Changed). AreLed z.branches) (function == 2) (deleted_all c port) c (ended_all (inputs_on c.branches port) c h) h
  request_led AllPorts may c h = h

  -- *A switch* whose branches lead where they may, whose chain is of good cells, and that makes frames under new control
  -- marks alone
  module _ (Good : Cell → Type 0) (controls : ℕ) (frames : List Frame) where
    pub record IsLed (a : ActedSwitch) : Type 0 where
      pub branches : AreLed a.switch.crossbar.branches
      pub chain : Every Good a.switch.reassembly.chain
      pub given : controls ≤ a.numbers.controls
      pub asks : AskTheSame controls frames a.notes.frames

    frames_led : (a : ActedSwitch) (notes : Journal) → notes.frames ≡ a.notes.frames → IsLed a → IsLed (record a { notes = notes })
    frames_led a notes same h = record { branches = h.branches; chain = h.chain; given = h.given; asks = subst (AskTheSame controls frames) (sym same) h.asks }

    later : (now : ℕ) (mark : Mark) → mark ≡ record { packet = 0; frame = now + 1 } → controls ≤ now → mark.frame ≤ controls → ⊥
    later now mark is given le = below mark.frame (ap (λ (m : Mark). m.frame) is) given le
      where
        below : (f : ℕ) → f ≡ now + 1 → controls ≤ now → f ≤ controls → ⊥
        below f e given le = absurd (omega (arith, e, given, le))

    more : (n : ℕ) → controls ≤ n → controls ≤ n + 1
    more n le = omega (arith, le)

    says_led : (a : ActedSwitch) (m : Message) → IsLed a → IsLed (says a m)
    says_led a m h = on_both (λ (s : Sender Switch). IsLed (record { switch = s.queues; notes = s.notes; numbers = with_control a.numbers }))
        (nat_le (length (frame_cells gsmp_channel (next_control a.numbers) (message_octets m))) (free_slots a.switch))
        (record { queues = with_cells a.switch control_port (frame_cells gsmp_channel (next_control a.numbers) (message_octets m)); notes = made a.notes (next_control a.numbers) (message_octets m) })
        (record { queues = a.switch; notes = noted (made a.notes (next_control a.numbers) (message_octets m)) (Loss (next_control a.numbers) PoolFull) })
        (record { branches = h.branches; chain = h.chain; given = more a.numbers.controls h.given; asks = asks })
        (record { branches = h.branches; chain = h.chain; given = more a.numbers.controls h.given; asks = asks })
      where
        asks : AskTheSame controls frames (made a.notes (next_control a.numbers) (message_octets m)).frames
        asks mark s control le e = elim (made_asks a.notes.frames (next_control a.numbers) mark (message_octets m) s e) [
          | inl before ↦ h.asks mark s control le before
          | inr here ↦ absurd (later a.numbers.controls mark (sym here.0) h.given le)
        ]

    answers_led : (a : ActedSwitch) (answer : Answer Greeting Party) → IsLed a → IsLed (answers a answer)
    answers_led a Quiet h = h
    answers_led a (Send greeting) h = says_led a (Adjacency greeting) h
    answers_led a (Open None key) h = h
    answers_led a (Open (Some greeting) key) h = says_led a (Adjacency greeting) h
    answers_led a Reset h = record { branches = h.branches; chain = h.chain; given = h.given; asks = h.asks }

    steps_led : (a : ActedSwitch) (step : Step Party) → IsLed a → IsLed (steps a step)
    steps_led a step h = answers_led (record a { switch = record a.switch { adjacency = step.side } }) (gsmp_answer step.answer) (record { branches = h.branches; chain = h.chain; given = h.given; asks = h.asks })

    -- *A request* is handled
    handled_led : (a : ActedSwitch) (m : Message) → is_request m ≡ true → ((copy : Standing) → copy_of m ≡ Some copy → Leads copy.request) → IsLed a
        → IsLed (record a { switch = (handled a.switch a.notes m).switch; notes = (handled a.switch a.notes m).notes })
    handled_led a m is may h = by (asked_in m) refl
      where
        by_failure : (asked : Asked) → Leads asked.request → (o : Option Failure)
            → IsLed (record a { switch = (handled_by a.switch a.notes m asked.request o).switch; notes = (handled_by a.switch a.notes m asked.request o).notes })
        by_failure asked on (Some failure) = h
        by_failure asked on None = record {
          branches = request_led asked.request on (record { branches = a.switch.crossbar.branches; notes = a.notes }) h.branches;
          chain = h.chain;
          given = h.given;
          asks = subst (AskTheSame controls frames) (sym (after_frames (record { branches = a.switch.crossbar.branches; notes = a.notes }) asked.request)) h.asks;
        }

        by : (o : Option Asked) → asked_in m ≡ o → IsLed (record a { switch = (handled_asked a.switch a.notes m o).switch; notes = (handled_asked a.switch a.notes m o).notes })
        by None e = h
        by (Some asked) e = (let copy = copy_is m asked is e in by_failure asked (may (record { number = copy.0; request = asked.request }) copy.1) (failure_of a.switch.ports a.switch.vpis a.switch.crossbar.branches asked))

    requested_led : (a : ActedSwitch) (m : Message) → ((copy : Standing) → copy_of m ≡ Some copy → Leads copy.request) → IsLed a → IsLed (requested a m)
    requested_led a m may h = by (is_request m) refl (is_estab a.switch.adjacency.state)
      where
        by : (t : Bool) → is_request m ≡ t → (estab : Bool) → IsLed (if t && estab then replied a (handled a.switch a.notes m) else a)
        by true r true = says_led (record a { switch = (handled a.switch a.notes m).switch; notes = (handled a.switch a.notes m).notes }) (handled a.switch a.notes m).answer (handled_led a m r may h)
        by true r false = h
        by false r estab = h

    told_led : (a : ActedSwitch) (m : Message) → ((copy : Standing) → copy_of m ≡ Some copy → Leads copy.request) → IsLed a → IsLed (message_heard a m)
    told_led a (Adjacency greeting) may h = steps_led a (gsmp_received a.switch.adjacency greeting) h
    told_led a (BranchMessage kind result code number session input_port input output_port output branches priority) may h =
        requested_led a (BranchMessage kind result code number session input_port input output_port output branches priority) may h
    told_led a (Move result code number session input_port input output_port output target_port target branches priority) may h =
        requested_led a (Move result code number session input_port input output_port output target_port target branches priority) may h
    told_led a (Port result code number port session function) may h = requested_led a (Port result code number port session function) may h
    told_led a (AllPortsMessage result code number rows) may h = requested_led a (AllPortsMessage result code number rows) may h

    -- *A frame*
    read_led : (a : ActedSwitch) (payload : List ℕ) (r : Result Message Fault) → decoded payload ≡ r → ((copy : Standing) → option_and_then copy_of (gsmp_of payload) ≡ Some copy → Leads copy.request) → IsLed a → IsLed (frame_read a r)
    read_led a payload (Err fault) is may h = record { branches = h.branches; chain = h.chain; given = h.given; asks = h.asks }
    read_led a payload (Ok m) is may h = told_led a m (λ copy e. may copy (ap (λ (r : Result Message Fault). option_and_then copy_of (heard r)) is ∙ e)) h

    taken_chain : (notes : Journal) (slot : Bool) (r : Reassembly) (cell : Cell) → Every Good r.chain → Good cell → Every Good (taken notes slot r cell).reassembly.chain
    taken_chain notes slot r cell all good = on_both Fits r.is_skipping (passed_over notes r cell) _ all
        (on_both Fits (not slot) (without_slot notes r cell) _ tt
        (on_both Fits (nat_le most_cells (length r.chain)) (too_long notes r cell) (cell_joined notes r cell) tt
        (on_both Fits cell.header.last (record { reassembly = record r { chain = [] }; notes = notes; ended = r.chain ++ cell ∷ [] }) (record { reassembly = record r { chain = r.chain ++ cell ∷ [] }; notes = notes; ended = [] })
        tt (every_join Good r.chain (cell ∷ []) all (good, tt)))))
      where
        Fits : Taken → Type 0
        Fits t = Every Good t.reassembly.chain

    gsmp_led : (a : ActedSwitch) (cell : Cell) → Good cell
        → ((first : Cell) (cells : List Cell) (payload : List ℕ) → (taken a.notes (nat_lt 0 (free_slots a.switch)) a.switch.reassembly cell).ended ≡ first ∷ cells → payload_in (octets_of (first ∷ cells)) ≡ Some payload
        → (copy : Standing) → option_and_then copy_of (gsmp_of payload) ≡ Some copy → Leads copy.request)
        → IsLed a → IsLed (gsmp_cell a cell)
    gsmp_led a cell good may h = by t.ended refl
      where
        t : Taken
        t = taken a.notes (nat_lt 0 (free_slots a.switch)) a.switch.reassembly cell

        b : ActedSwitch
        b = record a { switch = record a.switch { reassembly = t.reassembly }; notes = t.notes }

        k : IsLed b
        k = record {
          branches = h.branches;
          chain = taken_chain a.notes (nat_lt 0 (free_slots a.switch)) a.switch.reassembly cell h.chain good;
          given = h.given;
          asks = subst (AskTheSame controls frames) (sym (taken_frames a.notes (nat_lt 0 (free_slots a.switch)) a.switch.reassembly cell)) h.asks;
        }

        by_payload : (first : Cell) (cells : List Cell) → t.ended ≡ first ∷ cells → (o : Option (List ℕ)) → payload_in (octets_of (first ∷ cells)) ≡ o → IsLed (after_test b (tested_by t.notes (first ∷ cells) o))
        by_payload first cells e None is = frames_led b (broken t.notes (marks_of (first ∷ cells))) (broken_frames (marks_of (first ∷ cells)) t.notes) k
        by_payload first cells e (Some payload) is =
            read_led (record b { notes = passed_test t.notes (last_mark (first ∷ cells)) payload }) payload (decoded payload) refl (may first cells payload e is)
            (frames_led b (passed_test t.notes (last_mark (first ∷ cells)) payload) (passed_frames t.notes (last_mark (first ∷ cells)) payload) k)

        by : (cells : List Cell) → t.ended ≡ cells → IsLed (ends_frame b cells)
        by [] e = k
        by (first ∷ cells) e = by_payload first cells e (payload_in (octets_of (first ∷ cells))) refl

    -- *A cell of another channel* leaves a branch that leads where it led
    switched_on_led : (x : Crossbar) (input : End) (cell : Cell) (o : Option Branch) → get x.branches input ≡ o → (free : ℕ) → AreLed x.branches → AreLed (switched_on x input o free cell).branches
    switched_on_led x input cell None is free h = h
    switched_on_led x input cell (Some b) is zero h = h
    switched_on_led x input cell (Some b) is (suc free) h = put_led x.branches input (record b { unfinished = unfinished_after cell }) (h input b.output (ap (option_map (λ (y : Branch). y.output)) is)) h

    switched_led : (a : ActedSwitch) (port : PortNo) (cell : Cell) → IsLed a → IsLed (switched_cell a port cell)
    switched_led a port cell h = by (routed a.switch.crossbar (free_slots a.switch) port cell)
      where
        by : (r : Routed) → IsLed (passed_cell a port cell r)
        by (routes.Out output) = record {
          branches = switched_on_led a.switch.crossbar (input_of port cell) cell (get a.switch.crossbar.branches (input_of port cell)) refl (free_slots a.switch) h.branches;
          chain = h.chain;
          given = h.given;
          asks = h.asks;
        }
        by routes.Unconnected = record { branches = h.branches; chain = h.chain; given = h.given; asks = h.asks }
        by routes.PoolFull = record { branches = h.branches; chain = h.chain; given = h.given; asks = h.asks }

    -- *Any cell*
    pub cell_led : (a : ActedSwitch) (port : PortNo) (cell : Cell)
        → (is_gsmp port cell.header.channel ≡ true → Good cell × ((first : Cell) (cells : List Cell) (payload : List ℕ) → (taken a.notes (nat_lt 0 (free_slots a.switch)) a.switch.reassembly cell).ended ≡ first ∷ cells
        → payload_in (octets_of (first ∷ cells)) ≡ Some payload → (copy : Standing) → option_and_then copy_of (gsmp_of payload) ≡ Some copy → Leads copy.request))
        → IsLed a → IsLed (cell_comes a port cell)
    cell_led a port cell brings h = by (is_gsmp port cell.header.channel) refl
      where
        by : (t : Bool) → is_gsmp port cell.header.channel ≡ t → IsLed (if t then gsmp_cell a cell else switched_cell a port cell)
        by true is = gsmp_led a cell (brings is).0 (brings is).1 h
        by false is = switched_led a port cell h

    -- *A tick and a restart*
    pub tick_led : (a : ActedSwitch) → IsLed a → IsLed (tick_comes a)
    tick_led a h = steps_led a (ticked a.switch.adjacency) h

    pub restart_led : (a : ActedSwitch) → IsLed a → IsLed (restarted a)
    restart_led a h =
        let c : Changed = all_ended (record { branches = a.switch.crossbar.branches; notes = a.notes }) (keys a.switch.crossbar.branches) in
        record {
          branches = ended_all (keys a.switch.crossbar.branches) (record { branches = a.switch.crossbar.branches; notes = a.notes }) h.branches;
          chain = tt;
          given = h.given;
          asks = subst (AskTheSame controls frames) (sym (chain_cut_frames c.notes a.switch.reassembly ∙ all_frames (keys a.switch.crossbar.branches) (record { branches = a.switch.crossbar.branches; notes = a.notes }))) h.asks;
        }
