-- while a switch acts, the lists keep what holds of them

use Rattle.std.proofs.Common.{◌≡◌, ◌≢◌, ℕ, suc, ◌≤◌, ◌+◌, ◌*◌, Bool, true, false, List, [], ◌∷◌, ◌++◌, length, map, Option, None, Some, refl, sym, ◌∙◌, ap, subst, arith, append-nil, inr, if◌then◌else◌}
use Rattle.std.specs.Prelude.{◌==◌, ◌&&◌, nat_le, slice_set, slice_index_or, Result, Ok, Err}
use Rattle.std.specs.FinMap.{get}
use Rattle.law_cell_lists.specs.world_model.Words.{NodeId, Down, End as PortEnd, Mark, Greeting, Party, next_control, with_control, Cell, Answer, Quiet, Send, Open, Said, Step, is_estab, greeting_of, gsmp_answer, gsmp_received, Move, Request, AddBranch, MoveBranch, DeleteTree, VerifyTree, PortManagement, Entry, PoolFull, Loss, noted, Reassembly, frame_cells, made, Crossbar, Branches, queue_of, sent, Switch, control_port, gsmp_channel, with_branches, with_port, Changed, asked_in, is_request, branches_after, ports_after, managed, failure_of, failure_answer, success_answer, refused, carried_out, handled_by, handled_asked, handled, replied, requested, frame_read, default_channel, Topology, IsTopology, World, Site, site_at, queue_at}
use Rattle.law_cell_lists.specs.world_model.adjacency_table.declared.message.Answer.TheVariants.{Reset}
use Rattle.law_cell_lists.specs.world_model.gsmp_wire.declared.fault.Fault.{Fault}
use Rattle.law_cell_lists.specs.world_model.gsmp_wire.declared.message.Message.{Message}
use Rattle.law_cell_lists.specs.world_model.gsmp_wire.declared.message.Message.TheVariants.{Adjacency, Branch as BranchMessage, Port, AllPorts as AllPortsMessage}
use Rattle.law_cell_lists.specs.world_model.gsmp_wire.declared.request.Request.TheVariants.{DeleteAll, AllPorts}
use Rattle.law_cell_lists.specs.world_model.gsmp_wire.Layout.{octets_of}
use Rattle.law_cell_lists.specs.world_model.gsmp_wire.Fields.{decoded}
use Rattle.law_cell_lists.specs.world_model.frame_model.Sending.{Sender}
use Rattle.law_controller_bindings.specs.ordered_lists.Ordered.{Every}
use Rattle.law_cell_lists.specs.world_model.switch_model.declared.port.PortState.{PortState}
use Rattle.law_cell_lists.specs.world_model.switch_model.declared.request.Asked.{Asked}
use Rattle.law_cell_lists.specs.world_model.gsmp_wire.declared.failure.Failure.{Failure}
use Rattle.law_cell_lists.specs.world_model.Switch.{ActedSwitch, free_slots}
use Rattle.law_cell_lists.specs.world_model.Answers.{port_row}
use Rattle.law_cell_lists.specs.world_model.Conduct.{with_cells, says, answers, steps, message_heard, opened_frame}
use Rattle.law_controller_bindings.proofs.law_controller.world_model.Lists.{length_set}
use Rattle.law_controller_bindings.proofs.law_port_facts.Keyed.{by_eq, on_both, on_each}
use Rattle.law_cell_lists.specs.Causes.{bare}
use Rattle.law_cell_lists.proofs.Frames.{IsWhole, whole_frame}
use Rattle.law_cell_lists.proofs.Net.{Leads}
use Rattle.law_cell_lists.proofs.Real.{real_sends, real_grown}
use Rattle.law_causes.specs.Feeding.{IsLed, branch_at}
use Rattle.law_causes.proofs.Sizes.{HasLength, HasName, rows_length, decoded_names}
use Rattle.law_causes.proofs.Rules.{IsNamed, AnswersNamed, received_named, saying_length}
use Rattle.law_causes.proofs.Spots.{Spot, same_spot, yields, home, up, IsOn, frame_on}
use Rattle.law_causes.proofs.Phase.{GrownBy, grown_by}
use Rattle.law_causes.proofs.Shown.{out_spot}
use Rattle.law_causes.proofs.Parts.{LedBy, leads_from, one_output, shown, parts_of}
use Rattle.law_causes.proofs.Switching.{world_with, sent_here, sent_away, end_like}
use Rattle.law_causes.proofs.Branching.{State, Changes, all_led, grown_more, state_alike, requested_state}

module _ (t : Topology) (is : IsTopology t) (w : World) (n : NodeId) (old : Site) (found : site_at w n ≡ Some old) (others : (m : NodeId) → n.0 ≢ m.0 → IsLed (branch_at w m) (queue_at w (Down m))) (begun : Spot → List Cell) (start : List Entry) (gathered : Reassembly) where
  abbrev pub Of : Reassembly → Crossbar → List Entry → Type 0
  Of r x entries = State t is w n old found others r begun x entries

  abbrev pub LeadsOn : Branches → Type 0
  LeadsOn m = IsLed (get m) old.controller.queue

  pub record Held (a : ActedSwitch) : Type 0 where
    pub state : Of a.switch.reassembly a.switch.crossbar a.notes.entries
    pub grown : GrownBy start a.notes.entries
    pub leading : LeadsOn a.switch.crossbar.branches
    pub named : IsNamed a.switch.adjacency
    pub ports : length a.switch.ports ≤ 9
    pub queues : length a.switch.crossbar.queues ≡ 9
    pub reassembly : a.switch.reassembly ≡ gathered

  -- *Nobody leads to the GSMP channel*
  unled : (x : Crossbar) (r : Reassembly) → LeadsOn x.branches → (s : Spot) (u : Option Mark) → (shown t (parts_of (world_with t is w n old found x r)) s).end ≢ Leads (up n default_channel) u
  unled x r l s u e =
      let p = parts_of (world_with t is w n old found x r) in
      let b : LedBy t (branch_at (world_with t is w n old found x r)) s (up n default_channel) = leads_from t p s (up n default_channel) u e in
      let all = all_led t is w n old found others r begun x l in
      by_port b (all b.inlet.node)
    where
      no_home : (q v : ℕ) → q ≢ 0 → 16 * q + v ≢ 0
      no_home q v some e = some (omega (arith, e))

      by_port : (b : LedBy t (branch_at (world_with t is w n old found x r)) s (up n default_channel)) → IsLed (branch_at (world_with t is w n old found x r) b.inlet.node) (queue_at (world_with t is w n old found x r) (Down b.inlet.node)) → ⊥
      by_port b led =
          let at : out_spot n (record { port = record { 0 = 0 }; channel = default_channel }) ≡ out_spot b.inlet.node b.branch.output = b.leads in
          let both = one_output n b.inlet.node (record { port = record { 0 = 0 }; channel = default_channel }) b.branch.output at in
          let none : b.branch.output.port.0 ≡ 0 = ap (λ (e : PortEnd). e.port.0) (sym both.1) in
          by_eq b.inlet.input.port.0 0
          (λ z v. (led.down b.inlet.input b.branch b.found z).0 none)
          (λ some v. no_home b.inlet.input.port.0 b.inlet.input.channel.vpi some (sym (ap (λ (e : PortEnd). e.channel.vpi) (both.1 ∙ led.up b.inlet.input b.branch b.found some none))))

  -- *A message is sent*
  sent_state : (x : Crossbar) (r : Reassembly) (entries : List Entry) (cells : List Cell) → LeadsOn x.branches → length x.queues ≡ 9 → Every (IsOn default_channel) cells → IsWhole (map bare cells) → Of r x entries → Of r (sent x control_port cells) entries
  sent_state x r entries [] l nine on whole s = state_alike t is w n old found others r begun x (sent x control_port []) entries same (λ e. refl) s
    where
      same : slice_set x.queues 0 (queue_of x control_port ++ []) ≡ x.queues
      same = ap (slice_set x.queues 0) (append-nil (queue_of x control_port)) ∙ own x.queues
        where
          own : (qs : List (List Cell)) → slice_set qs 0 (slice_index_or qs 0 []) ≡ qs
          own [] = refl
          own (q ∷ qs) = refl
  sent_state x r entries (c ∷ frame) l nine on whole s =
      let y : Crossbar = sent x control_port (c ∷ frame) in
      real_sends same_spot yields home entries begun (shown t (parts_of (world_with t is w n old found x r))) (shown t (parts_of (world_with t is w n old found y r))) (up n default_channel) c frame s
      (λ j u e. unled x r l j u e)
      (λ o u e. (let b = leads_from t (parts_of (world_with t is w n old found x r)) (up n default_channel) o u e in absurd (cc b.comes)))
      whole (sent_here t is w n old found x y r control_port default_channel (c ∷ frame) on refl (omega (arith, nine)))
      (end_like t is w n old found x y r r (up n default_channel) (λ e. refl) (inr refl))
      (λ j d. (sent_away t is w n old found x y r control_port default_channel (c ∷ frame) on refl (omega (arith, nine)) j d, end_like t is w n old found x y r r j (λ e. refl) (inr refl), refl))

  grown_of : (x : Crossbar) (r : Reassembly) (entries : List Entry) (e : Entry) → Of r x entries → Of r x (entries ++ e ∷ [])
  grown_of x r entries e s = real_grown same_spot yields home entries (entries ++ e ∷ []) begun (shown t (parts_of (world_with t is w n old found x r))) (record { more = e ∷ []; is = refl }) s

  pub says_held : (a : ActedSwitch) (m : Message) → HasLength (octets_of m) → Held a → Held (says a m)
  says_held a m size h =
      let mark : Mark = next_control a.numbers in
      let payload : List ℕ = octets_of m in
      let counted : ActedSwitch = record a { numbers = with_control a.numbers } in
      on_both (λ (s : Sender Switch). Held (record counted { switch = s.queues; notes = s.notes })) (nat_le (length (frame_cells gsmp_channel mark payload)) (free_slots a.switch))
      (record { queues = with_cells a.switch control_port (frame_cells gsmp_channel mark payload); notes = made a.notes mark payload })
      (record { queues = a.switch; notes = noted (made a.notes mark payload) (Loss mark PoolFull) })
      (record {
        state = sent_state a.switch.crossbar a.switch.reassembly a.notes.entries (frame_cells gsmp_channel mark payload) h.leading h.queues (frame_on gsmp_channel mark payload) (whole_frame gsmp_channel mark payload size.0 size.1) h.state;
        grown = h.grown;
        leading = h.leading;
        named = h.named;
        ports = h.ports;
        queues = length_set a.switch.crossbar.queues 0 (queue_of a.switch.crossbar control_port ++ frame_cells gsmp_channel mark payload) ∙ h.queues;
        reassembly = h.reassembly;
      })
      (record {
        state = grown_of a.switch.crossbar a.switch.reassembly a.notes.entries (record { mark = mark; cause = PoolFull }) h.state;
        grown = grown_by start a.notes.entries (record { mark = mark; cause = PoolFull } ∷ []) h.grown ((λ e. cc e), tt);
        leading = h.leading;
        named = h.named;
        ports = h.ports;
        queues = h.queues;
        reassembly = h.reassembly;
      })

  says_branches : (a : ActedSwitch) (m : Message) → (says a m).switch.crossbar.branches ≡ a.switch.crossbar.branches
  says_branches a m =
      let mark : Mark = next_control a.numbers in
      let payload : List ℕ = octets_of m in
      on_both (λ (s : Sender Switch). s.queues.crossbar.branches ≡ a.switch.crossbar.branches) (nat_le (length (frame_cells gsmp_channel mark payload)) (free_slots a.switch))
      (record { queues = with_cells a.switch control_port (frame_cells gsmp_channel mark payload); notes = made a.notes mark payload })
      (record { queues = a.switch; notes = noted (made a.notes mark payload) (Loss mark PoolFull) }) refl refl

  -- *The adjacency*
  answers_held : (a : ActedSwitch) (answer : Answer (Said Party) Party) → AnswersNamed answer → Held a → Held (answers a (gsmp_answer answer))
  answers_held a Quiet said h = h
  answers_held a (Send m) said h = says_held a (Adjacency (greeting_of m)) (saying_length m said) h
  answers_held a (Open None own) said h = h
  answers_held a (Open (Some m) own) said h = says_held a (Adjacency (greeting_of m)) (saying_length m said) h
  answers_held a Reset said h = record { state = h.state; grown = h.grown; leading = h.leading; named = record { own = h.named.own; stored = λ party e. absurd (cc e) }; ports = h.ports; queues = h.queues; reassembly = h.reassembly }

  pub steps_held : (a : ActedSwitch) (step : Step Party) → IsNamed step.side → AnswersNamed step.answer → Held a → Held (steps a step)
  steps_held a step named said h = answers_held (record a { switch = record a.switch { adjacency = step.side } }) step.answer said
      (record { state = h.state; grown = h.grown; leading = h.leading; named = named; ports = h.ports; queues = h.queues; reassembly = h.reassembly })

  -- *A request is handled*
  ports_few : (ports : List PortState) (request : Request) → length (ports_after ports request) ≡ length ports
  ports_few ports (AddBranch input output) = refl
  ports_few ports (MoveBranch input from to) = refl
  ports_few ports (DeleteTree input) = refl
  ports_few ports (DeleteAll port) = refl
  ports_few ports (PortManagement port function) = with_few ports
    where
      with_few : (ps : List PortState) → length (with_port port (managed function) ps) ≡ length ps
      with_few [] = refl
      with_few (p ∷ ps) = on_each (λ (l : List PortState). length l ≡ length (p ∷ ps)) (p.number.0 == port.0) (managed function p ∷ ps) (p ∷ with_port port (managed function) ps) (λ e. refl) (λ e. ap suc (with_few ps))
  ports_few ports (VerifyTree input) = refl
  ports_few ports AllPorts = refl

  rows_few : (ports : List PortState) → length ports ≤ 9 → length (map port_row ports) ≤ 9
  rows_few ports few = omega (arith, size ports, few)
    where
      size : (ps : List PortState) → length (map port_row ps) ≡ length ps
      size [] = refl
      size (p ∷ ps) = ap suc (size ps)

  module _ (a : ActedSwitch) (h : Held a) where
    refused_held : (m : Message) (failure : Failure) → HasLength (octets_of (failure_answer failure m)) → Held (replied a (refused a.switch a.notes m failure))
    refused_held m failure size = says_held (record a { switch = a.switch; notes = a.notes }) (failure_answer failure m) size h

    carried_held : (m : Message) (request : Request) → ((ports : List PortState) (branches : Branches) → length ports ≤ 9 → HasLength (octets_of (success_answer ports branches request m)))
        → LeadsOn (branches_after (record { branches = a.switch.crossbar.branches; notes = a.notes }) request).branches → Held (replied a (carried_out a.switch a.notes m request))
    carried_held m request size leading =
        let c : Changed = branches_after (record { branches = a.switch.crossbar.branches; notes = a.notes }) request in
        let ports : List PortState = ports_after a.switch.ports request in
        let few : length ports ≤ 9 = omega (arith, ports_few a.switch.ports request, h.ports) in
        let changes : Changes t is w n old found others a.switch.reassembly begun a.switch.crossbar a.notes c = requested_state t is w n old found others a.switch.reassembly begun a.switch.crossbar a.notes request h.leading leading h.state in
        says_held (record a { switch = record (with_branches a.switch c.branches) { ports = ports }; notes = c.notes }) (success_answer ports c.branches request m) (size ports c.branches few)
        (record { state = changes.state; grown = grown_more start a.notes.entries c.notes.entries h.grown changes.grown; leading = leading; named = h.named; ports = few; queues = h.queues; reassembly = h.reassembly })

    -- what is asked, with the size of each answer
    handled_held : (m : Message) (asked : Asked) → asked_in m ≡ Some asked → ((failure : Failure) → HasLength (octets_of (failure_answer failure m)))
        → ((ports : List PortState) (branches : Branches) → length ports ≤ 9 → HasLength (octets_of (success_answer ports branches asked.request m)))
        → LeadsOn (replied a (handled a.switch a.notes m)).switch.crossbar.branches → Held (replied a (handled a.switch a.notes m))
    handled_held m asked is_asked failed succeeds leading =
        subst (λ (o : Option Asked). LeadsOn (replied a (handled_asked a.switch a.notes m o)).switch.crossbar.branches → Held (replied a (handled_asked a.switch a.notes m o))) (sym is_asked)
        (by (failure_of a.switch.ports a.switch.vpis a.switch.crossbar.branches asked)) leading
      where
        by : (o : Option Failure) → LeadsOn (replied a (handled_by a.switch a.notes m asked.request o)).switch.crossbar.branches → Held (replied a (handled_by a.switch a.notes m asked.request o))
        by (Some failure) l = refused_held m failure (failed failure)
        by None l = carried_held m asked.request succeeds
            (subst LeadsOn (says_branches (record a { switch = (carried_out a.switch a.notes m asked.request).switch; notes = (carried_out a.switch a.notes m asked.request).notes }) (carried_out a.switch a.notes m asked.request).answer) l)

    requested_if : (m : Message) → (LeadsOn (replied a (handled a.switch a.notes m)).switch.crossbar.branches → Held (replied a (handled a.switch a.notes m))) → LeadsOn (requested a m).switch.crossbar.branches → Held (requested a m)
    requested_if m held = by (is_request m && is_estab a.switch.adjacency.state)
      where
        by : (v : Bool) → LeadsOn (if v then replied a (handled a.switch a.notes m) else a).switch.crossbar.branches → Held (if v then replied a (handled a.switch a.notes m) else a)
        by true = held
        by false = λ l. h

    pub told_held : (m : Message) → ((greeting : Greeting) → m ≡ Adjacency greeting → HasName greeting.sender × HasName greeting.receiver) → LeadsOn (message_heard a m).switch.crossbar.branches → Held (message_heard a m)
    told_held (Adjacency greeting) names l =
        let k = names greeting refl in
        let both = received_named a.switch.adjacency greeting k.0 k.1 h.named in
        steps_held a (gsmp_received a.switch.adjacency greeting) both.0 both.1 h
    told_held (BranchMessage kind result code transaction session input_port input output_port output branches priority) names l =
        requested_if (BranchMessage kind result code transaction session input_port input output_port output branches priority)
        (handled_held (BranchMessage kind result code transaction session input_port input output_port output branches priority) _ refl (λ failure. (omega arith, omega arith)) (λ ports m few. (omega arith, omega arith))) l
    told_held (Move result code transaction session input_port input output_port output target_port target branches priority) names l =
        requested_if (Move result code transaction session input_port input output_port output target_port target branches priority)
        (handled_held (Move result code transaction session input_port input output_port output target_port target branches priority) _ refl (λ failure. (omega arith, omega arith)) (λ ports m few. (omega arith, omega arith))) l
    told_held (Port result code transaction port session function) names l =
        requested_if (Port result code transaction port session function)
        (handled_held (Port result code transaction port session function) _ refl (λ failure. (omega arith, omega arith)) (λ ports m few. (omega arith, omega arith))) l
    told_held (AllPortsMessage result code transaction rows) names l =
        requested_if (AllPortsMessage result code transaction rows)
        (handled_held (AllPortsMessage result code transaction rows) _ refl (λ failure. (omega arith, omega arith)) (λ ports m few. rows_length 3 0 transaction (map port_row ports) (rows_few ports few))) l

    pub opened_held : (o : Option (List ℕ)) → LeadsOn (opened_frame a o).switch.crossbar.branches → Held (opened_frame a o)
    opened_held None l = h
    opened_held (Some payload) l = by (decoded payload) refl l
      where
        by : (r : Result Message Fault) → decoded payload ≡ r → LeadsOn (frame_read a r).switch.crossbar.branches → Held (frame_read a r)
        by (Ok message) e l = told_held message (decoded_names payload message e) l
        by (Err fault) e l = record {
          state = subst (Of a.switch.reassembly a.switch.crossbar) (sym (append-nil a.notes.entries)) h.state;
          grown = subst (GrownBy start) (sym (append-nil a.notes.entries)) h.grown;
          leading = h.leading;
          named = h.named;
          ports = h.ports;
          queues = h.queues;
          reassembly = h.reassembly;
        }
