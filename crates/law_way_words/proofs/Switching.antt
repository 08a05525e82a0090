-- what comes to a switch: where a cell goes, and that what is said of GSMP goes to its controller alone

use Rattle.std.proofs.Common.{◌≡◌, ℕ, suc, ◌==◌, ◌&&◌, Bool, true, false, not, List, [], ◌∷◌, ◌++◌, length, Option, None, Some, refl, sym, ap, subst, arith, slice_set, slice_index_or, map}
use Rattle.std.specs.Prelude.{nat_lt, nat_le, Result, Ok, Err}
use Rattle.std.specs.FinMap.{get, keys}
use Rattle.world_model.specs.Words.{NodeId, PortNo, End, Mark, Party, next_control, with_control, Cell, Answer, Quiet, Send, Open, Said, Step, is_estab, ticked, greeting_of, gsmp_answer, gsmp_received, Request, AddBranch, MoveBranch, DeleteTree, VerifyTree, PortManagement, queue_of, on_channel_of, cut_by_move, Record, Bad, Loss, Chance, Layer, Gsmp, Refusal, Cause, PoolFull, Broken, Cut, has_entry, is_frame, Journal, noted, gsmp_refusal, made, frame_cells, tested_by, last_mark, payload_in, Reassembly, passed_over, without_slot, too_long, most_cells, broken, marks_of, distinct, noted_all, cut, Changed, noted_cut, moved_by, ended_by, all_ended, inputs_on, branches_after, asked_in, is_request, failure_of, Handled, handled_by, handled_asked, handled, Switch, control_port, gsmp_channel, reset, replied, requested, frame_read, gsmp_cell, tick_comes, restarted, Channel, Routed, routed, switched_on}
use Rattle.world_model.specs.adjacency_table.declared.message.Answer.TheVariants.{Reset}
use Rattle.world_model.specs.gsmp_wire.declared.message.Message.{Message}
use Rattle.world_model.specs.gsmp_wire.declared.message.Message.TheVariants as messages
use Rattle.world_model.specs.gsmp_wire.declared.fault.Fault.{Fault}
use Rattle.world_model.specs.gsmp_wire.declared.request.Request.TheVariants.{DeleteAll, AllPorts}
use Rattle.world_model.specs.gsmp_wire.Layout.{octets_of}
use Rattle.world_model.specs.gsmp_wire.Fields.{decoded}
use Rattle.world_model.specs.crossbar_model.declared.branch.Branch.{Branch}
use Rattle.world_model.specs.frame_model.Frame.{passed_test as passed_notes, octets_of as cell_octets}
use Rattle.world_model.specs.frame_model.Reassembly.{Taken, taken, cell_joined}
use Rattle.world_model.specs.frame_model.Sending.{Sender}
use Rattle.law_port_facts.specs.ordered_lists.Ordered.{Every}
use Rattle.law_port_facts.proofs.Keyed.{on_both}
use Rattle.world_model.specs.switch_model.declared.request.Asked.{Asked}
use Rattle.world_model.specs.gsmp_wire.declared.failure.Failure.{Failure}
use Rattle.world_model.specs.Requests.{branch_ended, deleted_all}
use Rattle.world_model.specs.Switch.{ActedSwitch, free_slots}
use Rattle.world_model.specs.Conduct.{with_cells, says, answers, steps, message_heard, after_test, ends_frame, after_cell}
use Rattle.std.specs.Prelude.{◌⊎◌, Contains, slice_set, slice_index_or, zero, suc}
use Rattle.std.proofs.Common.{inl, inr}
use Rattle.std.specs.Option.{option_map}
use Rattle.std.proofs.lemmas.List.Elements.{Contains-append_cases, Contains-push_cases}
use Rattle.aal5_frames.specs.Frame.{cell_of, cells_with, pdu_of}
use Rattle.world_model.specs.crossbar_model.declared.routed.Routed.TheVariants as routes
use Rattle.world_model.specs.crossbar_model.Crossbar.{output_of, input_of}
use Rattle.world_model.specs.link_model.declared.record.Record.TheVariants as kinds
use Rattle.world_model.specs.link_model.declared.record.Cause.TheVariants as causes
use Rattle.world_model.specs.Conduct as conduct
use Rattle.law_port_facts.proofs.Keyed.{on_each, every_more}
use Rattle.law_port_facts.proofs.ordered_lists.Every.{every_mapped, every_all}
use Rattle.std.specs.List.{range_with_len}
use Rattle.std.specs.Prelude.{◌/◌}

abbrev pub BindsNone : Record → Type 0
BindsNone (kinds.Bind node port label flow) = ⊥
BindsNone item = Unit {0}

-- *The cases of a cell that a channel takes*
pub taken_cases : (P : Taken → Type 0) (notes : Journal) (has_slot : Bool) (r : Reassembly) (cell : Cell)
    → P (passed_over notes r cell) → P (without_slot notes r cell) → P (too_long notes r cell)
    → (cell.header.last ≡ true → P (record { reassembly = record r { chain = [] }; notes = notes; ended = r.chain ++ cell ∷ [] }))
    → (cell.header.last ≡ false → P (record { reassembly = record r { chain = r.chain ++ cell ∷ [] }; notes = notes; ended = [] }))
    → P (taken notes has_slot r cell)
taken_cases P notes has_slot r cell over full long ended more =
    on_each P r.is_skipping (passed_over notes r cell) _ (λ e. over)
    (λ e. on_each P (not has_slot) (without_slot notes r cell) _ (λ f. full)
    (λ f. on_each P (nat_le most_cells (length r.chain)) (too_long notes r cell) (cell_joined notes r cell) (λ g. long)
    (λ g. on_each P cell.header.last (record { reassembly = record r { chain = [] }; notes = notes; ended = r.chain ++ cell ∷ [] }) (record { reassembly = record r { chain = r.chain ++ cell ∷ [] }; notes = notes; ended = [] }) ended more)))

-- *What a switch notes* of its own messages: what is lost, what it refuses, and what passed its test by chance
pub data IsNoted : Record → Type 0 where
  is_lost : (mark : Mark) (cause : Cause) → IsNoted (Loss mark cause)
  is_bad : (node : NodeId) (layer : Layer) (name : Refusal) → IsNoted (Bad node layer name)
  is_chance : (mark : Mark) → IsNoted (Chance mark)

noted_none : (item : Record) → IsNoted item → BindsNone item
noted_none _ (is_lost mark cause) = tt
noted_none _ (is_bad node layer name) = tt
noted_none _ (is_chance mark) = tt

-- *What a few changes of a switch keep*, all that it does with its own messages keeps
pub record Kept (P : ActedSwitch → Type 0) : Type 0 where
  pub alike : (a b : ActedSwitch) → b.switch.crossbar.queues ≡ a.switch.crossbar.queues → b.notes ≡ a.notes → b.numbers.controls ≡ a.numbers.controls → P a → P b
  pub noted : (a : ActedSwitch) (item : Record) → IsNoted item → P a → P (record a { notes = noted a.notes item })
  pub said : (a : ActedSwitch) (message : Message) → P a → P (says a message)

module _ (P : ActedSwitch → Type 0) (k : Kept P) where
  lost : (a : ActedSwitch) (notes : Journal) (mark : Mark) (cause : Cause) → P (record a { notes = notes }) → P (record a { notes = noted notes (Loss mark cause) })
  lost a notes mark cause h = k.noted (record a { notes = notes }) (Loss mark cause) (is_lost mark cause) h

  broken_kept : (a : ActedSwitch) (notes : Journal) (marks : List Mark) → P (record a { notes = notes }) → P (record a { notes = broken notes marks })
  broken_kept a notes [] h = h
  broken_kept a notes (mark ∷ marks) h =
      on_both (λ (first : Journal). P (record a { notes = broken first marks })) (has_entry notes.entries mark) notes (noted notes (Loss mark Broken))
      (broken_kept a notes marks h) (broken_kept a (noted notes (Loss mark Broken)) marks (lost a notes mark Broken h))

  marks_kept : (a : ActedSwitch) (notes : Journal) (marks : List Mark) → P (record a { notes = notes }) → P (record a { notes = noted_all notes (map (λ mark. Loss mark Cut) marks) })
  marks_kept a notes [] h = h
  marks_kept a notes (mark ∷ marks) h = marks_kept a (noted notes (Loss mark Cut)) marks (lost a notes mark Cut h)

  -- *Branches end, or are moved*
  cut_kept : (a : ActedSwitch) (notes : Journal) (o : Option Mark) → P (record a { notes = notes }) → P (record a { notes = noted_cut notes o })
  cut_kept a notes None h = h
  cut_kept a notes (Some mark) h = lost a notes mark Cut h

  ended_kept : (a : ActedSwitch) (c : Changed) (input : End) (o : Option Branch) → P (record a { notes = c.notes }) → P (record a { notes = (ended_by c input o).notes })
  ended_kept a c input None h = h
  ended_kept a c input (Some b) h = cut_kept a c.notes b.unfinished h

  all_kept : (a : ActedSwitch) (c : Changed) (inputs : List End) → P (record a { notes = c.notes }) → P (record a { notes = (all_ended c inputs).notes })
  all_kept a c [] h = h
  all_kept a c (input ∷ inputs) h = all_kept a (branch_ended c input) inputs (ended_kept a c input (get c.branches input) h)

  moved_kept : (a : ActedSwitch) (c : Changed) (input to : End) (o : Option Branch) → P (record a { notes = c.notes }) → P (record a { notes = (moved_by c input to o).notes })
  moved_kept a c input to None h = h
  moved_kept a c input to (Some b) h = cut_kept a c.notes (cut_by_move b to) h

  after_kept : (a : ActedSwitch) (c : Changed) (request : Request) → P (record a { notes = c.notes }) → P (record a { notes = (branches_after c request).notes })
  after_kept a c (AddBranch input output) h = h
  after_kept a c (MoveBranch input from to) h = moved_kept a c input to (get c.branches input) h
  after_kept a c (DeleteTree input) h = ended_kept a c input (get c.branches input) h
  after_kept a c (VerifyTree input) h = h
  after_kept a c (DeleteAll port) h = all_kept a c (inputs_on c.branches port) h
  after_kept a c (PortManagement port function) h = on_both (λ (x : Changed). P (record a { notes = x.notes })) (function == 2) (deleted_all c port) c (all_kept a c (inputs_on c.branches port) h) h
  after_kept a c AllPorts h = h

  -- *Requests*
  handled_kept : (a : ActedSwitch) (m : Message) (request : Request) (o : Option Failure) → P a → P (replied a (handled_by a.switch a.notes m request o))
  handled_kept a m request (Some failure) h = k.said a _ h
  handled_kept a m request None h =
      let c : Changed = record { branches = a.switch.crossbar.branches; notes = a.notes } in
      let x : Handled = handled_by a.switch a.notes m request None in
      k.said (record a { switch = x.switch; notes = x.notes }) x.answer
      (k.alike (record a { notes = (branches_after c request).notes }) (record a { switch = x.switch; notes = x.notes }) refl refl refl (after_kept a c request h))

  asked_kept : (a : ActedSwitch) (m : Message) (o : Option Asked) → P a → P (replied a (handled_asked a.switch a.notes m o))
  asked_kept a m None h = k.said a m h
  asked_kept a m (Some asked) h = handled_kept a m asked.request (failure_of a.switch.ports a.switch.vpis a.switch.crossbar.branches asked) h

  requested_kept : (a : ActedSwitch) (m : Message) → P a → P (requested a m)
  requested_kept a m h = on_both P (is_request m && is_estab a.switch.adjacency.state) (replied a (handled a.switch a.notes m)) a (asked_kept a m (asked_in m) h) h

  -- *The adjacency*
  answers_kept : (a : ActedSwitch) (answer : Answer (Said Party) Party) → P a → P (answers a (gsmp_answer answer))
  answers_kept a Quiet h = h
  answers_kept a (Send m) h = k.said a (messages.Adjacency (greeting_of m)) h
  answers_kept a (Open None own) h = h
  answers_kept a (Open (Some m) own) h = k.said a (messages.Adjacency (greeting_of m)) h
  answers_kept a Reset h = k.alike a (reset a) refl refl refl h

  steps_kept : (a : ActedSwitch) (step : Step Party) → P a → P (steps a step)
  steps_kept a step h =
      let turned : ActedSwitch = record a { switch = record a.switch { adjacency = step.side } } in
      answers_kept turned step.answer (k.alike a turned refl refl refl h)

  told_kept : (a : ActedSwitch) (m : Message) → P a → P (message_heard a m)
  told_kept a (messages.Adjacency greeting) h = steps_kept a (gsmp_received a.switch.adjacency greeting) h
  told_kept a (messages.Branch kind result code number session input_port input output_port output branches priority) h =
      requested_kept a (messages.Branch kind result code number session input_port input output_port output branches priority) h
  told_kept a (messages.Move result code number session input_port input output_port output target_port target branches priority) h =
      requested_kept a (messages.Move result code number session input_port input output_port output target_port target branches priority) h
  told_kept a (messages.Port result code number port session function) h = requested_kept a (messages.Port result code number port session function) h
  told_kept a (messages.AllPorts result code number rows) h = requested_kept a (messages.AllPorts result code number rows) h

  -- *Frames and cells*
  read_kept : (a : ActedSwitch) (r : Result Message Fault) → P a → P (frame_read a r)
  read_kept a (Ok m) h = told_kept a m h
  read_kept a (Err fault) h = k.noted a (Bad a.switch.node Gsmp (gsmp_refusal fault)) (is_bad a.switch.node Gsmp (gsmp_refusal fault)) h

  test_kept : (a : ActedSwitch) (cells : List Cell) (o : Option (List ℕ)) → P a → P (after_test a (tested_by a.notes cells o))
  test_kept a cells None h = broken_kept a a.notes (marks_of cells) h
  test_kept a cells (Some payload) h = read_kept (record a { notes = passed_notes a.notes (last_mark cells) payload }) (decoded payload)
      (on_both (λ (n : Journal). P (record a { notes = n })) (is_frame a.notes.frames (last_mark cells) payload) a.notes (noted a.notes (Chance (last_mark cells))) h
      (k.noted a (Chance (last_mark cells)) (is_chance (last_mark cells)) h))

  ends_kept : (a : ActedSwitch) (cells : List Cell) → P a → P (ends_frame a cells)
  ends_kept a [] h = h
  ends_kept a (cell ∷ cells) h = test_kept a (cell ∷ cells) (payload_in (cell_octets (cell ∷ cells))) h

  pub gsmp_kept : (a : ActedSwitch) (cell : Cell) → P a → P (gsmp_cell a cell)
  gsmp_kept a cell h = taken_cases (λ (x : Taken). P (after_cell a x)) a.notes (nat_lt 0 (free_slots a.switch)) a.switch.reassembly cell
      (gathered _ (broken a.notes (cell.mark ∷ [])) (broken_kept a a.notes (cell.mark ∷ []) h))
      (gathered _ (broken (noted a.notes (Loss cell.mark PoolFull)) (marks_of a.switch.reassembly.chain))
      (broken_kept a (noted a.notes (Loss cell.mark PoolFull)) (marks_of a.switch.reassembly.chain) (lost a a.notes cell.mark PoolFull h)))
      (gathered _ (broken a.notes (marks_of (a.switch.reassembly.chain ++ cell ∷ []))) (broken_kept a a.notes (marks_of (a.switch.reassembly.chain ++ cell ∷ [])) h))
      (λ last. (let r : Reassembly = record a.switch.reassembly { chain = [] } in
      ends_kept (record a { switch = record a.switch { reassembly = r } }) (a.switch.reassembly.chain ++ cell ∷ []) (gathered r a.notes h)))
      (λ more. gathered _ a.notes h)
    where
      gathered : (r : Reassembly) (notes : Journal) → P (record a { notes = notes }) → P (record a { switch = record a.switch { reassembly = r }; notes = notes })
      gathered r notes g = k.alike (record a { notes = notes }) (record a { switch = record a.switch { reassembly = r }; notes = notes }) refl refl refl g

  -- *Ticks and restarts*
  pub tick_kept : (a : ActedSwitch) → P a → P (tick_comes a)
  tick_kept a h = steps_kept a (ticked a.switch.adjacency) h

  pub restarted_kept : (a : ActedSwitch) → P a → P (restarted a)
  restarted_kept a h =
      let c : Changed = record { branches = a.switch.crossbar.branches; notes = a.notes } in
      let x : Changed = all_ended c (keys a.switch.crossbar.branches) in
      k.alike (record a { notes = cut x.notes a.switch.reassembly }) (restarted a) refl refl refl
      (marks_kept a x.notes (distinct (marks_of a.switch.reassembly.chain)) (all_kept a c (keys a.switch.crossbar.branches) h))

-- *Queues*: what is in one that was changed
pub in_set : (qs : List (List Cell)) (k q : ℕ) (v : List Cell) (c : Cell) → Contains (slice_index_or (slice_set qs k v) q []) c → Contains (slice_index_or qs q []) c ⊎ ((k ≡ q) × Contains v c)
in_set [] k q v c has = inl has
in_set (x ∷ qs) zero zero v c has = inr (refl, has)
in_set (x ∷ qs) zero (suc q) v c has = inl has
in_set (x ∷ qs) (suc k) zero v c has = inl has
in_set (x ∷ qs) (suc k) (suc q) v c has = elim (in_set qs k q v c has) [ inl was ↦ inl was | inr now ↦ inr (ap suc now.0, now.1) ]

every_contained : {A : Type 0} (P : A → Type 0) (xs : List A) (x : A) → Every P xs → Contains xs x → P x
every_contained P [] x all has = absurd (omega (arith, has.1))
every_contained {A} P (y ∷ xs) x all (zero, less, is) = subst P is all.0
every_contained {A} P (y ∷ xs) x all (suc k, less, is) = every_contained P xs x all.1 (k, omega (arith, less), is)

module _ (first : ActedSwitch) where
  -- what waits waited before, or is of GSMP; and nothing was bound
  pub record Waits (a : ActedSwitch) : Type 0 where
    pub queues : (q : PortNo) (c : Cell) → Contains (queue_of a.switch.crossbar q) c → Contains (queue_of first.switch.crossbar q) c ⊎ ((0 ≡ q.0) × (c.header.channel ≡ gsmp_channel))
    pub records : Every BindsNone a.notes.records

  frame_channel : (channel : Channel) (mark : Mark) (payload : List ℕ) → Every (λ (c : Cell). c.header.channel ≡ channel) (frame_cells channel mark payload)
  unfolding cells_with
  frame_channel channel mark payload = every_mapped (cell_of channel mark (pdu_of payload)) (λ (c : Cell). c.header.channel ≡ channel) (range_with_len 0 (length (pdu_of payload) / 48))
      (every_all (λ k. (cell_of channel mark (pdu_of payload) k).header.channel ≡ channel) (range_with_len 0 (length (pdu_of payload) / 48)) (λ k. refl))

  pub waits_kept : Kept Waits
  waits_kept = record {
    alike = λ a b queues notes controls h. record {
      queues = λ q c has. h.queues q c (subst (λ (qs : List (List Cell)). Contains (slice_index_or qs q.0 []) c) queues has);
      records = subst (λ (n : Journal). Every BindsNone n.records) (sym notes) h.records;
    };
    noted = λ a item is h. record { queues = h.queues; records = every_more BindsNone a.notes.records item h.records (noted_none item is) };
    said = says_waits;
  }
    where
      says_waits : (a : ActedSwitch) (message : Message) → Waits a → Waits (says a message)
      says_waits a message h = on_both (λ (s : Sender Switch). Waits (record { switch = s.queues; notes = s.notes; numbers = with_control a.numbers })) (nat_le (length cells) (free_slots a.switch))
          (record { queues = with_cells a.switch control_port cells; notes = made a.notes (next_control a.numbers) (octets_of message) })
          (record { queues = a.switch; notes = noted (made a.notes (next_control a.numbers) (octets_of message)) (Loss (next_control a.numbers) PoolFull) })
          (record {
            queues = λ q c has. elim (in_set a.switch.crossbar.queues 0 q.0 (queue_of a.switch.crossbar control_port ++ cells) c has) [
              | inl was ↦ h.queues q c was
              | inr now ↦ elim (Contains-append_cases (queue_of a.switch.crossbar control_port) cells c now.1) [
                | inl was ↦ h.queues q c (subst (λ (n : ℕ). Contains (slice_index_or a.switch.crossbar.queues n []) c) now.0 was)
                | inr new ↦ inr (now.0, every_contained (λ (x : Cell). x.header.channel ≡ gsmp_channel) cells c (frame_channel gsmp_channel (next_control a.numbers) (octets_of message)) new)
              ]
            ];
            records = h.records;
          })
          (record { queues = h.queues; records = every_more BindsNone a.notes.records (Loss (next_control a.numbers) PoolFull) h.records tt })
        where
          cells : List Cell
          cells = frame_cells gsmp_channel (next_control a.numbers) (octets_of message)

-- *A cell comes* on a port: it goes where its branch leads
pub data IsPassed (a : ActedSwitch) (port : PortNo) (cell : Cell) (q : PortNo) (c : Cell) : Type 0 where
  was : Contains (queue_of a.switch.crossbar q) c → IsPassed a port cell q c
  of_gsmp : 0 ≡ q.0 → c.header.channel ≡ gsmp_channel → IsPassed a port cell q c
  crossed : (output : End) → output_of a.switch.crossbar.branches (input_of port cell) ≡ Some output → output.port.0 ≡ q.0 → c.mark ≡ cell.mark → c.header.channel ≡ output.channel → IsPassed a port cell q c

pub record Passes (a : ActedSwitch) (port : PortNo) (cell : Cell) (b : ActedSwitch) : Type 0 where
  pub queues : (q : PortNo) (c : Cell) → Contains (queue_of b.switch.crossbar q) c → IsPassed a port cell q c
  pub records : Every BindsNone b.notes.records

pub comes : (a : ActedSwitch) (port : PortNo) (cell : Cell) → Every BindsNone a.notes.records → Passes a port cell (conduct.cell_comes a port cell)
comes a port cell none = on_both (Passes a port cell) (conduct.is_gsmp port cell.header.channel) (gsmp_cell a cell) (conduct.switched_cell a port cell) gsmp crosses
  where
    gsmp : Passes a port cell (gsmp_cell a cell)
    gsmp =
        let k : Waits a (gsmp_cell a cell) = gsmp_kept (Waits a) (waits_kept a) a cell (record { queues = λ q c has. inl has; records = none }) in
        record { queues = λ q c has. elim (k.queues q c has) [ inl w ↦ was w | inr g ↦ of_gsmp g.0 g.1 ]; records = k.records }

    by_branch : (o : Option Branch) → get a.switch.crossbar.branches (input_of port cell) ≡ o → (free : ℕ) (q : PortNo) (c : Cell) → Contains (queue_of (switched_on a.switch.crossbar (input_of port cell) o free cell) q) c → IsPassed a port cell q c
    by_branch None e free q c has = was has
    by_branch (Some branch) e zero q c has = was has
    by_branch (Some branch) e (suc n) q c has = elim (in_set a.switch.crossbar.queues branch.output.port.0 q.0 (queue_of a.switch.crossbar branch.output.port ++ on_channel_of cell branch.output ∷ []) c has) [
      | inl w ↦ was w
      | inr now ↦ elim (Contains-push_cases (queue_of a.switch.crossbar branch.output.port) (on_channel_of cell branch.output) c now.1) [
        | inl w ↦ was (subst (λ (k : ℕ). Contains (slice_index_or a.switch.crossbar.queues k []) c) now.0 w)
        | inr is ↦ crossed branch.output (ap (option_map (λ (b : Branch). b.output)) e) now.0 (ap (λ (x : Cell). x.mark) (sym is)) (ap (λ (x : Cell). x.header.channel) (sym is))
      ]
    ]

    crosses : Passes a port cell (conduct.switched_cell a port cell)
    crosses = by (routed a.switch.crossbar (free_slots a.switch) port cell)
      where
        by : (r : Routed) → Passes a port cell (conduct.cell_routed a port cell r)
        by (routes.Out output) = record { queues = λ q c has. by_branch (get a.switch.crossbar.branches (input_of port cell)) refl (free_slots a.switch) q c has; records = none }
        by routes.Unconnected = record { queues = λ q c has. was has; records = every_more BindsNone a.notes.records (Loss cell.mark causes.Unconnected) none tt }
        by routes.PoolFull = record { queues = λ q c has. was has; records = every_more BindsNone a.notes.records (Loss cell.mark causes.PoolFull) none tt }
