-- a cell of the GSMP channel is carried to a switch: the lines of each input follow

use Rattle.std.proofs.Common.{◌≡◌, ℕ, ◌≤◌, Bool, true, false, not, List, [], ◌∷◌, ◌++◌, length, Option, None, Some, Result, Ok, Err, refl, sym, ◌∙◌, subst, arith, if◌then◌else◌}
use Rattle.std.specs.Prelude.{◌==◌, ◌&&◌, nat_le, nat_lt}
use Rattle.std.specs.FinMap as finite
use Rattle.law_input_premises.specs.world_model.Words.{End, NodeId, GivenOut, is_estab, gsmp_received, Cell, last_mark, payload_in, tested_by, Reassembly, marks_of, most_cells, passed_over, without_slot, too_long, Move, Request, Loss, PoolFull, Frame, Journal, noted, Changed, branches_after, inputs_on, asked_in, is_request, failure_of, Handled, handled, handled_asked, handled_by, Site, World, site_at, with_site}
use Rattle.law_input_premises.specs.world_model.frame_model.Frame.{octets_of, passed_test}
use Rattle.law_input_premises.specs.world_model.frame_model.Reassembly.{Taken, cell_joined}
use Rattle.law_input_premises.specs.world_model.gsmp_wire.Fields.{decoded}
use Rattle.law_input_premises.specs.world_model.gsmp_wire.declared.fault.Fault.{Fault}
use Rattle.law_input_premises.specs.world_model.gsmp_wire.declared.message.Message.{Message}
use Rattle.law_input_premises.specs.world_model.gsmp_wire.declared.message.Message.TheVariants.{Adjacency, Branch, Port, AllPorts}
use Rattle.law_input_premises.specs.world_model.gsmp_wire.declared.request.Request.TheVariants as requests
use Rattle.law_input_premises.proofs.law_port_facts.Keyed.{on_each, on_both}
use Rattle.law_input_premises.specs.world_model.switch_model.declared.request.Asked.{Asked}
use Rattle.law_input_premises.specs.world_model.gsmp_wire.declared.failure.Failure.{Failure}
use Rattle.law_input_premises.specs.world_model.Switch as switches
use Rattle.law_input_premises.specs.world_model.Switch.{free_slots}
use Rattle.law_input_premises.specs.world_model.Requests.{deleted_all}
use Rattle.law_input_premises.specs.world_model.Conduct as conduct
use Rattle.law_input_premises.specs.law_shown_cells.Seen.{IsUnmade, Extends}
use Rattle.law_input_premises.specs.law_input_steps.Part.{part_of, IsNumbered}
use Rattle.law_input_premises.proofs.law_input_steps.Handled.{all_ended_frames, moved_frames, ended_frames}
use Rattle.law_world_views.specs.Between.{IsInput}
use Rattle.law_input_premises.proofs.law_shown_cells.Tested.{broken_frames, passed_frames}
use Rattle.law_input_events.specs.Coming.{HasLines}
use Rattle.law_input_events.proofs.Sites.{ReachesOn, reached_by, lines_on, put_at}
use Rattle.law_input_events.proofs.Acting.{SwitchGrows, same_frames, says_grows, steps_grow}

-- *A request makes no frame*
after_frames : (c : Changed) (r : Request) → (branches_after c r).notes.frames ≡ c.notes.frames
after_frames c (requests.AddBranch i o) = refl
after_frames c (requests.MoveBranch i from to) = moved_frames c i to (finite.get c.branches i)
after_frames c (requests.DeleteTree i) = ended_frames c i (finite.get c.branches i)
after_frames c (requests.VerifyTree i) = refl
after_frames c (requests.DeleteAll port) = all_ended_frames c (inputs_on c.branches port)
after_frames c (requests.PortManagement port function) = on_both (λ (z : Changed). z.notes.frames ≡ c.notes.frames) (function == 2) (deleted_all c port) c (all_ended_frames c (inputs_on c.branches port)) refl
after_frames c requests.AllPorts = refl

handled_frames : (s : switches.Switch) (notes : Journal) (m : Message) (r : Request) (cause : Option Failure) → (handled_by s notes m r cause).notes.frames ≡ notes.frames
handled_frames s notes m r (Some f) = refl
handled_frames s notes m r None = after_frames (record { branches = s.crossbar.branches; notes = notes }) r

asked_frames : (s : switches.Switch) (notes : Journal) (m : Message) (asked : Option Asked) → (handled_asked s notes m asked).notes.frames ≡ notes.frames
asked_frames s notes m None = refl
asked_frames s notes m (Some asked) = handled_frames s notes m asked.request (failure_of s.ports s.vpis s.crossbar.branches asked)

-- *Growth* behind what makes no frame
abbrev Unmade : switches.ActedSwitch → Type 0
Unmade a = IsUnmade a.numbers.controls a.notes.frames

on_same : (a b c : switches.ActedSwitch) → b.notes.frames ≡ a.notes.frames → b.numbers ≡ a.numbers → Unmade a → (Unmade b → SwitchGrows b c) → SwitchGrows a c
on_same a b c frames numbers unmade k =
    let g : SwitchGrows b c = k (subst (λ (n : GivenOut). IsUnmade n.controls b.notes.frames) (sym numbers) (subst (λ (f : List Frame). IsUnmade a.numbers.controls f) (sym frames) unmade)) in
    record {
      extends = subst (λ (f : List Frame). Extends f c.notes.frames) frames g.extends;
      drawn = subst (λ (n : GivenOut). n.instances ≤ c.numbers.instances) numbers g.drawn;
    }

-- *What a switch does with a cell* of the GSMP channel
replies_grow : (a : switches.ActedSwitch) (m : Message) → Unmade a → SwitchGrows a (conduct.requested a m)
replies_grow a m unmade =
    let h : Handled = handled a.switch a.notes m in
    let b : switches.ActedSwitch = record a { switch = h.switch; notes = h.notes } in
    on_both (SwitchGrows a) (is_request m && is_estab a.switch.adjacency.state) (conduct.replied a h) a
    (on_same a b (conduct.replied a h) (asked_frames a.switch a.notes m (asked_in m)) refl unmade (λ u. (let g = says_grows b h.answer u in record { extends = g.extends; drawn = g.drawn })))
    (same_frames a a refl (omega arith))

told_grows : (a : switches.ActedSwitch) (m : Message) → Unmade a → SwitchGrows a (conduct.message_heard a m)
told_grows a (Adjacency g) unmade = steps_grow a (gsmp_received a.switch.adjacency g) unmade
told_grows a (Branch kind result code n session ip i op o br pr) unmade = replies_grow a (Branch kind result code n session ip i op o br pr) unmade
told_grows a (Move result code n session ip i op o tp t br pr) unmade = replies_grow a (Move result code n session ip i op o tp t br pr) unmade
told_grows a (Port result code n port session function) unmade = replies_grow a (Port result code n port session function) unmade
told_grows a (AllPorts result code n rows) unmade = replies_grow a (AllPorts result code n rows) unmade

read_grows : (a : switches.ActedSwitch) (r : Result Message Fault) → Unmade a → SwitchGrows a (conduct.frame_read a r)
read_grows a (Ok m) unmade = told_grows a m unmade
read_grows a (Err fault) unmade = same_frames a (conduct.frame_read a (Err fault)) refl (omega arith)

tested_grows : (a : switches.ActedSwitch) (cells : List Cell) (o : Option (List ℕ)) → Unmade a → SwitchGrows a (conduct.after_test a (tested_by a.notes cells o))
tested_grows a cells None unmade = same_frames a (conduct.after_test a (tested_by a.notes cells None)) (broken_frames (marks_of cells) a.notes) (omega arith)
tested_grows a cells (Some payload) unmade = on_same a (record a { notes = passed_test a.notes (last_mark cells) payload }) (conduct.after_test a (tested_by a.notes cells (Some payload)))
    (passed_frames a.notes (last_mark cells) payload) refl unmade (λ u. read_grows (record a { notes = passed_test a.notes (last_mark cells) payload }) (decoded payload) u)

ends_grow : (a : switches.ActedSwitch) (cells : List Cell) → Unmade a → SwitchGrows a (conduct.ends_frame a cells)
ends_grow a [] unmade = same_frames a a refl (omega arith)
ends_grow a (cell ∷ cells) unmade = tested_grows a (cell ∷ cells) (payload_in (octets_of (cell ∷ cells))) unmade

after_grows : (a : switches.ActedSwitch) (t : Taken) → t.notes.frames ≡ a.notes.frames → Unmade a → SwitchGrows a (conduct.after_cell a t)
after_grows a t same unmade = (let b : switches.ActedSwitch = record a { switch = record a.switch { reassembly = t.reassembly }; notes = t.notes } in
    on_same a b (conduct.after_cell a t) same refl unmade (λ u. ends_grow b t.ended u))

pub gsmp_cell_grows : (a : switches.ActedSwitch) (cell : Cell) → Unmade a → SwitchGrows a (conduct.gsmp_cell a cell)
gsmp_cell_grows a cell unmade =
    let r : Reassembly = a.switch.reassembly in
    let slot : Bool = nat_lt 0 (free_slots a.switch) in
    let to : Taken → Type 0 = λ t. SwitchGrows a (conduct.after_cell a t) in
    on_each to r.is_skipping (passed_over a.notes r cell)
    (if not slot then without_slot a.notes r cell else (if nat_le most_cells (length r.chain) then too_long a.notes r cell else cell_joined a.notes r cell))
    (λ e. after_grows a (passed_over a.notes r cell) (broken_frames (cell.mark ∷ []) a.notes) unmade)
    (λ e. on_each to (not slot) (without_slot a.notes r cell) (if nat_le most_cells (length r.chain) then too_long a.notes r cell else cell_joined a.notes r cell)
    (λ e. after_grows a (without_slot a.notes r cell) (broken_frames (marks_of r.chain) (noted a.notes (Loss cell.mark PoolFull))) unmade)
    (λ e. on_each to (nat_le most_cells (length r.chain)) (too_long a.notes r cell) (cell_joined a.notes r cell)
    (λ e. after_grows a (too_long a.notes r cell) (broken_frames (marks_of (r.chain ++ cell ∷ [])) a.notes) unmade)
    (λ e. joins cell.header.last)))
  where
    joins : (last : Bool) → SwitchGrows a (conduct.after_cell a (
        if last
        then record { reassembly = record a.switch.reassembly { chain = [] }; notes = a.notes; ended = a.switch.reassembly.chain ++ cell ∷ [] }
        else record { reassembly = record a.switch.reassembly { chain = a.switch.reassembly.chain ++ cell ∷ [] }; notes = a.notes; ended = [] }))
    joins true = after_grows a (record { reassembly = record a.switch.reassembly { chain = [] }; notes = a.notes; ended = a.switch.reassembly.chain ++ cell ∷ [] }) refl unmade
    joins false = after_grows a (record { reassembly = record a.switch.reassembly { chain = a.switch.reassembly.chain ++ cell ∷ [] }; notes = a.notes; ended = [] }) refl unmade

-- *A site* without a cell acts: it was one site before, and is another behind
module _ (w : World) (node : NodeId) (site mid : Site) (found : site_at w node ≡ Some site) (numbered : IsNumbered site.controller.desk) (unmade : IsUnmade w.numbers.controls w.notes.frames)
    (same : mid.controller.node ≡ site.controller.node) where
  pub mid_there : site_at (with_site w mid) node ≡ Some mid
  mid_there = (put_at w node site mid found same).0

  pub then_lines : (after : Site) (notes : Journal) (numbers : GivenOut) → after.controller.node ≡ mid.controller.node → Extends w.notes.frames notes.frames → w.numbers.instances ≤ numbers.instances
      → ((input : End) → IsInput after.controller input → IsInput site.controller input)
      → ((input : End) → IsInput site.controller input → ReachesOn node input (part_of input site w.notes.frames w.numbers) (part_of input after notes.frames numbers))
      → HasLines w → HasLines (record (with_site (with_site w mid) after) { notes = notes; numbers = numbers })
  then_lines after notes numbers same_node extends given inputs leads lines =
      let v : World = record (with_site (with_site w mid) after) { notes = notes; numbers = numbers } in
      let first = put_at w node site mid found same in
      let second = put_at (with_site w mid) node mid after first.0 same_node in
      lines_on w v node site after (record { found = found; there = second.0; others = λ other apart. second.1 other apart ∙ first.1 other apart; extends = extends; drawn = given }) inputs
      (λ input is r. reached_by node input site after w.notes.frames notes.frames w.numbers numbers unmade numbered (leads input is) r) lines
