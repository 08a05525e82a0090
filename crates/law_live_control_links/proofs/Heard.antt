-- what is heard on the control link of a node is calm

use Rattle.std.proofs.Common.{◌≡◌, ℕ, Bool, true, false, List, [], ◌∷◌, Option, None, Some, Ok, refl, sym, ◌∙◌, ap, subst, if◌then◌else◌}
use Rattle.std.specs.Prelude.{◌==◌, ◌&&◌}
use Rattle.std.specs.Option.{option_map_or}
use Rattle.world_model.specs.Words.{NodeId, Down, Up, Cell, Mark, Party, payload_of, last_mark, payload_in, Reassembly, control_port, default_channel, same_channel, queue_of, Topology, World, queue_at, OfController, OfSwitch, reassembly_at, has_slot, arrival, cell_for, taken_at, CountsAsItsFrame}
use Rattle.world_model.specs.gsmp_wire.declared.message.Message.{Message}
use Rattle.world_model.specs.gsmp_wire.Layout.{octets_of as message_octets}
use Rattle.world_model.specs.gsmp_wire.Fields.{decoded}
use Rattle.world_model.specs.frame_model.Frame.{octets_of}
use Rattle.world_model.specs.frame_model.Reassembly.{Taken, taken}
use Rattle.world_model.specs.Stretches.{Reassembler, controller_arrival, ended_at, switch_arrival}
use Rattle.world_model.specs.network_model.declared.event.Event.TheVariants.{Carry}
use Rattle.law_run_facts.proofs.law_actor_pace.Cells.{ended_last}
use Rattle.law_running_worlds.specs.ordered_lists.Ordered.{Every}
use Rattle.law_live_hearing.specs.Law.{Hears, SwitchHears}
use Rattle.law_live_hearing.proofs.Sites.{queue_of_site}
use Rattle.law_live_control.specs.Calm.{IsCalmDown, IsCalmUp, IsCalmCell, IsOfCalm}
use Rattle.law_live_control.proofs.Reading.{calm_is_read}
use Rattle.law_live_control_links.specs.Law.{IsCalmLink, NothingElseIsHeard}
use Rattle.law_live_control_links.proofs.Reading.{one_payload}

-- no cells pass a test
none_passes : (payload : List ℕ) → payload_in [] ≡ Some payload → ⊥
unfolding payload_in
none_passes payload e = absurd (cc e)

-- *The cell that ended* what passes a test at a channel
pub record Ended (cells : List Cell) (came : Option Cell) : Type 0 where
  pub cell : Cell
  pub is : came ≡ Some cell
  pub last : last_mark cells ≡ cell.mark

module _ (w : World) (taker : Reassembler) (payload : List ℕ) where
  abbrev pub ended_by : Option Reassembly → Option Cell → List Cell
  ended_by r came = option_map_or (λ (t : Taken). t.ended) (taken_at w taker r came) []

  by_taken : (r : Reassembly) (cell : Cell) (cells : List Cell) → (taken w.notes (has_slot w taker) r cell).ended ≡ cells → payload_in (octets_of cells) ≡ Some payload → Ended cells (Some cell)
  by_taken r cell [] is passes = absurd (none_passes payload passes)
  by_taken r cell (first ∷ rest) is passes = record { cell = cell; is = refl; last = ended_last w.notes (has_slot w taker) r cell first rest is }

  pub ended_cell : (r : Option Reassembly) (came : Option Cell) → payload_in (octets_of (ended_by r came)) ≡ Some payload → Ended (ended_by r came) came
  ended_cell None came passes = absurd (none_passes payload passes)
  ended_cell (Some r) None passes = absurd (none_passes payload passes)
  ended_cell (Some r) (Some cell) passes = by_taken r cell (taken w.notes (has_slot w taker) r cell).ended refl passes

-- *It came at the head* of the queue, on the GSMP channel
pub record IsHead (queue : List Cell) (cell : Cell) : Type 0 where
  pub later : List Cell
  pub is : queue ≡ cell ∷ later
  pub on : same_channel cell.header.channel default_channel ≡ true

one_cell : (x y : Cell) → Some x ≡ Some y → x ≡ y
one_cell x y e = cc e

second : (x y : Bool) → (x && y) ≡ true → y ≡ true
second true y e = e
second false y e = absurd (cc e)

module _ (node : NodeId) (cell : Cell) where
  head_by : (x : Cell) (xs : List Cell) (b : Bool) → (b ≡ true → same_channel x.header.channel default_channel ≡ true) → (if b then Some x else None) ≡ Some cell → IsHead (x ∷ xs) cell
  head_by x xs true on e = subst (IsHead (x ∷ xs)) (one_cell x cell e) (record { later = xs; is = refl; on = on refl })
  head_by x xs false on e = absurd (cc e)

  up_head : (queue : List Cell) → cell_for (OfController node default_channel) (controller_arrival node queue) ≡ Some cell → IsHead queue cell
  up_head [] e = absurd (cc e)
  up_head (x ∷ xs) e = head_by x xs ((node.0 == node.0) && same_channel x.header.channel default_channel) (second (node.0 == node.0) (same_channel x.header.channel default_channel)) e

  down_by : (x : Cell) (xs : List Cell) (b : Bool) → (b ≡ true → same_channel x.header.channel default_channel ≡ true)
      → cell_for (OfSwitch node) (if b then Some (record { taker = OfSwitch node; cell = x }) else None) ≡ Some cell → IsHead (x ∷ xs) cell
  down_by x xs true on e = head_by x xs (node.0 == node.0) (λ t. on refl) e
  down_by x xs false on e = absurd (cc e)

  pub down_head : (queue : List Cell) → cell_for (OfSwitch node) (switch_arrival node queue) ≡ Some cell → IsHead queue cell
  down_head [] e = absurd (cc e)
  down_head (x ∷ xs) e = down_by x xs (same_channel x.header.channel default_channel) (λ t. t) e

-- *What is heard* is what was made under the mark of that cell
module _ (topology : Topology) (w : World) (node : NodeId) (mark : Mark) (payload : List ℕ) (message : Message) (link : IsCalmLink w node) (read : decoded payload ≡ Ok message) where
  abbrev own : Party
  own = link.site.controller.adjacency.own

  abbrev far : Party
  far = link.site.switch.adjacency.own

  read_made : (Calm : Message → Type 0) (cell : Cell) (h : IsOfCalm Calm w.notes.frames cell) → payload_of w.notes.frames cell.mark ≡ Some payload → decoded (message_octets h.message) ≡ Ok message
  read_made Calm cell h made = ap decoded (one_payload (message_octets h.message) payload (sym h.made ∙ made)) ∙ read

  heard_up : CountsAsItsFrame w (Carry (Up node)) → Hears topology w node default_channel mark payload → IsCalmUp own far message
  heard_up counts heard =
      let taker : Reassembler = OfController node default_channel in
      let e : Ended (ended_at w (Carry (Up node)) taker) (cell_for taker (arrival w (Carry (Up node)))) = ended_cell w taker payload (reassembly_at w taker) (cell_for taker (arrival w (Carry (Up node)))) heard.whole in
      let head : IsHead (queue_at w (Up node)) e.cell = up_head node e.cell (queue_at w (Up node)) e.is in
      let queue : queue_of link.site.switch.crossbar control_port ≡ e.cell ∷ head.later = sym (queue_of_site w node link.site (Up node) link.found) ∙ head.is in
      let h : IsOfCalm (IsCalmUp own far) w.notes.frames e.cell = (subst (Every (IsCalmCell (IsCalmUp own far) w.notes.frames)) queue link.calm.up).0 head.on in
      let made : payload_of w.notes.frames e.cell.mark ≡ Some payload = ap (payload_of w.notes.frames) (sym e.last) ∙ counts taker payload heard.whole in
      calm_is_read.up own far h.message message link.calm.controller_fits link.calm.switch_fits h.calm (read_made (IsCalmUp own far) e.cell h made)

  heard_down : CountsAsItsFrame w (Carry (Down node)) → SwitchHears topology w node mark payload → IsCalmDown own far message
  heard_down counts heard =
      let taker : Reassembler = OfSwitch node in
      let e : Ended (ended_at w (Carry (Down node)) taker) (cell_for taker (arrival w (Carry (Down node)))) = ended_cell w taker payload (reassembly_at w taker) (cell_for taker (arrival w (Carry (Down node)))) heard.whole in
      let head : IsHead (queue_at w (Down node)) e.cell = down_head node e.cell (queue_at w (Down node)) e.is in
      let queue : link.site.controller.queue ≡ e.cell ∷ head.later = sym (queue_of_site w node link.site (Down node) link.found) ∙ head.is in
      let h : IsOfCalm (IsCalmDown own far) w.notes.frames e.cell = (subst (Every (IsCalmCell (IsCalmDown own far) w.notes.frames)) queue link.calm.down).0 head.on in
      let made : payload_of w.notes.frames e.cell.mark ≡ Some payload = ap (payload_of w.notes.frames) (sym e.last) ∙ counts taker payload heard.whole in
      calm_is_read.down own far h.message message link.calm.controller_fits link.calm.switch_fits h.calm (read_made (IsCalmDown own far) e.cell h made)

pub nothing_else_is_heard : NothingElseIsHeard
nothing_else_is_heard = record {
  down = λ topology w node mark payload message link counts heard read. heard_down topology w node mark payload message link read counts heard;
  up = λ topology w node mark payload message link counts heard read. heard_up topology w node mark payload message link read counts heard;
}
