-- a cell that comes to a controller whose ports hold no label leaves it so

use Rattle.std.proofs.Common.{◌≡◌, ℕ, Bool, List, [], ◌∷◌, ◌++◌, Option, None, Some, refl}
use Rattle.std.specs.Prelude.{nat_lt}
use Rattle.world_model.specs.Words.{NodeId, Addr, Channel, Cell, Loss, PoolFull, Unbound, Journal, noted, Reassembly, marks_of, tested, tested_by, last_mark, payload_in, Linked, port_key, chains_with, ForGsmp, ForDefault, ForLabel, port_on, taker_of, reassembly_of, with_reassembly, takes_cell}
use Rattle.world_model.specs.frame_model.Reassembly.{Taken, taken}
use Rattle.world_model.specs.frame_model.Frame.{octets_of}
use Rattle.law_run_facts.proofs.ordered_lists.Every.{every_all}
use Rattle.law_run_facts.proofs.law_port_facts.Keyed.{at_every, put_every}
use Rattle.world_model.specs.Controller.{Acted, free_slots}
use Rattle.world_model.specs.Cells.{Taker, ends_frame, cell_comes}
use Rattle.law_run_facts.proofs.law_controller_bindings.Lasts.{Grows, taken_grows, tested_grows}
use Rattle.law_run_facts.proofs.law_lifetimes.Events.{Belongs, taker_belongs}
use Rattle.law_run_facts.proofs.law_shown_cells.Tested.{broken_frames, passed_frames}
use Rattle.law_way_words.proofs.Switching.{taken_cases}
use Rattle.law_port_words.specs.Words.{Terms, IsSteadyAt, IsSteadily}
use Rattle.law_port_words.proofs.Sending.{note_h, grows_h, put_h, found_h}
use Rattle.law_idle_policies.proofs.Ports.{idle_terms}
use Rattle.law_idle_policies.proofs.Controllers.{IsQuiet, IsIdle, steady_of, opened_i}

-- *No frame is made* where a cell is gathered or a chain tested
taken_frames : (notes : Journal) (slot : Bool) (r : Reassembly) (cell : Cell) → (taken notes slot r cell).notes.frames ≡ notes.frames
taken_frames notes slot r cell = taken_cases (λ (x : Taken). x.notes.frames ≡ notes.frames) notes slot r cell (broken_frames (cell.mark ∷ []) notes)
    (broken_frames (marks_of r.chain) (noted notes (Loss cell.mark PoolFull))) (broken_frames (marks_of (r.chain ++ cell ∷ [])) notes) (λ last. refl) (λ more. refl)

tested_frames : (notes : Journal) (cells : List Cell) → (tested notes cells).notes.frames ≡ notes.frames
tested_frames notes cells = by (payload_in (octets_of cells))
  where
    by : (o : Option (List ℕ)) → (tested_by notes cells o).notes.frames ≡ notes.frames
    by None = broken_frames (marks_of cells) notes
    by (Some payload) = passed_frames notes (last_mark cells) payload

module _ (node : NodeId) (address : Addr) where
  abbrev t : Terms
  t = idle_terms node address

  grown_i : (a : Acted) (notes : Journal) → notes.frames ≡ a.notes.frames → Grows (λ (here : NodeId). ⊥) a.notes.records notes.records → IsIdle node address a → IsIdle node address (record a { notes = notes })
  grown_i a notes frames grows h = record { steadily = grows_h t {Here = λ here. ⊥} a notes frames grows h.steadily; quiet = h.quiet }

  -- *A cell is gathered*
  gathered_i : (a : Acted) (channel : Channel) (taker : Taker) (r : Reassembly) → Belongs a.controller channel taker → IsIdle node address a → IsIdle node address (with_reassembly a taker r)
  gathered_i a channel ForGsmp r there h = record {
    steadily = steady_of node address (with_reassembly a ForGsmp r) h.steadily.address h.steadily.ports h.steadily.records;
    quiet = h.quiet;
  }
  gathered_i a channel (ForDefault linked) r there h = (let after : Linked = record linked { reassembly = r } in record {
    steadily = put_h t a after ((found_h t a (port_on channel) linked there h.steadily).0, every_all (λ (cell : Cell). Unit {0}) r.chain (λ cell. tt)) h.steadily;
    quiet = put_every port_key IsQuiet after a.controller.ports (at_every port_key IsQuiet (port_on channel).0 a.controller.ports linked h.quiet there) h.quiet;
  })
  gathered_i a channel (ForLabel linked label) r there h = (let after : Linked = record linked { chains = chains_with linked.chains label.number r } in
      let was : IsSteadyAt t linked = found_h t a (port_on channel) linked there h.steadily in record {
        steadily = put_h t a after (was.0, was.1) h.steadily;
        quiet = put_every port_key IsQuiet after a.controller.ports (at_every port_key IsQuiet (port_on channel).0 a.controller.ports linked h.quiet there) h.quiet;
      })

  -- *The chain that it ends* is tested
  ends_i : (a : Acted) (taker : Taker) (cells : List Cell) → IsIdle node address a → IsSteadily t (ends_frame a taker cells)
  ends_i a taker [] h = h.steadily
  ends_i a taker (cell ∷ cells) h = opened_i node address (record a { notes = (tested a.notes (cell ∷ cells)).notes }) taker (last_mark (cell ∷ cells)) (tested a.notes (cell ∷ cells)).payload
      (grown_i a (tested a.notes (cell ∷ cells)).notes (tested_frames a.notes (cell ∷ cells)) (tested_grows a.notes (cell ∷ cells)) h)

  pub cell_i : (a : Acted) (cell : Cell) → IsIdle node address a → IsSteadily t (cell_comes a cell)
  cell_i a cell h = by (taker_of a.controller cell.header.channel) refl
    where
      by : (o : Option Taker) → taker_of a.controller cell.header.channel ≡ o → IsSteadily t (takes_cell a cell o)
      by None e = note_h t a (Loss cell.mark Unbound) tt h.steadily
      by (Some taker) e =
          let slot : Bool = nat_lt 0 (free_slots a.controller) in
          let r : Reassembly = reassembly_of a.controller taker in
          let x : Taken = taken a.notes slot r cell in
          let b : Acted = record a { notes = x.notes } in
          ends_i (with_reassembly b taker x.reassembly) taker x.ended (gathered_i b cell.header.channel taker x.reassembly (taker_belongs a.controller cell.header.channel taker e)
          (grown_i a x.notes (taken_frames a.notes slot r cell) (taken_grows a.notes slot r cell) h))
