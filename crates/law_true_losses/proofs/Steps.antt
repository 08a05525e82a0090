-- what a controller does to its queue and its chains, step by step: frames are sent, and chains are cut

use Rattle.std.proofs.Common.{◌≡◌, ◌++◌, ◌∙◌, ap, sym, filter, [], append-nil, append_assoc, ℕ, List, length, Some, refl, if◌then◌else◌}
use Rattle.std.specs.Prelude.{nat_le}
use Rattle.world_model.specs.Words.{Channel, Mark, Record, Loss, PoolFull, noted, frame_cells, made, Reassembly, cut, Frame, Cell, Controller, Linked, with_linked, chain_of, cuts_of, cuts_default_of, cuts_gsmp, Entry, at, put, Journal, nothing_taken, port_key, chains_with}
use Rattle.world_model.specs.frame_model.Sending as frames
use Rattle.law_causes.proofs.law_port_facts.Keyed.{on_both}
use Rattle.world_model.specs.Controller.{Acted, free_slots, note}
use Rattle.world_model.specs.Sending.{with_cells, sends}
use Rattle.world_model.specs.port_model.Port.{Port}
use Rattle.law_true_losses.specs.Cut.{Holder, OfGsmp, OfDefault, OfLabel, same_holder, is_of_cut}
use Rattle.law_true_losses.proofs.Notes.{IsOther, other_elsewhere, Counts, cut_kept, cut_frames}
use Rattle.law_true_losses.proofs.Cutting.{Cuts, cuts_in, cuts_other, cuts_none, cuts_as, cuts_more}
use Rattle.law_true_losses.proofs.Chains.{chains, placed_chains, label_chain, label_emptied, default_chain, default_emptied, gsmp_emptied}
use Rattle.law_true_losses.proofs.Sent.{Sends, sends_none, sends_still, sends_noted, sends_put, sends_full}

-- *Where a rule began*: the frames that were made, what waited in the queue, and the chains
pub record Base : Type 0 where
  pub frames : List Frame
  pub queue : List Cell
  pub reassembly : Reassembly
  pub ports : List Linked

abbrev pub base_of : Acted → Base
base_of a = record { frames = a.notes.frames; queue = a.controller.queue; reassembly = a.controller.reassembly; ports = a.controller.ports }

-- *Frames were sent*, and the queue has grown by those that were put; and chains were cut
abbrev pub Holds : (base : Base) (queue : List Cell) → (cells : List Cell) → Type 0
Holds base queue cells = queue ≡ base.queue ++ cells

pub record Done (e x : List Entry) (base : Base) (notes : Journal) (queue : List Cell) (r : Reassembly) (ports : List Linked) : Type 0 where
  pub sends : Sends e x base.frames notes (Holds base queue)
  pub cuts : Cuts (chains base.reassembly base.ports) (chains r ports) notes

abbrev pub Sent : (e x : List Entry) → Base → Acted → Type 0
Sent e x base a = Done e x base a.notes a.controller.queue a.controller.reassembly a.controller.ports

-- a rule begins with nothing sent, and nothing cut
pub begins_with : (e : List Entry) (a : Acted) → Counts e [] a.notes → cuts_in a.notes ≡ [] → Sent e [] (base_of a) a
begins_with e a h none = record {
  sends = sends_none e [] a.notes.frames a.notes (Holds (base_of a) a.controller.queue) h refl (sym (append-nil a.controller.queue));
  cuts = cuts_none (chains a.controller.reassembly a.controller.ports) a.notes none;
}

-- a port that the controller has
abbrev Own : Acted → Linked → Type 0
Own a linked = at port_key (port_key linked) a.controller.ports ≡ Some linked

module _ (e x : List Entry) (base : Base) where
  abbrev P : Acted → Type 0
  P a = Sent e x base a

  abbrev begun : Holder → List Cell
  begun = chains base.reassembly base.ports

  pub noted_kept : (a : Acted) (item : Record) → IsOther item → P a → P (note a item)
  noted_kept a item other h = record {
    sends = sends_noted e x base.frames a.notes item (Holds base a.controller.queue) (other_elsewhere item other) h.sends;
    cuts = cuts_as begun (chains a.controller.reassembly a.controller.ports) (chains a.controller.reassembly a.controller.ports) a.notes (noted a.notes item) (cuts_other a.notes item (ap (filter is_of_cut) other)) (λ k. refl) h.cuts;
  }

  -- a chain is cut, by whose holder nothing else changes
  chain_cut : (a : Acted) (k : Holder) (cut_one r : Reassembly) (ports : List Linked) → chains a.controller.reassembly a.controller.ports k ≡ cut_one.chain
      → ((other : Holder) → chains r ports other ≡ (if same_holder other k then [] else chains a.controller.reassembly a.controller.ports other))
      → P a → Done e x base (cut a.notes cut_one) a.controller.queue r ports
  chain_cut a k cut_one r ports holds goes h = record {
    sends = sends_still e x base.frames a.notes (cut a.notes cut_one) (Holds base a.controller.queue) (λ told. cut_kept e told a.notes cut_one) (cut_frames a.notes cut_one) h.sends;
    cuts = cuts_more begun (chains a.controller.reassembly a.controller.ports) (chains r ports) a.notes cut_one k holds goes h.cuts;
  }

  -- a port changes, and its chains don't
  pub placed_kept : (a : Acted) (linked : Linked) (port : Port) → Own a linked → P a → P (with_linked a (record linked { port = port }))
  placed_kept a linked port own h = record {
    sends = h.sends;
    cuts = cuts_as begun (chains a.controller.reassembly a.controller.ports) (chains a.controller.reassembly (put port_key (record linked { port = port }) a.controller.ports)) a.notes a.notes refl
        (placed_chains a.controller.reassembly a.controller.ports linked (record linked { port = port }) own refl refl refl) h.cuts;
  }

  -- *Sending*
  pub sends_kept : (a : Acted) (channel : Channel) (mark : Mark) (payload : List ℕ) → P a → P (sends a channel mark payload)
  sends_kept a channel mark payload h = on_both (λ (s : frames.Sender Controller). P (record a { controller = s.queues; notes = s.notes })) (nat_le (length cells) (free_slots a.controller))
      (record { queues = with_cells a.controller cells; notes = made a.notes mark payload })
      (record { queues = a.controller; notes = noted (made a.notes mark payload) (Loss mark PoolFull) })
      (record {
        sends = sends_put e x base.frames a.notes (Holds base a.controller.queue) (Holds base (a.controller.queue ++ cells)) channel mark payload h.sends
            (λ more is. ap (λ (queue : List Cell). queue ++ cells) is ∙ append_assoc base.queue more cells);
        cuts = still (made a.notes mark payload) refl;
      })
      (record {
        sends = sends_full e x base.frames a.notes (Holds base a.controller.queue) (Holds base a.controller.queue) channel mark payload h.sends (λ more is. is);
        cuts = still (noted (made a.notes mark payload) (Loss mark PoolFull)) (cuts_other (made a.notes mark payload) (Loss mark PoolFull) refl);
      })
    where
      cells : List Cell
      cells = frame_cells channel mark payload

      still : (more : Journal) → cuts_in more ≡ cuts_in a.notes → Cuts begun (chains a.controller.reassembly a.controller.ports) more
      still more same = cuts_as begun (chains a.controller.reassembly a.controller.ports) (chains a.controller.reassembly a.controller.ports) a.notes more same (λ k. refl) h.cuts

  -- *A chain is cut*
  pub label_cut : (a : Acted) (linked : Linked) (label : ℕ) → Own a linked → P a → P (cuts_of a label (Some linked))
  label_cut a linked label own h = chain_cut a (OfLabel linked.setup.port label) (chain_of linked.chains label) a.controller.reassembly (put port_key (record linked { chains = chains_with linked.chains label nothing_taken }) a.controller.ports)
      (label_chain a.controller.reassembly a.controller.ports linked own label) (label_emptied a.controller.reassembly a.controller.ports linked own label) h

  pub default_cut : (a : Acted) (linked : Linked) → Own a linked → P a → P (cuts_default_of a (Some linked))
  default_cut a linked own h = chain_cut a (OfDefault linked.setup.port) linked.reassembly a.controller.reassembly (put port_key (record linked { reassembly = nothing_taken }) a.controller.ports)
      (default_chain a.controller.reassembly a.controller.ports linked own) (default_emptied a.controller.reassembly a.controller.ports linked own) h

  pub cut_gsmp : (a : Acted) → P a → P (cuts_gsmp a)
  cut_gsmp a h = chain_cut a OfGsmp a.controller.reassembly nothing_taken a.controller.ports refl (gsmp_emptied a.controller.reassembly a.controller.ports) h
