-- what a controller's rules leave: the entries of the ledger, what was noted, and what was made under the marks of packets

use Rattle.std.proofs.Common.{◌≡◌, ℕ, ◌<◌, true, List, [], ◌∷◌, map, length, Some, refl, ◌∙◌, ap, arith}
use Rattle.std.specs.Prelude.{nat_le, Contains}
use Rattle.std.proofs.lemmas.List.Elements.{Contains-append_left}
use Rattle.world_model.specs.Words.{PortNo, Channel, Mark, Record, Loss, Cut, PoolFull, Journal, losses_of, noted, made, payload_of, has_entry, frame_cells, next_control, with_control, Reassembly, marks_of, distinct, noted_all, cut, Setup, Desk, Work, Action, Controller, sends_control, counted_at, chain_of}
use Rattle.world_model.specs.frame_model.Sending.{Sender}
use Rattle.world_model.specs.Controller.{Acted, free_slots}
use Rattle.world_model.specs.Sending.{with_cells, sends}
use Rattle.law_live_carried_out.proofs.law_port_facts.ordered_lists.Every.{every_all}
use Rattle.law_live_carried_out.proofs.law_port_facts.Keyed.{on_both}
use Rattle.law_live_carried_out.proofs.law_shown_cells.Made.{made_elsewhere}
use Rattle.law_rule_walks.proofs.Controllers.{Keeps}
use Rattle.law_rule_walks.proofs.Controllers as controllers
use Rattle.law_live_carried_out.proofs.law_causes.law_cell_lists.Takers.{entry_kept}

-- *What grows* with each record that is noted, and each frame of control
pub record Grows (R : Journal → Journal → Type 0) : Type 0 where
  pub itself : (a : Journal) → R a a
  pub further : {a b c : Journal} → R a b → R b c → R a c
  pub with_noted : (a : Journal) (item : Record) → R a (noted a item)
  pub with_control : (a : Journal) (mark : Mark) (payload : List ℕ) → mark.packet ≡ 0 → R a (made a mark payload)

module _ (R : Journal → Journal → Type 0) (g : Grows R) where
  grows_all : (items : List Record) (a : Journal) → R a (noted_all a items)
  grows_all [] a = g.itself a
  grows_all (item ∷ items) a = g.further (g.with_noted a item) (grows_all items (noted a item))

  -- *A chain is cut*
  grows_cut : (a : Journal) (r : Reassembly) → R a (cut a r)
  grows_cut a r = grows_all (map (λ (mark : Mark). Loss mark Cut) (distinct (marks_of r.chain))) a

  -- *A frame is sent*
  pub grows_sent : (a : Acted) (channel : Channel) (mark : Mark) (payload : List ℕ) → R a.notes (made a.notes mark payload) → R a.notes (sends a channel mark payload).notes
  grows_sent a channel mark payload h = on_both (λ (s : Sender Controller). R a.notes s.notes) (nat_le (length (frame_cells channel mark payload)) (free_slots a.controller))
      (record { queues = with_cells a.controller (frame_cells channel mark payload); notes = made a.notes mark payload })
      (record { queues = a.controller; notes = noted (made a.notes mark payload) (Loss mark PoolFull) })
      h (g.further h (g.with_noted (made a.notes mark payload) (Loss mark PoolFull)))

  grows_said : (a : Acted) (channel : Channel) (payload : List ℕ) → R a.notes (sends_control a channel payload).notes
  grows_said a channel payload = grows_sent (record a { numbers = with_control a.numbers }) channel (next_control a.numbers) payload
      (g.with_control a.notes (next_control a.numbers) payload refl)

  -- *Each change* of a controller since some notes
  keeps : (first : Journal) → Keeps (Unit {0}) (λ a. R first a.notes) (λ (setup : Setup) (desk : Desk) (w : Work). Unit {0}) (λ (setup : Setup) (action : Action). Unit {0})
  keeps first = record {
    beginning = λ a linked found h. tt;
    working = λ setup desk w v worked h. tt;
    asking = λ setup desk w h. every_all (λ (action : Action). Unit {0}) w.actions (λ action. tt);
    placing = λ a linked w found k h. h;
    clearing = λ a linked found may h. h;
    saying = λ setup a message is h. g.further h (grows_said a _ _);
    noting = λ setup a item is h. g.further h (g.with_noted a.notes item);
    withdrawing = λ setup a input is h. h;
    parting = λ a input h. g.further h (g.with_noted a.notes _);
    telling = λ a message h. g.further h (grows_said a _ _);
    requesting = λ a request estab room h. h;
    resetting = λ a h. h;
    emptying = λ a h. h;
    meeting = λ a h. h;
    cutting_label = λ a linked label found h. g.further h (grows_cut a.notes (chain_of linked.chains label));
    cutting_default = λ a linked found h. g.further h (grows_cut a.notes linked.reassembly);
    cutting_gsmp = λ a h. g.further h (grows_cut a.notes a.controller.reassembly);
    changing = λ a h. h;
  }

  -- *A packet is counted*
  pub grows_counted : (a : Acted) (port : PortNo) (packet : List ℕ) → R a.notes (counted_at a port packet).notes
  grows_counted a port packet = controllers.counted_kept (keeps a.notes) a port packet (g.itself a.notes)

-- *What is later* has what was there
pub record Later (a b : Journal) : Type 0 where
  pub entries : (mark : Mark) → has_entry a.entries mark ≡ true → has_entry b.entries mark ≡ true
  pub frames : (mark : Mark) (payload : List ℕ) → 0 < mark.packet → payload_of a.frames mark ≡ Some payload → payload_of b.frames mark ≡ Some payload
  pub records : (item : Record) → Contains a.records item → Contains b.records item

pub later_self : (a : Journal) → Later a a
later_self a = record { entries = λ mark e. e; frames = λ mark payload some e. e; records = λ item h. h }

pub later_then : {a b c : Journal} → Later a b → Later b c → Later a c
later_then p q = record {
  entries = λ mark e. q.entries mark (p.entries mark e);
  frames = λ mark payload some e. q.frames mark payload some (p.frames mark payload some e);
  records = λ item h. q.records item (p.records item h);
}

-- *Something is noted*
pub later_noted : (a : Journal) (item : Record) → Later a (noted a item)
later_noted a item = record {
  entries = λ mark e. entry_kept a.entries (losses_of (item ∷ [])) mark e;
  frames = λ mark payload some e. e;
  records = λ other h. Contains-append_left a.records (item ∷ []) other h;
}

-- *A frame of control is made*
later_control : (a : Journal) (mark : Mark) (payload : List ℕ) → mark.packet ≡ 0 → Later a (made a mark payload)
later_control a mark payload zero = record {
  entries = λ other e. e;
  frames = λ other old some e. made_elsewhere a.frames mark other payload (λ same. apart other some (ap (λ (m : Mark). m.packet) same)) ∙ e;
  records = λ item h. h;
}
  where
    apart : (other : Mark) → 0 < other.packet → mark.packet ≡ other.packet → ⊥
    apart other some same = absurd (omega (arith, some, zero, same))

later : Grows Later
later = record { itself = later_self; further = later_then; with_noted = later_noted; with_control = later_control }

-- *A packet is counted*
pub later_counted : (a : Acted) (port : PortNo) (packet : List ℕ) → Later a.notes (counted_at a port packet).notes
later_counted a port packet = grows_counted Later later a port packet
