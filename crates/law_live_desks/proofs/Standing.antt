-- what stands at a controller's desk was there before, or is asked in a frame that stands in its queue

use Rattle.std.proofs.Common.{◌≡◌, ◌≢◌, ℕ, zero, ◌+◌, ◌≤◌, ◌<◌, true, List, [], ◌∷◌, ◌++◌, length, Some, refl, sym, ◌∙◌, ap, subst, arith}
use Rattle.std.specs.Prelude.{Contains}
use Rattle.std.proofs.lemmas.List.Elements.{Contains-append_left, Contains-append_right}
use Rattle.world_model.specs.Words.{Channel, Mark, Cell, Frame, payload_of, frame_cells, default_channel, same_channel, PortRow, Standing, Desk, message_of}
use Rattle.world_model.specs.gsmp_wire.Layout.{octets_of}
use Rattle.world_model.specs.Controller.{Acted}
use Rattle.law_port_facts.specs.ordered_lists.Ordered.{Every}
use Rattle.law_port_facts.proofs.ordered_lists.Every.{every_map}
use Rattle.law_live_control.proofs.Since.{control_mark, with_frame}
use Rattle.law_shown_cells.proofs.Made.{made_is, made_elsewhere}
use Rattle.law_shown_cells.proofs.Frames.{IsCut, frame_is_cut}

-- *The last cell of the frame of a request*, under a control mark that was given out
pub record IsNewCopy (rows : List PortRow) (frames : List Frame) (controls : ℕ) (s : Standing) (cell : Cell) : Type 0 where
  pub last : cell.header.last ≡ true
  pub on : same_channel cell.header.channel default_channel ≡ true
  pub number : ℕ
  pub is : cell.mark ≡ control_mark number
  pub given : number ≤ controls
  pub made : payload_of frames (control_mark number) ≡ Some (octets_of (message_of rows s.number s.request))

-- *More frames*, none of them under a mark that was given out
abbrev pub StaySame : (old new : List Frame) → (controls : ℕ) → Type 0
StaySame old new controls = (k : ℕ) → k ≤ controls → payload_of new (control_mark k) ≡ payload_of old (control_mark k)

later_mark : (m k : ℕ) → k ≤ m → control_mark (m + 1) ≢ control_mark k
later_mark m k le e = (let same : m + 1 ≡ k = ap (λ (mark : Mark). mark.frame) e in absurd (omega (arith, le, same)))

pub same_control : (frames : List Frame) (controls : ℕ) (payload : List ℕ) → StaySame frames (with_frame frames (control_mark (controls + 1)) payload) controls
same_control frames controls payload k low = made_elsewhere frames (control_mark (controls + 1)) (control_mark k) payload (later_mark controls k low)

pub same_packet : (frames : List Frame) (controls : ℕ) (mark : Mark) (payload : List ℕ) → mark.packet ≢ 0 → StaySame frames (with_frame frames mark payload) controls
same_packet frames controls mark payload packet k low = made_elsewhere frames mark (control_mark k) payload (λ e. packet (ap (λ (m : Mark). m.packet) e))

module _ (Old : Standing → Type 0) where
  -- *A request was there before*, or its frame stands in the queue
  pub data IsThere (rows : List PortRow) (queue : List Cell) (frames : List Frame) (controls : ℕ) (s : Standing) : Type 0 where
    stood : Old s → IsThere rows queue frames controls s
    sent : (cell : Cell) → Contains queue cell → IsNewCopy rows frames controls s cell → IsThere rows queue frames controls s

  pub there_more : (rows : List PortRow) (queue cells : List Cell) (old new : List Frame) (m n : ℕ) → m ≤ n → StaySame old new m
      → (s : Standing) → IsThere rows queue old m s → IsThere rows (queue ++ cells) new n s
  there_more rows queue cells old new m n le same s (stood h) = stood h
  there_more rows queue cells old new m n le same s (sent cell among c) = sent cell (Contains-append_left queue cells cell among) (record {
    last = c.last;
    on = c.on;
    number = c.number;
    is = c.is;
    given = omega (arith, c.given, le);
    made = same c.number c.given ∙ c.made;
  })

  -- a frame that was sent now
  pub there_now : (rows : List PortRow) (queue : List Cell) (frames : List Frame) (controls : ℕ) (s : Standing)
      → let octets : List ℕ = octets_of (message_of rows s.number s.request) in
      IsThere rows (queue ++ frame_cells default_channel (control_mark (controls + 1)) octets) (with_frame frames (control_mark (controls + 1)) octets) (controls + 1) s
  there_now rows queue frames controls s =
      let octets : List ℕ = octets_of (message_of rows s.number s.request) in
      let mark : Mark = control_mark (controls + 1) in
      let cut : IsCut default_channel mark (frame_cells default_channel mark octets) = frame_is_cut default_channel mark octets in
      sent cut.final
      (Contains-append_right queue (frame_cells default_channel mark octets) cut.final (subst (λ (cells : List Cell). Contains cells cut.final) (sym cut.whole)
      (Contains-append_right cut.front (cut.final ∷ []) cut.final (zero, omega arith, refl))))
      (record {
        last = cut.last.1;
        on = ap (λ (c : Channel). same_channel c default_channel) cut.last.0;
        number = controls + 1;
        is = cut.last.2;
        given = omega arith;
        made = made_is frames mark octets;
      })

  abbrev pub Each : Desk → List Cell → List Frame → ℕ → Type 0
  Each desk queue frames controls = Every (IsThere desk.rows queue frames controls) desk.standing

  pub each_more : (desk : Desk) (queue cells : List Cell) (old new : List Frame) (m n : ℕ) → m ≤ n → StaySame old new m → Each desk queue old m → Each desk (queue ++ cells) new n
  each_more desk queue cells old new m n le same h =
      every_map (IsThere desk.rows queue old m) (IsThere desk.rows (queue ++ cells) new n) desk.standing (there_more desk.rows queue cells old new m n le same) h

  pub each_begins : (desk : Desk) (queue : List Cell) (frames : List Frame) (controls : ℕ) → Every Old desk.standing → Each desk queue frames controls
  each_begins desk queue frames controls h = every_map Old (IsThere desk.rows queue frames controls) desk.standing (λ s old. stood old) h

  -- *So it is since an event began*, if the ledger has no more entries than it had
  module _ (entries : ℕ) where
    pub record Kept (a : Acted) : Type 0 where
      pub grown : entries ≤ length a.notes.entries
      pub each : length a.notes.entries ≡ entries → Each a.controller.desk a.controller.queue a.notes.frames a.numbers.controls

    abbrev pub EachOf : Acted → Type 0
    EachOf a = Each a.controller.desk a.controller.queue a.notes.frames a.numbers.controls

    -- as it was, with more entries or none
    pub kept_on : (a b : Acted) → length a.notes.entries ≤ length b.notes.entries → (EachOf a → EachOf b) → Kept a → Kept b
    kept_on a b le on h = record {
      grown = omega (arith, h.grown, le);
      each = λ e. on (h.each (omega (arith, e, le, h.grown)));
    }

    -- there are more
    pub kept_lost : (a b : Acted) → length a.notes.entries < length b.notes.entries → Kept a → Kept b
    kept_lost a b less h = record {
      grown = omega (arith, h.grown, less);
      each = λ e. absurd (omega (arith, e, less, h.grown));
    }
