-- frames are sent since an event began: those of the GSMP channel are of calm messages, and others are none of it

use Rattle.std.proofs.Common.{◌≡◌, ◌≢◌, ℕ, ◌+◌, ◌*◌, ◌≤◌, true, false, true≢false, List, [], ◌∷◌, ◌++◌, Some, sym, ◌∙◌, ap, subst, arith, append-nil, append_assoc}
use Rattle.live_model.specs.world_model.Words.{PortNo, Channel, Mark, Cell, Frame, payload_of, frame_cells, default_channel, default_home, same_channel, control_end, label_channel_of}
use Rattle.live_model.specs.world_model.gsmp_wire.declared.message.Message.{Message}
use Rattle.live_model.specs.world_model.gsmp_wire.Layout.{octets_of}
use Rattle.law_port_facts.specs.ordered_lists.Ordered.{Every}
use Rattle.law_port_facts.proofs.ordered_lists.Every.{every_join, every_map}
use Rattle.law_shown_cells.proofs.Made.{made_is, made_elsewhere}
use Rattle.law_shown_cells.proofs.Frames.{IsOf, IsCut, frame_is_cut, differ}
use Rattle.law_live_control.specs.Calm.{IsCalmCell}

abbrev pub control_mark : (number : ℕ) → Mark
control_mark number = record { packet = 0; frame = number }

abbrev pub with_frame : List Frame → Mark → List ℕ → List Frame
with_frame frames mark payload = frames ++ record { mark = mark; payload = payload } ∷ []

-- *The cells of a frame* have its channel and its mark
abbrev pub IsFrom : Channel → Mark → Cell → Type 0
IsFrom channel mark cell = (cell.header.channel ≡ channel) × (cell.mark ≡ mark)

pub frame_from : (channel : Channel) (mark : Mark) (payload : List ℕ) → Every (IsFrom channel mark) (frame_cells channel mark payload)
frame_from channel mark payload =
    let cut : IsCut channel mark (frame_cells channel mark payload) = frame_is_cut channel mark payload in
    subst (Every (IsFrom channel mark)) (sym cut.whole) (every_join (IsFrom channel mark) cut.front (cut.final ∷ [])
    (every_map (IsOf channel mark false) (IsFrom channel mark) cut.front (λ c is. (is.0, is.2)) cut.early) ((cut.last.0, cut.last.2), tt))

-- *Channels of ports of links*
pub apart_home : (port : PortNo) → 1 ≤ port.0 → (default_home port).channel ≢ default_channel
apart_home port link e = (let vpi : 16 * port.0 + 0 ≡ 0 = ap (λ (c : Channel). c.vpi) e in absurd (omega (arith, vpi, link)))

pub apart_label : (port : PortNo) (label : ℕ) → 1 ≤ port.0 → (control_end port label).channel ≢ default_channel
apart_label port label link e = (let vpi : 16 * port.0 + (label_channel_of label).vpi ≡ 0 = ap (λ (c : Channel). c.vpi) e in absurd (omega (arith, vpi, link)))

module _ (Calm : Message → Type 0) (began : List Cell) where
  -- *A new cell*, under a control mark that was given out
  pub record IsNew (frames : List Frame) (controls : ℕ) (cell : Cell) : Type 0 where
    pub number : ℕ
    pub is : cell.mark ≡ control_mark number
    pub given : number ≤ controls
    pub message : Message
    pub calm : Calm message
    pub made : payload_of frames (control_mark number) ≡ Some (octets_of message)

  abbrev IsNewCell : List Frame → ℕ → Cell → Type 0
  IsNewCell frames controls cell = same_channel cell.header.channel default_channel ≡ true → IsNew frames controls cell

  pub record Since (queue : List Cell) (frames : List Frame) (controls : ℕ) : Type 0 where
    pub later : List Cell
    pub grown : queue ≡ began ++ later
    pub calm : Every (IsNewCell frames controls) later

  pub since_begins : (frames : List Frame) (controls : ℕ) → Since began frames controls
  since_begins frames controls = record { later = []; grown = sym (append-nil began); calm = tt }

  -- what was made is of calm messages
  pub since_ends : (queue : List Cell) (frames : List Frame) (controls : ℕ) → (s : Since queue frames controls) → Every (IsCalmCell Calm frames) s.later
  since_ends queue frames controls s = every_map (IsNewCell frames controls) (IsCalmCell Calm frames) s.later
      (λ cell new on. (let n : IsNew frames controls cell = new on in record { message = n.message; calm = n.calm; made = ap (payload_of frames) n.is ∙ n.made })) s.calm

  -- *More frames*, none of them under a mark that was given out
  abbrev StaySame : (old new : List Frame) → (controls : ℕ) → Type 0
  StaySame old new controls = (k : ℕ) → k ≤ controls → payload_of new (control_mark k) ≡ payload_of old (control_mark k)

  pub since_more : (queue : List Cell) (old new : List Frame) (m n : ℕ) → m ≤ n → StaySame old new m → Since queue old m → Since queue new n
  since_more queue old new m n le same s = record {
    later = s.later;
    grown = s.grown;
    calm = every_map (IsNewCell old m) (IsNewCell new n) s.later
        (λ cell h on. (let k : IsNew old m cell = h on in record { number = k.number; is = k.is; given = omega (arith, k.given, le); message = k.message; calm = k.calm; made = same k.number k.given ∙ k.made })) s.calm;
  }

  behind : (queue cells : List Cell) (frames : List Frame) (controls : ℕ) → Every (IsNewCell frames controls) cells → Since queue frames controls → Since (queue ++ cells) frames controls
  behind queue cells frames controls each s = record {
    later = s.later ++ cells;
    grown = ap (λ (q : List Cell). q ++ cells) s.grown ∙ append_assoc began s.later cells;
    calm = every_join (IsNewCell frames controls) s.later cells s.calm each;
  }

  -- cells of another channel
  pub since_elsewhere : (queue : List Cell) (channel : Channel) (mark : Mark) (payload : List ℕ) (frames : List Frame) (controls : ℕ) → channel ≢ default_channel → Since queue frames controls
      → Since (queue ++ frame_cells channel mark payload) frames controls
  since_elsewhere queue channel mark payload frames controls apart s = behind queue (frame_cells channel mark payload) frames controls
      (every_map (IsFrom channel mark) (IsNewCell frames controls) (frame_cells channel mark payload)
      (λ cell is on. absurd (true≢false (sym on ∙ (ap (λ (c : Channel). same_channel c default_channel) is.0 ∙ differ channel default_channel apart)))) (frame_from channel mark payload)) s

  -- *A control frame* is made
  later_mark : (m k : ℕ) → k ≤ m → control_mark (m + 1) ≢ control_mark k
  later_mark m k le e = (let same : m + 1 ≡ k = ap (λ (mark : Mark). mark.frame) e in absurd (omega (arith, le, same)))

  pub since_made : (queue : List Cell) (frames : List Frame) (controls : ℕ) (payload : List ℕ) → Since queue frames controls
      → Since queue (with_frame frames (control_mark (controls + 1)) payload) (controls + 1)
  since_made queue frames controls payload s = since_more queue frames (with_frame frames (control_mark (controls + 1)) payload) controls (controls + 1) (omega arith)
      (λ k low. made_elsewhere frames (control_mark (controls + 1)) (control_mark k) payload (later_mark controls k low)) s

  pub since_said : (queue : List Cell) (frames : List Frame) (controls : ℕ) (message : Message) → Calm message → Since queue frames controls
      → Since (queue ++ frame_cells default_channel (control_mark (controls + 1)) (octets_of message)) (with_frame frames (control_mark (controls + 1)) (octets_of message)) (controls + 1)
  since_said queue frames controls message calm s =
      let mark : Mark = control_mark (controls + 1) in
      let now : List Frame = with_frame frames mark (octets_of message) in
      behind queue (frame_cells default_channel mark (octets_of message)) now (controls + 1)
      (every_map (IsFrom default_channel mark) (IsNewCell now (controls + 1)) (frame_cells default_channel mark (octets_of message))
      (λ cell is on. record { number = controls + 1; is = is.1; given = omega arith; message = message; calm = calm; made = made_is frames mark (octets_of message) }) (frame_from default_channel mark (octets_of message)))
      (since_made queue frames controls (octets_of message) s)

  -- *A packet's frame* is
  pub since_packet : (queue : List Cell) (frames : List Frame) (controls : ℕ) (mark : Mark) (payload : List ℕ) → mark.packet ≢ 0 → Since queue frames controls
      → Since queue (with_frame frames mark payload) controls
  since_packet queue frames controls mark payload packet s = since_more queue frames (with_frame frames mark payload) controls controls (omega arith)
      (λ k low. made_elsewhere frames mark (control_mark k) payload (λ e. packet (ap (λ (m : Mark). m.packet) e))) s
