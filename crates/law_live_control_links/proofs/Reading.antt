-- what is read in a chain that passes its test is what was made under the mark of its last cell

use Rattle.std.proofs.Common.{◌≡◌, ℕ, Bool, true, false, List, [], ◌∷◌, ◌++◌, Option, None, Some, Ok, refl, sym, ◌∙◌, ap, if◌then◌else◌}
use Rattle.std.specs.Option.{option_and_then}
use Rattle.world_model.specs.Words.{Channel, Cell, Frame, Label, Linked, Controller, Journal, Reassembly, default_channel, is_bound, label_at, label_number_of, label_taker, last_mark, linked_at, on_link, payload_in, payload_of, port_on, same_channel, taker_at, taker_of, ForDefault, ForGsmp, ForLabel}
use Rattle.world_model.specs.gsmp_wire.declared.message.Message.{Message}
use Rattle.world_model.specs.gsmp_wire.Layout.{octets_of as message_octets}
use Rattle.world_model.specs.gsmp_wire.Fields.{decoded}
use Rattle.world_model.specs.frame_model.Frame.{octets_of}
use Rattle.world_model.specs.frame_model.Reassembly.{taken}
use Rattle.law_running_worlds.specs.law_input_steps.Hearing.{IsEnded, PassesTrue}
use Rattle.law_running_worlds.proofs.MadeTame.{IsWhole, whole_chain}
use Rattle.law_running_worlds.proofs.law_shown_cells.Tested.{frame_is, last_is}
use Rattle.law_live_control.specs.Calm.{IsOfCalm}

pub one_payload : (x y : List ℕ) → Some x ≡ Some y → x ≡ y
one_payload x y e = cc

-- *A chain that a cell ended*, whose last cell is of a calm message: what is read in it is read in that message's octets
module _ (frames : List Frame) (notes : Journal) (slot : Bool) (r : Reassembly) (cell : Cell) (true_chain : IsEnded slot r cell → PassesTrue frames (r.chain ++ cell ∷ [])) where
  pub payload_made : (first : Cell) (rest : List Cell) (payload : List ℕ) → (taken notes slot r cell).ended ≡ first ∷ rest → payload_in (octets_of (first ∷ rest)) ≡ Some payload
      → payload_of frames cell.mark ≡ Some payload
  payload_made first rest payload ended passes =
      let whole : IsWhole slot r cell (first ∷ rest) = whole_chain notes slot r cell first rest ended in
      let tested : payload_in (octets_of (r.chain ++ cell ∷ [])) ≡ Some payload = ap (λ (cells : List Cell). payload_in (octets_of cells)) (sym whole.whole) ∙ passes in
      ap (payload_of frames) (sym (last_is r.chain cell)) ∙ frame_is frames (last_mark (r.chain ++ cell ∷ [])) payload (true_chain whole.is_ended payload tested)

  pub read_in : (Calm : Message → Type 0) (h : IsOfCalm Calm frames cell) (payload : List ℕ) (message : Message) → payload_of frames cell.mark ≡ Some payload → decoded payload ≡ Ok message
      → decoded (message_octets h.message) ≡ Ok message
  read_in Calm h payload message made read = ap decoded (one_payload (message_octets h.message) payload (sym h.made ∙ made)) ∙ read

-- *The GSMP channel* alone is taken for GSMP
pub gsmp_alone : (c : Controller) (channel : Channel) → taker_of c channel ≡ Some ForGsmp → same_channel channel default_channel ≡ true
gsmp_alone c channel is = by (same_channel channel default_channel) is
  where
    by_label : (linked : Linked) (o : Option Label) → label_taker linked o ≡ Some ForGsmp → ⊥
    by_label linked None e = cc e
    by_label linked (Some label) e = by_bound (is_bound label.state) e
      where
        by_bound : (b : Bool) → (if b then Some (ForLabel linked label) else None) ≡ Some ForGsmp → ⊥
        by_bound true e = cc e
        by_bound false e = cc e

    by_default : (linked : Linked) (b : Bool) → (if b then Some (ForDefault linked) else label_taker linked (option_and_then (label_at linked.port) (label_number_of (on_link channel)))) ≡ Some ForGsmp → ⊥
    by_default linked true e = cc e
    by_default linked false e = by_label linked (option_and_then (label_at linked.port) (label_number_of (on_link channel))) e

    by_port : (o : Option Linked) → taker_at o (on_link channel) ≡ Some ForGsmp → ⊥
    by_port None e = cc e
    by_port (Some linked) e = by_default linked (same_channel (on_link channel) default_channel) e

    by : (b : Bool) → (if b then Some ForGsmp else taker_at (linked_at c (port_on channel)) (on_link channel)) ≡ Some ForGsmp → b ≡ true
    by true e = refl
    by false e = absurd (by_port (linked_at c (port_on channel)) e)
