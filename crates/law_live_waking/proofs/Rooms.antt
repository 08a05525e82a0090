-- a greeting that can be written is read as it was said, and takes one cell

use Rattle.std.proofs.Common.{◌≡◌, ℕ, suc, ◌+◌, ◌*◌, true, List, ◌++◌, length, length-append, Some, ◌∙◌, ap, arith}
use Rattle.std.specs.Prelude.{nat_le, nat_lt}
use Rattle.std.specs.Int.{w32, to_be_bytes}
use Rattle.std.proofs.lemmas.Bool.Decides.{nat_tests}
use Rattle.world_model.specs.Words.{Channel, Greeting, FitsParty, Party, Said, greeting_of, Mark, Cell, Frame, payload_of, frame_cells}
use Rattle.world_model.specs.aal5_frames.Frame.{cells_for, pdu_of}
use Rattle.world_model.proofs.aal5_frames.Cells.{cells_all, length-pdu_of}
use Rattle.world_model.specs.gsmp_wire.declared.message.Message.TheVariants.{Adjacency}
use Rattle.world_model.specs.gsmp_wire.Layout.{octets_of}
use Rattle.law_running_worlds.proofs.law_input_premises.Written.{IsWritten}
use Rattle.law_running_worlds.proofs.law_frame_readings.law_gsmp_reading.Read.{message_is_read}
use Rattle.law_live_waking.specs.Greetings.{Greets}

-- *A greeting can be written* where both its parties can
abbrev pub IsWrittenAs : Said Party → Type 0
IsWrittenAs message = IsWritten (Adjacency (greeting_of message))

pub greets_so : (frames : List Frame) (mark : Mark) (message : Said Party) → IsWrittenAs message
    → payload_of frames mark ≡ Some (octets_of (Adjacency (greeting_of message))) → Greets frames mark message
greets_so frames mark message written made = record {
  payload = octets_of (Adjacency (greeting_of message));
  made = made;
  read = message_is_read (Adjacency (greeting_of message)) written.0 written.1;
}

-- *It has 40 octets*, and so with its trailer one cell
size : (g : Greeting) → FitsParty g.sender → FitsParty g.receiver → length (octets_of (Adjacency g)) ≡ 40
size g fits far =
    let rest : List ℕ = to_be_bytes w32 g.sender.port ++ to_be_bytes w32 g.receiver.port ++ to_be_bytes w32 g.sender.instance.0 ++ to_be_bytes w32 g.receiver.instance.0 in
    let names : length (g.sender.name ++ (g.receiver.name ++ rest)) ≡ length g.sender.name + (length g.receiver.name + 16) =
    length-append g.sender.name (g.receiver.name ++ rest) ∙ ap (λ (n : ℕ). length g.sender.name + n) (length-append g.receiver.name rest) in
    let all : length (g.sender.name ++ (g.receiver.name ++ rest)) ≡ 28 = omega (arith, names, fits.name_length, far.name_length) in
    ap (λ (n : ℕ). suc (suc (suc (suc (suc (suc (suc (suc (suc (suc (suc (suc n)))))))))))) all

one_cell : (channel : Channel) (mark : Mark) (payload : List ℕ) → length payload ≡ 40 → length (frame_cells channel mark payload) ≡ 1
one_cell channel mark payload is =
    let pdu : length (pdu_of payload) ≡ 48 * 1 = length-pdu_of payload ∙ ap (λ (n : ℕ). 48 * cells_for n) is in
    ap (λ (cells : List Cell). length cells) (cells_all channel mark (pdu_of payload) 1 pdu)

enough : (n free : ℕ) → n ≡ 1 → nat_lt 0 free ≡ true → nat_le n free ≡ true
enough n free is some = grind (arith, nat_tests)

pub finds_room : (channel : Channel) (mark : Mark) (message : Said Party) (free : ℕ) → IsWrittenAs message → nat_lt 0 free ≡ true
    → nat_le (length (frame_cells channel mark (octets_of (Adjacency (greeting_of message))))) free ≡ true
finds_room channel mark message free written some = enough (length (frame_cells channel mark (octets_of (Adjacency (greeting_of message))))) free
    (one_cell channel mark (octets_of (Adjacency (greeting_of message))) (size (greeting_of message) written.0.0 written.0.1)) some
