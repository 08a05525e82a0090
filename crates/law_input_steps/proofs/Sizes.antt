-- a Delete All has one cell

use Rattle.std.proofs.Common.{◌≡◌, ℕ, ◌*◌, List, length, refl, ap, arith}
use Rattle.law_input_views.specs.world_model.Words.{Channel, Mark, PortNo, PortRow, Cell, frame_cells, message_of}
use Rattle.law_input_views.specs.world_model.gsmp_wire.declared.request.Request.TheVariants.{DeleteAll}
use Rattle.law_input_views.specs.world_model.gsmp_wire.Layout.{octets_of}
use Rattle.law_input_views.specs.aal5_frames.Frame.{pdu_of}
use Rattle.law_input_views.proofs.aal5_frames.Cells.{cells_all, length-pdu_of}

pub delete_octets : (rows : List PortRow) (n : ℕ) (p : PortNo) → length (octets_of (message_of rows n (DeleteAll p))) ≡ 40
delete_octets rows n p = refl

-- a frame of at most 40 octets is one cell
pub one_cell : (channel : Channel) (mark : Mark) (payload : List ℕ) → length payload ≡ 40 → length (frame_cells channel mark payload) ≡ 1
one_cell channel mark payload size =
    let whole : length (pdu_of payload) ≡ 48 * 1 = omega (arith, length-pdu_of payload, size) in
    ap (λ (z : List Cell). length z) (cells_all channel mark (pdu_of payload) 1 whole)
