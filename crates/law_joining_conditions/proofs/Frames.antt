-- a frame that a cell ended can act

use Rattle.std.proofs.Common.{◌≡◌, ℕ, ◌<◌, Bool, List, Option, None, Result, refl, ap, subst, arith, if◌then◌else◌, drop}
use Rattle.std.specs.Prelude.{◌+◌}
use Rattle.controller_joining.specs.world_model.Words.{PortNo, Mark, GivenOut, source_of, PacketFault, EncapsFault, Journal, Reassembly, forwards_packet, gsmp_holds, ForGsmp, ForDefault, ForLabel, with_reassembly, ifmp_holds, counted_at, packet_holds, default_holds, frame_holds}
use Rattle.controller_joining.specs.world_model.gsmp_wire.declared.message.Message.{Message}
use Rattle.controller_joining.specs.world_model.gsmp_wire.declared.fault.Fault.{Fault as GsmpFault}
use Rattle.controller_joining.specs.world_model.ifmp_wire.declared.message.Message.{Message as IfmpMessage}
use Rattle.controller_joining.specs.world_model.ifmp_wire.declared.reader.Fault.{Fault as IfmpFault}
use Rattle.controller_joining.specs.world_model.ifmp_wire.Fields.{decoded as ifmp_decoded}
use Rattle.controller_joining.specs.world_model.Controller.{Acted}
use Rattle.controller_joining.specs.world_model.Cells.{Taker, opened_frame}
use Rattle.law_controller_conditions.specs.law_controller_facts.Inputs.{CellComes}
use Rattle.law_controller_conditions.specs.Kept.{IsKept, AreIn}
use Rattle.law_controller_conditions.specs.controller_router.Cells.{gathered, receipt}
use Rattle.law_controller_conditions.proofs.Kept.{kept_held, numbers_suffice}
use Rattle.law_controller_conditions.proofs.Cells.{routes_kept, cells_can_come}
use Rattle.law_controller_conditions.proofs.Receiving.{cell_acts}
use Rattle.law_joining_conditions.specs.Cells.{CanHoldPacket, CanHold, FramesCanBeTaken}
use Rattle.law_joining_conditions.proofs.Events.{messages_can_be_told, ports_can_hear, ports_can_count}

gathered_numbers : (a : Acted) (taker : Taker) (notes : Journal) (r : Reassembly) → (with_reassembly (record a { notes = notes }) taker r).numbers ≡ a.numbers
gathered_numbers a ForGsmp notes r = refl
gathered_numbers a (ForDefault linked) notes r = refl
gathered_numbers a (ForLabel linked label) notes r = refl

one_left : (m n k : ℕ) → n ≡ m → m + 1000000 < k → n + 1 < k
one_left m n k same left = omega (arith, same, left)

packet_can : (a : Acted) (port : PortNo) (mark : Mark) (packet : List ℕ) → IsKept a.controller → AreIn (packet_holds a port mark packet None).numbers → CanHoldPacket a port mark packet
packet_can a port mark packet h n = record {
  hears = λ control message decodes range. ports_can_hear a port (source_of packet) message (kept_held a.controller h) range
      (subst (λ (r : Result IfmpMessage IfmpFault). AreIn (ifmp_holds a port packet r).numbers) decodes
      (subst (λ (b : Bool). AreIn (if b then ifmp_holds a port packet (ifmp_decoded (drop 20 packet)) else counted_at (forwards_packet a mark packet) port packet).numbers) control n));
  counts = λ other. ports_can_count (forwards_packet a mark packet) port packet (kept_held (forwards_packet a mark packet).controller (routes_kept a mark packet h))
      (subst (λ (b : Bool). AreIn (if b then ifmp_holds a port packet (ifmp_decoded (drop 20 packet)) else counted_at (forwards_packet a mark packet) port packet).numbers) other n);
}

frame_can : (a : Acted) (taker : Taker) (mark : Mark) (payload : List ℕ) → IsKept a.controller → AreIn (frame_holds a taker mark payload).numbers → CanHold a taker mark payload
frame_can a ForGsmp mark payload h n = λ message decodes. messages_can_be_told a message h (subst (λ (r : Result Message GsmpFault). AreIn (gsmp_holds a r).numbers) decodes n)
frame_can a (ForDefault linked) mark payload h n = λ packet unwraps whole. packet_can a linked.setup.port mark packet h
    (subst (λ (o : Option PacketFault). AreIn (packet_holds a linked.setup.port mark packet o).numbers) whole
    (subst (λ (r : Result (List ℕ) EncapsFault). AreIn (default_holds a linked.setup.port mark r).numbers) unwraps n))
frame_can a (ForLabel linked label) mark payload h n = tt

pub frames_can_be_taken : FramesCanBeTaken
frames_can_be_taken a taker cell payload h left e is =
    let r = receipt a taker cell in
    let s : Acted = gathered a taker r in
    let kept : IsKept s.controller = cells_can_come.gathers a cell.header.channel taker r.notes r.reassembly h e in
    record {
      kept = kept;
      mark = one_left a.numbers.controls s.numbers.controls _ (ap (λ (n : GivenOut). n.controls) (gathered_numbers a taker r.notes r.reassembly)) left.controls;
      holds = frame_can s taker cell.mark payload kept (subst (λ (o : Option (List ℕ)). AreIn (opened_frame s taker cell.mark o).numbers) is
          (subst (λ (b : Acted). AreIn b.numbers) (cell_acts a cell taker e) (numbers_suffice a (CellComes cell) tt h left)));
    }
