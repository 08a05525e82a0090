-- each frame that was made is read as what its maker wrote

use Rattle.std.proofs.Common.{◌≡◌, ◌≢◌, ℕ, Bool, List, [], ◌∷◌, take, drop, Option, None, Some, Result, Ok, Err, refl, sym, ◌∙◌, ap, subst, if◌then◌else◌}
use Rattle.std.specs.Option.{option_map, option_and_then}
use Rattle.law_controller_lifts.specs.world_model.Words.{Mark, source_of, ifmp_packet_of, FlowId, EncapsFault, default_payload, Carries, default_unwrapped, unwrapped_by, unwrapped, Standing, Frame, payload_of, ifmp_in, ifmp_of, gsmp_of, ifmp_under, gsmp_under, copy_of, copy_under}
use Rattle.law_controller_lifts.proofs.world_model.flow_encaps.CarryLemmas.{packet-carried, unwrap_fault-carried}
use Rattle.law_controller_lifts.specs.world_model.ifmp_wire.declared.message.Message.{Message as IfmpMessage}
use Rattle.law_controller_lifts.specs.world_model.ifmp_wire.Message.{octets_of as ifmp_octets}
use Rattle.law_controller_lifts.specs.world_model.ifmp_wire.Fields.{decoded as ifmp_decoded}
use Rattle.law_controller_lifts.specs.world_model.gsmp_wire.declared.fault.Fault.{Fault}
use Rattle.law_controller_lifts.specs.world_model.gsmp_wire.declared.message.Message.{Message as GsmpMessage}
use Rattle.law_controller_lifts.specs.world_model.gsmp_wire.Fields.{decoded as gsmp_decoded}
use Rattle.law_world_views.proofs.law_gsmp_reading.Read.{message_is_read}
use Rattle.law_controller_lifts.proofs.Lifts.{readable}
use Rattle.law_controller_lifts.specs.world_model.Ways.{ok_of}
use Rattle.law_controller_lifts.specs.law_shown_cells.Label.{Told, told_in, told_of}
use Rattle.law_world_views.specs.Made.{IsFit, IsMadeAs, plain, labelled, told as told_as, said as said_as, AreMade}
use Rattle.law_frame_readings.specs.Reading.{IsToldAs, IsSaidAs, Holds, sent, told as holds_told, HasTold, HasSaid}
use Rattle.law_frame_readings.proofs.Apart.{default_is, not_default, gsmp_head, snaps_apart, labelled_apart}
use Rattle.law_frame_readings.proofs.Packets.{is_forwarded}

-- the packet in a payload is its packet
packet_again : (one other : List ℕ) → default_payload one ≡ default_payload other → one ≡ other
packet_again one other e = ap (λ (octets : List ℕ). drop 8 octets) e

-- *In the default encapsulation*
pub read_default : (mark : Mark) (payload packet : List ℕ) → IsMadeAs mark payload → default_unwrapped payload ≡ Ok packet → Holds mark payload packet
read_default mark payload packet (plain counted other fit filled) e =
    let same : other ≡ packet = packet_again other packet (sym filled ∙ default_is payload packet e) in
    sent counted (subst IsFit same fit) (default_is payload packet e)
read_default mark payload packet (labelled counted flow other fit carried) e =
    absurd (not_default payload (labelled_apart flow other payload (170 ∷ 3 ∷ 0 ∷ 0 ∷ 0 ∷ 8 ∷ 0 ∷ []) carried) packet e)
read_default mark payload packet (told_as control source message small range fits filled) e =
    let same : ifmp_packet_of source (ifmp_octets message) ≡ packet = packet_again (ifmp_packet_of source (ifmp_octets message)) packet (sym filled ∙ default_is payload packet e) in
    holds_told (record { source = source; message = message }) (record { control = control; source = small; in_range = range; fits = fits; filled = filled }) (sym same)
read_default mark payload packet (said_as control message fits said filled) e =
    absurd (not_default payload (λ head. snaps_apart (sym head ∙ ap (λ (octets : List ℕ). take 8 octets) filled)) packet e)

-- *A message of IFMP*
abbrev told_by : Bool → List ℕ → Option Told
told_by b packet = option_map (λ (message : IfmpMessage). record { source = source_of packet; message = message }) (if b then ok_of (ifmp_decoded (drop 20 packet)) else None)

told_by_payload : (r : Result (List ℕ) EncapsFault) (item : Told) → option_and_then told_in (ok_of r) ≡ Some item → (packet : List ℕ) × (r ≡ Ok packet) × (told_in packet ≡ Some item)
told_by_payload (Err fault) item e = absurd (cc e)
told_by_payload (Ok packet) item e = (packet, refl, e)

pub read_told : (mark : Mark) (payload : List ℕ) (item : Told) → IsMadeAs mark payload → told_of payload ≡ Some item → IsToldAs mark payload item
read_told mark payload item made e =
    let parts = told_by_payload (default_unwrapped payload) item e in
    by parts.0 (read_default mark payload parts.0 made parts.1) parts.2
  where
    by : (packet : List ℕ) → Holds mark payload packet → told_in packet ≡ Some item → IsToldAs mark payload item
    by packet (sent counted fit filled) is =
        let none : None ≡ Some item = sym (ap (λ (b : Bool). told_by b packet) (is_forwarded packet fit).other) ∙ is in
        absurd (cc none)
    by packet (holds_told other t same) is =
        let both : Some other ≡ Some item = sym (ap told_of t.filled ∙ readable other.source other.message t.source t.in_range t.fits) ∙ e in
        let it : other ≡ item = cc in
        subst (IsToldAs mark payload) it t

-- *A message of GSMP*
pub read_said : (mark : Mark) (payload : List ℕ) (message : GsmpMessage) → IsMadeAs mark payload → gsmp_decoded payload ≡ Ok message → IsSaidAs mark payload message
read_said mark payload message (plain counted packet fit filled) e = absurd (snaps_apart (sym (ap (λ (octets : List ℕ). take 8 octets) filled) ∙ gsmp_head payload message e))
read_said mark payload message (labelled counted flow packet fit carried) e = absurd (labelled_apart flow packet payload (170 ∷ 3 ∷ 0 ∷ 0 ∷ 0 ∷ 136 ∷ 12 ∷ []) carried (gsmp_head payload message e))
read_said mark payload message (told_as control source other small range fits filled) e = absurd (snaps_apart (sym (ap (λ (octets : List ℕ). take 8 octets) filled) ∙ gsmp_head payload message e))
read_said mark payload message (said_as control other fits said filled) e =
    let both : ◌≡◌ {A = Result GsmpMessage Fault} (Ok other) (Ok message) = sym (ap gsmp_decoded filled ∙ message_is_read other fits said) ∙ e in
    let it : other ≡ message = cc in
    subst (IsSaidAs mark payload) it (record { control = control; fits = fits; said = said; filled = filled })

-- *Under a label*
pub read_label : (flow : FlowId) (payload packet : List ℕ) → Carries flow packet payload → unwrapped flow payload ≡ Ok packet
unfolding unwrapped
read_label flow payload packet carried =
    let answer : List ℕ → Result (List ℕ) EncapsFault = λ (octets : List ℕ). Ok octets in
    ap (λ (o : Option EncapsFault). unwrapped_by flow payload o) (unwrap_fault-carried flow packet payload carried) ∙ ap answer (packet-carried flow packet payload carried)

-- *By its mark*
told_of_both : (r : Result (List ℕ) EncapsFault) (message : IfmpMessage) → option_and_then ifmp_in (ok_of r) ≡ Some message
    → (item : Told) × (item.message ≡ message) × (option_and_then told_in (ok_of r) ≡ Some item)
told_of_both (Err fault) message e = absurd (cc e)
told_of_both (Ok packet) message e =
    (record { source = source_of packet; message = message }, refl, ap (λ (o : Option IfmpMessage). option_map (λ (m : IfmpMessage). record { source = source_of packet; message = m }) o) e)

pub read_ifmp : (frames : List Frame) (mark : Mark) (message : IfmpMessage) → AreMade frames → ifmp_under frames mark ≡ Some message → HasTold frames mark message
read_ifmp frames mark message made e = by (payload_of frames mark) refl e
  where
    by : (o : Option (List ℕ)) → payload_of frames mark ≡ o → option_and_then ifmp_of o ≡ Some message → HasTold frames mark message
    by None is e = absurd (cc e)
    by (Some payload) is e =
        let both = told_of_both (default_unwrapped payload) message e in
        record { item = both.0; is = both.1; payload = payload; made = is; told = read_told mark payload both.0 (made mark payload is) both.2 }

gsmp_is : (r : Result GsmpMessage Fault) (message : GsmpMessage) → ok_of r ≡ Some message → r ≡ Ok message
gsmp_is (Err fault) message e = absurd (cc e)
gsmp_is (Ok other) message e = (let both : Some other ≡ Some message = e in let same : other ≡ message = cc in let answer : GsmpMessage → Result GsmpMessage Fault = λ (m : GsmpMessage). Ok m in ap answer same)

pub read_gsmp : (frames : List Frame) (mark : Mark) (message : GsmpMessage) → AreMade frames → gsmp_under frames mark ≡ Some message → HasSaid frames mark message
read_gsmp frames mark message made e = by (payload_of frames mark) refl e
  where
    by : (o : Option (List ℕ)) → payload_of frames mark ≡ o → option_and_then gsmp_of o ≡ Some message → HasSaid frames mark message
    by None is e = absurd (cc e)
    by (Some payload) is e = record { payload = payload; made = is; said = read_said mark payload message (made mark payload is) (gsmp_is (gsmp_decoded payload) message e) }

pub read_copy : (frames : List Frame) (mark : Mark) (s : Standing) → AreMade frames → copy_under frames mark ≡ Some s → (message : GsmpMessage) × (copy_of message ≡ Some s) × HasSaid frames mark message
read_copy frames mark s made e = by (gsmp_under frames mark) refl e
  where
    by : (o : Option GsmpMessage) → gsmp_under frames mark ≡ o → option_and_then copy_of o ≡ Some s → (message : GsmpMessage) × (copy_of message ≡ Some s) × HasSaid frames mark message
    by None is e = absurd (cc e)
    by (Some message) is e = (message, e, read_gsmp frames mark message made is)

-- *Under a packet's mark* there is no message
pub no_ifmp : (frames : List Frame) (mark : Mark) → AreMade frames → mark.packet ≢ 0 → ifmp_under frames mark ≡ None
no_ifmp frames mark made counted = by (ifmp_under frames mark) refl
  where
    by : (o : Option IfmpMessage) → ifmp_under frames mark ≡ o → o ≡ None
    by None is = refl
    by (Some message) is = absurd (counted (read_ifmp frames mark message made is).told.control)

pub no_gsmp : (frames : List Frame) (mark : Mark) → AreMade frames → mark.packet ≢ 0 → gsmp_under frames mark ≡ None
no_gsmp frames mark made counted = by (gsmp_under frames mark) refl
  where
    by : (o : Option GsmpMessage) → gsmp_under frames mark ≡ o → o ≡ None
    by None is = refl
    by (Some message) is = absurd (counted (read_gsmp frames mark message made is).said.control)

pub no_copy : (frames : List Frame) (mark : Mark) → AreMade frames → mark.packet ≢ 0 → copy_under frames mark ≡ None
no_copy frames mark made counted = ap (λ (o : Option GsmpMessage). option_and_then copy_of o) (no_gsmp frames mark made counted)
