-- a message is read as it was written, and told

use Rattle.std.proofs.Common.{ℕ, Bool, List, drop, refl, ◌∙◌, ap, if◌then◌else◌}
use Rattle.world_model.specs.Words.{Addr, ifmp_packet_of, default_payload, hears, at_port, forwards_packet, ifmp_holds, counted_at, packet_holds, default_holds, gsmp_holds, frame_read}
use Rattle.world_model.specs.ifmp_wire.Message.{octets_of as ifmp_octets}
use Rattle.world_model.specs.ifmp_wire.Fields.{decoded as ifmp_decoded}
use Rattle.law_frame_readings.specs.law_shown_cells.Label.{Told}
use Rattle.law_frame_readings.specs.Reading.{IsToldAs, IsHeardAs}
use Rattle.law_frame_readings.proofs.Packets.{is_heard}
use Rattle.law_frame_readings.proofs.law_wire.Packets.{unwrapped_again}
use Rattle.law_frame_readings.proofs.law_wire.Gsmp.{read_back}
use Rattle.law_live_messages.specs.Law.{PortsHear, ControllersAreTold, SwitchesAreTold}

pub ports_hear : PortsHear
ports_hear a linked mark source message low range fits =
    let packet : List ℕ = ifmp_packet_of source (ifmp_octets message) in
    let item : Told = record { source = source; message = message } in
    let told : IsToldAs (record { packet = 0; frame = 0 }) (default_payload packet) item =
    record { control = refl; source = low; in_range = range; fits = fits; filled = refl } in
    let heard : IsHeardAs packet item = is_heard (record { packet = 0; frame = 0 }) (default_payload packet) item told in
    ap (λ r. default_holds a linked.setup.port mark r) (unwrapped_again packet)
    ∙ (ap (λ o. packet_holds a linked.setup.port mark packet o) heard.whole
    ∙ (ap (λ (b : Bool). if b then ifmp_holds a linked.setup.port packet (ifmp_decoded (drop 20 packet)) else counted_at (forwards_packet a mark packet) linked.setup.port packet) heard.control
    ∙ (ap (λ r. ifmp_holds a linked.setup.port packet r) heard.message
    ∙ ap (λ (from : Addr). at_port a linked.setup.port (λ setup desk w. hears setup desk w from message)) heard.source)))

pub controllers_are_told : ControllersAreTold
controllers_are_told a mark message range = ap (λ r. gsmp_holds a r) (read_back message range)

pub switches_are_told : SwitchesAreTold
switches_are_told a message range = ap (λ r. frame_read a r) (read_back message range)
