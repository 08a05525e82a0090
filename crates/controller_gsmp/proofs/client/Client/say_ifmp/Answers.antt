use Rattle.std.proofs.Common.{◌≡◌, ℕ, ◌++◌, List, length, take, ap, sym, ◌∙◌, arith}
use Rattle.std.proofs.lemmas.Result.{on_ok_weaker}
use Rattle.net_types.specs.declared.prefix.Addr.{Addr}
use Rattle.ipv4_packet.specs.Packet.{ifmp_packet_of}
use Rattle.ipv4_packet.proofs.MessageLemmas.{length-ifmp_packet_of, take-front}
use Rattle.flow_encaps.specs.Default.{default_payload}
use Rattle.ifmp_wire.specs.Message.{octets_of}
use Rattle.world_model.specs.Controller.{Acted, default_home}
use Rattle.world_model.specs.Sending.{sends_control}
use Rattle.world_model.specs.port_model.Setup.{home_of}
use Rattle.controller_gsmp.specs.Client.{acted}
use Rattle.controller_gsmp.proofs.client.Client.say_ifmp.Goals as goal

front : (xs rest out : List ℕ) (n : ℕ) → out ≡ xs ++ rest → length xs ≡ n → take n out ≡ xs
front xs rest out n written long = rw written (take-front xs rest n long)

pub returns-clause-acted : goal.returns-clause-acted
returns-clause-acted c = λ r node source.
    let octets = octets_of c.args.message.now in
    let message : take c.encode-len.result c.encode-len.new.out ≡ octets = front octets _ c.encode-len.new.out c.encode-len.result c.encode-len.ensures.written (sym c.encode-len.ensures.len) in
    let octets' = take c.encode-len.result c.encode-len.new.out in
    let packet' = take c.ifmp_packet-len.result c.ifmp_packet-len.new.out in
    let packet : take c.ifmp_packet-len.result c.ifmp_packet-len.new.out ≡ ifmp_packet_of c.args.source octets =
    front (ifmp_packet_of c.args.source octets') _ c.ifmp_packet-len.new.out c.ifmp_packet-len.result c.ifmp_packet-len.ensures.written (length-ifmp_packet_of c.args.source octets' ∙ sym c.ifmp_packet-len.ensures.len) ∙ ap (ifmp_packet_of c.args.source) message in
    let payload : take c.wrap_default-len.result c.wrap_default-len.new.out ≡ default_payload (ifmp_packet_of c.args.source octets) =
    front (default_payload packet') _ c.wrap_default-len.new.out c.wrap_default-len.result c.wrap_default-len.ensures.written (omega (arith, c.wrap_default-len.ensures.len)) ∙ ap default_payload packet in
    let channel : c.home_of.result.channel ≡ (default_home c.args.port).channel = ap (λ end. end.channel) (c.home_of.ensures ∙ ap home_of c.default_end.ensures) in
    let before : Acted = acted r c.args.self.now c.args.notes.now c.args.numbers.now in
    on_ok_weaker c.send_control.result
    (λ e. e ∙ (λ i. sends_control before (channel i) (payload i)) ∙ ap (λ (a : Addr). sends_control before (default_home c.args.port).channel (default_payload (ifmp_packet_of a octets))) (sym source))
    (c.send_control.ensures.acted r node)
