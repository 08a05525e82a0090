use Rattle.std.proofs.Common.{◌≡◌, ◌∙◌, List, ℕ, length, ap, rules}
use Rattle.std.specs.Int.{w32, to_be_bytes}
use Rattle.octet_fields.specs.Fields.{written}
use Rattle.gsmp_wire.proofs.Writing.{greeting_written}
use Rattle.gsmp_wire.proofs.write.greeting_octets.Goals as goal

pub returns : goal.returns
returns c =
    let sender = c.args.greeting.now.sender in
    let receiver = c.args.greeting.now.receiver in
    let sender_size : length c.args.greeting.now.sender.name ≡ 6 = search rules in
    let receiver_size : length c.args.greeting.now.receiver.name ≡ 6 = search rules in
    c.put_u32-4.ensures ∙ ap (λ (octets : List ℕ). written octets 24 (to_be_bytes w32 receiver.instance.0))
    (c.put_u32-3.ensures ∙ ap (λ (octets : List ℕ). written octets 20 (to_be_bytes w32 sender.instance.0))
    (c.put_u32-2.ensures ∙ ap (λ (octets : List ℕ). written octets 16 (to_be_bytes w32 receiver.port))
    (c.put_u32.ensures ∙ ap (λ (octets : List ℕ). written octets 12 (to_be_bytes w32 sender.port))
    (c.put_octets-2.ensures ∙ ap (λ (octets : List ℕ). written octets 6 receiver.name) c.put_octets.ensures))))
    ∙ greeting_written sender.name receiver.name sender.port receiver.port sender.instance.0 receiver.instance.0 sender_size receiver_size
