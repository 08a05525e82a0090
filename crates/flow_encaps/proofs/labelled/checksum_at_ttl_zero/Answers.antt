use Rattle.std.proofs.Common.{ℕ, ◌-◌, List, ap, ◌∙◌}
use Rattle.std.proofs.Math.ListN.{set}
use Rattle.std.specs.Int.{w16, to_be_bytes}
use Rattle.octet_fields.specs.Fields.{written}
use Rattle.ipv4_packet.specs.Packet.{internet_sum_of}
use Rattle.flow_encaps.proofs.AnswerLemmas.{checksum_at_ttl_zero-taken}
use Rattle.flow_encaps.proofs.labelled.checksum_at_ttl_zero.Goals as goal

pub returns : goal.returns
returns c =
    ap (λ (sum : ℕ). 65535 - sum) (c.internet_sum.ensures
    ∙ ap internet_sum_of (c.put_u16.ensures ∙ ap (λ (octets : List ℕ). written (set octets 8 0) 10 (to_be_bytes w16 0)) c.copy_from_slice.ensures.after))
    ∙ checksum_at_ttl_zero-taken c.args.packet.now c.requires
