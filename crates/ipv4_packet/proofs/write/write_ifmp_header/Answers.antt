use Rattle.std.proofs.Common.{ℕ, List, ◌++◌, ◌∙◌, ◌+◌, drop, ap, arith}
use Rattle.std.proofs.lemmas.List.{length-take-le}
use Rattle.std.specs.Int.{w16, w32, to_be_bytes}
use Rattle.octet_fields.specs.Fields.{written}
use Rattle.ipv4_packet.proofs.HeaderLemmas.{ifmp_header-written}
use Rattle.ipv4_packet.proofs.write.write_ifmp_header.Goals as goal

pub copy_from_slice-requires : goal.copy_from_slice-requires
copy_from_slice-requires c = length-take-le 12 c.args.out.now (omega arith)

pub returns : goal.returns
returns c =
    c.put_u32-2.ensures
    ∙ ap (λ (octets : List ℕ). written octets 16 (to_be_bytes w32 4294967295)) (c.put_u32.ensures
    ∙ ap (λ (octets : List ℕ). written octets 12 (to_be_bytes w32 c.args.source.0)) (c.put_u16.ensures
    ∙ ap (λ (octets : List ℕ). written (octets ++ drop 12 c.args.out.now) 2 (to_be_bytes w16 (20 + c.args.size))) c.copy_from_slice.ensures.after))
    ∙ ifmp_header-written c.args.source c.args.size c.args.out.now c.requires.room
