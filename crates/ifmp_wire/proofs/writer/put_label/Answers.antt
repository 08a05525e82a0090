use Rattle.std.proofs.Common.{◌+◌, List, ℕ, [], ◌∷◌, refl, ap, ◌∙◌, arith}
use Rattle.std.specs.Int.{w16, to_be_bytes}
use Rattle.octet_fields.specs.Fields.{written}
use Rattle.octet_fields.proofs.FieldLemmas.{written_then}
use Rattle.ifmp_wire.proofs.writer.put_label.Goals as goal

pub returns : goal.returns
returns c =
    let label = c.args.label in
    c.put_u16.ensures
    ∙ ap (λ (octets : List ℕ). written octets (c.args.place + 2) (to_be_bytes w16 label.vci)) c.put_octets.ensures
    ∙ written_then c.args.place (c.args.place + 2) (0 ∷ label.vpi ∷ []) (to_be_bytes w16 label.vci) c.args.out.now refl (omega (arith, c.requires.room))
