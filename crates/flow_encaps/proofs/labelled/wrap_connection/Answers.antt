use Rattle.std.proofs.Common.{◌≡◌, ℕ, ◌-◌, List, ◌++◌, length, take, drop, refl, ap, ◌∙◌, arith, append_assoc}
use Rattle.std.proofs.lemmas.List.{take_all, length-drop}
use Rattle.std.specs.Int.{w16, to_be_bytes}
use Rattle.octet_fields.proofs.FieldLemmas.{length-part}
use Rattle.flow_encaps.proofs.GrowLemmas.{grown_none, grown_by}
use Rattle.flow_encaps.proofs.labelled.wrap_connection.Goals as goal

pub returns-clause-written : goal.returns-clause-written
returns-clause-written c =
    let packet = c.args.packet.now in
    let out = c.args.out.now in
    let size = length packet - 16 in
    let fields = take 6 (drop 2 packet) in
    let last : take (length packet - 24) (drop 24 packet) ≡ drop 24 packet = take_all (length packet - 24) (drop 24 packet) (rw length-drop (omega arith)) in
    let six : length fields ≡ 6 = length-part packet 2 6 (omega arith) in
    let first = grown_by out _ _ fields c.put_octets.new.octets 0 6 (grown_none out) (omega (arith, six)) c.put_octets.ensures in
    let second = grown_by out _ _ (to_be_bytes w16 c.checksum_at_ttl_zero.result) c.put_u16.new.octets 6 8 first refl c.put_u16.ensures in
    let third = grown_by out _ _ (take (length packet - 24) (drop 24 packet)) c.put_octets-2.new.octets 8 size second (rw (last, length-drop) (omega arith)) c.put_octets-2.ensures in
    third.is
    ∙ ap (λ (front : List ℕ). front ++ drop size out)
    (append_assoc fields (to_be_bytes w16 c.checksum_at_ttl_zero.result) (take (length packet - 24) (drop 24 packet))
    ∙ ap (λ (rest : List ℕ). fields ++ (to_be_bytes w16 c.checksum_at_ttl_zero.result ++ rest)) last
    ∙ ap (λ (checksum : ℕ). fields ++ (to_be_bytes w16 checksum ++ drop 24 packet)) c.checksum_at_ttl_zero.ensures)
