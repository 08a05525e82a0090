use Rattle.std.proofs.Common.{◌≡◌, ℕ, ◌-◌, List, [], ◌∷◌, ◌++◌, length, take, drop, get_or, refl, ap, ◌∙◌, arith, append_assoc}
use Rattle.std.proofs.lemmas.List.{take_all, length-drop}
use Rattle.std.specs.Int.{w16, to_be_bytes}
use Rattle.octet_fields.proofs.FieldLemmas.{length-part}
use Rattle.flow_encaps.proofs.GrowLemmas.{grown_none, grown_by}
use Rattle.flow_encaps.proofs.labelled.wrap_hosts.Goals as goal

pub returns-clause-written : goal.returns-clause-written
returns-clause-written c =
    let packet = c.args.packet.now in
    let out = c.args.out.now in
    let size = length packet - 8 in
    let fields = take 6 (drop 2 packet) in
    let rest = take (length packet - 20) (drop 20 packet) in
    let last : rest ≡ drop 20 packet = take_all (length packet - 20) (drop 20 packet) (rw length-drop (omega arith)) in
    let six : length fields ≡ 6 = length-part packet 2 6 (omega arith) in
    let first = grown_by out _ _ (0 ∷ get_or packet 1 0 ∷ []) c.put_octets.new.octets 0 2 (grown_none out) refl c.put_octets.ensures in
    let second = grown_by out _ _ fields c.put_octets-2.new.octets 2 8 first (omega (arith, six)) c.put_octets-2.ensures in
    let third = grown_by out _ _ (0 ∷ get_or packet 9 0 ∷ []) c.put_octets-3.new.octets 8 10 second refl c.put_octets-3.ensures in
    let fourth = grown_by out _ _ (to_be_bytes w16 c.checksum_at_ttl_zero.result) c.put_u16.new.octets 10 12 third refl c.put_u16.ensures in
    let fifth = grown_by out _ _ rest c.put_octets-4.new.octets 12 size fourth (rw (last, length-drop) (omega arith)) c.put_octets-4.ensures in
    let joined : ((fields ++ 0 ∷ get_or packet 9 0 ∷ []) ++ to_be_bytes w16 c.checksum_at_ttl_zero.result) ++ rest ≡ fields ++ (0 ∷ get_or packet 9 0 ∷ (to_be_bytes w16 c.checksum_at_ttl_zero.result ++ rest)) = simp append_assoc in
    fifth.is
    ∙ ap (λ (front : List ℕ). 0 ∷ get_or packet 1 0 ∷ (front ++ drop size out))
    (joined
    ∙ ap (λ (tail : List ℕ). fields ++ (0 ∷ get_or packet 9 0 ∷ (to_be_bytes w16 c.checksum_at_ttl_zero.result ++ tail))) last
    ∙ ap (λ (checksum : ℕ). fields ++ (0 ∷ get_or packet 9 0 ∷ (to_be_bytes w16 checksum ++ drop 20 packet))) c.checksum_at_ttl_zero.ensures)
