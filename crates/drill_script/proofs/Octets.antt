-- the octets of a packet

use Rattle.std.proofs.Common.{◌≡◌, ℕ, zero, suc, ◌+◌, ◌/◌, ◌%◌, ◌≤◌, List, [], ◌∷◌, ◌++◌, take, drop, refl, ap, ◌∙◌, arith}
use Rattle.std.proofs.lemmas.List.{drop-take}
use Rattle.std.specs.Prelude.{replicate}
use Rattle.std.specs.List.{repeat}
use Rattle.ipv4_packet.specs.Packet.{canonical}
use Rattle.script_model.specs.Drill.{packet}
use Rattle.drill_script.specs.Packets.{headers}
use Rattle.drill_script.specs.Places.{sent_packet}

zeros : (count room : ℕ) → count ≤ room → take {A = ℕ} count (replicate room 0) ≡ repeat count (0 ∷ [])
zeros zero room fits = refl
zeros (suc count) zero fits = absurd (omega arith)
zeros (suc count) (suc room) fits = ap (λ others. 0 ∷ others) (zeros count room (omega arith))

-- what is left of a buffer of zeros behind the headers
no_data : (size : ℕ) → size ≤ 63 → drop 28 (take {A = ℕ} (28 + size) (replicate 91 0)) ≡ repeat size (0 ∷ [])
no_data size fits = drop-take 28 size (replicate 91 0) ∙ zeros size 63 fits

packet-headers : (nodes identification source_port size : ℕ) → canonical (headers nodes identification source_port size ++ repeat size (0 ∷ [])) ≡ packet nodes identification source_port size
packet-headers nodes identification source_port size = refl

pub sent_packet-made : (nodes number drawn : ℕ) (made checked : List ℕ)
    → made ≡ headers nodes number (4000 + drawn / 1024 % 4) (drawn / 16 % 64) ++ drop 28 (take {A = ℕ} (28 + drawn / 16 % 64) (replicate 91 0))
    → checked ≡ canonical made → checked ≡ sent_packet nodes number drawn
unfolding sent_packet
sent_packet-made nodes number drawn made checked made_is checked_is =
    checked_is ∙ (ap canonical (made_is ∙ ap (λ rest. headers nodes number (4000 + drawn / 1024 % 4) (drawn / 16 % 64) ++ rest) (no_data (drawn / 16 % 64) (omega arith)))
    ∙ packet-headers nodes number (4000 + drawn / 1024 % 4) (drawn / 16 % 64))
