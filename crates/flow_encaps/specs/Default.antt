-- The default encapsulation of an IPv4 packet (RFC 1483 4.1)

use Rattle.std.specs.Prelude.{ℕ, List, [], ◌∷◌, ◌++◌, length, take, nat_lt, not, Option, Some, None, if◌then◌else◌}
use Rattle.std.specs.Str.{bytes_eq}
use Rattle.flow_encaps.specs.declared.default.EncapsFault.{EncapsFault}
use Rattle.flow_encaps.specs.declared.default.EncapsFault.TheVariants.{Short, BadSnap}

-- LLC AA AA 03 (a SNAP header follows), OUI 00 00 00 (an EtherType follows), EtherType 0800 (IPv4)
abbrev pub llc_snap : List ℕ
llc_snap = 0xaa ∷ 0xaa ∷ 0x03 ∷ 0 ∷ 0 ∷ 0 ∷ 0x08 ∷ 0 ∷ []

-- the payload of an AAL5 frame that carries this packet
abbrev pub default_payload : (packet : List ℕ) → List ℕ
default_payload packet = llc_snap ++ packet

-- the tests of a receiver in their order: which fails first
abbrev pub default_fault : (payload : List ℕ) → Option EncapsFault
default_fault payload =
    if nat_lt (length payload) 8 then Some Short
    else if not (bytes_eq (take 8 payload) llc_snap) then Some BadSnap
    else None
