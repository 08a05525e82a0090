-- a greeting is read as it was written, whatever of the number that it expects fits its field

use Rattle.std.specs.Option.{option_map_or}
use Rattle.std.specs.Int.{w32, to_be_bytes}
use Rattle.std.proofs.Common.{◌≡◌, ℕ, ◌<◌, ◌^◌, ◌/◌, ◌%◌, List, [], ◌∷◌, Option, None, Some, refl, ◌∙◌, ap, arith}
use Rattle.world_model.specs.Words.{Addr, HelloKind, Syn, Synack, Rstack, Ack, Hello, Peer, Said, hello_of, default_payload, ifmp_packet_of, FitsMessage}
use Rattle.world_model.specs.adjacency_table.Hello.{next_in}
use Rattle.world_model.specs.ifmp_wire.Message.{octets_of as ifmp_octets, with_checksum, op_code, with_names, names_of}
use Rattle.world_model.specs.ifmp_wire.declared.message.Message.TheVariants.{Adjacency}
use Rattle.law_link_tables.specs.law_shown_cells.Label.{told_of}
use Rattle.law_link_tables.proofs.law_controller_lifts.Lifts.{readable}
use Rattle.law_link_tables.specs.law_live_waking_links.Hellos.{FitsStored, IsWritten}

-- *A number's low 32 bits* are written alike
abbrev low : ℕ → ℕ
low n = n % 2 ^ 32

byte_0 : (n : ℕ) → n % 256 ≡ low n % 256
byte_0 n = omega arith

byte_1 : (n : ℕ) → n / 256 % 256 ≡ low n / 256 % 256
byte_1 n = omega arith

byte_2 : (n : ℕ) → n / 65536 % 256 ≡ low n / 65536 % 256
byte_2 n = omega arith

byte_3 : (n : ℕ) → n / 16777216 % 256 ≡ low n / 16777216 % 256
byte_3 n = omega arith

four_are : (a b c d e f g h : ℕ) → a ≡ e → b ≡ f → c ≡ g → d ≡ h → ◌≡◌ {A = List ℕ} (a ∷ b ∷ c ∷ d ∷ []) (e ∷ f ∷ g ∷ h ∷ [])
four_are a b c d e f g h one two three four = cc

low_bits : (n : ℕ) → to_be_bytes w32 n ≡ to_be_bytes w32 (n % 2 ^ 32)
low_bits n = four_are _ _ _ _ _ _ _ _ (byte_3 n) (byte_2 n) (byte_1 n) (byte_0 n)

next_bits : (kind : HelloKind) (n : ℕ) → to_be_bytes w32 (next_in kind n) ≡ to_be_bytes w32 (next_in kind (n % 2 ^ 32))
next_bits Syn n = refl
next_bits Synack n = low_bits n
next_bits Rstack n = refl
next_bits Ack n = low_bits n

next_fits : (kind : HelloKind) (n : ℕ) → next_in kind (n % 2 ^ 32) < 2 ^ 32
next_fits Syn n = omega arith
next_fits Synack n = omega arith
next_fits Rstack n = omega arith
next_fits Ack n = omega arith

instance_fits : (stored : Option Peer) → FitsStored stored → option_map_or (λ peer. peer.instance.0) stored 0 < 2 ^ 32
instance_fits None fits = omega arith
instance_fits (Some peer) fits = fits.0

address_fits : (stored : Option Peer) → FitsStored stored → option_map_or (λ peer. peer.address.0) stored 0 < 2 ^ 32
address_fits None fits = omega arith
address_fits (Some peer) fits = fits.1

-- *As it is read*
abbrev pub as_read : (next : ℕ) → Said Peer → Hello
as_read next message = hello_of (next % 2 ^ 32) message

abbrev pub payload_of_hello : Addr → Hello → List ℕ
payload_of_hello address hello = default_payload (ifmp_packet_of address (ifmp_octets (Adjacency hello)))

same_payload : (address : Addr) (next : ℕ) (message : Said Peer) → payload_of_hello address (hello_of next message) ≡ payload_of_hello address (as_read next message)
same_payload address next message =
    let hello : Hello = hello_of next message in
    ap (λ (octets : List ℕ). default_payload (ifmp_packet_of address (with_checksum (op_code (Adjacency hello)) (with_names (names_of (Adjacency hello)) octets)))) (next_bits message.kind next)

pub is_read : (address : Addr) (next : ℕ) (message : Said Peer) → address.0 < 2 ^ 32 → IsWritten message
    → told_of (payload_of_hello address (hello_of next message)) ≡ Some (record { source = address; message = Adjacency (as_read next message) })
is_read address next message small written =
    let fits : FitsMessage (Adjacency (as_read next message)) = ((written.0.0, instance_fits message.receiver written.1, address_fits message.receiver written.1), next_fits message.kind next) in
    ap told_of (same_payload address next message) ∙ readable address (Adjacency (as_read next message)) small tt fits
