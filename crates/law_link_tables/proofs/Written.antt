-- a greeting whose numbers can be written is written in 32 bits each

use Rattle.std.proofs.Common.{◌≡◌, ℕ, ◌<◌, ◌%◌, ◌/◌, ◌^◌, List, ◌∷◌, [], Option, None, Some, refl, sym, ◌∙◌, ap, subst, arith}
use Rattle.std.specs.Int.{w32, to_be_bytes}
use Rattle.world_model.specs.Words.{Addr, HelloKind, Syn, Synack, Rstack, Ack, Peer, Said, Mark, Frame, FitsMessage, hello_of, hello_code, ifmp_packet_of, default_payload, with_checksum}
use Rattle.world_model.specs.adjacency_table.Hello.{next_in}
use Rattle.world_model.specs.ifmp_wire.Message.{octets_of as ifmp_octets, names_of, with_names}
use Rattle.world_model.specs.ifmp_wire.declared.message.Message.TheVariants.{Adjacency}
use Rattle.law_live_woken_links.specs.law_live_waking_links.Hellos.{Greets, FitsStored, IsWritten}

-- *What is beyond 32 bits* is dropped
kept : (n : ℕ) → n % 4294967296 < 4294967296
kept n = omega arith

four : (a b c d e f g h : ℕ) → a ≡ e → b ≡ f → c ≡ g → d ≡ h → a ∷ b ∷ c ∷ d ∷ [] ≡ e ∷ f ∷ g ∷ h ∷ []
four a b c d e f g h p q r s = cc

dropped : (n : ℕ) → to_be_bytes w32 (n % 4294967296) ≡ to_be_bytes w32 n
dropped n = four (n % 4294967296 / 16777216 % 256) (n % 4294967296 / 65536 % 256) (n % 4294967296 / 256 % 256) (n % 4294967296 % 256) (n / 16777216 % 256) (n / 65536 % 256) (n / 256 % 256) (n % 256)
    (omega arith) (omega arith) (omega arith) (omega arith)

next_dropped : (kind : HelloKind) (n : ℕ) → to_be_bytes w32 (next_in kind (n % 4294967296)) ≡ to_be_bytes w32 (next_in kind n)
next_dropped Syn n = refl
next_dropped Synack n = dropped n
next_dropped Rstack n = refl
next_dropped Ack n = dropped n

next_kept : (kind : HelloKind) (n : ℕ) → next_in kind (n % 4294967296) < 4294967296
next_kept Syn n = omega arith
next_kept Synack n = kept n
next_kept Rstack n = omega arith
next_kept Ack n = kept n

same_octets : (n : ℕ) (message : Said Peer) → ifmp_octets (Adjacency (hello_of (n % 4294967296) message)) ≡ ifmp_octets (Adjacency (hello_of n message))
same_octets n message = ap (λ (rest : List ℕ). with_checksum (hello_code message.kind) (with_names (names_of (Adjacency (hello_of n message))) rest)) (next_dropped message.kind n)

-- *The same frame* says it with a number of 32 bits
pub record Written (address : Addr) (frames : List Frame) (mark : Mark) (message : Said Peer) : Type 0 where
  pub greets : Greets address frames mark message
  pub low : address.0 < 2 ^ 32
  pub fits : FitsMessage (Adjacency (hello_of greets.next message))

pub written : (address : Addr) (frames : List Frame) (mark : Mark) (message : Said Peer) → Greets address frames mark message → IsWritten message → Written address frames mark message
written address frames mark message g fits = record {
  greets = record {
    next = g.next % 4294967296;
    sender = g.sender;
    says = g.says ∙ ap (λ (octets : List ℕ). Some (default_payload (ifmp_packet_of address octets))) (sym (same_octets g.next message));
  };
  low = subst (λ (from : Addr). from.0 < 2 ^ 32) g.sender fits.0.1;
  fits = by message.receiver fits.1;
}
  where
    by : (receiver : Option Peer) → FitsStored receiver → FitsMessage (Adjacency (hello_of (g.next % 4294967296) (record message { receiver = receiver })))
    by None stored = ((fits.0.0, omega arith, omega arith), next_kept message.kind g.next)
    by (Some peer) stored = ((fits.0.0, stored.0, stored.1), next_kept message.kind g.next)
