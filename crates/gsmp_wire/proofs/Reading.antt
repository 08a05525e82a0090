-- A message that fits is read back from its octets

use Rattle.std.proofs.Common.{◌≡◌, ℕ, ◌<◌, ◌^◌, ◌==◌, Bool, true, false, List, [], ◌∷◌, ◌++◌, length, get_or, refl, sym, ◌∙◌, ap, subst, arith, Some}
use Rattle.std.specs.Prelude.{slice_index}
use Rattle.std.specs.Int.{w16, from_be_bytes, to_be_bytes}
use Rattle.std.proofs.lemmas.List.{drop_all}
use Rattle.std.proofs.lemmas.Nat.{from_be_bytes-to_be_bytes_2, from_be_bytes-to_be_bytes_4}
use Rattle.net_types.specs.declared.adjacency.Greeting.{Greeting}
use Rattle.net_types.specs.declared.adjacency.HelloKind.{HelloKind}
use Rattle.net_types.specs.declared.adjacency.HelloKind.TheVariants.{Syn, Synack, Rstack, Ack}
use Rattle.net_types.specs.declared.channel.Channel.{Channel}
use Rattle.gsmp_wire.specs.declared.message.BranchKind.TheVariants.{Add, Delete, Verify, DeleteAll}
use Rattle.gsmp_wire.specs.declared.message.MessageType.{MessageType}
use Rattle.gsmp_wire.specs.declared.message.MessageType.TheVariants as kinds
use Rattle.gsmp_wire.specs.declared.message.Message.{Message}
use Rattle.gsmp_wire.specs.declared.message.Message.TheVariants.{Adjacency, Branch, Move, Port, AllPorts}
use Rattle.gsmp_wire.specs.declared.rows.PortRow.{PortRow}
use Rattle.gsmp_wire.specs.Fields.{hello_kind, message_in, row_in, rows_in}
use Rattle.gsmp_wire.specs.Layout.{hello_code, message_octets, octets_of, row_octets, rows_octets, state_octet, type_number}
use Rattle.gsmp_wire.specs.Range.{Fits, FitsChannel, FitsParty, FitsRow, FitsRows}
use Rattle.gsmp_wire.specs.Refusal.{type_of}
use Rattle.gsmp_wire.proofs.Places.{octet_at}

abbrev pub kind_of : Message → MessageType
kind_of (Adjacency _) = kinds.Adjacency
kind_of (Branch kind _ _ _ _ _ _ _ _ _ _) = kinds.Branch kind
kind_of (Move _ _ _ _ _ _ _ _ _ _ _ _) = kinds.Move
kind_of (Port _ _ _ _ _ _) = kinds.Port
kind_of (AllPorts _ _ _ _) = kinds.AllPorts

pub type_again : (kind : MessageType) → type_of (type_number kind) ≡ Some kind
type_again kinds.Adjacency = refl
type_again (kinds.Branch Add) = refl
type_again (kinds.Branch Delete) = refl
type_again (kinds.Branch Verify) = refl
type_again (kinds.Branch DeleteAll) = refl
type_again kinds.Move = refl
type_again kinds.Port = refl
type_again kinds.AllPorts = refl

pub type_at : (m : Message) → slice_index (octets_of m) 9 ≡ type_number (kind_of m)
type_at (Adjacency _) = refl
type_at (Branch _ _ _ _ _ _ _ _ _ _ _) = refl
type_at (Move _ _ _ _ _ _ _ _ _ _ _ _) = refl
type_at (Port _ _ _ _ _ _) = refl
type_at (AllPorts _ _ _ _) = refl

hello_kind_again : (kind : HelloKind) → hello_kind (hello_code kind) ≡ kind
hello_kind_again Syn = refl
hello_kind_again Synack = refl
hello_kind_again Ack = refl
hello_kind_again Rstack = refl

channel_again : (c : Channel) → FitsChannel c → ◌≡◌ {A = Channel} (record { vpi = from_be_bytes w16 (to_be_bytes w16 c.vpi); vci = from_be_bytes w16 (to_be_bytes w16 c.vci) }) c
channel_again c fits = λ i. record { vpi = from_be_bytes-to_be_bytes_2 c.vpi fits.vpi i; vci = from_be_bytes-to_be_bytes_2 c.vci fits.vci i }

state_again : (up : Bool) → (state_octet up == 1) ≡ up
state_again true = refl
state_again false = refl

row_again : (r : PortRow) (rest : List ℕ) → FitsRow r → row_in (row_octets r ++ rest) ≡ r
row_again r rest fits = λ i. record {
  port = from_be_bytes-to_be_bytes_4 r.port fits.port i;
  session = from_be_bytes-to_be_bytes_4 r.session fits.session i;
  up = state_again r.up i;
  least = from_be_bytes-to_be_bytes_2 r.least fits.least i;
  greatest = from_be_bytes-to_be_bytes_2 r.greatest fits.greatest i;
}

rows_again : (rows : List PortRow) → FitsRows rows → rows_in (length rows) (rows_octets rows) ≡ rows
rows_again [] fits = refl
rows_again (r ∷ rows) fits = λ i. row_again r (rows_octets rows) fits.0 i ∷ rows_again rows fits.1 i

-- a name by its six octets
pub six : (s : List ℕ) → length s ≡ 6 → get_or s 0 0 ∷ get_or s 1 0 ∷ get_or s 2 0 ∷ get_or s 3 0 ∷ get_or s 4 0 ∷ get_or s 5 0 ∷ [] ≡ s
six s size =
    octet_at 0 s _ (omega arith) (octet_at 1 s _ (omega arith) (octet_at 2 s _ (omega arith) (octet_at 3 s _ (omega arith)
    (octet_at 4 s _ (omega arith) (octet_at 5 s [] (omega arith) (sym (drop_all 6 s (omega arith))))))))

abbrev greeting : HelloKind → (sender : List ℕ) → (sender_port sender_instance : ℕ) → (receiver : List ℕ) → (receiver_port receiver_instance : ℕ) → Greeting
greeting kind sender sender_port sender_instance receiver receiver_port receiver_instance = record {
  kind = kind;
  sender = record { name = sender; port = sender_port; instance = record { 0 = sender_instance } };
  receiver = record { name = receiver; port = receiver_port; instance = record { 0 = receiver_instance } };
}

abbrev ReadAgain : HelloKind → (sender : List ℕ) → (sender_port sender_instance : ℕ) → (receiver : List ℕ) → (receiver_port receiver_instance : ℕ) → Type 0
ReadAgain kind s sp si r rp ri =
    ◌≡◌ {A = Message} (message_in kinds.Adjacency (message_octets (Adjacency (greeting kind s sp si r rp ri)))) (Adjacency (greeting kind s sp si r rp ri))

greeting_of_octets : (kind : HelloKind) (a b c d e f : ℕ) (sp si : ℕ) (u v w x y z : ℕ) (rp ri : ℕ)
    → sp < 2 ^ 32 → si < 2 ^ 32 → rp < 2 ^ 32 → ri < 2 ^ 32
    → ReadAgain kind (a ∷ b ∷ c ∷ d ∷ e ∷ f ∷ []) sp si (u ∷ v ∷ w ∷ x ∷ y ∷ z ∷ []) rp ri
greeting_of_octets kind a b c d e f sp si u v w x y z rp ri hsp hsi hrp hri = λ i.
    Adjacency (greeting (hello_kind_again kind i) (a ∷ b ∷ c ∷ d ∷ e ∷ f ∷ []) (from_be_bytes-to_be_bytes_4 sp hsp i) (from_be_bytes-to_be_bytes_4 si hsi i) (u ∷ v ∷ w ∷ x ∷ y ∷ z ∷ []) (from_be_bytes-to_be_bytes_4 rp hrp i) (from_be_bytes-to_be_bytes_4 ri hri i))

greeting_again : (g : Greeting) → FitsParty g.sender → FitsParty g.receiver → message_in kinds.Adjacency (message_octets (Adjacency g)) ≡ Adjacency g
greeting_again g s r =
    subst (λ (name : List ℕ). ReadAgain g.kind name g.sender.port g.sender.instance.0 g.receiver.name g.receiver.port g.receiver.instance.0) (six g.sender.name s.name_length)
    (subst (λ (name : List ℕ). ReadAgain g.kind (get_or g.sender.name 0 0 ∷ get_or g.sender.name 1 0 ∷ get_or g.sender.name 2 0 ∷ get_or g.sender.name 3 0 ∷ get_or g.sender.name 4 0 ∷ get_or g.sender.name 5 0 ∷ []) g.sender.port g.sender.instance.0 name g.receiver.port g.receiver.instance.0) (six g.receiver.name r.name_length)
    (greeting_of_octets g.kind _ _ _ _ _ _ g.sender.port g.sender.instance.0 _ _ _ _ _ _ g.receiver.port g.receiver.instance.0 s.port s.instance r.port r.instance))

-- a message that fits is read back from its octets
pub read_again : (m : Message) → Fits m → message_in (kind_of m) (message_octets m) ≡ m
read_again (Adjacency g) fits = greeting_again g fits.0 fits.1
read_again (Branch kind result code transaction session input_port input output_port output branches priority) fits = λ i.
    Branch kind result code (from_be_bytes-to_be_bytes_4 transaction fits.2 i) (from_be_bytes-to_be_bytes_4 session fits.3 i) (from_be_bytes-to_be_bytes_4 input_port fits.4 i) (channel_again input fits.5 i) (from_be_bytes-to_be_bytes_4 output_port fits.6 i) (channel_again output fits.7 i) (from_be_bytes-to_be_bytes_2 branches fits.8 i) priority
read_again (Move result code transaction session input_port input output_port output target_port target branches priority) fits = λ i.
    Move result code (from_be_bytes-to_be_bytes_4 transaction fits.2 i) (from_be_bytes-to_be_bytes_4 session fits.3 i) (from_be_bytes-to_be_bytes_4 input_port fits.4 i) (channel_again input fits.5 i) (from_be_bytes-to_be_bytes_4 output_port fits.6 i) (channel_again output fits.7 i) (from_be_bytes-to_be_bytes_4 target_port fits.8 i) (channel_again target fits.9 i) (from_be_bytes-to_be_bytes_2 branches fits.10 i) priority
read_again (Port result code transaction port session function) fits = λ i.
    Port result code (from_be_bytes-to_be_bytes_4 transaction fits.2 i) (from_be_bytes-to_be_bytes_4 port fits.3 i) (from_be_bytes-to_be_bytes_4 session fits.4 i) function
read_again (AllPorts result code transaction rows) fits =
    let few : length rows < 2 ^ 16 = omega (arith, fits.3) in
    let count : rows_in (from_be_bytes w16 (to_be_bytes w16 (length rows))) (rows_octets rows) ≡ rows = ap (λ (n : ℕ). rows_in n (rows_octets rows)) (from_be_bytes-to_be_bytes_2 (length rows) few) ∙ rows_again rows fits.4 in
    λ i. AllPorts result code (from_be_bytes-to_be_bytes_4 transaction fits.2 i) (count i)
