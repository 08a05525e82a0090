-- what is read in a frame that was said is what was said of it

use Rattle.std.proofs.Common.{◌≡◌, ℕ, ◌<◌, ◌^◌, List, ◌∷◌, ◌++◌, Result, Ok, refl, sym, ◌∙◌, ap}
use Rattle.std.specs.Prelude.{drop, take, slice_index_or}
use Rattle.std.proofs.lemmas.Nat.{from_be_bytes-to_be_bytes_4}
use Rattle.std.specs.Int.{w16, w32, to_be_bytes, from_be_bytes}
use Rattle.world_model.specs.Words.{Addr, Channel, Instance, Mark, HelloKind, Syn, Synack, Rstack, Ack, FlowId, IsFlow, kind_of, FitsFields, identifier, Redirect, Reclaim, ReclaimAck, LabelRange, Error, names_of, op_code, hello_code, flow_type, flow_words, flow_octets, label_octets, with_checksum, with_names, FitsMessage, InRange, ifmp_packet_of}
use Rattle.world_model.specs.ifmp_wire.declared.message.Message.{Message}
use Rattle.world_model.specs.ifmp_wire.declared.message.Message.TheVariants.{Adjacency}
use Rattle.world_model.specs.ifmp_wire.Message.{octets_of}
use Rattle.world_model.specs.ifmp_wire.Fields.{decoded}
use Rattle.law_frame_readings.proofs.law_wire.Packets.{message_is}
use Rattle.law_frame_readings.specs.law_controller_views.Lifted.{payload_by}
use Rattle.law_frame_readings.specs.law_shown_cells.Label.{Told}
use Rattle.law_frame_readings.specs.Reading.{FramesAreRead, IsToldAs}

pub same_octets : (address source : Addr) (said heard : Message) → payload_by address said ≡ payload_by source heard → octets_of said ≡ octets_of heard
same_octets address source said heard e = sym (message_is address (octets_of said)) ∙ (ap (λ (p : List ℕ). drop 20 (drop 8 p)) e ∙ message_is source (octets_of heard))

pub op_same : (said heard : Message) → octets_of said ≡ octets_of heard → op_code said ≡ op_code heard
op_same said heard e = ap (λ (xs : List ℕ). slice_index_or xs 1 0) e

pub sender_same : (said heard : Message) → octets_of said ≡ octets_of heard → (names_of said).sender.0 < 2 ^ 32 → (names_of heard).sender.0 < 2 ^ 32 → (names_of said).sender.0 ≡ (names_of heard).sender.0
sender_same said heard e low high = sym (from_be_bytes-to_be_bytes_4 (names_of said).sender.0 low)
    ∙ (ap (λ (xs : List ℕ). from_be_bytes w32 (take 4 (drop 4 xs))) e ∙ from_be_bytes-to_be_bytes_4 (names_of heard).sender.0 high)

pub sender_fits : (m : Message) → FitsMessage m → (names_of m).sender.0 < 2 ^ 32
sender_fits (Adjacency hello) fits = fits.0.0
sender_fits (Redirect sender peer number lifetime channel flow) fits = fits.0.0
sender_fits (Reclaim sender peer number channel flow) fits = fits.0.0
sender_fits (ReclaimAck sender peer number channel flow) fits = fits.0.0
sender_fits (LabelRange sender peer number least greatest) fits = fits.0.0
sender_fits (Error sender peer number code channel) fits = fits.0.0

-- *Only a REDIRECT* has its code
abbrev pub IsRedirectMessage : Message → Type 0
IsRedirectMessage (Redirect sender peer number lifetime channel flow) = Unit {0}
IsRedirectMessage message = ⊥

pub redirect_is : (said : Message) → op_code said ≡ 4 → IsRedirectMessage said
redirect_is (Adjacency hello) e = kind hello.kind e
  where
    kind : (k : HelloKind) → hello_code k ≡ 4 → ⊥
    kind Syn f = cc f
    kind Synack f = cc f
    kind Rstack f = cc f
    kind Ack f = cc f
redirect_is (Redirect sender peer number lifetime channel flow) e = tt
redirect_is (Reclaim sender peer number channel flow) e = absurd (cc e)
redirect_is (ReclaimAck sender peer number channel flow) e = absurd (cc e)
redirect_is (LabelRange sender peer number least greatest) e = absurd (cc e)
redirect_is (Error sender peer number code channel) e = absurd (cc e)

ok_is : {A F : Type 0} (x y : A) (r : Result A F) → r ≡ Ok x → r ≡ Ok y → x ≡ y
ok_is x y r e f = cc (sym e ∙ f)

pub record SameRedirect (channel heard_channel : Channel) (flow heard_flow : FlowId) : Type 0 where
  pub channel_is : channel ≡ heard_channel
  pub flow_is : flow ≡ heard_flow

pub redirect_same : (read : FramesAreRead) (source : Addr) (s p : Instance) (n l : ℕ) (channel : Channel) (flow : FlowId) (s2 p2 : Instance) (n2 l2 : ℕ) (channel2 : Channel) (flow2 : FlowId)
    → source.0 < 2 ^ 32 → octets_of (Redirect s p n l channel flow) ≡ octets_of (Redirect s2 p2 n2 l2 channel2 flow2)
    → channel.vpi < 2 ^ 8 → channel.vci < 2 ^ 16 → FitsFields flow → IsFlow flow
    → FitsMessage (Redirect s2 p2 n2 l2 channel2 flow2) → InRange (Redirect s2 p2 n2 l2 channel2 flow2) → SameRedirect channel channel2 flow flow2
redirect_same read source s p n l channel flow s2 p2 n2 l2 channel2 flow2 source_fits e vpi vci fits is_flow fits2 in_range =
    parts (ok_is (Redirect s2 p2 n2 l2 channel flow) (Redirect s2 p2 n2 l2 channel2 flow2) (decoded (drop 20 (ifmp_packet_of source (octets_of (Redirect s2 p2 n2 l2 channel flow))))) (reads first_told)
    (ap (λ (o : List ℕ). decoded (drop 20 (ifmp_packet_of source o))) octets_same ∙ reads second_told))
  where
    first : Message
    first = Redirect s2 p2 n2 l2 channel flow

    second : Message
    second = Redirect s2 p2 n2 l2 channel2 flow2

    mark : Mark
    mark = record { packet = 0; frame = 0 }

    first_told : IsToldAs mark (payload_by source (Redirect s2 p2 n2 l2 channel flow)) (record { source = source; message = Redirect s2 p2 n2 l2 channel flow })
    first_told = record { control = refl; source = source_fits; in_range = (in_range.0, vpi, is_flow); fits = (fits2.0, fits2.1, vci, fits); filled = refl }

    second_told : IsToldAs mark (payload_by source (Redirect s2 p2 n2 l2 channel2 flow2)) (record { source = source; message = Redirect s2 p2 n2 l2 channel2 flow2 })
    second_told = record { control = refl; source = source_fits; in_range = in_range; fits = fits2; filled = refl }

    reads : {payload : List ℕ} {item : Told} → IsToldAs mark payload item → decoded (drop 20 (ifmp_packet_of item.source (octets_of item.message))) ≡ Ok item.message
    reads {payload} {item} told = (read.heard mark payload item told).message

    rests : flow_octets l channel flow ≡ flow_octets l2 channel2 flow2
    rests = ap (λ (xs : List ℕ). drop 16 xs) e

    tails : label_octets channel ++ identifier flow ≡ label_octets channel2 ++ identifier flow2
    tails = ap (λ (xs : List ℕ). drop 4 xs) rests

    octets_same : octets_of (Redirect s2 p2 n2 l2 channel flow) ≡ octets_of (Redirect s2 p2 n2 l2 channel2 flow2)
    octets_same = ap (λ (rest : List ℕ). with_checksum 4 (with_names (names_of (Redirect s2 p2 n2 l2 channel2 flow2)) rest))
        (ap (λ (k : ℕ). k ∷ flow_words (kind_of flow) ∷ (to_be_bytes w16 l2 ++ (label_octets channel ++ identifier flow))) (ap (λ (xs : List ℕ). slice_index_or xs 0 0) rests)
        ∙ (ap (λ (k : ℕ). flow_type (kind_of flow2) ∷ k ∷ (to_be_bytes w16 l2 ++ (label_octets channel ++ identifier flow))) (ap (λ (xs : List ℕ). slice_index_or xs 1 0) rests)
        ∙ ap (λ (t : List ℕ). flow_type (kind_of flow2) ∷ flow_words (kind_of flow2) ∷ (to_be_bytes w16 l2 ++ t)) tails))

    parts : Redirect s2 p2 n2 l2 channel flow ≡ Redirect s2 p2 n2 l2 channel2 flow2 → SameRedirect channel channel2 flow flow2
    parts f = record { channel_is = cc f; flow_is = cc f }
