-- a record that has a line is told again by the line's words

use Rattle.std.proofs.Common.{◌≡◌, ℕ, ◌^◌, ◌<◌, ◌≤◌, ◌&&◌, true, length, nat_lt, Some, decimal, refl, arith}
use Rattle.std.proofs.lemmas.Bool.Decides.{nat_tests}
use Rattle.net_types.specs.declared.node.NodeId.{NodeId}
use Rattle.net_types.specs.declared.node.PortNo.{PortNo}
use Rattle.ipv4_packet.specs.declared.flow.FlowId.{FlowId}
use Rattle.ipv4_packet.specs.declared.flow.FlowId.TheVariants.{One, Two}
use Rattle.ipv4_packet.specs.Identifier.{identifier}
use Rattle.link_model.specs.declared.record.Cause.{Cause}
use Rattle.link_model.specs.declared.record.Cause.TheVariants as cause
use Rattle.link_model.specs.declared.record.DropCause.{DropCause}
use Rattle.link_model.specs.declared.record.DropCause.TheVariants as drops
use Rattle.link_model.specs.declared.record.Layer.{Layer}
use Rattle.link_model.specs.declared.record.Layer.TheVariants as layer
use Rattle.link_model.specs.declared.record.Refusal.{Refusal}
use Rattle.link_model.specs.declared.record.Refusal.TheVariants as refusal
use Rattle.link_model.specs.declared.record.Record.{Record}
use Rattle.link_model.specs.declared.record.Record.TheVariants.{Delivered, Dropped, Refused, Loss, Chance, Bad, Opened, Closed, Bind, Free, Join, Part, Forged, Routes}
use Rattle.lab_text.specs.Names.{cause_text, drop_text, layer_text, refusal_text}
use Rattle.topology.specs.world_model.Topology.{Topology}
use Rattle.topology.specs.world_model.Conditions.{IsTopology}
use Rattle.script_model.specs.Records.{has_node, has_port, is_label, has_label, HasLine, record_words}
use Rattle.script_model.specs.Texts.{name_of}
use Rattle.script_model.proofs.ReadBack.{hex_back}
use Rattle.script_model.proofs.ReadForms.{both}
use Rattle.script_model.proofs.Tokens.{IsWord, AreWords}
use Rattle.script_model.proofs.WordTexts.{decimal_word, name_word, hex_word}
use Rattle.record_text.specs.Reading.{cause_of, drop_of, layer_of, refusal_of, words_tell}
use Rattle.record_text.specs.Readable.{IsReadable}
use Rattle.record_text.proofs.Linked.{node_found}
use Rattle.record_text.proofs.WordsBack.{number_read, port_read, mark_read, mark_word, label_read, label_word, place_read, place_word, flow_read, identifier_octets}

-- *Names* of causes, layers and refusals
cause_read : (c : Cause) → cause_of (cause_text c) ≡ Some c
cause_read cause.Lost = refl
cause_read cause.Unconnected = refl
cause_read cause.PoolFull = refl
cause_read cause.Cut = refl
cause_read cause.Unbound = refl
cause_read cause.Broken = refl

cause_word : (c : Cause) → IsWord (cause_text c)
cause_word cause.Lost = (omega arith, refl)
cause_word cause.Unconnected = (omega arith, refl)
cause_word cause.PoolFull = (omega arith, refl)
cause_word cause.Cut = (omega arith, refl)
cause_word cause.Unbound = (omega arith, refl)
cause_word cause.Broken = (omega arith, refl)

drop_read : (c : DropCause) → drop_of (drop_text c) ≡ Some c
drop_read drops.NoRoute = refl
drop_read drops.Expired = refl

drop_word : (c : DropCause) → IsWord (drop_text c)
drop_word drops.NoRoute = (omega arith, refl)
drop_word drops.Expired = (omega arith, refl)

layer_read : (l : Layer) → layer_of (layer_text l) ≡ Some l
layer_read layer.Encaps = refl
layer_read layer.Packet = refl
layer_read layer.Ifmp = refl
layer_read layer.Gsmp = refl

layer_word : (l : Layer) → IsWord (layer_text l)
layer_word layer.Encaps = (omega arith, refl)
layer_word layer.Packet = (omega arith, refl)
layer_word layer.Ifmp = (omega arith, refl)
layer_word layer.Gsmp = (omega arith, refl)

refusal_read : (r : Refusal) → refusal_of (refusal_text r) ≡ Some r
refusal_read refusal.Short = refl
refusal_read refusal.Version = refl
refusal_read refusal.Options = refl
refusal_read refusal.Length = refl
refusal_read refusal.TooLong = refl
refusal_read refusal.Checksum = refl
refusal_read refusal.ControlProtocol = refl
refusal_read refusal.BadSnap = refl
refusal_read refusal.Snap = refl
refusal_read refusal.OpCode = refl
refusal_read refusal.MessageType = refl
refusal_read refusal.Result = refl
refusal_read refusal.Code = refl
refusal_read refusal.Size = refl
refusal_read refusal.FlowType = refl
refusal_read refusal.FlowLength = refl
refusal_read refusal.ZeroLifetime = refl
refusal_read refusal.LabelReserved = refl
refusal_read refusal.RangeOrder = refl
refusal_read refusal.ErrorCode = refl
refusal_read refusal.Reserved = refl
refusal_read refusal.FlowFields = refl

refusal_word : (r : Refusal) → IsWord (refusal_text r)
refusal_word refusal.Short = (omega arith, refl)
refusal_word refusal.Version = (omega arith, refl)
refusal_word refusal.Options = (omega arith, refl)
refusal_word refusal.Length = (omega arith, refl)
refusal_word refusal.TooLong = (omega arith, refl)
refusal_word refusal.Checksum = (omega arith, refl)
refusal_word refusal.ControlProtocol = (omega arith, refl)
refusal_word refusal.BadSnap = (omega arith, refl)
refusal_word refusal.Snap = (omega arith, refl)
refusal_word refusal.OpCode = (omega arith, refl)
refusal_word refusal.MessageType = (omega arith, refl)
refusal_word refusal.Result = (omega arith, refl)
refusal_word refusal.Code = (omega arith, refl)
refusal_word refusal.Size = (omega arith, refl)
refusal_word refusal.FlowType = (omega arith, refl)
refusal_word refusal.FlowLength = (omega arith, refl)
refusal_word refusal.ZeroLifetime = (omega arith, refl)
refusal_word refusal.LabelReserved = (omega arith, refl)
refusal_word refusal.RangeOrder = (omega arith, refl)
refusal_word refusal.ErrorCode = (omega arith, refl)
refusal_word refusal.Reserved = (omega arith, refl)
refusal_word refusal.FlowFields = (omega arith, refl)

-- *Ports and labels*
port_low : (topology : Topology) (node : NodeId) (port : PortNo) → has_port topology node port ≡ true
    → (has_node topology node ≡ true) × (port.0 ≤ 8)
port_low topology node port has =
    let parts = both (has_node topology node) (nat_lt 0 port.0 && nat_lt port.0 9) has in
    let bounds = both (nat_lt 0 port.0) (nat_lt port.0 9) parts.1 in
    (parts.0, grind (arith, nat_tests, bounds.1))

record Labelled (topology : Topology) (node : NodeId) (port : PortNo) (n : ℕ) : Type 0 where
  there : has_node topology node ≡ true
  low : port.0 ≤ 8
  label : is_label topology n ≡ true

labelled : (topology : Topology) (node : NodeId) (port : PortNo) (n : ℕ) → has_label topology node port n ≡ true
    → Labelled topology node port n
labelled topology node port n has =
    let parts = both (has_port topology node port) (is_label topology n) has in
    let ports = port_low topology node port parts.0 in
    record { there = ports.0; low = ports.1; label = parts.1 }

port_word : (port : PortNo) → port.0 ≤ 8 → IsWord (decimal port.0)
port_word port low = decimal_word port.0 (omega (arith, low))

small_word : (n : ℕ) → n < 2 ^ 32 → IsWord (decimal n)
small_word n few = decimal_word n (omega (arith, few))

some_identifier : (flow : FlowId) → 0 < length (identifier flow)
some_identifier (One tos ttl protocol source destination source_port destination_port) = omega arith
some_identifier (Two ttl source destination) = omega arith

-- *The words of a record's line* are words
pub spelled : (topology : Topology) (item : Record) → IsTopology topology → IsReadable topology item → HasLine topology item
    → AreWords (record_words topology item)
spelled topology (Delivered node packet octets) is can has =
    ((omega arith, refl), (name_word (name_of topology node) can.0, (small_word packet can.1, (hex_word octets has.1 can.2, tt))))
spelled topology (Dropped node packet why) is can has =
    ((omega arith, refl), (name_word (name_of topology node) can.0, (small_word packet can.1, (drop_word why, tt))))
spelled topology (Refused node packet name) is can has =
    ((omega arith, refl), (name_word (name_of topology node) can.0, (small_word packet can.1, (refusal_word name, tt))))
spelled topology (Loss mark why) is can has = ((omega arith, refl), (mark_word mark can, (cause_word why, tt)))
spelled topology (Chance mark) is can has = ((omega arith, refl), (mark_word mark can, tt))
spelled topology (Bad node part name) is can has =
    ((omega arith, refl), (name_word (name_of topology node) can, (layer_word part, (refusal_word name, tt))))
spelled topology (Opened node port) is can has =
    ((omega arith, refl), (name_word (name_of topology node) can, (port_word port (port_low topology node port has).1, tt)))
spelled topology (Closed node port) is can has =
    ((omega arith, refl), (name_word (name_of topology node) can, (port_word port (port_low topology node port has).1, tt)))
spelled topology (Bind node port vci flow) is can has =
    let l = labelled topology node port vci has.0 in
    ((omega arith, refl), (name_word (name_of topology node) can.0, (port_word port l.low, (label_word topology vci l.label, (hex_word (identifier flow) (some_identifier flow) (identifier_octets flow can.1), tt)))))
spelled topology (Free node port vci) is can has =
    let l = labelled topology node port vci has in
    ((omega arith, refl), (name_word (name_of topology node) can, (port_word port l.low, (label_word topology vci l.label, tt))))
spelled topology (Join node port vci to_port to_vci) is can has =
    let l = labelled topology node port vci has.0 in
    let to = labelled topology node to_port to_vci has.1 in
    ((omega arith, refl), (name_word (name_of topology node) can, (port_word port l.low, (label_word topology vci l.label, (port_word to_port to.low, (label_word topology to_vci to.label, tt))))))
spelled topology (Part node port vci) is can has =
    let l = labelled topology node port vci has in
    ((omega arith, refl), (name_word (name_of topology node) can, (port_word port l.low, (label_word topology vci l.label, tt))))
spelled topology (Forged place) is can has = ((omega arith, refl), (place_word topology place is has can, tt))
spelled topology (Routes node number) is can has =
    ((omega arith, refl), (name_word (name_of topology node) can.0, (small_word number can.1, tt)))

-- and tell of it again
pub told : (topology : Topology) (item : Record) → IsTopology topology → IsReadable topology item → HasLine topology item
    → words_tell topology (record_words topology item) ≡ Some item
told topology (Delivered node packet octets) is can has =
    rw (node_found topology node is has.0, number_read packet can.1, hex_back octets can.2) refl
told topology (Dropped node packet why) is can has =
    rw (node_found topology node is has, number_read packet can.1, drop_read why) refl
told topology (Refused node packet name) is can has =
    rw (node_found topology node is has, number_read packet can.1, refusal_read name) refl
told topology (Loss mark why) is can has = rw (mark_read mark can, cause_read why) refl
told topology (Chance mark) is can has = rw (mark_read mark can) refl
told topology (Bad node part name) is can has =
    rw (node_found topology node is has, layer_read part, refusal_read name) refl
told topology (Opened node port) is can has =
    let p = port_low topology node port has in
    rw (node_found topology node is p.0, port_read port p.1) refl
told topology (Closed node port) is can has =
    let p = port_low topology node port has in
    rw (node_found topology node is p.0, port_read port p.1) refl
told topology (Bind node port vci flow) is can has =
    let l = labelled topology node port vci has.0 in
    rw (
      node_found topology node is l.there,
      port_read port l.low,
      label_read topology vci l.label,
      hex_back (identifier flow) (identifier_octets flow can.1),
      flow_read flow can.1 has.1,
    ) refl
told topology (Free node port vci) is can has =
    let l = labelled topology node port vci has in
    rw (node_found topology node is l.there, port_read port l.low, label_read topology vci l.label) refl
told topology (Join node port vci to_port to_vci) is can has =
    let l = labelled topology node port vci has.0 in
    let to = labelled topology node to_port to_vci has.1 in
    rw (
      node_found topology node is l.there,
      port_read port l.low,
      label_read topology vci l.label,
      port_read to_port to.low,
      label_read topology to_vci to.label,
    ) refl
told topology (Part node port vci) is can has =
    let l = labelled topology node port vci has in
    rw (node_found topology node is l.there, port_read port l.low, label_read topology vci l.label) refl
told topology (Forged place) is can has = rw (place_read topology place is has can) refl
told topology (Routes node number) is can has =
    rw (node_found topology node is has, number_read number can.1) refl
