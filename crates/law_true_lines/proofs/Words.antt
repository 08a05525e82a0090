-- no word of a record's line or of a last line has an LF

use Rattle.std.proofs.Common.{◌≡◌, ℕ, zero, suc, ◌==◌, List, [], ◌∷◌, Option, None, Some, decimal, codes, refl, slice_get}
use Rattle.std.specs.Option.{option_map_or}
use Rattle.world_model.specs.Words.{NodeId, PortNo, Place, Down, Up, Out, Mark, Channel, label_channel_of, identifier, Cause, DropCause, Layer, Refusal, Record, Delivered, Dropped, Refused, Loss, Chance, Bad, Opened, Closed, Bind, Free, Part, Forged, Routes, Policy, Topology, Node, node_in, Counts}
use Rattle.world_model.specs.link_model.declared.record.Cause.TheVariants as cause
use Rattle.world_model.specs.link_model.declared.record.DropCause.TheVariants as drops
use Rattle.world_model.specs.link_model.declared.record.Layer.TheVariants as layer
use Rattle.world_model.specs.link_model.declared.record.Refusal.TheVariants as refusal
use Rattle.world_model.specs.link_model.declared.record.Record.TheVariants.{Join}
use Rattle.lab_text.specs.Names.{cause_text, drop_text, layer_text, refusal_text}
use Rattle.rule_model.specs.declared.refusal.RuleRefusal.{RuleRefusal}
use Rattle.rule_model.specs.declared.refusal.RuleRefusal.TheVariants as rules
use Rattle.rule_model.specs.Names.{rule_refusal_name}
use Rattle.script_model.specs.declared.refusal.LineRefusal.{LineRefusal}
use Rattle.script_model.specs.declared.refusal.LineRefusal.TheVariants as line
use Rattle.script_model.specs.declared.refusal.DocumentRefusal.{DocumentRefusal}
use Rattle.script_model.specs.declared.refusal.DocumentRefusal.TheVariants as document
use Rattle.script_model.specs.declared.refusal.Refused.{Refused as RefusedScript}
use Rattle.script_model.specs.declared.refusal.Refused.TheVariants as refused
use Rattle.script_model.specs.Names.{refusal_name, document_refusal_name}
use Rattle.script_model.specs.Records.{record_words, record_line}
use Rattle.script_model.specs.Reports.{end_line, end_words, refused_line, refused_words, last_line_by, last_line, counts_after}
use Rattle.script_model.specs.Sayable.{IsName}
use Rattle.script_model.specs.Script.{Script}
use Rattle.script_model.specs.Texts.{name_of, port_text, label_text, mark_text, place_text, channel_text}
use Rattle.script_model.proofs.Numbers.{lacks_sign}
use Rattle.script_model.proofs.ReadBack.{name_octets}
use Rattle.lab_text.specs.Forms.{is_name_octet}
use Rattle.law_true_lines.specs.Law.{HasNames}
use Rattle.law_true_lines.proofs.Texts.{IsText, AreTexts, IsLine, on_both, text_join, text_more, decimal_text, hex_digits_text, line_is}

-- *Names* of causes, layers and refusals
cause_is : (c : Cause) → IsText (cause_text c)
cause_is cause.Lost = refl
cause_is cause.Unconnected = refl
cause_is cause.PoolFull = refl
cause_is cause.Cut = refl
cause_is cause.Unbound = refl
cause_is cause.Broken = refl

drop_is : (c : DropCause) → IsText (drop_text c)
drop_is drops.NoRoute = refl
drop_is drops.Expired = refl

layer_is : (l : Layer) → IsText (layer_text l)
layer_is layer.Encaps = refl
layer_is layer.Packet = refl
layer_is layer.Ifmp = refl
layer_is layer.Gsmp = refl

refusal_is : (r : Refusal) → IsText (refusal_text r)
refusal_is refusal.Short = refl
refusal_is refusal.Version = refl
refusal_is refusal.Options = refl
refusal_is refusal.Length = refl
refusal_is refusal.TooLong = refl
refusal_is refusal.Checksum = refl
refusal_is refusal.ControlProtocol = refl
refusal_is refusal.BadSnap = refl
refusal_is refusal.Snap = refl
refusal_is refusal.OpCode = refl
refusal_is refusal.MessageType = refl
refusal_is refusal.Result = refl
refusal_is refusal.Code = refl
refusal_is refusal.Size = refl
refusal_is refusal.FlowType = refl
refusal_is refusal.FlowLength = refl
refusal_is refusal.ZeroLifetime = refl
refusal_is refusal.LabelReserved = refl
refusal_is refusal.RangeOrder = refl
refusal_is refusal.ErrorCode = refl
refusal_is refusal.Reserved = refl
refusal_is refusal.FlowFields = refl

line_refusal_is : (r : LineRefusal) → IsText (refusal_name r)
line_refusal_is line.ScriptTooLong = refl
line_refusal_is line.LineTooLong = refl
line_refusal_is line.BadByte = refl
line_refusal_is line.UnknownWord = refl
line_refusal_is line.Arity = refl
line_refusal_is line.BadName = refl
line_refusal_is line.BadNumber = refl
line_refusal_is line.BadAddress = refl
line_refusal_is line.BadPrefix = refl
line_refusal_is line.BadPlace = refl
line_refusal_is line.BadChannel = refl
line_refusal_is line.BadHex = refl
line_refusal_is line.BadLength = refl
line_refusal_is line.Late = refl
line_refusal_is line.DuplicateName = refl
line_refusal_is line.UnknownName = refl
line_refusal_is line.SelfLink = refl
line_refusal_is line.PortTaken = refl
line_refusal_is line.NoLink = refl
line_refusal_is line.Duplicate = refl
line_refusal_is line.TableFull = refl
line_refusal_is line.NoPrefix = refl
line_refusal_is line.TooMany = refl

rule_refusal_is : (r : RuleRefusal) → IsText (rule_refusal_name r)
rule_refusal_is rules.LineTooLong = refl
rule_refusal_is rules.BadByte = refl
rule_refusal_is rules.UnknownWord = refl
rule_refusal_is rules.Arity = refl
rule_refusal_is rules.BadPrefix = refl
rule_refusal_is rules.BadPorts = refl
rule_refusal_is rules.BadNumber = refl
rule_refusal_is rules.TooManyRules = refl

document_refusal_is : (r : DocumentRefusal) → IsText (document_refusal_name r)
document_refusal_is document.ScriptTooLong = refl
document_refusal_is document.Toml = refl

-- *Nodes, ports, labels, marks*
name_text : (name : List ℕ) → IsName name → IsText name
name_text name is = lacks_sign is_name_octet 10 refl name (name_octets name is)

channel_is : (channel : Channel) → IsText (channel_text channel)
channel_is channel = text_join (decimal channel.vpi) (47 ∷ decimal channel.vci) (decimal_text channel.vpi) (text_more 47 (decimal channel.vci) refl (decimal_text channel.vci))

label_is : (topology : Topology) (label : ℕ) → IsText (label_text topology label)
label_is topology label = on_both IsText (topology.version == 2) (channel_text (label_channel_of label)) (decimal label) (channel_is (label_channel_of label)) (decimal_text label)

mark_is : (mark : Mark) → IsText (mark_text mark)
mark_is mark = text_join (decimal mark.packet) (46 ∷ decimal mark.frame) (decimal_text mark.packet) (text_more 46 (decimal mark.frame) refl (decimal_text mark.frame))

port_is : (port : PortNo) → IsText (port_text port)
port_is port = decimal_text port.0

module _ (topology : Topology) (names : HasNames topology) where
  node_is : (node : NodeId) → IsText (name_of topology node)
  node_is node = by node.0
    where
      found : (place : ℕ) (o : Option Node) → slice_get topology.nodes place ≡ o → IsText (option_map_or (λ (f : Node). f.name) o [])
      found place None e = refl
      found place (Some own) e = name_text own.name (names place own e)

      by : (number : ℕ) → IsText (option_map_or (λ (f : Node). f.name) (node_in topology.nodes number) [])
      by zero = refl
      by (suc place) = found place (slice_get topology.nodes place) refl

  place_is : (place : Place) → IsText (place_text topology place)
  place_is (Down node) = text_join (name_of topology node) (codes ":c") (node_is node) refl
  place_is (Up node) = text_join (name_of topology node) (codes ":0") (node_is node) refl
  place_is (Out node port) = text_join (name_of topology node) (58 ∷ port_text port) (node_is node) (text_more 58 (port_text port) refl (port_is port))

  words_are : (item : Record) → AreTexts (record_words topology item)
  words_are (Delivered node packet octets) = (refl, (node_is node, (decimal_text packet, (hex_digits_text octets, tt))))
  words_are (Dropped node packet cause) = (refl, (node_is node, (decimal_text packet, (drop_is cause, tt))))
  words_are (Refused node packet name) = (refl, (node_is node, (decimal_text packet, (refusal_is name, tt))))
  words_are (Loss mark cause) = (refl, (mark_is mark, (cause_is cause, tt)))
  words_are (Chance mark) = (refl, (mark_is mark, tt))
  words_are (Bad node layer name) = (refl, (node_is node, (layer_is layer, (refusal_is name, tt))))
  words_are (Opened node port) = (refl, (node_is node, (port_is port, tt)))
  words_are (Closed node port) = (refl, (node_is node, (port_is port, tt)))
  words_are (Bind node port vci flow) = (refl, (node_is node, (port_is port, (label_is topology vci, (hex_digits_text (identifier flow), tt)))))
  words_are (Free node port vci) = (refl, (node_is node, (port_is port, (label_is topology vci, tt))))
  words_are (Join node port vci to_port to_vci) = (refl, (node_is node, (port_is port, (label_is topology vci, (port_is to_port, (label_is topology to_vci, tt))))))
  words_are (Part node port vci) = (refl, (node_is node, (port_is port, (label_is topology vci, tt))))
  words_are (Forged place) = (refl, (place_is place, tt))
  words_are (Routes node number) = (refl, (node_is node, (decimal_text number, tt)))

  pub record_is : (item : Record) → IsLine (record_line topology item)
  record_is item = line_is (record_words topology item) (words_are item)

-- *The last line*
end_is : (event_lines : ℕ) (counts : Counts) → IsLine (end_line event_lines counts)
end_is event_lines counts = line_is (end_words event_lines counts)
    (refl, (refl, (decimal_text event_lines, (refl, (decimal_text counts.sent, (refl, (decimal_text counts.delivered, (refl, (decimal_text counts.dropped, (refl, (decimal_text counts.refused, (refl, (decimal_text counts.losses, (refl, (decimal_text counts.redirects, (refl, (decimal_text counts.switched, (refl, (decimal_text counts.chance, tt)))))))))))))))))))

refused_is : (r : RefusedScript) → IsLine (refused_line r)
refused_is (refused.Line number name) = line_is (refused_words (refused.Line number name)) (refl, (decimal_text number, (line_refusal_is name, tt)))
refused_is (refused.Rule number name) = line_is (refused_words (refused.Rule number name)) (refl, (decimal_text number, (rule_refusal_is name, tt)))
refused_is (refused.Document name) = line_is (refused_words (refused.Document name)) (refl, (decimal_text 0, (document_refusal_is name, tt)))

pub last_is : (policy : Policy) (script : Script) → IsLine (last_line policy script)
last_is policy script = by script.refused
  where
    by : (o : Option RefusedScript) → IsLine (last_line_by (end_line script.event_lines (counts_after policy script)) o)
    by None = end_is script.event_lines (counts_after policy script)
    by (Some r) = refused_is r
