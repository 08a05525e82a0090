-- The forms of a line's words, and how each is refused. The language is this project's own.

use Rattle.std.specs.Prelude.{ℕ, Bool, true, ◌&&◌, nat_lt, List, [], ◌∷◌, length, codes, bytes_eq, Option, None, Some, Result, Ok, Err, if◌then◌else◌}
use Rattle.std.specs.Option.{option_map, option_and_then, ok_or}
use Rattle.net_types.specs.declared.prefix.Addr.{Addr}
use Rattle.net_types.specs.declared.node.PortNo.{PortNo}
use Rattle.net_types.specs.declared.channel.Channel.{Channel}
use Rattle.net_types.specs.Prefix.{Network}
use Rattle.net_types.specs.Label.{label_number_of}
use Rattle.rule_model.specs.lab_text.Numeral.{hex_octets}
use Rattle.rule_model.specs.lab_text.Forms.{is_name, number_in, parts, address_of, prefix_of}
use Rattle.script_model.specs.declared.refusal.LineRefusal.{LineRefusal}
use Rattle.script_model.specs.declared.refusal.LineRefusal.TheVariants.{UnknownWord, Arity, BadName, BadNumber, BadAddress, BadPrefix, BadPlace, BadChannel, BadHex, BadLength}
use Rattle.script_model.specs.Limits.{greatest_payload}

-- *Queues* of a node: from its controller to its switch, and from port 0, which is the way back, or from a port
-- towards the other end of its link
pub data QueueSide : Type 0 where
  FromController : QueueSide
  FromPort : (port : ℕ) → QueueSide

-- what may stand in a place of a line
pub data Form : Type 0 where
  FixedWord : (text : List ℕ) → Form
  NameWord : Form
  NameOrAll : Form
  AddressWord : Form
  PrefixWord : Form
  NumberWord : (least greatest : ℕ) → Form
  EndWord : Form
  QueueWord : Form
  ChannelWord : Form
  LabelWord : Form
  HexWord : Form
  PayloadWord : Form

-- what a word of this form says; a queue or an end by its node's name, a label by its number
abbrev pub Value : Form → Type 0
Value (FixedWord text) = Unit {0}
Value NameWord = List ℕ
Value NameOrAll = Option (List ℕ)
Value AddressWord = Addr
Value PrefixWord = Network
Value (NumberWord least greatest) = ℕ
Value EndWord = List ℕ × PortNo
Value QueueWord = List ℕ × QueueSide
Value ChannelWord = Channel
Value LabelWord = ℕ
Value HexWord = List ℕ
Value PayloadWord = List ℕ

abbrev pub Values : List Form → Type 0
Values [] = Unit {0}
Values (form ∷ forms) = Value form × Values forms

-- a port, 1 to 8
abbrev pub port_of : List ℕ → Option PortNo
port_of word = option_map (λ port. record { 0 = port }) (number_in 1 8 word)

-- what stands behind a name and a colon
abbrev pub behind_name : {A : Type 0} → (List ℕ → Option A) → List ℕ × List ℕ → Option (List ℕ × A)
behind_name read halves = if is_name halves.0 then option_map (λ value. (halves.0, value)) (read halves.1) else None

-- NAME:PORT
abbrev pub end_of : List ℕ → Option (List ℕ × PortNo)
end_of word = option_and_then (behind_name port_of) (parts 58 word)

-- NAME:c, NAME:0 and NAME:PORT
abbrev pub side_of : List ℕ → Option QueueSide
side_of word = if bytes_eq word (codes "c") then Some FromController else option_map FromPort (number_in 0 8 word)

abbrev pub queue_of : List ℕ → Option (List ℕ × QueueSide)
queue_of word = option_and_then (behind_name side_of) (parts 58 word)

-- VPI/VCI, where a link has such a channel
abbrev pub channel_by : Option ℕ → Option ℕ → Option Channel
channel_by (Some vpi) (Some vci) = Some (record { vpi = vpi; vci = vci })
channel_by vpi vci = None

abbrev pub channel_of : List ℕ → Option Channel
channel_of word =
    option_and_then (λ halves. channel_by (number_in 0 255 halves.0) (number_in 0 65535 halves.1)) (parts 47 word)

-- VPI/VCI of a label: its number
abbrev pub label_of : List ℕ → Option ℕ
label_of word = option_and_then label_number_of (channel_of word)

-- the payload of a frame
abbrev pub payload_of : Option (List ℕ) → Result (List ℕ) LineRefusal
payload_of None = Err BadHex
payload_of (Some octets) = if nat_lt greatest_payload (length octets) then Err BadLength else Ok octets

-- *How each form is read*
abbrev pub name_or_all : List ℕ → Result (Option (List ℕ)) LineRefusal
name_or_all word =
    if bytes_eq word (codes "*") then Ok None else (if is_name word then Ok (Some word) else Err BadName)

abbrev pub read : (form : Form) → (word : List ℕ) → Result (Value form) LineRefusal
read (FixedWord text) word = if bytes_eq word text then Ok tt else Err UnknownWord
read NameWord word = if is_name word then Ok word else Err BadName
read NameOrAll word = name_or_all word
read AddressWord word = ok_or (address_of word) BadAddress
read PrefixWord word = ok_or (prefix_of word) BadPrefix
read (NumberWord least greatest) word = ok_or (number_in least greatest word) BadNumber
read EndWord word = ok_or (end_of word) BadPlace
read QueueWord word = ok_or (queue_of word) BadPlace
read ChannelWord word = ok_or (channel_of word) BadChannel
read LabelWord word = ok_or (label_of word) BadChannel
read HexWord word = ok_or (hex_octets word) BadHex
read PayloadWord word = payload_of (hex_octets word)

-- one thing after another, up to the first refusal
abbrev pub after : {A B : Type 0} → (A → Result B LineRefusal) → Result A LineRefusal → Result B LineRefusal
after next (Ok value) = next value
after next (Err refusal) = Err refusal

-- the words of a line from left to right; there are as many as forms
abbrev pub read_all : (forms : List Form) → (words : List (List ℕ)) → Result (Values forms) LineRefusal
read_all [] words = Ok tt
read_all (form ∷ forms) [] = Err Arity
read_all (form ∷ forms) (word ∷ words) =
    after (λ value. after (λ values. Ok (value, values)) (read_all forms words)) (read form word)

-- *The fixed words*, which are tested before the others
abbrev pub is_fixed : Form → (word : List ℕ) → Bool
is_fixed (FixedWord text) word = bytes_eq word text
is_fixed form word = true

abbrev pub are_fixed : List Form → (words : List (List ℕ)) → Bool
are_fixed [] words = true
are_fixed (form ∷ forms) [] = true
are_fixed (form ∷ forms) (word ∷ words) = is_fixed form word && are_fixed forms words
