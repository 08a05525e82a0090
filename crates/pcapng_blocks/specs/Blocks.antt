-- The blocks of a file in the format pcapng (draft-ietf-opsawg-pcapng), with numbers whose first octet is the lowest

use Rattle.std.specs.Prelude.{ℕ, ◌+◌, ◌-◌, ◌/◌, ◌%◌, ◌^◌, List, [], ◌∷◌, ◌++◌, length, take, replicate}
use Rattle.std.specs.List.{flat_map}
use Rattle.byteorder.specs.Endian.{little_bytes}
use Rattle.pcapng_blocks.specs.declared.option.OptionCode.{OptionCode}
use Rattle.pcapng_blocks.specs.declared.option.OptionCode.TheVariants.{Comment, UserApplication, InterfaceName, InterfaceDescription, TimestampResolution}

-- *Numbers* of 16 and of 32 bits
unfoldable pub number_16 : ℕ → List ℕ
number_16 number = little_bytes 2 number

unfoldable pub number_32 : ℕ → List ℕ
number_32 number = little_bytes 4 number

-- *Padding*: octets 0 up to a multiple of four
abbrev pub pad_length : (length : ℕ) → ℕ
pad_length length = (4 - length % 4) % 4

unfoldable pub padded : List ℕ → List ℕ
padded octets = octets ++ replicate (pad_length (length octets)) 0

-- *An option* (section 3.5): what it tells, and its value
pub record BlockOption : Type 0 where
  pub code : OptionCode
  pub value : List ℕ

abbrev pub option_code : OptionCode → ℕ
option_code Comment = 1
option_code InterfaceName = 2
option_code InterfaceDescription = 3
option_code UserApplication = 4
option_code TimestampResolution = 9

-- the length of a value has 16 bits: of a longer one the first 65,535 octets stand in an option
abbrev pub held_of : (value : List ℕ) → List ℕ
held_of value = take 65535 value

unfoldable pub option_octets : BlockOption → List ℕ
option_octets item =
    number_16 (option_code item.code) ++ (number_16 (length (held_of item.value)) ++ padded (held_of item.value))

-- the end of a list of options
abbrev pub opt_endofopt : List ℕ
opt_endofopt = number_16 0 ++ number_16 0

abbrev pub options_octets : List BlockOption → List ℕ
options_octets items = flat_map option_octets items ++ opt_endofopt

-- options by their names
abbrev pub opt_comment : (text : List ℕ) → BlockOption
opt_comment text = record { code = Comment; value = text }

abbrev pub shb_userappl : (name : List ℕ) → BlockOption
shb_userappl name = record { code = UserApplication; value = name }

abbrev pub if_name : (name : List ℕ) → BlockOption
if_name name = record { code = InterfaceName; value = name }

abbrev pub if_description : (text : List ℕ) → BlockOption
if_description text = record { code = InterfaceDescription; value = text }

-- times are in units of ten to the power of minus this many seconds
abbrev pub if_tsresol : (exponent : ℕ) → BlockOption
if_tsresol exponent = record { code = TimestampResolution; value = exponent ∷ [] }

-- *A block* (3.1): its type and its length, its body, and its length again, which counts the whole block
abbrev pub block : (type : ℕ) → (body : List ℕ) → List ℕ
block type body =
    number_32 type ++ (number_32 (length body + 12) ++ (body ++ number_32 (length body + 12)))

-- a Section Header (4.1), an Interface Description (4.2), whose snap length 0 is no limit, and an Enhanced Packet (4.3),
-- which holds all octets of its packet
pub data Block : Type 0 where
  Section : (options : List BlockOption) → Block
  Interface : (link_type : ℕ) → (options : List BlockOption) → Block
  Packet : (interface timestamp : ℕ) → (packet : List ℕ) → (options : List BlockOption) → Block

-- the magic of the order of octets, version 1.0, and a length of the section that isn't told
abbrev pub section_body : List BlockOption → List ℕ
section_body options =
    number_32 0x1A2B3C4D
    ++ (number_16 1 ++ (number_16 0 ++ (replicate 8 255 ++ options_octets options)))

abbrev pub interface_body : (link_type : ℕ) → List BlockOption → List ℕ
interface_body link_type options =
    number_16 link_type ++ (number_16 0 ++ (number_32 0 ++ options_octets options))

-- the upper half of a time and the lower
unfoldable pub time_octets : (timestamp : ℕ) → List ℕ
time_octets timestamp = number_32 (timestamp / 2 ^ 32) ++ number_32 (timestamp % 2 ^ 32)

-- the captured length of a packet and the original one, and its octets
unfoldable pub sized_octets : (packet : List ℕ) → List ℕ
sized_octets packet = number_32 (length packet) ++ (number_32 (length packet) ++ padded packet)

abbrev pub packet_body : (interface timestamp : ℕ) → (packet : List ℕ) → List BlockOption → List ℕ
packet_body interface timestamp packet options =
    number_32 interface ++ (time_octets timestamp ++ (sized_octets packet ++ options_octets options))

abbrev pub block_octets : Block → List ℕ
block_octets (Section options) = block 0x0A0D0D0A (section_body options)
block_octets (Interface link_type options) = block 1 (interface_body link_type options)
block_octets (Packet interface timestamp packet options) =
    block 6 (packet_body interface timestamp packet options)

-- *A file*: its blocks, one after the other
abbrev pub file_octets : List Block → List ℕ
file_octets blocks = flat_map block_octets blocks
