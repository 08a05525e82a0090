-- The fields of a message as text

use Rattle.std.specs.Prelude.{ℕ, ◌/◌, ◌%◌, ◌^◌, List, ◌++◌, codes, decimal}
use Rattle.net_types.specs.declared.channel.Channel.{Channel}
use Rattle.net_types.specs.declared.prefix.Addr.{Addr}
use Rattle.lab_text.specs.Text.{hex_digits}

-- a number behind its name
unfoldable pub named_number : (name : List ℕ) → (number : ℕ) → List ℕ
named_number name number = name ++ decimal number

-- octets in hexadecimal behind their name
unfoldable pub named_octets : (name octets : List ℕ) → List ℕ
named_octets name octets = name ++ hex_digits octets

-- a channel as VPI/VCI behind its name
unfoldable pub named_channel : (name : List ℕ) → Channel → List ℕ
named_channel name channel = named_number name channel.vpi ++ named_number (codes "/") channel.vci

-- an address behind its name: its four octets in decimal, with dots between them
unfoldable pub named_address : (name : List ℕ) → Addr → List ℕ
named_address name addr =
    named_number name (addr.0 / 2 ^ 24)
    ++ (named_number (codes ".") (addr.0 / 2 ^ 16 % 2 ^ 8)
    ++ (named_number (codes ".") (addr.0 / 2 ^ 8 % 2 ^ 8)
    ++ named_number (codes ".") (addr.0 % 2 ^ 8)))
