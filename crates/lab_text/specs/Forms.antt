-- The forms of a script's words

use Rattle.std.specs.Prelude.{ℕ, zero, suc, ◌-◌, ◌%◌, ◌^◌, Bool, ◌&&◌, ◌||◌, ◌==◌, nat_le, List, [], ◌∷◌, length, take, drop, ◌+◌, slice_index, position, Option, None, Some, if◌then◌else◌}
use Rattle.std.specs.Int.{w32, from_be_bytes}
use Rattle.std.specs.List.{list_all}
use Rattle.std.specs.Option.{option_map, option_and_then}
use Rattle.net_types.specs.declared.prefix.Addr.{Addr}
use Rattle.net_types.specs.Prefix.{Network}
use Rattle.lab_text.specs.Numeral.{number}

abbrev pub is_letter : ℕ → Bool
is_letter octet = nat_le 97 octet && nat_le octet 122

abbrev pub is_name_octet : ℕ → Bool
is_name_octet octet = is_letter octet || (nat_le 48 octet && nat_le octet 57)

-- a name: 1 to 16 lower-case letters and digits, a letter first
abbrev pub is_name : List ℕ → Bool
is_name word =
    nat_le 1 (length word) && (nat_le (length word) 16 && (is_letter (slice_index word 0) && list_all is_name_octet word))

abbrev pub within : ℕ → ℕ → Option ℕ → Option ℕ
within least greatest None = None
within least greatest (Some n) = if nat_le least n && nat_le n greatest then Some n else None

-- a decimal number within these bounds
abbrev pub number_in : ℕ → ℕ → List ℕ → Option ℕ
number_in least greatest word = within least greatest (number word)

-- what stands before and behind the first such sign of a word that has one
abbrev pub parts : ℕ → List ℕ → Option (List ℕ × List ℕ)
parts sign word = option_map (λ place. (take place word, drop (place + 1) word)) (position (λ octet. octet == sign) word)

-- so many numbers 0 to 255 with dots between them, and one more
abbrev pub dotted : ℕ → List ℕ → Option (List ℕ)
dotted zero word = option_map (λ n. n ∷ []) (number_in 0 255 word)
dotted (suc more) word =
    option_and_then
    (λ halves. option_and_then (λ n. option_map (λ others. n ∷ others) (dotted more halves.1)) (number_in 0 255 halves.0))
    (parts 46 word)

-- an address: four numbers 0 to 255 with dots
abbrev pub address_of : List ℕ → Option Addr
address_of word = option_map (λ octets. record { 0 = from_be_bytes w32 octets }) (dotted 3 word)

abbrev pub network_of : Addr → ℕ → Option Network
network_of addr len = if addr.0 % 2 ^ (32 - len) == 0 then Some (record { addr = addr; len = len }) else None

-- a prefix: an address without host bits, a slash and a length 0 to 32
abbrev pub prefix_of : List ℕ → Option Network
prefix_of word =
    option_and_then
    (λ halves. option_and_then (λ addr. option_and_then (network_of addr) (number_in 0 32 halves.1)) (address_of halves.0))
    (parts 47 word)
