-- How many octets options and blocks have

use Rattle.std.specs.Prelude.{ℕ, ◌+◌, min}
use Rattle.pcapng_blocks.specs.Blocks.{pad_length}

abbrev pub padded_length : (length : ℕ) → ℕ
padded_length length = length + pad_length length

-- an option whose value has this length
abbrev pub option_length : (length : ℕ) → ℕ
option_length length = 4 + padded_length (min 65535 length)
