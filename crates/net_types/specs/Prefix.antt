-- IPv4 prefixes (RFC 1812 5.2.4.3)

use Rattle.std.specs.Prelude.{◌≡◌, ℕ, ◌-◌, ◌^◌, ◌/◌, ◌%◌, ◌≤◌, ◌==◌, Bool}
use Rattle.net_types.specs.declared.prefix.Addr.{Addr}

-- what a prefix is seen as: its lowest address and its length in bits
pub record Network : Type 0 where
  pub addr : Addr
  pub len : ℕ

-- the length is within the 32 bits, and no bit past it is set
pub record IsNetwork (addr len : ℕ) : Type 0 where
  pub within : len ≤ 32
  pub no_host_bits : addr % 2 ^ (32 - len) ≡ 0

-- the first `len` bits of the two addresses are the same
abbrev pub covers : Network → Addr → Bool
covers network addr = addr.0 / 2 ^ (32 - network.len) == network.addr.0 / 2 ^ (32 - network.len)
