-- records that are no fates of a packet, and bind no label: all that a port notes but bindings

use Rattle.std.proofs.Common.{◌≡◌, Bool, true, false}
use Rattle.law_arrival_views.specs.world_model.Words.{Record, Delivered, Dropped, is_bind}

-- *What may be noted*
abbrev pub is_fate : Record → Bool
is_fate (Delivered node packet octets) = true
is_fate (Dropped node packet cause) = true
is_fate item = false

-- all but fates and bindings may be, as Q says
abbrev pub Allows : (Record → Type 0) → Type 0
Allows Q = (item : Record) → is_fate item ≡ false → is_bind item ≡ false → Q item
