-- Labels by number (RFC 1953: a label names a channel that a flow goes on). Which channels may be
-- labels, and their numbering, are this project's own.

use Rattle.std.specs.Prelude.{ℕ, ◌+◌, ◌*◌, ◌/◌, ◌%◌, Bool, ◌&&◌, suc, nat_lt, nat_le, Option, Some, None, if◌then◌else◌}
use Rattle.net_types.specs.declared.channel.Channel.{Channel}

abbrev pub label_channel_of : ℕ → Channel
label_channel_of number = record { vpi = number / 1024; vci = number % 1024 }

abbrev pub number_of_channel : Channel → ℕ
number_of_channel channel = channel.vpi * 1024 + channel.vci

-- VPI 0 to 15, VCI 32 to 1023
abbrev pub greatest_label_vpi : ℕ
greatest_label_vpi = 15

abbrev pub least_label_vci : ℕ
least_label_vci = 32

abbrev pub greatest_label_vci : ℕ
greatest_label_vci = 1023

abbrev pub is_label_vci : ℕ → Bool
is_label_vci vci = nat_le least_label_vci vci && nat_lt vci (suc greatest_label_vci)

abbrev pub is_label_channel : Channel → Bool
is_label_channel channel = nat_lt channel.vpi (suc greatest_label_vpi) && is_label_vci channel.vci

abbrev pub is_label_number : ℕ → Bool
is_label_number number = is_label_channel (label_channel_of number)

abbrev pub label_number_of : Channel → Option ℕ
label_number_of channel = if is_label_channel channel then Some (number_of_channel channel) else None
