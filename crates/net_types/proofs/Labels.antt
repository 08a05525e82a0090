-- labels by number and by channel

use Rattle.std.proofs.Common.{◌≡◌, ℕ, IsTrue, Some, sym, subst, arith}
use Rattle.std.proofs.lemmas.Bool.Decides.{nat_tests}
use Rattle.net_types.specs.declared.channel.Channel.{Channel}
use Rattle.net_types.specs.Label.{label_channel_of, number_of_channel, is_label_channel, is_label_number, label_number_of}

pub number_of_channel-label_channel_of : (number : ℕ) → number_of_channel (label_channel_of number) ≡ number
number_of_channel-label_channel_of number = omega arith

pub label_channel_of-number_of_channel : (channel : Channel) → IsTrue (is_label_channel channel) → label_channel_of (number_of_channel channel) ≡ channel
label_channel_of-number_of_channel channel label = grind (arith, nat_tests)

pub is_label_number-number_of_channel : (channel : Channel) → IsTrue (is_label_channel channel) → IsTrue (is_label_number (number_of_channel channel))
is_label_number-number_of_channel channel label = subst (λ c. IsTrue (is_label_channel c)) (sym (label_channel_of-number_of_channel channel label)) label

pub label_number_of-label_channel_of : (number : ℕ) → IsTrue (is_label_number number) → label_number_of (label_channel_of number) ≡ Some number
label_number_of-label_channel_of number label = grind (arith, nat_tests)
