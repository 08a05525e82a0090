-- copies of requests and REDIRECTs are on their own channels

use Rattle.std.proofs.Common.{ℕ, refl}
use Rattle.law_frame_readings.specs.world_model.Words.{Past, Way, IsWay, Redirect, label_channel_of}
use Rattle.law_unused_labels.specs.Unused.{HasOwnChannels}
use Rattle.law_ownership.specs.Owning.{HasOwnWays}

pub own_channels : (past : Past) → HasOwnWays past → (way : Way) → IsWay past.topology way → (label : ℕ) → HasOwnChannels past.now way label
own_channels past own way on label = record {
  copies = λ cell s has copy. own.copies way on cell s has copy;
  redirects = λ cell flow has redirect. (own.told way on).0 cell (Redirect redirect.sender redirect.peer redirect.number redirect.lifetime (label_channel_of label) flow) has redirect.message refl redirect.from_downstream;
}
