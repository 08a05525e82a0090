-- The adjacency table (RFC 1987, Adjacency Protocol; RFC 1953, IFMP Adjacency Protocol). The state
-- Clearing, the silence limit and the reset are this project's own.

use Rattle.std.specs.Prelude.{ℕ, Bool, true, false, ◌&&◌, nat_lt, if◌then◌else◌}
use Rattle.net_types.specs.declared.adjacency.HelloKind.{HelloKind}
use Rattle.net_types.specs.declared.adjacency.HelloKind.TheVariants.{Syn, Synack, Rstack, Ack}
use Rattle.adjacency_table.specs.declared.State.{State}
use Rattle.adjacency_table.specs.declared.State.TheVariants.{Clearing, SynSent, SynRcvd, Estab}

-- what an end answers
pub data Reply : Type 0 where
  Silent : Reply
  Says : HelloKind → Reply
  Resets : Reply

-- one row of the table: the state that follows, whether the message's sender is stored, whether the
-- silence count begins anew, and the answer; a reset leaves the rest to the new instance
pub record Row : Type 0 where
  pub next : State
  pub stores : Bool
  pub clears_silence : Bool
  pub reply : Reply

abbrev pub stays : State → Reply → Row
stays state reply = record { next = state; stores = false; clears_silence = false; reply = reply }

abbrev pub stores_and : State → HelloKind → Row
stores_and next kind = record { next = next; stores = true; clears_silence = false; reply = Says kind }

-- entering Estab by a SYNACK or by an ACK
abbrev pub enters_by_synack : Row
enters_by_synack = record { next = Estab; stores = true; clears_silence = true; reply = Says Ack }

abbrev pub enters_by_ack : Row
enters_by_ack = record { next = Estab; stores = false; clears_silence = true; reply = Silent }

-- a message of this kind comes to an end in this state; `meant` says that its receiver is the own
-- party, and `known` that its sender is the stored one
abbrev pub row : State → HelloKind → (meant known : Bool) → Row
row Clearing _ _ _ = stays Clearing Silent
row SynSent Syn _ _ = stores_and SynRcvd Synack
row SynSent Synack meant _ = if meant then enters_by_synack else stays SynSent (Says Rstack)
row SynSent Ack _ _ = stays SynSent (Says Rstack)
row SynSent Rstack _ _ = stays SynSent Silent
row SynRcvd Syn _ _ = stores_and SynRcvd Synack
row SynRcvd Synack meant _ = if meant then enters_by_synack else stays SynRcvd (Says Rstack)
row SynRcvd Ack meant known = if meant && known then enters_by_ack else stays SynRcvd (Says Rstack)
row SynRcvd Rstack meant known = stays SynRcvd (if meant && known then Resets else Silent)
row Estab Syn _ _ = stays Estab (Says Ack)
row Estab Synack _ _ = stays Estab (Says Ack)
row Estab Ack meant known = if meant && known then enters_by_ack else stays Estab (Says Rstack)
row Estab Rstack meant known = stays Estab (if meant && known then Resets else Silent)

-- the greatest number of ticks in a row that an end in Estab hears nothing
abbrev pub silence_limit : ℕ
silence_limit = 3

-- what a tick makes an end say; `silence` counts the ticks in Estab since it last heard, this one
-- included
abbrev pub tick_reply : State → (silence : ℕ) → Reply
tick_reply Clearing _ = Silent
tick_reply SynSent _ = Says Syn
tick_reply SynRcvd _ = Says Synack
tick_reply Estab silence = if nat_lt silence_limit silence then Resets else Says Ack
