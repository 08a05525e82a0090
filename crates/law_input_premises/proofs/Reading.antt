-- what a controller asks, and what both ends of the control link say to each other, is read as it was said, where the
-- numbers in it fit

use Rattle.std.proofs.Common.{ℕ, ◌<◌, ◌^◌, zero, suc, List, [], ◌∷◌, refl, ap, arith}
use Rattle.std.specs.Prelude.{All}
use Rattle.law_controller.specs.world_model.Words.{NodeId, HelloKind, Syn, Synack, Rstack, Ack, Party, greeting_of, nobody, SideByInstances, greeting, said_by, IsLinkPort, Bits, FitsParty, FitsRows, Fits, PortRow, last_transaction, message_of, Setup}
use Rattle.law_controller.specs.world_model.gsmp_wire.declared.message.Message.{Message}
use Rattle.law_controller.specs.world_model.gsmp_wire.declared.message.Message.TheVariants.{Adjacency}
use Rattle.law_controller.specs.world_model.gsmp_wire.declared.request.Request.TheVariants.{AllPorts}
use Rattle.law_gsmp_reading.specs.Said.{IsSaid}
use Rattle.law_gsmp_reading.proofs.Read.{message_is_read}
use Rattle.law_controller.specs.ordered_lists.Ordered.{Every}
use Rattle.law_controller.specs.world_model.Ways.{ok_of}
use Rattle.law_input_steps.specs.law_input_views.Shown.{controller_of, switch_of}
use Rattle.law_input_steps.specs.Asking.{IsReadable}
use Rattle.law_input_premises.specs.Read.{AreRead}
use Rattle.law_input_premises.proofs.Written.{ports_written, are_written}

pub readable : (m : Message) → Fits m → IsSaid m → IsReadable m
readable m fits said = ap ok_of (message_is_read m fits said)

-- *Requests*
module _ (setups : List Setup) (links : Every (λ (setup : Setup). IsLinkPort setup.port) setups) where
  number_fits : (n : ℕ) → n < last_transaction → n < 2 ^ 32
  number_fits n less = omega (arith, less)

  pub ports_read : (rows : List PortRow) (n : ℕ) → n < last_transaction → IsReadable (message_of rows n AllPorts)
  ports_read rows n less = (let w = ports_written setups links rows n (number_fits n less) in readable (message_of rows n AllPorts) w.0 w.1)

  pub are_read : (rows : List PortRow) → FitsRows rows → AreRead setups rows
  are_read rows fits n request less shaped = (let w = are_written setups links rows n request fits (number_fits n less) shaped in readable (message_of rows n request) w.0 w.1)

-- *Greetings* between the two ends of a node
all_six : (a b c d e f : ℕ) → a < 256 → b < 256 → c < 256 → d < 256 → e < 256 → f < 256 → All (Bits 8) (a ∷ b ∷ c ∷ d ∷ e ∷ f ∷ [])
all_six a b c d e f ha hb hc hd he hf zero z less = ha
all_six a b c d e f ha hb hc hd he hf (suc zero) z less = hb
all_six a b c d e f ha hb hc hd he hf (suc (suc zero)) z less = hc
all_six a b c d e f ha hb hc hd he hf (suc (suc (suc zero))) z less = hd
all_six a b c d e f ha hb hc hd he hf (suc (suc (suc (suc zero)))) z less = he
all_six a b c d e f ha hb hc hd he hf (suc (suc (suc (suc (suc zero))))) z less = hf
all_six a b c d e f ha hb hc hd he hf (suc (suc (suc (suc (suc (suc k)))))) z less = absurd (omega (arith, less))

party_fits : (name : ℕ) (node : NodeId) (instance : ℕ) → name < 256 → node.0 < 256 → instance < 2 ^ 32 → FitsParty (record { name = 2 ∷ 0 ∷ 0 ∷ 0 ∷ name ∷ node.0 ∷ []; port = 0; instance = record { 0 = instance } })
party_fits name node instance one few less = record {
  name = all_six 2 0 0 0 name node.0 (omega arith) (omega arith) (omega arith) (omega arith) one few;
  name_length = refl;
  port = omega arith;
  instance = less;
}

pub controller_fits : (node : NodeId) (instance : ℕ) → node.0 < 256 → instance < 2 ^ 32 → FitsParty (controller_of node instance)
controller_fits node instance few less = party_fits 0 node instance (omega arith) few less

pub switch_fits : (node : NodeId) (instance : ℕ) → node.0 < 256 → instance < 2 ^ 32 → FitsParty (switch_of node instance)
switch_fits node instance few less = party_fits 1 node instance (omega arith) few less

pub nobody_fits : FitsParty nobody
nobody_fits = record { name = all_six 0 0 0 0 0 0 (omega arith) (omega arith) (omega arith) (omega arith) (omega arith) (omega arith); name_length = refl; port = omega arith; instance = omega arith }

module _ (own far : ℕ → Party) (owns : (n : ℕ) → n < 2 ^ 32 → FitsParty (own n)) (fars : (n : ℕ) → n < 2 ^ 32 → FitsParty (far n)) where
  pub greeting_read : (side : SideByInstances) (kind : HelloKind) (s r : ℕ) → side.own < 2 ^ 32 → side.stored < 2 ^ 32 → s < 2 ^ 32 → r < 2 ^ 32
      → IsReadable (Adjacency (greeting_of (greeting (said_by own far) side kind s r)))
  greeting_read side Syn s r o t x y = readable (Adjacency (greeting_of (greeting (said_by own far) side Syn s r))) (owns side.own o, nobody_fits) tt
  greeting_read side Synack s r o t x y = readable (Adjacency (greeting_of (greeting (said_by own far) side Synack s r))) (owns side.own o, fars side.stored t) tt
  greeting_read side Ack s r o t x y = readable (Adjacency (greeting_of (greeting (said_by own far) side Ack s r))) (owns side.own o, fars side.stored t) tt
  greeting_read side Rstack s r o t x y = readable (Adjacency (greeting_of (greeting (said_by own far) side Rstack s r))) (owns r y, fars s x) tt
