-- The address of a node, as it is read

use Rattle.std.proofs.Common.{◌≡◌, [], Option, None, Some, ap}
use Rattle.std.specs.Option.{option_map, option_map_or}
use Rattle.net_types.specs.declared.prefix.Addr.{Addr}
use Rattle.world_model.specs.Topology.{Node}
use Rattle.script_model.specs.Texts.{address_text}

pub address_read : (o : Option Node) (address : Addr) → option_map (λ (n : Node). n.address) o ≡ Some address
    → address_text address ≡ option_map_or (λ (found : Node). address_text found.address) o []
address_read None address e = absurd (cc e)
address_read (Some node) address e = (let same : ◌≡◌ {A = Option Addr} (Some node.address) (Some address) = e in let one : address ≡ node.address = cc same in ap address_text one)
