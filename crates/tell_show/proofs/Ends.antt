-- The engine of a port is the port that a controller has

use Rattle.std.proofs.Common.{◌≡◌, ◌∙◌, length, Option, Some, ap, sym}
use Rattle.std.specs.Option.{option_map}
use Rattle.net_types.specs.declared.node.NodeId.{NodeId}
use Rattle.controller_router.specs.controller_gsmp.Client.{PortEnd}
use Rattle.port_model.specs.Port.{labels_of}
use Rattle.controller_router.specs.Node.{end_of}
use Rattle.world_model.specs.Controller.{Linked}
use Rattle.world_model.specs.Topology.{Topology}
use Rattle.show_text.specs.Port.{port_lines}
use Rattle.show_text.specs.Shown.{linked_lines}

pub its_end : (o : Option Linked) (linked : Linked) (end : PortEnd) → o ≡ Some linked → option_map end_of o ≡ Some end → end_of linked ≡ end
its_end o linked end found e = (let same : ◌≡◌ {A = Option PortEnd} (Some (end_of linked)) (Some end) = ap (option_map end_of) (sym found) ∙ e in cc)

pub lines_are : (t : Topology) (node : NodeId) (o : Option Linked) (linked : Linked) (end : PortEnd) → o ≡ Some linked → option_map end_of o ≡ Some end
    → port_lines t node end.setup.port end.port ≡ linked_lines t node linked
lines_are t node o linked end found e = ap (λ (x : PortEnd). port_lines t node x.setup.port x.port) (sym (its_end o linked end found e))

pub labels_are : (o : Option Linked) (linked : Linked) (end : PortEnd) → o ≡ Some linked → option_map end_of o ≡ Some end → length (labels_of end.port) ≡ length (labels_of linked.port)
labels_are o linked end found e = ap (λ (x : PortEnd). length (labels_of x.port)) (sym (its_end o linked end found e))

pub grants_are : (o : Option Linked) (linked : Linked) (end : PortEnd) → o ≡ Some linked → option_map end_of o ≡ Some end → length end.port.grants ≡ length linked.port.grants
grants_are o linked end found e = ap (λ (x : PortEnd). length x.port.grants) (sym (its_end o linked end found e))
