-- the laws are proved over definitions alone

use Rattle.law_link_nodes.proofs.Glue.{ports_go_by_address, nodes_send_by_labels, labels_hold_packets}
use Rattle.law_link_nodes.proofs.ports_go_by_address.Goals as goal

pub returns : goal.returns
returns c = record { addresses = ports_go_by_address; labels = nodes_send_by_labels; packets = labels_hold_packets }
