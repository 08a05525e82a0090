-- What leaves the joins as they are.

use Rattle.std.proofs.Common.{◌≡◌, ℕ, List, Option, None, Some, refl}
use Rattle.net_types.specs.declared.node.PortNo.{PortNo}
use Rattle.net_types.specs.declared.channel.Channel.{Channel}
use Rattle.net_types.specs.declared.number.Mark.{Mark}
use Rattle.ipv4_forward.specs.Hop.{hop_of, onward}
use Rattle.ipv4_forward.specs.declared.outcome.Hop.{Hop}
use Rattle.ipv4_forward.specs.declared.outcome.Hop.TheVariants.{Here, On, NoRoute, Expired}
use Rattle.frame_model.specs.Frame.{next_mark}
use Rattle.reassembly.specs.Receipt.{Received}
use Rattle.port_model.specs.Counting.{used, used_label}
use Rattle.port_model.specs.Grants.{Grant}
use Rattle.port_model.specs.Labels.{Label}
use Rattle.port_model.specs.Port.{label_at}
use Rattle.controller_joins.specs.world_model.Controller.{Acted, Linked, linked_at, chains_with}
use Rattle.controller_joins.specs.world_model.Cells.{Taker, ForGsmp, ForDefault, ForLabel}
use Rattle.controller_joins.specs.world_model.Packets.{forwarded, goes_by, grant_by, is_control, forwards_packet, sends_next}
use Rattle.controller_joins.specs.world_model.Performing.{at_port, works}
use Rattle.controller_joins.specs.world_model.Sending.{sends, sends_control}
use Rattle.law_join_facts.proofs.Lasts.{Stays, own, stays_control, stays_placed, stays_sent, stays_still}
use Rattle.law_join_facts.proofs.Ordered.{on_both}
use Rattle.controller_router.specs.Cells.{IsFound, gathered}

-- *A packet that is sent on*
next_stays : (a : Acted) (came : Mark) (channel : Channel) (payload : List ℕ) → Stays a (sends_next a came channel payload)
next_stays a came channel payload = on_both (Stays a) (is_control came) (sends_control a channel payload) (sends a channel (next_mark came) payload)
    (stays_control a channel payload) (stays_sent a channel (next_mark came) payload)

by_stays : (a : Acted) (came : Mark) (port : PortNo) (packet : List ℕ) (o : Option Grant) → Stays a (goes_by a came port packet o)
by_stays a came port packet None = next_stays a came _ _
by_stays a came port packet (Some grant) = next_stays a came _ _

forwarded_stays : (a : Acted) (came : Mark) (packet : List ℕ) (hop : Hop) → Stays a (forwarded a came packet hop)
forwarded_stays a came packet Here = stays_still a (forwarded a came packet Here) refl refl
forwarded_stays a came packet NoRoute = stays_still a (forwarded a came packet NoRoute) refl refl
forwarded_stays a came packet Expired = stays_still a (forwarded a came packet Expired) refl refl
forwarded_stays a came packet (On port) = by_stays a came port (onward packet) (grant_by a.controller port (onward packet))

pub routes_stays : (a : Acted) (came : Mark) (packet : List ℕ) → Stays a (forwards_packet a came packet)
routes_stays a came packet = forwarded_stays a came packet (hop_of a.controller.table packet)

-- *A cell that is gathered*
pub gathered_stays : (a : Acted) (t : Taker) (r : Received) → IsFound a.controller t → Stays a (gathered a t r)
gathered_stays a ForGsmp r found = stays_still a (gathered a ForGsmp r) refl refl
gathered_stays a (ForDefault linked) r found =
    stays_placed a (gathered a (ForDefault linked) r) linked (record linked { reassembly = r.reassembly }) found refl refl refl refl
gathered_stays a (ForLabel linked label) r found =
    stays_placed a (gathered a (ForLabel linked label) r) linked (record linked { chains = chains_with linked.chains label.number r.reassembly }) found.found refl refl refl refl

-- *A label in use*: the grants stay, and nothing is asked
used_at : (a : Acted) (port : PortNo) (linked : Linked) (number : ℕ) → linked_at a.controller port ≡ Some linked → (o : Option Label) → label_at linked.port number ≡ o → Stays a (works a (λ setup desk w. used_label w o) (Some linked))
used_at a port linked number found None is = stays_placed a _ linked _ (own a port linked found) refl refl refl refl
used_at a port linked number found (Some label) is = stays_placed a _ linked _ (own a port linked found) refl refl refl refl

used_by : (a : Acted) (port : PortNo) (number : ℕ) (o : Option Linked) → linked_at a.controller port ≡ o → Stays a (works a (λ setup desk w. used w number) o)
used_by a port number None found = stays_still a a refl refl
used_by a port number (Some linked) found = used_at a port linked number found (label_at linked.port number) refl

pub used_stays : (a : Acted) (port : PortNo) (number : ℕ) → Stays a (at_port a port (λ setup desk w. used w number))
used_stays a port number = used_by a port number (linked_at a.controller port) refl
