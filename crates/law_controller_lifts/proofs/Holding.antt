-- a controller that is ready stays so where a packet is sent on

use Rattle.std.proofs.Common.{ℕ, List, Option, None, Some, refl}
use Rattle.law_arrival_views.specs.world_model.Words.{PortNo, Channel, Mark, hop_of, onward, Hop, Here, On, kind_of, default_payload, labelled_payload, next_mark, Setup, control_end, Grant, default_home, sends_control, is_control, sends_next, goes_by, grant_by, forwards_packet}
use Rattle.law_arrival_views.specs.world_model.ipv4_forward.declared.outcome.Hop.TheVariants.{NoRoute, Expired}
use Rattle.law_label_steps.proofs.law_port_facts.Keyed.{on_both}
use Rattle.law_arrival_views.specs.world_model.port_model.Port.{Port}
use Rattle.law_arrival_views.specs.world_model.Controller.{Acted}
use Rattle.law_arrival_views.specs.world_model.Sending.{sends}
use Rattle.law_arrival_views.specs.world_model.Packets.{forwarded}
use Rattle.law_arrival_views.proofs.law_controller_facts.Events.{routes_goes}
use Rattle.law_controller_lifts.proofs.Kept.{IsClosed, Goes, same_ports, sends_goes, control_goes}
use Rattle.law_controller_lifts.proofs.Unspent.{Unspent, unspent_closed}
use Rattle.law_controller_lifts.proofs.Ready.{Fits, fits_closed, Readies, moves_ready}

module _ (P : Setup → Port → Type 0) (closed : IsClosed P) where
  next_goes : (a : Acted) (came : Mark) (channel : Channel) (payload : List ℕ) → Goes P a (sends_next a came channel payload)
  next_goes a came channel payload = on_both (Goes P a) (is_control came) (sends_control a channel payload) (sends a channel (next_mark came) payload)
      (control_goes P closed a channel payload) (sends_goes P closed a channel (next_mark came) payload)

  by_goes : (a : Acted) (came : Mark) (port : PortNo) (packet : List ℕ) (o : Option Grant) → Goes P a (goes_by a came port packet o)
  by_goes a came port packet None = next_goes a came (default_home port).channel (default_payload packet)
  by_goes a came port packet (Some grant) = next_goes a came (control_end port grant.label).channel (labelled_payload (kind_of grant.flow) packet)

  forwarded_goes : (a : Acted) (came : Mark) (packet : List ℕ) (hop : Hop) → Goes P a (forwarded a came packet hop)
  forwarded_goes a came packet Here = same_ports P closed a (forwarded a came packet Here) refl refl
  forwarded_goes a came packet NoRoute = same_ports P closed a (forwarded a came packet NoRoute) refl refl
  forwarded_goes a came packet Expired = same_ports P closed a (forwarded a came packet Expired) refl refl
  forwarded_goes a came packet (On port) = by_goes a came port (onward packet) (grant_by a.controller port (onward packet))

  pub routed_goes : (a : Acted) (came : Mark) (packet : List ℕ) → Goes P a (forwards_packet a came packet)
  routed_goes a came packet = forwarded_goes a came packet (hop_of a.controller.table packet)

module _ (setups : List Setup) where
  pub routes_ready : (a : Acted) (came : Mark) (packet : List ℕ) → Readies setups a (forwards_packet a came packet)
  routes_ready a came packet = moves_ready setups a (forwards_packet a came packet) (λ h. routes_goes setups a came packet)
      (routed_goes Unspent unspent_closed a came packet) (routed_goes Fits fits_closed a came packet)
