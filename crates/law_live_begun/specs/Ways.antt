-- Default channels lead home and out behind a beat in which all ports greet each other and are heard

use Rattle.std.specs.Prelude.{◌≡◌, ◌≤◌, List, [], ◌∷◌, ◌++◌, length, Some}
use Rattle.world_model.specs.Words.{default_end, default_home, Estab, Linked, Policy, Topology, World, linked_end, output_at, world_after}
use Rattle.world_model.specs.Topology.{peer_of}
use Rattle.world_model.specs.network_model.declared.link.LinkEnd.{LinkEnd}
use Rattle.world_model.specs.network_model.declared.event.Event.{Event}
use Rattle.live_model.specs.Beats.{Beat, events_in}
use Rattle.law_live_begun.specs.Beats.{BeginsSo, world_behind}

-- *Each port is in Estab* all along a beat, as it begins and behind each of its events
abbrev pub PortsStayUp : Topology → World → Beat → Type 0
PortsStayUp topology w beat = (front rest : List Event) (end far : LinkEnd) (linked : Linked) → events_in w beat ≡ front ++ rest → peer_of topology end.node end.port ≡ Some far
    → linked_end (world_after topology w front) end ≡ Some linked → linked.port.adjacency.state ≡ Estab

-- *Then the default channels lead*, behind it
pub record LeadsByDefault (w : World) (end : LinkEnd) : Type 0 where
  pub home : output_at w end.node (default_end end.port) ≡ Some (default_home end.port)
  pub out : output_at w end.node (default_home end.port) ≡ Some (default_end end.port)

abbrev pub DefaultChannelsLead : Type 0
DefaultChannelsLead = (policy : Policy) (topology : Topology) (beats : List Beat) (beat : Beat) → BeginsSo policy topology (beats ++ beat ∷ []) → 5 ≤ length beats
    → PortsStayUp topology (world_behind policy topology beats) beat
    → (end far : LinkEnd) → peer_of topology end.node end.port ≡ Some far → LeadsByDefault (world_behind policy topology (beats ++ beat ∷ [])) end
