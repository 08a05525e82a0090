-- The numbers of a port: each has as many bits as the field of IFMP (RFC 1953) that it is written to

use Rattle.std.specs.Prelude.{◌<◌, ◌^◌, Option, None, Some}
use Rattle.std.specs.Option.{option_map_or}
use Rattle.law_port_facts.specs.port_model.Words.{Peer, FitsFields, FitsMessage, Setup, Label, Grant, Work, labels_of}
use Rattle.law_port_facts.specs.ordered_lists.Ordered.{Every}
use Rattle.law_port_facts.specs.port_model.declared.action.Action.{Action}
use Rattle.law_port_facts.specs.port_model.declared.action.Action.TheVariants.{Say}
use Rattle.law_port_facts.specs.port_model.Port.{Port}

-- an instance and an address of 32 bits each
abbrev pub FitsPeer : Peer → Type 0
FitsPeer peer = (peer.instance.0 < 2 ^ 32) × (peer.address.0 < 2 ^ 32)

abbrev pub FitsStored : Option Peer → Type 0
FitsStored None = Unit {0}
FitsStored (Some peer) = FitsPeer peer

abbrev pub FitsLabel : Label → Type 0
FitsLabel label = FitsFields label.flow

abbrev pub FitsGrant : Grant → Type 0
FitsGrant grant = FitsFields grant.flow

-- the side of the adjacency, the number that is expected next, and the flows of labels and grants
pub record FitsPort (port : Port) : Type 0 where
  pub own : FitsPeer port.adjacency.own
  pub stored : FitsStored port.adjacency.stored
  pub expected : option_map_or (λ s. s.expected) port.session 1 < 2 ^ 32
  pub labels : Every FitsLabel (labels_of port)
  pub grants : Every FitsGrant port.grants

-- what it has said so far
abbrev pub FitsAction : Action → Type 0
FitsAction (Say message) = FitsMessage message
FitsAction action = Unit {0}

pub record FitsWork (w : Work) : Type 0 where
  pub port : FitsPort w.port
  pub said : Every FitsAction w.actions

-- what stays the same of it
pub record FitsSetup (setup : Setup) : Type 0 where
  pub address : setup.address.0 < 2 ^ 32
  pub lifetime : setup.timers.lifetime < 2 ^ 16
