-- The conditions of a controller's calls, and why a packet doesn't enter

use Rattle.std.specs.Prelude.{◌≡◌, ◌≤◌, ◌==◌, Bool, true, List, drop, map, All, IsTrue, Option, None, Some, Result, is_err}
use Rattle.std.specs.List.{list_any}
use Rattle.net_types.specs.declared.node.PortNo.{PortNo}
use Rattle.net_types.specs.Label.{is_label_number}
use Rattle.net_types.specs.Number.{GivenOut}
use Rattle.ipv4_forward.specs.declared.change.RouteChange.{RouteChange}
use Rattle.ipv4_forward.specs.declared.table.Next.{Next}
use Rattle.ipv4_forward.specs.declared.table.Next.TheVariants.{Local, Via}
use Rattle.ipv4_forward.specs.declared.table.Route.{Route}
use Rattle.link_model.specs.Notes.{Journal}
use Rattle.link_model.specs.declared.record.Refusal.{Refusal}
use Rattle.link_model.specs.declared.record.Refusal.TheVariants as refusals
use Rattle.refusal_names.specs.Names.{packet_refusal}
use Rattle.port_model.specs.declared.timers.Timers.{Timers}
use Rattle.world_model.specs.controller_model.declared.range.PortRange.{PortRange}
use Rattle.world_model.specs.Controller.{Acted, Controller, ports_of}
pub use Rattle.law_actor_pace.specs.Pace.{changes_of}
pub use Rattle.world_model.specs.Conditions.{table_to_be}
use Rattle.node_controller.specs.declared.node.InjectFault.{InjectFault}
use Rattle.node_controller.specs.declared.node.InjectFault.TheVariants.{Packet, ControlProtocol, OutOfMemory}

-- a controller in a run
abbrev pub acted : Controller → Journal → GivenOut → Acted
acted c notes numbers = record { controller = c; notes = notes; numbers = numbers }

-- a range of labels
pub record IsLabelRange (range : PortRange) : Type 0 where
  pub least : IsTrue (is_label_number range.lo)
  pub greatest : IsTrue (is_label_number range.hi)
  pub order : range.lo ≤ range.hi

-- the times are within their limits
pub record AreTimes (timers : Timers) : Type 0 where
  pub lifetime : 1 ≤ timers.lifetime
  pub refresh : 1 ≤ timers.refresh
  pub window_least : 1 ≤ timers.window
  pub window_most : timers.window ≤ 64

-- a port that a route names is one of these
abbrev pub NamesOneOf : List PortNo → Next → Type 0
NamesOneOf ports Local = Unit {0}
NamesOneOf ports (Via port) = list_any (λ other. other.0 == port.0) ports ≡ true

abbrev pub AreRoutesOf : List Route → List PortRange → Type 0
AreRoutesOf table ranges = All (λ (route : Route). NamesOneOf (map (λ range. range.port) ranges) route.next) table

abbrev pub NamesLinkedNext : Controller → Option Next → Type 0
NamesLinkedNext c None = Unit {0}
NamesLinkedNext c (Some next) = NamesOneOf (ports_of c) next

abbrev pub NamesLinked : Controller → RouteChange → Type 0
NamesLinked c change = NamesLinkedNext c change.next

-- the first cell of the queue is taken
abbrev pub popped : Controller → Controller
popped c = record c { queue = drop 1 c.queue }

-- the name of a refusal; want of memory has none
abbrev pub refusal_of : InjectFault → Option Refusal
refusal_of (Packet fault) = Some (packet_refusal fault)
refusal_of ControlProtocol = Some refusals.ControlProtocol
refusal_of (OutOfMemory error) = None

-- *How a call ends that may want memory*: by its answer the controller is ended or goes on, and one that was ended before isn't revived
pub record Ends {V F : Type 0} (before after : Bool) (answer : Result V F) : Type 0 where
  pub told : after ≡ is_err answer
  pub lasts : before ≡ true → after ≡ true
