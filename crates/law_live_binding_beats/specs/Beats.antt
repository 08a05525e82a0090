-- Two ends of a link bind on through a whole beat: its ticks, its carries, and what is sent behind them

use Rattle.std.specs.Prelude.{◌≡◌, ◌<◌, ◌^◌, ℕ, List, [], ◌∷◌, ◌++◌}
use Rattle.world_model.specs.Words.{NodeId, Topology, World, IsTopology, IsShaped, tick_of_all, world_after}
use Rattle.world_model.specs.network_model.declared.link.LinkEnd.{LinkEnd}
use Rattle.world_model.specs.network_model.declared.event.Event.{Event}
use Rattle.world_model.specs.network_model.declared.event.Event.TheVariants.{Inject, Carry}
use Rattle.live_model.specs.Beats.{Beat, settled, behind}
use Rattle.law_live_asking.specs.law_passing.ordered_lists.Ordered.{Every}
use Rattle.law_live_asking.specs.law_live_nodes.Law.{messages_of}
use Rattle.law_live_asking.specs.law_live_worlds.Law.{AgreeIn, IsCalm}
use Rattle.law_live_asking.specs.law_live_orders.Law.{coming}
use Rattle.law_live_asking.specs.law_live_unsaid.Law.{SendsByLabels}
use Rattle.law_live_asking.specs.law_live_going.Law.{IsWritten}
use Rattle.law_live_asking.specs.law_live_going.Beats.{AreCalmTicks}
use Rattle.law_live_binding_beats.specs.Law.{BindByQueues, AreCalmWays, IsBindingCarry, AreBindingCarries, AreStill}

-- *A packet that enters*, at one of the two nodes or elsewhere: both ways are open, and grants at both are of labels, none of which goes on
-- a default channel
pub record IsBindingEntry (topology : Topology) {w : World} {one far : LinkEnd} (ends : BindByQueues w one far) (node : NodeId) (octets : List ℕ) : Type 0 where
  pub ways : AreCalmWays topology w one far (Inject node octets)
  pub labels : SendsByLabels ends.bind.shows.site.controller
  pub far_labels : SendsByLabels ends.bind.far_shows.site.controller

-- *What is sent* behind the carries of a beat: packets, and further carries
abbrev pub IsBindingEvent : Topology → {w : World} → {one far : LinkEnd} → BindByQueues w one far → Event → Type 0
IsBindingEvent topology ends (Inject node octets) = IsBindingEntry topology ends node octets
IsBindingEvent topology ends (Carry place) = IsBindingCarry topology ends place
IsBindingEvent topology ends event = ⊥

abbrev pub AreBindingEvents : Topology → World → (one far : LinkEnd) → List Event → Type 0
AreBindingEvents topology w one far events = (front rest : List Event) (event : Event) → events ≡ front ++ event ∷ rest
    → (ends : BindByQueues (world_after topology w front) one far) → IsBindingEvent topology ends event

-- *So they bind on* behind all of it
abbrev pub SendingsBindOn : Type 0
SendingsBindOn = (topology : Topology) (w : World) (one far : LinkEnd) (events : List Event) → IsTopology topology → BindByQueues w one far
    → AreBindingEvents topology w one far events → BindByQueues (world_after topology w events) one far

-- *A binding beat* of two ends that agree at rest: both nodes are at peace as it begins, what their ports say can be written, each tick is
-- calm, and each carry and what is sent behind them is binding
pub record IsBindingBeat (topology : Topology) (w : World) (one far : LinkEnd) (agree : AgreeIn w one far [] []) (beat : Beat) : Type 0 where
  pub near : IsCalm w one.node
  pub far_end : IsCalm w far.node
  pub low : agree.shows.site.controller.address.0 < 2 ^ 32
  pub far_low : agree.far_shows.site.controller.address.0 < 2 ^ 32
  pub written : Every IsWritten (messages_of agree.linked)
  pub far_written : Every IsWritten (messages_of agree.far_linked)
  pub ticks : AreCalmTicks topology w one far (tick_of_all w)
  pub far_ticks : AreCalmTicks topology w far one (tick_of_all w)
  pub carries : AreBindingCarries topology (world_after topology w (tick_of_all w)) one far beat.carries
  pub sending : AreBindingEvents topology (settled topology w beat) one far beat.sending

-- *Then they bind* behind its carries and behind what is sent, and agree at rest again where they are still
pub record BindThrough (topology : Topology) (w : World) (one far : LinkEnd) (beat : Beat) : Type 0 where
  pub carried : BindByQueues (settled topology w beat) one far
  pub sent : BindByQueues (behind topology w beat) one far
  pub settles : AreStill (settled topology w beat) one far → AgreeIn (settled topology w beat) one far [] []
  pub rests : AreStill (behind topology w beat) one far → AgreeIn (behind topology w beat) one far [] []

abbrev pub BindingBeatsSettle : Type 0
BindingBeatsSettle = (topology : Topology) (w : World) (one far : LinkEnd) (beat : Beat) (agree : AgreeIn w one far [] []) → IsTopology topology → IsShaped w
    → coming w one far ≡ [] → coming w far one ≡ [] → IsBindingBeat topology w one far agree beat → BindThrough topology w one far beat
