-- In a run the two ports of a link have met behind four beats in peace, in whose ticks nothing is asked of them but peace

use Rattle.std.specs.Prelude.{◌≡◌, ◌≢◌, ◌≤◌, List, [], ◌∷◌, ◌++◌, fold, length}
use Rattle.world_model.specs.Words.{Clearing, IsLinkPort, Linked, Policy, Topology, World, world_after}
use Rattle.world_model.specs.network_model.declared.link.LinkEnd.{LinkEnd}
use Rattle.world_model.specs.network_model.declared.event.Event.{Event}
use Rattle.world_model.specs.network_model.declared.event.Event.TheVariants.{Tick}
use Rattle.live_model.specs.Beats.{Beat, events_in, behind, IsBeat}
use Rattle.law_live_rested.specs.law_live_hearing.Law.{world_at}
use Rattle.law_live_rested.specs.law_live_worlds.Law.{Shows}
use Rattle.law_live_rested.specs.law_live_orders.Law.{coming}
use Rattle.law_live_rested.specs.law_live_waking_links.Law.{ComesInOrder, AreNamed, GoesByTable}
use Rattle.law_live_rested.specs.law_live_waking_links.Beats.{IsClearAt, HasWoken}
use Rattle.law_live_rested.specs.law_live_woken.Law.{IsRunOfBeats}
use Rattle.law_live_rested.specs.law_live_tables.Law.{TicksInPeace}

-- *A link at rest*, whatever its ports know of each other: nothing is on its way between the two, and neither waits to be cleared
pub record IsStill (w : World) (one far : LinkEnd) : Type 0 where
  pub linked : Linked
  pub far_linked : Linked
  pub shows : Shows w one linked
  pub far_shows : Shows w far far_linked
  pub clear : linked.port.adjacency.state ≢ Clearing
  pub far_clear : far_linked.port.adjacency.state ≢ Clearing
  pub there : coming w one far ≡ []
  pub back : coming w far one ≡ []

-- *An end goes on* at an event of its own controller: at a tick, in peace; and at the others by its table
abbrev pub GoesOn : Topology → World → (end peer : LinkEnd) → Event → Type 0
GoesOn topology w end peer (Tick here) = here.0 ≡ end.node.0 → TicksInPeace topology w end
GoesOn topology w end peer event = GoesByTable topology w end peer event

-- *In peace* frames come in order both ways at an event, what greets a port names it, and both ends go on
pub record IsPeaceful (topology : Topology) (w : World) (one far : LinkEnd) (event : Event) : Type 0 where
  pub order : ComesInOrder topology w one far event
  pub order_back : ComesInOrder topology w far one event
  pub named : AreNamed w event one far
  pub named_back : AreNamed w event far one
  pub near : GoesOn topology w one far event
  pub far_end : GoesOn topology w far one event

-- *A beat in peace*, as which ends nothing is on its way between the two, and neither waits to be cleared
pub record IsBeatInPeace (topology : Topology) (w : World) (one far : LinkEnd) (beat : Beat) : Type 0 where
  pub is_beat : IsBeat topology w beat
  pub peace : (front rest : List Event) (event : Event) → events_in w beat ≡ front ++ event ∷ rest
      → IsPeaceful topology (world_after topology w front) one far event
  pub empties : coming (behind topology w beat) one far ≡ []
  pub empties_back : coming (behind topology w beat) far one ≡ []
  pub clear : IsClearAt (behind topology w beat) one
  pub far_clear : IsClearAt (behind topology w beat) far

abbrev pub AreBeatsInPeace : Topology → World → (one far : LinkEnd) → List Beat → Type 0
AreBeatsInPeace topology w one far [] = Unit {0}
AreBeatsInPeace topology w one far (beat ∷ beats) = IsBeatInPeace topology w one far beat × AreBeatsInPeace topology (behind topology w beat) one far beats

-- *Behind four of them* both ports have met, and so it stays
abbrev pub RunsWakeLinks : Type 0
RunsWakeLinks = (policy : Policy) (topology : Topology) (before : List Event) (one far : LinkEnd) (beats : List Beat) → IsRunOfBeats policy topology before beats
    → IsLinkPort one.port → IsLinkPort far.port → one.node.0 ≢ far.node.0 → IsStill (world_at policy topology before) one far
    → AreBeatsInPeace topology (world_at policy topology before) one far beats → 4 ≤ length beats
    → HasWoken (fold (behind topology) (world_at policy topology before) beats) one far
