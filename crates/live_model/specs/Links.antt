-- *Waking* of a link: its two ports, which have lost each other, find the way back

use Rattle.std.specs.Prelude.{◌≡◌, ◌≢◌, ◌⊎◌, ℕ, ◌+◌, ◌≤◌, true, false, List, [], ◌∷◌, ◌++◌, fold, length, Some}
use Rattle.std.specs.Option.{option_map_or}
use Rattle.world_model.specs.Words.{Policy, Place, Down, Up, Out, Cell, has_entry, Session, Clearing, joins_of, labels_of, last_number, Controller, Linked, linked_at, linked_end, controller_at, Topology, World, queue_at, is_empty, next, world_after, past_of, IsTame}
use Rattle.world_model.specs.port_model.Port.{Port}
use Rattle.world_model.specs.Topology.{peer_of}
use Rattle.world_model.specs.network_model.declared.link.LinkEnd.{LinkEnd}
use Rattle.world_model.specs.network_model.declared.event.Event.{Event}
use Rattle.world_model.specs.network_model.declared.event.Event.TheVariants.{Inject, Carry, Tick}
use Rattle.live_model.specs.Beats.{Beat, events_in, behind}
use Rattle.live_model.specs.Met.{HaveMet}
use Rattle.live_model.specs.Waking.{AreBeatsInPeace, events_of}

-- *The number* that a port gives to its next redirection message; 0 without a session
abbrev pub number_of : Port → ℕ
number_of port = option_map_or (λ (s : Session). s.number) port.session 0

-- *A cell is carried unlost*: the ledger has no entry of it behind the carry
abbrev pub IsUnlost : Topology → World → Place → Type 0
IsUnlost topology w place = (cell : Cell) (cells : List Cell) → queue_at w place ≡ cell ∷ cells
    → has_entry (next topology w (Carry place)).notes.entries cell.mark ≡ false

abbrev pub CarriesUnlost : Topology → World → Event → Type 0
CarriesUnlost topology w (Carry place) = IsUnlost topology w place
CarriesUnlost topology w event = Unit {0}

-- *An event is at an end* of a link: at its node, or it carries a cell from there over the link
abbrev pub IsAt : LinkEnd → Event → Type 0
IsAt end (Inject here octets) = here.0 ≡ end.node.0
IsAt end (Carry (Down here)) = here.0 ≡ end.node.0
IsAt end (Carry (Up here)) = here.0 ≡ end.node.0
IsAt end (Carry (Out here port)) = (here.0 ≡ end.node.0) × (port.0 ≡ end.port.0)
IsAt end (Tick here) = here.0 ≡ end.node.0
IsAt end event = ⊥

-- *Nothing is lost* in it: the ledger is as it was behind it, and has no entry of a cell that is carried
pub record LosesNothing (topology : Topology) (w : World) (event : Event) : Type 0 where
  pub entries : (next topology w event).notes.entries ≡ w.notes.entries
  pub unlost : CarriesUnlost topology w event

-- *Numbers are left* to a port: one for each label that it has and for each join of its node, and two more
abbrev pub HasNumbers : World → LinkEnd → Type 0
HasNumbers w end = (c : Controller) (linked : Linked) → controller_at w end.node ≡ Some c → linked_at c end.port ≡ Some linked
    → number_of linked.port + (length (labels_of linked.port) + length (joins_of c)) + 2 ≤ last_number

-- *In peace at a link* nothing is lost in an event at one of its ends, and both ports have numbers left as it comes
pub record IsLinkPeaceful (topology : Topology) (w : World) (one far : LinkEnd) (event : Event) : Type 0 where
  pub unlost : IsAt one event ⊎ IsAt far event → LosesNothing topology w event
  pub numbers : HasNumbers w one
  pub far_numbers : HasNumbers w far

-- *Neither port waits to be cleared*
abbrev pub IsClear : World → LinkEnd → Type 0
IsClear w end = (linked : Linked) → linked_end w end ≡ Some linked → linked.port.adjacency.state ≢ Clearing

abbrev pub AreClear : World → (one far : LinkEnd) → Type 0
AreClear w one far = IsClear w one × IsClear w far

-- *A beat is in peace at a link*, with each of its events, and neither port waits to be cleared as it begins or ends
pub record IsLinkBeatInPeace (topology : Topology) (w : World) (one far : LinkEnd) (beat : Beat) : Type 0 where
  pub peace : (front rest : List Event) (event : Event) → events_in w beat ≡ front ++ event ∷ rest
      → IsLinkPeaceful topology (world_after topology w front) one far event
  pub clear : AreClear w one far
  pub clear_behind : AreClear (behind topology w beat) one far

abbrev pub AreLinkBeatsInPeace : Topology → World → (one far : LinkEnd) → List Beat → Type 0
AreLinkBeatsInPeace topology w one far [] = Unit {0}
AreLinkBeatsInPeace topology w one far (beat ∷ beats) =
    IsLinkBeatInPeace topology w one far beat × AreLinkBeatsInPeace topology (behind topology w beat) one far beats

-- *The two ports have met*: each is in Estab, and has stored the other as it is
pub record HaveMetAt (w : World) (one far : LinkEnd) : Type 0 where
  pub linked : Linked
  pub far_linked : Linked
  pub found : linked_end w one ≡ Some linked
  pub far_found : linked_end w far ≡ Some far_linked
  pub met : HaveMet linked.port.adjacency far_linked.port.adjacency

-- *Wherever in a run* no queue has a cell, and four beats or more in peace at both nodes of a link come next, and then four or more that are
-- in peace at the link besides, its two ports have met behind them, whatever was lost or restarted before; so it is before the first frame
-- that was forged or passed its test by chance
abbrev pub LinksWake : Policy → Topology → List Event → Type 0
LinksWake policy topology events = (before after : List Event) (one far : LinkEnd) (beats more : List Beat)
    → events ≡ (before ++ events_of topology (past_of policy topology before).now (beats ++ more)) ++ after
    → IsTame (past_of policy topology (before ++ events_of topology (past_of policy topology before).now (beats ++ more))).records
    → peer_of topology one.node one.port ≡ Some far → is_empty (past_of policy topology before).now ≡ true
    → AreBeatsInPeace topology (past_of policy topology before).now one.node (beats ++ more)
    → AreBeatsInPeace topology (past_of policy topology before).now far.node (beats ++ more)
    → AreLinkBeatsInPeace topology (fold (behind topology) (past_of policy topology before).now beats) one far more → 4 ≤ length beats → 4 ≤ length more
    → HaveMetAt (fold (behind topology) (past_of policy topology before).now (beats ++ more)) one far
