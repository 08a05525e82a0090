-- A *calm* beat: nothing is lost in it, numbers and room are left, and as it begins each label is joined, or the policy keeps it

use Rattle.std.specs.Prelude.{◌≡◌, ◌+◌, ◌<◌, ◌||◌, true, not, Bool, is_none, List, [], ◌∷◌, ◌++◌, length, flat_map, Some}
use Rattle.std.specs.List.{list_all}
use Rattle.ordered_lists.specs.Ordered.{Every}
use Rattle.world_model.specs.Words.{NodeId, Setup, Label, labels_of, most_grants, most_asked, last_number, last_transaction, one_idler, inputs_at, Controller, Linked, Topology, World, controller_at, next, world_after, is_empty}
use Rattle.world_model.specs.network_model.declared.event.Event.{Event}
use Rattle.live_model.specs.Beats.{Beat, is_sending, events_in, behind, IsBeat}
use Rattle.live_model.specs.Links.{number_of, CarriesUnlost}

-- *A port has room*: numbers for what it says next and for a REDIRECT of each label that it holds, and one grant and one request more
pub record PortHasRoom (c : Controller) (linked : Linked) : Type 0 where
  pub numbers : number_of linked.port + length (labels_of linked.port) < last_number
  pub grants : length linked.port.grants < most_grants
  pub requests : length c.desk.standing < most_asked

-- *A controller has room*: transaction numbers for one request more, and for a join of each label that its ports hold; and so have its ports
pub record HasRoom (c : Controller) : Type 0 where
  pub numbers : c.desk.next + length (flat_map inputs_at c.ports) < last_transaction
  pub ports : Every (PortHasRoom c) c.ports

-- *All have room*, whatever controllers there are
abbrev pub HaveRoom : World → Type 0
HaveRoom w = (node : NodeId) (c : Controller) → controller_at w node ≡ Some c → HasRoom c

-- *An event is calm*: nothing is lost in it, and all have room behind it
pub record IsCalm (topology : Topology) (w : World) (event : Event) : Type 0 where
  pub entries : (next topology w event).notes.entries ≡ w.notes.entries
  pub unlost : CarriesUnlost topology w event
  pub room : HaveRoom (next topology w event)

-- *A label is kept* at a tick: it is joined, or the policy keeps it for one tick more without a packet
abbrev pub is_kept : Setup → Label → Bool
is_kept setup label = not (is_none label.join) || setup.policy.keeps label.flow (one_idler label).idle

abbrev pub AreKept : Controller → Type 0
AreKept c = Every (λ (linked : Linked). Every (λ (label : Label). is_kept linked.setup label ≡ true) (labels_of linked.port)) c.ports

-- *A beat is calm*: as it begins all have room, and their labels are kept; and each of its events is calm
pub record IsCalmBeat (topology : Topology) (w : World) (beat : Beat) : Type 0 where
  pub is_beat : IsBeat topology w beat
  pub room : HaveRoom w
  pub kept : (node : NodeId) (c : Controller) → controller_at w node ≡ Some c → AreKept c
  pub calm : (front rest : List Event) (event : Event) → events_in w beat ≡ front ++ event ∷ rest → IsCalm topology (world_after topology w front) event

abbrev pub AreCalmBeats : Topology → World → List Beat → Type 0
AreCalmBeats topology w [] = Unit {0}
AreCalmBeats topology w (beat ∷ beats) = IsCalmBeat topology w beat × AreCalmBeats topology (behind topology w beat) beats

-- *Calm events without ticks*: packets that enter and cells that are carried, until no queue has a cell; all have room as they begin, and each is calm
pub record IsCalmSending (topology : Topology) (w : World) (events : List Event) : Type 0 where
  pub sends : list_all is_sending events ≡ true
  pub room : HaveRoom w
  pub calm : (front rest : List Event) (event : Event) → events ≡ front ++ event ∷ rest → IsCalm topology (world_after topology w front) event
  pub empties : is_empty (world_after topology w events) ≡ true
