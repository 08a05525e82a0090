-- In a run each carry is one by which both ends of a link bind on, by what is so of the network at that moment

use Rattle.std.specs.Prelude.{◌≡◌, ◌<◌, List, [], ◌∷◌, ◌++◌, map}
use Rattle.world_model.specs.Words.{NodeId, Policy, Place, Standing, last_number, Linked, Topology, World, next, world_after, past_of, IsRun, IsTame}
use Rattle.world_model.specs.network_model.declared.link.LinkEnd.{LinkEnd}
use Rattle.world_model.specs.network_model.declared.event.Event.{Event}
use Rattle.world_model.specs.network_model.declared.event.Event.TheVariants.{Carry}
use Rattle.law_live_binding_beats.specs.law_port_facts.ordered_lists.Ordered.{Every}
use Rattle.law_live_binding_beats.specs.law_run_facts.law_world_views.Between.{IsWorld}
use Rattle.law_live_binding_beats.specs.law_run_facts.law_world_views.Kept.{Comes}
use Rattle.law_live_binding_beats.specs.law_run_facts.law_world_views.Fronts.{HasAddresses}
use Rattle.law_live_binding_beats.specs.law_live_hearing.Law.{world_at}
use Rattle.law_live_binding_beats.specs.law_live_links.Law.{EndOfLink, number_of}
use Rattle.law_live_binding_beats.specs.law_live_worlds.Law.{Shows, end_of}
use Rattle.law_live_binding_beats.specs.law_live_orders.Law.{IsOpenWay}
use Rattle.law_live_binding_beats.specs.law_live_orders.Slots.{IsUnlost}
use Rattle.law_live_binding_beats.specs.law_live_control_links.Law.{IsCalmLink, IsUnspentAt, CarriesOutNext}
use Rattle.law_live_binding_beats.specs.law_live_bindings.Law.{TakesInRange, HasRoomFor}
use Rattle.law_live_binding_beats.specs.Law.{BindByQueues, IsBindingCarry, AreBindingCarries}
use Rattle.law_live_brought.specs.Law.{IsBranchOrJoin}

-- *A node lets its ports bind* at an event: its control link is calm; no change of routes waits, and each of its ports has a number left;
-- branches and joins alone stand at its desk; its switch carries out what comes to it next, and behind the event its transaction
-- numbers aren't spent
pub record LetsBind (topology : Topology) (w : World) (node : NodeId) (event : Event) : Type 0 where
  pub link : IsCalmLink w node
  pub none_waits : link.site.controller.waiting ≡ []
  pub numbers : Every (λ (linked : Linked). number_of linked.port < last_number) link.site.controller.ports
  pub asks : Every (λ (s : Standing). IsBranchOrJoin s.request) link.site.controller.desk.standing
  pub carries_out : CarriesOutNext w node
  pub unspent : IsUnspentAt (next topology w event) node

-- *An end may bind on*: a label that its port would take next is one that the other end takes too, and there is room for what is new in
-- each message that is on its way to it
pub record MayBindOn (w : World) (one : LinkEnd) {linked : Linked} (shows : Shows w one linked) (other : EndOfLink) : Type 0 where
  pub range : TakesInRange (end_of linked []) other.setup
  pub room : Every (HasRoomFor shows.site.controller.desk w.numbers.instances (end_of linked [])) other.said

-- *A moment to bind on*, where both ends bind: both ways are open; the carry that comes loses nothing, and the ledger has no entry of its
-- cell behind it; both nodes let their ports bind, and both ends may bind on
pub record IsMomentToBind (topology : Topology) {w : World} {one far : LinkEnd} (ends : BindByQueues w one far) (place : Place) : Type 0 where
  pub there : IsOpenWay topology w one far
  pub back : IsOpenWay topology w far one
  pub loses_nothing : (next topology w (Carry place)).notes.entries ≡ w.notes.entries
  pub unlost : IsUnlost topology w place
  pub near : LetsBind topology w one.node (Carry place)
  pub far_end : LetsBind topology w far.node (Carry place)
  pub may : MayBindOn w one ends.bind.shows (end_of ends.bind.far_linked ends.far_said)
  pub far_may : MayBindOn w far ends.bind.far_shows (end_of ends.bind.linked ends.said)

-- *Then the carry is one by which they bind on*, in a run before the first frame that is forged or passes by chance, whatever it brings
abbrev pub CarriesBind : Type 0
CarriesBind = (policy : Policy) (topology : Topology) (before : List Event) (one far : LinkEnd) (place : Place) → Comes policy topology before (Carry place)
    → IsWorld (past_of policy topology before) → (ends : BindByQueues (world_at policy topology before) one far) → IsMomentToBind topology ends place
    → IsBindingCarry topology ends place

-- *So are all carries of a stretch* of such a run, each of which comes at such a moment: both ends bind on through it
pub record IsRunOfCarries (policy : Policy) (topology : Topology) (before : List Event) (places : List Place) : Type 0 where
  pub run : IsRun policy topology (before ++ map Carry places)
  pub addresses : HasAddresses topology
  pub tame : IsTame (past_of policy topology (before ++ map Carry places)).records

abbrev pub AreMomentsToBind : Topology → World → (one far : LinkEnd) → List Place → Type 0
AreMomentsToBind topology w one far places = (front rest : List Place) (place : Place) → places ≡ front ++ place ∷ rest
    → (ends : BindByQueues (world_after topology w (map Carry front)) one far) → IsMomentToBind topology ends place

abbrev pub StretchesBind : Type 0
StretchesBind = (policy : Policy) (topology : Topology) (before : List Event) (one far : LinkEnd) (places : List Place) → IsRunOfCarries policy topology before places
    → AreMomentsToBind topology (world_at policy topology before) one far places → AreBindingCarries topology (world_at policy topology before) one far places
