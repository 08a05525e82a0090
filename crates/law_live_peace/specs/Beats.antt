-- A beat of a run in peace is calm, so two ends of a link that agree at rest do so behind it

use Rattle.std.specs.Prelude.{◌≡◌, true, List, [], ◌∷◌, ◌++◌, map}
use Rattle.world_model.specs.Words.{Policy, Place, Topology, World, next, tick_of_all, world_after, is_empty, past_of, IsRun, IsTame}
use Rattle.world_model.specs.network_model.declared.link.LinkEnd.{LinkEnd}
use Rattle.world_model.specs.network_model.declared.event.Event.{Event}
use Rattle.world_model.specs.network_model.declared.event.Event.TheVariants.{Carry}
use Rattle.live_model.specs.Beats.{Beat, settling, settled}
use Rattle.law_run_facts.specs.ordered_lists.Ordered.{Every}
use Rattle.law_run_facts.specs.law_world_views.Fronts.{HasAddresses}
use Rattle.law_live_nodes.specs.Law.{messages_of}
use Rattle.law_live_worlds.specs.Law.{AgreeIn, IsCalm}
use Rattle.law_live_hearing.specs.Law.{world_at}
use Rattle.law_live_orders.specs.Law.{IsOpenWay}
use Rattle.law_live_orders.specs.Slots.{IsUnlost}
use Rattle.law_live_passed_by.specs.Law.{BringsNone, IsForOthersAt}
use Rattle.law_live_going.specs.Law.{IsWritten}
use Rattle.law_live_going.specs.Beats.{IsCalmBeat}
use Rattle.law_live_ways.specs.Links.{ComesNone}

-- *Two ends rest* as a beat begins: no queue has a cell, both ways are open, both nodes are at peace, and what their ports say can
-- be written
pub record IsResting (topology : Topology) (w : World) (one far : LinkEnd) (agree : AgreeIn w one far [] []) : Type 0 where
  pub empty : is_empty w ≡ true
  pub there : IsOpenWay topology w one far
  pub back : IsOpenWay topology w far one
  pub near : IsCalm w one.node
  pub far_end : IsCalm w far.node
  pub written : Every IsWritten (messages_of agree.linked)
  pub far_written : Every IsWritten (messages_of agree.far_linked)

-- *Its ticks lose none*: each leaves the ledger as it is
abbrev pub TicksLoseNone : Topology → World → Type 0
TicksLoseNone topology w = (front rest : List Event) (event : Event) → tick_of_all w ≡ front ++ event ∷ rest
    → (next topology (world_after topology w front) event).notes.entries ≡ (world_after topology w front).notes.entries

-- *Each of its carries* is in peace: the ledger has no entry of its cell behind it; but for messages on the default channels of the
-- two ports, what it brings their controllers is for others; and no Delete All is on its way to either switch
pub record IsPeacefulCarry (topology : Topology) (w : World) (one far : LinkEnd) (place : Place) : Type 0 where
  pub unlost : IsUnlost topology w place
  pub others : BringsNone w one place → IsForOthersAt w one place
  pub far_others : BringsNone w far place → IsForOthersAt w far place
  pub none : ComesNone w one.node
  pub far_none : ComesNone w far.node

-- behind the ticks and the carries before it
abbrev pub carried : Topology → World → List Place → World
carried topology w places = world_after topology (world_after topology w (tick_of_all w)) (map Carry places)

abbrev pub ArePeacefulCarries : Topology → World → (one far : LinkEnd) → List Place → Type 0
ArePeacefulCarries topology w one far places =
    (front rest : List Place) (place : Place) → places ≡ front ++ place ∷ rest → IsPeacefulCarry topology (carried topology w front) one far place

-- *A beat in peace* of a run before the first frame that was forged or passes by chance; its carries leave no cell in any queue
pub record IsBeatInPeace (policy : Policy) (topology : Topology) (before : List Event) (one far : LinkEnd)
    (agree : AgreeIn (world_at policy topology before) one far [] []) (beat : Beat) : Type 0 where
  pub run : IsRun policy topology (before ++ settling (world_at policy topology before) beat)
  pub addresses : HasAddresses topology
  pub tame : IsTame (past_of policy topology (before ++ settling (world_at policy topology before) beat)).records
  pub rests : IsResting topology (world_at policy topology before) one far agree
  pub ticks : TicksLoseNone topology (world_at policy topology before)
  pub carries : ArePeacefulCarries topology (world_at policy topology before) one far beat.carries
  pub settles : is_empty (settled topology (world_at policy topology before) beat) ≡ true

-- *So it is calm*
abbrev pub BeatsAreCalm : Type 0
BeatsAreCalm = (policy : Policy) (topology : Topology) (before : List Event) (one far : LinkEnd) (beat : Beat)
    (agree : AgreeIn (world_at policy topology before) one far [] []) → IsBeatInPeace policy topology before one far agree beat
    → IsCalmBeat topology (world_at policy topology before) one far agree beat

-- *and both agree at rest* behind it
abbrev pub PeaceIsKept : Type 0
PeaceIsKept = (policy : Policy) (topology : Topology) (before : List Event) (one far : LinkEnd) (beat : Beat)
    (agree : AgreeIn (world_at policy topology before) one far [] []) → IsBeatInPeace policy topology before one far agree beat
    → AgreeIn (settled topology (world_at policy topology before) beat) one far [] []
