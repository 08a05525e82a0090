-- what a look tells of an event that is to come

use Rattle.std.proofs.Common.{◌≡◌, ℕ, List, [], ◌++◌, length, Option, None, Some, refl, ◌∙◌, ap, subst}
use Rattle.net_types.specs.declared.node.Place.{Place}
use Rattle.atm_cells.specs.declared.cell.Cell.{Cell}
use Rattle.link_model.specs.Notes.{Journal}
use Rattle.world_model.specs.Conditions.{CanCome}
use Rattle.world_model.specs.Controller.{Controller as Model}
use Rattle.world_model.specs.network_model.declared.event.Event.{Event}
use Rattle.world_model.specs.network_model.declared.event.Event.TheVariants.{Inject, Carry, Lose, Tick, TickSwitch, Restart, RestartSwitch, Forge, Route}
use Rattle.world_model.specs.Places.{queue_at}
use Rattle.world_model.specs.Run.{next}
use Rattle.world_model.specs.Topology.{Topology}
use Rattle.world_model.specs.World.{World}
use Rattle.world.specs.declared.world.World.{World as Network}
use Rattle.world.specs.Network.{no_notes, world_of}
use Rattle.world.specs.law_world_pace.Running.{IsRunning}
use Rattle.world.specs.Running.{Runs}
use Rattle.telling_model.specs.Passing.{left, cells_put, source_of, cell_taken, taken_from}
use Rattle.telling_model.specs.declared.standing.Standing.{Standing}
use Rattle.law_passing.specs.telling_model.declared.reached.Reached.{Reached}
use Rattle.law_passing.specs.Reached.{reached}
use Rattle.tell_passing.specs.declared.before.Before.{Before}
use Rattle.tell_passing.specs.declared.lengths.Lengths.{Lengths}
use Rattle.tell_passing.specs.declared.lengths.Lengths.TheVariants.{Nobody, Controller, Switch}
use Rattle.tell_passing.specs.Lengths.{AreLengths, all_behind}
use Rattle.tell_passing.specs.Look.{IsActorIn, IsBefore, IsBehind, IsOwnerIn}
use Rattle.tell_passing.proofs.Coming.{actor_in}
use Rattle.tell_passing.proofs.Reaching.{reached_is}
use Rattle.tell_passing.proofs.Telling.{behind_notes, lengths_left, put_is}

module _ {C : Type 0} (seen : C → Model) (n : Network C) (notes : Journal) (t : Topology) where
  -- *The notes* don't matter
  running_with : IsRunning t (world_of seen n no_notes) → IsRunning t (world_of seen n notes)
  running_with r = record { topology_is = r.topology_is; nodes = r.nodes; sites = r.sites; instances = r.instances; controls = r.controls; sent = r.sent }

  taken_with : (source : Option Place) → taken_from (world_of seen n no_notes) source ≡ taken_from (world_of seen n notes) source
  taken_with None = refl
  taken_with (Some place) = refl

  reached_with : (event : Event) → reached t (world_of seen n no_notes) event ≡ reached t (world_of seen n notes) event
  reached_with (Inject node octets) = refl
  reached_with (Carry place) = refl
  reached_with (Lose place) = refl
  reached_with (Tick node) = refl
  reached_with (TickSwitch node) = refl
  reached_with (Restart node) = refl
  reached_with (RestartSwitch node) = refl
  reached_with (Forge place channel payload) = refl
  reached_with (Route node change) = refl

  -- *Before the event*
  pub look_is : (event : Event) (first : Option Standing) (count : ℕ) (actor : Reached) (lengths : Lengths) → Runs seen t n → CanCome t (world_of seen n notes) event
      → first ≡ cell_taken (world_of seen n no_notes) event → count ≡ length notes.frames → actor ≡ reached t (world_of seen n no_notes) event
      → AreLengths (queue_at (world_of seen n no_notes)) actor lengths → IsBefore t (world_of seen n notes) event (record { taken = first; made = count; lengths = lengths })
  look_is event first count actor lengths runs come is made who ls =
      let w : World = world_of seen n notes in
      let running : IsRunning t w = running_with runs.world in
      record {
        world = running;
        come = come;
        taken = is ∙ taken_with (source_of event);
        made = made;
        lengths = lengths_left t w event lengths running (subst (λ a. AreLengths (queue_at w) a lengths) (who ∙ reached_with event) ls);
      }

  -- *Behind it*
  pub put_behind : (then : World) (event : Event) (before : Before) (out start : List Standing) → IsBefore t then event before → world_of seen n notes ≡ next t then event → start ≡ []
      → out ≡ start ++ all_behind t (world_of seen n no_notes) before.lengths → out ≡ cells_put t then event
  put_behind then event before out start looked came none is =
      is ∙ ap (λ items. items ++ all_behind t (world_of seen n no_notes) before.lengths) none
      ∙ behind_notes seen t n notes before.lengths ∙ ap (λ w. all_behind t w before.lengths) came ∙ put_is t then event before looked

-- the actor whose queues were looked at is one of the network's
module _ {C : Type 0} (seen : C → Model) (n : Network C) where
  owner_of : (cells : Place → List Cell) (who : Reached) (lengths : Lengths) → AreLengths cells who lengths → IsActorIn n who → IsOwnerIn n lengths
  owner_of cells who Nobody e is = tt
  owner_of cells who (Controller node l) e is = subst (IsActorIn n) e.0 is
  owner_of cells who (Switch node ls) e is = subst (IsActorIn n) e.0 is

  pub owner_in : (before : Before) → IsBehind seen n before → IsOwnerIn n before.lengths
  owner_in before b = owner_of (left b.then b.event) (reached b.topology b.then b.event) before.lengths b.looked.lengths
      (actor_in seen n b.topology b.runs (reached b.topology b.then b.event) (reached_is b.topology b.looked.world.topology_is b.then b.event b.looked.come.meant))
