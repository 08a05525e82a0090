-- what stands behind what was left is what was put

use Rattle.std.proofs.Common.{◌≡◌, ◌≢◌, ℕ, zero, suc, ◌+◌, ◌<◌, ◌≤◌, ◌==◌, true, false, List, [], ◌++◌, length, map, append-nil, slice_index_or, flat_map, Option, None, Some, refl, sym, ◌∙◌, ap, subst, arith, if◌then◌else◌}
use Rattle.std.specs.Prelude.{drop}
use Rattle.std.proofs.lemmas.Bool.Decides.{nat_tests}
use Rattle.std.proofs.lemmas.Grind.{flat_map-append}
use Rattle.net_types.specs.declared.node.NodeId.{NodeId}
use Rattle.net_types.specs.declared.node.Place.{Place}
use Rattle.net_types.specs.declared.node.Place.TheVariants.{Down, Up, Out}
use Rattle.link_model.specs.Notes.{Journal}
use Rattle.world_model.specs.Lines.{is_linked}
use Rattle.world_model.specs.Controller.{Controller as Model}
use Rattle.world_model.specs.Conditions.{IsNode}
use Rattle.world_model.specs.network_model.declared.event.Event.{Event}
use Rattle.world_model.specs.Places.{place_node, places, queue_at}
use Rattle.world_model.specs.Run.{next}
use Rattle.world_model.specs.Topology.{Topology, linked_ports}
use Rattle.world_model.specs.World.{World}
use Rattle.world_model.proofs.Lists.{by_eq}
use Rattle.world.specs.declared.world.World.{World as Network}
use Rattle.world.specs.Network.{no_notes, world_of}
use Rattle.world.specs.law_world_pace.Running.{IsRunning, numbered}
use Rattle.world.proofs.law_world_pace.Running.{places_are, places_at, places_from}
use Rattle.telling_model.specs.Passing.{left, left_from, cells_put, cells_put_at, source_of, standing}
use Rattle.telling_model.specs.declared.standing.Standing.{Standing}
use Rattle.law_passing.specs.telling_model.declared.reached.Reached.{Reached}
use Rattle.law_passing.specs.telling_model.declared.reached.Reached.TheVariants as actors
use Rattle.law_passing.specs.Reached.{owns, reached}
use Rattle.law_passing.proofs.Worlds.{of_the_actor, owned_left}
use Rattle.tell_passing.specs.declared.before.Before.{Before}
use Rattle.tell_passing.specs.declared.lengths.Lengths.{Lengths}
use Rattle.tell_passing.specs.declared.lengths.Lengths.TheVariants.{Nobody, Controller, Switch}
use Rattle.tell_passing.specs.Lengths.{AreLengths, all_behind, behind, behind_at, link_ports}
use Rattle.tell_passing.specs.Look.{IsBefore}
use Rattle.tell_passing.proofs.Flat.{AreLow, flat_chosen, flat_mapped, flat_none, flat_same}
use Rattle.tell_passing.proofs.Reaching.{IsActorOf, reached_is}

-- *All places but one node's* have nothing
module _ {B : Type 0} (t : Topology) (f : Place → List B) (k : ℕ) (away : (place : Place) → (place_node place).0 ≢ k → f place ≡ []) where
  none_at : (number : ℕ) → number ≢ k → flat_map f (places_at t number) ≡ []
  none_at number apart = λ i. away (Down (numbered number)) apart i ++ (away (Up (numbered number)) apart i ++ outs i)
    where
      outs : flat_map f (map (λ port. Out (numbered number) port) (linked_ports t (numbered number))) ≡ []
      outs = flat_mapped f (λ port. Out (numbered number) port) (linked_ports t (numbered number))
          ∙ flat_none (λ port. f (Out (numbered number) port)) (linked_ports t (numbered number)) (λ port. away (Out (numbered number) port) apart)

  none_from : (number count : ℕ) → k < number → flat_map f (places_from t number count) ≡ []
  unfolding places_from
  none_from number zero low = refl
  none_from number (suc count) low = flat_map-append f (places_at t number) (places_from t (suc number) count)
      ∙ (λ i. none_at number (λ e. absurd (omega (arith, e, low))) i ++ none_from (suc number) count (omega (arith, low)) i)

  one_from : (number count : ℕ) → number ≤ k → k < number + count → flat_map f (places_from t number count) ≡ flat_map f (places_at t k)
  unfolding places_from
  one_from number zero low high = absurd (omega (arith, low, high))
  one_from number (suc count) low high = flat_map-append f (places_at t number) (places_from t (suc number) count) ∙ by_eq number k
      (λ same e. (λ i. flat_map f (places_at t (same i)) ++ none_from (suc number) count (omega (arith, same)) i) ∙ append-nil (flat_map f (places_at t k)))
      (λ apart e. λ i. none_at number apart i ++ one_from (suc number) count (omega (arith, low, apart)) (omega (arith, high)) i)

not_one : (a b : ℕ) → b ≢ a → (a == b) ≡ false
not_one a b apart = grind (arith, nat_tests, apart)

all_low : AreLow link_ports
all_low = (omega arith, (omega arith, (omega arith, (omega arith, (omega arith, (omega arith, (omega arith, (omega arith, tt))))))))

-- port 0 of a switch leads to its controller
left_up : (w : World) (source : Option Place) (node : NodeId) → left_from w source (Up node) ≡ left_from w source (Out node (record { 0 = 0 }))
left_up w None node = refl
left_up w (Some source) node = refl

module _ (t : Topology) (w : World) (event : Event) (running : IsRunning t w) where
  abbrev told_at : Place → List Standing
  told_at place = map (standing place) (cells_put_at t w event place)

  order : places w ≡ places_from t 1 (length w.sites)
  order = places_are t w.events 1 w.sites running.sites

  -- nothing is told of what the actor doesn't own
  not_told : (who : Reached) → reached t w event ≡ who → (place : Place) → owns who place ≡ false → told_at place ≡ []
  not_told who is place e = ap (map (standing place)) (of_the_actor t w event place (ap (λ a. owns a place) is ∙ e))

  told_behind : (l : ℕ) (place : Place) → l ≡ length (left w event place) → behind (next t w event) l place ≡ told_at place
  told_behind l place e = ap (λ n. map (standing place) (drop n (queue_at (next t w event) place))) e

  at_node : (node : NodeId) → IsNode t node → ((place : Place) → (place_node place).0 ≢ node.0 → told_at place ≡ []) → cells_put t w event ≡ flat_map told_at (places_at t node.0)
  at_node node there away = ap (flat_map told_at) order ∙ one_from t told_at node.0 away 1 (length w.sites) there.0 (omega (arith, there.1, running.nodes))

  put_by : (lengths : Lengths) → AreLengths (left w event) (reached t w event) lengths → IsActorOf t (reached t w event) → all_behind t (next t w event) lengths ≡ cells_put t w event
  put_by Nobody e there = sym (flat_none told_at (places w) (λ place. not_told actors.Nobody e place refl))
  put_by (Controller node l) e there = sym (at_node node (subst (IsActorOf t) e.0 there) away
      ∙ (λ i. told_at (Down node) ++ (not_told (actors.Controller node) e.0 (Up node) refl i ++ outs i)) ∙ append-nil (told_at (Down node)) ∙ sym (told_behind l (Down node) e.1))
    where
      away : (place : Place) → (place_node place).0 ≢ node.0 → told_at place ≡ []
      away (Down n) apart = not_told (actors.Controller node) e.0 (Down n) (not_one node.0 n.0 apart)
      away (Up n) apart = not_told (actors.Controller node) e.0 (Up n) refl
      away (Out n p) apart = not_told (actors.Controller node) e.0 (Out n p) refl

      outs : flat_map told_at (map (λ port. Out node port) (linked_ports t node)) ≡ []
      outs = flat_mapped told_at (λ port. Out node port) (linked_ports t node) ∙ flat_none (λ port. told_at (Out node port)) (linked_ports t node) (λ port. not_told (actors.Controller node) e.0 (Out node port) refl)
  put_by (Switch node ls) e there = sym (at_node node (subst (IsActorOf t) e.0 there) away
      ∙ (λ i. not_told (actors.Switch node) e.0 (Down node) refl i ++ (sym up i ++ outs i)))
    where
      away : (place : Place) → (place_node place).0 ≢ node.0 → told_at place ≡ []
      away (Down n) apart = not_told (actors.Switch node) e.0 (Down n) refl
      away (Up n) apart = not_told (actors.Switch node) e.0 (Up n) (not_one node.0 n.0 apart)
      away (Out n p) apart = not_told (actors.Switch node) e.0 (Out n p) (not_one node.0 n.0 apart)

      up : behind (next t w event) (slice_index_or ls 0 0) (Up node) ≡ told_at (Up node)
      up = told_behind (slice_index_or ls 0 0) (Up node) (e.1 (record { 0 = 0 }) (omega arith) ∙ sym (ap length (left_up w (source_of event) node)))

      outs : flat_map told_at (map (λ port. Out node port) (linked_ports t node)) ≡ flat_map (behind_at t (next t w event) node ls) link_ports
      outs = flat_mapped told_at (λ port. Out node port) (linked_ports t node)
          ∙ flat_chosen (λ port. is_linked t node port) (λ port. told_at (Out node port)) link_ports
          ∙ flat_same (λ port. if is_linked t node port then told_at (Out node port) else []) (behind_at t (next t w event) node ls)
          (λ port low. ap (λ cells. if is_linked t node port then cells else []) (sym (told_behind (slice_index_or ls port.0 0) (Out node port) (e.1 port low)))) link_ports all_low

-- *What is behind* is what was put
pub put_is : (t : Topology) (w : World) (event : Event) (before : Before) → IsBefore t w event before → all_behind t (next t w event) before.lengths ≡ cells_put t w event
put_is t w event before b = put_by t w event b.world before.lengths b.lengths (reached_is t b.world.topology_is w event b.come.meant)

-- the notes don't matter
pub behind_notes : {C : Type 0} (seen : C → Model) (t : Topology) (n : Network C) (notes : Journal) (lengths : Lengths) → all_behind t (world_of seen n no_notes) lengths ≡ all_behind t (world_of seen n notes) lengths
behind_notes seen t n notes Nobody = refl
behind_notes seen t n notes (Controller node l) = refl
behind_notes seen t n notes (Switch node ls) = refl

-- *What waits* is what is left, where the actor owns it
pub lengths_left : (t : Topology) (w : World) (event : Event) (lengths : Lengths) → IsRunning t w → AreLengths (queue_at w) (reached t w event) lengths → AreLengths (left w event) (reached t w event) lengths
lengths_left t w event Nobody r e = e
lengths_left t w event (Controller node l) r e =
    (e.0, e.1 ∙ sym (ap length (owned_left t r.topology_is w event (Down node) (ap (λ who. owns who (Down node)) e.0 ∙ one node.0))))
  where
    one : (n : ℕ) → (n == n) ≡ true
    one n = grind (arith, nat_tests)
lengths_left t w event (Switch node ls) r e =
    (e.0, λ port low. e.1 port low ∙ sym (ap length (owned_left t r.topology_is w event (Out node port) (ap (λ who. owns who (Out node port)) e.0 ∙ one node.0))))
  where
    one : (n : ℕ) → (n == n) ≡ true
    one n = grind (arith, nat_tests)
