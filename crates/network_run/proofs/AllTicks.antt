-- the ticks of all actors of a network that runs

use Rattle.std.proofs.Common.{◌≡◌, ℕ, zero, suc, ◌+◌, ◌≤◌, List, [], ◌∷◌, ◌++◌, length, map, slice_get, Some, sym, ◌∙◌, ap, subst, arith}
use Rattle.std.specs.Prelude.{◌<◌, ◌-◌}
use Rattle.net_types.specs.declared.node.NodeId.{NodeId}
use Rattle.link_model.specs.Notes.{Journal}
use Rattle.world_model.specs.network_model.declared.event.Event.{Event}
use Rattle.world_model.specs.network_model.declared.event.Event.TheVariants.{Tick, TickSwitch}
use Rattle.world_model.specs.Conditions.{IsEvent, IsNode}
use Rattle.world_model.specs.Run.{switch_tick_of, tick_of, tick_of_all}
use Rattle.world_model.specs.Topology.{Topology}
use Rattle.world_model.specs.World.{World, Site}
use Rattle.world.specs.law_world_pace.Running.{AreRunning, IsRunning, numbered}
use Rattle.network_run.proofs.Turns.{map_length}
use Rattle.world.proofs.Places.{get_append, get_map}

-- whatever the notes are
pub at_notes : (t : Topology) (w : World) (notes : Journal) → IsRunning t w → IsRunning t (record w { notes = notes })
at_notes t w notes h = record { topology_is = h.topology_is; nodes = h.nodes; sites = h.sites; instances = h.instances; controls = h.controls; sent = h.sent }

length_both : {A : Type 0} (xs ys : List A) → length (xs ++ ys) ≡ length xs + length ys
length_both [] ys = omega arith
length_both (x ∷ xs) ys = (let more : length (xs ++ ys) ≡ length xs + length ys = length_both xs ys in omega (arith, more))

pub ticks_length : (t : Topology) (w : World) (n : ℕ) → IsRunning t w → n ≡ length t.nodes → length (tick_of_all w) ≡ n + n
ticks_length t w n runs e =
    (let both : length (tick_of_all w) ≡ length (map tick_of w.sites) + length (map switch_tick_of w.sites) = length_both (map tick_of w.sites) (map switch_tick_of w.sites) in
    let one : length (map tick_of w.sites) ≡ length w.sites = map_length tick_of w.sites in
    let other : length (map switch_tick_of w.sites) ≡ length w.sites = map_length switch_tick_of w.sites in
    omega (arith, both, one, other, runs.nodes, e))

get_of : (f : NodeId → Event) (t : Topology) (events number : ℕ) (sites : List Site) → AreRunning t events number sites → (i : ℕ) → i < length sites
    → slice_get (map (λ (site : Site). f site.controller.node) sites) i ≡ Some (f (numbered (number + i)))
get_of f t events number [] h i low = absurd (omega (arith, low))
get_of f t events number (site ∷ sites) h zero low =
    (let same : site.controller.node.0 ≡ number + 0 = omega (arith, h.0.node) in ap (λ (k : ℕ). Some (f (numbered k))) same)
get_of f t events number (site ∷ sites) h (suc i) low =
    (let up : suc number + i ≡ number + suc i = omega arith in
    get_of f t events (suc number) sites h.1 i (omega (arith, low)) ∙ ap (λ (k : ℕ). Some (f (numbered k))) up)

two_get : {A : Type 0} (xs ys : List A) (i : ℕ) (x : A) → (i < length xs → slice_get xs i ≡ Some x) → ((j : ℕ) → i ≡ length xs + j → slice_get ys j ≡ Some x) → slice_get (xs ++ ys) i ≡ Some x
two_get [] ys i x f g = g i (omega arith)
two_get (y ∷ xs) ys zero x f g = f (omega arith)
two_get (y ∷ xs) ys (suc i) x f g = two_get xs ys i x (λ low. f (omega (arith, low))) (λ j e. g j (omega (arith, e)))

pub tick_is : (t : Topology) (w : World) (i n : ℕ) (event : Event) → IsRunning t w → n ≡ length t.nodes → i < n + n
    → (i < n → event ≡ Tick (numbered (i + 1))) → (n ≤ i → event ≡ TickSwitch (numbered (i - n + 1))) → slice_get (tick_of_all w) i ≡ Some event
tick_is t w i n event runs e low one other = two_get (map tick_of w.sites) (map switch_tick_of w.sites) i event first second
  where
    first : i < length (map tick_of w.sites) → slice_get (map tick_of w.sites) i ≡ Some event
    first h =
        (let all : length (map tick_of w.sites) ≡ length w.sites = map_length tick_of w.sites in
        let up : 1 + i ≡ i + 1 = omega arith in
        get_of Tick t w.events 1 w.sites runs.sites i (omega (arith, h, all)) ∙ ap (λ (k : ℕ). Some (Tick (numbered k))) up ∙ ap Some (sym (one (omega (arith, h, all, runs.nodes, e)))))

    second : (j : ℕ) → i ≡ length (map tick_of w.sites) + j → slice_get (map switch_tick_of w.sites) j ≡ Some event
    second j h =
        (let all : length (map tick_of w.sites) ≡ length w.sites = map_length tick_of w.sites in
        let up : 1 + j ≡ i - n + 1 = omega (arith, h, all, runs.nodes, e) in
        get_of TickSwitch t w.events 1 w.sites runs.sites j (omega (arith, h, all, runs.nodes, e, low)) ∙ ap (λ (k : ℕ). Some (TickSwitch (numbered k))) up ∙ ap Some (sym (other (omega (arith, h, all, runs.nodes, e)))))

node_is : (t : Topology) (events number : ℕ) (sites : List Site) → AreRunning t events number sites → 1 ≤ number → number + length sites ≤ suc (length t.nodes)
    → (i : ℕ) (site : Site) → slice_get sites i ≡ Some site → IsNode t site.controller.node
node_is t events number [] h low high i site e = absurd (cc e)
node_is t events number (x ∷ sites) h low high zero site e =
    (let same : x ≡ site = cc in subst (λ (y : Site). IsNode t y.controller.node) same (omega (arith, h.0.node, low), omega (arith, h.0.node, high)))
node_is t events number (x ∷ sites) h low high (suc i) site e = node_is t events (suc number) sites h.1 (omega (arith, low)) (omega (arith, high)) i site e

pub tick_meant : (t : Topology) (first w : World) (i : ℕ) (event : Event) → IsRunning t first → slice_get (tick_of_all first) i ≡ Some event → IsEvent t w event
tick_meant t first w i event runs e =
    get_append (IsEvent t w) (map tick_of first.sites) (map switch_tick_of first.sites)
    (get_map (IsEvent t w) tick_of first.sites (node_is t first.events 1 first.sites runs.sites (omega arith) (omega (arith, runs.nodes))))
    (get_map (IsEvent t w) switch_tick_of first.sites (node_is t first.events 1 first.sites runs.sites (omega arith) (omega (arith, runs.nodes))))
    i event e
