-- marks and instances of every world of a run are at most those given out

use Rattle.std.proofs.Common.{◌≡◌, ℕ, zero, suc, ◌<◌, ◌≤◌, List, [], ◌∷◌, ◌++◌, length, slice_index_or, Option, None, Some, refl, sym, ap, subst, arith, true}
use Rattle.std.specs.Prelude.{Contains}
use Rattle.std.specs.Option.{option_map, option_map_or, option_and_then}
use Rattle.law_world_pace.specs.world_model.Words.{NodeId, PortNo, Place, Cell, at, Policy, Controller, Linked, linked_at, port_key, default_home, same_channel, Topology, World, Site, site_key, site_at, queue_at, chain_at, answers_chain_at, requests_chain_at, world_after, past_of}
use Rattle.law_controller_bindings.specs.ordered_lists.Ordered.{Every, InOrder}
use Rattle.law_controller_bindings.proofs.ordered_lists.Every.{every_join, every_map}
use Rattle.law_controller_bindings.proofs.ordered_lists.InOrder.{order_unmapped}
use Rattle.law_controller_bindings.proofs.law_port_facts.Keyed.{at_every, at_key, each_found}
use Rattle.law_controller_bindings.specs.law_controller_facts.Sound.{IsSound, AreApart, linked_setup, setups_by}
use Rattle.law_controller_bindings.proofs.law_controller_facts.Laws.{always_sound}
use Rattle.law_run_facts.specs.Inputs.{IsMarked}
use Rattle.law_run_facts.proofs.Switches.{AreMarked}
use Rattle.law_run_facts.proofs.Owns.{port_own}
use Rattle.law_lifetimes.proofs.Opened.{IsFed, opening_fed}
use Rattle.law_lifetimes.proofs.Runs.{run_fed}
use Rattle.law_world_pace.specs.world_model.network_model.declared.event.Event.{Event}
use Rattle.law_world_pace.specs.world_model.network_model.declared.link.LinkEnd.{LinkEnd}
use Rattle.law_world_pace.specs.world_model.World.{opened}
use Rattle.law_world_views.specs.Between.{HasNumbers, HasAllNumbers}
use Rattle.law_world_views.specs.Kept.{Keeps, Begins}
use Rattle.law_run_facts.proofs.Marked.{IsController, IsSwitch, IsPort, SiteMarked, WorldMarked, queue_marked}
use Rattle.law_run_facts.proofs.Runs.{Any, any_marked}

pub some_of : {A : Type 0} (P : A → Type 0) (xs : List A) (x : A) → Every P xs → Contains xs x → P x
some_of {A} P xs x all c = by xs all c.0 c.1 c.2
  where
    by : (ys : List A) → Every P ys → (k : ℕ) → k < length ys → slice_index_or ys k x ≡ x → P x
    by [] a k low e = absurd (omega (arith, low))
    by (y ∷ ys) a zero low e = subst P e a.0
    by (y ∷ ys) a (suc k) low e = by ys a.1 k (omega (arith, low)) e

module _ (w : World) (h : WorldMarked Any w) (fed : Every IsFed w.sites) where
  at_site : (node : NodeId) (site : Site) → site_at w node ≡ Some site → SiteMarked Any w.numbers site
  at_site node site found = at_every site_key (SiteMarked Any w.numbers) node.0 w.sites site h.sites found

  in_queue : (place : Place) (cell : Cell) → Contains (queue_at w place) cell → IsMarked w.numbers.controls cell
  in_queue place cell c = some_of (IsMarked w.numbers.controls) (queue_at w place) cell (queue_marked Any w place h) c

  requests : (node : NodeId) → AreMarked w.numbers.controls (requests_chain_at w node)
  requests node = by (site_at w node) refl
    where
      by : (o : Option Site) → site_at w node ≡ o → AreMarked w.numbers.controls (option_map_or (λ (site : Site). site.switch.reassembly.chain) o [])
      by None e = tt
      by (Some site) e = (at_site node site e).requests

  answers : (node : NodeId) → AreMarked w.numbers.controls (answers_chain_at w node)
  answers node = by (site_at w node) refl
    where
      by : (o : Option Site) → site_at w node ≡ o → AreMarked w.numbers.controls (option_map_or (λ (c : Controller). c.reassembly.chain) (option_map (λ (site : Site). site.controller) o) [])
      by None e = tt
      by (Some site) e = (at_site node site e).chain

  -- the chain of a port's default channel
  abbrev IsOf : PortNo → Cell → Type 0
  IsOf port cell = (same_channel cell.header.channel (default_home port).channel ≡ true) × IsMarked w.numbers.controls cell

  ports_chain : (end : LinkEnd) → Every (IsOf end.port) (chain_at w end)
  ports_chain end = by (site_at w end.node) refl
    where
      by_port : (site : Site) → SiteMarked Any w.numbers site → (o : Option Linked) → linked_at site.controller end.port ≡ o → Every (IsOf end.port) (option_map_or (λ (linked : Linked). linked.reassembly.chain) o [])
      by_port site s None e = tt
      by_port site s (Some linked) e =
          let own : linked.setup.port.0 ≡ end.port.0 = at_key port_key end.port.0 site.controller.ports linked e in
          subst (λ n. Every (IsOf (record { 0 = n })) linked.reassembly.chain) own
          (at_every port_key (λ (x : Linked). Every (λ (cell : Cell). (same_channel cell.header.channel (default_home x.setup.port).channel ≡ true) × IsMarked w.numbers.controls cell) x.reassembly.chain) end.port.0 site.controller.ports linked s.taken e)

      by : (o : Option Site) → site_at w end.node ≡ o → Every (IsOf end.port) (option_map_or (λ (linked : Linked). linked.reassembly.chain) (option_and_then (λ c. linked_at c end.port) (option_map (λ (site : Site). site.controller) o)) [])
      by None e = tt
      by (Some site) e = by_port site (at_site end.node site e) (linked_at site.controller end.port) refl

  -- each port is found by its number
  each_port : (node : NodeId) (site : Site) → site_at w node ≡ Some site → Every (λ (linked : Linked). linked.port.adjacency.own.instance.0 ≤ w.numbers.instances) site.controller.ports
  each_port node site found =
      let f : IsFed site = at_every site_key IsFed node.0 w.sites site fed found in
      let sound : IsSound (setups_by f.o) site.controller = subst (λ (c : Controller). IsSound (setups_by f.o) c) f.now (always_sound f.o f.inputs f.is.differ) in
      let s : SiteMarked Any w.numbers site = at_site node site found in
      every_map (λ (linked : Linked). at port_key (port_key linked) site.controller.ports ≡ Some linked) (λ (linked : Linked). linked.port.adjacency.own.instance.0 ≤ w.numbers.instances) site.controller.ports
      (λ linked e. s.most (IsPort (port_key linked)) linked.port.adjacency.own.instance.0 (ap (option_map port_own) e))
      (each_found port_key site.controller.ports (order_unmapped linked_setup AreApart site.controller.ports (subst (InOrder AreApart) (sym sound.ports.same) sound.ports.apart)))

  pub has_numbers : HasNumbers w
  has_numbers = record {
    unmade = h.free;
    marks = λ place cell c none. (in_queue place cell c none).1;
    counted = λ place cell c none. (in_queue place cell c none).0;
    chains = λ node cell c none. (some_of (IsMarked w.numbers.controls) (requests_chain_at w node ++ answers_chain_at w node) cell (every_join (IsMarked w.numbers.controls) (requests_chain_at w node) (answers_chain_at w node) (requests node) (answers node)) c none).1;
    taken = λ end cell c. (let t = some_of (IsOf end.port) (chain_at w end) cell (ports_chain end) c in (t.0, λ none. (t.1 none).1));
    controllers = λ node site found. (at_site node site found).most IsController site.controller.adjacency.own.instance.0 refl;
    switches = λ node site found. (at_site node site found).most IsSwitch site.switch.adjacency.own.instance.0 refl;
    ports = each_port;
  }

pub run_numbers : (policy : Policy) (topology : Topology) (events : List Event) → HasAllNumbers (past_of policy topology events)
run_numbers policy topology events = has_numbers (world_after topology (opened policy topology) events) (any_marked policy topology events) (run_fed topology events (opened policy topology) (opening_fed policy topology))

pub numbers_kept : Keeps HasAllNumbers
numbers_kept policy topology before event c h = run_numbers policy topology (before ++ event ∷ [])

pub numbers_begin : Begins HasAllNumbers
numbers_begin policy topology is addresses = run_numbers policy topology []
