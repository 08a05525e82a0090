-- the lists of a network that opens: all are empty, and nothing leads anywhere

use Rattle.std.proofs.Common.{◌≡◌, ◌≢◌, ℕ, zero, suc, ◌+◌, ◌≤◌, ◌<◌, Bool, true, false, cond, List, [], ◌∷◌, length, length-append, map, filter, Option, None, Some, refl, sym, ◌∙◌, ap, subst, arith, if◌then◌else◌, inl}
use Rattle.std.specs.Prelude.{◌==◌, nat_eq, IsSome, is_some, replicate, slice_index_or}
use Rattle.std.specs.Option.{option_map, option_map_or, option_and_then}
use Rattle.std.specs.List.{range_with_len}
use Rattle.std.specs.FinMap.{empty, get, get-empty}
use Rattle.std.proofs.lemmas.Bool.Decides.{nat_tests}
use Rattle.law_cell_lists.specs.world_model.Words.{NodeId, Place, Down, Up, Out, Channel, Mark, GivenOut, next_instance, Cell, Reassembly, nothing_taken, end_cmp, at, Policy, Setup, port_key, default_channel, same_channel, on_link, port_on, label_number_of, setup_of, opens_port, opens_ports, after_opening, Topology, Node, ranges_of, timers_of, World, Site, site_key, site_at, empty_world, opened_site, with_opened, opens_each, AreShaped, queue_in, queue_at, on_channel}
use Rattle.law_cell_lists.specs.world_model.crossbar_model.declared.branch.Branch.{Branch}
use Rattle.law_controller_bindings.specs.ordered_lists.Ordered.{Every}
use Rattle.law_controller_bindings.proofs.ordered_lists.Every.{every_join}
use Rattle.law_cell_lists.specs.world_model.controller_model.declared.range.PortRange.{PortRange}
use Rattle.law_cell_lists.specs.world_model.Switch.{begun}
use Rattle.law_cell_lists.specs.world_model.Topology as topologies
use Rattle.law_cell_lists.specs.world_model.Topology.{peer_of}
use Rattle.law_cell_lists.specs.world_model.World.{opened}
use Rattle.law_cell_lists.specs.world_model.Stretches.{Reassembler}
use Rattle.law_controller_bindings.proofs.law_controller.world_model.Opening.{opened_is_shaped}
use Rattle.law_controller_bindings.proofs.law_port_facts.Keyed.{by_eq, at_every}
use Rattle.law_cell_lists.proofs.Taking.{taker_new}
use Rattle.law_cell_lists.proofs.Net.{End, Takes, Leads, Nowhere, Closed, Line, IsEnd}
use Rattle.law_causes.specs.Feeding.{branch_at}
use Rattle.law_causes.proofs.Spots.{Spot, same_spot}
use Rattle.law_causes.proofs.Ends.{chain_in, chain_at, label_chain, open_in, end_for}
use Rattle.law_causes.proofs.Shown.{Inlet, led, led_by, inlet_at}
use Rattle.law_causes.proofs.Parts.{takers_of, parts_of, shown, shown_at, switch_end, controller_end}
use Rattle.law_causes.proofs.Turning.{stretches, stretch_at}
use Rattle.law_causes.proofs.Following.{Flows, IsKnown, Known}
use Rattle.law_causes.proofs.Events.{HasNodes}

-- *A new site*
pub record IsFresh (site : Site) : Type 0 where
  pub queue : site.controller.queue ≡ []
  pub queues : site.switch.crossbar.queues ≡ replicate 9 []
  pub branches : site.switch.crossbar.branches ≡ empty
  pub taker : site.switch.reassembly ≡ nothing_taken
  pub chains : (channel : Channel) → chain_in site.controller.reassembly site.controller.ports channel ≡ nothing_taken
  pub known : IsKnown site

-- nothing has come to its ports
opened_chain : (setup : PortRange → Setup) (instances : ℕ) (ranges : List PortRange) (key : ℕ) (link : Channel) → chain_at (at port_key key (opens_ports setup instances ranges)) link ≡ nothing_taken
opened_chain setup instances [] key link = refl
opened_chain setup instances (range ∷ ranges) key link = by (nat_eq (port_key (opens_port (setup range) instances)) key) (opened_chain setup (instances + 1) ranges key link)
  where
    label : (n : Option ℕ) → label_chain (opens_port (setup range) instances) n ≡ nothing_taken
    label None = refl
    label (Some number) = refl

    default : (x : Bool) → (if x then nothing_taken else label_chain (opens_port (setup range) instances) (label_number_of link)) ≡ nothing_taken
    default true = refl
    default false = label (label_number_of link)

    by : (x : Bool) → chain_at (at port_key key (opens_ports setup (instances + 1) ranges)) link ≡ nothing_taken
        → chain_at (if x then Some (opens_port (setup range) instances) else at port_key key (opens_ports setup (instances + 1) ranges)) link ≡ nothing_taken
    by true later = default (same_channel link default_channel)
    by false later = later

filter_length : {A : Type 0} (test : A → Bool) (xs : List A) → length (filter test xs) ≤ length xs
filter_length test [] = omega arith
filter_length test (x ∷ xs) = elim (test x) as (λ v. length (cond v (x ∷ filter test xs) (filter test xs)) ≤ length (x ∷ xs)) [
  | true ↦ omega (arith, filter_length test xs)
  | false ↦ omega (arith, filter_length test xs)
]

map_length : {A B : Type 0} (f : A → B) (xs : List A) → length (map f xs) ≡ length xs
map_length f [] = refl
map_length f (x ∷ xs) = ap suc (map_length f xs)

few_ports : (t : Topology) (node : NodeId) → length (topologies.linked_ports t node) ≤ 8
few_ports t node = filter_length (λ port. is_some (peer_of t node port)) (map (λ (n : ℕ). record { 0 = n }) (range_with_len 1 8))

opened_fresh : (policy : Policy) (t : Topology) (number : NodeId) (node : Node) (numbers : GivenOut) → IsFresh (opened_site policy t number node numbers)
opened_fresh policy t number node numbers = record {
  queue = refl;
  queues = refl;
  branches = refl;
  taker = refl;
  chains = λ channel. by channel (same_channel channel default_channel);
  known = record {
    controller = record { own = omega arith; stored = λ party e. absurd (cc e) };
    switch = record { own = omega arith; stored = λ party e. absurd (cc e) };
    ports = omega (arith, few_ports t number, map_length (begun (next_instance (after_opening (ranges_of t number node) numbers))) (topologies.linked_ports t number));
    queues = refl;
  };
}
  where
    by : (channel : Channel) (x : Bool)
        → (if x then nothing_taken else chain_at (at port_key (port_on channel).0 (opens_ports (setup_of number node.address (timers_of t) policy) (numbers.instances + 1) (ranges_of t number node))) (on_link channel)) ≡ nothing_taken
    by channel true = refl
    by channel false = opened_chain (setup_of number node.address (timers_of t) policy) (numbers.instances + 1) (ranges_of t number node) (port_on channel).0 (on_link channel)

fresh_each : (policy : Policy) (t : Topology) (w : World) (place : ℕ) (nodes : List Node) → Every IsFresh w.sites → Every IsFresh (opens_each policy t w place nodes).sites
fresh_each policy t w place [] all = all
fresh_each policy t w place (node ∷ nodes) all =
    fresh_each policy t (with_opened policy t w place node) (suc place) nodes (every_join IsFresh w.sites (opened_site policy t (record { 0 = place }) node w.numbers ∷ []) all (opened_fresh policy t (record { 0 = place }) node w.numbers, tt))

-- *The nodes*
count_each : (policy : Policy) (t : Topology) (w : World) (place : ℕ) (nodes : List Node) → length (opens_each policy t w place nodes).sites ≡ length w.sites + length nodes
count_each policy t w place [] = omega arith
count_each policy t w place (node ∷ nodes) =
    omega (arith, count_each policy t (with_opened policy t w place node) (suc place) nodes, length-append w.sites (opened_site policy t (record { 0 = place }) node w.numbers ∷ []))

found_shaped : (number : ℕ) (sites : List Site) (k : ℕ) → AreShaped number sites → number ≤ k → k < number + length sites → IsSome (at site_key k sites)
found_shaped number [] k shaped low high = absurd (omega (arith, low, high))
found_shaped number (x ∷ sites) k shaped low high = by_eq (site_key x) k
    (λ e u. subst (λ (v : Bool). IsSome (if v then Some x else at site_key k sites)) (sym u) refl)
    (λ d u. subst (λ (v : Bool). IsSome (if v then Some x else at site_key k sites)) (sym u) (found_shaped (suc number) sites k shaped.1 (later d) (omega (arith, high))))
  where
    later : site_key x ≢ k → suc number ≤ k
    later d = more number k low (λ e. d (shaped.0.node ∙ e))
      where
        more : (a b : ℕ) → a ≤ b → a ≢ b → suc a ≤ b
        more a b low n = grind (arith, nat_tests)

pub opened_nodes : (policy : Policy) (t : Topology) → HasNodes t (opened policy t)
opened_nodes policy t n at = found_shaped 1 (opened policy t).sites n.0 (opened_is_shaped policy t) at.0 (omega (arith, at.1, count_each policy t empty_world 1 t.nodes))

pub opened_known : (policy : Policy) (t : Topology) → Known (opened policy t)
opened_known policy t n site e = (at_every site_key IsFresh n.0 (opened policy t).sites site (fresh_each policy t empty_world 1 t.nodes tt) e).known

-- *What is shown*
module _ (policy : Policy) (t : Topology) where
  abbrev w : World
  w = opened policy t

  fresh_at : (n : NodeId) (site : Site) → site_at w n ≡ Some site → IsFresh site
  fresh_at n site e = at_every site_key IsFresh n.0 w.sites site (fresh_each policy t empty_world 1 t.nodes tt) e

  -- of what is found of a site
  at_site : (P : Option Site → Type 0) (n : NodeId) → P None → ((site : Site) → IsFresh site → P (Some site)) → P (site_at w n)
  at_site P n none some = by (site_at w n) refl
    where
      by : (o : Option Site) → site_at w n ≡ o → P (site_at w n)
      by None e = subst P (sym e) none
      by (Some site) e = subst P (sym e) (some site (fresh_at n site e))

  no_cells : (queues : List (List Cell)) (p : ℕ) → queues ≡ replicate 9 [] → slice_index_or queues p [] ≡ []
  no_cells queues p e = ap (λ (q : List (List Cell)). slice_index_or q p []) e ∙ none 9 p
    where
      none : (k p : ℕ) → slice_index_or {A = List Cell} (replicate k []) p [] ≡ []
      none zero p = refl
      none (suc k) zero = refl
      none (suc k) (suc p) = none k p

  empty_queue : (place : Place) → queue_at w place ≡ []
  empty_queue (Down n) = at_site (λ (o : Option Site). option_map_or (λ (s : Site). queue_in s (Down n)) o [] ≡ []) n refl (λ site f. f.queue)
  empty_queue (Up n) = at_site (λ (o : Option Site). option_map_or (λ (s : Site). queue_in s (Up n)) o [] ≡ []) n refl (λ site f. no_cells site.switch.crossbar.queues 0 f.queues)
  empty_queue (Out n p) = at_site (λ (o : Option Site). option_map_or (λ (s : Site). queue_in s (Out n p)) o [] ≡ []) n refl (λ site f. no_cells site.switch.crossbar.queues p.0 f.queues)

  empty_cells : (s : Spot) → (shown t (parts_of w) s).cells ≡ []
  empty_cells s = by s.place
    where
      at_out : (x : Bool) (cells : List Cell) → cells ≡ [] → (if x then [] else cells) ≡ []
      at_out true cells e = refl
      at_out false cells e = e

      by : (place : Place) → (shown_at t (parts_of w) place s.channel).cells ≡ []
      by (Down n) = ap (on_channel s.channel) (empty_queue (Down n))
      by (Up n) = ap (on_channel s.channel) (empty_queue (Up n))
      by (Out n p) = at_out (p.0 == 0) (on_channel s.channel (queue_at w (Out n p))) (ap (on_channel s.channel) (empty_queue (Out n p)))

  -- an end that leads nowhere
  data IsOpen : End same_spot → Type 0 where
    nowhere : IsOpen Nowhere
    closed : IsOpen Closed
    taking : IsOpen (Takes nothing_taken)

  open_end : (s : Spot) → IsOpen (shown t (parts_of w) s).end
  open_end s = by s.place
    where
      no_branch : (m : NodeId) (e : _) → branch_at w m e ≡ None
      no_branch m e = at_site (λ (o : Option Site). option_and_then (λ (site : Site). get site.switch.crossbar.branches e) o ≡ None) m refl (λ site f. ap (λ b. get b e) f.branches ∙ get-empty end_cmp e)

      leads : (i : Option Inlet) → IsOpen (led_by (branch_at w) i)
      leads None = nowhere
      leads (Some i) = subst (λ (o : Option Branch). IsOpen (led i.node o)) (sym (no_branch i.node i.input)) nowhere

      taken : (x : Bool) → IsOpen (if x then Takes nothing_taken else Closed)
      taken true = taking
      taken false = closed

      gsmp : (m : NodeId) (x : Bool) → IsOpen (if x then switch_end (option_map (λ (site : Site). site.switch.reassembly) (site_at w m)) else led_by (branch_at w) (inlet_at t (Down m) s.channel))
      gsmp m true = at_site (λ (o : Option Site). IsOpen (switch_end (option_map (λ (site : Site). site.switch.reassembly) o))) m nowhere (λ site f. subst (λ (r : Reassembly). IsOpen (Takes r)) (sym f.taker) taking)
      gsmp m false = leads (inlet_at t (Down m) s.channel)

      by : (place : Place) → IsOpen (shown_at t (parts_of w) place s.channel).end
      by (Down m) = gsmp m (same_channel s.channel default_channel)
      by (Up m) = at_site (λ (o : Option Site). IsOpen (controller_end (option_map takers_of (option_map (λ (site : Site). site.controller) o)) s.channel)) m nowhere
          (λ site f. subst (λ (r : Reassembly). IsOpen (end_for (open_in site.controller.ports s.channel) r)) (sym (f.chains s.channel)) (none (open_in site.controller.ports s.channel)))
        where
          none : (x : Bool) → IsOpen (end_for x nothing_taken)
          none true = taking
          none false = closed
      by (Out m p) = leads (inlet_at t (Out m p) s.channel)

  not_leads : (e : End same_spot) → IsOpen e → (o : Spot) (u : Option Mark) → e ≢ Leads o u
  not_leads _ nowhere o u e = cc e
  not_leads _ closed o u e = cc e
  not_leads _ taking o u e = cc e

  no_stretches : (s : Spot) → stretches (λ (taker : Reassembler). []) s ≡ []
  no_stretches s = by s.place
    where
      gsmp : (x : Bool) → ◌≡◌ {A = List Cell} (if x then [] else []) []
      gsmp true = refl
      gsmp false = refl

      by : (place : Place) → stretch_at (λ (taker : Reassembler). []) place s.channel ≡ []
      by (Down m) = gsmp (same_channel s.channel default_channel)
      by (Up m) = refl
      by (Out m p) = refl

  pub opened_flows : Flows t w (λ (taker : Reassembler). [])
  opened_flows = record {
    real = record {
      feeder = λ s. None;
      lines = line_at;
      cells = λ s. sym (empty_cells s);
      ends = λ s. refl;
      stretch = λ s. sym (no_stretches s);
      net = record {
        line = λ s. record { streams = refl; ends = end_is s (shown t (parts_of w) s).end (open_end s); fed = λ e. tt };
        feeds = λ o s e. absurd (cc e);
      };
      first = λ s o u e y. absurd (not_leads (shown t (parts_of w) s).end (open_end s) o u e);
      some = λ s o u e. absurd (not_leads (shown t (parts_of w) s).end (open_end s) o u e);
    };
    calm = λ n c found channel e. refl;
  }
    where
      line_at : Spot → Line same_spot
      line_at s = record { front = []; cells = []; back = []; end = (shown t (parts_of w) s).end; begun = [] }

      end_is : (s : Spot) (e : End same_spot) → IsOpen e → IsEnd same_spot w.notes.entries (λ s. None) s (line_at s) e
      end_is s _ nowhere = tt
      end_is s _ closed = inl tt
      end_is s _ taking = taker_new w.notes.entries [] tt
