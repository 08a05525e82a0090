-- an actor of a node acts: the node is found by its number and is put back at its place

use Rattle.std.proofs.Common.{◌≡◌, ℕ, zero, suc, ◌+◌, ◌-◌, ◌^◌, ◌≤◌, Bool, List, [], ◌∷◌, length, map, slice_get, slice_set, slice_index_or, Option, None, Some, refl, sym, ◌∙◌, ap, subst, arith, sum_by, true≢false, if◌then◌else◌}
use Rattle.std.specs.Prelude.{drop, ◌↔◌}
use Rattle.std.specs.Option.{option_map_or}
use Rattle.std.proofs.lemmas.Option.{slice_get-get_or}
use Rattle.std.proofs.lemmas.List.Sums.{sum_by-cons}
use Rattle.net_types.specs.declared.node.NodeId.{NodeId}
use Rattle.net_types.specs.Number.{AreDrawn, GivenOut}
use Rattle.link_model.specs.Notes.{Journal, noted}
use Rattle.link_model.specs.declared.record.Record.TheVariants.{Loss}
use Rattle.link_model.specs.declared.record.Cause.TheVariants.{Lost}
use Rattle.world_model.specs.Step.{arrives, carries_head, loses_head, note}
use Rattle.world_model.specs.Topology.{Topology}
use Rattle.keyed_lists.specs.Keyed.{at, put}
use Rattle.world_model.specs.Switch as switches
use Rattle.world_model.specs.Switch.{Switch}
use Rattle.world_model.specs.Controller as controllers
use Rattle.world_model.specs.Controller.{Controller, redirects_of}
use Rattle.net_types.specs.declared.node.Place.{Place}
use Rattle.net_types.specs.declared.node.Place.TheVariants.{Down, Up, Out}
use Rattle.atm_cells.specs.declared.cell.Cell.{Cell}
use Rattle.world_model.specs.Places.{place_node, queue_in, queue_at, with_queue, with_queue_in, with_queue_of}
use Rattle.world_model.specs.World.{World, Site, site_key, site_at, with_site, controller_acts, at_controller, switch_acts, at_switch, redirects_at, switched_count}
use Rattle.world_model.proofs.Lists.{by_eq, at_key, at_put_other, at_put_same}
use Rattle.world.specs.declared.site.Site.{Site as Node}
use Rattle.world.specs.declared.world.World.{World as Network}
use Rattle.world.specs.Network.{site_of, sites_of, world_of, no_notes, peers_in, IsNodeIn}
use Rattle.node_controller.specs.Nodes.{acted}
use Rattle.law_world_pace.specs.Running.{AreNumbered}
use Rattle.world.specs.Coming.{IsSteady, HasCome, HasTaken}
use Rattle.world.specs.NodeSet.{IsInserted, is_in}
use Rattle.world.specs.Waiting.{AreMarked, node_place}
use Rattle.world.specs.declared.node_set.NodeSet.{NodeSet}

-- *Lists*
pub map_set : {A B : Type 0} (f : A → B) (xs : List A) (k : ℕ) (y : A) → map f (slice_set xs k y) ≡ slice_set (map f xs) k (f y)
map_set f [] k y = refl
map_set f (x ∷ xs) zero y = refl
map_set f (x ∷ xs) (suc k) y = ap (λ ys. f x ∷ ys) (map_set f xs k y)

pub map_get : {A B : Type 0} (f : A → B) (xs : List A) (k : ℕ) (x : A) → slice_get xs k ≡ Some x → slice_get (map f xs) k ≡ Some (f x)
map_get f [] k x e = absurd (cc e)
map_get f (z ∷ xs) zero x e = (let same : z ≡ x = cc in ap (λ y. Some (f y)) same)
map_get f (z ∷ xs) (suc k) x e = map_get f xs k x e

pub map_length : {A B : Type 0} (f : A → B) (xs : List A) → length (map f xs) ≡ length xs
map_length f [] = refl
map_length f (x ∷ xs) = ap suc (map_length f xs)

length_set : {A : Type 0} (xs : List A) (i : ℕ) (y : A) → length (slice_set xs i y) ≡ length xs
length_set [] i y = refl
length_set (x ∷ xs) zero y = refl
length_set (x ∷ xs) (suc i) y = ap suc (length_set xs i y)

set_same : {A : Type 0} (xs : List A) (k : ℕ) (x : A) → slice_get xs k ≡ Some x → slice_set xs k x ≡ xs
set_same [] k x e = refl
set_same (z ∷ xs) zero x e = (let same : x ≡ z = cc in ap (λ y. y ∷ xs) same)
set_same (z ∷ xs) (suc k) x e = ap (λ ys. z ∷ ys) (set_same xs k x e)

index_popped : {A : Type 0} (qs : List (List A)) (a b : ℕ) → slice_index_or qs b [] ≡ [] → slice_index_or (slice_set qs a (drop 1 (slice_index_or qs a []))) b [] ≡ []
index_popped [] a b e = refl
index_popped (q ∷ qs) zero zero e = ap (drop 1) e
index_popped (q ∷ qs) zero (suc b) e = e
index_popped (q ∷ qs) (suc a) zero e = e
index_popped (q ∷ qs) (suc a) (suc b) e = index_popped qs a b e

pub sum_set : {A : Type 0} (f : A → ℕ) (xs : List A) (k : ℕ) (x y : A) → slice_get xs k ≡ Some x → sum_by f (slice_set xs k y) + f x ≡ sum_by f xs + f y
sum_set f [] k x y e = absurd (cc e)
sum_set f (z ∷ xs) zero x y e = (let same : z ≡ x = cc in omega (arith, sum_by-cons f y xs, sum_by-cons f z xs, ap f same))
sum_set f (z ∷ xs) (suc k) x y e = omega (arith, sum_by-cons f z (slice_set xs k y), sum_by-cons f z xs, sum_set f xs k x y e)

pub one_of_sum : {A : Type 0} (f : A → ℕ) (xs : List A) (k : ℕ) (x : A) → slice_get xs k ≡ Some x → f x ≤ sum_by f xs
one_of_sum f [] k x e = absurd (cc e)
one_of_sum f (z ∷ xs) zero x e = (let same : z ≡ x = cc in omega (arith, sum_by-cons f z xs, ap f same))
one_of_sum f (z ∷ xs) (suc k) x e = omega (arith, sum_by-cons f z xs, one_of_sum f xs k x e)

pub none_drawn : (numbers : GivenOut) → AreDrawn numbers numbers
none_drawn numbers = record { instances = (omega arith, omega arith); controls = (omega arith, omega arith) }

-- two options that are of the same values are one
pub same_option : {A : Type 0} (o p : Option A) → ((x : A) → (o ≡ Some x) ↔ (p ≡ Some x)) → o ≡ p
same_option None None e = refl
same_option None (Some y) e = (e y).1 refl
same_option (Some x) p e = sym ((e x).0 refl)

-- *Nodes that are numbered in order*
pub at_numbered : (number k key : ℕ) (sites : List Site) → key ≡ number + k → AreNumbered number sites → at site_key key sites ≡ slice_get sites k
at_numbered number zero key [] is h = refl
at_numbered number (suc k) key [] is h = refl
at_numbered number zero key (site ∷ sites) is h = by_eq (site_key site) key
    (λ e t. ap (λ (b : Bool). if b then Some site else at site_key key sites) t)
    (λ n t. absurd (n (omega (arith, is, h.0))))
at_numbered number (suc k) key (site ∷ sites) is h = by_eq (site_key site) key
    (λ e t. absurd (omega (arith, is, h.0, e)))
    (λ n t. ap (λ (b : Bool). if b then Some site else at site_key key sites) t ∙ at_numbered (suc number) k key sites (omega (arith, is)) h.1)

pub put_numbered : (number k : ℕ) (sites : List Site) (y : Site) → site_key y ≡ number + k → AreNumbered number sites → put site_key y sites ≡ slice_set sites k y
put_numbered number zero [] y is h = refl
put_numbered number (suc k) [] y is h = refl
put_numbered number zero (site ∷ sites) y is h = by_eq (site_key site) (site_key y)
    (λ e t. ap (λ (b : Bool). if b then y ∷ sites else site ∷ put site_key y sites) t)
    (λ n t. absurd (n (omega (arith, is, h.0))))
put_numbered number (suc k) (site ∷ sites) y is h = by_eq (site_key site) (site_key y)
    (λ e t. absurd (omega (arith, is, h.0, e)))
    (λ n t. ap (λ (b : Bool). if b then y ∷ sites else site ∷ put site_key y sites) t ∙ ap (λ ss. site ∷ ss) (put_numbered (suc number) k sites y (omega (arith, is)) h.1))

pub key_numbered : (number k : ℕ) (sites : List Site) (x : Site) → AreNumbered number sites → slice_get sites k ≡ Some x → site_key x ≡ number + k
key_numbered number k [] x h e = absurd (cc e)
key_numbered number zero (site ∷ sites) x h e = (let same : site ≡ x = cc in omega (arith, h.0, ap site_key same))
key_numbered number (suc k) (site ∷ sites) x h e = omega (arith, key_numbered (suc number) k sites x h.1 e)

pub set_numbered : (number k : ℕ) (sites : List Site) (x y : Site) → AreNumbered number sites → slice_get sites k ≡ Some x → site_key y ≡ site_key x → AreNumbered number (slice_set sites k y)
set_numbered number k [] x y h e same = absurd (cc e)
set_numbered number zero (site ∷ sites) x y h e same = (let it : site ≡ x = cc in (omega (arith, h.0, same, ap site_key it), h.1))
set_numbered number (suc k) (site ∷ sites) x y h e same = (h.0, set_numbered (suc number) k sites x y h.1 e same)

module _ {C : Type 0} (seen : C → Controller) where
  -- the node that the code reads is the one of the number
  pub got : (n : Network C) (node : NodeId) (here : Node C) → IsNodeIn n node → here ≡ slice_index_or n.sites.items (node.0 - 1) here → slice_get n.sites.items (node.0 - 1) ≡ Some here
  got n node here is e = slice_get-get_or n.sites.items (node.0 - 1) here (omega (arith, is.0, is.1)) ∙ ap Some (sym e)

  pub found : (n : Network C) (notes : Journal) (node : NodeId) (here : Node C) → AreNumbered 1 (sites_of seen n.sites.items) → IsNodeIn n node → slice_get n.sites.items (node.0 - 1) ≡ Some here
      → site_at (world_of seen n notes) node ≡ Some (site_of seen here)
  found n notes node here h is e =
      at_numbered 1 (node.0 - 1) node.0 (sites_of seen n.sites.items) (omega (arith, is.0)) h ∙ map_get (site_of seen) n.sites.items (node.0 - 1) here e

  -- and is put back
  pub put_back : (n : Network C) (node : NodeId) (here now : Node C) (y : Site) → AreNumbered 1 (sites_of seen n.sites.items) → IsNodeIn n node
      → slice_get n.sites.items (node.0 - 1) ≡ Some here → site_of seen now ≡ y → site_key y ≡ site_key (site_of seen here)
      → sites_of seen (slice_set n.sites.items (node.0 - 1) now) ≡ put site_key y (sites_of seen n.sites.items)
  put_back n node here now y h is e same key =
      map_set (site_of seen) n.sites.items (node.0 - 1) now
      ∙ ap (slice_set (sites_of seen n.sites.items) (node.0 - 1)) same
      ∙ sym (put_numbered 1 (node.0 - 1) (sites_of seen n.sites.items) y
      (key ∙ key_numbered 1 (node.0 - 1) (sites_of seen n.sites.items) (site_of seen here) h (map_get (site_of seen) n.sites.items (node.0 - 1) here e)) h)

  -- one node's number is within the sum
  pub summand_redirects : (n : Network C) (node : NodeId) (here : Node C) → IsSteady seen n → IsNodeIn n node → here ≡ slice_index_or n.sites.items (node.0 - 1) here
      → redirects_of (seen here.controller) ≤ n.redirects
  summand_redirects n node here steady is e = omega (arith, steady.redirects, one_of_sum redirects_at (sites_of seen n.sites.items) (node.0 - 1) (site_of seen here) (map_get (site_of seen) n.sites.items (node.0 - 1) here (got n node here is e)))

  pub summand_switched : (n : Network C) (node : NodeId) (here : Node C) → IsSteady seen n → IsNodeIn n node → here ≡ slice_index_or n.sites.items (node.0 - 1) here
      → here.switch.switched ≤ n.switched
  summand_switched n node here steady is e = omega (arith, steady.switched, one_of_sum switched_count (sites_of seen n.sites.items) (node.0 - 1) (site_of seen here) (map_get (site_of seen) n.sites.items (node.0 - 1) here (got n node here is e)))

  -- *Marks*
  key_here : (n : Network C) (node : NodeId) (here : Node C) → AreNumbered 1 (sites_of seen n.sites.items) → IsNodeIn n node → slice_get n.sites.items (node.0 - 1) ≡ Some here → site_key (site_of seen here) ≡ node.0
  key_here n node here h is e =
      omega (arith, is.0, key_numbered 1 (node.0 - 1) (sites_of seen n.sites.items) (site_of seen here) h (map_get (site_of seen) n.sites.items (node.0 - 1) here e))

  abbrev cells_at : List Site → Place → List Cell
  cells_at sites place = option_map_or (λ (site : Site). queue_in site place) (at site_key (place_node place).0 sites) []

  marked_acted : (old new : Network C) (node : NodeId) (y : Site) → AreMarked seen old → sites_of seen new.sites.items ≡ put site_key y (sites_of seen old.sites.items) → site_key y ≡ node.0
      → new.round.items ≡ old.round.items → IsInserted old.waiting new.waiting (node.0 - 1) → AreMarked seen new
  marked_acted old new node y marked sites key round mark = λ i place e no.
      by_eq (node_place place) (node.0 - 1)
      (λ same t. absurd (true≢false (sym mark.here ∙ ap (is_in new.waiting) (sym same) ∙ no)))
      (λ other t. ap (λ (ss : List Site). cells_at ss place) sites
      ∙ ap (λ (o : Option Site). option_map_or (λ (site : Site). queue_in site place) o []) (at_put_other site_key y (place_node place).0 (sites_of seen old.sites.items) (λ k. other (ap (λ (m : ℕ). m - 1) (sym k ∙ key))))
      ∙ marked i place (ap (λ (ps : List Place). slice_get ps i) (sym round) ∙ e) (sym (mark.others (node_place place) other) ∙ no))

  pub marked_same : (old new : Network C) → AreMarked seen old → new.sites.items ≡ old.sites.items → new.round.items ≡ old.round.items → new.waiting ≡ old.waiting → AreMarked seen new
  marked_same old new marked items round waiting = λ i place e no.
      ap (λ (xs : List (Node C)). cells_at (sites_of seen xs) place) items
      ∙ marked i place (ap (λ (ps : List Place). slice_get ps i) (sym round) ∙ e) (ap (λ (set : NodeSet). is_in set (node_place place)) (sym waiting) ∙ no)

  -- a queue from which the first cell is taken
  popped_empty : (s : Site) (place other : Place) → queue_in s other ≡ [] → queue_in (with_queue_in s place (drop 1 (queue_in s place))) other ≡ []
  popped_empty s (Down node) (Down far) e = ap (drop 1) e
  popped_empty s (Down node) (Up far) e = e
  popped_empty s (Down node) (Out far port) e = e
  popped_empty s (Up node) (Down far) e = e
  popped_empty s (Up node) (Up far) e = index_popped s.switch.crossbar.queues 0 0 e
  popped_empty s (Up node) (Out far port) e = index_popped s.switch.crossbar.queues 0 port.0 e
  popped_empty s (Out node port) (Down far) e = e
  popped_empty s (Out node port) (Up far) e = index_popped s.switch.crossbar.queues port.0 0 e
  popped_empty s (Out node port) (Out far other) e = index_popped s.switch.crossbar.queues port.0 other.0 e

  marked_taken : (old new : Network C) (place : Place) (s : Site) → AreMarked seen old → site_at (world_of seen old no_notes) (place_node place) ≡ Some s
      → site_key (with_queue_in s place (drop 1 (queue_in s place))) ≡ site_key s
      → sites_of seen new.sites.items ≡ put site_key (with_queue_in s place (drop 1 (queue_in s place))) (sites_of seen old.sites.items)
      → new.round.items ≡ old.round.items → new.waiting ≡ old.waiting → AreMarked seen new
  marked_taken old new place s marked here stays sites round waiting = λ i other e no.
      let y : Site = with_queue_in s place (drop 1 (queue_in s place)) in
      let was : List Site = sites_of seen old.sites.items in
      let key : site_key y ≡ (place_node place).0 = stays ∙ at_key site_key (place_node place).0 was s here in
      let empty : cells_at was other ≡ [] = marked i other (ap (λ (ps : List Place). slice_get ps i) (sym round) ∙ e) (ap (λ (set : NodeSet). is_in set (node_place other)) (sym waiting) ∙ no) in
      by_eq (place_node other).0 (place_node place).0
      (λ same t.
      let there : at site_key (place_node other).0 was ≡ Some s = ap (λ (k : ℕ). at site_key k was) same ∙ here in
      let none : queue_in s other ≡ [] = ap (λ (o : Option Site). option_map_or (λ (site : Site). queue_in site other) o []) (sym there) ∙ empty in
      let found : at site_key (place_node other).0 (sites_of seen new.sites.items) ≡ Some y =
      ap (λ (k : ℕ). at site_key k (sites_of seen new.sites.items)) (same ∙ sym key) ∙ ap (at site_key (site_key y)) sites
      ∙ at_put_same site_key y was s (ap (λ (k : ℕ). at site_key k was) key ∙ here) in
      ap (λ (o : Option Site). option_map_or (λ (site : Site). queue_in site other) o []) found ∙ popped_empty s place other none)
      (λ away t. ap (λ (ss : List Site). cells_at ss other) sites
      ∙ ap (λ (o : Option Site). option_map_or (λ (site : Site). queue_in site other) o []) (at_put_other site_key y (place_node other).0 was (λ k. away (sym k ∙ key)))
      ∙ empty)

  -- *A controller acted*
  pub controller_came : (rule : controllers.Acted → controllers.Acted) (old new : Network C) (notes after : Journal) (node : NodeId) (here now : Node C) (before now_redirects : ℕ)
      → ((a : controllers.Acted) → (rule a).controller.node ≡ a.controller.node)
      → IsSteady seen old → IsNodeIn old node → here ≡ slice_index_or old.sites.items (node.0 - 1) here
      → new.sites.items ≡ slice_set old.sites.items (node.0 - 1) now → now.switch ≡ here.switch → now.peers ≡ here.peers
      → acted (seen now.controller) after new.numbers ≡ rule (acted (seen here.controller) notes old.numbers) → AreDrawn old.numbers new.numbers
      → before ≡ redirects_of (seen here.controller) → now_redirects ≡ redirects_of (seen now.controller) → new.redirects + before ≡ old.redirects + now_redirects
      → new.round.items ≡ old.round.items → new.switched ≡ old.switched → new.sent ≡ old.sent → new.events ≡ old.events → new.tally ≡ old.tally
      → new.starts ≡ old.starts → IsInserted old.waiting new.waiting (node.0 - 1)
      → HasCome seen old new after (at_controller (world_of seen old notes) node rule)
  controller_came rule old new notes after node here now before now_redirects stays steady is at_here set switch peers acts drawn was will sum round switched sent events tally starts mark =
      let e = got old node here is at_here in
      let a : controllers.Acted = acted (seen here.controller) notes old.numbers in
      let y : Site = record (site_of seen here) { controller = (rule a).controller } in
      let same : site_of seen now ≡ y = λ i. record { controller = (acts i).controller; switch = switch i } in
      let kept : site_key y ≡ site_key (site_of seen here) = ap (λ (m : NodeId). m.0) (stays a) in
      let key : site_key y ≡ node.0 = kept ∙ key_here old node here steady.nodes is e in
      let sites : sites_of seen new.sites.items ≡ put site_key y (sites_of seen old.sites.items) = ap (sites_of seen) set ∙ put_back old node here now y steady.nodes is e same kept in
      let sets : sites_of seen new.sites.items ≡ slice_set (sites_of seen old.sites.items) (node.0 - 1) (site_of seen now) = ap (sites_of seen) set ∙ map_set (site_of seen) old.sites.items (node.0 - 1) now in
      let at_map : slice_get (sites_of seen old.sites.items) (node.0 - 1) ≡ Some (site_of seen here) = map_get (site_of seen) old.sites.items (node.0 - 1) here e in
      record {
        world = (λ i. record { sites = sites i; notes = (acts i).notes; numbers = (acts i).numbers; sent = sent i; events = events i; tally = tally i })
            ∙ ap (λ (o : Option Site). controller_acts (world_of seen old notes) o rule) (sym (found old notes node here steady.nodes is e));
        drawn = drawn;
        peers = ap (map peers_in) set ∙ map_set peers_in old.sites.items (node.0 - 1) now ∙ ap (slice_set (map peers_in old.sites.items) (node.0 - 1)) peers
            ∙ set_same (map peers_in old.sites.items) (node.0 - 1) here.peers (map_get peers_in old.sites.items (node.0 - 1) here e);
        round = round;
        starts = starts;
        marked = marked_acted old new node y steady.marked sites key round mark;
        redirects = omega (arith, was, will, sum, steady.redirects, ap (sum_by redirects_at) sets, sum_set redirects_at (sites_of seen old.sites.items) (node.0 - 1) (site_of seen here) (site_of seen now) at_map);
        switched = switched ∙ steady.switched ∙ omega (arith, ap (sum_by switched_count) sets, ap (λ (s : Switch). s.switched) switch, sum_set switched_count (sites_of seen old.sites.items) (node.0 - 1) (site_of seen here) (site_of seen now) at_map);
        few_redirects = omega (arith, sum, will);
        few_switched = omega (arith, switched);
      }

  -- *A switch acted*
  pub switch_came : (rule : switches.ActedSwitch → switches.ActedSwitch) (old new : Network C) (notes after : Journal) (node : NodeId) (here now : Node C) (before now_switched : ℕ)
      → IsSteady seen old → IsNodeIn old node → here ≡ slice_index_or old.sites.items (node.0 - 1) here
      → new.sites.items ≡ slice_set old.sites.items (node.0 - 1) now → now.controller ≡ here.controller → now.peers ≡ here.peers
      → record { switch = now.switch; notes = after; numbers = new.numbers } ≡ rule (record { switch = here.switch; notes = notes; numbers = old.numbers }) → AreDrawn old.numbers new.numbers
      → before ≡ here.switch.switched → now_switched ≡ now.switch.switched → new.switched + before ≡ old.switched + now_switched → now_switched ≤ 2 ^ 64
      → new.round.items ≡ old.round.items → new.redirects ≡ old.redirects → new.sent ≡ old.sent → new.events ≡ old.events → new.tally ≡ old.tally
      → new.starts ≡ old.starts → IsInserted old.waiting new.waiting (node.0 - 1)
      → HasCome seen old new after (at_switch (world_of seen old notes) node rule)
  switch_came rule old new notes after node here now before now_switched steady is at_here set controller peers acts drawn was will sum few round redirects sent events tally starts mark =
      let e = got old node here is at_here in
      let a : switches.ActedSwitch = record { switch = here.switch; notes = notes; numbers = old.numbers } in
      let y : Site = record (site_of seen here) { switch = (rule a).switch } in
      let same : site_of seen now ≡ y = λ i. record { controller = seen (controller i); switch = (acts i).switch } in
      let sites : sites_of seen new.sites.items ≡ put site_key y (sites_of seen old.sites.items) = ap (sites_of seen) set ∙ put_back old node here now y steady.nodes is e same refl in
      let sets : sites_of seen new.sites.items ≡ slice_set (sites_of seen old.sites.items) (node.0 - 1) (site_of seen now) = ap (sites_of seen) set ∙ map_set (site_of seen) old.sites.items (node.0 - 1) now in
      let at_map : slice_get (sites_of seen old.sites.items) (node.0 - 1) ≡ Some (site_of seen here) = map_get (site_of seen) old.sites.items (node.0 - 1) here e in
      record {
        world = (λ i. record { sites = sites i; notes = (acts i).notes; numbers = (acts i).numbers; sent = sent i; events = events i; tally = tally i })
            ∙ ap (λ (o : Option Site). switch_acts (world_of seen old notes) o rule) (sym (found old notes node here steady.nodes is e));
        drawn = drawn;
        peers = ap (map peers_in) set ∙ map_set peers_in old.sites.items (node.0 - 1) now ∙ ap (slice_set (map peers_in old.sites.items) (node.0 - 1)) peers
            ∙ set_same (map peers_in old.sites.items) (node.0 - 1) here.peers (map_get peers_in old.sites.items (node.0 - 1) here e);
        round = round;
        starts = starts;
        marked = marked_acted old new node y steady.marked sites (key_here old node here steady.nodes is e) round mark;
        redirects = redirects ∙ steady.redirects ∙ omega (arith, ap (sum_by redirects_at) sets, ap (λ (x : C). redirects_of (seen x)) controller, sum_set redirects_at (sites_of seen old.sites.items) (node.0 - 1) (site_of seen here) (site_of seen now) at_map);
        switched = omega (arith, was, will, sum, steady.switched, ap (sum_by switched_count) sets, sum_set switched_count (sites_of seen old.sites.items) (node.0 - 1) (site_of seen here) (site_of seen now) at_map);
        few_redirects = omega (arith, redirects);
        few_switched = omega (arith, sum, few);
      }

  -- *The head of a queue is taken*
  pub head_taken : (old new : Network C) (place : Place) (here now : Node C) (head : Option Cell)
      → IsSteady seen old → IsNodeIn old (place_node place) → here ≡ slice_index_or old.sites.items ((place_node place).0 - 1) here
      → new.sites.items ≡ slice_set old.sites.items ((place_node place).0 - 1) now → now.peers ≡ here.peers
      → site_of seen now ≡ with_queue_in (site_of seen here) place (drop 1 (queue_in (site_of seen here) place))
      → ((y : Site) (cells : List Cell) → (site_key (with_queue_in y place cells) ≡ site_key y) × ((redirects_at (with_queue_in y place cells) ≡ redirects_at y) × (switched_count (with_queue_in y place cells) ≡ switched_count y)))
      → head ≡ slice_get (queue_in (site_of seen here) place) 0
      → new.numbers ≡ old.numbers → new.round.items ≡ old.round.items → new.redirects ≡ old.redirects → new.switched ≡ old.switched → new.sent ≡ old.sent → new.events ≡ old.events → new.tally ≡ old.tally
      → new.starts ≡ old.starts → new.waiting ≡ old.waiting → HasTaken seen old new place head
  head_taken old new place here now head steady is at_here set peers same keeps first numbers round redirects switched sent events tally starts waiting =
      let node : NodeId = place_node place in
      let e = got old node here is at_here in
      let s : Site = site_of seen here in
      let y : Site = with_queue_in s place (drop 1 (queue_in s place)) in
      let k = keeps s (drop 1 (queue_in s place)) in
      let sites : sites_of seen new.sites.items ≡ put site_key y (sites_of seen old.sites.items) = ap (sites_of seen) set ∙ put_back old node here now y steady.nodes is e same k.0 in
      let sets : sites_of seen new.sites.items ≡ slice_set (sites_of seen old.sites.items) (node.0 - 1) y = ap (sites_of seen) set ∙ map_set (site_of seen) old.sites.items (node.0 - 1) now ∙ ap (slice_set (sites_of seen old.sites.items) (node.0 - 1)) same in
      let at_map : slice_get (sites_of seen old.sites.items) (node.0 - 1) ≡ Some s = map_get (site_of seen) old.sites.items (node.0 - 1) here e in
      record {
        first = first ∙ ap (λ (o : Option Site). slice_get (option_map_or (λ site. queue_in site place) o []) 0) (sym (found old no_notes node here steady.nodes is e));
        world = λ notes. (λ i. record { sites = sites i; notes = notes; numbers = numbers i; sent = sent i; events = events i; tally = tally i })
            ∙ ap (λ (o : Option Site). with_queue_of (world_of seen old notes) place (drop 1 (option_map_or (λ site. queue_in site place) o [])) o) (sym (found old notes node here steady.nodes is e));
        peers = ap (map peers_in) set ∙ map_set peers_in old.sites.items (node.0 - 1) now ∙ ap (slice_set (map peers_in old.sites.items) (node.0 - 1)) peers
            ∙ set_same (map peers_in old.sites.items) (node.0 - 1) here.peers (map_get peers_in old.sites.items (node.0 - 1) here e);
        size = ap length set ∙ length_set old.sites.items (node.0 - 1) now;
        numbers = numbers;
        round = round;
        starts = starts;
        redirects = redirects;
        switched = switched;
        steady = record {
          few = omega (arith, steady.few, ap length set, length_set old.sites.items (node.0 - 1) now);
          marked = marked_taken old new place s steady.marked (found old no_notes node here steady.nodes is e) k.0 sites round waiting;
          nodes = subst (AreNumbered 1) (sym sets) (set_numbered 1 (node.0 - 1) (sites_of seen old.sites.items) s y steady.nodes at_map k.0);
          redirects = redirects ∙ steady.redirects ∙ omega (arith, ap (sum_by redirects_at) sets, k.1.0, sum_set redirects_at (sites_of seen old.sites.items) (node.0 - 1) s y at_map);
          switched = switched ∙ steady.switched ∙ omega (arith, ap (sum_by switched_count) sets, k.1.1, sum_set switched_count (sites_of seen old.sites.items) (node.0 - 1) s y at_map);
          few_redirects = omega (arith, redirects, steady.few_redirects);
          few_switched = omega (arith, switched, steady.few_switched);
        };
      }

  -- at a place that is given by its parts
  pub taken_at : (old new : Network C) (given place : Place) (here now : Node C) (head : Option Cell) → given ≡ place
      → IsSteady seen old → IsNodeIn old (place_node given) → here ≡ slice_index_or old.sites.items ((place_node place).0 - 1) here
      → new.sites.items ≡ slice_set old.sites.items ((place_node place).0 - 1) now → now.peers ≡ here.peers
      → site_of seen now ≡ with_queue_in (site_of seen here) place (drop 1 (queue_in (site_of seen here) place))
      → ((y : Site) (cells : List Cell) → (site_key (with_queue_in y place cells) ≡ site_key y) × ((redirects_at (with_queue_in y place cells) ≡ redirects_at y) × (switched_count (with_queue_in y place cells) ≡ switched_count y)))
      → head ≡ slice_get (queue_in (site_of seen here) place) 0
      → new.numbers ≡ old.numbers → new.round.items ≡ old.round.items → new.redirects ≡ old.redirects → new.switched ≡ old.switched → new.sent ≡ old.sent → new.events ≡ old.events → new.tally ≡ old.tally
      → new.starts ≡ old.starts → new.waiting ≡ old.waiting → HasTaken seen old new given head
  taken_at old new given place here now head at_place steady is at_here set peers same keeps first numbers round redirects switched sent events tally starts waiting =
      subst (λ (p : Place). HasTaken seen old new p head) (sym at_place)
      (head_taken old new place here now head steady (subst (λ (p : Place). IsNodeIn old (place_node p)) at_place is) at_here set peers same keeps first numbers round redirects switched sent events tally starts waiting)

  -- *Nothing acted*
  pub nothing_came : (old new : Network C) (notes after : Journal) → IsSteady seen old → new.sites.items ≡ old.sites.items → after ≡ notes
      → new.numbers ≡ old.numbers → new.round.items ≡ old.round.items → new.redirects ≡ old.redirects → new.switched ≡ old.switched → new.sent ≡ old.sent → new.events ≡ old.events → new.tally ≡ old.tally
      → new.starts ≡ old.starts → new.waiting ≡ old.waiting → HasCome seen old new after (world_of seen old notes)
  nothing_came old new notes after steady items noted numbers round redirects switched sent events tally starts waiting = record {
    world = λ i. record { sites = sites_of seen (items i); notes = noted i; numbers = numbers i; sent = sent i; events = events i; tally = tally i };
    drawn = subst (AreDrawn old.numbers) (sym numbers) (none_drawn old.numbers);
    peers = ap (map peers_in) items;
    round = round;
    starts = starts;
    marked = marked_same old new steady.marked items round waiting;
    redirects = redirects ∙ steady.redirects ∙ ap (λ xs. sum_by redirects_at (sites_of seen xs)) (sym items);
    switched = switched ∙ steady.switched ∙ ap (λ xs. sum_by switched_count (sites_of seen xs)) (sym items);
    few_redirects = omega (arith, redirects);
    few_switched = omega (arith, switched);
  }

  -- a node was put back as it was
  pub stays_put : (old : Network C) (node : NodeId) (here now : Node C) → IsNodeIn old node → here ≡ slice_index_or old.sites.items (node.0 - 1) here → now ≡ here
      → slice_set old.sites.items (node.0 - 1) now ≡ old.sites.items
  stays_put old node here now is at_here same = ap (slice_set old.sites.items (node.0 - 1)) same ∙ set_same old.sites.items (node.0 - 1) here (got old node here is at_here)

  -- *Behind a head that was taken*
  pub then_come : (old mid new : Network C) (place : Place) (head : Option Cell) (after : Journal) (w : World) → HasTaken seen old mid place head → HasCome seen mid new after w → HasCome seen old new after w
  then_come old mid new place head after w t h = record {
    world = h.world;
    drawn = subst (λ (n : GivenOut). AreDrawn n new.numbers) t.numbers h.drawn;
    peers = h.peers ∙ t.peers;
    round = h.round ∙ t.round;
    starts = h.starts ∙ t.starts;
    marked = h.marked;
    redirects = h.redirects;
    switched = h.switched;
    few_redirects = omega (arith, h.few_redirects, t.redirects);
    few_switched = omega (arith, h.few_switched, t.switched);
  }

  -- the same world by another name
  pub come_as : (old new : Network C) (after : Journal) (w v : World) → w ≡ v → HasCome seen old new after w → HasCome seen old new after v
  come_as old new after w v is h = subst (λ (x : World). HasCome seen old new after x) is h

  -- *An empty queue*
  put_same : (sites : List Site) (s : Site) → at site_key (site_key s) sites ≡ Some s → put site_key s sites ≡ sites
  put_same [] s e = refl
  put_same (x ∷ sites) s e = by_eq (site_key x) (site_key s)
      (λ same is. (let it : Some x ≡ Some s = subst (λ (b : Bool). (if b then Some x else at site_key (site_key s) sites) ≡ Some s) is e in
      let one : s ≡ x = cc in
      ap (λ (b : Bool). if b then s ∷ sites else x ∷ put site_key s sites) is ∙ ap (λ y. y ∷ sites) one))
      (λ n is. ap (λ (b : Bool). if b then s ∷ sites else x ∷ put site_key s sites) is
      ∙ ap (λ ss. x ∷ ss) (put_same sites s (subst (λ (b : Bool). (if b then Some x else at site_key (site_key s) sites) ≡ Some s) is e)))

  index_same : {A : Type 0} (xs : List A) (k : ℕ) (d : A) → slice_set xs k (slice_index_or xs k d) ≡ xs
  index_same [] k d = refl
  index_same (x ∷ xs) zero d = refl
  index_same (x ∷ xs) (suc k) d = ap (λ ys. x ∷ ys) (index_same xs k d)

  queue_same : (s : Site) (place : Place) → with_queue_in s place (queue_in s place) ≡ s
  queue_same s (Down node) = refl
  queue_same s (Up node) = ap (λ (qs : List (List Cell)). record s { switch = record s.switch { crossbar = record s.switch.crossbar { queues = qs } } }) (index_same s.switch.crossbar.queues 0 [])
  queue_same s (Out node port) = ap (λ (qs : List (List Cell)). record s { switch = record s.switch { crossbar = record s.switch.crossbar { queues = qs } } }) (index_same s.switch.crossbar.queues port.0 [])

  pub with_same : (w : World) (place : Place) → with_queue w place (queue_at w place) ≡ w
  with_same w place = by_site (site_at w (place_node place)) refl
    where
      by_site : (o : Option Site) → site_at w (place_node place) ≡ o → with_queue_of w place (option_map_or (λ site. queue_in site place) o []) o ≡ w
      by_site None e = refl
      by_site (Some s) e = ap (with_site w) (queue_same s place)
          ∙ ap (λ (ss : List Site). record w { sites = ss }) (put_same w.sites s (subst (λ k. at site_key k w.sites ≡ Some s) (sym (at_key site_key (place_node place).0 w.sites s e)) e))

  no_head : {A : Type 0} (xs : List A) → slice_get xs 0 ≡ None → xs ≡ []
  no_head [] e = refl
  no_head (x ∷ xs) e = absurd (cc e)

  pub a_head : {A : Type 0} (xs : List A) (x : A) → slice_get xs 0 ≡ Some x → xs ≡ x ∷ drop 1 xs
  a_head [] x e = absurd (cc e)
  a_head (y ∷ xs) x e = (let same : y ≡ x = cc in ap (λ z. z ∷ xs) same)

  pub is_there : {A : Type 0} (xs : List A) (x : A) → slice_get xs 0 ≡ Some x → xs ≡ [] → ⊥
  is_there [] x e h = cc e
  is_there (y ∷ xs) x e h = cc h

  -- none was there, and nothing happens
  pub none_came : (old new : Network C) (place : Place) (notes : Journal) → HasTaken seen old new place None → HasCome seen old new notes (world_of seen old notes)
  none_came old new place notes t =
      let empty : queue_at (world_of seen old notes) place ≡ [] = no_head (queue_at (world_of seen old notes) place) (sym t.first) in
      let same : world_of seen new notes ≡ world_of seen old notes =
      t.world notes ∙ ap (λ (cells : List Cell). with_queue (world_of seen old notes) place (drop 1 cells)) empty
      ∙ ap (with_queue (world_of seen old notes) place) (sym empty) ∙ with_same (world_of seen old notes) place in
      record {
        world = same;
        drawn = subst (AreDrawn old.numbers) (sym t.numbers) (none_drawn old.numbers);
        peers = t.peers;
        round = t.round;
        starts = t.starts;
        marked = t.steady.marked;
        redirects = t.steady.redirects;
        switched = t.steady.switched;
        few_redirects = omega (arith, t.redirects);
        few_switched = omega (arith, t.switched);
      }

  -- the head of a queue is lost
  pub lost_came : (old new : Network C) (place : Place) (notes : Journal) (cell : Cell) → HasTaken seen old new place (Some cell)
      → HasCome seen old new (noted notes (Loss cell.mark Lost)) (loses_head (world_of seen old notes) place (queue_at (world_of seen old notes) place))
  lost_came old new place notes cell t =
      let w : World = world_of seen old notes in
      let is : queue_at w place ≡ cell ∷ drop 1 (queue_at w place) = a_head (queue_at w place) cell (sym t.first) in
      record {
        world = ap (λ (x : World). note x (Loss cell.mark Lost)) (t.world notes) ∙ ap (loses_head w place) (sym is);
        drawn = subst (AreDrawn old.numbers) (sym t.numbers) (none_drawn old.numbers);
        peers = t.peers;
        round = t.round;
        starts = t.starts;
        marked = t.steady.marked;
        redirects = t.steady.redirects;
        switched = t.steady.switched;
        few_redirects = omega (arith, t.redirects);
        few_switched = omega (arith, t.switched);
      }

  -- the head of a queue is carried
  pub carried_came : (t : Topology) (old mid new : Network C) (place : Place) (notes after : Journal) (cell : Cell) → HasTaken seen old mid place (Some cell)
      → HasCome seen mid new after (arrives t (world_of seen mid notes) place cell)
      → HasCome seen old new after (carries_head t (world_of seen old notes) place (queue_at (world_of seen old notes) place))
  carried_came t old mid new place notes after cell k h =
      let w : World = world_of seen old notes in
      let is : queue_at w place ≡ cell ∷ drop 1 (queue_at w place) = a_head (queue_at w place) cell (sym k.first) in
      come_as old new after (arrives t (world_of seen mid notes) place cell) (carries_head t w place (queue_at w place))
      (ap (λ (x : World). arrives t x place cell) (k.world notes) ∙ ap (carries_head t w place) (sym is))
      (then_come old mid new place (Some cell) after (arrives t (world_of seen mid notes) place cell) k h)

  pub empty_came : (t : Topology) (old new : Network C) (place : Place) (notes : Journal) → HasTaken seen old new place None
      → HasCome seen old new notes (carries_head t (world_of seen old notes) place (queue_at (world_of seen old notes) place))
  empty_came t old new place notes k =
      come_as old new notes (world_of seen old notes) (carries_head t (world_of seen old notes) place (queue_at (world_of seen old notes) place))
      (ap (carries_head t (world_of seen old notes) place) (sym (no_head (queue_at (world_of seen old notes) place) (sym k.first)))) (none_came old new place notes k)

  pub empty_lost : (old new : Network C) (place : Place) (notes : Journal) → HasTaken seen old new place None
      → HasCome seen old new notes (loses_head (world_of seen old notes) place (queue_at (world_of seen old notes) place))
  empty_lost old new place notes k =
      come_as old new notes (world_of seen old notes) (loses_head (world_of seen old notes) place (queue_at (world_of seen old notes) place))
      (ap (loses_head (world_of seen old notes) place) (sym (no_head (queue_at (world_of seen old notes) place) (sym k.first)))) (none_came old new place notes k)
