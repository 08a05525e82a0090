-- which cells stand on the way between two ends, and what a site that is put leaves of them

use Rattle.std.proofs.Common.{◌≡◌, ℕ, suc, true, List, [], ◌∷◌, ◌++◌, Option, Some, refl, sym, ◌∙◌, ap, subst, arith, inl, inr}
use Rattle.std.specs.Prelude.{Contains, slice_index_or}
use Rattle.std.specs.Option.{option_map, option_map_or, option_and_then}
use Rattle.std.proofs.lemmas.List.Elements.{Contains-append_cases, Contains-append_left, Contains-append_right}
use Rattle.world_model.specs.Words.{NodeId, PortNo, Place, Down, Up, Out, Cell, queue_of, control_port, Controller, Linked, linked_at, default_channel, default_home, same_channel, World, Site, site_at, with_site, queue_at, queue_in, place_node, with_queue_in, put_away, linked_end, chain_at, on_channel, on_default_channel}
use Rattle.law_frame_readings.proofs.law_port_facts.Keyed.{by_eq}
use Rattle.world_model.specs.network_model.declared.link.LinkEnd.{LinkEnd}
use Rattle.law_running_worlds.proofs.law_input_events.Sites.{put_at}
use Rattle.law_unused_labels.proofs.Reading.{filtered, filtered_back}
use Rattle.law_packet_worlds.proofs.law_way_words.Switching.{in_set}

-- *On a default channel*
pub data OnWay (w : World) (from to : LinkEnd) (c : Cell) : Type 0 where
  in_chain : Contains (chain_at w to) c → OnWay w from to c
  in_up : Contains (queue_at w (Up to.node)) c → same_channel c.header.channel (default_home to.port).channel ≡ true → OnWay w from to c
  in_out : Contains (queue_at w (Out from.node from.port)) c → same_channel c.header.channel default_channel ≡ true → OnWay w from to c
  in_down : Contains (queue_at w (Down from.node)) c → same_channel c.header.channel (default_home from.port).channel ≡ true → OnWay w from to c

module _ (w : World) (from to : LinkEnd) where
  abbrev ups : List Cell
  ups = on_channel (default_home to.port).channel (queue_at w (Up to.node))

  abbrev outs : List Cell
  outs = on_channel default_channel (queue_at w (Out from.node from.port))

  abbrev downs : List Cell
  downs = on_channel (default_home from.port).channel (queue_at w (Down from.node))

  pub on_way : (c : Cell) → Contains (on_default_channel w from to) c → OnWay w from to c
  on_way c has = elim (Contains-append_cases (chain_at w to) (ups ++ (outs ++ downs)) c has) [
    | inl chained ↦ in_chain chained
    | inr more ↦ elim (Contains-append_cases ups (outs ++ downs) c more) [
      | inl up ↦ (let f : _ = filtered (λ x. same_channel x.header.channel (default_home to.port).channel) (queue_at w (Up to.node)) c up in in_up f.0 f.1)
      | inr more ↦ elim (Contains-append_cases outs downs c more) [
        | inl out ↦ (let f : _ = filtered (λ x. same_channel x.header.channel default_channel) (queue_at w (Out from.node from.port)) c out in in_out f.0 f.1)
        | inr down ↦ (let f : _ = filtered (λ x. same_channel x.header.channel (default_home from.port).channel) (queue_at w (Down from.node)) c down in in_down f.0 f.1)
      ]
    ]
  ]

  pub way_on : (c : Cell) → OnWay w from to c → Contains (on_default_channel w from to) c
  way_on c (in_chain has) = Contains-append_left (chain_at w to) (ups ++ (outs ++ downs)) c has
  way_on c (in_up has e) = Contains-append_right (chain_at w to) (ups ++ (outs ++ downs)) c (Contains-append_left ups (outs ++ downs) c (filtered_back (λ x. same_channel x.header.channel (default_home to.port).channel) (queue_at w (Up to.node)) c has e))
  way_on c (in_out has e) = Contains-append_right (chain_at w to) (ups ++ (outs ++ downs)) c (Contains-append_right ups (outs ++ downs) c (Contains-append_left outs downs c
      (filtered_back (λ x. same_channel x.header.channel default_channel) (queue_at w (Out from.node from.port)) c has e)))
  way_on c (in_down has e) = Contains-append_right (chain_at w to) (ups ++ (outs ++ downs)) c (Contains-append_right ups (outs ++ downs) c (Contains-append_right outs downs c
      (filtered_back (λ x. same_channel x.header.channel (default_home from.port).channel) (queue_at w (Down from.node)) c has e)))

-- *A site is put* in the place of one
module _ (v : World) (node : NodeId) (site after : Site) (found : site_at v node ≡ Some site) (same : after.controller.node ≡ site.controller.node) where
  pub data SiteThen (m : NodeId) : Type 0 where
    here : m ≡ node → site_at (with_site v after) m ≡ Some after → SiteThen m
    there : site_at (with_site v after) m ≡ site_at v m → SiteThen m

  pub site_then : (m : NodeId) → SiteThen m
  site_then m = by_eq m.0 node.0
      (λ e t. here (ap (λ (n : ℕ). record { 0 = n }) e) (ap (λ (n : ℕ). site_at (with_site v after) (record { 0 = n })) e ∙ (put_at v node site after found same).0))
      (λ n t. there ((put_at v node site after found same).1 m n))

  pub queue_then : (P : Type 0) (place : Place) (c : Cell) → (place_node place ≡ node → Contains (queue_in after place) c → P) → (Contains (queue_at v place) c → P) → Contains (queue_at (with_site v after) place) c → P
  queue_then P place c mine other has = by (site_then (place_node place))
    where
      by : SiteThen (place_node place) → P
      by (here e is) = mine e (subst (λ (o : Option Site). Contains (option_map_or (λ s. queue_in s place) o []) c) is has)
      by (there is) = other (subst (λ (o : Option Site). Contains (option_map_or (λ s. queue_in s place) o []) c) is has)

  pub linked_then : (P : Type 0) (end : LinkEnd) (linked : Linked) → (end.node ≡ node → linked_at after.controller end.port ≡ Some linked → P) → (linked_end v end ≡ Some linked → P)
      → linked_end (with_site v after) end ≡ Some linked → P
  linked_then P end linked mine other e = by (site_then end.node)
    where
      by : SiteThen end.node → P
      by (here n is) = mine n (sym (ap (λ (o : Option Site). option_and_then (λ (c : Controller). linked_at c end.port) (option_map (λ (s : Site). s.controller) o)) is) ∙ e)
      by (there is) = other (sym (ap (λ (o : Option Site). option_and_then (λ (c : Controller). linked_at c end.port) (option_map (λ (s : Site). s.controller) o)) is) ∙ e)

-- *Less* of a network: of each queue, with the same ends
pub record Less (w u : World) : Type 0 where
  pub queues : (place : Place) (c : Cell) → Contains (queue_at u place) c → Contains (queue_at w place) c
  pub ends : (end : LinkEnd) → linked_end u end ≡ linked_end w end

pub less_way : (w u : World) → Less w u → (from to : LinkEnd) (c : Cell) → OnWay u from to c → OnWay w from to c
less_way w u less from to c (in_chain has) = in_chain (subst (λ (o : Option Linked). Contains (option_map_or (λ x. x.reassembly.chain) o []) c) (less.ends to) has)
less_way w u less from to c (in_up has e) = in_up (less.queues (Up to.node) c has) e
less_way w u less from to c (in_out has e) = in_out (less.queues (Out from.node from.port) c has) e
less_way w u less from to c (in_down has e) = in_down (less.queues (Down from.node) c has) e

-- *A cell is taken* from the front of a queue
behind_front : (cell : Cell) (cells queue : List Cell) (c : Cell) → queue ≡ cell ∷ cells → Contains cells c → Contains queue c
behind_front cell cells queue c e (k, less, is) = subst (λ (q : List Cell). Contains q c) (sym e) (suc k, omega (arith, less), is)

fewer_in : (site : Site) (place : Place) (cell : Cell) (cells : List Cell) → queue_in site place ≡ cell ∷ cells → (other : Place) (c : Cell) → Contains (queue_in (with_queue_in site place cells) other) c → Contains (queue_in site other) c
fewer_in site (Down node) cell cells e (Down m) c has = behind_front cell cells site.controller.queue c e has
fewer_in site (Down node) cell cells e (Up m) c has = has
fewer_in site (Down node) cell cells e (Out m port) c has = has
fewer_in site (Up node) cell cells e (Down m) c has = has
fewer_in site (Up node) cell cells e (Up m) c has = elim (in_set site.switch.crossbar.queues 0 0 cells c has) [ inl was ↦ was | inr now ↦ behind_front cell cells (queue_of site.switch.crossbar control_port) c e now.1 ]
fewer_in site (Up node) cell cells e (Out m port) c has = elim (in_set site.switch.crossbar.queues 0 port.0 cells c has) [
  | inl was ↦ was
  | inr now ↦ subst (λ (k : ℕ). Contains (slice_index_or site.switch.crossbar.queues k []) c) now.0 (behind_front cell cells (queue_of site.switch.crossbar control_port) c e now.1)
]
fewer_in site (Out node port) cell cells e (Down m) c has = has
fewer_in site (Out node port) cell cells e (Up m) c has = elim (in_set site.switch.crossbar.queues port.0 0 cells c has) [
  | inl was ↦ was
  | inr now ↦ subst (λ (k : ℕ). Contains (slice_index_or site.switch.crossbar.queues k []) c) now.0 (behind_front cell cells (queue_of site.switch.crossbar port) c e now.1)
]
fewer_in site (Out node port) cell cells e (Out m other) c has = elim (in_set site.switch.crossbar.queues port.0 other.0 cells c has) [
  | inl was ↦ was
  | inr now ↦ subst (λ (k : ℕ). Contains (slice_index_or site.switch.crossbar.queues k []) c) now.0 (behind_front cell cells (queue_of site.switch.crossbar port) c e now.1)
]

same_node : (site : Site) (place : Place) (cells : List Cell) → (with_queue_in site place cells).controller.node ≡ site.controller.node
same_node site (Down node) cells = refl
same_node site (Up node) cells = refl
same_node site (Out node port) cells = refl

same_linked : (site : Site) (place : Place) (cells : List Cell) (port : PortNo) → linked_at (with_queue_in site place cells).controller port ≡ linked_at site.controller port
same_linked site (Down node) cells port = refl
same_linked site (Up node) cells port = refl
same_linked site (Out node p) cells port = refl

pub popped_less : (w : World) (place : Place) (cell : Cell) (cells : List Cell) (site : Site) → site_at w (place_node place) ≡ Some site → queue_at w place ≡ cell ∷ cells
    → Less w (with_site (put_away w) (with_queue_in site place cells))
popped_less w place cell cells site found queue = record { queues = queues; ends = ends }
  where
    in_site : queue_in site place ≡ cell ∷ cells
    in_site = sym (ap (λ (o : Option Site). option_map_or (λ s. queue_in s place) o []) found) ∙ queue

    queues : (other : Place) (c : Cell) → Contains (queue_at (with_site (put_away w) (with_queue_in site place cells)) other) c → Contains (queue_at w other) c
    queues other c has = queue_then (put_away w) (place_node place) site (with_queue_in site place cells) found (same_node site place cells) (Contains (queue_at w other) c) other c
        (λ n h. subst (λ (m : NodeId). Contains (option_map_or (λ s. queue_in s other) (site_at w m) []) c) (sym n)
        (subst (λ (o : Option Site). Contains (option_map_or (λ s. queue_in s other) o []) c) (sym found) (fewer_in site place cell cells in_site other c h))) (λ h. h) has

    ends : (end : LinkEnd) → linked_end (with_site (put_away w) (with_queue_in site place cells)) end ≡ linked_end w end
    ends end = by (site_then (put_away w) (place_node place) site (with_queue_in site place cells) found (same_node site place cells) end.node)
      where
        by : SiteThen (put_away w) (place_node place) site (with_queue_in site place cells) found (same_node site place cells) end.node → linked_end (with_site (put_away w) (with_queue_in site place cells)) end ≡ linked_end w end
        by (here n is) = ap (λ (o : Option Site). option_and_then (λ (c : Controller). linked_at c end.port) (option_map (λ (s : Site). s.controller) o)) is
            ∙ (same_linked site place cells end.port ∙ sym (ap (λ (o : Option Site). option_and_then (λ (c : Controller). linked_at c end.port) (option_map (λ (s : Site). s.controller) o)) (ap (site_at w) n ∙ found)))
        by (there is) = ap (λ (o : Option Site). option_and_then (λ (c : Controller). linked_at c end.port) (option_map (λ (s : Site). s.controller) o)) is
