-- the cells of a port's queue among those that stand in the queues of a network

use Rattle.std.proofs.Common.{◌≡◌, ◌≢◌, ◌⊎◌, inl, inr, ℕ, suc, ◌+◌, ◌<◌, ◌≤◌, ◌==◌, ◌&&◌, ◌||◌, Bool, true, false, List, [], ◌∷◌, ◌++◌, length, map, flat_map, slice_index, Some, refl, sym, ◌∙◌, ap, ap₂, subst, arith, append_assoc, append-nil, eqb-true, if◌then◌else◌}
use Rattle.std.specs.List.{list_any}
use Rattle.std.specs.List.Sorted.{IsStrictlyIncreasing}
use Rattle.std.proofs.lemmas.Bool.{and_parts, and_from}
use Rattle.std.proofs.lemmas.Bool.Decides.{nat_tests}
use Rattle.std.proofs.lemmas.List.Concat.{flat_map-cons}
use Rattle.std.proofs.lemmas.Grind.{flat_map-append}
use Rattle.world_model.specs.Words.{NodeId, PortNo, Place, Down, Up, Out, Cell, at, ArePorts, same_queue, places_of, places, AreShaped, IsShaped, IsPlaceOf, IsPlaceIn, same_link_end, World, Site, site_key}
use Rattle.law_run_facts.proofs.law_port_facts.Keyed.{by_eq}
use Rattle.world_model.specs.network_model.declared.link.LinkEnd.{LinkEnd}
use Rattle.world_model.specs.Controller.{ports_of}
use Rattle.law_passing.specs.telling_model.declared.standing.Standing.{Standing}
use Rattle.law_passing.specs.telling_model.Passing.{standing}
use Rattle.tell_trace.specs.Trace.{port_end}
use Rattle.law_trace_truth.proofs.Ends.{ends_are}
use Rattle.law_trace_truth.proofs.Knows.{on_end, all_on}

-- ports ascend from above a number
abbrev Climbs : ℕ → List PortNo → Type 0
Climbs below [] = Unit {0}
Climbs below (port ∷ ports) = (below < port.0) × Climbs port.0 ports

climbs : (below : ℕ) (ports : List PortNo) → IsStrictlyIncreasing (map (λ (p : PortNo). p.0) ports)
    → (0 < length ports → below < slice_index (map (λ (p : PortNo). p.0) ports) 0) → Climbs below ports
climbs below [] rises first = tt
climbs below (port ∷ ports) rises first =
    (first (omega arith), climbs port.0 ports shifted (λ some. rises 0 (second ports some)))
  where
    second : (ports : List PortNo) → 0 < length ports → 0 + 1 < length (map (λ (p : PortNo). p.0) (port ∷ ports))
    second [] some = absurd (omega (arith, some))
    second (next ∷ ports) some = omega arith

    shifted : IsStrictlyIncreasing (map (λ (p : PortNo). p.0) ports)
    shifted k low =
        let up : suc k + 1 ≡ suc (k + 1) = omega arith in
        subst (λ j. slice_index (map (λ (p : PortNo). p.0) ports) k < slice_index (map (λ (p : PortNo). p.0) (port ∷ ports)) j) up
        (rises (suc k) (omega (arith, low)))

first_port : (ports : List PortNo) → ArePorts ports → 0 < length ports → 0 < slice_index (map (λ (p : PortNo). p.0) ports) 0
first_port [] p some = absurd (omega (arith, some))
first_port (port ∷ ports) p some = (p.of_links 0 port (omega arith)).0

-- *Joined lists*
pub all_join : (end : LinkEnd) (xs ys : List Standing) → all_on end (xs ++ ys) ≡ all_on end xs ++ all_on end ys
all_join end [] ys = refl
all_join end (s ∷ xs) ys = ap (λ l. on_end end s.place s.cell ++ l) (all_join end xs ys) ∙ sym (append_assoc (on_end end s.place s.cell) (all_on end xs) (all_on end ys))

module _ (end : LinkEnd) (f : Place → List Cell) where
  is_out : Place → Bool
  is_out (Out node port) = same_link_end (port_end node port) end
  is_out place = false

  on_place : (place : Place) (cells : List Cell) → all_on end (map (standing place) cells) ≡ (if is_out place then cells else [])
  unfolding is_out
  on_place (Down node) [] = refl
  on_place (Down node) (cell ∷ cells) = on_place (Down node) cells
  on_place (Up node) [] = refl
  on_place (Up node) (cell ∷ cells) = on_place (Up node) cells
  on_place (Out node port) [] = none (same_link_end (port_end node port) end)
    where
      none : (b : Bool) → ◌≡◌ {A = List Cell} [] (if b then [] else [])
      none true = refl
      none false = refl
  on_place (Out node port) (cell ∷ cells) = ap (λ l. (if same_link_end (port_end node port) end then cell ∷ [] else []) ++ l) (on_place (Out node port) cells) ∙ one (same_link_end (port_end node port) end)
    where
      one : (b : Bool) → (if b then cell ∷ [] else []) ++ (if b then cells else []) ≡ (if b then cell ∷ cells else [])
      one true = refl
      one false = refl

  mine : List Place → List Cell
  mine ps = all_on end (flat_map (λ place. map (standing place) (f place)) ps)

  mine_more : (place : Place) (ps : List Place) → mine (place ∷ ps) ≡ (if is_out place then f place else []) ++ mine ps
  unfolding mine
  mine_more place ps =
      ap (all_on end) (flat_map-cons (λ place. map (standing place) (f place)) place ps)
      ∙ all_join end (map (standing place) (f place)) (flat_map (λ place. map (standing place) (f place)) ps)
      ∙ ap (λ l. l ++ all_on end (flat_map (λ place. map (standing place) (f place)) ps)) (on_place place (f place))

  mine_off : (place : Place) (ps : List Place) → is_out place ≡ false → mine (place ∷ ps) ≡ mine ps
  mine_off place ps off = mine_more place ps ∙ ap (λ (b : Bool). (if b then f place else []) ++ mine ps) off

  mine_join : (ps qs : List Place) → mine (ps ++ qs) ≡ mine ps ++ mine qs
  unfolding mine
  mine_join ps qs = ap (all_on end) (flat_map-append (λ place. map (standing place) (f place)) ps qs)
      ∙ all_join end (flat_map (λ place. map (standing place) (f place)) ps) (flat_map (λ place. map (standing place) (f place)) qs)

  apart : (node : NodeId) (port : PortNo) → (node.0 ≢ end.node.0) ⊎ (port.0 ≢ end.port.0) → same_link_end (port_end node port) end ≡ false
  apart node port (inl away) = by (same_link_end (port_end node port) end) refl
    where
      by : (b : Bool) → same_link_end (port_end node port) end ≡ b → b ≡ false
      by false e = refl
      by true e = absurd (away (eqb-true node.0 end.node.0 (and_parts (node.0 == end.node.0) (port.0 == end.port.0) e).0))
  apart node port (inr away) = by (same_link_end (port_end node port) end) refl
    where
      by : (b : Bool) → same_link_end (port_end node port) end ≡ b → b ≡ false
      by false e = refl
      by true e = absurd (away (eqb-true port.0 end.port.0 (and_parts (node.0 == end.node.0) (port.0 == end.port.0) e).1))

  abbrev outs : NodeId → List PortNo → List Place
  outs node ports = map (λ port. Out node port) ports

  mine_none : mine [] ≡ []
  unfolding mine
  mine_none = refl

  outs_away : (node : NodeId) (ports : List PortNo) → node.0 ≢ end.node.0 → mine (outs node ports) ≡ []
  unfolding is_out
  outs_away node [] away = mine_none
  outs_away node (port ∷ ports) away = mine_off (Out node port) (outs node ports) (apart node port (inl away)) ∙ outs_away node ports away

  outs_above : (node : NodeId) (below : ℕ) (ports : List PortNo) → Climbs below ports → end.port.0 ≤ below → mine (outs node ports) ≡ []
  unfolding is_out
  outs_above node below [] c low = mine_none
  outs_above node below (port ∷ ports) c low =
      mine_off (Out node port) (outs node ports) (apart node port (inr (λ e. omega (arith, e, c.0, low)))) ∙ outs_above node port.0 ports c.1 (omega (arith, c.0, low))

  abbrev own_place : Place
  own_place = Out end.node end.port

  outs_once : (node : NodeId) (below : ℕ) (ports : List PortNo) → Climbs below ports → list_any (same_queue own_place) (outs node ports) ≡ true → mine (outs node ports) ≡ f own_place
  unfolding is_out
  outs_once node below [] c any = absurd (cc any)
  outs_once node below (port ∷ ports) c any = by (same_link_end (port_end node port) end) refl (outs_once node port.0 ports c.1)
    where
      later : (b : Bool) → b ≡ false → b || list_any (same_queue own_place) (outs node ports) ≡ true → list_any (same_queue own_place) (outs node ports) ≡ true
      later true e a = absurd (cc e)
      later false e a = a

      other : (b : Bool) → same_queue own_place (Out node port) ≡ b → same_link_end (port_end node port) end ≡ false → b ≡ false
      other false e off = refl
      other true e off =
          let parts = and_parts (end.node.0 == node.0) (suc end.port.0 == suc port.0) e in
          let n : node.0 ≡ end.node.0 = sym (eqb-true end.node.0 node.0 parts.0) in
          let p : suc end.port.0 ≡ suc port.0 = eqb-true (suc end.port.0) (suc port.0) parts.1 in
          let q : port.0 ≡ end.port.0 = omega (arith, p) in
          let on : same_link_end (port_end node port) end ≡ same_link_end end end = λ i. (n i == end.node.0) && (q i == end.port.0) in
          absurd (cc (sym off ∙ (on ∙ itself)))
        where
          itself : same_link_end end end ≡ true
          itself = and_from (end.node.0 == end.node.0) (end.port.0 == end.port.0) (same end.node.0) (same end.port.0)
            where
              same : (n : ℕ) → (n == n) ≡ true
              same n = grind (arith, nat_tests)

      by : (b : Bool) → same_link_end (port_end node port) end ≡ b → (list_any (same_queue own_place) (outs node ports) ≡ true → mine (outs node ports) ≡ f own_place) → mine (outs node (port ∷ ports)) ≡ f own_place
      by true e rest =
          let here : port_end node port ≡ end = ends_are (port_end node port) end e in
          mine_more (Out node port) (outs node ports)
          ∙ ap (λ (b : Bool). (if b then f (Out node port) else []) ++ mine (outs node ports)) e
          ∙ ap (λ l. f (Out node port) ++ l) (outs_above node port.0 ports c.1 (low (ap (λ (x : LinkEnd). x.port.0) here)))
          ∙ append-nil (f (Out node port))
          ∙ ap (λ (x : LinkEnd). f (Out x.node x.port)) here
        where
          low : port.0 ≡ end.port.0 → end.port.0 ≤ port.0
          low e = omega (arith, e)
      by false e rest = mine_off (Out node port) (outs node ports) e
          ∙ rest (later (same_queue own_place (Out node port)) (other (same_queue own_place (Out node port)) refl e) any)

  -- *Of a site*, and of all
  site_is : (site : Site) → mine (places_of site) ≡ mine (outs site.controller.node (ports_of site.controller))
  unfolding is_out
  site_is site = mine_off (Down site.controller.node) (Up site.controller.node ∷ outs site.controller.node (ports_of site.controller)) refl
      ∙ mine_off (Up site.controller.node) (outs site.controller.node (ports_of site.controller)) refl

  sites_later : (number : ℕ) (sites : List Site) → AreShaped number sites → end.node.0 < number → mine (flat_map places_of sites) ≡ []
  sites_later number [] s low = mine_none
  sites_later number (site ∷ sites) s low =
      ap mine (flat_map-cons places_of site sites) ∙ mine_join (places_of site) (flat_map places_of sites)
      ∙ ap₂ (λ (a b : List Cell). a ++ b) (site_is site ∙ outs_away site.controller.node (ports_of site.controller) (λ e. omega (arith, e, s.0.node, low)))
      (sites_later (suc number) sites s.1 (omega (arith, low)))

  up_to_outs : (site : Site) → 1 ≤ end.port.0 → list_any (same_queue own_place) (places_of site) ≡ true → list_any (same_queue own_place) (outs site.controller.node (ports_of site.controller)) ≡ true
  up_to_outs site some any = skip (same_queue own_place (Up site.controller.node)) (number_apart 1 (λ n. absurd (omega (arith, n, some))) (suc end.port.0 == 1) refl)
      (skip (same_queue own_place (Down site.controller.node)) (number_apart 0 (λ n. absurd (omega (arith, n))) (suc end.port.0 == 0) refl) any)
    where
      skip : {rest : Bool} (b : Bool) → b ≡ false → b || rest ≡ true → rest ≡ true
      skip true e a = absurd (cc e)
      skip false e a = a

      ends_false : (b : Bool) → b && false ≡ false
      ends_false true = refl
      ends_false false = refl

      number_apart : (k : ℕ) → (suc end.port.0 ≡ k → ⊥) → (b : Bool) → (suc end.port.0 == k) ≡ b → (end.node.0 == site.controller.node.0) && b ≡ false
      number_apart k away false e = ends_false (end.node.0 == site.controller.node.0)
      number_apart k away true e = absurd (away (eqb-true (suc end.port.0) k e))

  sites_once : (number : ℕ) (sites : List Site) → 1 ≤ end.port.0 → AreShaped number sites → IsPlaceOf own_place (at site_key end.node.0 sites) → mine (flat_map places_of sites) ≡ f own_place
  sites_once number [] some s is = absurd is
  sites_once number (site ∷ sites) some s is =
      ap mine (flat_map-cons places_of site sites) ∙ mine_join (places_of site) (flat_map places_of sites)
      ∙ by_eq site.controller.node.0 end.node.0
      (λ here t. (
      let any : list_any (same_queue own_place) (places_of site) ≡ true =
      subst (λ (b : Bool). IsPlaceOf own_place (if b then Some site else at site_key end.node.0 sites)) t is in
      ap₂ (λ (a b : List Cell). a ++ b)
      (site_is site ∙ outs_once site.controller.node 0 (ports_of site.controller) (climbs 0 (ports_of site.controller) s.0.ports.ascending (first_port (ports_of site.controller) s.0.ports)) (up_to_outs site some any))
      (sites_later (suc number) sites s.1 (omega (arith, here, s.0.node)))
      ∙ append-nil (f own_place)))
      (λ away t. (
      let later : IsPlaceOf own_place (at site_key end.node.0 sites) =
      subst (λ (b : Bool). IsPlaceOf own_place (if b then Some site else at site_key end.node.0 sites)) t is in
      ap (λ l. l ++ mine (flat_map places_of sites)) (site_is site ∙ outs_away site.controller.node (ports_of site.controller) away)
      ∙ sites_once (suc number) sites some s.1 later))

  -- a port's queue is one of the network, once
  pub placed_once : (w : World) → 1 ≤ end.port.0 → IsShaped w → IsPlaceIn w own_place → all_on end (flat_map (λ place. map (standing place) (f place)) (places w)) ≡ f own_place
  unfolding mine
  placed_once w some shaped is = sites_once 1 w.sites some shaped is
