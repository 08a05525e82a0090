-- after as many rounds as a world weighs all queues are empty

use Rattle.std.proofs.Common.{◌≡◌, ◌⊎◌, inl, inr, ℕ, zero, suc, ◌≤◌, ◌+◌, Bool, true, false, List, [], ◌∷◌, ◌++◌, length, Some, refl, sym, ◌∙◌, ap, subst, arith, if◌then◌else◌, map, append_assoc, append-nil}
use Rattle.std.specs.Prelude.{◌==◌, ◌&&◌, nat_eq, slice_index_or}
use Rattle.std.specs.List.{repeat, list_all}
use Rattle.std.specs.Option.{option_map_or}
use Rattle.world_model.specs.Words.{NodeId, Place, Down, Up, Out, Cell, at, Policy, Topology, World, Site, site_key, place_node, queue_in, queue_at, places, put_away, round, carries_head, Past, past_of, frames_of, last_bound, is_empty}
use Rattle.law_packet_worlds.specs.ordered_lists.Ordered.{Every}
use Rattle.world_model.specs.network_model.declared.event.Event.{Event}
use Rattle.world_model.specs.network_model.declared.event.Event.TheVariants.{Carry}
use Rattle.law_packet_worlds.proofs.law_run_facts.Steps.{events_are_steps}
use Rattle.law_switch_weights.specs.claims_model.Costs.{total_weight}
use Rattle.law_switch_weights.specs.claims_model.Weights.{stage, cell_weight, port_place, queues_weight, site_weight, weight}
use Rattle.law_switch_weights.specs.claims_model.Quiet.{found, finds, WeighsLess}
use Rattle.law_quiet_rounds.proofs.Sites.{one_found}

-- *A cell weighs 1 at least*
stage_some : (place : Place) → 1 ≤ stage place
stage_some (Down node) = omega arith
stage_some (Up node) = omega arith
stage_some (Out node port) = omega arith

module _ (h : Place → Cell → ℕ) (some : (place : Place) (cell : Cell) → 1 ≤ h place cell) where
  total_ones : (place : Place) (cells : List Cell) → length cells ≤ total_weight (h place) cells
  total_ones place [] = omega arith
  total_ones place (cell ∷ cells) = omega (arith, some place cell, total_ones place cells)

  queue_ones : (node : NodeId) (first port : ℕ) (queues : List (List Cell)) → length (slice_index_or queues port []) ≤ queues_weight h node first queues
  queue_ones node first port [] = omega arith
  queue_ones node first zero (q ∷ queues) = omega (arith, total_ones (port_place node first) q)
  queue_ones node first (suc port) (q ∷ queues) = omega (arith, queue_ones node (suc first) port queues)

  site_ones : (site : Site) (place : Place) → length (queue_in site place) ≤ site_weight h site
  site_ones site (Down node) = omega (arith, total_ones (Down site.controller.node) site.controller.queue)
  site_ones site (Up node) = omega (arith, queue_ones site.controller.node 0 0 site.switch.crossbar.queues)
  site_ones site (Out node port) = omega (arith, queue_ones site.controller.node 0 port.0 site.switch.crossbar.queues)

  found_ones : (k : ℕ) (sites : List Site) (place : Place) → length (option_map_or (λ (s : Site). queue_in s place) (at site_key k sites) []) ≤ total_weight (site_weight h) sites
  found_ones k [] place = omega arith
  found_ones k (site ∷ sites) place = by (nat_eq (site_key site) k) (found_ones k sites place)
    where
      by : (b : Bool) → length (option_map_or (λ (s : Site). queue_in s place) (at site_key k sites) []) ≤ total_weight (site_weight h) sites
          → length (option_map_or (λ (s : Site). queue_in s place) (if b then Some site else at site_key k sites) []) ≤ site_weight h site + total_weight (site_weight h) sites
      by true later = omega (arith, site_ones site place)
      by false later = omega (arith, later)

-- the queue of a place among these nodes
abbrev among : List Site → Place → List Cell
among sites place = option_map_or (λ (s : Site). queue_in s place) (at site_key (place_node place).0 sites) []

abbrev AreEmpty : List Site → List Place → Type 0
AreEmpty sites ps = Every (λ (p : Place). among sites p ≡ []) ps

none_left : (cells : List Cell) → length cells ≤ 0 → cells ≡ []
none_left [] le = refl
none_left (cell ∷ cells) le = absurd (omega (arith, le))

light_empty : (past : Past) (ps : List Place) → weight past ≤ 0 → AreEmpty past.now.sites ps
light_empty past [] le = tt
light_empty past (p ∷ ps) le = (none_left (among past.now.sites p) (let h = found_ones (cell_weight past.topology (frames_of past) (last_bound past.records)) (λ place cell. omega (arith, stage_some place)) (place_node p).0 past.now.sites p in omega (arith, h, le)), light_empty past ps le)

all_empty : (w : World) (ps : List Place) → AreEmpty w.sites ps → list_all (λ place. length (queue_at w place) == 0) ps ≡ true
all_empty w [] e = refl
all_empty w (p ∷ ps) e = (let one : (length (queue_at w p) == 0) ≡ true = ap (λ (cells : List Cell). length cells == 0) e.0 in
    ap (λ (b : Bool). b && list_all (λ place. length (queue_at w place) == 0) ps) one ∙ all_empty w ps e.1)

module _ (policy : Policy) (topology : Topology) where
  abbrev now : List Event → World
  now before = (past_of policy topology before).now

  -- the carry of an empty queue leaves all cells where they are
  stays : (before : List Event) (place : Place) → queue_at (now before) place ≡ [] → (now (before ++ Carry place ∷ [])).sites ≡ (now before).sites
  stays before place e = ap (λ (x : World). x.sites) (events_are_steps policy topology before (Carry place)).now
      ∙ ap (λ (cells : List Cell). (carries_head topology (put_away (now before)) place cells).sites) e

  joined : (before : List Event) (p : Place) (rest : List Event) → before ++ Carry p ∷ rest ≡ (before ++ Carry p ∷ []) ++ rest
  joined before p rest = sym (append_assoc before (Carry p ∷ []) rest)

  module _ (events : List Event) (less : (front rest : List Event) (place : Place) → events ≡ front ++ Carry place ∷ rest → WeighsLess policy topology front place) where
    -- *A round* makes the world lighter, or finds all queues empty and leaves them so
    record Rounded (before after : List Event) (ps : List Place) : Type 0 where
      light : weight (past_of policy topology after) ≤ weight (past_of policy topology before)
      fell : (weight (past_of policy topology after) + 1 ≤ weight (past_of policy topology before)) ⊎ (((now after).sites ≡ (now before).sites) × AreEmpty (now before).sites ps)

    rounded : (ps : List Place) (before rest : List Event) → events ≡ before ++ (map Carry ps ++ rest) → Rounded before (before ++ map Carry ps) ps
    rounded [] before rest e = (let same : before ++ [] ≡ before = append-nil before in
        record { light = (let h = ap (λ (es : List Event). weight (past_of policy topology es)) same in omega (arith, h)); fell = inr (ap (λ (es : List Event). (now es).sites) same, tt) })
    rounded (p ∷ ps) before rest e = by (queue_at (now before) p) refl (rounded ps (before ++ Carry p ∷ []) rest (e ∙ joined before p (map Carry ps ++ rest)))
      where
        one : WeighsLess policy topology before p
        one = less before (map Carry ps ++ rest) p e

        same : weight (past_of policy topology (before ++ Carry p ∷ map Carry ps)) ≡ weight (past_of policy topology ((before ++ Carry p ∷ []) ++ map Carry ps))
        same = ap (λ (es : List Event). weight (past_of policy topology es)) (joined before p (map Carry ps))

        empties : (sites : List Site) (qs : List Place) → (now (before ++ Carry p ∷ [])).sites ≡ sites → AreEmpty (now (before ++ Carry p ∷ [])).sites qs → AreEmpty sites qs
        empties sites qs eq h = subst (λ (ss : List Site). AreEmpty ss qs) eq h

        by : (cells : List Cell) → queue_at (now before) p ≡ cells → Rounded (before ++ Carry p ∷ []) ((before ++ Carry p ∷ []) ++ map Carry ps) ps → Rounded before (before ++ Carry p ∷ map Carry ps) (p ∷ ps)
        by (cell ∷ cells) q later = (let light = later.light in let f : found (now before) p ≡ 1 = ap {B = ℕ} (λ (cs : List Cell). if length cs == 0 then 0 else 1) q ∙ one_found cell cells in
            record { light = omega (arith, same, light, one, f); fell = inl (omega (arith, same, light, one, f)) })
        by [] q later = (let light = later.light in record {
          light = omega (arith, same, light, one);
          fell = elim later.fell [
            | inl h ↦ inl (omega (arith, same, h, one))
            | inr h ↦ inr (ap (λ (es : List Event). (now es).sites) (joined before p (map Carry ps)) ∙ h.0 ∙ stays before p q, (q, empties (now before).sites ps (stays before p q) h.1))
          ];
        })

    -- once empty, they stay so
    still_empty : (ps : List Place) (before : List Event) → AreEmpty (now before).sites ps → (now (before ++ map Carry ps)).sites ≡ (now before).sites
    still_empty [] before e = ap (λ (es : List Event). (now es).sites) (append-nil before)
    still_empty (p ∷ ps) before e =
        let stay : (now (before ++ Carry p ∷ [])).sites ≡ (now before).sites = stays before p e.0 in
        ap (λ (es : List Event). (now es).sites) (joined before p (map Carry ps)) ∙ still_empty ps (before ++ Carry p ∷ []) (subst (λ (ss : List Site). AreEmpty ss ps) (sym stay) e.1) ∙ stay

    rounds_empty : (ps : List Place) (count : ℕ) (before : List Event) → AreEmpty (now before).sites ps → AreEmpty (now (before ++ repeat count (map Carry ps))).sites ps
    rounds_empty ps zero before e = subst (λ (es : List Event). AreEmpty (now es).sites ps) (sym (append-nil before)) e
    rounds_empty ps (suc count) before e = subst (λ (es : List Event). AreEmpty (now es).sites ps) (append_assoc before (map Carry ps) (repeat count (map Carry ps)))
        (rounds_empty ps count (before ++ map Carry ps) (subst (λ (ss : List Site). AreEmpty ss ps) (sym (still_empty ps before e)) e))

    -- *So many rounds* make the world lighter by as many, or all queues are empty after them
    fallen : (ps : List Place) (count : ℕ) (before : List Event) → events ≡ before ++ repeat count (map Carry ps)
        → (weight (past_of policy topology (before ++ repeat count (map Carry ps))) + count ≤ weight (past_of policy topology before)) ⊎ AreEmpty (now (before ++ repeat count (map Carry ps))).sites ps
    fallen ps zero before e = inl (let same = ap (λ (es : List Event). weight (past_of policy topology es)) (append-nil before) in omega (arith, same))
    fallen ps (suc count) before e = by r.fell (fallen ps count (before ++ map Carry ps) again)
      where
        rest : List Event
        rest = repeat count (map Carry ps)

        r : Rounded before (before ++ map Carry ps) ps
        r = rounded ps before rest e

        whole : (before ++ map Carry ps) ++ rest ≡ before ++ repeat (suc count) (map Carry ps)
        whole = append_assoc before (map Carry ps) rest

        again : events ≡ (before ++ map Carry ps) ++ rest
        again = e ∙ sym whole

        by : (weight (past_of policy topology (before ++ map Carry ps)) + 1 ≤ weight (past_of policy topology before)) ⊎ (((now (before ++ map Carry ps)).sites ≡ (now before).sites) × AreEmpty (now before).sites ps)
            → (weight (past_of policy topology ((before ++ map Carry ps) ++ rest)) + count ≤ weight (past_of policy topology (before ++ map Carry ps))) ⊎ AreEmpty (now ((before ++ map Carry ps) ++ rest)).sites ps
            → (weight (past_of policy topology (before ++ repeat (suc count) (map Carry ps))) + suc count ≤ weight (past_of policy topology before)) ⊎ AreEmpty (now (before ++ repeat (suc count) (map Carry ps))).sites ps
        by (inl h) (inl later) = inl (let same = ap (λ (es : List Event). weight (past_of policy topology es)) whole in omega (arith, h, later, same))
        by (inl h) (inr empty) = inr (subst (λ (es : List Event). AreEmpty (now es).sites ps) whole empty)
        by (inr h) later = inr (subst (λ (es : List Event). AreEmpty (now es).sites ps) whole
            (rounds_empty ps count (before ++ map Carry ps) (subst (λ (ss : List Site). AreEmpty ss ps) (sym h.0) h.1)))

    abbrev Empties : List Event → Type 0
    Empties es = AreEmpty (now es).sites (places (now events))

    empties : (es : List Event) → es ≡ events → Empties es → is_empty (now events) ≡ true
    empties es same empty = all_empty (now events) (places (now events)) (subst Empties same empty)

    pub rounds_are_lighter : (before : List Event) (count : ℕ) → events ≡ before ++ repeat count (round (now events)) → is_empty (now events) ≡ false
        → weight (past_of policy topology events) + count ≤ weight (past_of policy topology before)
    rounds_are_lighter before count e some = elim (fallen (places (now events)) count before e) [
      | inl h ↦ (let same = ap (λ (es : List Event). weight (past_of policy topology es)) e in omega (arith, h, same))
      | inr h ↦ absurd (let all : is_empty (now events) ≡ true = empties (before ++ repeat count (round (now events))) (sym e) h in cc)
    ]

    pub rounds_are_quiet : (before : List Event) (count : ℕ) → events ≡ before ++ repeat count (round (now events)) → weight (past_of policy topology before) ≤ count → is_empty (now events) ≡ true
    rounds_are_quiet before count e le = empties (before ++ repeat count (round (now events))) (sym e) (elim (fallen (places (now events)) count before e) [
      | inl h ↦ light_empty (past_of policy topology (before ++ repeat count (round (now events)))) (places (now events)) (omega (arith, h, le))
      | inr h ↦ h
    ])

    -- *Carries one after another*
    pub found_all : (ps : List Place) (before : List Event) → events ≡ before ++ map Carry ps
        → weight (past_of policy topology (before ++ map Carry ps)) + finds policy topology before ps ≤ weight (past_of policy topology before)
    found_all [] before e = (let same = ap (λ (es : List Event). weight (past_of policy topology es)) (append-nil before) in omega (arith, same))
    found_all (p ∷ ps) before e =
        let one : WeighsLess policy topology before p = less before (map Carry ps) p e in
        let later = found_all ps (before ++ Carry p ∷ []) (e ∙ joined before p (map Carry ps)) in
        let same = ap (λ (es : List Event). weight (past_of policy topology es)) (joined before p (map Carry ps)) in
        omega (arith, one, later, same)
